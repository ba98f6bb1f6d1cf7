-- `closing::lower_closed` meets its contract: every pick of value and Lower.
use mathlib.Core.Path.{◌∙◌, ap}
use Rattle.meaning.specs.Sets.{node_sets, sat}
use Rattle.std.proofs.Common.{rules}
use Rattle.meaning.specs.Rules.{broken11}
use Rattle.closing.proofs.Laws.{closes11}
use Rattle.closing.proofs.lower_closed.Goals as goal

pub returns-clause-closed : goal.returns-clause-closed
returns-clause-closed c =
    let m = c.args.path.now.m.now in
    let ys = c.args.path.now.ys.now in
    let low = c.lower-low.ensures in
    closes11 m ys (node_sets m ys) c.args.s (c.at-value.ensures ∙ ap (λ zs. sat zs c.args.s) low.stays.symbols) low.set (c.every_pick.ensures (λ v p d l. broken11 v l) (λ v p d l r lv lp ld ll e. search rules))
