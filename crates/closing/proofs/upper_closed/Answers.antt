-- `closing::upper_closed` meets its contract: every pick of value, prompt and Lower.
use mathlib.Core.Path.{◌∙◌, ap}
use Rattle.meaning.specs.Sets.{node_sets, sat}
use Rattle.std.proofs.Common.{rules}
use Rattle.meaning.specs.Rules.{broken12}
use Rattle.closing.proofs.Laws.{closes12}
use Rattle.closing.proofs.upper_closed.Goals as goal

pub returns-clause-closed : goal.returns-clause-closed
returns-clause-closed c =
    let m = c.args.path.now.m.now in
    let ys = c.args.path.now.ys.now in
    let ss = node_sets m ys in
    let prompt = c.node-prompt.ensures in
    let low = c.lower-low.ensures in
    closes12 m ys ss c.args.s
    (c.at-value.ensures ∙ ap (λ zs. sat zs c.args.s) (low.stays.symbols ∙ prompt.stays.symbols))
    (rw (prompt.stays.book, prompt.stays.symbols) at low.set)
    (prompt.set ∙ ap (sat ss) c.prompt_of.ensures.0)
    (c.every_pick.ensures (λ v p d l. broken12 v p l) (λ v p d l r lv lp ld ll e. search rules))
