-- `closing::default_closed` meets its contract: every pick of value, prompt, Default and Lower.
use mathlib.Core.Path.{◌∙◌, ap}
use Rattle.meaning.specs.Sets.{node_sets, sat}
use Rattle.std.proofs.Common.{rules}
use Rattle.meaning.specs.Rules.{broken13}
use Rattle.closing.proofs.Laws.{closes13}
use Rattle.closing.proofs.default_closed.Goals as goal

pub returns-clause-closed : goal.returns-clause-closed
returns-clause-closed c =
    let m = c.args.path.now.m.now in
    let ys = c.args.path.now.ys.now in
    let ss = node_sets m ys in
    let prompt = c.node-prompt.ensures in
    let default = c.default_of-default.ensures in
    let low = c.lower-low.ensures in
    closes13 m ys ss c.args.s
    (c.at-value.ensures ∙ ap (λ zs. sat zs c.args.s) (low.stays.symbols ∙ default.stays.symbols ∙ prompt.stays.symbols))
    (rw (default.stays.book, default.stays.symbols, prompt.stays.book, prompt.stays.symbols) at low.set)
    (prompt.set ∙ ap (sat ss) c.prompt_of.ensures.0)
    (rw (prompt.stays.book, prompt.stays.symbols) at default.set)
    (c.every_pick.ensures broken13 (λ v p d l r lv lp ld ll e. search rules))
