-- `closing::met` meets its contract: every pick of selector, condition and dependency.
use mathlib.Core.Bool.{not}
use mathlib.Core.Path.{◌∙◌, ap}
use Rattle.meaning.specs.Book.{depend_of}
use Rattle.meaning.specs.Sets.{node_sets, sat}
use Rattle.std.proofs.Common.{rules}
use Rattle.meaning.specs.Rules.{exceeds}
use Rattle.closing.proofs.Laws.{closes20}
use Rattle.closing.proofs.met.Goals as goal

pub returns-clause-closed : goal.returns-clause-closed
returns-clause-closed c =
    let m = c.args.path.now.m.now in
    let ys = c.args.path.now.ys.now in
    let ss = node_sets m ys in
    let condition = c.node-condition.ensures in
    let depend = c.node-depend.ensures in
    closes20 m c.args.q ys ss
    (c.at-selector.ensures ∙ ap (λ zs. sat zs c.selector_of.result) (depend.stays.symbols ∙ condition.stays.symbols) ∙ ap (sat ys) c.selector_of.ensures.0)
    (condition.set ∙ ap (sat ss) c.condition_of.ensures.0)
    ((rw (condition.stays.book, condition.stays.symbols) at depend.set) ∙ ap (sat ss) (c.depend_of.ensures.0 ∙ ap (depend_of m) c.target_of.ensures.0))
    (c.every_pick.ensures (λ a u d l. not (exceeds a u d)) (λ v p d l r lv lp ld ll e. search rules))
