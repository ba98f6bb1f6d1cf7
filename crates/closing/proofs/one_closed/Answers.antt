-- `closing::one_closed` meets its contract: the least that each member may be breaks it, or no pick does.
use mathlib.Core.Path.{◌∙◌, ap}
use Rattle.std.proofs.Common.{rules}
use Rattle.meaning.specs.Sets.{node_sets, sat, least}
use Rattle.closing.proofs.Laws.{closes15}
use Rattle.closing.proofs.one_closed.Goals as goal

pub returns-clause-closed : goal.returns-clause-closed
returns-clause-closed c =
    let m = c.args.path.now.m.now in
    let ys = c.args.path.now.ys.now in
    let ss = node_sets m ys in
    let prompt = c.node-prompt.ensures in
    closes15 m ys ss c.args.c
    (prompt.set ∙ ap (sat ss) c.choice_prompt.ensures.0)
    (rw prompt.stays.symbols at (c.at_least-some.ensures least (λ a r lt e. search rules)))
    (rw prompt.stays.symbols at (c.at_least-yes.ensures least (λ a r lt e. search rules)))
    (c.every.ensures _ (λ v r lt e. search rules))
