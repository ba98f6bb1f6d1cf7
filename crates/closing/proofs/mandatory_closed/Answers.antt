-- `closing::mandatory_closed` meets its contract: the most that each member may be breaks it, or no pick does.
use mathlib.Core.Path.{◌∙◌, ap}
use Rattle.std.proofs.Common.{rules}
use Rattle.meaning.specs.Sets.{node_sets, sat, most}
use Rattle.closing.proofs.Laws.{closes17}
use Rattle.closing.proofs.mandatory_closed.Goals as goal

pub returns-clause-closed : goal.returns-clause-closed
returns-clause-closed c =
    let m = c.args.path.now.m.now in
    let ys = c.args.path.now.ys.now in
    let ss = node_sets m ys in
    let prompt = c.node-prompt.ensures in
    closes17 m ys ss c.args.c
    (prompt.set ∙ ap (sat ss) c.choice_prompt.ensures.0)
    (rw prompt.stays.symbols at (c.at_least-some.ensures most (λ a r lt e. search rules)))
    c.mandatory_of-mandatory.ensures
    (c.every.ensures _ (λ v r lt e. search rules))
