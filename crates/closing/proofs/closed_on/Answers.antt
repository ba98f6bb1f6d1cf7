-- `closing::closed_on` meets its contract: a blank room knows nothing wrong, and is blank again at the end.
use mathlib.Core.Path.{sym, ◌∙◌}
use Rattle.std.proofs.Common.{rules}
use Rattle.meaning.specs.Clearance.{closed_on}
use Rattle.sets.proofs.Nodes.{known_blank, known_settled}
use Rattle.closing.proofs.closed_on.Goals as goal

pub invariant_of-path : goal.invariant_of-path
invariant_of-path c = record { known = known_blank c.args.m.now c.args.ys.now c.requires.2 }

pub returns : goal.returns
unfolding closed_on
returns c = (
  c.closed-all.ensures.closed,
  known_settled c.args.m.now c.args.ys.now (search rules) c.settle.ensures.0 c.settle.ensures.1 ∙ sym c.requires.2,
)
