-- `blocks::own_faults` meets its contract: what a block answers is the answer if it is a fault, and the last block ends at the last symbol.
use Rattle.std.proofs.Common.{◌≡◌, ◌-◌, min}
use Rattle.meaning.specs.Base.{Clean, first_below}
use Rattle.blocks.specs.Rows.{own_fault}
use Rattle.blocks.proofs.own_faults.Given as goal

abbrev pub invariant-loop-base : goal.invariant-loop-base
invariant-loop-base l = first_below (own_fault l.x.model.now l.x.table.now l.x.work.now) (min l.base l.n) ≡ Clean

abbrev pub decreases-loop-base : goal.decreases-loop-base
decreases-loop-base l = l.n - l.base
