-- `names::fault` meets its contract: what a block answers is the answer if it is a fault, and so is its first name that is not new; the last block ends at the last symbol.
use mathlib.Core.Path.{◌≡◌}
use Rattle.std.specs.Prelude.{min}
use Rattle.meaning.specs.Base.{Clean, first_below}
use Rattle.meaning.specs.Book.{record_at}
use Rattle.names.proofs.fault.Given as goal

abbrev pub invariant-loop-base : goal.invariant-loop-base
invariant-loop-base l = first_below (record_at l.m 1) (min l.base l.n) ≡ Clean
