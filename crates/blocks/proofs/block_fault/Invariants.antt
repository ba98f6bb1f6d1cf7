-- `blocks::block_fault` meets its contract: each pass has what the records so far come to, and the symbols are then tested in order by what the passes found.
use mathlib.Core.Path.{◌≡◌}
use Prim.Native.Nat.{suc, ◌-◌}
use lib.ListN.{length}
use Rattle.meaning.specs.Base.{Clean}
use Rattle.meaning.specs.Base.{first_below}
use Rattle.meaning.specs.Values.{given, condition_value, lower_step, default_step}
use Rattle.blocks.specs.Rows.{Rows, own_fault}
use Rattle.blocks.proofs.block_fault.Given as goal

abbrev pub invariant-loop-k : goal.invariant-loop-k
invariant-loop-k l = (length l.low ≡ 96) × Rows (lower_step l.x.model.now (given l.x.model.now l.x.table.now l.x.work.now)) l.k l.base l.low

abbrev pub invariant-loop-d : goal.invariant-loop-d
invariant-loop-d l = (length l.first ≡ 96) × Rows (default_step l.x.model.now (condition_value l.x.model.now l.x.work.now) suc) (l.defaults - l.d) l.base l.first

abbrev pub invariant-loop-s : goal.invariant-loop-s
invariant-loop-s l = first_below (own_fault l.x.model.now l.x.table.now l.x.work.now) l.s ≡ Clean
