-- `sets::settle` meets its contract: one byte more is taken back at each turn.
use mathlib.Core.Path.{◌≡◌}
use lib.ListN.{length}
use Rattle.sets.proofs.Nodes.{Settled}
use Rattle.sets.proofs.settle.Given as goal

abbrev pub invariant-loop-x : goal.invariant-loop-x
invariant-loop-x l = record { size : length l.x-items ≡ length l.fn.w; back : Settled l.fn.w l.x-items l.x-index }
