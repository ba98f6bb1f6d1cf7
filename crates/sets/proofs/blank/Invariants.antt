-- `sets::blank` meets its contract: one node more is laid out at each turn.
use mathlib.Core.Path.{◌≡◌}
use Rattle.meaning.proofs.Folds.{laid}
use Rattle.sets.specs.Work.{blank_at}
use Rattle.sets.proofs.blank.Given as goal

abbrev pub invariant-loop-i : goal.invariant-loop-i
invariant-loop-i l = l.w ≡ laid (blank_at l.m) l.initial.w l.i
