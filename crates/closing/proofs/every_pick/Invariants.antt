-- `closing::every_pick` meets its contract: each loop has passed every pick so far, and leaves at the first where the test does not hold.
use Rattle.closing.specs.Picks.{TellsPick}
use Rattle.closing.proofs.Laws.{till, on1, on2, on3}
use mathlib.Core.Bool.{Bool, true}
use Prim.Native.Nat.{ℕ}
use mathlib.Core.Path.{◌≡◌}
use Rattle.closing.proofs.every_pick.Given as goal

abbrev pub invariant-loop-l : goal.invariant-loop-l
invariant-loop-l g l = (l.all ≡ true) × ((t : ℕ → ℕ → ℕ → ℕ → Bool) → TellsPick (goal.F-post g l.holds) t → till l.e.bits (t l.v l.p l.d) l.l ≡ true)

abbrev pub invariant-loop-d : goal.invariant-loop-d
invariant-loop-d g l = (l.all ≡ true) × ((t : ℕ → ℕ → ℕ → ℕ → Bool) → TellsPick (goal.F-post g l.holds) t → till l.c.bits (on3 t l.e.bits l.v l.p) l.d ≡ true)

abbrev pub invariant-loop-p : goal.invariant-loop-p
invariant-loop-p g l = (l.all ≡ true) × ((t : ℕ → ℕ → ℕ → ℕ → Bool) → TellsPick (goal.F-post g l.holds) t → till l.b.bits (on2 t l.c.bits l.e.bits l.v) l.p ≡ true)

abbrev pub invariant-picks : goal.invariant-picks
invariant-picks g l = (l.all ≡ true) × ((t : ℕ → ℕ → ℕ → ℕ → Bool) → TellsPick (goal.F-post g l.holds) t → till l.a.bits (on1 t l.b.bits l.c.bits l.e.bits) l.v ≡ true)
