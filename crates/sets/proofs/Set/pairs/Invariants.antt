-- `sets::Set::pairs` meets its contract: each turn adds what one pair makes.
use Rattle.sets.specs.Work.{Makes}
use Rattle.meaning.specs.Sets.{row}
use Rattle.sets.proofs.Laws.{rows}
use Prim.Native.Nat.{ℕ, ◌<◌}
use mathlib.Core.Path.{◌≡◌}
use Rattle.sets.proofs.Set.pairs.Given as goal

abbrev pub invariant-loop-y : goal.invariant-loop-y
invariant-loop-y g l = ((h : ℕ → ℕ → ℕ) → Makes (goal.F-post g l.f) h → l.out.bits ≡ row h l.x l.other.bits l.initial.out.bits l.y) × (l.out.bits < 8)

abbrev pub invariant-loop-x : goal.invariant-loop-x
invariant-loop-x g l = ((h : ℕ → ℕ → ℕ) → Makes (goal.F-post g l.f) h → l.out.bits ≡ rows h l.self.bits l.other.bits l.x) × (l.out.bits < 8)
