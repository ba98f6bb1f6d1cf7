-- `closing::every` meets its contract: each turn has passed every pick so far.
use Rattle.closing.specs.Picks.{Tells}
use Rattle.closing.proofs.Laws.{till}
use mathlib.Core.Bool.{Bool, true}
use Prim.Native.Nat.{ℕ}
use mathlib.Core.Path.{◌≡◌}
use Rattle.closing.proofs.every.Given as goal

abbrev pub invariant-values : goal.invariant-values
invariant-values g l = (l.all ≡ true) × ((p : ℕ → Bool) → Tells (goal.F-post g l.holds) p → till l.set.bits p l.v ≡ true)
