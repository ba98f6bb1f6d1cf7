-- `meaning::turns::first_fault_from` meets its contract: no number before the one looked at has a fault, so the first that has one is the first of all.
use Rattle.std.proofs.Common.{◌≡◌, ◌<◌, ◌≤◌, ℕ}
use Rattle.meaning.specs.Base.{Outcome, Clean, first_below}
use Rattle.meaning.proofs.turns.first_fault_from.Given as goal

abbrev pub invariant-loop-i : goal.invariant-loop-i
invariant-loop-i g l =
    (l.from ≤ l.i) × (l.i ≤ l.n) × ((j : ℕ) → l.from ≤ j → j < l.i → goal.F-post g l.fn.fault_at j Clean)
    × ((t : ℕ → Outcome) → first_below t l.from ≡ Clean → ((i : ℕ) (r : Outcome) → l.from ≤ i → i < l.fn.n → goal.F-post g l.fn.fault_at i r → r ≡ t i) → first_below t l.i ≡ Clean)
