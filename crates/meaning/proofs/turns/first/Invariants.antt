-- `meaning::turns::first` meets its contract: no number before the one looked at passes, so the first that does is the first of all.
use Rattle.std.proofs.Common.{◌≡◌, ◌<◌, ◌≤◌, ℕ, Bool}
use Rattle.meaning.specs.Base.{first_where}
use Rattle.meaning.proofs.turns.first.Given as goal

abbrev pub invariant-loop-i : goal.invariant-loop-i
invariant-loop-i g l =
    (l.i ≤ l.n)
    × ((p : ℕ → Bool) → ((i : ℕ) (r : Bool) → i < l.fn.n → goal.F-post g l.fn.holds i r → r ≡ p i) → first_where p l.i ≡ l.i)
