-- `meaning::turns::count` meets its contract: it counts those so far.
use Rattle.std.proofs.Common.{◌≡◌, ◌<◌, ◌≤◌, ℕ, Bool}
use Rattle.meaning.specs.Base.{count_below}
use Rattle.meaning.proofs.turns.count.Given as goal

abbrev pub invariant-loop-i : goal.invariant-loop-i
invariant-loop-i g l =
    (l.i ≤ l.n) × (l.found ≤ l.i)
    × ((p : ℕ → Bool) → ((i : ℕ) (r : Bool) → i < l.fn.n → goal.F-post g l.fn.holds i r → r ≡ p i) → l.found ≡ count_below p l.i)
