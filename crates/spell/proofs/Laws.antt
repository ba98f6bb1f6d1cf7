-- A number spelled from its last digit to its first. Assumes nothing.
use mathlib.Core.Path.{◌≡◌}
use mathlib.Core.List.{List, ◌∷◌}
use Prim.Native.Nat.{ℕ, suc, ◌+◌, ◌-◌, ◌/◌, ◌%◌, ◌≤◌, ◌<◌}
use native.Mathlib.Omega.{arith}
use borrow.Author.Tests.{lt-ltb, le-ltb}
use Rattle.meaning.specs.Spell.{digit, digits}

-- with room for f digits: the last one, one before others, and none
module _ (b f n : ℕ) (o : List ℕ) where
  pub last_digit : 0 < f → n < b → digits b f n o ≡ digit (n % b) ∷ o
  unfolding digits
  last_digit l h = let q : f ≡ suc (f - 1) = omega arith in rw (q, lt-ltb n b h)

  pub next_digit : (k : ℕ) → f ≡ k + 1 → b ≤ n → digits b f n o ≡ digits b k (n / b) (digit (n % b) ∷ o)
  unfolding digits
  next_digit k e h = let q : f ≡ suc k = omega arith in rw (q, le-ltb n b h)

  pub no_digits : f ≡ 0 → digits b f n o ≡ o
  unfolding digits
  no_digits z = rw z
