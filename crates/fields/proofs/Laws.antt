-- A record takes at most 8 bytes, by a test over the table of widths; a part is no longer than asked for. Assumes nothing.
use Prim.Native.Nat.{ℕ, zero, suc, ◌<◌, ◌≤◌}
use mathlib.Core.List.{List, [], ◌∷◌}
use mathlib.Core.Path.{◌≡◌, refl}
use mathlib.Core.Bool.{Bool, true, false, ◌&&◌, false≢true}
use native.Mathlib.Omega.{arith}
use lib.Dec.{ltb}
use lib.ListN.{get_or, length, drop, length-take}
use borrow.Author.Tests.{ltb-true}
use Rattle.meaning.specs.Base.{part}
use Rattle.meaning.specs.Book.{width}

-- each number of a list is below b
abbrev all_small : ℕ → List ℕ → Bool
all_small b [] = true
all_small b (x ∷ l) = ltb x b && all_small b l

small_at : (b : ℕ) (l : List ℕ) → 0 < b → all_small b l ≡ true → (i : ℕ) → get_or l i 0 < b
small_at b [] h e i = h
small_at b (x ∷ l) h e i = by (ltb x b) refl e (small_at b l h) i
  where
    by : (q : Bool) → ltb x b ≡ q → q && all_small b l ≡ true → (all_small b l ≡ true → (j : ℕ) → get_or l j 0 < b) → (i : ℕ) → get_or (x ∷ l) i 0 < b
    by true q f rest zero = ltb-true x b q
    by true q f rest (suc i) = rest f i
    by false q f rest i = absurd (false≢true f)

pub width_small : (k : ℕ) → width k < 9
width_small k = small_at 9 (0 ∷ 8 ∷ 6 ∷ 6 ∷ 6 ∷ 8 ∷ 8 ∷ 2 ∷ 1 ∷ []) (omega arith) refl k

pub part_small : (m : List ℕ) (at n : ℕ) → length (part m at n) ≤ n
unfolding part
part_small m at n = omega (arith, length-take n (drop at m))
