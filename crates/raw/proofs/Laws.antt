-- What the loops and early returns of this crate show: halves and words past an end, parts, and texts compared byte by byte. Assumes nothing.
use mathlib.Core.Path.{◌≡◌, refl}
use mathlib.Core.Logic.{⊎_elim}
use mathlib.Core.List.{List, [], ◌∷◌}
use Prim.Native.Nat.{ℕ, ◌+◌, ◌-◌, ◌≤◌}
use Rattle.std.specs.Prelude.{min}
use native.Mathlib.Omega.{arith}
use lib.Dec.{eqb}
use lib.Pointwise.{pointwise}
use lib.ListN.{length, get_or, take, drop, get_or-eq_default, length-drop, drop_of_length-le}
use lib.Seq.{take_all, take-nil}
use Rattle.std.proofs.lemmas.Bool.{cases_lt}
use Rattle.std.proofs.lemmas.List.{take_min}
use Rattle.meaning.specs.Base.{half, word, part, same_text}

-- past the end
pub past : (s : List ℕ) (i : ℕ) → length s ≤ i → get_or s i 0 ≡ 0
past s i h = get_or-eq_default s 0 h

pub half_past : (s : List ℕ) (i : ℕ) → length s ≤ i → half s i ≡ 0
unfolding half
half_past s i h = rw (past s i h, past s (i + 1) (omega arith))

-- one byte is left
pub half_end : (s : List ℕ) (i : ℕ) → length s ≤ i + 1 → half s i ≡ get_or s i 0
unfolding half
half_end s i h = rw (past s (i + 1) h) (omega arith)

pub word_past : (s : List ℕ) (i : ℕ) → length s ≤ i → word s i ≡ 0
unfolding word
word_past s i h = rw (half_past s i h, half_past s (i + 2) (omega arith))

-- all that is left
pub rest_all : (s : List ℕ) (at : ℕ) → take (length s - at) (drop at s) ≡ drop at s
rest_all s at = take_all (length s - at) (drop at s) (omega (arith, length-drop at s))

-- a part lies between two places that are no further than the bytes go
pub part_between : (s : List ℕ) (at n : ℕ) {from end : ℕ} → from ≡ min at (length s) → end ≡ from + min n (length s - from)
    → take (end - from) (drop from s) ≡ part s at n
unfolding part
part_between s at n {from = from} {end = end} ef ee =
    ⊎_elim
    (λ past.
    let f : drop from s ≡ [] = drop_of_length-le s (omega (arith, past, ef)) in
    rw (f, drop_of_length-le s {i = at} (omega (arith, past)), take-nil (end - from), take-nil n))
    (λ inside.
    let f : from ≡ at = omega (arith, inside, ef) in
    let e : end - from ≡ min n (length (drop at s)) = omega (arith, ee, f, length-drop at s) in
    rw (e, f) (take_min n (drop at s)))
    (cases_lt (length s) at)

-- TEXTS. The library's equality of bytes is the definition's
pub same_pointwise : (a b : List ℕ) → pointwise eqb a b ≡ same_text a b
unfolding same_text
same_pointwise [] [] = refl
same_pointwise [] (y ∷ b) = refl
same_pointwise (x ∷ a) [] = refl
same_pointwise (x ∷ a) (y ∷ b) = rw (same_pointwise a b)
