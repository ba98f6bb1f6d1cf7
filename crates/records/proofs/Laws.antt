-- A name by its own bytes and by the book's, and where a choice's members begin, one choice on. Assumes nothing.
use mathlib.Core.Path.{◌≡◌, refl, sym, ◌∙◌, ap}
use mathlib.Core.Bool.{Bool, true, false, ◌&&◌, not}
use mathlib.Core.List.{List}
use Prim.Native.Nat.{ℕ, zero, suc, ◌+◌, ◌-◌, ◌<◌, ◌≤◌}
use native.Mathlib.Omega.{arith}
use native.Mathlib.Numerals.{add-one}
use lib.Dec.{eqb}
use lib.ListN.{length, get_or, take, drop, get_or-eq_default, length-take, length-drop}
use lib.Seq.{take-length, get_or-take, get_or-drop}
use borrow.Author.Tests.{eqb-true, eqb-false}
use Rattle.std.specs.List.{list_all}
use Rattle.std.proofs.lemmas.List.Folds.{list_all_more}
use Rattle.meaning.specs.Base.{part, all_below}
use Rattle.meaning.specs.Book.{is_digit, is_name_byte, name_bytes, digits_alone, member_due, first_member, member_count}
use Rattle.meaning.proofs.Below.{all_stop}

-- ALL of a list, by its elements
all_of_first : (p : ℕ → Bool) (xs : List ℕ) (n : ℕ) → n ≤ length xs → list_all p (take n xs) ≡ all_below (λ j. p (get_or xs j 0)) n
unfolding all_below
all_of_first p xs zero l = refl
all_of_first p xs (suc n) l = rw (add-one n, all_of_first p xs n (omega arith)) at (list_all_more p xs n 0 (omega arith))

all_of : (p : ℕ → Bool) (xs : List ℕ) → list_all p xs ≡ all_below (λ j. p (get_or xs j 0)) (length xs)
all_of p xs = ap (list_all p) (sym (take-length xs)) ∙ all_of_first p xs (length xs) (omega arith)

-- all below, alike where the tests are
all_alike : (p q : ℕ → Bool) (n : ℕ) → ((j : ℕ) → j < n → p j ≡ q j) → all_below p n ≡ all_below q n
unfolding all_below
all_alike p q zero h = refl
all_alike p q (suc n) h = rw (all_alike p q n (λ j l. h j (omega arith)), h n (omega arith))

-- NAMES. A part that is whole has the book's bytes; one that the book's end cuts short is no name, since past the end a byte is 0
module _ (m : List ℕ) (at n : ℕ) where
  byte_in_lem : (j : ℕ) → j < n → get_or (part m at n) j 0 ≡ get_or m (at + j) 0
  unfolding part
  byte_in_lem j l = get_or-take n (drop at m) j 0 l ∙ get_or-drop at m j 0

  cut_short : (length (part m at n) ≡ n → ⊥) → false ≡ name_bytes m at n
  unfolding part name_bytes
  cut_short h =
      let l : length m < at + n = omega (arith, length-take n (drop at m), length-drop at m, h) in
      all_stop (λ j. is_name_byte (get_or m (at + j) 0)) n (n - 1) {h = false} (omega (arith, length-take n (drop at m), h)) (rw (get_or-eq_default m 0 {n = at + (n - 1)} (omega arith))) refl

  pub spelled_in : (p : Bool) {w : List ℕ} {q : Bool} → w ≡ part m at n → q ≡ (list_all is_name_byte w && not (list_all is_digit w))
      → (p && eqb (length w) n && q) ≡ (p && name_bytes m at n && not (digits_alone m at n))
  unfolding name_bytes digits_alone
  spelled_in false ew eq = refl
  spelled_in true {w} {q} ew eq = by (eqb (length w) n) refl
    where
      by : (b : Bool) → eqb (length w) n ≡ b → (b && q) ≡ (name_bytes m at n && not (digits_alone m at n))
      by true e =
          let l : length w ≡ n = eqb-true _ _ e in
          let bytes : (j : ℕ) → j < n → get_or w j 0 ≡ get_or m (at + j) 0 = λ j h. ap (λ v. get_or v j 0) ew ∙ byte_in_lem j h in
          eq ∙ rw (
            all_of is_name_byte w,
            all_of is_digit w,
            l,
            all_alike (λ j. is_name_byte (get_or w j 0)) (λ j. is_name_byte (get_or m (at + j) 0)) n (λ j h. ap is_name_byte (bytes j h)),
            all_alike (λ j. is_digit (get_or w j 0)) (λ j. is_digit (get_or m (at + j) 0)) n (λ j h. ap is_digit (bytes j h)),
          )
      by false e = rw (← cut_short (λ z. eqb-false _ _ e (ap length ew ∙ z)))

pub due_after : (m : List ℕ) (c : ℕ) {r : ℕ} → 0 < c → r ≡ first_member m (c - 1) + member_count m (c - 1) → r ≡ member_due m c
unfolding member_due
due_after m zero h e = absurd (omega arith)
due_after m (suc c) h e = let q : suc c - 1 ≡ c = omega arith in rw q at e
