-- A refusal taken from a number has that number: each test of `refusal_of` gives one that has the number tested for. Assumes nothing.
use Prim.Native.Nat.{ℕ}
use mathlib.Core.Path.{◌≡◌, refl, sym, ◌∙◌}
use mathlib.Core.Bool.{Bool, true, false}
use lib.Dec.{eqb}
use borrow.Author.Tests.{eqb-true}
use Rattle.meaning.specs.declared.Refusal.{Refusal}
use Rattle.meaning.specs.Base.{pick}
use Rattle.meaning.specs.Numbers.{refusal_number, refusal_of}

-- a test for the number of a
one_of : (n k : ℕ) (a b : Refusal) → refusal_number a ≡ k → refusal_number b ≡ n → refusal_number (pick (eqb n k) a b) ≡ n
one_of n k a b ea eb = from (eqb n k) refl where
  from : (t : Bool) → eqb n k ≡ t → refusal_number (pick t a b) ≡ n
  from true e = ea ∙ sym (eqb-true n k e)
  from false e = eb

pub number_back : (n : ℕ) → refusal_number (refusal_of n) ≡ n
unfolding refusal_of
number_back n =
    one_of n 1 _ _ refl (
    one_of n 2 _ _ refl (
    one_of n 3 _ _ refl (
    one_of n 4 _ _ refl (
    one_of n 5 _ _ refl (
    one_of n 6 _ _ refl (
    one_of n 7 _ _ refl (
    one_of n 8 _ _ refl (
    one_of n 10 _ _ refl (
    one_of n 11 _ _ refl (
    one_of n 12 _ _ refl (
    one_of n 13 _ _ refl (
    one_of n 14 _ _ refl (
    one_of n 15 _ _ refl (
    one_of n 16 _ _ refl (
    one_of n 17 _ _ refl (
    one_of n 18 _ _ refl (
    one_of n 21 _ _ refl (
    one_of n 22 _ _ refl (
    one_of n 23 _ _ refl (
    one_of n 24 _ _ refl (refl)))))))))))))))))))))
