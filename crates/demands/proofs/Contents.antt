-- Contents compared and put in a range: each test of the rules says what Valid says, kind by kind. Assumes nothing.
use Prim.Native.Nat.{ℕ, ◌≤◌}
use mathlib.Core.Path.{◌≡◌, refl, ap}
use mathlib.Core.Bool.{true}
use mathlib.Core.Logic.{◌⊎◌}
use mathlib.Core.List.{List, [], ◌∷◌}
use native.Mathlib.Omega.{arith}
use lib.Dec.{eqb, ltb}
use lib.IntN.{ℤ, pos, negsuc}
use borrow.Author.Tests.{eqb-true, eq-eqb, le-leb}
use Rattle.std.proofs.lemmas.Bool.Decides.{nat_tests}
use Rattle.meaning.specs.declared.Value.{Value}
use Rattle.meaning.specs.Base.{same_text}
use Rattle.meaning.specs.Table.{Content, a_three, a_text, an_int, a_hex, entries, kind_of, read_of, content_in, content_of, three_in, value_of}
use Rattle.meaning.specs.Rules.{is_empty, type_fits, same_int, same_content, within}
use Rattle.meaning.specs.Valid.{Typed, IntRange, HexRange}
use Rattle.meaning.proofs.Tests.{same_text_lem}
use Rattle.demands.proofs.Bools.{pick_both, Says, says_and, says_or, says_eq}

-- THE THREE VALUES: what is read as one is at most y
pub value-three : (t : List ℕ) (s : ℕ) → value_of t s ≤ 2
unfolding value_of content_of read_of
value-three t s =
    let k = kind_of t s in
    pick_both P (ltb s (entries t))
    (pick_both P (eqb k 0) (omega arith)
    (pick_both P (eqb k 1) (omega arith)
    (pick_both P (eqb k 2) (omega arith)
    (pick_both P (eqb k 3) (omega arith) (omega arith)))))
    (omega arith)
  where
    P : Value → Type 0
    P x = three_in (content_in t x) ≤ 2

-- EQUAL
text_same : (a : List ℕ) → same_text a a ≡ true
unfolding same_text
text_same [] = refl
text_same (x ∷ a) = rw (eq-eqb x x refl) (text_same a)

int_same : (z : ℤ) → same_int z z ≡ true
int_same (pos n) = rw (le-leb n n (omega arith))
int_same (negsuc n) = rw (le-leb n n (omega arith))

same_int_lem : (a b : ℤ) → same_int a b ≡ true → a ≡ b
same_int_lem (pos a) (pos b) e = grind (arith, nat_tests)
same_int_lem (pos a) (negsuc b) e = cc
same_int_lem (negsuc a) (pos b) e = cc
same_int_lem (negsuc a) (negsuc b) e = grind (arith, nat_tests)

content_same : (v : Content) → same_content v v ≡ true
content_same (a_three v) = eq-eqb v v refl
content_same (a_text l) = text_same l
content_same (an_int z) = int_same z
content_same (a_hex h) = eq-eqb h h refl

same_content_lem : (v w : Content) → same_content v w ≡ true → v ≡ w
same_content_lem (a_three v) (a_three w) e = ap a_three (eqb-true v w e)
same_content_lem (a_three v) (a_text k) e = cc
same_content_lem (a_three v) (an_int b) e = cc
same_content_lem (a_three v) (a_hex h) e = cc
same_content_lem (a_text l) (a_three w) e = cc
same_content_lem (a_text l) (a_text k) e = ap a_text (same_text_lem l k e)
same_content_lem (a_text l) (an_int b) e = cc
same_content_lem (a_text l) (a_hex h) e = cc
same_content_lem (an_int a) (a_three w) e = cc
same_content_lem (an_int a) (a_text k) e = cc
same_content_lem (an_int a) (an_int b) e = ap an_int (same_int_lem a b e)
same_content_lem (an_int a) (a_hex h) e = cc
same_content_lem (a_hex g) (a_three w) e = cc
same_content_lem (a_hex g) (a_text k) e = cc
same_content_lem (a_hex g) (an_int b) e = cc
same_content_lem (a_hex g) (a_hex h) e = ap a_hex (eqb-true g h e)

pub says_content : (v w : Content) → Says (same_content v w) (v ≡ w)
says_content v w = (same_content_lem v w, λ e. rw (← e) (content_same v))

-- TYPED
says_empty : (l : List ℕ) → Says (is_empty l) (l ≡ [])
says_empty [] = (λ e. refl, λ e. refl)
says_empty (x ∷ l) = grind (arith, nat_tests)

pub says_typed : (y : ℕ) (c : Content) → three_in c ≤ 2 → Says (type_fits y c) (Typed y c)
says_typed y (a_three v) le = grind (arith, nat_tests)
says_typed y (a_text l) le = says_or (says_eq y 2) (says_and (says_or (says_eq y 3) (says_eq y 4)) (says_empty l))
says_typed y (an_int z) le = says_eq y 3
says_typed y (a_hex h) le = says_eq y 4

-- WITHIN
pub says_within : (low high v : Content) → Says (within low high v) (IntRange low high v ⊎ HexRange low high v)
says_within low high v = grind (arith, nat_tests)
