-- Equalities of leaves, by what each is: a letter spells no number, and a text only where that is its one byte. Assumes nothing.
use mathlib.Core.Path.{◌≡◌, refl, sym, ◌∙◌, ap, fun_ext}
use mathlib.Core.Bool.{Bool, true, false, ◌||◌, not, and-true, and-false, or-true, true≢false}
use mathlib.Core.List.{List, [], ◌∷◌}
use Prim.Native.Nat.{ℕ, zero, suc, ◌+◌, ◌/◌, ◌%◌, ◌≤◌, ◌<◌}
use native.Mathlib.Omega.{arith}
use native.Mathlib.Nat.{eq-or-lt_of_le}
use mathlib.Core.Logic.{⊎_elim}
use lib.Dec.{eqb, leb, ltb}
use lib.IntN.{ℤ, pos, negsuc}
use lib.ListN.{length, get_or}
use borrow.Author.Tests.{eq-eqb, ne_eqb, eqb-true, eqb-false, leb-false, lt-ltb, lt-leb}
use Rattle.meaning.specs.Base.{pick, fold, part, same_text}
use Rattle.meaning.specs.Book.{op_of, left_of, right_of, text_start}
use Rattle.meaning.specs.Table.{signed_of}
use Rattle.meaning.specs.Spell.{digit, digits, letter, spelled_int, spelled_hex}
use Rattle.meaning.specs.Values.{leaf_of, yes_no, number_of}
use Rattle.meaning.specs.Sets.{has, set_of, with_one, row, pairs, leaf_set, is_free, spelled_at, equal_at, equal_set}
use Rattle.spell.specs.declared.Leaf.{Leaf}
use Rattle.spell.specs.Leaves.{leaf_content, spelled_leaf}
use Rattle.sets.proofs.Laws.{at_other, equal_at_is}
use Rattle.sets.specs.Work.{alike, by_letter, Lone, fixed}
use Rattle.std.specs.Prelude.{Option, Some, None}

-- PAIRS of which another operation makes the same
pairs_like : {f g : ℕ → ℕ → ℕ} → ((x y : ℕ) → f x y ≡ g x y) → (a b : ℕ) → pairs f a b ≡ pairs g a b
pairs_like h a b = ap (λ f. pairs f a b) (fun_ext (λ x. fun_ext (λ y. h x y)))

pairs_turned : (g : ℕ → ℕ) (a : ℕ) → pairs (λ x y. g x) a 1 ≡ pairs (λ x y. g y) 1 a
unfolding pairs row fold has
pairs_turned g a = refl

pub pairs_ones : (f : ℕ → ℕ → ℕ) → pairs f 1 1 ≡ with_one 0 (f 0 0)
unfolding pairs row fold has
pairs_ones f = refl

-- TEXTS against one byte
one_unlike : (c : ℕ) (l : List ℕ) → 1 < length l → same_text (c ∷ []) l ≡ false
unfolding same_text
one_unlike c [] h = absurd (omega arith)
one_unlike c (x ∷ []) h = absurd (omega arith)
one_unlike c (x ∷ y ∷ l) h = and-false (eqb c x)

one_alike : (c : ℕ) (l : List ℕ) → length l ≡ 1 → same_text (c ∷ []) l ≡ eqb c (get_or l 0 0)
unfolding same_text
one_alike c [] h = absurd (omega arith)
one_alike c (x ∷ []) h = and-true (eqb c x)
one_alike c (x ∷ y ∷ l) h = absurd (omega arith)

eqb_turned : (x y : ℕ) → eqb x y ≡ eqb y x
eqb_turned x y = by (eqb x y) refl
  where
    by : (q : Bool) → eqb x y ≡ q → q ≡ eqb y x
    by true e = sym (eq-eqb y x (sym (eqb-true x y e)))
    by false e = sym (ne_eqb y x (λ z. eqb-false x y e (sym z)))

turned : (a b : List ℕ) → same_text a b ≡ same_text b a
unfolding same_text
turned [] [] = refl
turned [] (y ∷ b) = refl
turned (x ∷ a) [] = refl
turned (x ∷ a) (y ∷ b) = rw (eqb_turned x y, turned a b)

-- DIGITS: one at least stands before what follows
digits_long : (b f n : ℕ) (rest : List ℕ) → length rest ≤ length (digits b f n rest)
unfolding digits
digits_long b zero n rest = omega arith
digits_long b (suc f) n rest = by (ltb n b) (digits b f (n / b) (digit (n % b) ∷ rest)) (digits_long b f (n / b) (digit (n % b) ∷ rest))
  where
    by : (q : Bool) (l : List ℕ) → suc (length rest) ≤ length l → length rest ≤ length (pick q (digit (n % b) ∷ rest) l)
    by true l h = omega arith
    by false l h = omega arith

digits_more : (b f n : ℕ) (rest : List ℕ) → length rest < length (digits b (suc f) n rest)
unfolding digits
digits_more b f n rest = by (ltb n b) (digits b f (n / b) (digit (n % b) ∷ rest)) (digits_long b f (n / b) (digit (n % b) ∷ rest))
  where
    by : (q : Bool) (l : List ℕ) → suc (length rest) ≤ length l → length rest < length (pick q (digit (n % b) ∷ rest) l)
    by true l h = omega arith
    by false l h = h

letter_high : (v : ℕ) → 108 < letter v
letter_high v = by (eqb v 0) (eqb v 1)
  where
    by : (p q : Bool) → 108 < pick p 110 (pick q 109 121)
    by true q = omega arith
    by false true = omega arith
    by false false = omega arith

no_letter : (v b : ℕ) → b ≤ 108 → eqb (letter v) b ≡ false
no_letter v b l = ne_eqb (letter v) b (λ e. omega (arith, letter_high v, e))

letter_pos : (v n : ℕ) → same_text (letter v ∷ []) (digits 10 12 n []) ≡ false
unfolding digits same_text
letter_pos v n = by (ltb n 10) (digits 10 11 (n / 10) (digit (n % 10) ∷ [])) (digits_more 10 10 (n / 10) (digit (n % 10) ∷ []))
  where
    by : (q : Bool) (l : List ℕ) → 1 < length l → same_text (letter v ∷ []) (pick q (digit (n % 10) ∷ []) l) ≡ false
    by true l h = and-true _ ∙ no_letter v (digit (n % 10)) (rw (lt-ltb (n % 10) 10 (omega arith)) (omega arith))
    by false l h = one_unlike (letter v) l h

letter_int : (v : ℕ) (z : ℤ) → same_text (letter v ∷ []) (spelled_int z) ≡ false
letter_int v (pos n) = letter_pos v n
letter_int v (negsuc n) = one_unlike (letter v) (45 ∷ digits 10 12 (suc n) []) (omega (arith, digits_more 10 11 (suc n) []))

letter_hex : (v h : ℕ) → same_text (letter v ∷ []) (spelled_hex h) ≡ false
letter_hex v h = one_unlike (letter v) (48 ∷ 120 ∷ digits 16 12 h []) (omega arith)

-- LEAVES against a letter: a number, a text of one byte, any other text, and what is no leaf
module _ (m : List ℕ) (i : ℕ) {op : ℕ} (eo : op ≡ op_of m i) where
  pub lone_number : leb (op_of m i) 1 ≡ false → op ≤ 4 → (op ≡ 2 → ⊥) → Lone m i None
  unfolding spelled_at leaf_of
  lone_number lo hi nt v x = ⊎_elim int hex (eq-or-lt_of_le {n = 3} {m = op} (omega (arith, leb-false (op_of m i) 1 lo, eo)))
    where
      int : 3 ≡ op → same_text (letter v ∷ []) (spelled_at m i x) ≡ false
      int e = rw (← eo, ← e) (letter_int v (signed_of (number_of m i)))

      hex : 3 < op → same_text (letter v ∷ []) (spelled_at m i x) ≡ false
      hex l = let e : op ≡ 4 = omega arith in rw (← eo, e) (letter_hex v (number_of m i))

  pub lone_no_leaf : {b : ℕ} → 4 < op → b ≡ letter 0 → Lone m i (Some b)
  unfolding spelled_at leaf_of same_text
  lone_no_leaf lo eb v x =
      rw (← eo, lt-leb op 1 (omega arith), ne_eqb op 0 (λ z. omega arith), ne_eqb op 1 (λ z. omega arith), ne_eqb op 2 (λ z. omega arith), ne_eqb op 3 (λ z. omega arith), ne_eqb op 4 (λ z. omega arith), eb)
      (and-true (eqb (letter v) 110))

  module _ {l : List ℕ} (two : op ≡ 2) (el : l ≡ part m (text_start m + left_of m i) (right_of m i)) where
    text_is : (x : ℕ) → l ≡ spelled_at m i x
    unfolding spelled_at leaf_of
    text_is x = rw (← eo, two) el

    pub lone_text : {b : ℕ} → length l ≡ 1 → b ≡ get_or l 0 0 → Lone m i (Some b)
    lone_text e eb v x = rw (← text_is x, eb) (one_alike (letter v) l e)

    pub lone_texts : (length l ≡ 1 → ⊥) → Lone m i None
    unfolding same_text
    lone_texts nt v x = rw (← text_is x) (by l nt)
      where
        by : (k : List ℕ) → (length k ≡ 1 → ⊥) → same_text (letter v ∷ []) k ≡ false
        by [] n = refl
        by (a ∷ []) n = absurd (n refl)
        by (a ∷ b ∷ k) n = and-false (eqb (letter v) a)

-- THE SET of an equality of leaves i and j: either where one is free
module _ (m ys : List ℕ) (i j : ℕ) where
  pub set_free : is_free m i ≡ true → 5 ≡ equal_set m ys i j
  unfolding equal_set
  set_free f = rw f

  pub set_free_second : is_free m j ≡ true → 5 ≡ equal_set m ys i j
  unfolding equal_set
  set_free_second f = rw (f, or-true (is_free m i))

-- and where none is, by what each is
module _ (m ys : List ℕ) (i j : ℕ) (fi : is_free m i ≡ false) (fj : is_free m j ≡ false) where
  by_pairs : {a b r : ℕ} {f : ℕ → ℕ → ℕ} → a ≡ leaf_set m ys i → b ≡ leaf_set m ys j → ((x y : ℕ) → f x y ≡ equal_at m i j x y) → r ≡ pairs f a b
      → r ≡ equal_set m ys i j
  unfolding equal_set
  by_pairs {a} {b} ea eb h er = rw (fi, fj, ← ea, ← eb) (er ∙ pairs_like h a b)

  pub set_threes : {a b r : ℕ} → a ≡ leaf_set m ys i → b ≡ leaf_set m ys j → leb (op_of m i) 1 ≡ true → leb (op_of m j) 1 ≡ true → r ≡ pairs alike a b
      → r ≡ equal_set m ys i j
  unfolding equal_at spelled_at same_text
  set_threes ea eb ti tj er = by_pairs ea eb (λ x y. rw (ti, tj) (ap yes_no (sym (and-true (eqb (letter x) (letter y)))))) er

  pub set_three_other : (c : Option ℕ) {a r : ℕ} → a ≡ leaf_set m ys i → 1 ≡ leaf_set m ys j → leb (op_of m i) 1 ≡ true → Lone m j c → r ≡ pairs (λ x y. by_letter c x) a 1
      → r ≡ equal_set m ys i j
  unfolding equal_at spelled_at
  set_three_other c ea eb ti lone er = by_pairs ea eb (λ x y. rw ti (ap yes_no (sym (lone x y)))) er

  pub set_other_three : (c : Option ℕ) {b r : ℕ} → 1 ≡ leaf_set m ys i → b ≡ leaf_set m ys j → leb (op_of m j) 1 ≡ true → Lone m i c → r ≡ pairs (λ x y. by_letter c x) b 1
      → r ≡ equal_set m ys i j
  unfolding equal_at spelled_at
  set_other_three c {b} ea eb tj lone er =
      by_pairs ea eb (λ x y. rw tj (ap yes_no (sym (turned (spelled_at m i x) (letter y ∷ []) ∙ lone y x)))) (er ∙ pairs_turned (by_letter c) b)

  pub set_others : {r : ℕ} → 1 ≡ leaf_set m ys i → 1 ≡ leaf_set m ys j → r ≡ pairs (equal_at m i j) 1 1 → r ≡ equal_set m ys i j
  set_others ea eb er = by_pairs ea eb (λ x y. refl) er

-- two texts or numbers make one pair
module _ (m : List ℕ) (i j : ℕ) where
  pub pair_others : {t : List ℕ} {h k : Bool} {r : ℕ} (a b : Leaf) → leb (op_of m i) 1 ≡ false → leb (op_of m j) 1 ≡ false → t ≡ part m 0 0
      → leaf_content m t a ≡ leaf_of m t i → leaf_content m t b ≡ leaf_of m t j → h ≡ same_text (spelled_leaf m t a) (spelled_leaf m t b) → h ≡ k → r ≡ pick k 4 1
      → r ≡ pairs (equal_at m i j) 1 1
  unfolding with_one set_of has
  pair_others {k = k} a b li lj et ea eb eh ek er =
      let e : yes_no k ≡ equal_at m i j 0 0
      = equal_at_is m i j 0 0 a b et (at_other m i 0 refl a (leb-false (op_of m i) 1 li) et ea) (at_other m j 0 refl b (leb-false (op_of m j) 1 lj) et eb) eh ek refl in
      er ∙ by k ∙ ap (with_one 0) e ∙ sym (pairs_ones (equal_at m i j))
    where
      by : (q : Bool) → pick q 4 1 ≡ with_one 0 (yes_no q)
      by true = refl
      by false = refl

-- the same on every path
module _ (m : List ℕ) (i j : ℕ) where
  pub fixed_same : fixed m i j ≡ true → (ys zs : List ℕ) → equal_set m ys i j ≡ equal_set m zs i j
  unfolding equal_set leaf_set
  fixed_same e ys zs = by (is_free m i || is_free m j) e
    where
      kept : (k : ℕ) → eqb (op_of m k) 1 ≡ false → leaf_set m ys k ≡ leaf_set m zs k
      kept k e = rw e

      none : (p q : Bool) → eqb (op_of m i) 1 ≡ p → eqb (op_of m j) 1 ≡ q → not (p || q) ≡ true
          → pairs (equal_at m i j) (leaf_set m ys i) (leaf_set m ys j) ≡ pairs (equal_at m i j) (leaf_set m zs i) (leaf_set m zs j)
      none true q ep eq z = absurd (true≢false (sym z))
      none false true ep eq z = absurd (true≢false (sym z))
      none false false ep eq z = rw (kept i ep, kept j eq)

      by : (p : Bool) → (p || not (eqb (op_of m i) 1 || eqb (op_of m j) 1)) ≡ true
          → pick p 5 (pairs (equal_at m i j) (leaf_set m ys i) (leaf_set m ys j)) ≡ pick p 5 (pairs (equal_at m i j) (leaf_set m zs i) (leaf_set m zs j))
      by true z = refl
      by false z = none (eqb (op_of m i) 1) (eqb (op_of m j) 1) refl refl z
