-- A node's set is worked out from those before it, op by op, and a room of such sets stays one. Assumes nothing.
use mathlib.Core.Path.{◌≡◌, refl, sym, ◌∙◌, ap}
use mathlib.Core.Logic.{◌⊎◌, ⊎_elim, inl, inr}
use mathlib.Core.Bool.{Bool, true, false, ◌||◌}
use mathlib.Core.List.{List, []}
use Prim.Native.Nat.{ℕ, zero, suc, ◌+◌, ◌*◌, ◌≤◌, ◌<◌}
use native.Mathlib.Nat.{eq-or-lt_of_le, le_of_suc-le-suc}
use native.Mathlib.Omega.{arith}
use lib.Dec.{eqb, leb, ltb}
use lib.ListN.{length, get_or, get_or-append, get_or-eq_default}
use lib.Seq.{get_or_at, ext_get_or}
use borrow.Author.Tests.{ltb-true, ltb-false, leb-true, leb-false, ne_eqb, le-leb, lt-leb, lt-ltb, le-ltb}
use Rattle.std.specs.Prelude.{Option, Some, None, IfSome, IfNone, unwrap_or}
use Rattle.sets.specs.declared.Set.{Set}
use Rattle.meaning.specs.Base.{pick, fold, build, tabulate, part}
use Rattle.meaning.specs.Book.{nodes, op_of, left_of, right_of}
use Rattle.meaning.specs.Sets.{has, set_of, with_one, row, pairs, sat, not_set, leaf_set, is_free, equal_set, node_set, node_sets}
use Rattle.meaning.proofs.Folds.{build-length, tabulate-length, tabulate_at}
use Rattle.sets.specs.Work.{combined, equality_of, among, fixed, blank_at, blank_of, lasting, kept_set, Known, WorkedOut}
use Rattle.sets.proofs.Laws.{none_part}
use Rattle.sets.proofs.Equal.{fixed_same}

-- NODE BY NODE
module _ (m ys : List ℕ) where
  pub among_is : (n i : ℕ) → i < n → among m ys n i ≡ node_set m ys (build (node_set m ys) i) i
  unfolding build
  among_is zero i lt = absurd (omega arith)
  among_is (suc n) i lt =
      ⊎_elim
      (λ (e : i ≡ n). rw e (get_or_at (build (node_set m ys) n) _ [] 1 n (build-length (node_set m ys) n)))
      (λ l. get_or-append (build (node_set m ys) n) _ 1 i (rw (build-length (node_set m ys) n) l) ∙ among_is n i l)
      (eq-or-lt_of_le (le_of_suc-le-suc lt))

  pub among_past : (n i : ℕ) → n ≤ i → 1 ≡ among m ys n i
  among_past n i h = sym (get_or-eq_default (build (node_set m ys) n) 1 (rw (build-length (node_set m ys) n) h))

  pub settled : (n i : ℕ) {v : ℕ} → i < n → v ≡ node_set m ys (build (node_set m ys) i) i → v ≡ among m ys n i
  settled n i lt e = e ∙ sym (among_is n i lt)

  pub due : (i : ℕ) {v : ℕ} → i < nodes m → v ≡ node_set m ys (build (node_set m ys) i) i → v ≡ sat (node_sets m ys) i
  unfolding node_sets
  due i lt e = settled (nodes m) i lt e

  -- the same among all
  pub among-whole : (n i : ℕ) → i < n → n ≤ nodes m → among m ys n i ≡ sat (node_sets m ys) i
  unfolding node_sets
  among-whole n i lt le = among_is n i lt ∙ sym (among_is (nodes m) i (omega arith))

  pub all_nodes : (i : ℕ) {n r : ℕ} → n ≡ nodes m → r ≡ among m ys n i → r ≡ sat (node_sets m ys) i
  unfolding node_sets
  all_nodes i en e = rw en at e

-- OP BY OP
module _ (m ys ss : List ℕ) (i : ℕ) {op : ℕ} (eo : op ≡ op_of m i) where
  pub node-leaf : {r : ℕ} → op ≤ 4 → r ≡ leaf_set m ys i → r ≡ node_set m ys ss i
  unfolding node_set
  node-leaf h e = rw (← eo, le-leb op 4 h) e

  module _ {left right : ℕ} (el : left ≡ left_of m i) (er : right ≡ right_of m i) where
    pub node_inner : {l k r : ℕ} → 4 < op → op ≤ 7 → l ≡ sat ss left → k ≡ sat ss right → r ≡ combined op l k → r ≡ node_set m ys ss i
    unfolding node_set
    node_inner {l} {k} {r} lo hi ll lk e = ⊎_elim five (λ lt. ⊎_elim six seven (eq-or-lt_of_le lt)) (eq-or-lt_of_le lo)
      where
        five : 5 ≡ op → r ≡ node_set m ys ss i
        five q = rw (← eo, ← q, ← el, ← ll) (rw (← q) at e)

        six : 6 ≡ op → r ≡ node_set m ys ss i
        six q = rw (← eo, ← q, ← el, ← er, ← ll, ← lk) (rw (← q) at e)

        seven : 6 < op → r ≡ node_set m ys ss i
        seven lt = let q : op ≡ 7 = omega arith in rw (← eo, q, ← el, ← er, ← ll, ← lk) (rw q at e)

    pub node_equal : {r : ℕ} → 7 < op → r ≡ equality_of m ys op left right → r ≡ node_set m ys ss i
    unfolding node_set
    node_equal h e =
        rw (← eo, lt-leb op 4 (omega arith), ne_eqb op 5 (λ z. omega arith), ne_eqb op 6 (λ z. omega arith), ne_eqb op 7 (λ z. omega arith), ← el, ← er) e

  -- what is no node is n
  pub node_none : 9 < op → 1 ≡ node_set m ys ss i
  unfolding node_set
  node_none h =
      rw (← eo, lt-leb op 4 (omega arith), ne_eqb op 5 (λ z. omega arith), ne_eqb op 6 (λ z. omega arith), ne_eqb op 7 (λ z. omega arith), ne_eqb op 8 (λ z. omega arith), ne_eqb op 9 (λ z. omega arith))

-- SETS are below 8
set_small : (a b c : Bool) → set_of a b c < 8
unfolding set_of
set_small true true true = omega arith
set_small true true false = omega arith
set_small true false true = omega arith
set_small true false false = omega arith
set_small false true true = omega arith
set_small false true false = omega arith
set_small false false true = omega arith
set_small false false false = omega arith

picked_small : (q : Bool) {a b : ℕ} → a < 8 → b < 8 → pick q a b < 8
picked_small true ha hb = ha
picked_small false ha hb = hb

pairs_small : (f : ℕ → ℕ → ℕ) (a b : ℕ) → pairs f a b < 8
unfolding pairs row fold with_one
pairs_small f a b = rows 3
  where
    cells : (x c k : ℕ) → c < 8 → row f x b c k < 8
    cells x c zero h = h
    cells x c (suc k) h = picked_small (has b k) (set_small _ _ _) (cells x c k h)

    rows : (k : ℕ) → fold (λ x c. pick (has a x) (row f x b c 3) c) 0 k < 8
    rows zero = omega arith
    rows (suc k) = picked_small (has a k) (cells k _ 3 (rows k)) (rows k)

equality_small : (m ys : List ℕ) (op i j : ℕ) → equality_of m ys op i j < 8
unfolding equal_set not_set
equality_small m ys op i j =
    picked_small (eqb op 8) (picked_small (is_free m i || is_free m j) (omega arith) (pairs_small _ _ _))
    (picked_small (eqb op 9) (pairs_small _ _ _) (omega arith))

-- what is the same on every path is kept in the upper half of a byte
kept_high : (s : ℕ) → s < 8 → kept_set (128 + 16 * s) ≡ s
kept_high zero l = refl
kept_high (suc zero) l = refl
kept_high (suc (suc zero)) l = refl
kept_high (suc (suc (suc zero))) l = refl
kept_high (suc (suc (suc (suc zero)))) l = refl
kept_high (suc (suc (suc (suc (suc zero))))) l = refl
kept_high (suc (suc (suc (suc (suc (suc zero)))))) l = refl
kept_high (suc (suc (suc (suc (suc (suc (suc zero))))))) l = refl
kept_high (suc (suc (suc (suc (suc (suc (suc (suc s)))))))) l = absurd (omega arith)

-- and what is worked out for one leaf in the lower
kept_low : (s : ℕ) → s < 8 → kept_set (8 + s) ≡ s
kept_low zero l = refl
kept_low (suc zero) l = refl
kept_low (suc (suc zero)) l = refl
kept_low (suc (suc (suc zero))) l = refl
kept_low (suc (suc (suc (suc zero)))) l = refl
kept_low (suc (suc (suc (suc (suc zero))))) l = refl
kept_low (suc (suc (suc (suc (suc (suc zero)))))) l = refl
kept_low (suc (suc (suc (suc (suc (suc (suc zero))))))) l = refl
kept_low (suc (suc (suc (suc (suc (suc (suc (suc s)))))))) l = absurd (omega arith)

-- THE ROOM before a leaf is looked at: 0, or the node's set, which is then the same on every path
pub blank_set : (m ys : List ℕ) (i : ℕ) → i < nodes m
    → (blank_at m i ≡ 0) ⊎ ((blank_at m i ≡ 128 + 16 * sat (node_sets m ys) i) × (sat (node_sets m ys) i < 8))
unfolding blank_at node_sets
blank_set m ys i lt = by (ltb (op_of m i) 8) refl (fixed m (left_of m i) (right_of m i)) refl
  where
    same : (zs : List ℕ) → ℕ
    same zs = equality_of m zs (op_of m i) (left_of m i) (right_of m i)

    by : (p : Bool) → ltb (op_of m i) 8 ≡ p → (q : Bool) → fixed m (left_of m i) (right_of m i) ≡ q
        → (pick p 0 (pick q (128 + 16 * same []) 0) ≡ 0) ⊎ ((pick p 0 (pick q (128 + 16 * same []) 0) ≡ 128 + 16 * sat (node_sets m ys) i) × (sat (node_sets m ys) i < 8))
    by true e q f = inl refl
    by false e false f = inl refl
    by false e true f =
        let z : same [] ≡ same ys = ap (λ s. pick (eqb (op_of m i) 8) s (pick (eqb (op_of m i) 9) (not_set s) 1)) (fixed_same m (left_of m i) (right_of m i) f [] ys) in
        let g : same ys ≡ sat (node_sets m ys) i = node_equal m ys (build (node_set m ys) i) i refl refl refl (ltb-false (op_of m i) 8 e) refl ∙ sym (among_is m ys (nodes m) i lt) in
        let u = z ∙ g in
        inr (ap (λ x. 128 + 16 * x) u, rw (← u) (equality_small m [] (op_of m i) (left_of m i) (right_of m i)))

-- what stands there, op by op
module _ (m : List ℕ) (i : ℕ) {op : ℕ} (eo : op ≡ op_of m i) where
  pub blank_low : op < 8 → 0 ≡ blank_at m i
  unfolding blank_at
  blank_low l = rw (← eo, lt-ltb op 8 l)

  module _ {left right : ℕ} {q : Bool} (h : 8 ≤ op) (el : left ≡ left_of m i) (er : right ≡ right_of m i) (eq : q ≡ fixed m left right) where
    pub blank_fixed : {t : List ℕ} {r : ℕ} → q ≡ true → t ≡ part m 0 0 → r ≡ equality_of m t op left right → 128 + 16 * r ≡ blank_at m i
    unfolding blank_at
    blank_fixed f et es = rw (← eo, le-ltb op 8 h, ← el, ← er, ← eq, f) (ap (λ x. 128 + 16 * x) (rw (none_part m et) at es))

    pub blank_open : q ≡ false → 0 ≡ blank_at m i
    unfolding blank_at
    blank_open f = rw (← eo, le-ltb op 8 h, ← el, ← er, ← eq, f)

module _ (m ys : List ℕ) {w : List ℕ} (k : Known m ys w) where
  pub known_read : (i : ℕ) {x : ℕ} → i < nodes m → x ≡ get_or w i 0 → (x ≡ 0 → ⊥) → kept_set x ≡ sat (node_sets m ys) i
  known_read i {x} lt e z = ⊎_elim before (λ o. ap kept_set (e ∙ o.1) ∙ kept_low (sat (node_sets m ys) i) o.2) (k.each i lt)
    where
      before : get_or w i 0 ≡ blank_at m i → kept_set x ≡ sat (node_sets m ys) i
      before o =
          ⊎_elim
          (λ b. absurd (z (e ∙ o ∙ b)))
          (λ b. ap kept_set (e ∙ o ∙ b.0) ∙ kept_high (sat (node_sets m ys) i) b.1)
          (blank_set m ys i lt)

  pub known_any : (i : ℕ) {x : ℕ} → x ≡ get_or w i 0 → (x ≡ 0 → ⊥) → kept_set x ≡ sat (node_sets m ys) i
  known_any i {x} e z = by (ltb i (nodes m)) refl
    where
      by : (b : Bool) → ltb i (nodes m) ≡ b → kept_set x ≡ sat (node_sets m ys) i
      by true q = known_read i (ltb-true i (nodes m) q) e z
      by false q = absurd (z (e ∙ get_or-eq_default w 0 (rw k.size (ltb-false i (nodes m) q))))

  -- the room once the leaf is done with
  pub known_settled : {d : List ℕ} → length d ≡ length w → ((i : ℕ) → i < length w → get_or d i 0 ≡ lasting (get_or w i 0)) → d ≡ blank_of m
  unfolding blank_of
  known_settled {d} el each =
      ext_get_or 0 d (tabulate (blank_at m) (nodes m)) (el ∙ k.size ∙ sym (tabulate-length (blank_at m) (nodes m)))
      (λ i lt. let l : i < nodes m = rw (el, k.size) at lt in
      each i (rw el at lt) ∙ ⊎_elim (before i l) (after i) (k.each i l) ∙ sym (tabulate_at (blank_at m) 0 (nodes m) i l))
    where
      before : (i : ℕ) → i < nodes m → get_or w i 0 ≡ blank_at m i → lasting (get_or w i 0) ≡ blank_at m i
      before i l o =
          ⊎_elim
          (λ b. omega (arith, o, b))
          (λ b. let q : get_or w i 0 ≡ 128 + 16 * sat (node_sets m ys) i = o ∙ b.0 in omega (arith, q, o))
          (blank_set m ys i l)

      after : (i : ℕ) → (blank_at m i ≡ 0) × (get_or w i 0 ≡ 8 + sat (node_sets m ys) i) × (sat (node_sets m ys) i < 8) → lasting (get_or w i 0) ≡ blank_at m i
      after i o = omega (arith, o.0, o.1, o.2)

pub blank_length : (m : List ℕ) → length (blank_of m) ≡ nodes m
unfolding blank_of
blank_length m = tabulate-length (blank_at m) (nodes m)

pub known_blank : (m ys : List ℕ) {w : List ℕ} → w ≡ blank_of m → Known m ys w
unfolding blank_of
known_blank m ys e = record {
  size = rw e (blank_length m);
  each = λ i lt. inl (rw e (tabulate_at (blank_at m) 0 (nodes m) i lt));
}

-- taken back so far
module _ (w₀ : List ℕ) where
  abbrev pub Settled : List ℕ → ℕ → Type 0
  Settled w k = ((j : ℕ) → j < k → get_or w j 0 ≡ lasting (get_or w₀ j 0)) × ((j : ℕ) → k ≤ j → get_or w j 0 ≡ get_or w₀ j 0)

-- where every node is worked out, the set of one that is no leaf is told
pub told : (o : Option Set) (none : Set) {r : Set} {x : ℕ} {untold : Type 0} → r ≡ unwrap_or o none → IfSome o (λ s. s.bits ≡ x) → IfNone o untold → (untold → ⊥) → r.bits ≡ x
told None none e some un out = absurd (out un)
told (Some s) none e some un out = rw e some

-- IN ORDER: node i, where every node before it but leaves is worked out
module _ (m ys w : List ℕ) {i : ℕ} (out : WorkedOut m w i) where
  -- an operand that is not worked out is a leaf
  pub leaf_left : (k : ℕ) {x r : ℕ} → k < i → x ≡ get_or w k 0 → x ≡ 0 → r ≡ leaf_set m ys k → r ≡ among m ys i k
  leaf_left k {r = r} lt ex z er = by (leb (op_of m k) 4) refl
    where
      by : (q : Bool) → leb (op_of m k) 4 ≡ q → r ≡ among m ys i k
      by true e = node-leaf m ys (build (node_set m ys) k) k refl (leb-true (op_of m k) 4 e) er ∙ sym (among_is m ys i k lt)
      by false e = absurd (out k lt (leb-false (op_of m k) 4 e) (sym ex ∙ z))
