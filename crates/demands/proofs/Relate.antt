-- The sets of the nodes stand to their values as the sets of the symbols do, since each node's set is lifted from those before it as its
-- value is worked out from theirs. Assumes nothing.
use Prim.Native.Nat.{ℕ, zero, suc, ◌≤◌, ◌<◌}
use mathlib.Core.Path.{◌≡◌, refl}
use mathlib.Core.Bool.{Bool, true, false, ◌||◌}
use mathlib.Core.Logic.{◌⊎◌, inl, inr}
use mathlib.Core.List.{List, [], ◌∷◌, ◌++◌}
use native.Mathlib.Omega.{arith}
use lib.Dec.{eqb, leb}
use lib.ListN.{set}
use borrow.Author.Tests.{eqb-true, lt-leb, not-false}
use Rattle.std.proofs.lemmas.Bool.Decides.{nat_tests}
use Rattle.tri.specs.Three.{tri_of, not_of, and_of, or_of}
use Rattle.meaning.specs.Base.{pick, build}
use Rattle.meaning.specs.Book.{nodes, three_type, op_of, left_of, right_of}
use Rattle.meaning.specs.Table.{Content, a_three, content_of, three_in, value_of}
use Rattle.meaning.specs.Spell.{spelled}
use Rattle.meaning.specs.Values.{leaf_of, leaf_value, yes_no, equal_value, val, node_value, node_values}
use Rattle.meaning.specs.Sets.{pairs, sat, leaf_set, is_free, spelled_at, equal_at, equal_set, not_set, node_set, node_sets, open_sets}
use Rattle.demands.proofs.Bools.{pick_both, pick_rel}
use Rattle.demands.proofs.Lifts.{Lifts}

-- sets and values, place by place
pub data Rel (R : ℕ → ℕ → Type 0) : List ℕ → List ℕ → Type 0 where
  nil : Rel R [] []
  cons : {s v : ℕ} {ss vs : List ℕ} → R s v → Rel R ss vs → Rel R (s ∷ ss) (v ∷ vs)

module _ (R : ℕ → ℕ → Type 0) where
  pub snoc : {ss vs : List ℕ} {s v : ℕ} → Rel R ss vs → R s v → Rel R (ss ++ (s ∷ [])) (vs ++ (v ∷ []))
  snoc nil r = cons r nil
  snoc (cons a l) r = cons a (snoc l r)

  pub rel_at : {ss vs : List ℕ} → R 1 0 → Rel R ss vs → (i : ℕ) → R (sat ss i) (val vs i)
  rel_at z nil i = z
  rel_at z (cons a l) zero = a
  rel_at z (cons a l) (suc i) = rel_at z l i

  -- one symbol's set may change where its value stands to the new one
  pub set_rel : (ys : List ℕ) (v : ℕ → ℕ) → ((i : ℕ) → R (sat ys i) (v i)) → (s x : ℕ) → R x (v s) → (i : ℕ) → R (sat (set ys s x) i) (v i)
  set_rel [] v h s x r i = h i
  set_rel (y ∷ ys) v h zero x r zero = r
  set_rel (y ∷ ys) v h zero x r (suc i) = h (suc i)
  set_rel (y ∷ ys) v h (suc s) x r zero = h 0
  set_rel (y ∷ ys) v h (suc s) x r (suc i) = set_rel ys (λ i. v (suc i)) (λ i. h (suc i)) s x r i

equal_small : (m : List ℕ) (l r x y : ℕ) → equal_at m l r x y < 3
unfolding equal_at
equal_small m l r x y = grind (arith, nat_tests)

-- an equality, == or !=
abbrev pub IsEquality : List ℕ → ℕ → Type 0
IsEquality m i = (op_of m i ≡ 8) ⊎ (op_of m i ≡ 9)

-- t is the table, whose values stand to the sets ys; a boolean or tristate symbol has one of the three values; where an equality reads
-- another symbol, {n, y} stands to each answer
module _ (R : ℕ → ℕ → Type 0) (L : Lifts R) (m ys t : List ℕ)
    (symbol : (i : ℕ) → R (sat ys i) (value_of t i))
    (fit : (i : ℕ) → three_type m i ≡ true → content_of t i ≡ a_three (value_of t i))
    (other : (i : ℕ) → i < nodes m → IsEquality m i → (is_free m (left_of m i) || is_free m (right_of m i)) ≡ true → (b : Bool) → R 5 (yes_no b)) where
  zeros : R 1 0
  unfolding open_sets
  zeros = L.alone 0 (omega arith)

  leaf : (i : ℕ) → R (leaf_set m ys i) (leaf_value m t i)
  unfolding leaf_set leaf_of value_of
  leaf i =
      pick_rel P (eqb (op_of m i) 0) (λ _. L.alone (tri_of (left_of m i)) (omega arith))
      (λ _. pick_rel P (eqb (op_of m i) 1) (λ _. symbol (left_of m i))
      (λ _. pick_both (P 1) (eqb (op_of m i) 2) zeros (pick_both (P 1) (eqb (op_of m i) 3) zeros (pick_both (P 1) (eqb (op_of m i) 4) zeros zeros))))
    where
      P : ℕ → Content → Type 0
      P s x = R s (three_in x)

  -- a leaf that is no string, int or hex symbol is spelled by its value
  spelled_at_lem : (i : ℕ) → is_free m i ≡ false → spelled (leaf_of m t i) ≡ spelled_at m i (leaf_value m t i)
  unfolding spelled_at leaf_of is_free
  spelled_at_lem i e = by (eqb (op_of m i) 0) (eqb (op_of m i) 1) refl refl
    where
      by : (a b : Bool) → eqb (op_of m i) 0 ≡ a → eqb (op_of m i) 1 ≡ b → spelled (leaf_of m t i) ≡ spelled_at m i (leaf_value m t i)
      by true b p q = rw (eqb-true (op_of m i) 0 p)
      by false true p q =
          let one = eqb-true (op_of m i) 1 q in
          rw (one, fit (left_of m i) (not-false (three_type m (left_of m i)) (rw one at e)))
      by false false p q =
          let above : 1 < op_of m i = grind (arith, nat_tests) in
          rw (p, q, lt-leb (op_of m i) 1 above)

  module _ (i : ℕ) (lt : i < nodes m) (is : IsEquality m i) where
    abbrev l : ℕ
    l = left_of m i

    abbrev r : ℕ
    r = right_of m i

    either : (is_free m l || is_free m r) ≡ true → R 5 (equal_value m t l r)
    unfolding equal_value
    either e = grind (arith, nat_tests)

    equal : R (equal_set m ys l r) (equal_value m t l r)
    unfolding equal_set equal_value equal_at
    equal = by (is_free m l) (is_free m r) refl refl
      where
        by : (a b : Bool) → is_free m l ≡ a → is_free m r ≡ b
            → R (pick (a || b) 5 (pairs (equal_at m l r) (leaf_set m ys l) (leaf_set m ys r))) (equal_value m t l r)
        by true b e f = either (rw e)
        by false true e f = either (rw (e, f))
        by false false e f =
            rw (spelled_at_lem l e, spelled_at_lem r f)
            (L.both (equal_at m l r) (λ x y p q. equal_small m l r x y) _ _ (leaf_value m t l) (leaf_value m t r) (leaf l) (leaf r))

  not_rel : (a x : ℕ) → R a x → R (not_set a) (not_of x)
  unfolding not_set
  not_rel a x h = L.both (λ v w. not_of v) (λ x y p q. omega arith) a 1 x 0 h zeros

  node_step : (ss vs : List ℕ) → Rel R ss vs → (i : ℕ) → i < nodes m → R (node_set m ys ss i) (node_value m t vs i)
  unfolding node_set node_value
  node_step ss vs h i lt =
      let l = rel_at R zeros h (left_of m i) in
      let r = rel_at R zeros h (right_of m i) in
      pick_rel R (leb (op_of m i) 4) (λ _. leaf i)
      (λ _. pick_rel R (eqb (op_of m i) 5) (λ _. not_rel _ _ l)
      (λ _. pick_rel R (eqb (op_of m i) 6) (λ _. L.both and_of (λ x y p q. omega arith) _ _ _ _ l r)
      (λ _. pick_rel R (eqb (op_of m i) 7) (λ _. L.both or_of (λ x y p q. omega arith) _ _ _ _ l r)
      (λ _. pick_rel R (eqb (op_of m i) 8) (λ e. equal i lt (inl (eqb-true (op_of m i) 8 e)))
      (λ _. pick_rel R (eqb (op_of m i) 9) (λ e. not_rel _ _ (equal i lt (inr (eqb-true (op_of m i) 9 e)))) (λ _. zeros))))))

  nodes_rel : (n : ℕ) → n ≤ nodes m → Rel R (build (node_set m ys) n) (build (node_value m t) n)
  unfolding build
  nodes_rel zero le = nil
  nodes_rel (suc n) le = let r = nodes_rel n (omega arith) in snoc R r (node_step _ _ r n le)

  pub node : (i : ℕ) → R (sat (node_sets m ys) i) (val (node_values m t) i)
  unfolding node_sets node_values
  node i = rel_at R zeros (nodes_rel (nodes m) (omega arith)) i
