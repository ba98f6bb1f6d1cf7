-- Sets value by value, and a turn of the loops over pairs. Assumes nothing.
use mathlib.Core.Path.{◌≡◌, ◌∙◌, ap}
use mathlib.Core.List.{List, []}
use mathlib.Core.Bool.{Bool, true, false}
use Prim.Native.Nat.{ℕ, ◌+◌, ◌<◌}
use borrow.Author.Tests.{lt-leb}
use Rattle.meaning.specs.Base.{pick, fold, part, same_text}
use Rattle.meaning.specs.Book.{op_of}
use Rattle.meaning.specs.Spell.{spelled}
use Rattle.meaning.specs.Values.{leaf_of, yes_no}
use Rattle.meaning.specs.Sets.{has, with_one, row, pairs, spelled_at, equal_at}
use Rattle.spell.specs.declared.Leaf.{Leaf}
use Rattle.spell.specs.Leaves.{leaf_content, spelled_leaf}
use Rattle.meaning.proofs.Folds.{fold_none, fold_more}

-- PAIRS, a turn at a time
module _ (f : ℕ → ℕ → ℕ) (a b : ℕ) where
  pub cell_with : (x c k : ℕ) {h : Bool} {o v r : ℕ} → o ≡ row f x b c k → h ≡ has b k → h ≡ true → v ≡ f x k → r ≡ with_one o v
      → r ≡ row f x b c (k + 1)
  unfolding row
  cell_with x c k eo eh t ev er = fold_more _ c k eo (rw (← eh, t, ← ev) er)

  pub cell_skip : (x c k : ℕ) {h : Bool} {o r : ℕ} → o ≡ row f x b c k → h ≡ has b k → h ≡ false → r ≡ o → r ≡ row f x b c (k + 1)
  unfolding row
  cell_skip x c k eo eh t er = fold_more _ c k eo (rw (← eh, t) er)

  pub rows : ℕ → ℕ
  rows = fold (λ x c. pick (has a x) (row f x b c 3) c) 0

  pub rows_none : 0 ≡ rows 0
  unfolding rows
  rows_none = fold_none _ 0

  pub row_none : (x c : ℕ) → c ≡ row f x b c 0
  unfolding row
  row_none x c = fold_none _ c

  pub rows_with : (k : ℕ) {h : Bool} {o r n : ℕ} → o ≡ rows k → h ≡ has a k → h ≡ true → n ≡ 3 → r ≡ row f k b o n → r ≡ rows (k + 1)
  unfolding rows
  rows_with k eo eh t en er = fold_more _ 0 k eo (rw (← eh, t, ← en) er)

  pub rows_skip : (k : ℕ) {h : Bool} {o r : ℕ} → o ≡ rows k → h ≡ has a k → h ≡ false → r ≡ o → r ≡ rows (k + 1)
  unfolding rows
  rows_skip k eo eh t er = fold_more _ 0 k eo (rw (← eh, t) er)

  pub rows_all : {o n : ℕ} → o ≡ rows n → n ≡ 3 → o ≡ pairs f a b
  unfolding rows pairs
  rows_all eo en = rw en at eo

-- EQUALITIES: a leaf at a value, two of them, and their sets
pub none_part : (m : List ℕ) {t : List ℕ} → t ≡ part m 0 0 → t ≡ []
unfolding part
none_part m e = e

module _ (m : List ℕ) (i v : ℕ) {op : ℕ} (eo : op ≡ op_of m i) where
  pub at_other : {t : List ℕ} (l : Leaf) → 1 < op → t ≡ part m 0 0 → leaf_content m t l ≡ leaf_of m t i → spelled_leaf m [] l ≡ spelled_at m i v
  unfolding spelled_at
  at_other l h et e = rw (← eo, lt-leb op 1 h) (ap spelled (rw (none_part m et) at e))

pub equal_at_is : (m : List ℕ) (i j v x : ℕ) {t : List ℕ} {h k : Bool} {r : ℕ} (a b : Leaf) → t ≡ part m 0 0
    → spelled_leaf m [] a ≡ spelled_at m i v → spelled_leaf m [] b ≡ spelled_at m j x
    → h ≡ same_text (spelled_leaf m t a) (spelled_leaf m t b) → h ≡ k → r ≡ yes_no k → r ≡ equal_at m i j v x
unfolding equal_at
equal_at_is m i j v x a b et ea eb eh ek er = er ∙ rw (← ek, ← ea, ← eb, ← none_part m et) (ap yes_no eh)
