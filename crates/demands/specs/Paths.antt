-- The paths of a clearance, which are the sets that the symbols can have where a leaf stands, and the tree whose leaves are closed. Assumes
-- nothing: these are definitions.
use Rattle.std.specs.Prelude.{ℕ, suc, ◌≡◌, List, set, Some}
use Rattle.meaning.specs.declared.Head.TheVariants.{Leaf, Two, Three}
use Rattle.meaning.specs.Sets.{sat, only, full_sets}
use Rattle.meaning.specs.Picks.{In, Closed}
use Rattle.meaning.specs.Clearance.{head_of}

-- all that the types allow, then one value after another chosen by splits
pub data Path (m : List ℕ) : List ℕ → Type 0 where
  whole : Path m (full_sets m)
  split : {ys : List ℕ} (s v : ℕ) → Path m ys → In (sat ys s) v → Path m (set ys s (only v))

-- a set has a value; each symbol's set has one
abbrev pub NonEmpty : ℕ → Type 0
NonEmpty a = (v : ℕ) × In a v

abbrev pub NonEmptySets : List ℕ → Type 0
NonEmptySets ys = (i : ℕ) → NonEmpty (sat ys i)

-- THE TREE in finding f about select q, with so many splits allowed on a path, where the symbols' sets are ys: from this offset up to that
-- one stands a leaf that is closed under every independent pick, or a split and such a tree for each value, n first
pub data ClosedTree (m : List ℕ) (q : ℕ) (f : List ℕ) : ℕ → List ℕ → ℕ → ℕ → Type 0 where
  leaf : {left : ℕ} {ys : List ℕ} {at : ℕ} (rule place next : ℕ) → head_of m q f ys at ≡ Some (Leaf rule place next) → Closed m q ys rule place
      → ClosedTree m q f left ys at next
  two : {left : ℕ} {ys : List ℕ} {at : ℕ} (s next a to : ℕ) → head_of m q f ys at ≡ Some (Two s next) → ClosedTree m q f left (set ys s (only 0)) next a
      → ClosedTree m q f left (set ys s (only 2)) a to → ClosedTree m q f (suc left) ys at to
  three : {left : ℕ} {ys : List ℕ} {at : ℕ} (s next a b to : ℕ) → head_of m q f ys at ≡ Some (Three s next)
      → ClosedTree m q f left (set ys s (only 0)) next a → ClosedTree m q f left (set ys s (only 1)) a b
      → ClosedTree m q f left (set ys s (only 2)) b to → ClosedTree m q f (suc left) ys at to
