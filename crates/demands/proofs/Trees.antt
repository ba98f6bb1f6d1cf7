-- A tree that is written out is walked through wherever it stands: a leaf that may stand and is closed, and a split of branches that are
-- walked through. Assumes nothing.
use Prim.Native.Nat.{ℕ, zero, suc, ◌+◌, ◌/◌, ◌%◌, ◌≤◌}
use mathlib.Core.Path.{◌≡◌}
use mathlib.Core.Bool.{true}
use mathlib.Core.List.{List, [], ◌∷◌, ◌++◌}
use native.Mathlib.Omega.{arith}
use lib.ListN.{length, set}
use borrow.Author.Tests.{le-leb}
use Rattle.std.specs.Prelude.{Some, Ok}
use Rattle.meaning.specs.declared.Head.TheVariants.{Leaf}
use Rattle.meaning.specs.Sets.{sat}
use Rattle.meaning.specs.Clearance.{leaf_stands, closed_on, leaf_head, split_head, head_of, walk_of}
use Rattle.demands.proofs.Bytes.{At, at_read, at_skip, at_assoc, at_half}

module _ (m : List ℕ) (q : ℕ) (f : List ℕ) where
  -- what stands at an offset
  read_leaf : (ys : List ℕ) (at rule place : ℕ) (l : List ℕ) → At f at (1 ∷ rule ∷ place % 256 ∷ place / 256 ∷ l)
      → leaf_stands m q rule place ≡ true → head_of m q f ys at ≡ Some (Leaf rule place (at + 4))
  unfolding head_of leaf_head
  read_leaf ys at rule place l h ok =
      let h₁ = at_skip f at (1 ∷ []) _ h in
      let h₂ = at_skip f at (1 ∷ rule ∷ []) _ h in
      let fits : at + 4 ≤ length f = omega arith in
      rw (at_read f at 1 _ h, le-leb (at + 4) (length f) fits, at_read f (at + 1) rule _ h₁, at_half f (at + 2) place _ h₂, ok)

  read_split : (ys : List ℕ) (at s : ℕ) (l : List ℕ) → At f at (0 ∷ s % 256 ∷ s / 256 ∷ l) → head_of m q f ys at ≡ split_head (sat ys s) s (at + 3)
  unfolding head_of
  read_split ys at s l h =
      let h₁ = at_skip f at (0 ∷ []) _ h in
      let fits : at + 3 ≤ length f = omega arith in
      rw (at_read f at 0 _ h, le-leb (at + 3) (length f) fits, at_half f (at + 1) s _ h₁)

  -- the walk from `at`, with k splits left, goes on at `to`, and there stands the rest
  pub record Reached (k at : ℕ) (ys rest : List ℕ) : Type 0 where
    pub to : ℕ
    pub walk : walk_of m q f k (Ok at) ys ≡ Ok to
    pub left : At f to rest

  -- so are the bytes of a tree, in the sets ys
  abbrev pub WalkedThrough : ℕ → List ℕ → List ℕ → Type 0
  WalkedThrough k ys bytes = (rest : List ℕ) (at : ℕ) → At f at (bytes ++ rest) → Reached k at ys rest

  pub leaf_walked : (k : ℕ) (ys : List ℕ) (rule place : ℕ) → leaf_stands m q rule place ≡ true → closed_on m q ys rule place ≡ true
      → WalkedThrough k ys (1 ∷ rule ∷ place % 256 ∷ place / 256 ∷ [])
  unfolding walk_of
  leaf_walked k ys rule place ok closed rest at h =
      record {
        to = at + 4;
        walk = by k (read_leaf ys at rule place rest h ok);
        left = at_skip f at (1 ∷ rule ∷ place % 256 ∷ place / 256 ∷ []) rest h;
      }
    where
      by : (k : ℕ) → head_of m q f ys at ≡ Some (Leaf rule place (at + 4)) → walk_of m q f k (Ok at) ys ≡ Ok (at + 4)
      by zero e = rw (e, closed)
      by (suc k) e = rw (e, closed)

  pub two-walked : (k : ℕ) (ys : List ℕ) (s : ℕ) (a b : List ℕ) → sat ys s ≡ 5 → WalkedThrough k (set ys s 1) a → WalkedThrough k (set ys s 4) b
      → WalkedThrough (suc k) ys (0 ∷ s % 256 ∷ s / 256 ∷ (a ++ b))
  unfolding walk_of split_head
  two-walked k ys s a b two wa wb rest at h =
      let ra = wa (b ++ rest) (at + 3) (at_assoc f _ a b rest (at_skip f at (0 ∷ s % 256 ∷ s / 256 ∷ []) _ h)) in
      let rb = wb rest ra.to ra.left in
      record { to = rb.to; walk = rw (read_split ys at s _ h, two, ra.walk, rb.walk); left = rb.left }

  pub three-walked : (k : ℕ) (ys : List ℕ) (s : ℕ) (a b c : List ℕ) → sat ys s ≡ 7 → WalkedThrough k (set ys s 1) a
      → WalkedThrough k (set ys s 2) b → WalkedThrough k (set ys s 4) c → WalkedThrough (suc k) ys (0 ∷ s % 256 ∷ s / 256 ∷ (a ++ (b ++ c)))
  unfolding walk_of split_head
  three-walked k ys s a b c three wa wb wc rest at h =
      let ra = wa ((b ++ c) ++ rest) (at + 3) (at_assoc f _ a (b ++ c) rest (at_skip f at (0 ∷ s % 256 ∷ s / 256 ∷ []) _ h)) in
      let rb = wb (c ++ rest) ra.to (at_assoc f _ b c rest ra.left) in
      let rc = wc rest rb.to rb.left in
      record { to = rc.to; walk = rw (read_split ys at s _ h, three, ra.walk, rb.walk, rc.walk); left = rc.left }
