-- The walk goes through exactly where a tree stands whose leaves are closed; and what each closed leaf says of the values in its sets, such a
-- tree says of all values in the sets that it began with, since a split leaves no value out. Assumes nothing.
use Prim.Native.Nat.{ℕ, zero, suc}
use mathlib.Core.Path.{◌≡◌, refl, ◌∙◌, ap, subst}
use mathlib.Core.Bool.{true}
use mathlib.Core.Logic.{◌⊎◌, inl, inr, ◌↔◌, ⊎_elim}
use mathlib.Core.List.{List}
use lib.ListN.{length, set}
use borrow.Author.Rules.{rules}
use Rattle.std.specs.Prelude.{Option, Some, None, Ok, Err}
use Rattle.meaning.specs.declared.Stop.TheVariants.{Malformed, Open}
use Rattle.meaning.specs.declared.Head.{Head}
use Rattle.meaning.specs.declared.Head.TheVariants.{Leaf, Two, Three}
use Rattle.meaning.specs.Base.{Clean}
use Rattle.meaning.specs.Sets.{has, only, sat, full_sets}
use Rattle.meaning.specs.Picks.{In, Closed}
use Rattle.meaning.specs.Clearance.{Walked, closed_on, leaf_stands, leaf_head, split_head, head_of, on_head, walk_of}
use Rattle.meaning.specs.Findings.{select_of, walk_fault, clearance_fault}
use Rattle.demands.specs.Paths.{Path, whole, split, ClosedTree, leaf, two, three}
use Rattle.demands.proofs.Bools.{pick-cases, denies_unlike}
use Rattle.demands.proofs.Faults.{clean_when}
use Rattle.demands.proofs.Lifts.{each_of, in_small, only_in}
use Rattle.demands.proofs.Relate.{set_rel}
use Rattle.demands.proofs.Picked.{path_closed_iff}

in_two : (v : ℕ) → In 5 v → (0 ≡ v) ⊎ (2 ≡ v)
unfolding has
in_two v h = search rules

in_three : (v : ℕ) → In 7 v → (0 ≡ v) ⊎ ((1 ≡ v) ⊎ (2 ≡ v))
in_three v h = each_of (λ v. (0 ≡ v) ⊎ ((1 ≡ v) ⊎ (2 ≡ v))) (inl refl) (inr (inl refl)) (inr (inr refl)) v (in_small 7 v h)

module _ (m : List ℕ) (q : ℕ) (f : List ℕ) where
  -- what a head that is read tells
  abbrev HeadOk : List ℕ → Option Head → Type 0
  HeadOk ys None = Unit {0}
  HeadOk ys (Some (Leaf rule place next)) = leaf_stands m q rule place ≡ true
  HeadOk ys (Some (Two s next)) = sat ys s ≡ 5
  HeadOk ys (Some (Three s next)) = sat ys s ≡ 7

  head_ok : (ys : List ℕ) (at : ℕ) → HeadOk ys (head_of m q f ys at)
  unfolding head_of leaf_head split_head
  head_ok ys at = search rules

  read_ok : (ys : List ℕ) (at : ℕ) {h : Option Head} → head_of m q f ys at ≡ h → HeadOk ys h
  read_ok ys at e = subst (HeadOk ys) e (head_ok ys at)

  -- the path into a branch
  into_two : (ys : List ℕ) (s : ℕ) → sat ys s ≡ 5 → Path m ys → Path m (set ys s (only 0)) × Path m (set ys s (only 2))
  unfolding has
  into_two ys s ok p = (split s 0 p (rw ok), split s 2 p (rw ok))

  into_three : (ys : List ℕ) (s : ℕ) → sat ys s ≡ 7 → Path m ys
      → Path m (set ys s (only 0)) × Path m (set ys s (only 1)) × Path m (set ys s (only 2))
  unfolding has
  into_three ys s ok p = (split s 0 p (rw ok), split s 1 p (rw ok), split s 2 p (rw ok))

  -- A WALK that goes through has a tree
  -- it came from one that did, and went on from there
  came : (k : ℕ) (from : Walked) (ys : List ℕ) (e : ℕ) → walk_of m q f k from ys ≡ Ok e
      → (a : ℕ) × (from ≡ Ok a) × (walk_of m q f k (Ok a) ys ≡ Ok e)
  unfolding walk_of
  came k (Ok a) ys e h = (a, refl, h)
  came zero (Err o) ys e h = cc
  came (suc k) (Err o) ys e h = cc

  leaf_tree : (k : ℕ) (ys : List ℕ) (at to rule place next : ℕ) → head_of m q f ys at ≡ Some (Leaf rule place next)
      → on_head m q (λ w zs. w) ys at (Some (Leaf rule place next)) ≡ Ok to → Path m ys → ClosedTree m q f k ys at to
  leaf_tree k ys at to rule place next e r p =
      pick-cases (λ (x : Walked). x ≡ Ok to → ClosedTree m q f k ys at to) (closed_on m q ys rule place)
      (λ c z. let same : next ≡ to = cc in subst (ClosedTree m q f k ys at) same (leaf rule place next e ((path_closed_iff m q ys rule place p).0 c)))
      (λ _ z. cc) r

  last_tree : (ys : List ℕ) (at to : ℕ) (h : Option Head) → head_of m q f ys at ≡ h → on_head m q (λ w zs. Err (Malformed at)) ys at h ≡ Ok to → Path m ys
      → ClosedTree m q f zero ys at to
  last_tree ys at to None e r p = cc
  last_tree ys at to (Some (Leaf rule place next)) e r p = leaf_tree zero ys at to rule place next e r p
  last_tree ys at to (Some (Two s next)) e r p = cc
  last_tree ys at to (Some (Three s next)) e r p = cc

  more_tree : (k : ℕ) → ((ys : List ℕ) (at to : ℕ) → walk_of m q f k (Ok at) ys ≡ Ok to → Path m ys → ClosedTree m q f k ys at to)
      → (ys : List ℕ) (at to : ℕ) (h : Option Head) → head_of m q f ys at ≡ h → on_head m q (walk_of m q f k) ys at h ≡ Ok to → Path m ys
      → ClosedTree m q f (suc k) ys at to
  unfolding only
  more_tree k below ys at to None e r p = cc
  more_tree k below ys at to (Some (Leaf rule place next)) e r p = leaf_tree (suc k) ys at to rule place next e r p
  more_tree k below ys at to (Some (Two s next)) e r p =
      let c = came k _ _ to r in
      let i = into_two ys s (read_ok ys at e) p in
      two s next c.0 to e (below _ _ _ c.1 i.0) (below _ _ _ c.2 i.1)
  more_tree k below ys at to (Some (Three s next)) e r p =
      let d = came k _ _ to r in
      let c = came k _ _ d.0 d.1 in
      let i = into_three ys s (read_ok ys at e) p in
      three s next c.0 d.0 to e (below _ _ _ c.1 i.0) (below _ _ _ c.2 i.1) (below _ _ _ d.2 i.2)

  walk_tree : (k : ℕ) (ys : List ℕ) (at to : ℕ) → walk_of m q f k (Ok at) ys ≡ Ok to → Path m ys → ClosedTree m q f k ys at to
  unfolding walk_of
  walk_tree zero ys at to r p = last_tree ys at to (head_of m q f ys at) refl r p
  walk_tree (suc k) ys at to r p = more_tree k (walk_tree k) ys at to (head_of m q f ys at) refl r p

  -- and a tree is walked through
  tree_walk : {k : ℕ} {ys : List ℕ} {at to : ℕ} → ClosedTree m q f k ys at to → Path m ys → walk_of m q f k (Ok at) ys ≡ Ok to
  unfolding walk_of only
  tree_walk {k = zero} {ys = ys} (leaf rule place next e c) p = rw (e, (path_closed_iff m q ys rule place p).1 c)
  tree_walk {k = suc k} {ys = ys} (leaf rule place next e c) p = rw (e, (path_closed_iff m q ys rule place p).1 c)
  tree_walk {ys = ys} {at = at} (two s next a to e n-tree y-tree) p =
      let i = into_two ys s (read_ok ys at e) p in rw (e, tree_walk n-tree i.0, tree_walk y-tree i.1)
  tree_walk {ys = ys} {at = at} (three s next a b to e n-tree m-tree y-tree) p =
      let i = into_three ys s (read_ok ys at e) p in rw (e, tree_walk n-tree i.0, tree_walk m-tree i.1, tree_walk y-tree i.2)

  -- WHAT A TREE SAYS of the symbols' values v, where each of its leaves says P of the values in its sets
  module _ (v : ℕ → ℕ) (P : Type 0)
      (says : (ys : List ℕ) (rule place : ℕ) → ((i : ℕ) → In (sat ys i) (v i)) → leaf_stands m q rule place ≡ true → Closed m q ys rule place → P) where
    abbrev Within : List ℕ → Type 0
    Within ys = (i : ℕ) → In (sat ys i) (v i)

    -- the branch of the symbol's own value
    branch : (ys : List ℕ) (s x : ℕ) → Within ys → x ≡ v s → Within (set ys s (only x))
    branch ys s x w e =
        let own : In (sat ys s) x = rw e (w s) in
        set_rel In ys v w s (only x) (subst (In (only x)) e (only_in x (in_small (sat ys s) x own)))

    pub tree_says : {k : ℕ} {ys : List ℕ} {at to : ℕ} → ClosedTree m q f k ys at to → Within ys → P
    tree_says {ys = ys} {at = at} (leaf rule place next e c) w = says ys rule place w (read_ok ys at e) c
    tree_says {ys = ys} {at = at} (two s next a to e n-tree y-tree) w =
        ⊎_elim (λ z. tree_says n-tree (branch ys s 0 w z)) (λ z. tree_says y-tree (branch ys s 2 w z)) (in_two (v s) (rw (read_ok ys at e) at (w s)))
    tree_says {ys = ys} {at = at} (three s next a b to e n-tree m-tree y-tree) w =
        ⊎_elim (λ z. tree_says n-tree (branch ys s 0 w z))
        (⊎_elim (λ z. tree_says m-tree (branch ys s 1 w z)) (λ z. tree_says y-tree (branch ys s 2 w z)))
        (in_three (v s) (rw (read_ok ys at e) at (w s)))

-- A CLEARANCE is accepted exactly where its bytes behind the head are one such tree, to the end
pub clearance_iff : (m f : List ℕ) → (clearance_fault m f ≡ Clean) ↔ ClosedTree m (select_of f) f 64 (full_sets m) 4 (length f)
unfolding clearance_fault
clearance_iff m f = (
  by (walk_of m (select_of f) f 64 (Ok 4) (full_sets m)) refl,
  (λ t. rw (tree_walk m (select_of f) f t whole) ((ended (length f)).1 refl)),
)
  where
    ended : (at : ℕ) → (walk_fault f (Ok at) ≡ Clean) ↔ (at ≡ length f)
    ended at = clean_when 22 at 65535 (denies_unlike at (length f))

    by : (w : Walked) → walk_of m (select_of f) f 64 (Ok 4) (full_sets m) ≡ w → walk_fault f w ≡ Clean
        → ClosedTree m (select_of f) f 64 (full_sets m) 4 (length f)
    by (Ok to) e c = walk_tree m (select_of f) f 64 (full_sets m) 4 (length f) (e ∙ ap Ok ((ended to).0 c)) whole
    by (Err (Malformed at)) e c = cc
    by (Err (Open at)) e c = cc
