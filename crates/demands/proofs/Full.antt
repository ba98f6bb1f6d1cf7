-- COMPLETE: where no readable table that breaks no rule leaves the select unmet, the complete clearance is accepted. Each of its leaves
-- stands and is closed, and it has no more than 64 splits on a path, since it is short enough to be read. Assumes nothing.
use Prim.Native.Nat.{ℕ, zero, suc, ◌*◌, ◌/◌, ◌%◌, ◌^◌, ◌≤◌, ◌<◌}
use mathlib.Core.Path.{◌≡◌, refl, sym, ◌∙◌, ap}
use mathlib.Core.Bool.{Bool, true, false}
use mathlib.Core.Logic.{⊎_elim}
use mathlib.Core.List.{List, [], ◌∷◌, ◌++◌, map, append_assoc, append-nil, map-append}
use native.Mathlib.Nat.{not-suc-le-zero, pow-suc}
use native.Mathlib.Omega.{arith}
use lib.Dec.{eqb}
use lib.Pow.{pow_mono}
use lib.ListN.{length, get_or, set, length-append}
use lib.Seq.{get_or_at, set_at}
use borrow.Author.Tests.{eq-eqb}
use Rattle.std.proofs.lemmas.Bool.{cases_lt}
use Rattle.std.specs.Prelude.{Ok, Err}
use Rattle.meaning.specs.Base.{Outcome, Clean, pick, tabulate, when}
use Rattle.meaning.specs.Book.{symbols, selects, type_of, WellFormed}
use Rattle.meaning.specs.Table.{table_fault}
use Rattle.meaning.specs.Values.{val}
use Rattle.meaning.specs.Rules.{rule_fault, unmet}
use Rattle.meaning.specs.Sets.{has, only, full, full_sets, sat}
use Rattle.meaning.specs.Picks.{In}
use Rattle.meaning.specs.Findings.{select_of, finding_kind, clearance_fault, bytes_of, table_of, leaf_bytes, complete_tree, complete}
use Rattle.meaning.proofs.Folds.{tabulate_at, tabulate_past, tabulate-length}
use Rattle.demands.specs.Refused.{GoodHead}
use Rattle.demands.proofs.Lifts.{full_n, Is, is_lifts}
use Rattle.demands.proofs.Relate.{Rel, nil, cons, snoc, rel_at}
use Rattle.demands.proofs.Bytes.{At, at_whole, at_read, at_skip, at_half}
use Rattle.demands.proofs.Trees.{WalkedThrough, leaf_walked, two-walked, three-walked}
use Rattle.demands.proofs.Leaves.{readable, Good, good_rules, good20}

rel_length : {R : ℕ → ℕ → Type 0} {ss vs : List ℕ} → Rel R ss vs → length ss ≡ length vs
rel_length nil = refl
rel_length (cons a l) = ap suc (rel_length l)

-- the types of the symbols
abbrev types : List ℕ → List ℕ
types m = tabulate (type_of m) (symbols m)

-- a value that a type allows
abbrev Allows : ℕ → ℕ → Type 0
Allows y v = In (full y) v

-- THE PATHS of the complete tree: what is chosen for the first symbols, and all that the types allow for those left
record Chosen (m ts vs ys : List ℕ) : Type 0 where
  ss : List ℕ
  us : List ℕ
  chosen : Rel Is ss vs
  fits : Rel Allows us vs
  sets : ys ≡ ss ++ map full ts
  types : types m ≡ us ++ ts

module _ (m : List ℕ) (y : ℕ) (ts vs ys : List ℕ) (p : Chosen m (y ∷ ts) vs ys) where
  next_full : sat ys (length vs) ≡ full y
  next_full = rw p.sets (get_or_at p.ss (full y) (map full ts) 1 (length vs) (rel_length p.chosen))

  next_chosen : (x v : ℕ) → Is x v → Allows y v → Chosen m ts (vs ++ (v ∷ [])) (set ys (length vs) x)
  next_chosen x v i h =
      record {
        ss = p.ss ++ (x ∷ []);
        us = p.us ++ (y ∷ []);
        chosen = snoc Is p.chosen i;
        fits = snoc Allows p.fits h;
        sets =
            rw p.sets (set_at p.ss (full y) (map full ts) x (length vs) (rel_length p.chosen))
            ∙ sym (append_assoc p.ss (x ∷ []) (map full ts));
        types = p.types ∙ sym (append_assoc p.us (y ∷ []) ts);
      }

full-map : (g : ℕ → ℕ) (n : ℕ) → tabulate (λ s. full (g s)) n ≡ map full (tabulate g n)
unfolding tabulate
full-map g zero = refl
full-map g (suc n) = ap (λ (l : List ℕ). l ++ (full (g n) ∷ [])) (full-map g n) ∙ sym (map-append full (tabulate g n) (g n ∷ []))

-- THE HEAD, and where the tree stands
module _ (m : List ℕ) (q : ℕ) where
  abbrev tree : List ℕ
  tree = complete_tree m q (types m) []

  bytes : At (complete m q) 0 (q % 256 ∷ q / 256 ∷ 1 ∷ 0 ∷ tree)
  unfolding complete bytes_of
  bytes = at_whole (complete m q)

  pub complete-select : select_of (complete m q) ≡ q
  unfolding select_of
  complete-select = at_half (complete m q) 0 q _ bytes

  pub complete-kind : finding_kind (complete m q) ≡ 1
  unfolding finding_kind
  complete-kind = at_read (complete m q) 2 1 _ (at_skip (complete m q) 0 (q % 256 ∷ q / 256 ∷ []) _ bytes)

  zero_is : get_or (complete m q) 3 0 ≡ 0
  zero_is = at_read (complete m q) 3 0 _ (at_skip (complete m q) 0 (q % 256 ∷ q / 256 ∷ 1 ∷ []) _ bytes)

  tree_at : At (complete m q) 4 tree
  tree_at = at_skip (complete m q) 0 (q % 256 ∷ q / 256 ∷ 1 ∷ 0 ∷ []) tree bytes

module _ (m : List ℕ) (q : ℕ) (wf : WellFormed m) (all : (s : ℕ) → s < symbols m → type_of m s ≤ 1)
    (clear : (t : List ℕ) → table_fault t (symbols m) ≡ Clean → rule_fault m t ≡ Clean → unmet m t q ≡ false) where
  module _ (vs ys : List ℕ) (p : Chosen m [] vs ys) where
    size : length vs ≡ symbols m
    size = sym (rel_length p.fits) ∙ ap length (sym (append-nil p.us) ∙ sym p.types) ∙ tabulate-length (type_of m) (symbols m)

    alone : (i : ℕ) → Is (sat ys i) (val vs i)
    unfolding only
    alone i =
        rw (p.sets, append-nil p.ss) (rel_at Is (is_lifts.alone 0 (omega arith)) p.chosen i)

    allowed : (i : ℕ) → i < symbols m → In (full (type_of m i)) (val vs i)
    allowed i lt =
        let e : p.us ≡ types m = sym (append-nil p.us) ∙ sym p.types in
        rw (e, tabulate_at (type_of m) 1 (symbols m) i lt) at (rel_at Allows (full_n 1) p.fits i)

    leaf : (f : List ℕ) (k : ℕ) (o : Outcome) → rule_fault m (table_of vs) ≡ o → Good m q wf all vs ys size alone allowed o
        → WalkedThrough m q f k ys (leaf_bytes q o)
    unfolding bytes_of
    leaf f k (Ok tt) e g =
        let s = good20 m q wf all vs ys size alone allowed (clear (table_of vs) (readable m q wf all vs ys size alone allowed) e) in
        leaf_walked m q f k ys 20 q s.0 s.1
    leaf f k (Err o) e g = leaf_walked m q f k ys o.number o.place g.0 g.1

  is_n : Is 1 0
  unfolding only
  is_n = is_lifts.alone 0 (omega arith)

  is_m : Is 2 1
  unfolding only
  is_m = is_lifts.alone 1 (omega arith)

  is_y : Is 4 2
  unfolding only
  is_y = is_lifts.alone 2 (omega arith)

  -- THE TREE, over the types of the symbols left
  tree_walked : (f ts vs ys : List ℕ) (k : ℕ) → Chosen m ts vs ys → ((i : ℕ) → get_or ts i 0 ≤ 1) → length ts ≤ k
      → WalkedThrough m q f k ys (complete_tree m q ts vs)
  unfolding complete_tree bytes_of full has
  tree_walked f [] vs ys k p small le =
      leaf vs ys p f k (rule_fault m (table_of vs)) refl (good_rules m q wf all vs ys (size vs ys p) (alone vs ys p) (allowed vs ys p))
  tree_walked f (y ∷ ts) vs ys zero p small le = absurd (not-suc-le-zero le)
  tree_walked f (zero ∷ ts) vs ys (suc k) p small le =
      let next = next_chosen m 0 ts vs ys p in
      let below : ℕ → List ℕ = λ v. complete_tree m q ts (vs ++ (v ∷ [])) in
      two-walked m q f k ys (length vs) (below 0) (below 2) (next_full m 0 ts vs ys p)
      (tree_walked f ts _ _ k (next 1 0 is_n refl) (λ i. small (suc i)) (omega arith))
      (tree_walked f ts _ _ k (next 4 2 is_y refl) (λ i. small (suc i)) (omega arith))
  tree_walked f (suc zero ∷ ts) vs ys (suc k) p small le =
      let next = next_chosen m 1 ts vs ys p in
      let below : ℕ → List ℕ = λ v. complete_tree m q ts (vs ++ (v ∷ [])) in
      three-walked m q f k ys (length vs) (below 0) (below 1) (below 2) (next_full m 1 ts vs ys p)
      (tree_walked f ts _ _ k (next 1 0 is_n refl) (λ i. small (suc i)) (omega arith))
      (tree_walked f ts _ _ k (next 2 1 is_m refl) (λ i. small (suc i)) (omega arith))
      (tree_walked f ts _ _ k (next 4 2 is_y refl) (λ i. small (suc i)) (omega arith))
  tree_walked f (suc (suc y) ∷ ts) vs ys (suc k) p small le = absurd (omega (arith, small 0))

  types_small : (i : ℕ) → get_or (types m) i 0 ≤ 1
  types_small i =
      ⊎_elim
      (λ lt. rw (tabulate_at (type_of m) 0 (symbols m) i lt) (all i lt))
      (λ le. rw (tabulate_past (type_of m) 0 (symbols m) i le) (omega arith))
      (cases_lt i (symbols m))

  start : Chosen m (types m) [] (full_sets m)
  unfolding full_sets
  start = record { ss = []; us = []; chosen = nil; fits = nil; sets = full-map (type_of m) (symbols m); types = refl }

  accepted : symbols m ≤ 64 → clearance_fault m (complete m q) ≡ Clean
  unfolding clearance_fault when
  accepted few =
      let f = complete m q in
      let here : At f 4 (tree m q ++ []) = rw append-nil (tree_at m q) in
      let w = tree_walked f (types m) [] (full_sets m) 64 start types_small (rw (tabulate-length (type_of m) (symbols m)) few) [] 4 here in
      let end : w.to ≡ length f = omega arith in
      rw (complete-select m q, w.walk, eq-eqb w.to (length f) end)

-- LENGTH: it doubles with each symbol at least, so what can be read has few symbols
both_long : (c : Bool) (n : ℕ) (a b d : List ℕ) → n ≤ length a → n ≤ length b → n * 2 ≤ length (pick c (a ++ b) (a ++ (d ++ b)))
both_long true n a b d la lb = omega (arith, length-append a b)
both_long false n a b d la lb = omega (arith, length-append a (d ++ b), length-append d b)

leaf-long : (q : ℕ) (o : Outcome) → 1 ≤ length (leaf_bytes q o)
leaf-long q (Ok tt) = omega arith
leaf-long q (Err f) = omega arith

tree_long : (m : List ℕ) (q : ℕ) (ts vs : List ℕ) → 2 ^ length ts ≤ length (complete_tree m q ts vs)
unfolding complete_tree bytes_of
tree_long m q [] vs = leaf-long q (rule_fault m (table_of vs))
tree_long m q (y ∷ ts) vs =
    let below : ℕ → List ℕ = λ v. complete_tree m q ts (vs ++ (v ∷ [])) in
    let long = both_long (eqb y 0) (2 ^ length ts) (below 0) (below 2) (below 1) (tree_long m q ts _) (tree_long m q ts _) in
    omega (arith, pow-suc 2 (length ts))

few-symbols : (m : List ℕ) (q : ℕ) → length (complete m q) ≤ 65535 → symbols m ≤ 64
few-symbols m q le = ⊎_elim (λ lt. omega arith) (λ many. absurd (long many)) (cases_lt (symbols m) 16)
  where
    long : 16 ≤ symbols m → ⊥
    long many =
        let doubled : 2 ^ symbols m ≤ length (tree m q) = rw (tabulate-length (type_of m) (symbols m)) at (tree_long m q (types m) []) in
        let power : 2 ^ 16 ≡ 65536 = refl in
        omega (arith, pow_mono many, (tree_at m q).ends)

-- THE COMPLETE CLEARANCE as a finding
pub complete_head : (m : List ℕ) (q : ℕ) → q < selects m → length (complete m q) ≤ 65535 → GoodHead m (complete m q)
complete_head m q lt le =
    let select = complete-select m q in
    (omega (arith, (tree_at m q).ends), le, omega arith, omega (arith, complete-kind m q), zero_is m q)

pub complete_tests : (m : List ℕ) (q : ℕ) → WellFormed m → ((s : ℕ) → s < symbols m → type_of m s ≤ 1)
    → ((t : List ℕ) → table_fault t (symbols m) ≡ Clean → rule_fault m t ≡ Clean → unmet m t q ≡ false)
    → length (complete m q) ≤ 65535 → clearance_fault m (complete m q) ≡ Clean
complete_tests m q wf all clear le = accepted m q wf all clear (few-symbols m q le)
