-- The walk, a step at a time: a leaf, what stops, what is no split, and a split's branches in turn. Assumes nothing.
use mathlib.Core.Path.{◌≡◌, refl, sym, ◌∙◌, ap}
use mathlib.Core.Logic.{◌⊎◌, inl, inr, ⊎_elim}
use mathlib.Core.Bool.{Bool, true, false, true≢false, ◌&&◌, ◌||◌, and-eq-true_iff}
use mathlib.Core.List.{List}
use Prim.Native.Nat.{ℕ, zero, suc, ◌+◌, ◌-◌, ◌≤◌, ◌<◌}
use native.Mathlib.Omega.{arith}
use lib.Dec.{eqb, leb, ltb}
use lib.ListN.{length, get_or, set, length-set}
use lib.Seq.{set-set, set-get_or}
use borrow.Author.Tests.{eqb-true, leb-true, lt-ltb}
use Rattle.std.specs.Prelude.{Option, Some, None, Ok, Err}
use Rattle.meaning.specs.declared.Stop.{Stop}
use Rattle.meaning.specs.declared.Stop.TheVariants.{Malformed, Open}
use Rattle.meaning.specs.declared.Head.{Head}
use Rattle.meaning.specs.declared.Head.TheVariants.{Leaf, Two, Three}
use Rattle.meaning.specs.Base.{pick, half, fold}
use Rattle.meaning.specs.Sets.{has, only, sat}
use Rattle.meaning.specs.Clearance.{Walked, closed_on, leaf_stands, leaf_head, split_head, head_of, on_head, walk_of}
use Rattle.meaning.specs.Findings.{select_of}
use Rattle.meaning.proofs.Folds.{fold_none, fold_more}
use Rattle.meaning.proofs.Tests.{or_cases}
use Rattle.findings.specs.Walks.{walked, splits_at, branches}

-- a walk that stopped stays there
pub stays : (m f ys : List ℕ) (left : ℕ) (e : Stop) → Err e ≡ walked m f left (Err e) ys
unfolding walk_of
stays m f ys zero e = refl
stays m f ys (suc k) e = refl

-- nothing but a leaf goes on where no split is allowed
not-leaf : (m : List ℕ) (q : ℕ) (ys : List ℕ) (at : ℕ) (h : Option Head) → ((rule place next : ℕ) → h ≡ Some (Leaf rule place next) → ⊥)
    → on_head m q (λ w zs. Err (Malformed at)) ys at h ≡ Err (Malformed at)
not-leaf m q ys at None k = refl
not-leaf m q ys at (Some (Leaf rule place next)) k = absurd (k rule place next refl)
not-leaf m q ys at (Some (Two s next)) k = refl
not-leaf m q ys at (Some (Three s next)) k = refl

-- A LEAF, or what is malformed, as if no split were allowed
module _ (m f ys : List ℕ) (at : ℕ) {q : ℕ} (h : Option Head) (eq : q ≡ half f 0) (eh : h ≡ head_of m q f ys at) where
  at_head : walked m f 0 (Ok at) ys ≡ on_head m q (λ w zs. Err (Malformed at)) ys at h
  unfolding walk_of select_of
  at_head = rw (eh, eq)

  module _ {rule place next : ℕ} (el : h ≡ Some (Leaf rule place next)) {x : Bool} (ex : x ≡ closed_on m q ys rule place) where
    pub leaf-closed : x ≡ true → Ok next ≡ walked m f 0 (Ok at) ys
    leaf-closed t = sym (at_head ∙ (rw (el, ← ex, t)))

    pub leaf_open : x ≡ false → Err (Open at) ≡ walked m f 0 (Ok at) ys
    leaf_open t = sym (at_head ∙ (rw (el, ← ex, t)))

  pub leaf-not : ((rule place next : ℕ) → h ≡ Some (Leaf rule place next) → ⊥) → Err (Malformed at) ≡ walked m f 0 (Ok at) ys
  leaf-not k = sym (at_head ∙ not-leaf m q ys at h k)

-- WHAT IS NO SPLIT is walked alike however many splits are allowed
module _ (m : List ℕ) (q : ℕ) (f ys : List ℕ) (at : ℕ) (b d : Walked → List ℕ → Walked) where
  Alike : Option Head → Type 0
  Alike h = on_head m q b ys at h ≡ on_head m q d ys at h

  alike-leaf : (t : Bool) (rule place next : ℕ) → Alike (pick t (Some (Leaf rule place next)) None)
  unfolding Alike
  alike-leaf true rule place next = refl
  alike-leaf false rule place next = refl

  alike_bad : (x y : Bool) (s n : ℕ) → (x || y) ≡ false → Alike (pick x (Some (Two s n)) (pick y (Some (Three s n)) None))
  unfolding Alike
  alike_bad true y s n e = absurd (true≢false e)
  alike_bad false true s n e = absurd (true≢false e)
  alike_bad false false s n e = refl

  alike : splits_at f ys at ≡ false → Alike (head_of m q f ys at)
  unfolding splits_at head_of leaf_head split_head
  alike e = by (eqb (get_or f at 0) 1 && leb (at + 4) (length f)) (eqb (get_or f at 0) 0 && leb (at + 3) (length f)) e
    where
      a : ℕ
      a = sat ys (half f (at + 1))

      by : (x y : Bool) → (y && (eqb a 5 || eqb a 7)) ≡ false
          → Alike (pick x (leaf_head m q (get_or f (at + 1) 0) (half f (at + 2)) (at + 4)) (pick y (split_head a (half f (at + 1)) (at + 3)) None))
      by true y z = alike-leaf (leaf_stands m q (get_or f (at + 1) 0) (half f (at + 2))) _ _ _
      by false true z = alike_bad (eqb a 5) (eqb a 7) _ _ z
      by false false z = alike-leaf false 0 0 0

pub no_split : (m f ys : List ℕ) (left at : ℕ) {s : Bool} → s ≡ splits_at f ys at → (ltb 0 left && s) ≡ false
    → walked m f 0 (Ok at) ys ≡ walked m f left (Ok at) ys
unfolding walk_of Alike
no_split m f ys zero at es t = refl
no_split m f ys (suc k) at es t = alike m (select_of f) f ys at (λ w zs. Err (Malformed at)) (walk_of m (select_of f) f k) (sym es ∙ (rw (lt-ltb 0 (suc k) (omega arith)) at t))

-- A SPLIT: its head, and its branches in turn
module _ (m f ys : List ℕ) (at : ℕ) (on : splits_at f ys at ≡ true) where
  set_there : ℕ
  set_there = sat ys (half f (at + 1))

  tests : (get_or f at 0 ≡ 0) × (leb (at + 3) (length f) ≡ true) × ((set_there ≡ 5) ⊎ (set_there ≡ 7))
  unfolding splits_at set_there
  tests =
      let x = (and-eq-true_iff (eqb (get_or f at 0) 0 && leb (at + 3) (length f)) (eqb set_there 5 || eqb set_there 7)).0 on in
      let y = (and-eq-true_iff (eqb (get_or f at 0) 0) (leb (at + 3) (length f))).0 x.0 in
      (eqb-true (get_or f at 0) 0 y.0, y.1, ⊎_elim (λ e. inl (eqb-true set_there 5 e)) (λ e. inr (eqb-true set_there 7 e)) (or_cases (eqb set_there 5) (eqb set_there 7) x.1))

  pub in_finding : at + 3 ≤ length f
  in_finding = leb-true (at + 3) (length f) tests.1

  split_head_lem : (q : ℕ) → head_of m q f ys at ≡ split_head set_there (half f (at + 1)) (at + 3)
  unfolding head_of set_there
  split_head_lem q = rw (tests.0, tests.1)

  pub all_branches : (left : ℕ) {s a : ℕ} → 0 < left → s ≡ half f (at + 1) → a ≡ sat ys s
      → branches m f (left - 1) ys s a (Ok (at + 3)) 3 ≡ walked m f left (Ok at) ys
  unfolding branches fold walk_of has only split_head set_there
  all_branches zero lt es ea = absurd (omega arith)
  all_branches (suc k) {s} {a} lt es ea =
      let ha : set_there ≡ a = rw (ea, es) in
      let hd : head_of m (select_of f) f ys at ≡ split_head a s (at + 3) = split_head_lem (select_of f) ∙ (rw (ha, es)) in
      let w : walked m f (suc k) (Ok at) ys ≡ on_head m (select_of f) (walk_of m (select_of f) f k) ys at (split_head a s (at + 3)) =
      ap (on_head m (select_of f) (walk_of m (select_of f) f k) ys at) hd in
      ⊎_elim
      (λ e. let q : a ≡ 5 = sym ha ∙ e in let u : suc k - 1 ≡ k = omega arith in rw (w, u, q))
      (λ e. let q : a ≡ 7 = sym ha ∙ e in let u : suc k - 1 ≡ k = omega arith in rw (w, u, q))
      tests.2

-- one branch more, over a room zs that differs from ys at s alone
module _ (m f ys : List ℕ) (left s a : ℕ) where
  pub turns_none : (n : ℕ) → Ok n ≡ branches m f left ys s a (Ok n) 0
  unfolding branches
  turns_none n = fold_none _ (Ok n)

  module _ (from : Walked) (v : ℕ) (c d : Walked) {h : Bool} (ec : c ≡ branches m f left ys s a from v) (eh : h ≡ has a v) where
    pub turn-walked : (zs : List ℕ) {p : List ℕ} {o : ℕ} → h ≡ true → o ≡ only v → ((z : ℕ) → set zs s z ≡ set ys s z) → p ≡ set zs s o
        → d ≡ walked m f left c p → d ≡ branches m f left ys s a from (v + 1)
    unfolding branches
    turn-walked zs t eo same ep ed = fold_more _ from v ec (rw (← eh, t, ← same (only v), ← eo, ← ep) ed)

    pub turn_skipped : h ≡ false → d ≡ c → d ≡ branches m f left ys s a from (v + 1)
    unfolding branches
    turn_skipped t ed = fold_more _ from v ec (rw (← eh, t, ed))

pub still_same : (ys zs : List ℕ) (s o : ℕ) {p q : List ℕ} → ((z : ℕ) → set zs s z ≡ set ys s z) → p ≡ set zs s o → q ≡ p
    → (z : ℕ) → set q s z ≡ set ys s z
still_same ys zs s o same ep eq z = rw (eq, ep, set-set) (same z)

pub same_size : (zs : List ℕ) (s o : ℕ) {p q : List ℕ} {n : ℕ} → p ≡ set zs s o → q ≡ p → length zs ≡ n → length q ≡ n
same_size zs s o ep eq el = rw (eq, ep, length-set) el

pub put_back : (ys zs : List ℕ) (s : ℕ) {a : ℕ} {r : List ℕ} → ((z : ℕ) → set zs s z ≡ set ys s z) → a ≡ sat ys s → r ≡ set zs s a → r ≡ ys
put_back ys zs s {a} same ea er = er ∙ same a ∙ (rw ea (set-get_or ys s 1))
