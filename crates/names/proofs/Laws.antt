-- The bytes of a name by eights, names that are alike, links from each name of a block to the one before it of its link, what a walk along them shows, and the rooms of a block. Assumes nothing.
use mathlib.Core.Path.{◌≡◌, refl, sym, ◌∙◌, ap}
use mathlib.Core.Bool.{Bool, true, false, ◌&&◌, not, true≢false}
use mathlib.Core.List.{List, [], ◌∷◌, ◌++◌}
use mathlib.Core.Logic.{⊎_elim}
use Prim.Native.Nat.{ℕ, zero, suc, ◌+◌, ◌-◌, ◌*◌, ◌≤◌, ◌<◌}
use native.Mathlib.Nat.{eq-or-lt_of_le, le_of_suc-le-suc}
use native.Mathlib.Omega.{arith}
use native.Mathlib.Numerals.{add-one}
use lib.Dec.{eqb, leb, ltb}
use lib.ListN.{length, drop, get_or, get_or-append, length-append, length-drop, set, replicate, get_or-replicate}
use lib.Seq.{drop-append_seam, get_or-drop, get_or-set_same, get_or-set_other}
use borrow.Author.Tests.{eq-eqb, eqb-true, eqb-false, ltb-true, ltb-false}
use borrow.Author.Count.{below_more}
use Rattle.std.proofs.lemmas.List.{drop-drop}
use Rattle.std.specs.Prelude.{Option, Some, None, is_some, MatchOption}
use Rattle.meaning.specs.Base.{Fault}
use Rattle.meaning.specs.Base.{half, word, pick, same_text, when}
use Rattle.meaning.specs.Book.{nodes, type_of, prompt_of, depend_of, spelled_name, name_ok, other_name, new_name, symbol_ok, record_ok, record_at}
use Rattle.meaning.proofs.Below.{all_every, all_stop}
use Rattle.meaning.proofs.Tests.{same_text_lem}
use Rattle.names.specs.Keys.{key_of, name_key, link_of, first_mark, second_mark, Marked, last_with, link_at, Linked, Headed, AllMarked, Different, NotAmong}

-- EIGHTS: the next eight bytes of a text, and what is left of it behind them
pub next_eight : (name eight rest : List ℕ) (k : ℕ) → drop (8 * k) name ≡ eight ++ rest → length eight ≡ 8
    → (rest ≡ drop (8 * (k + 1)) name) × (word eight 0 ≡ word name (8 * k)) × (word eight 4 ≡ word name (8 * k + 4)) × (8 * (k + 1) ≤ length name)
unfolding word half
next_eight name eight rest k e size = (
  sym cut ∙ drop-drop 8 (8 * k) name ∙ ap (λ i. drop i name) on,
  omega (arith, at 0 (8 * k) (omega arith) (omega arith), at 1 (8 * k + 1) (omega arith) refl, at 2 (8 * k + 2) (omega arith) refl, at 3 (8 * k + 2 + 1) (omega arith) (omega arith)),
  omega (arith, at 4 (8 * k + 4) (omega arith) refl, at 5 (8 * k + 4 + 1) (omega arith) (omega arith), at 6 (8 * k + 4 + 2) (omega arith) (omega arith), at 7 (8 * k + 4 + 2 + 1) (omega arith) (omega arith)),
  omega (arith, ap length e, length-drop (8 * k) name, length-append eight rest, size),
)
  where
    on : 8 * k + 8 ≡ 8 * (k + 1)
    on = omega arith

    cut : drop 8 (drop (8 * k) name) ≡ rest
    cut = rw e (rw size at (drop-append_seam eight rest))

    at : (i j : ℕ) → i < 8 → j ≡ 8 * k + i → get_or eight i 0 ≡ get_or name j 0
    at i j l h = sym (get_or-append eight rest 0 i (omega (arith, size))) ∙ ap (λ v. get_or v i 0) (sym e) ∙ get_or-drop (8 * k) name i 0 ∙ ap (λ a. get_or name a 0) (sym h)

-- NAMES. A text is the same as itself, so two that are not the same are not equal
same_self : (a : List ℕ) → same_text a a ≡ true
unfolding same_text
same_self [] = refl
same_self (x ∷ a) = rw (eq-eqb x x refl, same_self a)

pub texts_differ : (a b : List ℕ) {q : Bool} → q ≡ same_text a b → q ≡ false → a ≡ b → ⊥
texts_differ a b eq f e = true≢false (sym (same_self a) ∙ ap (same_text a) e ∙ sym eq ∙ f)

-- a name is new where every earlier one is another, and not where one is the same
pub name_new : (m : List ℕ) (s : ℕ) → ((e : ℕ) → e < s → spelled_name m e ≡ spelled_name m s → ⊥) → new_name m s ≡ true
unfolding new_name other_name
name_new m s all = all_every (other_name m s) s (λ e l. by e l (same_text (spelled_name m e) (spelled_name m s)) refl)
  where
    by : (e : ℕ) → e < s → (q : Bool) → same_text (spelled_name m e) (spelled_name m s) ≡ q → not q ≡ true
    by e l false h = refl
    by e l true h = absurd (all e l (same_text_lem _ _ h))

pub name_old : (m : List ℕ) (s e : ℕ) → e < s → spelled_name m e ≡ spelled_name m s → new_name m s ≡ false
unfolding new_name other_name
name_old m s e l q = sym (all_stop (other_name m s) s e {h = false} l (rw (q, same_self (spelled_name m s))) refl)

-- nor where a search among those before it in its block found one
pub met_old : (m : List ℕ) (base k : ℕ) (w : List ℕ) (P : Type 0) (o : Option ℕ) → is_some o ≡ true → w ≡ spelled_name m (base + k)
    → MatchOption o P (λ j. (j < k) × (w ≡ spelled_name m (base + j))) → new_name m (base + k) ≡ false
met_old m base k w P None h ew found = absurd (cc)
met_old m base k w P (Some j) h ew found = name_old m (base + k) (base + j) (omega (arith, found.0)) (sym found.1 ∙ ew)

pub met_none : {P : Type 0} (Q : ℕ → Type 0) (o : Option ℕ) → is_some o ≡ false → MatchOption o P Q → P
met_none Q None h none = none
met_none Q (Some j) h found = absurd (cc)

-- LINKS: the last of the first k numbers at which f is b
module _ (f : ℕ → ℕ) (b : ℕ) where
  last_le : (k : ℕ) → last_with f b k ≤ k
  unfolding last_with
  last_le zero = omega arith
  last_le (suc k) = step (eqb (f k) b) (last_le k)
    where
      step : (q : Bool) → last_with f b k ≤ k → pick q (suc k) (last_with f b k) ≤ suc k
      step true l = omega arith
      step false l = omega arith

  last_at : (k j : ℕ) → last_with f b k ≡ suc j → f j ≡ b
  unfolding last_with
  last_at zero j e = absurd (omega arith)
  last_at (suc k) j e = step (eqb (f k) b) refl (last_at k j) e
    where
      step : (q : Bool) → eqb (f k) b ≡ q → (last_with f b k ≡ suc j → f j ≡ b) → pick q (suc k) (last_with f b k) ≡ suc j → f j ≡ b
      step true h g e = let u : k ≡ j = omega arith in rw (← u) (eqb-true _ _ h)
      step false h g e = g e

  last_above : (k j : ℕ) → last_with f b k ≤ j → j < k → f j ≡ b → ⊥
  unfolding last_with
  last_above zero j l h e = omega arith
  last_above (suc k) j l h e = step (eqb (f k) b) refl l (last_above k j)
    where
      step : (q : Bool) → eqb (f k) b ≡ q → pick q (suc k) (last_with f b k) ≤ j → (last_with f b k ≤ j → j < k → f j ≡ b → ⊥) → ⊥
      step true u v g = omega arith
      step false u v g = ⊎_elim (λ y. eqb-false _ _ u (ap f (sym y) ∙ e)) (λ y. g v y e) (eq-or-lt_of_le (le_of_suc-le-suc h))

-- A WALK along the links for the name w: from where it stands it goes down, and passes no name that is w
module _ (m : List ℕ) (base : ℕ) (nexts w : List ℕ) where
  -- it can stand at c: that is 0, or one past a name of w's link, and the names below it are linked
  abbrev pub Walk : ℕ → ℕ → Type 0
  Walk factor c = Linked factor m base nexts c × ((j : ℕ) → c ≡ suc j → link_at factor m base j ≡ link_of (key_of factor w))

  -- it starts at the last of the first k names that has w's link; all after that one are others
  module _ (factor k : ℕ) {c : ℕ} (e : c ≡ last_with (link_at factor m base) (link_of (key_of factor w)) k) where
    pub start_le : c ≤ k
    start_le = omega (arith, e, last_le (link_at factor m base) (link_of (key_of factor w)) k)

    pub walk_from : Linked factor m base nexts k → Walk factor c
    walk_from linked = (
      λ j l. linked j (omega (arith, start_le)),
      λ j q. last_at (link_at factor m base) (link_of (key_of factor w)) k j (sym e ∙ q),
    )

    pub none_after : (j : ℕ) → c ≤ j → j < k → w ≡ spelled_name m (base + j) → ⊥
    none_after j l h q =
        last_above (link_at factor m base) (link_of (key_of factor w)) k j (omega (arith, e)) h (ap (λ v. link_of (key_of factor v)) (sym q))

  -- one step on, from c, which is one past j
  module _ (factor c j : ℕ) {v : ℕ} (here : c ≡ j + 1) (at : Walk factor c) (ev : v ≡ get_or nexts j 0) where
    next : v ≡ last_with (link_at factor m base) (link_of (key_of factor w)) j
    next = ev ∙ at.0 j (omega arith) ∙ ap (λ b. last_with (link_at factor m base) b j) (at.1 j (omega arith))

    pub walk_less : v < c
    walk_less = omega (arith, start_le factor j next)

    pub walk_on : Walk factor v
    walk_on = walk_from factor j next (λ i l. at.0 i (omega arith))

    pub walk_passed : (n : ℕ) → (w ≡ spelled_name m (base + j) → ⊥) → ((i : ℕ) → c ≤ i → i < n → w ≡ spelled_name m (base + i) → ⊥)
        → (i : ℕ) → v ≤ i → i < n → w ≡ spelled_name m (base + i) → ⊥
    walk_passed n other above i l h = by (ltb i j) refl
      where
        by : (q : Bool) → ltb i j ≡ q → w ≡ spelled_name m (base + i) → ⊥
        by true x = none_after factor j next i l (ltb-true _ _ x)
        by false x = ⊎_elim (λ (y : j ≡ i). rw (← y) other) (λ y. above i (omega (arith, y)) h) (eq-or-lt_of_le {n = j} {m = i} (ltb-false _ _ x))

-- THE ROOMS of a block: before the first turn
module _ (factor : ℕ) (m : List ℕ) (base : ℕ) where
  pub no_heads : Headed factor m base (replicate 128 0) 0
  unfolding last_with
  no_heads b l = get_or-replicate 128 b 0 0 l

  -- what stands behind them is nothing to the first k
  pub linked_still : (k : ℕ) (nexts : List ℕ) (v : ℕ) → Linked factor m base nexts k → Linked factor m base (set nexts k v) k
  linked_still k nexts v all j n = get_or-set_other nexts k j v 0 (λ u. absurd (let z : j ≡ k = u in omega arith)) ∙ all j n

  -- after that of its name k, whose key is x
  module _ (k : ℕ) {x : ℕ} (ex : x ≡ name_key factor m (base + k)) where
    pub headed_more : (heads : List ℕ) {h : ℕ} → h ≡ link_of x → h < length heads → Headed factor m base heads k → Headed factor m base (set heads h (k + 1)) (k + 1)
    unfolding last_with
    headed_more heads {h} e l all b n = rw (add-one k) (step (eqb (link_at factor m base k) b) refl)
      where
        eh : h ≡ link_at factor m base k
        eh = e ∙ ap link_of ex

        step : (q : Bool) → eqb (link_at factor m base k) b ≡ q → get_or (set heads h (suc k)) b 0 ≡ pick q (suc k) (last_with (link_at factor m base) b k)
        step true g = let u : b ≡ h = sym (eh ∙ eqb-true _ _ g) in rw u (get_or-set_same heads h (suc k) 0 l)
        step false g = get_or-set_other heads h b (suc k) 0 (λ u. eqb-false _ _ g (sym (u ∙ eh))) ∙ all b n

    pub linked_more :
        (heads nexts : List ℕ) {h v : ℕ} → h ≡ link_of x → h < 128 → v ≡ get_or heads h 0 → k < length nexts → Headed factor m base heads k → Linked factor m base nexts k
        → Linked factor m base (set nexts k v) (k + 1)
    linked_more heads nexts {h} {v} e lh ev l headed all =
        below_more (λ j. get_or (set nexts k v) j 0 ≡ last_with (link_at factor m base) (link_at factor m base j) j) k
        (linked_still k nexts v all)
        (get_or-set_same nexts k v 0 l ∙ ev ∙ headed h lh ∙ ap (λ b. last_with (link_at factor m base) b k) (e ∙ ap link_of ex))

    pub marked_more : (old new : List ℕ) → ((h : ℕ) → Marked old h → Marked new h) → Marked new (first_mark x) × Marked new (second_mark x)
        → AllMarked factor m base old k → AllMarked factor m base new (k + 1)
    marked_more old new stays here all =
        below_more (λ j. Marked new (first_mark (name_key factor m (base + j))) × Marked new (second_mark (name_key factor m (base + j)))) k
        (λ j n. (stays _ (all j n).0, stays _ (all j n).1))
        (rw (← ex) here)

  -- so a name that has not both its marks is none of theirs
  pub unmarked : (marks : List ℕ) (n e : ℕ) {x : ℕ} → AllMarked factor m base marks n → x ≡ name_key factor m e
      → (Marked marks (first_mark x) × Marked marks (second_mark x) → ⊥) → (j : ℕ) → j < n → spelled_name m e ≡ spelled_name m (base + j) → ⊥
  unmarked marks n e {x} all ex no-marks j l z =
      let u : name_key factor m (base + j) ≡ x = ap (key_of factor) (sym z) ∙ sym ex in
      no-marks (rw u at (all j l))

  -- where a walk for the name w starts, whose key is x
  pub headed_at : (heads : List ℕ) (k : ℕ) (w : List ℕ) {x h v : ℕ} → Headed factor m base heads k → x ≡ key_of factor w → h ≡ link_of x → v ≡ get_or heads h 0
      → v ≡ last_with (link_at factor m base) (link_of (key_of factor w)) k
  headed_at heads k w {x} {h} all ex eh ev = ev ∙ all h (omega (arith, eh)) ∙ ap (λ b. last_with (link_at factor m base) b k) (eh ∙ ap link_of ex)

-- DIFFERENT NAMES: one more, none of those before it
module _ (m : List ℕ) (base : ℕ) where
  pub different_more : (k : ℕ) {w : List ℕ} → w ≡ spelled_name m (base + k) → Different m base k → ((j : ℕ) → j < k → w ≡ spelled_name m (base + j) → ⊥)
      → Different m base (k + 1)
  different_more k ew all none i j l h e =
      ⊎_elim
      (λ (y : j ≡ k). none i (omega arith) (ew ∙ ap (λ a. spelled_name m (base + a)) (sym y) ∙ sym e))
      (λ y. all i j l y e)
      (eq-or-lt_of_le (le_of_suc-le-suc (rw (add-one k) at h)))

  -- of the first k only name r is w
  pub only : (k r : ℕ) {w : List ℕ} → Different m base k → r < k → w ≡ spelled_name m (base + r) → NotAmong m base w r
  only k r all l e j h z = all j r h l (sym z ∙ e)

  -- f is the first of the first k that a name before e is, or k
  abbrev pub Others : ℕ → ℕ → Type 0
  Others f e = (d : ℕ) → d < e → (j : ℕ) → j < f → spelled_name m d ≡ spelled_name m (base + j) → ⊥

  abbrev pub First : ℕ → ℕ → ℕ → Type 0
  First k f e = (f ≤ k) × Others f e × (f < k → new_name m (base + f) ≡ false)

  pub first_more : (k f e g : ℕ) {w : List ℕ} → First k f e → w ≡ spelled_name m e → e < base → g ≤ f → ((j : ℕ) → j < g → w ≡ spelled_name m (base + j) → ⊥)
      → (g < f → w ≡ spelled_name m (base + g)) → First k g (e + 1)
  first_more k f e g so ew l h none at = (
    omega (arith, so.0),
    below_more (λ d. (j : ℕ) → j < g → spelled_name m d ≡ spelled_name m (base + j) → ⊥) e (λ d n j b. so.1 d n j (omega arith)) (λ j b q. none j b (ew ∙ q)),
    λ n. ⊎_elim
        (λ (y : g ≡ f). rw y (so.2 (omega arith)))
        (λ y. name_old m (base + g) e (omega arith) (sym ew ∙ at y))
        (eq-or-lt_of_le h),
  )

  -- so the names before it are new
  pub block_new : (k r s : ℕ) → r ≤ k → Different m base k → Others r base → base ≤ s → s < base + r → new_name m s ≡ true
  block_new k r s h all others a b = name_new m s (λ e l. by e l (ltb e base) refl)
    where
      es : base + (s - base) ≡ s
      es = omega arith

      by : (e : ℕ) → e < s → (q : Bool) → ltb e base ≡ q → spelled_name m e ≡ spelled_name m s → ⊥
      by e l true x z = others e (ltb-true _ _ x) (s - base) (omega arith) (rw es z)
      by e l false x z =
          let u : base ≤ e = ltb-false _ _ x in
          let ee : base + (e - base) ≡ e = omega arith in
          all (e - base) (s - base) (omega arith) (omega arith) (rw (ee, es) z)

without : (a b c d : Bool) → (a && b && c && d) ≡ (a && b && true && c && d)
without true true c d = refl
without true false c d = refl
without false true c d = refl
without false false c d = refl

-- a symbol with a new name is as well formed as the rest of it
pub fits_is : (m : List ℕ) (s : ℕ) {q : Bool} → new_name m s ≡ true
    → q ≡ (leb (type_of m s) 4 && name_ok m s && ltb (prompt_of m s) (nodes m) && ltb (depend_of m s) (nodes m)) → q ≡ record_ok m 1 s
unfolding record_ok symbol_ok
fits_is m s e eq = eq ∙ without (leb (type_of m s) 4) (name_ok m s) (ltb (prompt_of m s) (nodes m)) (ltb (depend_of m s) (nodes m)) ∙ rw e

-- one with a name that is not new is bad
pub old_at : (m : List ℕ) (s : ℕ) → new_name m s ≡ false → record_at m 1 s ≡ Fault 3 1 s
unfolding record_at when record_ok symbol_ok
old_at m s e = rw e (by (leb (type_of m s) 4 && name_ok m s) (ltb (prompt_of m s) (nodes m)) (ltb (depend_of m s) (nodes m)))
  where
    by : (a b c : Bool) → when (not (a && false && b && c)) (Fault 3 1 s) ≡ Fault 3 1 s
    by true b c = refl
    by false b c = refl
