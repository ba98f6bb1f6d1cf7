-- Step by step: what a loop shows of `fold`, and of a room that is filled with `build` or tabulated, at each turn. Assumes nothing.
use mathlib.Core.Path.{◌≡◌, refl, sym, ◌∙◌, ap}
use mathlib.Core.Logic.{⊎_elim}
use mathlib.Core.List.{List, [], ◌∷◌, ◌++◌, append-nil}
use Prim.Native.Nat.{ℕ, zero, suc, ◌+◌, ◌≤◌, ◌<◌}
use native.Mathlib.Nat.{not-suc-le-zero, eq-or-lt_of_le, le_of_suc-le-suc}
use native.Mathlib.Numerals.{add-one}
use native.Mathlib.Omega.{arith}
use lib.ListN.{length, take, drop, set, get_or, length-append, drop_of_length-le, get_or-append, get_or-eq_default}
use lib.Seq.{drop-cons, take_at, set_at, get_or_at, append_snoc}
use Rattle.meaning.specs.Base.{fold, tabulate, build}

module _ {A : Type 0} (step : ℕ → A → A) (none : A) where
  pub fold_none : none ≡ fold step none 0
  unfolding fold
  fold_none = refl

  pub fold_more : (k : ℕ) {x y : A} → x ≡ fold step none k → y ≡ step k x → y ≡ fold step none (k + 1)
  unfolding fold
  fold_more k e f = rw add-one (rw e at f)

-- a loop that ran to its end: what it showed of the turns so far is what was asked of all
pub at_end : {A : Type 0} (f : ℕ → A) {a : A} {i n : ℕ} → f i ≡ a → i ≡ n → a ≡ f n
at_end f h e = sym h ∙ ap f e

module _ (f : List ℕ → ℕ → ℕ) where
  pub build-length : (n : ℕ) → length (build f n) ≡ n
  unfolding build
  build-length zero = refl
  build-length (suc n) = length-append (build f n) (f (build f n) n ∷ []) ∙ rw (build-length n) (add-one n)

  -- the room before the first turn, and after the store of the next entry, worked out from the part that is done
  pub build_none : (w : List ℕ) → w ≡ build f 0 ++ drop 0 w
  unfolding build
  build_none w = refl

  pub build_more : (w : List ℕ) {d : List ℕ} (k : ℕ) {v : ℕ} → k < length w → d ≡ build f k ++ drop k w → v ≡ f (take k d) k
      → set d k v ≡ build f (k + 1) ++ drop (k + 1) w
  unfolding build
  build_more w k {v} h e ev =
      let l = build-length k in
      let p : v ≡ f (build f k) k = rw (e, take_at (build f k) (drop k w) k l) at ev in
      rw (e, add-one, drop-cons w k 0 h, set_at (build f k) _ _ v k l, append_snoc, p)

-- a list that is tabulated is one built with no look at what stands before
module _ (g : ℕ → ℕ) where
  tabulate-build : (n : ℕ) → tabulate g n ≡ build (λ vs. g) n
  unfolding tabulate build
  tabulate-build zero = refl
  tabulate-build (suc n) = ap (λ (l : List ℕ). l ++ (g n ∷ [])) (tabulate-build n)

  pub tabulate-length : (n : ℕ) → length (tabulate g n) ≡ n
  tabulate-length n = ap length (tabulate-build n) ∙ build-length (λ vs. g) n

  -- what it has at each place, and past its end
  pub tabulate_at : (d n i : ℕ) → i < n → get_or (tabulate g n) i d ≡ g i
  unfolding tabulate
  tabulate_at d zero i lt = absurd (not-suc-le-zero lt)
  tabulate_at d (suc n) i lt =
      ⊎_elim
      (λ (e : i ≡ n). rw e (get_or_at (tabulate g n) (g n) [] d n (tabulate-length n)))
      (λ l. get_or-append (tabulate g n) _ d i (rw (tabulate-length n) l) ∙ tabulate_at d n i l)
      (eq-or-lt_of_le (le_of_suc-le-suc lt))

  pub tabulate_past : (d n i : ℕ) → n ≤ i → get_or (tabulate g n) i d ≡ d
  tabulate_past d n i le = get_or-eq_default (tabulate g n) d {n = i} (rw (tabulate-length n) le)

  -- a room w that is filled with it: before the first turn, after the store of the next entry, and at the end
  module _ (w : List ℕ) where
    pub laid : ℕ → List ℕ
    laid k = build (λ vs. g) k ++ drop k w

    pub laid_none : w ≡ laid 0
    unfolding laid
    laid_none = build_none (λ vs. g) w

    pub laid_more : {d : List ℕ} (k : ℕ) {v : ℕ} → k < length w → d ≡ laid k → v ≡ g k → set d k v ≡ laid (k + 1)
    unfolding laid
    laid_more k h e ev = build_more (λ vs. g) w k h e ev

    pub laid_all : {d : List ℕ} {k n : ℕ} → d ≡ laid k → k ≡ n → length w ≡ n → d ≡ tabulate g n
    unfolding laid
    laid_all {k = k} e ek el = rw tabulate-build (rw (drop_of_length-le w {i = k} (omega arith), append-nil, ek) at e)
