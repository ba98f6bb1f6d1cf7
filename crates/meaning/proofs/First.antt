-- The first fault in order: what `first_below` and `or_else` say of each place, and what a loop that looks for it shows at each turn. Assumes nothing.
use Prim.Native.Nat.{ℕ, zero, suc, ◌+◌, ◌≤◌, ◌<◌}
use mathlib.Core.Path.{◌≡◌, refl, sym, ◌∙◌, ap, subst}
use mathlib.Core.Bool.{Bool, true, false, true≢false, false≢true}
use mathlib.Core.Logic.{◌⊎◌, inl, inr, ◌↔◌, ⊎_elim}
use native.Mathlib.Nat.{not-suc-le-zero, eq-or-lt_of_le, le_of_suc-le-suc}
use native.Mathlib.Omega.{arith}
use native.Mathlib.Numerals.{add-one}
use Rattle.std.specs.Prelude.{Ok, Err, is_err}
use Rattle.meaning.specs.declared.Answer.{Answer}
use Rattle.meaning.specs.Base.{Outcome, Clean, Fault, if_clean, when, or_else, first_below}

abbrev pub IsClean : Outcome → Type 0
IsClean a = a ≡ Clean

abbrev pub IsFault : Outcome → Type 0
IsFault a = a ≡ Clean → ⊥

-- a fault that is written out is one
pub an_err : (f : Answer) → IsFault (Err f)
an_err f e = let z : ◌≡◌ {A = ℕ} 0 1 = cc in omega arith

pub a_fault : (n p s : ℕ) → IsFault (Fault n p s)
a_fault n p s = an_err _

pub which : (a : Outcome) → IsClean a ⊎ IsFault a
which (Ok tt) = inl refl
which (Err f) = inr (an_err f)

-- a then b: b if a is clean, a if it is a fault
pub or_else_clean : (a b : Outcome) → IsClean a → or_else a b ≡ b
unfolding or_else
or_else_clean a b h = rw h

pub or_else_fault : (a b : Outcome) → IsFault a → or_else a b ≡ a
unfolding or_else
or_else_fault (Ok tt) b h = absurd (h refl)
or_else_fault (Err f) b h = refl

-- the first of two is clean exactly when both are
pub or_else_iff : (a b : Outcome) → IsClean (or_else a b) ↔ (IsClean a × IsClean b)
unfolding or_else
or_else_iff (Ok tt) b = (λ h. (refl, h), λ h. h.1)
or_else_iff (Err f) b = (λ h. absurd (an_err f h), λ h. h.0)

-- a test that holds gives its fault; one that does not, none
pub when_iff : (b : Bool) (a : Outcome) → IsFault a → IsClean (when b a) ↔ (b ≡ false)
unfolding when
when_iff true a f = (λ h. absurd (f h), λ e. absurd (true≢false e))
when_iff false a f = (λ h. refl, λ e. refl)

-- what holds below n, and at n, holds below suc n
below_suc : (P : ℕ → Type 0) (n : ℕ) → ((k : ℕ) → k < n → P k) → P n → (k : ℕ) → k < suc n → P k
below_suc P n all here k lt = ⊎_elim (λ e. subst P (sym e) here) (λ l. all k l) (eq-or-lt_of_le (le_of_suc-le-suc lt))

-- and below n + 1
pub below_more : (P : ℕ → Type 0) (n : ℕ) → ((k : ℕ) → k < n → P k) → P n → (k : ℕ) → k < n + 1 → P k
below_more P n all here k lt = below_suc P n all here k (omega (arith, lt))

-- r is the first fault among the places below n: where it is, that it is one, and that none stands before it
pub record First (t : ℕ → Outcome) (n : ℕ) (r : Outcome) : Type 0 where
  pub place : ℕ
  pub within : place < n
  pub fault : IsFault (t place)
  pub before : (j : ℕ) → j < place → IsClean (t j)
  pub is : r ≡ t place

module _ (t : ℕ → Outcome) where
  -- the search is clean exactly when each place is
  pub clean_all : (n : ℕ) → IsClean (first_below t n) → (k : ℕ) → k < n → IsClean (t k)
  unfolding first_below
  clean_all zero h k lt = absurd (not-suc-le-zero lt)
  clean_all (suc n) h k lt =
      let both = (or_else_iff (first_below t n) (t n)).0 h in
      below_suc (λ (k : ℕ). IsClean (t k)) n (clean_all n both.0) both.1 k lt

  pub all_clean : (n : ℕ) → ((k : ℕ) → k < n → IsClean (t k)) → IsClean (first_below t n)
  unfolding first_below
  all_clean zero h = refl
  all_clean (suc n) h =
      (or_else_iff (first_below t n) (t n)).1 (all_clean n (λ k lt. h k (omega arith)), h n (omega arith))

  pub clean_iff : (n : ℕ) → IsClean (first_below t n) ↔ ((k : ℕ) → k < n → IsClean (t k))
  clean_iff n = (clean_all n, all_clean n)

  -- the first fault is what the search gives: what a loop that stops at place i has to show
  pub first_is : (n i : ℕ) → i < n → IsFault (t i) → ((j : ℕ) → j < i → IsClean (t j)) → first_below t n ≡ t i
  unfolding first_below
  first_is zero i lt f all = absurd (not-suc-le-zero lt)
  first_is (suc n) i lt f all =
      ⊎_elim
      (λ e. or_else_clean (first_below t n) (t n) (all_clean n (λ j l. all j (omega arith))) ∙ ap t (sym e))
      (λ l. let e = first_is n i l f all in or_else_fault (first_below t n) (t n) (λ z. f (sym e ∙ z)) ∙ e)
      (eq-or-lt_of_le (le_of_suc-le-suc lt))

  -- a search that is not clean gives the first fault
  pub fault_first : (n : ℕ) → IsFault (first_below t n) → First t n (first_below t n)
  unfolding first_below
  fault_first zero f = absurd (f refl)
  fault_first (suc n) f = ⊎_elim last (λ g. earlier g (fault_first n g)) (which (first_below t n))
    where
      last : IsClean (first_below t n) → First t (suc n) (or_else (first_below t n) (t n))
      last c =
          record {
            place = n;
            within = omega arith;
            fault = λ z. f ((or_else_iff (first_below t n) (t n)).1 (c, z));
            before = clean_all n c;
            is = or_else_clean (first_below t n) (t n) c;
          }

      earlier :
          IsFault (first_below t n)
          → First t n (first_below t n)
          → First t (suc n) (or_else (first_below t n) (t n))
      earlier g e =
          record {
            place = e.place;
            within = omega arith;
            fault = e.fault;
            before = e.before;
            is = or_else_fault (first_below t n) (t n) g ∙ e.is;
          }

-- A LOOP that looks for the first fault: before its first turn, after a turn that found none, and where it stops
module _ (t : ℕ → Outcome) where
  pub clean_none : first_below t 0 ≡ Clean
  unfolding first_below
  clean_none = refl

  pub clean_more : (k : ℕ) {r : Outcome} → first_below t k ≡ Clean → r ≡ t k → r ≡ Clean → first_below t (k + 1) ≡ Clean
  unfolding first_below or_else
  clean_more k e er c = rw (add-one, e, ← er, c)

  -- a fault stays the first, so what a block answers is the answer if it is a fault
  fault_up : (m e : ℕ) → e ≤ m → IsFault (first_below t e) → first_below t m ≡ first_below t e
  unfolding first_below
  fault_up zero e l f = let q : e ≡ 0 = omega arith in rw q
  fault_up (suc m) e l f =
      ⊎_elim (λ u. ap (first_below t) (sym u))
      (λ k. let g = fault_up m e (le_of_suc-le-suc k) f in or_else_fault (first_below t m) (t m) (λ z. f (sym g ∙ z)) ∙ g)
      (eq-or-lt_of_le l)

  pub block_fault : (m e : ℕ) {r : Outcome} {f : Answer} → r ≡ first_below t e → r ≡ Err f → e ≤ m → r ≡ first_below t m
  block_fault m e {f = f} er is l = er ∙ sym (fault_up m e l (λ z. an_err f (sym is ∙ er ∙ z)))

  -- and a fault at k with none before it
  pub place_fault : (m k : ℕ) {r : Outcome} {f : Answer} → first_below t k ≡ Clean → r ≡ t k → r ≡ Err f → k < m → r ≡ first_below t m
  unfolding first_below or_else
  place_fault m k {r = r} e er f l =
      let g : r ≡ first_below t (suc k) = rw e er in
      block_fault m (suc k) g f l

-- ONE SEARCH AFTER ANOTHER: the first has a fault, or it is clean and the second decides
pub first_fault : {r a : Outcome} {f : Answer} (b : Outcome) → r ≡ a → r ≡ Err f → r ≡ or_else a b
first_fault {r = r} {a = a} {f = f} b e is = e ∙ sym (or_else_fault a b (λ z. an_err f (sym is ∙ e ∙ z)))

pub first_clean : {r a q b : Outcome} → r ≡ a → r ≡ Clean → q ≡ b → q ≡ or_else a b
first_clean {a = a} {b = b} e f g = g ∙ sym (or_else_clean a b (sym e ∙ f))

-- what the library's test of an outcome says
pub no_err : (o : Outcome) → is_err o ≡ false → IsClean o
no_err (Ok tt) h = refl
no_err (Err f) h = absurd (true≢false h)

pub if_err : {A : Type 0} (o : Outcome) (a b : A) → is_err o ≡ true → b ≡ if_clean o a b
if_err (Ok tt) a b h = absurd (false≢true h)
if_err (Err f) a b h = refl
