-- Tests over the numbers below n, and counts of them: what they say of each, and what a loop over them shows at each turn. Assumes nothing.
use mathlib.Core.Path.{◌≡◌, refl, sym}
use mathlib.Core.Logic.{⊎_elim}
use mathlib.Core.Bool.{Bool, true, false, and-false, and-eq-true_iff}
use Prim.Native.Nat.{ℕ, zero, suc, ◌+◌, ◌≤◌, ◌<◌}
use native.Mathlib.Nat.{eq-or-lt_of_le, le_of_suc-le-suc, not-suc-le-zero}
use native.Mathlib.Omega.{arith}
use native.Mathlib.Numerals.{add-one}
use borrow.Author.Tests.{eq-eqb, ne_eqb}
use Rattle.meaning.specs.Base.{pick, fold, all_below, first_where, count_below}
use Rattle.meaning.proofs.Folds.{fold_none, fold_more}

-- ALL: what holds of each
module _ (p : ℕ → Bool) where
  pub all_at : (n k : ℕ) → all_below p n ≡ true → k < n → p k ≡ true
  unfolding all_below
  all_at zero k e lt = absurd (not-suc-le-zero lt)
  all_at (suc n) k e lt =
      let h = (and-eq-true_iff (all_below p n) (p n)).0 e in
      ⊎_elim (λ (z : k ≡ n). rw z h.1) (λ l. all_at n k h.0 l) (eq-or-lt_of_le (le_of_suc-le-suc lt))

  pub all_every : (n : ℕ) → ((k : ℕ) → k < n → p k ≡ true) → all_below p n ≡ true
  unfolding all_below
  all_every zero h = refl
  all_every (suc n) h = rw (all_every n (λ k lt. h k (omega arith)), h n (omega arith))

  -- before the first turn, after a turn that passed, and where one failed
  pub all_none : all_below p 0 ≡ true
  unfolding all_below
  all_none = refl

  pub all_more : (k : ℕ) {h : Bool} → all_below p k ≡ true → h ≡ p k → h ≡ true → all_below p (k + 1) ≡ true
  unfolding all_below
  all_more k e eh t = rw (add-one, e, ← eh, t)

  pub all_stop : (n k : ℕ) {h : Bool} → k < n → h ≡ p k → h ≡ false → false ≡ all_below p n
  unfolding all_below
  all_stop zero k l eh f = absurd (omega arith)
  all_stop (suc n) k l eh f =
      ⊎_elim
      (λ q. rw (← q, ← eh, f) (sym (and-false (all_below p k))))
      (λ m. rw (← all_stop n k m eh f))
      (eq-or-lt_of_le (le_of_suc-le-suc l))

-- FIRST: before the first turn, after a turn that failed, and where one passed
module _ (p : ℕ → Bool) where
  pub first_none : first_where p 0 ≡ 0
  unfolding first_where
  first_none = refl

  pub first_more : (k : ℕ) {h : Bool} → first_where p k ≡ k → h ≡ p k → h ≡ false → first_where p (k + 1) ≡ k + 1
  unfolding first_where
  first_more k e eh f = rw (add-one, e, eq-eqb k k refl, ← eh, f)

  pub first_hit : (n k : ℕ) {h : Bool} → first_where p k ≡ k → k < n → h ≡ p k → h ≡ true → k ≡ first_where p n
  unfolding first_where
  first_hit zero k e l eh t = absurd (omega arith)
  first_hit (suc n) k e l eh t =
      ⊎_elim
      (λ q. rw (← q, e, eq-eqb k k refl, ← eh, t))
      (λ m. rw (← first_hit n k e m eh t, ne_eqb k n (λ z. omega arith)))
      (eq-or-lt_of_le (le_of_suc-le-suc l))

-- HOW MANY: after a turn
module _ (p : ℕ → Bool) where
  pub count_none : 0 ≡ count_below p 0
  unfolding count_below
  count_none = fold_none _ 0

  pub count_more : (k : ℕ) {h : Bool} {x y : ℕ} → x ≡ count_below p k → h ≡ p k → y ≡ pick h 1 0 + x → y ≡ count_below p (k + 1)
  unfolding count_below
  count_more k e eh ey = fold_more _ 0 k e (rw eh at ey)

  -- no more than were looked at
  pub count_bound : (k : ℕ) → count_below p k ≤ k
  unfolding count_below fold
  count_bound zero = omega arith
  count_bound (suc k) = by (p k) (count_bound k)
    where
      by : (b : Bool) {x : ℕ} → x ≤ k → pick b 1 0 + x ≤ suc k
      by true h = omega arith
      by false h = omega arith
