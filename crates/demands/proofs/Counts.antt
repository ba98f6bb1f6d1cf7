-- Counting reaches one or two exactly where one or two numbers are counted, a larger value for each gives no smaller count, and a search ends
-- at the least: by induction on how many were looked at. Assumes nothing.
use Prim.Native.Nat.{ℕ, zero, suc, ◌+◌, ◌≤◌, ◌<◌}
use mathlib.Core.Path.{◌≡◌, refl, sym, ◌∙◌, subst}
use mathlib.Core.Bool.{Bool, true, false, false≢true}
use mathlib.Core.Logic.{◌⊎◌, inl, inr, ⊎_elim}
use native.Mathlib.Nat.{not-suc-le-zero, eq-or-lt_of_le, le_of_suc-le-suc}
use native.Mathlib.Omega.{arith}
use lib.Dec.{eqb}
use borrow.Author.Tests.{eq-eqb, leb-true, le-leb}
use Rattle.std.proofs.lemmas.Bool.Decides.{nat_tests}
use Rattle.meaning.specs.Base.{pick, fold, count_below, first_where}
use Rattle.meaning.specs.Rules.{at_least}
use Rattle.demands.specs.Broken.{Least}

module _ (p : ℕ → Bool) where
  -- one below n is counted; two are
  abbrev pub Some : ℕ → Type 0
  Some n = (j : ℕ) × (j < n) × (p j ≡ true)

  abbrev Two : ℕ → Type 0
  Two n = (i : ℕ) × (j : ℕ) × (i < j) × (j < n) × (p i ≡ true) × (p j ≡ true)

  pub some_counted : (n : ℕ) → 1 ≤ count_below p n → Some n
  unfolding count_below fold
  some_counted zero h = absurd (not-suc-le-zero h)
  some_counted (suc n) h = by (p n) refl (some_counted n) h
    where
      by : (b : Bool) → p n ≡ b → (1 ≤ count_below p n → Some n) → 1 ≤ pick b 1 0 + count_below p n → Some (suc n)
      by true e more g = (n, omega arith, e)
      by false e more g = let x = more (omega arith) in (x.0, omega arith, x.2)

  pub two-counted : (n : ℕ) → 2 ≤ count_below p n → Two n
  unfolding count_below fold
  two-counted zero h = absurd (not-suc-le-zero h)
  two-counted (suc n) h = by (p n) refl (two-counted n) h
    where
      by : (b : Bool) → p n ≡ b → (2 ≤ count_below p n → Two n) → 2 ≤ pick b 1 0 + count_below p n → Two (suc n)
      by true e more g = let x = some_counted n (omega arith) in (x.0, n, x.1, omega arith, x.2, e)
      by false e more g = let x = more (omega arith) in (x.0, x.1, x.2, omega arith, x.4, x.5)

  -- one more turn counts no less
  count_grows : (n : ℕ) → count_below p n ≤ count_below p (suc n)
  unfolding count_below fold
  count_grows n = omega arith

  count_hit : (n : ℕ) → p n ≡ true → 1 + count_below p n ≤ count_below p (suc n)
  unfolding count_below fold
  count_hit n e = rw e (omega arith)

  pub count_some : (n : ℕ) → Some n → 1 ≤ count_below p n
  count_some zero x = omega arith
  count_some (suc n) x =
      ⊎_elim (λ e. omega (arith, count_hit n (subst (λ k. p k ≡ true) e x.2)))
      (λ l. omega (arith, count_some n (x.0, l, x.2), count_grows n))
      (eq-or-lt_of_le (le_of_suc-le-suc x.1))

  pub count-two : (n : ℕ) → Two n → 2 ≤ count_below p n
  count-two zero x = omega arith
  count-two (suc n) x =
      ⊎_elim
      (λ e. omega (arith, count_hit n (subst (λ k. p k ≡ true) e x.5), count_some n (x.0, subst (λ k. x.0 < k) e x.2, x.4)))
      (λ l. omega (arith, count-two n (x.0, x.1, x.2, l, x.4, x.5), count_grows n))
      (eq-or-lt_of_le (le_of_suc-le-suc x.3))

  -- THE FIRST: none below n, and the search ends there, or it ends at the least
  Ends : ℕ → ℕ → Type 0
  Ends n i = ((i ≡ n) × ((k : ℕ) → k < n → p k ≡ false)) ⊎ ((i < n) × (p i ≡ true) × ((k : ℕ) → k < i → p k ≡ false))

  ends_more : (n i : ℕ) (b : Bool) → p n ≡ b → Ends n i → Ends (suc n) (pick (eqb i n) (pick b n (suc n)) i)
  unfolding Ends
  ends_more n i true e (inl h) = rw (eq-eqb i n h.0) (inr (omega arith, e, h.1))
  ends_more n i false e (inl h) = grind (arith, nat_tests)
  ends_more n i true e (inr h) = grind (arith, nat_tests)
  ends_more n i false e (inr h) = grind (arith, nat_tests)

  ends : (n : ℕ) → Ends n (first_where p n)
  unfolding first_where Ends
  ends zero = inl (refl, λ k l. absurd (not-suc-le-zero l))
  ends (suc n) = ends_more n (first_where p n) (p n) refl (ends n)

  pub first-least : (n : ℕ) → Some n → Least (λ j. (j < n) × (p j ≡ true)) (first_where p n)
  unfolding Ends
  first-least n x =
      ⊎_elim (λ h. absurd (false≢true (sym (h.1 x.0 x.1) ∙ x.2)))
      (λ h. ((h.0, h.1), λ k l q. false≢true (sym (h.2 k l) ∙ q.1)))
      (ends n)

-- MORE
pick_mono : (a b : Bool) → (a ≡ true → b ≡ true) → pick {A = ℕ} a 1 0 ≤ pick b 1 0
pick_mono true b f = rw (f refl) (omega arith)
pick_mono false b f = omega arith

count_mono : (g h : ℕ → Bool) → ((j : ℕ) → g j ≡ true → h j ≡ true) → (n : ℕ) → count_below g n ≤ count_below h n
unfolding count_below fold
count_mono g h f zero = omega arith
count_mono g h f (suc n) = omega (arith, pick_mono (g n) (h n) (f n), count_mono g h f n)

pub at_least_mono : (v w : ℕ → ℕ) → ((j : ℕ) → v j ≤ w j) → (n k : ℕ) → at_least v n k ≤ at_least w n k
unfolding at_least
at_least_mono v w le n k = count_mono _ _ (λ j h. le-leb k (w j) (omega (arith, leb-true k (v j) h, le j))) n

-- LEAST
-- there is one least only
pub least_unique : {P : ℕ → Type 0} {i j : ℕ} → Least P i → Least P j → i ≡ j
least_unique {i = i} {j = j} h k = grind (arith, nat_tests)
