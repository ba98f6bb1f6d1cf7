-- Lower as it is worked out is what Valid says it is, and nothing else is: a fold that takes the larger bounds what it took, and reaches it.
-- Assumes nothing.
use Prim.Native.Nat.{ℕ, zero, suc, ◌≤◌, ◌<◌}
use mathlib.Core.Path.{◌≡◌, refl}
use mathlib.Core.Bool.{Bool, true, false}
use mathlib.Core.Logic.{◌⊎◌, inl, inr, ⊎_elim}
use mathlib.Core.List.{List}
use native.Mathlib.Nat.{eq-or-lt_of_le, le_of_suc-le-suc}
use native.Mathlib.Omega.{arith}
use lib.Dec.{eqb, leb}
use borrow.Author.Tests.{eqb-true, leb-true, leb-false}
use Rattle.std.proofs.lemmas.Bool.Decides.{nat_tests}
use Rattle.tri.specs.Three.{or_of}
use Rattle.meaning.specs.Base.{pick, fold}
use Rattle.meaning.specs.Book.{selects, target_of}
use Rattle.meaning.specs.Values.{node_values, given, lower_step, lower_from, lower_of}
use Rattle.meaning.specs.Valid.{IsLower}

module _ (m : List ℕ) (gives : ℕ → ℕ) (s : ℕ) where
  -- l is Lower of s by the selects below n
  record LowerBy (n l : ℕ) : Type 0 where
    bounds : (k : ℕ) → k < n → target_of m k ≡ s → gives k ≤ l
    reached : (l ≡ 0) ⊎ ((k : ℕ) × (k < n) × (target_of m k ≡ s) × (gives k ≡ l))

  by_more : (n l : ℕ) (b : Bool) → eqb (target_of m n) s ≡ b → LowerBy n l → LowerBy (suc n) (pick b (or_of l (gives n)) l)
  by_more n l true e h =
      record {
        bounds = λ k lt on.
            ⊎_elim (λ q. rw q (omega arith)) (λ below. omega (arith, h.bounds k below on)) (eq-or-lt_of_le (le_of_suc-le-suc lt));
        reached = larger (leb l (gives n)) refl;
      }
    where
      larger : (b : Bool) → leb l (gives n) ≡ b
          → (or_of l (gives n) ≡ 0) ⊎ ((k : ℕ) × (k < suc n) × (target_of m k ≡ s) × (gives k ≡ or_of l (gives n)))
      larger true q = inr (n, omega arith, eqb-true (target_of m n) s e, omega (arith, leb-true l (gives n) q))
      larger false q =
          let more = leb-false l (gives n) q in
          ⊎_elim (λ z. inl (omega arith)) (λ x. inr (x.0, omega arith, x.2, omega arith)) h.reached
  by_more n l false e h = grind (arith, nat_tests)

  by_all : (n : ℕ) → LowerBy n (fold (lower_step m gives s) 0 n)
  unfolding fold lower_step
  by_all zero = grind (arith, nat_tests)
  by_all (suc n) = by_more n (fold (lower_step m gives s) 0 n) (eqb (target_of m n) s) refl (by_all n)

module _ (m t : List ℕ) {s : ℕ} where
  pub lower_is : IsLower m t s (lower_of m t (node_values m t) s)
  unfolding lower_of lower_from
  lower_is = let h = by_all m (given m t (node_values m t)) s (selects m) in record { bounds = h.bounds; reached = h.reached }

  bounded : {l k : ℕ} → IsLower m t s l → IsLower m t s k → l ≤ k
  bounded h g = grind (arith, nat_tests)

  pub lower_unique : {l k : ℕ} → IsLower m t s l → IsLower m t s k → l ≡ k
  lower_unique h g = omega (arith, bounded h g, bounded g h)
