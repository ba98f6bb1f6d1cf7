-- What a search in order finds, of the rules and places it goes through: all kept where it is clean, else the first that is broken. It holds for
-- a search of two parts, and so for any. Assumes nothing.
use Prim.Native.Nat.{ℕ, zero, suc, ◌<◌}
use mathlib.Core.Path.{◌≡◌, refl, subst}
use mathlib.Core.Bool.{Bool, true, false}
use mathlib.Core.Logic.{inl, inr, ◌↔◌, ⊎_elim}
use mathlib.Core.List.{List, [], ◌∷◌, ◌++◌}
use native.Mathlib.Nat.{not-suc-le-zero, eq-or-lt_of_le, le_of_suc-le-suc}
use native.Mathlib.Omega.{arith}
use Rattle.std.proofs.lemmas.Bool.Decides.{nat_tests}
use Rattle.std.specs.Prelude.{Ok, Err}
use Rattle.meaning.specs.Base.{Outcome, Fault, when, or_else, first_below}
use Rattle.meaning.proofs.First.{IsClean}
use Rattle.demands.specs.Broken.{Spot, rule_of, place_of, in_turn, All, FirstNot, Holds, Second}
use Rattle.demands.proofs.Bools.{Denies}

module _ (P : Spot → Type 0) where
  pub all_append : (a b : List Spot) → All P (a ++ b) ↔ (All P a × All P b)
  all_append [] b = (λ h. (tt, h), λ h. h.1)
  all_append (x ∷ a) b =
      let k = all_append a b in
      (λ h. ((h.0, (k.0 h.1).0), (k.0 h.1).1), λ h. (h.0.0, k.1 (h.0.1, h.1)))

  pub all_turn : (at : ℕ → List Spot) (n : ℕ) → All P (in_turn at n) ↔ ((i : ℕ) → i < n → All P (at i))
  unfolding in_turn
  all_turn at zero = (λ h i lt. absurd (not-suc-le-zero lt), λ h. tt)
  all_turn at (suc n) =
      let k = all_turn at n in
      let j = all_append (in_turn at n) (at n) in (
        (λ h i lt. ⊎_elim (λ e. rw e (j.0 h).1) (k.0 (j.0 h).0 i) (eq-or-lt_of_le (le_of_suc-le-suc lt))),
        (λ h. j.1 (k.1 (λ i lt. h i (omega arith)), h n (omega arith))),
      )

  first_front : (a b : List Spot) (x : Spot) → FirstNot P a x → FirstNot P (a ++ b) x
  first_front [] b x h = absurd h
  first_front (y ∷ a) b x (inl h) = inl h
  first_front (y ∷ a) b x (inr h) = inr (h.0, first_front a b x h.1)

  first_behind : (a b : List Spot) (x : Spot) → All P a → FirstNot P b x → FirstNot P (a ++ b) x
  first_behind [] b x all h = h
  first_behind (y ∷ a) b x all h = inr (all.0, first_behind a b x all.1 h)

  -- none is broken where all are kept, and there is one first only
  pub first_none : (a : List Spot) (x : Spot) → All P a → ¬ FirstNot P a x
  first_none [] x all h = h
  first_none (y ∷ a) x all (inl h) = h.1 (subst P h.0 all.0)
  first_none (y ∷ a) x all (inr h) = first_none a x all.1 h.1

  pub first_unique : (a : List Spot) (x y : Spot) → FirstNot P a x → FirstNot P a y → x ≡ y
  first_unique [] x y h k = absurd h
  first_unique (z ∷ a) x y (inl h) (inl k) = cc
  first_unique (z ∷ a) x y (inl h) (inr k) = absurd (h.1 (subst P h.0 k.0))
  first_unique (z ∷ a) x y (inr h) (inl k) = absurd (k.1 (subst P k.0 h.0))
  first_unique (z ∷ a) x y (inr h) (inr k) = first_unique a x y h.1 k.1

module _ (m t : List ℕ) where
  abbrev Found : List Spot → ℕ → ℕ → ℕ → Type 0
  Found l n p s = (x : Spot) × FirstNot (Holds m t) l x × (rule_of x ≡ n) × (place_of x ≡ p) × Second m t x s

  pub record Finds (l : List Spot) (o : Outcome) : Type 0 where
    pub clean : IsClean o → All (Holds m t) l
    pub fault : (n p s : ℕ) → o ≡ Fault n p s → Found l n p s

  pub finds_kept : {x : Spot} {l : List Spot} {o : Outcome} → Holds m t x → Finds l o → Finds (x ∷ l) o
  finds_kept h f = grind (arith, nat_tests)

  pub finds_one : (x : Spot) (s : ℕ) {b : Bool} → Denies b (Holds m t x) → (b ≡ true → Second m t x s)
      → Finds (x ∷ []) (when b (Fault (rule_of x) (place_of x) s))
  unfolding when
  finds_one x s {b = true} d at = grind (arith, nat_tests)
  finds_one x s {b = false} d at = grind (arith, nat_tests)

  pub finds_then : {l k : List Spot} (a : Outcome) {b : Outcome} → Finds l a → Finds k b → Finds (l ++ k) (or_else a b)
  unfolding or_else
  finds_then {l} {k} (Ok tt) f g =
      record {
        clean = λ e. (all_append (Holds m t) l k).1 (f.clean refl, g.clean e);
        fault = λ n p s e.
            let x = g.fault n p s e in
            (x.0, first_behind (Holds m t) l k x.0 (f.clean refl) x.1, x.2, x.3, x.4);
      }
  finds_then {l} {k} (Err o) f g =
      record {
        clean = λ e. cc;
        fault = λ n p s e. let x = f.fault n p s e in (x.0, first_front (Holds m t) l k x.0 x.1, x.2, x.3, x.4);
      }

  pub finds_turn : (at : ℕ → List Spot) (f : ℕ → Outcome) (n : ℕ) → ((i : ℕ) → i < n → Finds (at i) (f i)) → Finds (in_turn at n) (first_below f n)
  unfolding in_turn first_below
  finds_turn at f zero h = record { clean = λ e. tt; fault = λ n p s e. cc }
  finds_turn at f (suc n) h = finds_then (first_below f n) (finds_turn at f n (λ i lt. h i (omega arith))) (h n (omega arith))
