-- Default as it is worked out is what Valid says it is, and nothing else is: taken from the last to the first, each that applies covers those
-- after it. Assumes nothing.
use Prim.Native.Nat.{ℕ, zero, suc, ◌-◌, ◌≤◌, ◌<◌}
use mathlib.Core.Path.{◌≡◌, refl, sym, ◌∙◌}
use mathlib.Core.Bool.{Bool, true, false}
use mathlib.Core.Logic.{◌⊎◌, inl, inr}
use mathlib.Core.List.{List, []}
use native.Mathlib.Omega.{arith}
use lib.Dec.{eqb, ltb}
use Rattle.std.proofs.lemmas.Bool.Decides.{nat_tests}
use Rattle.meaning.specs.Base.{pick, fold}
use Rattle.meaning.specs.Book.{defaults, default_symbol, default_value, default_condition}
use Rattle.meaning.specs.Table.{a_text}
use Rattle.meaning.specs.Values.{leaf_of, node_values, condition_value, default_step, default_from, default_of, default_content}
use Rattle.meaning.specs.Valid.{At, FirstDefault, NoDefault, IsDefault}

module _ {A : Type 0} (m : List ℕ) (cond : ℕ → ℕ) (has : ℕ → A) (none : A) (s : ℕ) where
  -- none of the defaults from a on, and below e, applies to s
  Quiet : ℕ → ℕ → Type 0
  Quiet a e = (d : ℕ) → a ≤ d → d < e → default_symbol m d ≡ s → cond d ≡ 0

  -- x is what the first default from a on has
  DefaultFrom : ℕ → A → Type 0
  DefaultFrom a x =
      ((d : ℕ) × (d < defaults m) × (default_symbol m d ≡ s) × (0 < cond d) × Quiet a d × (x ≡ has d))
      ⊎ (Quiet a (defaults m) × (x ≡ none))

  from_step : (a b : ℕ) (x : A) (p q : Bool) → eqb (default_symbol m a) s ≡ p → ltb 0 (cond a) ≡ q → b ≡ suc a → a < defaults m
      → DefaultFrom b x → DefaultFrom a (pick p (pick q (has a) x) x)
  unfolding DefaultFrom Quiet
  from_step a b x true true e f i lt h = grind (arith, nat_tests)
  from_step a b x true false e f i lt h = grind (arith, nat_tests)
  from_step a b x false q e f i lt h = grind (arith, nat_tests)

  from_all : (n : ℕ) → n ≤ defaults m → DefaultFrom (defaults m - n) (fold (default_step m cond has s) none n)
  unfolding fold default_step DefaultFrom Quiet
  from_all zero le = grind (arith, nat_tests)
  from_all (suc n) le =
      let a = defaults m - suc n in
      from_step a (defaults m - n) (fold (default_step m cond has s) none n) (eqb (default_symbol m a) s) (ltb 0 (cond a)) refl refl
      (omega arith) (omega arith) (from_all n (omega arith))

Applies : List ℕ → List ℕ → ℕ → ℕ → Type 0
Applies m t s d = (d < defaults m) × (default_symbol m d ≡ s) × (0 < At m t (default_condition m d))

module _ (m t : List ℕ) {s : ℕ} where
  module _ {A : Type 0} (has : ℕ → A) (none : A) where
    from_is : IsDefault m t s has none (default_from m (condition_value m (node_values m t)) has none s)
    unfolding default_from DefaultFrom Quiet
    from_is = by (from_all m (condition_value m (node_values m t)) has none s (defaults m) (omega arith))
      where
        by : {x : A} → DefaultFrom m (condition_value m (node_values m t)) has none s (defaults m - defaults m) x → IsDefault m t s has none x
        by (inl h) =
            inl (
              h.0,
              record { stands = h.1; on = h.2; applies = h.3; before = λ e lt on. h.4 e (omega arith) lt on },
              h.5,
            )
        by (inr h) = inr ((λ d lt on. h.0 d (omega arith) lt on), h.1)

    silent : {d : ℕ} → FirstDefault m t s d → NoDefault m t s → ⊥
    silent {d} h g = omega arith

    pub default_unique : {x y : A} → IsDefault m t s has none x → IsDefault m t s has none y → x ≡ y
    default_unique (inl h) (inl g) = grind (arith, nat_tests)
    default_unique (inl h) (inr g) = absurd (silent h.1 g.0)
    default_unique (inr h) (inl g) = absurd (silent g.1 h.0)
    default_unique (inr h) (inr g) = h.1 ∙ sym g.1

  pub default_is : IsDefault m t s (λ d. At m t (default_value m d)) 0 (default_of m (node_values m t) s)
  unfolding default_of
  default_is = from_is _ 0

  pub content_is : IsDefault m t s (λ d. leaf_of m t (default_value m d)) (a_text []) (default_content m t (node_values m t) s)
  unfolding default_content
  content_is = from_is _ (a_text [])
