-- A test says what it tests: each connective and comparison, as an equivalence that goes case by case, and what it picks. Assumes nothing.
use Prim.Native.Nat.{ℕ, ◌≤◌, ◌<◌}
use mathlib.Core.Path.{◌≡◌, refl}
use mathlib.Core.Bool.{Bool, true, false, ◌&&◌, ◌||◌, not}
use mathlib.Core.Logic.Iff
use mathlib.Core.Logic.{◌⊎◌, inl, inr, ◌↔◌, ⊎_elim}
use native.Mathlib.Omega.{arith}
use lib.Dec.{eqb, leb, ltb}
use borrow.Author.Tests.{ltb-true, ltb-false, leb-true, leb-false, eqb-true, eqb-false, lt-ltb, le-ltb, le-leb, lt-leb, eq-eqb, ne_eqb}
use Rattle.std.proofs.lemmas.Bool.Decides.{nat_tests}
use Rattle.std.proofs.lemmas.Bool.Decides.{Decides-and, Decides-or}
use Rattle.meaning.specs.Base.{pick}

-- P is what a true test says; what a false one says
abbrev pub Says : Bool → Type 0 → Type 0
Says b P = (b ≡ true) ↔ P

abbrev pub Denies : Bool → Type 0 → Type 0
Denies b P = (b ≡ false) ↔ P

pub not_both : {A : Type 0} {b : Bool} → b ≡ false → b ≡ true → A
not_both f t = cc

-- what is picked by a test
pub pick-cases : {A : Type 0} (P : A → Type 0) (c : Bool) {a b : A} → (c ≡ true → P a) → (c ≡ false → P b) → P (pick c a b)
pick-cases P true f g = f refl
pick-cases P false f g = g refl

pub pick_both : {A : Type 0} (P : A → Type 0) (c : Bool) {a b : A} → P a → P b → P (pick c a b)
pick_both P c p q = pick-cases P c (λ _. p) (λ _. q)

-- a set and a value, or whatever two, picked by one test
pub pick_rel : {A B : Type 0} (P : A → B → Type 0) (c : Bool) {s s' : A} {v v' : B} → (c ≡ true → P s v) → (c ≡ false → P s' v')
    → P (pick c s s') (pick c v v')
pick_rel P true p q = p refl
pick_rel P false p q = q refl

module _ {P Q : Type 0} where
  pub says_and : {a b : Bool} → Says a P → Says b Q → Says (a && b) (P × Q)
  says_and {a} {b} = Decides-and a b

  pub says_or : {a b : Bool} → Says a P → Says b Q → Says (a || b) (P ⊎ Q)
  says_or {a} {b} = Decides-or a b

  pub denies_and : {a b : Bool} → Denies a P → Denies b Q → Denies (a && b) (P ⊎ Q)
  denies_and {a = true} h k = (λ e. inr (k.0 e), ⊎_elim (λ p. cc (h.1 p)) k.1)
  denies_and {a = false} h k = (λ e. inl (h.0 refl), λ x. refl)

  pub denies_or : {a b : Bool} → Denies a P → Denies b Q → Denies (a || b) (P × Q)
  denies_or {a = true} h k = (λ e. cc, λ x. h.1 x.0)
  denies_or {a = false} h k = (λ e. (h.0 refl, k.0 e), λ x. k.1 x.1)

  -- a test behind another: only where the first says so
  pub denies_then : {a b : Bool} → Says a P → Denies b Q → Denies (a && b) (P → Q)
  denies_then {a = true} h k = (λ e p. k.0 e, λ f. k.1 (f (h.0 refl)))
  denies_then {a = false} h k = (λ e p. cc (h.1 p), λ f. refl)

module _ {P : Type 0} where
  pub denies_it : {b : Bool} → Says b P → Denies b (¬ P)
  denies_it {b = true} h = (λ e. cc, λ n. absurd (n (h.0 refl)))
  denies_it {b = false} h = (λ e p. cc (h.1 p), λ n. refl)

  pub says_not : {b : Bool} → Denies b P → Says (not b) P
  says_not {b} h = grind (arith, nat_tests)

  pub denies_not : {b : Bool} → Says b P → Denies (not b) P
  denies_not {b} h = grind (arith, nat_tests)

module _ (a b : ℕ) where
  pub says_lt : Says (ltb a b) (a < b)
  says_lt = (ltb-true a b, lt-ltb a b)

  pub denies_lt : Denies (ltb a b) (b ≤ a)
  denies_lt = (ltb-false a b, le-ltb a b)

  pub says_le : Says (leb a b) (a ≤ b)
  says_le = (leb-true a b, le-leb a b)

  pub denies_le : Denies (leb a b) (b < a)
  denies_le = (leb-false a b, lt-leb a b)

  pub says_eq : Says (eqb a b) (a ≡ b)
  says_eq = (eqb-true a b, eq-eqb a b)

  pub denies_eq : Denies (eqb a b) (a ≡ b → ⊥)
  denies_eq = (eqb-false a b, ne_eqb a b)

  pub says_unlike : Says (not (eqb a b)) (a ≡ b → ⊥)
  says_unlike = says_not denies_eq

  pub denies_unlike : Denies (not (eqb a b)) (a ≡ b)
  denies_unlike = denies_not says_eq

-- n or above it
pub denies_pos : (a : ℕ) → Denies (ltb 0 a) (a ≡ 0)
denies_pos a = (λ e. omega (arith, ltb-false 0 a e), λ z. rw z)

pub denies_zero : (a : ℕ) → Denies (eqb a 0) (0 < a)
denies_zero a = grind (arith, nat_tests)

pub or_assoc : {P Q R : Type 0} → ((P ⊎ Q) ⊎ R) ↔ (P ⊎ (Q ⊎ R))
or_assoc = grind (arith, nat_tests)

pub or_four : {P Q R S : Type 0} → (((P ⊎ Q) ⊎ R) ⊎ S) ↔ (P ⊎ (Q ⊎ (R ⊎ S)))
or_four = Iff.trans or_assoc or_assoc
