-- When an outcome is one certain fault: of a test, of two searches in turn, of a search through places; and which numbers an outcome can have.
-- A search gives a fault exactly where it finds that one and all before it are clean. Assumes nothing.
use Prim.Native.Nat.{ℕ, ◌<◌}
use mathlib.Core.Path.{◌≡◌, refl, sym, ◌∙◌, ap, subst}
use mathlib.Core.Bool.{Bool, true, false}
use mathlib.Core.Logic.Iff
use mathlib.Core.Logic.{◌⊎◌, inl, inr, ◌↔◌, ⊎_elim}
use native.Mathlib.Omega.{arith}
use Rattle.std.proofs.lemmas.Bool.Decides.{nat_tests}
use Rattle.std.specs.Prelude.{Ok, Err}
use Rattle.meaning.specs.Base.{Outcome, Fault, pick, when, or_else, first_below, answer_of}
use Rattle.meaning.proofs.First.{IsClean, IsFault, a_fault, or_else_iff, when_iff, clean_iff, first_is, fault_first}
use Rattle.demands.specs.Broken.{Least}
use Rattle.demands.proofs.Bools.{Says, Denies, denies_it}

-- two faults are equal exactly where their three numbers are
module _ {n p s n' p' s' : ℕ} (e : Fault n p s ≡ Fault n' p' s') where
  pub same_number : n ≡ n'
  same_number = ap (λ o. (answer_of o).number) e

  pub same_place : p ≡ p'
  same_place = ap (λ o. (answer_of o).place) e

  pub same_second : s ≡ s'
  same_second = ap (λ o. (answer_of o).second) e

pub same_fault : {n p s n' p' s' : ℕ} → n ≡ n' → p ≡ p' → s ≡ s' → Fault n p s ≡ Fault n' p' s'
same_fault e f g = cc

not_clean : {o : Outcome} {n p s : ℕ} → o ≡ Fault n p s → IsFault o
not_clean e c = cc

-- ONE CERTAIN FAULT
pub clean_when : {b : Bool} {P : Type 0} (n p s : ℕ) → Denies b P → IsClean (when b (Fault n p s)) ↔ P
clean_when {b} n p s d = let w = when_iff b (Fault n p s) (a_fault n p s) in (λ c. d.0 (w.0 c), λ h. w.1 (d.1 h))

pub fault_when : {b : Bool} {P : Type 0} (k q r : ℕ) {n p s : ℕ} → Says b P → (when b (Fault k q r) ≡ Fault n p s) ↔ (P × (n ≡ k) × (p ≡ q) × (s ≡ r))
unfolding when
fault_when {b = true} k q r says = grind (arith, nat_tests)
fault_when {b = false} k q r {n = n} {p = p} {s = s} says =
    ((λ e. cc), (λ h. let z = says.1 h.0 in cc))

fault_then : (a b : Outcome) (n p s : ℕ) → (or_else a b ≡ Fault n p s) ↔ ((a ≡ Fault n p s) ⊎ (IsClean a × (b ≡ Fault n p s)))
unfolding or_else
fault_then (Ok tt) b n p s = grind (arith, nat_tests)
fault_then (Err f) b n p s = (inl, ⊎_elim (λ e. e) (λ h. cc))

-- it stands at place i, and the places before it are clean
pub record Stops (f : ℕ → Outcome) (n k p s i : ℕ) : Type 0 where
  pub within : i < n
  pub is : f i ≡ Fault k p s
  pub before : (j : ℕ) → j < i → IsClean (f j)

fault_turn : (f : ℕ → Outcome) (n k p s : ℕ) → (first_below f n ≡ Fault k p s) ↔ ((i : ℕ) × Stops f n k p s i)
fault_turn f n k p s = (
  (λ e.
      let x = fault_first f n (not_clean e) in
      (x.place, record { within = x.within; is = sym x.is ∙ e; before = x.before })),
  (λ x. first_is f n x.0 x.1.within (not_clean x.1.is) x.1.before ∙ x.1.is),
)

-- A SEARCH: when it is clean, and when it gives one certain fault
pub record Search (o : Outcome) (Good : Type 0) (Bad : ℕ → ℕ → ℕ → Type 0) : Type 0 where
  pub clean : IsClean o ↔ Good
  pub fault : (n p s : ℕ) → (o ≡ Fault n p s) ↔ Bad n p s

pub search_when : {b : Bool} {P Q : Type 0} (k q r : ℕ) → Says b P → Denies b Q
    → Search (when b (Fault k q r)) Q (λ n p s. P × (n ≡ k) × (p ≡ q) × (s ≡ r))
search_when k q r says denies = record { clean = clean_when k q r denies; fault = λ n p s. fault_when k q r says }

pub search_then : {a b : Outcome} {G H : Type 0} {B C : ℕ → ℕ → ℕ → Type 0} → Search a G B → Search b H C
    → Search (or_else a b) (G × H) (λ n p s. B n p s ⊎ (G × C n p s))
search_then {a} {b} f g =
    record {
      clean = Iff.trans (or_else_iff a b) (Iff.and f.clean g.clean);
      fault = λ n p s.
          let i = fault_then a b n p s in
          let x = f.fault n p s in
          let y = g.fault n p s in (
            (λ e. ⊎_elim (λ h. inl (x.0 h)) (λ h. inr (f.clean.0 h.0, y.0 h.1)) (i.0 e)),
            ⊎_elim (λ h. i.1 (inl (x.1 h))) (λ h. i.1 (inr (f.clean.1 h.0, y.1 h.1))),
          );
    }

pub search_turn : {f : ℕ → Outcome} {G : ℕ → Type 0} {B : ℕ → ℕ → ℕ → ℕ → Type 0} (k : ℕ) → ((i : ℕ) → Search (f i) (G i) (B i))
    → Search (first_below f k) ((i : ℕ) → i < k → G i) (λ n p s. (i : ℕ) × (i < k) × B i n p s × ((j : ℕ) → j < i → G j))
search_turn {f} k h =
    record {
      clean =
          let c = clean_iff f k in
          ((λ e i l. (h i).clean.0 (c.0 e i l)), (λ g. c.1 (λ i l. (h i).clean.1 (g i l))));
      fault = λ n p s.
          let t = fault_turn f k n p s in (
            (λ e. let x = t.0 e in (x.0, x.1.within, ((h x.0).fault n p s).0 x.1.is, λ j l. (h j).clean.0 (x.1.before j l))),
            (λ x. t.1 (x.0, record { within = x.1; is = ((h x.0).fault n p s).1 x.2; before = λ j l. (h j).clean.1 (x.3 j l) })),
          );
    }

-- a search through tests of one kind ends at the least that passes
pub search_each : {b : ℕ → Bool} {P Q : ℕ → Type 0} (num : ℕ) (q r : ℕ → ℕ) (k : ℕ) → ((i : ℕ) → Says (b i) (P i)) → ((i : ℕ) → Denies (b i) (Q i))
    → Search (first_below (λ i. when (b i) (Fault num (q i) (r i))) k) ((i : ℕ) → i < k → Q i)
    (λ n p s. (i : ℕ) × Least (λ j. (j < k) × P j) i × (n ≡ num) × (p ≡ q i) × (s ≡ r i))
search_each {b} {P} {Q} num q r k says denies =
    let t = search_turn k (λ i. search_when num (q i) (r i) (says i) (denies i)) in
    record {
      clean = t.clean;
      fault = λ n p s.
          let f = t.fault n p s in (
            (λ e.
                let x = f.0 e in
                (x.0, ((x.1, x.2.0), λ j l y. clash j (x.3 j l) y.1), x.2.1, x.2.2, x.2.3)),
            (λ x.
                f.1 (x.0, x.1.0.0, (x.1.0.1, x.2, x.3, x.4), λ j l. (denies j).0 (absent j (λ y. x.1.1 j l (omega arith, y))))),
          );
    }
  where
    clash : (j : ℕ) → Q j → ¬ P j
    clash j x y = cc ((says j).1 y, (denies j).1 x)

    absent : (j : ℕ) → ¬ P j → b j ≡ false
    absent j = (denies_it (says j)).1

-- NUMBERS: whatever fault it is, its number has P
pub record Numbers (P : ℕ → Type 0) (o : Outcome) : Type 0 where
  pub has : (n p s : ℕ) → o ≡ Fault n p s → P n

module _ {P : ℕ → Type 0} where
  pub numbers_when : (b : Bool) (k q r : ℕ) → P k → Numbers P (when b (Fault k q r))
  unfolding when
  numbers_when true k q r h = record { has = λ n p s e. subst P (same_number e) h }
  numbers_when false k q r h = record { has = λ n p s e. cc }

  pub numbers_then : (a b : Outcome) → Numbers P a → Numbers P b → Numbers P (or_else a b)
  numbers_then a b h k =
      record { has = λ n p s e. ⊎_elim (h.has n p s) (λ x. k.has n p s x.1) ((fault_then a b n p s).0 e) }

  -- a number that the first, or the second, of two searches cannot have
  pub fault_behind : (a b : Outcome) (n p s : ℕ) → Numbers P a → ¬ P n → (or_else a b ≡ Fault n p s) ↔ (IsClean a × (b ≡ Fault n p s))
  fault_behind a b n p s h not =
      let i = fault_then a b n p s in
      ((λ e. ⊎_elim (λ f. absurd (not (h.has n p s f))) (λ x. x) (i.0 e)), (λ x. i.1 (inr x)))

  pub fault_ahead : (a b : Outcome) (n p s : ℕ) → Numbers P b → ¬ P n → (or_else a b ≡ Fault n p s) ↔ (a ≡ Fault n p s)
  fault_ahead a b n p s h not =
      let i = fault_then a b n p s in
      ((λ e. ⊎_elim (λ f. f) (λ x. absurd (not (h.has n p s x.1))) (i.0 e)), (λ x. i.1 (inl x)))

pub numbers_wide : {P Q : ℕ → Type 0} {o : Outcome} → ((n : ℕ) → P n → Q n) → Numbers P o → Numbers Q o
numbers_wide f h = record { has = λ n p s e. f n (h.has n p s e) }

pub numbers_of : {P : ℕ → Type 0} {o : Outcome} {G : Type 0} {B : ℕ → ℕ → ℕ → Type 0} → Search o G B → ((n p s : ℕ) → B n p s → P n) → Numbers P o
numbers_of f h = record { has = λ n p s e. h n p s ((f.fault n p s).0 e) }

-- the number that is answered: 0, or the fault's
pub numbers_answer : {P : ℕ → Type 0} (o : Outcome) → P 0 → Numbers P o → P (answer_of o).number
numbers_answer (Ok tt) z h = z
numbers_answer (Err f) z h = h.has f.number f.place f.second refl

-- by a test, where the other side cannot have the number
pub fault_pick : {P : ℕ → Type 0} {b : Bool} {Q : Type 0} (a c : Outcome) (n p s : ℕ) → Says b Q → Numbers P c → ¬ P n
    → (pick b a c ≡ Fault n p s) ↔ (Q × (a ≡ Fault n p s))
fault_pick {b = true} a c n p s says h not = ((λ e. (says.0 refl, e)), (λ x. x.1))
fault_pick {b = false} a c n p s says h not =
    ((λ e. absurd (not (h.has n p s e))), (λ x. cc (says.1 x.0)))

pub fault_unpicked : {P : ℕ → Type 0} {b : Bool} {Q : Type 0} (a c : Outcome) (n p s : ℕ) → Denies b Q → Numbers P a → ¬ P n
    → (pick b a c ≡ Fault n p s) ↔ (Q × (c ≡ Fault n p s))
fault_unpicked {b = true} a c n p s denies h not =
    ((λ e. absurd (not (h.has n p s e))), (λ x. cc (denies.1 x.0)))
fault_unpicked {b = false} a c n p s denies h not = ((λ e. (denies.0 refl, e)), (λ x. x.1))
