-- The fault that the rules' search gives is the first broken rule, with its places, and no other fault is: the search goes through the list in
-- order, the list has one first, and a place has one second place. Assumes nothing.
use Prim.Native.Nat.{ℕ}
use mathlib.Core.Path.{◌≡◌, refl, sym, ◌∙◌, ap, subst}
use mathlib.Core.Logic.{◌↔◌}
use mathlib.Core.List.{List}
use borrow.Author.Rules.{rules}
use Rattle.std.specs.Prelude.{Ok, Err}
use Rattle.meaning.specs.Base.{Outcome, Fault}
use Rattle.meaning.specs.Book.{member_of}
use Rattle.meaning.specs.Rules.{rule_fault}
use Rattle.demands.specs.Broken.{Spot, typed, lower, upper, default, range, one, kind, mandatory, modules, rule_of, place_of, listed, Holds, Second, FirstBroken}
use Rattle.demands.proofs.Counts.{least_unique}
use Rattle.demands.proofs.Faults.{same_fault}
use Rattle.demands.proofs.Finds.{first_none, first_unique}
use Rattle.demands.proofs.Searched.{rules_found}

second_unique : (m t : List ℕ) (x : Spot) {a b : ℕ} → Second m t x a → Second m t x b → a ≡ b
second_unique m t (typed s) h k = h ∙ sym k
second_unique m t (lower s) h k = h ∙ sym k
second_unique m t (upper s) h k = h ∙ sym k
second_unique m t (default s) h k = h ∙ sym k
second_unique m t (range s r) h k = h ∙ sym k
second_unique m t (one c) h k = search rules
second_unique m t (kind c) h k = h.2 ∙ ap (member_of m c) (least_unique h.1 k.1) ∙ sym k.2
second_unique m t (mandatory c) h k = h ∙ sym k
second_unique m t (modules s) h k = h ∙ sym k

pub first_broken : (m t : List ℕ) (n p s : ℕ) → (rule_fault m t ≡ Fault n p s) ↔ FirstBroken m t n p s
first_broken m t n p s = (
  (λ e.
      let x = (rules_found m t).fault n p s e in
      record { spot = x.0; first = x.1; rule = x.2; place = x.3; second = x.4 }),
  (λ h. by (rule_fault m t) refl h),
)
  where
    by : (o : Outcome) → rule_fault m t ≡ o → FirstBroken m t n p s → o ≡ Fault n p s
    by (Ok tt) e h = absurd (first_none (Holds m t) (listed m) h.spot ((rules_found m t).clean e) h.first)
    by (Err f) e h =
        let x = (rules_found m t).fault f.number f.place f.second e in
        let same : x.0 ≡ h.spot = first_unique (Holds m t) (listed m) x.0 h.spot x.1 h.first in
        same_fault (sym x.2 ∙ ap rule_of same ∙ h.rule) (sym x.3 ∙ ap place_of same ∙ h.place)
        (second_unique m t h.spot (subst (λ y. Second m t y f.second) same x.4) h.second)
