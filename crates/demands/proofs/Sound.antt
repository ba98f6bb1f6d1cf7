-- SOUND: no table that is readable and breaks no rule leaves a select unmet whose clearance is accepted. Its own values lie in the sets of
-- one leaf's path, and that leaf is closed; it is of no rule that the table breaks, so it is a 20. Assumes nothing.
use Prim.Native.Nat.{ℕ, ◌<◌}
use mathlib.Core.Path.{◌≡◌, refl, sym, ◌∙◌, subst}
use mathlib.Core.Bool.{Bool, true, false, and-eq-true_iff}
use mathlib.Core.List.{List}
use lib.Dec.{eqb, ltb}
use borrow.Author.Tests.{eqb-true, ltb-true, not-true, not-false}
use Rattle.meaning.specs.Base.{Outcome, Clean, Fault, when}
use Rattle.meaning.specs.Book.{symbols, choices, type_of, three_type}
use Rattle.meaning.specs.Table.{entries, content_of, value_of, table_fault}
use Rattle.meaning.specs.Values.{val, yes_no, node_values}
use Rattle.meaning.specs.Rules.{type_fits, test10, symbol_fault, choice_fault, test18, rules_fault, rule_fault, unmet}
use Rattle.meaning.specs.Sets.{has, sat, node_sets}
use Rattle.meaning.specs.Picks.{In, broken_picked, Closed}
use Rattle.meaning.specs.Clearance.{leaf_stands}
use Rattle.meaning.specs.Findings.{select_of, clearance_fault}
use Rattle.meaning.proofs.First.{IsClean, or_else_iff, when_iff, a_fault, clean_all}
use Rattle.demands.proofs.Bools.{pick-cases, not_both}
use Rattle.demands.proofs.Lifts.{in_lifts}
use Rattle.demands.proofs.Relate.{node}
use Rattle.demands.proofs.Readable.{readable_iff}
use Rattle.demands.proofs.Typed.{typed-three, typed_in}
use Rattle.demands.proofs.Own.{own, own_allowed, Broken, own-three, own15, own17, own18, own20}
use Rattle.demands.proofs.Walks.{tree_says, clearance_iff}

n_or_y : (b : Bool) → In 5 (yes_no b)
unfolding has
n_or_y true = refl
n_or_y false = refl

module _ (m t : List ℕ) (readable : table_fault t (symbols m) ≡ Clean) (clean : rule_fault m t ≡ Clean) where
  abbrev vs : List ℕ
  vs = node_values m t

  abbrev Clear : (ℕ → Outcome) → ℕ → Type 0
  Clear g n = (i : ℕ) → i < n → IsClean (g i)

  parts : Clear (test10 m t) (symbols m) × Clear (symbol_fault m t vs) (symbols m) × Clear (choice_fault m t vs) (choices m)
      × Clear (test18 m t) (symbols m)
  unfolding rule_fault rules_fault
  parts =
      let a = (or_else_iff _ _).0 clean in
      let b = (or_else_iff _ _).0 a.1 in
      let c = (or_else_iff _ _).0 b.1 in
      (clean_all _ _ a.0, clean_all _ _ b.0, clean_all _ _ c.0, clean_all _ _ c.1)

  fits : (i : ℕ) → i < symbols m → type_fits (type_of m i) (content_of t i) ≡ true
  unfolding test10
  fits i lt = not-false _ ((when_iff _ _ (a_fault 10 i 65535)).0 (parts.0 i lt))

  counted : entries t ≡ symbols m
  counted = ((readable_iff t (symbols m)).0 readable).counted

  module _ (q rule place : ℕ) where
    abbrev B : ℕ → Bool
    B = Broken m q t place

    unbroken : (r e : ℕ) → IsClean (when (B r) (Fault r place e)) → B r ≡ false
    unbroken r e c = (when_iff _ _ (a_fault r place e)).0 c

    in_symbol : place < symbols m → three_type m place ≡ true → (B 11 ≡ false) × (B 12 ≡ false) × (B 13 ≡ false)
    unfolding symbol_fault
    in_symbol lt three =
        let p = rw (three, own-three m q t place) at ((or_else_iff _ _).0 (parts.1 place lt)).0 in
        let a = (or_else_iff _ _).0 p in
        let b = (or_else_iff _ _).0 a.1 in
        (unbroken 11 65535 a.0, unbroken 12 65535 b.0, unbroken 13 65535 b.1)

    in_choice : place < choices m → (B 15 ≡ false) × (B 17 ≡ false)
    unfolding choice_fault
    in_choice lt =
        let a = (or_else_iff _ _).0 (parts.2 place lt) in
        let b = (or_else_iff _ _).0 a.1 in
        (unbroken 15 _ (rw (own15 m q t place) at a.0), unbroken 17 65535 (rw (own17 m q t place) at b.1))

    in_modules : place < symbols m → B 18 ≡ false
    in_modules lt = unbroken 18 65535 (rw (own18 m q t place) at (parts.3 place lt))

    -- a leaf that may stand is of no rule that the table breaks
    module _ (ok : leaf_stands m q rule place ≡ true) where
      stands : (r : ℕ) → eqb rule r ≡ true → leaf_stands m q r place ≡ true
      stands r e = subst (λ (k : ℕ). leaf_stands m q k place ≡ true) (eqb-true rule r e) ok

      at_symbol_lem : leaf_stands m q 11 place ≡ true → (place < symbols m) × (three_type m place ≡ true)
      unfolding leaf_stands
      at_symbol_lem h = let b = (and-eq-true_iff (ltb place (symbols m)) _).0 h in (ltb-true place (symbols m) b.0, b.1)

      at_choice_lem : leaf_stands m q 15 place ≡ true → place < choices m
      unfolding leaf_stands
      at_choice_lem h = ltb-true place (choices m) h

      met : B rule ≡ true → unmet m t q ≡ false
      unfolding broken_picked leaf_stands
      met =
          pick-cases P (eqb rule 11) (λ e. not_both (let s = at_symbol_lem (stands 11 e) in (in_symbol s.0 s.1).0))
          (λ _. pick-cases P (eqb rule 12) (λ e. not_both (let s = at_symbol_lem (stands 12 e) in (in_symbol s.0 s.1).1))
          (λ _. pick-cases P (eqb rule 13) (λ e. not_both (let s = at_symbol_lem (stands 13 e) in (in_symbol s.0 s.1).2))
          (λ _. pick-cases P (eqb rule 15) (λ e. not_both (in_choice (at_choice_lem (stands 15 e))).0)
          (λ _. pick-cases P (eqb rule 17) (λ e. not_both (in_choice (at_choice_lem (stands 17 e))).1)
          (λ _. pick-cases P (eqb rule 18) (λ e. not_both (in_modules (at_symbol_lem (stands 18 e)).0))
          (λ _. pick-cases P (eqb rule 20) (λ e h. not-true (unmet m t q) (sym (own20 m q t place) ∙ h)) (λ _ h. cc)))))))
        where
          P : Bool → Type 0
          P b = b ≡ true → unmet m t q ≡ false

  leaf : (q : ℕ) (ys : List ℕ) (rule place : ℕ) → ((i : ℕ) → In (sat ys i) (value_of t i)) → leaf_stands m q rule place ≡ true
      → Closed m q ys rule place → unmet m t q ≡ false
  leaf q ys rule place within ok closed = met q rule place ok (closed (own m q t place) (own_allowed m q t place ys within nodes-within))
    where
      nodes-within : (i : ℕ) → In (sat (node_sets m ys) i) (val vs i)
      nodes-within = node In in_lifts m ys t within (typed-three m t counted fits) (λ i _ _ _. n_or_y)

  cleared : (f : List ℕ) → clearance_fault m f ≡ Clean → unmet m t (select_of f) ≡ false
  cleared f accepted =
      tree_says m (select_of f) f (value_of t) (unmet m t (select_of f) ≡ false) (leaf (select_of f)) ((clearance_iff m f).0 accepted) (typed_in m t counted fits)

-- over every model, table and finding at all
pub sound_tests : (m f t : List ℕ) → clearance_fault m f ≡ Clean → table_fault t (symbols m) ≡ Clean → rule_fault m t ≡ Clean
    → unmet m t (select_of f) ≡ false
sound_tests m f t accepted readable clean = cleared m t readable clean f accepted
