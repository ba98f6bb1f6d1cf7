-- At a leaf of the complete tree a value is chosen for each symbol, each set is that value alone, and the first rule that the values' table
-- breaks is one whose leaf may stand there and is closed: 10, 14 and 16 cannot be broken. Assumes nothing.
use Prim.Native.Nat.{ℕ, zero, suc, ◌≤◌, ◌<◌}
use mathlib.Core.Path.{◌≡◌, refl, sym, ◌∙◌, ap}
use mathlib.Core.Bool.{Bool, true, false, ◌&&◌, not, and-eq-true_iff}
use mathlib.Mathlib.Data.Bool.Basic.{and_elim_right}
use mathlib.Core.List.{List}
use native.Mathlib.Omega.{arith}
use lib.Dec.{eqb, ltb}
use lib.ListN.{length}
use borrow.Author.Tests.{eqb-true, lt-ltb, eq-eqb, leb-true}
use Rattle.std.proofs.lemmas.Bool.Decides.{nat_tests}
use Rattle.std.specs.Prelude.{Ok, Err}
use Rattle.meaning.specs.Base.{Outcome, Clean, Fault, when, or_else, first_below}
use Rattle.meaning.specs.Book.{symbols, choices, type_of, choice_kind, choice_prompt, member_count, member_of, WellFormed}
use Rattle.meaning.specs.Table.{a_three, content_of, value_of, table_fault}
use Rattle.meaning.specs.Values.{val, node_values}
use Rattle.meaning.specs.Rules.{type_fits, test10, ms_of, test14, test16, test18, symbol_fault, choice_fault, rules_fault, rule_fault, unmet}
use Rattle.meaning.specs.Sets.{has, full, sat, node_sets}
use Rattle.meaning.specs.Picks.{In}
use Rattle.meaning.specs.Clearance.{leaf_stands, closed_on}
use Rattle.meaning.specs.Findings.{table_of}
use Rattle.demands.proofs.Bools.{not_both}
use Rattle.demands.proofs.Lifts.{in_small, Is, is_lifts}
use Rattle.demands.proofs.Relate.{node}
use Rattle.demands.proofs.Counts.{some_counted}
use Rattle.demands.proofs.Tables.{table_clean, table_content}
use Rattle.demands.proofs.Own.{Broken, own-three, own15, own17, own18, own20}
use Rattle.demands.proofs.Singles.{own-closed}
use Rattle.demands.proofs.ThreeModels.{all_three, no_free, no_range, boolean_member}

-- a value of a boolean or tristate type fits it; of a boolean it is not m
full-fits : (y v : ℕ) → y ≤ 1 → In (full y) v → type_fits y (a_three v) ≡ true
unfolding full has
full-fits zero v le h = grind (arith, nat_tests)
full-fits (suc zero) v le h = refl
full-fits (suc (suc y)) v le h = absurd (omega arith)

full_not_m : (v : ℕ) → In (full 0) v → v ≡ 1 → ⊥
unfolding full has
full_not_m v h e = cc

module _ (m : List ℕ) (q : ℕ) (wf : WellFormed m) (all : (s : ℕ) → s < symbols m → type_of m s ≤ 1) (vs ys : List ℕ)
    (size : length vs ≡ symbols m) (chosen : (i : ℕ) → Is (sat ys i) (val vs i))
    (fits : (i : ℕ) → i < symbols m → In (full (type_of m i)) (val vs i)) where
  abbrev t : List ℕ
  t = table_of vs

  abbrev ns : List ℕ
  ns = node_values m t

  small : (i : ℕ) → val vs i < 3
  small i = in_small (sat ys i) (val vs i) (chosen i).inside

  content : (i : ℕ) → content_of t i ≡ a_three (val vs i)
  content = table_content vs small

  value : (i : ℕ) → value_of t i ≡ val vs i
  unfolding value_of
  value i = rw (content i)

  pub readable : table_fault t (symbols m) ≡ Clean
  readable = rw (← size) (table_clean vs small)

  symbol_alone : (i : ℕ) → Is (sat ys i) (value_of t i)
  symbol_alone i = rw (value i) (chosen i)

  node_alone : (i : ℕ) → Is (sat (node_sets m ys) i) (val ns i)
  node_alone =
      node Is is_lifts m ys t symbol_alone (λ i _. content i ∙ ap a_three (sym (value i)))
      (λ i lt is free b. not_both (no_free m wf all i lt is) free)

  -- A LEAF for a fault that the table has may stand, and is closed
  abbrev pub Stands : ℕ → ℕ → Type 0
  Stands rule place = (leaf_stands m q rule place ≡ true) × (closed_on m q ys rule place ≡ true)

  abbrev pub Good : Outcome → Type 0
  Good (Ok _) = Unit {0}
  Good (Err f) = Stands f.number f.place

  good_or_else : (a b : Outcome) → Good a → Good b → Good (or_else a b)
  unfolding or_else
  good_or_else (Ok tt) b g h = h
  good_or_else (Err f) b g h = g

  good_when : (c : Bool) (a : Outcome) → (c ≡ true → Good a) → Good (when c a)
  unfolding when
  good_when true a g = g refl
  good_when false a g = tt

  good_first : (test : ℕ → Outcome) (n : ℕ) → ((i : ℕ) → i < n → Good (test i)) → Good (first_below test n)
  unfolding first_below
  good_first test zero g = tt
  good_first test (suc n) g = good_or_else _ _ (good_first test n (λ i lt. g i (omega arith))) (g n (omega arith))

  closes : (rule place second : ℕ) → leaf_stands m q rule place ≡ true → Good (when (Broken m q t place rule) (Fault rule place second))
  closes rule place second ok = good_when _ _ (λ h. (ok, own-closed m q ys t symbol_alone node_alone place rule h))

  at_symbol_lem : (s : ℕ) → s < symbols m → leaf_stands m q 11 s ≡ true
  unfolding leaf_stands
  at_symbol_lem s lt = rw (lt-ltb s (symbols m) lt, all_three m wf all s lt)

  at_choice_lem : (c : ℕ) → c < choices m → leaf_stands m q 15 c ≡ true
  unfolding leaf_stands
  at_choice_lem c lt = lt-ltb c (choices m) lt

  good10 : (s : ℕ) → s < symbols m → Good (test10 m t s)
  unfolding test10
  good10 s lt =
      let fit : type_fits (type_of m s) (content_of t s) ≡ true = rw (content s) (full-fits (type_of m s) (val vs s) (all s lt) (fits s lt)) in
      good_when _ _ (λ h. not_both (ap not fit) h)

  good_symbol : (s : ℕ) → s < symbols m → Good (symbol_fault m t ns s)
  unfolding symbol_fault test14 leaf_stands
  good_symbol s lt =
      let ok = at_symbol_lem s lt in
      let three = good_or_else _ _ (closes 11 s 65535 ok) (good_or_else _ _ (closes 12 s 65535 ok) (closes 13 s 65535 ok)) in
      good_or_else _ _ (rw (all_three m wf all s lt, own-three m q t s) three)
      (good_first _ _ (λ r lr. absurd (no_range m wf all r lr)))

  good16 : (c : ℕ) → c < choices m → Good (test16 m t ns c)
  unfolding test16 ms_of
  good16 c lc =
      good_when _ _ (λ h.
      let p = val ns (choice_prompt m c) in
      let a = (and-eq-true_iff (ltb 0 p && eqb (choice_kind m c) 0) _).0 h in
      let x = some_counted (λ j. eqb (value_of t (member_of m c j)) 1) (member_count m c) (leb-true 1 _ a.1) in
      let i = member_of m c x.0 in
      let s = boolean_member m wf all c x.0 lc x.1 (eqb-true (choice_kind m c) 0 (and_elim_right (ltb 0 p) _ a.0)) in
      let own : In (full 0) (val vs i) = rw s.1 at (fits i s.0) in
      absurd (full_not_m (val vs i) own (sym (value i) ∙ eqb-true (value_of t i) 1 x.2)))

  good_choice : (c : ℕ) → c < choices m → Good (choice_fault m t ns c)
  unfolding choice_fault leaf_stands
  good_choice c lc =
      let ok = at_choice_lem c lc in
      good_or_else _ _ (rw (own15 m q t c) (closes 15 c _ ok)) (good_or_else _ _ (good16 c lc) (rw (own17 m q t c) (closes 17 c 65535 ok)))

  good18 : (s : ℕ) → s < symbols m → Good (test18 m t s)
  unfolding leaf_stands
  good18 s lt = rw (own18 m q t s) (closes 18 s 65535 (at_symbol_lem s lt))

  pub good_rules : Good (rule_fault m t)
  unfolding rule_fault rules_fault
  good_rules =
      good_or_else _ _ (good_first _ _ good10)
      (good_or_else _ _ (good_first _ _ good_symbol) (good_or_else _ _ (good_first _ _ good_choice) (good_first _ _ good18)))

  -- and where it has none, the leaf of 20
  pub good20 : unmet m t q ≡ false → Stands 20 q
  unfolding leaf_stands
  good20 met = (eq-eqb q q refl, own-closed m q ys t symbol_alone node_alone q 20 (own20 m q t q ∙ ap not met))
