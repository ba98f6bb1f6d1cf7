-- Each answer to a finding that its head, the rooms or its witness decide is given exactly where document 01's list of numbers says: a search in turn
-- gives a number only by the part that has it. Assumes nothing.
use Prim.Native.Nat.{ℕ, ◌≤◌, ◌<◌}
use mathlib.Core.Path.{◌≡◌, refl}
use mathlib.Core.Bool.{not}
use mathlib.Core.Logic.Iff
use mathlib.Core.Logic.{◌↔◌}
use mathlib.Core.List.{List}
use native.Mathlib.Omega.{arith}
use borrow.Author.Tests.{eq-eqb, ne_eqb}
use Rattle.meaning.specs.Base.{Outcome, Clean, Fault, or_else}
use Rattle.meaning.specs.Book.{symbols, nodes, book_fault, WellFormed}
use Rattle.meaning.specs.Table.{table_fault, Readable}
use Rattle.meaning.specs.Rules.{rule_fault, node_room_fault}
use Rattle.meaning.specs.Valid.{Valid, Unmet}
use Rattle.meaning.specs.Findings.{select_of, finding_kind, head_fault, witness_table, witness_fault, clearance_fault, symbol_room_fault, finding_refusal, body_fault, finding_outcome}
use Rattle.meaning.proofs.First.{IsClean, or_else_iff}
use Rattle.demands.specs.Broken.{FirstBroken}
use Rattle.demands.specs.Refused.{BadHead, GoodHead, Admitted, Between}
use Rattle.demands.proofs.Bools.{says_not, denies_it, says_eq, denies_zero}
use Rattle.demands.proofs.Faults.{fault_when, fault_ahead, fault_behind, fault_pick, fault_unpicked}
use Rattle.demands.proofs.Readable.{readable_iff}
use Rattle.demands.proofs.ValidIff.{valid_iff}
use Rattle.demands.proofs.FirstBroken.{first_broken}
use Rattle.demands.proofs.Witness.{says_unmet, witness_iff}
use Rattle.demands.proofs.Rooms.{node_room_search, symbol_room_search, head_search}
use Rattle.demands.proofs.Numbers.{book_numbers, entry_numbers, rule_numbers, node_room_numbers, symbol_room_numbers, head_numbers, met_numbers, behind_table_numbers, OfRefusal, OfBody, witness_numbers, clearance_numbers, body_numbers, room_numbers, behind_head_numbers, finding_refusal_numbers}
use Rattle.demands.proofs.Refusals.{book_iff}

module _ (m f : List ℕ) (node_room symbol_room : ℕ) where
  abbrev Rooms : Outcome
  Rooms = or_else (node_room_fault m node_room) (symbol_room_fault m symbol_room)

  admitted_iff : IsClean (finding_refusal m f node_room symbol_room) ↔ Admitted m f node_room symbol_room
  unfolding finding_refusal
  admitted_iff =
      Iff.trans (or_else_iff _ _)
      (Iff.and (book_iff m)
      (Iff.trans (or_else_iff _ _)
      (Iff.and (head_search m f).clean
      (Iff.trans (or_else_iff _ _) (Iff.and (node_room_search m node_room).clean (symbol_room_search m symbol_room).clean)))))

  module _ (n p s : ℕ) where
    -- a number that no body has is the refusal's
    to_finding_refusal :
        ¬ OfBody n → (finding_outcome m f node_room symbol_room ≡ Fault n p s) ↔ (finding_refusal m f node_room symbol_room ≡ Fault n p s)
    unfolding finding_outcome
    to_finding_refusal not = fault_ahead _ _ n p s (body_numbers m f) not

    pub finding_refused_1_to_4 : n ≤ 4 → (finding_outcome m f node_room symbol_room ≡ Fault n p s) ↔ (book_fault m ≡ Fault n p s)
    unfolding finding_refusal
    finding_refused_1_to_4 l =
        Iff.trans
        (to_finding_refusal (omega arith))
        (fault_ahead _ _ n p s (behind_head_numbers m f node_room symbol_room) (omega arith))

    behind_book_of : ¬ OfBody n → 4 < n
        → (finding_outcome m f node_room symbol_room ≡ Fault n p s) ↔ (WellFormed m × (or_else (head_fault m f) Rooms ≡ Fault n p s))
    unfolding finding_refusal
    behind_book_of not l =
        Iff.trans (to_finding_refusal not)
        (Iff.trans (fault_behind _ _ n p s (book_numbers m) (omega arith)) (Iff.and (book_iff m) Iff.rfl))

    behind_head : ¬ OfBody n → 4 < n → n < 21
        → (finding_outcome m f node_room symbol_room ≡ Fault n p s) ↔ (WellFormed m × (GoodHead m f × (Rooms ≡ Fault n p s)))
    behind_head not l k =
        Iff.trans (behind_book_of not l)
        (Iff.and Iff.rfl
        (Iff.trans (fault_behind _ _ n p s (head_numbers m f) (omega arith)) (Iff.and (head_search m f).clean Iff.rfl)))

  no_body : (n : ℕ) → 6 < n → n < 10 → ¬ OfBody n
  no_body n l k = omega arith

  module _ (p s : ℕ) where
    pub finding_refused_21 :
        (finding_outcome m f node_room symbol_room ≡ Fault 21 p s) ↔ (WellFormed m × BadHead m f × (p ≡ 0) × (s ≡ 65535))
    finding_refused_21 =
        Iff.trans
        (behind_book_of 21 p s (omega arith) (omega arith))
        (Iff.trans
        (Iff.and Iff.rfl (Iff.trans (fault_ahead _ _ 21 p s (room_numbers m node_room symbol_room) (omega arith)) ((head_search m f).fault 21 p s)))
        ((λ x. (x.0, x.1.0, x.1.2, x.1.3)), (λ x. (x.0, (x.1, refl, x.2, x.3)))))

    pub finding_refused_7 :
        (finding_outcome m f node_room symbol_room ≡ Fault 7 p s)
        ↔ (WellFormed m × GoodHead m f × (node_room < nodes m) × (p ≡ nodes m) × (s ≡ 65535))
    finding_refused_7 =
        Iff.trans (behind_head 7 p s (no_body 7 (omega arith) (omega arith)) (omega arith) (omega arith))
        (Iff.trans
        (Iff.and Iff.rfl
        (Iff.and Iff.rfl
        (Iff.trans (fault_ahead _ _ 7 p s (symbol_room_numbers m symbol_room) (omega arith))
        ((node_room_search m node_room).fault 7 p s)))) (
          (λ x. (x.0, x.1.0, x.1.1.0, x.1.1.2, x.1.1.3)),
          (λ x. (x.0, (x.1, (x.2, refl, x.3, x.4)))),
        ))

    pub finding_refused_8 :
        (finding_outcome m f node_room symbol_room ≡ Fault 8 p s)
        ↔ (WellFormed m × GoodHead m f × (nodes m ≤ node_room) × (symbol_room < symbols m) × (p ≡ symbols m) × (s ≡ 65535))
    finding_refused_8 =
        Iff.trans (behind_head 8 p s (no_body 8 (omega arith) (omega arith)) (omega arith) (omega arith))
        (Iff.trans
        (Iff.and Iff.rfl
        (Iff.and Iff.rfl
        (Iff.trans (fault_behind _ _ 8 p s (node_room_numbers m node_room) (omega arith))
        (Iff.and (node_room_search m node_room).clean ((symbol_room_search m symbol_room).fault 8 p s))))) (
          (λ x. (x.0, x.1.0, x.1.1.0, x.1.1.1.0, x.1.1.1.2, x.1.1.1.3)),
          (λ x. (x.0, (x.1, (x.2, (x.3, refl, x.4, x.5))))),
        ))

  -- WHAT A WITNESS DECIDES: a number that no refusal and no clearance has
  module _ (n p s : ℕ) where
    to_witness : ¬ OfRefusal n → ¬ Between 22 23 n
        → (finding_outcome m f node_room symbol_room ≡ Fault n p s)
        ↔ (Admitted m f node_room symbol_room × ((finding_kind f ≡ 0) × (witness_fault m f ≡ Fault n p s)))
    unfolding finding_outcome body_fault
    to_witness refused cleared =
        Iff.trans (fault_behind _ _ n p s (finding_refusal_numbers m f node_room symbol_room) refused)
        (Iff.and admitted_iff (fault_pick _ _ n p s (says_eq (finding_kind f) 0) (clearance_numbers m f) cleared))

    pub witness_refused_5_6 : 5 ≤ n → n ≤ 6
        → (finding_outcome m f node_room symbol_room ≡ Fault n p s)
        ↔ (Admitted m f node_room symbol_room × ((finding_kind f ≡ 0) × (table_fault (witness_table f) (symbols m) ≡ Fault n p s)))
    unfolding witness_fault
    witness_refused_5_6 l k =
        Iff.trans
        (to_witness (omega arith) (omega arith))
        (Iff.and Iff.rfl (Iff.and Iff.rfl (fault_ahead _ _ n p s (behind_table_numbers m f) (omega arith))))

    pub witness_broken : 10 ≤ n → n ≤ 18
        → (finding_outcome m f node_room symbol_room ≡ Fault n p s)
        ↔ (Admitted m f node_room symbol_room
        × ((finding_kind f ≡ 0) × (Readable (witness_table f) (symbols m) × FirstBroken m (witness_table f) n p s)))
    unfolding witness_fault
    witness_broken l k =
        Iff.trans
        (to_witness (omega arith) (omega arith))
        (Iff.and Iff.rfl
        (Iff.and Iff.rfl
        (Iff.trans (fault_behind _ _ n p s (entry_numbers (witness_table f) (symbols m)) (omega arith))
        (Iff.and (readable_iff (witness_table f) (symbols m))
        (Iff.trans (fault_ahead _ _ n p s (met_numbers m f) (omega arith)) (first_broken m (witness_table f) n p s))))))

  -- 24 is the last of the witness's three tests
  met_iff : (n p s : ℕ) → 18 < n
      → (witness_fault m f ≡ Fault n p s)
      ↔ (Readable (witness_table f) (symbols m)
      × ((rule_fault m (witness_table f) ≡ Clean)
      × ((¬ Unmet m (witness_table f) (select_of f)) × (n ≡ 24) × (p ≡ select_of f) × (s ≡ 65535))))
  unfolding witness_fault
  met_iff n p s l =
      let t = witness_table f in
      Iff.trans (fault_behind _ _ n p s (entry_numbers t (symbols m)) (omega arith))
      (Iff.and (readable_iff t (symbols m))
      (Iff.trans (fault_behind _ _ n p s (rule_numbers m t) (omega arith))
      (Iff.and Iff.rfl (fault_when 24 (select_of f) 65535 (says_not (denies_it (says_unmet m t (select_of f))))))))

  pub witness_refused_24 : (p s : ℕ)
      → (finding_outcome m f node_room symbol_room ≡ Fault 24 p s)
      ↔ (Admitted m f node_room symbol_room × (finding_kind f ≡ 0) × Readable (witness_table f) (symbols m) × Valid m (witness_table f)
      × (¬ Unmet m (witness_table f) (select_of f)) × (p ≡ select_of f) × (s ≡ 65535))
  witness_refused_24 p s =
      let valid = valid_iff m (witness_table f) in
      Iff.trans
      (to_witness 24 p s (omega arith) (omega arith))
      (Iff.trans (Iff.and Iff.rfl (Iff.and Iff.rfl (met_iff 24 p s (omega arith)))) (
        (λ x.
            let y = x.1.1 in
            (x.0, x.1.0, y.0, (valid x.0.0).0 y.1.0, y.1.1.0, y.1.1.2, y.1.1.3)),
        (λ h. (h.0, (h.1, (h.2, ((valid h.0.0).1 h.3, (h.4, refl, h.5, h.6)))))),
      ))

  pub witness_accepted : finding_kind f ≡ 0
      → (finding_outcome m f node_room symbol_room ≡ Clean)
      ↔ (Admitted m f node_room symbol_room
      × (Readable (witness_table f) (symbols m) × Valid m (witness_table f) × Unmet m (witness_table f) (select_of f)))
  unfolding finding_outcome body_fault
  witness_accepted k =
      let witness = eq-eqb (finding_kind f) 0 k in (
        (λ e. let a = (or_else_iff _ _).0 e in let w = admitted_iff.0 a.0 in (w, (witness_iff m f w.0).0 (rw witness at a.1))),
        (λ h. (or_else_iff _ _).1 (admitted_iff.1 h.0, rw witness ((witness_iff m f h.0.0).1 h.1))),
      )

  -- WHAT A CLEARANCE DECIDES
  pub clearance_refused : (n p s : ℕ) → 22 ≤ n → n ≤ 23
      → (finding_outcome m f node_room symbol_room ≡ Fault n p s)
      ↔ (Admitted m f node_room symbol_room × (finding_kind f ≡ 1) × (clearance_fault m f ≡ Fault n p s))
  unfolding finding_outcome body_fault
  clearance_refused n p s l k =
      Iff.trans
      (fault_behind _ _ n p s (finding_refusal_numbers m f node_room symbol_room)
      (omega arith))
      (Iff.trans
      (Iff.and admitted_iff
      (fault_unpicked _ _ n p s (denies_zero (finding_kind f)) (witness_numbers m f)
      (omega arith)))
      ((λ x. (x.0, omega arith, x.1.1)), (λ x. (x.0, (omega arith, x.2)))))

  pub clearance_accepted : finding_kind f ≡ 1
      → (finding_outcome m f node_room symbol_room ≡ Clean) ↔ (Admitted m f node_room symbol_room × (clearance_fault m f ≡ Clean))
  unfolding finding_outcome body_fault
  clearance_accepted k =
      let clearance = ne_eqb (finding_kind f) 0 (λ z. omega arith) in (
        (λ e. let a = (or_else_iff _ _).0 e in (admitted_iff.0 a.0, rw clearance at a.1)),
        (λ h. (or_else_iff _ _).1 (admitted_iff.1 h.0, rw clearance h.1)),
      )
