-- Each refusal of a book and of a table is answered exactly where document 01's list of numbers says: its condition holds and those of the refusals
-- before it do not. A search in turn gives a number only by the part that has it. Assumes nothing.
use Prim.Native.Nat.{ℕ, ◌≤◌, ◌<◌}
use mathlib.Core.Path.{◌≡◌, refl}
use mathlib.Core.Logic.Iff
use mathlib.Core.Logic.{◌⊎◌, inl, inr, ◌↔◌, ⊎_elim}
use mathlib.Core.List.{List}
use native.Mathlib.Omega.{arith}
use Rattle.meaning.specs.Base.{Clean, Fault}
use Rattle.meaning.specs.Book.{symbols, nodes, modules_of, book_fault, WellFormed}
use Rattle.meaning.specs.Table.{table_fault, Readable}
use Rattle.meaning.specs.Rules.{refusal_in, verdict_in, verdict}
use Rattle.meaning.specs.Valid.{Valid}
use Rattle.meaning.proofs.First.{IsClean, or_else_iff}
use Rattle.demands.specs.Broken.{Least, FirstBroken}
use Rattle.demands.specs.Refused.{BadLength, Sized, BadSection, Chained, BadRecord, Recorded, BadModules, BadContents, GoodContents, BadEntry, GoodEntries, BytesLeft}
use Rattle.demands.proofs.Faults.{fault_ahead, fault_behind}
use Rattle.demands.proofs.BookParts.{book_search, book_cases}
use Rattle.demands.proofs.Readable.{readable_iff, table_fault_5, table_fault_6}
use Rattle.demands.proofs.ValidIff.{valid_iff}
use Rattle.demands.proofs.FirstBroken.{first_broken}
use Rattle.demands.proofs.Rooms.{node_room_search}
use Rattle.demands.proofs.Numbers.{book_numbers, entry_numbers, rule_numbers, node_room_numbers, refusal_in_numbers, verdict_in_numbers}

-- THE BOOK
pub book_iff : (m : List ℕ) → (book_fault m ≡ Clean) ↔ WellFormed m
book_iff m = (book_search m).clean

module _ (m : List ℕ) (p s : ℕ) where
  pub book_refused_1 : (book_fault m ≡ Fault 1 p s) ↔ (BadLength m × (p ≡ 0) × (s ≡ 65535))
  book_refused_1 =
      Iff.trans ((book_search m).fault 1 p s) (
        book_cases m 1 p s (λ x e. x) (λ x e. absurd (omega arith)) (λ x e. absurd (omega arith)) (λ x e. absurd (omega arith)),
        (λ x. inl (x.0, refl, x.1, x.2)),
      )

  pub book_refused_2 : (book_fault m ≡ Fault 2 p s) ↔ (Sized m × BadSection m p × (s ≡ 65535))
  book_refused_2 =
      Iff.trans ((book_search m).fault 2 p s) (
        book_cases m 2 p s (λ x e. absurd (omega arith)) (λ x e. x) (λ x e. absurd (omega arith)) (λ x e. absurd (omega arith)),
        (λ x. inr (x.0, inl (x.1, refl, x.2))),
      )

  pub book_refused_3 : (book_fault m ≡ Fault 3 p s) ↔ (Sized m × Chained m × BadRecord m p s)
  book_refused_3 =
      Iff.trans ((book_search m).fault 3 p s) (
        book_cases m 3 p s (λ x e. absurd (omega arith)) (λ x e. absurd (omega arith)) (λ x e. x) (λ x e. absurd (omega arith)),
        (λ x. inr (x.0, inr (x.1, inl (x.2, refl)))),
      )

  pub book_refused_4 :
      (book_fault m ≡ Fault 4 p s) ↔ (Sized m × Chained m × Recorded m × BadModules m × (p ≡ modules_of m) × (s ≡ 65535))
  book_refused_4 =
      Iff.trans ((book_search m).fault 4 p s) (
        book_cases m 4 p s (λ x e. absurd (omega arith)) (λ x e. absurd (omega arith)) (λ x e. absurd (omega arith)) (λ x e. x),
        (λ x. inr (x.0, inr (x.1, inr (x.2, (x.3, refl, x.4, x.5))))),
      )

-- THE TABLE CHECK AFTER THE BOOK
module _ (m t : List ℕ) (room : ℕ) where
  refusal_in_clean : IsClean (refusal_in m t room) ↔ (Readable t (symbols m) × (nodes m ≤ room))
  unfolding refusal_in
  refusal_in_clean = Iff.trans (or_else_iff _ _) (Iff.and (readable_iff t (symbols m)) (node_room_search m room).clean)

  pub table_in_valid : WellFormed m → (verdict_in m t room ≡ Clean) ↔ (Readable t (symbols m) × (nodes m ≤ room) × Valid m t)
  unfolding verdict_in
  table_in_valid w =
      Iff.trans (or_else_iff _ _)
      (Iff.trans (Iff.and refusal_in_clean (valid_iff m t w)) ((λ h. (h.0.0, h.0.1, h.1)), (λ h. ((h.0, h.1), h.2))))

  module _ (n p s : ℕ) where
    pub table_in_broken : 10 ≤ n → (verdict_in m t room ≡ Fault n p s) ↔ (Readable t (symbols m) × (nodes m ≤ room) × FirstBroken m t n p s)
    unfolding verdict_in
    table_in_broken l =
        Iff.trans (fault_behind _ _ n p s (refusal_in_numbers m t room) (omega arith))
        (Iff.trans (Iff.and refusal_in_clean (first_broken m t n p s)) ((λ h. (h.0.0, h.0.1, h.1)), (λ h. ((h.0, h.1), h.2))))

    -- a number below 10 is the refusal's; below 7, the table's
    to_refusal_in : n < 10 → (verdict_in m t room ≡ Fault n p s) ↔ (refusal_in m t room ≡ Fault n p s)
    unfolding verdict_in
    to_refusal_in l = fault_ahead _ _ n p s (rule_numbers m t) (omega arith)

    to_table : n < 7 → (verdict_in m t room ≡ Fault n p s) ↔ (table_fault t (symbols m) ≡ Fault n p s)
    unfolding refusal_in
    to_table l =
        Iff.trans (to_refusal_in (omega arith)) (fault_ahead _ _ n p s (node_room_numbers m room) (omega arith))

  module _ (p s : ℕ) where
    pub table_in_refused_5 :
        (verdict_in m t room ≡ Fault 5 p s)
        ↔ ((BadContents t (symbols m) ⊎ (GoodContents t (symbols m) × GoodEntries t (symbols m) × BytesLeft t (symbols m)))
        × (p ≡ 0) × (s ≡ 65535))
    table_in_refused_5 = Iff.trans (to_table 5 p s (omega arith)) (table_fault_5 t (symbols m) p s)

    pub table_in_refused_6 :
        (verdict_in m t room ≡ Fault 6 p s) ↔ (GoodContents t (symbols m) × Least (BadEntry t (symbols m)) p × (s ≡ 65535))
    table_in_refused_6 = Iff.trans (to_table 6 p s (omega arith)) (table_fault_6 t (symbols m) p s)

    pub table_in_refused_7 :
        (verdict_in m t room ≡ Fault 7 p s) ↔ (Readable t (symbols m) × (room < nodes m) × (p ≡ nodes m) × (s ≡ 65535))
    unfolding refusal_in
    table_in_refused_7 =
        Iff.trans (to_refusal_in 7 p s (omega arith))
        (Iff.trans (fault_behind _ _ 7 p s (entry_numbers t (symbols m)) (omega arith))
        (Iff.trans (Iff.and (readable_iff t (symbols m)) ((node_room_search m room).fault 7 p s)) (
          (λ x. (x.0, x.1.0, x.1.2, x.1.3)),
          (λ x. (x.0, (x.1, refl, x.2, x.3))),
        )))

-- THE TABLE CHECK: the same in a well-formed book
module _ (m t : List ℕ) (room : ℕ) where
  pub table_valid : (verdict m t room ≡ Clean) ↔ (WellFormed m × Readable t (symbols m) × (nodes m ≤ room) × Valid m t)
  unfolding verdict
  table_valid = (
    (λ e.
        let a = (or_else_iff _ _).0 e in
        let w = (book_iff m).0 a.0 in
        let h = (table_in_valid m t room w).0 a.1 in
        (w, h.0, h.1, h.2)),
    (λ h. (or_else_iff _ _).1 ((book_iff m).1 h.0, (table_in_valid m t room h.0).1 (h.1, h.2, h.3))),
  )

  module _ (n p s : ℕ) where
    pub table_refused_1_to_4 : n ≤ 4 → (verdict m t room ≡ Fault n p s) ↔ (book_fault m ≡ Fault n p s)
    unfolding verdict
    table_refused_1_to_4 l =
        fault_ahead _ _ n p s (verdict_in_numbers m t room) (⊎_elim (omega arith) (omega arith))

    behind_book : 4 < n → (verdict m t room ≡ Fault n p s) ↔ (WellFormed m × (verdict_in m t room ≡ Fault n p s))
    unfolding verdict
    behind_book l =
        Iff.trans (fault_behind _ _ n p s (book_numbers m) (omega arith)) (Iff.and (book_iff m) Iff.rfl)

    pub table_broken : 10 ≤ n
        → (verdict m t room ≡ Fault n p s) ↔ (WellFormed m × Readable t (symbols m) × (nodes m ≤ room) × FirstBroken m t n p s)
    table_broken l =
        Iff.trans (behind_book (omega arith))
        (Iff.trans (Iff.and Iff.rfl (table_in_broken m t room n p s l))
        ((λ x. (x.0, x.1.0, x.1.1, x.1.2)), (λ x. (x.0, (x.1, x.2, x.3)))))

  module _ (p s : ℕ) where
    pub table_refused_5 :
        (verdict m t room ≡ Fault 5 p s)
        ↔ (WellFormed m
        × ((BadContents t (symbols m) ⊎ (GoodContents t (symbols m) × GoodEntries t (symbols m) × BytesLeft t (symbols m)))
        × (p ≡ 0) × (s ≡ 65535)))
    table_refused_5 = Iff.trans (behind_book 5 p s (omega arith)) (Iff.and Iff.rfl (table_in_refused_5 m t room p s))

    pub table_refused_6 :
        (verdict m t room ≡ Fault 6 p s)
        ↔ (WellFormed m × (GoodContents t (symbols m) × Least (BadEntry t (symbols m)) p × (s ≡ 65535)))
    table_refused_6 = Iff.trans (behind_book 6 p s (omega arith)) (Iff.and Iff.rfl (table_in_refused_6 m t room p s))

    pub table_refused_7 :
        (verdict m t room ≡ Fault 7 p s)
        ↔ (WellFormed m × Readable t (symbols m) × (room < nodes m) × (p ≡ nodes m) × (s ≡ 65535))
    table_refused_7 =
        Iff.trans (behind_book 7 p s (omega arith))
        (Iff.trans (Iff.and Iff.rfl (table_in_refused_7 m t room p s))
        ((λ x. (x.0, x.1.0, x.1.1, x.1.2, x.1.3)), (λ x. (x.0, (x.1, x.2, x.3, x.4)))))
