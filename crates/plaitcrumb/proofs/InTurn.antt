-- The book's check and then the one after it are the table check, and so for the name: of the contracts themselves, as Rattle reads them. A result
-- below 2^32 has the answer 0, so the book is clean and what comes after it is all that is left. Assumes nothing.
use Prim.Native.Nat.{ℕ, ◌≤◌, ◌<◌}
use mathlib.Core.Path.{◌≡◌, refl, sym, ◌∙◌, ap, subst}
use mathlib.Core.Logic.{◌↔◌}
use native.Mathlib.Omega.{arith}
use contract.Lifetimes.{Lfts}
use borrow.Fn.Kinds.{Dens, res_t, ended_of}
use denote.Triple.Clauses.{AtExit}
use Rattle.meaning.specs.Base.{Outcome}
use Rattle.std.specs.Prelude.{Ok, Err}
use Rattle.meaning.specs.Base.{Clean, Fault}
use Rattle.meaning.specs.Base.{answer_of, packed}
use Rattle.meaning.specs.Book.{book_fault}
use Rattle.demands.specs.Refused.{Between}
use Rattle.demands.proofs.Faults.{Numbers}
use Rattle.demands.proofs.Numbers.{book_numbers}
use Rattle.demands.proofs.Refusals.{book_iff}
use Rattle.demands.proofs.InTurn as Turn
use Rattle.plaitcrumb.proofs.plaitcrumb_check_book.Kinds as BookKinds
use Rattle.plaitcrumb.proofs.plaitcrumb_check_book.Reads as BookReads
use Rattle.plaitcrumb.proofs.plaitcrumb_check_table.Kinds as TableKinds
use Rattle.plaitcrumb.proofs.plaitcrumb_check_table.Reads as TableReads
use Rattle.plaitcrumb.proofs.plaitcrumb_check_table_in.Reads as TableInReads
use Rattle.plaitcrumb.proofs.plaitcrumb_name.Kinds as NameKinds
use Rattle.plaitcrumb.proofs.plaitcrumb_name.Reads as NameReads
use Rattle.plaitcrumb.proofs.plaitcrumb_name_in.Reads as NameInReads

abbrev told : Outcome → ℕ
told o = packed (answer_of o)

-- answer 0 is a clean book's alone
clean : (o : Outcome) → Numbers (Between 1 4) o → told o < 4294967296 → o ≡ Clean
clean (Ok tt) h l = refl
clean (Err f) h l = absurd (omega (arith, (h.has f.number f.place f.second refl).0, l))

bad : (o : Outcome) → 4294967296 ≤ told o → (n : ℕ) × (p : ℕ) × (s : ℕ) × (o ≡ Fault n p s)
bad (Ok tt) l = absurd (omega (arith, l))
bad (Err f) l = (f.number, f.place, f.second, refl)

-- y is what the book's check answers
module _ (κb : Lfts 1) (b : Dens κb BookKinds.ps) (y : (res_t BookKinds.r κb).Denot) (f : AtExit (ended_of 1 BookKinds.ps BookKinds.r) κb)
    (answered : BookReads.Post κb b y f) where
  clean_book : y < 4294967296 → book_fault b.0.now ≡ Clean
  clean_book l = clean (book_fault b.0.now) (book_numbers b.0.now) (omega (arith, answered, l))

  -- a table of that book
  module _ (κs : Lfts 3) (a : Dens κs TableKinds.ps) (x : (res_t TableKinds.r κs).Denot) (e : AtExit (ended_of 3 TableKinds.ps TableKinds.r) κs)
      (same : a.0.now ≡ b.0.now) where
    -- 0: what meets the one contract meets the other
    pub table_in_turn : y < 4294967296 → TableInReads.Post κs a x e ↔ TableReads.Post κs a x e
    table_in_turn l =
        let c = ap book_fault same ∙ clean_book l in
        let v = ap told (Turn.table_in_turn a.0.now a.1.0.now c _) in
        let w = Turn.work_in_turn a.0.now a.1.0.now c a.1.1.0.now in
        ((λ p. (p.0 ∙ sym v, p.1 ∙ sym w)), (λ p. (p.0 ∙ v, p.1 ∙ w)))

    -- else the table check's result is that number, and its node work as it was
    pub table_of_bad_book : 4294967296 ≤ y → TableReads.Post κs a x e ↔ ((x ≡ y) × (e.1.1.0.now ≡ a.1.1.0.now))
    table_of_bad_book l =
        let r = bad (book_fault b.0.now) (omega (arith, answered, l)) in
        let d = ap book_fault same ∙ r.3 in
        let v = ap told (Turn.table_of_bad_book a.0.now a.1.0.now d _) ∙ ap told (ap book_fault same) ∙ sym answered in
        let w = Turn.work_of_bad_book a.0.now a.1.0.now d a.1.1.0.now in
        ((λ p. (p.0 ∙ v, p.1 ∙ w)), (λ p. (p.0 ∙ sym v, p.1 ∙ sym w)))

  -- a name of that book
  module _ (κs : Lfts 1) (a : Dens κs NameKinds.ps) (x : (res_t NameKinds.r κs).Denot) (e : AtExit (ended_of 1 NameKinds.ps NameKinds.r) κs)
      (same : a.0.now ≡ b.0.now) where
    pub name_in_turn : y < 4294967296 → NameInReads.Post κs a x e ↔ NameReads.Post κs a x e
    name_in_turn l =
        let v = Turn.name_in_turn a.0.now a.1.0 ((book_iff a.0.now).0 (ap book_fault same ∙ clean_book l)) in
        ((λ p. p ∙ sym v), (λ p. p ∙ v))

-- a name without a look at the book lies in the bytes, whatever they are
pub name_in_inside :
    (κs : Lfts 1) (a : Dens κs NameKinds.ps) (x : (res_t NameKinds.r κs).Denot) (e : AtExit (ended_of 1 NameKinds.ps NameKinds.r) κs)
    → NameInReads.Post κs a x e
    → Turn.Inside a.0.now a.1.0 x
name_in_inside κs a x e p =
    subst (Turn.Inside a.0.now a.1.0) (sym p) (Turn.name_in_inside a.0.now a.1.0)
