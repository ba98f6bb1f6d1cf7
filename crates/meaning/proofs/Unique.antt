-- From one input no second answer meets what a public function of this crate ensures: of the contracts themselves, as Rattle reads them. Assumes nothing.
use Prim.Native.Nat.{ℕ, ◌<◌, ◌≤◌}
use mathlib.Core.Bool.{Bool}
use mathlib.Core.Path.{◌≡◌, sym, ◌∙◌}
use contract.Lifetimes.{Lfts}
use borrow.Fn.Kinds.{Dens, res_t, ended_of}
use denote.RattleType.{RattleType}
use denote.Param.Laws.{Laws}
use denote.Triple.Clauses.{AtExit}
use mir.Syntax.{Dict}
use Rattle.meaning.specs.Base.{Outcome, Clean, first_below}
use Rattle.tri.specs.Once.{Once}
use Rattle.meaning.proofs.Refusal.number.Kinds as NumberKinds
use Rattle.meaning.proofs.Refusal.number.Reads as NumberReads
use Rattle.meaning.proofs.RefusalFromU16.from.Kinds as RefusalFromKinds
use Rattle.meaning.proofs.RefusalFromU16.from.Reads as RefusalFromReads
use Rattle.meaning.proofs.Fault.answer.Kinds as AnswerKinds
use Rattle.meaning.proofs.Fault.answer.Reads as AnswerReads
use Rattle.meaning.proofs.Fault.refusal.Kinds as RefusalKinds
use Rattle.meaning.proofs.Fault.refusal.Reads as RefusalReads
use Rattle.meaning.proofs.refuse.Kinds as RefuseKinds
use Rattle.meaning.proofs.refuse.Reads as RefuseReads
use Rattle.meaning.proofs.refuse_with.Kinds as RefuseWithKinds
use Rattle.meaning.proofs.refuse_with.Reads as RefuseWithReads
use Rattle.meaning.proofs.refuse_if.Kinds as RefuseIfKinds
use Rattle.meaning.proofs.refuse_if.Reads as RefuseIfReads
use Rattle.meaning.proofs.refuse_with_if.Kinds as RefuseWithIfKinds
use Rattle.meaning.proofs.refuse_with_if.Reads as RefuseWithIfReads
use Rattle.meaning.proofs.AnswerFromOutcome.from.Kinds as AnswerFromKinds
use Rattle.meaning.proofs.AnswerFromOutcome.from.Reads as AnswerFromReads
use Rattle.meaning.proofs.U64FromAnswer.from.Kinds as PackedFromKinds
use Rattle.meaning.proofs.U64FromAnswer.from.Reads as PackedFromReads
use Rattle.meaning.specs.contracts.turns.first_fault as FirstFaultWords
use Rattle.meaning.specs.contracts.turns.first_fault.F-Fn as FirstFaultFn
use Rattle.meaning.proofs.turns.first_fault.Kinds as FirstFaultKinds
use Rattle.meaning.proofs.turns.first_fault.Reads as FirstFaultReads
use Rattle.meaning.specs.contracts.turns.first_fault_from as FirstFaultFromWords
use Rattle.meaning.specs.contracts.turns.first_fault_from.F-Fn as FirstFaultFromFn
use Rattle.meaning.proofs.turns.first_fault_from.Kinds as FirstFaultFromKinds
use Rattle.meaning.proofs.turns.first_fault_from.Reads as FirstFaultFromReads
use Rattle.meaning.specs.contracts.turns.first as FirstWords
use Rattle.meaning.specs.contracts.turns.first.F-Fn as FirstFn
use Rattle.meaning.proofs.turns.first.Kinds as FirstKinds
use Rattle.meaning.proofs.turns.first.Reads as FirstReads
use Rattle.meaning.specs.contracts.turns.count as CountWords
use Rattle.meaning.specs.contracts.turns.count.F-Fn as CountFn
use Rattle.meaning.proofs.turns.count.Kinds as CountKinds
use Rattle.meaning.proofs.turns.count.Reads as CountReads

pub number_once : Once 0 NumberKinds.ps NumberKinds.r NumberReads.Post
number_once κs a x y s t p q = p ∙ sym q

pub refusal_from_once : Once 0 RefusalFromKinds.ps RefusalFromKinds.r RefusalFromReads.Post
refusal_from_once κs a x y s t p q = p ∙ sym q

pub answer_once : Once 1 AnswerKinds.ps AnswerKinds.r AnswerReads.Post
answer_once κs a x y s t p q = p ∙ sym q

pub refusal_once : Once 1 RefusalKinds.ps RefusalKinds.r RefusalReads.Post
refusal_once κs a x y s t p q = p.0 ∙ sym q.0

pub refuse_once : Once 0 RefuseKinds.ps RefuseKinds.r RefuseReads.Post
refuse_once κs a x y s t p q = p ∙ sym q

pub refuse_with_once : Once 0 RefuseWithKinds.ps RefuseWithKinds.r RefuseWithReads.Post
refuse_with_once κs a x y s t p q = p ∙ sym q

pub refuse_if_once : Once 0 RefuseIfKinds.ps RefuseIfKinds.r RefuseIfReads.Post
refuse_if_once κs a x y s t p q = p ∙ sym q

pub refuse_with_if_once : Once 0 RefuseWithIfKinds.ps RefuseWithIfKinds.r RefuseWithIfReads.Post
refuse_with_if_once κs a x y s t p q = p ∙ sym q

pub answer_from_once : Once 0 AnswerFromKinds.ps AnswerFromKinds.r AnswerFromReads.Post
answer_from_once κs a x y s t p q = p ∙ sym q

pub packed_from_once : Once 0 PackedFromKinds.ps PackedFromKinds.r PackedFromReads.Post
packed_from_once κs a x y s t p q = p ∙ sym q

-- A CLOSURE may answer one number in two ways. Where it does not, what is looked for in turn is one

module _ (T : RattleType) (L : Laws T) (F : FirstFaultFn.Ghosts T) (d1 d2 d3 d4 : Dict) where
  pub first_fault_once :
      (κs : Lfts 1) (a : Dens κs (FirstFaultKinds.ps T L)) (x y : (res_t (FirstFaultKinds.r T L) κs).Denot)
      (s z : AtExit (ended_of 1 (FirstFaultKinds.ps T L) (FirstFaultKinds.r T L)) κs)
      (t : ℕ → Outcome)
      → ((i : ℕ) (r : Outcome) → i < a.0 → FirstFaultWords.F-post T F d1 d2 d3 d4 a.1.0 i r → r ≡ t i)
      → FirstFaultReads.Post T L F d1 d2 d3 d4 κs a x s
      → FirstFaultReads.Post T L F d1 d2 d3 d4 κs a y z
      → x ≡ y
  first_fault_once κs a x y s z t o p q = p t o ∙ sym (q t o)

module _ (T : RattleType) (L : Laws T) (F : FirstFaultFromFn.Ghosts T) (d1 d2 d3 d4 : Dict) where
  pub first_fault_from_once :
      (κs : Lfts 1) (a : Dens κs (FirstFaultFromKinds.ps T L)) (x y : (res_t (FirstFaultFromKinds.r T L) κs).Denot)
      (s z : AtExit (ended_of 1 (FirstFaultFromKinds.ps T L) (FirstFaultFromKinds.r T L)) κs)
      (t : ℕ → Outcome)
      → first_below t a.0 ≡ Clean → ((i : ℕ) (r : Outcome) → a.0 ≤ i → i < a.1.0 → FirstFaultFromWords.F-post T F d1 d2 d3 d4 a.1.1.0 i r → r ≡ t i)
      → FirstFaultFromReads.Post T L F d1 d2 d3 d4 κs a x s
      → FirstFaultFromReads.Post T L F d1 d2 d3 d4 κs a y z
      → x ≡ y
  first_fault_from_once κs a x y s z t e o p q = p t e o ∙ sym (q t e o)

module _ (T : RattleType) (L : Laws T) (F : FirstFn.Ghosts T) (d1 d2 d3 d4 : Dict) where
  pub first_once :
      (κs : Lfts 1) (a : Dens κs (FirstKinds.ps T L)) (x y : (res_t (FirstKinds.r T L) κs).Denot)
      (s z : AtExit (ended_of 1 (FirstKinds.ps T L) (FirstKinds.r T L)) κs)
      (t : ℕ → Bool)
      → ((i : ℕ) (r : Bool) → i < a.0 → FirstWords.F-post T F d1 d2 d3 d4 a.1.0 i r → r ≡ t i)
      → FirstReads.Post T L F d1 d2 d3 d4 κs a x s
      → FirstReads.Post T L F d1 d2 d3 d4 κs a y z
      → x ≡ y
  first_once κs a x y s z t o p q = p.0 t o ∙ sym (q.0 t o)

module _ (T : RattleType) (L : Laws T) (F : CountFn.Ghosts T) (d1 d2 d3 d4 : Dict) where
  pub count_once :
      (κs : Lfts 1) (a : Dens κs (CountKinds.ps T L)) (x y : (res_t (CountKinds.r T L) κs).Denot)
      (s z : AtExit (ended_of 1 (CountKinds.ps T L) (CountKinds.r T L)) κs)
      (t : ℕ → Bool)
      → ((i : ℕ) (r : Bool) → i < a.0 → CountWords.F-post T F d1 d2 d3 d4 a.1.0 i r → r ≡ t i)
      → CountReads.Post T L F d1 d2 d3 d4 κs a x s
      → CountReads.Post T L F d1 d2 d3 d4 κs a y z
      → x ≡ y
  count_once κs a x y s z t o p q = p.0 t o ∙ sym (q.0 t o)
