-- P1 to P10 hold of the exported checks' own contracts: whatever meets the contract on a worked case is that case's answer, since the definitions
-- compute to it. Assumes nothing.
use mathlib.Core.Path.{◌≡◌, ◌∙◌, ap}
use mathlib.Core.List.{List, [], ◌∷◌, map}
use lib.ListN.{length}
use contract.Lifetimes.{Lfts}
use borrow.Fn.Kinds.{Dens, res_t, ended_of}
use denote.Triple.Clauses.{AtExit}
use Rattle.meaning.specs.declared.Answer.{Answer}
use Rattle.meaning.specs.Base.{packed}
use Rattle.meaning.specs.Cases.{Case, on_table, on_finding, answered, owed, cases, worked}
use Rattle.plaitcrumb.proofs.plaitcrumb_check_table.Kinds as TableKinds
use Rattle.plaitcrumb.proofs.plaitcrumb_check_table.Reads as TableReads
use Rattle.plaitcrumb.proofs.plaitcrumb_check_finding.Kinds as FindingKinds
use Rattle.plaitcrumb.proofs.plaitcrumb_check_finding.Reads as FindingReads

-- any result that meets the exported check's contract on this case, with rooms of three bytes, is what the case is owed
pub Meets : Case → Type 0
Meets (on_table m t n p s) =
    (κs : Lfts 3) (a : Dens κs TableKinds.ps) (x : (res_t TableKinds.r κs).Denot) (e : AtExit (ended_of 3 TableKinds.ps TableKinds.r) κs)
    → TableReads.Post κs a x e
    → a.0.now ≡ m
    → a.1.0.now ≡ t
    → length a.1.1.0.now ≡ 3
    → x ≡ packed (owed (on_table m t n p s))
Meets (on_finding m f n p s) =
    (κs : Lfts 4) (a : Dens κs FindingKinds.ps) (x : (res_t FindingKinds.r κs).Denot) (e : AtExit (ended_of 4 FindingKinds.ps FindingKinds.r) κs)
    → FindingReads.Post κs a x e
    → a.0.now ≡ m
    → a.1.0.now ≡ f
    → length a.1.1.0.now ≡ 3
    → length a.1.1.1.0.now ≡ 3
    → x ≡ packed (owed (on_finding m f n p s))

meets : (c : Case) → answered c ≡ owed c → Meets c
unfolding Meets answered
meets (on_table m t n p s) h = λ κs a x e post em et el. (rw (em, et, el) at post.0) ∙ ap packed h
meets (on_finding m f n p s) h = λ κs a x e post em ef el ek. (rw (em, ef, el, ek) at post.0) ∙ ap packed h

-- of each of a list
pub Each : (Case → Type 0) → List Case → Type 0
Each P [] = Unit {0}
Each P (c ∷ l) = P c × Each P l

first : Answer → List Answer → Answer
first d [] = d
first d (a ∷ l) = a

rest : List Answer → List Answer
rest [] = []
rest (a ∷ l) = l

each : (l : List Case) → map answered l ≡ map owed l → Each Meets l
unfolding Each first rest
each [] h = tt
each (c ∷ l) h = (meets c (ap (first (owed c)) h), each l (ap rest h))

pub worked_exports : Each Meets cases
worked_exports = each cases worked
