-- From one input no second answer meets what a public function of this crate ensures: of the contracts themselves, as Rattle reads them. Assumes nothing.
use mathlib.Core.Path.{sym, ◌∙◌}
use Rattle.tri.specs.Once.{Once}
use Rattle.choice_rules.proofs.member.Kinds as MemberKinds
use Rattle.choice_rules.proofs.member.Reads as MemberReads
use Rattle.choice_rules.proofs.choice_fault.Kinds as ChoiceFaultKinds
use Rattle.choice_rules.proofs.choice_fault.Reads as ChoiceFaultReads
use Rattle.choice_rules.proofs.modules_fault.Kinds as ModulesFaultKinds
use Rattle.choice_rules.proofs.modules_fault.Reads as ModulesFaultReads

pub member_once : Once 1 MemberKinds.ps MemberKinds.r MemberReads.Post
member_once κs a x y s t p q = p.0 ∙ sym q.0

pub choice_fault_once : Once 2 ChoiceFaultKinds.ps ChoiceFaultKinds.r ChoiceFaultReads.Post
choice_fault_once κs a x y s t p q = p ∙ sym q

pub modules_fault_once : Once 2 ModulesFaultKinds.ps ModulesFaultKinds.r ModulesFaultReads.Post
modules_fault_once κs a x y s t p q = p ∙ sym q
