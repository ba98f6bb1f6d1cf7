-- From one input no second answer meets what a public function of this crate ensures: of the contracts themselves, as Rattle reads them. Assumes nothing.
use mathlib.Core.Path.{sym, ◌∙◌}
use Rattle.tri.specs.Once.{Once, OnceIn}
use Rattle.book.proofs.fault.Kinds as FaultKinds
use Rattle.book.proofs.fault.Reads as FaultReads
use Rattle.book.proofs.name.Kinds as NameKinds
use Rattle.book.proofs.name.Reads as NameReads

pub fault_once : Once 1 FaultKinds.ps FaultKinds.r FaultReads.Post
fault_once κs a x y s t p q = p ∙ sym q

pub name_once : OnceIn 1 NameKinds.ps NameKinds.r NameReads.Post (λ κs x s. x.now)
name_once κs a x y s t p q = p ∙ sym q
