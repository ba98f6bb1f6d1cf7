-- From one input no second answer meets what a public function of this crate ensures: of the contracts themselves, as Rattle reads them. Assumes nothing.
use mathlib.Core.Path.{sym, ◌∙◌}
use Rattle.tri.specs.Once.{Once}
use Rattle.blocks.proofs.fault.Kinds as FaultKinds
use Rattle.blocks.proofs.fault.Reads as FaultReads

pub fault_once : Once 2 FaultKinds.ps FaultKinds.r FaultReads.Post
fault_once κs a x y s t p q = p ∙ sym q
