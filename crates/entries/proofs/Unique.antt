-- From one input no second answer meets what a public function of this crate ensures: of the contracts themselves, as Rattle reads them. Assumes nothing.
use mathlib.Core.Path.{sym, ◌∙◌}
use Rattle.tri.specs.Once.{Once}
use Rattle.tri.proofs.Unique.{by_v}
use Rattle.entries.proofs.entries.Kinds as EntriesKinds
use Rattle.entries.proofs.entries.Reads as EntriesReads
use Rattle.entries.proofs.signed.Kinds as SignedKinds
use Rattle.entries.proofs.signed.Reads as SignedReads
use Rattle.entries.proofs.value.Kinds as ValueKinds
use Rattle.entries.proofs.value.Reads as ValueReads
use Rattle.entries.proofs.entry.Kinds as EntryKinds
use Rattle.entries.proofs.entry.Reads as EntryReads
use Rattle.entries.proofs.three.Kinds as ThreeKinds
use Rattle.entries.proofs.three.Reads as ThreeReads
use Rattle.entries.proofs.fault.Kinds as FaultKinds
use Rattle.entries.proofs.fault.Reads as FaultReads

pub entries_once : Once 1 EntriesKinds.ps EntriesKinds.r EntriesReads.Post
entries_once κs a x y s t p q = p.0 ∙ sym q.0

pub signed_once : Once 0 SignedKinds.ps SignedKinds.r SignedReads.Post
signed_once κs a x y s t p q = p ∙ sym q

pub value_once : Once 1 ValueKinds.ps ValueKinds.r ValueReads.Post
value_once κs a x y s t p q = p ∙ sym q

pub entry_once : Once 1 EntryKinds.ps EntryKinds.r EntryReads.Post
entry_once κs a x y s t p q = p ∙ sym q

pub three_once : Once 1 ThreeKinds.ps ThreeKinds.r ThreeReads.Post
three_once κs a x y s t p q = by_v p q

pub fault_once : Once 1 FaultKinds.ps FaultKinds.r FaultReads.Post
fault_once κs a x y s t p q = p ∙ sym q
