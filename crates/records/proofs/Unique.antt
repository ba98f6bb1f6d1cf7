-- From one input no second answer meets what a public function of this crate ensures: of the contracts themselves, as Rattle reads them. Assumes nothing.
use mathlib.Core.Path.{sym, ◌∙◌}
use Rattle.tri.specs.Once.{Once}
use Rattle.records.proofs.member_due.Kinds as MemberDueKinds
use Rattle.records.proofs.member_due.Reads as MemberDueReads
use Rattle.records.proofs.member_fits.Kinds as MemberFitsKinds
use Rattle.records.proofs.member_fits.Reads as MemberFitsReads
use Rattle.records.proofs.symbol_fits.Kinds as SymbolFitsKinds
use Rattle.records.proofs.symbol_fits.Reads as SymbolFitsReads
use Rattle.records.proofs.record_ok.Kinds as RecordOkKinds
use Rattle.records.proofs.record_ok.Reads as RecordOkReads

pub member_due_once : Once 1 MemberDueKinds.ps MemberDueKinds.r MemberDueReads.Post
member_due_once κs a x y s t p q = p.0 ∙ sym q.0

pub member_fits_once : Once 1 MemberFitsKinds.ps MemberFitsKinds.r MemberFitsReads.Post
member_fits_once κs a x y s t p q = p ∙ sym q

pub symbol_fits_once : Once 1 SymbolFitsKinds.ps SymbolFitsKinds.r SymbolFitsReads.Post
symbol_fits_once κs a x y s t p q = p ∙ sym q

pub record_ok_once : Once 1 RecordOkKinds.ps RecordOkKinds.r RecordOkReads.Post
record_ok_once κs a x y s t p q = p ∙ sym q
