-- From one input no second answer meets what a public function of this crate ensures: of the contracts themselves, as Rattle reads them. Assumes nothing.
use mathlib.Core.Path.{sym, ◌∙◌}
use Rattle.tri.specs.Once.{Once, OnceIn}
use Rattle.raw.proofs.byte.Kinds as ByteKinds
use Rattle.raw.proofs.byte.Reads as ByteReads
use Rattle.raw.proofs.half.Kinds as HalfKinds
use Rattle.raw.proofs.half.Reads as HalfReads
use Rattle.raw.proofs.joined_halves.Kinds as JoinedHalvesKinds
use Rattle.raw.proofs.joined_halves.Reads as JoinedHalvesReads
use Rattle.raw.proofs.word.Kinds as WordKinds
use Rattle.raw.proofs.word.Reads as WordReads
use Rattle.raw.proofs.put.Kinds as PutKinds
use Rattle.raw.proofs.put.Reads as PutReads
use Rattle.raw.proofs.part.Kinds as PartKinds
use Rattle.raw.proofs.part.Reads as PartReads
use Rattle.raw.proofs.fault_if.Kinds as FaultIfKinds
use Rattle.raw.proofs.fault_if.Reads as FaultIfReads
use Rattle.raw.proofs.same.Kinds as SameKinds
use Rattle.raw.proofs.same.Reads as SameReads

pub byte_once : Once 1 ByteKinds.ps ByteKinds.r ByteReads.Post
byte_once κs a x y s t p q = p ∙ sym q

pub half_once : Once 1 HalfKinds.ps HalfKinds.r HalfReads.Post
half_once κs a x y s t p q = p.0 ∙ sym q.0

pub joined_halves_once : Once 0 JoinedHalvesKinds.ps JoinedHalvesKinds.r JoinedHalvesReads.Post
joined_halves_once κs a x y s t p q = p.0 ∙ sym q.0

pub word_once : Once 1 WordKinds.ps WordKinds.r WordReads.Post
word_once κs a x y s t p q = p.0 ∙ sym q.0

pub put_once : OnceIn 1 PutKinds.ps PutKinds.r PutReads.Post (λ κs x s. s.0.now)
put_once κs a x y s t p q = p ∙ sym q

pub part_once : OnceIn 1 PartKinds.ps PartKinds.r PartReads.Post (λ κs x s. x.now)
part_once κs a x y s t p q = p ∙ sym q

pub same_once : Once 2 SameKinds.ps SameKinds.r SameReads.Post
same_once κs a x y s t p q = p ∙ sym q

pub fault_if_once : Once 0 FaultIfKinds.ps FaultIfKinds.r FaultIfReads.Post
fault_if_once κs a x y s t p q = p ∙ sym q
