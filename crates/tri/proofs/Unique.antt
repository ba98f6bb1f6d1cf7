-- From one input no second answer meets what a function of this crate ensures: of the contracts themselves, as Rattle reads them. Assumes nothing.
use mathlib.Core.Path.{◌≡◌, sym, ◌∙◌, ap}
use Prim.Native.Nat.{ℕ}
use Rattle.tri.specs.Once.{Once}
use Rattle.tri.specs.declared.Tri.{Tri}
use Rattle.tri.proofs.TriFromU8.from.Kinds as FromKinds
use Rattle.tri.proofs.TriFromU8.from.Reads as FromReads
use Rattle.tri.proofs.Tri.not.Kinds as NotKinds
use Rattle.tri.proofs.Tri.not.Reads as NotReads
use Rattle.tri.proofs.Tri.and.Kinds as AndKinds
use Rattle.tri.proofs.Tri.and.Reads as AndReads
use Rattle.tri.proofs.Tri.or.Kinds as OrKinds
use Rattle.tri.proofs.Tri.or.Reads as OrReads

-- `v` is all that a Tri has
pub by_v : {a b : Tri} {v : ℕ} → a.v ≡ v → b.v ≡ v → a ≡ b
by_v p q = ap (λ (v : ℕ). record { v = v }) (p ∙ sym q)

pub from_once : Once 0 FromKinds.ps FromKinds.r FromReads.Post
from_once κs a x y s t p q = by_v p q

pub not_once : Once 0 NotKinds.ps NotKinds.r NotReads.Post
not_once κs a x y s t p q = by_v p q

pub and_once : Once 0 AndKinds.ps AndKinds.r AndReads.Post
and_once κs a x y s t p q = by_v p q

pub or_once : Once 0 OrKinds.ps OrKinds.r OrReads.Post
or_once κs a x y s t p q = by_v p q
