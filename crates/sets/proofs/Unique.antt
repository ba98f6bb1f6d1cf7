-- From one input no second answer meets what a public function of this crate ensures: of the contracts themselves, as Rattle reads them. Assumes nothing.
use mathlib.Core.Path.{◌≡◌, sym, ◌∙◌, ap}
use Prim.Native.Nat.{ℕ, ◌<◌}
use lib.ListN.{length}
use lib.Seq.{ext_get_or}
use Rattle.tri.specs.Once.{Once, OnceIn}
use Rattle.sets.specs.declared.Set.{Set}
use Rattle.sets.proofs.Set.has.Kinds as HasKinds
use Rattle.sets.proofs.Set.has.Reads as HasReads
use Rattle.sets.proofs.Set.only.Kinds as OnlyKinds
use Rattle.sets.proofs.Set.only.Reads as OnlyReads
use Rattle.sets.proofs.Set.full.Kinds as FullKinds
use Rattle.sets.proofs.Set.full.Reads as FullReads
use Rattle.sets.proofs.Set.least.Kinds as LeastKinds
use Rattle.sets.proofs.Set.least.Reads as LeastReads
use Rattle.sets.proofs.Set.most.Kinds as MostKinds
use Rattle.sets.proofs.Set.most.Reads as MostReads
use Rattle.sets.proofs.at.Kinds as AtKinds
use Rattle.sets.proofs.at.Reads as AtReads
use Rattle.sets.proofs.Path.node.Kinds as NodeKinds
use Rattle.sets.proofs.Path.node.Reads as NodeReads
use Rattle.sets.proofs.Path.lower.Kinds as LowerKinds
use Rattle.sets.proofs.Path.lower.Reads as LowerReads
use Rattle.sets.proofs.Path.default_of.Kinds as DefaultOfKinds
use Rattle.sets.proofs.Path.default_of.Reads as DefaultOfReads
use Rattle.sets.proofs.clear.Kinds as ClearKinds
use Rattle.sets.proofs.clear.Reads as ClearReads
use Rattle.sets.proofs.blank.Kinds as BlankKinds
use Rattle.sets.proofs.blank.Reads as BlankReads
use Rattle.sets.proofs.settle.Kinds as SettleKinds
use Rattle.sets.proofs.settle.Reads as SettleReads

pub has_once : Once 0 HasKinds.ps HasKinds.r HasReads.Post
has_once κs a x y s t p q = p ∙ sym q

-- `bits` is all that a set has
by_bits : {a b : Set} {v : ℕ} → a.bits ≡ v → b.bits ≡ v → a ≡ b
by_bits p q = ap (λ (v : ℕ). record { bits = v }) (p ∙ sym q)

pub only_once : Once 0 OnlyKinds.ps OnlyKinds.r OnlyReads.Post
only_once κs a x y s t p q = by_bits p q

pub full_once : Once 0 FullKinds.ps FullKinds.r FullReads.Post
full_once κs a x y s t p q = by_bits p q

pub least_once : Once 0 LeastKinds.ps LeastKinds.r LeastReads.Post
least_once κs a x y s t p q = p ∙ sym q

pub most_once : Once 0 MostKinds.ps MostKinds.r MostReads.Post
most_once κs a x y s t p q = p ∙ sym q

pub at_once : Once 1 AtKinds.ps AtKinds.r AtReads.Post
at_once κs a x y s t p q = by_bits p q

-- of the set alone, here and in the next two: which other nodes are worked out by then is not told
pub node_once : Once 2 NodeKinds.ps NodeKinds.r NodeReads.Post
node_once κs a x y s t p q = by_bits p.0 q.0

pub lower_once : Once 2 LowerKinds.ps LowerKinds.r LowerReads.Post
lower_once κs a x y s t p q = by_bits p.0 q.0

pub default_of_once : Once 2 DefaultOfKinds.ps DefaultOfKinds.r DefaultOfReads.Post
default_of_once κs a x y s t p q = by_bits p.0 q.0

pub clear_once : OnceIn 1 ClearKinds.ps ClearKinds.r ClearReads.Post (λ κs x s. s.0.now)
clear_once κs a x y s t p q = p ∙ sym q

pub blank_once : OnceIn 2 BlankKinds.ps BlankKinds.r BlankReads.Post (λ κs x s. s.1.0.now)
blank_once κs a x y s t p q = p ∙ sym q

pub settle_once : OnceIn 1 SettleKinds.ps SettleKinds.r SettleReads.Post (λ κs x s. s.0.now)
settle_once κs a x y s t p q =
    ext_get_or 0 s.0.now t.0.now (p.0 ∙ sym q.0) (λ i l. let k : i < length a.0.now = rw p.0 at l in p.1 i k ∙ sym (q.1 i k))
