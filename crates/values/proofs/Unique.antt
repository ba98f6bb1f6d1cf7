-- From one input no second answer meets what a public function of this crate ensures: of the contracts themselves, as Rattle reads them. Assumes nothing.
use mathlib.Core.Path.{◌≡◌, sym, ◌∙◌}
use contract.Lifetimes.{Lfts}
use borrow.Fn.Kinds.{Dens, res_t, ended_of}
use denote.Triple.Clauses.{AtExit}
use Rattle.tri.specs.Once.{Once, OnceIn}
use Rattle.tri.proofs.Unique.{by_v}
use Rattle.spell.specs.Leaves.{leaf_content}
use Rattle.values.proofs.at.Kinds as AtKinds
use Rattle.values.proofs.at.Reads as AtReads
use Rattle.values.proofs.leaf.Kinds as LeafKinds
use Rattle.values.proofs.leaf.Reads as LeafReads
use Rattle.values.proofs.fill.Kinds as FillKinds
use Rattle.values.proofs.fill.Reads as FillReads
use Rattle.values.proofs.Valued.node.Kinds as NodeKinds
use Rattle.values.proofs.Valued.node.Reads as NodeReads
use Rattle.values.proofs.Valued.leaf.Kinds as ItsLeafKinds
use Rattle.values.proofs.Valued.leaf.Reads as ItsLeafReads
use Rattle.values.proofs.Valued.given.Kinds as ItsGivenKinds
use Rattle.values.proofs.Valued.given.Reads as ItsGivenReads
use Rattle.values.proofs.given.Kinds as GivenKinds
use Rattle.values.proofs.given.Reads as GivenReads

pub at_once : Once 1 AtKinds.ps AtKinds.r AtReads.Post
at_once κs a x y s t p q = by_v p q

-- of what the leaf stands for: the leaf itself may be written in more than one way
pub leaf_once :
    (κs : Lfts 2) (a : Dens κs LeafKinds.ps) (x y : (res_t LeafKinds.r κs).Denot)
    (s t : AtExit (ended_of 2 LeafKinds.ps LeafKinds.r) κs)
    → LeafReads.Post κs a x s
    → LeafReads.Post κs a y t
    → leaf_content a.0.now a.1.0.now x ≡ leaf_content a.0.now a.1.0.now y
leaf_once κs a x y s t p q = p ∙ sym q

pub fill_once : OnceIn 3 FillKinds.ps FillKinds.r FillReads.Post (λ κs x s. s.1.1.0.now)
fill_once κs a x y s t p q = p ∙ sym q

pub given_once : Once 3 GivenKinds.ps GivenKinds.r GivenReads.Post
given_once κs a x y s t p q = by_v p q

-- the methods of `Valued`
pub node_once : Once 2 NodeKinds.ps NodeKinds.r NodeReads.Post
node_once κs a x y s t p q = by_v p q

pub its_leaf_once :
    (κs : Lfts 2) (a : Dens κs ItsLeafKinds.ps) (x y : (res_t ItsLeafKinds.r κs).Denot)
    (s t : AtExit (ended_of 2 ItsLeafKinds.ps ItsLeafKinds.r) κs)
    → ItsLeafReads.Post κs a x s
    → ItsLeafReads.Post κs a y t
    → leaf_content a.0.now.model.now a.0.now.table.now x ≡ leaf_content a.0.now.model.now a.0.now.table.now y
its_leaf_once κs a x y s t p q = p ∙ sym q

pub its_given_once : Once 2 ItsGivenKinds.ps ItsGivenKinds.r ItsGivenReads.Post
its_given_once κs a x y s t p q = by_v p q
