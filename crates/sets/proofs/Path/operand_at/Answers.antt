-- `sets::Path::operand_at` meets its contract: what is not worked out before node i is a leaf.
use mathlib.Core.Path.{◌∙◌, sym, refl}
use Rattle.sets.proofs.Nodes.{among_past, among-whole, leaf_left}
use Rattle.sets.proofs.Path.operand_at.Goals as goal

pub returns-then-i-k : goal.returns-then-i-k
returns-then-i-k c = among_past c.args.self.now.m.now c.args.self.now.ys.now c.args.i c.args.k c.if-i-k.true

pub returns-in-Some : goal.returns-in-Some
returns-in-Some c = (rw c.in-Some.is at c.known.ensures.told) ∙ sym (among-whole c.args.self.now.m.now c.args.self.now.ys.now c.args.i c.args.k c.if-i-k.false c.requires.1)

pub returns-in-None : goal.returns-in-None
returns-in-None c = leaf_left c.args.self.now.m.now c.args.self.now.ys.now c.args.self.now.w.now c.requires.2 c.args.k c.if-i-k.false refl (rw c.in-None.is at c.known.ensures.untold) c.leaf_set.ensures
