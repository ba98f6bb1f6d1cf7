-- `sets::Path::from_before` meets its contract: a record's op and left field are those that the set of a leaf goes by; the rest is by the ops.
use Rattle.meaning.specs.Sets.{leaf_set}
use Rattle.sets.proofs.Nodes.{settled, node-leaf}
use native.Mathlib.Omega.{arith}
use mathlib.Core.Path.{◌∙◌}
use Rattle.sets.proofs.Path.from_before.Goals as goal

pub returns-then-node-le4-clause-set : goal.returns-then-node-le4-clause-set
unfolding leaf_set
returns-then-node-le4-clause-set c =
    settled c.args.self.now.m.now c.args.self.now.ys.now _ c.args.i (omega arith)
    (node-leaf c.args.self.now.m.now c.args.self.now.ys.now _ c.args.i c.node_at-node.ensures.0 c.if-node-le4.true
    (c.set_of_leaf.ensures ∙ rw (c.node_at-node.ensures.0, c.node_at-node.ensures.2)))
