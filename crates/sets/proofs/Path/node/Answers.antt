-- `sets::Path::node` meets its contract: all nodes are the first of them.
use Rattle.sets.proofs.Nodes.{all_nodes}
use Rattle.sets.proofs.Path.node.Goals as goal

pub returns-clause-set : goal.returns-clause-set
returns-clause-set c = all_nodes c.args.self.now.m.now c.args.self.now.ys.now c.args.i c.nodes-n.ensures.0 c.node_among.ensures.set
