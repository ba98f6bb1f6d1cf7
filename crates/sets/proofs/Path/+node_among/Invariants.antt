-- `sets::Path::node_among` goes one level deeper at each call of itself.
use Rattle.sets.proofs.Path.+node_among.Given as goal

abbrev pub decreases-node_among : goal.decreases-node_among
decreases-node_among l = l.depth
