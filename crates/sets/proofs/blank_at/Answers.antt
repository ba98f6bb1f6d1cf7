-- `sets::blank_at` meets its contract: only an equality may be the same on every path.
use Rattle.sets.proofs.Nodes.{blank_low, blank_fixed, blank_open}
use Rattle.sets.proofs.blank_at.Goals as goal

pub returns-then-op-lt8 : goal.returns-then-op-lt8
returns-then-op-lt8 c = blank_low c.args.m.now c.args.i c.op_of-op.ensures c.if-op-lt8.true

pub returns-then-is_fixed : goal.returns-then-is_fixed
returns-then-is_fixed c = blank_fixed c.args.m.now c.args.i c.op_of-op.ensures c.if-op-lt8.false c.left_of-left.ensures.0 c.right_of-right.ensures.0 c.is_fixed.ensures c.if-is_fixed.true c.part.ensures c.equality-set.ensures.0

pub returns : goal.returns
returns c = blank_open c.args.m.now c.args.i c.op_of-op.ensures c.if-op-lt8.false c.left_of-left.ensures.0 c.right_of-right.ensures.0 c.is_fixed.ensures c.if-is_fixed.false
