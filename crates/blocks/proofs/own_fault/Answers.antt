-- `blocks::own_fault` meets its contract: Lower is given, and the first default that applies has the Default.
use Rattle.blocks.proofs.Laws.{own-three, own_other}
use Rattle.blocks.proofs.own_fault.Goals as goal

pub returns-then-is_three : goal.returns-then-is_three
returns-then-is_three c = own-three c.args.x.now.model.now c.args.x.now.table.now c.args.x.now.work.now c.args.s c.is_three.ensures c.requires.2 c.if-is_three.true c.three_by.ensures c.default_three.ensures c.requires.1

pub returns : goal.returns
returns c = own_other c.args.x.now.model.now c.args.x.now.table.now c.args.x.now.work.now c.args.s c.is_three.ensures c.requires.2 c.if-is_three.false c.other_by.ensures c.default_leaf.ensures
