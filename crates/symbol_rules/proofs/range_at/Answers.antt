-- `symbol_rules::range_at` meets its contract: a range on another symbol changes nothing.
use Rattle.tri.proofs.Order.{below}
use Rattle.symbol_rules.proofs.Laws.{range_off, range_is, content_is}
use Rattle.symbol_rules.proofs.range_at.Goals as goal

pub returns-then-range_symbol-s : goal.returns-then-range_symbol-s
returns-then-range_symbol-s c = range_off c.args.x.now.model.now c.args.x.now.table.now c.args.x.now.work.now c.args.s c.args.r c.range_symbol.ensures.0 c.if-range_symbol-s.true

pub returns : goal.returns
returns c =
    let x = c.args.x.now in
    range_is x.model.now x.table.now x.work.now c.args.s c.args.r c.from-v.result c.leaf-low.result c.leaf-high.result c.range_symbol.ensures.0 c.if-range_symbol-s.false (simp (c.lt.ensures, below) at c.refuse_with_if.ensures) (rw c.range_condition.ensures.0 at c.node-condition.ensures) (c.within.ensures x.model.now x.table.now) (content_is _ _ _ _ c.from-v.ensures c.value.ensures) (rw c.low_of.ensures.0 at c.leaf-low.ensures) (rw c.high_of.ensures.0 at c.leaf-high.ensures)
