-- `names::Links::new` meets its contract: the names are linked as long as they are all different.
use Rattle.names.specs.Keys.{Headed, Linked, AllMarked, Different}
use Rattle.names.proofs.Links.new.Given as goal

abbrev pub invariant-loop-k : goal.invariant-loop-k
invariant-loop-k l = record {
  headed : Headed l.factor l.block.m.now l.block.base l.rooms.heads l.k;
  linked : Linked l.factor l.block.m.now l.block.base l.rooms.nexts l.k;
  marked : AllMarked l.factor l.block.m.now l.block.base l.rooms.marks.bytes l.k;
  different : Different l.block.m.now l.block.base l.k;
}
