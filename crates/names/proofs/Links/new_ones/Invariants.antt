-- `names::Links::new_ones` meets its contract: at each turn the lowest met so far is the first that a name looked up so far is.
use Rattle.std.proofs.Common.{◌≤◌}
use Rattle.names.proofs.Laws.{First}
use Rattle.names.proofs.Links.new_ones.Given as goal

abbrev pub invariant-loop-e : goal.invariant-loop-e
invariant-loop-e l = record {
  first : First l.self.block.m.now l.base l.self.count l.new l.e;
  counted : l.looked_up ≤ l.e;
}
