-- `symbol_rules::first_off` meets its contract: the symbol found so far is the first that breaks one of the ranges so far.
use Rattle.symbol_rules.specs.Ranges.{FirstOff}
use Rattle.symbol_rules.proofs.first_off.Given as goal

abbrev pub invariant-loop-r : goal.invariant-loop-r
invariant-loop-r l = FirstOff l.x.model.now l.x.table.now l.x.work.now l.r l.first
