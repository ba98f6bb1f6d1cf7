-- `names::first_old` meets its contract: a try that ends has the answer, and the last one ends, since it may compare any number of names.
use Rattle.std.proofs.Common.{◌<◌}
use Rattle.names.proofs.first_old.Given as goal

abbrev pub invariant-loop-c : goal.invariant-loop-c
invariant-loop-c l = l.c < 8
