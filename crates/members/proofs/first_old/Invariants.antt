-- `members::first_old` meets its contract: among the symbols below the block it has the first, and each block's pass goes up to that.
use Rattle.std.proofs.Common.{◌<◌, ◌-◌, min}
use Rattle.meaning.specs.Book.{members}
use Rattle.members.specs.Old.{FirstOldIn}
use Rattle.members.proofs.first_old.Given as goal

abbrev pub invariant-loop-base : goal.invariant-loop-base
invariant-loop-base l = record {
  small : l.old < 65536;
  first : FirstOldIn l.m 0 (min l.base l.symbols) (members l.m) l.old;
}

abbrev pub decreases-loop-base : goal.decreases-loop-base
decreases-loop-base l = l.symbols - l.base
