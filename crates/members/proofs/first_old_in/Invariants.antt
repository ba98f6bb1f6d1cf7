-- `members::first_old_in` meets its contract: an unmarked symbol stands in no record so far, and the pass stops where a marked one is met again.
use Rattle.std.proofs.Common.{◌≡◌, ◌+◌, length}
use Rattle.members.specs.Old.{FreshIn}
use Rattle.members.proofs.Laws.{Marks}
use Rattle.members.proofs.first_old_in.Given as goal

abbrev pub invariant-loop-i : goal.invariant-loop-i
invariant-loop-i l = record {
  size : length l.met ≡ 256;
  marks : Marks l.m l.base l.width l.i l.met;
  fresh : FreshIn l.m l.base (l.base + l.width) l.i;
}
