-- `members::first_old_in` meets its contract: an unmarked symbol stands in no record so far, and the pass stops where a marked one is met again.
use Rattle.std.proofs.Common.{refl, arith, false}
use lib.ListN.{length-set, replicate, get_or-replicate}
use Rattle.members.proofs.Laws.{none_met, none_old, turn_met, turn_out}
use Rattle.members.proofs.first_old_in.Goals as goal
use Rattle.members.proofs.first_old_in.Goals.{in-Some+else-met-k, in_default}

pub loop-i-init : goal.loop-i-init
loop-i-init c = record {
  size = refl;
  marks = none_met _ _ _ (replicate 256 false) (λ k l. get_or-replicate 256 k false false (omega (arith, c.requires.1)));
  fresh = none_old _ _ _;
}

pub loop-i-preserved : goal.loop-i-preserved
loop-i-preserved c =
    let given = c.args in
    let loop = c.loop-i in
    let so_far = loop.invariant in
    let here = c.member_symbol_from.ensures.0 in
    elim c.match-place.branch [
      | in-Some+else-met-k w ↦
          let stands = rw w.in-Some.is at c.place.ensures in
          let t = turn_met given.m.now given.base given.width loop.met loop.i here so_far.marks so_far.fresh w.in-Some.k stands.0.0 (omega (arith, stands)) stands.1 w.if-met-k.false
          (omega (arith, so_far.size, c.requires.1)) in
          rw w.met-is (record { size = simp length-set so_far.size; marks = t.0; fresh = t.1 })
      | in_default w ↦
          let t = turn_out given.m.now given.base given.width loop.met loop.i here so_far.marks so_far.fresh (rw w.in_default.is at c.place.ensures) in
          rw w.met-is (record { size = so_far.size; marks = t.0; fresh = t.1 })
    ]
