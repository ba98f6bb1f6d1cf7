-- `records::member_due` meets its contract: 0 for the first, else where the one before it ends.
use Rattle.std.proofs.Common.{◌≡◌, refl, arith}
use Rattle.meaning.specs.Book.{member_due}
use Rattle.records.proofs.Laws.{due_after}
use Rattle.records.proofs.member_due.Goals as goal

pub returns-in-Some : goal.returns-in-Some
returns-in-Some c =
    let former = c.in-Some.ensures in
    (due_after _ c.args.c (omega (arith, former)) (rw (← former.1, c.first_member.ensures.0, c.member_count.ensures.0)), omega (arith, c.first_member.ensures.1, c.member_count.ensures.1))

pub returns-in-None : goal.returns-in-None
unfolding member_due
returns-in-None c = let first : c.args.c ≡ 0 = omega (arith, c.in-None.ensures) in rw first (refl, omega arith)
