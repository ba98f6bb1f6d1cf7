-- `book::member_at` meets its contract: no record before the first old one is old, and that one is bad.
use native.Mathlib.Omega.{arith}
use Rattle.book.proofs.Laws.{member_is}
use Rattle.book.proofs.member_at.Goals as goal

pub returns : goal.returns
returns c =
    let given = c.args in
    let pre = c.requires in
    let first_member = c.first_member in
    member_is given.m.now pre.3 given.c given.j first_member.ensures.0 (omega (arith, first_member.ensures.0, pre.1)) (omega (arith, first_member.ensures.0, pre.4)) c.member_fits.ensures c.refuse_with_if.ensures
