-- `book::choice_members_fault` meets its contract: it goes on while every member is well formed, so no further than the first old record, and stops at the first that is not.
use mathlib.Core.Path.{◌≡◌, ◌∙◌}
use Rattle.std.proofs.Common.{rules}
use Rattle.meaning.specs.Book.{choice_members_fault}
use Rattle.meaning.specs.Base.{first_below}
use native.Mathlib.Omega.{arith}
use Rattle.meaning.proofs.First.{clean_none, clean_more, place_fault}
use Rattle.meaning.proofs.Folds.{at_end}
use Rattle.book.proofs.Laws.{clean_before}
use Rattle.book.proofs.choice_members_fault.Goals as goal

pub loop-j-init : goal.loop-j-init
loop-j-init c = (omega arith, clean_none _)

pub member_at-requires : goal.member_at-requires
member_at-requires c =
    let pre = c.requires in
    let given = c.args in
    let member-count = c.member_count-j-end in
    let ends = pre.1 in
    let count = member-count.ensures.0 in
    (pre.0, omega (arith, ends, count), pre.2, pre.3, clean_before given.m.now pre.3 given.c c.loop-j.j c.loop-j.invariant.1 pre.4 (omega (arith, ends, count)))

pub returns-in_err-member_at : goal.returns-in_err-member_at
unfolding choice_members_fault
returns-in_err-member_at c =
    let loop = c.loop-j in
    let member-at = c.member_at in
    let same : c.from_residual.result ≡ c.member_at.result = search rules in
    same ∙ place_fault _ _ _ loop.invariant.1 member-at.ensures c.in_err-member_at.was (omega arith)

pub loop-j-preserved : goal.loop-j-preserved
loop-j-preserved c =
    let loop = c.loop-j in
    let member-at = c.member_at in
    (omega arith, clean_more _ _ loop.invariant.1 member-at.ensures c.in_ok-member_at.was)

pub returns : goal.returns
unfolding choice_members_fault
returns c = at_end (first_below _) c.loop-j.invariant.1 (omega arith)
