-- `book::members_fault` meets its contract: it goes on while every choice's members are well formed, and the next ones begin where these end, no later than the first old record.
use mathlib.Core.Path.{◌≡◌, ◌∙◌}
use Rattle.std.proofs.Common.{rules}
use Rattle.meaning.specs.Book.{members_fault}
use Rattle.meaning.specs.Base.{first_below}
use native.Mathlib.Omega.{arith}
use Rattle.meaning.proofs.First.{clean_none, clean_more, place_fault}
use Rattle.meaning.proofs.Folds.{at_end}
use Rattle.book.proofs.Laws.{due_none, due_more}
use Rattle.book.proofs.members_fault.Goals as goal

pub loop-c-init : goal.loop-c-init
loop-c-init c = (omega arith, clean_none _, due_none _ c.first_old-old.ensures)

pub choice_members_fault-requires : goal.choice_members_fault-requires
choice_members_fault-requires c =
    let pre = c.requires in
    let choices = c.choices-c-end in
    let first-old = c.first_old-old in
    let turn = pre c.loop-c.c (omega (arith, choices.ensures.0)) in
    (omega arith, turn.1, turn.2, first-old.ensures, omega (arith, turn.0, c.loop-c.invariant.2))

pub returns-in_err-choice_members_fault : goal.returns-in_err-choice_members_fault
unfolding members_fault
returns-in_err-choice_members_fault c =
    let loop = c.loop-c in
    let choice-members-fault = c.choice_members_fault in
    let same : c.from_residual.result ≡ c.choice_members_fault.result = search rules in
    same ∙ place_fault _ _ _ loop.invariant.1 choice-members-fault.ensures c.in_err-choice_members_fault.was (omega arith)

pub loop-c-preserved : goal.loop-c-preserved
loop-c-preserved c =
    let pre = c.requires in
    let choices = c.choices-c-end in
    let first-old = c.first_old-old in
    let loop = c.loop-c in
    let choice-members-fault = c.choice_members_fault in
    let turn = pre loop.c (omega (arith, choices.ensures.0)) in
    let clean = c.in_ok-choice_members_fault.was in
    (omega arith, clean_more _ _ loop.invariant.1 choice-members-fault.ensures clean, due_more _ first-old.ensures _ loop.invariant.2 turn choice-members-fault.ensures clean)

pub returns : goal.returns
unfolding members_fault
returns c = at_end (first_below _) c.loop-c.invariant.1 (omega arith)
