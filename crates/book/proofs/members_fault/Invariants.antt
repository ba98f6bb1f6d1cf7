-- `book::members_fault` meets its contract: it goes on while every choice's members are well formed, and the next ones begin where these end, no later than the first old record.
use Rattle.meaning.specs.Book.{choice_members_fault, member_due}
use Rattle.meaning.specs.Base.{first_below}
use Rattle.meaning.specs.Base.{Clean}
use mathlib.Core.Path.{◌≡◌}
use Prim.Native.Nat.{◌≤◌, ◌-◌}
use Rattle.book.proofs.members_fault.Given as goal

abbrev pub invariant-loop-c : goal.invariant-loop-c
invariant-loop-c l = (l.c ≤ l.c-end) × (first_below (choice_members_fault l.m) l.c ≡ Clean) × (member_due l.m l.c ≤ l.old)

abbrev pub decreases-loop-c : goal.decreases-loop-c
decreases-loop-c l = l.c-end - l.c
