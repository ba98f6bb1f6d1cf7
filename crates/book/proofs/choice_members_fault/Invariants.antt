-- `book::choice_members_fault` meets its contract: it goes on while every member is well formed, so no further than the first old record, and stops at the first that is not.
use Rattle.meaning.specs.Book.{member_at}
use Rattle.meaning.specs.Base.{first_below}
use Rattle.meaning.specs.Base.{Clean}
use mathlib.Core.Path.{◌≡◌}
use Prim.Native.Nat.{◌≤◌, ◌-◌}
use Rattle.book.proofs.choice_members_fault.Given as goal

abbrev pub invariant-loop-j : goal.invariant-loop-j
invariant-loop-j l = (l.j ≤ l.j-end) × (first_below (member_at l.m l.c) l.j ≡ Clean)

abbrev pub decreases-loop-j : goal.decreases-loop-j
decreases-loop-j l = l.j-end - l.j
