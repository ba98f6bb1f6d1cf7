-- `book::due` meets its contract: 36 for the first, else the end of the one before.
use borrow.Author.Tests.{ne_eqb}
use native.Mathlib.Nat.{mul-le-mul}
use native.Mathlib.Omega.{arith}
use Rattle.meaning.specs.Book.{due, end_of}
use Rattle.book.proofs.due.Goals as goal

pub returns-then-k-eq1 : goal.returns-then-k-eq1
unfolding due
returns-then-k-eq1 c = rw c.if-k-eq1.true

pub overflow_mul-result : goal.overflow_mul-result
overflow_mul-result c = omega (arith, mul-le-mul {n₁ = c.count.result} {m₁ = c.width.result} {n₂ = 65536} {m₂ = 8} (omega arith) (omega arith))

pub overflow_add-result : goal.overflow_add-result
overflow_add-result c = omega (arith, mul-le-mul {n₁ = c.count.result} {m₁ = c.width.result} {n₂ = 65536} {m₂ = 8} (omega arith) (omega arith))

pub returns : goal.returns
unfolding due end_of
returns c = rw (ne_eqb c.args.k 1 c.if-k-eq1.false, c.width.ensures.0, c.count.ensures.0, c.start.ensures.0)
