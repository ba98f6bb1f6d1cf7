-- `fields::byte_in` meets its contract: the offset is the one that the section's start and width give, and no sum overflows.
use Rattle.meaning.specs.Book.{byte_in}
use mathlib.Core.Path.{◌∙◌}
use native.Mathlib.Nat.{mul-le-mul}
use native.Mathlib.Omega.{arith}
use Rattle.fields.proofs.byte_in.Goals as goal

pub overflow_mul-i : goal.overflow_mul-i
overflow_mul-i c = omega (arith, mul-le-mul {n₁ = c.args.i} {m₁ = c.args.w} {n₂ = 4294967296} {m₂ = 8} (omega arith) (omega arith))

pub overflow_add-start : goal.overflow_add-start
overflow_add-start c = omega (arith, mul-le-mul {n₁ = c.args.i} {m₁ = c.args.w} {n₂ = 4294967296} {m₂ = 8} (omega arith) (omega arith))

pub overflow_add-start-2 : goal.overflow_add-start-2
overflow_add-start-2 c = omega (arith, mul-le-mul {n₁ = c.args.i} {m₁ = c.args.w} {n₂ = 4294967296} {m₂ = 8} (omega arith) (omega arith))

pub returns : goal.returns
unfolding byte_in
returns c = c.byte.ensures ∙ rw (c.start.ensures.0, c.requires.4)
