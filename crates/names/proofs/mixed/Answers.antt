-- `names::mixed` meets its contract: no part of the sum can overflow.
use native.Mathlib.Omega.{arith}
use Prim.Native.Nat.{◌+◌, ◌*◌, ◌%◌}
use native.Mathlib.Nat.{mul-le-mul}
use Rattle.names.specs.Keys.{mix}
use borrow.Author.Rules.{rules}
use Rattle.names.proofs.mixed.Goals as goal

pub overflow_mul-result : goal.overflow_mul-result
overflow_mul-result c = omega (arith, mul-le-mul {n₁ = c.args.sum} {m₁ = c.args.factor} {n₂ = 4294967295} {m₂ = 2147483647} (omega arith) (omega arith))

pub overflow_add-result : goal.overflow_add-result
overflow_add-result c = omega (arith, mul-le-mul {n₁ = c.args.sum} {m₁ = c.args.factor} {n₂ = 4294967295} {m₂ = 2147483647} (omega arith) (omega arith))

pub overflow_mul-result-2 : goal.overflow_mul-result-2
overflow_mul-result-2 c = omega (arith, mul-le-mul {n₁ = (c.args.sum * c.args.factor + c.args.low) % 4294967296} {m₁ = c.args.factor} {n₂ = 4294967295} {m₂ = 2147483647} (omega arith) (omega arith))

pub overflow_add-result-2 : goal.overflow_add-result-2
overflow_add-result-2 c = omega (arith, mul-le-mul {n₁ = (c.args.sum * c.args.factor + c.args.low) % 4294967296} {m₁ = c.args.factor} {n₂ = 4294967295} {m₂ = 2147483647} (omega arith) (omega arith))

pub returns : goal.returns
unfolding mix
returns c = search rules
