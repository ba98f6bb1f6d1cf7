-- What the derived `<` and `<=` of two values say of their numbers: they compare `v`. (`==` and `!=` say so by themselves.) Assumes nothing.
use mathlib.Core.Path.{◌≡◌}
use Prim.Native.Nat.{ℕ}
use native.Mathlib.Omega.{arith}
use lib.Dec.{ltb, leb}
use Rattle.std.specs.Ordering.{nat_cmp, is_lt, is_le}
use Rattle.std.proofs.lemmas.Bool.Decides.{nat_tests}

pub below : (a b : ℕ) → is_lt (nat_cmp a b) ≡ ltb a b
below a b = grind (arith, nat_tests)

pub up_to : (a b : ℕ) → is_le (nat_cmp a b) ≡ leb a b
up_to a b = grind (arith, nat_tests)
