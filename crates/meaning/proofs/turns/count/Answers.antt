-- `meaning::turns::count` meets its contract: it counts those so far.
use native.Mathlib.Omega.{arith}
use mathlib.Core.Path.{◌≡◌}
use Rattle.std.specs.Prelude.{ℕ, ◌+◌, ◌≤◌, Bool, true, false}
use Rattle.std.specs.Int.{from_bool}
use Rattle.meaning.specs.Base.{pick}
use Rattle.meaning.proofs.Below.{count_none, count_more}
use Rattle.meaning.proofs.turns.count.Goals as goal

-- a test as a number
one : (b : Bool) → from_bool b ≤ 1
one true = omega arith
one false = omega arith

added : (n : ℕ) (b : Bool) → n + from_bool b ≡ pick b 1 0 + n
added n true = omega arith
added n false = omega arith

pub loop-i-init : goal.loop-i-init
loop-i-init g c = (omega arith, omega arith, λ p h. count_none p)

pub loop-i-preserved : goal.loop-i-preserved
loop-i-preserved g c = (
  omega arith,
  omega (arith, c.from-found.ensures, one c.holds.result),
  λ p h. count_more p c.loop-i.i (c.loop-i.invariant.2 p h) (h _ _ (omega arith) c.holds.ensures) (rw c.from-found.ensures (added c.loop-i.found c.holds.result)),
)

pub returns : goal.returns
returns g c = record {
  number = λ p h. let e : c.loop-i.i ≡ c.args.n = omega arith in rw e at (c.loop-i.invariant.2 p h);
  within = omega arith;
}
