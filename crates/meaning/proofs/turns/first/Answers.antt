-- `meaning::turns::first` meets its contract: no number before the one looked at passes, so the first that does is the first of all.
use native.Mathlib.Omega.{arith}
use mathlib.Core.Path.{◌≡◌, ◌∙◌}
use Rattle.meaning.specs.Base.{first_where}
use Rattle.meaning.proofs.Below.{first_none, first_more, first_hit}
use Rattle.meaning.proofs.Folds.{at_end}
use Rattle.meaning.proofs.turns.first.Goals as goal

pub loop-i-init : goal.loop-i-init
loop-i-init g c = (omega arith, λ p h. first_none p)

pub returns-then-holds : goal.returns-then-holds
returns-then-holds g c = record {
  least = λ p h. first_hit p c.args.n c.loop-i.i (c.loop-i.invariant.1 p h) (omega arith) (h _ _ (omega arith) c.holds.ensures) c.if-holds.true;
  within = omega arith;
}

pub loop-i-preserved : goal.loop-i-preserved
loop-i-preserved g c =
    (omega arith, λ p h. first_more p c.loop-i.i (c.loop-i.invariant.1 p h) (h _ _ (omega arith) c.holds.ensures) c.if-holds.false)

pub returns : goal.returns
returns g c = record {
  least = λ p h. let e : c.args.n ≡ c.loop-i.i = omega arith in e ∙ at_end (first_where p) (c.loop-i.invariant.1 p h) (omega arith);
  within = omega arith;
}
