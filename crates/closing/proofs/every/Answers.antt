-- `closing::every` meets its contract: each turn has passed every pick so far.
use Rattle.closing.proofs.Laws.{till_none, till_more, till_skip, till_all, till_stop}
use native.Mathlib.Omega.{arith}
use mathlib.Core.Path.{refl, sym, ◌∙◌}
use Rattle.closing.proofs.every.Goals as goal
use Rattle.closing.proofs.every.Goals.{then-has+else-not-holds, else-has, else-values-test, then-values-test+then-has+then-not-holds}

pub values-init : goal.values-init
values-init g c = (refl, λ p e. till_none _ _)

pub values-preserved : goal.values-preserved
values-preserved g c = elim c.if-has.branch [
  | then-has+else-not-holds w ↦ (c.values.invariant.0, λ p e. till_more c.args.set.bits p c.values.v (c.values.invariant.1 p e) c.has.ensures w.if-has.true (sym (e _ _ (omega arith) w.holds.ensures) ∙ w.if-not-holds.false))
  | else-has w ↦ (c.values.invariant.0, λ p e. till_skip c.args.set.bits p c.values.v (c.values.invariant.1 p e) c.has.ensures w.if-has.false)
]

pub returns : goal.returns
returns g c = elim c.values-test.branch [
  | else-values-test w ↦ λ p e. w.all-is ∙ c.values.invariant.0 ∙ sym (till_all c.args.set.bits p c.values.v (omega arith) (c.values.invariant.1 p e))
  | then-values-test+then-has+then-not-holds w ↦ λ p e. w.all-is ∙ sym (till_stop c.args.set.bits p c.values.v (omega arith) w.has.ensures w.if-has.true (sym (e _ _ (omega arith) w.holds.ensures) ∙ w.if-not-holds.true))
]
