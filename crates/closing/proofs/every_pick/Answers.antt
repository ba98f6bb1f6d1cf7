-- `closing::every_pick` meets its contract: each loop has passed every pick so far, and leaves at the first where the test does not hold.
use Rattle.closing.proofs.Laws.{till_none, till_more, till_skip, till_all, till_stop, on1, on2, on3}
use native.Mathlib.Omega.{arith}
use mathlib.Core.Path.{refl, sym, ◌∙◌}
use Rattle.closing.proofs.every_pick.Goals as goal
use Rattle.closing.proofs.every_pick.Goals.{then-has-4+else-not-holds, else-has-4, then-has-3+else-loop-l-test, else-has-3, then-has-2+else-loop-d-test, else-has-2, then-has+else-loop-p-test, else-has, else-picks-test, then-picks-test+then-has+then-loop-p-test+then-has-2+then-loop-d-test+then-has-3+then-loop-l-test+then-has-4+then-not-holds}

pub picks-init : goal.picks-init
picks-init g c = (refl, λ t e. till_none _ _)

pub loop-p-init : goal.loop-p-init
loop-p-init g c = (c.picks.invariant.0, λ t e. till_none _ _)

pub loop-d-init : goal.loop-d-init
loop-d-init g c = (c.loop-p.invariant.0, λ t e. till_none _ _)

pub loop-l-init : goal.loop-l-init
loop-l-init g c = (c.loop-d.invariant.0, λ t e. till_none _ _)

pub loop-l-preserved : goal.loop-l-preserved
loop-l-preserved g c = elim c.if-has-4.branch [
  | then-has-4+else-not-holds w ↦ (c.loop-l.invariant.0, λ t e. till_more c.args.e.bits (t c.picks.v c.loop-p.p c.loop-d.d) c.loop-l.l (c.loop-l.invariant.1 t e) c.has-in-loop-l.ensures w.if-has-4.true (sym (e _ _ _ _ _ (omega arith) (omega arith) (omega arith) (omega arith) w.holds.ensures) ∙ w.if-not-holds.false))
  | else-has-4 w ↦ (c.loop-l.invariant.0, λ t e. till_skip c.args.e.bits (t c.picks.v c.loop-p.p c.loop-d.d) c.loop-l.l (c.loop-l.invariant.1 t e) c.has-in-loop-l.ensures w.if-has-4.false)
]

pub loop-d-preserved : goal.loop-d-preserved
loop-d-preserved g c = elim c.if-has-3.branch [
  | then-has-3+else-loop-l-test w ↦ (w.all-is ∙ w.loop-l.invariant.0, λ t e. till_more c.args.c.bits (on3 t c.args.e.bits c.picks.v c.loop-p.p) c.loop-d.d (c.loop-d.invariant.1 t e) c.has-in-loop-d.ensures w.if-has-3.true (till_all c.args.e.bits (t c.picks.v c.loop-p.p c.loop-d.d) _ (omega arith) (w.loop-l.invariant.1 t e)))
  | else-has-3 w ↦ (w.all-is ∙ c.loop-d.invariant.0, λ t e. till_skip c.args.c.bits (on3 t c.args.e.bits c.picks.v c.loop-p.p) c.loop-d.d (c.loop-d.invariant.1 t e) c.has-in-loop-d.ensures w.if-has-3.false)
]

pub loop-p-preserved : goal.loop-p-preserved
loop-p-preserved g c = elim c.if-has-2.branch [
  | then-has-2+else-loop-d-test w ↦ (w.all-is ∙ w.loop-d.invariant.0, λ t e. till_more c.args.b.bits (on2 t c.args.c.bits c.args.e.bits c.picks.v) c.loop-p.p (c.loop-p.invariant.1 t e) c.has-in-loop-p.ensures w.if-has-2.true (till_all c.args.c.bits (on3 t c.args.e.bits c.picks.v c.loop-p.p) _ (omega arith) (w.loop-d.invariant.1 t e)))
  | else-has-2 w ↦ (w.all-is ∙ c.loop-p.invariant.0, λ t e. till_skip c.args.b.bits (on2 t c.args.c.bits c.args.e.bits c.picks.v) c.loop-p.p (c.loop-p.invariant.1 t e) c.has-in-loop-p.ensures w.if-has-2.false)
]

pub picks-preserved : goal.picks-preserved
picks-preserved g c = elim c.if-has.branch [
  | then-has+else-loop-p-test w ↦ (w.all-is ∙ w.loop-p.invariant.0, λ t e. till_more c.args.a.bits (on1 t c.args.b.bits c.args.c.bits c.args.e.bits) c.picks.v (c.picks.invariant.1 t e) c.has.ensures w.if-has.true (till_all c.args.b.bits (on2 t c.args.c.bits c.args.e.bits c.picks.v) _ (omega arith) (w.loop-p.invariant.1 t e)))
  | else-has w ↦ (w.all-is ∙ c.picks.invariant.0, λ t e. till_skip c.args.a.bits (on1 t c.args.b.bits c.args.c.bits c.args.e.bits) c.picks.v (c.picks.invariant.1 t e) c.has.ensures w.if-has.false)
]

pub returns : goal.returns
returns g c = elim c.picks-test.branch [
  | else-picks-test w ↦ λ t e. w.all-is ∙ c.picks.invariant.0 ∙ sym (till_all c.args.a.bits (on1 t c.args.b.bits c.args.c.bits c.args.e.bits) c.picks.v (omega arith) (c.picks.invariant.1 t e))
  | then-picks-test+then-has+then-loop-p-test+then-has-2+then-loop-d-test+then-has-3+then-loop-l-test+then-has-4+then-not-holds w ↦ λ t e. w.all-is ∙ sym (till_stop c.args.a.bits (on1 t c.args.b.bits c.args.c.bits c.args.e.bits) c.picks.v (omega arith) w.has.ensures w.if-has.true (till_stop c.args.b.bits (on2 t c.args.c.bits c.args.e.bits c.picks.v) w.loop-p.p (omega arith) w.has-in-loop-p.ensures w.if-has-2.true (till_stop c.args.c.bits (on3 t c.args.e.bits c.picks.v w.loop-p.p) w.loop-d.d (omega arith) w.has-in-loop-d.ensures w.if-has-3.true (till_stop c.args.e.bits (t c.picks.v w.loop-p.p w.loop-d.d) w.loop-l.l (omega arith) w.has-in-loop-l.ensures w.if-has-4.true (sym (e _ _ _ _ _ (omega arith) (omega arith) (omega arith) (omega arith) w.holds.ensures) ∙ w.if-not-holds.true)))))
]
