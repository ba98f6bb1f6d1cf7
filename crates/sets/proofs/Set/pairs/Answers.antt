-- `sets::Set::pairs` meets its contract: each turn adds what one pair makes.
use Rattle.sets.proofs.Laws.{cell_with, cell_skip, rows_none, row_none, rows_with, rows_skip, rows_all}
use native.Mathlib.Omega.{arith}
use mathlib.Core.Path.{refl}
use Rattle.sets.proofs.Set.pairs.Goals as goal
use Rattle.sets.proofs.Set.pairs.Goals.{then-has-2, else-has-2, then-has+else-loop-y-test, else-has}

pub loop-x-init : goal.loop-x-init
loop-x-init g c = (λ h e. rows_none h c.args.self.bits c.args.other.bits, omega arith)

pub loop-y-init : goal.loop-y-init
loop-y-init g c = (λ h e. row_none h c.args.self.bits c.args.other.bits c.loop-x.x c.loop-x.out.bits, c.loop-x.invariant.1)

pub loop-y-preserved : goal.loop-y-preserved
loop-y-preserved g c = elim c.if-has-2.branch [
  | then-has-2 w ↦ rw w.out-is (λ h e. cell_with h c.args.self.bits c.args.other.bits c.loop-x.x c.loop-x.out.bits c.loop-y.y (c.loop-y.invariant.0 h e) c.has-in-loop-y.ensures w.if-has-2.true (e _ _ _ (omega arith) (omega arith) w.f-made.ensures) w.with-out.ensures.0, w.with-out.ensures.1)
  | else-has-2 w ↦ rw w.out-is (λ h e. cell_skip h c.args.self.bits c.args.other.bits c.loop-x.x c.loop-x.out.bits c.loop-y.y (c.loop-y.invariant.0 h e) c.has-in-loop-y.ensures w.if-has-2.false refl, c.loop-y.invariant.1)
]

pub loop-x-preserved : goal.loop-x-preserved
loop-x-preserved g c = elim c.if-has.branch [
  | then-has+else-loop-y-test w ↦ rw w.out-is (λ h e. rows_with h c.args.self.bits c.args.other.bits c.loop-x.x (c.loop-x.invariant.0 h e) c.has.ensures w.if-has.true (omega arith) (w.loop-y.invariant.0 h e), w.loop-y.invariant.1)
  | else-has w ↦ rw w.out-is (λ h e. rows_skip h c.args.self.bits c.args.other.bits c.loop-x.x (c.loop-x.invariant.0 h e) c.has.ensures w.if-has.false refl, c.loop-x.invariant.1)
]

pub returns : goal.returns
returns g c = (λ h e. rows_all h c.args.self.bits c.args.other.bits (c.loop-x.invariant.0 h e) (omega arith), c.loop-x.invariant.1)
