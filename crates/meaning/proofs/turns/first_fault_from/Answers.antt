-- `meaning::turns::first_fault_from` meets its contract: no number before the one looked at has a fault, so the first that has one is the first of all.
use native.Mathlib.Omega.{arith}
use mathlib.Core.Path.{◌≡◌, sym, ◌∙◌}
use Rattle.std.proofs.Common.{rules, Err, ◌≤◌}
use Rattle.meaning.specs.Base.{Clean, first_below}
use Rattle.meaning.proofs.First.{below_more, clean_more, place_fault}
use Rattle.meaning.proofs.Folds.{at_end}
use Rattle.meaning.proofs.turns.first_fault_from.Goals as goal

pub loop-i-init : goal.loop-i-init
loop-i-init g c = (omega arith, omega arith, λ j a l. absurd (omega (arith, a, l)), λ t z h. z)

pub fault_at-requires : goal.fault_at-requires
fault_at-requires g c = c.requires.callable c.loop-i.i (omega arith) (omega arith) c.loop-i.invariant.2

pub returns-in_err-fault_at : goal.returns-in_err-fault_at
returns-in_err-fault_at g c = λ t z h.
    let same : c.from_residual.result ≡ Err c.in_err-fault_at.field-0.0 = search rules in
    same ∙ sym c.in_err-fault_at.was
    ∙ place_fault t _ _ (c.loop-i.invariant.3 t z h) (h _ _ (omega arith) (omega arith) c.fault_at.ensures) c.in_err-fault_at.was (omega arith)

pub loop-i-preserved : goal.loop-i-preserved
loop-i-preserved g c = (
  omega arith,
  omega arith,
  λ j a l. below_more (λ k. c.args.from ≤ k → g.F.Fn.post c.args.fault_at (k, tt) Clean) c.loop-i.i (λ k m b. c.loop-i.invariant.2 k b m) (λ b. c.in_ok-fault_at.ensures) j l a,
  λ t z h. clean_more t _ (c.loop-i.invariant.3 t z h) (h _ _ (omega arith) (omega arith) c.fault_at.ensures) c.in_ok-fault_at.was,
)

pub returns : goal.returns
returns g c = λ t z h. at_end (first_below t) (c.loop-i.invariant.3 t z h) (omega arith)
