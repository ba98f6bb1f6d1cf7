-- `blocks::fault` meets its contract: below the first symbol that breaks a range rules 11 to 13 decide, at it rule 14 does if they are kept.
use Rattle.std.proofs.Common.{rules, ◌≡◌, ◌≤◌}
use mathlib.Core.Path.{◌∙◌}
use Rattle.std.specs.Prelude.{Some}
use Rattle.blocks.proofs.Laws.{own-answers, own_alone, range-answers}
use Rattle.blocks.proofs.fault.Goals as goal
use Rattle.blocks.proofs.fault.Goals.{in_default-via-in-Some+else-off-n, in_default-via-in_default}

pub returns-in_err-own_faults-in-Some : goal.returns-in_err-own_faults-in-Some
returns-in_err-own_faults-in-Some c =
    let x = c.args.x.now in
    let same : c.from_residual.result ≡ c.own_faults.result = search rules in
    same ∙ rw c.symbols-n.ensures.0 at (own-answers x.model.now x.table.now x.work.now c.symbols-n.result c.in-Some.off (rw c.in-Some.is at c.first_off.ensures) c.symbols-n.ensures.1 c.if-off-n.true c.own_faults.ensures c.in_err-own_faults-in-Some.was)

pub returns-in_ok-own_faults-in-Some : goal.returns-in_ok-own_faults-in-Some
returns-in_ok-own_faults-in-Some c =
    let x = c.args.x.now in
    rw c.symbols-n.ensures.0 at (range-answers x.model.now x.table.now x.work.now c.symbols-n.result c.in-Some.off (rw c.in-Some.is at c.first_off.ensures) c.symbols-n.ensures.1 c.own_faults.ensures c.in_ok-own_faults-in-Some.was c.if-off-n.true c.ranges_fault.ensures)

pub returns-in_default : goal.returns-in_default
returns-in_default c =
    let x = c.args.x.now in
    let past : (off : _) → c.first_off.result ≡ Some off → c.symbols-n.result ≤ off = λ off e. elim c.in_default.branch [
      | in_default-via-in-Some+else-off-n w ↦ search (rules, e, w.in-Some.is, w.if-off-n.false)
      | in_default-via-in_default w ↦ absurd (w.in_default.not-Some off e)
    ] in
    rw c.symbols-n.ensures.0 at (c.own_faults-in_default.ensures ∙ own_alone x.model.now x.table.now x.work.now c.symbols-n.result c.first_off.result c.first_off.ensures c.symbols-n.ensures.1 past)
