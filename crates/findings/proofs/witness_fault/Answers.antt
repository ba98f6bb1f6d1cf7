-- `findings::witness_fault` meets its contract: the table check's own parts, in order, then the select.
use mathlib.Core.Path.{◌≡◌, ◌∙◌}
use Rattle.std.proofs.Common.{rules}
use Rattle.findings.proofs.Bodies.{values_there, values_many, witness_unreadable, witness_broken, witness_judged, table_is}
use Rattle.findings.proofs.witness_fault.Goals as goal

pub returns-in_err-fault : goal.returns-in_err-fault
returns-in_err-fault c = let same : c.from_residual.result ≡ c.fault.result = search rules in (same ∙ witness_unreadable c.args.m.now c.args.f.now (table_is c.args.f.now) c.symbols.ensures.0 c.fault.ensures c.in_err-fault.was, c.requires.1)

pub returns-in_err-fault-2 : goal.returns-in_err-fault-2
returns-in_err-fault-2 c = let same : c.from_residual-in_err-fault-2.result ≡ c.fault-2.result = search rules in (same ∙ witness_broken c.args.m.now c.args.f.now (table_is c.args.f.now) c.symbols.ensures.0 c.fault.ensures c.in_ok-fault.was (values_there c.args.m.now _ c.args.w.now c.requires.1 c.fill.ensures) c.fault-2.ensures c.in_err-fault-2.was, values_many c.args.m.now _ (values_there c.args.m.now _ c.args.w.now c.requires.1 c.fill.ensures))

pub returns : goal.returns
returns c = (witness_judged c.args.m.now c.args.f.now (table_is c.args.f.now) c.symbols.ensures.0 c.fault.ensures c.in_ok-fault.was (values_there c.args.m.now _ c.args.w.now c.requires.1 c.fill.ensures) c.fault-2.ensures c.in_ok-fault-2.was c.half-select.ensures.0 c.unmet.ensures c.refuse_if.ensures, values_many c.args.m.now _ (values_there c.args.m.now _ c.args.w.now c.requires.1 c.fill.ensures))
