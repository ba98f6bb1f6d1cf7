-- `findings::body_fault` meets its contract: by the finding's kind.
use Rattle.findings.proofs.Bodies.{judged_witness, judged_clearance}
use Rattle.findings.proofs.body_fault.Goals as goal

pub returns-then-byte-eq0 : goal.returns-then-byte-eq0
returns-then-byte-eq0 c = (judged_witness c.args.m.now c.args.f.now c.byte.ensures c.if-byte-eq0.true c.witness_fault.ensures.0, c.witness_fault.ensures.1, c.requires.3)

pub returns : goal.returns
returns c = (judged_clearance c.args.m.now c.args.f.now c.byte.ensures c.if-byte-eq0.false c.clearance_fault.ensures.0, c.clearance_fault.ensures.1, c.clearance_fault.ensures.2)
