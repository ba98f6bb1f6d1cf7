-- `findings::body` meets its contract: both rooms are cleared to their ends, whatever was answered.
use Rattle.closing.proofs.Laws.{cleared_all}
use mathlib.Core.Path.{refl}
use Rattle.findings.proofs.body.Goals as goal

pub returns : goal.returns
returns c = (c.body_fault-outcome.ensures.0, cleared_all c.body_fault-outcome.new.w refl c.body_fault-outcome.ensures.1 c.clear.ensures, cleared_all c.body_fault-outcome.new.ys refl c.body_fault-outcome.ensures.2 c.clear-2.ensures)
