-- `line::line` meets its contract: the parts are those of the definition, one behind the other.
use native.Mathlib.Omega.{arith}
use Rattle.std.proofs.Common.{rules}
use Rattle.line.proofs.Laws.{lined}
use Rattle.line.proofs.line.Goals as goal

pub returns : goal.returns
returns c = lined c.args.input.now c.args.work.now c.args.out.now c.model_length-m.ensures c.part-model.ensures c.rest.ensures c.requires.0 c.check-outcome.ensures c.from.ensures c.offender_of.ensures c.name_of-name.ensures.0 (omega (arith, c.numbers.ensures.1)) c.numbers.ensures.0.written c.ending.ensures.written (search rules)
