-- `line::model_length` meets its contract: by its test of the length.
use native.Mathlib.Omega.{arith}
use Rattle.line.proofs.Laws.{short_model, long_model}
use Rattle.line.proofs.model_length.Goals as goal

pub returns-then-input-lt2 : goal.returns-then-input-lt2
returns-then-input-lt2 c = short_model _ c.if-input-lt2.true

pub returns : goal.returns
returns c = long_model _ (omega arith) c.half.ensures.0
