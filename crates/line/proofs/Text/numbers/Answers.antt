-- `line::Text::numbers` meets its contract: each number stands behind the one before it.
use native.Mathlib.Omega.{arith}
use Rattle.line.proofs.Laws.{pushed_on}
use Rattle.line.proofs.Text.numbers.Goals as goal

pub returns : goal.returns
returns c =
    let two = pushed_on (omega arith) c.number.ensures.0 c.number-2.ensures.0 in
    (pushed_on (omega arith) two c.number-3.ensures.0, omega arith)
