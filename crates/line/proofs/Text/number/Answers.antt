-- `line::Text::number` meets its contract: the digits are 12 at most, and the space stands behind them.
use native.Mathlib.Omega.{arith}
use mathlib.Core.Path.{◌≡◌, ◌∙◌}
use lib.ListN.{length}
use Prim.Native.Nat.{◌≤◌}
use Rattle.meaning.specs.Program.{decimal}
use Rattle.line.specs.Written.{Pushed}
use Rattle.line.proofs.Laws.{pushed_on}
use Rattle.line.proofs.Text.number.Goals as goal

pub returns : goal.returns
unfolding decimal
returns c =
    let same : c.text.result.now ≡ decimal c.args.v = c.text.ensures ∙ rw c.from.ensures at c.decimal.ensures.text in
    let short : length c.text.result.now ≤ 12 = rw c.text.ensures c.decimal.ensures.short in
    let digits : Pushed (decimal c.args.v) c.args.self.now c.push.new.self = rw same at c.push.ensures in (
      pushed_on (omega (arith, short, c.push.ensures.written.ends)) digits c.push-2.ensures,
      omega (arith, short, c.push.ensures.written.ends, c.push-2.ensures.written.ends),
    )
