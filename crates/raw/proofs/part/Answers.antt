-- `raw::part` meets its contract: its ends are clamped to where the bytes end.
use native.Mathlib.Omega.{arith}
use Rattle.raw.proofs.Laws.{part_between}
use Rattle.raw.proofs.part.Goals as goal

pub returns : goal.returns
returns c = part_between c.args.s.now c.args.at c.args.n (omega arith) (omega arith)
