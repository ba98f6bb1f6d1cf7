-- `sets::equal_set` meets its contract: by what the first leaf is.
use native.Mathlib.Omega.{arith}
use Rattle.sets.proofs.Equal.{set_free}
use Rattle.sets.proofs.equal_set.Goals as goal

pub returns-in-Free : goal.returns-in-Free
returns-in-Free c = (set_free c.args.m.now c.args.ys.now c.args.i c.args.j (rw c.in-Free.is at c.side_of.ensures), omega arith)
