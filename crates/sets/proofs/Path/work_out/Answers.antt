-- `sets::Path::work_out` meets its contract: what is worked out stays, and now node i is, unless it is a leaf.
use mathlib.Core.Path.{◌∙◌}
use native.Mathlib.Omega.{arith}
use Prim.Native.Nat.{◌+◌}
use Rattle.sets.proofs.Nodes.{among-whole}
use Rattle.sets.proofs.Path.work_out.Goals as goal

pub keep-requires-clause-due : goal.keep-requires-clause-due
keep-requires-clause-due c = c.from_before-set.ensures.set ∙ among-whole c.args.self.now.m.now c.args.self.now.ys.now (c.args.i + 1) c.args.i (omega arith) (omega arith)
