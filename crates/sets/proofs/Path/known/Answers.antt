-- `sets::Path::known` meets its contract: a byte that is not 0 keeps the set itself.
use native.Mathlib.Omega.{arith}
use Rattle.sets.proofs.Nodes.{known_any}
use Rattle.sets.proofs.Path.known.Goals as goal

pub returns-in_default-clause-told : goal.returns-in_default-clause-told
returns-in_default-clause-told c = known_any c.args.self.now.m.now c.args.self.now.ys.now c.args.self.now.known c.args.i c.byte.ensures (omega arith)
