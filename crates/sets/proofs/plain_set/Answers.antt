-- `sets::plain_set` meets its contract: two texts or numbers make one pair.
use native.Mathlib.Omega.{arith}
use mathlib.Core.Path.{refl}
use Rattle.sets.proofs.Equal.{pair_others}
use Rattle.sets.proofs.plain_set.Goals as goal

pub returns-then-same_spelling : goal.returns-then-same_spelling
returns-then-same_spelling c = (pair_others c.args.m.now c.args.i c.args.j c.leaf.result c.leaf-2.result c.requires.2 c.requires.3 c.part-none.ensures c.leaf.ensures c.leaf-2.ensures c.same_spelling.ensures c.if-same_spelling.true refl, omega arith)

pub returns-else-same_spelling : goal.returns-else-same_spelling
returns-else-same_spelling c = (pair_others c.args.m.now c.args.i c.args.j c.leaf.result c.leaf-2.result c.requires.2 c.requires.3 c.part-none.ensures c.leaf.ensures c.leaf-2.ensures c.same_spelling.ensures c.if-same_spelling.false refl, omega arith)
