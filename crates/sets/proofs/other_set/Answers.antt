-- `sets::other_set` meets its contract: by what the second leaf is.
use native.Mathlib.Omega.{arith}
use Rattle.std.proofs.Common.{rules}
use Rattle.sets.specs.Work.{by_letter}
use Rattle.sets.proofs.Equal.{set_free_second, set_other_three, set_others}
use Rattle.sets.proofs.other_set.Goals as goal

pub returns-in-Free : goal.returns-in-Free
returns-in-Free c = (set_free_second c.args.m.now c.args.ys.now c.args.i c.args.j (rw c.in-Free.is at c.side_of.ensures), omega arith)

pub returns-in-Three : goal.returns-in-Three
returns-in-Three c =
    let side = rw c.in-Three.is at c.side_of.ensures in
    let made = c.pairs.ensures.0 (λ x y. by_letter c.lone-letter.result x) (λ x y r lx ly e. search rules) in
    (set_other_three c.args.m.now c.args.ys.now c.args.i c.args.j c.requires.2 side.0 c.lone-letter.result c.requires.3 side.1 side.2 c.lone-letter.ensures made, c.pairs.ensures.1)

pub returns-in-Plain : goal.returns-in-Plain
returns-in-Plain c =
    let side = rw c.in-Plain.is at c.side_of.ensures in
    (set_others c.args.m.now c.args.ys.now c.args.i c.args.j c.requires.2 side.0 c.requires.3 side.1 c.plain_set.ensures.0, c.plain_set.ensures.1)
