-- `findings::tree` meets its contract: what is no split is walked alike however many splits are allowed.
use Rattle.findings.proofs.Walks.{no_split}
use native.Mathlib.Omega.{arith}
use mathlib.Core.Path.{sym, ◌∙◌}
use Rattle.findings.proofs.tree.Goals as goal

pub split-requires : goal.split-requires
split-requires c = (omega arith, sym c.splits-split_there.ensures ∙ c.if-split_there.true, c.requires.0, c.requires.1)

pub returns : goal.returns
returns c = (c.leaf.ensures.0 ∙ no_split c.args.m.now c.args.f.now c.args.ys.now 64 4 c.splits-split_there.ensures c.if-split_there.false, c.leaf.ensures.1, c.leaf.ensures.2)
