-- `findings::fill_sets` meets its contract: one symbol more has its full set at each turn.
use Rattle.meaning.specs.Sets.{full, full_sets}
use Rattle.meaning.specs.Book.{type_of}
use Rattle.meaning.proofs.Folds.{laid_none, laid_more, laid_all}
use lib.ListN.{length-set}
use native.Mathlib.Omega.{arith}
use mathlib.Core.Path.{refl, ◌∙◌, ap}
use Rattle.findings.proofs.fill_sets.Goals as goal

pub loop-s-init : goal.loop-s-init
loop-s-init c = (omega arith, refl, laid_none (λ s. full (type_of c.args.m.now s)) c.args.ys.now)

pub loop-s-preserved : goal.loop-s-preserved
loop-s-preserved c = (omega arith, simp length-set (omega arith), laid_more (λ s. full (type_of c.args.m.now s)) c.args.ys.now c.loop-s.s (omega arith) c.loop-s.invariant.2 (c.full.ensures ∙ ap full c.type_of.ensures))

pub returns : goal.returns
unfolding full_sets
returns c = laid_all (λ s. full (type_of c.args.m.now s)) c.args.ys.now c.loop-s.invariant.2 (omega arith) c.requires
