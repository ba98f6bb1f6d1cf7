-- `sets::blank` meets its contract: one node more is laid out at each turn.
use native.Mathlib.Omega.{arith}
use Rattle.meaning.proofs.Folds.{laid_none, laid_more, laid_all}
use Rattle.meaning.specs.Base.{half}
use Rattle.meaning.specs.Book.{count}
use Rattle.sets.specs.Work.{blank_at, blank_of}
use Rattle.sets.proofs.blank.Goals as goal

pub loop-i-init : goal.loop-i-init
loop-i-init c = laid_none (blank_at c.args.m.now) c.args.w.now

pub blank_at-requires : goal.blank_at-requires
unfolding half count
blank_at-requires c = omega (arith, c.requires, c.type_inv.m 10, c.type_inv.m 11)

pub loop-i-preserved : goal.loop-i-preserved
loop-i-preserved c = laid_more (blank_at c.args.m.now) c.args.w.now c.loop-i.i (omega arith) c.loop-i.invariant c.blank_at.ensures

pub returns : goal.returns
unfolding blank_of
returns c = laid_all (blank_at c.args.m.now) c.args.w.now c.loop-i.invariant (omega arith) c.requires
