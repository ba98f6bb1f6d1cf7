-- `blocks::own_faults` meets its contract: what a block answers is the answer if it is a fault, and the last block ends at the last symbol.
use Rattle.std.proofs.Common.{rules, ◌≡◌, min, arith}
use mathlib.Core.Path.{◌∙◌}
use Rattle.blocks.specs.Rows.{own_fault}
use Rattle.meaning.proofs.First.{clean_none, block_fault}
use Rattle.blocks.proofs.own_faults.Goals as goal

pub loop-base-init : goal.loop-base-init
loop-base-init c = let none : min 0 c.args.n ≡ 0 = omega arith in rw none (clean_none _)

pub returns-in_err-block_fault : goal.returns-in_err-block_fault
returns-in_err-block_fault c =
    let x = c.args.x.now in
    let same : c.from_residual.result ≡ c.block_fault.result = search rules in
    same ∙ block_fault (own_fault x.model.now x.table.now x.work.now) c.args.n _ c.block_fault.ensures c.in_err-block_fault.was (omega arith)
