-- `names::fault` meets its contract: what a block answers is the answer if it is a fault, and so is its first name that is not new; the last block ends at the last symbol.
use Rattle.std.proofs.Common.{rules}
use mathlib.Core.Path.{◌≡◌, sym, ◌∙◌}
use native.Mathlib.Omega.{arith}
use Prim.Native.Nat.{◌+◌}
use Rattle.std.specs.Prelude.{min}
use Rattle.meaning.specs.Book.{record_at, section_fault}
use Rattle.meaning.specs.Base.{first_below}
use Rattle.names.proofs.Laws.{old_at}
use Rattle.meaning.proofs.Folds.{at_end}
use Rattle.meaning.proofs.First.{clean_none, block_fault, place_fault}
use Rattle.names.proofs.fault.Goals as goal
use Rattle.names.proofs.fault.Goals.{else-loop-base-test, then-loop-base-test+in_ok-block_fault+else-old-end+else-n-base-gt224}

pub loop-base-init : goal.loop-base-init
loop-base-init c = let e : min 0 c.symbols-n.result ≡ 0 = omega arith in rw e (clean_none _)

pub block_fault-requires : goal.block_fault-requires
block_fault-requires c =
    let e : min c.loop-base.base c.symbols-n.result ≡ c.loop-base.base = omega arith in
    (omega arith, omega (arith, c.first_old.ensures.0, c.end_of-end.ensures), rw e at c.loop-base.invariant, c.first_old.ensures.1)

pub returns-in_err-block_fault : goal.returns-in_err-block_fault
unfolding section_fault
returns-in_err-block_fault c =
    let same : c.from_residual.result ≡ c.block_fault.result = search rules in
    let given = c.args in
    let symbols = c.symbols-n in
    let loop = c.loop-base in
    let end_of-end = c.end_of-end in
    let first-old = c.first_old in
    let block = c.block_fault in
    same ∙ rw symbols.ensures.0 at (block_fault (record_at given.m.now 1) symbols.result (loop.base + first-old.result) block.ensures c.in_err-block_fault.was (omega (arith, first-old.ensures.0, end_of-end.ensures)))

pub returns-then-old-end : goal.returns-then-old-end
unfolding section_fault
returns-then-old-end c =
    let given = c.args in
    let symbols = c.symbols-n in
    let loop = c.loop-base in
    let end_of-end = c.end_of-end in
    let first-old = c.first_old in
    let block = c.block_fault in
    let old = loop.base + first-old.result in
    rw symbols.ensures.0 at (place_fault (record_at given.m.now 1) symbols.result old (sym block.ensures ∙ c.in_ok-block_fault.was) (c.refuse_with.ensures ∙ sym (old_at given.m.now old (first-old.ensures.2 (omega arith)))) (c.refuse_with.ensures) (omega (arith, end_of-end.ensures)))

pub loop-base-preserved : goal.loop-base-preserved
loop-base-preserved c =
    let block = c.block_fault in
    let e : c.loop-base.base + c.first_old.result ≡ min (c.loop-base.base + 224) c.symbols-n.result = omega (arith, c.first_old.ensures.0, c.end_of-end.ensures) in
    rw e at (sym block.ensures ∙ c.in_ok-block_fault.was)

pub returns : goal.returns
unfolding section_fault
returns c = elim c.loop-base-test.branch [
  | else-loop-base-test w ↦
      let e : min c.loop-base.base c.symbols-n.result ≡ c.symbols-n.result = omega arith in
      at_end (first_below _) (rw e at c.loop-base.invariant) c.symbols-n.ensures.0
  | then-loop-base-test+in_ok-block_fault+else-old-end+else-n-base-gt224 w ↦
      at_end (first_below _) (sym w.block_fault.ensures ∙ w.in_ok-block_fault.was) (omega (arith, w.first_old.ensures.0, w.end_of-end.ensures, c.symbols-n.ensures.0))
]
