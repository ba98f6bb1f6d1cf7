use Rattle.reading.proofs.Reading.{read_more}
use Rattle.reading.proofs.read_full.Goals as goal

pub loop-got-preserved : goal.loop-got-preserved
loop-got-preserved g c =
    let read = c.in_ok-n.ensures in
    (read.fits, read_more _ _ _ c.loop-got.room c.read_on.new.room c.loop-got.got c.in_ok-n.n c.loop-got.invariant.1 read.front read.bytes)
