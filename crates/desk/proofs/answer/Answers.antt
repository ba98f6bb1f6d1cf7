use Rattle.std.proofs.Common.{arith, take}
use Rattle.std.proofs.lemmas.Result.{on_ok_weaker}
use Rattle.std.specs.Io.KnownBytes.{Appends}
use Rattle.meaning.specs.Program.{line_of}
use Rattle.desk.proofs.Reading.{read_whole}
use Rattle.desk.proofs.answer.Goals as goal

pub returns : goal.returns
returns g c =
    let read = c.in_ok-n.ensures in
    let room = c.read_full.new.room in
    let n = c.in_ok-n.n in
    on_ok_weaker c.report.result
    (read_whole _ _ (take n room) 131072 (λ xs. Appends (g.W.Write.contents c.args.to.now) (g.W.Write.contents c.report.new.to) (line_of xs)) read.bytes (omega (arith, read.bound.1, read.bound.0, c.read_full.auto.room, c.room-input.ensures))
    (λ l. read.end (omega (arith, l, read.bound.1, c.read_full.auto.room, c.room-input.ensures))))
    c.report.ensures
