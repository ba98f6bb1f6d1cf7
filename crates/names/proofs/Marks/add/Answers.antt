-- `names::Marks::add` meets its contract: an or keeps every bit, and has the new one.
use Rattle.std.proofs.Common.{◌/◌, ◌%◌, ◌<◌, arith, length, get_or}
use Rattle.names.proofs.Bits.{bit_added, mark_new, mark_stays}
use Rattle.names.proofs.Marks.add.Goals as goal

pub returns : goal.returns
returns c =
    let bytes = c.args.self.now.bytes in
    let h = c.args.h in
    let within : h / 8 < length bytes = omega (arith, c.requires) in
    let adds = bit_added (get_or bytes (h / 8) 0) (h % 8) (omega arith) in
    (mark_new bytes h _ within adds, λ q e. mark_stays bytes (h / 8) (h % 8) _ q within adds e)
