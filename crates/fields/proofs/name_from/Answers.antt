-- `fields::name_from` meets its contract: it is the part that the name's offset and length give.
use Rattle.fields.proofs.Laws.{part_small}
use Prim.Native.Nat.{◌+◌}
use native.Mathlib.Omega.{arith}
use mathlib.Core.Path.{◌∙◌}
use Rattle.fields.proofs.name_from.Goals as goal

pub returns : goal.returns
returns c =
    let pre = c.requires in
    let given = c.args in
    let name-length-from = c.name_length_from in
    let long = c.from-n in
    (c.part.ensures ∙ rw (pre.2, c.name_offset_from.ensures.0, long.ensures, name-length-from.ensures), rw c.part.ensures (omega (arith, long.ensures, part_small given.m.now (given.texts + c.name_offset_from.result) long.result)))
