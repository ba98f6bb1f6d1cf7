-- `records::name_ok` meets its contract: where the book's end cuts a name short, both say no; else its bytes are the book's.
use mathlib.Core.Path.{◌∙◌}
use mathlib.Core.Bool.{◌&&◌}
use Prim.Native.Nat.{◌+◌}
use lib.Dec.{leb}
use Rattle.meaning.specs.Book.{name_ok}
use Rattle.records.proofs.Laws.{spelled_in}
use Rattle.records.proofs.name_ok.Goals as goal

pub returns : goal.returns
unfolding name_ok
returns c =
    let given = c.args in
    let name-length = c.name_length in
    let long = c.from-n in
    let name-start = c.name_start in
    let part = c.part-name in
    let name-offset = c.name_offset in
    spelled_in given.m.now name-start.result long.result (leb 1 long.result && leb long.result 64 && leb (name-offset.result + long.result) c.texts.result) part.ensures c.spelled_well.ensures ∙ rw (name-start.ensures.0, name-offset.ensures.0, c.texts.ensures.0, long.ensures, name-length.ensures)
