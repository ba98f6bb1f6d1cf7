-- `plaitcrumb::plaitcrumb_name_in` meets its contract: nothing for no symbol and for a part without bytes, else where that part stands.
use Rattle.plaitcrumb.proofs.Laws.{part_past, part_empty, part_is}
use native.Mathlib.Omega.{arith}
use Rattle.plaitcrumb.proofs.plaitcrumb_name_in.Goals as goal

pub returns-then-symbols-index : goal.returns-then-symbols-index
returns-then-symbols-index c =
    let given = c.args in
    part_past given.model.now given.index c.symbols.ensures.0 c.if-symbols-index.true

pub returns-then-name-eq0 : goal.returns-then-name-eq0
returns-then-name-eq0 c =
    let given = c.args in
    let symbols = c.symbols in
    part_empty given.model.now given.index symbols.ensures.0 (omega arith) c.spelled_name-name.ensures c.if-name-eq0.true

pub returns : goal.returns
returns c =
    let given = c.args in
    let symbols = c.symbols in
    let spelled-name = c.spelled_name-name in
    part_is given.model.now given.index symbols.ensures.0 (omega arith) spelled-name.ensures c.if-name-eq0.false c.name_start.ensures.0
