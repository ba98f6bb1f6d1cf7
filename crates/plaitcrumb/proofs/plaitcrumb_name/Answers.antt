-- `plaitcrumb::plaitcrumb_name` meets its contract: nothing for a bad book and for no symbol, else where the name stands.
use native.Mathlib.Omega.{arith}
use mathlib.Core.Path.{sym, ◌∙◌}
use Rattle.plaitcrumb.proofs.Laws.{place_bad, place_past, place_is}
use Rattle.plaitcrumb.proofs.plaitcrumb_name.Goals as goal

pub returns-then-is_err : goal.returns-then-is_err
returns-then-is_err c = place_bad c.args.model.now c.args.index c.fault.ensures (sym c.is_err.ensures.value ∙ c.if-is_err.true)

pub returns-then-symbols-index : goal.returns-then-symbols-index
returns-then-symbols-index c = place_past c.args.model.now c.args.index c.fault.ensures (sym c.is_err.ensures.value ∙ c.if-is_err.false) c.symbols.ensures.0 c.if-symbols-index.true

pub returns : goal.returns
returns c = place_is c.args.model.now c.args.index c.fault.ensures (sym c.is_err.ensures.value ∙ c.if-is_err.false) c.symbols.ensures.0 (omega arith) c.name_start-start.ensures.0 (c.from-length.ensures ∙ c.name_length.ensures)
