-- `book::records_fault` meets its contract: the choices of clean sections take the members in turn.
use mathlib.Core.Path.{sym, ◌∙◌}
use Rattle.book.proofs.Laws.{in_turn_lem}
use Rattle.book.proofs.records_fault.Goals as goal

pub members_fault-requires : goal.members_fault-requires
members_fault-requires c = in_turn_lem c.args.m.now (λ i. (c.type_inv.m i).fits) (sym c.sections_fault.ensures ∙ c.in_ok-sections_fault.was)
