-- `names::symbol_at` meets its contract: where the name is new, only the rest is tested.
use mathlib.Core.Path.{◌∙◌}
use Rattle.meaning.specs.Book.{record_at}
use Rattle.names.proofs.Laws.{fits_is}
use Rattle.names.proofs.symbol_at.Goals as goal

pub returns : goal.returns
unfolding record_at
returns c = c.refuse_with_if.ensures ∙ rw (fits_is c.args.m.now c.args.s c.requires.1 c.symbol_fits.ensures)
