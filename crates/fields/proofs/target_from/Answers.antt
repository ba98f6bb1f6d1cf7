-- `fields::target_from` meets its contract: the start is the selects' own.
use Rattle.meaning.specs.Book.{half_in}
use Rattle.fields.proofs.target_from.Goals as goal

pub returns : goal.returns
unfolding half_in
returns c = (rw c.requires.0 at c.half.ensures.0, c.half.ensures.1)
