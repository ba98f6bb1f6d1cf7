-- `fields::name_length_from` meets its contract: the start is the symbols' own.
use Rattle.meaning.specs.Book.{byte_in}
use Rattle.fields.proofs.name_length_from.Goals as goal

pub returns : goal.returns
unfolding byte_in
returns c = rw c.requires.0 at c.byte.ensures
