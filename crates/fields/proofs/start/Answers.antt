-- `fields::start` meets its contract: it is the u16 where the contents have it.
use Rattle.meaning.specs.Book.{start}
use borrow.Author.Rules.{rules}
use Rattle.fields.proofs.start.Goals as goal

pub returns : goal.returns
unfolding start
returns c = search rules
