-- `fields::count` meets its contract: it is the u16 where the contents have it.
use Rattle.meaning.specs.Book.{count}
use borrow.Author.Rules.{rules}
use Rattle.fields.proofs.count.Goals as goal

pub returns : goal.returns
unfolding count
returns c = search rules
