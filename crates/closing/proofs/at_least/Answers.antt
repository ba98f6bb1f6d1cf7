-- `closing::at_least` meets its contract: what the test says of a member is what the bound of its set says.
use lib.Dec.{leb}
use Rattle.meaning.specs.Rules.{at_least}
use Rattle.meaning.specs.Book.{member_of}
use Rattle.meaning.specs.Sets.{sat}
use Rattle.closing.proofs.at_least.Goals as goal

pub returns : goal.returns
unfolding at_least
returns g c = λ h e. rw c.member_count.ensures.0 at c.count.ensures.number (λ j. leb c.args.k (h (sat c.args.ys.now (member_of c.args.m.now c.args.c j)))) (λ i r lt q. q h e)
