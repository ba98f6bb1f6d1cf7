-- `meaning::turns::first_fault` meets its contract: before the first number there is no fault.
use Rattle.meaning.proofs.First.{clean_none}
use Rattle.meaning.proofs.turns.first_fault.Goals as goal

pub returns : goal.returns
returns g c = λ t h. c.first_fault_from.ensures t (clean_none t) (λ i r a l p. h i r l p)
