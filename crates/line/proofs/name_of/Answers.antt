-- `line::name_of` meets its contract: a byte counts the name.
use Rattle.line.proofs.Laws.{short_name}
use Rattle.line.proofs.name_of.Goals as goal

pub returns : goal.returns
returns c = short_name c.args.model.now (λ i. (c.shared_slice_known-1.given i).fits) c.args.index c.name.ensures
