use Rattle.raw.proofs.Laws.{same_pointwise}
use mathlib.Core.Path.{◌∙◌}
use Rattle.raw.proofs.same.Goals as goal

pub returns : goal.returns
returns c = c.eq.ensures ∙ same_pointwise c.args.a.now c.args.b.now
