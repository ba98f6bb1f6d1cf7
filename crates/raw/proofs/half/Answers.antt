-- `raw::half` meets its contract: both bytes where there are two, else the one that is left or none.
use Rattle.raw.proofs.Laws.{half_end}
use Rattle.meaning.specs.Base.{half}
use native.Mathlib.Omega.{arith}
use mathlib.Core.Path.{sym, ◌∙◌}
use Rattle.raw.proofs.half.Goals as goal

pub returns-then-s-lt2 : goal.returns-then-s-lt2
returns-then-s-lt2 c = (c.from.ensures ∙ c.byte.ensures ∙ sym (half_end _ _ (omega arith)), omega arith)

pub returns-then-i-s : goal.returns-then-i-s
unfolding half
returns-then-i-s c = (c.joined.ensures.0, c.joined.ensures.1)

pub returns : goal.returns
returns c = (c.from-2.ensures ∙ c.byte-2.ensures ∙ sym (half_end _ _ (omega arith)), omega arith)
