-- `raw::word` meets its contract: past the end its bytes are 0, else it reads two halves.
use Rattle.meaning.specs.Base.{word}
use native.Mathlib.Omega.{arith}
use Prim.Native.Nat.{◌+◌}
use mathlib.Core.Path.{◌≡◌, sym, ◌∙◌}
use Rattle.raw.proofs.Laws.{word_past, half_past}
use Rattle.raw.proofs.word.Goals as goal

pub returns-then-s-i : goal.returns-then-s-i
returns-then-s-i c = (sym (word_past _ _ c.if-s-i.true), omega arith)

pub returns-then-s-next : goal.returns-then-s-next
unfolding word
returns-then-s-next c = (c.joined_halves.ensures.0 ∙ rw (c.half.ensures.0, half_past c.args.s.now (c.args.i + 2) (omega arith)), c.joined_halves.ensures.1)

pub returns : goal.returns
unfolding word
returns c = let e : c.args.i + 1 + 1 ≡ c.args.i + 2 = omega arith in (c.joined_halves-2.ensures.0 ∙ rw (c.half-3.ensures.0, c.half-2.ensures.0, e), c.joined_halves-2.ensures.1)
