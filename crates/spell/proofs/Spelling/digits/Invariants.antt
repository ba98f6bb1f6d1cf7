-- `Spelling::digits` meets its contract: each turn puts the last digit that is left in front of those so far, and 12 are enough.
use Rattle.std.proofs.Common.{◌≡◌, [], length, ◌-◌}
use Rattle.meaning.specs.Spell.{digits}
use Rattle.spell.proofs.Spelling.digits.Given as goal

abbrev pub invariant-loop : goal.invariant-loop
invariant-loop g l = (length l.spelling ≡ l.counter) × (digits g.row.BASE (12 - l.counter) l.n l.spelling ≡ digits g.row.BASE 12 l.v [])
