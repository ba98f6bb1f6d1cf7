-- `fields::member_symbol_from` meets its contract: the start is the members' own.
use Prim.Native.Nat.{◌+◌, ◌*◌}
use native.Mathlib.Omega.{arith}
use Rattle.meaning.specs.Book.{start as start_of, half_in}
use mathlib.Core.Path.{◌≡◌}
use Rattle.fields.proofs.member_symbol_from.Goals as goal

pub returns : goal.returns
unfolding half_in
returns c = let z : c.args.members + c.args.i * 2 ≡ start_of c.args.m.now 7 + c.args.i * 2 + 0 = omega (arith, c.requires.0) in (rw z at c.half.ensures.0, c.half.ensures.1)
