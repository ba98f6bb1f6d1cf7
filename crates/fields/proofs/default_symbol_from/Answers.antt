-- `fields::default_symbol_from` meets its contract: the start is the defaults' own.
use Prim.Native.Nat.{◌+◌, ◌*◌}
use native.Mathlib.Omega.{arith}
use Rattle.meaning.specs.Book.{start as start_of, half_in}
use mathlib.Core.Path.{◌≡◌}
use Rattle.fields.proofs.default_symbol_from.Goals as goal

pub returns : goal.returns
unfolding half_in
returns c = let z : c.args.defaults + c.args.i * 6 ≡ start_of c.args.m.now 3 + c.args.i * 6 + 0 = omega (arith, c.requires.0) in (rw z at c.half.ensures.0, c.half.ensures.1)
