-- The sets that a walk begins with, symbol by symbol. Assumes nothing.
use Prim.Native.Nat.{ℕ, ◌≤◌, ◌<◌}
use mathlib.Core.Path.{◌≡◌}
use mathlib.Core.List.{List}
use Rattle.meaning.specs.Book.{symbols, type_of}
use Rattle.meaning.specs.Sets.{sat, full, full_sets}
use Rattle.meaning.proofs.Folds.{tabulate_at, tabulate_past}

-- a symbol's set is all that its type allows; past the symbols it is {n}
pub full_at : (m : List ℕ) (i : ℕ) → i < symbols m → sat (full_sets m) i ≡ full (type_of m i)
unfolding full_sets
full_at m i lt = tabulate_at _ 1 (symbols m) i lt

pub full_past : (m : List ℕ) (i : ℕ) → symbols m ≤ i → sat (full_sets m) i ≡ 1
unfolding full_sets
full_past m i le = tabulate_past _ 1 (symbols m) i le
