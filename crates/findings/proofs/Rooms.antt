-- How many sets a walk begins with. Assumes nothing.
use mathlib.Core.Path.{◌≡◌}
use mathlib.Core.List.{List}
use Prim.Native.Nat.{ℕ}
use lib.ListN.{length}
use Rattle.meaning.specs.Book.{symbols}
use Rattle.meaning.specs.Sets.{full_sets}
use Rattle.meaning.proofs.Folds.{tabulate-length}

pub full-length : (m : List ℕ) → length (full_sets m) ≡ symbols m
unfolding full_sets
full-length m = tabulate-length _ (symbols m)
