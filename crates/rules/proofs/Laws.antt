-- The node values that the rules read are those in front of the node work, since there is one a node. Assumes nothing.
use mathlib.Core.Path.{◌≡◌}
use mathlib.Core.List.{List, ◌++◌}
use Prim.Native.Nat.{ℕ, ◌-◌}
use native.Mathlib.Omega.{arith}
use lib.ListN.{take, drop}
use lib.Seq.{take_at}
use Rattle.meaning.specs.Book.{nodes}
use Rattle.meaning.specs.Values.{node_value, node_values}
use Rattle.meaning.proofs.Folds.{build-length}

pub in_front : (m t w : List ℕ) → take (nodes m - 0) (node_values m t ++ drop (nodes m) w) ≡ node_values m t
unfolding node_values
in_front m t w =
    let all : nodes m - 0 ≡ nodes m = omega arith in
    rw all (take_at (node_values m t) (drop (nodes m) w) (nodes m) (build-length (node_value m t) (nodes m)))
