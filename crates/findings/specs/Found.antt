-- What the finding check owes its caller: the outcome, and every byte of both rooms. Assumes nothing: this is a definition.
use Rattle.std.specs.Prelude.{ℕ, ◌≡◌, List, length}
use Rattle.meaning.specs.Base.{Outcome}
use Rattle.meaning.specs.Findings.{finding_outcome, finding_node_work, finding_symbol_work}

-- of model m, finding f, node work w and symbol work z: outcome r, and both rooms afterwards
pub record Found (m f w z : List ℕ) (r : Outcome) (nodes symbols : List ℕ) : Type 0 where
  pub answers : r ≡ finding_outcome m f (length w) (length z)
  pub works : nodes ≡ finding_node_work m f w z
  pub marks : symbols ≡ finding_symbol_work m f w z
