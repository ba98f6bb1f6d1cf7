-- What the table check owes its caller, and its part after the book: the outcome, and every byte of the node work. Assumes nothing: these are definitions.
use Rattle.std.specs.Prelude.{ℕ, ◌≡◌, List, length}
use Rattle.meaning.specs.Base.{Outcome}
use Rattle.meaning.specs.Rules.{verdict_in, node_work_in, verdict, node_work}

-- of model m, table t and node work w: outcome r, and the node work afterwards
pub record Checked (m t w : List ℕ) (r : Outcome) (after : List ℕ) : Type 0 where
  pub answers : r ≡ verdict m t (length w)
  pub works : after ≡ node_work m t w

-- the same after the book
pub record CheckedIn (m t w : List ℕ) (r : Outcome) (after : List ℕ) : Type 0 where
  pub answers : r ≡ verdict_in m t (length w)
  pub works : after ≡ node_work_in m t w
