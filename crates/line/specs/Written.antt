-- What a text written behind another leaves in lent bytes, and what the program's line owes its caller. Assumes nothing: these are definitions.
use Rattle.std.specs.Prelude.{ℕ, ◌+◌, ◌≤◌, ◌≡◌, List, ◌++◌, length, take, drop}
use Rattle.meaning.specs.Rules.{node_work}
use Rattle.meaning.specs.Program.{model_part, table_part, line_of}
use Rattle.line.specs.declared.Text.{Text}

-- the text stands in o from `at` up to r, and every other byte stays
pub record Written (o : List ℕ) (at : ℕ) (text : List ℕ) (r : ℕ) (after : List ℕ) : Type 0 where
  pub ends : r ≡ at + length text
  pub holds : after ≡ take at o ++ text ++ drop r o
  pub long : length after ≡ length o

-- what was written stands behind what stood there, in the same lent bytes
pub record Pushed (text : List ℕ) (before after : Text) : Type 0 where
  pub written : Written before.room.now before.len text after.len after.room.now
  pub lent : after.room.ghost_name ≡ before.room.ghost_name

-- of an input, a node work w and a room o: the line's length r, the node work and the room afterwards
pub record Lined (input w o : List ℕ) (r : ℕ) (work room : List ℕ) : Type 0 where
  pub ends : r ≡ length (line_of input)
  pub holds : room ≡ line_of input ++ drop r o
  pub fits : r ≤ length o
  pub works : work ≡ node_work (model_part input) (table_part input) w
