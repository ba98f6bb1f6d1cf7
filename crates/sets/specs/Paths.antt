-- What stays of a path while its nodes are worked out: the book, the symbols' sets and the room. Assumes nothing: these are definitions.
use Rattle.std.specs.Prelude.{ℕ, List, ◌≡◌}
use Rattle.meaning.specs.Sets.{sat, node_sets}
use Rattle.sets.specs.declared.Path.{Path}

-- the nodes' sets, and the set of node i
abbrev pub all_sets : Path → List ℕ
all_sets p = node_sets p.m.now p.ys.now

abbrev pub set_at : Path → ℕ → ℕ
set_at p i = sat (all_sets p) i

-- one path before and after: only bytes of the node work may differ
pub record Stays (before after : Path) : Type 0 where
  pub book : after.m.now ≡ before.m.now
  pub symbols : after.ys.now ≡ before.ys.now
  pub room : after.w.ghost_name ≡ before.w.ghost_name
