-- `names::Links::find` meets its contract: from where the walk stands on, no name is this one, and each turn goes down by one at least.
use Rattle.std.proofs.Common.{◌≡◌, ℕ, ◌+◌, ◌<◌, ◌≤◌}
use Rattle.meaning.specs.Book.{spelled_name}
use Rattle.names.proofs.Laws.{Walk}
use Rattle.names.proofs.Links.find.Given as goal

abbrev pub invariant-loop-j : goal.invariant-loop-j
invariant-loop-j l = record {
  within : l.compared + l.c ≤ l.self.count;
  walk : Walk l.self.block.m.now l.self.block.base l.self.rooms.now.nexts l.name l.self.factor l.c;
  passed : (j : ℕ) → l.c ≤ j → j < l.self.count → l.name ≡ spelled_name l.self.block.m.now (l.self.block.base + j) → ⊥;
}

abbrev pub decreases-loop-j : goal.decreases-loop-j
decreases-loop-j l = l.c
