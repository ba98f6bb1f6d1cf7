-- `findings::fill_sets` meets its contract: one symbol more has its full set at each turn.
use Rattle.meaning.specs.Sets.{full}
use Rattle.meaning.specs.Book.{type_of}
use Rattle.meaning.proofs.Folds.{laid}
use lib.ListN.{length}
use Prim.Native.Nat.{◌≤◌, ◌-◌}
use mathlib.Core.Path.{◌≡◌}
use Rattle.findings.proofs.fill_sets.Given as goal

abbrev pub invariant-loop-s : goal.invariant-loop-s
invariant-loop-s l = (l.s ≤ l.s-end) × (length l.ys ≡ length l.initial.ys) × (l.ys ≡ laid (λ s. full (type_of l.m s)) l.initial.ys l.s)

abbrev pub decreases-loop-s : goal.decreases-loop-s
decreases-loop-s l = l.s-end - l.s
