-- Each branch is one split less, and a split's branches come before the split itself.
use Rattle.std.proofs.Common.{◌≡◌, ℕ, ◌+◌, ◌-◌, ◌≤◌, length, set}
use Rattle.std.specs.Prelude.{Ok}
use Rattle.findings.specs.Walks.{branches}
use Rattle.findings.proofs.+branch_split.Given as goal

abbrev pub decreases-branch : goal.decreases-branch
decreases-branch l = l.left + l.left + 1

abbrev pub decreases-split : goal.decreases-split
decreases-split l = l.left + l.left

abbrev pub invariant-split-loop-v : goal.invariant-split-loop-v
invariant-split-loop-v l = (l.v ≤ 3) × (length l.ys ≡ length l.initial.ys) × (length l.w ≡ length l.initial.w) × (l.reached ≡ branches l.m.now l.f.now (l.left - 1) l.initial.ys l.s l.all.bits (Ok (l.at + 3)) l.v) × ((z : ℕ) → set l.ys l.s z ≡ set l.initial.ys l.s z) × (l.w ≡ l.initial.w)
