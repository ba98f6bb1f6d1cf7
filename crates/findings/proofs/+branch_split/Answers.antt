-- The walk meets its contract: a split's branches are walked in turn, each with one value in the symbol's place, and the last store puts back what was there.
use Rattle.findings.proofs.Walks.{stays, no_split, in_finding, all_branches, turns_none, turn-walked, turn_skipped, still_same, same_size, put_back}
use borrow.Author.Rules.{of_calls}
use borrow.Author.Tests.{ltb-true}
use lib.Dec.{ltb}
use native.Mathlib.Omega.{arith}
use mathlib.Core.Path.{refl, sym, ◌∙◌, ◌≡◌, ap}
use mathlib.Mathlib.Data.Bool.Basic.{and_elim_left, and_elim_right}
use Prim.Native.Nat.{◌-◌, ◌+◌}
use Rattle.std.proofs.Common.{rules, Ok, Err}
use lib.ListN.{length}
use Rattle.findings.proofs.+branch_split.Goals as goal
use Rattle.findings.proofs.+branch_split.Goals.{split-then-has, split-else-has}

pub branch-returns-in_err-at : goal.branch-returns-in_err-at
branch-returns-in_err-at t c =
    let stopped : c.args.from ≡ Err c.in_err-at.field-0.0 = grind (arith, of_calls, c.in_err-at.was) in
    let same : c.from_residual.result ≡ Err c.in_err-at.field-0.0 = search rules in
    (rw stopped (same ∙ stays c.args.m.now.now c.args.f.now.now c.args.ys.now c.args.left _), refl, refl)

pub branch-split-requires : goal.branch-split-requires
branch-split-requires t c = (omega arith, (ltb-true 0 c.args.left (and_elim_left (ltb 0 c.args.left) c.splits.result c.if-left-splits.true), sym c.splits.ensures ∙ and_elim_right (ltb 0 c.args.left) c.splits.result c.if-left-splits.true, c.requires.0, c.requires.1))

pub branch-returns-then-left-splits : goal.branch-returns-then-left-splits
branch-returns-then-left-splits t c =
    let going : c.args.from ≡ Ok c.in_ok-at.at = grind (arith, of_calls, c.in_ok-at.was) in
    (rw going c.split.ensures.0, c.split.ensures.1, c.split.ensures.2)

pub branch-returns : goal.branch-returns
branch-returns t c =
    let going : c.args.from ≡ Ok c.in_ok-at.at = grind (arith, of_calls, c.in_ok-at.was) in
    (rw going (c.leaf.ensures.0 ∙ no_split c.args.m.now.now c.args.f.now.now c.args.ys.now c.args.left _ c.splits.ensures c.if-left-splits.false), c.leaf.ensures.1, c.leaf.ensures.2)

pub split-overflow_add-reached : goal.split-overflow_add-reached
split-overflow_add-reached t c = omega (arith, (in_finding c.args.m.now.now c.args.f.now.now c.args.ys.now c.args.at c.requires.1), c.requires.2)

pub split-loop-v-init : goal.split-loop-v-init
split-loop-v-init t c = (omega arith, refl, refl, turns_none c.args.m.now.now c.args.f.now.now c.args.ys.now (c.args.left - 1) c.half-s.result c.at-all.result.bits (c.args.at + 3), λ z. refl, refl)

pub split-branch-reached-requires : goal.split-branch-reached-requires
split-branch-reached-requires t c = (omega arith, (c.requires.2, c.loop-v.invariant.5 ∙ c.requires.3))

pub split-loop-v-preserved : goal.split-loop-v-preserved
split-loop-v-preserved t c = elim c.if-has.branch [
  | split-then-has w ↦ (omega arith, same_size c.loop-v.ys c.half-s.result w.only.result.bits w.put.ensures (w.ys-is ∙ w.branch-reached.ensures.1) c.loop-v.invariant.1, ap length (w.w-is ∙ w.branch-reached.ensures.2 ∙ c.loop-v.invariant.5), rw w.reached-is (turn-walked c.args.m.now.now c.args.f.now.now c.args.ys.now (c.args.left - 1) c.half-s.result c.at-all.result.bits (Ok (c.args.at + 3)) c.loop-v.v c.loop-v.reached w.branch-reached.result c.loop-v.invariant.3 c.has.ensures c.loop-v.ys w.if-has.true w.only.ensures c.loop-v.invariant.4 w.put.ensures w.branch-reached.ensures.0), still_same c.args.ys.now c.loop-v.ys c.half-s.result w.only.result.bits c.loop-v.invariant.4 w.put.ensures (w.ys-is ∙ w.branch-reached.ensures.1), w.w-is ∙ w.branch-reached.ensures.2 ∙ c.loop-v.invariant.5)
  | split-else-has w ↦ (omega arith, ap length w.ys-is ∙ c.loop-v.invariant.1, ap length w.w-is ∙ c.loop-v.invariant.2, turn_skipped c.args.m.now.now c.args.f.now.now c.args.ys.now (c.args.left - 1) c.half-s.result c.at-all.result.bits (Ok (c.args.at + 3)) c.loop-v.v c.loop-v.reached c.if-has.reached c.loop-v.invariant.3 c.has.ensures w.if-has.false w.reached-is, λ z. rw w.ys-is (c.loop-v.invariant.4 z), w.w-is ∙ c.loop-v.invariant.5)
]

pub split-returns : goal.split-returns
split-returns t c = let e : c.loop-v.v ≡ 3 = omega arith in ((rw e at c.loop-v.invariant.3) ∙ all_branches c.args.m.now.now c.args.f.now.now c.args.ys.now c.args.at c.requires.1 c.args.left c.requires.0 (rw c.from.ensures at c.half-s.ensures.0) c.at-all.ensures, put_back c.args.ys.now c.loop-v.ys c.half-s.result c.loop-v.invariant.4 c.at-all.ensures c.put-2.ensures, c.loop-v.invariant.5)
