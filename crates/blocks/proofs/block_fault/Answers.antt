-- `blocks::block_fault` meets its contract: each pass has what the records so far come to, and the symbols are then tested in order by what the passes found.
use Rattle.std.proofs.Common.{rules, ◌≡◌, ◌+◌, ◌-◌, ℕ, arith}
use mathlib.Core.Path.{◌∙◌, refl}
use Prim.Native.Nat.{suc}
use lib.ListN.{length-set}
use Rattle.tri.specs.Three.{or_of}
use Rattle.meaning.specs.Values.{given, condition_value, lower_step, default_step}
use Rattle.meaning.proofs.First.{clean_more, place_fault}
use Rattle.blocks.proofs.Laws.{rows_none, rows_more, rows_same, lower_step_lem, first_step, lower_at, first_at}
use Rattle.blocks.proofs.block_fault.Goals as goal
use Rattle.blocks.proofs.block_fault.Goals.{in-Some, in_default}

pub loop-k-init : goal.loop-k-init
loop-k-init c = let x = c.args.x.now in (refl, rows_none (lower_step x.model.now (given x.model.now x.table.now x.work.now)) c.args.base)

pub loop-k-preserved : goal.loop-k-preserved
loop-k-preserved c =
    let x = c.args.x.now in
    let gives : ℕ → ℕ = given x.model.now x.table.now x.work.now in
    let loop = c.loop-k in
    let step = lower_step_lem x.model.now gives loop.k c.target_from.ensures.0 in
    elim c.match-place.branch [
      | in-Some w ↦
          let stands = rw w.in-Some.is at c.place.ensures in
          rw w.low-is (simp length-set loop.invariant.0, rows_more (lower_step x.model.now gives) c.args.base loop.low loop.k (λ y. or_of y (gives loop.k)) c.target_from.result step loop.invariant.1 stands.0.0 stands.1 w.raised.ensures loop.invariant.0)
      | in_default w ↦
          rw w.low-is (loop.invariant.0, rows_same (lower_step x.model.now gives) c.args.base loop.low loop.k (λ y. or_of y (gives loop.k)) c.target_from.result step loop.invariant.1 (rw w.in_default.is at c.place.ensures))
    ]

pub loop-d-init : goal.loop-d-init
loop-d-init c =
    let x = c.args.x.now in
    let none : c.defaults-defaults.result - c.defaults-defaults.result ≡ 0 = omega arith in
    (refl, rw none (rows_none (default_step x.model.now (condition_value x.model.now x.work.now) suc) c.args.base))

pub loop-d-preserved-in-Some-place : goal.loop-d-preserved-in-Some-place
loop-d-preserved-in-Some-place c =
    let x = c.args.x.now in
    let loop = c.loop-d in
    let n = c.defaults-defaults.result in
    let cond : ℕ → ℕ = condition_value x.model.now x.work.now in
    let stands = rw c.in-Some-place.is at c.place-in-loop-d.ensures in
    let turn : n - (loop.d - 1) ≡ n - loop.d + 1 = omega arith in
    (simp length-set loop.invariant.0, rw turn (rows_more (default_step x.model.now cond suc) c.args.base loop.first (n - loop.d) _ c.default_symbol_from.result (first_step x.model.now x.work.now (n - loop.d) c.defaults-defaults.ensures.0 (omega arith) c.default_symbol_from.ensures.0) loop.invariant.1 stands.0.0 stands.1 c.covered.ensures loop.invariant.0))

pub loop-d-preserved : goal.loop-d-preserved
loop-d-preserved c =
    let x = c.args.x.now in
    let loop = c.loop-d in
    let n = c.defaults-defaults.result in
    let cond : ℕ → ℕ = condition_value x.model.now x.work.now in
    let turn : n - (loop.d - 1) ≡ n - loop.d + 1 = omega arith in
    (loop.invariant.0, rw turn (rows_same (default_step x.model.now cond suc) c.args.base loop.first (n - loop.d) _ c.default_symbol_from.result (first_step x.model.now x.work.now (n - loop.d) c.defaults-defaults.ensures.0 (omega arith) c.default_symbol_from.ensures.0) loop.invariant.1 (rw c.in_default-place.is at c.place-in-loop-d.ensures)))

pub own_fault-requires : goal.own_fault-requires
own_fault-requires c =
    let x = c.args.x.now in
    let selects : c.loop-k.k ≡ c.selects-selects.result = omega arith in
    let defaults : c.defaults-defaults.result - c.loop-d.d ≡ c.defaults-defaults.result = omega arith in
    (omega arith, lower_at x.model.now c.args.base c.loop-k.low c.loop-s.s (omega arith) (omega arith) (omega arith) x.table.now x.work.now (rw (selects, c.selects-selects.ensures.0) at c.loop-k.invariant.1), first_at x.model.now c.args.base c.loop-d.first c.loop-s.s (omega arith) (omega arith) (omega arith) x.work.now (rw (defaults, c.defaults-defaults.ensures.0) at c.loop-d.invariant.1))

pub returns-in_err-own_fault : goal.returns-in_err-own_fault
returns-in_err-own_fault c =
    let same : c.from_residual.result ≡ c.own_fault.result = search rules in
    same ∙ place_fault _ _ _ c.loop-s.invariant c.own_fault.ensures c.in_err-own_fault.was (omega arith)

pub loop-s-preserved : goal.loop-s-preserved
loop-s-preserved c = clean_more _ _ c.loop-s.invariant c.own_fault.ensures c.in_ok-own_fault.was
