-- `symbol_rules::first_off` meets its contract: the symbol found so far is the first that breaks one of the ranges so far.
use borrow.Author.Rules.{of_calls}
use Rattle.std.proofs.Common.{rules, ◌≡◌, true, false}
use Rattle.meaning.specs.Base.{Clean}
use Rattle.meaning.specs.Rules.{test14}
use Rattle.symbol_rules.proofs.Laws.{off_found, off_stays, lies_below, lies_past, kept_before, kept_there}
use Rattle.symbol_rules.proofs.first_off.Goals as goal
use Rattle.symbol_rules.proofs.first_off.Goals.{then-earlier+then-is_err, else-earlier, else-earlier-via-then-earlier+else-is_err, else-earlier-via-else-earlier}

pub loop-r-preserved : goal.loop-r-preserved
loop-r-preserved c =
    let x = c.args.x.now in
    let s = c.range_symbol-s.result in
    let here = c.range_symbol-s.ensures in
    let told = c.is_none_or-earlier in
    elim c.if-earlier.branch [
      | then-earlier+then-is_err w ↦
          let below : told.result ≡ true = search rules in
          let no : test14 x.model.now x.table.now x.work.now s c.loop-r.r ≡ Clean → ⊥ = search rules in
          rw w.first-is (off_found x.model.now x.table.now x.work.now c.loop-r.r here.0 here.1 c.loop-r.first c.loop-r.invariant (lies_below c.loop-r.first told.ensures (λ off q. search (of_calls, q)) here.1 below) no)
      | else-earlier w ↦ rw w.first-is (off_stays x.model.now x.table.now x.work.now c.loop-r.r c.loop-r.first c.loop-r.invariant (elim w.else-earlier.branch [
        | else-earlier-via-then-earlier+else-is_err w' ↦
            let yes : test14 x.model.now x.table.now x.work.now s c.loop-r.r ≡ Clean = search rules in
            kept_there x.model.now x.table.now x.work.now c.loop-r.r here.0 _ yes
        | else-earlier-via-else-earlier w' ↦
            let past : told.result ≡ false = search rules in
            kept_before x.model.now x.table.now x.work.now c.loop-r.r here.0 _ (lies_past c.loop-r.first told.ensures (λ off q. search (of_calls, q)) past)
      ]))
    ]
