-- A finding's body: where a witness or a clearance is judged, each from the parts that its code works out. Assumes nothing.
use mathlib.Core.Path.{◌≡◌, ◌∙◌, ap}
use mathlib.Core.Bool.{Bool, not}
use mathlib.Core.List.{List, ◌++◌, append-nil}
use Prim.Native.Nat.{ℕ, ◌-◌}
use native.Mathlib.Omega.{arith}
use lib.ListN.{length, get_or, take, drop, drop_of_length-le}
use borrow.Author.Tests.{eq-eqb, ne_eqb}
use Rattle.meaning.specs.Base.{Outcome}
use Rattle.meaning.specs.Base.{Clean, Fault}
use Rattle.std.specs.Prelude.{Ok, Err}
use Rattle.meaning.specs.declared.Answer.{Answer}
use Rattle.meaning.specs.Clearance.{Walked}
use Rattle.meaning.specs.Base.{half, when}
use Rattle.meaning.specs.Book.{symbols, nodes}
use Rattle.meaning.specs.Table.{table_fault}
use Rattle.meaning.specs.Values.{node_value, node_values}
use Rattle.meaning.specs.Rules.{rules_fault, rule_fault, unmet_in, unmet}
use Rattle.meaning.specs.Sets.{full_sets}
use Rattle.meaning.specs.Findings.{select_of, finding_kind, witness_table, witness_fault, walk_fault, clearance_fault, body_fault}
use Rattle.meaning.proofs.First.{first_fault, first_clean}
use Rattle.meaning.proofs.Folds.{build-length}
use Rattle.raw.proofs.Laws.{rest_all}
use Rattle.findings.specs.Walks.{walked}

-- A WITNESS
pub values_there : (m t w : List ℕ) {d : List ℕ} → length w ≡ nodes m → d ≡ node_values m t ++ drop (nodes m) w → d ≡ node_values m t
values_there m t w el e = rw (drop_of_length-le w {i = nodes m} (omega (arith, el)), append-nil) at e

pub values_many : (m t : List ℕ) {d : List ℕ} → d ≡ node_values m t → length d ≡ nodes m
unfolding node_values
values_many m t e = rw e (build-length (node_value m t) (nodes m))

module _ (m f : List ℕ) {t : List ℕ} {k : ℕ} {a : Outcome} (et : t ≡ witness_table f) (ek : k ≡ symbols m) (ea : a ≡ table_fault t k) where
  pub witness_unreadable : {x : Answer} → a ≡ Err x → a ≡ witness_fault m f
  unfolding witness_fault
  witness_unreadable h = first_fault _ (rw (et, ek) at ea) h

  module _ (ca : a ≡ Clean) {vs : List ℕ} {b : Outcome} (ev : vs ≡ node_values m t) (eb : b ≡ rules_fault m t vs) where
    by_rules : b ≡ rule_fault m (witness_table f)
    unfolding rule_fault
    by_rules = rw (ev, et) at eb

    pub witness_broken : {x : Answer} → b ≡ Err x → b ≡ witness_fault m f
    unfolding witness_fault
    witness_broken h = first_clean (rw (et, ek) at ea) ca (first_fault _ by_rules h)

    pub witness_judged : {u : Bool} {q : ℕ} {r : Outcome} → b ≡ Clean → q ≡ half f 0 → u ≡ unmet_in m t vs q
        → r ≡ when (not u) (Fault 24 q 65535) → r ≡ witness_fault m f
    unfolding witness_fault unmet select_of
    witness_judged cb eq eu er =
        first_clean (rw (et, ek) at ea) ca (first_clean by_rules cb (rw (eu, ev, et, eq) at er))

-- A CLEARANCE
pub clearance_judged : (m f : List ℕ) {ys : List ℕ} (end : Walked) {r : Outcome} → ys ≡ full_sets m → end ≡ walked m f 64 (Ok 4) ys
    → r ≡ walk_fault f end → r ≡ clearance_fault m f
unfolding clearance_fault
clearance_judged m f end ey ee er = er ∙ ap (walk_fault f) (rw ey at ee)

-- BY KIND
module _ (m f : List ℕ) {k : ℕ} {r : Outcome} (ek : k ≡ get_or f 2 0) where
  pub judged_witness : k ≡ 0 → r ≡ witness_fault m f → r ≡ body_fault m f
  unfolding body_fault finding_kind
  judged_witness z e = rw (← ek, eq-eqb k 0 z) e

  pub judged_clearance : (k ≡ 0 → ⊥) → r ≡ clearance_fault m f → r ≡ body_fault m f
  unfolding body_fault finding_kind
  judged_clearance z e = rw (← ek, ne_eqb k 0 z) e

-- the part behind the head
pub table_is : (f : List ℕ) → take (length f - 4) (drop 4 f) ≡ witness_table f
unfolding witness_table
table_is f = rest_all f 4
