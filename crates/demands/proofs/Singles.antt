-- Where each set is a table's value alone, a rule that the table breaks closes its leaf: there are no picks but the table's own. Assumes nothing.
use Prim.Native.Nat.{ℕ}
use mathlib.Core.Path.{◌≡◌, ◌∙◌}
use mathlib.Core.Bool.{true}
use mathlib.Core.List.{List}
use borrow.Author.Rules.{rules}
use Rattle.meaning.specs.Base.{count_below}
use Rattle.meaning.specs.Book.{prompt_of, depend_of, selector_of, target_of, condition_of, choice_prompt, member_count, modules_of}
use Rattle.meaning.specs.Table.{value_of}
use Rattle.meaning.specs.Values.{val, node_values, lower_from, default_from}
use Rattle.meaning.specs.Rules.{at_least}
use Rattle.meaning.specs.Sets.{sat, node_sets}
use Rattle.meaning.specs.Clearance.{closed_on}
use Rattle.meaning.specs.Picks.{Picks, Allowed, lower_picked, default_picked, broken_picked}
use Rattle.demands.proofs.Lifts.{Is}
use Rattle.demands.proofs.Own.{own, Broken}
use Rattle.demands.proofs.Picked.{closed_iff}

module _ (m : List ℕ) (q : ℕ) (ys t : List ℕ) (symbol : (i : ℕ) → Is (sat ys i) (value_of t i))
    (node : (i : ℕ) → Is (sat (node_sets m ys) i) (val (node_values m t) i)) (place : ℕ) where
  abbrev ss : List ℕ
  ss = node_sets m ys

  abbrev o : Picks
  o = own m q t place

  module _ (k : Picks) (al : Allowed m q ys ss place k) where
    low_same : lower_picked m k place ≡ lower_picked m o place
    unfolding lower_picked lower_from
    low_same = search rules

    def_same : default_picked m k place ≡ default_picked m o place
    unfolding default_picked default_from
    def_same = search rules

    some_same : (n : ℕ) → at_least k.member (member_count m place) n ≡ at_least o.member (member_count m place) n
    unfolding at_least count_below
    some_same n = search rules

    picked_own : (rule : ℕ) → broken_picked m q k rule place ≡ Broken m q t place rule
    unfolding broken_picked
    picked_own rule =
        rw (
          low_same,
          def_same,
          some_same 1,
          some_same 2,
          (symbol place).alone _ al.own,
          (symbol (modules_of m)).alone _ al.modules,
          (node (prompt_of m place)).alone _ al.prompt,
          (node (choice_prompt m place)).alone _ al.choice,
          (node (depend_of m (target_of m q))).alone _ al.depend,
          (symbol (selector_of m q)).alone _ (al.selector q),
          (node (condition_of m q)).alone _ (al.condition q),
        )

  pub own-closed : (rule : ℕ) → Broken m q t place rule ≡ true → closed_on m q ys rule place ≡ true
  own-closed rule h = (closed_iff m q ys rule place (λ i. (_, (symbol i).inside))).1 (λ k al. picked_own k al rule ∙ h)
