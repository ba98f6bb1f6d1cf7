-- A table's own values are picks like any others, and under them a rule is broken exactly where the table check finds it so. Assumes nothing.
use Prim.Native.Nat.{ℕ}
use mathlib.Core.Path.{◌≡◌, refl}
use mathlib.Core.Bool.{Bool, not}
use mathlib.Core.List.{List}
use borrow.Author.Rules.{rules}
use Rattle.meaning.specs.Base.{Outcome, Fault, when, or_else}
use Rattle.meaning.specs.Book.{prompt_of, depend_of, default_value, default_condition, selector_of, target_of, condition_of, choice_prompt, member_of, modules_of}
use Rattle.meaning.specs.Table.{value_of}
use Rattle.meaning.specs.Values.{val, node_values, lower_of, default_of}
use Rattle.meaning.specs.Rules.{three_tests, three_fault, some_of, ys_of, test15, other_of, test17, test18, unmet_in, unmet}
use Rattle.meaning.specs.Sets.{sat, node_sets}
use Rattle.meaning.specs.Picks.{Picks, In, Allowed, lower_picked, default_picked, broken_picked}

module _ (m : List ℕ) (q : ℕ) (t : List ℕ) (place : ℕ) where
  abbrev vs : List ℕ
  vs = node_values m t

  abbrev pub own : Picks
  own =
      record {
        own = value_of t place;
        member = λ j. value_of t (member_of m place j);
        modules = value_of t (modules_of m);
        prompt = val vs (prompt_of m place);
        choice = val vs (choice_prompt m place);
        depend = val vs (depend_of m (target_of m q));
        selector = λ j. value_of t (selector_of m j);
        condition = λ j. val vs (condition_of m j);
        value = λ d. val vs (default_value m d);
        applies = λ d. val vs (default_condition m d);
      }

  pub own_allowed : (ys : List ℕ) → ((i : ℕ) → In (sat ys i) (value_of t i)) → ((i : ℕ) → In (sat (node_sets m ys) i) (val vs i))
      → Allowed m q ys (node_sets m ys) place own
  own_allowed ys symbol node = search rules

  -- rule broken at its place, or for 20 the select not unmet, in the table
  abbrev pub Broken : ℕ → Bool
  Broken rule = broken_picked m q own rule place

  abbrev test : ℕ → ℕ → Outcome
  test rule second = when (Broken rule) (Fault rule place second)

  pub own-three : three_fault m t vs place ≡ or_else (test 11 65535) (or_else (test 12 65535) (test 13 65535))
  unfolding three_fault three_tests broken_picked lower_picked lower_of default_picked default_of
  own-three = refl

  pub own15 : test15 m t vs place ≡ test 15 (member_of m place (other_of m t place))
  unfolding test15 some_of ys_of broken_picked
  own15 = refl

  pub own17 : test17 m t vs place ≡ test 17 65535
  unfolding test17 some_of broken_picked
  own17 = refl

  pub own18 : test18 m t place ≡ test 18 65535
  unfolding test18 broken_picked
  own18 = refl

  pub own20 : Broken 20 ≡ not (unmet m t q)
  unfolding unmet unmet_in broken_picked
  own20 = refl
