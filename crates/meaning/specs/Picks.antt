-- Closing a leaf, said literally: its rule is broken under every independent pick. `Clearance` says how that is worked out. Assumes nothing: these are definitions.
use Rattle.std.specs.Prelude.{ℕ, ◌≡◌, Bool, true, false, ◌&&◌, not, List, eqb}
use Rattle.tri.specs.Three.{and_of}
use Rattle.meaning.specs.Base.{pick}
use Rattle.meaning.specs.Book.{prompt_of, depend_of, default_value, default_condition, selector_of, target_of, condition_of, mandatory_of, choice_prompt, member_count, member_of, modules_of, modules_declared}
use Rattle.meaning.specs.Values.{lower_from, default_from}
use Rattle.meaning.specs.Rules.{broken11, broken12, broken13, broken15, broken17, broken18, exceeds, at_least}
use Rattle.meaning.specs.Sets.{has, sat, node_sets}

-- one pick for the place's own value, each member, the modules symbol, and each field of a symbol, choice, select or default record
pub record Picks : Type 0 where
  pub own : ℕ
  pub member : ℕ → ℕ
  pub modules : ℕ
  pub prompt : ℕ
  pub choice : ℕ
  pub depend : ℕ
  pub selector : ℕ → ℕ
  pub condition : ℕ → ℕ
  pub value : ℕ → ℕ
  pub applies : ℕ → ℕ

abbrev pub In : ℕ → ℕ → Type 0
In a v = has a v ≡ true

-- each from the set of the symbol or node that it reads, for a leaf at `place` in a finding about select q
pub record Allowed (m : List ℕ) (q : ℕ) (ys ss : List ℕ) (place : ℕ) (k : Picks) : Type 0 where
  pub own : In (sat ys place) k.own
  pub member : (j : ℕ) → In (sat ys (member_of m place j)) (k.member j)
  pub modules : In (sat ys (modules_of m)) k.modules
  pub prompt : In (sat ss (prompt_of m place)) k.prompt
  pub choice : In (sat ss (choice_prompt m place)) k.choice
  pub depend : In (sat ss (depend_of m (target_of m q))) k.depend
  pub selector : (j : ℕ) → In (sat ys (selector_of m j)) (k.selector j)
  pub condition : (j : ℕ) → In (sat ss (condition_of m j)) (k.condition j)
  pub value : (d : ℕ) → In (sat ss (default_value m d)) (k.value d)
  pub applies : (d : ℕ) → In (sat ss (default_condition m d)) (k.applies d)

-- Lower and Default under a pick of each field
unfoldable pub lower_picked : List ℕ → Picks → ℕ → ℕ
lower_picked m k s = lower_from m (λ j. and_of (k.selector j) (k.condition j)) s

unfoldable pub default_picked : List ℕ → Picks → ℕ → ℕ
default_picked m k s = default_from m k.applies k.value 0 s

-- the rule broken at its place, or for 20 the select not unmet, under the picks
unfoldable pub broken_picked : List ℕ → ℕ → Picks → ℕ → ℕ → Bool
broken_picked m q k rule place =
    let low = lower_picked m k place in
    let some = at_least k.member (member_count m place) 1 in
    let ys = at_least k.member (member_count m place) 2 in
    pick (eqb rule 11) (broken11 k.own low)
    (pick (eqb rule 12) (broken12 k.own k.prompt low)
    (pick (eqb rule 13) (broken13 k.own k.prompt (default_picked m k place) low)
    (pick (eqb rule 15) (broken15 k.choice some ys)
    (pick (eqb rule 17) (broken17 k.choice (mandatory_of m place) some)
    (pick (eqb rule 18) (modules_declared m && broken18 k.modules k.own)
    (pick (eqb rule 20) (not (exceeds (k.selector q) (k.condition q) k.depend)) false))))))

-- closed: under every independent pick
abbrev pub Closed : List ℕ → ℕ → List ℕ → ℕ → ℕ → Type 0
Closed m q ys rule place = (k : Picks) → Allowed m q ys (node_sets m ys) place k → broken_picked m q k rule place ≡ true
