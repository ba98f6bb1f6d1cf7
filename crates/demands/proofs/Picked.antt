-- Closing is what document 01 says it is: a leaf is closed exactly where its rule is broken under every independent pick, since the sets
-- that closing reads hold exactly what picks give. Assumes nothing.
use Prim.Native.Nat.{ℕ, ◌≤◌}
use mathlib.Core.Path.{◌≡◌, refl}
use mathlib.Core.Bool.{Bool, true, false, ◌&&◌, not, and-eq-true_iff}
use mathlib.Core.Logic.{◌↔◌, ⊎_elim}
use mathlib.Core.List.{List, []}
use native.Mathlib.Omega.{arith}
use lib.Dec.{eqb}
use borrow.Author.Tests.{le-ltb}
use Rattle.std.proofs.lemmas.Bool.Decides.{nat_tests}
use Rattle.std.proofs.lemmas.Bool.{cases_lt}
use Rattle.meaning.specs.Base.{pick, half}
use Rattle.meaning.specs.Book.{symbols, type_of, selects, defaults, prompt_of, depend_of, default_value, default_condition, selector_of, target_of, condition_of, mandatory_of, choice_prompt, member_count, member_of, modules_of, modules_declared}
use Rattle.meaning.specs.Table.{a_three, read_of, content_of, value_of}
use Rattle.meaning.specs.Values.{lower_from, default_from}
use Rattle.meaning.specs.Rules.{broken11, broken12, broken13, broken15, broken17, broken18, exceeds, at_least}
use Rattle.meaning.specs.Sets.{has, only, full_sets, sat, least, most, node_sets, lower_set, default_set, prompt_set, depend_set}
use Rattle.meaning.specs.Clearance.{closed11, closed12, closed13, closed15, closed17, closed18, closed20, closed, closed_on}
use Rattle.meaning.specs.Picks.{Picks, In, Allowed, lower_picked, default_picked, broken_picked, Closed}
use Rattle.demands.specs.Paths.{Path, whole, split, NonEmpty, NonEmptySets}
use Rattle.demands.proofs.Lifts.{in_small, only_in, full_n, every_at, every_all, least_le, le_most, least_in, most_in, HasValue, has_value_lifts}
use Rattle.demands.proofs.Relate.{set_rel, node}
use Rattle.demands.proofs.Tabulated.{full_at, full_past}
use Rattle.demands.proofs.Exact.{Each, put, put_same, selectors, conditions, Lowered, lower_in, lower_from_lem, applied, values, Defaulted, default_in, default_from_lem}
use Rattle.demands.proofs.Counts.{at_least_mono}

pick_imp : (c : Bool) {a a' b b' : Bool} → (a ≡ true → b ≡ true) → (a' ≡ true → b' ≡ true) → pick c a a' ≡ true → pick c b b' ≡ true
pick_imp true f g h = f h
pick_imp false f g h = g h

and_imp : (c : Bool) {a b : Bool} → (a ≡ true → b ≡ true) → (c && a) ≡ true → (c && b) ≡ true
and_imp true f h = f h
and_imp false f h = h

-- 15 stays broken where more members are above n, 17 where fewer are
up15 : (p a b a' b' : ℕ) → a ≤ a' → b ≤ b' → broken15 p a b ≡ true → broken15 p a' b' ≡ true
up15 p a b a' b' la lb h = grind (arith, nat_tests)

down17 : (p o a a' : ℕ) → a' ≤ a → broken17 p o a ≡ true → broken17 p o a' ≡ true
down17 p o a a' la h = grind (arith, nat_tests)

module _ (m : List ℕ) (q : ℕ) (ys ss : List ℕ) (place : ℕ) where
  module _ (k : Picks) (al : Allowed m q ys ss place k) where
    low∈ : In (lower_set m ys ss place) (lower_picked m k place)
    unfolding lower_set lower_picked lower_from
    low∈ = lower_in m ys ss place (λ j. (k.selector j, al.selector j)) (λ j. (k.condition j, al.condition j)) (selects m)

    def∈ : In (default_set m ss place) (default_picked m k place)
    unfolding default_set default_picked default_from
    def∈ = default_in m ys ss place (λ d. (k.applies d, al.applies d)) (λ d. (k.value d, al.value d)) (defaults m)

    up : (n : ℕ) → at_least (λ j. least (sat ys (member_of m place j))) (member_count m place) n ≤ at_least k.member (member_count m place) n
    up = at_least_mono _ k.member (λ j. least_le _ _ (al.member j)) (member_count m place)

    down : (n : ℕ) → at_least k.member (member_count m place) n ≤ at_least (λ j. most (sat ys (member_of m place j))) (member_count m place) n
    down = at_least_mono k.member _ (λ j. le_most _ _ (al.member j)) (member_count m place)

    closed_picked : (rule : ℕ) → closed m q ys ss rule place ≡ true → broken_picked m q k rule place ≡ true
    unfolding closed closed11 closed12 closed13 closed15 closed17 closed18 closed20 prompt_set depend_set broken_picked
    closed_picked rule =
        pick_imp (eqb rule 11) (λ h. every_at _ _ _ (every_at _ _ _ h al.own) low∈)
        (pick_imp (eqb rule 12) (λ h. every_at _ _ _ (every_at _ _ _ (every_at _ _ _ h al.own) al.prompt) low∈)
        (pick_imp (eqb rule 13) (λ h. every_at _ _ _ (every_at _ _ _ (every_at _ _ _ (every_at _ _ _ h al.own) al.prompt) def∈) low∈)
        (pick_imp (eqb rule 15) (λ h. up15 k.choice _ _ _ _ (up 1) (up 2) (every_at _ _ _ h al.choice))
        (pick_imp (eqb rule 17) (λ h. down17 k.choice (mandatory_of m place) _ _ (down 1) (every_at _ _ _ h al.choice))
        (pick_imp (eqb rule 18) (and_imp (modules_declared m) (λ h. every_at _ _ _ (every_at _ _ _ h al.modules) al.own))
        (pick_imp (eqb rule 20) (λ h. every_at _ _ _ (every_at _ _ _ (every_at _ _ _ h (al.selector q)) (al.condition q)) al.depend) (λ h. h)))))))

  -- PICKS of some fields as given, and of the others as they come
  abbrev Pickable : Type 0
  Pickable = (k : Picks) × Allowed m q ys ss place k

  picks_of : NonEmpty (sat ys place) → Each (λ j. sat ys (member_of m place j)) → NonEmpty (sat ys (modules_of m)) → NonEmpty (sat ss (prompt_of m place))
      → NonEmpty (sat ss (choice_prompt m place)) → NonEmpty (sat ss (depend_of m (target_of m q))) → Each (selectors m ys ss place)
      → Each (conditions m ys ss place) → Each (applied m ys ss place) → Each (values m ys ss place)
      → Pickable
  picks_of own member modules prompt choice depend selector condition applies value = (
    record {
      own = own.0;
      member = λ j. (member j).0;
      modules = modules.0;
      prompt = prompt.0;
      choice = choice.0;
      depend = depend.0;
      selector = λ j. (selector j).0;
      condition = λ j. (condition j).0;
      value = λ d. (value d).0;
      applies = λ d. (applies d).0;
    },
    record {
      own = own.1;
      member = λ j. (member j).1;
      modules = modules.1;
      prompt = prompt.1;
      choice = choice.1;
      depend = depend.1;
      selector = λ j. (selector j).1;
      condition = λ j. (condition j).1;
      value = λ d. (value d).1;
      applies = λ d. (applies d).1;
    },
  )

  module _ (symbol : NonEmptySets ys) (node : NonEmptySets ss) where
    abbrev any_selector : Each (selectors m ys ss place)
    any_selector j = symbol (selector_of m j)

    abbrev any_condition : Each (conditions m ys ss place)
    any_condition j = node (condition_of m j)

    abbrev any_applies : Each (applied m ys ss place)
    any_applies d = node (default_condition m d)

    abbrev any_value : Each (values m ys ss place)
    any_value d = node (default_value m d)

    abbrev any_member : Each (λ j. sat ys (member_of m place j))
    any_member j = symbol (member_of m place j)

    -- at a symbol, at a choice, at the select
    at_symbol_lem : NonEmpty (sat ys place) → NonEmpty (sat ss (prompt_of m place)) → NonEmpty (sat ys (modules_of m)) → Each (selectors m ys ss place)
        → Each (conditions m ys ss place) → Each (applied m ys ss place) → Each (values m ys ss place) → Pickable
    at_symbol_lem own prompt modules = picks_of own any_member modules prompt (node (choice_prompt m place)) (node (depend_of m (target_of m q)))

    at_choice_lem : NonEmpty (sat ss (choice_prompt m place)) → Each (λ j. sat ys (member_of m place j)) → Pickable
    at_choice_lem choice member =
        picks_of (symbol place) member (symbol (modules_of m)) (node (prompt_of m place)) choice (node (depend_of m (target_of m q)))
        any_selector any_condition any_applies any_value

    at_select : Each (selectors m ys ss place) → Each (conditions m ys ss place) → NonEmpty (sat ss (depend_of m (target_of m q))) → Pickable
    at_select selector condition depend =
        picks_of (symbol place) any_member (symbol (modules_of m)) (node (prompt_of m place)) (node (choice_prompt m place)) depend selector condition
        any_applies any_value

    -- WHAT HOLDS UNDER EVERY PICK
    abbrev Under : (Picks → Bool) → Type 0
    Under broken = (k : Picks) → Allowed m q ys ss place k → broken k ≡ true

    pick_under : (c : Bool) {a a' : Bool} {b b' : Picks → Bool} → (Under b → a ≡ true) → (Under b' → a' ≡ true)
        → Under (λ k. pick c (b k) (b' k)) → pick c a a' ≡ true
    pick_under true f g h = f h
    pick_under false f g h = g h

    low_from : (l : ℕ) → In (lower_set m ys ss place) l → Lowered m ys ss place (selects m) l
    unfolding lower_set
    low_from = lower_from_lem m ys ss place any_selector any_condition (selects m)

    def_from : (d : ℕ) → In (default_set m ss place) d → Defaulted m ys ss place (defaults m) d
    unfolding default_set
    def_from d h = default_from_lem m ys ss place any_applies any_value (defaults m) d (omega arith) h

    under11 : Under (λ k. broken11 k.own (lower_picked m k place)) → closed11 m q ys ss place ≡ true
    unfolding closed11 lower_picked lower_from picks_of at_symbol_lem
    under11 h =
        every_all _ _ (λ v hv. every_all _ _ (λ l hl.
        let f = low_from l hl in
        let c = at_symbol_lem (v, hv) (node (prompt_of m place)) (symbol (modules_of m)) f.selector f.condition any_applies any_value in
        rw f.is at (h c.0 c.1)))

    under12 : Under (λ k. broken12 k.own k.prompt (lower_picked m k place)) → closed12 m q ys ss place ≡ true
    unfolding closed12 prompt_set lower_picked lower_from picks_of at_symbol_lem
    under12 h =
        every_all _ _ (λ v hv. every_all _ _ (λ p hp. every_all _ _ (λ l hl.
        let f = low_from l hl in
        let c = at_symbol_lem (v, hv) (p, hp) (symbol (modules_of m)) f.selector f.condition any_applies any_value in
        rw f.is at (h c.0 c.1))))

    under13 : Under (λ k. broken13 k.own k.prompt (default_picked m k place) (lower_picked m k place)) → closed13 m q ys ss place ≡ true
    unfolding closed13 prompt_set lower_picked lower_from default_picked default_from picks_of at_symbol_lem
    under13 h =
        every_all _ _ (λ v hv. every_all _ _ (λ p hp. every_all _ _ (λ d hd. every_all _ _ (λ l hl.
        let f = low_from l hl in
        let g = def_from d hd in
        let c = at_symbol_lem (v, hv) (p, hp) (symbol (modules_of m)) f.selector f.condition g.applies g.value in
        rw (f.is, g.is) at (h c.0 c.1)))))

    under15 : Under (λ k. broken15 k.choice (at_least k.member (member_count m place) 1) (at_least k.member (member_count m place) 2))
        → closed15 m q ys ss place ≡ true
    unfolding closed15 picks_of at_choice_lem
    under15 h =
        every_all _ _ (λ p hp.
        let c = at_choice_lem (p, hp) (λ j. (_, least_in _ (any_member j).0 (any_member j).1)) in
        h c.0 c.1)

    under17 : Under (λ k. broken17 k.choice (mandatory_of m place) (at_least k.member (member_count m place) 1)) → closed17 m q ys ss place ≡ true
    unfolding closed17 picks_of at_choice_lem
    under17 h =
        every_all _ _ (λ p hp.
        let c = at_choice_lem (p, hp) (λ j. (_, most_in _ (any_member j).0 (any_member j).1)) in
        h c.0 c.1)

    abbrev Under18 : Type 0
    Under18 = Under (λ k. modules_declared m && broken18 k.modules k.own)

    both18 : Under18 → (o v : ℕ) → In (sat ys (modules_of m)) o → In (sat ys place) v → (modules_declared m ≡ true) × (broken18 o v ≡ true)
    unfolding picks_of at_symbol_lem
    both18 h o v ho hv =
        let c = at_symbol_lem (v, hv) (node (prompt_of m place)) (o, ho) any_selector any_condition any_applies any_value in
        (and-eq-true_iff (modules_declared m) _).0 (h c.0 c.1)

    under18 : Under18 → closed18 m q ys ss place ≡ true
    unfolding closed18
    under18 h =
        rw (both18 h _ _ (symbol (modules_of m)).1 (symbol place).1).0
        (every_all _ _ (λ o ho. every_all _ _ (λ v hv. (both18 h o v ho hv).1)))

    under20 : Under (λ k. not (exceeds (k.selector q) (k.condition q) k.depend)) → closed20 m q ys ss ≡ true
    unfolding closed20 depend_set picks_of at_select
    under20 h =
        let from = selectors m ys ss place in
        let if = conditions m ys ss place in
        every_all _ _ (λ a ha. every_all _ _ (λ c hc. every_all _ _ (λ d hd.
        let k = at_select (put from any_selector q (a, ha)) (put if any_condition q (c, hc)) (d, hd) in
        rw (put_same from any_selector q (a, ha), put_same if any_condition q (c, hc)) at (h k.0 k.1))))

    under_closed : (rule : ℕ) → Under (λ k. broken_picked m q k rule place) → closed m q ys ss rule place ≡ true
    unfolding closed broken_picked
    under_closed rule =
        pick_under (eqb rule 11) under11
        (pick_under (eqb rule 12) under12
        (pick_under (eqb rule 13) under13
        (pick_under (eqb rule 15) under15
        (pick_under (eqb rule 17) under17
        (pick_under (eqb rule 18) under18
        (pick_under (eqb rule 20) under20 (λ h. let c = at_choice_lem (node (choice_prompt m place)) any_member in h c.0 c.1)))))))

-- THE SETS OF THE NODES have values where those of the symbols do
empty_table : (i : ℕ) → content_of [] i ≡ a_three (value_of [] i)
unfolding content_of value_of read_of half
empty_table i = rw (le-ltb i 0 (omega arith))

n_and_y : NonEmpty 5
unfolding has
n_and_y = (0, refl)

pub nodes_nonempty : (m ys : List ℕ) → NonEmptySets ys → NonEmptySets (node_sets m ys)
nodes_nonempty m ys symbol = node HasValue has_value_lifts m ys [] symbol (λ i _. empty_table i) (λ i _ _ _ _. n_and_y)

-- CLOSED
pub closed_iff : (m : List ℕ) (q : ℕ) (ys : List ℕ) (rule place : ℕ) → NonEmptySets ys
    → (closed_on m q ys rule place ≡ true) ↔ Closed m q ys rule place
unfolding closed_on
closed_iff m q ys rule place symbol = (
  λ h k al. closed_picked m q ys (node_sets m ys) place k al rule h,
  under_closed m q ys (node_sets m ys) place symbol (nodes_nonempty m ys symbol) rule,
)

-- ON EVERY PATH each symbol's set has a value
whole_nonempty : (m : List ℕ) → NonEmptySets (full_sets m)
unfolding has
whole_nonempty m i = (
  0,
  ⊎_elim (λ lt. rw (full_at m i lt) (full_n (type_of m i))) (λ le. rw (full_past m i le)) (cases_lt i (symbols m)),
)

pub path_nonempty : (m ys : List ℕ) → Path m ys → NonEmptySets ys
path_nonempty m ys whole = whole_nonempty m
path_nonempty m ys (split {ys = zs} s v p h) =
    set_rel HasValue zs (λ i. 0) (path_nonempty m zs p) s (only v) (v, only_in v (in_small (sat zs s) v h))

pub path_closed_iff : (m : List ℕ) (q : ℕ) (ys : List ℕ) (rule place : ℕ) → Path m ys
    → (closed_on m q ys rule place ≡ true) ↔ Closed m q ys rule place
path_closed_iff m q ys rule place p = closed_iff m q ys rule place (path_nonempty m ys p)
