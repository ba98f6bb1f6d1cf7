-- Sets of the three values, and what set each symbol, node, Lower and Default has on a path of a clearance. Assumes nothing: these are definitions.
use Rattle.std.specs.Prelude.{ℕ, suc, ◌+◌, ◌-◌, ◌/◌, ◌%◌, Bool, true, false, ◌&&◌, ◌||◌, not, List, [], eqb, leb, get_or}
use Rattle.tri.specs.Three.{tri_of, not_of, and_of, or_of}
use Rattle.meaning.specs.Base.{pick, fold, tabulate, same_text, all_below, build}
use Rattle.meaning.specs.Book.{symbols, nodes, defaults, selects, type_of, three_type, op_of, left_of, right_of, prompt_of, depend_of, default_symbol, default_value, default_condition, selector_of, target_of, condition_of}
use Rattle.meaning.specs.Spell.{spelled_three, spelled}
use Rattle.meaning.specs.Values.{leaf_of, yes_no}

-- A SET is a number below 8: 1 for n, 2 for m, 4 for y, added up
unfoldable pub has : ℕ → ℕ → Bool
has a v =
    pick (eqb v 0) (eqb (a % 2) 1)
    (pick (eqb v 1) (eqb (a / 2 % 2) 1)
    (pick (eqb v 2) (eqb (a / 4 % 2) 1) false))

unfoldable pub set_of : Bool → Bool → Bool → ℕ
set_of n m y = pick n 1 0 + pick m 2 0 + pick y 4 0

-- one value alone
unfoldable pub only : ℕ → ℕ
only v = pick (eqb v 0) 1 (pick (eqb v 1) 2 4)

-- all that a type allows: n and y, n m and y, or n where it is not three-valued
unfoldable pub full : ℕ → ℕ
full y = pick (eqb y 0) 5 (pick (eqb y 1) 7 1)

-- a with v added
unfoldable pub with_one : ℕ → ℕ → ℕ
with_one a v = set_of (has a 0 || eqb v 0) (has a 1 || eqb v 1) (has a 2 || eqb v 2)

-- the values of either
unfoldable pub join : ℕ → ℕ → ℕ
join a b = set_of (has a 0 || has b 0) (has a 1 || has b 1) (has a 2 || has b 2)

-- f of every pair of a value of a and a value of b: x with each of b's added to c, then that for each of a's
unfoldable pub row : (ℕ → ℕ → ℕ) → ℕ → ℕ → ℕ → ℕ → ℕ
row f x b = fold (λ y c. pick (has b y) (with_one c (f x y)) c)

unfoldable pub pairs : (ℕ → ℕ → ℕ) → ℕ → ℕ → ℕ
pairs f a b = fold (λ x c. pick (has a x) (row f x b c 3) c) 0 3

-- p holds under every pick of a value from a
unfoldable pub every : ℕ → (ℕ → Bool) → Bool
every a p = all_below (λ v. pick (has a v) (p v) true) 3

-- the smallest and the largest value
unfoldable pub least : ℕ → ℕ
least a = pick (has a 0) 0 (pick (has a 1) 1 2)

unfoldable pub most : ℕ → ℕ
most a = pick (has a 2) 2 (pick (has a 1) 1 0)

-- ON A PATH each symbol has a set: the value chosen, or all that its type allows; {n} past the end
abbrev pub sat : List ℕ → ℕ → ℕ
sat ss i = get_or ss i 1

unfoldable pub full_sets : List ℕ → List ℕ
full_sets m = tabulate (λ s. full (type_of m s)) (symbols m)

-- LEAVES: a constant's value, a symbol's set, {n} for a text or a number
unfoldable pub leaf_set : List ℕ → List ℕ → ℕ → ℕ
leaf_set m ys i = pick (eqb (op_of m i) 0) (only (tri_of (left_of m i))) (pick (eqb (op_of m i) 1) (sat ys (left_of m i)) 1)

-- a leaf that is a string, int or hex symbol
unfoldable pub is_free : List ℕ → ℕ → Bool
is_free m i = eqb (op_of m i) 1 && not (three_type m (left_of m i))

-- how a leaf is spelled where its value is v: a text or a number as it stands, which reads no table
unfoldable pub spelled_at : List ℕ → ℕ → ℕ → List ℕ
spelled_at m i v = pick (leb (op_of m i) 1) (spelled_three v) (spelled (leaf_of m [] i))

unfoldable pub equal_at : List ℕ → ℕ → ℕ → ℕ → ℕ → ℕ
equal_at m i j v w = yes_no (same_text (spelled_at m i v) (spelled_at m j w))

-- an equality with a string, int or hex symbol may be either
unfoldable pub equal_set : List ℕ → List ℕ → ℕ → ℕ → ℕ
equal_set m ys i j = pick (is_free m i || is_free m j) 5 (pairs (equal_at m i j) (leaf_set m ys i) (leaf_set m ys j))

-- NODES. Not, of each value
unfoldable pub not_set : ℕ → ℕ
not_set a = pairs (λ v w. not_of v) a 1

-- the set of node i from the sets ss of those before it
unfoldable pub node_set : List ℕ → List ℕ → List ℕ → ℕ → ℕ
node_set m ys ss i =
    let op = op_of m i in
    let l = sat ss (left_of m i) in
    let r = sat ss (right_of m i) in
    let opposite = not_set l in
    let both = pairs and_of l r in
    let either = pairs or_of l r in
    let same = equal_set m ys (left_of m i) (right_of m i) in
    let unlike = not_set same in
    pick (leb op 4) (leaf_set m ys i)
    (pick (eqb op 5) opposite
    (pick (eqb op 6) both
    (pick (eqb op 7) either
    (pick (eqb op 8) same
    (pick (eqb op 9) unlike 1)))))

unfoldable pub node_sets : List ℕ → List ℕ → List ℕ
node_sets m ys = build (node_set m ys) (nodes m)

-- LOWER'S SET, record by record, since each field is a pick of its own
unfoldable pub given_set : List ℕ → List ℕ → List ℕ → ℕ → ℕ
given_set m ys ss k = pairs and_of (sat ys (selector_of m k)) (sat ss (condition_of m k))

unfoldable pub lower_set_step : List ℕ → List ℕ → List ℕ → ℕ → ℕ → ℕ → ℕ
lower_set_step m ys ss s k low = pick (eqb (target_of m k) s) (pairs or_of low (given_set m ys ss k)) low

unfoldable pub lower_set : List ℕ → List ℕ → List ℕ → ℕ → ℕ
lower_set m ys ss s = fold (lower_set_step m ys ss s) 1 (selects m)

-- DEFAULT'S SET: a default's value where its condition may be above n, and what comes later where it may be n
unfoldable pub choose_set : ℕ → ℕ → ℕ → ℕ
choose_set cond value later = join (pick (has cond 1 || has cond 2) value 0) (pick (has cond 0) later 0)

unfoldable pub default_set_step : List ℕ → List ℕ → ℕ → ℕ → ℕ → ℕ
default_set_step m ss s j later =
    let d = defaults m - suc j in
    pick (eqb (default_symbol m d) s) (choose_set (sat ss (default_condition m d)) (sat ss (default_value m d)) later) later

unfoldable pub default_set : List ℕ → List ℕ → ℕ → ℕ
default_set m ss s = fold (default_set_step m ss s) 1 (defaults m)

-- a symbol's prompt and dependency
unfoldable pub prompt_set : List ℕ → List ℕ → ℕ → ℕ
prompt_set m ss s = sat ss (prompt_of m s)

unfoldable pub depend_set : List ℕ → List ℕ → ℕ → ℕ
depend_set m ss s = sat ss (depend_of m s)

-- names every definition of this file: who says `unfolding open_sets` has them all
unfoldable pub open_sets : Unit {0}
unfolding has set_of only full with_one join row pairs every least most full_sets leaf_set is_free spelled_at equal_at equal_set not_set node_set node_sets given_set lower_set_step lower_set choose_set default_set_step default_set prompt_set depend_set
open_sets = tt
