-- The value of each node in a table, Lower and Default. Assumes nothing: these are definitions.
use Rattle.std.specs.Prelude.{ℕ, suc, ◌+◌, ◌-◌, ◌*◌, Bool, List, [], eqb, leb, ltb, get_or}
use Rattle.tri.specs.Three.{tri_of, not_of, and_of, or_of}
use Rattle.meaning.specs.Base.{pick, fold, part, same_text, build}
use Rattle.meaning.specs.Book.{nodes, defaults, selects, op_of, left_of, right_of, prompt_of, depend_of, default_symbol, default_value, default_condition, selector_of, target_of, condition_of, text_start}
use Rattle.meaning.specs.Table.{Content, a_three, a_text, an_int, a_hex, signed_of, content_of, three_in, value_of}
use Rattle.meaning.specs.Spell.{spelled}

-- LEAVES. The 32 bits of a number: left has the low half, right the high
abbrev pub number_of : List ℕ → ℕ → ℕ
number_of m i = left_of m i + 65536 * right_of m i

-- what a leaf stands for: a constant, a symbol's entry in the table, a text, an int, a hex
unfoldable pub leaf_of : List ℕ → List ℕ → ℕ → Content
leaf_of m t i =
    let op = op_of m i in
    pick (eqb op 0) (a_three (tri_of (left_of m i)))
    (pick (eqb op 1) (content_of t (left_of m i))
    (pick (eqb op 2) (a_text (part m (text_start m + left_of m i) (right_of m i)))
    (pick (eqb op 3) (an_int (signed_of (number_of m i)))
    (pick (eqb op 4) (a_hex (number_of m i)) (a_three 0)))))

-- its value: n for a text, a number, and a symbol of another kind
abbrev pub leaf_value : List ℕ → List ℕ → ℕ → ℕ
leaf_value m t i = three_in (leaf_of m t i)

-- y or n
abbrev pub yes_no : Bool → ℕ
yes_no b = pick b 2 0

-- equality of two leaves compares how they are spelled
unfoldable pub equal_value : List ℕ → List ℕ → ℕ → ℕ → ℕ
equal_value m t i j = yes_no (same_text (spelled (leaf_of m t i)) (spelled (leaf_of m t j)))

-- NODES. A value among those worked out; n past their end
abbrev pub val : List ℕ → ℕ → ℕ
val vs i = get_or vs i 0

-- the value of node i from the values of those before it
unfoldable pub node_value : List ℕ → List ℕ → List ℕ → ℕ → ℕ
node_value m t vs i =
    let op = op_of m i in
    let l = val vs (left_of m i) in
    let r = val vs (right_of m i) in
    let same = equal_value m t (left_of m i) (right_of m i) in
    let unlike = not_of same in
    pick (leb op 4) (leaf_value m t i)
    (pick (eqb op 5) (not_of l)
    (pick (eqb op 6) (and_of l r)
    (pick (eqb op 7) (or_of l r)
    (pick (eqb op 8) same
    (pick (eqb op 9) unlike 0)))))

unfoldable pub node_values : List ℕ → List ℕ → List ℕ
node_values m t = build (node_value m t) (nodes m)

-- LOWER of s: the largest, over the selects on it, of what each gives; n if there is none
unfoldable pub lower_step : List ℕ → (ℕ → ℕ) → ℕ → ℕ → ℕ → ℕ
lower_step m gives s k low = pick (eqb (target_of m k) s) (or_of low (gives k)) low

unfoldable pub lower_from : List ℕ → (ℕ → ℕ) → ℕ → ℕ
lower_from m gives s = fold (lower_step m gives s) 0 (selects m)

-- a select gives the smaller of selector and condition
abbrev pub given : List ℕ → List ℕ → List ℕ → ℕ → ℕ
given m t vs k = and_of (value_of t (selector_of m k)) (val vs (condition_of m k))

unfoldable pub lower_of : List ℕ → List ℕ → List ℕ → ℕ → ℕ
lower_of m t vs s = lower_from m (given m t vs) s

-- DEFAULT of s: what the first default on it, in section order, has whose condition is above n. They are taken from the last to the
-- first, so that an earlier one covers a later one
module _ {A : Type 0} where
  unfoldable pub default_step : List ℕ → (ℕ → ℕ) → (ℕ → A) → ℕ → ℕ → A → A
  default_step m cond has s j later =
      let d = defaults m - suc j in
      pick (eqb (default_symbol m d) s) (pick (ltb 0 (cond d)) (has d) later) later

  unfoldable pub default_from : List ℕ → (ℕ → ℕ) → (ℕ → A) → A → ℕ → A
  default_from m cond has none s = fold (default_step m cond has s) none (defaults m)

abbrev pub condition_value : List ℕ → List ℕ → ℕ → ℕ
condition_value m vs d = val vs (default_condition m d)

-- of a boolean or tristate symbol the value, n if there is none
unfoldable pub default_of : List ℕ → List ℕ → ℕ → ℕ
default_of m vs s = default_from m (condition_value m vs) (λ d. val vs (default_value m d)) 0 s

-- of a string, int or hex symbol what the leaf stands for, the empty string if there is none
unfoldable pub default_content : List ℕ → List ℕ → List ℕ → ℕ → Content
default_content m t vs s = default_from m (condition_value m vs) (λ d. leaf_of m t (default_value m d)) (a_text []) s

-- the values of a symbol's prompt and of its dependency
abbrev pub prompt_value : List ℕ → List ℕ → ℕ → ℕ
prompt_value m vs s = val vs (prompt_of m s)

abbrev pub depend_value : List ℕ → List ℕ → ℕ → ℕ
depend_value m vs s = val vs (depend_of m s)

-- names every definition of this file: who says `unfolding open_values` has them all
unfoldable pub open_values : Unit {0}
unfolding leaf_of equal_value node_value node_values lower_step lower_from lower_of default_step default_from default_of default_content
open_values = tt
