-- The rules in order, the verdict on a table, and the node work after it. Assumes nothing: these are definitions.
use Rattle.std.specs.Prelude.{ℕ, Bool, false, ◌&&◌, ◌||◌, not, List, ◌++◌, eqb, leb, ltb, ℤ, length, drop}
use Rattle.std.specs.Int.Signed.{le_z}
use Rattle.tri.specs.Three.{and_of, or_of}
use Rattle.meaning.specs.Base.{Outcome, Fault, pick, same_text, count_below, first_where, when, or_else, first_below, if_clean, open_base}
use Rattle.meaning.specs.Book.{symbols, nodes, ranges, choices, type_of, three_type, range_symbol, low_of, high_of, range_condition, choice_kind, mandatory_of, choice_prompt, member_count, member_of, modules_of, modules_declared, selector_of, target_of, condition_of, book_fault, open_book}
use Rattle.meaning.specs.Table.{Content, a_three, a_text, an_int, a_hex, content_of, value_of, table_fault, open_table}
use Rattle.meaning.specs.Spell.{open_spell}
use Rattle.meaning.specs.Values.{val, leaf_of, node_values, lower_of, default_of, default_content, prompt_value, depend_value, open_values}

-- WHAT BREAKS A RULE, over the values that it reads: a table's own, or one pick of each
-- 10: the kind that a type takes; no m on a boolean; int and hex may be the empty string
abbrev pub is_empty : List ℕ → Bool
is_empty l = eqb (length l) 0

abbrev pub type_fits : ℕ → Content → Bool
type_fits y (a_three v) = (eqb y 0 && not (eqb v 1)) || eqb y 1
type_fits y (a_text l) = eqb y 2 || ((eqb y 3 || eqb y 4) && is_empty l)
type_fits y (an_int z) = eqb y 3
type_fits y (a_hex h) = eqb y 4

-- 11: value v below Lower l
abbrev pub broken11 : ℕ → ℕ → Bool
broken11 v l = ltb v l

-- 12: prompt p above n and not below l, value above the prompt
abbrev pub broken12 : ℕ → ℕ → ℕ → Bool
broken12 v p l = ltb 0 p && leb l p && ltb p v

-- 13: prompt n, and the value is not the larger of Default d and Lower
abbrev pub broken13 : ℕ → ℕ → ℕ → ℕ → Bool
broken13 v p d l = eqb p 0 && not (eqb v (or_of d l))

-- 13 of a string, int or hex: kind and content compared
abbrev pub same_int : ℤ → ℤ → Bool
same_int a b = le_z a b && le_z b a

abbrev pub same_content : Content → Content → Bool
same_content (a_three v) (a_three w) = eqb v w
same_content (a_three v) (a_text k) = false
same_content (a_three v) (an_int b) = false
same_content (a_three v) (a_hex h) = false
same_content (a_text l) (a_three w) = false
same_content (a_text l) (a_text k) = same_text l k
same_content (a_text l) (an_int b) = false
same_content (a_text l) (a_hex h) = false
same_content (an_int a) (a_three w) = false
same_content (an_int a) (a_text k) = false
same_content (an_int a) (an_int b) = same_int a b
same_content (an_int a) (a_hex h) = false
same_content (a_hex g) (a_three w) = false
same_content (a_hex g) (a_text k) = false
same_content (a_hex g) (an_int b) = false
same_content (a_hex g) (a_hex h) = eqb g h

abbrev pub broken13_content : Content → ℕ → Content → Bool
broken13_content v p d = eqb p 0 && not (same_content v d)

-- 14: low to high, both ends in, ints signed and hexes not; what is empty lies in no range
abbrev pub int_is : (ℤ → Bool) → Content → Bool
int_is p (a_three v) = false
int_is p (a_text l) = false
int_is p (an_int z) = p z
int_is p (a_hex h) = false

abbrev pub hex_is : (ℕ → Bool) → Content → Bool
hex_is p (a_three v) = false
hex_is p (a_text l) = false
hex_is p (an_int z) = false
hex_is p (a_hex h) = p h

abbrev pub within : Content → Content → Content → Bool
within low high (a_three v) = false
within low high (a_text l) = false
within low high (an_int z) = int_is (λ a. le_z a z) low && int_is (λ b. le_z z b) high
within low high (a_hex h) = hex_is (λ a. leb a h) low && hex_is (λ b. leb h b) high

abbrev pub broken14 : Content → ℕ → Content → Content → Bool
broken14 v c low high = ltb 0 c && not (within low high v)

-- 15: choice prompt p above n, a member y, another above n; `some` members are above n, `ys` are y
abbrev pub broken15 : ℕ → ℕ → ℕ → Bool
broken15 p some ys = ltb 0 p && leb 2 some && leb 1 ys

-- 16: choice prompt above n, boolean, `ms` members m
abbrev pub broken16 : ℕ → ℕ → ℕ → Bool
broken16 p kind ms = ltb 0 p && eqb kind 0 && leb 1 ms

-- 17: choice prompt above n, mandatory, no member above n
abbrev pub broken17 : ℕ → ℕ → ℕ → Bool
broken17 p mandatory some = ltb 0 p && eqb mandatory 1 && eqb some 0

-- 18: the modules symbol o is n, the symbol m
abbrev pub broken18 : ℕ → ℕ → Bool
broken18 o v = eqb o 0 && eqb v 1

-- a select is unmet where the smaller of selector a and condition c exceeds the target's dependency d
abbrev pub exceeds : ℕ → ℕ → ℕ → Bool
exceeds a c d = ltb d (and_of a c)

-- how many of n members are at least k, by the value of each
unfoldable pub at_least : (ℕ → ℕ) → ℕ → ℕ → ℕ
at_least member n k = count_below (λ j. leb k (member j)) n

-- 11, 12 and 13 in turn, at symbol s
unfoldable pub three_tests : ℕ → ℕ → ℕ → ℕ → ℕ → Outcome
three_tests s v p d l =
    or_else (when (broken11 v l) (Fault 11 s 65535))
    (or_else (when (broken12 v p l) (Fault 12 s 65535)) (when (broken13 v p d l) (Fault 13 s 65535)))

-- THE RULES IN A TABLE t
module _ (m t : List ℕ) where
  unfoldable pub test10 : ℕ → Outcome
  test10 s = when (not (type_fits (type_of m s) (content_of t s))) (Fault 10 s 65535)

  -- the value of choice c's member j, and how many members are above n, y, or m
  abbrev pub member_value : ℕ → ℕ → ℕ
  member_value c j = value_of t (member_of m c j)

  unfoldable pub some_of : ℕ → ℕ
  some_of c = at_least (member_value c) (member_count m c) 1

  unfoldable pub ys_of : ℕ → ℕ
  ys_of c = at_least (member_value c) (member_count m c) 2

  unfoldable pub ms_of : ℕ → ℕ
  ms_of c = count_below (λ j. eqb (member_value c j) 1) (member_count m c)

  -- the first member that is y; the first above n other than it; the first that is m
  unfoldable pub first_yes : ℕ → ℕ
  first_yes c = first_where (λ j. eqb (member_value c j) 2) (member_count m c)

  unfoldable pub other_of : ℕ → ℕ
  other_of c =
      let y = first_yes c in
      first_where (λ j. ltb 0 (member_value c j) && not (eqb j y)) (member_count m c)

  unfoldable pub first_module : ℕ → ℕ
  first_module c = first_where (λ j. eqb (member_value c j) 1) (member_count m c)

  unfoldable pub test18 : ℕ → Outcome
  test18 s = when (modules_declared m && broken18 (value_of t (modules_of m)) (value_of t s)) (Fault 18 s 65535)

  -- whose node values are vs
  module _ (vs : List ℕ) where
    -- 11, 12 and 13 of a boolean or tristate symbol; 13 of another
    unfoldable pub three_fault : ℕ → Outcome
    three_fault s = three_tests s (value_of t s) (prompt_value m vs s) (default_of m vs s) (lower_of m t vs s)

    unfoldable pub other_fault : ℕ → Outcome
    other_fault s =
        when (broken13_content (content_of t s) (prompt_value m vs s) (default_content m t vs s)) (Fault 13 s 65535)

    -- 14 by range r, if it is on s
    unfoldable pub test14 : ℕ → ℕ → Outcome
    test14 s r =
        when
        (eqb (range_symbol m r) s && broken14 (content_of t s) (val vs (range_condition m r)) (leaf_of m t (low_of m r)) (leaf_of m t (high_of m r)))
        (Fault 14 s r)

    unfoldable pub symbol_fault : ℕ → Outcome
    symbol_fault s =
        let in_ranges = first_below (test14 s) (ranges m) in
        let three = three_fault s in
        let other = other_fault s in
        or_else (pick (three_type m s) three other) in_ranges

    abbrev pub choice_value : ℕ → ℕ
    choice_value c = val vs (choice_prompt m c)

    unfoldable pub test15 : ℕ → Outcome
    test15 c = when (broken15 (choice_value c) (some_of c) (ys_of c)) (Fault 15 c (member_of m c (other_of c)))

    unfoldable pub test16 : ℕ → Outcome
    test16 c = when (broken16 (choice_value c) (choice_kind m c) (ms_of c)) (Fault 16 c (member_of m c (first_module c)))

    unfoldable pub test17 : ℕ → Outcome
    test17 c = when (broken17 (choice_value c) (mandatory_of m c) (some_of c)) (Fault 17 c 65535)

    unfoldable pub choice_fault : ℕ → Outcome
    choice_fault c =
        let in17 = test17 c in
        let from16 = or_else (test16 c) in17 in
        or_else (test15 c) from16

    -- the first broken rule: 10 for all symbols; 11 to 14 symbol by symbol; 15 to 17 choice by choice; 18
    unfoldable pub rules_fault : Outcome
    rules_fault =
        let in18 = first_below test18 (symbols m) in
        let from_choices = or_else (first_below choice_fault (choices m)) in18 in
        let from_symbols = or_else (first_below symbol_fault (symbols m)) from_choices in
        or_else (first_below test10 (symbols m)) from_symbols

    -- select k: unmet in this table
    unfoldable pub unmet_in : ℕ → Bool
    unmet_in k = exceeds (value_of t (selector_of m k)) (val vs (condition_of m k)) (depend_value m vs (target_of m k))

-- WITH THE VALUES OF THE NODES
unfoldable pub rule_fault : List ℕ → List ℕ → Outcome
rule_fault m t = rules_fault m t (node_values m t)

unfoldable pub unmet : List ℕ → List ℕ → ℕ → Bool
unmet m t k = unmet_in m t (node_values m t) k

-- 7: node work shorter than one byte a node
unfoldable pub node_room_fault : List ℕ → ℕ → Outcome
node_room_fault m room = when (ltb room (nodes m)) (Fault 7 (nodes m) 65535)

-- AFTER THE BOOK. 5 to 7, for a node work of so many bytes
unfoldable pub refusal_in : List ℕ → List ℕ → ℕ → Outcome
refusal_in m t room = let in_room = node_room_fault m room in or_else (table_fault t (symbols m)) in_room

-- 5 to 7 and 10 to 18
unfoldable pub verdict_in : List ℕ → List ℕ → ℕ → Outcome
verdict_in m t room = let rules = rule_fault m t in or_else (refusal_in m t room) rules

-- the node work w afterwards: as it was where refused at 5 to 7, else each node's value, and the rest as it was
unfoldable pub node_work_in : List ℕ → List ℕ → List ℕ → List ℕ
node_work_in m t w = let filled = node_values m t ++ drop (nodes m) w in if_clean (refusal_in m t (length w)) filled w

-- THE TABLE CHECK: the book first. 1 to 7 and 10 to 18
unfoldable pub verdict : List ℕ → List ℕ → ℕ → Outcome
verdict m t room = let in_book = verdict_in m t room in or_else (book_fault m) in_book

-- the node work w afterwards: as it was where the book is refused
unfoldable pub node_work : List ℕ → List ℕ → List ℕ → List ℕ
node_work m t w = let in_book = node_work_in m t w in if_clean (book_fault m) in_book w

-- opens this file and those under it: who says `unfolding open_rules` can compute a verdict
unfoldable pub open_rules : Unit {0}
unfolding open_base open_book open_table open_spell open_values at_least three_tests test10 three_fault other_fault test14 symbol_fault some_of ys_of ms_of first_yes other_of first_module test15 test16 test17 choice_fault test18 rules_fault unmet_in rule_fault unmet node_room_fault refusal_in verdict_in node_work_in verdict node_work
open_rules = tt
