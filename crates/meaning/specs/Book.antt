-- The model book: its contents, its records, and its first fault, answers 1 to 4. Assumes nothing: these are definitions.
use Rattle.std.specs.Prelude.{ℕ, zero, suc, ◌+◌, ◌-◌, ◌*◌, ◌<◌, ◌≤◌, ◌≡◌, ◌⊎◌, Bool, true, false, ◌&&◌, ◌||◌, not, List, [], ◌∷◌, eqb, leb, ltb, length, get_or}
use Rattle.meaning.specs.Base.{Outcome, Fault, pick, half, part, same_text, all_below, when, or_else, first_below, if_clean}

-- CONTENTS
abbrev pub total : List ℕ → ℕ
total m = half m 0

-- where section k, from 1 on, says it starts, and how many records it says it has
unfoldable pub start : List ℕ → ℕ → ℕ
start m k = half m (4 * k)

unfoldable pub count : List ℕ → ℕ → ℕ
count m k = half m (4 * k + 2)

-- how many bytes a record of section k takes
abbrev pub width : ℕ → ℕ
width k = get_or (0 ∷ 8 ∷ 6 ∷ 6 ∷ 6 ∷ 8 ∷ 8 ∷ 2 ∷ 1 ∷ []) k 0

unfoldable pub end_of : List ℕ → ℕ → ℕ
end_of m k = start m k + count m k * width k

-- where section k must start: the first at 36, each next where the former ends
unfoldable pub due : List ℕ → ℕ → ℕ
due m k = pick (eqb k 1) 36 (end_of m (k - 1))

abbrev pub symbols : List ℕ → ℕ
symbols m = count m 1

abbrev pub nodes : List ℕ → ℕ
nodes m = count m 2

abbrev pub defaults : List ℕ → ℕ
defaults m = count m 3

abbrev pub selects : List ℕ → ℕ
selects m = count m 4

abbrev pub ranges : List ℕ → ℕ
ranges m = count m 5

abbrev pub choices : List ℕ → ℕ
choices m = count m 6

abbrev pub members : List ℕ → ℕ
members m = count m 7

abbrev pub texts : List ℕ → ℕ
texts m = count m 8

-- RECORDS. The field at byte f of record i of section k: one byte, or a u16
unfoldable pub byte_in : List ℕ → ℕ → ℕ → ℕ → ℕ
byte_in m k i f = get_or m (start m k + i * width k + f) 0

unfoldable pub half_in : List ℕ → ℕ → ℕ → ℕ → ℕ
half_in m k i f = half m (start m k + i * width k + f)

-- symbols: type (0 boolean, 1 tristate, 2 string, 3 int, 4 hex), name, prompt node, dependency node
abbrev pub type_of : List ℕ → ℕ → ℕ
type_of m s = byte_in m 1 s 0

abbrev pub name_length : List ℕ → ℕ → ℕ
name_length m s = byte_in m 1 s 1

abbrev pub name_offset : List ℕ → ℕ → ℕ
name_offset m s = half_in m 1 s 2

abbrev pub prompt_of : List ℕ → ℕ → ℕ
prompt_of m s = half_in m 1 s 4

abbrev pub depend_of : List ℕ → ℕ → ℕ
depend_of m s = half_in m 1 s 6

-- nodes: op, a zero, left, right
abbrev pub op_of : List ℕ → ℕ → ℕ
op_of m i = byte_in m 2 i 0

abbrev pub zero_of : List ℕ → ℕ → ℕ
zero_of m i = byte_in m 2 i 1

abbrev pub left_of : List ℕ → ℕ → ℕ
left_of m i = half_in m 2 i 2

abbrev pub right_of : List ℕ → ℕ → ℕ
right_of m i = half_in m 2 i 4

-- defaults: symbol, value node, condition node
abbrev pub default_symbol : List ℕ → ℕ → ℕ
default_symbol m d = half_in m 3 d 0

abbrev pub default_value : List ℕ → ℕ → ℕ
default_value m d = half_in m 3 d 2

abbrev pub default_condition : List ℕ → ℕ → ℕ
default_condition m d = half_in m 3 d 4

-- selects: selector, target, condition node
abbrev pub selector_of : List ℕ → ℕ → ℕ
selector_of m k = half_in m 4 k 0

abbrev pub target_of : List ℕ → ℕ → ℕ
target_of m k = half_in m 4 k 2

abbrev pub condition_of : List ℕ → ℕ → ℕ
condition_of m k = half_in m 4 k 4

-- ranges: symbol, low node, high node, condition node
abbrev pub range_symbol : List ℕ → ℕ → ℕ
range_symbol m r = half_in m 5 r 0

abbrev pub low_of : List ℕ → ℕ → ℕ
low_of m r = half_in m 5 r 2

abbrev pub high_of : List ℕ → ℕ → ℕ
high_of m r = half_in m 5 r 4

abbrev pub range_condition : List ℕ → ℕ → ℕ
range_condition m r = half_in m 5 r 6

-- choices: kind (0 boolean, 1 tristate), mandatory, prompt node, first member, member count
abbrev pub choice_kind : List ℕ → ℕ → ℕ
choice_kind m c = byte_in m 6 c 0

abbrev pub mandatory_of : List ℕ → ℕ → ℕ
mandatory_of m c = byte_in m 6 c 1

abbrev pub choice_prompt : List ℕ → ℕ → ℕ
choice_prompt m c = half_in m 6 c 2

abbrev pub first_member : List ℕ → ℕ → ℕ
first_member m c = half_in m 6 c 4

abbrev pub member_count : List ℕ → ℕ → ℕ
member_count m c = half_in m 6 c 6

-- members: the symbol of record i; the symbol that is choice c's member j
abbrev pub member_symbol : List ℕ → ℕ → ℕ
member_symbol m i = half_in m 7 i 0

abbrev pub member_of : List ℕ → ℕ → ℕ → ℕ
member_of m c j = member_symbol m (first_member m c + j)

-- where texts stand, and the part of the book that spells a symbol's name
abbrev pub text_start : List ℕ → ℕ
text_start m = start m 8

abbrev pub name_start : List ℕ → ℕ → ℕ
name_start m s = text_start m + name_offset m s

abbrev pub spelled_name : List ℕ → ℕ → List ℕ
spelled_name m s = part m (name_start m s) (name_length m s)

-- the modules symbol, 65535 for none
abbrev pub modules_of : List ℕ → ℕ
modules_of m = half m 2

abbrev pub modules_declared : List ℕ → Bool
modules_declared m = not (eqb (modules_of m) 65535)

-- a boolean or tristate symbol
abbrev pub three_type : List ℕ → ℕ → Bool
three_type m s = leb (type_of m s) 1

-- WELL-FORMED RECORDS
abbrev pub is_digit : ℕ → Bool
is_digit b = leb 48 b && leb b 57

-- A-Z, 0-9, _
abbrev pub is_name_byte : ℕ → Bool
is_name_byte b = is_digit b || (leb 65 b && leb b 90) || eqb b 95

-- no earlier symbol has this name
unfoldable pub other_name : List ℕ → ℕ → ℕ → Bool
other_name m s e = not (same_text (spelled_name m e) (spelled_name m s))

unfoldable pub new_name : List ℕ → ℕ → Bool
new_name m s = all_below (other_name m s) s

-- of the n bytes from `at` on: each may stand in a name; each is a digit
unfoldable pub name_bytes : List ℕ → ℕ → ℕ → Bool
name_bytes m at n = all_below (λ j. is_name_byte (get_or m (at + j) 0)) n

unfoldable pub digits_alone : List ℕ → ℕ → ℕ → Bool
digits_alone m at n = all_below (λ j. is_digit (get_or m (at + j) 0)) n

-- 1 to 64 bytes within the texts, of those that may stand in a name, and not digits alone
unfoldable pub name_ok : List ℕ → ℕ → Bool
name_ok m s =
    let n = name_length m s in
    leb 1 n && leb n 64 && leb (name_offset m s + n) (texts m)
    && name_bytes m (name_start m s) n
    && not (digits_alone m (name_start m s) n)

unfoldable pub symbol_ok : List ℕ → ℕ → Bool
symbol_ok m s =
    leb (type_of m s) 4 && name_ok m s && new_name m s && ltb (prompt_of m s) (nodes m) && ltb (depend_of m s) (nodes m)

abbrev pub is_leaf : List ℕ → ℕ → Bool
is_leaf m i = leb (op_of m i) 4

-- a leaf by its op: 0 constant, 1 symbol, 2 text, 3 int and 4 hex
unfoldable pub leaf_fits : List ℕ → ℕ → ℕ → ℕ → Bool
leaf_fits m op left right =
    pick (eqb op 0) (leb left 2 && eqb right 0)
    (pick (eqb op 1) (ltb left (symbols m) && eqb right 0)
    (pick (eqb op 2) (leb right 64 && leb (left + right) (texts m)) true))

-- node i by its op: a leaf; 5 not; 6 and, 7 or; 8 equal, 9 not equal, of leaves only; a child's index is below its parent's
unfoldable pub node_fits : List ℕ → ℕ → ℕ → ℕ → ℕ → Bool
node_fits m i op left right =
    pick (leb op 4) (leaf_fits m op left right)
    (pick (eqb op 5) (ltb left i && eqb right 0)
    (pick (leb op 7) (ltb left i && ltb right i)
    (pick (leb op 9) (ltb left i && ltb right i && is_leaf m left && is_leaf m right) false)))

unfoldable pub node_ok : List ℕ → ℕ → Bool
node_ok m i = eqb (zero_of m i) 0 && node_fits m i (op_of m i) (left_of m i) (right_of m i)

-- a string's, int's or hex's default is a leaf
unfoldable pub default_ok : List ℕ → ℕ → Bool
default_ok m d =
    ltb (default_symbol m d) (symbols m) && ltb (default_value m d) (nodes m) && ltb (default_condition m d) (nodes m)
    && (three_type m (default_symbol m d) || is_leaf m (default_value m d))

unfoldable pub select_ok : List ℕ → ℕ → Bool
select_ok m k =
    ltb (selector_of m k) (symbols m) && ltb (target_of m k) (symbols m) && ltb (condition_of m k) (nodes m)
    && three_type m (selector_of m k) && three_type m (target_of m k)

-- a bound of type y, 3 int or 4 hex: a constant of it, which has the same number for its op, or a symbol of it
unfoldable pub bound_ok : List ℕ → ℕ → ℕ → Bool
bound_ok m y i =
    ltb i (nodes m) && (eqb (op_of m i) y || (eqb (op_of m i) 1 && eqb (type_of m (left_of m i)) y))

unfoldable pub range_ok : List ℕ → ℕ → Bool
range_ok m r =
    let y = type_of m (range_symbol m r) in
    ltb (range_symbol m r) (symbols m) && (eqb y 3 || eqb y 4) && bound_ok m y (low_of m r) && bound_ok m y (high_of m r)
    && ltb (range_condition m r) (nodes m)

-- where choice c's members must begin: the first choice's at 0, each next where the former's end
unfoldable pub member_due : List ℕ → ℕ → ℕ
member_due m zero = 0
member_due m (suc c) = first_member m c + member_count m c

unfoldable pub choice_ok : List ℕ → ℕ → Bool
choice_ok m c =
    leb (choice_kind m c) 1 && leb (mandatory_of m c) 1 && ltb (choice_prompt m c) (nodes m)
    && eqb (first_member m c) (member_due m c) && leb (first_member m c + member_count m c) (members m)

-- symbol s is in no earlier member record than i
unfoldable pub new_member : List ℕ → ℕ → ℕ → Bool
new_member m i s = all_below (λ e. not (eqb (member_symbol m e) s)) i

-- record i, a member of choice c: of the choice's type, and in no earlier record
unfoldable pub member_ok : List ℕ → ℕ → ℕ → Bool
member_ok m c i =
    let s = member_symbol m i in
    ltb s (symbols m) && leb (type_of m s) (choice_kind m c) && new_member m i s

-- FAULTS IN ORDER. What stands last is said first: a part is looked at only where those before it are clean.
-- 1: too short, or unlike its total
unfoldable pub length_fault : List ℕ → Outcome
length_fault m = when (ltb (length m) 36 || not (eqb (length m) (total m))) (Fault 1 0 65535)

-- 2: the first section that is not where the chain puts it; an end unlike the total counts at the last
unfoldable pub chain_at : List ℕ → ℕ → Outcome
chain_at m k = when (not (eqb (start m (k + 1)) (due m (k + 1)))) (Fault 2 (k + 1) 65535)

unfoldable pub end_fault : List ℕ → Outcome
end_fault m = when (not (eqb (due m 9) (total m))) (Fault 2 8 65535)

unfoldable pub chain_fault : List ℕ → Outcome
chain_fault m = or_else (first_below (chain_at m) 8) (end_fault m)

-- 3: the first bad record of section k; any byte may stand in the texts
unfoldable pub record_ok : List ℕ → ℕ → ℕ → Bool
record_ok m k i =
    let symbol = symbol_ok m i in
    let node = node_ok m i in
    let default = default_ok m i in
    let select = select_ok m i in
    let range = range_ok m i in
    let choice = choice_ok m i in
    pick (eqb k 1) symbol
    (pick (eqb k 2) node
    (pick (eqb k 3) default
    (pick (eqb k 4) select
    (pick (eqb k 5) range
    (pick (eqb k 6) choice true)))))

unfoldable pub record_at : List ℕ → ℕ → ℕ → Outcome
record_at m k i = when (not (record_ok m k i)) (Fault 3 k i)

unfoldable pub section_fault : List ℕ → ℕ → Outcome
section_fault m k = first_below (record_at m k) (count m k)

-- choices that do not use all members count behind the last choice
unfoldable pub unused_fault : List ℕ → Outcome
unused_fault m = when (not (eqb (member_due m (choices m)) (members m))) (Fault 3 6 (choices m))

-- the choices hold the members in order, so theirs is the members' own order
unfoldable pub member_at : List ℕ → ℕ → ℕ → Outcome
member_at m c j = let i = first_member m c + j in when (not (member_ok m c i)) (Fault 3 7 i)

unfoldable pub choice_members_fault : List ℕ → ℕ → Outcome
choice_members_fault m c = first_below (member_at m c) (member_count m c)

unfoldable pub members_fault : List ℕ → Outcome
members_fault m = first_below (choice_members_fault m) (choices m)

-- sections 1 to 6, what the choices leave over, and section 7
unfoldable pub section_after : List ℕ → ℕ → Outcome
section_after m k = section_fault m (k + 1)

unfoldable pub records_fault : List ℕ → Outcome
records_fault m =
    let in_members = members_fault m in
    let from_unused = or_else (unused_fault m) in_members in
    or_else (first_below (section_after m) 6) from_unused

-- 4: the modules symbol is a boolean one
unfoldable pub modules_fault : List ℕ → Outcome
modules_fault m =
    let s = modules_of m in
    when (modules_declared m && not (ltb s (symbols m) && eqb (type_of m s) 0)) (Fault 4 s 65535)

-- the first fault of a book
unfoldable pub book_fault : List ℕ → Outcome
book_fault m =
    let in_modules = modules_fault m in
    let from_records = or_else (records_fault m) in_modules in
    let from_chain = or_else (chain_fault m) from_records in
    or_else (length_fault m) from_chain

-- WELL-FORMED: said of each section and record
pub record WellFormed (m : List ℕ) : Type 0 where
  pub long : 36 ≤ length m
  pub whole : length m ≡ total m
  pub chained : (k : ℕ) → k < 8 → start m (k + 1) ≡ due m (k + 1)
  pub ended : end_of m 8 ≡ total m
  pub symbol : (s : ℕ) → s < symbols m → symbol_ok m s ≡ true
  pub node : (i : ℕ) → i < nodes m → node_ok m i ≡ true
  pub default : (d : ℕ) → d < defaults m → default_ok m d ≡ true
  pub select : (k : ℕ) → k < selects m → select_ok m k ≡ true
  pub range : (r : ℕ) → r < ranges m → range_ok m r ≡ true
  pub choice : (c : ℕ) → c < choices m → choice_ok m c ≡ true
  pub used : member_due m (choices m) ≡ members m
  pub member : (c j : ℕ) → c < choices m → j < member_count m c → member_ok m c (first_member m c + j) ≡ true
  pub modules : (modules_of m ≡ 65535) ⊎ ((modules_of m < symbols m) × (type_of m (modules_of m) ≡ 0))

-- THE NAME OF A SYMBOL: a part of the book; empty for an index not below the count, and for a bad book
unfoldable pub name_of : List ℕ → ℕ → List ℕ
name_of m s = if_clean (book_fault m) (pick (ltb s (symbols m)) (spelled_name m s) []) []

-- where that part starts and how long it is, in one number; 0 where it is empty
unfoldable pub name_place : List ℕ → ℕ → ℕ
name_place m s = if_clean (book_fault m) (pick (ltb s (symbols m)) (4294967296 * name_start m s + name_length m s) 0) 0

-- the same without a look at the book: the part is cut where the bytes end, so it lies in them whatever they are
unfoldable pub name_place_in : List ℕ → ℕ → ℕ
name_place_in m s =
    let long = length (spelled_name m s) in
    pick (ltb s (symbols m)) (pick (eqb long 0) 0 (4294967296 * name_start m s + long)) 0

-- names every definition of this file: who says `unfolding open_book` has them all
unfoldable pub open_book : Unit {0}
unfolding start count end_of due byte_in half_in other_name new_name name_bytes digits_alone name_ok symbol_ok leaf_fits node_fits node_ok default_ok select_ok bound_ok range_ok member_due choice_ok new_member member_ok length_fault chain_at end_fault chain_fault record_ok record_at section_fault unused_fault member_at choice_members_fault members_fault section_after records_fault modules_fault book_fault name_of name_place name_place_in
open_book = tt
