-- Findings: the head, witnesses, clearances, both rooms after each answer, and the complete clearance. Assumes nothing: these are definitions.
use Rattle.std.specs.Prelude.{ℕ, zero, suc, ◌+◌, ◌*◌, ◌/◌, ◌%◌, ◌||◌, not, List, [], ◌∷◌, ◌++◌, eqb, ltb, length, get_or, drop, replicate, Ok, Err}
use Rattle.meaning.specs.declared.Stop.TheVariants.{Malformed, Open}
use Rattle.meaning.specs.Base.{Outcome, Fault, pick, tabulate, half, when, or_else, if_clean}
use Rattle.meaning.specs.Book.{symbols, nodes, selects, type_of, book_fault}
use Rattle.meaning.specs.Table.{table_fault}
use Rattle.meaning.specs.Rules.{rule_fault, unmet, node_room_fault, open_rules}
use Rattle.meaning.specs.Sets.{full_sets, open_sets}
use Rattle.meaning.specs.Clearance.{Walked, walk_of, open_clearance}

-- THE HEAD: the select, the kind (0 witness, 1 clearance), a zero
unfoldable pub select_of : List ℕ → ℕ
select_of f = half f 0

unfoldable pub finding_kind : List ℕ → ℕ
finding_kind f = get_or f 2 0

-- 21: its length, or a select that the book has not, another kind, no zero
unfoldable pub head_fault : List ℕ → List ℕ → Outcome
head_fault m f =
    when
    (ltb (length f) 4 || ltb 65535 (length f) || not (ltb (select_of f) (selects m)) || ltb 1 (finding_kind f) || not (eqb (get_or f 3 0) 0))
    (Fault 21 0 65535)

-- A WITNESS goes on with a table, from its byte 4 on: accepted where that is valid and leaves the select unmet
unfoldable pub witness_table : List ℕ → List ℕ
witness_table f = drop 4 f

unfoldable pub witness_fault : List ℕ → List ℕ → Outcome
witness_fault m f =
    let t = witness_table f in
    let met = when (not (unmet m t (select_of f))) (Fault 24 (select_of f) 65535) in
    let from_rules = or_else (rule_fault m t) met in
    or_else (table_fault t (symbols m)) from_rules

-- A CLEARANCE goes on with one tree: accepted where every leaf is closed and nothing is left over
abbrev pub walk_fault : List ℕ → Walked → Outcome
walk_fault f (Ok at) = when (not (eqb at (length f))) (Fault 22 at 65535)
walk_fault f (Err (Malformed at)) = Fault 22 at 65535
walk_fault f (Err (Open at)) = Fault 23 at 65535

unfoldable pub clearance_fault : List ℕ → List ℕ → Outcome
clearance_fault m f = walk_fault f (walk_of m (select_of f) f 64 (Ok 4) (full_sets m))

-- THE FINDING'S OUTCOME, for rooms of so many bytes. 8: symbol work shorter than one byte a symbol
unfoldable pub symbol_room_fault : List ℕ → ℕ → Outcome
symbol_room_fault m room = when (ltb room (symbols m)) (Fault 8 (symbols m) 65535)

-- 1 to 4, 21, 7, 8
unfoldable pub finding_refusal : List ℕ → List ℕ → ℕ → ℕ → Outcome
finding_refusal m f node_room symbol_room =
    let in_symbol_room = symbol_room_fault m symbol_room in
    let from_rooms = or_else (node_room_fault m node_room) in_symbol_room in
    let from_head = or_else (head_fault m f) from_rooms in
    or_else (book_fault m) from_head

unfoldable pub body_fault : List ℕ → List ℕ → Outcome
body_fault m f =
    let witness = witness_fault m f in
    let clearance = clearance_fault m f in
    pick (eqb (finding_kind f) 0) witness clearance

unfoldable pub finding_outcome : List ℕ → List ℕ → ℕ → ℕ → Outcome
finding_outcome m f node_room symbol_room = let body = body_fault m f in or_else (finding_refusal m f node_room symbol_room) body

-- THE ROOMS w and z after it: as they were where refused up to 8, else their first bytes zero, and the rest as it was
unfoldable pub zeroed : ℕ → List ℕ → List ℕ
zeroed n w = replicate n 0 ++ drop n w

unfoldable pub finding_node_work : List ℕ → List ℕ → List ℕ → List ℕ → List ℕ
finding_node_work m f w z = if_clean (finding_refusal m f (length w) (length z)) (zeroed (nodes m) w) w

unfoldable pub finding_symbol_work : List ℕ → List ℕ → List ℕ → List ℕ → List ℕ
finding_symbol_work m f w z = if_clean (finding_refusal m f (length w) (length z)) (zeroed (symbols m) z) z

-- THE COMPLETE CLEARANCE. A u16 as bytes; the table of three-valued entries vs
unfoldable pub bytes_of : ℕ → List ℕ
bytes_of x = x % 256 ∷ x / 256 ∷ []

unfoldable pub contents_of : ℕ → ℕ → List ℕ
contents_of n zero = []
contents_of n (suc s) = contents_of n s ++ (0 ∷ 1 ∷ bytes_of (4 + 4 * n + s))

unfoldable pub table_of : List ℕ → List ℕ
table_of vs = bytes_of (4 + 5 * length vs) ++ (bytes_of (length vs) ++ (contents_of (length vs) (length vs) ++ vs))

-- a leaf by the first broken rule there, or by 20
abbrev pub leaf_bytes : ℕ → Outcome → List ℕ
leaf_bytes q (Ok _) = 1 ∷ 20 ∷ bytes_of q
leaf_bytes q (Err f) = 1 ∷ f.number ∷ bytes_of f.place

-- below the path on which the first symbols have the values vs: a split on the next, by the types of those left
unfoldable pub complete_tree : List ℕ → ℕ → List ℕ → List ℕ → List ℕ
complete_tree m q [] vs = leaf_bytes q (rule_fault m (table_of vs))
complete_tree m q (y ∷ rest) vs =
    let none = complete_tree m q rest (vs ++ (0 ∷ [])) in
    let middle = complete_tree m q rest (vs ++ (1 ∷ [])) in
    let yes = complete_tree m q rest (vs ++ (2 ∷ [])) in
    let two = none ++ yes in
    let three = none ++ (middle ++ yes) in
    (0 ∷ bytes_of (length vs)) ++ pick (eqb y 0) two three

unfoldable pub complete : List ℕ → ℕ → List ℕ
complete m q = bytes_of q ++ (1 ∷ 0 ∷ complete_tree m q (tabulate (type_of m) (symbols m)) [])

-- opens this file and those under it: who says `unfolding open_findings` can compute a finding's outcome
unfoldable pub open_findings : Unit {0}
unfolding open_rules open_sets open_clearance select_of finding_kind head_fault witness_table witness_fault clearance_fault symbol_room_fault finding_refusal body_fault finding_outcome zeroed finding_node_work finding_symbol_work bytes_of contents_of table_of complete_tree complete
open_findings = tt
