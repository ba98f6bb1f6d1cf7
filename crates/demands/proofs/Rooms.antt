-- The two rooms' tests and the finding's head: each is clean, or gives its number, as document 01 says. Assumes nothing.
use Prim.Native.Nat.{ℕ, ◌≤◌, ◌<◌}
use mathlib.Core.Path.{◌≡◌}
use mathlib.Core.Logic.Iff
use mathlib.Core.List.{List}
use lib.ListN.{length, get_or}
use Rattle.meaning.specs.Book.{symbols, nodes, selects}
use Rattle.meaning.specs.Rules.{node_room_fault}
use Rattle.meaning.specs.Findings.{select_of, finding_kind, head_fault, symbol_room_fault}
use Rattle.demands.specs.Refused.{BadHead, GoodHead}
use Rattle.demands.proofs.Bools.{says_unlike, denies_unlike, says_or, says_not, denies_or, denies_not, says_lt, denies_lt, or_assoc, or_four}
use Rattle.demands.proofs.Faults.{Search, search_when}

pub node_room_search :
    (m : List ℕ) (room : ℕ) → Search (node_room_fault m room) (nodes m ≤ room) (λ n p s. (room < nodes m) × (n ≡ 7) × (p ≡ nodes m) × (s ≡ 65535))
unfolding node_room_fault
node_room_search m room = search_when 7 (nodes m) 65535 (says_lt room (nodes m)) (denies_lt room (nodes m))

pub head_search : (m f : List ℕ) → Search (head_fault m f) (GoodHead m f) (λ n p s. BadHead m f × (n ≡ 21) × (p ≡ 0) × (s ≡ 65535))
unfolding head_fault
head_search m f =
    let l = length f in
    let q = select_of f in
    let k = finding_kind f in
    let z = get_or f 3 0 in
    search_when 21 0 65535
    (Iff.trans
    (says_or (says_or (says_or (says_or (says_lt l 4) (says_lt 65535 l)) (says_not (denies_lt q (selects m)))) (says_lt 1 k)) (says_unlike z 0))
    (Iff.trans or_assoc or_four))
    (Iff.trans
    (denies_or
    (denies_or (denies_or (denies_or (denies_lt l 4) (denies_lt 65535 l)) (denies_not (says_lt q (selects m)))) (denies_lt 1 k))
    (denies_unlike z 0))
    (λ h. (h.0.0.0.0, h.0.0.0.1, h.0.0.1, h.0.1, h.1), λ h. ((((h.0, h.1), h.2), h.3), h.4)))

pub symbol_room_search :
    (m : List ℕ) (room : ℕ) → Search (symbol_room_fault m room) (symbols m ≤ room) (λ n p s. (room < symbols m) × (n ≡ 8) × (p ≡ symbols m) × (s ≡ 65535))
unfolding symbol_room_fault
symbol_room_search m room = search_when 8 (symbols m) 65535 (says_lt room (symbols m)) (denies_lt room (symbols m))
