-- When a book, a table or a finding is refused: the conditions of document 01's list of numbers, in propositions. Assumes nothing: these are definitions.
use Rattle.std.specs.Prelude.{ℕ, ◌+◌, ◌*◌, ◌≤◌, ◌<◌, ◌≡◌, true, false, ◌⊎◌, ◌≢◌, List, length, get_or}
use Rattle.meaning.specs.Base.{half}
use Rattle.meaning.specs.Book.{total, start, count, end_of, due, symbols, nodes, selects, choices, members, type_of, first_member, member_count, modules_of, record_ok, member_due, member_ok, WellFormed}
use Rattle.meaning.specs.Table.{entries, body_due, entry_ok}
use Rattle.meaning.specs.Findings.{select_of, finding_kind}
use Rattle.demands.specs.Broken.{Least}

-- THE BOOK
module _ (m : List ℕ) where
  -- 1: length under 36 or unlike its total
  abbrev pub BadLength : Type 0
  BadLength = (length m < 36) ⊎ (length m ≢ total m)

  abbrev pub Sized : Type 0
  Sized = (36 ≤ length m) × (length m ≡ total m)

  -- 2: the first section that is not where the chain puts it; or all are, and the last ends elsewhere than at the total
  abbrev pub Misplaced : ℕ → Type 0
  Misplaced k = (0 < k) × ((k ≤ 8) × (start m k ≢ due m k))

  abbrev pub Placed : Type 0
  Placed = (k : ℕ) → k < 8 → start m (k + 1) ≡ due m (k + 1)

  abbrev pub BadSection : ℕ → Type 0
  BadSection k = Least Misplaced k ⊎ (Placed × ((end_of m 8 ≢ total m) × (k ≡ 8)))

  abbrev pub Chained : Type 0
  Chained = Placed × (end_of m 8 ≡ total m)

  -- 3: the first bad record of sections 1 to 6; or none is, and the choices do not use all members; or they do, and a member is bad
  abbrev pub BadIn : ℕ → ℕ → Type 0
  BadIn k i = (i < count m k) × (record_ok m k i ≡ false)

  abbrev pub GoodBelow : ℕ → Type 0
  GoodBelow k = (j i : ℕ) → 0 < j → j < k → i < count m j → record_ok m j i ≡ true

  abbrev pub BadMember : ℕ → Type 0
  BadMember i = (c : ℕ) × (j : ℕ) × (c < choices m) × (j < member_count m c) × (i ≡ first_member m c + j) × (member_ok m c i ≡ false)

  abbrev pub GoodMembers : Type 0
  GoodMembers = (c j : ℕ) → c < choices m → j < member_count m c → member_ok m c (first_member m c + j) ≡ true

  abbrev pub AllUsed : Type 0
  AllUsed = member_due m (choices m) ≡ members m

  abbrev pub BadRecord : ℕ → ℕ → Type 0
  BadRecord k i =
      ((0 < k) × (k ≤ 6) × GoodBelow k × Least (BadIn k) i)
      ⊎ ((GoodBelow 7 × (¬ AllUsed) × (k ≡ 6) × (i ≡ choices m))
      ⊎ (GoodBelow 7 × AllUsed × (k ≡ 7) × Least BadMember i))

  abbrev pub Recorded : Type 0
  Recorded = GoodBelow 7 × AllUsed × GoodMembers

  -- 4: a modules symbol is declared that is no boolean symbol
  abbrev pub BadModules : Type 0
  BadModules = (modules_of m ≢ 65535) × (¬ ((modules_of m < symbols m) × (type_of m (modules_of m) ≡ 0)))

-- THE TABLE, for n symbols
module _ (t : List ℕ) (n : ℕ) where
  -- 5: under 4 bytes, total or count wrong, contents cut
  abbrev pub BadContents : Type 0
  BadContents = (length t < 4) ⊎ ((half t 0 ≢ length t) ⊎ ((entries t ≢ n) ⊎ (length t < 4 + 4 * n)))

  abbrev pub GoodContents : Type 0
  GoodContents = (4 + 4 * n ≤ length t) × (half t 0 ≡ length t) × (entries t ≡ n)

  -- 6
  abbrev pub BadEntry : ℕ → Type 0
  BadEntry s = (s < n) × (entry_ok t n s ≡ false)

  abbrev pub GoodEntries : Type 0
  GoodEntries = (s : ℕ) → s < n → entry_ok t n s ≡ true

  -- 5, last: the bodies end before the total
  abbrev pub BytesLeft : Type 0
  BytesLeft = body_due t n n < length t

-- THE FINDING. 21: its length, a select that the book has not, another kind, no zero
abbrev pub BadHead : List ℕ → List ℕ → Type 0
BadHead m f =
    (length f < 4) ⊎ ((65535 < length f) ⊎ ((selects m ≤ select_of f) ⊎ ((1 < finding_kind f) ⊎ (get_or f 3 0 ≢ 0))))

abbrev pub GoodHead : List ℕ → List ℕ → Type 0
GoodHead m f =
    (4 ≤ length f) × (length f ≤ 65535) × (select_of f < selects m) × (finding_kind f ≤ 1) × (get_or f 3 0 ≡ 0)

-- none of 1 to 4, 21, 7, 8
abbrev pub Admitted : List ℕ → List ℕ → ℕ → ℕ → Type 0
Admitted m f node_room symbol_room = WellFormed m × (GoodHead m f × ((nodes m ≤ node_room) × (symbols m ≤ symbol_room)))

-- NUMBERS that the table check, its part after the book, and the finding check answer
abbrev pub Between : ℕ → ℕ → ℕ → Type 0
Between low high n = (low ≤ n) × (n ≤ high)

abbrev pub TableNumber : ℕ → Type 0
TableNumber n = (n ≤ 7) ⊎ Between 10 18 n

abbrev pub TableInNumber : ℕ → Type 0
TableInNumber n = (n ≡ 0) ⊎ (Between 5 7 n ⊎ Between 10 18 n)

abbrev pub FindingNumber : ℕ → Type 0
FindingNumber n = (n ≤ 8) ⊎ (Between 10 18 n ⊎ Between 21 24 n)
