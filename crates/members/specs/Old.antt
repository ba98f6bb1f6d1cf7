-- Which member record is the first whose symbol stands in an earlier one. Assumes nothing: these are definitions.
use Rattle.std.specs.Prelude.{ℕ, ◌<◌, ◌≤◌, ◌≡◌, true, false, List}
use Rattle.meaning.specs.Book.{symbols, members, member_symbol, new_member}

-- member record i: fresh if its symbol stands in no earlier one, else old
abbrev pub Fresh : List ℕ → ℕ → Type 0
Fresh m i = new_member m i (member_symbol m i) ≡ true

abbrev pub Old : List ℕ → ℕ → Type 0
Old m i = new_member m i (member_symbol m i) ≡ false

-- of the first n member records, those on one of the symbols from low up to below high are fresh
abbrev pub FreshIn : List ℕ → ℕ → ℕ → ℕ → Type 0
FreshIn m low high n = (i : ℕ) → i < n → low ≤ member_symbol m i → member_symbol m i < high → Fresh m i

-- r is the first of these that is old; n if there is none
pub record FirstOldIn (m : List ℕ) (low high n r : ℕ) : Type 0 where
  pub within : r ≤ n
  pub before : FreshIn m low high r
  pub old : r < n → (low ≤ member_symbol m r) × (member_symbol m r < high) × Old m r

-- of all member records, on any symbol of the book
abbrev pub FirstOld : List ℕ → ℕ → Type 0
FirstOld m r = FirstOldIn m 0 (symbols m) (members m) r
