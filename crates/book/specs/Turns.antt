-- What clean choices say of where their members stand. Assumes nothing: these are definitions.
use Rattle.std.specs.Prelude.{ℕ, ◌+◌, ◌<◌, ◌≤◌, ◌≡◌, List}
use Rattle.meaning.specs.Book.{choices, members, first_member, member_count, member_due}

-- choice c's members begin where those before it end, and end within all members, which a u16 counts
abbrev pub Turn : List ℕ → ℕ → Type 0
Turn m c = (first_member m c ≡ member_due m c) × (first_member m c + member_count m c ≤ members m) × (members m < 65536)

-- the choices take the members in turn
abbrev pub InTurn : List ℕ → Type 0
InTurn m = (c : ℕ) → c < choices m → Turn m c
