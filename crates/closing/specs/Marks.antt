-- The number of each mark of a clearance's leaf, as crate meaning's definitions have it. Assumes nothing: these are definitions.
use Rattle.std.specs.Prelude.{ℕ, ◌≡◌, Result, MatchResult}
use Rattle.fields.specs.declared.Unknown.{Unknown}
use Rattle.closing.specs.declared.Mark.{Mark}
use Rattle.closing.specs.declared.Mark.TheVariants.{Lower, Upper, Default, One, Mandatory, Modules, Met}

abbrev pub number_of : Mark → ℕ
number_of Lower = 11
number_of Upper = 12
number_of Default = 13
number_of One = 15
number_of Mandatory = 17
number_of Modules = 18
number_of Met = 20

-- no mark has this number
abbrev pub NoMark : ℕ → Type 0
NoMark n = (n ≡ 11 → ⊥) × (n ≡ 12 → ⊥) × (n ≡ 13 → ⊥) × (n ≡ 15 → ⊥) × (n ≡ 17 → ⊥) × (n ≡ 18 → ⊥) × (n ≡ 20 → ⊥)

-- the mark of this number, or an error that tells a number that no mark has
abbrev pub ReadsMark : ℕ → Result Mark Unknown → Type 0
ReadsMark n r = MatchResult r (λ mark. number_of mark ≡ n) (λ e. (e.0 ≡ n) × NoMark n)
