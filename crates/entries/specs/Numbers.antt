-- The number of each kind of entry, as crate meaning's definitions have it. Assumes nothing: these are definitions.
use Rattle.std.specs.Prelude.{ℕ, ◌≡◌, ◌<◌, Result, MatchResult}
use Rattle.entries.specs.declared.Kind.{Kind}
use Rattle.entries.specs.declared.Kind.TheVariants.{Three, Text, Int, Hex}
use Rattle.entries.specs.declared.Unknown.{Unknown}

abbrev pub number_of : Kind → ℕ
number_of Three = 0
number_of Text = 1
number_of Int = 2
number_of Hex = 3

-- the kind of this number, or an error that tells a number above the last kind's
abbrev pub ReadsKind : ℕ → Result Kind Unknown → Type 0
ReadsKind n r = MatchResult r (λ kind. number_of kind ≡ n) (λ e. (e.0 ≡ n) × (3 < n))
