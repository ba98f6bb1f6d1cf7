-- What a closure must return so that a test on picks, or a bound of a set, is the one that a definition names. Assumes nothing: these are definitions.
use Rattle.std.specs.Prelude.{ℕ, ◌<◌, ◌≡◌, Bool}
use Rattle.sets.specs.declared.Set.{Set}

-- of each of the three values, what p says of it
abbrev pub Tells : (ℕ → Bool → Type 0) → (ℕ → Bool) → Type 0
Tells returns p = (v : ℕ) (r : Bool) → v < 3 → returns v r → r ≡ p v

-- of each pick of four, what t says of it
abbrev pub TellsPick : (ℕ → ℕ → ℕ → ℕ → Bool → Type 0) → (ℕ → ℕ → ℕ → ℕ → Bool) → Type 0
TellsPick returns t = (v p d l : ℕ) (r : Bool) → v < 3 → p < 3 → d < 3 → l < 3 → returns v p d l r → r ≡ t v p d l

-- of each set, what g makes of its bits
abbrev pub Bounds : (Set → ℕ → Type 0) → (ℕ → ℕ) → Type 0
Bounds returns g = (a : Set) (r : ℕ) → a.bits < 256 → returns a r → r ≡ g a.bits
