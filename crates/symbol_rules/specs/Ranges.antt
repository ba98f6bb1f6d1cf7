-- Below which symbol every range is kept. Assumes nothing: these are definitions.
use Rattle.std.specs.Prelude.{ℕ, ◌<◌, ◌≡◌, List, Option, Some, None}
use Rattle.meaning.specs.Base.{Clean}
use Rattle.meaning.specs.Rules.{test14}

-- range r is kept at each symbol below off
abbrev pub KeptAt : List ℕ → List ℕ → List ℕ → ℕ → ℕ → Type 0
KeptAt m t vs off r = (s : ℕ) → s < off → test14 m t vs s r ≡ Clean

-- so is each of the first n
abbrev pub KeptBelow : List ℕ → List ℕ → List ℕ → ℕ → ℕ → Type 0
KeptBelow m t vs n off = (r : ℕ) → r < n → KeptAt m t vs off r

-- and one of them is broken at off, if that can be a symbol
abbrev pub BrokenAt : List ℕ → List ℕ → List ℕ → ℕ → ℕ → Type 0
BrokenAt m t vs n off = off < 65536 → ((r : ℕ) → r < n → test14 m t vs off r ≡ Clean) → ⊥

-- the first symbol that has a broken one of the first n ranges, if one has: all below it have none, and so have all where there is none
abbrev pub FirstOff : List ℕ → List ℕ → List ℕ → ℕ → Option ℕ → Type 0
FirstOff m t vs n None = KeptBelow m t vs n 65536
FirstOff m t vs n (Some off) = (off < 65536) × KeptBelow m t vs n off × BrokenAt m t vs n off
