-- What the walk's code works with: whether a split stands at an offset, and a split's branches in turn.
-- Assumes nothing: these are definitions.
use Rattle.std.specs.Prelude.{ℕ, ◌+◌, Bool, ◌&&◌, ◌||◌, List, eqb, leb, length, get_or, set}
use Rattle.meaning.specs.Base.{pick, half, fold}
use Rattle.meaning.specs.Sets.{has, only, sat}
use Rattle.meaning.specs.Clearance.{Walked, walk_of}
use Rattle.meaning.specs.Findings.{select_of}

-- the walk of finding f, about the select that it names
abbrev pub walked : List ℕ → List ℕ → ℕ → Walked → List ℕ → Walked
walked m f left from ys = walk_of m (select_of f) f left from ys

-- a split stands at an offset, on a symbol that is not fixed yet
unfoldable pub splits_at : List ℕ → List ℕ → ℕ → Bool
splits_at f ys at =
    eqb (get_or f at 0) 0 && leb (at + 3) (length f) && (eqb (sat ys (half f (at + 1))) 5 || eqb (sat ys (half f (at + 1))) 7)

-- the branch of value v, where symbol s may be one of `all`
abbrev pub turn : List ℕ → List ℕ → ℕ → List ℕ → ℕ → ℕ → ℕ → Walked → Walked
turn m f left ys s all v now = pick (has all v) (walked m f left now (set ys s (only v))) now

unfoldable pub branches : List ℕ → List ℕ → ℕ → List ℕ → ℕ → ℕ → Walked → ℕ → Walked
branches m f left ys s all from = fold (turn m f left ys s all) from
