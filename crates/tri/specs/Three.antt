-- The three values n, m, y as 0, 1, 2, and what not, and, or make of them. Assumes nothing: these are definitions.
use Rattle.std.specs.Prelude.{ℕ, ◌-◌, min, max}

-- a number read as one of the three: what is above 2 is y
abbrev pub tri_of : ℕ → ℕ
tri_of v = min v 2

abbrev pub not_of : ℕ → ℕ
not_of v = 2 - v

-- the smaller
abbrev pub and_of : ℕ → ℕ → ℕ
and_of a b = min a b

-- the larger
abbrev pub or_of : ℕ → ℕ → ℕ
or_of a b = max a b
