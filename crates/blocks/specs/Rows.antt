-- What the records of a section come to for each symbol of a block, and which default is a symbol's first that applies. Assumes nothing: these are definitions.
use Rattle.std.specs.Prelude.{ℕ, suc, ◌+◌, ◌-◌, ◌<◌, ◌≡◌, List, eqb, get_or}
use Rattle.meaning.specs.Base.{Outcome}
use Rattle.meaning.specs.Base.{pick, fold}
use Rattle.meaning.specs.Book.{three_type}
use Rattle.meaning.specs.Values.{default_from, condition_value}
use Rattle.meaning.specs.Rules.{three_fault, other_fault}

-- a room has, for each symbol of the block, what the first n records come to
abbrev pub Rows : (ℕ → ℕ → ℕ → ℕ) → ℕ → ℕ → List ℕ → Type 0
Rows step n base room = (i : ℕ) → i < 96 → base + i < 65536 → get_or room i 0 ≡ fold (step (base + i)) 0 n

-- one more than the first default on s whose condition is above n, 0 if there is none
unfoldable pub first_default : List ℕ → List ℕ → ℕ → ℕ
first_default m vs s = default_from m (condition_value m vs) suc 0 s

-- what that default has
module _ {A : Type 0} where
  abbrev pub chosen : (ℕ → A) → A → ℕ → A
  chosen has none first = pick (eqb first 0) none (has (first - 1))

-- rules 11 to 13 at s, by its type
abbrev pub own_fault : List ℕ → List ℕ → List ℕ → ℕ → Outcome
own_fault m t vs s = pick (three_type m s) (three_fault m t vs s) (other_fault m t vs s)
