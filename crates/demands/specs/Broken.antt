-- Each rule at one place, in Valid's own words, the order in which rules and places are listed, and the first at which a rule is broken.
-- Assumes nothing: these are definitions.
use Rattle.std.specs.Prelude.{ℕ, zero, suc, ◌≤◌, ◌<◌, max, ◌≡◌, ◌⊎◌, ◌≢◌, List, [], ◌∷◌, ◌++◌}
use Rattle.meaning.specs.Book.{symbols, ranges, choices, type_of, prompt_of, default_value, range_symbol, low_of, high_of, range_condition, choice_kind, mandatory_of, member_count, member_of, modules_of}
use Rattle.meaning.specs.Table.{Content, a_text, content_of, value_of}
use Rattle.meaning.specs.Values.{leaf_of}
use Rattle.meaning.specs.Valid.{Typed, IntRange, HexRange, At, IsLower, IsDefault, IsThree, IsOther, Member, Seen}

-- A RULE AT A PLACE: 10 to 13 at a symbol; 14 at a symbol, by a range; 15 to 17 at a choice; 18 at a symbol
pub data Spot : Type 0 where
  typed : ℕ → Spot
  lower : ℕ → Spot
  upper : ℕ → Spot
  default : ℕ → Spot
  range : ℕ → ℕ → Spot
  one : ℕ → Spot
  kind : ℕ → Spot
  mandatory : ℕ → Spot
  modules : ℕ → Spot

abbrev pub rule_of : Spot → ℕ
rule_of (typed s) = 10
rule_of (lower s) = 11
rule_of (upper s) = 12
rule_of (default s) = 13
rule_of (range s r) = 14
rule_of (one c) = 15
rule_of (kind c) = 16
rule_of (mandatory c) = 17
rule_of (modules s) = 18

abbrev pub place_of : Spot → ℕ
place_of (typed s) = s
place_of (lower s) = s
place_of (upper s) = s
place_of (default s) = s
place_of (range s r) = s
place_of (one c) = c
place_of (kind c) = c
place_of (mandatory c) = c
place_of (modules s) = s

-- LISTED: what stands at each number below n, one after another
unfoldable pub in_turn : (ℕ → List Spot) → ℕ → List Spot
in_turn at zero = []
in_turn at (suc n) = in_turn at n ++ at n

abbrev pub at_symbol : List ℕ → ℕ → List Spot
at_symbol m s = (lower s ∷ upper s ∷ default s ∷ []) ++ in_turn (λ r. range s r ∷ []) (ranges m)

abbrev pub at_choice : ℕ → List Spot
at_choice c = one c ∷ kind c ∷ mandatory c ∷ []

-- 10 for all symbols; 11 to 14 symbol by symbol, ranges in section order; 15 to 17 choice by choice; 18
unfoldable pub listed : List ℕ → List Spot
listed m =
    in_turn (λ s. typed s ∷ []) (symbols m)
    ++ (in_turn (at_symbol m) (symbols m) ++ (in_turn at_choice (choices m) ++ in_turn (λ s. modules s ∷ []) (symbols m)))

-- every one of the list has P
abbrev pub All : (Spot → Type 0) → List Spot → Type 0
All P [] = Unit {0}
All P (x ∷ l) = P x × All P l

-- x is the first of the list that has not
abbrev pub FirstNot : (Spot → Type 0) → List Spot → Spot → Type 0
FirstNot P [] x = ⊥
FirstNot P (y ∷ l) x = ((y ≡ x) × (¬ P x)) ⊎ (P y × FirstNot P l x)

-- i is the first number that has P
abbrev pub Least : (ℕ → Type 0) → ℕ → Type 0
Least P i = P i × ((k : ℕ) → k < i → ¬ P k)

module _ (m t : List ℕ) where
  -- 13 of a boolean or tristate symbol; of another
  abbrev pub DefaultThree : ℕ → Type 0
  DefaultThree s =
      (l d : ℕ) → IsThree m t s → IsLower m t s l → IsDefault m t s (λ e. At m t (default_value m e)) 0 d
      → (0 < At m t (prompt_of m s)) ⊎ (value_of t s ≡ max d l)

  abbrev pub DefaultOther : ℕ → Type 0
  DefaultOther s =
      (d : Content) → IsOther m t s → IsDefault m t s (λ e. leaf_of m t (default_value m e)) (a_text []) d
      → (0 < At m t (prompt_of m s)) ⊎ (content_of t s ≡ d)

  -- the rule is kept there
  abbrev pub Holds : Spot → Type 0
  Holds (typed s) = Typed (type_of m s) (content_of t s)
  Holds (lower s) = (l : ℕ) → IsThree m t s → IsLower m t s l → l ≤ value_of t s
  Holds (upper s) =
      (l : ℕ) → IsThree m t s → IsLower m t s l
      → (At m t (prompt_of m s) ≡ 0) ⊎ ((At m t (prompt_of m s) < l) ⊎ (value_of t s ≤ At m t (prompt_of m s)))
  Holds (default s) = DefaultThree s × DefaultOther s
  Holds (range s r) =
      range_symbol m r ≡ s → 0 < At m t (range_condition m r)
      → IntRange (leaf_of m t (low_of m r)) (leaf_of m t (high_of m r)) (content_of t s)
      ⊎ HexRange (leaf_of m t (low_of m r)) (leaf_of m t (high_of m r)) (content_of t s)
  Holds (one c) =
      (i j : ℕ) → Seen m t c → i < member_count m c → j < member_count m c → (i ≢ j) → Member m t c i ≡ 2 → Member m t c j ≡ 0
  Holds (kind c) = (j : ℕ) → Seen m t c → choice_kind m c ≡ 0 → j < member_count m c → Member m t c j ≢ 1
  Holds (mandatory c) = Seen m t c → mandatory_of m c ≡ 1 → (j : ℕ) × (j < member_count m c) × (0 < Member m t c j)
  Holds (modules s) = (modules_of m ≡ 65535) ⊎ ((0 < value_of t (modules_of m)) ⊎ (value_of t s ≢ 1))

  -- THE SECOND PLACE: the range of 14; of 15 the symbol of the first member above n other than the first y; of 16 the first that is m
  abbrev pub IsYes : ℕ → ℕ → Type 0
  IsYes c j = (j < member_count m c) × (Member m t c j ≡ 2)

  abbrev pub IsOtherThan : ℕ → ℕ → ℕ → Type 0
  IsOtherThan c i j = (j < member_count m c) × ((0 < Member m t c j) × (j ≢ i))

  abbrev pub IsModule : ℕ → ℕ → Type 0
  IsModule c j = (j < member_count m c) × (Member m t c j ≡ 1)

  abbrev pub Second : Spot → ℕ → Type 0
  Second (typed s) x = x ≡ 65535
  Second (lower s) x = x ≡ 65535
  Second (upper s) x = x ≡ 65535
  Second (default s) x = x ≡ 65535
  Second (range s r) x = x ≡ r
  Second (one c) x = (i : ℕ) × (j : ℕ) × Least (IsYes c) i × Least (IsOtherThan c i) j × (x ≡ member_of m c j)
  Second (kind c) x = (j : ℕ) × Least (IsModule c) j × (x ≡ member_of m c j)
  Second (mandatory c) x = x ≡ 65535
  Second (modules s) x = x ≡ 65535

  -- rule n is broken at p with second place s, and every rule and place listed before it is kept
  pub record FirstBroken (n p s : ℕ) : Type 0 where
    pub spot : Spot
    pub first : FirstNot Holds (listed m) spot
    pub rule : rule_of spot ≡ n
    pub place : place_of spot ≡ p
    pub second : Second spot s
