-- VALID, said apart from the tests: one field a rule, for all symbols, ranges and choices, in the shape of document 002's equations 15 to
-- 26 as document 01 mends them. Lower and Default are said by what they are and not by how they are worked out. Assumes nothing: these are definitions.
use Rattle.std.specs.Prelude.{ℕ, ◌≤◌, ◌<◌, min, max, ◌≡◌, ◌⊎◌, ◌≢◌, List, [], ℤ, ◌≤ℤ◌}
use Rattle.meaning.specs.Book.{symbols, defaults, selects, ranges, choices, type_of, prompt_of, depend_of, default_symbol, default_value, default_condition, selector_of, target_of, condition_of, range_symbol, low_of, high_of, range_condition, choice_kind, mandatory_of, choice_prompt, member_count, member_of, modules_of}
use Rattle.meaning.specs.Table.{Content, a_three, a_text, an_int, a_hex, content_of, value_of}
use Rattle.meaning.specs.Values.{val, leaf_of, node_values}

-- (15) the values of a type: n or y; n, m or y; a string; an int or the empty string; a hex or the empty string
abbrev pub Typed : ℕ → Content → Type 0
Typed y (a_three v) = ((y ≡ 0) × ((v ≡ 0) ⊎ (v ≡ 2))) ⊎ (y ≡ 1)
Typed y (a_text l) = (y ≡ 2) ⊎ (((y ≡ 3) ⊎ (y ≡ 4)) × (l ≡ []))
Typed y (an_int z) = y ≡ 3
Typed y (a_hex h) = y ≡ 4

-- (21) three ints or three hexes, the value at least the low and at most the high bound
abbrev pub IntRange : Content → Content → Content → Type 0
IntRange low high v =
    (a : ℤ) × (b : ℤ) × (z : ℤ) × (low ≡ an_int a) × (high ≡ an_int b) × (v ≡ an_int z) × (a ≤ℤ z) × (z ≤ℤ b)

abbrev pub HexRange : Content → Content → Content → Type 0
HexRange low high v =
    (a : ℕ) × (b : ℕ) × (h : ℕ) × (low ≡ a_hex a) × (high ≡ a_hex b) × (v ≡ a_hex h) × (a ≤ h) × (h ≤ b)

module _ (m t : List ℕ) where
  -- a node's value in the table
  abbrev pub At : ℕ → ℕ
  At i = val (node_values m t) i

  abbrev pub Gives : ℕ → ℕ
  Gives k = min (value_of t (selector_of m k)) (At (condition_of m k))

  -- l is Lower of s: no select on s gives more, and one gives as much, or l is n
  pub record IsLower (s l : ℕ) : Type 0 where
    pub bounds : (k : ℕ) → k < selects m → target_of m k ≡ s → Gives k ≤ l
    pub reached : (l ≡ 0) ⊎ ((k : ℕ) × (k < selects m) × (target_of m k ≡ s) × (Gives k ≡ l))

  -- (18 to 20) d is the first default of s whose condition is above n; there is none
  pub record FirstDefault (s d : ℕ) : Type 0 where
    pub stands : d < defaults m
    pub on : default_symbol m d ≡ s
    pub applies : 0 < At (default_condition m d)
    pub before : (e : ℕ) → e < d → default_symbol m e ≡ s → At (default_condition m e) ≡ 0

  abbrev pub NoDefault : ℕ → Type 0
  NoDefault s = (d : ℕ) → d < defaults m → default_symbol m d ≡ s → At (default_condition m d) ≡ 0

  -- x is what the first default has, or `none` where there is none
  abbrev pub IsDefault : {A : Type 0} → ℕ → (ℕ → A) → A → A → Type 0
  IsDefault s has none x = ((d : ℕ) × FirstDefault s d × (x ≡ has d)) ⊎ (NoDefault s × (x ≡ none))

  -- a boolean or tristate symbol; another
  abbrev pub IsThree : ℕ → Type 0
  IsThree s = (s < symbols m) × (type_of m s ≤ 1)

  abbrev pub IsOther : ℕ → Type 0
  IsOther s = (s < symbols m) × (1 < type_of m s)

  -- the value of choice c's member j
  abbrev pub Member : ℕ → ℕ → ℕ
  Member c j = value_of t (member_of m c j)

  -- choice c can be seen
  abbrev pub Seen : ℕ → Type 0
  Seen c = (c < choices m) × (0 < At (choice_prompt m c))

  pub record Valid : Type 0 where
    -- (15)
    pub typed : (s : ℕ) → s < symbols m → Typed (type_of m s) (content_of t s)
    -- (16) at least Lower
    pub lower : (s l : ℕ) → IsThree s → IsLower s l → l ≤ value_of t s
    -- (16) at most the prompt, unless that is n, or below Lower
    pub upper :
        (s l : ℕ) → IsThree s → IsLower s l
        → (At (prompt_of m s) ≡ 0) ⊎ ((At (prompt_of m s) < l) ⊎ (value_of t s ≤ At (prompt_of m s)))
    -- (17) what nobody can set has its default, or is forced higher
    pub default :
        (s l d : ℕ) → IsThree s → IsLower s l → IsDefault s (λ e. At (default_value m e)) 0 d
        → (0 < At (prompt_of m s)) ⊎ (value_of t s ≡ max d l)
    -- (17, 20) the same of a string, int or hex: kind and content
    pub content :
        (s : ℕ) (d : Content) → IsOther s → IsDefault s (λ e. leaf_of m t (default_value m e)) (a_text []) d
        → (0 < At (prompt_of m s)) ⊎ (content_of t s ≡ d)
    -- (21) within each range whose condition is above n
    pub range :
        (r : ℕ) → r < ranges m → 0 < At (range_condition m r)
        → IntRange (leaf_of m t (low_of m r)) (leaf_of m t (high_of m r)) (content_of t (range_symbol m r))
        ⊎ HexRange (leaf_of m t (low_of m r)) (leaf_of m t (high_of m r)) (content_of t (range_symbol m r))
    -- (23, by its prose) beside a member that is y every other is n
    pub one :
        (c i j : ℕ) → Seen c → i < member_count m c → j < member_count m c → (i ≢ j) → Member c i ≡ 2 → Member c j ≡ 0
    -- (24, by its prose) no member of a boolean choice is m
    pub kind : (c j : ℕ) → Seen c → choice_kind m c ≡ 0 → j < member_count m c → Member c j ≢ 1
    -- (25) a mandatory choice has a member above n
    pub mandatory : (c : ℕ) → Seen c → mandatory_of m c ≡ 1 → (j : ℕ) × (j < member_count m c) × (0 < Member c j)
    -- (26) without modules nothing is m
    pub modules : (modules_of m ≡ 65535) ⊎ ((0 < value_of t (modules_of m)) ⊎ ((s : ℕ) → s < symbols m → value_of t s ≢ 1))

  -- UNMET (document 000, for three values): select k forces more than its target's dependency allows
  abbrev pub Unmet : ℕ → Type 0
  Unmet k = At (depend_of m (target_of m k)) < Gives k
