-- What the code of this crate works with: the operation of an op, what an equality asks of a leaf, a node's set among the nodes before one, and
-- a room of sets that are worked out. Assumes nothing: these are definitions.
use Rattle.std.specs.Prelude.{ℕ, ◌+◌, ◌*◌, ◌/◌, ◌%◌, ◌<◌, ◌≡◌, Bool, true, false, ◌||◌, not, List, [], ◌∷◌, ◌⊎◌, Option, Some, None, eqb, leb, ltb, length, get_or, set}
use Rattle.tri.specs.Three.{and_of, or_of}
use Rattle.tri.specs.declared.Tri.{Tri}
use Rattle.meaning.specs.Base.{pick, build, tabulate, same_text}
use Rattle.meaning.specs.Book.{nodes, op_of, left_of, right_of}
use Rattle.meaning.specs.Spell.{letter}
use Rattle.meaning.specs.Values.{yes_no}
use Rattle.meaning.specs.Sets.{sat, leaf_set, is_free, spelled_at, not_set, pairs, equal_set, node_set, node_sets}
use Rattle.sets.specs.declared.Side.{Side}
use Rattle.sets.specs.declared.Side.TheVariants.{Free, Three, Plain}

-- y where two values are spelled by one letter
abbrev pub alike : ℕ → ℕ → ℕ
alike x y = yes_no (eqb (letter x) (letter y))

-- what a closure returns of two of the three values is what g makes of them
abbrev pub Makes : (Tri → Tri → Tri → Type 0) → (ℕ → ℕ → ℕ) → Type 0
Makes returns g = (x y r : Tri) → x.v < 3 → y.v < 3 → returns x y r → r.v ≡ g x.v y.v

-- not, and, or of two sets by a node's op
abbrev pub combined : ℕ → ℕ → ℕ → ℕ
combined op l r = pick (eqb op 5) (not_set l) (pick (eqb op 6) (pairs and_of l r) (pairs or_of l r))

-- what an equality asks of leaf i: it is a string, int or hex symbol; it has one of the values of a set; it is a text or a number
abbrev pub SideOf : List ℕ → List ℕ → ℕ → Side → Type 0
SideOf m ys i Free = is_free m i ≡ true
SideOf m ys i (Three a) = (is_free m i ≡ false) × (a.bits ≡ leaf_set m ys i) × (leb (op_of m i) 1 ≡ true)
SideOf m ys i Plain = (is_free m i ≡ false) × (1 ≡ leaf_set m ys i) × (leb (op_of m i) 1 ≡ false)

-- whether a letter is this byte, if there is one
abbrev pub is_letter : Option ℕ → ℕ → Bool
is_letter (Some b) v = eqb (letter v) b
is_letter None v = false

-- a letter is leaf i's spelling just where it is this byte; where there is none, no letter is
abbrev pub Lone : List ℕ → ℕ → Option ℕ → Type 0
Lone m i b = (v x : ℕ) → same_text (letter v ∷ []) (spelled_at m i x) ≡ is_letter b v

-- y where the letter that spells v is this byte
abbrev pub by_letter : Option ℕ → ℕ → ℕ
by_letter b v = yes_no (is_letter b v)

-- an equality's set, and its opposite's, by a node's op
abbrev pub equality_of : List ℕ → List ℕ → ℕ → ℕ → ℕ → ℕ
equality_of m ys op i j = let same = equal_set m ys i j in pick (eqb op 8) same (pick (eqb op 9) (not_set same) 1)

-- the set of node i among the first n; {n} past them
abbrev pub among : List ℕ → List ℕ → ℕ → ℕ → ℕ
among m ys n i = sat (build (node_set m ys) n) i

-- THE ROOM has a byte a node. An equality of leaves i and j is the same on every path: one is free, or none is a symbol
abbrev pub fixed : List ℕ → ℕ → ℕ → Bool
fixed m i j = is_free m i || is_free m j || not (eqb (op_of m i) 1 || eqb (op_of m j) 1)

-- what stands at node i before a leaf is looked at: 16 times 8 and its set where that is the same on every path, else 0
unfoldable pub blank_at : List ℕ → ℕ → ℕ
blank_at m i =
    let set = equality_of m [] (op_of m i) (left_of m i) (right_of m i) in
    pick (ltb (op_of m i) 8) 0 (pick (fixed m (left_of m i) (right_of m i)) (128 + 16 * set) 0)

unfoldable pub blank_of : List ℕ → List ℕ
blank_of m = tabulate (blank_at m) (nodes m)

-- a byte once a leaf is done with: what is the same on every path stays
abbrev pub lasting : ℕ → ℕ
lasting x = x / 16 * 16

-- the set that a byte keeps
abbrev pub kept_set : ℕ → ℕ
kept_set x = (x / 16 + x % 8) % 8

-- a room with the set of node i kept, unless that is past 7
abbrev pub kept_at : List ℕ → ℕ → ℕ → List ℕ
kept_at w i v = pick (ltb v 8) (set w i (8 + v)) w

-- each byte is as it was before the leaf, or 8 and the node's set where there was 0
pub record Known (m ys w : List ℕ) : Type 0 where
  pub size : length w ≡ nodes m
  pub each :
      (i : ℕ) → i < nodes m
      → (get_or w i 0 ≡ blank_at m i) ⊎ ((blank_at m i ≡ 0) × (get_or w i 0 ≡ 8 + sat (node_sets m ys) i) × (sat (node_sets m ys) i < 8))

-- every node below n but leaves is worked out
abbrev pub WorkedOut : List ℕ → List ℕ → ℕ → Type 0
WorkedOut m w n = (i : ℕ) → i < n → 4 < op_of m i → get_or w i 0 ≡ 0 → ⊥
