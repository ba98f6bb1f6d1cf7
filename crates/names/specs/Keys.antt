-- The keys by which the names of a block are linked and looked up. Assumes nothing: these are definitions.
use Rattle.std.specs.Prelude.{ℕ, zero, suc, ◌+◌, ◌-◌, ◌*◌, ◌/◌, ◌%◌, ◌^◌, ◌<◌, ◌≤◌, ◌≡◌, true, List, eqb, ltb, length, get_or}
use Rattle.meaning.specs.Base.{pick, fold, word}
use Rattle.meaning.specs.Book.{spelled_name, new_name}

-- a key so far, and eight bytes more
unfoldable pub mix : ℕ → ℕ → ℕ → ℕ → ℕ
mix factor sum low high = ((sum * factor + low) % 4294967296 * factor + high) % 4294967296

-- the first, the middle and the last byte as a number: all there are of up to three
unfoldable pub few : List ℕ → ℕ
few w = get_or w 0 0 + 256 * get_or w (length w / 2) 0 + 65536 * get_or w (length w - 1) 0

-- a name's length and its whole eights, mixed
unfoldable pub eights : ℕ → List ℕ → ℕ → ℕ
eights factor w = fold (λ k sum. mix factor sum (word w (8 * k)) (word w (8 * k + 4))) (length w)

-- a name's key, made of every byte of it: the last eight are mixed in after the whole eights
unfoldable pub key_of : ℕ → List ℕ → ℕ
key_of factor w =
    let n = length w in
    pick (ltb n 4) (mix factor n (few w) 0)
    (pick (ltb n 8) (mix factor n (word w 0) (word w (n - 4)))
    (mix factor (eights factor w (n / 8)) (word w (n - 8)) (word w (n - 4))))
    * 1640532007

abbrev pub name_key : ℕ → List ℕ → ℕ → ℕ
name_key factor m s = key_of factor (spelled_name m s)

-- a key's link, and its two marks, each one of 2,048 bits
abbrev pub link_of : ℕ → ℕ
link_of x = x / 1073741824 % 128

abbrev pub first_mark : ℕ → ℕ
first_mark x = x / 67108864 % 2048

abbrev pub second_mark : ℕ → ℕ
second_mark x = x / 32768 % 2048

-- bit p of a byte; mark h among the bytes of bits
abbrev pub bit_at : ℕ → ℕ → ℕ
bit_at b p = b / 2 ^ p % 2

abbrev pub Marked : List ℕ → ℕ → Type 0
Marked marks h = bit_at (get_or marks (h / 8) 0) (h % 8) ≡ 1

-- r has bit p, and every bit that b has
abbrev pub Adds : ℕ → ℕ → ℕ → Type 0
Adds b p r = (bit_at r p ≡ 1) × ((q : ℕ) → bit_at b q ≡ 1 → bit_at r q ≡ 1)

-- one past the last number below k at which f is b, or 0
unfoldable pub last_with : (ℕ → ℕ) → ℕ → ℕ → ℕ
last_with f b zero = zero
last_with f b (suc k) = pick (eqb (f k) b) (suc k) (last_with f b k)

module _ (factor : ℕ) (m : List ℕ) (base : ℕ) where
  -- the link of the block's name i
  abbrev pub link_at : ℕ → ℕ
  link_at i = link_of (name_key factor m (base + i))

  -- each of the first k names of the block is linked to the one before it of its link
  abbrev pub Linked : List ℕ → ℕ → Type 0
  Linked nexts k = (j : ℕ) → j < k → get_or nexts j 0 ≡ last_with link_at (link_at j) j

  -- each link starts at the last of them
  abbrev pub Headed : List ℕ → ℕ → Type 0
  Headed heads k = (b : ℕ) → b < 128 → get_or heads b 0 ≡ last_with link_at b k

  -- each of them has both its marks
  abbrev pub AllMarked : List ℕ → ℕ → Type 0
  AllMarked marks k =
      (j : ℕ) → j < k
      → Marked marks (first_mark (name_key factor m (base + j))) × Marked marks (second_mark (name_key factor m (base + j)))

module _ (m : List ℕ) (base : ℕ) where
  -- the first k names of the block are all different
  abbrev pub Different : ℕ → Type 0
  Different k = (i j : ℕ) → i < j → j < k → spelled_name m (base + i) ≡ spelled_name m (base + j) → ⊥

  -- the name w is none of the first k of the block
  abbrev pub NotAmong : List ℕ → ℕ → Type 0
  NotAmong w k = (j : ℕ) → j < k → w ≡ spelled_name m (base + j) → ⊥

  -- the first r names of the block are new
  abbrev pub NewUpTo : ℕ → Type 0
  NewUpTo r = (s : ℕ) → base ≤ s → s < base + r → new_name m s ≡ true
