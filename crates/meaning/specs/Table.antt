-- The configuration table: answers 5 and 6, and what stands at a symbol. Assumes nothing: these are definitions.
use Rattle.std.specs.Prelude.{ℕ, zero, suc, ◌+◌, ◌-◌, ◌*◌, ◌<◌, ◌≤◌, ◌≡◌, Bool, true, ◌&&◌, ◌||◌, not, List, eqb, leb, ltb, ℤ, pos, negsuc, length, get_or, Option, Some, None}
use Rattle.tri.specs.Three.{tri_of}
use Rattle.meaning.specs.declared.Value.{Value}
use Rattle.meaning.specs.declared.Value.TheVariants.{Three, Text, Int, Hex}
use Rattle.meaning.specs.Base.{Outcome, Fault, pick, half, word, part, when, or_else, first_below}

-- how many entries a table says it has
abbrev pub entries : List ℕ → ℕ
entries t = half t 2

-- an entry: kind (0 three-valued, 1 string, 2 int, 3 hex), length and start of its body
abbrev pub kind_of : List ℕ → ℕ → ℕ
kind_of t s = get_or t (4 + 4 * s) 0

abbrev pub length_of : List ℕ → ℕ → ℕ
length_of t s = get_or t (4 + 4 * s + 1) 0

abbrev pub start_of : List ℕ → ℕ → ℕ
start_of t s = half t (4 + 4 * s + 2)

-- where the body of entry s must start, of n entries: bodies follow the contents in order without gaps
unfoldable pub body_due : List ℕ → ℕ → ℕ → ℕ
body_due t n zero = 4 + 4 * n
body_due t n (suc s) = start_of t s + length_of t s

-- one byte for kind 0, 0 to 64 for kind 1, four for kinds 2 and 3
unfoldable pub length_fits : ℕ → ℕ → Bool
length_fits k l = pick (eqb k 0) (eqb l 1) (pick (eqb k 1) (leb l 64) (leb k 3 && eqb l 4))

-- the byte of kind 0 is 0, 1 or 2
abbrev pub byte_fits : ℕ → ℕ → Bool
byte_fits k b = not (eqb k 0) || leb b 2

unfoldable pub entry_ok : List ℕ → ℕ → ℕ → Bool
entry_ok t n s =
    length_fits (kind_of t s) (length_of t s) && eqb (start_of t s) (body_due t n s) && leb (start_of t s + length_of t s) (length t)
    && byte_fits (kind_of t s) (get_or t (start_of t s) 0)

-- 5: short, a wrong total or count, or the contents cut
unfoldable pub contents_fault : List ℕ → ℕ → Outcome
contents_fault t n =
    when (ltb (length t) 4 || not (eqb (half t 0) (length t)) || not (eqb (entries t) n) || ltb (length t) (4 + 4 * n)) (Fault 5 0 65535)

unfoldable pub entry_at : List ℕ → ℕ → ℕ → Outcome
entry_at t n s = when (not (entry_ok t n s)) (Fault 6 s 65535)

unfoldable pub bodies_fault : List ℕ → ℕ → Outcome
bodies_fault t n = when (not (eqb (body_due t n n) (length t))) (Fault 5 0 65535)

-- the first fault of a table for n symbols: 5; 6 at the first bad entry; last, 5 where the bodies end before the total
unfoldable pub table_fault : List ℕ → ℕ → Outcome
table_fault t n =
    let bodies = bodies_fault t n in
    let from_entries = or_else (first_below (entry_at t n) n) bodies in
    or_else (contents_fault t n) from_entries

-- READABLE for n symbols: said of each entry
pub record Readable (t : List ℕ) (n : ℕ) : Type 0 where
  pub long : 4 + 4 * n ≤ length t
  pub whole : half t 0 ≡ length t
  pub counted : entries t ≡ n
  pub entry : (s : ℕ) → s < n → entry_ok t n s ≡ true
  pub ended : body_due t n n ≡ length t

-- READING. A word as a signed 32-bit number in two's complement
abbrev pub signed_of : ℕ → ℤ
signed_of u = pick (ltb u 2147483648) (pos u) (negsuc (4294967295 - u))

-- what stands at symbol s; n past the entries and for a kind above 3
unfoldable pub read_of : List ℕ → ℕ → Value
read_of t s =
    let k = kind_of t s in
    let at = start_of t s in
    pick (ltb s (entries t))
    (pick (eqb k 0) (Three (tri_of (get_or t at 0)))
    (pick (eqb k 1) (Text at (length_of t s))
    (pick (eqb k 2) (Int (signed_of (word t at)))
    (pick (eqb k 3) (Hex (word t at)) (Three 0)))))
    (Three 0)

-- the entry of symbol s, of n: what stands there, or none where it is refused
unfoldable pub entry_of : List ℕ → ℕ → ℕ → Option Value
entry_of t n s = pick (entry_ok t n s) (Some (read_of t s)) None

-- a value by kind and content, wherever it was read
pub data Content : Type 0 where
  a_three : ℕ → Content
  a_text : List ℕ → Content
  an_int : ℤ → Content
  a_hex : ℕ → Content

abbrev pub content_in : List ℕ → Value → Content
content_in t (Three v) = a_three v
content_in t (Text at n) = a_text (part t at n)
content_in t (Int z) = an_int z
content_in t (Hex h) = a_hex h

unfoldable pub content_of : List ℕ → ℕ → Content
content_of t s = content_in t (read_of t s)

-- as one of the three: n where it is of another kind
abbrev pub three_in : Content → ℕ
three_in (a_three v) = v
three_in (a_text l) = 0
three_in (an_int z) = 0
three_in (a_hex h) = 0

unfoldable pub value_of : List ℕ → ℕ → ℕ
value_of t s = three_in (content_of t s)

-- names every definition of this file: who says `unfolding open_table` has them all
unfoldable pub open_table : Unit {0}
unfolding body_due length_fits entry_ok contents_fault entry_at bodies_fault table_fault read_of entry_of content_of value_of
open_table = tt
