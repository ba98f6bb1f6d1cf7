-- How a value is spelled, which is what an equality compares. Assumes nothing: these are definitions.
use Rattle.std.specs.Prelude.{ℕ, zero, suc, ◌+◌, ◌/◌, ◌%◌, List, [], ◌∷◌, eqb, ltb, ℤ, pos, negsuc}
use Rattle.meaning.specs.Base.{pick}
use Rattle.meaning.specs.Table.{Content, a_three, a_text, an_int, a_hex}

-- 0 to 9, then a to f
abbrev pub digit : ℕ → ℕ
digit d = pick (ltb d 10) (48 + d) (87 + d)

-- n in the base b by at most f digits, in front of what follows: no leading zero, and zero is one digit
unfoldable pub digits : ℕ → ℕ → ℕ → List ℕ → List ℕ
digits b zero n rest = rest
digits b (suc f) n rest =
    let more = digits b f (n / b) (digit (n % b) ∷ rest) in
    pick (ltb n b) (digit (n % b) ∷ rest) more

-- the letter n, m or y
abbrev pub letter : ℕ → ℕ
letter v = pick (eqb v 0) 110 (pick (eqb v 1) 109 121)

abbrev pub spelled_three : ℕ → List ℕ
spelled_three v = letter v ∷ []

-- decimal, with a minus sign before a negative number: 32 bits need at most 10 digits
abbrev pub spelled_int : ℤ → List ℕ
spelled_int (pos n) = digits 10 12 n []
spelled_int (negsuc n) = 45 ∷ digits 10 12 (suc n) []

-- 0x and lower-case digits
abbrev pub spelled_hex : ℕ → List ℕ
spelled_hex n = 48 ∷ 120 ∷ digits 16 12 n []

abbrev pub spelled : Content → List ℕ
spelled (a_three v) = spelled_three v
spelled (a_text l) = l
spelled (an_int z) = spelled_int z
spelled (a_hex h) = spelled_hex h

-- names every definition of this file: who says `unfolding open_spell` has them all
unfoldable pub open_spell : Unit {0}
unfolding digits
open_spell = tt
