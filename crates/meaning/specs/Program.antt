-- The program: how it splits its input, and the line that it prints. Assumes nothing: these are definitions.
use Rattle.std.specs.Prelude.{ℕ, ◌&&◌, ◌||◌, List, [], ◌∷◌, ◌++◌, eqb, leb, ltb, length, take, drop, Ok, Err}
use Rattle.meaning.specs.declared.Answer.{Answer}
use Rattle.meaning.specs.Base.{Outcome, pick, half, answer_of}
use Rattle.meaning.specs.Book.{name_of}
use Rattle.meaning.specs.Spell.{digits}
use Rattle.meaning.specs.Rules.{verdict, open_rules}

-- the model is as long as the first two bytes say, or all there is; the table is the rest
unfoldable pub model_length : List ℕ → ℕ
model_length input = pick (ltb (length input) 2) (length input) (half input 0)

unfoldable pub model_part : List ℕ → List ℕ
model_part input = take (model_length input) input

unfoldable pub table_part : List ℕ → List ℕ
table_part input = drop (model_length input) input

-- the offending symbol: the place for 10 to 14 and 18, the second place for 15 and 16; else none
abbrev pub offender : Outcome → ℕ
offender (Ok _) = 65535
offender (Err f) = pick ((leb 10 f.number && leb f.number 14) || eqb f.number 18) f.place (pick (eqb f.number 15 || eqb f.number 16) f.second 65535)

-- a dash for no name
abbrev pub or_dash : List ℕ → List ℕ
or_dash [] = 45 ∷ []
or_dash (x ∷ l) = x ∷ l

unfoldable pub decimal : ℕ → List ℕ
decimal n = digits 10 12 n []

-- the node work has a byte for every node that a book can count
unfoldable pub program_outcome : List ℕ → Outcome
program_outcome input = verdict (model_part input) (table_part input) 65535

-- answer, place, second place and name with one space between, then a newline
unfoldable pub line_with : Answer → List ℕ → List ℕ
line_with a name = decimal a.number ++ (32 ∷ decimal a.place ++ (32 ∷ decimal a.second ++ (32 ∷ name ++ (10 ∷ []))))

unfoldable pub line_of : List ℕ → List ℕ
line_of input = let o = program_outcome input in line_with (answer_of o) (or_dash (name_of (model_part input) (offender o)))

-- opens this file and those under it: who says `unfolding open_program` can compute a line
unfoldable pub open_program : Unit {0}
unfolding open_rules model_length model_part table_part decimal program_outcome line_with line_of
open_program = tt
