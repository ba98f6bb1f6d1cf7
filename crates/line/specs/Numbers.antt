-- The three numbers as the line has them. Assumes nothing: this is a definition.
use Rattle.std.specs.Prelude.{ℕ, List, [], ◌∷◌, ◌++◌}
use Rattle.meaning.specs.declared.Answer.{Answer}
use Rattle.meaning.specs.Program.{decimal}

-- each with a space behind it
abbrev pub three_numbers : Answer → List ℕ
three_numbers a = (decimal a.number ++ (32 ∷ [])) ++ (decimal a.place ++ (32 ∷ [])) ++ (decimal a.second ++ (32 ∷ []))
