-- The terminal clock tree, worked: cases P1 to P10 in one table, and one claim on it, which the checker computes. Assumes nothing.
use Rattle.std.specs.Prelude.{ℕ, ◌≡◌, refl, List, [], ◌∷◌, ◌++◌, map, set}
use Rattle.meaning.specs.declared.Answer.{Answer}
use Rattle.meaning.specs.Base.{answer_of}
use Rattle.meaning.specs.Rules.{verdict}
use Rattle.meaning.specs.Findings.{finding_outcome, open_findings}
use Rattle.meaning.specs.Program.{line_of, open_program}

-- model W: PUSH, TICK and RTC; nodes n, y and RTC; PUSH selects TICK if y; TICK has no prompt and depends on RTC
unfoldable pub W : List ℕ
W =
    -- total and modules, then the contents
    95 ∷ 0 ∷ 255 ∷ 255
    ∷ 36 ∷ 0 ∷ 3 ∷ 0
    ∷ 60 ∷ 0 ∷ 3 ∷ 0
    ∷ 78 ∷ 0 ∷ 0 ∷ 0
    ∷ 78 ∷ 0 ∷ 1 ∷ 0
    ∷ 84 ∷ 0 ∷ 0 ∷ 0
    ∷ 84 ∷ 0 ∷ 0 ∷ 0
    ∷ 84 ∷ 0 ∷ 0 ∷ 0
    ∷ 84 ∷ 0 ∷ 11 ∷ 0
    -- symbols
    ∷ 0 ∷ 4 ∷ 0 ∷ 0 ∷ 1 ∷ 0 ∷ 1 ∷ 0
    ∷ 0 ∷ 4 ∷ 4 ∷ 0 ∷ 0 ∷ 0 ∷ 2 ∷ 0
    ∷ 0 ∷ 3 ∷ 8 ∷ 0 ∷ 1 ∷ 0 ∷ 1 ∷ 0
    -- nodes
    ∷ 0 ∷ 0 ∷ 0 ∷ 0 ∷ 0 ∷ 0
    ∷ 0 ∷ 0 ∷ 2 ∷ 0 ∷ 0 ∷ 0
    ∷ 1 ∷ 0 ∷ 2 ∷ 0 ∷ 0 ∷ 0
    -- the select, and the texts
    ∷ 0 ∷ 0 ∷ 1 ∷ 0 ∷ 1 ∷ 0
    ∷ 80 ∷ 85 ∷ 83 ∷ 72 ∷ 84 ∷ 73 ∷ 67 ∷ 75 ∷ 82 ∷ 84 ∷ 67 ∷ []

-- W with TICK's dependency y, and with the select's condition RTC
unfoldable pub Wfree : List ℕ
Wfree = set W 50 1

unfoldable pub Wguarded : List ℕ
Wguarded = set W 82 2

-- the table with these values of PUSH, TICK and RTC
unfoldable pub three : ℕ → ℕ → ℕ → List ℕ
three a b c = 19 ∷ 0 ∷ 3 ∷ 0 ∷ 0 ∷ 1 ∷ 16 ∷ 0 ∷ 0 ∷ 1 ∷ 17 ∷ 0 ∷ 0 ∷ 1 ∷ 18 ∷ 0 ∷ a ∷ b ∷ c ∷ []

-- a case: what is asked of which model, and the number, place and second place that are owed
pub data Case : Type 0 where
  on_table : List ℕ → List ℕ → ℕ → ℕ → ℕ → Case
  on_finding : List ℕ → List ℕ → ℕ → ℕ → ℕ → Case

unfoldable pub answered : Case → Answer
answered (on_table m t n p s) = answer_of (verdict m t 3)
answered (on_finding m f n p s) = answer_of (finding_outcome m f 3 3)

unfoldable pub owed : Case → Answer
owed (on_table m t n p s) = record { number = n; place = p; second = s }
owed (on_finding m f n p s) = record { number = n; place = p; second = s }

-- P1 to P10, in order
unfoldable pub cases : List Case
cases =
    on_table W (three 2 2 0) 0 65535 65535
    ∷ on_table W (three 2 0 0) 11 1 65535
    ∷ on_table W (three 0 2 0) 13 1 65535
    ∷ on_table W (three 0 0 0) 0 65535 65535
    ∷ on_table W (three 1 0 0) 10 0 65535
    ∷ on_finding W (0 ∷ 0 ∷ 0 ∷ 0 ∷ three 2 2 0) 0 65535 65535
    ∷ on_finding W (0 ∷ 0 ∷ 0 ∷ 0 ∷ three 2 2 2) 24 0 65535
    ∷ on_finding W (0 ∷ 0 ∷ 1 ∷ 0 ∷ 1 ∷ 20 ∷ 0 ∷ 0 ∷ []) 23 4 65535
    ∷ on_finding Wfree (0 ∷ 0 ∷ 1 ∷ 0 ∷ 1 ∷ 20 ∷ 0 ∷ 0 ∷ []) 0 65535 65535
    ∷ on_finding Wguarded (0 ∷ 0 ∷ 1 ∷ 0 ∷ 0 ∷ 2 ∷ 0 ∷ 1 ∷ 20 ∷ 0 ∷ 0 ∷ 1 ∷ 20 ∷ 0 ∷ 0 ∷ []) 0 65535 65535
    ∷ []

-- each case is answered as it is owed
pub worked : map answered cases ≡ map owed cases
unfolding W Wfree Wguarded three answered owed cases open_findings
worked = refl

-- and the program prints `11 1 65535 TICK` for W and P2's table
pub printed : line_of (W ++ three 2 0 0) ≡ 49 ∷ 49 ∷ 32 ∷ 49 ∷ 32 ∷ 54 ∷ 53 ∷ 53 ∷ 51 ∷ 53 ∷ 32 ∷ 84 ∷ 73 ∷ 67 ∷ 75 ∷ 10 ∷ []
unfolding W three open_program
printed = refl
