-- Bytes, tests over ranges of numbers, first faults, and the numbers that an outcome is answered with. Assumes nothing: these are definitions.
use Rattle.std.specs.Prelude.{ℕ, zero, suc, ◌+◌, ◌*◌, Bool, true, false, ◌&&◌, List, [], ◌∷◌, ◌++◌, eqb, get_or, take, drop, Result, Ok, Err}
use Rattle.meaning.specs.declared.Answer.{Answer}

module _ {ℓ} {A : Type ℓ} where
  -- a where the test holds, else b
  abbrev pub pick : Bool → A → A → A
  pick true a b = a
  pick false a b = b

  -- step by step from the number 0 up to below n
  unfoldable pub fold : (ℕ → A → A) → A → ℕ → A
  fold step none zero = none
  fold step none (suc n) = step n (fold step none n)

  -- the list of g at each number below n
  unfoldable pub tabulate : (ℕ → A) → ℕ → List A
  tabulate g zero = []
  tabulate g (suc n) = tabulate g n ++ (g n ∷ [])

-- BYTES. Past a list's end every byte is 0.
-- a u16: two bytes, the lower first
unfoldable pub half : List ℕ → ℕ → ℕ
half s i = get_or s i 0 + 256 * get_or s (i + 1) 0

-- four bytes, the lowest first
unfoldable pub word : List ℕ → ℕ → ℕ
word s i = half s i + 65536 * half s (i + 2)

-- the n bytes from `at` on
unfoldable pub part : List ℕ → ℕ → ℕ → List ℕ
part s at n = take n (drop at s)

-- the same bytes
unfoldable pub same_text : List ℕ → List ℕ → Bool
same_text [] [] = true
same_text [] (y ∷ b) = false
same_text (x ∷ a) [] = false
same_text (x ∷ a) (y ∷ b) = eqb x y && same_text a b

-- NUMBERS BELOW n
unfoldable pub all_below : (ℕ → Bool) → ℕ → Bool
all_below p zero = true
all_below p (suc n) = all_below p n && p n

-- how many
unfoldable pub count_below : (ℕ → Bool) → ℕ → ℕ
count_below p = fold (λ i c. pick (p i) 1 0 + c) 0

-- the first at which p holds, n if there is none
unfoldable pub first_where : (ℕ → Bool) → ℕ → ℕ
first_where p zero = zero
first_where p (suc n) = let i = first_where p n in pick (eqb i n) (pick (p n) n (suc n)) i

-- each entry from those before it
unfoldable pub build : (List ℕ → ℕ → ℕ) → ℕ → List ℕ
build f zero = []
build f (suc n) = let vs = build f n in vs ++ (f vs n ∷ [])

-- FIRST FAULTS
-- what a check finds: nothing, or the first fault as number, place and second place
abbrev pub Outcome : Type 0
Outcome = Result Unit Answer

abbrev pub Clean : Outcome
Clean = Ok tt

abbrev pub Fault : ℕ → ℕ → ℕ → Outcome
Fault n p s = Err (record { number = n; place = p; second = s })

-- the fault where the test holds, else none
unfoldable pub when : Bool → Outcome → Outcome
when true a = a
when false a = Clean

-- a's fault, or b's where a has none
unfoldable pub or_else : Outcome → Outcome → Outcome
or_else (Ok _) b = b
or_else (Err f) b = Err f

-- the first fault among those at the places below n
unfoldable pub first_below : (ℕ → Outcome) → ℕ → Outcome
first_below t zero = Clean
first_below t (suc n) = let last = t n in or_else (first_below t n) last

-- a after a clean outcome, b after a fault
abbrev pub if_clean : {A : Type 0} → Outcome → A → A → A
if_clean (Ok _) a b = a
if_clean (Err f) a b = b

-- NUMBERS ANSWERED: 0 for clean, else the fault's own; 65535 stands for no place
abbrev pub answer_of : Outcome → Answer
answer_of (Ok _) = record { number = 0; place = 65535; second = 65535 }
answer_of (Err f) = f

-- the three numbers in one, as an exported check returns them: every place fits 16 bits
abbrev pub packed : Answer → ℕ
packed a = 4294967296 * a.number + 65536 * a.place + a.second

-- names every definition of this file: who says `unfolding open_base` has them all
unfoldable pub open_base : Unit {0}
unfolding fold tabulate half word part same_text all_below count_below first_where build when or_else first_below
open_base = tt
