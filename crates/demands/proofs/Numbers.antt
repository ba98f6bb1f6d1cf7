-- Which numbers each part of the checks can answer, and so the checks themselves: each search has the numbers of its parts. Assumes nothing.
use Prim.Native.Nat.{ℕ}
use mathlib.Core.Path.{subst}
use mathlib.Core.Bool.{true, not}
use mathlib.Core.Logic.{◌⊎◌, inl, inr, ⊎_elim}
use mathlib.Core.List.{List}
use native.Mathlib.Omega.{arith}
use lib.Dec.{eqb}
use lib.ListN.{length}
use Rattle.std.specs.Prelude.{Ok, Err}
use Rattle.meaning.specs.declared.Stop.TheVariants.{Malformed, Open}
use Rattle.meaning.specs.Base.{Outcome, Fault, when, or_else, answer_of}
use Rattle.meaning.specs.Book.{symbols, book_fault}
use Rattle.meaning.specs.Table.{table_fault}
use Rattle.meaning.specs.Rules.{rule_fault, unmet, node_room_fault, refusal_in, verdict_in, verdict}
use Rattle.meaning.specs.Sets.{full_sets}
use Rattle.meaning.specs.Clearance.{Walked, walk_of}
use Rattle.meaning.specs.Findings.{select_of, finding_kind, head_fault, witness_table, witness_fault, walk_fault, clearance_fault, symbol_room_fault, finding_refusal, body_fault, finding_outcome}
use Rattle.demands.specs.Broken.{Spot, typed, lower, upper, default, range, one, kind, mandatory, modules, rule_of}
use Rattle.demands.specs.Refused.{Between, TableNumber, TableInNumber, FindingNumber}
use Rattle.demands.proofs.Bools.{pick_both}
use Rattle.demands.proofs.Faults.{Numbers, numbers_when, numbers_then, numbers_of, numbers_wide, numbers_answer}
use Rattle.demands.proofs.BookParts.{book_search, book_cases}
use Rattle.demands.proofs.Readable.{table_search}
use Rattle.demands.proofs.FirstBroken.{first_broken}
use Rattle.demands.proofs.Rooms.{node_room_search, symbol_room_search, head_search}

pub book_numbers : (m : List ℕ) → Numbers (Between 1 4) (book_fault m)
book_numbers m =
    numbers_of (book_search m)
    (λ n p s. book_cases m n p s (λ x e. omega arith) (λ x e. omega arith) (λ x e. omega arith) (λ x e. omega arith))

pub entry_numbers : (t : List ℕ) (n : ℕ) → Numbers (Between 5 6) (table_fault t n)
entry_numbers t n =
    numbers_of (table_search t n)
    (λ k p s.
    ⊎_elim (omega arith)
    (λ x. ⊎_elim (λ y. omega arith) (λ y. omega arith) x.1))

pub node_room_numbers : (m : List ℕ) (room : ℕ) → Numbers (Between 7 7) (node_room_fault m room)
node_room_numbers m room = numbers_of (node_room_search m room) (λ n p s x. omega arith)

pub symbol_room_numbers : (m : List ℕ) (room : ℕ) → Numbers (Between 8 8) (symbol_room_fault m room)
symbol_room_numbers m room = numbers_of (symbol_room_search m room) (λ n p s x. omega arith)

pub room_numbers : (m : List ℕ) (node_room symbol_room : ℕ) → Numbers (Between 7 8) (or_else (node_room_fault m node_room) (symbol_room_fault m symbol_room))
room_numbers m node_room symbol_room =
    numbers_then _ _ (numbers_wide (λ n x. omega arith) (node_room_numbers m node_room))
    (numbers_wide (λ n x. omega arith) (symbol_room_numbers m symbol_room))

pub head_numbers : (m f : List ℕ) → Numbers (Between 21 21) (head_fault m f)
head_numbers m f = numbers_of (head_search m f) (λ n p s x. omega arith)

rule_between : (x : Spot) → Between 10 18 (rule_of x)
rule_between (typed s) = omega arith
rule_between (lower s) = omega arith
rule_between (upper s) = omega arith
rule_between (default s) = omega arith
rule_between (range s r) = omega arith
rule_between (one c) = omega arith
rule_between (kind c) = omega arith
rule_between (mandatory c) = omega arith
rule_between (modules s) = omega arith

pub rule_numbers : (m t : List ℕ) → Numbers (Between 10 18) (rule_fault m t)
rule_numbers m t =
    record { has = λ n p s e. let h = (first_broken m t n p s).0 e in subst (Between 10 18) h.rule (rule_between h.spot) }

-- THE TABLE CHECK: after the book, and with it
module _ (m t : List ℕ) (room : ℕ) where
  pub refusal_in_numbers : Numbers (Between 5 7) (refusal_in m t room)
  unfolding refusal_in
  refusal_in_numbers =
      numbers_then _ _ (numbers_wide (λ k x. omega arith) (entry_numbers t (symbols m))) (numbers_wide (λ k x. omega arith) (node_room_numbers m room))

  pub verdict_in_numbers : Numbers (λ n. Between 5 7 n ⊎ Between 10 18 n) (verdict_in m t room)
  unfolding verdict_in
  verdict_in_numbers =
      numbers_then _ _ (numbers_wide (λ n x. inl x) refusal_in_numbers) (numbers_wide (λ n x. inr x) (rule_numbers m t))

  pub table_in_numbers : TableInNumber (answer_of (verdict_in m t room)).number
  table_in_numbers =
      numbers_answer {P = TableInNumber} (verdict_in m t room) (inl (omega arith)) (numbers_wide (λ n x. inr x) verdict_in_numbers)

  pub table_numbers : TableNumber (answer_of (verdict m t room)).number
  unfolding verdict
  table_numbers =
      numbers_answer {P = TableNumber} (verdict m t room) (inl (omega arith))
      (numbers_then _ _ (numbers_wide (λ n x. inl (omega arith)) (book_numbers m))
      (numbers_wide (λ n. ⊎_elim (λ x. inl x.1) (λ x. inr x)) verdict_in_numbers))

-- THE FINDING CHECK: what a refusal, a witness, a clearance, and either body can answer
abbrev pub OfRefusal : ℕ → Type 0
OfRefusal n = Between 1 4 n ⊎ (Between 7 8 n ⊎ Between 21 21 n)

abbrev OfWitness : ℕ → Type 0
OfWitness n = Between 5 6 n ⊎ (Between 10 18 n ⊎ Between 24 24 n)

abbrev pub OfBody : ℕ → Type 0
OfBody n = Between 5 6 n ⊎ (Between 10 18 n ⊎ Between 22 24 n)

module _ (m f : List ℕ) where
  abbrev Met : Outcome
  Met = when (not (unmet m (witness_table f) (select_of f))) (Fault 24 (select_of f) 65535)

  pub met_numbers : Numbers (Between 24 24) Met
  met_numbers = numbers_when (not (unmet m (witness_table f) (select_of f))) 24 (select_of f) 65535 (omega arith)

  pub behind_table_numbers : Numbers (Between 10 24) (or_else (rule_fault m (witness_table f)) Met)
  behind_table_numbers =
      numbers_then _ _ (numbers_wide (λ n x. omega arith) (rule_numbers m (witness_table f))) (numbers_wide (λ n x. omega arith) met_numbers)

  pub witness_numbers : Numbers OfWitness (witness_fault m f)
  unfolding witness_fault
  witness_numbers =
      numbers_then _ _ (numbers_wide (λ n x. inl x) (entry_numbers (witness_table f) (symbols m)))
      (numbers_then _ _ (numbers_wide (λ n x. inr (inl x)) (rule_numbers m (witness_table f))) (numbers_wide (λ n x. inr (inr x)) met_numbers))

  pub clearance_numbers : Numbers (Between 22 23) (clearance_fault m f)
  unfolding clearance_fault when
  clearance_numbers = by (walk_of m (select_of f) f 64 (Ok 4) (full_sets m))
    where
      by : (w : Walked) → Numbers (Between 22 23) (walk_fault f w)
      by (Ok at) = numbers_when (not (eqb at (length f))) 22 at 65535 (omega arith)
      by (Err (Malformed at)) = numbers_when true 22 at 65535 (omega arith)
      by (Err (Open at)) = numbers_when true 23 at 65535 (omega arith)

  pub body_numbers : Numbers OfBody (body_fault m f)
  unfolding body_fault
  body_numbers =
      pick_both (Numbers OfBody) (eqb (finding_kind f) 0)
      (numbers_wide (λ n. ⊎_elim inl (⊎_elim (λ x. inr (inl x)) (λ x. inr (inr (omega arith))))) witness_numbers)
      (numbers_wide (λ n x. inr (inr (omega arith))) clearance_numbers)

  module _ (node_room symbol_room : ℕ) where
    pub behind_head_numbers :
        Numbers (Between 7 21) (or_else (head_fault m f) (or_else (node_room_fault m node_room) (symbol_room_fault m symbol_room)))
    behind_head_numbers =
        numbers_then _ _ (numbers_wide (λ n x. omega arith) (head_numbers m f)) (numbers_wide (λ n x. omega arith) (room_numbers m node_room symbol_room))

    pub finding_refusal_numbers : Numbers OfRefusal (finding_refusal m f node_room symbol_room)
    unfolding finding_refusal
    finding_refusal_numbers =
        numbers_then _ _ (numbers_wide (λ n x. inl x) (book_numbers m))
        (numbers_then _ _ (numbers_wide (λ n x. inr (inr x)) (head_numbers m f)) (numbers_wide (λ n x. inr (inl x)) (room_numbers m node_room symbol_room)))

pub finding_numbers : (m f : List ℕ) (node_room symbol_room : ℕ) → FindingNumber (answer_of (finding_outcome m f node_room symbol_room)).number
unfolding finding_outcome
finding_numbers m f node_room symbol_room =
    numbers_answer {P = FindingNumber} (finding_outcome m f node_room symbol_room) (inl (omega arith))
    (numbers_then _ _ (numbers_wide refused (finding_refusal_numbers m f node_room symbol_room)) (numbers_wide judged (body_numbers m f)))
  where
    refused : (n : ℕ) → OfRefusal n → FindingNumber n
    refused n (inl x) = inl (omega arith)
    refused n (inr (inl x)) = inl (omega arith)
    refused n (inr (inr x)) = inr (inr (omega arith))

    judged : (n : ℕ) → OfBody n → FindingNumber n
    judged n (inl x) = inl (omega arith)
    judged n (inr (inl x)) = inr (inl x)
    judged n (inr (inr x)) = inr (inr (omega arith))
