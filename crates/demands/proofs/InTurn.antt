-- The book's check and then the check after it are the table check, and so for the name: where the book is well formed, what comes after it is all
-- that is left, and its names lie in its texts. Assumes nothing.
use Prim.Native.Nat.{ℕ, ◌+◌, ◌*◌, ◌≤◌, ◌<◌}
use mathlib.Core.Path.{◌≡◌, refl}
use mathlib.Core.Bool.{Bool, true, false}
use mathlib.Core.List.{List}
use native.Mathlib.Omega.{arith}
use lib.Dec.{eqb, ltb}
use lib.ListN.{length, drop, length-take, length-drop}
use borrow.Author.Tests.{ltb-true, ne_eqb}
use Rattle.std.proofs.lemmas.Bool.Decides.{nat_tests}
use Rattle.meaning.specs.Base.{Clean, Fault, pick, part, or_else}
use Rattle.meaning.specs.Book.{symbols, texts, end_of, name_start, name_offset, name_length, spelled_name, name_ok, symbol_ok, book_fault, WellFormed, name_place, name_place_in}
use Rattle.meaning.specs.Rules.{verdict_in, node_work_in, verdict, node_work}
use Rattle.demands.proofs.Bools.{pick-cases, denies_zero}
use Rattle.demands.proofs.Refusals.{book_iff}

-- THE TABLE CHECK. A book without fault: the check after it, and its node work. Another: the book's own fault, and the node work stays
module _ (m t : List ℕ) where
  module _ (clean : book_fault m ≡ Clean) where
    pub table_in_turn : (room : ℕ) → verdict m t room ≡ verdict_in m t room
    unfolding verdict or_else
    table_in_turn room = rw clean

    pub work_in_turn : (w : List ℕ) → node_work m t w ≡ node_work_in m t w
    unfolding node_work
    work_in_turn w = rw clean

  module _ {n p s : ℕ} (fault : book_fault m ≡ Fault n p s) where
    pub table_of_bad_book : (room : ℕ) → verdict m t room ≡ book_fault m
    unfolding verdict or_else
    table_of_bad_book room = rw fault

    pub work_of_bad_book : (w : List ℕ) → node_work m t w ≡ w
    unfolding node_work
    work_of_bad_book w = rw fault

-- THE NAME
module _ (m : List ℕ) (s : ℕ) where
  -- a name's part, cut where the bytes end: no longer than its record says, and in them if it has a byte
  long : length (spelled_name m s) ≤ name_length m s
  unfolding part
  long = omega (arith, length-take (name_length m s) (drop (name_start m s) m))

  cut : 0 < length (spelled_name m s) → name_start m s + length (spelled_name m s) ≤ length m
  unfolding part
  cut h = omega (arith, length-take (name_length m s) (drop (name_start m s) m), length-drop (name_start m s) m)

-- WHATEVER THE BYTES ARE, the part that is told lies in them, and is no longer than a byte counts
pub record Inside (m : List ℕ) (s r : ℕ) : Type 0 where
  pub start : ℕ
  pub count : ℕ
  pub is : r ≡ 4294967296 * start + count
  pub within : start + count ≤ length m
  pub short : count ≤ name_length m s

pub name_in_inside : (m : List ℕ) (s : ℕ) → Inside m s (name_place_in m s)
unfolding name_place_in
name_in_inside m s =
    pick-cases (Inside m s) (ltb s (symbols m))
    (λ _.
    pick-cases (Inside m s) (eqb (length (spelled_name m s)) 0) (λ _. none)
    (λ e.
    record {
      start = name_start m s;
      count = length (spelled_name m s);
      is = refl;
      within = cut m s ((denies_zero (length (spelled_name m s))).0 e);
      short = long m s;
    }))
    (λ _. none)
  where
    none : Inside m s 0
    none = record { start = 0; count = 0; is = refl; within = omega arith; short = omega arith }

-- IN A WELL-FORMED BOOK
module _ (m : List ℕ) (s : ℕ) where
  -- a name has a byte or more, all of them in the texts, and so it is not cut
  fits : WellFormed m → s < symbols m → (length (spelled_name m s) ≡ name_length m s) × (0 < name_length m s)
  unfolding symbol_ok name_ok end_of part
  fits w lt =
      let ok = w.symbol s lt in
      let n = name_length m s in
      let some : 0 < n = grind (arith, nat_tests) in
      let ends : name_offset m s + n ≤ texts m = grind (arith, nat_tests) in
      (omega (arith, length-take n (drop (name_start m s) m), length-drop (name_start m s) m), some)

  pub name_in_turn : WellFormed m → name_place m s ≡ name_place_in m s
  unfolding name_place name_place_in
  name_in_turn w = rw ((book_iff m).1 w) (same (ltb s (symbols m)) refl)
    where
      same :
          (q : Bool)
          → ltb s (symbols m) ≡ q
          → pick q (4294967296 * name_start m s + name_length m s) 0
          ≡ pick q (pick (eqb (length (spelled_name m s)) 0) 0 (4294967296 * name_start m s + length (spelled_name m s))) 0
      same true e = let f = fits w (ltb-true s (symbols m) e) in rw (f.0, ne_eqb (name_length m s) 0 (λ z. omega arith))
      same false e = refl
