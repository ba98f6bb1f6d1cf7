-- Where a name stands, case by case. Assumes nothing.
use mathlib.Core.Path.{◌≡◌}
use mathlib.Core.List.{List}
use Prim.Native.Nat.{ℕ, ◌+◌, ◌*◌, ◌≤◌, ◌<◌}
use lib.ListN.{length}
use borrow.Author.Tests.{lt-ltb, le-ltb, eq-eqb, ne_eqb}
use mathlib.Core.Bool.{true, false}
use Rattle.std.specs.Prelude.{is_err}
use lib.Dec.{ltb}
use Rattle.meaning.specs.Base.{Outcome, pick}
use Rattle.meaning.proofs.First.{no_err, if_err}
use Rattle.meaning.specs.Book.{symbols, name_start, name_length, spelled_name, book_fault, name_place, name_place_in}

module _ (m : List ℕ) (s : ℕ) {r : Outcome} (er : r ≡ book_fault m) where
  pub place_bad : is_err r ≡ true → 0 ≡ name_place m s
  unfolding name_place
  place_bad h = rw er at (if_err r (pick (ltb s (symbols m)) (4294967296 * name_start m s + name_length m s) 0) 0 h)

  pub place_past : {c : ℕ} → is_err r ≡ false → c ≡ symbols m → c ≤ s → 0 ≡ name_place m s
  unfolding name_place
  place_past {c} f e le = rw (← er, no_err r f, ← e, le-ltb s c le)

  pub place_is : {c a l : ℕ} → is_err r ≡ false → c ≡ symbols m → s < c → a ≡ name_start m s → l ≡ name_length m s → 4294967296 * a + l ≡ name_place m s
  unfolding name_place
  place_is {c} f e lt ea el = rw (← er, no_err r f, ← e, lt-ltb s c lt, ea, el)

-- without a look at the book
module _ (m : List ℕ) (s : ℕ) {c : ℕ} (ec : c ≡ symbols m) where
  pub part_past : c ≤ s → 0 ≡ name_place_in m s
  unfolding name_place_in
  part_past le = rw (← ec, le-ltb s c le)

  module _ (lt : s < c) {l : List ℕ} (el : l ≡ spelled_name m s) where
    pub part_empty : length l ≡ 0 → 0 ≡ name_place_in m s
    unfolding name_place_in
    part_empty e = rw (← ec, lt-ltb s c lt, ← el, eq-eqb (length l) 0 e)

    pub part_is : {a : ℕ} → ¬ (length l ≡ 0) → a ≡ name_start m s → 4294967296 * a + length l ≡ name_place_in m s
    unfolding name_place_in
    part_is some ea = rw (← ec, lt-ltb s c lt, ← el, ne_eqb (length l) 0 some, ea)
