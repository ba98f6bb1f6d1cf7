-- Rule 10 puts each symbol's value in the set of its type: a boolean is n or y, a tristate any of the three, and what is not three-valued
-- reads as n. Assumes nothing.
use Prim.Native.Nat.{ℕ, zero, suc, ◌≤◌, ◌<◌}
use mathlib.Core.Path.{◌≡◌, refl}
use mathlib.Core.Bool.{true}
use mathlib.Core.Logic.{⊎_elim}
use mathlib.Core.List.{List}
use native.Mathlib.Omega.{arith}
use lib.Dec.{leb}
use borrow.Author.Tests.{le-ltb}
use Rattle.std.proofs.lemmas.Bool.Decides.{nat_tests}
use Rattle.std.proofs.lemmas.Bool.{cases_lt}
use Rattle.meaning.specs.Book.{symbols, type_of, three_type}
use Rattle.meaning.specs.Table.{Content, a_three, a_text, an_int, a_hex, entries, read_of, content_of, three_in, value_of}
use Rattle.meaning.specs.Rules.{type_fits}
use Rattle.meaning.specs.Sets.{has, only, full, sat, full_sets}
use Rattle.meaning.specs.Picks.{In}
use Rattle.demands.proofs.Contents.{value-three}
use Rattle.demands.proofs.Lifts.{each_of, only_in, full_n}
use Rattle.demands.proofs.Tabulated.{full_at, full_past}

-- past the entries it is n
pub past_entries : (t : List ℕ) (i : ℕ) → entries t ≤ i → content_of t i ≡ a_three 0
unfolding content_of read_of
past_entries t i le = rw (le-ltb i (entries t) le)

fits-three : (y : ℕ) (x : Content) → leb y 1 ≡ true → type_fits y x ≡ true → x ≡ a_three (three_in x)
fits-three zero (a_three v) small fits = refl
fits-three zero (a_text l) small fits = cc
fits-three zero (an_int z) small fits = cc
fits-three zero (a_hex h) small fits = cc
fits-three (suc zero) (a_three v) small fits = refl
fits-three (suc zero) (a_text l) small fits = cc
fits-three (suc zero) (an_int z) small fits = cc
fits-three (suc zero) (a_hex h) small fits = cc
fits-three (suc (suc y)) x small fits = grind (arith, nat_tests)

fits-full : (y : ℕ) (x : Content) → three_in x ≤ 2 → type_fits y x ≡ true → In (full y) (three_in x)
unfolding full has
fits-full zero (a_three v) small fits = grind (arith, nat_tests)
fits-full (suc zero) (a_three v) small fits = each_of (In 7) refl refl refl v (omega arith)
fits-full (suc (suc y)) (a_three v) small fits = grind (arith, nat_tests)
fits-full y (a_text l) small fits = full_n y
fits-full y (an_int z) small fits = full_n y
fits-full y (a_hex h) small fits = full_n y

-- an entry for each symbol, of its type
module _ (m t : List ℕ) (counted : entries t ≡ symbols m) (fits : (i : ℕ) → i < symbols m → type_fits (type_of m i) (content_of t i) ≡ true) where
  pub typed-three : (i : ℕ) → three_type m i ≡ true → content_of t i ≡ a_three (value_of t i)
  unfolding value_of
  typed-three i small =
      ⊎_elim
      (λ lt. fits-three (type_of m i) (content_of t i) small (fits i lt))
      (λ le. rw (past_entries t i (rw counted le)))
      (cases_lt i (symbols m))

  pub typed_in : (i : ℕ) → In (sat (full_sets m) i) (value_of t i)
  unfolding value_of only
  typed_in i =
      ⊎_elim
      (λ lt. rw (full_at m i lt) (fits-full (type_of m i) (content_of t i) (value-three t i) (fits i lt)))
      (λ le. rw (full_past m i le, past_entries t i (rw counted le)) (only_in 0 (omega arith)))
      (cases_lt i (symbols m))
