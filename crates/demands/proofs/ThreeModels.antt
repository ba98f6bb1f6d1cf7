-- In a well-formed model of boolean and tristate symbols alone no equality reads another kind of symbol, there is no range, and a boolean
-- choice has boolean members: each record's own check says so. Assumes nothing.
use Prim.Native.Nat.{ℕ, ◌≤◌, ◌<◌}
use mathlib.Core.Path.{◌≡◌, refl}
use mathlib.Core.Bool.{Bool, true, false, ◌&&◌, ◌||◌, not}
use mathlib.Mathlib.Data.Bool.Basic.{and_elim_left}
use mathlib.Core.Logic.{⊎_elim}
use mathlib.Core.List.{List}
use native.Mathlib.Omega.{arith}
use lib.Dec.{eqb, ltb}
use borrow.Author.Tests.{eqb-true, ltb-true, le-leb}
use Rattle.std.proofs.lemmas.Bool.Decides.{nat_tests}
use Rattle.meaning.specs.Book.{symbols, nodes, ranges, choices, type_of, three_type, op_of, left_of, right_of, is_leaf, leaf_fits, node_fits, node_ok, range_symbol, choice_kind, member_count, member_of, member_ok, WellFormed}
use Rattle.meaning.specs.Sets.{is_free}
use Rattle.meaning.proofs.Tests.{or_cases}
use Rattle.demands.proofs.ValidIff.{range-on}
use Rattle.demands.proofs.Relate.{IsEquality}

module _ (m : List ℕ) (wf : WellFormed m) (all : (s : ℕ) → s < symbols m → type_of m s ≤ 1) where
  pub all_three : (s : ℕ) → s < symbols m → three_type m s ≡ true
  all_three s lt = le-leb (type_of m s) 1 (all s lt)

  fits : (i : ℕ) → i < nodes m → node_fits m i (op_of m i) (left_of m i) (right_of m i) ≡ true
  unfolding node_ok
  fits i lt = grind (arith, nat_tests)

  not_free : (i : ℕ) → i < nodes m → is_free m i ≡ false
  unfolding is_free node_fits leaf_fits
  not_free i lt = by (eqb (op_of m i) 1) refl
    where
      by : (b : Bool) → eqb (op_of m i) 1 ≡ b → (b && not (three_type m (left_of m i))) ≡ false
      by true e =
          let h = rw (eqb-true (op_of m i) 1 e) at (fits i lt) in
          rw (all_three (left_of m i) (ltb-true (left_of m i) (symbols m) (and_elim_left (ltb (left_of m i) (symbols m)) _ h)))
      by false e = refl

  pub no_free : (i : ℕ) → i < nodes m → IsEquality m i → (is_free m (left_of m i) || is_free m (right_of m i)) ≡ false
  unfolding node_fits
  no_free i lt is =
      let leaves : (ltb l i && ltb r i && is_leaf m l && is_leaf m r) ≡ true =
      ⊎_elim (λ (e : op_of m i ≡ 8). rw e at (fits i lt)) (λ (e : op_of m i ≡ 9). rw e at (fits i lt)) is in
      let before : (l < i) × (r < i) = (grind (arith, nat_tests), grind (arith, nat_tests)) in
      rw (not_free l (omega arith), not_free r (omega arith))
    where
      l : ℕ
      l = left_of m i

      r : ℕ
      r = right_of m i

  pub no_range : (r : ℕ) → r < ranges m → ⊥
  no_range r lt =
      let y = type_of m (range_symbol m r) in
      let d = range-on m r (wf.range r lt) in
      let low = all (range_symbol m r) d.0 in
      ⊎_elim (λ e. omega (arith, eqb-true y 3 e)) (λ e. omega (arith, eqb-true y 4 e)) (or_cases (eqb y 3) (eqb y 4) d.1)

  pub boolean_member : (c j : ℕ) → c < choices m → j < member_count m c → choice_kind m c ≡ 0
      → (member_of m c j < symbols m) × (type_of m (member_of m c j) ≡ 0)
  unfolding member_ok
  boolean_member c j lc lj kind = grind (arith, nat_tests)
