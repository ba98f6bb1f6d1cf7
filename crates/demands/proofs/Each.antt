-- Each rule's test at one place fails exactly where Valid's words hold there, and a test that passes names the second place: rule by rule,
-- from what its Lower, its Default, its counts and its comparisons say. Assumes nothing.
use Prim.Native.Nat.{ℕ, ◌≤◌, ◌<◌, max}
use mathlib.Core.Path.{◌≡◌, refl, sym, ◌∙◌, subst}
use mathlib.Core.Bool.{Bool, true, ◌&&◌, not, and-eq-true_iff}
use mathlib.Core.Logic.Iff
use mathlib.Core.Logic.{◌⊎◌, ◌↔◌, ◌≢◌, ⊎_elim}
use mathlib.Core.List.{List, []}
use native.Mathlib.Omega.{arith}
use lib.Dec.{eqb, leb, ltb}
use borrow.Author.Tests.{eqb-true, leb-true, le-leb, eq-eqb}
use Rattle.std.proofs.lemmas.Bool.Decides.{nat_tests}
use Rattle.std.proofs.lemmas.Bool.{cases_lt, cases_eq}
use Rattle.meaning.specs.Book.{type_of, range_symbol, low_of, high_of, range_condition, choices, choice_kind, mandatory_of, choice_prompt, member_count, member_of, modules_of, modules_declared}
use Rattle.meaning.specs.Table.{a_text, content_of, value_of}
use Rattle.meaning.specs.Values.{val, leaf_of, node_values, lower_of, default_of, default_content, prompt_value}
use Rattle.meaning.specs.Rules.{type_fits, broken11, broken12, broken13, broken13_content, broken14, broken15, broken16, broken17, broken18, at_least, some_of, ys_of, ms_of, first_yes, other_of, first_module}
use Rattle.meaning.specs.Valid.{At, IsLower, IsThree, IsOther, Member}
use Rattle.demands.specs.Broken.{typed, lower, upper, default, range, one, kind, mandatory, modules, Least, Holds, Second}
use Rattle.demands.proofs.Bools.{says_unlike, denies_unlike, Says, Denies, says_and, denies_and, denies_then, denies_it, denies_not, says_lt, denies_lt, says_le, denies_le, says_eq, denies_pos, denies_zero, or_assoc}
use Rattle.demands.proofs.Counts.{Some, some_counted, two-counted, count_some, count-two, first-least}
use Rattle.demands.proofs.Contents.{value-three, says_content, says_typed, says_within}
use Rattle.demands.proofs.Lower.{lower_is, lower_unique}
use Rattle.demands.proofs.Defaults.{default_is, content_is, default_unique}

module _ (m t : List ℕ) where
  abbrev vs : List ℕ
  vs = node_values m t

  -- 10
  pub each_typed : (s : ℕ) → Denies (not (type_fits (type_of m s) (content_of t s))) (Holds m t (typed s))
  unfolding value_of
  each_typed s = denies_not (says_typed (type_of m s) (content_of t s) (value-three t s))

  -- what is said of Lower is said of the one that is worked out
  module _ (s : ℕ) (three : IsThree m t s) where
    the_lower : (Q : ℕ → Type 0) → Q (lower_of m t vs s) ↔ ((l : ℕ) → IsThree m t s → IsLower m t s l → Q l)
    the_lower Q = (λ q l i h. subst Q (lower_unique m t (lower_is m t) h) q, λ f. f (lower_of m t vs s) three (lower_is m t))

    -- 11, 12 and 13 of a boolean or tristate symbol
    pub each-lower : Denies (broken11 (value_of t s) (lower_of m t vs s)) (Holds m t (lower s))
    each-lower = Iff.trans (denies_lt (value_of t s) (lower_of m t vs s)) (the_lower (λ l. l ≤ value_of t s))

    pub each-upper : Denies (broken12 (value_of t s) (prompt_value m vs s) (lower_of m t vs s)) (Holds m t (upper s))
    each-upper =
        let p = prompt_value m vs s in
        let v = value_of t s in
        let l = lower_of m t vs s in
        Iff.trans (denies_and (denies_and (denies_pos p) (denies_le l p)) (denies_lt p v))
        (Iff.trans or_assoc (the_lower (λ l. (p ≡ 0) ⊎ ((p < l) ⊎ (v ≤ p)))))

    pub each-default :
        Denies (broken13 (value_of t s) (prompt_value m vs s) (default_of m vs s) (lower_of m t vs s)) (Holds m t (default s))
    each-default =
        let p = prompt_value m vs s in
        let v = value_of t s in
        let d = default_of m vs s in
        let l = lower_of m t vs s in
        Iff.trans (denies_and (denies_zero p) (denies_unlike v (max d l))) (
          (λ q. (
            (λ k e i h g. subst (λ x. (0 < p) ⊎ (v ≡ max x k)) (default_unique m t _ 0 (default_is m t) g)
                (subst (λ x. (0 < p) ⊎ (v ≡ max d x)) (lower_unique m t (lower_is m t) h) q)),
            (λ e i g. absurd (omega arith)),
          )),
          (λ h. h.0 l d three (lower_is m t) (default_is m t)),
        )

  -- 13 of another
  pub each-content :
      (s : ℕ) → IsOther m t s → Denies (broken13_content (content_of t s) (prompt_value m vs s) (default_content m t vs s)) (Holds m t (default s))
  each-content s other =
      let p = prompt_value m vs s in
      let v = content_of t s in
      let d = default_content m t vs s in
      Iff.trans (denies_and (denies_zero p) (denies_not (says_content v d))) (
        (λ q. (
          (λ k e i h g. absurd (omega arith)),
          (λ e i g. subst (λ x. (0 < p) ⊎ (v ≡ x)) (default_unique m t _ (a_text []) (content_is m t) g) q),
        )),
        (λ h. h.1 d other (content_is m t)),
      )

  -- 14
  pub each-range :
      (s r : ℕ) → Denies
      (eqb (range_symbol m r) s && broken14 (content_of t s) (val vs (range_condition m r)) (leaf_of m t (low_of m r)) (leaf_of m t (high_of m r)))
      (Holds m t (range s r))
  each-range s r =
      denies_then (says_eq (range_symbol m r) s)
      (denies_then (says_lt 0 (val vs (range_condition m r))) (denies_not (says_within (leaf_of m t (low_of m r)) (leaf_of m t (high_of m r)) (content_of t s))))

  -- 18
  pub each-modules : (s : ℕ) → Denies (modules_declared m && broken18 (value_of t (modules_of m)) (value_of t s)) (Holds m t (modules s))
  each-modules s = grind (arith, nat_tests)

-- a least number by one test is the least by what the test says
least_says : {p : ℕ → Bool} {n : ℕ} {P : ℕ → Type 0} {i : ℕ}
    → ((j : ℕ) → Says (p j) (P j)) → Least (λ j. (j < n) × (p j ≡ true)) i → Least (λ j. (j < n) × P j) i
least_says {i = i} says h = grind (arith, nat_tests)

module _ (m t : List ℕ) (c : ℕ) where
  abbrev v : ℕ → ℕ
  v = Member m t c

  abbrev n : ℕ
  n = member_count m c

  abbrev p : ℕ
  p = At m t (choice_prompt m c)

  -- a member that is y, and another above n
  abbrev Beside : Type 0
  Beside = (i : ℕ) × (j : ℕ) × (i < n) × (j < n) × (i ≢ j) × (v i ≡ 2) × (0 < v j)

  -- of two that are above n one is another than i
  other_than : (i a b : ℕ) → a < b → b < n → 0 < v a → 0 < v b → i < n → v i ≡ 2 → Beside
  other_than i a b ab bn pa pb ni y = grind (arith, nat_tests)

  beside : 2 ≤ some_of m t c → 1 ≤ ys_of m t c → Beside
  unfolding some_of ys_of at_least
  beside two some =
      let y = some_counted (λ j. leb 2 (v j)) n some in
      let x = two-counted (λ j. leb 1 (v j)) n two in
      other_than y.0 x.0 x.1 x.2 x.3 (leb-true 1 (v x.0) x.4) (leb-true 1 (v x.1) x.5) y.1
      (omega (arith, leb-true 2 (v y.0) y.2, value-three t (member_of m c y.0)))

  two_of : (i j : ℕ) → i < n → j < n → i ≢ j → 0 < v i → 0 < v j → 2 ≤ some_of m t c
  unfolding some_of at_least
  two_of i j li lj ne pi pj =
      ⊎_elim (λ l. count-two (λ k. leb 1 (v k)) n (i, j, l, lj, le-leb 1 (v i) pi, le-leb 1 (v j) pj))
      (λ l. count-two (λ k. leb 1 (v k)) n (j, i, omega arith, li, le-leb 1 (v j) pj, le-leb 1 (v i) pi)) (cases_lt i j)

  yes_of : (i : ℕ) → i < n → v i ≡ 2 → 1 ≤ ys_of m t c
  unfolding ys_of at_least
  yes_of i li y = count_some (λ k. leb 2 (v k)) n (i, li, le-leb 2 (v i) (omega arith))

  says_one : Says (broken15 p (some_of m t c) (ys_of m t c)) (((0 < p) × (2 ≤ some_of m t c)) × (1 ≤ ys_of m t c))
  says_one = grind (arith, nat_tests)

  module _ (lt : c < choices m) where
    -- 15
    pub each-one : Denies (broken15 p (some_of m t c) (ys_of m t c)) (Holds m t (one c))
    each-one =
        Iff.trans (denies_it says_one) (
          (λ none i j seen li lj ne y.
              let z : ¬ (0 < v j) = λ pj. none ((seen.1, two_of i j li lj ne (omega arith) pj), yes_of i li y) in
              omega arith),
          (λ h x.
              let b = beside x.0.1 x.1 in
              omega (arith, h b.0 b.1 (lt, x.0.0) b.2 b.3 b.4 b.5)),
        )

    -- 16
    pub each-kind : Denies (broken16 p (choice_kind m c) (ms_of m t c)) (Holds m t (kind c))
    unfolding ms_of
    each-kind =
        Iff.trans (denies_it (says_and (says_and (says_lt 0 p) (says_eq (choice_kind m c) 0)) (says_le 1 (ms_of m t c)))) (
          (λ none j seen boolean lj is.
              none ((seen.1, boolean), count_some (λ k. eqb (v k) 1) n (j, lj, eq-eqb (v j) 1 is))),
          (λ h x.
              let y = some_counted (λ k. eqb (v k) 1) n x.1 in
              h y.0 (lt, x.0.0) x.0.1 y.1 (eqb-true (v y.0) 1 y.2)),
        )

    -- 17
    pub each-mandatory : Denies (broken17 p (mandatory_of m c) (some_of m t c)) (Holds m t (mandatory c))
    unfolding some_of at_least
    each-mandatory =
        Iff.trans (denies_and_then) (
          (λ h seen must.
              let x = some_counted (λ j. leb 1 (v j)) n (h (seen.1, must)) in
              (x.0, x.1, leb-true 1 (v x.0) x.2)),
          (λ h x. let y = h (lt, x.0) x.1 in count_some (λ j. leb 1 (v j)) n (y.0, y.1, le-leb 1 (v y.0) y.2)),
        )
      where
        denies_and_then : Denies (broken17 p (mandatory_of m c) (some_of m t c)) ((0 < p) × (mandatory_of m c ≡ 1) → 1 ≤ some_of m t c)
        denies_and_then = denies_then (says_and (says_lt 0 p) (says_eq (mandatory_of m c) 1)) (denies_zero (some_of m t c))

  -- SECOND PLACES
  says_other : (y j : ℕ) → Says (ltb 0 (v j) && not (eqb j y)) ((0 < v j) × (j ≢ y))
  says_other y j = says_and (says_lt 0 (v j)) (says_unlike j y)

  some_other : (y : ℕ) → Beside → Some (λ j. ltb 0 (v j) && not (eqb j y)) n
  some_other y b =
      ⊎_elim (λ z. (b.0, b.2, (says_other y b.0).1 (omega arith, λ f. b.4 (f ∙ sym z)))) (λ ne. (b.1, b.3, (says_other y b.1).1 (b.6, ne)))
      (cases_eq b.1 y)

  pub second-one : broken15 p (some_of m t c) (ys_of m t c) ≡ true → Second m t (one c) (member_of m c (other_of m t c))
  unfolding other_of first_yes
  second-one e =
      let h = says_one.0 e in
      let b = beside h.0.1 h.1 in
      let y = first_yes m t c in (
        y,
        other_of m t c,
        least_says (λ j. says_eq (v j) 2) (first-least (λ j. eqb (v j) 2) n (b.0, b.2, eq-eqb (v b.0) 2 b.5)),
        least_says (says_other y) (first-least (λ j. ltb 0 (v j) && not (eqb j y)) n (some_other y b)),
        refl,
      )

  pub second-kind : broken16 p (choice_kind m c) (ms_of m t c) ≡ true → Second m t (kind c) (member_of m c (first_module m t c))
  unfolding ms_of first_module
  second-kind e =
      let x = (and-eq-true_iff (ltb 0 p && eqb (choice_kind m c) 0) _).0 e in (
        first_module m t c,
        least_says (λ j. says_eq (v j) 1) (first-least (λ j. eqb (v j) 1) n (some_counted (λ k. eqb (v k) 1) n (leb-true 1 (ms_of m t c) x.1))),
        refl,
      )
