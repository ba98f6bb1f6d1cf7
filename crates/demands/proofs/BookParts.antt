-- The book's search, part by part: each part is clean where the book is well-formed there, and gives the fault that document 01 names. Sections
-- and records are numbered as the document does, and members count by their index, since well-formed choices take them in order. Assumes nothing.
use Prim.Native.Nat.{ℕ, zero, suc, ◌+◌, ◌≤◌, ◌<◌}
use mathlib.Core.Path.{◌≡◌, refl, ap, subst}
use mathlib.Core.Bool.{true, false}
use mathlib.Mathlib.Data.Bool.Basic.{eq-true_of_not-eq-false}
use mathlib.Core.Logic.Iff
use mathlib.Core.Logic.{◌⊎◌, inl, inr, ◌↔◌, ◌≢◌, ⊎_elim}
use mathlib.Core.List.{List}
use native.Mathlib.Nat.{not-suc-le-zero, eq-or-lt_of_le, le_of_suc-le-suc}
use native.Mathlib.Numerals.{add-one}
use native.Mathlib.Omega.{arith}
use lib.ListN.{length}
use Rattle.std.proofs.lemmas.Bool.Decides.{nat_tests}
use Rattle.std.proofs.lemmas.Bool.{cases_order}
use Rattle.meaning.specs.Base.{first_below}
use Rattle.meaning.specs.Book.{total, start, count, end_of, due, symbols, choices, members, type_of, first_member, member_count, modules_of, member_due, choice_ok, member_ok, length_fault, chain_at, end_fault, chain_fault, record_ok, record_at, section_fault, unused_fault, member_at, choice_members_fault, members_fault, section_after, records_fault, modules_fault, book_fault, WellFormed}
use Rattle.demands.specs.Broken.{Least}
use Rattle.demands.specs.Refused.{BadLength, Sized, BadSection, Chained, BadIn, GoodBelow, BadMember, BadRecord, Recorded, BadModules}
use Rattle.demands.proofs.Bools.{says_unlike, denies_unlike, says_and, says_or, says_not, denies_and, denies_or, denies_not, denies_it, says_lt, denies_lt, says_eq}
use Rattle.demands.proofs.Faults.{Search, search_when, search_then, search_turn, search_each}

-- counted from 1 instead of 0
shift_least : (P : ℕ → Type 0) (n p : ℕ) → ((i : ℕ) × Least (λ j. (j < n) × P (j + 1)) i × (p ≡ i + 1)) ↔ Least (λ k. (0 < k) × ((k ≤ n) × P k)) p
shift_least P n p = (there p, back p)
  where
    there : (p : ℕ) → ((i : ℕ) × Least (λ j. (j < n) × P (j + 1)) i × (p ≡ i + 1)) → Least (λ k. (0 < k) × ((k ≤ n) × P k)) p
    there p x = (
      (omega arith, (omega arith, rw x.2 x.1.0.1)),
      (λ k l y. below k l y),
    )
      where
        below : (k : ℕ) → k < p → ¬ ((0 < k) × ((k ≤ n) × P k))
        below zero l y = not-suc-le-zero y.0
        below (suc k) l y = x.1.1 k (omega arith) (y.1.0, rw add-one y.1.1)

    back : (p : ℕ) → Least (λ k. (0 < k) × ((k ≤ n) × P k)) p → (i : ℕ) × Least (λ j. (j < n) × P (j + 1)) i × (p ≡ i + 1)
    back zero h = absurd (not-suc-le-zero h.0.0)
    back (suc i) h = (
      i,
      ((h.0.1.0, rw add-one h.0.1.1), λ j l y. h.1 (j + 1) (omega arith) (omega arith, (omega arith, y.1))),
      omega arith,
    )

module _ (m : List ℕ) where
  -- 1
  length_search : Search (length_fault m) (Sized m) (λ n p s. BadLength m × (n ≡ 1) × (p ≡ 0) × (s ≡ 65535))
  unfolding length_fault
  length_search =
      search_when 1 0 65535 (says_or (says_lt (length m) 36) (says_unlike (length m) (total m)))
      (denies_or (denies_lt (length m) 36) (denies_unlike (length m) (total m)))

  -- 2
  chain_search : Search (chain_fault m) (Chained m) (λ n p s. BadSection m p × (n ≡ 2) × (s ≡ 65535))
  unfolding chain_fault chain_at end_fault due
  chain_search =
      let each = search_each 2 (λ k. k + 1) (λ k. 65535) 8 (λ k. says_unlike (start m (k + 1)) _) (λ k. denies_unlike (start m (k + 1)) _) in
      let all = search_then each (search_when 2 8 65535 (says_unlike (end_of m 8) (total m)) (denies_unlike (end_of m 8) (total m))) in
      record {
        clean = all.clean;
        fault = λ n p s.
            let f = all.fault n p s in
            let shift = shift_least (λ k. start m k ≢ due m k) 8 p in (
              (λ e.
                  ⊎_elim (λ x. (inl (shift.0 (x.0, x.1, x.3)), x.2, x.4)) (λ x. (inr (x.0, (x.1.0, x.1.2)), x.1.1, x.1.3))
                  (f.0 e)),
              (λ h.
                  ⊎_elim (λ x. let y = shift.1 x in f.1 (inl (y.0, y.1, h.1, y.2, h.2)))
                  (λ x. f.1 (inr (x.0, (x.1.0, h.1, x.1.1, h.2)))) h.0),
            );
      }

  -- 3, sections 1 to 6
  section_search : (k : ℕ)
      → Search (section_fault m k) ((i : ℕ) → i < count m k → record_ok m k i ≡ true)
      (λ n p s. (i : ℕ) × Least (BadIn m k) i × (n ≡ 3) × (p ≡ k) × (s ≡ i))
  unfolding section_fault record_at
  section_search k = search_each 3 (λ i. k) (λ i. i) (count m k) (λ i. says_not Iff.rfl) (λ i. denies_not Iff.rfl)

  good_shift : (n : ℕ) → ((k : ℕ) → k < n → (i : ℕ) → i < count m (k + 1) → record_ok m (k + 1) i ≡ true) ↔ GoodBelow m (n + 1)
  good_shift n = (λ h j. there h j, λ h k lt i l. h (k + 1) i (omega arith) (omega arith) l)
    where
      there :
          ((k : ℕ) → k < n → (i : ℕ) → i < count m (k + 1) → record_ok m (k + 1) i ≡ true)
          → (j i : ℕ) → 0 < j → j < n + 1 → i < count m j → record_ok m j i ≡ true
      there h zero i pos lt l = absurd (not-suc-le-zero pos)
      there h (suc j) i pos lt l = subst (λ q. i < count m q → record_ok m q i ≡ true) (add-one j) (h j (omega arith) i) l

  abbrev FirstRecord : ℕ → ℕ → Type 0
  FirstRecord p s = (0 < p) × (p ≤ 6) × GoodBelow m p × Least (BadIn m p) s

  sections_search : Search (first_below (section_after m) 6) (GoodBelow m 7) (λ n p s. FirstRecord p s × (n ≡ 3))
  unfolding section_after
  sections_search =
      let all = search_turn 6 (λ k. section_search (k + 1)) in
      record {
        clean = Iff.trans all.clean (good_shift 6);
        fault = λ n p s. Iff.trans (all.fault n p s) (there n p s, back n p s);
      }
    where
      Raw : ℕ → ℕ → ℕ → Type 0
      Raw n p s =
          (k : ℕ) × (k < 6) × ((i : ℕ) × Least (BadIn m (k + 1)) i × (n ≡ 3) × (p ≡ k + 1) × (s ≡ i))
          × ((j : ℕ) → j < k → (i : ℕ) → i < count m (j + 1) → record_ok m (j + 1) i ≡ true)

      there : (n p s : ℕ) → Raw n p s → FirstRecord p s × (n ≡ 3)
      there n p s x =
          let y = x.2 in (
            (omega arith, omega arith, rw y.3 ((good_shift x.0).0 x.3), rw (y.3, y.4) y.1),
            y.2,
          )

      back : (n p s : ℕ) → FirstRecord p s × (n ≡ 3) → Raw n p s
      back n zero s h = absurd (not-suc-le-zero h.0.0)
      back n (suc k) s h = (
        k,
        h.0.1,
        (s, rw add-one h.0.3, h.1, omega arith, refl),
        (good_shift k).1 (rw add-one h.0.2),
      )

  -- 3, section 7: choice by choice, and each choice's members in turn
  choice_members_search : (c : ℕ)
      → Search (choice_members_fault m c) ((j : ℕ) → j < member_count m c → member_ok m c (first_member m c + j) ≡ true)
      (λ n p s. (j : ℕ) × Least (λ j. (j < member_count m c) × (member_ok m c (first_member m c + j) ≡ false)) j × (n ≡ 3) × (p ≡ 7) × (s ≡ first_member m c + j))
  unfolding choice_members_fault member_at
  choice_members_search c =
      search_each 3 (λ j. 7) (λ j. first_member m c + j) (member_count m c) (λ j. says_not Iff.rfl) (λ j. denies_not Iff.rfl)

  -- well-formed choices take their members in order, so an earlier choice has earlier members
  module _ (good : GoodBelow m 7) where
    starts : (c : ℕ) → c < choices m → first_member m c ≡ member_due m c
    unfolding record_ok choice_ok
    starts c lt =
        let ok : choice_ok m c ≡ true = good 6 c (omega arith) (omega arith) lt in
        grind (arith, nat_tests)

    in_order : (c d : ℕ) → c < d → d < choices m → first_member m c + member_count m c ≤ first_member m d
    unfolding member_due
    in_order c zero l lt = omega arith
    in_order c (suc d) l lt =
        let e = starts (suc d) lt in
        ⊎_elim (λ (q : c ≡ d). rw q (omega arith)) (λ k. omega (arith, in_order c d k (omega arith)))
        (eq-or-lt_of_le (le_of_suc-le-suc l))

    Raw : ℕ → ℕ → ℕ → Type 0
    Raw n p s =
        (c : ℕ) × (c < choices m)
        × ((j : ℕ) × Least (λ j. (j < member_count m c) × (member_ok m c (first_member m c + j) ≡ false)) j × (n ≡ 3) × (p ≡ 7) × (s ≡ first_member m c + j))
        × ((d : ℕ) → d < c → (j : ℕ) → j < member_count m d → member_ok m d (first_member m d + j) ≡ true)

    there : (n p s : ℕ) → Raw n p s → (p ≡ 7) × Least (BadMember m) s × (n ≡ 3)
    unfolding Raw
    there n p s x =
        let c = x.0 in
        let y = x.2 in
        let j = y.0 in (
          y.3,
          ((c, j, x.1, y.1.0.0, y.4, rw y.4 y.1.0.1), λ k l b. below c x.1 j y.4 y.1 x.3 k l b),
          y.2,
        )
      where
        below : (c : ℕ) → c < choices m → (j : ℕ) → s ≡ first_member m c + j
            → Least (λ j. (j < member_count m c) × (member_ok m c (first_member m c + j) ≡ false)) j
            → ((d : ℕ) → d < c → (j : ℕ) → j < member_count m d → member_ok m d (first_member m d + j) ≡ true)
            → (k : ℕ) → k < s → ¬ BadMember m k
        below c lt j e least before k l b =
            let d = b.0 in
            let i = b.1 in
            let bad : member_ok m d (first_member m d + i) ≡ false = rw b.4 at b.5 in
            ⊎_elim
            (λ (same : d ≡ c).
            least.1 i (omega (arith, ap (first_member m) same))
            (subst (λ q. (i < member_count m q) × (member_ok m q (first_member m q + i) ≡ false)) same (b.3, bad)))
            (⊎_elim (λ less. cc (before d less i b.3)) (λ more. omega (arith, in_order c d more b.2)))
            (cases_order d c)

    back : (n p s : ℕ) → (p ≡ 7) × Least (BadMember m) s × (n ≡ 3) → Raw n p s
    unfolding Raw
    back n p s h =
        let b = h.1.0 in
        let c = b.0 in
        let j = b.1 in (
          c,
          b.2,
          (
            j,
            ((b.3, rw b.4 at b.5), λ i l y. h.1.1 (first_member m c + i) (omega arith) (c, i, b.2, y.0, refl, y.1)),
            h.2,
            h.0,
            b.4,
          ),
          (λ d l i li.
              eq-true_of_not-eq-false
              (λ bad. h.1.1 (first_member m d + i) (omega (arith, in_order d c l b.2)) (d, i, omega arith, li, refl, bad))),
        )

  records_search : Search (records_fault m) (Recorded m) (λ n p s. BadRecord m p s × (n ≡ 3))
  unfolding records_fault unused_fault members_fault Raw
  records_search =
      let unused = search_when 3 6 (choices m) (says_unlike (member_due m (choices m)) (members m)) (denies_unlike (member_due m (choices m)) (members m)) in
      let all = search_then sections_search (search_then unused (search_turn (choices m) choice_members_search)) in
      record {
        clean = (
          (λ e. let g = all.clean.0 e in (g.0, g.1.0, λ c j l k. g.1.1 c l j k)),
          (λ g. all.clean.1 (g.0, (g.1, λ c l j k. g.2 c j l k))),
        );
        fault = λ n p s.
            let f = all.fault n p s in (
              (λ e.
                  ⊎_elim (λ x. (inl x.0, x.1))
                  (λ x.
                  ⊎_elim (λ u. (inr (inl (x.0, u.0, u.2, u.3)), u.1))
                  (λ u. let y = there x.0 n p s u.1 in (inr (inr (x.0, u.0, y.0, y.1)), y.2))
                  x.1)
                  (f.0 e)),
              (λ h.
                  ⊎_elim (λ x. f.1 (inl (x, h.1)))
                  (⊎_elim (λ x. f.1 (inr (x.0, inl (x.1, h.1, x.2, x.3))))
                  (λ x. f.1 (inr (x.0, inr (x.1, back x.0 n p s (x.2, x.3, h.1))))))
                  h.0),
            );
      }

  -- 4
  abbrev GoodModules : Type 0
  GoodModules = (modules_of m ≡ 65535) ⊎ ((modules_of m < symbols m) × (type_of m (modules_of m) ≡ 0))

  modules_search :
      Search (modules_fault m) GoodModules
      (λ n p s. BadModules m × (n ≡ 4) × (p ≡ modules_of m) × (s ≡ 65535))
  unfolding modules_fault
  modules_search =
      let o = modules_of m in
      let boolean = says_and (says_lt o (symbols m)) (says_eq (type_of m o) 0) in
      search_when 4 o 65535 (says_and (says_unlike o 65535) (says_not (denies_it boolean)))
      (denies_and (denies_unlike o 65535) (denies_not boolean))

  -- THE WHOLE
  -- each number behind the absence of those before it
  abbrev pub BadBook : ℕ → ℕ → ℕ → Type 0
  BadBook n p s =
      (BadLength m × (n ≡ 1) × (p ≡ 0) × (s ≡ 65535))
      ⊎ (Sized m
      × ((BadSection m p × (n ≡ 2) × (s ≡ 65535))
      ⊎ (Chained m × ((BadRecord m p s × (n ≡ 3)) ⊎ (Recorded m × (BadModules m × (n ≡ 4) × (p ≡ modules_of m) × (s ≡ 65535)))))))

  good_records : WellFormed m → GoodBelow m 7
  unfolding record_ok
  good_records w zero i pos lt l = cc
  good_records w (suc zero) i pos lt l = w.symbol i l
  good_records w (suc (suc zero)) i pos lt l = w.node i l
  good_records w (suc (suc (suc zero))) i pos lt l = w.default i l
  good_records w (suc (suc (suc (suc zero)))) i pos lt l = w.select i l
  good_records w (suc (suc (suc (suc (suc zero))))) i pos lt l = w.range i l
  good_records w (suc (suc (suc (suc (suc (suc zero)))))) i pos lt l = w.choice i l
  good_records w (suc (suc (suc (suc (suc (suc (suc j))))))) i pos lt l = absurd (omega arith)

  well_formed : Sized m → Chained m → Recorded m → GoodModules → WellFormed m
  unfolding record_ok
  well_formed a b c d =
      record {
        long = a.0;
        whole = a.1;
        chained = b.0;
        ended = b.1;
        symbol = λ i l. c.0 1 i (omega arith) (omega arith) l;
        node = λ i l. c.0 2 i (omega arith) (omega arith) l;
        default = λ i l. c.0 3 i (omega arith) (omega arith) l;
        select = λ i l. c.0 4 i (omega arith) (omega arith) l;
        range = λ i l. c.0 5 i (omega arith) (omega arith) l;
        choice = λ i l. c.0 6 i (omega arith) (omega arith) l;
        used = c.1;
        member = c.2;
        modules = d;
      }

  pub book_search : Search (book_fault m) (WellFormed m) BadBook
  unfolding book_fault
  book_search =
      let all = search_then length_search (search_then chain_search (search_then records_search modules_search)) in
      record {
        clean = (
          (λ e. let g = all.clean.0 e in well_formed g.0 g.1.0 g.1.1.0 g.1.1.1),
          (λ w.
              all.clean.1 (
                (w.long, w.whole),
                ((w.chained, w.ended), ((good_records w, w.used, w.member), w.modules)),
              )),
        );
        fault = all.fault;
      }

-- by its four numbers
pub book_cases :
    (m : List ℕ) (n p s : ℕ) {R : Type 0}
    → (BadLength m × (p ≡ 0) × (s ≡ 65535) → n ≡ 1 → R)
    → (Sized m × BadSection m p × (s ≡ 65535) → n ≡ 2 → R)
    → (Sized m × Chained m × BadRecord m p s → n ≡ 3 → R)
    → (Sized m × Chained m × Recorded m × BadModules m × (p ≡ modules_of m) × (s ≡ 65535) → n ≡ 4 → R)
    → BadBook m n p s → R
book_cases m n p s a b c d = grind (arith, nat_tests)
