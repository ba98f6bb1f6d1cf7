-- Well-formed choices take the members in turn; what the first member record that is old says of each member up to it. Assumes nothing.
use mathlib.Core.Path.{◌≡◌, refl, sym, ◌∙◌}
use mathlib.Core.Bool.{Bool, true, false, ◌&&◌, not, true≢false, and-eq-true_iff}
use mathlib.Core.List.{List}
use Prim.Native.Nat.{ℕ, ◌+◌, ◌-◌, ◌≤◌, ◌<◌}
use native.Mathlib.Omega.{arith}
use native.Mathlib.Numerals.{add-one}
use lib.Dec.{eqb, leb, ltb}
use lib.ListN.{get_or}
use borrow.Author.Tests.{leb-true, eqb-true, eqb-false, ltb-true, ltb-false, not-false}
use Rattle.meaning.specs.Base.{Clean, Fault}
use Rattle.meaning.specs.Base.{Outcome}
use Rattle.meaning.specs.Base.{half, when, first_below}
use Rattle.meaning.specs.Book.{count, symbols, nodes, choices, members, type_of, choice_kind, mandatory_of, choice_prompt, member_due, first_member, member_count, member_symbol, choice_ok, new_member, member_ok, record_ok, record_at, section_fault, section_after, member_at, choice_members_fault}
use Rattle.meaning.proofs.First.{clean_all, when_iff, a_fault}
use Rattle.members.specs.Old.{FirstOld}
use Rattle.book.specs.Turns.{Turn, InTurn}

-- a list of bytes
abbrev pub Bytes : List ℕ → Type 0
Bytes m = (i : ℕ) → get_or m i 0 < 256

half_small : (m : List ℕ) → Bytes m → (i : ℕ) → half m i < 65536
unfolding half
half_small m small i = omega (arith, small i, small (i + 1))

-- THE CHOICES, where section 6 is clean
choice_turns : (m : List ℕ) (c : ℕ) → choice_ok m c ≡ true → (first_member m c ≡ member_due m c) × (first_member m c + member_count m c ≤ members m)
unfolding choice_ok
choice_turns m c h =
    let own = leb (choice_kind m c) 1 && leb (mandatory_of m c) 1 && ltb (choice_prompt m c) (nodes m) in
    let due = eqb (first_member m c) (member_due m c) in
    let both = (and-eq-true_iff (own && due) (leb (first_member m c + member_count m c) (members m))).0 h in
    (eqb-true _ _ ((and-eq-true_iff own due).0 both.0).1, leb-true _ _ both.1)

pub in_turn_lem : (m : List ℕ) → Bytes m → first_below (section_after m) 6 ≡ Clean → InTurn m
unfolding section_after section_fault record_at record_ok count
in_turn_lem m small h c lt =
    let choices-clean = clean_all (section_after m) 6 h 5 (omega arith) in
    let choice-clean = clean_all (record_at m 6) (choices m) choices-clean c lt in
    let turns = choice_turns m c (not-false _ ((when_iff _ _ (a_fault 3 6 c)).0 choice-clean)) in
    (turns.0, turns.1, half_small m small 30)

-- THE MEMBERS up to the first record that is old
module _ (m : List ℕ) {old : ℕ} (first : FirstOld m old) where
  -- record i of choice c, whatever stands before it
  abbrev fits_at : ℕ → ℕ → Bool
  fits_at c i = ltb (member_symbol m i) (symbols m) && leb (type_of m (member_symbol m i)) (choice_kind m c)

  -- up to it, a record is bad if it does not fit, or is that one
  member_by : (c i : ℕ) → i < members m → i ≤ old → (fits_at c i && not (eqb i old)) ≡ member_ok m c i
  unfolding member_ok
  member_by c i l le = by (eqb i old) refl
    where
      new : (a b n : Bool) → (a ≡ true → n ≡ true) → (a && b && true) ≡ (a && b && n)
      new false b n h = refl
      new true b n h = rw (h refl)

      by : (q : Bool) → eqb i old ≡ q → (fits_at c i && not q) ≡ (fits_at c i && new_member m i (member_symbol m i))
      by true e =
          let same : i ≡ old = eqb-true i old e in
          rw same (rw (first.old (rw same at l)).2)
      by false e = new _ _ _ (λ h. first.before i (omega (arith, eqb-false i old e)) (omega arith) (ltb-true _ _ h))

  pub member_is : (c j : ℕ) {a : ℕ} {fits : Bool} {r : Outcome}
      → a ≡ first_member m c
      → a + j < members m
      → a + j ≤ old
      → fits ≡ fits_at c (a + j)
      → r ≡ when (not (fits && not (eqb (a + j) old))) (Fault 3 7 (a + j))
      → r ≡ member_at m c j
  unfolding member_at
  member_is c j {a} ea l le ef er = rw (← ea, ← member_by c (a + j) l le, ← ef) er

  -- members that are clean do not reach past it
  pub clean_before : (c j : ℕ) → first_below (member_at m c) j ≡ Clean → first_member m c ≤ old → first_member m c + j ≤ members m → first_member m c + j ≤ old
  unfolding member_at member_ok
  clean_before c j clean le l = by (ltb old (first_member m c + j)) refl
    where
      by : (b : Bool) → ltb old (first_member m c + j) ≡ b → first_member m c + j ≤ old
      by false e = ltb-false _ _ e
      by true e =
          let lt = ltb-true old (first_member m c + j) e in
          let k = old - first_member m c in
          let at : first_member m c + k ≡ old = omega arith in
          let ok : member_ok m c (first_member m c + k) ≡ true = not-false _ ((when_iff _ _ (a_fault 3 7 (first_member m c + k))).0 (clean_all (member_at m c) j clean k (omega arith))) in
          let new = ((and-eq-true_iff (fits_at c old) (new_member m old (member_symbol m old))).0 (rw at at ok)).1 in
          absurd (true≢false (sym new ∙ (first.old (omega arith)).2))

  -- so the next choice's begin no later than it
  pub due_none : member_due m 0 ≤ old
  unfolding member_due
  due_none = omega arith

  pub due_more : (c : ℕ) {r : Outcome} → member_due m c ≤ old → Turn m c → r ≡ choice_members_fault m c → r ≡ Clean → member_due m (c + 1) ≤ old
  unfolding member_due choice_members_fault
  due_more c le turn er clean = rw (add-one c) (clean_before c (member_count m c) (sym er ∙ clean) (omega (arith, turn.0)) turn.1)
