-- A pass over the member records: what the marks say of those so far, before the first turn and after each; then block by block. Assumes nothing.
use Prim.Native.Nat.{ℕ, ◌+◌, ◌-◌, ◌≤◌, ◌<◌}
use native.Mathlib.Nat.{eq-or-lt_of_le, le_of_suc-le-suc}
use native.Mathlib.Omega.{arith}
use native.Mathlib.Numerals.{add-one}
use mathlib.Core.Path.{◌≡◌, refl, sym, ◌∙◌}
use mathlib.Core.Logic.{⊎_elim}
use mathlib.Core.Bool.{Bool, true, false, true≢false}
use mathlib.Core.List.{List}
use lib.Dec.{eqb, ltb}
use lib.ListN.{length, get_or, set}
use lib.Seq.{get_or-set_same, get_or-set_other}
use borrow.Author.Tests.{eq-eqb, ne_eqb, eqb-true, eqb-false, ltb-true, ltb-false}
use Rattle.meaning.specs.Base.{all_below}
use Rattle.meaning.specs.Book.{member_symbol, new_member}
use Rattle.meaning.proofs.Below.{all_none, all_more, all_stop}
use Rattle.members.specs.Old.{Fresh, Old, FreshIn, FirstOldIn}

-- ONE RECORD MORE, on another symbol or on this one
module _ (m : List ℕ) (i t : ℕ) where
  more : new_member m i t ≡ true → (member_symbol m i ≡ t → ⊥) → new_member m (i + 1) t ≡ true
  unfolding new_member
  more h n = all_more _ i h refl (rw (ne_eqb (member_symbol m i) t n))

  still : new_member m i t ≡ false → new_member m (i + 1) t ≡ false
  unfolding new_member all_below
  still h = rw (add-one i, h)

  there : member_symbol m i ≡ t → new_member m (i + 1) t ≡ false
  unfolding new_member
  there e = sym (all_stop _ (i + 1) i (omega arith) refl (rw (eq-eqb (member_symbol m i) t e)))

module _ (m : List ℕ) (base width : ℕ) where
  -- the symbols of the block without a mark stand in none of the first i records, those with one in some
  abbrev pub Marks : ℕ → List Bool → Type 0
  Marks i met = (k : ℕ) → k < width → (get_or met k false ≡ false → new_member m i (base + k) ≡ true) × (get_or met k false ≡ true → new_member m i (base + k) ≡ false)

  pub none_met : (met : List Bool) → ((k : ℕ) → k < width → get_or met k false ≡ false) → Marks 0 met
  unfolding new_member
  none_met met zeros k l = (λ e. all_none _, λ n. absurd (true≢false (sym n ∙ zeros k l)))

  pub none_old : FreshIn m base (base + width) 0
  none_old i l = absurd (omega arith)

  -- the turn of record i, which is on symbol s
  module _ (met : List Bool) (i : ℕ) {s : ℕ} (es : s ≡ member_symbol m i) (all : Marks i met) (fresh : FreshIn m base (base + width) i) where
    next : (base ≤ member_symbol m i → member_symbol m i < base + width → Fresh m i) → FreshIn m base (base + width) (i + 1)
    next here j l lo hi =
        ⊎_elim (λ (e : j ≡ i). rw e (here (rw e at lo) (rw e at hi))) (λ k. fresh j k lo hi) (eq-or-lt_of_le (le_of_suc-le-suc (rw (add-one i) at l)))

    -- where it stands in the block, at k
    module _ (k : ℕ) (within : base ≤ s) (lk : k < width) (ek : k ≡ s - base) where
      at_k : member_symbol m i ≡ base + k
      at_k = sym es ∙ omega arith

      pub turn_met : get_or met k false ≡ false → width ≤ length met → Marks (i + 1) (set met k true) × FreshIn m base (base + width) (i + 1)
      turn_met free len = (λ a la. by a la (eqb a k) refl, next (λ lo hi. rw at_k ((all k lk).0 free)))
        where
          by : (a : ℕ) → a < width → (b : Bool) → eqb a k ≡ b
              → (get_or (set met k true) a false ≡ false → new_member m (i + 1) (base + a) ≡ true)
              × (get_or (set met k true) a false ≡ true → new_member m (i + 1) (base + a) ≡ false)
          by a la true q =
              let z : a ≡ k = eqb-true a k q in
              let o = get_or-set_same met k true false (omega arith) in
              (λ e. absurd (true≢false (sym o ∙ (rw z at e))), λ n. there m i (base + a) (at_k ∙ rw z))
          by a la false q =
              let n = eqb-false a k q in
              let o = get_or-set_other met k a true false n in
              (λ e. more m i (base + a) ((all a la).0 (sym o ∙ e)) (λ h. n (omega (arith, at_k))), λ e. still m i (base + a) ((all a la).1 (sym o ∙ e)))

    pub turn_out : ((base ≤ s) × (s - base < width) → ⊥) → Marks (i + 1) met × FreshIn m base (base + width) (i + 1)
    turn_out out = (
      λ a la. (λ e. more m i (base + a) ((all a la).0 e) (λ h. out (omega (arith, es, h), omega (arith, es, h))), λ e. still m i (base + a) ((all a la).1 e)),
      next (λ lo hi. absurd (out (omega (arith, es), omega (arith, es)))),
    )

  -- BLOCK BY BLOCK: among the symbols below the block, then among those below the next; the block's pass goes up to the first found so far
  pub block_more : (n : ℕ) {r q : ℕ} → FirstOldIn m 0 base n r → FirstOldIn m base (base + width) r q → FirstOldIn m 0 (base + width) n q
  block_more n {r} {q} below here =
      record {
        within = omega (arith, below.within, here.within);
        before = λ i l lo hi. by i l hi (ltb (member_symbol m i) base) refl;
        old = λ l. first l (ltb q r) refl;
      }
    where
      by : (i : ℕ) → i < q → member_symbol m i < base + width → (b : Bool) → ltb (member_symbol m i) base ≡ b → Fresh m i
      by i l hi true e = below.before i (omega (arith, here.within)) (omega arith) (ltb-true _ _ e)
      by i l hi false e = here.before i l (ltb-false _ _ e) hi

      first : q < n → (b : Bool) → ltb q r ≡ b → (0 ≤ member_symbol m q) × (member_symbol m q < base + width) × Old m q
      first l true e = let o = here.old (ltb-true _ _ e) in (omega arith, o.1, o.2)
      first l false e =
          let same : q ≡ r = omega (arith, here.within, ltb-false q r e) in
          let o = below.old (rw same at l) in
          rw same (omega arith, omega (arith, o.1), o.2)
