-- Rule 14 over what was read, and the first symbol that breaks a range. Assumes nothing.
use mathlib.Core.Path.{◌≡◌, refl, sym, ◌∙◌}
use mathlib.Core.Logic.{⊎_elim}
use mathlib.Core.Bool.{Bool, true, false, ◌&&◌, not}
use mathlib.Core.List.{List}
use Prim.Native.Nat.{ℕ, ◌+◌, ◌≤◌, ◌<◌}
use native.Mathlib.Nat.{eq-or-lt_of_le, le_of_suc-le-suc}
use native.Mathlib.Numerals.{add-one}
use native.Mathlib.Omega.{arith}
use lib.Dec.{eqb, ltb}
use borrow.Author.Tests.{ne_eqb, eq-eqb, eqb-true, eqb-false, ltb-true, ltb-false}
use Rattle.meaning.specs.Base.{Outcome}
use Rattle.meaning.specs.Base.{Clean, Fault}
use Rattle.meaning.specs.declared.Value.{Value}
use Rattle.meaning.specs.Base.{when}
use Rattle.meaning.specs.Book.{range_symbol, low_of, high_of, range_condition}
use Rattle.meaning.specs.Table.{Content, a_three, a_text, an_int, a_hex, read_of, content_of}
use Rattle.meaning.specs.Values.{val, leaf_of}
use Rattle.meaning.specs.Rules.{type_fits, within, test14}
use Rattle.spell.specs.declared.Leaf.{Leaf}
use Rattle.spell.specs.Leaves.{leaf_content, leaf_of_value}
use Rattle.values.proofs.Laws.{as_leaf}
use Rattle.std.specs.Prelude.{Option, Some, None, MatchOption, IsTrue}
use Rattle.std.specs.Option.{unwrap_or}
use Rattle.symbol_rules.specs.Ranges.{KeptAt, KeptBelow, FirstOff}

-- what stands at a symbol, as a leaf
pub content_is : (m t : List ℕ) (s : ℕ) (l : Leaf) {w : Value} → l ≡ leaf_of_value w → w ≡ read_of t s → leaf_content m t l ≡ content_of t s
unfolding content_of
content_is m t s l {w} e f = rw e (rw f (as_leaf m t (read_of t s)))

-- RULE 14 by a range on another symbol, and by one on s
pub range_off : (m t vs : List ℕ) (s r : ℕ) {x : ℕ} → x ≡ range_symbol m r → (x ≡ s → ⊥) → Clean ≡ test14 m t vs s r
unfolding test14 when
range_off m t vs s r {x} e h = rw (← e, ne_eqb x s h)

pub range_is :
    (m t vs : List ℕ) (s r : ℕ) (v low high : Leaf) {o : Outcome} {x c : ℕ} {q : Bool} → x ≡ range_symbol m r → x ≡ s
    → o ≡ when (ltb 0 c && not q) (Fault 14 s r) → c ≡ val vs (range_condition m r) → q ≡ within (leaf_content m t low) (leaf_content m t high) (leaf_content m t v)
    → leaf_content m t v ≡ content_of t s → leaf_content m t low ≡ leaf_of m t (low_of m r) → leaf_content m t high ≡ leaf_of m t (high_of m r)
    → o ≡ test14 m t vs s r
unfolding test14
range_is m t vs s r v low high {x = x} ex xs e ec eq ev el eh =
    e ∙ rw (← ex, xs, eq-eqb s s refl, ec, eq, ev, el, eh)

-- THE FIRST SYMBOL WITH A BROKEN RANGE: one range, and one more
module _ (m t vs : List ℕ) (r : ℕ) {x : ℕ} (ex : x ≡ range_symbol m r) where
  pub kept_before : (off : ℕ) → off ≤ x → KeptAt m t vs off r
  kept_before off l s h = sym (range_off m t vs s r ex (λ e. absurd (omega arith)))

  pub kept_there : (off : ℕ) → test14 m t vs x r ≡ Clean → KeptAt m t vs off r
  kept_there off e s h = by (eqb x s) refl
    where
      by : (b : Bool) → eqb x s ≡ b → test14 m t vs s r ≡ Clean
      by true q = let z : x ≡ s = eqb-true x s q in rw z at e
      by false q = sym (range_off m t vs s r ex (eqb-false x s q))

-- a range that is kept below the symbol found so far, and one that is broken on a symbol below that
abbrev bound : Option ℕ → ℕ
bound o = unwrap_or o 65536

module _ (m t vs : List ℕ) (r : ℕ) where
  kept_more : {off : ℕ} → KeptAt m t vs off r → KeptBelow m t vs r off → KeptBelow m t vs (r + 1) off
  kept_more kept all q l s h =
      ⊎_elim (λ (e : q ≡ r). rw e (kept s h)) (λ k. all q k s h) (eq-or-lt_of_le (le_of_suc-le-suc (rw (add-one r) at l)))

  pub off_stays : (o : Option ℕ) → FirstOff m t vs r o → KeptAt m t vs (bound o) r → FirstOff m t vs (r + 1) o
  off_stays None all kept = kept_more kept all
  off_stays (Some off) f kept = (f.0, kept_more kept f.1, λ lt clean. f.2 lt (λ q l. clean q (omega arith)))

  pub off_found : {x : ℕ} → x ≡ range_symbol m r → x < 65536 → (o : Option ℕ) → FirstOff m t vs r o → x < bound o → (test14 m t vs x r ≡ Clean → ⊥)
      → FirstOff m t vs (r + 1) (Some x)
  off_found {x} ex small o f lt bad = (small, kept_more (kept_before m t vs r ex x (omega arith)) (below o f lt), λ _ clean. bad (clean r (omega arith)))
    where
      below : (o : Option ℕ) → FirstOff m t vs r o → x < bound o → KeptBelow m t vs r x
      below None all l q h s i = all q h s (omega arith)
      below (Some off) f l q h s i = f.1 q h s (omega arith)

-- what the test says of the symbol found so far
module _ (o : Option ℕ) {b : Bool} {s : ℕ} {Q : ℕ → Type 0} (e : MatchOption o (IsTrue b) Q) (says : (off : ℕ) → Q off → b ≡ ltb s off) where
  pub lies_below : s < 65536 → b ≡ true → s < bound o
  lies_below = by o e
    where
      by : (o : Option ℕ) → MatchOption o (IsTrue b) Q → s < 65536 → b ≡ true → s < bound o
      by None e small y = small
      by (Some off) e small y = ltb-true _ off (sym (says off e) ∙ y)

  pub lies_past : b ≡ false → bound o ≤ s
  lies_past = by o e
    where
      by : (o : Option ℕ) → MatchOption o (IsTrue b) Q → b ≡ false → bound o ≤ s
      by None e n = absurd (cc (e, n))
      by (Some off) e n = ltb-false _ off (sym (says off e) ∙ n)

-- no value fits a type above the last
pub no_type : (y : ℕ) (v : Content) → 4 < y → type_fits y v ≡ false
no_type y (a_three v) h = rw (ne_eqb y 0 (omega arith), ne_eqb y 1 (omega arith))
no_type y (a_text l) h = rw (ne_eqb y 2 (omega arith), ne_eqb y 3 (omega arith), ne_eqb y 4 (omega arith))
no_type y (an_int z) h = ne_eqb y 3 (omega arith)
no_type y (a_hex g) h = ne_eqb y 4 (omega arith)
