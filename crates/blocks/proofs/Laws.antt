-- One pass over records that fills a room for a block of symbols: one law for every such pass; then what the rooms say of a symbol. Assumes nothing.
use mathlib.Core.Path.{◌≡◌, refl, sym, ◌∙◌, ap}
use mathlib.Core.Bool.{Bool, true, false}
use mathlib.Core.List.{List, []}
use Prim.Native.Nat.{ℕ, zero, suc, ◌+◌, ◌-◌, ◌≤◌, ◌<◌}
use native.Mathlib.Omega.{arith}
use native.Mathlib.Numerals.{add-one}
use lib.Dec.{eqb, ltb}
use lib.ListN.{length, get_or, set, replicate, get_or-replicate}
use lib.Seq.{get_or-set_same, get_or-set_other}
use borrow.Author.Tests.{ne_eqb, eqb-true, eqb-false}
use Rattle.tri.specs.Three.{or_of}
use Rattle.meaning.specs.Base.{Outcome}
use Rattle.std.specs.Prelude.{Ok, Err, Option, Some, None}
use Rattle.meaning.specs.declared.Answer.{Answer}
use Rattle.meaning.specs.Base.{Clean, Fault}
use Rattle.meaning.specs.Base.{pick, fold, when, or_else, first_below}
use Rattle.meaning.specs.Book.{selects, defaults, ranges, target_of, default_symbol, default_value, three_type}
use Rattle.meaning.specs.Table.{Content, a_text, content_of, value_of}
use Rattle.meaning.specs.Values.{val, leaf_of, given, condition_value, lower_step, lower_from, lower_of, default_step, default_from, default_of, default_content, prompt_value}
use Rattle.meaning.specs.Rules.{broken13_content, three_tests, three_fault, other_fault, test14, symbol_fault}
use Rattle.meaning.proofs.First.{clean_all, all_clean, block_fault, first_fault, first_clean}
use Rattle.symbol_rules.specs.Ranges.{KeptBelow, FirstOff}
use Rattle.blocks.specs.Rows.{Rows, first_default, chosen, own_fault}

-- A STORE of v at the place of symbol t: what then stands at the place a
module _ (room : List ℕ) (base a : ℕ) {t i : ℕ} (v : ℕ) (le : base ≤ t) (ei : i ≡ t - base) where
  stored_here : length room ≡ 96 → a < 96 → eqb t (base + a) ≡ true → (i ≡ a) × (get_or (set room i v) a 0 ≡ v)
  stored_here len l h = let e = eqb-true _ _ h in let z : i ≡ a = omega (arith, e) in (z, rw z (get_or-set_same room a v 0 (omega arith)))

  stored_apart : eqb t (base + a) ≡ false → get_or (set room i v) a 0 ≡ get_or room a 0
  stored_apart h = get_or-set_other room i a v 0 (λ e. eqb-false _ _ h (omega arith))

-- A PASS: before its first turn, and after the turn of record j, on symbol t, that stores v at place i, or nothing outside the block
module _ (step : ℕ → ℕ → ℕ → ℕ) (base : ℕ) where
  pub rows_none : Rows step 0 base (replicate 96 0)
  unfolding fold
  rows_none i l w = get_or-replicate 96 i 0 0 l

  module _ (room : List ℕ) (j : ℕ) (f : ℕ → ℕ) (t : ℕ) (es : (s x : ℕ) → step s j x ≡ pick (eqb t s) (f x) x) (all : Rows step j base room) where
    off : (a : ℕ) → a < 96 → base + a < 65536 → eqb t (base + a) ≡ false → get_or room a 0 ≡ step (base + a) j (fold (step (base + a)) 0 j)
    off a l w h = rw (es (base + a) (fold (step (base + a)) 0 j), h) (all a l w)

    pub rows_more : {i v : ℕ} → base ≤ t → i ≡ t - base → v ≡ f (get_or room i 0) → length room ≡ 96 → Rows step (j + 1) base (set room i v)
    unfolding fold
    rows_more {i} {v} le ei ev len a l w = rw (add-one j) (turn (eqb t (base + a)) refl)
      where
        turn : (q : Bool) → eqb t (base + a) ≡ q → get_or (set room i v) a 0 ≡ step (base + a) j (fold (step (base + a)) 0 j)
        turn true h =
            let z = stored_here room base a v le ei len l h in
            rw (es (base + a) (fold (step (base + a)) 0 j), h) (z.1 ∙ ev ∙ rw z.0 (ap f (all a l w)))
        turn false h = stored_apart room base a v le ei h ∙ off a l w h

    pub rows_same : ((base ≤ t) × (t - base < 96) → ⊥) → Rows step (j + 1) base room
    unfolding fold
    rows_same out a l w = rw (add-one j) (turn (eqb t (base + a)) refl)
      where
        turn : (q : Bool) → eqb t (base + a) ≡ q → get_or room a 0 ≡ step (base + a) j (fold (step (base + a)) 0 j)
        turn true h = let e = eqb-true t (base + a) h in absurd (out (omega (arith, e), omega (arith, e)))
        turn false h = off a l w h

  pub rows_at : (room : List ℕ) (n s : ℕ) → Rows step n base room → base ≤ s → s < base + 96 → s < 65536 → get_or room (s - base) 0 ≡ fold (step s) 0 n
  rows_at room n s all l h w = let e : base + (s - base) ≡ s = omega arith in all (s - base) (omega arith) (omega arith) ∙ rw e

-- LOWER and the FIRST DEFAULT as such passes
pub lower_step_lem : (m : List ℕ) (gives : ℕ → ℕ) (k : ℕ) {t : ℕ} → t ≡ target_of m k → (s x : ℕ) → lower_step m gives s k x ≡ pick (eqb t s) (or_of x (gives k)) x
unfolding lower_step
lower_step_lem m gives k e s x = rw e

pub first_step :
    (m vs : List ℕ) (j : ℕ) {n d t : ℕ} → n ≡ defaults m → d ≡ n - 1 - j → t ≡ default_symbol m d → (s x : ℕ)
    → default_step m (condition_value m vs) suc s j x ≡ pick (eqb t s) (pick (ltb 0 (condition_value m vs d)) (d + 1) x) x
unfolding default_step
first_step m vs j {d = d} en ed et s x = let there : defaults m - suc j ≡ d = omega arith in rw (there, et, add-one d)

-- WHAT THE ROOMS HAVE of a symbol
module _ (m : List ℕ) (base : ℕ) (room : List ℕ) (s : ℕ) (l : base ≤ s) (h : s < base + 96) (w : s < 65536) where
  pub lower_at : (t vs : List ℕ) → Rows (lower_step m (given m t vs)) (selects m) base room → get_or room (s - base) 0 ≡ lower_of m t vs s
  unfolding lower_of lower_from
  lower_at t vs all = rows_at (lower_step m (given m t vs)) base room (selects m) s all l h w

  pub first_at : (vs : List ℕ) → Rows (default_step m (condition_value m vs) suc) (defaults m) base room → get_or room (s - base) 0 ≡ first_default m vs s
  unfolding first_default default_from
  first_at vs all = rows_at (default_step m (condition_value m vs) suc) base room (defaults m) s all l h w

-- WHAT THE FIRST DEFAULT THAT APPLIES HAS is the Default
module _ {A : Type 0} (m : List ℕ) (cond : ℕ → ℕ) (has : ℕ → A) (none : A) (s : ℕ) where
  fold-chosen : (n : ℕ) → fold (default_step m cond has s) none n ≡ chosen has none (fold (default_step m cond suc s) 0 n)
  unfolding fold default_step
  fold-chosen zero = refl
  fold-chosen (suc n) = by (eqb (default_symbol m (defaults m - suc n)) s) (ltb 0 (cond (defaults m - suc n))) (defaults m - suc n) (fold (default_step m cond has s) none n) (fold (default_step m cond suc s) 0 n) (fold-chosen n)
    where
      by : (a b : Bool) (d : ℕ) (x : A) (y : ℕ) → x ≡ chosen has none y → pick a (pick b (has d) x) x ≡ chosen has none (pick a (pick b (suc d) y) y)
      by true true d x y e = let z : suc d - 1 ≡ d = omega arith in rw (ne_eqb (suc d) 0 (λ e. absurd (omega arith)), z)
      by true false d x y e = e
      by false b d x y e = e

first_three : (m vs : List ℕ) (s : ℕ) → default_of m vs s ≡ chosen (λ d. val vs (default_value m d)) 0 (first_default m vs s)
unfolding default_of first_default default_from
first_three m vs s = fold-chosen m (condition_value m vs) (λ d. val vs (default_value m d)) 0 s (defaults m)

first_leaf : (m t vs : List ℕ) (s : ℕ) → default_content m t vs s ≡ chosen (λ d. leaf_of m t (default_value m d)) (a_text []) (first_default m vs s)
unfolding default_content first_default default_from
first_leaf m t vs s = fold-chosen m (condition_value m vs) (λ d. leaf_of m t (default_value m d)) (a_text []) s (defaults m)

-- THE RULES OF A SYMBOL by what the rooms have: 11 to 13 by its type
module _ (m t vs : List ℕ) (s : ℕ) {r : Outcome} {q : Bool} {f : ℕ} (eq : q ≡ three_type m s) (ef : f ≡ first_default m vs s) where
  pub own-three :
      {d l : ℕ} → q ≡ true → r ≡ three_tests s (value_of t s) (prompt_value m vs s) d l → d ≡ chosen (λ d. val vs (default_value m d)) 0 f → l ≡ lower_of m t vs s
      → r ≡ own_fault m t vs s
  unfolding three_fault
  own-three z er ed el = rw (← eq, z, first_three m vs s, ← ef, ← ed, ← el) er

  pub own_other :
      {c : Content} → q ≡ false → r ≡ when (broken13_content (content_of t s) (prompt_value m vs s) c) (Fault 13 s 65535)
      → c ≡ chosen (λ d. leaf_of m t (default_value m d)) (a_text []) f → r ≡ own_fault m t vs s
  unfolding other_fault
  own_other z er ec = rw (← eq, z, first_leaf m t vs s, ← ef, ← ec) er

-- RULE 14, where no symbol below off breaks a range, and off does if it is a symbol
then_none : (a : Outcome) → or_else a Clean ≡ a
unfolding or_else
then_none (Ok _) = refl
then_none (Err f) = refl

then_then : (a b c : Outcome) → or_else a (or_else b c) ≡ or_else (or_else a b) c
unfolding or_else
then_then (Ok _) b c = refl
then_then (Err f) b c = refl

module _ (m t vs : List ℕ) (n off : ℕ) (kept : KeptBelow m t vs (ranges m) off) (small : n < 65536) where
  own_below : (k : ℕ) → k ≤ off → first_below (symbol_fault m t vs) k ≡ first_below (own_fault m t vs) k
  unfolding first_below symbol_fault
  own_below zero l = refl
  own_below (suc k) l = rw (own_below k (omega arith), all_clean (test14 m t vs k) (ranges m) (λ r lr. kept r lr k l), then_none (own_fault m t vs k))

  up_to : first_below (symbol_fault m t vs) (off + 1) ≡ or_else (first_below (own_fault m t vs) (off + 1)) (first_below (test14 m t vs off) (ranges m))
  unfolding first_below symbol_fault
  up_to = rw (add-one off, own_below off (omega arith)) (then_then _ _ _)

module _ (m t vs : List ℕ) (n off : ℕ) (first : FirstOff m t vs (ranges m) (Some off)) (small : n < 65536) where
  -- a fault of 11 to 13, and what 14 says where they are kept
  pub own-answers : {r : Outcome} {f : Answer} → off < n → r ≡ first_below (own_fault m t vs) (off + 1) → r ≡ Err f → r ≡ first_below (symbol_fault m t vs) n
  own-answers l er f = block_fault (symbol_fault m t vs) n (off + 1) (first_fault _ er f ∙ sym (up_to m t vs n off first.1 small)) f (omega (arith, l))

  pub range-answers : {r q : Outcome} → r ≡ first_below (own_fault m t vs) (off + 1) → r ≡ Clean → off < n → q ≡ first_below (test14 m t vs off) (ranges m)
      → q ≡ first_below (symbol_fault m t vs) n
  range-answers {q = q} er f l eq = by q eq
    where
      by : (q : Outcome) → q ≡ first_below (test14 m t vs off) (ranges m) → q ≡ first_below (symbol_fault m t vs) n
      by (Ok _) h = absurd (first.2 (omega arith) (clean_all (test14 m t vs off) (ranges m) (sym h)))
      by (Err x) h = block_fault (symbol_fault m t vs) n (off + 1) (first_clean er f h ∙ sym (up_to m t vs n off first.1 small)) refl (omega arith)

-- no symbol of the book breaks a range
pub own_alone : (m t vs : List ℕ) (n : ℕ) (o : Option ℕ) → FirstOff m t vs (ranges m) o → n < 65536 → ((off : ℕ) → o ≡ Some off → n ≤ off)
    → first_below (own_fault m t vs) n ≡ first_below (symbol_fault m t vs) n
own_alone m t vs n None f small past = sym (own_below m t vs n 65536 f small n (omega arith))
own_alone m t vs n (Some off) f small past = sym (own_below m t vs n off f.1 small n (past off refl))
