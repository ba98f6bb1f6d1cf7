-- Default's set from the first default on: what those so far may give, joined with what comes from the rest. Assumes nothing.
use mathlib.Core.Path.{◌≡◌, refl, sym, ◌∙◌}
use mathlib.Core.List.{List}
use mathlib.Core.Bool.{Bool, true, false, ◌||◌}
use Prim.Native.Nat.{ℕ, zero, suc, ◌+◌, ◌-◌, ◌≤◌, ◌<◌}
use native.Mathlib.Omega.{arith}
use borrow.Author.Tests.{eq-eqb, ne_eqb}
use lib.Dec.{eqb}
use Rattle.meaning.specs.Base.{pick, fold}
use Rattle.meaning.specs.Book.{defaults, default_symbol, default_condition, default_value}
use Rattle.meaning.specs.Sets.{has, set_of, join, sat, choose_set, default_set_step, default_set}

-- JOINS
has-set : (x y z : Bool) → (has (set_of x y z) 0 ≡ x) × (has (set_of x y z) 1 ≡ y) × (has (set_of x y z) 2 ≡ z)
unfolding has set_of
has-set true true true = (refl, refl, refl)
has-set true true false = (refl, refl, refl)
has-set true false true = (refl, refl, refl)
has-set true false false = (refl, refl, refl)
has-set false true true = (refl, refl, refl)
has-set false true false = (refl, refl, refl)
has-set false false true = (refl, refl, refl)
has-set false false false = (refl, refl, refl)

or_again : (x y z : Bool) → ((x || y) || z) ≡ (x || (y || z))
or_again true y z = refl
or_again false y z = refl

join_again : (a b c : ℕ) → join (join a b) c ≡ join a (join b c)
unfolding join
join_again a b c =
    let l = has-set (has a 0 || has b 0) (has a 1 || has b 1) (has a 2 || has b 2) in
    let r = has-set (has b 0 || has c 0) (has b 1 || has c 1) (has b 2 || has c 2) in
    rw (l.0, l.1, l.2, r.0, r.1, r.2, or_again (has a 0) (has b 0) (has c 0), or_again (has a 1) (has b 1) (has c 1), or_again (has a 2) (has b 2) (has c 2))

none_set : (x y z : Bool) → (join 0 (set_of x y z) ≡ set_of x y z) × (join (set_of x y z) 0 ≡ set_of x y z)
unfolding join has set_of
none_set true true true = (refl, refl)
none_set true true false = (refl, refl)
none_set true false true = (refl, refl)
none_set true false false = (refl, refl)
none_set false true true = (refl, refl)
none_set false true false = (refl, refl)
none_set false false true = (refl, refl)
none_set false false false = (refl, refl)

none_join : (a b : ℕ) → (join 0 (join a b) ≡ join a b) × (join (join a b) 0 ≡ join a b)
unfolding join
none_join a b = none_set (has a 0 || has b 0) (has a 1 || has b 1) (has a 2 || has b 2)

none_one : join 0 1 ≡ 1
unfolding join has set_of
none_one = refl

-- FROM DEFAULT d ON
module _ (m ss : List ℕ) (s : ℕ) where
  unfoldable pub rest : ℕ → ℕ
  rest d = fold (default_set_step m ss s) 1 (defaults m - d)

  none_fold : (n : ℕ) → join 0 (fold (default_set_step m ss s) 1 n) ≡ fold (default_set_step m ss s) 1 n
  unfolding fold default_set_step choose_set
  none_fold zero = none_one
  none_fold (suc n) = by (eqb (default_symbol m (defaults m - suc n)) s) refl (none_fold n)
    where
      later : ℕ
      later = fold (default_set_step m ss s) 1 n

      by : (b : Bool) → eqb (default_symbol m (defaults m - suc n)) s ≡ b → join 0 later ≡ later → join 0 (default_set_step m ss s n later) ≡ default_set_step m ss s n later
      by true e h = rw e (none_join _ _).0
      by false e h = rw e h

  pub rest_first : join 0 (rest 0) ≡ default_set m ss s
  unfolding rest default_set
  rest_first = let e : defaults m - 0 ≡ defaults m = omega arith in rw e (none_fold (defaults m))

  module _ (a d : ℕ) {n on : ℕ} (en : n ≡ defaults m) (lt : d < n) (eo : on ≡ default_symbol m d) where
    here : rest d ≡ default_set_step m ss s (defaults m - (d + 1)) (rest (d + 1))
    unfolding rest fold
    here = let e : defaults m - d ≡ suc (defaults m - (d + 1)) = omega (arith, en) in rw e

    index : defaults m - suc (defaults m - (d + 1)) ≡ d
    index = omega (arith, en)

    pub rest_other : {x : ℕ} → (on ≡ s → ⊥) → join a (rest d) ≡ x → join a (rest (d + 1)) ≡ x
    unfolding default_set_step
    rest_other h e = rw (here, index, ← eo, ne_eqb on s h) at e

    module _ {c g r : ℕ} (es : on ≡ s) (ec : c ≡ sat ss (default_condition m d))
        (eg : g ≡ pick (has c 1 || has c 2) (sat ss (default_value m d)) 0) (er : r ≡ join a g) where
      chosen : rest d ≡ join g (pick (has c 0) (rest (d + 1)) 0)
      unfolding default_set_step choose_set
      chosen = here ∙ rw (index, ← eo, es, eq-eqb s s refl, ← ec, ← eg)

      pub rest_open : {x : ℕ} → has c 0 ≡ true → join a (rest d) ≡ x → join r (rest (d + 1)) ≡ x
      rest_open h e = rw (er, join_again) (rw (chosen, h) at e)

      pub rest_shut : {x : ℕ} → has c 0 ≡ false → join a (rest d) ≡ x → r ≡ x
      rest_shut h e = er ∙ sym (none_join a g).1 ∙ join_again a g 0 ∙ rw (chosen, h) at e

  pub rest_none : (a d : ℕ) {n r x : ℕ} → n ≡ defaults m → n ≤ d → r ≡ join a 1 → join a (rest d) ≡ x → r ≡ x
  unfolding rest fold
  rest_none a d en le er e = let z : defaults m - d ≡ 0 = omega (arith, en) in er ∙ rw z at e
