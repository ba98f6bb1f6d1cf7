-- What the operations on sets hold: exactly the values that picks from their parts give. Assumes nothing.
use Prim.Native.Nat.{ℕ, zero, suc, ◌≤◌, ◌<◌}
use mathlib.Core.Path.{◌≡◌, refl, sym, ◌∙◌, ap}
use mathlib.Core.Bool.{Bool, true, false, ◌||◌}
use mathlib.Mathlib.Data.Bool.Basic.{or_inl, or_inr}
use mathlib.Core.Logic.{◌⊎◌, inl, inr, ⊎_elim}
use native.Mathlib.Nat.{not-suc-le-zero, eq-or-lt_of_le, le_of_suc-le-suc}
use native.Mathlib.Omega.{arith}
use lib.Dec.{eqb, ltb}
use borrow.Author.Tests.{eqb-true, eq-eqb}
use Rattle.std.proofs.lemmas.Bool.Decides.{nat_tests}
use Rattle.meaning.specs.Base.{pick, fold}
use Rattle.meaning.specs.Sets.{has, set_of, only, full, with_one, join, row, pairs, every, least, most, choose_set, open_sets}
use Rattle.meaning.specs.Picks.{In}
use Rattle.meaning.proofs.Below.{all_at, all_every}
use Rattle.meaning.proofs.Tests.{or_cases}
use Rattle.demands.specs.Paths.{NonEmpty}
use Rattle.demands.proofs.Bools.{not_both, pick-cases, pick_both}

-- what holds of 0, 1 and 2 holds of each value
pub each_of : (P : ℕ → Type 0) → P 0 → P 1 → P 2 → (v : ℕ) → v < 3 → P v
each_of P a b c zero lt = a
each_of P a b c (suc zero) lt = b
each_of P a b c (suc (suc zero)) lt = c
each_of P a b c (suc (suc (suc v))) lt = absurd (omega arith)

-- MEMBERS
pub in_small : (a v : ℕ) → In a v → v < 3
unfolding has
in_small a zero h = omega arith
in_small a (suc zero) h = omega arith
in_small a (suc (suc zero)) h = omega arith
in_small a (suc (suc (suc v))) h = grind (arith, nat_tests)

bits : (a b c : Bool) → (has (set_of a b c) 0 ≡ a) × (has (set_of a b c) 1 ≡ b) × (has (set_of a b c) 2 ≡ c)
unfolding has set_of
bits true true true = (refl, refl, refl)
bits true true false = (refl, refl, refl)
bits true false true = (refl, refl, refl)
bits true false false = (refl, refl, refl)
bits false true true = (refl, refl, refl)
bits false true false = (refl, refl, refl)
bits false false true = (refl, refl, refl)
bits false false false = (refl, refl, refl)

never : (v : ℕ) → In 0 v → ⊥
unfolding has
never v h = grind (arith, nat_tests)

-- each type allows n
pub full_n : (y : ℕ) → In (full y) 0
unfolding full has
full_n y = grind (arith, nat_tests)

-- ONE VALUE ALONE
pub only_in : (v : ℕ) → v < 3 → In (only v) v
unfolding open_sets
only_in = each_of (λ v. In (only v) v) refl refl refl

pub only_is : (v w : ℕ) → v < 3 → In (only v) w → w ≡ v
unfolding open_sets
only_is v w lt h = grind (arith, nat_tests)

-- ONE MORE
has_with : (a w v : ℕ) → v < 3 → has (with_one a w) v ≡ (has a v || eqb w v)
unfolding with_one
has_with a w =
    let b = bits (has a 0 || eqb w 0) (has a 1 || eqb w 1) (has a 2 || eqb w 2) in
    each_of (λ v. has (with_one a w) v ≡ (has a v || eqb w v)) b.0 b.1 b.2

with_new : (a v : ℕ) → v < 3 → In (with_one a v) v
with_new a v lt = has_with a v v lt ∙ or_inr (has a v) (eqb v v) (eq-eqb v v refl)

with_old : (a w v : ℕ) → In a v → In (with_one a w) v
with_old a w v h = has_with a w v (in_small a v h) ∙ or_inl (has a v) (eqb w v) h

with_from : (a w v : ℕ) → In (with_one a w) v → In a v ⊎ (w ≡ v)
with_from a w v h =
    ⊎_elim (λ i. inl i) (λ e. inr (eqb-true w v e)) (or_cases (has a v) (eqb w v) (sym (has_with a w v (in_small _ v h)) ∙ h))

-- PAIRS: f x y for each x of a and y of b, and nothing else
module _ (f : ℕ → ℕ → ℕ) (b : ℕ) where
  row_keeps : (x c v k : ℕ) → In c v → In (row f x b c k) v
  unfolding row fold
  row_keeps x c v zero h = h
  row_keeps x c v (suc k) h =
      let r = row_keeps x c v k h in pick_both (λ (s : ℕ). In s v) (has b k) (with_old (row f x b c k) (f x k) v r) r

  row_hits : (x y c : ℕ) → f x y < 3 → In b y → (k : ℕ) → y < k → In (row f x b c k) (f x y)
  unfolding row fold
  row_hits x y c small h zero lt = absurd (not-suc-le-zero lt)
  row_hits x y c small h (suc k) lt =
      ⊎_elim
      (λ e. rw (← e, h) (with_new (row f x b c y) (f x y) small))
      (λ l.
      let r = row_hits x y c small h k l in
      pick_both (λ (s : ℕ). In s (f x y)) (has b k) (with_old (row f x b c k) (f x k) (f x y) r) r)
      (eq-or-lt_of_le (le_of_suc-le-suc lt))

  abbrev pub Hit : ℕ → ℕ → Type 0
  Hit x z = (y : ℕ) × In b y × (f x y ≡ z)

  row_from : (x c z k : ℕ) → In (row f x b c k) z → In c z ⊎ Hit x z
  unfolding row fold
  row_from x c z zero h = inl h
  row_from x c z (suc k) h =
      pick-cases (λ (s : ℕ). In s z → In c z ⊎ Hit x z) (has b k)
      (λ e g. ⊎_elim (λ i. row_from x c z k i) (λ w. inr (k, e, w)) (with_from (row f x b c k) (f x k) z g))
      (λ _ g. row_from x c z k g) h

  module _ (a : ℕ) where
    pairs_below : ℕ → ℕ
    pairs_below = fold (λ x c. pick (has a x) (row f x b c 3) c) 0

    below_hits : (x y k : ℕ) → f x y < 3 → In a x → In b y → x < k → In (pairs_below k) (f x y)
    unfolding pairs_below fold
    below_hits x y zero small ha hb lt = absurd (not-suc-le-zero lt)
    below_hits x y (suc k) small ha hb lt =
        ⊎_elim
        (λ e. rw (← e, ha) (row_hits x y (pairs_below x) small hb 3 (in_small b y hb)))
        (λ l.
        let r = below_hits x y k small ha hb l in
        pick_both (λ (s : ℕ). In s (f x y)) (has a k) (row_keeps k (pairs_below k) (f x y) 3 r) r)
        (eq-or-lt_of_le (le_of_suc-le-suc lt))

    below_from : (z k : ℕ) → In (pairs_below k) z → (x : ℕ) × In a x × Hit x z
    unfolding pairs_below fold
    below_from z zero h = absurd (never z h)
    below_from z (suc k) h =
        pick-cases (λ (s : ℕ). In s z → (x : ℕ) × In a x × Hit x z) (has a k)
        (λ e g. ⊎_elim (λ i. below_from z k i) (λ w. (k, e, w)) (row_from k (pairs_below k) z 3 g))
        (λ _ g. below_from z k g) h

    pub pairs_in : (x y : ℕ) → f x y < 3 → In a x → In b y → In (pairs f a b) (f x y)
    unfolding pairs pairs_below
    pairs_in x y small ha hb = below_hits x y 3 small ha hb (in_small a x ha)

    pub pairs_from : (z : ℕ) → In (pairs f a b) z → (x : ℕ) × In a x × Hit x z
    unfolding pairs pairs_below
    pairs_from z h = below_from z 3 h

-- EVERY PICK
pub every_at : (a : ℕ) (p : ℕ → Bool) (v : ℕ) → every a p ≡ true → In a v → p v ≡ true
unfolding every
every_at a p v e h = rw h at (all_at (λ x. pick (has a x) (p x) true) 3 v e (in_small a v h))

pub every_all : (a : ℕ) (p : ℕ → Bool) → ((v : ℕ) → In a v → p v ≡ true) → every a p ≡ true
unfolding every
every_all a p h = all_every _ 3 (λ v _. pick-cases (λ (b : Bool). b ≡ true) (has a v) (λ e. h v e) (λ _. refl))

-- EITHER OF TWO
has_join : (a b v : ℕ) → v < 3 → has (join a b) v ≡ (has a v || has b v)
unfolding join
has_join a b =
    let c = bits (has a 0 || has b 0) (has a 1 || has b 1) (has a 2 || has b 2) in
    each_of (λ v. has (join a b) v ≡ (has a v || has b v)) c.0 c.1 c.2

join_left : (a b v : ℕ) → In a v → In (join a b) v
join_left a b v h = has_join a b v (in_small a v h) ∙ or_inl (has a v) (has b v) h

join_right : (a b v : ℕ) → In b v → In (join a b) v
join_right a b v h = has_join a b v (in_small b v h) ∙ or_inr (has a v) (has b v) h

join_from : (a b v : ℕ) → In (join a b) v → In a v ⊎ In b v
join_from a b v h = or_cases (has a v) (has b v) (sym (has_join a b v (in_small _ v h)) ∙ h)

-- A DEFAULT over the later ones: its value where a pick of its condition is above n, else theirs
pub choose_in : (c a r x y z : ℕ) → In c x → In a y → In r z → In (choose_set c a r) (pick (ltb 0 x) y z)
unfolding choose_set
choose_in c a r x y z hc ha hr =
    each_of (λ x. In c x → In (choose_set c a r) (pick (ltb 0 x) y z))
    (λ h. join_right (pick (has c 1 || has c 2) a 0) (pick (has c 0) r 0) z (rw h hr))
    (λ h. join_left (pick (has c 1 || has c 2) a 0) (pick (has c 0) r 0) y (rw (or_inl (has c 1) (has c 2) h) ha))
    (λ h. join_left (pick (has c 1 || has c 2) a 0) (pick (has c 0) r 0) y (rw (or_inr (has c 1) (has c 2) h) ha))
    x (in_small c x hc) hc

pub choose_from :
    (c a r z : ℕ) → In (choose_set c a r) z
    → ((x : ℕ) × In c x × (ltb 0 x ≡ true) × In a z) ⊎ (In c 0 × In r z)
unfolding choose_set
choose_from c a r z h = ⊎_elim (λ i. inl (above i)) (λ i. inr (none i)) (join_from _ _ z h)
  where
    above : In (pick (has c 1 || has c 2) a 0) z → (x : ℕ) × In c x × (ltb 0 x ≡ true) × In a z
    above =
        pick-cases (λ (s : ℕ). In s z → (x : ℕ) × In c x × (ltb 0 x ≡ true) × In a z) (has c 1 || has c 2)
        (λ e i. ⊎_elim (λ one. (1, one, refl, i)) (λ two. (2, two, refl, i)) (or_cases (has c 1) (has c 2) e))
        (λ _ i. absurd (never z i))

    none : In (pick (has c 0) r 0) z → In c 0 × In r z
    none = pick-cases (λ (s : ℕ). In s z → In c 0 × In r z) (has c 0) (λ e i. (e, i)) (λ _ i. absurd (never z i))

-- THE LEAST AND THE LARGEST value, against one that is in the set
pub least_le : (a v : ℕ) → In a v → least a ≤ v
unfolding least
least_le a v h = grind (arith, nat_tests)

pub le_most : (a v : ℕ) → In a v → v ≤ most a
unfolding most
le_most a v h =
    each_of (λ v. In a v → v ≤ most a)
    (λ h. omega arith)
    (λ h. rw h (pick_both (λ (x : ℕ). 1 ≤ x) (has a 2) (omega arith) (omega arith)))
    (λ h. rw h (omega arith))
    v (in_small a v h) h

-- each is in a set that has a value
pub least_in : (a v : ℕ) → In a v → In a (least a)
unfolding least
least_in a v h =
    pick-cases (In a) (has a 0) (λ e. e)
    (λ no. pick-cases (In a) (has a 1) (λ e. e)
    (λ nor. each_of (λ v. In a v → In a 2) (λ e. not_both no e) (λ e. not_both nor e) (λ e. e) v (in_small a v h) h))

pub most_in : (a v : ℕ) → In a v → In a (most a)
unfolding most
most_in a v h =
    pick-cases (In a) (has a 2) (λ e. e)
    (λ no. pick-cases (In a) (has a 1) (λ e. e)
    (λ nor. each_of (λ v. In a v → In a 0) (λ e. e) (λ e. not_both nor e) (λ e. not_both no e) v (in_small a v h) h))

-- A RELATION of sets to values that each value alone has, and that pairs keep
pub record Lifts (R : ℕ → ℕ → Type 0) : Type 0 where
  pub alone : (v : ℕ) → v < 3 → R (only v) v
  pub both : (f : ℕ → ℕ → ℕ) → ((x y : ℕ) → x < 3 → y < 3 → f x y < 3) → (a b x y : ℕ) → R a x → R b y → R (pairs f a b) (f x y)

-- the value is in the set
pub in_lifts : Lifts In
in_lifts =
    record {
      alone = only_in;
      both = λ f c a b x y ha hb. pairs_in f b a x y (c x y (in_small a x ha) (in_small b y hb)) ha hb;
    }

-- and no other is
pub record Is (a v : ℕ) : Type 0 where
  pub inside : In a v
  pub alone : (w : ℕ) → In a w → w ≡ v

pub is_lifts : Lifts Is
is_lifts =
    record {
      alone = λ v lt. record { inside = only_in v lt; alone = λ w h. only_is v w lt h };
      both = λ f c a b x y ha hb.
          record {
            inside = in_lifts.both f c a b x y ha.inside hb.inside;
            alone = λ w h.
                let p = pairs_from f b a w h in
                sym p.2.2 ∙ ap (λ (i : ℕ). f i p.2.0) (ha.alone p.0 p.1) ∙ ap (f x) (hb.alone p.2.0 p.2.1);
          };
    }

-- the set has a value, whichever
abbrev pub HasValue : ℕ → ℕ → Type 0
HasValue a v = NonEmpty a

pub has_value_lifts : Lifts HasValue
has_value_lifts =
    record {
      alone = λ v lt. (v, only_in v lt);
      both = λ f c a b x y ha hb. (f ha.0 hb.0, in_lifts.both f c a b ha.0 hb.0 ha.1 hb.1);
    }
