-- Lower's set and Default's set hold exactly what picks of each record's fields give, since each record's fields are picked for it alone.
-- Assumes nothing.
use Prim.Native.Nat.{ℕ, zero, suc, ◌-◌, ◌≤◌, ◌<◌}
use mathlib.Core.Path.{◌≡◌, refl, sym, ◌∙◌, ap}
use mathlib.Core.Bool.{true, false}
use mathlib.Core.Logic.{⊎_elim}
use mathlib.Core.List.{List}
use native.Mathlib.Omega.{arith}
use lib.Dec.{eqb, ltb}
use borrow.Author.Tests.{eqb-true, eq-eqb, ne_eqb}
use Rattle.tri.specs.Three.{and_of, or_of}
use Rattle.meaning.specs.Base.{pick, fold}
use Rattle.meaning.specs.Book.{defaults, default_symbol, default_value, default_condition, selector_of, target_of, condition_of}
use Rattle.meaning.specs.Values.{lower_step, default_step}
use Rattle.meaning.specs.Sets.{only, sat, given_set, lower_set_step, default_set_step}
use Rattle.meaning.specs.Picks.{In}
use Rattle.demands.specs.Paths.{NonEmpty}
use Rattle.demands.proofs.Bools.{pick-cases, pick_rel}
use Rattle.demands.proofs.Lifts.{only_in, only_is, pairs_from, choose_in, choose_from, in_lifts}

pub fold_ext : {A : Type 0} (f g : ℕ → A → A) (none : A) (n : ℕ) → ((i : ℕ) (x : A) → i < n → f i x ≡ g i x) → fold f none n ≡ fold g none n
unfolding fold
fold_ext f g none zero h = refl
fold_ext f g none (suc n) h = h n _ (omega arith) ∙ ap (g n) (fold_ext f g none n (λ i x lt. h i x (omega arith)))

-- a pick from each of these sets, and the picks alone
abbrev pub Each : (ℕ → ℕ) → Type 0
Each sets = (i : ℕ) → NonEmpty (sets i)

module _ (sets : ℕ → ℕ) where
  abbrev pub picks : Each sets → ℕ → ℕ
  picks g i = (g i).0

  -- g with v at k
  pub put : Each sets → (k : ℕ) → NonEmpty (sets k) → Each sets
  put g k v i = (
    pick (eqb i k) v.0 (g i).0,
    pick-cases (In (sets i)) (eqb i k) (λ e. rw (eqb-true i k e) v.1) (λ _. (g i).1),
  )

  pub put_same : (g : Each sets) (k : ℕ) (v : NonEmpty (sets k)) → picks (put g k v) k ≡ v.0
  unfolding put
  put_same g k v = rw (eq-eqb k k refl)

  put_other : (g : Each sets) (k : ℕ) (v : NonEmpty (sets k)) (i : ℕ) → (i ≡ k → ⊥) → picks (put g k v) i ≡ picks g i
  unfolding put
  put_other g k v i n = rw (ne_eqb i k n)

n_in : In 1 0
unfolding only
n_in = only_in 0 (omega arith)

n_is : (z : ℕ) → In 1 z → 0 ≡ z
unfolding only
n_is z h = sym (only_is 0 z (omega arith) h)

module _ (m ys ss : List ℕ) (s : ℕ) where
  -- LOWER over the first n selects
  abbrev low_set : ℕ → ℕ
  low_set = fold (lower_set_step m ys ss s) 1

  abbrev low : (ℕ → ℕ) → (ℕ → ℕ) → ℕ → ℕ
  low a c = fold (lower_step m (λ j. and_of (a j) (c j)) s) 0

  abbrev pub selectors : ℕ → ℕ
  selectors j = sat ys (selector_of m j)

  abbrev pub conditions : ℕ → ℕ
  conditions j = sat ss (condition_of m j)

  pub lower_in : (a : Each selectors) (c : Each conditions) (n : ℕ) → In (low_set n) (low (picks selectors a) (picks conditions c) n)
  unfolding fold lower_set_step lower_step given_set
  lower_in a c zero = n_in
  lower_in a c (suc n) =
      let r = lower_in a c n in
      pick_rel In (eqb (target_of m n) s)
      (λ _. in_lifts.both or_of (λ x y p q. omega arith) _ _ _ _ r (in_lifts.both and_of (λ x y p q. omega arith) _ _ _ _ (a n).1 (c n).1)) (λ _. r)

  pub low_ext : (a c a' c' : ℕ → ℕ) (n : ℕ) → ((i : ℕ) → i < n → a i ≡ a' i) → ((i : ℕ) → i < n → c i ≡ c' i) → low a c n ≡ low a' c' n
  unfolding lower_step
  low_ext a c a' c' n p q = fold_ext _ _ 0 n (λ i x lt. rw (p i lt, q i lt))

  -- picks of the selects' fields that give z
  pub record Lowered (n z : ℕ) : Type 0 where
    pub selector : Each selectors
    pub condition : Each conditions
    pub is : low (picks selectors selector) (picks conditions condition) n ≡ z

  -- one select more, on s or not
  low_on : (n z r g : ℕ) (x : NonEmpty (selectors n)) (u : NonEmpty (conditions n)) → eqb (target_of m n) s ≡ true → Lowered n r
      → and_of x.0 u.0 ≡ g → or_of r g ≡ z → Lowered (suc n) z
  unfolding fold lower_step
  low_on n z r g x u e f eg ez =
      let a = put selectors f.selector n x in
      let c = put conditions f.condition n u in
      record {
        selector = a;
        condition = c;
        is = rw (
          e,
          put_same selectors f.selector n x,
          put_same conditions f.condition n u,
          low_ext (picks selectors a) (picks conditions c) (picks selectors f.selector) (picks conditions f.condition) n
              (λ i lt. put_other selectors f.selector n x i (λ z. omega arith))
              (λ i lt. put_other conditions f.condition n u i (λ z. omega arith)),
          f.is,
          eg,
          ez,
        );
      }

  low_off : (n z : ℕ) → eqb (target_of m n) s ≡ false → Lowered n z → Lowered (suc n) z
  unfolding fold lower_step
  low_off n z e f = record { selector = f.selector; condition = f.condition; is = rw (e, f.is) }

  pub lower_from_lem : Each selectors → Each conditions → (n z : ℕ) → In (low_set n) z → Lowered n z
  unfolding fold lower_set_step given_set
  lower_from_lem a c zero z h = record { selector = a; condition = c; is = n_is z h }
  lower_from_lem a c (suc n) z h =
      pick-cases (λ (t : ℕ). In t z → Lowered (suc n) z) (eqb (target_of m n) s)
      (λ e g.
      let p = pairs_from or_of _ _ z g in
      let q = pairs_from and_of _ _ p.2.0 p.2.1 in
      low_on n z p.0 p.2.0 (q.0, q.1) (q.2.0, q.2.1) e (lower_from_lem a c n p.0 p.1) q.2.2 p.2.2)
      (λ e g. low_off n z e (lower_from_lem a c n z g)) h

  -- DEFAULT over the last n defaults
  abbrev def_set : ℕ → ℕ
  def_set = fold (default_set_step m ss s) 1

  abbrev def : (ℕ → ℕ) → (ℕ → ℕ) → ℕ → ℕ
  def b v = fold (default_step m b v s) 0

  abbrev pub applied : ℕ → ℕ
  applied d = sat ss (default_condition m d)

  abbrev pub values : ℕ → ℕ
  values d = sat ss (default_value m d)

  pub default_in : (b : Each applied) (v : Each values) (n : ℕ) → In (def_set n) (def (picks applied b) (picks values v) n)
  unfolding fold default_set_step default_step
  default_in b v zero = n_in
  default_in b v (suc n) =
      let r = default_in b v n in
      let d = defaults m - suc n in
      pick_rel In (eqb (default_symbol m d) s) (λ _. choose_in _ _ _ _ _ _ (b d).1 (v d).1 r) (λ _. r)

  pub def_ext : (b v b' v' : ℕ → ℕ) (n : ℕ) → ((i : ℕ) → defaults m - n ≤ i → b i ≡ b' i) → ((i : ℕ) → defaults m - n ≤ i → v i ≡ v' i)
      → def b v n ≡ def b' v' n
  unfolding default_step
  def_ext b v b' v' n p q = fold_ext _ _ 0 n (λ i x lt. let d = defaults m - suc i in rw (p d (omega arith), q d (omega arith)))

  -- picks of the defaults' fields that give z
  pub record Defaulted (n z : ℕ) : Type 0 where
    pub applies : Each applied
    pub value : Each values
    pub is : def (picks applied applies) (picks values value) n ≡ z

  -- one default more, on s: it applies, or the later ones do; or it is not on s
  module _ (n z : ℕ) where
    abbrev d : ℕ
    d = defaults m - suc n

    def_here : Each applied → Each values → (x : NonEmpty (applied d)) → eqb (default_symbol m d) s ≡ true → ltb 0 x.0 ≡ true
        → In (values d) z → Defaulted (suc n) z
    unfolding fold default_step
    def_here b v x e above h =
        record { applies = put applied b d x; value = put values v d (z, h); is = rw (e, put_same applied b d x, above, put_same values v d (z, h)) }

    def_later : n < defaults m → eqb (default_symbol m d) s ≡ true → In (applied d) 0 → Defaulted n z → Defaulted (suc n) z
    unfolding fold default_step
    def_later lt e h f =
        let b = put applied f.applies d (0, h) in
        let v = picks values f.value in
        record {
          applies = b;
          value = f.value;
          is = rw (
            e,
            put_same applied f.applies d (0, h),
            def_ext (picks applied b) v (picks applied f.applies) v n
                (λ i le. put_other applied f.applies d (0, h) i (λ z. omega arith)) (λ i le. refl),
            f.is,
          );
        }

    def_off : eqb (default_symbol m d) s ≡ false → Defaulted n z → Defaulted (suc n) z
    unfolding fold default_step
    def_off e f = record { applies = f.applies; value = f.value; is = rw (e, f.is) }

  pub default_from_lem : Each applied → Each values → (n z : ℕ) → n ≤ defaults m → In (def_set n) z → Defaulted n z
  unfolding fold default_set_step
  default_from_lem b v zero z le h = record { applies = b; value = v; is = n_is z h }
  default_from_lem b v (suc n) z le h =
      pick-cases (λ (t : ℕ). In t z → Defaulted (suc n) z) (eqb (default_symbol m (d n z)) s)
      (λ e g. ⊎_elim
      (λ p. def_here n z b v (p.0, p.1) e p.2 p.3)
      (λ p. def_later n z le e p.0 (default_from_lem b v n z (omega arith) p.1))
      (choose_from _ _ _ z g))
      (λ e g. def_off n z e (default_from_lem b v n z (omega arith) g)) h
