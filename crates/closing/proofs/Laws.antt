-- Every pick from a set, a turn at a time; a pick from {n} alone; and what each rule's closing asks. Assumes nothing.
use mathlib.Core.Path.{◌≡◌, refl, sym, ◌∙◌}
use mathlib.Core.Bool.{Bool, true, false, ◌&&◌, not}
use mathlib.Core.List.{List, append-nil}
use Prim.Native.Nat.{ℕ, ◌+◌, ◌<◌}
use native.Mathlib.Omega.{arith}
use lib.Dec.{eqb}
use lib.ListN.{length, replicate, drop_of_length-le}
use Rattle.meaning.specs.Base.{pick, all_below}
use Rattle.meaning.specs.Book.{member_of, prompt_of, depend_of, selector_of, target_of, condition_of, mandatory_of, choice_prompt, member_count, modules_of}
use Rattle.meaning.specs.Rules.{at_least, broken11, broken12, broken13, broken15, broken17, broken18, exceeds}
use Rattle.meaning.specs.Sets.{has, every, least, most, sat, lower_set, default_set, prompt_set, depend_set}
use Rattle.meaning.specs.Clearance.{closed11, closed12, closed13, closed15, closed17, closed18, closed20}
use Rattle.meaning.specs.Findings.{zeroed}
use Rattle.meaning.proofs.Below.{all_none, all_more, all_stop}

-- EVERY PICK so far, and one value more
module _ (a : ℕ) (p : ℕ → Bool) where
  abbrev pub till : ℕ → Bool
  till k = all_below (λ v. pick (has a v) (p v) true) k

  pub till_none : till 0 ≡ true
  till_none = all_none _

  pub till_more : (k : ℕ) {h : Bool} → till k ≡ true → h ≡ has a k → h ≡ true → p k ≡ true → till (k + 1) ≡ true
  till_more k e eh t y = all_more _ k e refl (rw (← eh, t) y)

  pub till_skip : (k : ℕ) {h : Bool} → till k ≡ true → h ≡ has a k → h ≡ false → till (k + 1) ≡ true
  till_skip k e eh t = all_more _ k e refl (rw (← eh, t))

  pub till_all : (n : ℕ) → n ≡ 3 → till n ≡ true → every a p ≡ true
  unfolding every
  till_all n en e = rw en at e

  pub till_stop : (k : ℕ) {h : Bool} → k < 3 → h ≡ has a k → h ≡ true → p k ≡ false → every a p ≡ false
  unfolding every
  till_stop k lt eh t f = sym (all_stop _ 3 k lt refl (rw (← eh, t) f))

-- from {n} there is one pick
every_n : (p : ℕ → Bool) → every 1 p ≡ p 0
unfolding every has all_below
every_n p = by (p 0)
  where
    by : (b : Bool) → b && true && true ≡ b
    by true = refl
    by false = refl

-- what holds of each value holds of every pick
every_same : (a : ℕ) {p q : ℕ → Bool} → ((v : ℕ) → p v ≡ q v) → every a p ≡ every a q
unfolding every all_below
every_same a h = rw (h 0, h 1, h 2)

-- the tests of four nested picks
module _ (t : ℕ → ℕ → ℕ → ℕ → Bool) where
  abbrev pub on3 : ℕ → ℕ → ℕ → ℕ → Bool
  on3 e v p d = every e (t v p d)

  abbrev pub on2 : ℕ → ℕ → ℕ → ℕ → Bool
  on2 c e v p = every c (on3 e v p)

  abbrev pub on1 : ℕ → ℕ → ℕ → ℕ → Bool
  on1 b c e v = every b (on2 c e v)

  abbrev pub picked : ℕ → ℕ → ℕ → ℕ → Bool
  picked a b c e = every a (on1 b c e)

-- EACH RULE's closing, from every pick of what it reads
module _ (m ys ss : List ℕ) (s : ℕ) {a low : ℕ} (ea : a ≡ sat ys s) (el : low ≡ lower_set m ys ss s) where
  pub closes11 : {x : Bool} → x ≡ picked (λ v p d l. broken11 v l) a 1 1 low → x ≡ closed11 m 0 ys ss s
  unfolding closed11
  closes11 e = (rw (ea, el) at e) ∙ every_same (sat ys s) (λ v. every_n _ ∙ every_n _)

  module _ {p : ℕ} (ep : p ≡ sat ss (prompt_of m s)) where
    pub closes12 : {x : Bool} → x ≡ picked (λ v p d l. broken12 v p l) a p 1 low → x ≡ closed12 m 0 ys ss s
    unfolding closed12 prompt_set
    closes12 e = (rw (ea, el, ep) at e) ∙ every_same (sat ys s) (λ v. every_same (sat ss (prompt_of m s)) (λ q. every_n _))

    pub closes13 : {d : ℕ} {x : Bool} → d ≡ default_set m ss s → x ≡ picked broken13 a p d low → x ≡ closed13 m 0 ys ss s
    unfolding closed13 prompt_set
    closes13 ed e = rw (ea, el, ep, ed) at e

module _ (m ys ss : List ℕ) (c : ℕ) {p some : ℕ} (ep : p ≡ sat ss (choice_prompt m c)) where
  pub closes15 : {yes : ℕ} {x : Bool} → some ≡ at_least (λ j. least (sat ys (member_of m c j))) (member_count m c) 1
      → yes ≡ at_least (λ j. least (sat ys (member_of m c j))) (member_count m c) 2
      → x ≡ every p (λ q. broken15 q some yes) → x ≡ closed15 m 0 ys ss c
  unfolding closed15
  closes15 es ey e = rw (ep, es, ey) at e

  pub closes17 : {o : ℕ} {x : Bool} → some ≡ at_least (λ j. most (sat ys (member_of m c j))) (member_count m c) 1 → o ≡ mandatory_of m c
      → x ≡ every p (λ q. broken17 q o some) → x ≡ closed17 m 0 ys ss c
  unfolding closed17
  closes17 es eo e = rw (ep, es, eo) at e

pub closes18 : (m ys ss : List ℕ) (s : ℕ) {o a b : ℕ} {x : Bool} → o ≡ modules_of m → a ≡ sat ys o → b ≡ sat ys s
    → x ≡ picked (λ w p d v. broken18 w v) a 1 1 b → not (eqb o 65535) && x ≡ closed18 m 0 ys ss s
unfolding closed18
closes18 m ys ss s eo ea eb e =
    rw (eo, (rw (ea, eo, eb) at e) ∙ every_same (sat ys (modules_of m)) (λ v. every_n _ ∙ every_n _))

pub closes20 : (m : List ℕ) (q : ℕ) (ys ss : List ℕ) {a c d : ℕ} {x : Bool} → a ≡ sat ys (selector_of m q) → c ≡ sat ss (condition_of m q)
    → d ≡ sat ss (depend_of m (target_of m q)) → x ≡ picked (λ v u z l. not (exceeds v u z)) a c d 1 → x ≡ closed20 m q ys ss
unfolding closed20 depend_set
closes20 m q ys ss ea ec ed e =
    (rw (ea, ec, ed) at e)
    ∙ every_same (sat ys (selector_of m q)) (λ v. every_same (sat ss (condition_of m q)) (λ u. every_same (sat ss (depend_of m (target_of m q))) (λ z. every_n _)))

-- a room cleared to its end
pub cleared_all : (w : List ℕ) {d : List ℕ} {n k : ℕ} → n ≡ length w → length w ≡ k → d ≡ zeroed n w → d ≡ replicate k 0
unfolding zeroed
cleared_all w en ek e = rw (en, drop_of_length-le w {i = length w} (omega arith), append-nil, ek) at e
