-- Bits of a byte, and marks among bytes: one that is set stays set. Assumes nothing.
use mathlib.Core.Path.{◌≡◌, refl, ◌∙◌, ap}
use mathlib.Core.Bool.{Bool, true, false}
use mathlib.Core.List.{List}
use Prim.Native.Nat.{ℕ, zero, suc, ◌+◌, ◌*◌, ◌/◌, ◌%◌, ◌^◌, max, ◌<◌}
use native.Mathlib.Omega.{arith}
use lib.Dec.{eqb}
use lib.ListN.{length, get_or, set}
use lib.Seq.{get_or-set_same, get_or-set_other}
use lib.Bits.{bit_or, or_step, or_shr}
use borrow.Author.Tests.{eqb-true, eqb-false}
use Rattle.names.specs.Keys.{bit_at, Marked, Adds}

-- BITS of an or
low : (y z : ℕ) → z < 2 → (y * 2 + z) % 2 ≡ z
low y z l = omega arith

bit_or_lem : (a b p : ℕ) → bit_at (bit_or a b) p ≡ max (bit_at a p) (bit_at b p)
bit_or_lem a b p =
    ap (λ x. x % 2) (or_shr a b p) ∙ ap (λ x. x % 2) (or_step (a / 2 ^ p) (b / 2 ^ p))
    ∙ low (bit_or (a / 2 ^ p / 2) (b / 2 ^ p / 2)) (max (bit_at a p) (bit_at b p)) (omega arith)

-- the one bit of a power of two
one_bit : (p : ℕ) → p < 8 → bit_at (1 * 2 ^ p % 256) p ≡ 1
one_bit zero l = refl
one_bit (suc zero) l = refl
one_bit (suc (suc zero)) l = refl
one_bit (suc (suc (suc zero))) l = refl
one_bit (suc (suc (suc (suc zero)))) l = refl
one_bit (suc (suc (suc (suc (suc zero))))) l = refl
one_bit (suc (suc (suc (suc (suc (suc zero)))))) l = refl
one_bit (suc (suc (suc (suc (suc (suc (suc zero))))))) l = refl
one_bit (suc (suc (suc (suc (suc (suc (suc (suc p)))))))) l = absurd (omega arith)

pub bit_added : (b p : ℕ) → p < 8 → Adds b p (bit_or b (1 * 2 ^ p % 256))
bit_added b p l = (
  let o = one_bit p l in bit_or_lem b (1 * 2 ^ p % 256) p ∙ omega (arith, o),
  λ q e. bit_or_lem b (1 * 2 ^ p % 256) q ∙ omega (arith, e),
)

-- MARKS: one that is set stays, and the new one is set
pub mark_stays : (marks : List ℕ) (i p r h : ℕ) → i < length marks → Adds (get_or marks i 0) p r → Marked marks h → Marked (set marks i r) h
mark_stays marks i p r h l adds e = by (eqb (h / 8) i) refl
  where
    by : (q : Bool) → eqb (h / 8) i ≡ q → Marked (set marks i r) h
    by true z = let u : h / 8 ≡ i = eqb-true _ _ z in rw (u, get_or-set_same marks i r 0 l) (adds.1 (h % 8) (rw u at e))
    by false z = rw (get_or-set_other marks i (h / 8) r 0 (λ u. eqb-false _ _ z u)) e

pub mark_new : (marks : List ℕ) (h r : ℕ) → h / 8 < length marks → Adds (get_or marks (h / 8) 0) (h % 8) r → Marked (set marks (h / 8) r) h
mark_new marks h r l adds = rw (get_or-set_same marks (h / 8) r 0 l) adds.0
