-- From one input no second answer meets what a public function of this crate ensures: of the contracts themselves, as Rattle reads them. Assumes nothing.
use mathlib.Core.Path.{◌≡◌, refl, sym, ◌∙◌, ap}
use mathlib.Core.Bool.{Bool, true, false}
use mathlib.Core.List.{List}
use Prim.Native.Nat.{ℕ, ◌<◌, ◌≤◌}
use native.Mathlib.Omega.{arith}
use lib.Dec.{ltb}
use borrow.Author.Tests.{ltb-true, ltb-false}
use Rattle.tri.specs.Once.{Once}
use Rattle.symbol_rules.proofs.type_fault.Kinds as TypeFaultKinds
use Rattle.symbol_rules.proofs.type_fault.Reads as TypeFaultReads
use Rattle.symbol_rules.proofs.three_by.Kinds as ThreeByKinds
use Rattle.symbol_rules.proofs.three_by.Reads as ThreeByReads
use Rattle.symbol_rules.proofs.other_by.Kinds as OtherByKinds
use Rattle.symbol_rules.proofs.other_by.Reads as OtherByReads
use Rattle.symbol_rules.proofs.ranges_fault.Kinds as RangesFaultKinds
use Rattle.symbol_rules.proofs.ranges_fault.Reads as RangesFaultReads
use Rattle.symbol_rules.proofs.first_off.Kinds as FirstOffKinds
use Rattle.symbol_rules.proofs.first_off.Reads as FirstOffReads
use Rattle.std.specs.Prelude.{Option, Some, None}
use Rattle.symbol_rules.specs.Ranges.{KeptBelow, BrokenAt, FirstOff}

pub type_fault_once : Once 2 TypeFaultKinds.ps TypeFaultKinds.r TypeFaultReads.Post
type_fault_once κs a x y s t p q = p ∙ sym q

pub three_by_once : Once 2 ThreeByKinds.ps ThreeByKinds.r ThreeByReads.Post
three_by_once κs a x y s t p q = p ∙ sym q

pub other_by_once : Once 2 OtherByKinds.ps OtherByKinds.r OtherByReads.Post
other_by_once κs a x y s t p q = p ∙ sym q

pub ranges_fault_once : Once 2 RangesFaultKinds.ps RangesFaultKinds.r RangesFaultReads.Post
ranges_fault_once κs a x y s t p q = p ∙ sym q

-- a first symbol with a broken range is not below another that is first, nor is there one where no symbol has a broken range
module _ (m t vs : List ℕ) (n : ℕ) where
  not_below : {x y : ℕ} → BrokenAt m t vs n x → KeptBelow m t vs n y → y ≤ 65536 → x < y → ⊥
  not_below {x} broken kept le lt = broken (omega arith) (λ r l. kept r l x lt)

  one_first : (x y : Option ℕ) → FirstOff m t vs n x → FirstOff m t vs n y → x ≡ y
  one_first None None p q = refl
  one_first None (Some y) p q = absurd (not_below q.2 p (omega arith) q.0)
  one_first (Some x) None p q = absurd (not_below p.2 q (omega arith) p.0)
  one_first (Some x) (Some y) p q = ap (λ z. Some z) (neither_below (not_below p.2 q.1 (omega (arith, q.0))) (not_below q.2 p.1 (omega (arith, p.0))))
    where
      neither_below : {x y : ℕ} → (x < y → ⊥) → (y < x → ⊥) → x ≡ y
      neither_below {x} {y} a b = by (ltb x y) (ltb y x) refl refl
        where
          by : (p q : Bool) → ltb x y ≡ p → ltb y x ≡ q → x ≡ y
          by true q e f = absurd (a (ltb-true x y e))
          by false true e f = absurd (b (ltb-true y x f))
          by false false e f = let g = ltb-false x y e in let h = ltb-false y x f in omega (arith, g, h)

pub first_off_once : Once 2 FirstOffKinds.ps FirstOffKinds.r FirstOffReads.Post
first_off_once κs a x y s t p q = one_first _ _ _ _ x y p q
