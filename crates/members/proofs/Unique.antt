-- From one input no second answer meets what a public function of this crate ensures: of the contracts themselves, as Rattle reads them. Assumes nothing.
use Prim.Native.Nat.{ℕ, ◌<◌}
use native.Mathlib.Omega.{arith}
use mathlib.Core.Path.{◌≡◌, refl, sym, ◌∙◌}
use mathlib.Core.Bool.{Bool, true, false, true≢false}
use mathlib.Core.List.{List}
use lib.Dec.{ltb}
use borrow.Author.Tests.{ltb-true, ltb-false}
use Rattle.tri.specs.Once.{Once}
use Rattle.members.specs.Old.{FirstOld}
use Rattle.members.proofs.first_old.Kinds as FirstOldKinds
use Rattle.members.proofs.first_old.Reads as FirstOldReads

-- no record before the first old one is old
none_before : (m : List ℕ) (x y : ℕ) → FirstOld m x → FirstOld m y → x < y → ⊥
none_before m x y p q l =
    let o = p.old (omega (arith, q.within)) in
    true≢false (sym (q.before x l o.0 o.1) ∙ o.2)

one-first : (m : List ℕ) (x y : ℕ) → FirstOld m x → FirstOld m y → x ≡ y
one-first m x y p q = by (ltb x y) (ltb y x) refl refl
  where
    by : (a b : Bool) → ltb x y ≡ a → ltb y x ≡ b → x ≡ y
    by true b d e = absurd (none_before m x y p q (ltb-true x y d))
    by false true d e = absurd (none_before m y x q p (ltb-true y x e))
    by false false d e = omega (arith, ltb-false x y d, ltb-false y x e)

pub first_old_once : Once 1 FirstOldKinds.ps FirstOldKinds.r FirstOldReads.Post
first_old_once κs a x y s t p q = one-first _ x y p q
