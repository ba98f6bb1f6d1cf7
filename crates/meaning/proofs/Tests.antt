-- What two tests say where they hold: of two, that one does; of texts, that they are the same list. Assumes nothing.
use Prim.Native.Nat.{ℕ}
use mathlib.Core.Path.{◌≡◌, refl, ap₂}
use mathlib.Core.Bool.{Bool, true, false, ◌||◌, false≢true, and-eq-true_iff}
use mathlib.Core.Logic.{◌⊎◌, inl, inr}
use mathlib.Core.List.{List, [], ◌∷◌}
use lib.Dec.{eqb}
use borrow.Author.Tests.{eqb-true}
use Rattle.meaning.specs.Base.{same_text}

pub or_cases : (a b : Bool) → (a || b) ≡ true → (a ≡ true) ⊎ (b ≡ true)
or_cases true b h = inl refl
or_cases false b h = inr h

pub same_text_lem : (a b : List ℕ) → same_text a b ≡ true → a ≡ b
unfolding same_text
same_text_lem [] [] e = refl
same_text_lem [] (y ∷ b) e = absurd (false≢true e)
same_text_lem (x ∷ a) [] e = absurd (false≢true e)
same_text_lem (x ∷ a) (y ∷ b) e =
    let h = (and-eq-true_iff (eqb x y) (same_text a b)).0 e in
    ap₂ ◌∷◌ (eqb-true x y h.0) (same_text_lem a b h.1)
