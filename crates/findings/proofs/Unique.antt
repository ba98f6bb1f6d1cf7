-- From one input no second outcome, no second node work and no second symbol work meet what `check` ensures: of the contract itself, as Rattle reads it. Assumes nothing.
use mathlib.Core.Path.{◌≡◌, sym, ◌∙◌}
use mathlib.Core.List.{List}
use Prim.Native.Nat.{ℕ}
use Rattle.meaning.specs.Base.{Outcome}
use Rattle.tri.specs.Once.{OnceIn}
use Rattle.findings.specs.Found.{Found}
use Rattle.findings.proofs.check.Kinds as Kinds
use Rattle.findings.proofs.check.Reads as Reads

-- the outcome, the node work and the symbol work afterwards
abbrev Left : Type 0
Left = Outcome × List ℕ × List ℕ

one :
    (m f w z : List ℕ) {r s : Outcome} {v x a b : List ℕ}
    → Found m f w z r v a
    → Found m f w z s x b
    → ◌≡◌ {A = Left} (r, v, a) (s, x, b)
one m f w z p q = rw (p.answers ∙ sym q.answers, p.works ∙ sym q.works, p.marks ∙ sym q.marks)

pub check_once : OnceIn 4 Kinds.ps Kinds.r Reads.Post {A = Left} (λ κs x s. (x, s.1.1.0.now, s.1.1.1.0.now))
check_once κs a x y s t p q = one _ _ _ _ p q
