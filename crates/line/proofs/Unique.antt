-- From one input no second length, no second node work and no second room meet what `line` ensures: of the contract itself, as Rattle reads it. Assumes nothing.
use mathlib.Core.Path.{◌≡◌, sym, ◌∙◌, ap}
use mathlib.Core.List.{List, ◌++◌}
use Prim.Native.Nat.{ℕ}
use lib.ListN.{drop}
use Rattle.tri.specs.Once.{OnceIn}
use Rattle.meaning.specs.Program.{line_of}
use Rattle.line.specs.Written.{Lined}
use Rattle.line.proofs.line.Kinds as Kinds
use Rattle.line.proofs.line.Reads as Reads

-- the length, the node work and the room afterwards
abbrev Left : Type 0
Left = ℕ × List ℕ × List ℕ

one : (i w o : List ℕ) {r s : ℕ} {v x a b : List ℕ} → Lined i w o r v a → Lined i w o s x b → ◌≡◌ {A = Left} (r, v, a) (s, x, b)
one i w o p q =
    let e = p.ends ∙ sym q.ends in
    rw (e, p.works ∙ sym q.works, p.holds ∙ ap (λ k. line_of i ++ drop k o) e ∙ sym q.holds)

pub line_once : OnceIn 3 Kinds.ps Kinds.r Reads.Post {A = Left} (λ κs r s. (r, s.1.0.now, s.1.1.0.now))
line_once κs a x y s t p q = one _ _ _ p q
