-- From one input no second answer, and no second node work, meets what `closed_on` ensures, and a byte is read as one mark only: of the contracts themselves, as Rattle reads them. Assumes nothing.
use mathlib.Core.Path.{◌≡◌, sym, ◌∙◌}
use mathlib.Core.Bool.{Bool}
use mathlib.Core.List.{List}
use Prim.Native.Nat.{ℕ}
use Rattle.tri.specs.Once.{Once, OnceIn}
use Rattle.closing.proofs.Marked.{same_mark}
use Rattle.closing.proofs.MarkTryFromU8.try_from.Kinds as TryFromKinds
use Rattle.closing.proofs.MarkTryFromU8.try_from.Reads as TryFromReads
use Rattle.closing.proofs.closed_on.Kinds as Kinds
use Rattle.closing.proofs.closed_on.Reads as Reads

-- whether it is closed, and the node work afterwards
abbrev Left : Type 0
Left = Bool × List ℕ

one : {r s : Bool} {v w : List ℕ} → r ≡ s → v ≡ w → ◌≡◌ {A = Left} (r, v) (s, w)
one p q = rw (p, q)

pub closed_on_once : OnceIn 3 Kinds.ps Kinds.r Reads.Post {A = Left} (λ κs x s. (x, s.1.1.1.0.now))
closed_on_once κs a x y s t p q = one (p.0 ∙ sym q.0) (p.1 ∙ sym q.1)

pub try_from_once : Once 0 TryFromKinds.ps TryFromKinds.r TryFromReads.Post
try_from_once κs a x y s t p q = same_mark _ x y p q
