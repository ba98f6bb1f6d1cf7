-- From one input no second answer meets what `room` ensures: of the contract itself, as Rattle reads it. What a reader gives is no input: docs/EXCEPTIONS.md has `read_full`. Assumes nothing.
use Prim.Native.Nat.{ℕ}
use mathlib.Core.Path.{sym, ◌∙◌}
use mir.Syntax.{w64}
use mir.Val.{Fits}
use Rattle.tri.specs.Once.{Once}
use Rattle.reading.proofs.room.Kinds as RoomKinds
use Rattle.reading.proofs.room.Reads as RoomReads

module _ (N : ℕ) (fits : Fits w64 N) where
  pub room_once : Once 1 (RoomKinds.ps N fits) (RoomKinds.r N fits) (RoomReads.Post N fits)
  room_once κs a x y s t p q = p.0 ∙ sym q.0
