-- What stands in a list of bytes from a place on, read front by front, so that no offset is reckoned twice. Assumes nothing.
use Prim.Native.Nat.{ℕ, ◌+◌, ◌/◌, ◌%◌}
use mathlib.Core.Path.{◌≡◌, refl, sym, ◌∙◌, ap}
use mathlib.Core.List.{List, [], ◌∷◌, ◌++◌, append_assoc}
use native.Mathlib.Nat.{add-zero}
use native.Mathlib.Omega.{arith}
use lib.ListN.{length, get_or, drop, length-append}
use lib.Seq.{get_or-drop, drop-drop, drop-append_seam}
use Rattle.meaning.specs.Base.{half}

-- from `at` on stands l, to the end
pub record At (f : List ℕ) (at : ℕ) (l : List ℕ) : Type 0 where
  pub front : drop at f ≡ l
  pub ends : at + length l ≡ length f

pub at_whole : (f : List ℕ) → At f 0 f
at_whole f = record { front = refl; ends = omega arith }

module _ (f : List ℕ) where
  pub at_read : (at b : ℕ) (l : List ℕ) → At f at (b ∷ l) → get_or f at 0 ≡ b
  at_read at b l h = ap (λ (i : ℕ). get_or f i 0) (sym (add-zero at)) ∙ sym (get_or-drop at f 0 0) ∙ ap (λ (x : List ℕ). get_or x 0 0) h.front

  pub at_skip : (at : ℕ) (xs l : List ℕ) → At f at (xs ++ l) → At f (at + length xs) l
  at_skip at xs l h =
      record {
        front = sym (drop-drop (length xs) at f) ∙ ap (drop (length xs)) h.front ∙ drop-append_seam xs l;
        ends = omega (arith, length-append xs l);
      }

  pub at_assoc : (at : ℕ) (xs ys l : List ℕ) → At f at ((xs ++ ys) ++ l) → At f at (xs ++ (ys ++ l))
  at_assoc at xs ys l h = rw append_assoc at h

  -- a u16 reads back
  pub at_half : (at x : ℕ) (l : List ℕ) → At f at (x % 256 ∷ x / 256 ∷ l) → half f at ≡ x
  unfolding half
  at_half at x l h =
      let lower = at_read at (x % 256) (x / 256 ∷ l) h in
      let upper = at_read (at + 1) (x / 256) l (at_skip at (x % 256 ∷ []) (x / 256 ∷ l) h) in
      rw (lower, upper) (omega arith)
