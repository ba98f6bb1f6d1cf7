-- What stands in a room that is read into, of the bytes that the reader had.
use Rattle.std.proofs.Common.{ℕ, List, ◌≡◌, ◌+◌, ◌<◌, ◌≤◌, ◌++◌, [], None, Some, IfSome, Option, length, take, drop, sym, subst, ap, ◌∙◌, eq-or-lt_of_le, inl, inr, take_at, take_all, take-add, append-nil}
use Rattle.std.specs.Io.KnownBytes.{Consumes, IsAtEnd}

-- a room of k bytes that is full, or has all that there was, has the first k
pub first_of : (xs bs ys : List ℕ) (k : ℕ) → xs ≡ bs ++ ys → length bs ≤ k → (length bs < k → ys ≡ []) → take k xs ≡ bs
first_of xs bs ys k is fits end =
    elim (eq-or-lt_of_le fits) [
      | inl e ↦ ap (take k) is ∙ take_at bs ys k e
      | inr l ↦ let all = is ∙ ap (λ l. bs ++ l) (end l) ∙ append-nil bs in ap (take k) all ∙ take_all k bs fits
    ]

pub read_whole : (a b : Option (List ℕ)) (bs : List ℕ) (k : ℕ) (P : List ℕ → Type 0) → Consumes a b bs → length bs ≤ k
    → (length bs < k → IsAtEnd b) → P bs → IfSome a (λ xs. P (take k xs))
read_whole None b bs k P read fits end p = tt
read_whole (Some xs) None bs k P read fits end p = absurd read
read_whole (Some xs) (Some ys) bs k P read fits end p = subst P (sym (first_of xs bs ys k read fits end)) p
