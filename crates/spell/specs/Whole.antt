-- A spelling's fields from the bytes spelled: those before them are zero, so that nothing of it is forgotten. Assumes nothing.
use Rattle.std.specs.Prelude.{◌≡◌, ℕ, ◌-◌, ◌≤◌, List, ◌++◌, length, take, drop, replicate}
use mathlib.Core.Path.{sym, ◌∙◌, ap}
use Rattle.std.proofs.Math.Nat.{add-sub_cancel_left, sub-add_cancel}
use Rattle.std.proofs.lemmas.List.{length-drop, take-append-drop}

module _ (b : List ℕ) (k : ℕ) (le : k ≤ 14) (whole : length b ≡ 14) where
  pub at_is : 14 - length (drop k b) ≡ k
  at_is =
      ap (λ n. 14 - n) (length-drop k b ∙ ap (λ n. n - k) whole) ∙
      (ap (λ n. n - (14 - k)) (sym (sub-add_cancel le)) ∙ add-sub_cancel_left (14 - k) k)

  pub bytes_are : take k b ≡ replicate k 0 → replicate (14 - length (drop k b)) 0 ++ drop k b ≡ b
  bytes_are zeros =
      ap (λ n. replicate n 0 ++ drop k b) at_is ∙ (ap (λ x. x ++ drop k b) (sym zeros) ∙ take-append-drop k b)
