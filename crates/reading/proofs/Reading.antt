-- What stands in a room that is read into once more. Assumes nothing.
use Rattle.std.proofs.Common.{ℕ, List, ◌≡◌, ◌+◌, Option, take, drop, sym, subst, take-add}
use Rattle.std.specs.Io.KnownBytes.{Consumes}
use Rattle.std.proofs.KnownBytes.{Consumes-trans}

-- a read behind the front that was read before
pub read_more : (a b c : Option (List ℕ)) (xs ys : List ℕ) (f n : ℕ) → Consumes a b (take f xs) → take f ys ≡ take f xs
    → Consumes b c (take n (drop f ys)) → Consumes a c (take (f + n) ys)
read_more a b c xs ys f n before front read =
    subst (Consumes a c) (sym (take-add f n ys)) (Consumes-trans a b c (take f ys) (take n (drop f ys)) (subst (Consumes a b) (sym front) before) read)
