-- That a room is known has one proof at most, as a fact in a type must: a byte is blank or has a set kept, and never both. Assumes nothing.
use Rattle.std.specs.Prelude.{ℕ, ◌+◌, ◌<◌, ◌≡◌, List, ◌⊎◌, get_or}
use Rattle.std.proofs.Common.{ap, inl, inr, arith}
use Rattle.std.proofs.Props.{props}
use Rattle.meaning.specs.Sets.{sat, node_sets}
use Rattle.sets.specs.Work.{blank_at, Known}

either_single : {A B : Type 0} → IsProp A → IsProp B → (A → B → ⊥) → IsProp (A ⊎ B)
either_single pa pb ex (inl x) (inl y) = ap inl (pa x y)
either_single pa pb ex (inl x) (inr y) = absurd (ex x y)
either_single pa pb ex (inr x) (inl y) = absurd (ex y x)
either_single pa pb ex (inr x) (inr y) = ap inr (pb x y)

byte_single : (m ys w : List ℕ) (i : ℕ)
    → IsProp ((get_or w i 0 ≡ blank_at m i) ⊎ ((blank_at m i ≡ 0) × (get_or w i 0 ≡ 8 + sat (node_sets m ys) i) × (sat (node_sets m ys) i < 8)))
byte_single m ys w i = either_single (Prim.hlevel props) (Prim.hlevel props) (λ a b. omega (arith, a, b.0, b.1))

pub known_single : (m ys w : List ℕ) → IsProp (Known m ys w)
known_single m ys w = Prim.hlevel (props, byte_single)
