-- What an entry's value stands for, and the leaves that have no value of their own. Assumes nothing.
use mathlib.Core.Path.{◌≡◌, refl}
use mathlib.Core.Bool.{Bool, true, false}
use mathlib.Core.List.{List}
use Prim.Native.Nat.{ℕ}
use lib.IntN.{ℤ}
use Rattle.meaning.specs.declared.Value.{Value}
use Rattle.meaning.specs.declared.Value.TheVariants.{Three, Text, Int, Hex}
use Rattle.meaning.specs.Base.{pick}
use Rattle.meaning.specs.Table.{a_three, a_text, an_int, a_hex, content_in, three_in}
use Rattle.spell.specs.Leaves.{leaf_content, leaf_of_value}

-- an entry's value stands for the same as a leaf
pub as_leaf : (m t : List ℕ) (w : Value) → leaf_content m t (leaf_of_value w) ≡ content_in t w
as_leaf m t (Three v) = refl
as_leaf m t (Text at n) = refl
as_leaf m t (Int z) = refl
as_leaf m t (Hex h) = refl

-- a text, a number, or no leaf has value n
pub others : (a b c : Bool) (l : List ℕ) (z : ℤ) (h : ℕ) → three_in (pick a (a_text l) (pick b (an_int z) (pick c (a_hex h) (a_three 0)))) ≡ 0
others true b c l z h = refl
others false true c l z h = refl
others false false true l z h = refl
others false false false l z h = refl
