-- What a leaf that was read stands for, and how it is spelled. Assumes nothing: these are definitions.
use Rattle.std.specs.Prelude.{ℕ, List}
use Rattle.meaning.specs.Base.{part}
use Rattle.meaning.specs.Table.{Content, a_three, a_text, an_int, a_hex}
use Rattle.meaning.specs.Spell.{spelled}
use Rattle.spell.specs.declared.Leaf.{Leaf}
use Rattle.spell.specs.declared.Leaf.TheVariants.{Three, Note, Text, Int, Hex}
use Rattle.meaning.specs.declared.Value.{Value}

-- a note stands in the book m, a text in the table t
abbrev pub leaf_content : List ℕ → List ℕ → Leaf → Content
leaf_content m t (Three v) = a_three v
leaf_content m t (Note at n) = a_text (part m at n)
leaf_content m t (Text at n) = a_text (part t at n)
leaf_content m t (Int z) = an_int z
leaf_content m t (Hex h) = a_hex h

abbrev pub spelled_leaf : List ℕ → List ℕ → Leaf → List ℕ
spelled_leaf m t l = spelled (leaf_content m t l)

-- an entry's value as a leaf
abbrev pub leaf_of_value : Value → Leaf
leaf_of_value (Value.Three v) = Three v
leaf_of_value (Value.Text at n) = Text at n
leaf_of_value (Value.Int z) = Int z
leaf_of_value (Value.Hex h) = Hex h
