-- The number of each op of a node and of each type of a symbol, as the definitions of crate meaning have them. Assumes nothing: these are definitions.
use Rattle.std.specs.Prelude.{ℕ, ◌≡◌, ◌<◌, Result, MatchResult}
use Rattle.fields.specs.declared.Op.{Op}
use Rattle.fields.specs.declared.Op.TheVariants.{Constant, Symbol, Text, Int, Hex, Not, And, Or, Equal, Unequal}
use Rattle.fields.specs.declared.SymbolType.{SymbolType}
use Rattle.fields.specs.declared.SymbolType.TheVariants as y
use Rattle.fields.specs.declared.Unknown.{Unknown}

abbrev pub number_of_op : Op → ℕ
number_of_op Constant = 0
number_of_op Symbol = 1
number_of_op Text = 2
number_of_op Int = 3
number_of_op Hex = 4
number_of_op Not = 5
number_of_op And = 6
number_of_op Or = 7
number_of_op Equal = 8
number_of_op Unequal = 9

abbrev pub number_of_type : SymbolType → ℕ
number_of_type y.Boolean = 0
number_of_type y.Tristate = 1
number_of_type y.Text = 2
number_of_type y.Int = 3
number_of_type y.Hex = 4

-- the op of this number, or an error that tells a number above the last op's
abbrev pub ReadsOp : ℕ → Result Op Unknown → Type 0
ReadsOp n r = MatchResult r (λ op. number_of_op op ≡ n) (λ e. (e.0 ≡ n) × (9 < n))

-- the type of this number, or an error that tells a number above the last type's
abbrev pub ReadsType : ℕ → Result SymbolType Unknown → Type 0
ReadsType n r = MatchResult r (λ kind. number_of_type kind ≡ n) (λ e. (e.0 ≡ n) × (4 < n))
