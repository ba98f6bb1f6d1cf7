-- A number is one op's and one type's alone, by the op and the type that it stands for. Assumes nothing.
use mathlib.Core.Path.{◌≡◌, refl, sym, ◌∙◌, ap}
use Prim.Native.Nat.{ℕ, ◌+◌, ◌<◌}
use native.Mathlib.Omega.{arith}
use lib.Dec.{eqb}
use Rattle.std.specs.Prelude.{Option, Some, None, Result, Ok, Err, IfSome, IfNone}
use Rattle.meaning.specs.Base.{pick}
use Rattle.fields.specs.declared.Op.{Op}
use Rattle.fields.specs.declared.Op.TheVariants.{Constant, Symbol, Text, Int, Hex, Not, And, Or, Equal, Unequal}
use Rattle.fields.specs.declared.SymbolType.{SymbolType}
use Rattle.fields.specs.declared.SymbolType.TheVariants as y
use Rattle.fields.specs.declared.Unknown.{Unknown}
use Rattle.fields.specs.Numbers.{number_of_op, number_of_type, ReadsOp, ReadsType}

-- the op of a number
abbrev op_of_number : ℕ → Op
op_of_number n =
    pick (eqb n 0) Constant (pick (eqb n 1) Symbol (pick (eqb n 2) Text (pick (eqb n 3) Int (pick (eqb n 4) Hex
    (pick (eqb n 5) Not (pick (eqb n 6) And (pick (eqb n 7) Or (pick (eqb n 8) Equal Unequal))))))))

op_back : (o : Op) → op_of_number (number_of_op o) ≡ o
op_back Constant = refl
op_back Symbol = refl
op_back Text = refl
op_back Int = refl
op_back Hex = refl
op_back Not = refl
op_back And = refl
op_back Or = refl
op_back Equal = refl
op_back Unequal = refl

op_small : (o : Op) → number_of_op o < 10
op_small Constant = omega arith
op_small Symbol = omega arith
op_small Text = omega arith
op_small Int = omega arith
op_small Hex = omega arith
op_small Not = omega arith
op_small And = omega arith
op_small Or = omega arith
op_small Equal = omega arith
op_small Unequal = omega arith

-- the type of a number
abbrev type_of_number : ℕ → SymbolType
type_of_number n = pick (eqb n 0) y.Boolean (pick (eqb n 1) y.Tristate (pick (eqb n 2) y.Text (pick (eqb n 3) y.Int y.Hex)))

type_back : (o : SymbolType) → type_of_number (number_of_type o) ≡ o
type_back y.Boolean = refl
type_back y.Tristate = refl
type_back y.Text = refl
type_back y.Int = refl
type_back y.Hex = refl

type_small : (o : SymbolType) → number_of_type o < 5
type_small y.Boolean = omega arith
type_small y.Tristate = omega arith
type_small y.Text = omega arith
type_small y.Int = omega arith
type_small y.Hex = omega arith

-- where a number is one thing's alone, two answers that tell it are the same: n is the number, b the last of all
module _ {A : Type 0} (number : A → ℕ) (read : ℕ → A) (b n : ℕ) (back : (a : A) → read (number a) ≡ a) (small : (a : A) → number a < b + 1) where
  same : (a c : A) → number a ≡ n → number c ≡ n → a ≡ c
  same a c p q = sym (back a) ∙ ap read (p ∙ sym q) ∙ back c

  pub same_option : (x z : Option A) → IfSome x (λ a. number a ≡ n) → IfNone x (b < n) → IfSome z (λ a. number a ≡ n) → IfNone z (b < n) → x ≡ z
  same_option (Some a) (Some c) p _ q _ = ap Some (same a c p q)
  same_option (Some a) None p _ _ q = absurd (omega (arith, p, q, small a))
  same_option None (Some c) _ p q _ = absurd (omega (arith, p, q, small c))
  same_option None None _ _ _ _ = refl

module _ (n : ℕ) where
  pub same_op : (x z : Result Op Unknown) → ReadsOp n x → ReadsOp n z → x ≡ z
  same_op (Ok a) (Ok c) p q = ap Ok (same number_of_op op_of_number 9 n op_back op_small a c p q)
  same_op (Ok a) (Err e) p q = absurd (omega (arith, p, q.1, op_small a))
  same_op (Err e) (Ok c) p q = absurd (omega (arith, q, p.1, op_small c))
  same_op (Err e) (Err f) p q = ap Err (ap (λ (v : ℕ). record { 0 = v }) (p.0 ∙ sym q.0))

  pub same_type : (x z : Result SymbolType Unknown) → ReadsType n x → ReadsType n z → x ≡ z
  same_type (Ok a) (Ok c) p q = ap Ok (same number_of_type type_of_number 4 n type_back type_small a c p q)
  same_type (Ok a) (Err e) p q = absurd (omega (arith, p, q.1, type_small a))
  same_type (Err e) (Ok c) p q = absurd (omega (arith, q, p.1, type_small c))
  same_type (Err e) (Err f) p q = ap Err (ap (λ (v : ℕ). record { 0 = v }) (p.0 ∙ sym q.0))

  pub same_node_op : (x z : Option Op) → IfSome x (λ o. number_of_op o ≡ n) → IfNone x (9 < n) → IfSome z (λ o. number_of_op o ≡ n) → IfNone z (9 < n) → x ≡ z
  same_node_op = same_option number_of_op op_of_number 9 n op_back op_small

  pub same_symbol_type : (x z : Option SymbolType) → IfSome x (λ o. number_of_type o ≡ n) → IfNone x (4 < n) → IfSome z (λ o. number_of_type o ≡ n) → IfNone z (4 < n) → x ≡ z
  same_symbol_type = same_option number_of_type type_of_number 4 n type_back type_small
