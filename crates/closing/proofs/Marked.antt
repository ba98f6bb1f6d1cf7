-- A number is one mark's alone, by the mark that it stands for. Assumes nothing.
use mathlib.Core.Path.{◌≡◌, refl, sym, ◌∙◌, ap}
use Prim.Native.Nat.{ℕ}
use lib.Dec.{eqb}
use Rattle.std.specs.Prelude.{Result, Ok, Err}
use Rattle.meaning.specs.Base.{pick}
use Rattle.fields.specs.declared.Unknown.{Unknown}
use Rattle.closing.specs.declared.Mark.{Mark}
use Rattle.closing.specs.declared.Mark.TheVariants.{Lower, Upper, Default, One, Mandatory, Modules, Met}
use Rattle.closing.specs.Marks.{number_of, NoMark, ReadsMark}

-- the mark of a number
abbrev mark_of : ℕ → Mark
mark_of n =
    pick (eqb n 11) Lower (pick (eqb n 12) Upper (pick (eqb n 13) Default (pick (eqb n 15) One (pick (eqb n 17) Mandatory (pick (eqb n 18) Modules Met)))))

back : (a : Mark) → mark_of (number_of a) ≡ a
back Lower = refl
back Upper = refl
back Default = refl
back One = refl
back Mandatory = refl
back Modules = refl
back Met = refl

-- a number that no mark has is no mark's
no_mark : (a : Mark) (n : ℕ) → number_of a ≡ n → NoMark n → ⊥
no_mark Lower n p h = h.0 (sym p)
no_mark Upper n p h = h.1 (sym p)
no_mark Default n p h = h.2 (sym p)
no_mark One n p h = h.3 (sym p)
no_mark Mandatory n p h = h.4 (sym p)
no_mark Modules n p h = h.5 (sym p)
no_mark Met n p h = h.6 (sym p)

pub same_mark : (n : ℕ) (x z : Result Mark Unknown) → ReadsMark n x → ReadsMark n z → x ≡ z
same_mark n (Ok a) (Ok c) p q = ap Ok (sym (back a) ∙ ap mark_of (p ∙ sym q) ∙ back c)
same_mark n (Ok a) (Err e) p q = absurd (no_mark a n p q.1)
same_mark n (Err e) (Ok c) p q = absurd (no_mark c n q p.1)
same_mark n (Err e) (Err f) p q = ap Err (ap (λ (v : ℕ). record { 0 = v }) (p.0 ∙ sym q.0))
