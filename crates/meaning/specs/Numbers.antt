-- The number that each refusal is answered with, and what a number refuses. Assumes nothing: these are definitions.
use Rattle.std.specs.Prelude.{ℕ, List, ◌++◌, eqb, codes, decimal}
use Rattle.meaning.specs.declared.Answer.{Answer}
use Rattle.meaning.specs.declared.Refusal.{Refusal}
use Rattle.meaning.specs.Base.{pick}
use Rattle.meaning.specs.declared.Refusal.TheVariants.{Length, Section, Record, ModulesSymbol, Contents, Entry, NodeRoom, SymbolRoom, Typed, Lower, Upper, Default, Range, One, Kind, Mandatory, Modules, Head, Tree, Leaf, Met, Other}

abbrev pub refusal_number : Refusal → ℕ
refusal_number Length = 1
refusal_number Section = 2
refusal_number Record = 3
refusal_number ModulesSymbol = 4
refusal_number Contents = 5
refusal_number Entry = 6
refusal_number NodeRoom = 7
refusal_number SymbolRoom = 8
refusal_number Typed = 10
refusal_number Lower = 11
refusal_number Upper = 12
refusal_number Default = 13
refusal_number Range = 14
refusal_number One = 15
refusal_number Kind = 16
refusal_number Mandatory = 17
refusal_number Modules = 18
refusal_number Head = 21
refusal_number Tree = 22
refusal_number Leaf = 23
refusal_number Met = 24
refusal_number (Other n) = n

-- by document 01's numbers, and else the number as it is
unfoldable pub refusal_of : ℕ → Refusal
refusal_of n =
    pick (eqb n 1) Length (
    pick (eqb n 2) Section (
    pick (eqb n 3) Record (
    pick (eqb n 4) ModulesSymbol (
    pick (eqb n 5) Contents (
    pick (eqb n 6) Entry (
    pick (eqb n 7) NodeRoom (
    pick (eqb n 8) SymbolRoom (
    pick (eqb n 10) Typed (
    pick (eqb n 11) Lower (
    pick (eqb n 12) Upper (
    pick (eqb n 13) Default (
    pick (eqb n 14) Range (
    pick (eqb n 15) One (
    pick (eqb n 16) Kind (
    pick (eqb n 17) Mandatory (
    pick (eqb n 18) Modules (
    pick (eqb n 21) Head (
    pick (eqb n 22) Tree (
    pick (eqb n 23) Leaf (
    pick (eqb n 24) Met (Other n)))))))))))))))))))))

-- an answer as it prints: its three numbers, each as the library writes one, with one space between
abbrev pub printed : Answer → List ℕ
printed a = decimal a.number ++ (codes " " ++ (decimal a.place ++ (codes " " ++ decimal a.second)))
