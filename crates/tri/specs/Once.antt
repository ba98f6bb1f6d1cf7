-- What it is that a contract allows one answer only. It stands in the lowest crate, since every crate above says it of its functions. Assumes nothing: these are definitions.
use Rattle.std.specs.Prelude.{◌≡◌, List, ℕ}
use contract.Lifetimes.{Lfts}
use borrow.Fn.Kinds.{ParamKind, ResultKind, Dens, res_t, ended_of, Out}
use denote.Triple.Clauses.{AtExit}

-- `Post` is a contract's `ensures` as Rattle reads it: of the lifetimes, the arguments, the result and the lent bytes at exit
module _ (n : ℕ) (ps : List (ParamKind n)) (r : ResultKind n) (Post : Out n ps r) where
  -- two results that meet it from one input are the same
  abbrev pub Once : Type 0
  Once =
      (κs : Lfts n) (a : Dens κs ps) (x y : (res_t r κs).Denot) (s t : AtExit (ended_of n ps r) κs)
      → Post κs a x s
      → Post κs a y t
      → x ≡ y

  -- so is what `out` takes from a result and the lent bytes: the result with each room, or a room alone
  abbrev pub OnceIn : {A : Type 0} → ((κs : Lfts n) → (res_t r κs).Denot → AtExit (ended_of n ps r) κs → A) → Type 0
  OnceIn out =
      (κs : Lfts n) (a : Dens κs ps) (x y : (res_t r κs).Denot) (s t : AtExit (ended_of n ps r) κs)
      → Post κs a x s
      → Post κs a y t
      → out κs x s ≡ out κs y t
