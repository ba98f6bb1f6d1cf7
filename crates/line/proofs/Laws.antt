-- One text written behind another, how long a name can be, and the line from its parts. Assumes nothing.
use mathlib.Core.Path.{◌≡◌, refl, sym, ◌∙◌, ap}
use mathlib.Core.Bool.{Bool, true, false, ◌&&◌, ◌||◌}
use lib.Dec.{ltb, leb, eqb}
use mathlib.Core.List.{List, [], ◌∷◌, ◌++◌, append_assoc}
use Prim.Native.Nat.{ℕ, ◌+◌, ◌*◌, ◌≤◌, ◌<◌}
use native.Mathlib.Omega.{arith}
use lib.ListN.{length, get_or, take, drop, length-append, length-take, length-drop}
use lib.Seq.{length-take-le, take_at, drop_at, drop-drop}
use borrow.Author.Tests.{lt-ltb, le-ltb}
use Rattle.meaning.specs.declared.Answer.{Answer}
use Rattle.meaning.specs.Base.{Outcome}
use Rattle.meaning.specs.declared.Refusal.{Refusal}
use Rattle.meaning.specs.declared.Refusal.TheVariants.{Typed, Lower, Upper, Default, Range, One, Kind, Modules}
use Rattle.meaning.specs.Numbers.{refusal_of}
use Rattle.std.proofs.lemmas.Bool.Decides.{nat_tests}
use Rattle.std.specs.Prelude.{Ok, Err}
use Rattle.meaning.specs.Base.{pick, half, part, if_clean, answer_of}
use Rattle.meaning.specs.Book.{name_of, byte_in, book_fault, symbols, start, width, spelled_name, name_length, name_start}
use Rattle.meaning.specs.Rules.{node_work}
use Rattle.meaning.specs.Program.{model_length, model_part, table_part, offender, or_dash, program_outcome, line_with, line_of}
use Rattle.rules.specs.Checked.{Checked}
use Rattle.line.specs.declared.Text.{Text}
use Rattle.line.specs.Written.{Written, Pushed, Lined}
use Rattle.line.specs.Numbers.{three_numbers}

-- THE SPLIT
pub short_model : (i : List ℕ) → length i < 2 → length i ≡ model_length i
unfolding model_length
short_model i lt = rw (lt-ltb (length i) 2 lt)

pub long_model : (i : List ℕ) {r : ℕ} → 2 ≤ length i → r ≡ half i 0 → r ≡ model_length i
unfolding model_length
long_model i le e = rw (le-ltb (length i) 2 le) e

-- A NAME is no longer than a byte counts
either_short : (o : Outcome) (q : Bool) (l : List ℕ) → length l < 256 → length (if_clean o (pick q l []) []) < 256
either_short (Ok _) true l h = h
either_short (Ok _) false l h = omega arith
either_short (Err f) q l h = omega arith

module _ (m : List ℕ) (small : (i : ℕ) → get_or m i 0 < 256) where
  field_small : (k i f : ℕ) → byte_in m k i f < 256
  unfolding byte_in
  field_small k i f = small (start m k + i * width k + f)

  spelled_short : (s : ℕ) → length (spelled_name m s) < 256
  unfolding part
  spelled_short s = omega (arith, length-take (name_length m s) (drop (name_start m s) m), field_small 1 s 1)

  pub short_name : (s : ℕ) {l : List ℕ} → l ≡ name_of m s → (l ≡ name_of m s) × (length l < 256)
  unfolding name_of
  short_name s e = (e, rw e (either_short (book_fault m) (ltb s (symbols m)) (spelled_name m s) (spelled_short s)))

-- WRITING
-- one text behind another
module _ (o : List ℕ) (at : ℕ) {x : List ℕ} {r : ℕ} {a : List ℕ} (le : r ≤ length o) (w : Written o at x r a) where
  front_length : length (take at o ++ x) ≡ r
  front_length = length-append (take at o) x ∙ omega (arith, w.ends, length-take-le at o (omega (arith, w.ends)))

  front : take r a ≡ take at o ++ x
  front = ap (take r) w.holds ∙ take_at (take at o ++ x) (drop r o) r front_length

  back : (k : ℕ) → drop (r + k) a ≡ drop (r + k) o
  back k =
      sym (drop-drop k r a) ∙ ap (drop k) (ap (drop r) w.holds ∙ drop_at (take at o ++ x) (drop r o) r front_length) ∙ drop-drop k r o

  pub behind : (y : List ℕ) {e : ℕ} {b : List ℕ} → Written a r y e b → Written o at (x ++ y) e b
  behind y v =
      record {
        ends = omega (arith, w.ends, v.ends, length-append x y);
        holds = v.holds ∙ rw (front, v.ends, back (length y), append_assoc (take at o) x y);
        long = v.long ∙ w.long;
      }

-- one text pushed behind another
pub pushed_on : {a b c : Text} {x y : List ℕ} → b.len ≤ length a.room.now → Pushed x a b → Pushed y b c → Pushed (x ++ y) a c
pushed_on {a = a} {y = y} le p q =
    record { written = behind a.room.now a.len le p.written y q.written; lent = q.lent ∙ p.lent }

-- THE LINE. A text written at the front ends inside
inside : (o : List ℕ) {t : List ℕ} {r : ℕ} {a : List ℕ} → Written o 0 t r a → r ≤ length o
inside o {t} {r} {a} w =
    let sum : length a ≡ length t + length (drop r o) = ap length w.holds ∙ length-append t (drop r o) in
    omega (arith, sum, w.ends, w.long, length-drop r o)

text_is : (a : Answer) (l : List ℕ) → three_numbers a ++ (l ++ (10 ∷ [])) ≡ line_with a l
unfolding line_with
text_is a l = simp append_assoc

module _ (i w o : List ℕ) {m : ℕ} {model table : List ℕ} (em : m ≡ model_length i) (eb : model ≡ part i 0 m) (et : table ≡ drop m i) where
  model_is : model ≡ model_part i
  unfolding part model_part
  model_is = eb ∙ rw em

  table_is : table ≡ table_part i
  unfolding table_part
  table_is = et ∙ rw em

  module _ {c : Outcome} {work : List ℕ} (room : length w ≡ 65535) (k : Checked model table w c work) where
    outcome_is : c ≡ program_outcome i
    unfolding program_outcome
    outcome_is = k.answers ∙ rw (model_is, table_is, room)

    works_is : work ≡ node_work (model_part i) (table_part i) w
    works_is = k.works ∙ rw (model_is, table_is)

    module _ {a : Answer} {s : ℕ} {l : List ℕ} (ea : a ≡ answer_of c) (es : s ≡ offender c) (el : l ≡ name_of model s) where
      line_is : three_numbers a ++ (or_dash l ++ (10 ∷ [])) ≡ line_of i
      unfolding line_of
      line_is = text_is a (or_dash l) ∙ rw (ea, el, es, model_is, outcome_is)

      pub lined : {at r : ℕ} {p q d : List ℕ} → at ≤ length o → Written o 0 (three_numbers a) at p
          → Written p at (or_dash l ++ (10 ∷ [])) r q → d ≡ q → Lined i w o r work d
      lined le x y same =
          let z = behind o 0 le x (or_dash l ++ (10 ∷ [])) y in
          record {
            ends = z.ends ∙ rw line_is (omega arith);
            holds = same ∙ z.holds ∙ rw line_is;
            fits = inside o z;
            works = works_is;
          }

-- WHOM AN OUTCOME NAMES: none, where what is refused is none of the rules that name a symbol
named_apart : (n k : ℕ) (r : Refusal) → refusal_of k ≡ r → (refusal_of n ≡ r → ⊥) → n ≡ k → ⊥
named_apart n k r e f q = f (rw q e)

none_named :
    (n p s : ℕ)
    → (n ≡ 10 → ⊥) → (n ≡ 11 → ⊥) → (n ≡ 12 → ⊥) → (n ≡ 13 → ⊥) → (n ≡ 14 → ⊥) → (n ≡ 15 → ⊥) → (n ≡ 16 → ⊥) → (n ≡ 18 → ⊥)
    → 65535 ≡ pick ((leb 10 n && leb n 14) || eqb n 18) p (pick (eqb n 15 || eqb n 16) s 65535)
none_named n p s a b c d e f g h = grind (arith, nat_tests)

pub no_offender :
    (f : Answer) {r : Refusal}
    → r ≡ refusal_of f.number
    → (r ≡ Typed → ⊥) → (r ≡ Lower → ⊥) → (r ≡ Upper → ⊥) → (r ≡ Default → ⊥) → (r ≡ Range → ⊥) → (r ≡ One → ⊥) → (r ≡ Kind → ⊥) → (r ≡ Modules → ⊥)
    → 65535 ≡ offender (Err f)
unfolding refusal_of
no_offender f er a b c d e g h i =
    none_named f.number f.place f.second
    (named_apart f.number 10 Typed refl (rw er at a))
    (named_apart f.number 11 Lower refl (rw er at b))
    (named_apart f.number 12 Upper refl (rw er at c))
    (named_apart f.number 13 Default refl (rw er at d))
    (named_apart f.number 14 Range refl (rw er at e))
    (named_apart f.number 15 One refl (rw er at g))
    (named_apart f.number 16 Kind refl (rw er at h))
    (named_apart f.number 18 Modules refl (rw er at i))
