-- What the finding check owes, from each place where it answers. Assumes nothing.
use mathlib.Core.Path.{◌≡◌, refl, sym, ◌∙◌}
use mathlib.Core.Bool.{◌||◌, not}
use mathlib.Mathlib.Data.Bool.Basic.{or-eq-false-eq-eq-false-and-eq-false as neither}
use mathlib.Core.List.{List, ◌++◌}
use Prim.Native.Nat.{ℕ, ◌-◌, ◌≤◌, ◌<◌}
use native.Mathlib.Omega.{arith}
use lib.Dec.{eqb, ltb}
use lib.ListN.{length, get_or, take, drop, replicate}
use lib.Seq.{length-take-le}
use borrow.Author.Tests.{lt-ltb, le-ltb, ltb-false}
use Rattle.meaning.specs.Base.{Outcome}
use Rattle.std.specs.Prelude.{Err}
use Rattle.meaning.specs.declared.Answer.{Answer}
use Rattle.meaning.specs.Base.{Clean, Fault}
use Rattle.meaning.specs.Base.{when}
use Rattle.meaning.specs.Book.{symbols, nodes, selects, book_fault}
use Rattle.meaning.specs.Rules.{node_room_fault}
use Rattle.meaning.specs.Findings.{select_of, finding_kind, head_fault, symbol_room_fault, finding_refusal, body_fault, finding_outcome, zeroed, finding_node_work, finding_symbol_work}
use Rattle.meaning.proofs.First.{a_fault, first_fault, first_clean, when_iff}
use Rattle.findings.specs.Found.{Found}

-- a head that stands has a length that does
pub head_lengths : (m f : List ℕ) {h : Outcome} → h ≡ head_fault m f → h ≡ Clean → (4 ≤ length f) × (length f < 65536)
unfolding head_fault
head_lengths m f eh ch =
    let short = ltb (length f) 4 in
    let long = ltb 65535 (length f) in
    let select = not (ltb (select_of f) (selects m)) in
    let kind = ltb 1 (finding_kind f) in
    let zero-byte = not (eqb (get_or f 3 0) 0) in
    let e = (when_iff (short || long || select || kind || zero-byte) _ (a_fault 21 0 65535)).0 (sym eh ∙ ch) in
    let d = ((neither (short || long || select || kind) zero-byte).0 e).0 in
    let c = ((neither (short || long || select) kind).0 d).0 in
    let b = ((neither (short || long) select).0 c).0 in
    let a = (neither short long).0 b in
    (ltb-false (length f) 4 a.0, omega (arith, ltb-false 65535 (length f) a.1))

-- REFUSED up to 8: the outcome is the refusal, and both rooms stay
module _ (m f w z : List ℕ) {r : Outcome} {x : Answer} (h : r ≡ Err x) where
  refused : r ≡ finding_refusal m f (length w) (length z) → Found m f w z r w z
  unfolding finding_outcome finding_node_work finding_symbol_work
  refused e = record { answers = first_fault _ e h; works = rw (← e, h); marks = rw (← e, h) }

  pub refused_book : r ≡ book_fault m → Found m f w z r w z
  unfolding finding_refusal
  refused_book e = refused (first_fault _ e h)

  pub refused_head : {b : Outcome} → b ≡ book_fault m → b ≡ Clean → r ≡ head_fault m f → Found m f w z r w z
  unfolding finding_refusal
  refused_head eb cb e = refused (first_clean eb cb (first_fault _ e h))

-- the parts before the rooms are clean
module _ (m f w z : List ℕ) {b a : Outcome} {n : ℕ} (eb : b ≡ book_fault m) (cb : b ≡ Clean) (ea : a ≡ head_fault m f) (ca : a ≡ Clean) (en : n ≡ nodes m) where
  too_short : length w < n → Fault 7 n 65535 ≡ node_room_fault m (length w)
  unfolding node_room_fault when
  too_short lt = rw (← en, lt-ltb (length w) n lt)

  pub refused_nodes : {r : Outcome} → r ≡ Fault 7 n 65535 → length w < n → Found m f w z r w z
  unfolding finding_refusal
  refused_nodes e lt = refused m f w z e (first_clean eb cb (first_clean ea ca (first_fault _ (e ∙ too_short lt) e)))

  module _ {k : ℕ} (le : n ≤ length w) (ek : k ≡ symbols m) where
    roomy : Clean ≡ node_room_fault m (length w)
    unfolding node_room_fault when
    roomy = rw (← en, le-ltb (length w) n le)

    pub refused_symbols : {r : Outcome} → r ≡ Fault 8 k 65535 → length z < k → Found m f w z r w z
    unfolding finding_refusal symbol_room_fault when
    refused_symbols e lt = refused m f w z e (first_clean eb cb (first_clean ea ca (first_clean roomy refl (e ∙ rw (← ek, lt-ltb (length z) k lt)))))

    -- ANSWERED: the body decides, and both rooms are zero in front
    module _ (lk : k ≤ length z) where
      admitted : Clean ≡ finding_refusal m f (length w) (length z)
      unfolding finding_refusal symbol_room_fault when
      admitted = first_clean eb cb (first_clean ea ca (first_clean roomy refl (rw (← ek, le-ltb (length z) k lk))))

      pub answered : {r : Outcome} {w' z' : List ℕ} → r ≡ body_fault m f → w' ≡ zeroed (nodes m) w → z' ≡ zeroed (symbols m) z → Found m f w z r w' z'
      unfolding finding_outcome finding_node_work finding_symbol_work
      answered er ew ez = record { answers = first_clean admitted refl er; works = rw (← admitted) ew; marks = rw (← admitted) ez }

-- a room that was lent in front, and is zero there
pub in_front : (w : List ℕ) {d : List ℕ} {n k : ℕ} → d ≡ replicate k 0 → n ≡ k → d ++ drop (n - 0) w ≡ zeroed k w
unfolding zeroed
in_front w {n = n} {k = k} ed en = let e : n - 0 ≡ k = omega arith in rw (ed, e)

pub front_length : (w : List ℕ) {n k : ℕ} → n ≤ length w → n ≡ k → length (take (n - 0) w) ≡ k
front_length w {n = n} le en = let e : n - 0 ≡ n = omega arith in rw e (length-take-le n w le) ∙ en
