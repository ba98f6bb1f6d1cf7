-- The table of a list of values is readable, and has these values: its entries stand one behind the other. Assumes nothing.
use Prim.Native.Nat.{ℕ, zero, suc, ◌+◌, ◌*◌, ◌/◌, ◌%◌, ◌≤◌, ◌<◌, min}
use mathlib.Core.Path.{◌≡◌, refl, sym, ◌∙◌, ap}
use mathlib.Core.Bool.{true}
use mathlib.Core.Logic.{⊎_elim}
use mathlib.Core.List.{List, [], ◌∷◌, ◌++◌}
use native.Mathlib.Nat.{not-suc-le-zero, eq-or-lt_of_le, le_of_suc-le-suc}
use native.Mathlib.Omega.{arith}
use lib.ListN.{length, get_or, length-append, get_or-eq_default}
use lib.Seq.{get_or-drop}
use borrow.Author.Tests.{le-leb, lt-ltb, eq-eqb}
use Rattle.std.proofs.lemmas.Bool.{cases_lt}
use Rattle.meaning.specs.Base.{Clean, half}
use Rattle.meaning.specs.Table.{a_three, entries, kind_of, length_of, start_of, body_due, length_fits, entry_ok, table_fault, read_of, content_of}
use Rattle.meaning.specs.Values.{val}
use Rattle.meaning.specs.Findings.{bytes_of, contents_of, table_of}
use Rattle.demands.proofs.Bytes.{At, at_whole, at_read, at_skip, at_assoc, at_half}
use Rattle.demands.proofs.Readable.{readable_iff}
use Rattle.demands.proofs.Typed.{past_entries}

contents_length : (n s : ℕ) → length (contents_of n s) ≡ 4 * s
unfolding contents_of bytes_of
contents_length n zero = refl
contents_length n (suc s) =
    omega (arith, length-append (contents_of n s) (0 ∷ 1 ∷ bytes_of (4 + 4 * n + s)), contents_length n s)

-- entry i of them stands 4 * i further
record Entry (f : List ℕ) (at start : ℕ) : Type 0 where
  rest : List ℕ
  here : At f at (0 ∷ 1 ∷ start % 256 ∷ start / 256 ∷ rest)

entry_at_lem : (f : List ℕ) (n s i at : ℕ) (r : List ℕ) → At f at (contents_of n s ++ r) → i < s → Entry f (at + 4 * i) (4 + 4 * n + i)
unfolding contents_of bytes_of
entry_at_lem f n zero i at r h lt = absurd (not-suc-le-zero lt)
entry_at_lem f n (suc s) i at r h lt =
    let g = at_assoc f at (contents_of n s) _ r h in
    ⊎_elim
    (λ (e : i ≡ s). rw e (record { rest = r; here = rw (contents_length n s) at (at_skip f at (contents_of n s) _ g) }))
    (λ l. entry_at_lem f n s i at _ g l)
    (eq-or-lt_of_le (le_of_suc-le-suc lt))

module _ (vs : List ℕ) where
  abbrev n : ℕ
  n = length vs

  abbrev f : List ℕ
  f = table_of vs

  bytes : At f 0 ((4 + 5 * n) % 256 ∷ (4 + 5 * n) / 256 ∷ n % 256 ∷ n / 256 ∷ (contents_of n n ++ vs))
  unfolding table_of bytes_of
  bytes = at_whole f

  contents : At f 4 (contents_of n n ++ vs)
  contents = at_skip f 0 ((4 + 5 * n) % 256 ∷ (4 + 5 * n) / 256 ∷ n % 256 ∷ n / 256 ∷ []) _ bytes

  bodies : At f (4 + 4 * n) vs
  bodies = rw (contents_length n n) at (at_skip f 4 (contents_of n n) vs contents)

  table_length : length f ≡ 4 + 5 * n
  table_length = omega (arith, bodies.ends)

  total : half f 0 ≡ 4 + 5 * n
  total = at_half f 0 (4 + 5 * n) _ bytes

  pub counted : entries f ≡ n
  counted = at_half f 2 n _ (at_skip f 0 ((4 + 5 * n) % 256 ∷ (4 + 5 * n) / 256 ∷ []) _ bytes)

  -- the byte of entry i
  body_is : (i : ℕ) → get_or f (4 + 4 * n + i) 0 ≡ val vs i
  body_is i = sym (get_or-drop (4 + 4 * n) f i 0) ∙ ap (λ (x : List ℕ). val x i) bodies.front

  module _ (i : ℕ) (lt : i < n) where
    entry : Entry f (4 + 4 * i) (4 + 4 * n + i)
    entry = entry_at_lem f n n i 4 vs contents lt

    kind_is : kind_of f i ≡ 0
    kind_is = at_read f (4 + 4 * i) 0 _ entry.here

    length_is : length_of f i ≡ 1
    length_is = at_read f (4 + 4 * i + 1) 1 _ (at_skip f (4 + 4 * i) (0 ∷ []) _ entry.here)

    start_is : start_of f i ≡ 4 + 4 * n + i
    start_is = at_half f (4 + 4 * i + 2) _ _ (at_skip f (4 + 4 * i) (0 ∷ 1 ∷ []) _ entry.here)

  due_is : (i : ℕ) → i ≤ n → body_due f n i ≡ 4 + 4 * n + i
  unfolding body_due
  due_is zero le = omega arith
  due_is (suc i) le = omega (arith, start_is i le, length_is i le)

  module _ (small : (i : ℕ) → val vs i < 3) where
    entry_ok_lem : (i : ℕ) → i < n → entry_ok f n i ≡ true
    unfolding entry_ok length_fits
    entry_ok_lem i lt =
        let fits : 4 + 4 * n + i + 1 ≤ length f = omega (arith, table_length) in
        let low : val vs i ≤ 2 = omega (arith, small i) in
        rw (
          kind_is i lt,
          length_is i lt,
          start_is i lt,
          due_is i (omega arith),
          eq-eqb (4 + 4 * n + i) (4 + 4 * n + i) refl,
          le-leb (4 + 4 * n + i + 1) (length f) fits,
          body_is i,
          le-leb (val vs i) 2 low,
        )

    pub table_clean : table_fault f n ≡ Clean
    table_clean =
        (readable_iff f n).1
        (record {
          long = omega (arith, table_length);
          whole = total ∙ sym table_length;
          counted = counted;
          entry = entry_ok_lem;
          ended = omega (arith, due_is n (omega arith), table_length);
        })

    -- what stands at a symbol: its value; n past them
    pub table_content : (i : ℕ) → content_of f i ≡ a_three (val vs i)
    unfolding content_of read_of
    table_content i = ⊎_elim within past (cases_lt i n)
      where
        within : i < n → content_of f i ≡ a_three (val vs i)
        within lt =
            let low : min (val vs i) 2 ≡ val vs i = omega (arith, small i) in
            rw (counted, lt-ltb i n lt, kind_is i lt, start_is i lt, body_is i, low)

        past : n ≤ i → content_of f i ≡ a_three (val vs i)
        past le = past_entries f i (rw counted le) ∙ ap a_three (sym (get_or-eq_default vs 0 {n = i} le))
