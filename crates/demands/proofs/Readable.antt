-- The table's search, part by part: clean exactly where the table is readable, else the fault that document 01 names. Entries that are well-formed
-- end within the table, so bodies that do not end at the total end before it. Assumes nothing.
use Prim.Native.Nat.{ℕ, zero, suc, ◌+◌, ◌*◌, ◌≤◌}
use mathlib.Core.Path.{◌≡◌, refl}
use mathlib.Core.Logic.Iff
use mathlib.Core.Logic.{◌⊎◌, inl, inr, ◌↔◌, ⊎_elim}
use mathlib.Core.List.{List}
use native.Mathlib.Omega.{arith}
use lib.ListN.{length}
use Rattle.std.proofs.lemmas.Bool.Decides.{nat_tests}
use Rattle.meaning.specs.Base.{Clean, Fault, half, first_below}
use Rattle.meaning.specs.Table.{entries, body_due, entry_ok, contents_fault, entry_at, bodies_fault, table_fault, Readable}
use Rattle.demands.specs.Broken.{Least}
use Rattle.demands.specs.Refused.{BadContents, GoodContents, BadEntry, GoodEntries, BytesLeft}
use Rattle.demands.proofs.Bools.{says_unlike, denies_unlike, says_or, says_not, denies_or, denies_not, says_lt, denies_lt, or_four}
use Rattle.demands.proofs.Faults.{Search, search_when, search_then, search_each}

module _ (t : List ℕ) (n : ℕ) where
  contents_search : Search (contents_fault t n) (GoodContents t n) (λ k p s. BadContents t n × (k ≡ 5) × (p ≡ 0) × (s ≡ 65535))
  unfolding contents_fault
  contents_search =
      let l = length t in
      let due = 4 + 4 * n in
      search_when 5 0 65535
      (Iff.trans (says_or (says_or (says_or (says_lt l 4) (says_unlike (half t 0) l)) (says_unlike (entries t) n)) (says_lt l due)) or_four)
      (Iff.trans
      (denies_or (denies_or (denies_or (denies_lt l 4) (denies_unlike (half t 0) l)) (denies_unlike (entries t) n)) (denies_lt l due))
      (λ h. (h.1, h.0.0.1, h.0.1), λ h. (((omega arith, h.1), h.2), h.0)))

  entries_search : Search (first_below (entry_at t n) n) (GoodEntries t n) (λ k p s. Least (BadEntry t n) p × (k ≡ 6) × (s ≡ 65535))
  unfolding entry_at
  entries_search =
      let each = search_each 6 (λ s. s) (λ s. 65535) n (λ s. says_not Iff.rfl) (λ s. denies_not Iff.rfl) in
      record {
        clean = each.clean;
        fault = λ k p s.
            let f = each.fault k p s in
            ((λ e. let x = f.0 e in (rw x.3 x.1, x.2, x.4)), (λ h. f.1 (p, h.0, h.1, refl, h.2)));
      }

  -- the bodies end within the table
  ends : (k : ℕ) → k ≤ n → GoodContents t n → GoodEntries t n → body_due t n k ≤ length t
  unfolding body_due entry_ok
  ends zero le c good = c.0
  ends (suc s) le c good = let ok = good s le in grind (arith, nat_tests)

  abbrev pub BadTable : ℕ → ℕ → ℕ → Type 0
  BadTable k p s =
      (BadContents t n × (k ≡ 5) × (p ≡ 0) × (s ≡ 65535))
      ⊎ (GoodContents t n
      × ((Least (BadEntry t n) p × (k ≡ 6) × (s ≡ 65535))
      ⊎ (GoodEntries t n × (BytesLeft t n × (k ≡ 5) × (p ≡ 0) × (s ≡ 65535)))))

  pub table_search : Search (table_fault t n) (Readable t n) BadTable
  unfolding table_fault bodies_fault
  table_search =
      let bodies = search_when 5 0 65535 (says_unlike (body_due t n n) (length t)) (denies_unlike (body_due t n n) (length t)) in
      let all = search_then contents_search (search_then entries_search bodies) in
      record {
        clean = (
          (λ e.
              let g = all.clean.0 e in
              record { long = g.0.0; whole = g.0.1; counted = g.0.2; entry = g.1.0; ended = g.1.1 }),
          (λ r. all.clean.1 ((r.long, r.whole, r.counted), (r.entry, r.ended))),
        );
        fault = λ k p s.
            let f = all.fault k p s in (
              (λ e.
                  ⊎_elim inl
                  (λ x.
                  inr (
                    x.0,
                    (⊎_elim inl
                        (λ y.
                        let off = y.1.0 in
                        inr (y.0, (omega (arith, ends n (omega arith) x.0 y.0), y.1.1, y.1.2, y.1.3)))
                        x.1),
                  ))
                  (f.0 e)),
              (λ h.
                  f.1
                  (⊎_elim inl
                  (λ x. inr (x.0, ⊎_elim inl (λ y. inr (y.0, ((λ q. omega arith), y.1.1, y.1.2, y.1.3))) x.1))
                  h)),
            );
      }

pub readable_iff : (t : List ℕ) (n : ℕ) → (table_fault t n ≡ Clean) ↔ Readable t n
readable_iff t n = (table_search t n).clean

module _ (t : List ℕ) (n p s : ℕ) where
  pub table_fault_5 :
      (table_fault t n ≡ Fault 5 p s)
      ↔ ((BadContents t n ⊎ (GoodContents t n × GoodEntries t n × BytesLeft t n)) × (p ≡ 0) × (s ≡ 65535))
  table_fault_5 =
      Iff.trans ((table_search t n).fault 5 p s) (
        ⊎_elim (λ y. (inl y.0, y.2, y.3))
            (λ y. ⊎_elim (λ z. absurd (omega arith)) (λ z. (inr (y.0, z.0, z.1.0), z.1.2, z.1.3)) y.1),
        (λ x. ⊎_elim (λ y. inl (y, refl, x.1, x.2)) (λ y. inr (y.0, inr (y.1, (y.2, refl, x.1, x.2)))) x.0),
      )

  pub table_fault_6 : (table_fault t n ≡ Fault 6 p s) ↔ (GoodContents t n × Least (BadEntry t n) p × (s ≡ 65535))
  table_fault_6 =
      Iff.trans ((table_search t n).fault 6 p s) (
        ⊎_elim (λ y. absurd (omega arith)) (λ y. ⊎_elim (λ z. (y.0, z.0, z.2)) (λ z. absurd (omega arith)) y.1),
        (λ x. inr (x.0, inl (x.1, refl, x.2))),
      )
