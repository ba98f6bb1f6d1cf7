-- A witness is accepted exactly where its table is readable and valid and leaves its select unmet: its three tests in turn, each by what it
-- says. Assumes nothing.
use Prim.Native.Nat.{ℕ}
use mathlib.Core.Path.{◌≡◌}
use mathlib.Core.Logic.{◌↔◌}
use mathlib.Core.List.{List}
use Rattle.meaning.specs.Base.{Clean}
use Rattle.meaning.specs.Book.{symbols, depend_of, target_of, WellFormed}
use Rattle.meaning.specs.Table.{Readable}
use Rattle.meaning.specs.Rules.{unmet_in, unmet}
use Rattle.meaning.specs.Valid.{Valid, At, Gives, Unmet}
use Rattle.meaning.specs.Findings.{select_of, witness_table, witness_fault}
use Rattle.meaning.proofs.First.{or_else_iff}
use Rattle.demands.proofs.Bools.{Says, denies_not, says_lt}
use Rattle.demands.proofs.Faults.{clean_when}
use Rattle.demands.proofs.Readable.{readable_iff}
use Rattle.demands.proofs.ValidIff.{valid_iff}

-- UNMET, by its test
pub says_unmet : (m t : List ℕ) (k : ℕ) → Says (unmet m t k) (Unmet m t k)
unfolding unmet unmet_in
says_unmet m t k = says_lt (At m t (depend_of m (target_of m k))) (Gives m t k)

pub witness_iff : (m f : List ℕ) → WellFormed m
    → (witness_fault m f ≡ Clean)
    ↔ (Readable (witness_table f) (symbols m) × Valid m (witness_table f) × Unmet m (witness_table f) (select_of f))
unfolding witness_fault
witness_iff m f w =
    let t = witness_table f in
    let met = clean_when 24 (select_of f) 65535 (denies_not (says_unmet m t (select_of f))) in (
      (λ e.
          let a = (or_else_iff _ _).0 e in
          let b = (or_else_iff _ _).0 a.1 in
          ((readable_iff t (symbols m)).0 a.0, (valid_iff m t w).0 b.0, met.0 b.1)),
      (λ h.
          (or_else_iff _ _).1 ((readable_iff t (symbols m)).1 h.0, (or_else_iff _ _).1 ((valid_iff m t w).1 h.1, met.1 h.2))),
    )
