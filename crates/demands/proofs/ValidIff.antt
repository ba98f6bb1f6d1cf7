-- No rule is broken exactly in a valid table: the search is clean where every rule holds at every listed place, and Valid says the same of all
-- places at once. A range that the book's check passed is on a symbol, so its symbol is listed. Assumes nothing.
use Prim.Native.Nat.{ℕ, ◌<◌}
use mathlib.Core.Path.{◌≡◌, refl}
use mathlib.Core.Bool.{true, ◌||◌}
use mathlib.Core.Logic.Iff
use mathlib.Core.Logic.{◌⊎◌, inl, inr, ◌↔◌, ◌≢◌, ⊎_elim}
use mathlib.Core.List.{List, [], ◌∷◌}
use native.Mathlib.Omega.{arith}
use lib.Dec.{eqb}
use Rattle.std.proofs.lemmas.Bool.Decides.{nat_tests}
use Rattle.std.specs.Prelude.{Ok, Err}
use Rattle.std.proofs.lemmas.Bool.{cases_lt, cases_eq}
use Rattle.meaning.specs.Base.{Outcome, Clean}
use Rattle.meaning.specs.Book.{symbols, ranges, choices, type_of, range_symbol, modules_of, range_ok, WellFormed}
use Rattle.meaning.specs.Table.{value_of}
use Rattle.meaning.specs.Rules.{rule_fault}
use Rattle.meaning.specs.Valid.{Valid}
use Rattle.demands.specs.Broken.{Spot, typed, lower, upper, default, range, one, kind, mandatory, modules, in_turn, at_symbol, at_choice, listed, All, Holds}
use Rattle.demands.proofs.Finds.{all_append, all_turn, first_none}
use Rattle.demands.proofs.Searched.{rules_found}

-- the search is clean exactly where every rule holds at every listed place
pub clean_holds : (m t : List ℕ) → (rule_fault m t ≡ Clean) ↔ All (Holds m t) (listed m)
clean_holds m t = ((rules_found m t).clean, λ all. by (rule_fault m t) refl all)
  where
    by : (o : Outcome) → rule_fault m t ≡ o → All (Holds m t) (listed m) → o ≡ Clean
    by (Ok tt) e all = refl
    by (Err f) e all =
        let x = (rules_found m t).fault f.number f.place f.second e in
        absurd (first_none (Holds m t) (listed m) x.0 all x.1)

-- the list, place by place
module _ (P : Spot → Type 0) (m : List ℕ) where
  record Everywhere : Type 0 where
    types : (s : ℕ) → s < symbols m → P (typed s)
    lowers : (s : ℕ) → s < symbols m → P (lower s)
    uppers : (s : ℕ) → s < symbols m → P (upper s)
    defaults : (s : ℕ) → s < symbols m → P (default s)
    ranged : (s r : ℕ) → s < symbols m → r < ranges m → P (range s r)
    ones : (c : ℕ) → c < choices m → P (one c)
    kinds : (c : ℕ) → c < choices m → P (kind c)
    mandatories : (c : ℕ) → c < choices m → P (mandatory c)
    moduled : (s : ℕ) → s < symbols m → P (modules s)

  all_listed : All P (listed m) ↔ Everywhere
  unfolding listed
  all_listed =
      let four = all_append P (in_turn (λ s. typed s ∷ []) (symbols m)) _ in
      let three = all_append P (in_turn (at_symbol m) (symbols m)) _ in
      let two = all_append P (in_turn at_choice (choices m)) (in_turn (λ s. modules s ∷ []) (symbols m)) in
      let types = all_turn P (λ s. typed s ∷ []) (symbols m) in
      let own = all_turn P (at_symbol m) (symbols m) in
      let chosen = all_turn P at_choice (choices m) in
      let last = all_turn P (λ s. modules s ∷ []) (symbols m) in (
        (λ h.
            let a = four.0 h in
            let b = three.0 a.1 in
            let c = two.0 b.1 in
            record {
              types = λ s l. (types.0 a.0 s l).0;
              lowers = λ s l. (own.0 b.0 s l).0;
              uppers = λ s l. (own.0 b.0 s l).1.0;
              defaults = λ s l. (own.0 b.0 s l).1.1.0;
              ranged = λ s r l k. ((all_turn P (λ r. range s r ∷ []) (ranges m)).0 (own.0 b.0 s l).1.1.1 r k).0;
              ones = λ c' l. (chosen.0 c.0 c' l).0;
              kinds = λ c' l. (chosen.0 c.0 c' l).1.0;
              mandatories = λ c' l. (chosen.0 c.0 c' l).1.1.0;
              moduled = λ s l. (last.0 c.1 s l).0;
            }),
        (λ h. four.1 (
          types.1 (λ s l. (h.types s l, tt)),
          three.1 (
            own.1 (λ s l.
                let by = (all_turn P (λ r. range s r ∷ []) (ranges m)).1 (λ r k. (h.ranged s r l k, tt)) in
                (h.lowers s l, (h.uppers s l, (h.defaults s l, by)))),
            two.1 (
              chosen.1 (λ c l. (h.ones c l, (h.kinds c l, (h.mandatories c l, tt)))),
              last.1 (λ s l. (h.moduled s l, tt)),
            ),
          ),
        )),
      )

module _ (m t : List ℕ) where
  -- none is m: said of each symbol, and of all
  all_modules :
      ((s : ℕ) → s < symbols m → Holds m t (modules s))
      → (modules_of m ≡ 65535) ⊎ ((0 < value_of t (modules_of m)) ⊎ ((s : ℕ) → s < symbols m → value_of t s ≢ 1))
  all_modules h =
      ⊎_elim inl
      (λ none. ⊎_elim (λ p. inr (inl p))
      (λ n. inr (inr (λ s l. ⊎_elim (λ z. absurd (none z)) (⊎_elim (λ p. absurd (omega arith)) (λ k. k)) (h s l))))
      (cases_lt 0 (value_of t (modules_of m))))
      (cases_eq (modules_of m) 65535)

  valid_everywhere : ((r : ℕ) → r < ranges m → range_symbol m r < symbols m) → Valid m t ↔ Everywhere (Holds m t) m
  valid_everywhere on = (
    (λ v.
        record {
          types = v.typed;
          lowers = λ s lt l. v.lower s l;
          uppers = λ s lt l. v.upper s l;
          defaults = λ s lt. ((λ l d. v.default s l d), (λ d. v.content s d));
          ranged = λ s r lt k e c. rw e at (v.range r k c);
          ones = λ c lt i j. v.one c i j;
          kinds = λ c lt j. v.kind c j;
          mandatories = λ c lt. v.mandatory c;
          moduled = λ s lt. ⊎_elim inl (⊎_elim (λ p. inr (inl p)) (λ n. inr (inr (n s lt)))) v.modules;
        }),
    (λ h.
        record {
          typed = h.types;
          lower = λ s l i. h.lowers s i.0 l i;
          upper = λ s l i. h.uppers s i.0 l i;
          default = λ s l d i. (h.defaults s i.0).0 l d i;
          content = λ s d i. (h.defaults s i.0).1 d i;
          range = λ r k. h.ranged (range_symbol m r) r (on r k) k refl;
          one = λ c i j seen. h.ones c seen.0 i j seen;
          kind = λ c j seen. h.kinds c seen.0 j seen;
          mandatory = λ c seen. h.mandatories c seen.0 seen;
          modules = all_modules h.moduled;
        }),
  )

-- a range that passed is on an int or a hex symbol
pub range-on : (m : List ℕ) (r : ℕ) → range_ok m r ≡ true
    → (range_symbol m r < symbols m) × ((eqb (type_of m (range_symbol m r)) 3 || eqb (type_of m (range_symbol m r)) 4) ≡ true)
unfolding range_ok
range-on m r e = grind (arith, nat_tests)

-- VALID, rule by rule and place by place
pub valid_holds : (m t : List ℕ) → WellFormed m → Valid m t ↔ All (Holds m t) (listed m)
valid_holds m t w = Iff.trans (valid_everywhere m t (λ r l. (range-on m r (w.range r l)).0)) (Iff.symm (all_listed (Holds m t) m))

-- VALID, by the tests
pub valid_iff : (m t : List ℕ) → WellFormed m → (rule_fault m t ≡ Clean) ↔ Valid m t
valid_iff m t w = Iff.trans (clean_holds m t) (Iff.symm (valid_holds m t w))
