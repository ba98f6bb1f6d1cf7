-- The rules' search goes through the listed rules and places in their order: part by part, as the search is put together. Assumes nothing.
use Prim.Native.Nat.{ℕ, ◌<◌}
use mathlib.Core.Path.{◌≡◌, refl}
use mathlib.Core.Bool.{Bool, true, false}
use mathlib.Core.List.{List, [], ◌∷◌}
use native.Mathlib.Omega.{arith}
use borrow.Author.Tests.{leb-true, leb-false}
use Rattle.meaning.specs.Base.{pick}
use Rattle.meaning.specs.Book.{symbols, ranges, choices, type_of, three_type}
use Rattle.meaning.specs.Values.{node_values}
use Rattle.meaning.specs.Rules.{three_tests, test10, three_fault, other_fault, test14, symbol_fault, test15, test16, test17, choice_fault, test18, rules_fault, rule_fault}
use Rattle.meaning.specs.Valid.{IsThree, IsOther}
use Rattle.demands.specs.Broken.{typed, lower, upper, default, range, one, kind, mandatory, modules, at_symbol, at_choice, listed}
use Rattle.demands.proofs.Finds.{Finds, finds_kept, finds_one, finds_then, finds_turn}
use Rattle.demands.proofs.Each.{each_typed, each-lower, each-upper, each-default, each-content, each-range, each-one, each-kind, each-mandatory, each-modules, second-one, second-kind}

module _ (m t : List ℕ) where
  abbrev vs : List ℕ
  vs = node_values m t

  -- 11 to 13 at a symbol, by its type
  own_found : (s : ℕ) → s < symbols m → (b : Bool) → three_type m s ≡ b
      → Finds m t (lower s ∷ upper s ∷ default s ∷ []) (pick b (three_fault m t vs s) (other_fault m t vs s))
  unfolding three_fault three_tests other_fault
  own_found s lt true e =
      let three : IsThree m t s = (lt, leb-true (type_of m s) 1 e) in
      finds_then m t _ (finds_one m t (lower s) 65535 (each-lower m t s three) (λ _. refl))
      (finds_then m t _ (finds_one m t (upper s) 65535 (each-upper m t s three) (λ _. refl))
      (finds_one m t (default s) 65535 (each-default m t s three) (λ _. refl)))
  own_found s lt false e =
      let other : IsOther m t s = (lt, leb-false (type_of m s) 1 e) in
      finds_kept m t (λ l i h. absurd (omega arith))
      (finds_kept m t (λ l i h. absurd (omega arith))
      (finds_one m t (default s) 65535 (each-content m t s other) (λ _. refl)))

  symbol_found : (s : ℕ) → s < symbols m → Finds m t (at_symbol m s) (symbol_fault m t vs s)
  unfolding symbol_fault test14
  symbol_found s lt =
      finds_then m t _ (own_found s lt (three_type m s) refl)
      (finds_turn m t _ (test14 m t vs s) (ranges m) (λ r l. finds_one m t (range s r) r (each-range m t s r) (λ _. refl)))

  choice_found : (c : ℕ) → c < choices m → Finds m t (at_choice c) (choice_fault m t vs c)
  unfolding choice_fault test15 test16 test17
  choice_found c lt =
      finds_then m t _ (finds_one m t (one c) _ (each-one m t c lt) (second-one m t c))
      (finds_then m t _ (finds_one m t (kind c) _ (each-kind m t c lt) (second-kind m t c))
      (finds_one m t (mandatory c) 65535 (each-mandatory m t c lt) (λ _. refl)))

  pub rules_found : Finds m t (listed m) (rule_fault m t)
  unfolding listed rule_fault rules_fault test10 test18
  rules_found =
      finds_then m t _ (finds_turn m t _ (test10 m t) (symbols m) (λ s l. finds_one m t (typed s) 65535 (each_typed m t s) (λ _. refl)))
      (finds_then m t _ (finds_turn m t _ (symbol_fault m t vs) (symbols m) symbol_found)
      (finds_then m t _ (finds_turn m t _ (choice_fault m t vs) (choices m) choice_found)
      (finds_turn m t _ (test18 m t) (symbols m) (λ s l. finds_one m t (modules s) 65535 (each-modules m t s) (λ _. refl)))))
