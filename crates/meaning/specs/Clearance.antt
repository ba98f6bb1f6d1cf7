-- A clearance: when a leaf is closed, and the walk of the tree. Assumes nothing: these are definitions.
use Rattle.std.specs.Prelude.{ℕ, zero, suc, ◌+◌, Bool, false, ◌&&◌, ◌||◌, not, List, eqb, leb, ltb, length, get_or, set, Option, Some, None, Result, Ok, Err}
use Rattle.meaning.specs.declared.Stop.{Stop}
use Rattle.meaning.specs.declared.Stop.TheVariants.{Malformed, Open}
use Rattle.meaning.specs.declared.Head.{Head}
use Rattle.meaning.specs.declared.Head.TheVariants.{Leaf, Two, Three}
use Rattle.meaning.specs.Base.{pick, half}
use Rattle.meaning.specs.Book.{symbols, choices, three_type, selector_of, target_of, condition_of, mandatory_of, choice_prompt, member_count, member_of, modules_of, modules_declared}
use Rattle.meaning.specs.Rules.{broken11, broken12, broken13, broken15, broken17, broken18, exceeds, at_least}
use Rattle.meaning.specs.Sets.{sat, every, least, most, node_sets, lower_set, default_set, prompt_set, depend_set}

-- CLOSING. The sets of the symbols are ys, of the nodes ss; the finding is about select q. Each nested `every` is one pick.
module _ (m : List ℕ) (q : ℕ) (ys ss : List ℕ) where
  unfoldable pub closed11 : ℕ → Bool
  closed11 s = every (sat ys s) (λ v. every (lower_set m ys ss s) (λ l. broken11 v l))

  unfoldable pub closed12 : ℕ → Bool
  closed12 s = every (sat ys s) (λ v. every (prompt_set m ss s) (λ p. every (lower_set m ys ss s) (λ l. broken12 v p l)))

  unfoldable pub closed13 : ℕ → Bool
  closed13 s =
      every (sat ys s)
      (λ v. every (prompt_set m ss s) (λ p. every (default_set m ss s) (λ d. every (lower_set m ys ss s) (λ l. broken13 v p d l))))

  -- more members above n, or y, only break 15 the more: so it is closed on the least value of each
  unfoldable pub closed15 : ℕ → Bool
  closed15 c =
      let member : ℕ → ℕ = λ j. least (sat ys (member_of m c j)) in
      every (sat ss (choice_prompt m c)) (λ p. broken15 p (at_least member (member_count m c) 1) (at_least member (member_count m c) 2))

  -- and 17 on the largest
  unfoldable pub closed17 : ℕ → Bool
  closed17 c =
      let member : ℕ → ℕ = λ j. most (sat ys (member_of m c j)) in
      every (sat ss (choice_prompt m c)) (λ p. broken17 p (mandatory_of m c) (at_least member (member_count m c) 1))

  unfoldable pub closed18 : ℕ → Bool
  closed18 s = modules_declared m && every (sat ys (modules_of m)) (λ o. every (sat ys s) (λ v. broken18 o v))

  -- mark 20: the select is not unmet
  unfoldable pub closed20 : Bool
  closed20 =
      every (sat ys (selector_of m q))
      (λ a. every (sat ss (condition_of m q)) (λ c. every (depend_set m ss (target_of m q)) (λ d. not (exceeds a c d))))

  unfoldable pub closed : ℕ → ℕ → Bool
  closed rule place =
      let in11 = closed11 place in
      let in12 = closed12 place in
      let in13 = closed13 place in
      let in15 = closed15 place in
      let in17 = closed17 place in
      let in18 = closed18 place in
      pick (eqb rule 11) in11
      (pick (eqb rule 12) in12
      (pick (eqb rule 13) in13
      (pick (eqb rule 15) in15
      (pick (eqb rule 17) in17
      (pick (eqb rule 18) in18
      (pick (eqb rule 20) closed20 false))))))

-- on the path where the symbols' sets are ys
unfoldable pub closed_on : List ℕ → ℕ → List ℕ → ℕ → ℕ → Bool
closed_on m q ys rule place = closed m q ys (node_sets m ys) rule place

-- THE TREE. 11, 12, 13 and 18 stand at a boolean or tristate symbol, 15 and 17 at a choice, 20 at this select
unfoldable pub leaf_stands : List ℕ → ℕ → ℕ → ℕ → Bool
leaf_stands m q rule place =
    pick (eqb rule 20) (eqb place q)
    (pick (eqb rule 15 || eqb rule 17) (ltb place (choices m))
    ((eqb rule 11 || eqb rule 12 || eqb rule 13 || eqb rule 18) && ltb place (symbols m) && three_type m place))

unfoldable pub leaf_head : List ℕ → ℕ → ℕ → ℕ → ℕ → Option Head
leaf_head m q rule place next = pick (leaf_stands m q rule place) (Some (Leaf rule place next)) None

-- a symbol s that still has all that its type allows, a: boolean, or tristate
unfoldable pub split_head : ℕ → ℕ → ℕ → Option Head
split_head a s next = pick (eqb a 5) (Some (Two s next)) (pick (eqb a 7) (Some (Three s next)) None)

-- what stands at an offset of finding f, none where nothing may stand there: a leaf has four bytes, a split three and then its branches
unfoldable pub head_of : List ℕ → ℕ → List ℕ → List ℕ → ℕ → Option Head
head_of m q f ys at =
    pick (eqb (get_or f at 0) 1 && leb (at + 4) (length f)) (leaf_head m q (get_or f (at + 1) 0) (half f (at + 2)) (at + 4))
    (pick (eqb (get_or f at 0) 0 && leb (at + 3) (length f)) (split_head (sat ys (half f (at + 1))) (half f (at + 1)) (at + 3)) None)

-- WHERE A WALK STANDS: at the offset where it goes on, or stopped at a malformed or an unclosed node
abbrev pub Walked : Type 0
Walked = Result ℕ Stop

-- a walk that stopped stays there
abbrev pub and_then : Walked → (ℕ → Walked) → Walked
and_then (Ok at) go = go at
and_then (Err e) go = Err e

-- by what stands at an offset; a split goes through its branches in order, n first
abbrev pub on_head : List ℕ → ℕ → (Walked → List ℕ → Walked) → List ℕ → ℕ → Option Head → Walked
on_head m q branch ys at None = Err (Malformed at)
on_head m q branch ys at (Some (Leaf rule place next)) = pick (closed_on m q ys rule place) (Ok next) (Err (Open at))
on_head m q branch ys at (Some (Two s next)) = branch (branch (Ok next) (set ys s 1)) (set ys s 4)
on_head m q branch ys at (Some (Three s next)) = branch (branch (branch (Ok next) (set ys s 1)) (set ys s 2)) (set ys s 4)

-- from where the walk stands, with so many splits still allowed on the path
unfoldable pub walk_of : List ℕ → ℕ → List ℕ → ℕ → Walked → List ℕ → Walked
walk_of m q f zero from ys = and_then from (λ at. on_head m q (λ w zs. Err (Malformed at)) ys at (head_of m q f ys at))
walk_of m q f (suc left) from ys = and_then from (λ at. on_head m q (walk_of m q f left) ys at (head_of m q f ys at))

-- names every definition of this file: who says `unfolding open_clearance` has them all
unfoldable pub open_clearance : Unit {0}
unfolding closed11 closed12 closed13 closed15 closed17 closed18 closed20 closed closed_on leaf_stands leaf_head split_head head_of walk_of
open_clearance = tt
