-- `choice_rules::other` meets its contract: the test of a member is the one that the definition looks for.
use Rattle.std.proofs.Common.{ltb, eqb, ◌&&◌, not, arith, ℕ, Bool, ◌≡◌}
use mathlib.Core.Path.{◌∙◌, ap}
use Rattle.meaning.specs.Base.{first_where}
use Rattle.meaning.specs.Book.{member_count}
use borrow.Author.Rules.{of_calls}
use Rattle.tri.proofs.Order.{below}
use Rattle.meaning.specs.Rules.{member_value, other_of, first_yes}
use Rattle.choice_rules.proofs.other.Goals as goal

pub returns : goal.returns
unfolding other_of first_yes
returns c =
    let x = c.args.x.now in
    let test : ℕ → ℕ → Bool = λ y j. ltb 0 (member_value x.model.now x.table.now c.args.c j) && not (eqb j y) in
    let found : c.first.result ≡ first_where (test c.first_that_is-y.result) c.member_count.result = c.first.ensures.least (test c.first_that_is-y.result) (λ i r lt q. search (of_calls, q, below)) in
    (rw c.member_count.ensures.0 at found ∙ ap (λ y. first_where (test y) (member_count x.model.now c.args.c)) c.first_that_is-y.ensures.0, omega arith)
