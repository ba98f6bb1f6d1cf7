-- `names::key` meets its contract: it mixes what the definition mixes, one eight at each turn.
use Rattle.std.proofs.Common.{◌≡◌, ◌/◌, ◌∷◌, [], sym, ◌∙◌, arith, length, length-append, length-drop, ◌*◌}
use borrow.Author.Tests.{lt-ltb, le-ltb}
use Rattle.meaning.proofs.Folds.{fold_none, fold_more}
use Rattle.names.proofs.Laws.{next_eight}
use Rattle.names.specs.Keys.{key_of, eights}
use Rattle.names.proofs.key.Goals as goal

pub returns-then-n-lt4 : goal.returns-then-n-lt4
unfolding key_of
returns-then-n-lt4 c = rw (lt-ltb _ 4 c.if-n-lt4.true, c.mixed.ensures.0, c.few.ensures.0)

pub returns-then-n-lt8 : goal.returns-then-n-lt8
unfolding key_of
returns-then-n-lt8 c =
    rw (le-ltb _ 4 c.if-n-lt4.false, lt-ltb _ 8 c.if-n-lt8.true, c.mixed-then-n-lt8.ensures.0, c.four.ensures.0, c.four-then-n-lt8.ensures.0)

pub loop-eight-init : goal.loop-eight-init
unfolding eights
loop-eight-init c =
    let items = c.chunks_exact-eight-items.ensures in
    rw c.into_iter-eight-iterator.ensures.into_iter_gives (record { size = items.size; rest = items.rest; fits = omega arith; mixed = fold_none _ _; small = omega arith })

pub loop-eight-preserved : goal.loop-eight-preserved
unfolding eights
loop-eight-preserved c =
    let loop = c.loop-eight in
    let step = c.in-Some.ensures.steps in
    let k = length loop.yielded in
    let next = next_eight c.args.name.now c.in-Some.eight.now c.next.new.self.rest.now k (sym loop.invariant.rest ∙ step.1.0) (step.1.1 ∙ loop.invariant.size) in
    rw (length-append loop.yielded (c.in-Some.eight ∷ [])) (record {
      size = step.0 ∙ loop.invariant.size;
      rest = next.0;
      fits = next.3;
      mixed = fold_more _ _ k loop.invariant.mixed (c.mixed-sum.ensures.0 ∙ rw (c.four-in-loop-eight.ensures.0, c.four-in-loop-eight-2.ensures.0, next.1, next.2));
      small = c.mixed-sum.ensures.1;
    })

pub returns : goal.returns
unfolding key_of
returns c =
    let loop = c.loop-eight in
    let name = c.args.name.now in
    let step = c.in-None.ensures.steps in
    let left = rw (loop.invariant.rest, loop.invariant.size) at step.1.0 in
    let all : length loop.yielded ≡ length name / 8 = omega (arith, left, length-drop (8 * length loop.yielded) name, loop.invariant.fits) in
    rw (le-ltb _ 4 c.if-n-lt4.false, le-ltb _ 8 c.if-n-lt8.false, c.mixed-2.ensures.0, c.four-2.ensures.0, c.four-3.ensures.0, loop.invariant.mixed, all)
