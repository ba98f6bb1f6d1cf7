-- `names::Links::find` meets its contract: from where the walk stands on, no name is this one, and each turn goes down by one at least.
use Rattle.std.proofs.Common.{◌≡◌, ◌+◌, arith, sym, ◌∙◌}
use Rattle.std.proofs.lemmas.Grind.{common_steps}
use Rattle.meaning.proofs.Tests.{same_text_lem}
use Rattle.names.proofs.Laws.{headed_at, start_le, walk_from, none_after, texts_differ, walk_less, walk_on, walk_passed}
use Rattle.names.proofs.Links.find.Goals as goal

pub loop-j-init : goal.loop-j-init
loop-j-init c =
    let self = c.args.self.now in
    let m = self.block.m.now in
    let base = self.block.base in
    let name = c.args.name.now in
    let begins = headed_at self.factor m base self.rooms.now.heads self.count name self.headed c.requires c.part.ensures.0 c.from-c.ensures in
    let low = start_le m base self.rooms.now.nexts name self.factor self.count begins in
    record {
      within = omega (arith, low);
      walk = walk_from m base self.rooms.now.nexts name self.factor self.count begins self.linked;
      passed = none_after m base self.rooms.now.nexts name self.factor self.count begins;
    }

pub returns-then-same-clause-found : goal.returns-then-same-clause-found
returns-then-same-clause-found c =
    (omega (arith, c.loop-j.invariant.within, c.in-Some.ensures), same_text_lem _ _ (sym (rw c.name.ensures.0 at c.same.ensures) ∙ c.if-same.true))

pub loop-j-smaller : goal.loop-j-smaller
loop-j-smaller c =
    let self = c.args.self.now in
    walk_less self.block.m.now self.block.base self.rooms.now.nexts c.args.name.now self.factor c.loop-j.c c.in-Some.j (grind (arith, common_steps, c.in-Some.ensures)) c.loop-j.invariant.walk c.from-c-in-Some.ensures

pub loop-j-preserved : goal.loop-j-preserved
loop-j-preserved c =
    let self = c.args.self.now in
    let m = self.block.m.now in
    let base = self.block.base in
    let name = c.args.name.now in
    let loop = c.loop-j in
    let here : loop.c ≡ c.in-Some.j + 1 = grind (arith, common_steps, c.in-Some.ensures) in
    let step = c.from-c-in-Some.ensures in
    let less = walk_less m base self.rooms.now.nexts name self.factor loop.c c.in-Some.j here loop.invariant.walk step in
    record {
      within = omega (arith, less, loop.invariant.within);
      walk = walk_on m base self.rooms.now.nexts name self.factor loop.c c.in-Some.j here loop.invariant.walk step;
      passed = walk_passed m base self.rooms.now.nexts name self.factor loop.c c.in-Some.j here loop.invariant.walk step self.count (texts_differ _ _ (rw c.name.ensures.0 at c.same.ensures) c.if-same.false) loop.invariant.passed;
    }
