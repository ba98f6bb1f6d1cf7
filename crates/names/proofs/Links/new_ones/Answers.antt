-- `names::Links::new_ones` meets its contract: at each turn the lowest met so far is the first that a name looked up so far is.
use Rattle.std.proofs.Common.{◌≡◌, sym, ◌∙◌, ap, arith}
use Rattle.names.specs.Keys.{key_of}
use Rattle.names.proofs.Laws.{unmarked, only, first_more, block_new}
use Rattle.names.proofs.Links.new_ones.Goals as goal
use Rattle.names.proofs.Links.new_ones.Goals.{then-may_have+else-limited+in_ok-j+in-Some, then-may_have+else-limited+in_ok-j+in_default, else-may_have}

pub loop-e-preserved : goal.loop-e-preserved
loop-e-preserved c =
    let self = c.args.self.now in
    let m = self.block.m.now in
    let base = self.block.base in
    let loop = c.loop-e in
    let name = c.name-name.ensures.0 in
    elim c.if-may_have.branch [
      | then-may_have+else-limited+in_ok-j+in-Some w ↦
          let min = w.min-new.ensures in
          let found = rw w.in-Some.is at w.in_ok-j.ensures.found in
          rw (w.new-is, w.looked_up-is) (record {
            first = first_more m base self.count loop.new loop.e w.min-new.result loop.invariant.first name (omega arith) (omega (arith, min))
                (λ j l. only m base self.count w.in-Some.j self.different found.0 found.1 j (omega (arith, min, l)))
                (λ l. let q : w.min-new.result ≡ w.in-Some.j = omega (arith, min, l) in rw q found.1);
            counted = omega arith;
          })
      | then-may_have+else-limited+in_ok-j+in_default w ↦
          let found = rw w.in_default.is at w.in_ok-j.ensures.found in
          rw (w.new-is, w.looked_up-is) (record {
            first = first_more m base self.count loop.new loop.e loop.new loop.invariant.first name (omega arith) (omega arith)
                (λ j l. found j (omega (arith, l, loop.invariant.first.0))) (λ l. absurd (omega arith));
            counted = omega arith;
          })
      | else-may_have w ↦ rw (w.new-is, w.looked_up-is) (record {
        first = first_more m base self.count loop.new loop.e loop.new loop.invariant.first name (omega arith) (omega arith)
            (λ j l z. unmarked self.factor m base self.rooms.now.marks.bytes self.count loop.e self.marked (c.key-x.ensures ∙ ap (key_of self.factor) name) (c.may_have.ensures w.if-may_have.false) j
            (omega (arith, loop.invariant.first.0)) (sym name ∙ z))
            (λ l. absurd (omega arith));
        counted = omega arith;
      })
    ]

pub returns-clause-new : goal.returns-clause-new
returns-clause-new c =
    let self = c.args.self.now in
    let e : c.loop-e.e ≡ self.block.base = omega arith in
    let all = rw e at c.loop-e.invariant.first in
    (all.0, λ s. block_new self.block.m.now self.block.base self.count c.loop-e.new s all.0 self.different all.1, all.2)
