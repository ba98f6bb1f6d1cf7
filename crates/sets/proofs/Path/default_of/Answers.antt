-- `sets::Path::default_of` meets its contract: what the defaults so far may give, joined with the rest, is the whole, and after one whose condition is never n there is no rest.
use mathlib.Core.Path.{refl, sym, ◌∙◌}
use native.Mathlib.Omega.{arith}
use Rattle.meaning.specs.Sets.{node_sets}
use Rattle.sets.proofs.Defaults.{rest_first, rest_other, rest_open, rest_shut, rest_none}
use Rattle.sets.proofs.Path.default_of.Goals as goal
use Rattle.sets.proofs.Path.default_of.Goals.{then-default_symbol_from-s+else-not-has, else-default_symbol_from-s}

pub loop-d-init : goal.loop-d-init
loop-d-init c = record {
  stays = record { book = refl; symbols = refl; room = refl };
  set = rest_first c.args.self.now.m.now (node_sets c.args.self.now.m.now c.args.self.now.ys.now) c.args.s;
}

pub returns-then-not-has-clause-set : goal.returns-then-not-has-clause-set
returns-then-not-has-clause-set c =
    let m = c.args.self.now.m.now in
    let ss = node_sets m c.args.self.now.ys.now in
    let so = c.loop-d.invariant.stays in
    let on = c.node-condition.ensures.stays in
    rest_shut m ss c.args.s c.loop-d.set.bits c.loop-d.d c.defaults-n.ensures.0 (omega arith)
    c.default_symbol_from.ensures.0
    c.if-default_symbol_from-s.true
    (rw (so.book, so.symbols, c.default_condition.ensures.0) at c.node-condition.ensures.set)
    (rw (on.book, on.symbols, so.book, so.symbols) at c.gives.ensures.set)
    c.join-set.ensures.0
    (sym c.has.ensures ∙ c.if-not-has.true)
    c.loop-d.invariant.set

pub loop-d-preserved : goal.loop-d-preserved
loop-d-preserved c =
    let m = c.args.self.now.m.now in
    let ss = node_sets m c.args.self.now.ys.now in
    let so = c.loop-d.invariant.stays in
    elim c.if-default_symbol_from-s.branch [
      | then-default_symbol_from-s+else-not-has w ↦
          let on = w.node-condition.ensures.stays in
          let end = w.gives.ensures.stays in
          rw (w.set-is, w.self-is) (record {
            stays = record { book = end.book ∙ on.book ∙ so.book; symbols = end.symbols ∙ on.symbols ∙ so.symbols; room = end.room ∙ on.room ∙ so.room };
            set = rest_open m ss c.args.s c.loop-d.set.bits c.loop-d.d c.defaults-n.ensures.0 (omega arith)
                c.default_symbol_from.ensures.0
                w.if-default_symbol_from-s.true
                (rw (so.book, so.symbols, w.default_condition.ensures.0) at w.node-condition.ensures.set)
                (rw (on.book, on.symbols, so.book, so.symbols) at w.gives.ensures.set)
                w.join-set.ensures.0
                (sym w.has.ensures ∙ w.if-not-has.false)
                c.loop-d.invariant.set;
          })
      | else-default_symbol_from-s w ↦ rw (w.set-is, w.self-is) (record {
        stays = so;
        set = rest_other m ss c.args.s c.loop-d.set.bits c.loop-d.d c.defaults-n.ensures.0 (omega arith)
            c.default_symbol_from.ensures.0 w.if-default_symbol_from-s.false c.loop-d.invariant.set;
      })
    ]

pub returns-clause-set : goal.returns-clause-set
returns-clause-set c = rest_none c.args.self.now.m.now (node_sets c.args.self.now.m.now c.args.self.now.ys.now) c.args.s c.loop-d.set.bits c.loop-d.d c.defaults-n.ensures.0 (omega arith) c.join.ensures.0 c.loop-d.invariant.set
