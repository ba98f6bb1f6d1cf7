-- `sets::Path::node_among` meets its contract: what is kept is the set itself, operands come before their node, and working out more changes nothing.
use mathlib.Core.Path.{sym, ◌∙◌}
use native.Mathlib.Omega.{arith}
use Rattle.meaning.specs.Sets.{node_set}
use Rattle.meaning.specs.Base.{build}
use Rattle.sets.proofs.Nodes.{among_past, among-whole, node-leaf, node_inner, node_equal, settled, due, told}
use Rattle.sets.proofs.Path.+node_among.Goals as goal

pub returns-then-n-i-clause-set : goal.returns-then-n-i-clause-set
returns-then-n-i-clause-set t c = among_past c.args.self.now.m.now c.args.self.now.ys.now c.args.n c.args.i c.if-n-i.true

pub returns-in-Some-clause-set : goal.returns-in-Some-clause-set
returns-in-Some-clause-set t c = c.in-Some.ensures.told ∙ sym (among-whole c.args.self.now.m.now c.args.self.now.ys.now c.args.n c.args.i c.if-n-i.false c.requires.1)

pub keep-requires-clause-due : goal.keep-requires-clause-due
keep-requires-clause-due t c =
    let m = c.args.self.now.m.now in
    let ys = c.args.self.now.ys.now in
    due m ys c.args.i (omega arith) (node-leaf m ys (build (node_set m ys) c.args.i) c.args.i c.op_of-op.ensures c.if-op-le4.true c.leaf_set-set.ensures)

pub returns-then-op-le4-clause-set : goal.returns-then-op-le4-clause-set
returns-then-op-le4-clause-set t c =
    let m = c.args.self.now.m.now in
    let ys = c.args.self.now.ys.now in
    settled m ys c.args.n c.args.i (omega arith) (node-leaf m ys (build (node_set m ys) c.args.i) c.args.i c.op_of-op.ensures c.if-op-le4.true c.leaf_set-set.ensures)

pub keep-requires-then-op-gt7-clause-due : goal.keep-requires-then-op-gt7-clause-due
keep-requires-then-op-gt7-clause-due t c =
    let m = c.args.self.now.m.now in
    let ys = c.args.self.now.ys.now in
    due m ys c.args.i (omega arith) (node_equal m ys (build (node_set m ys) c.args.i) c.args.i c.op_of-op.ensures c.left_of-left.ensures.0 c.right_of-right.ensures.0 c.if-op-gt7.true c.equality-set.ensures.0)

pub returns-then-op-gt7-clause-set : goal.returns-then-op-gt7-clause-set
returns-then-op-gt7-clause-set t c =
    let m = c.args.self.now.m.now in
    let ys = c.args.self.now.ys.now in
    settled m ys c.args.n c.args.i (omega arith) (node_equal m ys (build (node_set m ys) c.args.i) c.args.i c.op_of-op.ensures c.left_of-left.ensures.0 c.right_of-right.ensures.0 c.if-op-gt7.true c.equality-set.ensures.0)

pub returns-then-depth-eq0-clause-set : goal.returns-then-depth-eq0-clause-set
returns-then-depth-eq0-clause-set t c =
    told c.known-then-depth-eq0.result _ c.unwrap_or.ensures (rw (c.all.ensures.stays.book, c.all.ensures.stays.symbols) at c.known-then-depth-eq0.ensures.told) c.known-then-depth-eq0.ensures.untold
    (c.all.ensures.out c.args.i (omega arith) (omega (arith, c.op_of-op.ensures)))
    ∙ sym (among-whole c.args.self.now.m.now c.args.self.now.ys.now c.args.n c.args.i c.if-n-i.false c.requires.1)

pub keep-requires-2-clause-due : goal.keep-requires-2-clause-due
keep-requires-2-clause-due t c =
    let m = c.args.self.now.m.now in
    let ys = c.args.self.now.ys.now in
    let l = c.node_among-l.ensures in
    let r = c.node_among-r.ensures in
    rw (r.stays.book, r.stays.symbols, l.stays.book, l.stays.symbols)
    (due m ys c.args.i (omega arith) (node_inner m ys (build (node_set m ys) c.args.i) c.args.i c.op_of-op.ensures c.left_of-left.ensures.0 c.right_of-right.ensures.0 c.if-op-le4.false (omega arith) l.set (rw (l.stays.book, l.stays.symbols) at r.set) c.combined-set.ensures.0))

pub returns-clause-set : goal.returns-clause-set
returns-clause-set t c =
    let m = c.args.self.now.m.now in
    let ys = c.args.self.now.ys.now in
    let l = c.node_among-l.ensures in
    let r = c.node_among-r.ensures in
    settled m ys c.args.n c.args.i (omega arith) (node_inner m ys (build (node_set m ys) c.args.i) c.args.i c.op_of-op.ensures c.left_of-left.ensures.0 c.right_of-right.ensures.0 c.if-op-le4.false (omega arith) l.set (rw (l.stays.book, l.stays.symbols) at r.set) c.combined-set.ensures.0)
