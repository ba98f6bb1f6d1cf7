-- `names::Links::new` meets its contract: the names are linked as long as they are all different.
use Rattle.std.proofs.Common.{◌≡◌, ◌+◌, ◌<◌, refl, sym, ◌∙◌, ap, arith, length}
use borrow.Author.Count.{below_none}
use Rattle.names.specs.Keys.{key_of, name_key, link_of}
use Rattle.names.proofs.Laws.{no_heads, met_none, met_old, headed_more, linked_still, linked_more, marked_more, different_more}
use Rattle.names.proofs.Links.new.Goals as goal

pub loop-k-init : goal.loop-k-init
loop-k-init c = record {
  headed = rw c.requires.2 (no_heads c.args.factor c.args.block.m.now c.args.block.base);
  linked = below_none _;
  marked = below_none _;
  different = λ i j l h. absurd (omega arith);
}

pub invariant_of-links : goal.invariant_of-links
invariant_of-links c =
    let so_far = c.loop-k.invariant in
    record {
      small = c.requires.1;
      few = omega arith;
      headed = rw c.add.ensures.heads so_far.headed;
      linked = rw c.add.ensures.nexts (linked_still c.args.factor c.args.block.m.now c.args.block.base c.loop-k.k c.loop-k.rooms.nexts _ so_far.linked);
      marked = λ j l. (c.add.ensures.keeps _ (so_far.marked j l).0, c.add.ensures.keeps _ (so_far.marked j l).1);
      different = so_far.different;
    }

pub returns-then-is_some-clause-stopped : goal.returns-then-is_some-clause-stopped
returns-then-is_some-clause-stopped c = (
  refl,
  omega arith,
  λ l. met_old c.args.block.m.now c.args.block.base c.loop-k.k c.name-name.result.now _ c.in_ok-find.field-0 (sym c.is_some.ensures ∙ c.if-is_some.true)
      c.name-name.ensures.0 c.in_ok-find.ensures.found,
)

pub loop-k-preserved : goal.loop-k-preserved
loop-k-preserved c =
    let m = c.args.block.m.now in
    let base = c.args.block.base in
    let factor = c.args.factor in
    let k = c.loop-k.k in
    let rooms = c.loop-k.rooms in
    let so_far = c.loop-k.invariant in
    let x = c.key-x.result in
    let is_key : x ≡ name_key factor m (base + k) = c.key-x.ensures ∙ ap (key_of factor) c.name-name.ensures.0 in
    let link : link_of x < length rooms.heads = omega (arith, rooms.sizes) in
    let here : k < length rooms.nexts = omega (arith, rooms.sizes) in
    record {
      headed = rw (c.head.ensures.heads, c.add.ensures.heads) (headed_more factor m base k is_key rooms.heads refl link so_far.headed);
      linked = rw (c.head.ensures.others.0, c.add.ensures.nexts) (linked_more factor m base k is_key rooms.heads rooms.nexts refl (omega arith) refl here so_far.headed so_far.linked);
      marked = rw c.head.ensures.others.1 (marked_more factor m base k is_key rooms.marks.bytes c.add.new.self.marks.bytes c.add.ensures.keeps c.add.ensures.marked so_far.marked);
      different = different_more m base k c.name-name.ensures.0 so_far.different (met_none _ c.in_ok-find.field-0 (sym c.is_some.ensures ∙ c.if-is_some.false) c.in_ok-find.ensures.found);
    }
