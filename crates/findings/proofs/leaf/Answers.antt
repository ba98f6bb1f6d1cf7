-- `findings::leaf` meets its contract: a closed leaf goes on, another stops, and nothing else may stand there.
use Rattle.findings.proofs.Walks.{leaf-closed, leaf_open, leaf-not}
use Rattle.meaning.specs.declared.Head.TheVariants.{Leaf}
use Rattle.std.specs.Prelude.{Some}
use mathlib.Core.Path.{◌≡◌, refl, ◌∙◌, ap}
use Rattle.findings.proofs.leaf.Goals as goal

pub returns-then-closed_on : goal.returns-then-closed_on
returns-then-closed_on c =
    (leaf-closed c.args.m.now.now c.args.f.now.now c.args.ys.now c.args.at c.head_at.result c.half-q.ensures.0 c.head_at.ensures (c.in-Some.is ∙ ap Some c.in-Leaf.is) (rw c.from.ensures at c.closed_on.ensures.0) c.if-closed_on.true, refl, c.closed_on.ensures.1)

pub returns-else-closed_on : goal.returns-else-closed_on
returns-else-closed_on c =
    (leaf_open c.args.m.now.now c.args.f.now.now c.args.ys.now c.args.at c.head_at.result c.half-q.ensures.0 c.head_at.ensures (c.in-Some.is ∙ ap Some c.in-Leaf.is) (rw c.from.ensures at c.closed_on.ensures.0) c.if-closed_on.false, refl, c.closed_on.ensures.1)

pub returns-in_default : goal.returns-in_default
returns-in_default c =
    (leaf-not c.args.m.now.now c.args.f.now.now c.args.ys.now c.args.at c.head_at.result c.half-q.ensures.0 c.head_at.ensures (λ r p n e. c.in_default.not-Some _ e), refl, refl)

pub returns-in_default-head : goal.returns-in_default-head
returns-in_default-head c =
    (leaf-not c.args.m.now.now c.args.f.now.now c.args.ys.now c.args.at c.head_at.result c.half-q.ensures.0 c.head_at.ensures (λ r p n e. let same : c.in-Some.head ≡ Leaf r p n = cc in c.in_default-head.not-Leaf r p n same), refl, refl)
