-- `fields::node_at` meets its contract: the offset is the one that the section's start and width give, as for each field alone.
use Rattle.std.proofs.Common.{◌+◌, ◌*◌}
use Rattle.std.proofs.Math.Nat.{add-zero}
use Rattle.meaning.specs.Book.{byte_in, half_in, start}
use mathlib.Core.Path.{◌∙◌}
use Rattle.fields.proofs.node_at.Goals as goal

pub returns : goal.returns
unfolding byte_in half_in
returns c = (
  rw (c.start.ensures.0, add-zero (start c.args.m.now 2 + c.args.i * 6)),
  rw (c.start.ensures.0),
  c.half.ensures.0 ∙ rw (c.start.ensures.0),
  c.half.ensures.1,
  c.half-2.ensures.0 ∙ rw (c.start.ensures.0),
  c.half-2.ensures.1,
)
