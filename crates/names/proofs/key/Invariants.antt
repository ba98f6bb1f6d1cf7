-- `names::key` meets its contract: it mixes what the definition mixes, one eight at each turn.
use Rattle.std.proofs.Common.{◌≡◌, ◌*◌, ◌<◌, ◌≤◌, length, drop}
use Rattle.names.specs.Keys.{eights}
use Rattle.names.proofs.key.Given as goal

abbrev pub invariant-loop-eight : goal.invariant-loop-eight
invariant-loop-eight l = record {
  size : l.eight-iterator.size ≡ 8;
  rest : l.eight-iterator.rest.now ≡ drop (8 * length l.yielded) l.name;
  fits : 8 * length l.yielded ≤ length l.name;
  mixed : l.sum ≡ eights l.factor l.name (length l.yielded);
  small : l.sum < 4294967296;
}
