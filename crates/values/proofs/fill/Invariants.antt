-- `values::fill` meets its contract: what is built so far stands in front, and the next value is read from that front alone.
use Rattle.std.proofs.Common.{◌≡◌, ◌++◌, drop}
use Rattle.meaning.specs.Base.{build}
use Rattle.meaning.specs.Values.{node_value}
use Rattle.values.proofs.fill.Given as goal

abbrev pub invariant-loop-i : goal.invariant-loop-i
invariant-loop-i l = l.work ≡ build (node_value l.m l.t) l.i ++ drop l.i l.initial.work
