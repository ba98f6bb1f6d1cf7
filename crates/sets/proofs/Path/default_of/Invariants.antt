-- `sets::Path::default_of` meets its contract: what the defaults so far may give, joined with the rest, is the whole, and after one whose condition is never n there is no rest.
use mathlib.Core.Path.{◌≡◌}
use Rattle.meaning.specs.Sets.{join, node_sets, default_set}
use Rattle.sets.specs.Paths.{Stays}
use Rattle.sets.proofs.Defaults.{rest}
use Rattle.sets.proofs.Path.default_of.Given as goal

abbrev pub invariant-loop-d : goal.invariant-loop-d
invariant-loop-d l =
    let m = l.fn.self.m.now in
    let ss = node_sets m l.fn.self.ys.now in
    record { stays : Stays l.fn.self l.self; set : join l.set.bits (rest m ss l.s l.d) ≡ default_set m ss l.s }
