-- `sets::Path::lower` meets its contract: it folds the selects in order.
use mathlib.Core.Path.{◌≡◌}
use Rattle.meaning.specs.Base.{fold}
use Rattle.meaning.specs.Sets.{lower_set_step, node_sets}
use Rattle.sets.specs.Paths.{Stays}
use Rattle.sets.proofs.Path.lower.Given as goal

abbrev pub invariant-loop-k : goal.invariant-loop-k
invariant-loop-k l =
    let m = l.fn.self.m.now in
    let ys = l.fn.self.ys.now in
    record { stays : Stays l.fn.self l.self; set : l.low.bits ≡ fold (lower_set_step m ys (node_sets m ys) l.s) 1 l.k }
