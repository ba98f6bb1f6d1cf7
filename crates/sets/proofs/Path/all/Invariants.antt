-- `sets::Path::all` meets its contract: one node more is worked out at each turn.
use Rattle.sets.specs.Work.{WorkedOut}
use Rattle.sets.specs.Paths.{Stays}
use Rattle.sets.proofs.Path.all.Given as goal

abbrev pub invariant-loop-i : goal.invariant-loop-i
invariant-loop-i l = record { stays : Stays l.fn.self l.self; out : WorkedOut l.fn.self.m.now l.self.w.now l.i }
