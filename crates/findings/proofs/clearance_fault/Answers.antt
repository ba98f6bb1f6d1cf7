-- `findings::clearance_fault` meets its contract: from every symbol's full set, over a blank node work.
use mathlib.Core.Path.{◌∙◌, ap}
use Rattle.findings.proofs.Bodies.{clearance_judged}
use lib.ListN.{length}
use Rattle.sets.proofs.Nodes.{blank_length}
use Rattle.findings.proofs.Rooms.{full-length}
use Rattle.findings.proofs.clearance_fault.Goals as goal

pub blank-requires : goal.blank-requires
blank-requires c = c.requires.1

pub fill_sets-requires : goal.fill_sets-requires
fill_sets-requires c = c.requires.2

pub tree-end-requires : goal.tree-end-requires
tree-end-requires c = (c.requires.0, c.blank.ensures)

pub returns : goal.returns
returns c = (clearance_judged c.args.m.now c.args.f.now c.tree-end.result c.fill_sets.ensures c.tree-end.ensures.0 c.walk_fault.ensures, ap length (c.tree-end.ensures.2 ∙ c.blank.ensures) ∙ blank_length c.args.m.now, ap length (c.tree-end.ensures.1 ∙ c.fill_sets.ensures) ∙ full-length c.args.m.now)
