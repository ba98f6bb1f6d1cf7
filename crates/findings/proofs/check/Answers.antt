-- `findings::check` meets its contract: each refusal leaves both rooms, and past them the body decides and both are zero in front.
use mathlib.Core.Path.{◌≡◌, ◌∙◌}
use Rattle.std.proofs.Common.{rules}
use Rattle.findings.proofs.Checks.{head_lengths, refused_book, refused_head, refused_nodes, refused_symbols, answered, in_front, front_length}
use Rattle.findings.proofs.check.Goals as goal

pub returns-in_err-fault : goal.returns-in_err-fault
returns-in_err-fault c = let same : c.from_residual.result ≡ c.fault.result = search rules in refused_book c.args.model.now c.args.finding.now c.args.nodework.now c.args.symbolwork.now (same ∙ c.in_err-fault.was) (same ∙ c.fault.ensures)

pub returns-in_err-head_fault : goal.returns-in_err-head_fault
returns-in_err-head_fault c = let same : c.from_residual-in_err-head_fault.result ≡ c.head_fault.result = search rules in refused_head c.args.model.now c.args.finding.now c.args.nodework.now c.args.symbolwork.now (same ∙ c.in_err-head_fault.was) c.fault.ensures c.in_ok-fault.was (same ∙ c.head_fault.ensures)

pub returns-then-nodework-nodes : goal.returns-then-nodework-nodes
returns-then-nodework-nodes c = refused_nodes c.args.model.now c.args.finding.now c.args.nodework.now c.args.symbolwork.now c.fault.ensures c.in_ok-fault.was c.head_fault.ensures c.in_ok-head_fault.was c.nodes-nodes.ensures.0 c.refuse.ensures c.if-nodework-nodes.true

pub returns-then-symbolwork-symbols : goal.returns-then-symbolwork-symbols
returns-then-symbolwork-symbols c = refused_symbols c.args.model.now c.args.finding.now c.args.nodework.now c.args.symbolwork.now c.fault.ensures c.in_ok-fault.was c.head_fault.ensures c.in_ok-head_fault.was c.nodes-nodes.ensures.0 c.if-nodework-nodes.false c.symbols-symbols.ensures.0 c.refuse-then-symbolwork-symbols.ensures c.if-symbolwork-symbols.true

pub body-requires : goal.body-requires
body-requires c = ((head_lengths _ _ c.head_fault.ensures c.in_ok-head_fault.was).0, (head_lengths _ _ c.head_fault.ensures c.in_ok-head_fault.was).1, front_length c.args.nodework.now c.if-nodework-nodes.false c.nodes-nodes.ensures.0, front_length c.args.symbolwork.now c.if-symbolwork-symbols.false c.symbols-symbols.ensures.0)

pub returns : goal.returns
returns c = answered c.args.model.now c.args.finding.now c.args.nodework.now c.args.symbolwork.now c.fault.ensures c.in_ok-fault.was c.head_fault.ensures c.in_ok-head_fault.was c.nodes-nodes.ensures.0 c.if-nodework-nodes.false c.symbols-symbols.ensures.0 c.if-symbolwork-symbols.false c.body.ensures.0 (in_front c.args.nodework.now c.body.ensures.1 c.nodes-nodes.ensures.0) (in_front c.args.symbolwork.now c.body.ensures.2 c.symbols-symbols.ensures.0)
