use Rattle.rl_compile.proofs.ReadLaws.{node_told}
use Rattle.rl_compile.proofs.nodes.tables_for.Goals as goal

pub returns-in-Err-clause-refused : goal.returns-in-Err-clause-refused
returns-in-Err-clause-refused c =
    node_told c.args.spec.now c.as_slice.result.now c.in-Err.refusal c.told_by_node.result c.as_slice.ensures c.in-Err.ensures.refused c.told_by_node.ensures
