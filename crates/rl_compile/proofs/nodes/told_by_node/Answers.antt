use Rattle.std.proofs.Common.{ap}
use Rattle.rl_build.specs.Trees.{cause_of}
use Rattle.rl_compile.proofs.ReadLaws.{empty_token_told}
use Rattle.rl_compile.proofs.nodes.told_by_node.Goals as goal

pub returns-in-F12 : goal.returns-in-F12
returns-in-F12 c =
    empty_token_told c.args.files.now c.args.refusal c.in-F12.field-0 c.in-Ok.file c.fault_at-in-F12.result (ap cause_of c.in-F12.is) c.in-Ok.ensures c.fault_at-in-F12.ensures
