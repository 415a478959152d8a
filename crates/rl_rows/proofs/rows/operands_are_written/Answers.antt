use Rattle.rl_rows.proofs.TestedRows.{dead_paths_go, second_operand_acts, second_operand_is_out}
use Rattle.rl_rows.proofs.rows.operands_are_written.Goals as goal

pub returns-clause-dead_paths_go : goal.returns-clause-dead_paths_go
returns-clause-dead_paths_go c = dead_paths_go

pub returns-clause-second_operand_acts : goal.returns-clause-second_operand_acts
returns-clause-second_operand_acts c = second_operand_acts

pub returns-clause-second_operand_is_out : goal.returns-clause-second_operand_is_out
returns-clause-second_operand_is_out c = second_operand_is_out
