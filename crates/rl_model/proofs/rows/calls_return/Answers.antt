use Rattle.rl_model.proofs.CallingRows.{returns_to_caller, returns_at_end}
use Rattle.rl_model.proofs.ControlRows.{no_room_to_push, nothing_to_pop}
use Rattle.rl_model.proofs.rows.calls_return.Goals as goal

pub returns-clause-returns_to_caller : goal.returns-clause-returns_to_caller
returns-clause-returns_to_caller c = returns_to_caller

pub returns-clause-returns_at_end : goal.returns-clause-returns_at_end
returns-clause-returns_at_end c = returns_at_end

pub returns-clause-no_room_to_push : goal.returns-clause-no_room_to_push
returns-clause-no_room_to_push c = no_room_to_push

pub returns-clause-nothing_to_pop : goal.returns-clause-nothing_to_pop
returns-clause-nothing_to_pop c = nothing_to_pop
