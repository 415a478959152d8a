use Rattle.std.proofs.Common.{◌∙◌, ap}
use Rattle.rl_fsm.specs.Graphs.{marks_of}
use Rattle.rl_embed.proofs.GuardLaws.{marks_told}
use Rattle.rl_embed.proofs.conditions.GuardOperator.marks.Goals as goal

pub returns : goal.returns
returns c = λ k. ap (marks_of k) c.in_ok-marks.ensures ∙ marks_told c.args.self.now.machine.now c.args.c.now k
