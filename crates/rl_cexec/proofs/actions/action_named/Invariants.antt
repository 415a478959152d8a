use Rattle.std.proofs.Common.{◌≡◌, drop}
use Rattle.rl_cexec.specs.Texts.{action_named}
use Rattle.rl_cexec.proofs.actions.action_named.Given as goal

abbrev pub invariant-loop-action : goal.invariant-loop-action
invariant-loop-action l = action_named (drop l.action-index l.actions) l.name ≡ action_named l.actions l.name
