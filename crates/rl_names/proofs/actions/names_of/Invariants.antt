use Rattle.std.proofs.Common.{◌≡◌, drop}
use Rattle.rl_names.specs.Actions.{named_behind, action_names}
use Rattle.rl_names.specs.Answers.{along}
use Rattle.rl_names.specs.TableForms.{texts}
use Rattle.rl_names.proofs.actions.names_of.Given as goal

abbrev pub invariant-loop-action : goal.invariant-loop-action
invariant-loop-action l = along named_behind (texts l.names) (drop l.action-index l.list) ≡ action_names l.list
