use Rattle.std.proofs.Common.{◌≡◌, ◌++◌, drop, map}
use Rattle.rl_automata.specs.Refused.{AreDifferent}
use Rattle.rl_model.specs.declared.spec.ActionDef as rust_action
use Rattle.rl_form.specs.Texts.{texts}
use Rattle.rl_form.proofs.differ.do_actions_differ.Given as goal

abbrev pub invariant-loop-a : goal.invariant-loop-a
invariant-loop-a l = record {
  apart : AreDifferent (texts l.names);
  found : texts l.names ++ map (λ (a : rust_action.ActionDef). a.name) (drop l.a-index l.actions) ≡ map (λ (a : rust_action.ActionDef). a.name) l.actions;
}
