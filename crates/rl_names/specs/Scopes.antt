-- What an expression is read by, as it is kept.
use Rattle.rl_names.specs.Expressions.{Scope}
use Rattle.rl_names.specs.TableForms.{texts}
use Rattle.rl_names.specs.declared.scope.Scope.{Scope as Kept}

abbrev pub kept : Kept → Scope
kept s = record {
  alphabet = s.alphabet;
  actions = texts s.actions.now;
  priorities = texts s.priorities.now;
  earlier = s.earlier.now;
  names = texts s.names.now;
  owner = s.owner.now;
}
