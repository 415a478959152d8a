-- What the definitions of a machine are read by, as it is kept.
use Rattle.std.specs.Prelude.{[]}
use Rattle.rl_names.specs.Expressions.{Scope}
use Rattle.rl_names.specs.TableForms.{texts}
use Rattle.rl_names.specs.declared.base.Base.{Base}

abbrev pub kept_base : Base → Scope
kept_base b = record {
  alphabet = b.alphabet;
  actions = texts b.actions.now;
  priorities = texts b.priorities.now;
  earlier = [];
  names = [];
  owner = [];
}
