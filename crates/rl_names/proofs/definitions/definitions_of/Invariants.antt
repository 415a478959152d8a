use Rattle.std.proofs.Common.{◌≡◌, drop}
use Rattle.rl_names.specs.Answers.{along}
use Rattle.rl_names.specs.Bases.{kept_base}
use Rattle.rl_names.specs.Drafts.{names_of, definitions_behind, definitions_of}
use Rattle.rl_names.specs.TableForms.{texts, pointed}
use Rattle.rl_names.proofs.definitions.definitions_of.Given as goal

abbrev pub invariant-loop-step : goal.invariant-loop-step
invariant-loop-step l = record {
  names : texts l.names ≡ names_of l.list;
  list : along (definitions_behind (kept_base l.base) l.machine) l.list (pointed (drop l.step-index l.own)) ≡ definitions_of (kept_base l.base) l.machine (pointed l.own);
}
