use Rattle.std.proofs.Common.{◌≡◌, drop}
use Rattle.rl_names.specs.Codes.{first_unnamed}
use Rattle.rl_names.specs.TableForms.{has_in}
use Rattle.rl_names.proofs.instances.first_unnamed.Given as goal

abbrev pub invariant-loop-one : goal.invariant-loop-one
invariant-loop-one l = first_unnamed (has_in l.machine l.instances) (drop l.one-index l.said) ≡ first_unnamed (has_in l.machine l.instances) l.said
