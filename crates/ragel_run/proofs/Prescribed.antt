-- What arrays write that are made for a Spec is what its expressions prescribe.
use Rattle.std.proofs.Common.{◌≡◌, ◌∙◌, List}
use Rattle.rl_model.specs.declared.spec.Spec.{Spec}
use Rattle.rl_model.specs.Specification.{specification_of}
use Rattle.rl_model.specs.Trees.{TestsOf, AreTestsHonest, tree_machine}
use Rattle.rl_arrays.specs.declared.arrays.Arrays.{Arrays}
use Rattle.rl_replay.specs.declared.script.Line.{Line}
use Rattle.rl_make.proofs.NameLaws.{names_alike}
use Rattle.rl_run.specs.declared.sessions.Settings.{Settings}
use Rattle.rl_script.specs.TableNames.{names_in}
use Rattle.ragel_run.specs.Files.{IsMadeFor}
use Rattle.ragel_run.specs.Replay.{names_of, prescribed, written_by}

pub lines_prescribed : (spec : Spec) (a : Arrays) → IsMadeFor spec a → (settings : Settings) (lines : List Line) (tests : TestsOf (specification_of spec)) → AreTestsHonest (specification_of spec) tests →
    written_by a settings lines ≡ prescribed spec settings tests lines
lines_prescribed spec a made settings lines tests honest =
    made.writes tests honest settings lines
    ∙ names_alike (names_in a) (names_of spec) made.entries (tree_machine (specification_of spec) tests) settings lines
