use Rattle.std.proofs.Common.{sym, subst}
use Rattle.rl_model.specs.WellFormed.{IsWellFormed}
use Rattle.rl_tests_machines.proofs.OneCharacterLaws.{well_formed}
use Rattle.rl_tests_machines.proofs.make.one_character_has_tables.Goals as goal

pub tables_of-requires : goal.tables_of-requires
tables_of-requires g c = subst IsWellFormed (sym c.in_ok-spec.ensures) well_formed
