-- The numbers of the exit statuses.
use Rattle.std.specs.Prelude.{ℕ}
use Rattle.rl_types.specs.declared.status.Status.{Status}
use Rattle.rl_types.specs.declared.status.Status.TheVariants.{Done, Source, Usage, Limit, Outside, Memory, Tables, Script}

abbrev pub code_of : Status → ℕ
code_of Done = 0
code_of Source = 1
code_of Usage = 2
code_of Limit = 3
code_of Outside = 4
code_of Memory = 5
code_of Tables = 6
code_of Script = 7
