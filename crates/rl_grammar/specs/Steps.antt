-- Where a statement stands.
use Rattle.std.specs.Prelude.{Bool, not, ◌==◌}
use Rattle.rl_grammar.specs.declared.step.Step.{Step}

-- it stands in an included file
abbrev pub is_included : Step → Bool
is_included s = not (s.file == 0)
