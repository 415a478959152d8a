-- A run against a host that is a function of the calls so far.
use Rattle.std.specs.Prelude.{List, [], ◌∷◌, ◌++◌}
use Rattle.rl_run.specs.declared.calls.Answer.{Answer}
use Rattle.rl_run.specs.declared.calls.Call.{Call}
use Rattle.rl_run.specs.Play.{Play, done, ask}

-- all calls, the earlier ones included, and the end
abbrev pub hosted : {A : Type 0} → (List Call → Answer) → List Call → Play A → List Call × A
hosted host past (done a) = (past, a)
hosted host past (ask c f) = hosted host (past ++ c ∷ []) (f (host (past ++ c ∷ [])))
