-- What is left of a call's own picks from a statement on.
use Rattle.std.specs.Prelude.{◌≡◌, ℕ, ◌-◌, List, [], ◌∷◌, ◌++◌, Option, Some, None, option_to_list, MatchOption}
use Rattle.rl_run.specs.declared.calls.Call.{Call}
use Rattle.rl_run.specs.declared.calls.Pick.{Pick}
use Rattle.rl_run.specs.Machine.{Machine}
use Rattle.rl_replay.specs.Host.{statements_from, picks_among}

-- the picks from a statement's number on; without a number they are over
unfoldable pub picks_left : {S : Type 0} → Machine S → Call → Option ℕ → List Pick
picks_left m c None = []
picks_left m c (Some n) = picks_among c (statements_from m c.action.0 (4294967296 - n) n)

-- one statement on
abbrev pub GoesOn : {S : Type 0} → Machine S → Call → Option ℕ → Option Pick × Option ℕ → Type 0
GoesOn m c from r = picks_left m c from ≡ option_to_list r.0 ++ picks_left m c r.1

-- one pick on, or at the end
abbrev pub IsNext : {S : Type 0} → Machine S → Call → Option ℕ → Option Pick × Option ℕ → Type 0
IsNext m c from r = MatchOption r.0 ((picks_left m c from ≡ []) × (r.1 ≡ None)) (λ pick. picks_left m c from ≡ pick ∷ picks_left m c r.1)
