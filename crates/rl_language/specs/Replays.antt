-- What a replay writes of an input says whether it is a word, and which tokens it is cut into.
use Rattle.std.specs.Prelude.{◌≡◌, ℕ, ◌-◌, ◌^◌, Bool, true, false, cond, ◌&&◌, List, [], ◌∷◌, ◌++◌, nat_eq, bit_or}
use Rattle.std.specs.List.{AllByRecursion}
use Rattle.rl_run.specs.declared.calls.Answer.{Answer}
use Rattle.rl_run.specs.declared.calls.Answer.TheVariants.{Yes}
use Rattle.rl_run.specs.declared.calls.Call.{Call}
use Rattle.rl_run.specs.declared.calls.Verdict.{Verdict}
use Rattle.rl_run.specs.Machine.{Machine}
use Rattle.rl_run.specs.Run.{Rest}
use Rattle.rl_run.specs.Verdict.{verdict_of}
use Rattle.rl_replay.specs.declared.script.Event.{Event}
use Rattle.rl_replay.specs.declared.script.Event.TheVariants.{Pick, Say}
use Rattle.rl_replay.specs.declared.script.Line.{Line}
use Rattle.rl_replay.specs.Host.{is_ask}
use Rattle.rl_replay.specs.Lines.{calls_lines, stop_lines, end_line}

-- the text ends with the end line of the session, and this is so of its verdict
abbrev pub EndsWithVerdict : List ℕ → List ℕ → (Verdict → Type 0) → Type 0
EndsWithVerdict text s Holds = (front : List ℕ) × (verdict : Verdict) × (next : ℕ) × (text ≡ front ++ end_line s verdict next) × Holds verdict

-- the text is the lines of a session's calls, its stop line where it stopped, and its end line; and this is so of the calls and
-- of the verdict
abbrev pub TellsCalls : {S : Type 0} → Machine S → (List Call → Answer) → List ℕ → List ℕ → (List Call → Verdict → Type 0) → Type 0
TellsCalls {S} m host text s Holds =
    (calls : List Call) × (r : Rest S) × (text ≡ calls_lines m s host [] calls ++ stop_lines s r ++ end_line s (verdict_of m r) r.session.next) × Holds calls (verdict_of m r)

-- ---- answers

-- the line does not answer a call of an action
abbrev pub IsNoPick : Event → Type 0
IsNoPick (Pick s action n picks) = ⊥
IsNoPick _ = Unit {0}

-- the line answers no call
abbrev pub IsNoAnswer : Event → Type 0
IsNoAnswer (Pick s action n picks) = ⊥
IsNoAnswer (Say s condition n holds) = ⊥
IsNoAnswer _ = Unit {0}

-- none of the lines answers a call of an action
abbrev pub PickNothing : List Line → Type 0
PickNothing own = AllByRecursion (λ line. IsNoPick line.event) own

-- none of the lines answers any call
abbrev pub AnswerNothing : List Line → Type 0
AnswerNothing own = AllByRecursion (λ line. IsNoAnswer line.event) own

abbrev pub is_yes : Answer → Bool
is_yes Yes = true
is_yes _ = false

-- the conditions so far, as bits, with this one where the call asks it at the position and is answered Yes
abbrev pub with_answer : ℕ → ℕ → Call → Answer → ℕ
with_answer at so_far c x = cond (is_ask c.kind && (nat_eq c.at at && is_yes x)) (bit_or so_far (2 ^ (c.action.0 - 1))) so_far

-- the conditions to which a host says Yes at a position, by calls behind those past, with those so far
abbrev pub said_by : (List Call → Answer) → List Call → List Call → ℕ → ℕ → ℕ
said_by host past [] at so_far = so_far
said_by host past (c ∷ calls) at so_far = said_by host (past ++ c ∷ []) calls at (with_answer at so_far c (host (past ++ c ∷ [])))

-- the conditions that hold at a position, as a host answers the calls of a run
abbrev pub truths_said : (List Call → Answer) → List Call → ℕ → ℕ
truths_said host calls at = said_by host [] calls at 0
