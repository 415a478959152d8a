-- The lines that a run of a session makes (this profile).
use Rattle.std.specs.Prelude.{ℕ, false, if◌then◌else◌, ℤ, List, [], ◌∷◌, ◌++◌, map, flat_map, Option, Some, None, unwrap_or, codes, decimal}
use Rattle.std.specs.Fmt.{signed_decimal}
use Rattle.rl_run.specs.declared.calls.Answer.{Answer}
use Rattle.rl_run.specs.declared.calls.Answer.TheVariants as answers
use Rattle.rl_run.specs.declared.calls.Call.{Call}
use Rattle.rl_run.specs.declared.calls.CallKind.{CallKind}
use Rattle.rl_run.specs.declared.calls.CallKind.TheVariants as kinds
use Rattle.rl_run.specs.declared.calls.Outcome.TheVariants.{Stopped}
use Rattle.rl_run.specs.declared.calls.Pick.{Pick}
use Rattle.rl_run.specs.declared.calls.Stop.{Stop}
use Rattle.rl_run.specs.declared.calls.Stop.TheVariants as stops
use Rattle.rl_run.specs.declared.calls.Verdict.{Verdict}
use Rattle.rl_run.specs.declared.calls.Verdict.TheVariants as verdicts
use Rattle.rl_run.specs.declared.sessions.Settings.{Settings}
use Rattle.rl_run.specs.declared.statements.Statement.{Statement}
use Rattle.rl_run.specs.declared.statements.StatementKind.{StatementKind}
use Rattle.rl_run.specs.declared.statements.StatementKind.TheVariants as statements
use Rattle.rl_run.specs.Chain.{run_on}
use Rattle.rl_run.specs.Hosted.{hosted}
use Rattle.rl_run.specs.Machine.{Machine, fresh}
use Rattle.rl_run.specs.Picks.{entry_number}
use Rattle.rl_run.specs.Run.{Input, Rest}
use Rattle.rl_run.specs.Twin.{name_of}
use Rattle.rl_run.specs.Verdict.{verdict_of}

-- a line: the session's name, words with one blank before each, and a newline
abbrev pub spaced : List (List ℕ) → List ℕ
spaced words = flat_map (λ word. 32 ∷ word) words

abbrev pub line_of : List ℕ → List (List ℕ) → List ℕ
line_of s words = s ++ spaced words ++ 10 ∷ []

-- the words for kinds of calls, for the reasons of a stop, and for verdicts
abbrev pub kind_word : CallKind → List ℕ
kind_word kinds.From = codes "from"
kind_word kinds.Ask = codes "ask"
kind_word kinds.Do = codes "do"
kind_word kinds.Error = codes "error"
kind_word kinds.To = codes "to"
kind_word kinds.Token = codes "token"
kind_word kinds.Eof = codes "eof"

abbrev pub reason_word : Stop → List ℕ
reason_word stops.ErrorState = codes "error"
reason_word (stops.StackFull pick) = codes "stack-full"
reason_word (stops.StackEmpty pick) = codes "stack-empty"
reason_word (stops.Back pick) = codes "back"
reason_word (stops.Stuck pick) = codes "stuck"
reason_word stops.Overlong = codes "overlong"
reason_word stops.PastEnd = codes "past-end"
reason_word stops.HalfKey = codes "half-key"
reason_word (stops.Stray answer) = codes "stray"
reason_word stops.HostStop = codes "host-stop"

abbrev pub verdict_word : Verdict → List ℕ
verdict_word verdicts.Final = codes "final"
verdict_word verdicts.Partial = codes "partial"
verdict_word verdicts.Error = codes "error"

-- the start and the end of the token that is delivered
abbrev pub token_words : Call → List (List ℕ)
token_words c = elim c.kind [ kinds.Token ↦ decimal (unwrap_or c.ts 0) ∷ decimal (unwrap_or c.te 0) ∷ [] | _ ↦ [] ]

-- what every call shows: its kind, its name, its position, and a token's ends
abbrev pub call_words : List ℕ → Call → List (List ℕ)
call_words name c = kind_word c.kind ∷ name ∷ decimal c.at ∷ token_words c

-- the goal of an exec; none is a question mark
abbrev pub goal_text : Option ℤ → List ℕ
goal_text None = codes "?"
goal_text (Some goal) = signed_decimal goal

-- a statement that is picked, by its kind, with its entry's name; only an exec shows its goal
abbrev pub pick_text : StatementKind → List ℕ → Option ℤ → List ℕ
pick_text statements.Hold entry goal = codes "hold"
pick_text statements.Exec entry goal = codes "exec " ++ goal_text goal
pick_text statements.Goto entry goal = codes "goto " ++ entry
pick_text statements.Call entry goal = codes "call " ++ entry
pick_text statements.Ret entry goal = codes "ret"
pick_text statements.Next entry goal = codes "next " ++ entry
pick_text statements.Break entry goal = codes "break"

-- what a condition was answered
abbrev pub answer_word : Answer → List ℕ
answer_word answers.Yes = codes "yes"
answer_word _ = codes "no"

-- the picks of an answer: the first that is missing ends them
abbrev pub present : {A : Type 0} → List (Option A) → List A
present [] = []
present (None ∷ rest) = []
present (Some x ∷ rest) = x ∷ present rest

abbrev pub picks_in : Answer → List Pick
picks_in (answers.Picks list) = present list
picks_in _ = []

-- a pick, by the names of entries and the statement that it picks; a number that no statement has is shown behind a question mark
abbrev pub pick_word : (ℕ → List ℕ) → Option Statement → Pick → List ℕ
pick_word entry_name None pick = codes "?" ++ decimal pick.statement
pick_word entry_name (Some statement) pick = pick_text statement.kind (entry_name (entry_number statement.entry)) pick.goal

module _ {S : Type 0} (m : Machine S) where
  -- the picks of an action
  abbrev pub pick_words : ℕ → List Pick → List (List ℕ)
  pick_words action picks = map (λ pick. pick_word m.entry_name (m.statement action pick.statement) pick) picks

  -- what a line shows of the answer
  abbrev pub answer_words : Call → Answer → List (List ℕ)
  answer_words c answer = elim c.kind [
    | kinds.From ↦ []
    | kinds.To ↦ []
    | kinds.Ask ↦ answer_word answer ∷ []
    | _ ↦ pick_words c.action.0 (picks_in answer)
  ]

  -- the line of a call and its answer
  abbrev pub call_line : List ℕ → Call → Answer → List ℕ
  call_line s c answer = line_of s (call_words (name_of m c) c ++ answer_words c answer)

  -- the lines of a session's calls, each with the host's answer, behind those past
  abbrev pub calls_lines : List ℕ → (List Call → Answer) → List Call → List Call → List ℕ
  calls_lines s host past [] = []
  calls_lines s host past (c ∷ calls) = call_line s c (host (past ++ c ∷ [])) ++ calls_lines s host (past ++ c ∷ []) calls

  -- a run of a session from an entry on over an input, answered by a host: its calls, and where it has come
  abbrev pub session_run : Settings → (List Call → Answer) → ℕ → Input → List Call × Rest S
  session_run settings host entry input = hosted host [] (run_on false m settings input (fresh (m.entry entry)))

-- the lines of a session that stops, that is ended, and that is left live
abbrev pub stop_line : List ℕ → Stop → ℕ → List ℕ
stop_line s cause next = line_of s (codes "stop" ∷ reason_word cause ∷ decimal next ∷ [])

abbrev pub end_line : List ℕ → Verdict → ℕ → List ℕ
end_line s verdict next = line_of s (codes "end" ∷ verdict_word verdict ∷ decimal next ∷ [])

abbrev pub left_line : List ℕ → Verdict → ℕ → List ℕ
left_line s verdict next = line_of s (codes "left" ∷ verdict_word verdict ∷ decimal next ∷ [])

-- the stop line, where the run stopped
abbrev pub stop_lines : {S : Type 0} → List ℕ → Rest S → List ℕ
stop_lines s r = elim r.outcome [ Some (Stopped cause) ↦ stop_line s cause r.session.next | _ ↦ [] ]

-- the lines of a run: those of its calls, its stop line where it stopped, and its end line where its input is ended
abbrev pub run_lines : {S : Type 0} → Machine S → Settings → List ℕ → (List Call → Answer) → ℕ → Input → List ℕ
run_lines m settings s host entry input =
    let r = session_run m settings host entry input in
    calls_lines m s host [] r.0 ++ stop_lines s r.1
    ++ (if input.is_closed then end_line s (verdict_of m r.1) r.1.session.next else [])
