-- What a replay of a script writes (this profile).
use Rattle.std.specs.Prelude.{ℕ, if◌then◌else◌, List, [], ◌∷◌, ◌++◌, map, length, drop, filter, flat_map, Option, None, unwrap_or}
use Rattle.std.specs.Str.{bytes_eq}
use Rattle.rl_run.specs.declared.calls.Call.{Call}
use Rattle.rl_run.specs.declared.sessions.Settings.{Settings}
use Rattle.rl_run.specs.Machine.{Machine}
use Rattle.rl_run.specs.Run.{Input, Rest, input_at}
use Rattle.rl_run.specs.Verdict.{verdict_of}
use Rattle.rl_replay.specs.declared.script.Event.TheVariants.{Open, Piece, End}
use Rattle.rl_replay.specs.declared.script.Line.{Line}
use Rattle.rl_replay.specs.Sessions.{Names, entry_or_start, only, session_of, opened_at, is_opened, is_ended, live, fed}
use Rattle.rl_replay.specs.Host.{host}
use Rattle.rl_replay.specs.Lines.{session_run, run_lines, left_line}

-- a part of what is written, and the session that it is of
pub record Part : Type 0 where
  pub session : List ℕ
  pub text : List ℕ

-- parts, joined
abbrev pub texts : List Part → List ℕ
texts parts = flat_map (λ part. part.text) parts

-- a session's parts, joined
abbrev pub texts_of : List ℕ → List Part → List ℕ
texts_of s parts = texts (filter (λ part. bytes_eq part.session s) parts)

-- the input of a session by its lines so far, in characters of a width: all its pieces, ended where one of the lines ends it
abbrev pub input_of : ℕ → List Line → Input
input_of width own = input_at width 0 (fed own) (is_ended own)

-- the entry that a session was opened at
abbrev pub entry_of : Names → List Line → ℕ
entry_of names own = entry_or_start names (unwrap_or (opened_at own) None)

module _ {S : Type 0} (names : Names) (m : Machine S) (settings : Settings) where
  -- the run of a session by its lines so far, answered by all lines that name it
  abbrev pub host_run : List Line → List Line → List Call × Rest S
  host_run own past = session_run m settings (host m own) (entry_of names past) (input_of m.width past)

  -- the lines of that run, once the session is open
  abbrev pub session_lines : List ℕ → List Line → List Line → List ℕ
  session_lines s own past = if is_opened past then run_lines m settings s (host m own) (entry_of names past) (input_of m.width past) else []

  -- the left line of a session, by all lines that name it
  abbrev pub left_part : List ℕ → List Line → Part
  left_part s own = record { session = s; text = left_line s (verdict_of m (host_run own own).1) (host_run own own).1.session.next }

module _ {S : Type 0} (names : Names) (m : Machine S) (settings : Settings) (script : List Line) where
  -- what one more line adds for a session
  abbrev pub gained : List Line → Line → List ℕ → List ℕ
  gained past line s =
      drop (length (session_lines names m settings s (only s script) (only s past)))
      (session_lines names m settings s (only s script) (only s (past ++ line ∷ [])))

  -- what one more line adds for the session that it names
  abbrev pub added : List Line → Line → Part
  added past line = record { session = session_of line.event; text = gained past line (session_of line.event) }

  -- the parts that lines add, behind those past
  abbrev pub parts_from : List Line → List Line → List Part
  parts_from past [] = []
  parts_from past (line ∷ rest) = added past line ∷ parts_from (past ++ line ∷ []) rest

  -- the left line of a session of the script
  abbrev pub left : List ℕ → Part
  left s = left_part names m settings s (only s script)

  -- what each line adds, and then the left lines of the live sessions
  abbrev pub parts : List Part
  parts = parts_from [] script ++ map left (live script)

  -- what a replay writes
  abbrev pub written : List ℕ
  written = texts parts

-- the script of a run over an input at once: the session is opened, has one piece, and is ended
abbrev pub whole_input : List ℕ → Option (List ℕ) → List ℕ → List Line
whole_input s entry bytes =
    record { number = 1; event = Open s entry } ∷ record { number = 2; event = Piece s bytes } ∷ record { number = 3; event = End s } ∷ []
