-- The sessions of a script, and the faults that a script has beside bad lines (this profile).
use Rattle.std.specs.Prelude.{ℕ, ◌+◌, Bool, true, false, not, ◌&&◌, ◌==◌, nat_le, List, [], ◌∷◌, ◌++◌, length, filter, filter_map, flat_map, Option, Some, None, is_some, unwrap_or, option_map, slice_get, position, Result, Ok, Err, codes}
use Rattle.std.specs.Bool.{then_some}
use Rattle.std.specs.List.{list_any}
use Rattle.std.specs.Option.{option_or}
use Rattle.std.specs.Str.{bytes_eq}
use Rattle.rl_replay.specs.declared.script.Event.{Event}
use Rattle.rl_replay.specs.declared.script.Event.TheVariants.{Open, Piece, End, Pick, Say}
use Rattle.rl_replay.specs.declared.script.Line.{Line}
use Rattle.rl_replay.specs.declared.script.ScriptFault.{ScriptFault}
use Rattle.rl_replay.specs.declared.script.ScriptFault.TheVariants.{Twice, NoSession, NoEntry, NoName, Full}
use Rattle.rl_replay.specs.Script.{read_script}

-- the names that a machine has, entries in text order
pub record Names : Type 0 where
  pub entries : List (List ℕ)
  pub actions : List (List ℕ)
  pub conditions : List (List ℕ)

-- one of the names is this one
abbrev pub has_name : List (List ℕ) → List ℕ → Bool
has_name names name = list_any (λ other. bytes_eq other name) names

-- the number of the entry with a name, from 1
abbrev pub entry_named : Names → List ℕ → Option ℕ
entry_named names name = option_map (λ i. i + 1) (position (λ other. bytes_eq other name) names.entries)

-- the start entry: main, or else the first
abbrev pub start_entry : Names → ℕ
start_entry names = unwrap_or (entry_named names (codes "main")) 1

-- the number of an entry that is named, or of the start entry; 0, which no entry has, where there is none of the name
abbrev pub entry_or_start : Names → Option (List ℕ) → ℕ
entry_or_start names None = start_entry names
entry_or_start names (Some entry) = unwrap_or (entry_named names entry) 0

-- the session that a line names
abbrev pub session_of : Event → List ℕ
session_of (Open s entry) = s
session_of (Piece s bytes) = s
session_of (End s) = s
session_of (Pick s action n picks) = s
session_of (Say s condition n holds) = s

-- a line of a session
abbrev pub names_session : List ℕ → Line → Bool
names_session s line = bytes_eq (session_of line.event) s

-- the lines that name a session
abbrev pub only : List ℕ → List Line → List Line
only s lines = filter (names_session s) lines

-- what a line does: it opens a session, at an entry; it feeds bytes; it ends a session
abbrev pub opening_of : Event → Option (Option (List ℕ))
opening_of (Open s entry) = Some entry
opening_of _ = None

abbrev pub feeding_of : Event → List ℕ
feeding_of (Piece s bytes) = bytes
feeding_of _ = []

abbrev pub is_end : Event → Bool
is_end (End s) = true
is_end _ = false

-- of the lines that name one session: the entry that it is opened at, whether it is ended, and its pieces, joined
abbrev pub first : {A : Type 0} → List A → Option A
first xs = slice_get xs 0

abbrev pub opened_at : List Line → Option (Option (List ℕ))
opened_at own = first (filter_map (λ line. opening_of line.event) own)

abbrev pub is_opened : List Line → Bool
is_opened own = is_some (opened_at own)

abbrev pub is_ended : List Line → Bool
is_ended own = list_any (λ line. is_end line.event) own

abbrev pub fed : List Line → List ℕ
fed own = flat_map (λ line. feeding_of line.event) own

-- a session is live from its opening to its end
abbrev pub is_live : List Line → Bool
is_live own = is_opened own && not (is_ended own)

-- the session that a line opens
abbrev pub opened_by : Event → Option (List ℕ)
opened_by event = option_map (λ entry. session_of event) (opening_of event)

-- the live sessions, in order of opening
abbrev pub live : List Line → List (List ℕ)
live lines = filter (λ s. not (is_ended (only s lines))) (filter_map (λ line. opened_by line.event) lines)

-- two lines that answer the same call
abbrev pub answers_same : Event → Event → Bool
answers_same (Pick s action n picks) (Pick t other k more) = bytes_eq t s && bytes_eq other action && k == n
answers_same (Say s condition n holds) (Say t other k more) = bytes_eq t s && bytes_eq other condition && k == n
answers_same _ _ = false

-- a fault, where it holds
abbrev pub if_so : Bool → ScriptFault → Option ScriptFault
if_so holds fault = then_some holds fault

-- the fault of a line, after the lines past it, among all lines; of several the first in the order of the variants
abbrev pub fault_of : Names → List Line → List Line → ℕ → Event → Option ScriptFault
fault_of names all past n (Open s entry) =
    option_or (if_so (is_opened (only s past)) (Twice n))
    (option_or (if_so (entry_or_start names entry == 0) (NoEntry n))
    (if_so (nat_le 1024 (length (live past))) (Full n)))
fault_of names all past n (Piece s bytes) = if_so (not (is_live (only s past))) (NoSession n)
fault_of names all past n (End s) = if_so (not (is_live (only s past))) (NoSession n)
fault_of names all past n (Pick s action count picks) =
    option_or (if_so (list_any (λ line. answers_same (Pick s action count picks) line.event) past) (Twice n))
    (option_or (if_so (not (is_opened (only s all))) (NoSession n))
    (if_so (not (has_name names.actions action)) (NoName n)))
fault_of names all past n (Say s condition count holds) =
    option_or (if_so (list_any (λ line. answers_same (Say s condition count holds) line.event) past) (Twice n))
    (option_or (if_so (not (is_opened (only s all))) (NoSession n))
    (if_so (not (has_name names.conditions condition)) (NoName n)))

-- the first line with a fault
abbrev pub fault_from : Names → List Line → List Line → List Line → Option ScriptFault
fault_from names all past [] = None
fault_from names all past (line ∷ rest) =
    option_or (fault_of names all past line.number line.event) (fault_from names all (past ++ line ∷ []) rest)

-- the same of all lines
abbrev pub first_fault : Names → List Line → Option ScriptFault
first_fault names lines = fault_from names lines [] lines

-- the fault, or else the lines
abbrev pub unless : Option ScriptFault → List Line → Result (List Line) ScriptFault
unless None lines = Ok lines
unless (Some fault) lines = Err fault

-- lines that were read are admitted, or have a fault
abbrev pub admitted : Names → Result (List Line) ScriptFault → Result (List Line) ScriptFault
admitted names (Ok lines) = unless (first_fault names lines) lines
admitted names (Err fault) = Err fault

-- a script: its lines, or its first bad line, or else its first line with another fault
abbrev pub script_of : Names → List ℕ → Result (List Line) ScriptFault
script_of names text = admitted names (read_script text)
