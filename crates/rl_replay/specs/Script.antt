-- The script language: what each line of a script says, and its first fault (this profile).
use Rattle.std.specs.Prelude.{ℕ, ◌+◌, ◌-◌, ◌*◌, ◌^◌, Bool, true, false, ◌&&◌, ◌||◌, ◌==◌, nat_lt, nat_le, if◌then◌else◌, ℤ, pos, neg_ℤ, List, [], ◌∷◌, length, fold, Option, Some, None, option_map, option_and_then, Result, Ok, Err, codes, decimal}
use Rattle.std.specs.Bool.{then_some}
use Rattle.std.specs.Char.{is_ascii_alphanumeric}
use Rattle.std.specs.List.{list_all, slice_split, join_with_byte}
use Rattle.std.specs.Result.{result_map_both}
use Rattle.std.specs.Str.{bytes_eq}
use Rattle.rl_replay.specs.declared.script.Event.{Event}
use Rattle.rl_replay.specs.declared.script.Event.TheVariants.{Open, Piece, End, Pick, Say}
use Rattle.rl_replay.specs.declared.script.Line.{Line}
use Rattle.rl_replay.specs.declared.script.ScriptFault.{ScriptFault}
use Rattle.rl_replay.specs.declared.script.ScriptFault.TheVariants.{BadLine}

-- without the empty part that stands behind a last newline
abbrev pub without_last_empty : List (List ℕ) → List (List ℕ)
without_last_empty [] = []
without_last_empty ([] ∷ []) = []
without_last_empty (line ∷ rest) = line ∷ without_last_empty rest

-- the lines of a text: each ends at a newline, which the last may lack
abbrev pub lines_of : List ℕ → List (List ℕ)
lines_of text = without_last_empty (slice_split (λ b. b == 10) text)

-- a session's name: 1 to 32 letters, digits, underscores and dashes
abbrev pub is_name_byte : ℕ → Bool
is_name_byte b = is_ascii_alphanumeric b || b == 95 || b == 45

abbrev pub is_session : List ℕ → Bool
is_session s = nat_lt 0 (length s) && nat_le (length s) 32 && list_all is_name_byte s

-- the value of digits
abbrev pub value_of : List ℕ → ℕ
value_of word = fold (λ n digit. n * 10 + (digit - 48)) 0 word

-- the number that a word spells in decimal, without leading zeros, where it is one of those from low to high
abbrev pub number_of : ℕ → ℕ → List ℕ → Option ℕ
number_of low high word =
    let n = value_of word in
    then_some (bytes_eq (decimal n) word && nat_le low n && nat_le n high) n

-- a count, or the number of a statement
abbrev pub count_of : List ℕ → Option ℕ
count_of word = number_of 1 4294967295 word

-- a goal, which may have a sign
abbrev pub goal_of : List ℕ → Option ℤ
goal_of [] = None
goal_of (b ∷ word) =
    if b == 45
    then option_map (λ n. neg_ℤ (pos n)) (number_of 0 (2 ^ 63) word)
    else option_map (λ n. pos n) (number_of 0 (2 ^ 63 - 1) (b ∷ word))

-- a statement's number, or such a number, an equals sign and a goal
abbrev pub pick_in : List (List ℕ) → Option (ℕ × Option ℤ)
pick_in (number ∷ []) = option_map (λ n. (n, None)) (count_of number)
pick_in (number ∷ goal ∷ []) = option_and_then (λ n. option_map (λ g. (n, Some g)) (goal_of goal)) (count_of number)
pick_in _ = None

-- what f makes of all, where it makes something of each
abbrev pub each_of : {A B : Type 0} → (A → Option B) → List A → Option (List B)
each_of f [] = Some []
each_of f (x ∷ xs) = option_and_then (λ y. option_map (λ ys. y ∷ ys) (each_of f xs)) (f x)

-- a dash for no picks, or one to four picks with commas between
abbrev pub picks_of : List ℕ → Option (List (ℕ × Option ℤ))
picks_of word =
    let items = slice_split (λ b. b == 44) word in
    if bytes_eq word (codes "-") then Some []
    else (if nat_le (length items) 4 then each_of (λ item. pick_in (slice_split (λ b. b == 61) item)) items else None)

-- the byte that an escape of one letter stands for: `\n`, `\r`, `\t`, `\0`, `\\` or `\"`
abbrev pub escape_of : ℕ → Option ℕ
escape_of b =
    if b == 110 then Some 10
    else (if b == 114 then Some 13
    else (if b == 116 then Some 9
    else (if b == 48 then Some 0
    else then_some (b == 92 || b == 34) b)))

-- the value of a hexadecimal digit, in either case
abbrev pub hex_of : ℕ → Option ℕ
hex_of b =
    if nat_le 48 b && nat_le b 57 then Some (b - 48)
    else (if nat_le 65 b && nat_le b 70 then Some (b - 55)
    else then_some (nat_le 97 b && nat_le b 102) (b - 87))

-- what stands before a byte between quotes: nothing special, a backslash, `\x`, or `\x` and a digit's value
pub data Behind : Type 0 where
  plain : Behind
  backslash : Behind
  hex : Behind
  digit : ℕ → Behind

-- one more byte in front
abbrev pub with_byte : ℕ → Option (List ℕ) → Option (List ℕ)
with_byte b rest = option_map (λ bs. b ∷ bs) rest

-- the bytes that a quoted text stands for, behind its first quote; its second quote is its end
abbrev pub unquoted : Behind → List ℕ → Option (List ℕ)
unquoted behind [] = None
unquoted plain (b ∷ rest) =
    if b == 34 then then_some (length rest == 0) []
    else (if b == 92 then unquoted backslash rest else with_byte b (unquoted plain rest))
unquoted backslash (b ∷ rest) =
    if b == 120 then unquoted hex rest
    else option_and_then (λ c. with_byte c (unquoted plain rest)) (escape_of b)
unquoted hex (b ∷ rest) = option_and_then (λ n. unquoted (digit n) rest) (hex_of b)
unquoted (digit high) (b ∷ rest) = option_and_then (λ low. with_byte (high * 16 + low) (unquoted plain rest)) (hex_of b)

-- the bytes that a text in quotes stands for
abbrev pub bytes_of : List ℕ → Option (List ℕ)
bytes_of [] = None
bytes_of (b ∷ rest) = if b == 34 then unquoted plain rest else None

-- a name of an entry, an action or a condition has a byte
abbrev pub is_word : List ℕ → Bool
is_word word = nat_lt 0 (length word)

-- the answer that a word gives
abbrev pub yes_or_no : List ℕ → Option Bool
yes_or_no word = if bytes_eq word (codes "yes") then Some true else then_some (bytes_eq word (codes "no")) false

-- what the words behind each verb say; a piece's bytes may have blanks
abbrev pub opens_by : List (List ℕ) → Option Event
opens_by (s ∷ []) = then_some (is_session s) (Open s None)
opens_by (s ∷ entry ∷ []) = then_some (is_session s && is_word entry) (Open s (Some entry))
opens_by _ = None

abbrev pub feeds_by : List (List ℕ) → Option Event
feeds_by (s ∷ quoted) = if is_session s then option_map (λ bytes. Piece s bytes) (bytes_of (join_with_byte 32 quoted)) else None
feeds_by [] = None

abbrev pub ends_by : List (List ℕ) → Option Event
ends_by (s ∷ []) = then_some (is_session s) (End s)
ends_by _ = None

abbrev pub picks_by : List (List ℕ) → Option Event
picks_by (s ∷ action ∷ count ∷ picks ∷ []) =
    if is_session s && is_word action
    then option_and_then (λ n. option_map (λ list. Pick s action n list) (picks_of picks)) (count_of count)
    else None
picks_by _ = None

abbrev pub says_by : List (List ℕ) → Option Event
says_by (s ∷ condition ∷ count ∷ answer ∷ []) =
    if is_session s && is_word condition
    then option_and_then (λ n. option_map (λ yes. Say s condition n yes) (yes_or_no answer)) (count_of count)
    else None
says_by _ = None

-- the event of a line's words
abbrev pub event_by : List (List ℕ) → Option Event
event_by (verb ∷ words) =
    if bytes_eq verb (codes "open") then opens_by words
    else (if bytes_eq verb (codes "piece") then feeds_by words
    else (if bytes_eq verb (codes "end") then ends_by words
    else (if bytes_eq verb (codes "pick") then picks_by words
    else (if bytes_eq verb (codes "say") then says_by words else None))))
event_by [] = None

-- the event that a line says, by its words, which have one space between them
abbrev pub event_of : List ℕ → Option Event
event_of line = event_by (slice_split (λ b. b == 32) line)

-- a line that is empty, or a comment, says nothing
abbrev pub says_nothing : List ℕ → Bool
says_nothing [] = true
says_nothing (b ∷ line) = b == 35

-- an event with its line, in front of those behind it; a line without an event is bad
abbrev pub with_line : ℕ → Event → Result (List Line) ScriptFault → Result (List Line) ScriptFault
with_line n event rest = result_map_both (λ lines. (record { number = n; event = event }) ∷ lines) (λ fault. fault) rest

abbrev pub or_bad : ℕ → Option Event → Result (List Line) ScriptFault → Result (List Line) ScriptFault
or_bad n None rest = Err (BadLine n)
or_bad n (Some event) rest = with_line n event rest

-- the events of numbered lines, or the first line that has no form
abbrev pub events_from : ℕ → List (List ℕ) → Result (List Line) ScriptFault
events_from n [] = Ok []
events_from n (line ∷ rest) =
    if says_nothing line then events_from (n + 1) rest else or_bad n (event_of line) (events_from (n + 1) rest)

-- the events of a text, or its first bad line
abbrev pub read_script : List ℕ → Result (List Line) ScriptFault
read_script text = events_from 1 (lines_of text)
