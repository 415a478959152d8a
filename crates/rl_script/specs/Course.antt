-- What the lines of a script say of sessions and of calls, and what tables have names for, kept in tables of names.
use Rattle.std.specs.Prelude.{◌≡◌, ℕ, ◌+◌, ◌-◌, Bool, true, not, ◌&&◌, nat_le, List, [], ◌∷◌, length, Option, Some, None, filter_map}
use Rattle.std.specs.List.{list_any}
use Rattle.std.specs.Option.{option_or}
use Rattle.rl_replay.specs.declared.script.Event.{Event}
use Rattle.rl_replay.specs.declared.script.Event.TheVariants.{Open, Piece, End, Pick, Say}
use Rattle.rl_replay.specs.declared.script.Line.{Line}
use Rattle.rl_replay.specs.declared.script.ScriptFault.{ScriptFault}
use Rattle.rl_replay.specs.declared.script.ScriptFault.TheVariants.{Twice, NoSession, NoEntry, NoName, Full}
use Rattle.rl_replay.specs.Sessions.{Names, has_name, only, opened_by, is_opened, is_ended, live, answers_same, if_so}
use Rattle.rl_script.specs.declared.course.Course.{Course}
use Rattle.rl_script.specs.declared.course.Known.{Known}
use Rattle.rl_script.specs.NameTables.{has, has_call, Adds, AddsCall}

-- ---- what is known of a script and of tables as a whole: the sessions that any line opens, and the names of the tables
pub record Knows (names : Names) (all : List Line) (known : Known) : Type 0 where
  pub opened : (s : List ℕ) → has known.opened s ≡ is_opened (only s all)
  pub entries : (name : List ℕ) → has known.entries name ≡ has_name names.entries name
  pub actions : (name : List ℕ) → has known.actions name ≡ has_name names.actions name
  pub conditions : (name : List ℕ) → has known.conditions name ≡ has_name names.conditions name

-- an entry that is not named is the start entry, which there is
abbrev pub is_entry : Known → Option (List ℕ) → Bool
is_entry known None = true
is_entry known (Some entry) = has known.entries entry

-- ---- what is known of the lines past

-- the sessions that lines open, in order
abbrev pub opened_in : List Line → List (List ℕ)
opened_in lines = filter_map (λ line. opened_by line.event) lines

-- names of which no two are the same
abbrev pub AreApart : List (List ℕ) → Type 0
AreApart [] = Unit {0}
AreApart (name ∷ names) = (has_name names name ≡ true → ⊥) × AreApart names

-- the sessions that were opened and those that were ended, how many are live, and the calls that were answered; no session
-- was opened twice, and none ended that was not opened
pub record Tells (past : List Line) (course : Course) : Type 0 where
  pub opened : (s : List ℕ) → has course.opened s ≡ is_opened (only s past)
  pub ended : (s : List ℕ) → has course.ended s ≡ is_ended (only s past)
  pub live : course.live ≡ length (live past)
  pub picks : (s name : List ℕ) (n : ℕ) → has_call course.picks s name n ≡ list_any (λ line. answers_same (Pick s name n []) line.event) past
  pub says : (s name : List ℕ) (n : ℕ) → has_call course.says s name n ≡ list_any (λ line. answers_same (Say s name n true) line.event) past
  pub apart : AreApart (opened_in past)
  pub orderly : (s : List ℕ) → is_ended (only s past) ≡ true → is_opened (only s past) ≡ true

abbrev pub is_live_in : Course → List ℕ → Bool
is_live_in course s = has course.opened s && not (has course.ended s)

-- the fault of a line by what is known
abbrev pub fault_in : Known → Course → ℕ → Event → Option ScriptFault
fault_in known course n (Open s entry) =
    option_or (if_so (has course.opened s) (Twice n))
    (option_or (if_so (not (is_entry known entry)) (NoEntry n))
    (if_so (nat_le 1024 course.live) (Full n)))
fault_in known course n (Piece s bytes) = if_so (not (is_live_in course s)) (NoSession n)
fault_in known course n (End s) = if_so (not (is_live_in course s)) (NoSession n)
fault_in known course n (Pick s action count picks) =
    option_or (if_so (has_call course.picks s action count) (Twice n))
    (option_or (if_so (not (has known.opened s)) (NoSession n))
    (if_so (not (has known.actions action)) (NoName n)))
fault_in known course n (Say s condition count holds) =
    option_or (if_so (has_call course.says s condition count) (Twice n))
    (option_or (if_so (not (has known.opened s)) (NoSession n))
    (if_so (not (has known.conditions condition)) (NoName n)))

-- what a line without a fault makes of what is known
abbrev pub Notes : Event → Course → Course → Type 0
Notes (Open s entry) old new =
    Adds old.opened s new.opened × (new.ended ≡ old.ended) × (new.live ≡ old.live + 1) × (new.picks ≡ old.picks) × (new.says ≡ old.says)
Notes (Piece s bytes) old new =
    (new.opened ≡ old.opened) × (new.ended ≡ old.ended) × (new.live ≡ old.live) × (new.picks ≡ old.picks) × (new.says ≡ old.says)
Notes (End s) old new =
    (new.opened ≡ old.opened) × Adds old.ended s new.ended × (new.live ≡ old.live - 1) × (new.picks ≡ old.picks) × (new.says ≡ old.says)
Notes (Pick s action count picks) old new =
    (new.opened ≡ old.opened) × (new.ended ≡ old.ended) × (new.live ≡ old.live) × AddsCall old.picks s action count new.picks × (new.says ≡ old.says)
Notes (Say s condition count holds) old new =
    (new.opened ≡ old.opened) × (new.ended ≡ old.ended) × (new.live ≡ old.live) × (new.picks ≡ old.picks) × AddsCall old.says s condition count new.says
