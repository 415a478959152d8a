-- The host that a script makes: what it answers to the calls of a session (this profile).
use Rattle.std.specs.Prelude.{ℕ, zero, suc, ◌+◌, ◌^◌, Bool, true, false, ◌&&◌, ◌==◌, if◌then◌else◌, ℤ, pos, negsuc, ◌+ℤ◌, neg_ℤ, int_le, int_lt, List, [], ◌∷◌, ◌++◌, map, take, filter, filter_map, count_by, Option, Some, None, unwrap_or, option_map, option_and_then}
use Rattle.std.specs.Bool.{then_some}
use Rattle.std.specs.List.{last_or}
use Rattle.std.specs.Str.{bytes_eq}
use Rattle.rl_run.specs.declared.calls.Answer.{Answer}
use Rattle.rl_run.specs.declared.calls.Answer.TheVariants.{Yes, No, Picks}
use Rattle.rl_run.specs.declared.calls.Call.{Call}
use Rattle.rl_run.specs.declared.calls.CallKind.{CallKind}
use Rattle.rl_run.specs.declared.calls.CallKind.TheVariants as kinds
use Rattle.rl_run.specs.declared.calls.Pick.{Pick}
use Rattle.rl_run.specs.declared.statements.GoalBase.{GoalBase}
use Rattle.rl_run.specs.declared.statements.GoalBase.TheVariants as bases
use Rattle.rl_run.specs.declared.statements.Statement.{Statement}
use Rattle.rl_run.specs.declared.statements.StatementKind.{StatementKind}
use Rattle.rl_run.specs.declared.statements.StatementKind.TheVariants as statements
use Rattle.rl_run.specs.Machine.{Machine}
use Rattle.rl_run.specs.Picks.{takes_picks}
use Rattle.rl_run.specs.Twin.{name_of}
use Rattle.rl_replay.specs.declared.script.Event.{Event}
use Rattle.rl_replay.specs.declared.script.Event.TheVariants as events
use Rattle.rl_replay.specs.declared.script.Line.{Line}
use Rattle.rl_replay.specs.Sessions.{first}

-- a statement's number with the goal that is given
abbrev pub pick_of : ℕ → Option ℤ → Pick
pick_of number goal = record { statement = number; goal = goal }

-- the picks, or the answer, that a line gives for the n-th call of a name
abbrev pub picks_for : List ℕ → ℕ → Event → Option (List Pick)
picks_for name n (events.Pick s action k list) = then_some (bytes_eq action name && k == n) (map (λ x. pick_of x.0 x.1) list)
picks_for name n _ = None

abbrev pub says_for : List ℕ → ℕ → Event → Option Bool
says_for name n (events.Say s condition k holds) = then_some (bytes_eq condition name && k == n) holds
says_for name n _ = None

-- the same of the lines of a session, the first that gives one
abbrev pub given_picks : List Line → List ℕ → ℕ → Option (List Pick)
given_picks own name n = first (filter_map (λ line. picks_for name n line.event) own)

abbrev pub given_answer : List Line → List ℕ → ℕ → Option Bool
given_answer own name n = first (filter_map (λ line. says_for name n line.event) own)

-- whether a condition is called
abbrev pub is_ask : CallKind → Bool
is_ask kinds.Ask = true
is_ask _ = false

-- a statement with its number
abbrev pub Numbered : Type 0
Numbered = ℕ × Statement

module _ {S : Type 0} (m : Machine S) where
  -- how often a name was called, by the calls of a sort
  abbrev pub times : (CallKind → Bool) → List Call → List ℕ → ℕ
  times is_counted calls name = count_by (λ c. is_counted c.kind && bytes_eq (name_of m c) name) calls

  -- the statements of an action from a number on, at most so many, with their numbers
  unfoldable pub statements_from : ℕ → ℕ → ℕ → List Numbered
  statements_from action zero n = []
  statements_from action (suc most) n =
      elim (m.statement action n) [ None ↦ [] | Some statement ↦ (n, statement) ∷ statements_from action most (n + 1) ]

  -- all statements of an action; their numbers are 1 to 4,294,967,295
  unfoldable pub statements_of : ℕ → List Numbered
  statements_of action = statements_from action 4294967295 1

-- the items up to the first that passes, which is the last of them
abbrev pub up_to : {A : Type 0} → (A → Bool) → List A → List A
up_to passes [] = []
up_to passes (x ∷ xs) = x ∷ (if passes x then [] else up_to passes xs)

-- transfers and breaks end the list that is called
abbrev pub ends_list : StatementKind → Bool
ends_list statements.Goto = true
ends_list statements.Call = true
ends_list statements.Ret = true
ends_list statements.Break = true
ends_list _ = false

-- where a goal counts from: the character's position, which is the one before next, or a mark that is present
abbrev pub base_of : Call → GoalBase → Option ℤ
base_of c bases.Unread = None
base_of c bases.P = Some (pos c.next +ℤ negsuc 0)
base_of c bases.Ts = option_map (λ ts. pos ts) c.ts
base_of c bases.Te = option_map (λ te. pos te) c.te

-- a goal has 64 bits with a sign
abbrev pub fits_goal : ℤ → Bool
fits_goal goal = int_le (neg_ℤ (pos (2 ^ 63))) goal && int_lt goal (pos (2 ^ 63))

-- the goal of an exec, where it can be read and fits
abbrev pub own_goal : Call → Statement → Option ℤ
own_goal c statement =
    option_and_then (λ base. then_some (fits_goal (base +ℤ statement.offset)) (base +ℤ statement.offset)) (base_of c statement.base)

-- a statement is picked by itself, an exec only where its goal can be read
abbrev pub own_pick : Call → Numbered → Option Pick
own_pick c numbered = elim numbered.1.kind [
  | statements.Exec ↦ option_map (λ goal. pick_of numbered.0 (Some goal)) (own_goal c numbered.1)
  | _ ↦ Some (pick_of numbered.0 None)
]

-- of statements those at the outer level, up to the first transfer or break
abbrev pub picks_among : Call → List Numbered → List Pick
picks_among c list = filter_map (own_pick c) (up_to (λ x. ends_list x.1.kind) (filter (λ x. x.1.outer) list))

-- what is picked for a call without a line
abbrev pub own_picks : {S : Type 0} → Machine S → Call → List Pick
own_picks m c = picks_among c (statements_of m c.action.0)

-- an answer has room for four picks
abbrev pub four : List Pick → List (Option Pick)
four list = take 4 (map (λ pick. Some pick) list ++ None ∷ None ∷ None ∷ None ∷ [])

abbrev pub picks_answer : List Pick → Answer
picks_answer list = Picks (four list)

-- the answer to a condition
abbrev pub yes_no : Bool → Answer
yes_no true = Yes
yes_no false = No

-- the answer to a call for which no line stands
abbrev pub own_answer : {S : Type 0} → Machine S → Call → Answer
own_answer m c = if is_ask c.kind then No else (if takes_picks c.kind then picks_answer (own_picks m c) else Yes)

-- the answer to the last of a session's calls so far, by the lines that name the session
module _ {S : Type 0} (m : Machine S) (own : List Line) where
  abbrev pub answer_to : List Call → Call → Answer
  answer_to calls c =
      if is_ask c.kind
      then yes_no (unwrap_or (given_answer own (name_of m c) (times m is_ask calls (name_of m c))) false)
      else (if takes_picks c.kind
      then picks_answer (unwrap_or (given_picks own (name_of m c) (times m takes_picks calls (name_of m c))) (own_picks m c))
      else Yes)

  abbrev pub host : List Call → Answer
  host calls = elim (last_or None calls) [ None ↦ Yes | Some c ↦ answer_to calls c ]
