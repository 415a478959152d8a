-- What an answer does to a session.
use Rattle.std.specs.Prelude.{ℕ, ◌+◌, ◌-◌, ◌^◌, Bool, true, false, ℤ, pos, List, [], ◌∷◌, Option, Some, None, length, nat_lt, nat_le, int_lt, unsigned_abs, if◌then◌else◌}
use Rattle.rl_run.specs.declared.calls.Answer.{Answer}
use Rattle.rl_run.specs.declared.calls.Answer.TheVariants.{Yes, No, Picks, Stop}
use Rattle.rl_run.specs.declared.calls.CallKind.{CallKind}
use Rattle.rl_run.specs.declared.calls.CallKind.TheVariants.{Do, Error, Token, Eof}
use Rattle.rl_run.specs.declared.calls.Pick.{Pick}
use Rattle.rl_run.specs.declared.sessions.Flow.{Flow}
use Rattle.rl_run.specs.declared.sessions.Flow.TheVariants.{Goes, Jumps, Breaks, Stops}
use Rattle.rl_run.specs.declared.calls.Stop.{Stop as StopCause}
use Rattle.rl_run.specs.declared.calls.Stop.TheVariants.{StackFull, StackEmpty, Back, Stuck, Stray, HostStop}
use Rattle.rl_run.specs.declared.statements.StatementKind.{StatementKind}
use Rattle.rl_run.specs.declared.statements.StatementKind.TheVariants.{Hold, Exec, Goto, Call, Ret, Next, Break}
use Rattle.rl_types.specs.declared.numbers.EntryId.{EntryId}
use Rattle.rl_run.specs.declared.sessions.Settings.{Settings}
pub use Rattle.rl_run.specs.declared.sessions.Spot.{Spot}
use Rattle.rl_run.specs.Machine.{Machine, Session}

-- where a list, or a part of a turn, has come
pub record Came (S : Type 0) : Type 0 where
  pub flow : Flow
  pub session : Session S

abbrev pub came : {S : Type 0} → Flow → Session S → Came S
came flow s = record { flow = flow; session = s }

-- on with the session where nothing has ended the list
abbrev pub on_goes : {S : Type 0} → Came S → (Session S → Came S) → Came S
on_goes c k = elim c.flow [ Goes ↦ k c.session | Jumps ↦ c | Breaks ↦ c | Stops _ ↦ c ]

-- next becomes a position, which the floor bars or not
abbrev pub moved : {S : Type 0} → Pick → Session S → Bool → ℕ → Came S
moved pick s is_below position =
    if is_below
    then came (Stops (Back pick)) s
    else (if nat_lt position s.next
    then (if nat_le 65535 s.backs
    then came (Stops (Stuck pick)) s
    else came Goes (record s { next = position; backs = s.backs + 1 }))
    else came Goes (record s { next = position }))

-- the number of the entry that a statement names; 0, which no entry has, where it names none
abbrev pub entry_number : Option EntryId → ℕ
entry_number None = 0
entry_number (Some e) = e.0

-- a statement that the action has, of a kind and with the entry of a number, and the goal that was given
abbrev pub stated : {S : Type 0} → Machine S → Settings → Spot → StopCause → Pick → Session S → ℕ → StatementKind → Option ℤ → Came S
stated m settings spot stray pick s e Hold None =
    if spot.is_end then came Goes s else moved pick s (nat_le s.next spot.floor) (s.next - 1)
stated m settings spot stray pick s e Exec (Some goal) =
    if int_lt (pos (2 ^ 62)) goal
    then came (Stops stray) s
    else (if spot.is_end then came Goes s else moved pick s (int_lt goal (pos spot.floor)) (unsigned_abs goal))
stated m settings spot stray pick s e Goto None = came Jumps (record s { state = m.entry e })
stated m settings spot stray pick s e Next None = came Goes (record s { state = m.entry e })
stated m settings spot stray pick s e Call None =
    if nat_lt (length s.stack) settings.stack
    then came Jumps (record s { state = m.entry e; stack = s.state ∷ s.stack })
    else came (Stops (StackFull pick)) s
stated m settings spot stray pick s e Ret None =
    elim s.stack [ [] ↦ came (Stops (StackEmpty pick)) s | t ∷ ts ↦ came Jumps (record s { state = t; stack = ts }) ]
stated m settings spot stray pick s e Break None = came Breaks s
stated m settings spot stray pick s _ _ _ = came (Stops stray) s

abbrev pub pick_one : {S : Type 0} → Machine S → Settings → Spot → StopCause → ℕ → Session S → Pick → Came S
pick_one m settings spot stray action s pick =
    elim (m.statement action pick.statement) [
      | None ↦ came (Stops stray) s
      | Some statement ↦ stated m settings spot stray pick s (entry_number statement.entry) statement.kind pick.goal
    ]

-- picks in order, up to the first that is missing, that ends the list or that is refused
abbrev pub pick_all : {S : Type 0} → Machine S → Settings → Spot → StopCause → ℕ → List (Option Pick) → Session S → Came S
pick_all m settings spot stray action [] s = came Goes s
pick_all m settings spot stray action (None ∷ picks) s = came Goes s
pick_all m settings spot stray action (Some pick ∷ picks) s =
    on_goes (pick_one m settings spot stray action s pick) (λ t. pick_all m settings spot stray action picks t)

-- which calls may have picks
abbrev pub takes_picks : CallKind → Bool
takes_picks Do = true
takes_picks Error = true
takes_picks Token = true
takes_picks Eof = true
takes_picks _ = false

-- the answer to one call of a list
abbrev pub answered : {S : Type 0} → Machine S → Settings → Spot → CallKind → ℕ → Session S → Answer → Came S
answered m settings spot kind action s Yes = came Goes s
answered m settings spot kind action s No = came (Stops (Stray No)) s
answered m settings spot kind action s (Picks picks) =
    if takes_picks kind
    then pick_all m settings spot (Stray (Picks picks)) action picks s
    else came (Stops (Stray (Picks picks))) s
answered m settings spot kind action s Stop = came (Stops HostStop) s
