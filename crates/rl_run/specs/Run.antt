-- Runs over an input.
use Rattle.std.specs.Prelude.{ℕ, zero, suc, ◌+◌, ◌-◌, Bool, true, false, List, Option, Some, None, length, nat_lt, if◌then◌else◌, slice_get}
use Rattle.rl_run.specs.declared.calls.CallKind.TheVariants.{Eof}
use Rattle.rl_run.specs.declared.sessions.Flow.TheVariants.{Goes, Jumps, Breaks, Stops}
use Rattle.rl_run.specs.declared.calls.Outcome.{Outcome}
use Rattle.rl_run.specs.declared.calls.Outcome.TheVariants.{Wants, Broke, Ended, Stopped}
use Rattle.rl_run.specs.declared.calls.Stop.TheVariants.{PastEnd, HalfKey}
use Rattle.rl_run.specs.declared.sessions.Settings.{Settings}
use Rattle.rl_types.specs.Alphabet.{characters, has_rest}
use Rattle.rl_run.specs.Machine.{Machine, Session, keep}
use Rattle.rl_run.specs.Picks.{Came, Spot}
use Rattle.rl_run.specs.Play.{Play, done, bind}
use Rattle.rl_run.specs.Turn.{calls, deliver, turn, finished}

-- what is seen of an input: the characters from a position on, whether they are all, and whether bytes that fill no character stand
-- behind them
pub record Input : Type 0 where
  pub base : ℕ
  pub characters : List ℕ
  pub is_closed : Bool
  pub has_rest : Bool

-- bytes from a position on, by the width of their characters
abbrev pub input_at : ℕ → ℕ → List ℕ → Bool → Input
input_at width base bytes is_closed =
    record { base = base; characters = characters width bytes; is_closed = is_closed; has_rest = has_rest width bytes }

abbrev pub letter : Input → ℕ → Option ℕ
letter input p = if nat_lt p input.base then None else slice_get input.characters (p - input.base)

abbrev pub end_of : Input → ℕ
end_of input = input.base + length input.characters

-- where a run has come; none: its turns are spent
pub record Rest (S : Type 0) : Type 0 where
  pub outcome : Option Outcome
  pub session : Session S

abbrev pub rest : {S : Type 0} → Option Outcome → Session S → Rest S
rest outcome s = record { outcome = outcome; session = s }

-- on after a turn; a run that is broken off stands after the turn with a break, another goes on
unfoldable pub after : {S : Type 0} → Bool → Came S → (Session S → Play (Rest S)) → Play (Rest S)
after is_broken_off c k = elim c.flow [
  | Goes ↦ k c.session
  | Jumps ↦ k c.session
  | Breaks ↦ if is_broken_off then done (rest (Some Broke) c.session) else k c.session
  | Stops cause ↦ done (rest (Some (Stopped cause)) c.session)
]

abbrev pub end_spot : {S : Type 0} → Settings → Session S → ℕ → Bool → Spot
end_spot settings s at is_end = record { at = at; key = None; floor = keep settings s; is_end = is_end }

-- at the end of input a kept token list is delivered, in a turn of its own
unfoldable pub last_delivery : {S : Type 0} → Machine S → Settings → ℕ → List ℕ → Session S → Play (Came S)
last_delivery m settings at list s =
    bind (deliver m settings (end_spot settings s at false) list s) (finished m settings (end_spot settings s at false))

abbrev pub over : {S : Type 0} → Came S → Rest S
over c = elim c.flow [ Stops cause ↦ rest (Some (Stopped cause)) c.session | _ ↦ rest (Some Ended) c.session ]

-- where nothing is kept the end-of-file list is called
unfoldable pub last_list : {S : Type 0} → Machine S → Settings → ℕ → Session S → Play (Rest S)
last_list m settings at s = bind (calls m settings (end_spot settings s at true) Eof (m.eof s.state) s) (λ c. done (over c))

unfoldable pub at_kept : {S : Type 0} → Bool → Machine S → Settings → ℕ → Session S → (Session S → Play (Rest S)) → Option (List ℕ) → Play (Rest S)
at_kept is_broken_off m settings at s k (Some list) = bind (last_delivery m settings at list s) (λ c. after is_broken_off c k)
at_kept is_broken_off m settings at s k None = last_list m settings at s

-- at the end of input, where no bytes are left over
unfoldable pub ending : {S : Type 0} → Bool → Machine S → Settings → ℕ → Session S → (Session S → Play (Rest S)) → Play (Rest S)
ending is_broken_off m settings at s k =
    if nat_lt at s.next then done (rest (Some (Stopped PastEnd)) s) else at_kept is_broken_off m settings at s k s.kept

-- at the end of input
unfoldable pub at_end : {S : Type 0} → Bool → Machine S → Settings → Input → (Session S → Play (Rest S)) → Session S → Play (Rest S)
at_end is_broken_off m settings input k s =
    if input.has_rest then done (rest (Some (Stopped HalfKey)) s) else ending is_broken_off m settings (end_of input) s k

-- the turn for the next character where there is one, else the end of input where the input is closed
unfoldable pub at_letter : {S : Type 0} → Bool → Machine S → Settings → Input → (Session S → Play (Rest S)) → Session S → Option ℕ → Play (Rest S)
at_letter is_broken_off m settings input k s (Some character) = bind (turn m settings s character) (λ c. after is_broken_off c k)
at_letter is_broken_off m settings input k s None =
    if input.is_closed then at_end is_broken_off m settings input k s else done (rest (Some Wants) s)

-- at most so many turns
unfoldable pub turns : {S : Type 0} → Bool → Machine S → Settings → Input → ℕ → Session S → Play (Rest S)
turns is_broken_off m settings input zero s = done (rest None s)
turns is_broken_off m settings input (suc n) s =
    at_letter is_broken_off m settings input (λ t. turns is_broken_off m settings input n t) s (letter input s.next)
