-- Laws of runs.
use Rattle.std.specs.Prelude.{◌≡◌, ℕ, ◌<◌, ◌^◌, false, List, ◌++◌, length, Some}
use Rattle.rl_run.specs.declared.calls.Answer.{Answer}
use Rattle.rl_run.specs.declared.calls.Call.{Call}
use Rattle.rl_run.specs.declared.calls.Outcome.{Outcome}
use Rattle.rl_run.specs.declared.calls.Outcome.TheVariants.{Wants, Stopped}
use Rattle.rl_run.specs.declared.calls.Stop.{Stop as StopCause}
use Rattle.rl_run.specs.declared.sessions.Settings.{Settings}
use Rattle.rl_run.specs.Machine.{Machine, Session}
use Rattle.rl_run.specs.Play.{Play, AllEnds, ended, stands, run}
use Rattle.rl_run.specs.Turn.{turn}
use Rattle.rl_run.specs.Run.{Input, Rest, rest, end_of, last_delivery}
use Rattle.rl_run.specs.Chain.{Extends, run_on}
use Rattle.rl_run.specs.Fine.{IsKinded, IsFine, UnlessStops, bounds, IsLexBelow}

-- the log of a run that is given these answers
abbrev pub Logs : {S : Type 0} → Machine S → Settings → Input → Session S → List Answer → List Call → Outcome → Session S → Type 0
Logs m settings input s answers calls outcome t =
    run (run_on false m settings input s) answers ≡ record { calls = calls; reached = ended (rest (Some outcome) t) }

-- from an input that is not ended to what is seen of the same or a longer one, ended or not
pub record IsLonger (short long : Input) : Type 0 where
  pub not_closed : short.is_closed ≡ false
  pub extends : Extends short long
  pub base : long.base ≡ 0
  pub limit : end_of long < 2 ^ 63

-- a run on an input that is not ended is continued by a run on a longer one, with more answers
abbrev pub IsContinued : {S : Type 0} → Machine S → Type 0
IsContinued {S} m =
    (settings : Settings) (short long : Input) (s t u : Session S) (answers more : List Answer) (calls others : List Call) (outcome : Outcome) →
    IsKinded m → IsFine m s → IsLonger short long →
    length calls ≡ length answers →
    Logs m settings short s answers calls Wants t →
    Logs m settings long t more others outcome u →
    Logs m settings long s (answers ++ more) (calls ++ others) outcome u

-- a run that stopped is the same on a longer input, with more answers
abbrev pub IsStoppedForGood : {S : Type 0} → Machine S → Type 0
IsStoppedForGood {S} m =
    (settings : Settings) (short long : Input) (s t : Session S) (answers more : List Answer) (calls : List Call) (cause : StopCause) →
    IsKinded m → IsFine m s → IsLonger short long →
    Logs m settings short s answers calls (Stopped cause) t →
    Logs m settings long s (answers ++ more) calls (Stopped cause) t

-- a run that stands before a call makes the same calls on a longer input, and more only with more answers
abbrev pub IsStandingThere : {S : Type 0} → Machine S → Type 0
IsStandingThere {S} m =
    (settings : Settings) (short long : Input) (s : Session S) (answers more : List Answer) (calls : List Call) (p : Play (Rest S)) →
    IsLonger short long →
    run (run_on false m settings short s) answers ≡ record { calls = calls; reached = stands p } →
    (q : Play (Rest S)) × (run (run_on false m settings long s) answers ≡ record { calls = calls; reached = stands q })
    × (run (run_on false m settings long s) (answers ++ more) ≡ record { calls = calls ++ (run q more).calls; reached = (run q more).reached })

-- each turn that does not stop lowers the four numbers of its session, in lexicographic order; so does the delivery at the end of input
abbrev pub IsDescending : {S : Type 0} → Machine S → Type 0
IsDescending {S} m = (settings : Settings) (s : Session S) → IsKinded m → IsFine m s → s.next < 2 ^ 63 →
    ((character : ℕ) → AllEnds (λ c. UnlessStops c.flow (IsLexBelow (bounds c.session) (bounds s))) (turn m settings s character))
    × ((list : List ℕ) → s.kept ≡ Some list → AllEnds (λ c. UnlessStops c.flow (IsLexBelow (bounds c.session) (bounds s))) (last_delivery m settings s.next list s))
