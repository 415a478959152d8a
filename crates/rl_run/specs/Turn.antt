-- One turn of a session, as a program of calls.
use Rattle.std.specs.Prelude.{ℕ, ◌+◌, ◌-◌, Bool, false, List, [], ◌∷◌, Some, None, nat_lt, nat_eq, if◌then◌else◌, unwrap_or, bit_and, bit_or}
use Rattle.rl_run.specs.declared.calls.Answer.{Answer}
use Rattle.rl_run.specs.declared.calls.Answer.TheVariants.{Yes, No, Picks, Stop}
use Rattle.rl_types.specs.declared.numbers.Key.{Key}
use Rattle.rl_run.specs.declared.calls.Call.{Call}
use Rattle.rl_run.specs.declared.calls.CallKind.{CallKind}
use Rattle.rl_run.specs.declared.calls.CallKind.TheVariants.{From, Ask, Do, Error, To, Token}
use Rattle.rl_run.specs.declared.sessions.Heard.{Heard}
use Rattle.rl_run.specs.declared.sessions.Flow.{Flow}
use Rattle.rl_run.specs.declared.sessions.Flow.TheVariants.{Goes, Jumps, Breaks, Stops}
use Rattle.rl_run.specs.declared.calls.Stop.TheVariants.{ErrorState, Overlong, Stray, HostStop}
use Rattle.rl_run.specs.declared.sessions.Settings.{Settings}
use Rattle.rl_run.specs.Machine.{Go, Machine, Session, keep}
use Rattle.rl_run.specs.Picks.{Came, Spot, came, answered}
use Rattle.rl_run.specs.Play.{Play, done, ask, bind}

abbrev pub call_of : {S : Type 0} → Spot → CallKind → ℕ → Session S → Call
call_of spot kind action s =
    record { kind = kind; action = record { 0 = action }; at = spot.at; next = s.next; key = spot.key; ts = s.ts; te = s.te }

-- on with the session where nothing has ended the list
unfoldable pub if_goes : {S : Type 0} → Came S → (Session S → Play (Came S)) → Play (Came S)
if_goes c k = elim c.flow [ Goes ↦ k c.session | Jumps ↦ done c | Breaks ↦ done c | Stops _ ↦ done c ]

-- a list is called: each action once, up to the first answer that ends it
abbrev pub calls : {S : Type 0} → Machine S → Settings → Spot → CallKind → List ℕ → Session S → Play (Came S)
calls m settings spot kind [] s = done (came Goes s)
calls m settings spot kind (action ∷ list) s =
    ask (call_of spot kind action s) (λ x. if_goes (answered m settings spot kind action s x) (λ t. calls m settings spot kind list t))

abbrev pub heard : Flow → ℕ → Heard
heard flow hold = record { flow = flow; hold = hold }

-- the conditions with their bits
abbrev pub all_conditions : List (ℕ × ℕ)
all_conditions = (1, 1) ∷ (2, 2) ∷ (3, 4) ∷ (4, 8) ∷ (5, 16) ∷ (6, 32) ∷ (7, 64) ∷ (8, 128) ∷ []

-- a condition is answered by Yes or No
abbrev pub hears : Answer → ℕ → ℕ → (ℕ → Play Heard) → Play Heard
hears Yes bit hold k = k (bit_or hold bit)
hears No bit hold k = k hold
hears (Picks picks) bit hold k = done (heard (Stops (Stray (Picks picks))) hold)
hears Stop bit hold k = done (heard (Stops HostStop) hold)

-- of the conditions in order those that are asked are called
abbrev pub conditions : {S : Type 0} → Spot → Session S → ℕ → List (ℕ × ℕ) → ℕ → Play Heard
conditions spot s asked [] hold = done (heard Goes hold)
conditions spot s asked (c ∷ cs) hold =
    if nat_eq (bit_and asked c.1) 0
    then conditions spot s asked cs hold
    else ask (call_of spot Ask c.0 s) (λ x. hears x c.1 hold (λ h. conditions spot s asked cs h))

-- after a token list: what was kept is gone, unless the session stopped
abbrev pub cleared : {S : Type 0} → Came S → Came S
cleared c = elim c.flow [ Stops _ ↦ c | _ ↦ came c.flow (record c.session { ts = None; te = None; kept = None }) ]

-- before a token list: the state is the scanner's start, at the end of the token
abbrev pub sent_home : {S : Type 0} → Machine S → Session S → Session S
sent_home m s = record s { state = m.home s.state; next = unwrap_or s.te s.next }

-- the token list that is kept is delivered
unfoldable pub deliver : {S : Type 0} → Machine S → Settings → Spot → List ℕ → Session S → Play (Came S)
deliver m settings spot list s = bind (calls m settings spot Token list (sent_home m s)) (λ c. done (cleared c))

-- a match is kept
abbrev pub token_kept : {S : Type 0} → Machine S → Spot → S → Session S → Session S
token_kept m spot target s = record s { te = Some (spot.at + 1); kept = Some (m.token target) }

unfoldable pub marked : {S : Type 0} → Machine S → Settings → Spot → S → Session S → Play (Came S)
marked m settings spot target s =
    if nat_eq (m.kind target) 3 then done (came Goes (token_kept m spot target s))
    else (if nat_eq (m.kind target) 4 then deliver m settings spot (m.token target) (token_kept m spot target s)
    else done (came Goes s))

-- behind the character, in a state
abbrev pub behind : {S : Type 0} → Spot → S → Session S → Session S
behind spot target s = record s { state = target; next = spot.at + 1 }

-- a step: the state and the position move, the list is called, and a match is kept or delivered
unfoldable pub stepped : {S : Type 0} → Machine S → Settings → Spot → Session S → Go S → Play (Came S)
stepped m settings spot s go =
    bind (calls m settings spot Do go.list (behind spot go.target s))
    (λ c. if_goes c (λ t. marked m settings spot go.target t))

-- after an error list: the session stops where the state still is Error
abbrev pub judged : {S : Type 0} → Machine S → Spot → Came S → Came S
judged m spot c = elim c.flow [
  | Stops _ ↦ c
  | _ ↦ if m.is_failed c.session.state then came (Stops ErrorState) (record c.session { next = spot.at }) else c
]

-- no step: a kept token is delivered, else the error list is called
unfoldable pub failed : {S : Type 0} → Machine S → Settings → Spot → Session S → Play (Came S)
failed m settings spot s =
    bind (calls m settings spot Error (m.error s.state) (behind spot m.failed s)) (λ c. done (judged m spot c))

unfoldable pub missed : {S : Type 0} → Machine S → Settings → Spot → Session S → Play (Came S)
missed m settings spot s = elim s.kept [ None ↦ failed m settings spot s | Some list ↦ deliver m settings spot list s ]

-- the step by the conditions that hold
unfoldable pub chosen : {S : Type 0} → Machine S → Settings → Spot → Key → Session S → ℕ → Play (Came S)
chosen m settings spot key s hold =
    elim (m.find s.state key hold) [ None ↦ missed m settings spot s | Some go ↦ stepped m settings spot s go ]

unfoldable pub if_heard : {S : Type 0} → Session S → Heard → (ℕ → Play (Came S)) → Play (Came S)
if_heard s h k = elim h.flow [ Stops cause ↦ done (came (Stops cause) s) | _ ↦ k h.hold ]

-- the step is sought
unfoldable pub sought : {S : Type 0} → Machine S → Settings → Spot → Key → Session S → Play (Came S)
sought m settings spot key s =
    bind (conditions spot s (m.asked s.state key) all_conditions 0) (λ h. if_heard s h (λ hold. chosen m settings spot key s hold))

-- the greatest position so far
abbrev pub raised : {S : Type 0} → Session S → Session S
raised s = if nat_lt s.furthest s.next then record s { furthest = s.next; backs = 0 } else s

abbrev pub closed : {S : Type 0} → Came S → Came S
closed c = elim c.flow [ Stops _ ↦ c | _ ↦ came Goes (raised c.session) ]

-- the end of a turn: the to-state list, unless the turn was broken off
unfoldable pub finished : {S : Type 0} → Machine S → Settings → Spot → Came S → Play (Came S)
finished m settings spot c = elim c.flow [
  | Stops _ ↦ done c
  | Breaks ↦ done (came Breaks (raised c.session))
  | _ ↦ bind (calls m settings spot To (m.to c.session.state) c.session) (λ d. done (closed d))
]

-- the start of a turn: a scanner's start opens a token
abbrev pub opened : {S : Type 0} → Machine S → Session S → Session S
opened m s = if nat_eq (m.kind s.state) 1 then record s { ts = Some s.next; te = None; kept = None } else s

abbrev pub is_overlong : {S : Type 0} → Settings → Session S → Bool
is_overlong settings s = elim s.ts [ None ↦ false | Some start ↦ nat_lt settings.token_max (s.next + 1 - start) ]

unfoldable pub body : {S : Type 0} → Machine S → Settings → Spot → Key → Session S → Play (Came S)
body m settings spot key s =
    if is_overlong settings s
    then done (came (Stops Overlong) s)
    else bind (calls m settings spot From (m.from s.state) s) (λ c. if_goes c (λ t. sought m settings spot key t))

abbrev pub spot_of : {S : Type 0} → Machine S → Settings → Session S → ℕ → Spot
spot_of m settings s character = record { at = s.next; key = Some (m.key_of character); floor = keep settings s; is_end = false }

-- the turn for one character
unfoldable pub turn : {S : Type 0} → Machine S → Settings → Session S → ℕ → Play (Came S)
turn m settings s character =
    bind (body m settings (spot_of m settings s character) (m.key_of character) (opened m s))
    (finished m settings (spot_of m settings s character))
