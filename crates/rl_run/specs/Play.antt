-- Programs of calls, and what it is to play one against a host.
use Rattle.std.specs.Prelude.{◌≡◌, List, [], ◌∷◌}
use Rattle.rl_run.specs.declared.calls.Call.{Call}
use Rattle.rl_run.specs.declared.calls.Answer.{Answer}

-- a program of calls: it is done with a value, or makes a call and goes on by the answer
pub data Play (A : Type 0) : Type 0 where
  done : A → Play A
  ask : Call → (Answer → Play A) → Play A

-- one program after another
abbrev pub bind : {A B : Type 0} → Play A → (A → Play B) → Play B
bind (done a) k = k a
bind (ask c f) k = ask c (λ x. bind (f x) k)

-- what has come of a program: the calls so far, and the value unless it stands before a call
pub data Reached (A : Type 0) : Type 0 where
  ended : A → Reached A
  stands : Play A → Reached A

pub record Log (A : Type 0) : Type 0 where
  pub calls : List Call
  pub reached : Reached A

-- the i-th call takes the i-th answer; where there is none, the program stands before that call
abbrev pub run : {A : Type 0} → Play A → List Answer → Log A
run (done a) answers = record { calls = []; reached = ended a }
run (ask c f) [] = record { calls = []; reached = stands (ask c f) }
run (ask c f) (x ∷ answers) =
    let rest = run (f x) answers in
    record { calls = c ∷ rest.calls; reached = rest.reached }

-- whatever is answered, the value that the program ends with has the property
abbrev pub AllEnds : {A : Type 0} → (A → Type 0) → Play A → Type 0
AllEnds P (done a) = P a
AllEnds P (ask c f) = (x : Answer) → AllEnds P (f x)

-- a host in some state plays the program: each call is answered in the state that the calls before it left
abbrev pub Plays : {A H : Type 0} → (H → Call → Answer → H → Type 0) → H → Play A → H → A → Type 0
Plays step h (done a) last end = (h ≡ last) × (a ≡ end)
Plays {A} {H} step h (ask c f) last end = (x : Answer) × (mid : H) × step h c x mid × Plays step mid (f x) last end
