-- What a run asks of a machine, and the state of a session.
use Rattle.std.specs.Prelude.{ℕ, ◌-◌, min, Bool, List, [], Option, None, unwrap_or}
use Rattle.rl_types.specs.declared.numbers.Key.{Key}
use Rattle.rl_run.specs.declared.statements.Statement.{Statement}
use Rattle.rl_run.specs.declared.sessions.Settings.{Settings}

-- where a step leads, and the list that is called on the way
pub record Go (S : Type 0) : Type 0 where
  pub target : S
  pub list : List ℕ

-- the look-ups of a machine whose states are the S: the tree machine and the table machine give them. A character has `width` bytes,
-- and `key_of` is its key by its number
pub record Machine (S : Type 0) : Type 0 where
  pub width : ℕ
  pub key_of : ℕ → Key
  pub asked : S → Key → ℕ
  pub find : S → Key → ℕ → Option (Go S)
  pub from : S → List ℕ
  pub to : S → List ℕ
  pub error : S → List ℕ
  pub eof : S → List ℕ
  pub token : S → List ℕ
  pub kind : S → ℕ
  pub final : S → Bool
  pub home : S → S
  pub failed : S
  pub is_failed : S → Bool
  pub entry : ℕ → S
  pub statement : ℕ → ℕ → Option Statement
  pub action_name : ℕ → List ℕ
  pub condition_name : ℕ → List ℕ
  pub entry_name : ℕ → List ℕ

-- a session
pub record Session (S : Type 0) : Type 0 where
  pub state : S
  pub next : ℕ
  pub stack : List S
  pub ts : Option ℕ
  pub te : Option ℕ
  pub kept : Option (List ℕ)
  pub furthest : ℕ
  pub backs : ℕ

-- a session at its start
abbrev pub fresh : {S : Type 0} → S → Session S
fresh start = record { state = start; next = 0; stack = []; ts = None; te = None; kept = None; furthest = 0; backs = 0 }

-- the least position that may still be read
abbrev pub keep : {S : Type 0} → Settings → Session S → ℕ
keep settings s = min (unwrap_or s.ts s.next) (min (s.furthest - settings.look) s.next)
