-- What a session's fields stand for.
use Rattle.std.specs.Prelude.{◌≡◌, ℕ, ◌<◌, Bool, false, not, List, map, length, count_by, slice_index_or, slice_set, Some, None}
use Rattle.std.specs.Str.{bytes_eq}
use Rattle.rl_run.specs.declared.sessions.Settings.{Settings}
use Rattle.rl_arrays.specs.declared.arrays.Arrays.{Arrays}
use Rattle.rl_arrays.specs.TableMachine.{machine}
use Rattle.rl_sessions.specs.declared.one.One.{One}
use Rattle.rl_sessions.specs.Pieces.{IsReady}
use Rattle.rl_sessions.specs.SessionsValue.{SessionValue, find, replaced}

abbrev pub session_value : One → SessionValue
session_value one = record {
  name = one.name.items;
  base = one.window.base;
  window = one.window.bytes;
  session = one.runner.session;
  over = one.over;
  is_closed = one.is_closed;
}

abbrev pub name_of : One → List ℕ
name_of one = one.name.items

abbrev pub has_name : List ℕ → One → Bool
has_name name one = bytes_eq one.name.items name

-- it was not ended
abbrev pub is_live : One → Bool
is_live one = not one.is_closed

-- it runs over these tables, and its window is ready for a piece as long as the run is not over
pub record IsOne (arrays : Arrays) (bounds : Settings) (one : One) : Type 0 where
  pub tables : one.runner.tables ≡ arrays
  pub settings : one.runner.settings ≡ bounds
  pub over : one.runner.over ≡ one.over
  pub ready : one.over ≡ None → IsReady (machine arrays).width bounds one.window one.runner.session

-- the place of the session of a name, which was not ended
pub record IsLivePlace (name : List ℕ) (all : List One) (i : ℕ) : Type 0 where
  pub within : i < length all
  pub found : (d : One) → find name (map session_value all) ≡ Some (session_value (slice_index_or all i d))
  pub put : (y : One) → replaced name (session_value y) (map session_value all) ≡ map session_value (slice_set all i y)
  pub live : (d : One) → (slice_index_or all i d).is_closed ≡ false
  pub counted : 0 < count_by is_live all
