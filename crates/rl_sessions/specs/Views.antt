-- What is told of a session by its place.
use Rattle.std.specs.Prelude.{◌≡◌, Option, Some, None}
use Rattle.rl_arrays.specs.declared.arrays.Arrays.{Arrays}
use Rattle.rl_sessions.specs.SessionsValue.{SessionValue, verdict_in}
use Rattle.rl_sessions.specs.declared.one.SessionView.{SessionView}

pub record IsView (tables : Arrays) (x : SessionValue) (v : SessionView) : Type 0 where
  pub name : v.name.now ≡ x.name
  pub is_closed : v.is_closed ≡ x.is_closed
  pub verdict : v.verdict ≡ verdict_in tables x
  pub next : v.next ≡ x.session.next

-- a view where there is a session
abbrev pub IsViewOf : Arrays → Option SessionValue → Option SessionView → Type 0
IsViewOf tables None None = Unit {0}
IsViewOf tables (Some x) (Some v) = IsView tables x v
IsViewOf tables None (Some v) = ⊥
IsViewOf tables (Some x) None = ⊥
