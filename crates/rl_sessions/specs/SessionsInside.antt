-- How the fields of sessions stand for their value.
use Rattle.std.specs.Prelude.{◌≡◌, map, count_by}
use Rattle.std.specs.List.{AllByRecursion}
use Rattle.rl_sessions.specs.OneSession.{session_value, name_of, is_live, IsOne}
use Rattle.rl_sessions.specs.Roll.{names_on}
use Rattle.rl_sessions.specs.SessionsValue.{SessionsValue}
use Rattle.rl_sessions.specs.declared.sessions.Sessions.TheInside.{Inside}

abbrev pub sessions_value : Inside → SessionsValue
sessions_value a = record { tables = a.tables.now; settings = a.settings; all = map session_value a.all.items }

-- each session is right, the roll has their names in order, and those that were not ended are counted
pub record IsSessions (a : Inside) : Type 0 where
  pub ones : AllByRecursion (λ one. IsOne a.tables.now a.settings one) a.all.items
  pub names : names_on a.names ≡ map name_of a.all.items
  pub live : a.live ≡ count_by is_live a.all.items
