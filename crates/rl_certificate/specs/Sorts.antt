-- What states show beside their verdicts and their steps.
use Rattle.std.specs.Prelude.{◌≡◌, Bool, IsTrue}
use Rattle.rl_minimal.specs.declared.state.MinState.{MinState}

-- the states have the same lists
pub record SameLists (s t : MinState) : Type 0 where
  pub from : s.from ≡ t.from
  pub to : s.to ≡ t.to
  pub eof : s.eof ≡ t.eof
  pub error : s.error ≡ t.error
  pub token : s.token ≡ t.token

-- they have the same kind and, where homes count, the same home
pub record SameKind (homes : Bool) (s t : MinState) : Type 0 where
  pub kind : s.kind ≡ t.kind
  pub home : IsTrue homes → s.home ≡ t.home
