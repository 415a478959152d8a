-- When a machine's actions, conditions, keys and entries are those of a Spec.
use Rattle.std.specs.Prelude.{◌≡◌, ◌^◌, ◌<◌, List, length, All}
use Rattle.rl_types.specs.declared.numbers.ActionId.{ActionId}
use Rattle.rl_model.specs.declared.spec.Spec.{Spec}
use Rattle.rl_model.specs.Specification.{specification_of}
use Rattle.rl_model.specs.WellFormed.{IsNumber, HasNoStatement, IsInAlphabet}
use Rattle.rl_minimal.specs.declared.state.MinEdge.{MinEdge}
use Rattle.rl_minimal.specs.declared.state.MinState.{MinState}
use Rattle.rl_minimal.specs.Minimal.{Minimal}

-- the actions are the Spec's
abbrev pub AreActions : Spec → List ActionId → Type 0
AreActions spec list = All (λ (a : ActionId). IsNumber (length spec.actions) a.0) list

-- the actions have no control statements
abbrev pub AreQuiet : Spec → List ActionId → Type 0
AreQuiet spec list = All (λ (a : ActionId). HasNoStatement (specification_of spec).actions a.0) list

pub record EdgeFits (spec : Spec) (e : MinEdge) : Type 0 where
  pub keys : IsInAlphabet spec.alphabet e.range
  pub asks : e.asks.0 < 2 ^ length spec.conds
  pub actions : AreActions spec e.list

-- from-state and to-state actions, and those of steps in a scanner, have no control statements
pub record StateFits (spec : Spec) (s : MinState) : Type 0 where
  pub from : AreActions spec s.from
  pub to : AreActions spec s.to
  pub eof : AreActions spec s.eof
  pub error : AreActions spec s.error
  pub token : AreActions spec s.token
  pub edges : All (EdgeFits spec) s.edges
  pub quiet_from : AreQuiet spec s.from
  pub quiet_to : AreQuiet spec s.to
  pub quiet_steps : 0 < s.kind → All (λ (e : MinEdge). AreQuiet spec e.list) s.edges

pub record Fits (spec : Spec) (m : Minimal) : Type 0 where
  pub entries : length m.entries ≡ length spec.entries
  pub states : All (StateFits spec) m.states
