-- What the arrays by state have.
use Rattle.std.specs.Prelude.{ℕ, List}
use Rattle.rl_types.specs.declared.numbers.ActionId.{ActionId}
use Rattle.rl_minimal.specs.declared.state.MinState.{MinState}
use Rattle.rl_layout.specs.declared.states.StateArray.{StateArray}
use Rattle.rl_layout.specs.declared.states.StateArray.TheVariants as the
use Rattle.rl_layout.specs.Books.{place_in}

abbrev pub value_of : StateArray → List (List ActionId) → MinState → ℕ
value_of the.From lists s = place_in lists s.from
value_of the.To lists s = place_in lists s.to
value_of the.Eof lists s = place_in lists s.eof
value_of the.Error lists s = place_in lists s.error
value_of the.Token lists s = place_in lists s.token
value_of the.Kind lists s = s.kind
value_of the.Home lists s = s.home
