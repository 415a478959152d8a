-- What the patterns of a draft's scanners embed, with names followed: no action with control statements, and no end-of-file and
-- no error action.
use Rattle.std.specs.Prelude.{◌≡◌, ◌≢◌, Bool, true, false, ◌&&◌, nat_eq, IfSome, List, [], ◌∷◌, ◌++◌, length, All, slice_get, unwrap_or}
use Rattle.std.specs.List.{list_all}
use Rattle.std.specs.Option.{option_map_or}
use Rattle.rl_types.specs.declared.numbers.ActionId.{ActionId}
use Rattle.rl_automata.specs.declared.tree.Kind.{Kind}
use Rattle.rl_automata.specs.declared.tree.Kind.TheVariants as kind
use Rattle.rl_model.specs.declared.spec.ActionDef.{ActionDef}
use Rattle.rl_model.specs.Specification.{numbered}
use Rattle.rl_model.specs.WellFormed.{IsNumber}
use Rattle.rl_draft.specs.declared.draft.Definition.{Definition}
use Rattle.rl_draft.specs.declared.draft.Draft.{Draft}
use Rattle.rl_draft.specs.declared.draft.Pattern.{Pattern}
use Rattle.rl_draft.specs.declared.draft.Value.{Value}
use Rattle.rl_draft.specs.declared.draft.Value.TheVariants as value
use Rattle.rl_draft.specs.declared.expression.Expression.{Expression}
use Rattle.rl_draft.specs.declared.expression.Expression.TheFolds.{fold-Expression, fold-Link}
use Rattle.rl_draft.specs.declared.expression.Expression.TheOpen.{Expression-F, Link-F}
use Rattle.rl_draft.specs.declared.expression.Expression.TheOpen as level
use Rattle.rl_draft.specs.declared.expression.Link.{Link}
use Rattle.rl_draft.specs.declared.expression.Put.{Put}
use Rattle.rl_draft.specs.declared.expression.Put.TheVariants as put

-- ---- expressions

-- the action with this number has no control statements
abbrev pub is_quiet : List ActionDef → ActionId → Bool
is_quiet actions n = option_map_or (λ (a : ActionDef). nat_eq (length a.statements) 0) (numbered actions n.0) true

abbrev pub is_turn : Kind → Bool
is_turn kind.To = true
is_turn kind.From = true
is_turn kind.Eof = false
is_turn kind.Error = false

abbrev pub fits : List ActionDef → Put → Bool
fits actions (put.Action transitions n) = is_quiet actions n
fits actions (put.Priority transitions name value) = true
fits actions (put.Mark class kind n) = is_turn kind && is_quiet actions n
fits actions (put.When n) = is_quiet actions n

abbrev pub all_fit : List Bool → Bool
all_fit parts = list_all (λ part. part) parts

-- behind definitions of which it is known; the number of none stands for no word
abbrev pub expression_step : List ActionDef → List Bool → Expression-F Bool Bool → Bool
expression_step actions known (level.Leaf l place) = true
expression_step actions known (level.Name i) = unwrap_or (slice_get known i) true
expression_step actions known (level.Chain first rest place) = first && all_fit rest
expression_step actions known (level.Repeated inner repetitions place) = inner
expression_step actions known (level.Negated negations inner) = inner
expression_step actions known (level.Embedded inner puts place) = inner && list_all (fits actions) puts

abbrev pub link_step : Link-F Bool Bool → Bool
link_step l = l.operand

abbrev pub expression_fits : List ActionDef → List Bool → Expression → Bool
expression_fits actions known = fold-Expression Bool Bool (expression_step actions known) link_step

abbrev pub link_fits : List ActionDef → List Bool → Link → Bool
link_fits actions known = fold-Link Bool Bool (expression_step actions known) link_step

-- ---- definitions

-- a scanner stands for no word where its name is used
abbrev pub value_fits : List ActionDef → List Bool → Value → Bool
value_fits actions known (value.Expression e) = expression_fits actions known e
value_fits actions known (value.Scanner patterns place) = true

abbrev pub known_behind : List ActionDef → List Bool → Definition → List Bool
known_behind actions known d = known ++ value_fits actions known d.value ∷ []

-- each of its patterns embeds no action with control statements, and no end-of-file and no error action; an action of a token is
-- one of the machine's
pub record IsFit (actions : List ActionDef) (known : List Bool) (p : Pattern) : Type 0 where
  pub fits : expression_fits actions known p.expression ≡ true
  pub token : IfSome p.token (λ (n : ActionId). IsNumber (length actions) n.0)

abbrev pub HasFitPatterns : List ActionDef → List Bool → Value → Type 0
HasFitPatterns actions known (value.Expression e) = Unit {0}
HasFitPatterns actions known (value.Scanner patterns place) = (patterns ≢ []) × All (IsFit actions known) patterns

abbrev pub HaveFitPatterns : List ActionDef → List Bool → List Definition → Type 0
HaveFitPatterns actions known [] = Unit {0}
HaveFitPatterns actions known (d ∷ ds) = HasFitPatterns actions known d.value × HaveFitPatterns actions (known_behind actions known d) ds

-- the patterns of all scanners of a draft are such
abbrev pub AreFit : Draft → Type 0
AreFit draft = HaveFitPatterns draft.actions [] draft.definitions
