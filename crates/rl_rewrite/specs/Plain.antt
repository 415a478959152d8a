-- Expressions with their names followed, in which the operators are reduced to few (the guide's sections 2.3 and 2.5).
use Rattle.std.specs.Prelude.{ℕ, map, cond, List, [], ◌∷◌, ◌++◌, slice_get, Option, Some, None}
use Rattle.rl_types.specs.declared.alphabet.Alphabet.{Alphabet}
use Rattle.rl_types.specs.declared.numbers.ActionId.{ActionId}
use Rattle.rl_types.specs.declared.numbers.Place.{Place}
use Rattle.rl_types.specs.Alphabet.{least_key, greatest_key}
use Rattle.rl_types.specs.KeyRange.{Range}
use Rattle.rl_draft.specs.declared.expression.Expression.{Expression as DraftExpression}
use Rattle.rl_draft.specs.declared.expression.Expression.TheOpen.{Expression-F, Link-F}
use Rattle.rl_draft.specs.declared.expression.Expression.TheOpen as level
use Rattle.rl_draft.specs.declared.expression.Expression.TheFolds.{fold-Expression, fold-Link}
use Rattle.rl_draft.specs.declared.expression.Link.{Link}
use Rattle.rl_draft.specs.declared.expression.Leaf.{Leaf}
use Rattle.rl_draft.specs.declared.expression.Leaf.TheVariants as leaf
use Rattle.rl_draft.specs.declared.expression.Item.{Item}
use Rattle.rl_draft.specs.declared.expression.Join.{Join}
use Rattle.rl_draft.specs.declared.expression.Join.TheVariants as join
use Rattle.rl_draft.specs.declared.expression.Repetition.{Repetition}
use Rattle.rl_draft.specs.declared.expression.Repetition.TheVariants as repetition
use Rattle.rl_draft.specs.declared.expression.Negation.{Negation}
use Rattle.rl_draft.specs.declared.expression.Negation.TheVariants as negation
use Rattle.rl_draft.specs.declared.expression.NegationSign.{NegationSign}
use Rattle.rl_draft.specs.declared.expression.Put.{Put}
use Rattle.rl_draft.specs.declared.draft.Definition.{Definition}
use Rattle.rl_draft.specs.declared.draft.Pattern.{Pattern}
use Rattle.rl_draft.specs.declared.draft.Value.{Value}
use Rattle.rl_draft.specs.declared.draft.Value.TheVariants as value

-- what is made of two expressions
pub data Pairing : Type 0 where
  Either Both Less Then : Pairing

-- `<:`, `:>` and `:>>`
pub data Guard : Type 0 where
  Left Entry Finish : Guard

-- an expression without names. Each place is that of the expression's first token.
pub data Plain : Type 0 where
  Set : List Range → Place → Plain
  Null Nothing : Place → Plain
  Pair : Pairing → Plain → Plain → Place → Plain
  Guarded : Guard → Plain → Plain → Place → Plain
  -- `**`
  Longest : Plain → Place → Plain
  -- so often at least, and so often at most; None for any number
  Count : Plain → ℕ → Option ℕ → Place → Plain
  Series : Plain → List Put → Place → Plain

-- ---- the operators

-- any character
abbrev pub any : Alphabet → List Range
any alphabet = record { lo = least_key alphabet; hi = greatest_key alphabet } ∷ []

abbrev pub starred : Plain → Place → Plain
starred p at = Count p 0 None at

-- `any*`
abbrev pub every : Alphabet → Place → Plain
every alphabet at = starred (Set (any alphabet) at) at

abbrev pub joined : Alphabet → Join → Plain → Plain → Place → Plain
joined alphabet join.Union a b at = Pair Either a b at
joined alphabet join.Intersection a b at = Pair Both a b at
joined alphabet join.Difference a b at = Pair Less a b at
joined alphabet join.StrongDifference a b at = Pair Less a (Pair Then (Pair Then (every alphabet at) b at) (every alphabet at) at) at
joined alphabet join.Concatenation a b at = Pair Then a b at
joined alphabet join.LeftGuarded a b at = Guarded Left a b at
joined alphabet join.EntryGuarded a b at = Guarded Entry a b at
joined alphabet join.FinishGuarded a b at = Guarded Finish a b at

abbrev pub repeated : Repetition → Plain → Place → Plain
repeated repetition.Star p at = starred p at
repeated repetition.LongestStar p at = Longest p at
repeated repetition.Optional p at = Count p 0 (Some 1) at
repeated repetition.Plus p at = Count p 1 None at
repeated (repetition.Count bounds) p at = Count p bounds.least bounds.most at

-- the innermost first
abbrev pub all_repeated : List Repetition → Plain → Place → Plain
all_repeated [] p at = p
all_repeated (r ∷ rs) p at = all_repeated rs (repeated r p at) at

-- what a negation takes its operand from
abbrev pub whole : Alphabet → Negation → Place → Plain
whole alphabet negation.Language at = every alphabet at
whole alphabet negation.Character at = Set (any alphabet) at

-- the outermost first; each stands at its own sign
abbrev pub all_negated : Alphabet → List NegationSign → Plain → Plain
all_negated alphabet [] p = p
all_negated alphabet (n ∷ ns) p = Pair Less (whole alphabet n.negation n.place) (all_negated alphabet ns p) n.place

-- ---- rows

abbrev pub character : Option (List Range) → Place → Plain
character None at = Null at
character (Some ranges) at = Set ranges at

abbrev pub item : Item → Place → Plain
item i at = cond i.starred (starred (character i.ranges at) at) (character i.ranges at)

-- items behind an expression, from the left
abbrev pub behind : Plain → List Item → Place → Plain
behind p [] at = p
behind p (i ∷ is) at = behind (Pair Then p (item i at) at) is at

abbrev pub row : List Item → Place → Plain
row [] at = Null at
row (i ∷ is) at = behind (item i at) is at

abbrev pub leaf_plain : Leaf → Place → Plain
leaf_plain (leaf.Set ranges) at = Set ranges at
leaf_plain leaf.Null at = Null at
leaf_plain leaf.Nothing at = Nothing at
leaf_plain (leaf.Row items) at = row items at

-- ---- expressions

-- an operand with its join to those before it
pub record Operand : Type 0 where
  pub join : Join
  pub plain : Plain

-- operands behind an expression, from the left
abbrev pub chained : Alphabet → Plain → List Operand → Place → Plain
chained alphabet p [] at = p
chained alphabet p (o ∷ os) at = chained alphabet (joined alphabet o.join p o.plain at) os at

abbrev pub no_place : Place
no_place = record { file = 0; line = 0; col = 0 }

-- what the number of a definition stands for; the number of none stands for no word
abbrev pub named : Option Plain → Plain
named None = Nothing no_place
named (Some p) = p

abbrev pub expression_step : Alphabet → List Plain → Expression-F Plain Operand → Plain
expression_step alphabet known (level.Leaf l at) = leaf_plain l at
expression_step alphabet known (level.Name n) = named (slice_get known n)
expression_step alphabet known (level.Chain p os at) = chained alphabet p os at
expression_step alphabet known (level.Repeated p rs at) = all_repeated rs p at
expression_step alphabet known (level.Negated ns p) = all_negated alphabet ns p
expression_step alphabet known (level.Embedded p ps at) = Series p ps at

abbrev pub link_step : Link-F Plain Operand → Operand
link_step l = record { join = l.join; plain = l.operand }

-- an expression behind the definitions whose expressions are known
abbrev pub plain : Alphabet → List Plain → DraftExpression → Plain
plain alphabet known = fold-Expression Plain Operand (expression_step alphabet known) link_step

abbrev pub operand : Alphabet → List Plain → Link → Operand
operand alphabet known = fold-Link Plain Operand (expression_step alphabet known) link_step

-- ---- definitions

-- a pattern without names: its expression, the action of its token, if it has one, and its place
pub record PlainPattern : Type 0 where
  pub plain : Plain
  pub token : Option ActionId
  pub place : Place

-- what a definition gives its name to: an expression, or the patterns of a scanner, with the place of its `|*`
pub data PlainValue : Type 0 where
  Expression : Plain → PlainValue
  Scanner : List PlainPattern → Place → PlainValue

abbrev pub pattern_plain : Alphabet → List Plain → Pattern → PlainPattern
pattern_plain alphabet known p = record { plain = plain alphabet known p.expression; token = p.token; place = p.place }

abbrev pub value_of : Alphabet → List Plain → Value → PlainValue
value_of alphabet known (value.Expression e) = Expression (plain alphabet known e)
value_of alphabet known (value.Scanner ps at) = Scanner (map (pattern_plain alphabet known) ps) at

-- as a name, a scanner stands for no word, as the number of no definition does
abbrev pub as_name : PlainValue → Plain
as_name (Expression p) = p
as_name (Scanner ps at) = named None

abbrev pub value_plain : Alphabet → List Plain → Value → Plain
value_plain alphabet known v = as_name (value_of alphabet known v)

abbrev pub plains_behind : Alphabet → List Plain → List Definition → List Plain
plains_behind alphabet known [] = known
plains_behind alphabet known (d ∷ ds) = plains_behind alphabet (known ++ value_plain alphabet known d.value ∷ []) ds

-- what each definition stands for as a name
abbrev pub plains : Alphabet → List Definition → List Plain
plains alphabet ds = plains_behind alphabet [] ds

-- ---- behind definitions

-- what an expression stands for where these definitions stand before it
abbrev pub followed : Alphabet → List Definition → DraftExpression → Plain
followed alphabet earlier e = plain alphabet (plains alphabet earlier) e

-- an operand, with its join
abbrev pub operand_followed : Alphabet → List Definition → Link → Operand
operand_followed alphabet earlier l = operand alphabet (plains alphabet earlier) l

abbrev pub operands_followed : Alphabet → List Definition → List Link → List Operand
operands_followed alphabet earlier ls = map (operand_followed alphabet earlier) ls

-- what a definition stands for as a name
abbrev pub value_followed : Alphabet → List Definition → Value → Plain
value_followed alphabet earlier v = value_plain alphabet (plains alphabet earlier) v

-- what a definition gives its name to
abbrev pub value_behind : Alphabet → List Definition → Value → PlainValue
value_behind alphabet earlier v = value_of alphabet (plains alphabet earlier) v

-- the patterns of a scanner
abbrev pub patterns_followed : Alphabet → List Definition → List Pattern → List PlainPattern
patterns_followed alphabet earlier ps = map (pattern_plain alphabet (plains alphabet earlier)) ps

-- the number of a definition
abbrev pub name_followed : Alphabet → List Definition → ℕ → Plain
name_followed alphabet earlier n = named (slice_get (plains alphabet earlier) n)
