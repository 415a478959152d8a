-- The sets of characters that stand in a draft, when they have the form that trees want, and when its scanners have patterns.
use Rattle.std.specs.Prelude.{◌≢◌, ◌<ℤ◌, ◌+ℤ◌, pos, List, [], ◌∷◌, ◌++◌, map, option_to_list, All}
use Rattle.std.specs.List.{flat_map}
use Rattle.rl_types.specs.declared.alphabet.Alphabet.{Alphabet}
use Rattle.rl_types.specs.KeyRange.{Range}
use Rattle.rl_model.specs.WellFormed.{IsInAlphabet}
use Rattle.rl_draft.specs.declared.expression.Expression.{Expression}
use Rattle.rl_draft.specs.declared.expression.Expression.TheOpen.{Expression-F, Link-F}
use Rattle.rl_draft.specs.declared.expression.Expression.TheOpen as level
use Rattle.rl_draft.specs.declared.expression.Expression.TheFolds.{fold-Expression}
use Rattle.rl_draft.specs.declared.expression.Leaf.{Leaf}
use Rattle.rl_draft.specs.declared.expression.Leaf.TheVariants as leaf
use Rattle.rl_draft.specs.declared.expression.Item.{Item}
use Rattle.rl_draft.specs.declared.draft.Definition.{Definition}
use Rattle.rl_draft.specs.declared.draft.Pattern.{Pattern}
use Rattle.rl_draft.specs.declared.draft.Value.{Value}
use Rattle.rl_draft.specs.declared.draft.Value.TheVariants as value
use Rattle.rl_draft.specs.declared.draft.Draft.{Draft}

abbrev pub Sets : Type 0
Sets = List (List Range)

-- ---- the sets of an expression

abbrev pub leaf_sets : Leaf → Sets
leaf_sets (leaf.Set ranges) = ranges ∷ []
leaf_sets leaf.Null = []
leaf_sets leaf.Nothing = []
leaf_sets (leaf.Row items) = flat_map (λ (i : Item). option_to_list i.ranges) items

abbrev pub level_sets : Expression-F Sets Sets → Sets
level_sets (level.Leaf l at) = leaf_sets l
level_sets (level.Name n) = []
level_sets (level.Chain x ys at) = x ++ flat_map (λ (y : Sets). y) ys
level_sets (level.Repeated x rs at) = x
level_sets (level.Negated ns x) = x
level_sets (level.Embedded x ps at) = x

abbrev pub link_sets : Link-F Sets Sets → Sets
link_sets l = l.operand

abbrev pub sets : Expression → Sets
sets = fold-Expression Sets Sets level_sets link_sets

-- ---- all expressions of a draft

abbrev pub expressions : Value → List Expression
expressions (value.Expression e) = e ∷ []
expressions (value.Scanner ps at) = map (λ (p : Pattern). p.expression) ps

abbrev pub all_expressions : Draft → List Expression
all_expressions draft = flat_map (λ (d : Definition). expressions d.value) draft.definitions

-- ---- their form

-- ranges ascend and neither overlap nor adjoin
abbrev pub AreApart : List Range → Type 0
AreApart [] = Unit {0}
AreApart (r ∷ []) = Unit {0}
AreApart (r ∷ s ∷ rs) = ((r.hi +ℤ pos 1) <ℤ s.lo) × AreApart (s ∷ rs)

abbrev pub IsSet : Alphabet → List Range → Type 0
IsSet alphabet ranges = AreApart ranges × All (IsInAlphabet alphabet) ranges

-- each set of the draft ascends, without overlap, and lies in its alphabet
abbrev pub HasSetsInForm : Draft → Type 0
HasSetsInForm draft = All (λ e. All (IsSet draft.alphabet) (sets e)) (all_expressions draft)

-- ---- patterns

abbrev pub HasPattern : Value → Type 0
HasPattern (value.Expression e) = Unit {0}
HasPattern (value.Scanner ps at) = ps ≢ []

-- each scanner of the draft has a pattern
abbrev pub HasScannersInForm : Draft → Type 0
HasScannersInForm draft = All (λ (d : Definition). HasPattern d.value) draft.definitions
