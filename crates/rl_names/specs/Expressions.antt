-- What expressions are read as: parentheses and levels of one member go, and names become numbers.
use Rattle.std.specs.Prelude.{ℕ, ◌+◌, Bool, true, nat_le, if◌then◌else◌, List, [], ◌∷◌, map, Option, Some, None, Result, Ok, Err, position, slice_get}
use Rattle.std.specs.Str.{bytes_eq}
use Rattle.rl_types.specs.declared.alphabet.Alphabet.{Alphabet}
use Rattle.rl_types.specs.declared.faults.FaultKind.TheVariants.{F5, F10, F11}
use Rattle.rl_types.specs.declared.numbers.ActionId.{ActionId}
use Rattle.rl_types.specs.declared.numbers.Place.{Place}
use Rattle.rl_automata.specs.declared.tree.Class.{Class}
use Rattle.rl_automata.specs.declared.tree.Class.TheVariants as class
use Rattle.rl_automata.specs.declared.tree.Kind.{Kind}
use Rattle.rl_automata.specs.declared.tree.Kind.TheVariants as kind
use Rattle.rl_grammar.specs.declared.read_fault.ReadFault.{ReadFault}
use Rattle.rl_grammar.specs.declared.syntax.ActionUse.{ActionUse}
use Rattle.rl_grammar.specs.declared.syntax.ActionUse.TheVariants as action
use Rattle.rl_grammar.specs.declared.syntax.Bounds.{Bounds as Braces}
use Rattle.rl_grammar.specs.declared.syntax.Bounds.TheVariants as braces
use Rattle.rl_grammar.specs.declared.syntax.ConcatenationSign.{ConcatenationSign}
use Rattle.rl_grammar.specs.declared.syntax.ConcatenationSign.TheVariants as beside
use Rattle.rl_grammar.specs.declared.syntax.Embedding.{Embedding}
use Rattle.rl_grammar.specs.declared.syntax.Embedding.TheVariants as embedding
use Rattle.rl_grammar.specs.declared.syntax.Label.{Label}
use Rattle.rl_grammar.specs.declared.syntax.Label.TheVariants as label
use Rattle.rl_grammar.specs.declared.syntax.Negation.{Negation as Refusing}
use Rattle.rl_grammar.specs.declared.syntax.Negation.TheVariants as refusing
use Rattle.rl_grammar.specs.declared.syntax.Number.{Number}
use Rattle.rl_grammar.specs.declared.syntax.Priority.{Priority}
use Rattle.rl_grammar.specs.declared.syntax.Priority.TheVariants as priority
use Rattle.rl_grammar.specs.declared.syntax.Repetition.{Repetition as Repeating}
use Rattle.rl_grammar.specs.declared.syntax.Repetition.TheVariants as repeating
use Rattle.rl_grammar.specs.declared.syntax.StateClass.{StateClass}
use Rattle.rl_grammar.specs.declared.syntax.StateClass.TheVariants as states
use Rattle.rl_grammar.specs.declared.syntax.StateKind.{StateKind}
use Rattle.rl_grammar.specs.declared.syntax.StateKind.TheVariants as called
use Rattle.rl_grammar.specs.declared.syntax.TransitionSign.{TransitionSign}
use Rattle.rl_grammar.specs.declared.syntax.TransitionSign.TheVariants as sign
use Rattle.rl_grammar.specs.declared.syntax.UnionSign.{UnionSign}
use Rattle.rl_grammar.specs.declared.syntax.UnionSign.TheVariants as either
use Rattle.rl_grammar.specs.declared.syntax.Word.{Word}
use Rattle.rl_grammar.specs.declared.syntax.Operand.{Operand}
use Rattle.rl_grammar.specs.declared.syntax.Concatenation.{Concatenation}
use Rattle.rl_grammar.specs.declared.syntax.ConcatenationPart.{ConcatenationPart}
use Rattle.rl_grammar.specs.declared.syntax.Embedded.{Embedded}
use Rattle.rl_grammar.specs.declared.syntax.Negated.{Negated}
use Rattle.rl_grammar.specs.declared.syntax.Pattern.{Pattern}
use Rattle.rl_grammar.specs.declared.syntax.Repeated.{Repeated}
use Rattle.rl_grammar.specs.declared.syntax.Scanner.{Scanner}
use Rattle.rl_grammar.specs.declared.syntax.Union.{Union}
use Rattle.rl_grammar.specs.declared.syntax.UnionPart.{UnionPart}
use Rattle.rl_grammar.specs.declared.syntax.Operand.TheOpen.{Operand-F, Concatenation-F, ConcatenationPart-F, Embedded-F, Negated-F, Pattern-F, Repeated-F, Scanner-F, Union-F, UnionPart-F}
use Rattle.rl_grammar.specs.declared.syntax.Operand.TheOpen as operand
use Rattle.rl_grammar.specs.declared.syntax.Operand.TheFolds.{fold-Operand, fold-Concatenation, fold-ConcatenationPart, fold-Embedded, fold-Negated, fold-Pattern, fold-Repeated, fold-Scanner, fold-Union, fold-UnionPart}
use Rattle.rl_draft.specs.declared.draft.Definition.{Definition}
use Rattle.rl_draft.specs.declared.draft.Value.{Value}
use Rattle.rl_draft.specs.declared.draft.Value.TheVariants as value
use Rattle.rl_draft.specs.declared.expression.Bounds.{Bounds}
use Rattle.rl_draft.specs.declared.expression.Expression.{Expression, out-Expression}
use Rattle.rl_draft.specs.declared.expression.Expression.TheOpen.{Expression-F}
use Rattle.rl_draft.specs.declared.expression.Expression.TheOpen as layer
use Rattle.rl_draft.specs.declared.expression.Expression.TheVariants as made
use Rattle.rl_draft.specs.declared.expression.Join.{Join}
use Rattle.rl_draft.specs.declared.expression.Join.TheVariants as join
use Rattle.rl_draft.specs.declared.expression.Leaf.{Leaf}
use Rattle.rl_draft.specs.declared.expression.Link.{Link, roll-Link}
use Rattle.rl_draft.specs.declared.expression.Negation.TheVariants as negation
use Rattle.rl_draft.specs.declared.expression.NegationSign.{NegationSign}
use Rattle.rl_draft.specs.declared.expression.Put.{Put}
use Rattle.rl_draft.specs.declared.expression.Put.TheVariants as put
use Rattle.rl_draft.specs.declared.expression.Repetition.{Repetition}
use Rattle.rl_draft.specs.declared.expression.Repetition.TheVariants as repetition
use Rattle.rl_draft.specs.declared.expression.Transitions.{Transitions}
use Rattle.rl_draft.specs.declared.expression.Transitions.TheVariants as transitions
use Rattle.rl_leaves.specs.BuiltIns.{built_in_named, built_in_leaf}
use Rattle.rl_leaves.specs.declared.built_in.BuiltIn.{BuiltIn}
use Rattle.rl_names.specs.Actions.{anonymous_name}
use Rattle.rl_names.specs.Answers.{and_then, each}
use Rattle.rl_names.specs.Leaves.{fault_at, count_read, number_read, literal_read, number_leaf, range_between, set_read, regular_read}
use Rattle.rl_names.specs.Places.{number_place, key_place, front}

-- what an expression is read by
pub record Scope : Type 0 where
  pub alphabet : Alphabet
  -- the names of the machine's actions, in the order of their numbers
  pub actions : List (List ℕ)
  -- the names of its priorities, in the order of their numbers
  pub priorities : List (List ℕ)
  -- its definitions so far
  pub earlier : List Definition
  -- and their names
  pub names : List (List ℕ)
  -- the name of the definition that is read
  pub owner : List ℕ

abbrev pub unknown : {A : Type 0} → Place → Result A ReadFault
unknown place = Err (fault_at F5 place)

-- the number of a name, from 0
abbrev pub number_at : Place → Option ℕ → Result ℕ ReadFault
number_at place None = unknown place
number_at place (Some i) = Ok i

abbrev pub numbered : Place → List ℕ → List (List ℕ) → Result ℕ ReadFault
numbered place name names = number_at place (position (bytes_eq name) names)

-- ---- names of expressions

abbrev pub Level : Type 0
Level = Expression-F Expression Link

-- a definition that is a name alone is taken as the definition that it names
abbrev pub followed : ℕ → Level → ℕ
followed i (layer.Leaf l place) = i
followed i (layer.Name j) = j
followed i (layer.Chain first rest place) = i
followed i (layer.Repeated inner repetitions place) = i
followed i (layer.Negated negations inner) = i
followed i (layer.Embedded inner puts place) = i

-- an expression is used by the number of its definition; a scanner's name is no expression's
abbrev pub value_used : Place → ℕ → Value → Result Expression ReadFault
value_used place i (value.Expression e) = Ok (made.Name (followed i (out-Expression e)))
value_used place i (value.Scanner patterns opening) = unknown place

abbrev pub definition_used : Place → ℕ → Option Definition → Result Expression ReadFault
definition_used place i None = unknown place
definition_used place i (Some d) = value_used place i d.value

abbrev pub defined_read : Scope → Word → Result Expression ReadFault
defined_read k w = and_then (numbered w.place w.text k.names) (λ i. definition_used w.place i (slice_get k.earlier i))

abbrev pub leaf_at : Place → Result Leaf ReadFault → Result Expression ReadFault
leaf_at place read = and_then read (λ l. Ok (made.Leaf l place))

abbrev pub name_by : Scope → Word → Option BuiltIn → Result Expression ReadFault
name_by k w (Some b) = leaf_at w.place (Ok (built_in_leaf k.alphabet b))
name_by k w None = defined_read k w

abbrev pub name_read : Scope → Word → Result Expression ReadFault
name_read k w = name_by k w (built_in_named w.text)

-- ---- actions and priorities

-- actions are numbered from 1
abbrev pub action_at : ℕ → Result ActionId ReadFault
action_at i = Ok (record { 0 = i + 1 })

abbrev pub action_named : Scope → Place → List ℕ → Result ActionId ReadFault
action_named k place name = and_then (numbered place name k.actions) action_at

abbrev pub action_read : Scope → ActionUse → Result ActionId ReadFault
action_read k (action.Name w) = action_named k w.place w.text
action_read k (action.Group opening w closing) = action_named k w.place w.text
action_read k (action.Code w) = action_named k w.place (anonymous_name w.place)

abbrev pub transitions_of : TransitionSign → Transitions
transitions_of (sign.Entering place) = transitions.Entering
transitions_of (sign.Finishing place) = transitions.Finishing
transitions_of (sign.All place) = transitions.All
transitions_of (sign.Leaving place) = transitions.Leaving

abbrev pub class_of : StateClass → Class
class_of states.Start = class.Start
class_of states.NotStart = class.NotStart
class_of states.All = class.All
class_of states.Final = class.Final
class_of states.NotFinal = class.NotFinal
class_of states.Middle = class.Middle

abbrev pub kind_of : StateKind → Kind
kind_of called.To = kind.To
kind_of called.From = kind.From
kind_of called.Eof = kind.Eof
kind_of called.Error = kind.Error

abbrev pub prioritized : Scope → Transitions → Place → List ℕ → Number → Result Put ReadFault
prioritized k ts place name n = and_then (numbered place name k.priorities) (λ i. and_then (number_read n) (λ v. Ok (put.Priority ts i v)))

-- a plain number has the name of the definition that it stands in
abbrev pub priority_read : Scope → Transitions → Priority → Result Put ReadFault
priority_read k ts (priority.Plain n) = prioritized k ts (number_place n) k.owner n
priority_read k ts (priority.Named p) = prioritized k ts p.name.place p.name.text p.value

abbrev pub label_read : Scope → Transitions → Label → Result Put ReadFault
label_read k ts (label.Action a) = and_then (action_read k a) (λ n. Ok (put.Action ts n))
label_read k ts (label.Priority p) = priority_read k ts p

abbrev pub put_read : Scope → Embedding → Result Put ReadFault
put_read k (embedding.Transition s l) = label_read k (transitions_of s) l
put_read k (embedding.State mark a) = and_then (action_read k a) (λ n. Ok (put.Mark (class_of mark.class) (kind_of mark.kind) n))
put_read k (embedding.When place a) = and_then (action_read k a) (λ n. Ok (put.When n))

-- ---- repetitions, negations and joins

abbrev pub bounds_read : Braces → Result Bounds ReadFault
bounds_read (braces.AtMost comma most) = and_then (count_read most) (λ m. Ok (record { least = 0; most = Some m }))
bounds_read (braces.Exactly times) = and_then (count_read times) (λ n. Ok (record { least = n; most = Some n }))
bounds_read (braces.AtLeast least comma) = and_then (count_read least) (λ n. Ok (record { least = n; most = None }))
bounds_read (braces.Between least comma most) = and_then (count_read least) (λ n. and_then (count_read most) (λ m. Ok (record { least = n; most = Some m })))

-- a count whose first number is above the second is refused by the grammar, at its `{`
abbrev pub is_ordered : ℕ → Option ℕ → Bool
is_ordered least None = true
is_ordered least (Some most) = nat_le least most

abbrev pub counted_by : Place → Bounds → Result Repetition ReadFault
counted_by opening b = if is_ordered b.least b.most then Ok (repetition.Count b) else Err (fault_at F10 opening)

abbrev pub repetition_read : Repeating → Result Repetition ReadFault
repetition_read (repeating.Star place) = Ok repetition.Star
repetition_read (repeating.LongestStar place) = Ok repetition.LongestStar
repetition_read (repeating.Optional place) = Ok repetition.Optional
repetition_read (repeating.Plus place) = Ok repetition.Plus
repetition_read (repeating.Count c) = and_then (bounds_read c.bounds) (counted_by c.opening)

abbrev pub negation_of : Refusing → NegationSign
negation_of (refusing.Language place) = record { negation = negation.Language; place = place }
negation_of (refusing.Character place) = record { negation = negation.Character; place = place }

abbrev pub joined_by : Option ConcatenationSign → Join
joined_by None = join.Concatenation
joined_by (Some (beside.Plain place)) = join.Concatenation
joined_by (Some (beside.LeftGuarded place)) = join.LeftGuarded
joined_by (Some (beside.EntryGuarded place)) = join.EntryGuarded
joined_by (Some (beside.FinishGuarded place)) = join.FinishGuarded

abbrev pub united_by : UnionSign → Join
united_by (either.Union place) = join.Union
united_by (either.Intersection place) = join.Intersection
united_by (either.Difference place) = join.Difference
united_by (either.StrongDifference place) = join.StrongDifference

-- ---- levels: one with nothing beside its operand is its operand

abbrev pub with_negations : List NegationSign → Expression → Expression
with_negations [] e = e
with_negations (n ∷ ns) e = made.Negated (n ∷ ns) e

abbrev pub with_repetitions : List Repetition → Place → Expression → Expression
with_repetitions [] place e = e
with_repetitions (r ∷ rs) place e = made.Repeated e (r ∷ rs) place

abbrev pub with_puts : List Put → Place → Expression → Expression
with_puts [] place e = e
with_puts (p ∷ ps) place e = made.Embedded e (p ∷ ps) place

abbrev pub with_links : List Link → Place → Expression → Expression
with_links [] place e = e
with_links (l ∷ ls) place e = made.Chain e (l ∷ ls) place

abbrev pub link : Join → Expression → Link
link j e = roll-Link (record { join = j; operand = e })

-- ---- expressions

-- the place of the first token, which may be a parenthesis, and what is read
pub record Told : Type 0 where
  pub place : Place
  pub read : Result Expression ReadFault

abbrev pub Joined : Type 0
Joined = Result Link ReadFault

-- where a scanner stands that is not the whole of an instantiation, it is refused by the grammar
abbrev pub misplaced : Place → Result Expression ReadFault
misplaced place = Err (fault_at F11 place)

abbrev pub links : List Joined → Result (List Link) ReadFault
links parts = each (λ part. part) parts

abbrev pub chained : Told → List Joined → Told
chained first rest = record { place = first.place; read = and_then first.read (λ e. and_then (links rest) (λ ls. Ok (with_links ls first.place e))) }

abbrev pub operand_step : Scope → Operand-F Told Told Joined Told Told Place Told Place Told Joined → Told
operand_step k (operand.Literal w) = record { place = w.place; read = leaf_at w.place (literal_read k.alphabet w) }
operand_step k (operand.Number n) = record { place = number_place n; read = leaf_at (number_place n) (number_leaf k.alphabet n) }
operand_step k (operand.Range low dots high) = record { place = key_place low; read = leaf_at (key_place low) (range_between k.alphabet low high) }
operand_step k (operand.Set w) = record { place = w.place; read = leaf_at w.place (set_read k.alphabet w) }
operand_step k (operand.RegularExpression w) = record { place = w.place; read = leaf_at w.place (regular_read k.alphabet w) }
operand_step k (operand.Name w) = record { place = w.place; read = name_read k w }
operand_step k (operand.Group opening inner closing) = record { place = opening; read = inner.read }
operand_step k (operand.Scanner opening) = record { place = opening; read = misplaced opening }

abbrev pub negated_step : Scope → Negated-F Told Told Joined Told Told Place Told Place Told Joined → Told
negated_step k n = record {
  place = front n.negations n.operand.place;
  read = and_then n.operand.read (λ e. Ok (with_negations (map negation_of n.negations) e));
}

abbrev pub repeated_step : Scope → Repeated-F Told Told Joined Told Told Place Told Place Told Joined → Told
repeated_step k r = record {
  place = r.operand.place;
  read = and_then r.operand.read (λ e. and_then (each repetition_read r.repetitions) (λ rs. Ok (with_repetitions rs r.operand.place e)));
}

abbrev pub embedded_step : Scope → Embedded-F Told Told Joined Told Told Place Told Place Told Joined → Told
embedded_step k e = record {
  place = e.operand.place;
  read = and_then e.operand.read (λ x. and_then (each (put_read k) e.embeddings) (λ ps. Ok (with_puts ps e.operand.place x)));
}

abbrev pub concatenation_part_step : Scope → ConcatenationPart-F Told Told Joined Told Told Place Told Place Told Joined → Joined
concatenation_part_step k p = and_then p.operand.read (λ e. Ok (link (joined_by p.sign) e))

abbrev pub concatenation_step : Scope → Concatenation-F Told Told Joined Told Told Place Told Place Told Joined → Told
concatenation_step k c = chained c.first c.rest

abbrev pub union_part_step : Scope → UnionPart-F Told Told Joined Told Told Place Told Place Told Joined → Joined
union_part_step k p = and_then p.operand.read (λ e. Ok (link (united_by p.sign) e))

abbrev pub union_step : Scope → Union-F Told Told Joined Told Told Place Told Place Told Joined → Told
union_step k u = chained u.first u.rest

abbrev pub pattern_step : Scope → Pattern-F Told Told Joined Told Told Place Told Place Told Joined → Place
pattern_step k p = p.value.place

abbrev pub scanner_step : Scope → Scanner-F Told Told Joined Told Told Place Told Place Told Joined → Place
scanner_step k s = s.opening

unfoldable pub operand_told : Scope → Operand → Told
operand_told k = fold-Operand Told Told Joined Told Told Place Told Place Told Joined (operand_step k) (concatenation_step k) (concatenation_part_step k) (embedded_step k) (negated_step k) (pattern_step k) (repeated_step k) (scanner_step k) (union_step k) (union_part_step k)

unfoldable pub concatenation_told : Scope → Concatenation → Told
concatenation_told k = fold-Concatenation Told Told Joined Told Told Place Told Place Told Joined (operand_step k) (concatenation_step k) (concatenation_part_step k) (embedded_step k) (negated_step k) (pattern_step k) (repeated_step k) (scanner_step k) (union_step k) (union_part_step k)

unfoldable pub concatenation_part_told : Scope → ConcatenationPart → Joined
concatenation_part_told k = fold-ConcatenationPart Told Told Joined Told Told Place Told Place Told Joined (operand_step k) (concatenation_step k) (concatenation_part_step k) (embedded_step k) (negated_step k) (pattern_step k) (repeated_step k) (scanner_step k) (union_step k) (union_part_step k)

unfoldable pub embedded_told : Scope → Embedded → Told
embedded_told k = fold-Embedded Told Told Joined Told Told Place Told Place Told Joined (operand_step k) (concatenation_step k) (concatenation_part_step k) (embedded_step k) (negated_step k) (pattern_step k) (repeated_step k) (scanner_step k) (union_step k) (union_part_step k)

unfoldable pub negated_told : Scope → Negated → Told
negated_told k = fold-Negated Told Told Joined Told Told Place Told Place Told Joined (operand_step k) (concatenation_step k) (concatenation_part_step k) (embedded_step k) (negated_step k) (pattern_step k) (repeated_step k) (scanner_step k) (union_step k) (union_part_step k)

unfoldable pub repeated_told : Scope → Repeated → Told
repeated_told k = fold-Repeated Told Told Joined Told Told Place Told Place Told Joined (operand_step k) (concatenation_step k) (concatenation_part_step k) (embedded_step k) (negated_step k) (pattern_step k) (repeated_step k) (scanner_step k) (union_step k) (union_part_step k)

unfoldable pub scanner_told : Scope → Scanner → Place
scanner_told k = fold-Scanner Told Told Joined Told Told Place Told Place Told Joined (operand_step k) (concatenation_step k) (concatenation_part_step k) (embedded_step k) (negated_step k) (pattern_step k) (repeated_step k) (scanner_step k) (union_step k) (union_part_step k)

unfoldable pub union_told : Scope → Union → Told
union_told k = fold-Union Told Told Joined Told Told Place Told Place Told Joined (operand_step k) (concatenation_step k) (concatenation_part_step k) (embedded_step k) (negated_step k) (pattern_step k) (repeated_step k) (scanner_step k) (union_step k) (union_part_step k)

unfoldable pub union_part_told : Scope → UnionPart → Joined
union_part_told k = fold-UnionPart Told Told Joined Told Told Place Told Place Told Joined (operand_step k) (concatenation_step k) (concatenation_part_step k) (embedded_step k) (negated_step k) (pattern_step k) (repeated_step k) (scanner_step k) (union_step k) (union_part_step k)

unfoldable pub pattern_told : Scope → Pattern → Place
pattern_told k = fold-Pattern Told Told Joined Told Told Place Told Place Told Joined (operand_step k) (concatenation_step k) (concatenation_part_step k) (embedded_step k) (negated_step k) (pattern_step k) (repeated_step k) (scanner_step k) (union_step k) (union_part_step k)
