-- What a definition's value uses, in text order.
use Rattle.std.specs.Prelude.{Bool, ◌==◌, ◌&&◌, if◌then◌else◌, List, [], ◌∷◌, ◌++◌, Option, Some, None}
use Rattle.std.specs.List.{flat_map}
use Rattle.rl_types.specs.declared.numbers.Place.{Place}
use Rattle.rl_grammar.specs.declared.syntax.Word.{Word}
use Rattle.rl_grammar.specs.declared.syntax.ActionUse.{ActionUse}
use Rattle.rl_grammar.specs.declared.syntax.ActionUse.TheVariants as action
use Rattle.rl_grammar.specs.declared.syntax.Embedding.{Embedding}
use Rattle.rl_grammar.specs.declared.syntax.Embedding.TheVariants as embedding
use Rattle.rl_grammar.specs.declared.syntax.Label.{Label}
use Rattle.rl_grammar.specs.declared.syntax.Label.TheVariants as label
use Rattle.rl_grammar.specs.declared.syntax.Priority.{Priority as Rank}
use Rattle.rl_grammar.specs.declared.syntax.Priority.TheVariants as priority
use Rattle.rl_grammar.specs.declared.syntax.PatternAction.{PatternAction}
use Rattle.rl_grammar.specs.declared.syntax.Operand.TheVariants as leaf
use Rattle.rl_grammar.specs.declared.syntax.Operand.{Operand}
use Rattle.rl_grammar.specs.declared.syntax.Concatenation.{Concatenation}
use Rattle.rl_grammar.specs.declared.syntax.ConcatenationPart.{ConcatenationPart}
use Rattle.rl_grammar.specs.declared.syntax.Embedded.{Embedded}
use Rattle.rl_grammar.specs.declared.syntax.Negated.{Negated}
use Rattle.rl_grammar.specs.declared.syntax.Pattern.{Pattern, out-Pattern}
use Rattle.rl_grammar.specs.declared.syntax.Repeated.{Repeated}
use Rattle.rl_grammar.specs.declared.syntax.Scanner.{Scanner, out-Scanner}
use Rattle.rl_grammar.specs.declared.syntax.StateKind.{StateKind}
use Rattle.rl_grammar.specs.declared.syntax.StateKind.TheVariants as kind
use Rattle.rl_grammar.specs.declared.syntax.Union.{Union}
use Rattle.rl_grammar.specs.declared.syntax.UnionPart.{UnionPart}
use Rattle.rl_grammar.specs.declared.syntax.Operand.TheOpen.{Operand-F, Concatenation-F, ConcatenationPart-F, Embedded-F, Negated-F, Pattern-F, Repeated-F, Scanner-F, Union-F, UnionPart-F}
use Rattle.rl_grammar.specs.declared.syntax.Operand.TheOpen as operand
use Rattle.rl_grammar.specs.declared.syntax.Operand.TheFolds.{fold-Operand, fold-Concatenation, fold-ConcatenationPart, fold-Embedded, fold-Negated, fold-Pattern, fold-Repeated, fold-Scanner, fold-Union, fold-UnionPart}
use Rattle.rl_names.specs.Places.{union_place}
use Rattle.rl_names.specs.Values.{scanner_of}
use Rattle.rl_names.specs.declared.events.Event.{Event as Shown}
use Rattle.rl_names.specs.declared.events.Event.TheVariants as shown

pub data Event : Type 0 where
  -- a literal, a number, a range, a set or a regular expression
  Leaf : Operand → Event
  -- the name of an expression
  Name : Word → Event
  -- the name of an action
  Action : Word → Event
  -- an action without a name
  Code : Word → Event
  -- the name of a priority
  Priority : Word → Event
  -- an action that may have no control statements: where it is asked for, and which it is
  Quiet : Place → ActionUse → Event
  -- an action that is embedded, or a condition
  Embeds : ActionUse → Event
  -- an end-of-file or error embedding
  Ends : Place → Event
  -- the same in a pattern
  Barred : Place → Event
  -- the name of an expression in a pattern that begins at this place
  Taken : Place → Word → Event

abbrev pub Found : Type 0
Found = List Event

-- as code keeps it
abbrev pub seen : Shown → Event
seen (shown.Leaf o) = Leaf o.now
seen (shown.Name w) = Name w.now
seen (shown.Action w) = Action w.now
seen (shown.Code w) = Code w.now
seen (shown.Priority w) = Priority w.now
seen (shown.Quiet place a) = Quiet place a.now
seen (shown.Embeds a) = Embeds a.now
seen (shown.Ends place) = Ends place
seen (shown.Barred place) = Barred place
seen (shown.Taken place w) = Taken place w.now

-- ---- embeddings

abbrev pub used : ActionUse → Found
used (action.Name w) = Action w ∷ []
used (action.Group opening w closing) = Action w ∷ []
used (action.Code w) = Code w ∷ []

abbrev pub embedded : ActionUse → Found
embedded a = Embeds a ∷ used a

abbrev pub ranked : Rank → Found
ranked (priority.Plain n) = []
ranked (priority.Named p) = Priority p.name ∷ []

abbrev pub labelled : Label → Found
labelled (label.Action a) = embedded a
labelled (label.Priority p) = ranked p

-- to-state and from-state actions may have no control statements; end-of-file and error embeddings stand in no pattern
abbrev pub marked : StateKind → Place → ActionUse → Found
marked kind.To place a = Quiet place a ∷ []
marked kind.From place a = Quiet place a ∷ []
marked kind.Eof place a = Ends place ∷ []
marked kind.Error place a = Ends place ∷ []

abbrev pub embedding_events : Embedding → Found
embedding_events (embedding.Transition sign l) = labelled l
embedding_events (embedding.State mark a) = marked mark.kind mark.place a ++ embedded a
embedding_events (embedding.When place a) = Quiet place a ∷ embedded a

-- ---- expressions: a scanner stands in none, so what one would use there counts for nothing

abbrev pub all : List Found → Found
all parts = flat_map (λ part. part) parts

abbrev pub operand_step : Operand-F Found Found Found Found Found Found Found Found Found Found → Found
operand_step (operand.Literal w) = Leaf (leaf.Literal w) ∷ []
operand_step (operand.Number n) = Leaf (leaf.Number n) ∷ []
operand_step (operand.Range low dots high) = Leaf (leaf.Range low dots high) ∷ []
operand_step (operand.Set w) = Leaf (leaf.Set w) ∷ []
operand_step (operand.RegularExpression w) = Leaf (leaf.RegularExpression w) ∷ []
operand_step (operand.Name w) = Name w ∷ []
operand_step (operand.Group opening inner closing) = inner
operand_step (operand.Scanner s) = s

abbrev pub negated_step : Negated-F Found Found Found Found Found Found Found Found Found Found → Found
negated_step n = n.operand

abbrev pub repeated_step : Repeated-F Found Found Found Found Found Found Found Found Found Found → Found
repeated_step r = r.operand

abbrev pub embedded_step : Embedded-F Found Found Found Found Found Found Found Found Found Found → Found
embedded_step e = e.operand ++ flat_map embedding_events e.embeddings

abbrev pub concatenation_part_step : ConcatenationPart-F Found Found Found Found Found Found Found Found Found Found → Found
concatenation_part_step p = p.operand

abbrev pub concatenation_step : Concatenation-F Found Found Found Found Found Found Found Found Found Found → Found
concatenation_step c = c.first ++ all c.rest

abbrev pub union_part_step : UnionPart-F Found Found Found Found Found Found Found Found Found Found → Found
union_part_step p = p.operand

abbrev pub union_step : Union-F Found Found Found Found Found Found Found Found Found Found → Found
union_step u = u.first ++ all u.rest

abbrev pub pattern_step : Pattern-F Found Found Found Found Found Found Found Found Found Found → Found
pattern_step p = []

abbrev pub scanner_step : Scanner-F Found Found Found Found Found Found Found Found Found Found → Found
scanner_step s = []

unfoldable pub operand_events : Operand → Found
operand_events = fold-Operand Found Found Found Found Found Found Found Found Found Found operand_step concatenation_step concatenation_part_step embedded_step negated_step pattern_step repeated_step scanner_step union_step union_part_step

unfoldable pub concatenation_events : Concatenation → Found
concatenation_events = fold-Concatenation Found Found Found Found Found Found Found Found Found Found operand_step concatenation_step concatenation_part_step embedded_step negated_step pattern_step repeated_step scanner_step union_step union_part_step

unfoldable pub concatenation_part_events : ConcatenationPart → Found
concatenation_part_events = fold-ConcatenationPart Found Found Found Found Found Found Found Found Found Found operand_step concatenation_step concatenation_part_step embedded_step negated_step pattern_step repeated_step scanner_step union_step union_part_step

unfoldable pub embedded_events : Embedded → Found
embedded_events = fold-Embedded Found Found Found Found Found Found Found Found Found Found operand_step concatenation_step concatenation_part_step embedded_step negated_step pattern_step repeated_step scanner_step union_step union_part_step

unfoldable pub negated_events : Negated → Found
negated_events = fold-Negated Found Found Found Found Found Found Found Found Found Found operand_step concatenation_step concatenation_part_step embedded_step negated_step pattern_step repeated_step scanner_step union_step union_part_step

unfoldable pub pattern_events : Pattern → Found
pattern_events = fold-Pattern Found Found Found Found Found Found Found Found Found Found operand_step concatenation_step concatenation_part_step embedded_step negated_step pattern_step repeated_step scanner_step union_step union_part_step

unfoldable pub repeated_events : Repeated → Found
repeated_events = fold-Repeated Found Found Found Found Found Found Found Found Found Found operand_step concatenation_step concatenation_part_step embedded_step negated_step pattern_step repeated_step scanner_step union_step union_part_step

unfoldable pub scanner_events : Scanner → Found
scanner_events = fold-Scanner Found Found Found Found Found Found Found Found Found Found operand_step concatenation_step concatenation_part_step embedded_step negated_step pattern_step repeated_step scanner_step union_step union_part_step

unfoldable pub union_events : Union → Found
union_events = fold-Union Found Found Found Found Found Found Found Found Found Found operand_step concatenation_step concatenation_part_step embedded_step negated_step pattern_step repeated_step scanner_step union_step union_part_step

unfoldable pub union_part_events : UnionPart → Found
union_part_events = fold-UnionPart Found Found Found Found Found Found Found Found Found Found operand_step concatenation_step concatenation_part_step embedded_step negated_step pattern_step repeated_step scanner_step union_step union_part_step

-- ---- scanners

abbrev pub token_events : Option PatternAction → Found
token_events None = []
token_events (Some a) = used a.action

-- what an event is in a pattern that begins at this place
abbrev pub in_pattern : Place → Event → Found
in_pattern place (Name w) = Name w ∷ Taken place w ∷ []
in_pattern place (Ends at) = Barred at ∷ []
in_pattern place e = e ∷ []

-- no action that a pattern embeds may have control statements: this is asked where the pattern begins
abbrev pub calmed : Place → Event → Found
calmed place (Embeds a) = Quiet place a ∷ []
calmed place _ = []

abbrev pub same_place : Place → Place → Bool
same_place p q = p.file == q.file && p.line == q.line && p.col == q.col

-- a name that is a pattern's first token: that it is known comes before all else that is asked there
abbrev pub named_at : Place → Event → Found
named_at place (Name w) = if same_place place w.place then Name w ∷ [] else []
named_at place _ = []

abbrev pub first_name : Place → Found → Found
first_name place [] = []
first_name place (e ∷ es) = named_at place e

-- what a pattern that begins at this place uses, where its expression uses these
abbrev pub uses_from : Place → Found → Found
uses_from place es = first_name place es ++ (flat_map (calmed place) es ++ flat_map (in_pattern place) es)

abbrev pub pattern_uses : Pattern → Found
pattern_uses p = uses_from (union_place (out-Pattern p).value) (union_events (out-Pattern p).value) ++ token_events (out-Pattern p).action

abbrev pub scanner_uses : Scanner → Found
scanner_uses s = pattern_uses (out-Scanner s).first ++ flat_map pattern_uses (out-Scanner s).rest

-- ---- values of definitions

abbrev pub uses_by : Union → Option Scanner → Found
uses_by u None = union_events u
uses_by u (Some s) = scanner_uses s

-- what an expression uses, or what the patterns of a scanner do
abbrev pub value_events : Union → Found
value_events u = uses_by u (scanner_of u)
