-- Reading each rule of the grammar.
use Rattle.std.specs.Prelude.{ℕ, zero, suc, Bool, true, false, ◌&&◌, not, ◌==◌, if◌then◌else◌, List, [], ◌∷◌, length, Option, Some, None, Err, ◌⊎◌, codes}
use Rattle.std.specs.Str.{bytes_eq}
use mathlib.Core.Logic.{inl, inr}
use Rattle.rl_types.specs.declared.numbers.Place.{Place}
use Rattle.rl_readers.specs.Readers.{one, both, made, either, optional, unless, many}
use Rattle.rl_grammar.specs.Grammar.{is_variable}
use Rattle.rl_grammar.specs.Lexeme.{carried, same_kind}
use Rattle.rl_grammar.specs.Literals.{is_character}
use Rattle.rl_grammar.specs.Marks.{mark_of}
use Rattle.rl_grammar.specs.declared.token.Token.{Token}
use Rattle.rl_grammar.specs.declared.token.TokenKind.{TokenKind}
use Rattle.rl_grammar.specs.declared.token.TokenKind.TheVariants as k
use Rattle.rl_grammar.specs.declared.syntax.Word.{Word}
use Rattle.rl_grammar.specs.declared.syntax.Syntax.{Syntax}
use Rattle.rl_grammar.specs.declared.syntax.Statement.{Statement}
use Rattle.rl_grammar.specs.declared.syntax.Statement.TheVariants as statement
use Rattle.rl_grammar.specs.declared.syntax.Machine.{Machine}
use Rattle.rl_grammar.specs.declared.syntax.Include.{Include}
use Rattle.rl_grammar.specs.declared.syntax.Alphtype.{Alphtype}
use Rattle.rl_grammar.specs.declared.syntax.Access.{Access}
use Rattle.rl_grammar.specs.declared.syntax.Variable.{Variable}
use Rattle.rl_grammar.specs.declared.syntax.Write.{Write}
use Rattle.rl_grammar.specs.declared.syntax.AlphabetWord.{AlphabetWord}
use Rattle.rl_grammar.specs.declared.syntax.AlphabetWord.TheVariants as alphabet
use Rattle.rl_grammar.specs.declared.syntax.WriteKind.{WriteKind}
use Rattle.rl_grammar.specs.declared.syntax.WriteKind.TheVariants as written
use Rattle.rl_grammar.specs.declared.syntax.WriteOption.{WriteOption}
use Rattle.rl_grammar.specs.declared.syntax.WriteOption.TheVariants as option
use Rattle.rl_grammar.specs.declared.syntax.Action.{Action}
use Rattle.rl_grammar.specs.declared.syntax.Definition.{Definition}
use Rattle.rl_grammar.specs.declared.syntax.DefinitionSign.{DefinitionSign}
use Rattle.rl_grammar.specs.declared.syntax.DefinitionSign.TheVariants as definition
use Rattle.rl_grammar.specs.declared.syntax.UnionSign.{UnionSign}
use Rattle.rl_grammar.specs.declared.syntax.UnionSign.TheVariants as union
use Rattle.rl_grammar.specs.declared.syntax.ConcatenationSign.{ConcatenationSign}
use Rattle.rl_grammar.specs.declared.syntax.ConcatenationSign.TheVariants as concatenation
use Rattle.rl_grammar.specs.declared.syntax.Embedding.{Embedding}
use Rattle.rl_grammar.specs.declared.syntax.Embedding.TheVariants as embedding
use Rattle.rl_grammar.specs.declared.syntax.TransitionSign.{TransitionSign}
use Rattle.rl_grammar.specs.declared.syntax.TransitionSign.TheVariants as transition_is
use Rattle.rl_grammar.specs.declared.syntax.Mark.{Mark}
use Rattle.rl_grammar.specs.declared.syntax.StateClass.{StateClass}
use Rattle.rl_grammar.specs.declared.syntax.StateClass.TheVariants as class
use Rattle.rl_grammar.specs.declared.syntax.StateKind.{StateKind}
use Rattle.rl_grammar.specs.declared.syntax.StateKind.TheVariants as kind
use Rattle.rl_grammar.specs.declared.syntax.Label.{Label}
use Rattle.rl_grammar.specs.declared.syntax.Label.TheVariants as label
use Rattle.rl_grammar.specs.declared.syntax.ActionUse.{ActionUse}
use Rattle.rl_grammar.specs.declared.syntax.ActionUse.TheVariants as action
use Rattle.rl_grammar.specs.declared.syntax.Priority.TheVariants as priority
use Rattle.rl_grammar.specs.declared.syntax.Number.{Number}
use Rattle.rl_grammar.specs.declared.syntax.Repetition.{Repetition}
use Rattle.rl_grammar.specs.declared.syntax.Repetition.TheVariants as repetition
use Rattle.rl_grammar.specs.declared.syntax.Count.{Count}
use Rattle.rl_grammar.specs.declared.syntax.Bounds.{Bounds}
use Rattle.rl_grammar.specs.declared.syntax.Bounds.TheVariants as bounds
use Rattle.rl_grammar.specs.declared.syntax.Negation.{Negation}
use Rattle.rl_grammar.specs.declared.syntax.Negation.TheVariants as negation
use Rattle.rl_grammar.specs.declared.syntax.Key.{Key}
use Rattle.rl_grammar.specs.declared.syntax.Key.TheVariants as key
use Rattle.rl_grammar.specs.declared.syntax.PatternAction.{PatternAction}
use Rattle.rl_grammar.specs.declared.syntax.Operand.{Operand}
use Rattle.rl_grammar.specs.declared.syntax.Concatenation.{Concatenation, roll-Concatenation}
use Rattle.rl_grammar.specs.declared.syntax.ConcatenationPart.{ConcatenationPart, roll-ConcatenationPart}
use Rattle.rl_grammar.specs.declared.syntax.Embedded.{Embedded, roll-Embedded}
use Rattle.rl_grammar.specs.declared.syntax.Negated.{Negated, roll-Negated}
use Rattle.rl_grammar.specs.declared.syntax.Pattern.{Pattern, roll-Pattern}
use Rattle.rl_grammar.specs.declared.syntax.Repeated.{Repeated, roll-Repeated}
use Rattle.rl_grammar.specs.declared.syntax.Scanner.{Scanner, roll-Scanner}
use Rattle.rl_grammar.specs.declared.syntax.Union.{Union, roll-Union}
use Rattle.rl_grammar.specs.declared.syntax.UnionPart.{UnionPart, roll-UnionPart}
use Rattle.rl_grammar.specs.declared.syntax.Operand.TheVariants as operand_is
use Rattle.rl_parse.specs.Reading.{Reader}
use Rattle.rl_parse.specs.declared.words.Ending.{Ending}
use Rattle.rl_parse.specs.declared.words.Ending.TheVariants as ending_is

-- ---- tests of a token

abbrev pub by_kind : (TokenKind → Bool) → Token → Bool
by_kind test t = test t.kind

abbrev pub is : TokenKind → Token → Bool
is kind t = same_kind t.kind kind

-- the kind of the first token; a list without tokens has the kind of the end
abbrev pub kind_of : List Token → TokenKind
kind_of [] = k.End
kind_of (t ∷ ts) = t.kind

-- a word that the grammar quotes
abbrev pub is_word : List ℕ → Token → Bool
is_word text t = same_kind t.kind k.Name && bytes_eq (carried t.kind t.text) text

abbrev pub is_unsigned : Token → Bool
is_unsigned t = is_word (codes "unsigned") t

-- a literal that may be the end of a range, and any other literal
abbrev pub is_key : Token → Bool
is_key t = same_kind t.kind k.Literal && is_character (carried t.kind t.text)

abbrev pub is_plain : Token → Bool
is_plain t = same_kind t.kind k.Literal && not (is_character (carried t.kind t.text))

-- how many characters end at a byte of a literal's body, and whether a backslash that begins one stands before the next
abbrev pub count_of : Bool → ℕ → ℕ
count_of slash b = if (if slash then not (b == 10) else not (b == 92)) then 1 else 0

abbrev pub slash_after : Bool → ℕ → Bool
slash_after slash b = not slash && b == 92

-- ---- what begins a rule

abbrev pub is_name : TokenKind → Bool
is_name k.Name = true
is_name _ = false

abbrev pub begins_number : TokenKind → Bool
begins_number k.Minus = true
begins_number k.Integer = true
begins_number _ = false

abbrev pub begins_operand : TokenKind → Bool
begins_operand k.Literal = true
begins_operand k.Minus = true
begins_operand k.Integer = true
begins_operand k.Set = true
begins_operand k.RegularExpression = true
begins_operand k.Name = true
begins_operand k.OpenParenthesis = true
begins_operand k.OpenScanner = true
begins_operand _ = false

abbrev pub begins_negation : TokenKind → Bool
begins_negation k.Exclamation = true
begins_negation k.Caret = true
begins_negation _ = false

abbrev pub begins_expression : TokenKind → Bool
begins_expression k.Exclamation = true
begins_expression k.Caret = true
begins_expression kind = begins_operand kind

abbrev pub begins_repetition : TokenKind → Bool
begins_repetition k.Star = true
begins_repetition k.DoubleStar = true
begins_repetition k.Question = true
begins_repetition k.Plus = true
begins_repetition k.OpenBrace = true
begins_repetition _ = false

abbrev pub begins_transition : TokenKind → Bool
begins_transition k.Greater = true
begins_transition k.At = true
begins_transition k.Dollar = true
begins_transition k.Percent = true
begins_transition _ = false

abbrev pub begins_embedding : TokenKind → Bool
begins_embedding k.Mark = true
begins_embedding k.When = true
begins_embedding kind = begins_transition kind

abbrev pub begins_concatenation_sign : TokenKind → Bool
begins_concatenation_sign k.Dot = true
begins_concatenation_sign k.LeftGuard = true
begins_concatenation_sign k.EntryGuard = true
begins_concatenation_sign k.FinishGuard = true
begins_concatenation_sign _ = false

abbrev pub begins_concatenation_part : TokenKind → Bool
begins_concatenation_part k.Dot = true
begins_concatenation_part k.LeftGuard = true
begins_concatenation_part k.EntryGuard = true
begins_concatenation_part k.FinishGuard = true
begins_concatenation_part k.Minus = false
begins_concatenation_part kind = begins_expression kind

abbrev pub begins_union_part : TokenKind → Bool
begins_union_part k.Bar = true
begins_union_part k.Ampersand = true
begins_union_part k.Minus = true
begins_union_part k.DoubleMinus = true
begins_union_part _ = false

abbrev pub begins_definition_sign : TokenKind → Bool
begins_definition_sign k.Equals = true
begins_definition_sign k.ColonEquals = true
begins_definition_sign _ = false

abbrev pub begins_action_use : TokenKind → Bool
begins_action_use k.Name = true
begins_action_use k.Code = true
begins_action_use k.OpenParenthesis = true
begins_action_use _ = false

abbrev pub begins_statement : TokenKind → Bool
begins_statement k.Machine = true
begins_statement k.Include = true
begins_statement k.Alphtype = true
begins_statement k.Access = true
begins_statement k.Variable = true
begins_statement k.Write = true
begins_statement k.Action = true
begins_statement k.Name = true
begins_statement _ = false

-- ---- single tokens

abbrev pub place_of : Token → Place
place_of t = t.place

abbrev pub word_of : Token → Word
word_of t = record { text = t.text; place = t.place }

abbrev pub place : TokenKind → Reader Place
place kind = one (is kind) place_of

abbrev pub word : TokenKind → Reader Word
word kind = one (is kind) word_of

abbrev pub quoted : List ℕ → Reader Place
quoted text = one (is_word text) place_of

abbrev pub character : Reader Word
character = one is_key word_of

abbrev pub plain_literal : Reader Word
plain_literal = one is_plain word_of

abbrev pub is_variable_name : Token → Bool
is_variable_name t = same_kind t.kind k.Name && is_variable (carried t.kind t.text)

abbrev pub variable_name : Reader Word
variable_name = one is_variable_name word_of

-- a token that stands for a value, where it does
abbrev pub is_known : {A : Type 0} → Option A → Bool
is_known None = false
is_known (Some a) = true

abbrev pub value_or : {A : Type 0} → Option A → A → A
value_or None a = a
value_or (Some b) a = b

-- one token that stands for a value; the second function gives a value of no meaning for the others
abbrev pub picked : {A : Type 0} → (Token → Option A) → (Token → A) → Reader A
picked known other = one (λ t. is_known (known t)) (λ t. value_or (known t) (other t))

abbrev pub known_alphabet_word : Token → Option AlphabetWord
known_alphabet_word t =
    if is_word (codes "char") t then Some (alphabet.Char t.place)
    else if is_word (codes "short") t then Some (alphabet.Short t.place)
    else if is_word (codes "int") t then Some (alphabet.Int t.place)
    else None

abbrev pub alphabet_word : Reader AlphabetWord
alphabet_word = picked known_alphabet_word (λ t. alphabet.Char t.place)

abbrev pub known_write_kind : Token → Option WriteKind
known_write_kind t =
    if is_word (codes "data") t then Some (written.Data t.place)
    else if is_word (codes "init") t then Some (written.Init t.place)
    else if is_word (codes "exec") t then Some (written.Exec t.place)
    else None

abbrev pub write_kind : Reader WriteKind
write_kind = picked known_write_kind (λ t. written.Data t.place)

abbrev pub known_write_option : Token → Option WriteOption
known_write_option t =
    if is_word (codes "noerror") t then Some (option.NoError t.place)
    else if is_word (codes "nofinal") t then Some (option.NoFinal t.place)
    else None

abbrev pub write_option : Reader WriteOption
write_option = picked known_write_option (λ t. option.NoError t.place)

abbrev pub transition_of : TokenKind → Place → TransitionSign
transition_of k.Greater place = transition_is.Entering place
transition_of k.At place = transition_is.Finishing place
transition_of k.Dollar place = transition_is.All place
transition_of _ place = transition_is.Leaving place

abbrev pub transition_sign : Reader TransitionSign
transition_sign = one (by_kind begins_transition) (λ t. transition_of t.kind t.place)

abbrev pub union_of : TokenKind → Place → UnionSign
union_of k.Bar place = union.Union place
union_of k.Ampersand place = union.Intersection place
union_of k.Minus place = union.Difference place
union_of _ place = union.StrongDifference place

abbrev pub union_sign : Reader UnionSign
union_sign = one (by_kind begins_union_part) (λ t. union_of t.kind t.place)

abbrev pub concatenation_of : TokenKind → Place → ConcatenationSign
concatenation_of k.Dot place = concatenation.Plain place
concatenation_of k.LeftGuard place = concatenation.LeftGuarded place
concatenation_of k.EntryGuard place = concatenation.EntryGuarded place
concatenation_of _ place = concatenation.FinishGuarded place

abbrev pub concatenation_sign : Reader ConcatenationSign
concatenation_sign = one (by_kind begins_concatenation_sign) (λ t. concatenation_of t.kind t.place)

abbrev pub negation_of : TokenKind → Place → Negation
negation_of k.Exclamation place = negation.Language place
negation_of _ place = negation.Character place

abbrev pub negation_sign : Reader Negation
negation_sign = one (by_kind begins_negation) (λ t. negation_of t.kind t.place)

abbrev pub definition_of : TokenKind → Place → DefinitionSign
definition_of k.Equals place = definition.Name place
definition_of _ place = definition.Instantiation place

abbrev pub definition_sign : Reader DefinitionSign
definition_sign = one (by_kind begins_definition_sign) (λ t. definition_of t.kind t.place)

abbrev pub mark_there : Option (StateClass × StateKind) → Place → Option Mark
mark_there None place = None
mark_there (Some m) place = Some (record { class = m.0; kind = m.1; place = place })

abbrev pub known_mark : Token → Option Mark
known_mark t = if same_kind t.kind k.Mark then mark_there (mark_of t.text) t.place else None

abbrev pub state_mark : Reader Mark
state_mark = picked known_mark (λ t. record { class = class.Start; kind = kind.To; place = t.place })

-- ---- parts of operands and embeddings

abbrev pub number_of : Option Place × Word → Number
number_of x = record { minus = x.0; digits = x.1 }

abbrev pub minus : Reader (Option Place)
minus = optional (is k.Minus) (place k.Minus)

unfoldable pub number : Reader Number
number = made number_of (both minus (word k.Integer))

abbrev pub key_of : Number ⊎ Word → Key
key_of (inl n) = key.Number n
key_of (inr w) = key.Character w

-- an end of a range
unfoldable pub end_of_range : Reader Key
end_of_range = made key_of (either (by_kind begins_number) number character)

-- the rest of a range
unfoldable pub high : Reader (Option (Place × Key))
high = optional (is k.DotDot) (both (place k.DotDot) end_of_range)

abbrev pub from_character : Word → Option (Place × Key) → Operand
from_character w None = operand_is.Literal w
from_character w (Some x) = operand_is.Range (key.Character w) x.0 x.1

abbrev pub from_number : Number → Option (Place × Key) → Operand
from_number n None = operand_is.Number n
from_number n (Some x) = operand_is.Range (key.Number n) x.0 x.1

unfoldable pub character_range : Reader (Word × Option (Place × Key))
character_range = both character high

unfoldable pub number_range : Reader (Number × Option (Place × Key))
number_range = both number high

unfoldable pub grouped_name : Reader (Place × (Word × Place))
grouped_name = both (place k.OpenParenthesis) (both (word k.Name) (place k.CloseParenthesis))

abbrev pub action_of : Word ⊎ (Word ⊎ (Place × (Word × Place))) → ActionUse
action_of (inl w) = action.Name w
action_of (inr (inl w)) = action.Code w
action_of (inr (inr x)) = action.Group x.0 x.1.0 x.1.1

unfoldable pub action_use : Reader ActionUse
action_use = made action_of (either (is k.Name) (word k.Name) (either (is k.Code) (word k.Code) grouped_name))

abbrev pub ending_of : Place ⊎ (Place × (Number × Place)) → Ending
ending_of (inl closing) = ending_is.Closed closing
ending_of (inr x) = ending_is.Valued x.0 x.1.0 x.1.1

unfoldable pub named_value : Reader (Place × (Number × Place))
named_value = both (place k.Comma) (both number (place k.CloseParenthesis))

-- what stands behind `(` and a name: `)`, or `,`, a number and `)`
unfoldable pub ending : Reader Ending
ending = made ending_of (either (is k.CloseParenthesis) (place k.CloseParenthesis) named_value)

abbrev pub ended : Place → Word → Ending → Label
ended opening name (ending_is.Closed closing) = label.Action (action.Group opening name closing)
ended opening name (ending_is.Valued comma value closing) = label.Priority (priority.Named (record { opening = opening; name = name; comma = comma; value = value; closing = closing }))

abbrev pub label_of : Word ⊎ (Word ⊎ (Number ⊎ (Place × (Word × Ending)))) → Label
label_of (inl w) = label.Action (action.Name w)
label_of (inr (inl w)) = label.Action (action.Code w)
label_of (inr (inr (inl n))) = label.Priority (priority.Plain n)
label_of (inr (inr (inr x))) = ended x.0 x.1.0 x.1.1

unfoldable pub grouped_label : Reader (Place × (Word × Ending))
grouped_label = both (place k.OpenParenthesis) (both (word k.Name) ending)

unfoldable pub label_use : Reader Label
label_use = made label_of (either (is k.Name) (word k.Name) (either (is k.Code) (word k.Code) (either (by_kind begins_number) number grouped_label)))

abbrev pub embedding_of : (TransitionSign × Label) ⊎ ((Mark × ActionUse) ⊎ (Place × ActionUse)) → Embedding
embedding_of (inl x) = embedding.Transition x.0 x.1
embedding_of (inr (inl x)) = embedding.State x.0 x.1
embedding_of (inr (inr x)) = embedding.When x.0 x.1

unfoldable pub transition : Reader (TransitionSign × Label)
transition = both transition_sign label_use

unfoldable pub state : Reader (Mark × ActionUse)
state = both state_mark action_use

unfoldable pub condition : Reader (Place × ActionUse)
condition = both (place k.When) action_use

unfoldable pub one_embedding : Reader Embedding
one_embedding = made embedding_of (either (by_kind begins_transition) transition (either (is k.Mark) state condition))

unfoldable pub embeddings : Reader (List Embedding)
embeddings = many (by_kind begins_embedding) one_embedding

abbrev pub from_least : Word → Option (Place × Option Word) → Bounds
from_least times None = bounds.Exactly times
from_least least (Some (comma, None)) = bounds.AtLeast least comma
from_least least (Some (comma, Some most)) = bounds.Between least comma most

abbrev pub bounds_of : (Place × Word) ⊎ (Word × Option (Place × Option Word)) → Bounds
bounds_of (inl x) = bounds.AtMost x.0 x.1
bounds_of (inr x) = from_least x.0 x.1

unfoldable pub most : Reader (Option Word)
most = optional (is k.Integer) (word k.Integer)

-- the comma of a count, and the number behind it
unfoldable pub upper : Reader (Option (Place × Option Word))
upper = optional (is k.Comma) (both (place k.Comma) most)

unfoldable pub at_most : Reader (Place × Word)
at_most = both (place k.Comma) (word k.Integer)

unfoldable pub at_least : Reader (Word × Option (Place × Option Word))
at_least = both (word k.Integer) upper

unfoldable pub count_bounds : Reader Bounds
count_bounds = made bounds_of (either (is k.Comma) at_most at_least)

abbrev pub counted_of : Place × (Bounds × Place) → Count
counted_of x = record { opening = x.0; bounds = x.1.0; closing = x.1.1 }

unfoldable pub count : Reader Count
count = made counted_of (both (place k.OpenBrace) (both count_bounds (place k.CloseBrace)))

abbrev pub repetition_of : Place ⊎ (Place ⊎ (Place ⊎ (Place ⊎ Count))) → Repetition
repetition_of (inl at) = repetition.Star at
repetition_of (inr (inl at)) = repetition.LongestStar at
repetition_of (inr (inr (inl at))) = repetition.Optional at
repetition_of (inr (inr (inr (inl at)))) = repetition.Plus at
repetition_of (inr (inr (inr (inr c)))) = repetition.Count c

unfoldable pub one_repetition : Reader Repetition
one_repetition = made repetition_of
    (either (is k.Star) (place k.Star) (either (is k.DoubleStar) (place k.DoubleStar) (either (is k.Question) (place k.Question) (either (is k.Plus) (place k.Plus) count))))

unfoldable pub repetitions : Reader (List Repetition)
repetitions = many (by_kind begins_repetition) one_repetition

unfoldable pub negations : Reader (List Negation)
negations = many (by_kind begins_negation) negation_sign

abbrev pub pattern_action_of : Place × ActionUse → PatternAction
pattern_action_of x = record { arrow = x.0; action = x.1 }

unfoldable pub some_pattern_action : Reader PatternAction
some_pattern_action = made pattern_action_of (both (place k.Arrow) action_use)

unfoldable pub pattern_action : Reader (Option PatternAction)
pattern_action = optional (is k.Arrow) some_pattern_action

-- ---- expressions, by the reader of an expression that stands inside

unfoldable pub group : Reader Union → Reader (Place × (Union × Place))
group union = both (place k.OpenParenthesis) (both union (place k.CloseParenthesis))

abbrev pub pattern_of : Union × (Option PatternAction × Place) → Pattern
pattern_of x = roll-Pattern (record { value = x.0; action = x.1.0; semicolon = x.1.1 })

unfoldable pub pattern : Reader Union → Reader Pattern
pattern union = made pattern_of (both union (both pattern_action (place k.Semicolon)))

unfoldable pub patterns : Reader Union → Reader (List Pattern)
patterns union = many (by_kind begins_expression) (pattern union)

abbrev pub scanner_of : Place × (Pattern × (List Pattern × Place)) → Scanner
scanner_of x = roll-Scanner (record { opening = x.0; first = x.1.0; rest = x.1.1.0; closing = x.1.1.1 })

unfoldable pub scanner : Reader Union → Reader Scanner
scanner union = made scanner_of (both (place k.OpenScanner) (both (pattern union) (both (patterns union) (place k.CloseScanner))))

-- the kinds of operands, as they are told apart
abbrev pub Choice : Type 0
Choice = (Word × Option (Place × Key)) ⊎ (Word ⊎ ((Number × Option (Place × Key)) ⊎ (Word ⊎ (Word ⊎ (Word ⊎ ((Place × (Union × Place)) ⊎ Scanner))))))

abbrev pub operand_of : Choice → Operand
operand_of (inl x) = from_character x.0 x.1
operand_of (inr (inl w)) = operand_is.Literal w
operand_of (inr (inr (inl x))) = from_number x.0 x.1
operand_of (inr (inr (inr (inl w)))) = operand_is.Set w
operand_of (inr (inr (inr (inr (inl w))))) = operand_is.RegularExpression w
operand_of (inr (inr (inr (inr (inr (inl w)))))) = operand_is.Name w
operand_of (inr (inr (inr (inr (inr (inr (inl x))))))) = operand_is.Group x.0 x.1.0 x.1.1
operand_of (inr (inr (inr (inr (inr (inr (inr s))))))) = operand_is.Scanner s

-- an operand that is no literal
abbrev pub other_choice : Reader Union → Reader ((Number × Option (Place × Key)) ⊎ (Word ⊎ (Word ⊎ (Word ⊎ ((Place × (Union × Place)) ⊎ Scanner)))))
other_choice union =
    either (by_kind begins_number) number_range
    (either (is k.Set) (word k.Set)
    (either (is k.RegularExpression) (word k.RegularExpression)
    (either (is k.Name) (word k.Name)
    (either (is k.OpenParenthesis) (group union) (scanner union)))))

unfoldable pub other_operand : Reader Union → Reader Operand
other_operand union = made (λ x. operand_of (inr (inr x))) (other_choice union)

unfoldable pub operand : Reader Union → Reader Operand
operand union = made operand_of (either is_key character_range (either is_plain plain_literal (other_choice union)))

abbrev pub negated_of : List Negation × Operand → Negated
negated_of x = roll-Negated (record { negations = x.0; operand = x.1 })

unfoldable pub negated : Reader Union → Reader Negated
negated union = made negated_of (both negations (operand union))

abbrev pub repeated_of : Negated × List Repetition → Repeated
repeated_of x = roll-Repeated (record { operand = x.0; repetitions = x.1 })

unfoldable pub repeated : Reader Union → Reader Repeated
repeated union = made repeated_of (both (negated union) repetitions)

abbrev pub embedded_of : Repeated × List Embedding → Embedded
embedded_of x = roll-Embedded (record { operand = x.0; embeddings = x.1 })

unfoldable pub embedded : Reader Union → Reader Embedded
embedded union = made embedded_of (both (repeated union) embeddings)

abbrev pub part_of : (ConcatenationSign × Embedded) ⊎ Embedded → ConcatenationPart
part_of (inl x) = roll-ConcatenationPart (record { sign = Some x.0; operand = x.1 })
part_of (inr e) = roll-ConcatenationPart (record { sign = None; operand = e })

-- an operand behind a sign
unfoldable pub joined : Reader Union → Reader (ConcatenationSign × Embedded)
joined union = both concatenation_sign (embedded union)

-- an operand that stands beside another does not begin with `-`
unfoldable pub adjacent : Reader Union → Reader Embedded
adjacent union = unless (is k.Minus) (embedded union)

unfoldable pub concatenation_part : Reader Union → Reader ConcatenationPart
concatenation_part union = made part_of (either (by_kind begins_concatenation_sign) (joined union) (adjacent union))

unfoldable pub concatenation_parts : Reader Union → Reader (List ConcatenationPart)
concatenation_parts union = many (by_kind begins_concatenation_part) (concatenation_part union)

abbrev pub concatenated_of : Embedded × List ConcatenationPart → Concatenation
concatenated_of x = roll-Concatenation (record { first = x.0; rest = x.1 })

unfoldable pub concatenated : Reader Union → Reader Concatenation
concatenated union = made concatenated_of (both (embedded union) (concatenation_parts union))

abbrev pub union_part_of : UnionSign × Concatenation → UnionPart
union_part_of x = roll-UnionPart (record { sign = x.0; operand = x.1 })

unfoldable pub union_part : Reader Union → Reader UnionPart
union_part union = made union_part_of (both union_sign (concatenated union))

unfoldable pub union_parts : Reader Union → Reader (List UnionPart)
union_parts union = many (by_kind begins_union_part) (union_part union)

abbrev pub united_of : Concatenation × List UnionPart → Union
united_of x = roll-Union (record { first = x.0; rest = x.1 })

unfoldable pub united : Reader Union → Reader Union
united union = made united_of (both (concatenated union) (union_parts union))

-- the reader of an expression that stands inside, where so many more may stand in one another
unfoldable pub nested : ℕ → Reader Union
nested zero ts = Err (length ts)
nested (suc depth) ts = united (nested depth) ts

-- ---- statements

abbrev pub machine_of : Place × (Word × Place) → Machine
machine_of x = record { start = x.0; name = x.1.0; semicolon = x.1.1 }

unfoldable pub machine : Reader Machine
machine = made machine_of (both (place k.Machine) (both (word k.Name) (place k.Semicolon)))

unfoldable pub optional_name : Reader (Option Word)
optional_name = optional (is k.Name) (word k.Name)

abbrev pub include_of : Place × (Option Word × (Word × Place)) → Include
include_of x = record { start = x.0; machine = x.1.0; file = x.1.1.0; semicolon = x.1.1.1 }

unfoldable pub inclusion : Reader Include
inclusion = made include_of (both (place k.Include) (both optional_name (both (word k.Literal) (place k.Semicolon))))

unfoldable pub unsigned : Reader (Option Place)
unsigned = optional is_unsigned (quoted (codes "unsigned"))

abbrev pub alphtype_of : Place × (Option Place × (AlphabetWord × Place)) → Alphtype
alphtype_of x = record { start = x.0; unsigned = x.1.0; word = x.1.1.0; semicolon = x.1.1.1 }

unfoldable pub alphtype : Reader Alphtype
alphtype = made alphtype_of (both (place k.Alphtype) (both unsigned (both alphabet_word (place k.Semicolon))))

abbrev pub access_of : Place × (Word × Place) → Access
access_of x = record { start = x.0; text = x.1.0; semicolon = x.1.1 }

unfoldable pub access : Reader Access
access = made access_of (both (place k.Access) (both (word k.Text) (place k.Semicolon)))

abbrev pub variable_of : Place × (Word × (Word × Place)) → Variable
variable_of x = record { start = x.0; name = x.1.0; text = x.1.1.0; semicolon = x.1.1.1 }

unfoldable pub variable : Reader Variable
variable = made variable_of (both (place k.Variable) (both variable_name (both (word k.Text) (place k.Semicolon))))

unfoldable pub write_options : Reader (List WriteOption)
write_options = many (by_kind is_name) write_option

abbrev pub write_of : Place × (WriteKind × (List WriteOption × Place)) → Write
write_of x = record { start = x.0; what = x.1.0; options = x.1.1.0; semicolon = x.1.1.1 }

unfoldable pub write : Reader Write
write = made write_of (both (place k.Write) (both write_kind (both write_options (place k.Semicolon))))

abbrev pub action_statement_of : Place × (Word × Word) → Action
action_statement_of x = record { start = x.0; name = x.1.0; code = x.1.1 }

unfoldable pub action_statement : Reader Action
action_statement = made action_statement_of (both (place k.Action) (both (word k.Name) (word k.Code)))

abbrev pub defined_of : Word × (DefinitionSign × (Union × Place)) → Definition
defined_of x = record { name = x.0; sign = x.1.0; value = x.1.1.0; semicolon = x.1.1.1 }

unfoldable pub defined : ℕ → Reader Definition
defined depth = made defined_of (both (word k.Name) (both definition_sign (both (united (nested depth)) (place k.Semicolon))))

abbrev pub statement_of : Machine ⊎ (Include ⊎ (Alphtype ⊎ (Access ⊎ (Variable ⊎ (Write ⊎ (Action ⊎ Definition)))))) → Statement
statement_of (inl s) = statement.Machine s
statement_of (inr (inl s)) = statement.Include s
statement_of (inr (inr (inl s))) = statement.Alphtype s
statement_of (inr (inr (inr (inl s)))) = statement.Access s
statement_of (inr (inr (inr (inr (inl s))))) = statement.Variable s
statement_of (inr (inr (inr (inr (inr (inl s)))))) = statement.Write s
statement_of (inr (inr (inr (inr (inr (inr (inl s))))))) = statement.Action s
statement_of (inr (inr (inr (inr (inr (inr (inr s))))))) = statement.Definition s

unfoldable pub one_statement : ℕ → Reader Statement
one_statement depth = made statement_of
    (either (is k.Machine) machine
    (either (is k.Include) inclusion
    (either (is k.Alphtype) alphtype
    (either (is k.Access) access
    (either (is k.Variable) variable
    (either (is k.Write) write
    (either (is k.Action) action_statement (defined depth))))))))

unfoldable pub statements : ℕ → Reader (List Statement)
statements depth = many (by_kind begins_statement) (one_statement depth)

abbrev pub block_of : List Statement × Place → Syntax
block_of x = record { statements = x.0; end = x.1 }

unfoldable pub block : ℕ → Reader Syntax
block depth = made block_of (both (statements depth) (place k.End))
