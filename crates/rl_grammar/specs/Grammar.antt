-- The grammar: what each tree spells, and whether it belongs to the language.
use Rattle.std.specs.Prelude.{◌≡◌, ◌+◌, ◌<◌, length, take, ℕ, Bool, ◌&&◌, not, true, false, List, [], ◌∷◌, ◌++◌, Option, Some, None, codes}
use Rattle.std.specs.List.{flat_map, list_any}
use Rattle.std.specs.Str.{bytes_eq}
use Rattle.rl_types.specs.declared.numbers.Place.{Place}
use Rattle.rl_grammar.specs.Lexeme.{Lexeme, lexemes, same_kind}
use Rattle.rl_grammar.specs.Literals.{is_character}
use Rattle.rl_grammar.specs.Marks.{mark_text}
use Rattle.rl_grammar.specs.declared.token.Token.{Token}
use Rattle.rl_grammar.specs.declared.token.TokenKind.{TokenKind}
use Rattle.rl_grammar.specs.declared.token.TokenKind.TheVariants as k
use Rattle.rl_grammar.specs.declared.syntax.Word.{Word}
use Rattle.rl_grammar.specs.declared.syntax.Syntax.{Syntax}
use Rattle.rl_grammar.specs.declared.syntax.Statement.{Statement}
use Rattle.rl_grammar.specs.declared.syntax.Statement.TheVariants as statement
use Rattle.rl_grammar.specs.declared.syntax.Machine.{Machine}
use Rattle.rl_grammar.specs.declared.syntax.Include.{Include}
use Rattle.rl_grammar.specs.declared.syntax.Alphtype.{Alphtype}
use Rattle.rl_grammar.specs.declared.syntax.AlphabetWord.{AlphabetWord}
use Rattle.rl_grammar.specs.declared.syntax.AlphabetWord.TheVariants as alphabet
use Rattle.rl_grammar.specs.declared.syntax.Access.{Access}
use Rattle.rl_grammar.specs.declared.syntax.Variable.{Variable}
use Rattle.rl_grammar.specs.declared.syntax.Write.{Write}
use Rattle.rl_grammar.specs.declared.syntax.WriteKind.{WriteKind}
use Rattle.rl_grammar.specs.declared.syntax.WriteKind.TheVariants as written
use Rattle.rl_grammar.specs.declared.syntax.WriteOption.{WriteOption}
use Rattle.rl_grammar.specs.declared.syntax.WriteOption.TheVariants as option
use Rattle.rl_grammar.specs.declared.syntax.Action.{Action}
use Rattle.rl_grammar.specs.declared.syntax.Definition.{Definition}
use Rattle.rl_grammar.specs.declared.syntax.DefinitionSign.{DefinitionSign}
use Rattle.rl_grammar.specs.declared.syntax.DefinitionSign.TheVariants as definition
use Rattle.rl_grammar.specs.declared.syntax.UnionSign.{UnionSign}
use Rattle.rl_grammar.specs.declared.syntax.UnionSign.TheVariants as union
use Rattle.rl_grammar.specs.declared.syntax.ConcatenationSign.{ConcatenationSign}
use Rattle.rl_grammar.specs.declared.syntax.ConcatenationSign.TheVariants as concatenation
use Rattle.rl_grammar.specs.declared.syntax.Embedding.{Embedding}
use Rattle.rl_grammar.specs.declared.syntax.Embedding.TheVariants as embedding
use Rattle.rl_grammar.specs.declared.syntax.TransitionSign.{TransitionSign}
use Rattle.rl_grammar.specs.declared.syntax.TransitionSign.TheVariants as transition
use Rattle.rl_grammar.specs.declared.syntax.Mark.{Mark}
use Rattle.rl_grammar.specs.declared.syntax.Label.{Label}
use Rattle.rl_grammar.specs.declared.syntax.Label.TheVariants as label
use Rattle.rl_grammar.specs.declared.syntax.ActionUse.{ActionUse}
use Rattle.rl_grammar.specs.declared.syntax.ActionUse.TheVariants as action
use Rattle.rl_grammar.specs.declared.syntax.Priority.{Priority}
use Rattle.rl_grammar.specs.declared.syntax.Priority.TheVariants as priority
use Rattle.rl_grammar.specs.declared.syntax.NamedPriority.{NamedPriority}
use Rattle.rl_grammar.specs.declared.syntax.Number.{Number}
use Rattle.rl_grammar.specs.declared.syntax.Repetition.{Repetition}
use Rattle.rl_grammar.specs.declared.syntax.Repetition.TheVariants as repetition
use Rattle.rl_grammar.specs.declared.syntax.Count.{Count}
use Rattle.rl_grammar.specs.declared.syntax.Bounds.{Bounds}
use Rattle.rl_grammar.specs.declared.syntax.Bounds.TheVariants as bounds
use Rattle.rl_grammar.specs.declared.syntax.Negation.{Negation}
use Rattle.rl_grammar.specs.declared.syntax.Negation.TheVariants as negation
use Rattle.rl_grammar.specs.declared.syntax.Key.{Key}
use Rattle.rl_grammar.specs.declared.syntax.Key.TheVariants as key
use Rattle.rl_grammar.specs.declared.syntax.PatternAction.{PatternAction}
use Rattle.rl_grammar.specs.declared.syntax.Operand.{Operand}
use Rattle.rl_grammar.specs.declared.syntax.Concatenation.{Concatenation}
use Rattle.rl_grammar.specs.declared.syntax.ConcatenationPart.{ConcatenationPart}
use Rattle.rl_grammar.specs.declared.syntax.Embedded.{Embedded}
use Rattle.rl_grammar.specs.declared.syntax.Negated.{Negated}
use Rattle.rl_grammar.specs.declared.syntax.Pattern.{Pattern}
use Rattle.rl_grammar.specs.declared.syntax.Repeated.{Repeated}
use Rattle.rl_grammar.specs.declared.syntax.Scanner.{Scanner}
use Rattle.rl_grammar.specs.declared.syntax.Union.{Union}
use Rattle.rl_grammar.specs.declared.syntax.UnionPart.{UnionPart}
use Rattle.rl_grammar.specs.declared.syntax.Operand.TheOpen.{Operand-F, Concatenation-F, ConcatenationPart-F, Embedded-F, Negated-F, Pattern-F, Repeated-F, Scanner-F, Union-F, UnionPart-F}
use Rattle.rl_grammar.specs.declared.syntax.Operand.TheOpen as operand
use Rattle.rl_grammar.specs.declared.syntax.Operand.TheFolds.{fold-Operand, fold-Concatenation, fold-ConcatenationPart, fold-Embedded, fold-Negated, fold-Pattern, fold-Repeated, fold-Scanner, fold-Union, fold-UnionPart}

abbrev pub Text : Type 0
Text = List Lexeme

-- ---- tokens

-- a token that is its kind and place alone
abbrev pub mark : TokenKind → Place → Text
mark kind place = record { kind = kind; text = []; place = place } ∷ []

-- a token that stands for its text
abbrev pub word : TokenKind → Word → Text
word kind w = record { kind = kind; text = w.text; place = w.place } ∷ []

-- a name that the grammar quotes
abbrev pub quoted : List ℕ → Place → Text
quoted text place = record { kind = k.Name; text = text; place = place } ∷ []

abbrev pub state_mark : Mark → Text
state_mark m = record { kind = k.Mark; text = mark_text m.class m.kind; place = m.place } ∷ []

-- ---- operands' parts

abbrev pub minus_text : Option Place → Text
minus_text None = []
minus_text (Some place) = mark k.Minus place

abbrev pub number_text : Number → Text
number_text n = minus_text n.minus ++ word k.Integer n.digits

abbrev pub key_text : Key → Text
key_text (key.Number n) = number_text n
key_text (key.Character w) = word k.Literal w

-- a literal that is the end of a range has one character and no suffix `i`
abbrev pub key_fits : Key → Bool
key_fits (key.Number n) = true
key_fits (key.Character w) = is_character w.text

abbrev pub action_use_text : ActionUse → Text
action_use_text (action.Name w) = word k.Name w
action_use_text (action.Group opening w closing) = mark k.OpenParenthesis opening ++ (word k.Name w ++ mark k.CloseParenthesis closing)
action_use_text (action.Code w) = word k.Code w

abbrev pub named_priority_text : NamedPriority → Text
named_priority_text p = mark k.OpenParenthesis p.opening ++ (word k.Name p.name ++ (mark k.Comma p.comma ++ (number_text p.value ++ mark k.CloseParenthesis p.closing)))

abbrev pub priority_text : Priority → Text
priority_text (priority.Plain n) = number_text n
priority_text (priority.Named p) = named_priority_text p

abbrev pub label_text : Label → Text
label_text (label.Action a) = action_use_text a
label_text (label.Priority p) = priority_text p

abbrev pub transition_text : TransitionSign → Text
transition_text (transition.Entering place) = mark k.Greater place
transition_text (transition.Finishing place) = mark k.At place
transition_text (transition.All place) = mark k.Dollar place
transition_text (transition.Leaving place) = mark k.Percent place

abbrev pub embedding_text : Embedding → Text
embedding_text (embedding.Transition sign l) = transition_text sign ++ label_text l
embedding_text (embedding.State m a) = state_mark m ++ action_use_text a
embedding_text (embedding.When place a) = mark k.When place ++ action_use_text a

abbrev pub bounds_text : Bounds → Text
bounds_text (bounds.AtMost comma most) = mark k.Comma comma ++ word k.Integer most
bounds_text (bounds.Exactly times) = word k.Integer times
bounds_text (bounds.AtLeast least comma) = word k.Integer least ++ mark k.Comma comma
bounds_text (bounds.Between least comma most) = word k.Integer least ++ (mark k.Comma comma ++ word k.Integer most)

abbrev pub count_text : Count → Text
count_text c = mark k.OpenBrace c.opening ++ (bounds_text c.bounds ++ mark k.CloseBrace c.closing)

abbrev pub repetition_text : Repetition → Text
repetition_text (repetition.Star place) = mark k.Star place
repetition_text (repetition.LongestStar place) = mark k.DoubleStar place
repetition_text (repetition.Optional place) = mark k.Question place
repetition_text (repetition.Plus place) = mark k.Plus place
repetition_text (repetition.Count c) = count_text c

abbrev pub negation_text : Negation → Text
negation_text (negation.Language place) = mark k.Exclamation place
negation_text (negation.Character place) = mark k.Caret place

abbrev pub union_sign_text : UnionSign → Text
union_sign_text (union.Union place) = mark k.Bar place
union_sign_text (union.Intersection place) = mark k.Ampersand place
union_sign_text (union.Difference place) = mark k.Minus place
union_sign_text (union.StrongDifference place) = mark k.DoubleMinus place

abbrev pub concatenation_sign_text : ConcatenationSign → Text
concatenation_sign_text (concatenation.Plain place) = mark k.Dot place
concatenation_sign_text (concatenation.LeftGuarded place) = mark k.LeftGuard place
concatenation_sign_text (concatenation.EntryGuarded place) = mark k.EntryGuard place
concatenation_sign_text (concatenation.FinishGuarded place) = mark k.FinishGuard place

abbrev pub joined_text : Option ConcatenationSign → Text
joined_text None = []
joined_text (Some sign) = concatenation_sign_text sign

abbrev pub pattern_action_text : Option PatternAction → Text
pattern_action_text None = []
pattern_action_text (Some a) = mark k.Arrow a.arrow ++ action_use_text a.action

-- ---- expressions

-- what a tree spells, and whether it belongs to the grammar
pub record Told : Type 0 where
  pub text : Text
  pub fits : Bool

abbrev pub told_text : Told → Text
told_text t = t.text

abbrev pub all_fit : List Told → Bool
all_fit [] = true
all_fit (t ∷ ts) = t.fits && all_fit ts

abbrev pub begins_with_minus : Text → Bool
begins_with_minus [] = false
begins_with_minus (l ∷ ls) = same_kind l.kind k.Minus

abbrev pub is_adjacent : Option ConcatenationSign → Bool
is_adjacent None = true
is_adjacent (Some sign) = false

abbrev pub operand_step : Operand-F Told Told Told Told Told Told Told Told Told Told → Told
operand_step (operand.Literal w) = record { text = word k.Literal w; fits = true }
operand_step (operand.Number n) = record { text = number_text n; fits = true }
operand_step (operand.Range low dots high) = record { text = key_text low ++ (mark k.DotDot dots ++ key_text high); fits = key_fits low && key_fits high }
operand_step (operand.Set w) = record { text = word k.Set w; fits = true }
operand_step (operand.RegularExpression w) = record { text = word k.RegularExpression w; fits = true }
operand_step (operand.Name w) = record { text = word k.Name w; fits = true }
operand_step (operand.Group opening inner closing) = record { text = mark k.OpenParenthesis opening ++ (inner.text ++ mark k.CloseParenthesis closing); fits = inner.fits }
operand_step (operand.Scanner s) = s

abbrev pub negated_step : Negated-F Told Told Told Told Told Told Told Told Told Told → Told
negated_step n = record { text = flat_map negation_text n.negations ++ n.operand.text; fits = n.operand.fits }

abbrev pub repeated_step : Repeated-F Told Told Told Told Told Told Told Told Told Told → Told
repeated_step r = record { text = r.operand.text ++ flat_map repetition_text r.repetitions; fits = r.operand.fits }

abbrev pub embedded_step : Embedded-F Told Told Told Told Told Told Told Told Told Told → Told
embedded_step e = record { text = e.operand.text ++ flat_map embedding_text e.embeddings; fits = e.operand.fits }

-- behind an operand a `-` is a difference, so that no operand that stands beside another begins with it
abbrev pub concatenation_part_step : ConcatenationPart-F Told Told Told Told Told Told Told Told Told Told → Told
concatenation_part_step p = record { text = joined_text p.sign ++ p.operand.text; fits = p.operand.fits && not (is_adjacent p.sign && begins_with_minus p.operand.text) }

abbrev pub concatenation_step : Concatenation-F Told Told Told Told Told Told Told Told Told Told → Told
concatenation_step c = record { text = c.first.text ++ flat_map told_text c.rest; fits = c.first.fits && all_fit c.rest }

abbrev pub union_part_step : UnionPart-F Told Told Told Told Told Told Told Told Told Told → Told
union_part_step p = record { text = union_sign_text p.sign ++ p.operand.text; fits = p.operand.fits }

abbrev pub union_step : Union-F Told Told Told Told Told Told Told Told Told Told → Told
union_step u = record { text = u.first.text ++ flat_map told_text u.rest; fits = u.first.fits && all_fit u.rest }

abbrev pub pattern_step : Pattern-F Told Told Told Told Told Told Told Told Told Told → Told
pattern_step p = record { text = p.value.text ++ (pattern_action_text p.action ++ mark k.Semicolon p.semicolon); fits = p.value.fits }

abbrev pub scanner_step : Scanner-F Told Told Told Told Told Told Told Told Told Told → Told
scanner_step s = record { text = mark k.OpenScanner s.opening ++ (s.first.text ++ (flat_map told_text s.rest ++ mark k.CloseScanner s.closing)); fits = s.first.fits && all_fit s.rest }

unfoldable pub operand_told : Operand → Told
operand_told = fold-Operand Told Told Told Told Told Told Told Told Told Told
    operand_step concatenation_step concatenation_part_step embedded_step negated_step pattern_step repeated_step scanner_step union_step union_part_step

unfoldable pub concatenation_told : Concatenation → Told
concatenation_told = fold-Concatenation Told Told Told Told Told Told Told Told Told Told
    operand_step concatenation_step concatenation_part_step embedded_step negated_step pattern_step repeated_step scanner_step union_step union_part_step

unfoldable pub concatenation_part_told : ConcatenationPart → Told
concatenation_part_told = fold-ConcatenationPart Told Told Told Told Told Told Told Told Told Told
    operand_step concatenation_step concatenation_part_step embedded_step negated_step pattern_step repeated_step scanner_step union_step union_part_step

unfoldable pub embedded_told : Embedded → Told
embedded_told = fold-Embedded Told Told Told Told Told Told Told Told Told Told
    operand_step concatenation_step concatenation_part_step embedded_step negated_step pattern_step repeated_step scanner_step union_step union_part_step

unfoldable pub negated_told : Negated → Told
negated_told = fold-Negated Told Told Told Told Told Told Told Told Told Told
    operand_step concatenation_step concatenation_part_step embedded_step negated_step pattern_step repeated_step scanner_step union_step union_part_step

unfoldable pub pattern_told : Pattern → Told
pattern_told = fold-Pattern Told Told Told Told Told Told Told Told Told Told
    operand_step concatenation_step concatenation_part_step embedded_step negated_step pattern_step repeated_step scanner_step union_step union_part_step

unfoldable pub repeated_told : Repeated → Told
repeated_told = fold-Repeated Told Told Told Told Told Told Told Told Told Told
    operand_step concatenation_step concatenation_part_step embedded_step negated_step pattern_step repeated_step scanner_step union_step union_part_step

unfoldable pub scanner_told : Scanner → Told
scanner_told = fold-Scanner Told Told Told Told Told Told Told Told Told Told
    operand_step concatenation_step concatenation_part_step embedded_step negated_step pattern_step repeated_step scanner_step union_step union_part_step

unfoldable pub union_told : Union → Told
union_told = fold-Union Told Told Told Told Told Told Told Told Told Told
    operand_step concatenation_step concatenation_part_step embedded_step negated_step pattern_step repeated_step scanner_step union_step union_part_step

unfoldable pub union_part_told : UnionPart → Told
union_part_told = fold-UnionPart Told Told Told Told Told Told Told Told Told Told
    operand_step concatenation_step concatenation_part_step embedded_step negated_step pattern_step repeated_step scanner_step union_step union_part_step

abbrev pub union_text : Union → Text
union_text u = (union_told u).text

abbrev pub union_fits : Union → Bool
union_fits u = (union_told u).fits

-- ---- statements

abbrev pub machine_text : Machine → Text
machine_text s = mark k.Machine s.start ++ (word k.Name s.name ++ mark k.Semicolon s.semicolon)

abbrev pub optional_name_text : Option Word → Text
optional_name_text None = []
optional_name_text (Some w) = word k.Name w

abbrev pub include_text : Include → Text
include_text s = mark k.Include s.start ++ (optional_name_text s.machine ++ (word k.Literal s.file ++ mark k.Semicolon s.semicolon))

abbrev pub unsigned_text : Option Place → Text
unsigned_text None = []
unsigned_text (Some place) = quoted (codes "unsigned") place

abbrev pub alphabet_word_text : AlphabetWord → Text
alphabet_word_text (alphabet.Char place) = quoted (codes "char") place
alphabet_word_text (alphabet.Short place) = quoted (codes "short") place
alphabet_word_text (alphabet.Int place) = quoted (codes "int") place

abbrev pub alphtype_text : Alphtype → Text
alphtype_text s = mark k.Alphtype s.start ++ (unsigned_text s.unsigned ++ (alphabet_word_text s.word ++ mark k.Semicolon s.semicolon))

abbrev pub access_text : Access → Text
access_text s = mark k.Access s.start ++ (word k.Text s.text ++ mark k.Semicolon s.semicolon)

abbrev pub variable_text : Variable → Text
variable_text s = mark k.Variable s.start ++ (word k.Name s.name ++ (word k.Text s.text ++ mark k.Semicolon s.semicolon))

-- the names of variables
abbrev pub variables : List (List ℕ)
variables = codes "p" ∷ codes "pe" ∷ codes "eof" ∷ codes "cs" ∷ codes "top" ∷ codes "stack" ∷ codes "act" ∷ codes "ts" ∷ codes "te" ∷ []

abbrev pub is_variable : List ℕ → Bool
is_variable text = list_any (bytes_eq text) variables

abbrev pub write_kind_text : WriteKind → Text
write_kind_text (written.Data place) = quoted (codes "data") place
write_kind_text (written.Init place) = quoted (codes "init") place
write_kind_text (written.Exec place) = quoted (codes "exec") place

abbrev pub write_option_text : WriteOption → Text
write_option_text (option.NoError place) = quoted (codes "noerror") place
write_option_text (option.NoFinal place) = quoted (codes "nofinal") place

abbrev pub write_text : Write → Text
write_text s = mark k.Write s.start ++ (write_kind_text s.what ++ (flat_map write_option_text s.options ++ mark k.Semicolon s.semicolon))

abbrev pub action_text : Action → Text
action_text s = mark k.Action s.start ++ (word k.Name s.name ++ word k.Code s.code)

abbrev pub definition_sign_text : DefinitionSign → Text
definition_sign_text (definition.Name place) = mark k.Equals place
definition_sign_text (definition.Instantiation place) = mark k.ColonEquals place

abbrev pub definition_text : Definition → Text
definition_text s = word k.Name s.name ++ (definition_sign_text s.sign ++ (union_text s.value ++ mark k.Semicolon s.semicolon))

abbrev pub statement_text : Statement → Text
statement_text (statement.Machine s) = machine_text s
statement_text (statement.Include s) = include_text s
statement_text (statement.Alphtype s) = alphtype_text s
statement_text (statement.Access s) = access_text s
statement_text (statement.Variable s) = variable_text s
statement_text (statement.Write s) = write_text s
statement_text (statement.Action s) = action_text s
statement_text (statement.Definition s) = definition_text s

abbrev pub statement_fits : Statement → Bool
statement_fits (statement.Machine s) = true
statement_fits (statement.Include s) = true
statement_fits (statement.Alphtype s) = true
statement_fits (statement.Access s) = true
statement_fits (statement.Variable s) = is_variable s.name.text
statement_fits (statement.Write s) = true
statement_fits (statement.Action s) = true
statement_fits (statement.Definition s) = union_fits s.value

abbrev pub all_statements_fit : List Statement → Bool
all_statements_fit [] = true
all_statements_fit (s ∷ ss) = statement_fits s && all_statements_fit ss

-- ---- sentences

-- what a block spells
abbrev pub spell : Syntax → Text
spell s = flat_map statement_text s.statements ++ mark k.End s.end

-- whether a tree belongs to the grammar
abbrev pub fits : Syntax → Bool
fits s = all_statements_fit s.statements

-- the tokens are a sentence of the grammar, and this tree derives it
pub record Derives (s : Syntax) (tokens : List Token) : Type 0 where
  pub spelled : lexemes tokens ≡ spell s
  pub fitting : fits s ≡ true

-- the tokens begin a sentence
pub record Begins (tokens : List Token) : Type 0 where
  pub whole : Syntax
  pub after : List Token
  pub spelled : lexemes (tokens ++ after) ≡ spell whole
  pub fitting : fits whole ≡ true

-- the first token such that the tokens before it begin a sentence and the tokens up to it do not
pub record IsFault (tokens : List Token) (at : ℕ) : Type 0 where
  pub within : at < length tokens
  pub before : Begins (take at tokens)
  pub up_to : Begins (take (at + 1) tokens) → ⊥
