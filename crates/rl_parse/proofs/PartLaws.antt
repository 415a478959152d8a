-- The rules without operands: each is a part of the grammar with its reader.
use Rattle.std.proofs.Common.{◌≡◌, ℕ, Bool, true, List, [], ◌∷◌, ◌++◌, Option, Some, None, ◌⊎◌, inl, inr, refl, sym, ap, ◌∙◌, codes}
use Rattle.std.specs.Prelude.{◌||◌}
use Rattle.std.specs.List.{flat_map}
use Rattle.std.proofs.lemmas.Bool.{cases_Bool}
use Rattle.rl_readers.specs.Readers.{both}
use Rattle.rl_readers.proofs.Good as good
use Rattle.rl_readers.proofs.Phrases.{all_fit}
use Rattle.rl_types.specs.declared.numbers.Place.{Place}
use Rattle.rl_grammar.specs.Grammar as g
use Rattle.rl_grammar.specs.Lexeme.{Lexeme, lexeme, carried, same_kind, short_form}
use Rattle.rl_grammar.specs.Marks.{mark_of, mark_text}
use Rattle.rl_grammar.specs.declared.token.Token.{Token}
use Rattle.rl_grammar.specs.declared.token.TokenKind.{TokenKind}
use Rattle.rl_grammar.specs.declared.token.TokenKind.TheVariants as k
use Rattle.rl_grammar.specs.declared.syntax.Word.{Word}
use Rattle.rl_grammar.specs.declared.syntax.Mark.{Mark}
use Rattle.rl_grammar.specs.declared.syntax.StateClass.{StateClass}
use Rattle.rl_grammar.specs.declared.syntax.StateClass.TheVariants as class
use Rattle.rl_grammar.specs.declared.syntax.StateKind.{StateKind}
use Rattle.rl_grammar.specs.declared.syntax.StateKind.TheVariants as kind
use Rattle.rl_grammar.specs.declared.syntax.Label.{Label}
use Rattle.rl_grammar.specs.declared.syntax.Label.TheVariants as label_is
use Rattle.rl_grammar.specs.declared.syntax.ActionUse.{ActionUse}
use Rattle.rl_grammar.specs.declared.syntax.ActionUse.TheVariants as action_is
use Rattle.rl_grammar.specs.declared.syntax.Priority.TheVariants as priority_is
use Rattle.rl_grammar.specs.declared.syntax.Number.{Number}
use Rattle.rl_grammar.specs.declared.syntax.Repetition.{Repetition}
use Rattle.rl_grammar.specs.declared.syntax.Repetition.TheVariants as repetition_is
use Rattle.rl_grammar.specs.declared.syntax.Count.{Count}
use Rattle.rl_grammar.specs.declared.syntax.Bounds.{Bounds}
use Rattle.rl_grammar.specs.declared.syntax.Bounds.TheVariants as bounds_is
use Rattle.rl_grammar.specs.declared.syntax.Negation.{Negation}
use Rattle.rl_grammar.specs.declared.syntax.Negation.TheVariants as negation_is
use Rattle.rl_grammar.specs.declared.syntax.Key.{Key}
use Rattle.rl_grammar.specs.declared.syntax.Key.TheVariants as key_is
use Rattle.rl_grammar.specs.declared.syntax.PatternAction.{PatternAction}
use Rattle.rl_grammar.specs.declared.syntax.UnionSign.{UnionSign}
use Rattle.rl_grammar.specs.declared.syntax.UnionSign.TheVariants as union_is
use Rattle.rl_grammar.specs.declared.syntax.ConcatenationSign.{ConcatenationSign}
use Rattle.rl_grammar.specs.declared.syntax.ConcatenationSign.TheVariants as concatenation_is
use Rattle.rl_grammar.specs.declared.syntax.TransitionSign.{TransitionSign}
use Rattle.rl_grammar.specs.declared.syntax.TransitionSign.TheVariants as transition_is
use Rattle.rl_grammar.specs.declared.syntax.DefinitionSign.{DefinitionSign}
use Rattle.rl_grammar.specs.declared.syntax.DefinitionSign.TheVariants as definition_is
use Rattle.rl_grammar.specs.declared.syntax.Embedding.{Embedding}
use Rattle.rl_grammar.specs.declared.syntax.Embedding.TheVariants as embedding_is
use Rattle.rl_parse.specs.Classes.{Class, tokens}
use Rattle.rl_parse.specs.Rules as r
use Rattle.rl_parse.specs.declared.words.Ending.{Ending}
use Rattle.rl_parse.specs.declared.words.Ending.TheVariants as ending_is
use Rattle.rl_parse.proofs.AllKinds.{kinds_same, kind_itself, excluded}
use Rattle.rl_parse.proofs.Nodes.{Part, Good, is_end, by, is, always, none, seq, choice, maybe, list_of, Shape, IsNode, node, node_good, Words, begun, named, named_good, and_true}
use Rattle.rl_parse.proofs.Leaves.{some_token, single, place_part, good_place, word_part, good_word, character_part, character_begins, good_character, Shows, of_four, sign_part, good_sign, good_picked}

-- ---- signs

abbrev transition_sign_leaf : TransitionSign → Lexeme
transition_sign_leaf (transition_is.Entering place) = record { kind = k.Greater; text = []; place = place }
transition_sign_leaf (transition_is.Finishing place) = record { kind = k.At; text = []; place = place }
transition_sign_leaf (transition_is.All place) = record { kind = k.Dollar; text = []; place = place }
transition_sign_leaf (transition_is.Leaving place) = record { kind = k.Percent; text = []; place = place }

transition_sign_shows : (kind : TokenKind) → r.begins_transition kind ≡ true → Shows r.begins_transition r.transition_of transition_sign_leaf kind
unfolding same_kind
transition_sign_shows = of_four (Shows r.begins_transition r.transition_of transition_sign_leaf) r.begins_transition k.Greater k.At k.Dollar k.Percent refl (λ text place. refl) (λ text place. refl) (λ text place. refl) (λ text place. refl)

transition_sign_round : (a : TransitionSign) → r.transition_of (transition_sign_leaf a).kind (transition_sign_leaf a).place ≡ a
transition_sign_round (transition_is.Entering place) = refl
transition_sign_round (transition_is.Finishing place) = refl
transition_sign_round (transition_is.All place) = refl
transition_sign_round (transition_is.Leaving place) = refl

transition_sign_begun : (a : TransitionSign) → r.begins_transition (transition_sign_leaf a).kind ≡ true
transition_sign_begun (transition_is.Entering place) = refl
transition_sign_begun (transition_is.Finishing place) = refl
transition_sign_begun (transition_is.All place) = refl
transition_sign_begun (transition_is.Leaving place) = refl

transition_sign_told : (a : TransitionSign) → g.transition_text a ≡ transition_sign_leaf a ∷ []
transition_sign_told (transition_is.Entering place) = refl
transition_sign_told (transition_is.Finishing place) = refl
transition_sign_told (transition_is.All place) = refl
transition_sign_told (transition_is.Leaving place) = refl

abbrev transition_sign_words : Words TransitionSign
transition_sign_words = record { spell = g.transition_text; fits = always; begins = by r.begins_transition; may = none }

abbrev transition_sign_part : Part TransitionSign
transition_sign_part = sign_part r.begins_transition r.transition_of transition_sign_leaf (some_token k.Greater [])

abbrev pub transition_sign_p : Part TransitionSign
transition_sign_p = named transition_sign_words transition_sign_part

pub transition_sign_good : (d e : ℕ) → Good transition_sign_p d e r.transition_sign r.transition_sign
unfolding same_kind
transition_sign_good d e = named_good transition_sign_words transition_sign_part (record { texts = transition_sign_told; tests = λ a. refl; wider = refl; longer = refl }) d e
    (good_sign r.begins_transition r.transition_of transition_sign_leaf transition_sign_shows transition_sign_round transition_sign_begun (some_token k.Greater []) refl (excluded (by r.begins_transition) is_end refl) d e)

abbrev union_sign_leaf : UnionSign → Lexeme
union_sign_leaf (union_is.Union place) = record { kind = k.Bar; text = []; place = place }
union_sign_leaf (union_is.Intersection place) = record { kind = k.Ampersand; text = []; place = place }
union_sign_leaf (union_is.Difference place) = record { kind = k.Minus; text = []; place = place }
union_sign_leaf (union_is.StrongDifference place) = record { kind = k.DoubleMinus; text = []; place = place }

union_sign_shows : (kind : TokenKind) → r.begins_union_part kind ≡ true → Shows r.begins_union_part r.union_of union_sign_leaf kind
unfolding same_kind
union_sign_shows = of_four (Shows r.begins_union_part r.union_of union_sign_leaf) r.begins_union_part k.Bar k.Ampersand k.Minus k.DoubleMinus refl (λ text place. refl) (λ text place. refl) (λ text place. refl) (λ text place. refl)

union_sign_round : (a : UnionSign) → r.union_of (union_sign_leaf a).kind (union_sign_leaf a).place ≡ a
union_sign_round (union_is.Union place) = refl
union_sign_round (union_is.Intersection place) = refl
union_sign_round (union_is.Difference place) = refl
union_sign_round (union_is.StrongDifference place) = refl

union_sign_begun : (a : UnionSign) → r.begins_union_part (union_sign_leaf a).kind ≡ true
union_sign_begun (union_is.Union place) = refl
union_sign_begun (union_is.Intersection place) = refl
union_sign_begun (union_is.Difference place) = refl
union_sign_begun (union_is.StrongDifference place) = refl

union_sign_told : (a : UnionSign) → g.union_sign_text a ≡ union_sign_leaf a ∷ []
union_sign_told (union_is.Union place) = refl
union_sign_told (union_is.Intersection place) = refl
union_sign_told (union_is.Difference place) = refl
union_sign_told (union_is.StrongDifference place) = refl

abbrev union_sign_words : Words UnionSign
union_sign_words = record { spell = g.union_sign_text; fits = always; begins = by r.begins_union_part; may = none }

abbrev union_sign_part : Part UnionSign
union_sign_part = sign_part r.begins_union_part r.union_of union_sign_leaf (some_token k.Bar [])

abbrev pub union_sign_p : Part UnionSign
union_sign_p = named union_sign_words union_sign_part

pub union_sign_good : (d e : ℕ) → Good union_sign_p d e r.union_sign r.union_sign
unfolding same_kind
union_sign_good d e = named_good union_sign_words union_sign_part (record { texts = union_sign_told; tests = λ a. refl; wider = refl; longer = refl }) d e
    (good_sign r.begins_union_part r.union_of union_sign_leaf union_sign_shows union_sign_round union_sign_begun (some_token k.Bar []) refl (excluded (by r.begins_union_part) is_end refl) d e)

abbrev concatenation_sign_leaf : ConcatenationSign → Lexeme
concatenation_sign_leaf (concatenation_is.Plain place) = record { kind = k.Dot; text = []; place = place }
concatenation_sign_leaf (concatenation_is.LeftGuarded place) = record { kind = k.LeftGuard; text = []; place = place }
concatenation_sign_leaf (concatenation_is.EntryGuarded place) = record { kind = k.EntryGuard; text = []; place = place }
concatenation_sign_leaf (concatenation_is.FinishGuarded place) = record { kind = k.FinishGuard; text = []; place = place }

concatenation_sign_shows : (kind : TokenKind) → r.begins_concatenation_sign kind ≡ true → Shows r.begins_concatenation_sign r.concatenation_of concatenation_sign_leaf kind
unfolding same_kind
concatenation_sign_shows = of_four (Shows r.begins_concatenation_sign r.concatenation_of concatenation_sign_leaf) r.begins_concatenation_sign k.Dot k.LeftGuard k.EntryGuard k.FinishGuard refl (λ text place. refl) (λ text place. refl) (λ text place. refl) (λ text place. refl)

concatenation_sign_round : (a : ConcatenationSign) → r.concatenation_of (concatenation_sign_leaf a).kind (concatenation_sign_leaf a).place ≡ a
concatenation_sign_round (concatenation_is.Plain place) = refl
concatenation_sign_round (concatenation_is.LeftGuarded place) = refl
concatenation_sign_round (concatenation_is.EntryGuarded place) = refl
concatenation_sign_round (concatenation_is.FinishGuarded place) = refl

concatenation_sign_begun : (a : ConcatenationSign) → r.begins_concatenation_sign (concatenation_sign_leaf a).kind ≡ true
concatenation_sign_begun (concatenation_is.Plain place) = refl
concatenation_sign_begun (concatenation_is.LeftGuarded place) = refl
concatenation_sign_begun (concatenation_is.EntryGuarded place) = refl
concatenation_sign_begun (concatenation_is.FinishGuarded place) = refl

concatenation_sign_told : (a : ConcatenationSign) → g.concatenation_sign_text a ≡ concatenation_sign_leaf a ∷ []
concatenation_sign_told (concatenation_is.Plain place) = refl
concatenation_sign_told (concatenation_is.LeftGuarded place) = refl
concatenation_sign_told (concatenation_is.EntryGuarded place) = refl
concatenation_sign_told (concatenation_is.FinishGuarded place) = refl

abbrev concatenation_sign_words : Words ConcatenationSign
concatenation_sign_words = record { spell = g.concatenation_sign_text; fits = always; begins = by r.begins_concatenation_sign; may = none }

abbrev concatenation_sign_part : Part ConcatenationSign
concatenation_sign_part = sign_part r.begins_concatenation_sign r.concatenation_of concatenation_sign_leaf (some_token k.Dot [])

abbrev pub concatenation_sign_p : Part ConcatenationSign
concatenation_sign_p = named concatenation_sign_words concatenation_sign_part

pub concatenation_sign_good : (d e : ℕ) → Good concatenation_sign_p d e r.concatenation_sign r.concatenation_sign
unfolding same_kind
concatenation_sign_good d e = named_good concatenation_sign_words concatenation_sign_part (record { texts = concatenation_sign_told; tests = λ a. refl; wider = refl; longer = refl }) d e
    (good_sign r.begins_concatenation_sign r.concatenation_of concatenation_sign_leaf concatenation_sign_shows concatenation_sign_round concatenation_sign_begun (some_token k.Dot []) refl (excluded (by r.begins_concatenation_sign) is_end refl) d e)

abbrev negation_leaf : Negation → Lexeme
negation_leaf (negation_is.Language place) = record { kind = k.Exclamation; text = []; place = place }
negation_leaf (negation_is.Character place) = record { kind = k.Caret; text = []; place = place }

negation_shows : (kind : TokenKind) → r.begins_negation kind ≡ true → Shows r.begins_negation r.negation_of negation_leaf kind
unfolding same_kind
negation_shows = of_four (Shows r.begins_negation r.negation_of negation_leaf) r.begins_negation k.Exclamation k.Caret k.Caret k.Caret refl (λ text place. refl) (λ text place. refl) (λ text place. refl) (λ text place. refl)

negation_round : (a : Negation) → r.negation_of (negation_leaf a).kind (negation_leaf a).place ≡ a
negation_round (negation_is.Language place) = refl
negation_round (negation_is.Character place) = refl

negation_begun : (a : Negation) → r.begins_negation (negation_leaf a).kind ≡ true
negation_begun (negation_is.Language place) = refl
negation_begun (negation_is.Character place) = refl

negation_told : (a : Negation) → g.negation_text a ≡ negation_leaf a ∷ []
negation_told (negation_is.Language place) = refl
negation_told (negation_is.Character place) = refl

abbrev negation_words : Words Negation
negation_words = record { spell = g.negation_text; fits = always; begins = by r.begins_negation; may = none }

abbrev negation_part : Part Negation
negation_part = sign_part r.begins_negation r.negation_of negation_leaf (some_token k.Exclamation [])

abbrev pub negation_p : Part Negation
negation_p = named negation_words negation_part

pub negation_good : (d e : ℕ) → Good negation_p d e r.negation_sign r.negation_sign
unfolding same_kind
negation_good d e = named_good negation_words negation_part (record { texts = negation_told; tests = λ a. refl; wider = refl; longer = refl }) d e
    (good_sign r.begins_negation r.negation_of negation_leaf negation_shows negation_round negation_begun (some_token k.Exclamation []) refl (excluded (by r.begins_negation) is_end refl) d e)

abbrev definition_sign_leaf : DefinitionSign → Lexeme
definition_sign_leaf (definition_is.Name place) = record { kind = k.Equals; text = []; place = place }
definition_sign_leaf (definition_is.Instantiation place) = record { kind = k.ColonEquals; text = []; place = place }

definition_sign_shows : (kind : TokenKind) → r.begins_definition_sign kind ≡ true → Shows r.begins_definition_sign r.definition_of definition_sign_leaf kind
unfolding same_kind
definition_sign_shows = of_four (Shows r.begins_definition_sign r.definition_of definition_sign_leaf) r.begins_definition_sign k.Equals k.ColonEquals k.ColonEquals k.ColonEquals refl (λ text place. refl) (λ text place. refl) (λ text place. refl) (λ text place. refl)

definition_sign_round : (a : DefinitionSign) → r.definition_of (definition_sign_leaf a).kind (definition_sign_leaf a).place ≡ a
definition_sign_round (definition_is.Name place) = refl
definition_sign_round (definition_is.Instantiation place) = refl

definition_sign_begun : (a : DefinitionSign) → r.begins_definition_sign (definition_sign_leaf a).kind ≡ true
definition_sign_begun (definition_is.Name place) = refl
definition_sign_begun (definition_is.Instantiation place) = refl

definition_sign_told : (a : DefinitionSign) → g.definition_sign_text a ≡ definition_sign_leaf a ∷ []
definition_sign_told (definition_is.Name place) = refl
definition_sign_told (definition_is.Instantiation place) = refl

abbrev definition_sign_words : Words DefinitionSign
definition_sign_words = record { spell = g.definition_sign_text; fits = always; begins = by r.begins_definition_sign; may = none }

abbrev definition_sign_part : Part DefinitionSign
definition_sign_part = sign_part r.begins_definition_sign r.definition_of definition_sign_leaf (some_token k.Equals [])

abbrev pub definition_sign_p : Part DefinitionSign
definition_sign_p = named definition_sign_words definition_sign_part

pub definition_sign_good : (d e : ℕ) → Good definition_sign_p d e r.definition_sign r.definition_sign
unfolding same_kind
definition_sign_good d e = named_good definition_sign_words definition_sign_part (record { texts = definition_sign_told; tests = λ a. refl; wider = refl; longer = refl }) d e
    (good_sign r.begins_definition_sign r.definition_of definition_sign_leaf definition_sign_shows definition_sign_round definition_sign_begun (some_token k.Equals []) refl (excluded (by r.begins_definition_sign) is_end refl) d e)

-- ---- a class of states with a kind of embedding

abbrev state_mark_leaf : Mark → Lexeme
state_mark_leaf m = record { kind = k.Mark; text = mark_text m.class m.kind; place = m.place }

-- the short form of a mark names it
named_back : (c : StateClass) (e : StateKind) → mark_of (mark_text c e) ≡ Some (c, e)
named_back class.Start kind.To = refl
named_back class.Start kind.From = refl
named_back class.Start kind.Eof = refl
named_back class.Start kind.Error = refl
named_back class.NotStart kind.To = refl
named_back class.NotStart kind.From = refl
named_back class.NotStart kind.Eof = refl
named_back class.NotStart kind.Error = refl
named_back class.All kind.To = refl
named_back class.All kind.From = refl
named_back class.All kind.Eof = refl
named_back class.All kind.Error = refl
named_back class.Final kind.To = refl
named_back class.Final kind.From = refl
named_back class.Final kind.Eof = refl
named_back class.Final kind.Error = refl
named_back class.NotFinal kind.To = refl
named_back class.NotFinal kind.From = refl
named_back class.NotFinal kind.Eof = refl
named_back class.NotFinal kind.Error = refl
named_back class.Middle kind.To = refl
named_back class.Middle kind.From = refl
named_back class.Middle kind.Eof = refl
named_back class.Middle kind.Error = refl

known_there : (t : Token) (named : Option (StateClass × StateKind)) (m : Mark) → mark_of t.text ≡ named → t.kind ≡ k.Mark → r.mark_there named t.place ≡ Some m → lexeme t ≡ state_mark_leaf m
known_there t None m e is h = cc
known_there t (Some x) m e is h =
    let one : record { class = x.0; kind = x.1; place = t.place } ≡ m = cc in
    let text : carried t.kind t.text ≡ mark_text x.0 x.1 = ap (λ z. carried z t.text) is ∙ ap (λ z. short_form z t.text) e in
    ap (λ z. record { kind = z; text = carried t.kind t.text; place = t.place }) is ∙ (ap (λ z. record { kind = k.Mark; text = z; place = t.place }) text ∙ ap state_mark_leaf one)

mark_gives : (t : Token) (m : Mark) → r.known_mark t ≡ Some m → lexeme t ≡ state_mark_leaf m
mark_gives t m e = elim (cases_Bool (same_kind t.kind k.Mark)) [
  | inl hit ↦
      let there : r.mark_there (mark_of t.text) t.place ≡ Some m = rw hit at e in
      known_there t (mark_of t.text) m refl (kinds_same t.kind k.Mark hit) there
  | inr miss ↦ (let there : ◌≡◌ {A = Option Mark} None (Some m) = rw miss at e in cc (there))
]

short_names : (named : Option (StateClass × StateKind)) (text : List ℕ) (c : StateClass) (e : StateKind) → mark_of text ≡ named → short_form named text ≡ mark_text c e → named ≡ Some (c, e)
short_names None text c e is h = sym is ∙ (ap mark_of h ∙ named_back c e)
short_names (Some x) text c e is h = sym (named_back x.0 x.1) ∙ (ap mark_of h ∙ named_back c e)

mark_back : (t : Token) (m : Mark) → lexeme t ≡ state_mark_leaf m → r.known_mark t ≡ Some m
mark_back t m e =
    let is : t.kind ≡ k.Mark = ap (λ z. z.kind) e in
    let hit : same_kind t.kind k.Mark ≡ true = ap (λ z. same_kind z k.Mark) is ∙ kind_itself k.Mark in
    let text : carried t.kind t.text ≡ mark_text m.class m.kind = ap (λ z. z.text) e in
    let short : short_form (mark_of t.text) t.text ≡ mark_text m.class m.kind = ap (λ z. carried z t.text) (sym is) ∙ text in
    let named : mark_of t.text ≡ Some (m.class, m.kind) = short_names (mark_of t.text) t.text m.class m.kind refl short in
    let at : t.place ≡ m.place = ap (λ z. z.place) e in
    rw hit (rw named (ap (λ z. Some (record { class = m.class; kind = m.kind; place = z })) at))

abbrev other_mark : Token → Mark
other_mark t = record { class = class.Start; kind = kind.To; place = t.place }

abbrev mark_token : Token
mark_token = some_token k.Mark (codes ">~")

abbrev pub state_mark_p : Part Mark
state_mark_p = single (λ t. r.value_or (r.known_mark t) (other_mark t)) state_mark_leaf always (is k.Mark) mark_token

pub state_mark_good : (d e : ℕ) → Good state_mark_p d e r.state_mark r.state_mark
unfolding same_kind
state_mark_good d e = good_picked r.known_mark other_mark state_mark_leaf (is k.Mark) mark_gives mark_back (λ a. refl) mark_token refl (excluded (is k.Mark) is_end refl) d e

-- ---- numbers and keys

abbrev pub name_text : List ℕ
name_text = codes "a"

abbrev pub name_p : Part Word
name_p = word_part k.Name name_text

pub name_good : (d e : ℕ) → Good name_p d e (r.word k.Name) (r.word k.Name)
unfolding same_kind
name_good d e = good_word k.Name name_text (λ text. refl) refl d e

abbrev pub integer_p : Part Word
integer_p = word_part k.Integer (codes "0")

pub integer_good : (d e : ℕ) → Good integer_p d e (r.word k.Integer) (r.word k.Integer)
unfolding same_kind
integer_good d e = good_word k.Integer (codes "0") (λ text. refl) refl d e

abbrev pub code_p : Part Word
code_p = word_part k.Code (codes "{}")

pub code_good : (d e : ℕ) → Good code_p d e (r.word k.Code) (r.word k.Code)
unfolding same_kind
code_good d e = good_word k.Code (codes "{}") (λ text. refl) refl d e

pub at_Minus : (d e : ℕ) → Good (place_part k.Minus) d e (r.place k.Minus) (r.place k.Minus)
unfolding same_kind
at_Minus d e = good_place k.Minus (λ text. refl) refl d e

pub at_DotDot : (d e : ℕ) → Good (place_part k.DotDot) d e (r.place k.DotDot) (r.place k.DotDot)
unfolding same_kind
at_DotDot d e = good_place k.DotDot (λ text. refl) refl d e

pub at_OpenParenthesis : (d e : ℕ) → Good (place_part k.OpenParenthesis) d e (r.place k.OpenParenthesis) (r.place k.OpenParenthesis)
unfolding same_kind
at_OpenParenthesis d e = good_place k.OpenParenthesis (λ text. refl) refl d e

pub at_CloseParenthesis : (d e : ℕ) → Good (place_part k.CloseParenthesis) d e (r.place k.CloseParenthesis) (r.place k.CloseParenthesis)
unfolding same_kind
at_CloseParenthesis d e = good_place k.CloseParenthesis (λ text. refl) refl d e

pub at_Comma : (d e : ℕ) → Good (place_part k.Comma) d e (r.place k.Comma) (r.place k.Comma)
unfolding same_kind
at_Comma d e = good_place k.Comma (λ text. refl) refl d e

pub at_When : (d e : ℕ) → Good (place_part k.When) d e (r.place k.When) (r.place k.When)
unfolding same_kind
at_When d e = good_place k.When (λ text. refl) refl d e

pub at_OpenBrace : (d e : ℕ) → Good (place_part k.OpenBrace) d e (r.place k.OpenBrace) (r.place k.OpenBrace)
unfolding same_kind
at_OpenBrace d e = good_place k.OpenBrace (λ text. refl) refl d e

pub at_CloseBrace : (d e : ℕ) → Good (place_part k.CloseBrace) d e (r.place k.CloseBrace) (r.place k.CloseBrace)
unfolding same_kind
at_CloseBrace d e = good_place k.CloseBrace (λ text. refl) refl d e

pub at_Star : (d e : ℕ) → Good (place_part k.Star) d e (r.place k.Star) (r.place k.Star)
unfolding same_kind
at_Star d e = good_place k.Star (λ text. refl) refl d e

pub at_DoubleStar : (d e : ℕ) → Good (place_part k.DoubleStar) d e (r.place k.DoubleStar) (r.place k.DoubleStar)
unfolding same_kind
at_DoubleStar d e = good_place k.DoubleStar (λ text. refl) refl d e

pub at_Question : (d e : ℕ) → Good (place_part k.Question) d e (r.place k.Question) (r.place k.Question)
unfolding same_kind
at_Question d e = good_place k.Question (λ text. refl) refl d e

pub at_Plus : (d e : ℕ) → Good (place_part k.Plus) d e (r.place k.Plus) (r.place k.Plus)
unfolding same_kind
at_Plus d e = good_place k.Plus (λ text. refl) refl d e

pub at_Arrow : (d e : ℕ) → Good (place_part k.Arrow) d e (r.place k.Arrow) (r.place k.Arrow)
unfolding same_kind
at_Arrow d e = good_place k.Arrow (λ text. refl) refl d e

pub at_Semicolon : (d e : ℕ) → Good (place_part k.Semicolon) d e (r.place k.Semicolon) (r.place k.Semicolon)
unfolding same_kind
at_Semicolon d e = good_place k.Semicolon (λ text. refl) refl d e

pub at_OpenScanner : (d e : ℕ) → Good (place_part k.OpenScanner) d e (r.place k.OpenScanner) (r.place k.OpenScanner)
unfolding same_kind
at_OpenScanner d e = good_place k.OpenScanner (λ text. refl) refl d e

pub at_CloseScanner : (d e : ℕ) → Good (place_part k.CloseScanner) d e (r.place k.CloseScanner) (r.place k.CloseScanner)
unfolding same_kind
at_CloseScanner d e = good_place k.CloseScanner (λ text. refl) refl d e

pub at_Machine : (d e : ℕ) → Good (place_part k.Machine) d e (r.place k.Machine) (r.place k.Machine)
unfolding same_kind
at_Machine d e = good_place k.Machine (λ text. refl) refl d e

pub at_Include : (d e : ℕ) → Good (place_part k.Include) d e (r.place k.Include) (r.place k.Include)
unfolding same_kind
at_Include d e = good_place k.Include (λ text. refl) refl d e

pub at_Alphtype : (d e : ℕ) → Good (place_part k.Alphtype) d e (r.place k.Alphtype) (r.place k.Alphtype)
unfolding same_kind
at_Alphtype d e = good_place k.Alphtype (λ text. refl) refl d e

pub at_Access : (d e : ℕ) → Good (place_part k.Access) d e (r.place k.Access) (r.place k.Access)
unfolding same_kind
at_Access d e = good_place k.Access (λ text. refl) refl d e

pub at_Variable : (d e : ℕ) → Good (place_part k.Variable) d e (r.place k.Variable) (r.place k.Variable)
unfolding same_kind
at_Variable d e = good_place k.Variable (λ text. refl) refl d e

pub at_Write : (d e : ℕ) → Good (place_part k.Write) d e (r.place k.Write) (r.place k.Write)
unfolding same_kind
at_Write d e = good_place k.Write (λ text. refl) refl d e

pub at_Action : (d e : ℕ) → Good (place_part k.Action) d e (r.place k.Action) (r.place k.Action)
unfolding same_kind
at_Action d e = good_place k.Action (λ text. refl) refl d e

abbrev minus_p : Part (Option Place)
minus_p = maybe (place_part k.Minus)

minus_is : (o : Option Place) → g.minus_text o ≡ minus_p.spell o
minus_is None = refl
minus_is (Some at) = refl

option_always : {A : Type 0} (p : Part A) → ((a : A) → true ≡ p.fits a) → (o : Option A) → true ≡ (maybe p).fits o
option_always p h None = refl
option_always p h (Some a) = h a

abbrev number_parts : Part (Option Place × Word)
number_parts = seq minus_p integer_p

abbrev number_shape : Shape (Option Place × Word) Number
number_shape = record { to = r.number_of; back = λ n. (n.minus, n.digits); spell = g.number_text; fits = always; begins = by r.begins_number; may = none }

number_shaped : IsNode number_shape number_parts
unfolding same_kind
number_shaped = record { there = λ a h. refl; again = λ c h. refl; texts = λ n. ap (λ z. z ++ g.word k.Integer n.digits) (minus_is n.minus); tests = λ n. option_always (place_part k.Minus) (λ a. refl) n.minus ∙ and_true (minus_p.fits n.minus); wider = refl; longer = refl }

abbrev pub number_p : Part Number
number_p = node number_shape number_parts

pub number_good : (d e : ℕ) → Good number_p d e r.number r.number
unfolding r.number same_kind
number_good d e = node_good number_shape number_parts number_shaped d e
    (good.good_seq minus_p integer_p d e (good.good_maybe (place_part k.Minus) d e refl (at_Minus d e)) (integer_good d e) (excluded integer_p.begins minus_p.may refl))

abbrev key_parts : Part (Number ⊎ Word)
key_parts = choice number_p character_part

abbrev key_split : Key → Number ⊎ Word
key_split (key_is.Number n) = inl n
key_split (key_is.Character w) = inr w

key_there : (a : Number ⊎ Word) → key_split (r.key_of a) ≡ a
key_there (inl n) = refl
key_there (inr w) = refl

key_back : (c : Key) → r.key_of (key_split c) ≡ c
key_back (key_is.Number n) = refl
key_back (key_is.Character w) = refl

key_told : (c : Key) → g.key_text c ≡ key_parts.spell (key_split c)
key_told (key_is.Number n) = refl
key_told (key_is.Character w) = refl

key_fit : (c : Key) → g.key_fits c ≡ key_parts.fits (key_split c)
key_fit (key_is.Number n) = refl
key_fit (key_is.Character w) = refl

abbrev pub key_begins : Class → Bool
key_begins c = r.begins_number c.kind || character_begins c

abbrev key_shape : Shape (Number ⊎ Word) Key
key_shape = record { to = r.key_of; back = key_split; spell = g.key_text; fits = g.key_fits; begins = key_begins; may = none }

key_shaped : IsNode key_shape key_parts
unfolding same_kind
key_shaped = record { there = λ a h. key_there a; again = λ c h. key_back c; texts = key_told; tests = key_fit; wider = refl; longer = refl }

abbrev pub key_p : Part Key
key_p = node key_shape key_parts

pub key_good : (d e : ℕ) → Good key_p d e r.end_of_range r.end_of_range
unfolding r.end_of_range same_kind
key_good d e = node_good key_shape key_parts key_shaped d e
    (good.good_choice number_p character_part d e refl refl (number_good d e) (good_character d e) (excluded character_part.begins number_p.begins refl))

-- ---- the rest of a range

abbrev pub range_text : Place × Key → g.Text
range_text x = g.mark k.DotDot x.0 ++ g.key_text x.1

abbrev high_one_row : Part (Place × Key)
high_one_row = seq (place_part k.DotDot) key_p

abbrev high_one_p : Part (Place × Key)
high_one_p = named (begun (is k.DotDot) high_one_row) high_one_row

high_one_good : (d e : ℕ) → Good high_one_p d e (both (r.place k.DotDot) r.end_of_range) (both (r.place k.DotDot) r.end_of_range)
unfolding same_kind
high_one_good d e = named_good (begun (is k.DotDot) high_one_row) high_one_row (record { texts = λ c. refl; tests = λ c. refl; wider = refl; longer = refl }) d e
    (good.good_seq (place_part k.DotDot) key_p d e (at_DotDot d e) (key_good d e) (excluded key_p.begins (place_part k.DotDot).may refl))

abbrev pub high_p : Part (Option (Place × Key))
high_p = maybe high_one_p

pub high_good : (d e : ℕ) → Good high_p d e r.high r.high
unfolding r.high same_kind
high_good d e = good.good_maybe high_one_p d e refl (high_one_good d e)

-- ---- actions where they are used

abbrev grouped_name_p : Part (Place × (Word × Place))
grouped_name_p = seq (place_part k.OpenParenthesis) (seq name_p (place_part k.CloseParenthesis))

grouped_name_good : (d e : ℕ) → Good grouped_name_p d e r.grouped_name r.grouped_name
unfolding r.grouped_name same_kind
grouped_name_good d e = (good.good_seq (place_part k.OpenParenthesis) (seq name_p (place_part k.CloseParenthesis)) d e (at_OpenParenthesis d e) (good.good_seq name_p (place_part k.CloseParenthesis) d e (name_good d e) (at_CloseParenthesis d e) (excluded (place_part k.CloseParenthesis).begins name_p.may refl)) (excluded (seq name_p (place_part k.CloseParenthesis)).begins (place_part k.OpenParenthesis).may refl))

abbrev action_use_parts : Part (Word ⊎ (Word ⊎ (Place × (Word × Place))))
action_use_parts = choice name_p (choice code_p grouped_name_p)

abbrev action_use_split : ActionUse → Word ⊎ (Word ⊎ (Place × (Word × Place)))
action_use_split (action_is.Name w) = inl w
action_use_split (action_is.Code w) = inr (inl w)
action_use_split (action_is.Group a w b) = inr (inr (a, (w, b)))

action_use_there : (a : Word ⊎ (Word ⊎ (Place × (Word × Place)))) → action_use_split (r.action_of a) ≡ a
action_use_there (inl w) = refl
action_use_there (inr (inl w)) = refl
action_use_there (inr (inr x)) = refl

action_use_back : (c : ActionUse) → r.action_of (action_use_split c) ≡ c
action_use_back (action_is.Name w) = refl
action_use_back (action_is.Code w) = refl
action_use_back (action_is.Group a w b) = refl

action_use_told : (c : ActionUse) → g.action_use_text c ≡ action_use_parts.spell (action_use_split c)
action_use_told (action_is.Name w) = refl
action_use_told (action_is.Code w) = refl
action_use_told (action_is.Group a w b) = refl

action_use_fit : (c : ActionUse) → true ≡ action_use_parts.fits (action_use_split c)
action_use_fit (action_is.Name w) = refl
action_use_fit (action_is.Code w) = refl
action_use_fit (action_is.Group a w b) = refl

abbrev action_use_shape : Shape (Word ⊎ (Word ⊎ (Place × (Word × Place)))) ActionUse
action_use_shape = record { to = r.action_of; back = action_use_split; spell = g.action_use_text; fits = always; begins = by r.begins_action_use; may = none }

action_use_shaped : IsNode action_use_shape action_use_parts
unfolding same_kind
action_use_shaped = record { there = λ a h. action_use_there a; again = λ c h. action_use_back c; texts = action_use_told; tests = action_use_fit; wider = refl; longer = refl }

abbrev pub action_use_p : Part ActionUse
action_use_p = node action_use_shape action_use_parts

pub action_use_good : (d e : ℕ) → Good action_use_p d e r.action_use r.action_use
unfolding r.action_use same_kind
action_use_good d e = node_good action_use_shape action_use_parts action_use_shaped d e
    (good.good_choice name_p (choice code_p grouped_name_p) d e refl refl (name_good d e) (good.good_choice code_p grouped_name_p d e refl refl (code_good d e) (grouped_name_good d e) (excluded grouped_name_p.begins code_p.begins refl)) (excluded (choice code_p grouped_name_p).begins name_p.begins refl))

-- ---- what is embedded in transitions

abbrev named_value_p : Part (Place × (Number × Place))
named_value_p = seq (place_part k.Comma) (seq number_p (place_part k.CloseParenthesis))

named_value_good : (d e : ℕ) → Good named_value_p d e r.named_value r.named_value
unfolding r.named_value same_kind
named_value_good d e = (good.good_seq (place_part k.Comma) (seq number_p (place_part k.CloseParenthesis)) d e (at_Comma d e) (good.good_seq number_p (place_part k.CloseParenthesis) d e (number_good d e) (at_CloseParenthesis d e) (excluded (place_part k.CloseParenthesis).begins number_p.may refl)) (excluded (seq number_p (place_part k.CloseParenthesis)).begins (place_part k.Comma).may refl))

abbrev ending_parts : Part (Place ⊎ (Place × (Number × Place)))
ending_parts = choice (place_part k.CloseParenthesis) named_value_p

abbrev ending_split : Ending → Place ⊎ (Place × (Number × Place))
ending_split (ending_is.Closed a) = inl a
ending_split (ending_is.Valued a n b) = inr (a, (n, b))

ending_there : (a : Place ⊎ (Place × (Number × Place))) → ending_split (r.ending_of a) ≡ a
ending_there (inl a) = refl
ending_there (inr x) = refl

ending_back : (c : Ending) → r.ending_of (ending_split c) ≡ c
ending_back (ending_is.Closed a) = refl
ending_back (ending_is.Valued a n b) = refl

abbrev ending_text : Ending → g.Text
ending_text (ending_is.Closed a) = g.mark k.CloseParenthesis a
ending_text (ending_is.Valued a n b) = g.mark k.Comma a ++ (g.number_text n ++ g.mark k.CloseParenthesis b)

ending_told : (c : Ending) → ending_text c ≡ ending_parts.spell (ending_split c)
ending_told (ending_is.Closed a) = refl
ending_told (ending_is.Valued a n b) = refl

ending_fit : (c : Ending) → true ≡ ending_parts.fits (ending_split c)
ending_fit (ending_is.Closed a) = refl
ending_fit (ending_is.Valued a n b) = refl

abbrev ending_begins : Class → Bool
ending_begins c = same_kind c.kind k.CloseParenthesis || same_kind c.kind k.Comma

abbrev ending_shape : Shape (Place ⊎ (Place × (Number × Place))) Ending
ending_shape = record { to = r.ending_of; back = ending_split; spell = ending_text; fits = always; begins = ending_begins; may = none }

ending_shaped : IsNode ending_shape ending_parts
unfolding same_kind
ending_shaped = record { there = λ a h. ending_there a; again = λ c h. ending_back c; texts = ending_told; tests = ending_fit; wider = refl; longer = refl }

abbrev pub ending_p : Part Ending
ending_p = node ending_shape ending_parts

pub ending_good : (d e : ℕ) → Good ending_p d e r.ending r.ending
unfolding r.ending same_kind
ending_good d e = node_good ending_shape ending_parts ending_shaped d e
    (good.good_choice (place_part k.CloseParenthesis) named_value_p d e refl refl (at_CloseParenthesis d e) (named_value_good d e) (excluded named_value_p.begins (place_part k.CloseParenthesis).begins refl))

abbrev grouped_label_p : Part (Place × (Word × Ending))
grouped_label_p = seq (place_part k.OpenParenthesis) (seq name_p ending_p)

grouped_label_good : (d e : ℕ) → Good grouped_label_p d e r.grouped_label r.grouped_label
unfolding r.grouped_label same_kind
grouped_label_good d e = (good.good_seq (place_part k.OpenParenthesis) (seq name_p ending_p) d e (at_OpenParenthesis d e) (good.good_seq name_p ending_p d e (name_good d e) (ending_good d e) (excluded ending_p.begins name_p.may refl)) (excluded (seq name_p ending_p).begins (place_part k.OpenParenthesis).may refl))

abbrev label_parts : Part (Word ⊎ (Word ⊎ (Number ⊎ (Place × (Word × Ending)))))
label_parts = choice name_p (choice code_p (choice number_p grouped_label_p))

abbrev label_split : Label → Word ⊎ (Word ⊎ (Number ⊎ (Place × (Word × Ending))))
label_split (label_is.Action (action_is.Name w)) = inl w
label_split (label_is.Action (action_is.Code w)) = inr (inl w)
label_split (label_is.Action (action_is.Group a w b)) = inr (inr (inr (a, (w, ending_is.Closed b))))
label_split (label_is.Priority (priority_is.Plain n)) = inr (inr (inl n))
label_split (label_is.Priority (priority_is.Named p)) = inr (inr (inr (p.opening, (p.name, ending_is.Valued p.comma p.value p.closing))))

label_there : (a : Word ⊎ (Word ⊎ (Number ⊎ (Place × (Word × Ending))))) → label_split (r.label_of a) ≡ a
label_there (inl w) = refl
label_there (inr (inl w)) = refl
label_there (inr (inr (inl n))) = refl
label_there (inr (inr (inr (a, (w, ending_is.Closed b))))) = refl
label_there (inr (inr (inr (a, (w, ending_is.Valued c n b))))) = refl

label_back : (c : Label) → r.label_of (label_split c) ≡ c
label_back (label_is.Action (action_is.Name w)) = refl
label_back (label_is.Action (action_is.Code w)) = refl
label_back (label_is.Action (action_is.Group a w b)) = refl
label_back (label_is.Priority (priority_is.Plain n)) = refl
label_back (label_is.Priority (priority_is.Named p)) = refl

label_told : (c : Label) → g.label_text c ≡ label_parts.spell (label_split c)
label_told (label_is.Action (action_is.Name w)) = refl
label_told (label_is.Action (action_is.Code w)) = refl
label_told (label_is.Action (action_is.Group a w b)) = refl
label_told (label_is.Priority (priority_is.Plain n)) = refl
label_told (label_is.Priority (priority_is.Named p)) = refl

label_fit : (c : Label) → true ≡ label_parts.fits (label_split c)
label_fit (label_is.Action (action_is.Name w)) = refl
label_fit (label_is.Action (action_is.Code w)) = refl
label_fit (label_is.Action (action_is.Group a w b)) = refl
label_fit (label_is.Priority (priority_is.Plain n)) = refl
label_fit (label_is.Priority (priority_is.Named p)) = refl

abbrev label_begins : Class → Bool
label_begins c = r.begins_action_use c.kind || r.begins_number c.kind

abbrev label_shape : Shape (Word ⊎ (Word ⊎ (Number ⊎ (Place × (Word × Ending))))) Label
label_shape = record { to = r.label_of; back = label_split; spell = g.label_text; fits = always; begins = label_begins; may = none }

label_shaped : IsNode label_shape label_parts
unfolding same_kind
label_shaped = record { there = λ a h. label_there a; again = λ c h. label_back c; texts = label_told; tests = label_fit; wider = refl; longer = refl }

abbrev pub label_p : Part Label
label_p = node label_shape label_parts

pub label_good : (d e : ℕ) → Good label_p d e r.label_use r.label_use
unfolding r.label_use same_kind
label_good d e = node_good label_shape label_parts label_shaped d e
    (good.good_choice name_p (choice code_p (choice number_p grouped_label_p)) d e refl refl (name_good d e) (good.good_choice code_p (choice number_p grouped_label_p) d e refl refl (code_good d e) (good.good_choice number_p grouped_label_p d e refl refl (number_good d e) (grouped_label_good d e) (excluded grouped_label_p.begins number_p.begins refl)) (excluded (choice number_p grouped_label_p).begins code_p.begins refl)) (excluded (choice code_p (choice number_p grouped_label_p)).begins name_p.begins refl))

-- ---- embeddings

abbrev transition_row : Part (TransitionSign × Label)
transition_row = seq transition_sign_p label_p

abbrev transition_p : Part (TransitionSign × Label)
transition_p = named (begun (by r.begins_transition) transition_row) transition_row

transition_good : (d e : ℕ) → Good transition_p d e r.transition r.transition
unfolding r.transition same_kind
transition_good d e = named_good (begun (by r.begins_transition) transition_row) transition_row (record { texts = λ c. refl; tests = λ c. refl; wider = refl; longer = refl }) d e
    (good.good_seq transition_sign_p label_p d e (transition_sign_good d e) (label_good d e) (excluded label_p.begins transition_sign_p.may refl))

abbrev state_row : Part (Mark × ActionUse)
state_row = seq state_mark_p action_use_p

abbrev state_p : Part (Mark × ActionUse)
state_p = named (begun (is k.Mark) state_row) state_row

state_good : (d e : ℕ) → Good state_p d e r.state r.state
unfolding r.state same_kind
state_good d e = named_good (begun (is k.Mark) state_row) state_row (record { texts = λ c. refl; tests = λ c. refl; wider = refl; longer = refl }) d e
    (good.good_seq state_mark_p action_use_p d e (state_mark_good d e) (action_use_good d e) (excluded action_use_p.begins state_mark_p.may refl))

abbrev condition_row : Part (Place × ActionUse)
condition_row = seq (place_part k.When) action_use_p

abbrev condition_p : Part (Place × ActionUse)
condition_p = named (begun (is k.When) condition_row) condition_row

condition_good : (d e : ℕ) → Good condition_p d e r.condition r.condition
unfolding r.condition same_kind
condition_good d e = named_good (begun (is k.When) condition_row) condition_row (record { texts = λ c. refl; tests = λ c. refl; wider = refl; longer = refl }) d e
    (good.good_seq (place_part k.When) action_use_p d e (at_When d e) (action_use_good d e) (excluded action_use_p.begins (place_part k.When).may refl))

abbrev embedding_parts : Part ((TransitionSign × Label) ⊎ ((Mark × ActionUse) ⊎ (Place × ActionUse)))
embedding_parts = choice transition_p (choice state_p condition_p)

abbrev embedding_split : Embedding → (TransitionSign × Label) ⊎ ((Mark × ActionUse) ⊎ (Place × ActionUse))
embedding_split (embedding_is.Transition s l) = inl (s, l)
embedding_split (embedding_is.State m a) = inr (inl (m, a))
embedding_split (embedding_is.When p a) = inr (inr (p, a))

embedding_there : (a : (TransitionSign × Label) ⊎ ((Mark × ActionUse) ⊎ (Place × ActionUse))) → embedding_split (r.embedding_of a) ≡ a
embedding_there (inl x) = refl
embedding_there (inr (inl x)) = refl
embedding_there (inr (inr x)) = refl

embedding_back : (c : Embedding) → r.embedding_of (embedding_split c) ≡ c
embedding_back (embedding_is.Transition s l) = refl
embedding_back (embedding_is.State m a) = refl
embedding_back (embedding_is.When p a) = refl

embedding_told : (c : Embedding) → g.embedding_text c ≡ embedding_parts.spell (embedding_split c)
embedding_told (embedding_is.Transition s l) = refl
embedding_told (embedding_is.State m a) = refl
embedding_told (embedding_is.When p a) = refl

embedding_fit : (c : Embedding) → true ≡ embedding_parts.fits (embedding_split c)
embedding_fit (embedding_is.Transition s l) = refl
embedding_fit (embedding_is.State m a) = refl
embedding_fit (embedding_is.When p a) = refl

abbrev embedding_shape : Shape ((TransitionSign × Label) ⊎ ((Mark × ActionUse) ⊎ (Place × ActionUse))) Embedding
embedding_shape = record { to = r.embedding_of; back = embedding_split; spell = g.embedding_text; fits = always; begins = by r.begins_embedding; may = none }

embedding_shaped : IsNode embedding_shape embedding_parts
unfolding same_kind
embedding_shaped = record { there = λ a h. embedding_there a; again = λ c h. embedding_back c; texts = embedding_told; tests = embedding_fit; wider = refl; longer = refl }

abbrev pub embedding_p : Part Embedding
embedding_p = node embedding_shape embedding_parts

pub embedding_good : (d e : ℕ) → Good embedding_p d e r.one_embedding r.one_embedding
unfolding r.one_embedding same_kind
embedding_good d e = node_good embedding_shape embedding_parts embedding_shaped d e
    (good.good_choice transition_p (choice state_p condition_p) d e refl refl (transition_good d e) (good.good_choice state_p condition_p d e refl refl (state_good d e) (condition_good d e) (excluded condition_p.begins state_p.begins refl)) (excluded (choice state_p condition_p).begins transition_p.begins refl))

all_always : {A : Type 0} (xs : List A) → true ≡ all_fit tokens always xs
all_always [] = refl
all_always (x ∷ xs) = all_always xs

abbrev embeddings_words : Words (List Embedding)
embeddings_words = record { spell = flat_map g.embedding_text; fits = always; begins = by r.begins_embedding; may = by r.begins_embedding }

abbrev pub embeddings_p : Part (List Embedding)
embeddings_p = named embeddings_words (list_of embedding_p)

pub embeddings_good : (d e : ℕ) → Good embeddings_p d e r.embeddings r.embeddings
unfolding r.embeddings same_kind
embeddings_good d e = named_good embeddings_words (list_of embedding_p) (record { texts = λ c. refl; tests = all_always; wider = refl; longer = refl }) d e
    (good.good_list embedding_p d e refl (embedding_good d e) (excluded (by r.begins_embedding) none refl))

abbrev negations_words : Words (List Negation)
negations_words = record { spell = flat_map g.negation_text; fits = always; begins = by r.begins_negation; may = by r.begins_negation }

abbrev pub negations_p : Part (List Negation)
negations_p = named negations_words (list_of negation_p)

pub negations_good : (d e : ℕ) → Good negations_p d e r.negations r.negations
unfolding r.negations same_kind
negations_good d e = named_good negations_words (list_of negation_p) (record { texts = λ c. refl; tests = all_always; wider = refl; longer = refl }) d e
    (good.good_list negation_p d e refl (negation_good d e) (excluded (by r.begins_negation) none refl))

-- ---- counts and repetitions

abbrev most_p : Part (Option Word)
most_p = maybe integer_p

most_good : (d e : ℕ) → Good most_p d e r.most r.most
unfolding r.most same_kind
most_good d e = good.good_maybe integer_p d e refl (integer_good d e)

abbrev upper_one_row : Part (Place × Option Word)
upper_one_row = seq (place_part k.Comma) most_p

abbrev upper_one_p : Part (Place × Option Word)
upper_one_p = named (begun (is k.Comma) upper_one_row) upper_one_row

upper_one_good : (d e : ℕ) → Good upper_one_p d e (both (r.place k.Comma) r.most) (both (r.place k.Comma) r.most)
unfolding same_kind
upper_one_good d e = named_good (begun (is k.Comma) upper_one_row) upper_one_row (record { texts = λ c. refl; tests = λ c. refl; wider = refl; longer = refl }) d e
    (good.good_seq (place_part k.Comma) most_p d e (at_Comma d e) (most_good d e) (excluded most_p.begins (place_part k.Comma).may refl))

abbrev upper_p : Part (Option (Place × Option Word))
upper_p = maybe upper_one_p

upper_good : (d e : ℕ) → Good upper_p d e r.upper r.upper
unfolding r.upper same_kind
upper_good d e = good.good_maybe upper_one_p d e refl (upper_one_good d e)

abbrev at_most_row : Part (Place × Word)
at_most_row = seq (place_part k.Comma) integer_p

abbrev at_most_p : Part (Place × Word)
at_most_p = named (begun (is k.Comma) at_most_row) at_most_row

at_most_good : (d e : ℕ) → Good at_most_p d e r.at_most r.at_most
unfolding r.at_most same_kind
at_most_good d e = named_good (begun (is k.Comma) at_most_row) at_most_row (record { texts = λ c. refl; tests = λ c. refl; wider = refl; longer = refl }) d e
    (good.good_seq (place_part k.Comma) integer_p d e (at_Comma d e) (integer_good d e) (excluded integer_p.begins (place_part k.Comma).may refl))

abbrev at_least_p : Part (Word × Option (Place × Option Word))
at_least_p = seq integer_p upper_p

at_least_good : (d e : ℕ) → Good at_least_p d e r.at_least r.at_least
unfolding r.at_least same_kind
at_least_good d e = (good.good_seq integer_p upper_p d e (integer_good d e) (upper_good d e) (excluded upper_p.begins integer_p.may refl))

abbrev bounds_parts : Part ((Place × Word) ⊎ (Word × Option (Place × Option Word)))
bounds_parts = choice at_most_p at_least_p

abbrev bounds_split : Bounds → (Place × Word) ⊎ (Word × Option (Place × Option Word))
bounds_split (bounds_is.AtMost c m) = inl (c, m)
bounds_split (bounds_is.Exactly n) = inr (n, None)
bounds_split (bounds_is.AtLeast n c) = inr (n, Some (c, None))
bounds_split (bounds_is.Between n c m) = inr (n, Some (c, Some m))

bounds_there : (a : (Place × Word) ⊎ (Word × Option (Place × Option Word))) → bounds_split (r.bounds_of a) ≡ a
bounds_there (inl x) = refl
bounds_there (inr (n, None)) = refl
bounds_there (inr (n, Some (c, None))) = refl
bounds_there (inr (n, Some (c, Some m))) = refl

bounds_back : (c : Bounds) → r.bounds_of (bounds_split c) ≡ c
bounds_back (bounds_is.AtMost c m) = refl
bounds_back (bounds_is.Exactly n) = refl
bounds_back (bounds_is.AtLeast n c) = refl
bounds_back (bounds_is.Between n c m) = refl

bounds_told : (c : Bounds) → g.bounds_text c ≡ bounds_parts.spell (bounds_split c)
bounds_told (bounds_is.AtMost c m) = refl
bounds_told (bounds_is.Exactly n) = refl
bounds_told (bounds_is.AtLeast n c) = refl
bounds_told (bounds_is.Between n c m) = refl

bounds_fit : (c : Bounds) → true ≡ bounds_parts.fits (bounds_split c)
bounds_fit (bounds_is.AtMost c m) = refl
bounds_fit (bounds_is.Exactly n) = refl
bounds_fit (bounds_is.AtLeast n c) = refl
bounds_fit (bounds_is.Between n c m) = refl

abbrev bounds_classes : Class → Bool
bounds_classes c = same_kind c.kind k.Comma || same_kind c.kind k.Integer

abbrev bounds_shape : Shape ((Place × Word) ⊎ (Word × Option (Place × Option Word))) Bounds
bounds_shape = record { to = r.bounds_of; back = bounds_split; spell = g.bounds_text; fits = always; begins = bounds_classes; may = bounds_classes }

bounds_shaped : IsNode bounds_shape bounds_parts
unfolding same_kind
bounds_shaped = record { there = λ a h. bounds_there a; again = λ c h. bounds_back c; texts = bounds_told; tests = bounds_fit; wider = refl; longer = refl }

abbrev pub bounds_p : Part Bounds
bounds_p = node bounds_shape bounds_parts

pub bounds_good : (d e : ℕ) → Good bounds_p d e r.count_bounds r.count_bounds
unfolding r.count_bounds same_kind
bounds_good d e = node_good bounds_shape bounds_parts bounds_shaped d e
    (good.good_choice at_most_p at_least_p d e refl refl (at_most_good d e) (at_least_good d e) (excluded at_least_p.begins at_most_p.begins refl))

abbrev count_parts : Part (Place × (Bounds × Place))
count_parts = seq (place_part k.OpenBrace) (seq bounds_p (place_part k.CloseBrace))

abbrev count_shape : Shape (Place × (Bounds × Place)) Count
count_shape = record { to = r.counted_of; back = λ c. (c.opening, (c.bounds, c.closing)); spell = g.count_text; fits = always; begins = is k.OpenBrace; may = none }

count_shaped : IsNode count_shape count_parts
unfolding same_kind
count_shaped = record { there = λ a h. refl; again = λ c h. refl; texts = λ c. refl; tests = λ c. refl; wider = refl; longer = refl }

abbrev pub count_p : Part Count
count_p = node count_shape count_parts

pub count_good : (d e : ℕ) → Good count_p d e r.count r.count
unfolding r.count same_kind
count_good d e = node_good count_shape count_parts count_shaped d e
    (good.good_seq (place_part k.OpenBrace) (seq bounds_p (place_part k.CloseBrace)) d e (at_OpenBrace d e) (good.good_seq bounds_p (place_part k.CloseBrace) d e (bounds_good d e) (at_CloseBrace d e) (excluded (place_part k.CloseBrace).begins bounds_p.may refl)) (excluded (seq bounds_p (place_part k.CloseBrace)).begins (place_part k.OpenBrace).may refl))

abbrev repetition_parts : Part (Place ⊎ (Place ⊎ (Place ⊎ (Place ⊎ Count))))
repetition_parts = choice (place_part k.Star) (choice (place_part k.DoubleStar) (choice (place_part k.Question) (choice (place_part k.Plus) count_p)))

abbrev repetition_split : Repetition → Place ⊎ (Place ⊎ (Place ⊎ (Place ⊎ Count)))
repetition_split (repetition_is.Star p) = inl p
repetition_split (repetition_is.LongestStar p) = inr (inl p)
repetition_split (repetition_is.Optional p) = inr (inr (inl p))
repetition_split (repetition_is.Plus p) = inr (inr (inr (inl p)))
repetition_split (repetition_is.Count c) = inr (inr (inr (inr c)))

repetition_there : (a : Place ⊎ (Place ⊎ (Place ⊎ (Place ⊎ Count)))) → repetition_split (r.repetition_of a) ≡ a
repetition_there (inl p) = refl
repetition_there (inr (inl p)) = refl
repetition_there (inr (inr (inl p))) = refl
repetition_there (inr (inr (inr (inl p)))) = refl
repetition_there (inr (inr (inr (inr c)))) = refl

repetition_back : (c : Repetition) → r.repetition_of (repetition_split c) ≡ c
repetition_back (repetition_is.Star p) = refl
repetition_back (repetition_is.LongestStar p) = refl
repetition_back (repetition_is.Optional p) = refl
repetition_back (repetition_is.Plus p) = refl
repetition_back (repetition_is.Count c) = refl

repetition_told : (c : Repetition) → g.repetition_text c ≡ repetition_parts.spell (repetition_split c)
repetition_told (repetition_is.Star p) = refl
repetition_told (repetition_is.LongestStar p) = refl
repetition_told (repetition_is.Optional p) = refl
repetition_told (repetition_is.Plus p) = refl
repetition_told (repetition_is.Count c) = refl

repetition_fit : (c : Repetition) → true ≡ repetition_parts.fits (repetition_split c)
repetition_fit (repetition_is.Star p) = refl
repetition_fit (repetition_is.LongestStar p) = refl
repetition_fit (repetition_is.Optional p) = refl
repetition_fit (repetition_is.Plus p) = refl
repetition_fit (repetition_is.Count c) = refl

abbrev repetition_shape : Shape (Place ⊎ (Place ⊎ (Place ⊎ (Place ⊎ Count)))) Repetition
repetition_shape = record { to = r.repetition_of; back = repetition_split; spell = g.repetition_text; fits = always; begins = by r.begins_repetition; may = none }

repetition_shaped : IsNode repetition_shape repetition_parts
unfolding same_kind
repetition_shaped = record { there = λ a h. repetition_there a; again = λ c h. repetition_back c; texts = repetition_told; tests = repetition_fit; wider = refl; longer = refl }

abbrev pub repetition_p : Part Repetition
repetition_p = node repetition_shape repetition_parts

pub repetition_good : (d e : ℕ) → Good repetition_p d e r.one_repetition r.one_repetition
unfolding r.one_repetition same_kind
repetition_good d e = node_good repetition_shape repetition_parts repetition_shaped d e
    (good.good_choice (place_part k.Star) (choice (place_part k.DoubleStar) (choice (place_part k.Question) (choice (place_part k.Plus) count_p))) d e refl refl (at_Star d e) (good.good_choice (place_part k.DoubleStar) (choice (place_part k.Question) (choice (place_part k.Plus) count_p)) d e refl refl (at_DoubleStar d e) (good.good_choice (place_part k.Question) (choice (place_part k.Plus) count_p) d e refl refl (at_Question d e) (good.good_choice (place_part k.Plus) count_p d e refl refl (at_Plus d e) (count_good d e) (excluded count_p.begins (place_part k.Plus).begins refl)) (excluded (choice (place_part k.Plus) count_p).begins (place_part k.Question).begins refl)) (excluded (choice (place_part k.Question) (choice (place_part k.Plus) count_p)).begins (place_part k.DoubleStar).begins refl)) (excluded (choice (place_part k.DoubleStar) (choice (place_part k.Question) (choice (place_part k.Plus) count_p))).begins (place_part k.Star).begins refl))

abbrev repetitions_words : Words (List Repetition)
repetitions_words = record { spell = flat_map g.repetition_text; fits = always; begins = by r.begins_repetition; may = by r.begins_repetition }

abbrev pub repetitions_p : Part (List Repetition)
repetitions_p = named repetitions_words (list_of repetition_p)

pub repetitions_good : (d e : ℕ) → Good repetitions_p d e r.repetitions r.repetitions
unfolding r.repetitions same_kind
repetitions_good d e = named_good repetitions_words (list_of repetition_p) (record { texts = λ c. refl; tests = all_always; wider = refl; longer = refl }) d e
    (good.good_list repetition_p d e refl (repetition_good d e) (excluded (by r.begins_repetition) none refl))

-- ---- actions of patterns

abbrev some_pattern_action_parts : Part (Place × ActionUse)
some_pattern_action_parts = seq (place_part k.Arrow) action_use_p

abbrev some_pattern_action_shape : Shape (Place × ActionUse) PatternAction
some_pattern_action_shape = record { to = r.pattern_action_of; back = λ c. (c.arrow, c.action); spell = (λ c. g.mark k.Arrow c.arrow ++ g.action_use_text c.action); fits = always; begins = is k.Arrow; may = none }

some_pattern_action_shaped : IsNode some_pattern_action_shape some_pattern_action_parts
unfolding same_kind
some_pattern_action_shaped = record { there = λ a h. refl; again = λ c h. refl; texts = λ c. refl; tests = λ c. refl; wider = refl; longer = refl }

abbrev pub some_pattern_action_p : Part PatternAction
some_pattern_action_p = node some_pattern_action_shape some_pattern_action_parts

pub some_pattern_action_good : (d e : ℕ) → Good some_pattern_action_p d e r.some_pattern_action r.some_pattern_action
unfolding r.some_pattern_action same_kind
some_pattern_action_good d e = node_good some_pattern_action_shape some_pattern_action_parts some_pattern_action_shaped d e
    (good.good_seq (place_part k.Arrow) action_use_p d e (at_Arrow d e) (action_use_good d e) (excluded action_use_p.begins (place_part k.Arrow).may refl))

pattern_action_told : (o : Option PatternAction) → g.pattern_action_text o ≡ (maybe some_pattern_action_p).spell o
pattern_action_told None = refl
pattern_action_told (Some a) = refl

abbrev pattern_action_words : Words (Option PatternAction)
pattern_action_words = record { spell = g.pattern_action_text; fits = always; begins = is k.Arrow; may = is k.Arrow }

abbrev pub pattern_action_p : Part (Option PatternAction)
pattern_action_p = named pattern_action_words (maybe some_pattern_action_p)

pub pattern_action_good : (d e : ℕ) → Good pattern_action_p d e r.pattern_action r.pattern_action
unfolding r.pattern_action same_kind
pattern_action_good d e = named_good pattern_action_words (maybe some_pattern_action_p) (record { texts = pattern_action_told; tests = option_always some_pattern_action_p (λ a. refl); wider = refl; longer = refl }) d e
    (good.good_maybe some_pattern_action_p d e refl (some_pattern_action_good d e))
