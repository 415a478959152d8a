-- The rules over operands: each is a part of the grammar with its reader, by induction on how deep expressions stand in one
-- another.
use Rattle.std.proofs.Common.{◌≡◌, ℕ, zero, suc, ◌≤◌, Bool, true, false, List, [], ◌∷◌, ◌++◌, length, Option, Some, None, ◌⊎◌, inl, inr, refl, sym, ap, ◌∙◌, arith, length-append, codes}
use Rattle.std.specs.Prelude.{◌&&◌, ◌||◌, not}
use Rattle.std.specs.List.{flat_map}
use Rattle.std.proofs.lemmas.Bool.{and_parts, not-true}
use Rattle.std.proofs.lemmas.List.{append-nil}
use Rattle.rl_readers.proofs.Good as good
use Rattle.rl_readers.proofs.Phrases as ph
use Rattle.rl_types.specs.declared.numbers.Place.{Place}
use Rattle.rl_grammar.specs.Grammar as g
use Rattle.rl_grammar.specs.Lexeme.{same_kind}
use Rattle.rl_grammar.specs.Literals.{characters, is_character}
use Rattle.rl_grammar.specs.declared.token.TokenKind.{TokenKind}
use Rattle.rl_grammar.specs.declared.token.TokenKind.TheVariants as k
use Rattle.rl_grammar.specs.declared.syntax.Word.{Word}
use Rattle.rl_grammar.specs.declared.syntax.Number.{Number}
use Rattle.rl_grammar.specs.declared.syntax.Key.{Key}
use Rattle.rl_grammar.specs.declared.syntax.Embedding.{Embedding}
use Rattle.rl_grammar.specs.declared.syntax.Repetition.{Repetition}
use Rattle.rl_grammar.specs.declared.syntax.Negation.{Negation}
use Rattle.rl_grammar.specs.declared.syntax.UnionSign.{UnionSign}
use Rattle.rl_grammar.specs.declared.syntax.ConcatenationSign.{ConcatenationSign}
use Rattle.rl_grammar.specs.declared.syntax.PatternAction.{PatternAction}
use Rattle.rl_grammar.specs.declared.syntax.Key.TheVariants as key
use Rattle.rl_grammar.specs.declared.syntax.Concatenation.{Concatenation, out-Concatenation, out-roll-Concatenation, roll-out-Concatenation}
use Rattle.rl_grammar.specs.declared.syntax.ConcatenationPart.{ConcatenationPart, out-ConcatenationPart, roll-ConcatenationPart, out-roll-ConcatenationPart, roll-out-ConcatenationPart}
use Rattle.rl_grammar.specs.declared.syntax.Embedded.{Embedded, out-Embedded, out-roll-Embedded, roll-out-Embedded}
use Rattle.rl_grammar.specs.declared.syntax.Negated.{Negated, out-Negated, out-roll-Negated, roll-out-Negated}
use Rattle.rl_grammar.specs.declared.syntax.Pattern.{Pattern, out-Pattern, out-roll-Pattern, roll-out-Pattern}
use Rattle.rl_grammar.specs.declared.syntax.Repeated.{Repeated, out-Repeated, out-roll-Repeated, roll-out-Repeated}
use Rattle.rl_grammar.specs.declared.syntax.Scanner.{Scanner, out-Scanner, out-roll-Scanner, roll-out-Scanner}
use Rattle.rl_grammar.specs.declared.syntax.Union.{Union, out-Union, out-roll-Union, roll-out-Union}
use Rattle.rl_grammar.specs.declared.syntax.UnionPart.{UnionPart, out-UnionPart, out-roll-UnionPart, roll-out-UnionPart}
use Rattle.rl_grammar.specs.declared.syntax.Operand.{Operand, out-Operand, roll-Operand, roll-out-Operand}
use Rattle.rl_grammar.specs.declared.syntax.Operand.TheOpen as open_operand
use Rattle.rl_grammar.specs.declared.syntax.Operand.TheVariants.{rolls-Literal, outs-Literal, rolls-Number, outs-Number, rolls-Range, outs-Range, rolls-Set, outs-Set, rolls-RegularExpression, outs-RegularExpression, rolls-Name, outs-Name, rolls-Group, outs-Group, rolls-Scanner, outs-Scanner}
use Rattle.rl_parse.specs.Classes.{Class, tokens}
use Rattle.rl_parse.specs.Reading.{Reader}
use Rattle.rl_parse.specs.Rules as r
use Rattle.rl_parse.specs.Rules.{Choice}
use Rattle.rl_parse.proofs.AllKinds.{excluded}
use Rattle.rl_parse.proofs.Nodes.{Part, Good, Sound, is_end, by, is, none, seq, choice, list_of, Shape, IsNode, node, node_sound, node_good, begun, named, named_sound, named_good, and_true, and_false, true_and}
use Rattle.rl_parse.proofs.Leaves.{some_token, place_part, word_part, good_word, character_part, character_begins, good_character, plain_part, good_plain}
use Rattle.rl_parse.proofs.PartLaws as p
use Rattle.rl_parse.proofs.Trees as t
use Rattle.rl_parse.proofs.Trees.{Level}

-- ---- what a rule may go on with

abbrev may_operand : TokenKind → Bool
may_operand k.DotDot = true
may_operand _ = false

abbrev may_repeated : TokenKind → Bool
may_repeated k.DotDot = true
may_repeated kind = r.begins_repetition kind

abbrev may_embedded : TokenKind → Bool
may_embedded kind = may_repeated kind || r.begins_embedding kind

abbrev may_concatenation : TokenKind → Bool
may_concatenation kind = may_embedded kind || r.begins_concatenation_part kind

abbrev may_union : TokenKind → Bool
may_union kind = may_concatenation kind || r.begins_union_part kind

-- ---- an expression that stands inside another, by the classes that its values go on with

abbrev Goes : Type 0
Goes = Union → Class → Bool

abbrev literal : Word
literal = record { text = codes "'a'"; place = record { file = 0; line = 1; col = 1 } }

abbrev least_operand : Operand
least_operand = r.operand_of (inl (literal, None))

abbrev least_negated : Negated
least_negated = r.negated_of ([], least_operand)

abbrev least_repeated : Repeated
least_repeated = r.repeated_of (least_negated, [])

abbrev least_embedded : Embedded
least_embedded = r.embedded_of (least_repeated, [])

abbrev least_concatenation : Concatenation
least_concatenation = r.concatenated_of (least_embedded, [])

abbrev least_union : Union
least_union = r.united_of (least_concatenation, [])

abbrev atom : Goes → Part Union
atom goes = record {
  spell = t.union_text;
  fits = t.union_fits;
  bare = λ u. false;
  null = false;
  begins = by r.begins_expression;
  goes = goes;
  may = by may_union;
  least = least_union;
  least_tokens = some_token k.Literal (codes "'a'") ∷ [];
}

-- ---- literals and numbers, with the ranges that they begin

abbrev range_end : Option (Place × Key) → g.Text
range_end o = p.high_p.spell o

abbrev character_range_parts : Part (Word × Option (Place × Key))
character_range_parts = seq character_part p.high_p

abbrev character_range_p : Part (Word × Option (Place × Key))
character_range_p = named (begun character_begins character_range_parts) character_range_parts

character_range_good : (d e : ℕ) → Good character_range_p d e r.character_range r.character_range
unfolding r.character_range same_kind
character_range_good d e = named_good (begun character_begins character_range_parts) character_range_parts (record { texts = λ c. refl; tests = λ c. refl; wider = refl; longer = refl }) d e
    (good.good_seq character_part p.high_p d e (good_character d e) (p.high_good d e) (excluded p.high_p.begins character_part.may refl))

abbrev number_range_parts : Part (Number × Option (Place × Key))
number_range_parts = seq p.number_p p.high_p

abbrev number_range_p : Part (Number × Option (Place × Key))
number_range_p = named (begun (by r.begins_number) number_range_parts) number_range_parts

number_range_good : (d e : ℕ) → Good number_range_p d e r.number_range r.number_range
unfolding r.number_range same_kind
number_range_good d e = named_good (begun (by r.begins_number) number_range_parts) number_range_parts (record { texts = λ c. refl; tests = λ c. refl; wider = refl; longer = refl }) d e
    (good.good_seq p.number_p p.high_p d e (p.number_good d e) (p.high_good d e) (excluded p.high_p.begins p.number_p.may refl))

abbrev set_p : Part Word
set_p = word_part k.Set (codes "[]")

set_good : (d e : ℕ) → Good set_p d e (r.word k.Set) (r.word k.Set)
unfolding same_kind
set_good d e = good_word k.Set (codes "[]") (λ text. refl) refl d e

abbrev regular_expression_p : Part Word
regular_expression_p = word_part k.RegularExpression (codes "//")

regular_expression_good : (d e : ℕ) → Good regular_expression_p d e (r.word k.RegularExpression) (r.word k.RegularExpression)
unfolding same_kind
regular_expression_good d e = good_word k.RegularExpression (codes "//") (λ text. refl) refl d e

-- ---- patterns and scanners

abbrev pattern_back : Pattern → Union × (Option PatternAction × Place)
pattern_back y = ((out-Pattern y).value, ((out-Pattern y).action, (out-Pattern y).semicolon))

pattern_there : (a : Union × (Option PatternAction × Place)) → pattern_back (r.pattern_of a) ≡ a
pattern_there a = ap (λ z. (z.value, (z.action, z.semicolon))) (out-roll-Pattern _)

module _ (goes : Goes) where
  abbrev pattern_parts : Part (Union × (Option PatternAction × Place))
  pattern_parts = seq (atom goes) (seq p.pattern_action_p (place_part k.Semicolon))

  abbrev pattern_shape : Shape (Union × (Option PatternAction × Place)) Pattern
  pattern_shape = record { to = r.pattern_of; back = pattern_back; spell = t.pattern_text; fits = t.pattern_fits; begins = by r.begins_expression; may = none }

  pattern_shaped : IsNode pattern_shape pattern_parts
  unfolding same_kind
  pattern_shaped = record { there = λ a h. pattern_there a; again = λ c h. roll-out-Pattern c; texts = λ y. t.pattern_spells y; tests = λ y. t.pattern_fitting y ∙ and_true (t.union_fits (out-Pattern y).value); wider = refl; longer = refl }

  abbrev pattern_p : Part Pattern
  pattern_p = node pattern_shape pattern_parts

  pattern_good : (d e : ℕ) (u v : Reader Union) → Good (atom goes) d e u v → Good pattern_p d e (r.pattern u) (r.pattern v)
  unfolding r.pattern same_kind
  pattern_good d e u v x = node_good pattern_shape pattern_parts pattern_shaped d e
      (good.good_seq (atom goes) (seq p.pattern_action_p (place_part k.Semicolon)) d e x (good.good_seq p.pattern_action_p (place_part k.Semicolon) d e (p.pattern_action_good d e) (p.at_Semicolon d e) (excluded (place_part k.Semicolon).begins p.pattern_action_p.may refl)) (excluded (seq p.pattern_action_p (place_part k.Semicolon)).begins (atom goes).may refl))

  abbrev patterns_p : Part (List Pattern)
  patterns_p = list_of pattern_p

  patterns_good : (d e : ℕ) (u v : Reader Union) → Good (atom goes) d e u v → Good patterns_p d e (r.patterns u) (r.patterns v)
  unfolding r.patterns same_kind
  patterns_good d e u v x = good.good_list pattern_p d e refl (pattern_good d e u v x) (excluded pattern_p.begins pattern_p.may refl)

abbrev scanner_back : Scanner → Place × (Pattern × (List Pattern × Place))
scanner_back y = ((out-Scanner y).opening, ((out-Scanner y).first, ((out-Scanner y).rest, (out-Scanner y).closing)))

scanner_there : (a : Place × (Pattern × (List Pattern × Place))) → scanner_back (r.scanner_of a) ≡ a
scanner_there a = ap (λ z. (z.opening, (z.first, (z.rest, z.closing)))) (out-roll-Scanner _)

module _ (goes : Goes) where
  abbrev scanner_parts : Part (Place × (Pattern × (List Pattern × Place)))
  scanner_parts = seq (place_part k.OpenScanner) (seq (pattern_p goes) (seq (patterns_p goes) (place_part k.CloseScanner)))

  abbrev scanner_shape : Shape (Place × (Pattern × (List Pattern × Place))) Scanner
  scanner_shape = record { to = r.scanner_of; back = scanner_back; spell = t.scanner_text; fits = t.scanner_fits; begins = is k.OpenScanner; may = none }

  scanner_shaped : IsNode scanner_shape scanner_parts
  unfolding same_kind
  scanner_shaped = record { there = λ a h. scanner_there a; again = λ c h. roll-out-Scanner c; texts = λ y. t.scanner_spells y; tests = λ y. t.scanner_fitting y ∙ ap (λ z. t.pattern_fits (out-Scanner y).first && z) (and_true (ph.all_fit tokens t.pattern_fits (out-Scanner y).rest)); wider = refl; longer = refl }

  abbrev scanner_open : Part Scanner
  scanner_open = node scanner_shape scanner_parts

  scanner_open_good : (d e : ℕ) (u v : Reader Union) → Good (atom goes) d e u v → Good scanner_open (suc d) (suc e) (r.scanner u) (r.scanner v)
  unfolding r.scanner same_kind
  scanner_open_good d e u v x = node_good scanner_shape scanner_parts scanner_shaped (suc d) (suc e)
      (good.good_behind (place_part k.OpenScanner) (seq (pattern_p goes) (seq (patterns_p goes) (place_part k.CloseScanner))) d e refl (p.at_OpenScanner (suc d) (suc e)) (good.good_seq (pattern_p goes) (seq (patterns_p goes) (place_part k.CloseScanner)) d e (pattern_good goes d e u v x) (good.good_seq (patterns_p goes) (place_part k.CloseScanner) d e (patterns_good goes d e u v x) (p.at_CloseScanner d e) (excluded (place_part k.CloseScanner).begins (patterns_p goes).may refl)) (excluded (seq (patterns_p goes) (place_part k.CloseScanner)).begins (pattern_p goes).may refl)) (excluded (seq (pattern_p goes) (seq (patterns_p goes) (place_part k.CloseScanner))).begins (place_part k.OpenScanner).may refl))

  -- no scanner goes on behind its `*|`
  scanner_shut : (c : Scanner) (x : Class) → scanner_open.goes c x ≡ false
  scanner_shut c x = rw (and_false (ph.is_none tokens (out-Scanner c).rest)) refl

  abbrev scanner_p : Part Scanner
  scanner_p = good.closed scanner_open

  scanner_good : (d e : ℕ) (u v : Reader Union) → Good (atom goes) d e u v → Good scanner_p (suc d) (suc e) (r.scanner u) (r.scanner v)
  scanner_good d e u v x = good.good_closed scanner_open scanner_shut (suc d) (suc e) (scanner_open_good d e u v x)

-- ---- operands

abbrev split_literal : Bool → Word → Choice
split_literal true w = inl (w, None)
split_literal false w = inr (inl w)

abbrev split : Level → Choice
split (open_operand.Literal w) = split_literal (is_character w.text) w
split (open_operand.Number n) = inr (inr (inl (n, None)))
split (open_operand.Range (key.Character w) dots high) = inl (w, Some (dots, high))
split (open_operand.Range (key.Number n) dots high) = inr (inr (inl (n, Some (dots, high))))
split (open_operand.Set w) = inr (inr (inr (inl w)))
split (open_operand.RegularExpression w) = inr (inr (inr (inr (inl w))))
split (open_operand.Name w) = inr (inr (inr (inr (inr (inl w)))))
split (open_operand.Group opening inner closing) = inr (inr (inr (inr (inr (inr (inl (opening, (inner, closing))))))))
split (open_operand.Scanner s) = inr (inr (inr (inr (inr (inr (inr s))))))

abbrev operand_split : Operand → Choice
operand_split x = split (out-Operand x)

literal_back : (b : Bool) (w : Word) → r.operand_of (split_literal b w) ≡ roll-Operand (open_operand.Literal w)
literal_back true w = sym (rolls-Literal w)
literal_back false w = sym (rolls-Literal w)

split_back : (level : Level) → r.operand_of (split level) ≡ roll-Operand level
split_back (open_operand.Literal w) = literal_back (is_character w.text) w
split_back (open_operand.Number n) = sym (rolls-Number n)
split_back (open_operand.Range (key.Character w) dots high) = sym (rolls-Range (key.Character w) dots high)
split_back (open_operand.Range (key.Number n) dots high) = sym (rolls-Range (key.Number n) dots high)
split_back (open_operand.Set w) = sym (rolls-Set w)
split_back (open_operand.RegularExpression w) = sym (rolls-RegularExpression w)
split_back (open_operand.Name w) = sym (rolls-Name w)
split_back (open_operand.Group opening inner closing) = sym (rolls-Group opening inner closing)
split_back (open_operand.Scanner s) = sym (rolls-Scanner s)

operand_back : (x : Operand) → r.operand_of (operand_split x) ≡ x
operand_back x = split_back (out-Operand x) ∙ roll-out-Operand x

module _ (goes : Goes) where
  abbrev inside_parts : Part (Union × Place)
  inside_parts = seq (atom goes) (place_part k.CloseParenthesis)

  abbrev group_parts : Part (Place × (Union × Place))
  group_parts = seq (place_part k.OpenParenthesis) inside_parts

  abbrev group_p : Part (Place × (Union × Place))
  group_p = named (begun (is k.OpenParenthesis) group_parts) group_parts

  group_good : (d e : ℕ) (u v : Reader Union) → Good (atom goes) d e u v → Good group_p (suc d) (suc e) (r.group u) (r.group v)
  unfolding r.group same_kind
  group_good d e u v x = named_good (begun (is k.OpenParenthesis) group_parts) group_parts (record { texts = λ c. refl; tests = λ c. refl; wider = refl; longer = refl }) (suc d) (suc e)
      (good.good_behind (place_part k.OpenParenthesis) inside_parts d e refl (p.at_OpenParenthesis (suc d) (suc e))
      (good.good_seq (atom goes) (place_part k.CloseParenthesis) d e x (p.at_CloseParenthesis d e) (excluded (place_part k.CloseParenthesis).begins (atom goes).may refl))
      (excluded inside_parts.begins (place_part k.OpenParenthesis).may refl))

  abbrev bracket_choice : Part ((Place × (Union × Place)) ⊎ Scanner)
  bracket_choice = choice group_p (scanner_p goes)

  abbrev name_choice : Part (Word ⊎ ((Place × (Union × Place)) ⊎ Scanner))
  name_choice = choice p.name_p bracket_choice

  abbrev expression_choice : Part (Word ⊎ (Word ⊎ ((Place × (Union × Place)) ⊎ Scanner)))
  expression_choice = choice regular_expression_p name_choice

  abbrev set_choice : Part (Word ⊎ (Word ⊎ (Word ⊎ ((Place × (Union × Place)) ⊎ Scanner))))
  set_choice = choice set_p expression_choice

  abbrev number_choice : Part ((Number × Option (Place × Key)) ⊎ (Word ⊎ (Word ⊎ (Word ⊎ ((Place × (Union × Place)) ⊎ Scanner)))))
  number_choice = choice number_range_p set_choice

  abbrev plain_choice : Part (Word ⊎ ((Number × Option (Place × Key)) ⊎ (Word ⊎ (Word ⊎ (Word ⊎ ((Place × (Union × Place)) ⊎ Scanner))))))
  plain_choice = choice plain_part number_choice

  abbrev operand_parts : Part Choice
  operand_parts = choice character_range_p plain_choice

  literal_there : (b : Bool) (w : Word) (c : Choice) → is_character w.text ≡ b → split_literal b w ≡ c → operand_split (r.operand_of (inr (inl w))) ≡ c
  literal_there b w c is e = ap split (outs-Literal w) ∙ (ap (λ z. split_literal z w) is ∙ e)

  operand_there : (a : Choice) → operand_parts.fits a ≡ true → operand_split (r.operand_of a) ≡ a
  operand_there (inl (w, None)) h = literal_there true w (inl (w, None)) (and_parts (is_character w.text) (p.high_p.fits None) h).0 refl
  operand_there (inl (w, Some (dots, high))) h = ap split (outs-Range (key.Character w) dots high)
  operand_there (inr (inl w)) h = literal_there false w (inr (inl w)) (not-true (is_character w.text) h) refl
  operand_there (inr (inr (inl (n, None)))) h = ap split (outs-Number n)
  operand_there (inr (inr (inl (n, Some (dots, high))))) h = ap split (outs-Range (key.Number n) dots high)
  operand_there (inr (inr (inr (inl w)))) h = ap split (outs-Set w)
  operand_there (inr (inr (inr (inr (inl w))))) h = ap split (outs-RegularExpression w)
  operand_there (inr (inr (inr (inr (inr (inl w)))))) h = ap split (outs-Name w)
  operand_there (inr (inr (inr (inr (inr (inr (inl (opening, (inner, closing))))))))) h = ap split (outs-Group opening inner closing)
  operand_there (inr (inr (inr (inr (inr (inr (inr s))))))) h = ap split (outs-Scanner s)

  literal_told : (b : Bool) (w : Word) → g.word k.Literal w ≡ operand_parts.spell (split_literal b w)
  literal_told true w = refl
  literal_told false w = refl

  level_text : (level : Level) → (t.told_level level).text ≡ operand_parts.spell (split level)
  level_text (open_operand.Literal w) = literal_told (is_character w.text) w
  level_text (open_operand.Number n) = sym (append-nil (g.number_text n))
  level_text (open_operand.Range (key.Character w) dots high) = refl
  level_text (open_operand.Range (key.Number n) dots high) = refl
  level_text (open_operand.Set w) = refl
  level_text (open_operand.RegularExpression w) = refl
  level_text (open_operand.Name w) = refl
  level_text (open_operand.Group opening inner closing) = refl
  level_text (open_operand.Scanner s) = refl

  literal_fit : (b : Bool) (w : Word) → is_character w.text ≡ b → true ≡ operand_parts.fits (split_literal b w)
  literal_fit true w is = rw is refl
  literal_fit false w is = rw is refl

  level_fits : (level : Level) → (t.told_level level).fits ≡ operand_parts.fits (split level)
  level_fits (open_operand.Literal w) = literal_fit (is_character w.text) w refl
  level_fits (open_operand.Number n) = refl
  level_fits (open_operand.Range (key.Character w) dots high) = refl
  level_fits (open_operand.Range (key.Number n) dots high) = refl
  level_fits (open_operand.Set w) = refl
  level_fits (open_operand.RegularExpression w) = refl
  level_fits (open_operand.Name w) = refl
  level_fits (open_operand.Group opening inner closing) = and_true (t.union_fits inner)
  level_fits (open_operand.Scanner s) = refl

  abbrev operand_shape : Shape Choice Operand
  operand_shape = record { to = r.operand_of; back = operand_split; spell = t.operand_text; fits = t.operand_fits; begins = by r.begins_operand; may = by may_operand }

  operand_shaped : IsNode operand_shape operand_parts
  unfolding same_kind
  operand_shaped = record {
    there = operand_there;
    again = λ c h. operand_back c;
    texts = λ x. ap g.told_text (t.operand_level x) ∙ level_text (out-Operand x);
    tests = λ x. ap t.told_fits (t.operand_level x) ∙ level_fits (out-Operand x);
    wider = refl;
    longer = refl;
  }

  abbrev operand_p : Part Operand
  operand_p = node operand_shape operand_parts

  operand_good : (d e : ℕ) (u v : Reader Union) → Good (atom goes) d e u v → Good operand_p (suc d) (suc e) (r.operand u) (r.operand v)
  unfolding r.operand same_kind
  operand_good d e u v x = node_good operand_shape operand_parts operand_shaped (suc d) (suc e)
      (good.good_choice character_range_p plain_choice (suc d) (suc e) refl refl (character_range_good (suc d) (suc e))
      (good.good_choice plain_part number_choice (suc d) (suc e) refl refl (good_plain (suc d) (suc e))
      (good.good_choice number_range_p set_choice (suc d) (suc e) refl refl (number_range_good (suc d) (suc e))
      (good.good_choice set_p expression_choice (suc d) (suc e) refl refl (set_good (suc d) (suc e))
      (good.good_choice regular_expression_p name_choice (suc d) (suc e) refl refl (regular_expression_good (suc d) (suc e))
      (good.good_choice p.name_p bracket_choice (suc d) (suc e) refl refl (p.name_good (suc d) (suc e))
      (good.good_choice group_p (scanner_p goes) (suc d) (suc e) refl refl (group_good d e u v x) (scanner_good goes d e u v x)
      (excluded (scanner_p goes).begins group_p.begins refl))
      (excluded bracket_choice.begins p.name_p.begins refl))
      (excluded name_choice.begins regular_expression_p.begins refl))
      (excluded expression_choice.begins set_p.begins refl))
      (excluded set_choice.begins number_range_p.begins refl))
      (excluded number_choice.begins plain_part.begins refl))
      (excluded plain_choice.begins character_range_p.begins refl))

-- ---- negations, repetitions, embeddings

abbrev negated_back : Negated → List Negation × Operand
negated_back y = ((out-Negated y).negations, (out-Negated y).operand)

negated_there : (a : List Negation × Operand) → negated_back (r.negated_of a) ≡ a
negated_there a = ap (λ z. (z.negations, z.operand)) (out-roll-Negated _)

module _ (goes : Goes) where
  abbrev negated_parts : Part (List Negation × Operand)
  negated_parts = seq p.negations_p (operand_p goes)

  abbrev negated_shape : Shape (List Negation × Operand) Negated
  negated_shape = record { to = r.negated_of; back = negated_back; spell = t.negated_text; fits = t.negated_fits; begins = by r.begins_expression; may = by may_operand }

  negated_shaped : IsNode negated_shape negated_parts
  unfolding same_kind
  negated_shaped = record { there = λ a h. negated_there a; again = λ c h. roll-out-Negated c; texts = λ y. t.negated_spells y; tests = λ y. t.negated_fitting y; wider = refl; longer = refl }

  abbrev negated_p : Part Negated
  negated_p = node negated_shape negated_parts

  negated_good : (d e : ℕ) (u v : Reader Union) → Good (atom goes) d e u v → Good negated_p (suc d) (suc e) (r.negated u) (r.negated v)
  unfolding r.negated same_kind
  negated_good d e u v x = node_good negated_shape negated_parts negated_shaped (suc d) (suc e)
      (good.good_seq p.negations_p (operand_p goes) (suc d) (suc e) (p.negations_good (suc d) (suc e)) (operand_good goes d e u v x) (excluded (operand_p goes).begins p.negations_p.may refl))

abbrev repeated_back : Repeated → Negated × List Repetition
repeated_back y = ((out-Repeated y).operand, (out-Repeated y).repetitions)

repeated_there : (a : Negated × List Repetition) → repeated_back (r.repeated_of a) ≡ a
repeated_there a = ap (λ z. (z.operand, z.repetitions)) (out-roll-Repeated _)

module _ (goes : Goes) where
  abbrev repeated_parts : Part (Negated × List Repetition)
  repeated_parts = seq (negated_p goes) p.repetitions_p

  abbrev repeated_shape : Shape (Negated × List Repetition) Repeated
  repeated_shape = record { to = r.repeated_of; back = repeated_back; spell = t.repeated_text; fits = t.repeated_fits; begins = by r.begins_expression; may = by may_repeated }

  repeated_shaped : IsNode repeated_shape repeated_parts
  unfolding same_kind
  repeated_shaped = record { there = λ a h. repeated_there a; again = λ c h. roll-out-Repeated c; texts = λ y. t.repeated_spells y; tests = λ y. t.repeated_fitting y ∙ and_true (t.negated_fits (out-Repeated y).operand); wider = refl; longer = refl }

  abbrev repeated_p : Part Repeated
  repeated_p = node repeated_shape repeated_parts

  repeated_good : (d e : ℕ) (u v : Reader Union) → Good (atom goes) d e u v → Good repeated_p (suc d) (suc e) (r.repeated u) (r.repeated v)
  unfolding r.repeated same_kind
  repeated_good d e u v x = node_good repeated_shape repeated_parts repeated_shaped (suc d) (suc e)
      (good.good_seq (negated_p goes) p.repetitions_p (suc d) (suc e) (negated_good goes d e u v x) (p.repetitions_good (suc d) (suc e)) (excluded p.repetitions_p.begins (negated_p goes).may refl))

abbrev embedded_back : Embedded → Repeated × List Embedding
embedded_back y = ((out-Embedded y).operand, (out-Embedded y).embeddings)

embedded_there : (a : Repeated × List Embedding) → embedded_back (r.embedded_of a) ≡ a
embedded_there a = ap (λ z. (z.operand, z.embeddings)) (out-roll-Embedded _)

module _ (goes : Goes) where
  abbrev embedded_parts : Part (Repeated × List Embedding)
  embedded_parts = seq (repeated_p goes) p.embeddings_p

  abbrev embedded_shape : Shape (Repeated × List Embedding) Embedded
  embedded_shape = record { to = r.embedded_of; back = embedded_back; spell = t.embedded_text; fits = t.embedded_fits; begins = by r.begins_expression; may = by may_embedded }

  embedded_shaped : IsNode embedded_shape embedded_parts
  unfolding same_kind
  embedded_shaped = record { there = λ a h. embedded_there a; again = λ c h. roll-out-Embedded c; texts = λ y. t.embedded_spells y; tests = λ y. t.embedded_fitting y ∙ and_true (t.repeated_fits (out-Embedded y).operand); wider = refl; longer = refl }

  abbrev embedded_p : Part Embedded
  embedded_p = node embedded_shape embedded_parts

  embedded_good : (d e : ℕ) (u v : Reader Union) → Good (atom goes) d e u v → Good embedded_p (suc d) (suc e) (r.embedded u) (r.embedded v)
  unfolding r.embedded same_kind
  embedded_good d e u v x = node_good embedded_shape embedded_parts embedded_shaped (suc d) (suc e)
      (good.good_seq (repeated_p goes) p.embeddings_p (suc d) (suc e) (repeated_good goes d e u v x) (p.embeddings_good (suc d) (suc e)) (excluded p.embeddings_p.begins (repeated_p goes).may refl))

-- ---- concatenations

abbrev part_split : Option ConcatenationSign → Embedded → (ConcatenationSign × Embedded) ⊎ Embedded
part_split None e = inr e
part_split (Some sign) e = inl (sign, e)

abbrev part_back : ConcatenationPart → (ConcatenationSign × Embedded) ⊎ Embedded
part_back y = part_split (out-ConcatenationPart y).sign (out-ConcatenationPart y).operand

part_there : (a : (ConcatenationSign × Embedded) ⊎ Embedded) → part_back (r.part_of a) ≡ a
part_there (inl (sign, e)) = ap (λ z. part_split z.sign z.operand) (out-roll-ConcatenationPart (record { sign = Some sign; operand = e }))
part_there (inr e) = ap (λ z. part_split z.sign z.operand) (out-roll-ConcatenationPart (record { sign = None; operand = e }))

part_rolls : (sign : Option ConcatenationSign) (e : Embedded) → r.part_of (part_split sign e) ≡ roll-ConcatenationPart (record { sign = sign; operand = e })
part_rolls None e = refl
part_rolls (Some sign) e = refl

part_again : (y : ConcatenationPart) → r.part_of (part_back y) ≡ y
part_again y = part_rolls (out-ConcatenationPart y).sign (out-ConcatenationPart y).operand ∙ roll-out-ConcatenationPart y

minus_first : (u : g.Text) → g.begins_with_minus u ≡ ph.opens_with tokens (is k.Minus) u
minus_first [] = refl
minus_first (l ∷ ls) = refl

module _ (goes : Goes) where
  abbrev joined_parts : Part (ConcatenationSign × Embedded)
  joined_parts = seq p.concatenation_sign_p (embedded_p goes)

  abbrev joined_p : Part (ConcatenationSign × Embedded)
  joined_p = named (begun (by r.begins_concatenation_sign) joined_parts) joined_parts

  joined_named : (x : Sound joined_parts) → Sound joined_p
  unfolding same_kind
  joined_named x = named_sound (begun (by r.begins_concatenation_sign) joined_parts) joined_parts (record { texts = λ c. refl; tests = λ c. refl; wider = refl; longer = refl }) x

  joined_good : (d e : ℕ) (u v : Reader Union) → Good (atom goes) d e u v → Good joined_p (suc d) (suc e) (r.joined u) (r.joined v)
  unfolding r.joined same_kind
  joined_good d e u v x = named_good (begun (by r.begins_concatenation_sign) joined_parts) joined_parts (record { texts = λ c. refl; tests = λ c. refl; wider = refl; longer = refl }) (suc d) (suc e)
      (good.good_seq p.concatenation_sign_p (embedded_p goes) (suc d) (suc e) (p.concatenation_sign_good (suc d) (suc e)) (embedded_good goes d e u v x) (excluded (embedded_p goes).begins p.concatenation_sign_p.may refl))

  abbrev adjacent_p : Part Embedded
  adjacent_p = ph.barring tokens (is k.Minus) (embedded_p goes)

  abbrev concatenation_part_parts : Part ((ConcatenationSign × Embedded) ⊎ Embedded)
  concatenation_part_parts = choice joined_p adjacent_p

  part_told : (sign : Option ConcatenationSign) (e : Embedded) → g.joined_text sign ++ t.embedded_text e ≡ concatenation_part_parts.spell (part_split sign e)
  part_told None e = refl
  part_told (Some sign) e = refl

  part_fit : (sign : Option ConcatenationSign) (e : Embedded) → (t.embedded_fits e && not (g.is_adjacent sign && g.begins_with_minus (t.embedded_text e))) ≡ concatenation_part_parts.fits (part_split sign e)
  part_fit None e = ap (λ z. t.embedded_fits e && not z) (minus_first (t.embedded_text e))
  part_fit (Some sign) e = sym (and_true (t.embedded_fits e))

  abbrev concatenation_part_shape : Shape ((ConcatenationSign × Embedded) ⊎ Embedded) ConcatenationPart
  concatenation_part_shape = record { to = r.part_of; back = part_back; spell = t.concatenation_part_text; fits = t.concatenation_part_fits; begins = by r.begins_concatenation_part; may = by may_embedded }

  concatenation_part_shaped : IsNode concatenation_part_shape concatenation_part_parts
  unfolding same_kind
  concatenation_part_shaped = record {
    there = λ a h. part_there a;
    again = λ c h. part_again c;
    texts = λ y. t.concatenation_part_spells y ∙ part_told (out-ConcatenationPart y).sign (out-ConcatenationPart y).operand;
    tests = λ y. t.concatenation_part_fitting y ∙ part_fit (out-ConcatenationPart y).sign (out-ConcatenationPart y).operand;
    wider = refl;
    longer = refl;
  }

  abbrev concatenation_part_p : Part ConcatenationPart
  concatenation_part_p = node concatenation_part_shape concatenation_part_parts

  -- the least operand begins with no `-`
  literal_text : t.operand_text least_operand ≡ g.word k.Literal literal
  unfolding same_kind characters
  literal_text = (operand_shaped goes).texts least_operand ∙ ap (operand_parts goes).spell (operand_there goes (inl (literal, None)) refl)

  least_negated_text : t.negated_text least_negated ≡ g.word k.Literal literal
  least_negated_text = t.negated_spells least_negated ∙ (ap (λ z. flat_map g.negation_text z.negations ++ t.operand_text z.operand) (out-roll-Negated (record { negations = []; operand = least_operand })) ∙ literal_text)

  least_repeated_text : t.repeated_text least_repeated ≡ g.word k.Literal literal
  least_repeated_text = t.repeated_spells least_repeated ∙ (ap (λ z. t.negated_text z.operand ++ flat_map g.repetition_text z.repetitions) (out-roll-Repeated (record { operand = least_negated; repetitions = [] })) ∙ ap (λ z. z ++ []) least_negated_text)

  least_embedded_text : t.embedded_text least_embedded ≡ g.word k.Literal literal
  least_embedded_text = t.embedded_spells least_embedded ∙ (ap (λ z. t.repeated_text z.operand ++ flat_map g.embedding_text z.embeddings) (out-roll-Embedded (record { operand = least_repeated; embeddings = [] })) ∙ ap (λ z. z ++ []) least_repeated_text)

  adjacent_least : Sound (embedded_p goes) → adjacent_p.fits (embedded_p goes).least ≡ true
  unfolding same_kind
  adjacent_least es =
      let f : t.embedded_fits least_embedded ≡ true = es.least_fits in
      let n : ph.opens_with tokens (is k.Minus) (t.embedded_text least_embedded) ≡ false = ap (ph.opens_with tokens (is k.Minus)) least_embedded_text in
      rw f (rw n refl)

  adjacent_good : (d e : ℕ) (u v : Reader Union) → Good (atom goes) d e u v → Good adjacent_p (suc d) (suc e) (r.adjacent u) (r.adjacent v)
  unfolding r.adjacent
  adjacent_good d e u v x =
      let eg = embedded_good goes d e u v x in
      good.good_barring (is k.Minus) (embedded_p goes) (suc d) (suc e) refl (adjacent_least eg.sound) eg

  concatenation_part_good : (d e : ℕ) (u v : Reader Union) → Good (atom goes) d e u v → Good concatenation_part_p (suc d) (suc e) (r.concatenation_part u) (r.concatenation_part v)
  unfolding r.concatenation_part same_kind
  concatenation_part_good d e u v x = node_good concatenation_part_shape concatenation_part_parts concatenation_part_shaped (suc d) (suc e)
      (good.good_choice joined_p adjacent_p (suc d) (suc e) refl refl (joined_good d e u v x) (adjacent_good d e u v x) (excluded adjacent_p.begins joined_p.begins refl))

  abbrev concatenation_parts_p : Part (List ConcatenationPart)
  concatenation_parts_p = list_of concatenation_part_p

  concatenation_parts_good : (d e : ℕ) (u v : Reader Union) → Good (atom goes) d e u v → Good concatenation_parts_p (suc d) (suc e) (r.concatenation_parts u) (r.concatenation_parts v)
  unfolding r.concatenation_parts same_kind
  concatenation_parts_good d e u v x = good.good_list concatenation_part_p (suc d) (suc e) refl (concatenation_part_good d e u v x) (excluded concatenation_part_p.begins concatenation_part_p.may refl)

abbrev concatenation_back : Concatenation → Embedded × List ConcatenationPart
concatenation_back y = ((out-Concatenation y).first, (out-Concatenation y).rest)

concatenation_there : (a : Embedded × List ConcatenationPart) → concatenation_back (r.concatenated_of a) ≡ a
concatenation_there a = ap (λ z. (z.first, z.rest)) (out-roll-Concatenation _)

module _ (goes : Goes) where
  abbrev concatenation_parts : Part (Embedded × List ConcatenationPart)
  concatenation_parts = seq (embedded_p goes) (concatenation_parts_p goes)

  abbrev concatenation_shape : Shape (Embedded × List ConcatenationPart) Concatenation
  concatenation_shape = record { to = r.concatenated_of; back = concatenation_back; spell = t.concatenation_text; fits = t.concatenation_fits; begins = by r.begins_expression; may = by may_concatenation }

  concatenation_shaped : IsNode concatenation_shape concatenation_parts
  unfolding same_kind
  concatenation_shaped = record { there = λ a h. concatenation_there a; again = λ c h. roll-out-Concatenation c; texts = λ y. t.concatenation_spells y; tests = λ y. t.concatenation_fitting y; wider = refl; longer = refl }

  abbrev concatenation_p : Part Concatenation
  concatenation_p = node concatenation_shape concatenation_parts

  concatenation_good : (d e : ℕ) (u v : Reader Union) → Good (atom goes) d e u v → Good concatenation_p (suc d) (suc e) (r.concatenated u) (r.concatenated v)
  unfolding r.concatenated same_kind
  concatenation_good d e u v x = node_good concatenation_shape concatenation_parts concatenation_shaped (suc d) (suc e)
      (good.good_seq (embedded_p goes) (concatenation_parts_p goes) (suc d) (suc e) (embedded_good goes d e u v x) (concatenation_parts_good goes d e u v x) (excluded (concatenation_parts_p goes).begins (embedded_p goes).may refl))

-- ---- unions

abbrev union_part_back : UnionPart → UnionSign × Concatenation
union_part_back y = ((out-UnionPart y).sign, (out-UnionPart y).operand)

union_part_there : (a : UnionSign × Concatenation) → union_part_back (r.union_part_of a) ≡ a
union_part_there a = ap (λ z. (z.sign, z.operand)) (out-roll-UnionPart _)

module _ (goes : Goes) where
  abbrev union_part_parts : Part (UnionSign × Concatenation)
  union_part_parts = seq p.union_sign_p (concatenation_p goes)

  abbrev union_part_shape : Shape (UnionSign × Concatenation) UnionPart
  union_part_shape = record { to = r.union_part_of; back = union_part_back; spell = t.union_part_text; fits = t.union_part_fits; begins = by r.begins_union_part; may = by may_concatenation }

  union_part_shaped : IsNode union_part_shape union_part_parts
  unfolding same_kind
  union_part_shaped = record { there = λ a h. union_part_there a; again = λ c h. roll-out-UnionPart c; texts = λ y. t.union_part_spells y; tests = λ y. t.union_part_fitting y ∙ true_and (t.concatenation_fits (out-UnionPart y).operand); wider = refl; longer = refl }

  abbrev union_part_p : Part UnionPart
  union_part_p = node union_part_shape union_part_parts

  union_part_good : (d e : ℕ) (u v : Reader Union) → Good (atom goes) d e u v → Good union_part_p (suc d) (suc e) (r.union_part u) (r.union_part v)
  unfolding r.union_part same_kind
  union_part_good d e u v x = node_good union_part_shape union_part_parts union_part_shaped (suc d) (suc e)
      (good.good_seq p.union_sign_p (concatenation_p goes) (suc d) (suc e) (p.union_sign_good (suc d) (suc e)) (concatenation_good goes d e u v x) (excluded (concatenation_p goes).begins p.union_sign_p.may refl))

  abbrev union_parts_p : Part (List UnionPart)
  union_parts_p = list_of union_part_p

  union_parts_good : (d e : ℕ) (u v : Reader Union) → Good (atom goes) d e u v → Good union_parts_p (suc d) (suc e) (r.union_parts u) (r.union_parts v)
  unfolding r.union_parts same_kind
  union_parts_good d e u v x = good.good_list union_part_p (suc d) (suc e) refl (union_part_good d e u v x) (excluded union_part_p.begins union_part_p.may refl)

abbrev union_back : Union → Concatenation × List UnionPart
union_back y = ((out-Union y).first, (out-Union y).rest)

union_there : (a : Concatenation × List UnionPart) → union_back (r.united_of a) ≡ a
union_there a = ap (λ z. (z.first, z.rest)) (out-roll-Union _)

module _ (goes : Goes) where
  abbrev union_parts : Part (Concatenation × List UnionPart)
  union_parts = seq (concatenation_p goes) (union_parts_p goes)

  abbrev union_shape : Shape (Concatenation × List UnionPart) Union
  union_shape = record { to = r.united_of; back = union_back; spell = t.union_text; fits = t.union_fits; begins = by r.begins_expression; may = by may_union }

  union_shaped : IsNode union_shape union_parts
  unfolding same_kind
  union_shaped = record { there = λ a h. union_there a; again = λ c h. roll-out-Union c; texts = λ y. t.union_spells y; tests = λ y. t.union_fitting y; wider = refl; longer = refl }

  abbrev union_p : Part Union
  union_p = node union_shape union_parts

  union_good : (d e : ℕ) (u v : Reader Union) → Good (atom goes) d e u v → Good union_p (suc d) (suc e) (r.united u) (r.united v)
  unfolding r.united same_kind
  union_good d e u v x = node_good union_shape union_parts union_shaped (suc d) (suc e)
      (good.good_seq (concatenation_p goes) (union_parts_p goes) (suc d) (suc e) (concatenation_good goes d e u v x) (union_parts_good goes d e u v x) (excluded (union_parts_p goes).begins (concatenation_p goes).may refl))

-- ---- what is so of each rule, whatever stands inside

abbrev none_goes : Goes
none_goes u k = false

-- the classes that an expression would go on with
abbrev union_goes : Goes
union_goes = (union_p none_goes).goes

literal_fits : t.operand_fits least_operand ≡ true
unfolding same_kind characters
literal_fits = (operand_shaped none_goes).tests least_operand ∙ ap (operand_parts none_goes).fits (operand_there none_goes (inl (literal, None)) refl)

least_negated_fits : t.negated_fits least_negated ≡ true
least_negated_fits = t.negated_fitting least_negated ∙ (ap (λ z. t.operand_fits z.operand) (out-roll-Negated (record { negations = []; operand = least_operand })) ∙ literal_fits)

least_repeated_fits : t.repeated_fits least_repeated ≡ true
least_repeated_fits = t.repeated_fitting least_repeated ∙ (ap (λ z. t.negated_fits z.operand) (out-roll-Repeated (record { operand = least_negated; repetitions = [] })) ∙ least_negated_fits)

least_embedded_fits : t.embedded_fits least_embedded ≡ true
least_embedded_fits = t.embedded_fitting least_embedded ∙ (ap (λ z. t.repeated_fits z.operand) (out-roll-Embedded (record { operand = least_repeated; embeddings = [] })) ∙ least_repeated_fits)

least_concatenation_fits : t.concatenation_fits least_concatenation ≡ true
least_concatenation_fits = t.concatenation_fitting least_concatenation ∙ (ap (λ z. t.embedded_fits z.first && ph.all_fit tokens t.concatenation_part_fits z.rest) (out-roll-Concatenation (record { first = least_embedded; rest = [] })) ∙ ap (λ z. z && true) least_embedded_fits)

least_union_fits : t.union_fits least_union ≡ true
least_union_fits = t.union_fitting least_union ∙ (ap (λ z. t.concatenation_fits z.first && ph.all_fit tokens t.union_part_fits z.rest) (out-roll-Union (record { first = least_concatenation; rest = [] })) ∙ ap (λ z. z && true) least_concatenation_fits)

least_concatenation_text : t.concatenation_text least_concatenation ≡ g.word k.Literal literal
least_concatenation_text = t.concatenation_spells least_concatenation ∙ (ap (λ z. t.embedded_text z.first ++ flat_map t.concatenation_part_text z.rest) (out-roll-Concatenation (record { first = least_embedded; rest = [] })) ∙ ap (λ z. z ++ []) (least_embedded_text none_goes))

least_union_text : t.union_text least_union ≡ g.word k.Literal literal
least_union_text = t.union_spells least_union ∙ (ap (λ z. t.concatenation_text z.first ++ flat_map t.union_part_text z.rest) (out-roll-Union (record { first = least_concatenation; rest = [] })) ∙ ap (λ z. z ++ []) least_concatenation_text)

abbrev least_pattern : Pattern
least_pattern = r.pattern_of (least_union, (None, literal.place))

least_pattern_fits : t.pattern_fits least_pattern ≡ true
least_pattern_fits = t.pattern_fitting least_pattern ∙ (ap (λ z. t.union_fits z.value) (out-roll-Pattern (record { value = least_union; action = None; semicolon = literal.place })) ∙ least_union_fits)

least_pattern_text : t.pattern_text least_pattern ≡ g.word k.Literal literal ++ g.mark k.Semicolon literal.place
least_pattern_text = t.pattern_spells least_pattern ∙ (ap (λ z. t.union_text z.value ++ (g.pattern_action_text z.action ++ g.mark k.Semicolon z.semicolon)) (out-roll-Pattern (record { value = least_union; action = None; semicolon = literal.place })) ∙ ap (λ z. z ++ g.mark k.Semicolon literal.place) least_union_text)

module _ (goes : Goes) where
  group_sound : Sound (group_p goes)
  unfolding same_kind
  group_sound = record {
    starts = λ c l ls h e.
        let here : record { kind = k.OpenParenthesis; text = []; place = c.0 } ≡ l = cc in
        let kind : l.kind ≡ k.OpenParenthesis = ap (λ z. z.kind) (sym here) in
        rw kind refl;
    empty = λ c h b. cc (b);
    full = λ c h b e. cc (e);
    nulls = λ c b. cc (b);
    bounds = λ c kind x. cc (x);
    least_fits = rw least_union_fits refl;
    least_told = rw least_union_text refl;
  }

  scanner_parts_sound : Sound (scanner_parts goes)
  unfolding same_kind
  scanner_parts_sound = record {
    starts = λ c l ls h e.
        let here : record { kind = k.OpenScanner; text = []; place = c.0 } ≡ l = cc in
        let kind : l.kind ≡ k.OpenScanner = ap (λ z. z.kind) (sym here) in
        rw kind refl;
    empty = λ c h b. cc (b);
    full = λ c h b e. cc (e);
    nulls = λ c b. cc (b);
    bounds = λ c kind x.
        let shut : (ph.is_none tokens c.1.1.0 && false) ≡ false = and_false (ph.is_none tokens c.1.1.0) in
        let h : false ≡ true = rw shut at x in
        cc (h);
    least_fits = rw least_pattern_fits refl;
    least_told = rw least_pattern_text refl;
  }

  scanner_sound : Sound (scanner_p goes)
  scanner_sound = good.closed_sound (scanner_open goes) (node_sound (scanner_shape goes) (scanner_parts goes) (scanner_shaped goes) scanner_parts_sound)

  operand_sound : Sound (operand_p goes)
  unfolding same_kind
  operand_sound = node_sound (operand_shape goes) (operand_parts goes) (operand_shaped goes)
      (ph.choice_sound tokens character_range_p (plain_choice goes) (character_range_good 0 0).sound
      (ph.choice_sound tokens plain_part (number_choice goes) (good_plain 0 0).sound
      (ph.choice_sound tokens number_range_p (set_choice goes) (number_range_good 0 0).sound
      (ph.choice_sound tokens set_p (expression_choice goes) (set_good 0 0).sound
      (ph.choice_sound tokens regular_expression_p (name_choice goes) (regular_expression_good 0 0).sound
      (ph.choice_sound tokens p.name_p (bracket_choice goes) (p.name_good 0 0).sound
      (ph.choice_sound tokens (group_p goes) (scanner_p goes) group_sound scanner_sound refl refl) refl refl) refl refl) refl refl) refl refl) refl refl) refl refl)

  negated_sound : Sound (negated_p goes)
  negated_sound = node_sound (negated_shape goes) (negated_parts goes) (negated_shaped goes) (ph.seq_sound tokens p.negations_p (operand_p goes) (p.negations_good 0 0).sound operand_sound)

  repeated_sound : Sound (repeated_p goes)
  repeated_sound = node_sound (repeated_shape goes) (repeated_parts goes) (repeated_shaped goes) (ph.seq_sound tokens (negated_p goes) p.repetitions_p negated_sound (p.repetitions_good 0 0).sound)

  embedded_sound : Sound (embedded_p goes)
  embedded_sound = node_sound (embedded_shape goes) (embedded_parts goes) (embedded_shaped goes) (ph.seq_sound tokens (repeated_p goes) p.embeddings_p repeated_sound (p.embeddings_good 0 0).sound)

  concatenation_part_sound : Sound (concatenation_part_p goes)
  concatenation_part_sound = node_sound (concatenation_part_shape goes) (concatenation_part_parts goes) (concatenation_part_shaped goes)
      (ph.choice_sound tokens (joined_p goes) (adjacent_p goes) (joined_named goes (ph.seq_sound tokens p.concatenation_sign_p (embedded_p goes) (p.concatenation_sign_good 0 0).sound embedded_sound))
      (ph.barring_sound tokens (is k.Minus) (embedded_p goes) embedded_sound refl (adjacent_least goes embedded_sound)) refl refl)

  concatenation_sound : Sound (concatenation_p goes)
  concatenation_sound = node_sound (concatenation_shape goes) (concatenation_parts goes) (concatenation_shaped goes)
      (ph.seq_sound tokens (embedded_p goes) (concatenation_parts_p goes) embedded_sound (ph.list_sound tokens (concatenation_part_p goes) concatenation_part_sound refl))

  union_part_sound : Sound (union_part_p goes)
  union_part_sound = node_sound (union_part_shape goes) (union_part_parts goes) (union_part_shaped goes) (ph.seq_sound tokens p.union_sign_p (concatenation_p goes) (p.union_sign_good 0 0).sound concatenation_sound)

  union_sound : Sound (union_p goes)
  union_sound = node_sound (union_shape goes) (union_parts goes) (union_shaped goes) (ph.seq_sound tokens (concatenation_p goes) (union_parts_p goes) concatenation_sound (ph.list_sound tokens (union_part_p goes) union_part_sound refl))

-- ---- the reader of an expression that stands inside

abbrev pub union_atom : Part Union
union_atom = atom union_goes

atom_sound : Sound union_atom
unfolding same_kind
atom_sound =
    let s : Sound (union_p union_goes) = union_sound union_goes in
    record {
      starts = s.starts;
      empty = λ u h b. cc (b);
      full = λ u h b. s.full u h (ph.never_bare tokens (union_p union_goes) s refl u);
      nulls = λ u b. cc (b);
      bounds = λ u c g. s.bounds u c g;
      least_fits = least_union_fits;
      least_told = rw least_union_text refl;
    }

abbrev Reads : Part Union → ℕ → Reader Union → Type 0
Reads q d read = ph.Reads tokens q d read

atom_reads : (d : ℕ) (read : Reader Union) → Reads (union_p union_goes) d read → Reads union_atom d read
atom_reads d read x = record {
  sound = λ ts a rest e. let y : ph.Took tokens (union_p union_goes) ts a rest = x.sound ts a rest e in record { front = y.front; split = y.split; spelled = y.spelled; fits = y.fits; stops = y.stops };
  again = x.again;
  viable = λ ts n e. let v : ph.Viable tokens (union_p union_goes) ts n = x.viable ts n e in record { front = v.front; rest = v.rest; after = v.after; whole = v.whole; split = v.split; left = v.left; spelled = v.spelled; fits = v.fits };
}

atom_good : (d e : ℕ) (read other : Reader Union) → Good (union_p union_goes) d e read other → Good union_atom d e read other
atom_good d e read other x = record { sound = atom_sound; here = atom_reads d read x.here; there = atom_reads e other x.there; same = x.same; clean = x.clean }

none_read : Reads union_atom 0 (r.nested 0)
unfolding r.nested
none_read = record {
  sound = λ ts a rest e. cc (e);
  again = λ front a rest len e h s.
      let first = ph.first_of_text tokens front (t.union_text a) e (atom_sound.full a h refl) in
      let count : length front ≡ suc (length first.1) = ap length first.2 in
      absurd (omega arith);
  viable = λ ts n e. record { front = []; rest = ts; after = union_atom.least_tokens; whole = least_union; split = refl; left = sym (ph.same_err tokens e); spelled = atom_sound.least_told; fits = least_union_fits };
}

no_text : {X : Type 0} (u : List X) → length u ≤ 0 → (u ≡ [] → ⊥) → ⊥
no_text [] l full = full refl
no_text (x ∷ u) l full = omega arith

none_clean : good.Lacks tokens is_end union_atom 0
none_clean a h l = absurd (no_text (t.union_text a) l (atom_sound.full a h refl))

none_local : (d e : ℕ) (read other : Reader Union) → (d ≡ 0) ⊎ (e ≡ 0) → ph.Local tokens d e read other
none_local d e read other (inl z) = record { same = λ front t r y ld le err. absurd (omega (arith, length-append front (t ∷ r))) }
none_local d e read other (inr z) = record { same = λ front t r y ld le err. absurd (omega (arith, length-append front (t ∷ y))) }

-- at one depth
diagonal : (d : ℕ) → Good union_atom d d (r.nested d) (r.nested d)
unfolding r.nested
diagonal zero = record { sound = atom_sound; here = none_read; there = none_read; same = none_local 0 0 (r.nested 0) (r.nested 0) (inl refl); clean = none_clean }
diagonal (suc d) = atom_good (suc d) (suc d) (r.nested (suc d)) (r.nested (suc d)) (union_good union_goes d d (r.nested d) (r.nested d) (diagonal d))

-- at any two
pub nested_good : (d e : ℕ) → Good union_atom d e (r.nested d) (r.nested e)
unfolding r.nested
nested_good zero e = record { sound = atom_sound; here = none_read; there = (diagonal e).here; same = none_local 0 e (r.nested 0) (r.nested e) (inl refl); clean = none_clean }
nested_good (suc d) zero = record { sound = atom_sound; here = (diagonal (suc d)).here; there = none_read; same = none_local (suc d) 0 (r.nested (suc d)) (r.nested 0) (inr refl); clean = (diagonal (suc d)).clean }
nested_good (suc d) (suc e) = atom_good (suc d) (suc e) (r.nested (suc d)) (r.nested (suc e)) (union_good union_goes d e (r.nested d) (r.nested e) (nested_good d e))

pub whole_good : (d e : ℕ) → Good union_atom (suc d) (suc e) (r.united (r.nested d)) (r.united (r.nested e))
whole_good d e = atom_good (suc d) (suc e) (r.united (r.nested d)) (r.united (r.nested e)) (union_good union_goes d e (r.nested d) (r.nested e) (nested_good d e))
