-- What trees spell, one level at a time.
use Rattle.std.proofs.Common.{◌≡◌, Bool, List, [], ◌∷◌, ◌++◌, map, refl, ap, ◌∙◌}
use Rattle.std.specs.Prelude.{◌&&◌, not}
use Rattle.std.specs.List.{flat_map}
use Rattle.rl_readers.proofs.Phrases.{all_fit}
use Rattle.rl_grammar.specs.Grammar as g
use Rattle.rl_grammar.specs.Grammar.{Text, Told}
use Rattle.rl_grammar.specs.declared.token.TokenKind.TheVariants as k
use Rattle.rl_parse.specs.Classes.{tokens}
use Rattle.rl_grammar.specs.declared.syntax.Operand.{Operand, out-Operand, fold_out-Operand}
use Rattle.rl_grammar.specs.declared.syntax.Concatenation.{Concatenation, out-Concatenation, fold_out-Concatenation}
use Rattle.rl_grammar.specs.declared.syntax.ConcatenationPart.{ConcatenationPart, out-ConcatenationPart, fold_out-ConcatenationPart}
use Rattle.rl_grammar.specs.declared.syntax.Embedded.{Embedded, out-Embedded, fold_out-Embedded}
use Rattle.rl_grammar.specs.declared.syntax.Negated.{Negated, out-Negated, fold_out-Negated}
use Rattle.rl_grammar.specs.declared.syntax.Pattern.{Pattern, out-Pattern, fold_out-Pattern}
use Rattle.rl_grammar.specs.declared.syntax.Repeated.{Repeated, out-Repeated, fold_out-Repeated}
use Rattle.rl_grammar.specs.declared.syntax.Scanner.{Scanner, out-Scanner, fold_out-Scanner}
use Rattle.rl_grammar.specs.declared.syntax.Union.{Union, out-Union, fold_out-Union}
use Rattle.rl_grammar.specs.declared.syntax.UnionPart.{UnionPart, out-UnionPart, fold_out-UnionPart}
use Rattle.rl_grammar.specs.declared.syntax.Operand.TheOpen.{Operand-F}
use Rattle.rl_grammar.specs.declared.syntax.Operand.TheFolds.{map-Operand}

flat_told : {X : Type 0} (f : X → Told) (xs : List X) → flat_map g.told_text (map f xs) ≡ flat_map (λ x. (f x).text) xs
flat_told f [] = refl
flat_told f (x ∷ xs) = ap (λ z. (f x).text ++ z) (flat_told f xs)

fits_told : {X : Type 0} (f : X → Told) (xs : List X) → g.all_fit (map f xs) ≡ all_fit tokens (λ x. (f x).fits) xs
fits_told f [] = refl
fits_told f (x ∷ xs) = ap (λ z. (f x).fits && z) (fits_told f xs)

abbrev pub told_fits : Told → Bool
told_fits t = t.fits

abbrev pub operand_text : Operand → Text
operand_text x = (g.operand_told x).text

abbrev pub operand_fits : Operand → Bool
operand_fits x = (g.operand_told x).fits

abbrev pub concatenation_text : Concatenation → Text
concatenation_text x = (g.concatenation_told x).text

abbrev pub concatenation_fits : Concatenation → Bool
concatenation_fits x = (g.concatenation_told x).fits

abbrev pub concatenation_part_text : ConcatenationPart → Text
concatenation_part_text x = (g.concatenation_part_told x).text

abbrev pub concatenation_part_fits : ConcatenationPart → Bool
concatenation_part_fits x = (g.concatenation_part_told x).fits

abbrev pub embedded_text : Embedded → Text
embedded_text x = (g.embedded_told x).text

abbrev pub embedded_fits : Embedded → Bool
embedded_fits x = (g.embedded_told x).fits

abbrev pub negated_text : Negated → Text
negated_text x = (g.negated_told x).text

abbrev pub negated_fits : Negated → Bool
negated_fits x = (g.negated_told x).fits

abbrev pub pattern_text : Pattern → Text
pattern_text x = (g.pattern_told x).text

abbrev pub pattern_fits : Pattern → Bool
pattern_fits x = (g.pattern_told x).fits

abbrev pub repeated_text : Repeated → Text
repeated_text x = (g.repeated_told x).text

abbrev pub repeated_fits : Repeated → Bool
repeated_fits x = (g.repeated_told x).fits

abbrev pub scanner_text : Scanner → Text
scanner_text x = (g.scanner_told x).text

abbrev pub scanner_fits : Scanner → Bool
scanner_fits x = (g.scanner_told x).fits

abbrev pub union_text : Union → Text
union_text x = (g.union_told x).text

abbrev pub union_fits : Union → Bool
union_fits x = (g.union_told x).fits

abbrev pub union_part_text : UnionPart → Text
union_part_text x = (g.union_part_told x).text

abbrev pub union_part_fits : UnionPart → Bool
union_part_fits x = (g.union_part_told x).fits

pub union_spells : (x : Union) → union_text x ≡ concatenation_text (out-Union x).first ++ flat_map union_part_text (out-Union x).rest
unfolding g.operand_told g.concatenation_told g.concatenation_part_told g.embedded_told g.negated_told g.pattern_told g.repeated_told g.scanner_told g.union_told g.union_part_told
union_spells x = ap g.told_text (fold_out-Union Told Told Told Told Told Told Told Told Told Told g.operand_step g.concatenation_step g.concatenation_part_step g.embedded_step g.negated_step g.pattern_step g.repeated_step g.scanner_step g.union_step g.union_part_step x) ∙ ap (λ z. concatenation_text (out-Union x).first ++ z) (flat_told g.union_part_told (out-Union x).rest)

pub union_fitting : (x : Union) → union_fits x ≡ concatenation_fits (out-Union x).first && all_fit tokens union_part_fits (out-Union x).rest
unfolding g.operand_told g.concatenation_told g.concatenation_part_told g.embedded_told g.negated_told g.pattern_told g.repeated_told g.scanner_told g.union_told g.union_part_told
union_fitting x = ap told_fits (fold_out-Union Told Told Told Told Told Told Told Told Told Told g.operand_step g.concatenation_step g.concatenation_part_step g.embedded_step g.negated_step g.pattern_step g.repeated_step g.scanner_step g.union_step g.union_part_step x) ∙ ap (λ z. concatenation_fits (out-Union x).first && z) (fits_told g.union_part_told (out-Union x).rest)

pub union_part_spells : (x : UnionPart) → union_part_text x ≡ g.union_sign_text (out-UnionPart x).sign ++ concatenation_text (out-UnionPart x).operand
unfolding g.operand_told g.concatenation_told g.concatenation_part_told g.embedded_told g.negated_told g.pattern_told g.repeated_told g.scanner_told g.union_told g.union_part_told
union_part_spells x = ap g.told_text (fold_out-UnionPart Told Told Told Told Told Told Told Told Told Told g.operand_step g.concatenation_step g.concatenation_part_step g.embedded_step g.negated_step g.pattern_step g.repeated_step g.scanner_step g.union_step g.union_part_step x)

pub union_part_fitting : (x : UnionPart) → union_part_fits x ≡ concatenation_fits (out-UnionPart x).operand
unfolding g.operand_told g.concatenation_told g.concatenation_part_told g.embedded_told g.negated_told g.pattern_told g.repeated_told g.scanner_told g.union_told g.union_part_told
union_part_fitting x = ap told_fits (fold_out-UnionPart Told Told Told Told Told Told Told Told Told Told g.operand_step g.concatenation_step g.concatenation_part_step g.embedded_step g.negated_step g.pattern_step g.repeated_step g.scanner_step g.union_step g.union_part_step x)

pub concatenation_spells : (x : Concatenation) → concatenation_text x ≡ embedded_text (out-Concatenation x).first ++ flat_map concatenation_part_text (out-Concatenation x).rest
unfolding g.operand_told g.concatenation_told g.concatenation_part_told g.embedded_told g.negated_told g.pattern_told g.repeated_told g.scanner_told g.union_told g.union_part_told
concatenation_spells x = ap g.told_text (fold_out-Concatenation Told Told Told Told Told Told Told Told Told Told g.operand_step g.concatenation_step g.concatenation_part_step g.embedded_step g.negated_step g.pattern_step g.repeated_step g.scanner_step g.union_step g.union_part_step x) ∙ ap (λ z. embedded_text (out-Concatenation x).first ++ z) (flat_told g.concatenation_part_told (out-Concatenation x).rest)

pub concatenation_fitting : (x : Concatenation) → concatenation_fits x ≡ embedded_fits (out-Concatenation x).first && all_fit tokens concatenation_part_fits (out-Concatenation x).rest
unfolding g.operand_told g.concatenation_told g.concatenation_part_told g.embedded_told g.negated_told g.pattern_told g.repeated_told g.scanner_told g.union_told g.union_part_told
concatenation_fitting x = ap told_fits (fold_out-Concatenation Told Told Told Told Told Told Told Told Told Told g.operand_step g.concatenation_step g.concatenation_part_step g.embedded_step g.negated_step g.pattern_step g.repeated_step g.scanner_step g.union_step g.union_part_step x) ∙ ap (λ z. embedded_fits (out-Concatenation x).first && z) (fits_told g.concatenation_part_told (out-Concatenation x).rest)

pub concatenation_part_spells : (x : ConcatenationPart) → concatenation_part_text x ≡ g.joined_text (out-ConcatenationPart x).sign ++ embedded_text (out-ConcatenationPart x).operand
unfolding g.operand_told g.concatenation_told g.concatenation_part_told g.embedded_told g.negated_told g.pattern_told g.repeated_told g.scanner_told g.union_told g.union_part_told
concatenation_part_spells x = ap g.told_text (fold_out-ConcatenationPart Told Told Told Told Told Told Told Told Told Told g.operand_step g.concatenation_step g.concatenation_part_step g.embedded_step g.negated_step g.pattern_step g.repeated_step g.scanner_step g.union_step g.union_part_step x)

pub concatenation_part_fitting : (x : ConcatenationPart) → concatenation_part_fits x ≡ embedded_fits (out-ConcatenationPart x).operand && not (g.is_adjacent (out-ConcatenationPart x).sign && g.begins_with_minus (embedded_text (out-ConcatenationPart x).operand))
unfolding g.operand_told g.concatenation_told g.concatenation_part_told g.embedded_told g.negated_told g.pattern_told g.repeated_told g.scanner_told g.union_told g.union_part_told
concatenation_part_fitting x = ap told_fits (fold_out-ConcatenationPart Told Told Told Told Told Told Told Told Told Told g.operand_step g.concatenation_step g.concatenation_part_step g.embedded_step g.negated_step g.pattern_step g.repeated_step g.scanner_step g.union_step g.union_part_step x)

pub embedded_spells : (x : Embedded) → embedded_text x ≡ repeated_text (out-Embedded x).operand ++ flat_map g.embedding_text (out-Embedded x).embeddings
unfolding g.operand_told g.concatenation_told g.concatenation_part_told g.embedded_told g.negated_told g.pattern_told g.repeated_told g.scanner_told g.union_told g.union_part_told
embedded_spells x = ap g.told_text (fold_out-Embedded Told Told Told Told Told Told Told Told Told Told g.operand_step g.concatenation_step g.concatenation_part_step g.embedded_step g.negated_step g.pattern_step g.repeated_step g.scanner_step g.union_step g.union_part_step x)

pub embedded_fitting : (x : Embedded) → embedded_fits x ≡ repeated_fits (out-Embedded x).operand
unfolding g.operand_told g.concatenation_told g.concatenation_part_told g.embedded_told g.negated_told g.pattern_told g.repeated_told g.scanner_told g.union_told g.union_part_told
embedded_fitting x = ap told_fits (fold_out-Embedded Told Told Told Told Told Told Told Told Told Told g.operand_step g.concatenation_step g.concatenation_part_step g.embedded_step g.negated_step g.pattern_step g.repeated_step g.scanner_step g.union_step g.union_part_step x)

pub repeated_spells : (x : Repeated) → repeated_text x ≡ negated_text (out-Repeated x).operand ++ flat_map g.repetition_text (out-Repeated x).repetitions
unfolding g.operand_told g.concatenation_told g.concatenation_part_told g.embedded_told g.negated_told g.pattern_told g.repeated_told g.scanner_told g.union_told g.union_part_told
repeated_spells x = ap g.told_text (fold_out-Repeated Told Told Told Told Told Told Told Told Told Told g.operand_step g.concatenation_step g.concatenation_part_step g.embedded_step g.negated_step g.pattern_step g.repeated_step g.scanner_step g.union_step g.union_part_step x)

pub repeated_fitting : (x : Repeated) → repeated_fits x ≡ negated_fits (out-Repeated x).operand
unfolding g.operand_told g.concatenation_told g.concatenation_part_told g.embedded_told g.negated_told g.pattern_told g.repeated_told g.scanner_told g.union_told g.union_part_told
repeated_fitting x = ap told_fits (fold_out-Repeated Told Told Told Told Told Told Told Told Told Told g.operand_step g.concatenation_step g.concatenation_part_step g.embedded_step g.negated_step g.pattern_step g.repeated_step g.scanner_step g.union_step g.union_part_step x)

pub negated_spells : (x : Negated) → negated_text x ≡ flat_map g.negation_text (out-Negated x).negations ++ operand_text (out-Negated x).operand
unfolding g.operand_told g.concatenation_told g.concatenation_part_told g.embedded_told g.negated_told g.pattern_told g.repeated_told g.scanner_told g.union_told g.union_part_told
negated_spells x = ap g.told_text (fold_out-Negated Told Told Told Told Told Told Told Told Told Told g.operand_step g.concatenation_step g.concatenation_part_step g.embedded_step g.negated_step g.pattern_step g.repeated_step g.scanner_step g.union_step g.union_part_step x)

pub negated_fitting : (x : Negated) → negated_fits x ≡ operand_fits (out-Negated x).operand
unfolding g.operand_told g.concatenation_told g.concatenation_part_told g.embedded_told g.negated_told g.pattern_told g.repeated_told g.scanner_told g.union_told g.union_part_told
negated_fitting x = ap told_fits (fold_out-Negated Told Told Told Told Told Told Told Told Told Told g.operand_step g.concatenation_step g.concatenation_part_step g.embedded_step g.negated_step g.pattern_step g.repeated_step g.scanner_step g.union_step g.union_part_step x)

pub pattern_spells : (x : Pattern) → pattern_text x ≡ union_text (out-Pattern x).value ++ (g.pattern_action_text (out-Pattern x).action ++ g.mark k.Semicolon (out-Pattern x).semicolon)
unfolding g.operand_told g.concatenation_told g.concatenation_part_told g.embedded_told g.negated_told g.pattern_told g.repeated_told g.scanner_told g.union_told g.union_part_told
pattern_spells x = ap g.told_text (fold_out-Pattern Told Told Told Told Told Told Told Told Told Told g.operand_step g.concatenation_step g.concatenation_part_step g.embedded_step g.negated_step g.pattern_step g.repeated_step g.scanner_step g.union_step g.union_part_step x)

pub pattern_fitting : (x : Pattern) → pattern_fits x ≡ union_fits (out-Pattern x).value
unfolding g.operand_told g.concatenation_told g.concatenation_part_told g.embedded_told g.negated_told g.pattern_told g.repeated_told g.scanner_told g.union_told g.union_part_told
pattern_fitting x = ap told_fits (fold_out-Pattern Told Told Told Told Told Told Told Told Told Told g.operand_step g.concatenation_step g.concatenation_part_step g.embedded_step g.negated_step g.pattern_step g.repeated_step g.scanner_step g.union_step g.union_part_step x)

pub scanner_spells : (x : Scanner) → scanner_text x ≡ g.mark k.OpenScanner (out-Scanner x).opening ++ (pattern_text (out-Scanner x).first ++ (flat_map pattern_text (out-Scanner x).rest ++ g.mark k.CloseScanner (out-Scanner x).closing))
unfolding g.operand_told g.concatenation_told g.concatenation_part_told g.embedded_told g.negated_told g.pattern_told g.repeated_told g.scanner_told g.union_told g.union_part_told
scanner_spells x = ap g.told_text (fold_out-Scanner Told Told Told Told Told Told Told Told Told Told g.operand_step g.concatenation_step g.concatenation_part_step g.embedded_step g.negated_step g.pattern_step g.repeated_step g.scanner_step g.union_step g.union_part_step x) ∙ ap (λ z. g.mark k.OpenScanner (out-Scanner x).opening ++ (pattern_text (out-Scanner x).first ++ (z ++ g.mark k.CloseScanner (out-Scanner x).closing))) (flat_told g.pattern_told (out-Scanner x).rest)

pub scanner_fitting : (x : Scanner) → scanner_fits x ≡ pattern_fits (out-Scanner x).first && all_fit tokens pattern_fits (out-Scanner x).rest
unfolding g.operand_told g.concatenation_told g.concatenation_part_told g.embedded_told g.negated_told g.pattern_told g.repeated_told g.scanner_told g.union_told g.union_part_told
scanner_fitting x = ap told_fits (fold_out-Scanner Told Told Told Told Told Told Told Told Told Told g.operand_step g.concatenation_step g.concatenation_part_step g.embedded_step g.negated_step g.pattern_step g.repeated_step g.scanner_step g.union_step g.union_part_step x) ∙ ap (λ z. pattern_fits (out-Scanner x).first && z) (fits_told g.pattern_told (out-Scanner x).rest)

-- one level of an operand, told
abbrev pub Level : Type 0
Level = Operand-F Operand Concatenation ConcatenationPart Embedded Negated Pattern Repeated Scanner Union UnionPart

abbrev pub told_level : Level → Told
told_level level = g.operand_step (map-Operand Operand Concatenation ConcatenationPart Embedded Negated Pattern Repeated Scanner Union UnionPart Told Told Told Told Told Told Told Told Told Told g.operand_told g.concatenation_told g.concatenation_part_told g.embedded_told g.negated_told g.pattern_told g.repeated_told g.scanner_told g.union_told g.union_part_told level)

pub operand_level : (x : Operand) → g.operand_told x ≡ told_level (out-Operand x)
unfolding g.operand_told g.concatenation_told g.concatenation_part_told g.embedded_told g.negated_told g.pattern_told g.repeated_told g.scanner_told g.union_told g.union_part_told
operand_level x = fold_out-Operand Told Told Told Told Told Told Told Told Told Told g.operand_step g.concatenation_step g.concatenation_part_step g.embedded_step g.negated_step g.pattern_step g.repeated_step g.scanner_step g.union_step g.union_part_step x
