-- What an expression uses, one level at a time.
use Rattle.std.proofs.Common.{◌≡◌, ℕ, ◌+◌, ◌<◌, List, [], ◌∷◌, ◌++◌, length, map, drop, get_or, refl, sym, ap, ◌∙◌, append_assoc}
use Rattle.std.specs.List.{flat_map}
use Rattle.rl_grammar.specs.declared.syntax.Operand.TheOpen as operand
use Rattle.rl_grammar.specs.declared.syntax.Operand.TheOpen.{Operand-F}
use Rattle.rl_grammar.specs.declared.syntax.Operand.TheFolds.{map-Operand}
use Rattle.rl_grammar.specs.declared.syntax.Operand.TheVariants as leaf
use Rattle.rl_grammar.specs.declared.syntax.Operand.TheVariants.{outs-Literal, outs-Number, outs-Range, outs-Set, outs-RegularExpression, outs-Name, outs-Group, outs-Scanner}
use Rattle.rl_grammar.specs.declared.syntax.Key.{Key}
use Rattle.rl_grammar.specs.declared.syntax.Number.{Number}
use Rattle.rl_grammar.specs.declared.syntax.Word.{Word}
use Rattle.rl_types.specs.declared.numbers.Place.{Place}
use Rattle.rl_grammar.specs.declared.syntax.Operand.{Operand, out-Operand, fold_out-Operand}
use Rattle.rl_grammar.specs.declared.syntax.Concatenation.{Concatenation, out-Concatenation, fold_out-Concatenation}
use Rattle.rl_grammar.specs.declared.syntax.ConcatenationPart.{ConcatenationPart, fold_out-ConcatenationPart}
use Rattle.rl_grammar.specs.declared.syntax.Embedded.{Embedded, out-Embedded, fold_out-Embedded}
use Rattle.rl_grammar.specs.declared.syntax.Negated.{Negated, out-Negated, fold_out-Negated}
use Rattle.rl_grammar.specs.declared.syntax.Pattern.{Pattern}
use Rattle.rl_grammar.specs.declared.syntax.Repeated.{Repeated, out-Repeated, fold_out-Repeated}
use Rattle.rl_grammar.specs.declared.syntax.Scanner.{Scanner, fold_out-Scanner}
use Rattle.rl_grammar.specs.declared.syntax.Union.{Union, out-Union, fold_out-Union}
use Rattle.rl_grammar.specs.declared.syntax.UnionPart.{UnionPart, fold_out-UnionPart}
use Rattle.rl_names.specs.Events as e
use Rattle.rl_names.specs.Events.{Found}
use Rattle.rl_names.proofs.GroupLaws.{at_head}
use Rattle.rl_names.specs.Uses.{concatenation_part_uses, union_part_uses}

all_mapped : {X : Type 0} (f : X → Found) (xs : List X) → e.all (map f xs) ≡ flat_map f xs
all_mapped f [] = refl
all_mapped f (x ∷ xs) = ap (λ z. f x ++ z) (all_mapped f xs)

flat_same : {X : Type 0} (f g : X → Found) (xs : List X) → ((x : X) → f x ≡ g x) → flat_map f xs ≡ flat_map g xs
flat_same f g [] same = refl
flat_same f g (x ∷ xs) same = ap (λ z. z ++ flat_map f xs) (same x) ∙ ap (λ z. g x ++ z) (flat_same f g xs same)

abbrev pub Layer : Type 0
Layer = Operand-F Operand Concatenation ConcatenationPart Embedded Negated Pattern Repeated Scanner Union UnionPart

abbrev pub layer_events : Layer → Found
layer_events (operand.Literal w) = e.Leaf (leaf.Literal w) ∷ []
layer_events (operand.Number n) = e.Leaf (leaf.Number n) ∷ []
layer_events (operand.Range low dots high) = e.Leaf (leaf.Range low dots high) ∷ []
layer_events (operand.Set w) = e.Leaf (leaf.Set w) ∷ []
layer_events (operand.RegularExpression w) = e.Leaf (leaf.RegularExpression w) ∷ []
layer_events (operand.Name w) = e.Name w ∷ []
layer_events (operand.Group opening inner closing) = e.union_events inner
layer_events (operand.Scanner s) = []

union_is_all : (x : Union) → e.union_events x ≡ e.concatenation_events (out-Union x).first ++ flat_map e.union_part_events (out-Union x).rest
unfolding e.operand_events e.concatenation_events e.concatenation_part_events e.embedded_events e.negated_events e.pattern_events e.repeated_events e.scanner_events e.union_events e.union_part_events
union_is_all x = fold_out-Union Found Found Found Found Found Found Found Found Found Found e.operand_step e.concatenation_step e.concatenation_part_step e.embedded_step e.negated_step e.pattern_step e.repeated_step e.scanner_step e.union_step e.union_part_step x ∙ ap (λ z. e.concatenation_events (out-Union x).first ++ z) (all_mapped e.union_part_events (out-Union x).rest)

union_part_is : (x : UnionPart) → e.union_part_events x ≡ union_part_uses x
unfolding e.operand_events e.concatenation_events e.concatenation_part_events e.embedded_events e.negated_events e.pattern_events e.repeated_events e.scanner_events e.union_events e.union_part_events
union_part_is x = fold_out-UnionPart Found Found Found Found Found Found Found Found Found Found e.operand_step e.concatenation_step e.concatenation_part_step e.embedded_step e.negated_step e.pattern_step e.repeated_step e.scanner_step e.union_step e.union_part_step x

pub union_is : (x : Union) → e.union_events x ≡ e.concatenation_events (out-Union x).first ++ flat_map union_part_uses (out-Union x).rest
union_is x = union_is_all x ∙ ap (λ z. e.concatenation_events (out-Union x).first ++ z) (flat_same e.union_part_events union_part_uses (out-Union x).rest union_part_is)

concatenation_is_all : (x : Concatenation) → e.concatenation_events x ≡ e.embedded_events (out-Concatenation x).first ++ flat_map e.concatenation_part_events (out-Concatenation x).rest
unfolding e.operand_events e.concatenation_events e.concatenation_part_events e.embedded_events e.negated_events e.pattern_events e.repeated_events e.scanner_events e.union_events e.union_part_events
concatenation_is_all x = fold_out-Concatenation Found Found Found Found Found Found Found Found Found Found e.operand_step e.concatenation_step e.concatenation_part_step e.embedded_step e.negated_step e.pattern_step e.repeated_step e.scanner_step e.union_step e.union_part_step x ∙ ap (λ z. e.embedded_events (out-Concatenation x).first ++ z) (all_mapped e.concatenation_part_events (out-Concatenation x).rest)

concatenation_part_is : (x : ConcatenationPart) → e.concatenation_part_events x ≡ concatenation_part_uses x
unfolding e.operand_events e.concatenation_events e.concatenation_part_events e.embedded_events e.negated_events e.pattern_events e.repeated_events e.scanner_events e.union_events e.union_part_events
concatenation_part_is x = fold_out-ConcatenationPart Found Found Found Found Found Found Found Found Found Found e.operand_step e.concatenation_step e.concatenation_part_step e.embedded_step e.negated_step e.pattern_step e.repeated_step e.scanner_step e.union_step e.union_part_step x

pub concatenation_is : (x : Concatenation) → e.concatenation_events x ≡ e.embedded_events (out-Concatenation x).first ++ flat_map concatenation_part_uses (out-Concatenation x).rest
concatenation_is x =
    concatenation_is_all x
    ∙ ap (λ z. e.embedded_events (out-Concatenation x).first ++ z) (flat_same e.concatenation_part_events concatenation_part_uses (out-Concatenation x).rest concatenation_part_is)

embedded_is_one : (x : Embedded) → e.embedded_events x ≡ e.repeated_events (out-Embedded x).operand ++ flat_map e.embedding_events (out-Embedded x).embeddings
unfolding e.operand_events e.concatenation_events e.concatenation_part_events e.embedded_events e.negated_events e.pattern_events e.repeated_events e.scanner_events e.union_events e.union_part_events
embedded_is_one x = fold_out-Embedded Found Found Found Found Found Found Found Found Found Found e.operand_step e.concatenation_step e.concatenation_part_step e.embedded_step e.negated_step e.pattern_step e.repeated_step e.scanner_step e.union_step e.union_part_step x

repeated_is : (x : Repeated) → e.repeated_events x ≡ e.negated_events (out-Repeated x).operand
unfolding e.operand_events e.concatenation_events e.concatenation_part_events e.embedded_events e.negated_events e.pattern_events e.repeated_events e.scanner_events e.union_events e.union_part_events
repeated_is x = fold_out-Repeated Found Found Found Found Found Found Found Found Found Found e.operand_step e.concatenation_step e.concatenation_part_step e.embedded_step e.negated_step e.pattern_step e.repeated_step e.scanner_step e.union_step e.union_part_step x

negated_is : (x : Negated) → e.negated_events x ≡ e.operand_events (out-Negated x).operand
unfolding e.operand_events e.concatenation_events e.concatenation_part_events e.embedded_events e.negated_events e.pattern_events e.repeated_events e.scanner_events e.union_events e.union_part_events
negated_is x = fold_out-Negated Found Found Found Found Found Found Found Found Found Found e.operand_step e.concatenation_step e.concatenation_part_step e.embedded_step e.negated_step e.pattern_step e.repeated_step e.scanner_step e.union_step e.union_part_step x

pub embedded_is : (x : Embedded) → e.embedded_events x ≡ e.operand_events (out-Negated (out-Repeated (out-Embedded x).operand).operand).operand ++ flat_map e.embedding_events (out-Embedded x).embeddings
embedded_is x =
    embedded_is_one x
    ∙ ap (λ z. z ++ flat_map e.embedding_events (out-Embedded x).embeddings) (repeated_is (out-Embedded x).operand ∙ negated_is (out-Repeated (out-Embedded x).operand).operand)

scanner_is : (x : Scanner) → e.scanner_events x ≡ []
unfolding e.operand_events e.concatenation_events e.concatenation_part_events e.embedded_events e.negated_events e.pattern_events e.repeated_events e.scanner_events e.union_events e.union_part_events
scanner_is x = fold_out-Scanner Found Found Found Found Found Found Found Found Found Found e.operand_step e.concatenation_step e.concatenation_part_step e.embedded_step e.negated_step e.pattern_step e.repeated_step e.scanner_step e.union_step e.union_part_step x

layer_is : (x : Layer) → e.operand_step (map-Operand Operand Concatenation ConcatenationPart Embedded Negated Pattern Repeated Scanner Union UnionPart Found Found Found Found Found Found Found Found Found Found e.operand_events e.concatenation_events e.concatenation_part_events e.embedded_events e.negated_events e.pattern_events e.repeated_events e.scanner_events e.union_events e.union_part_events x) ≡ layer_events x
layer_is (operand.Literal w) = refl
layer_is (operand.Number n) = refl
layer_is (operand.Range low dots high) = refl
layer_is (operand.Set w) = refl
layer_is (operand.RegularExpression w) = refl
layer_is (operand.Name w) = refl
layer_is (operand.Group opening inner closing) = refl
layer_is (operand.Scanner s) = scanner_is s

pub operand_is : (x : Operand) → e.operand_events x ≡ layer_events (out-Operand x)
unfolding e.operand_events e.concatenation_events e.concatenation_part_events e.embedded_events e.negated_events e.pattern_events e.repeated_events e.scanner_events e.union_events e.union_part_events
operand_is x = fold_out-Operand Found Found Found Found Found Found Found Found Found Found e.operand_step e.concatenation_step e.concatenation_part_step e.embedded_step e.negated_step e.pattern_step e.repeated_step e.scanner_step e.union_step e.union_part_step x ∙ layer_is (out-Operand x)

-- ---- one variant of an operand

pub literal_leaf : (o : Operand) (w : Word) → o ≡ leaf.Literal w → e.Leaf o ∷ [] ≡ e.operand_events o
literal_leaf o w is = ap (λ z. e.Leaf z ∷ []) is ∙ sym (ap e.operand_events is ∙ (operand_is (leaf.Literal w) ∙ ap layer_events (outs-Literal w)))

pub number_leaf : (o : Operand) (n : Number) → o ≡ leaf.Number n → e.Leaf o ∷ [] ≡ e.operand_events o
number_leaf o n is = ap (λ z. e.Leaf z ∷ []) is ∙ sym (ap e.operand_events is ∙ (operand_is (leaf.Number n) ∙ ap layer_events (outs-Number n)))

pub set_leaf : (o : Operand) (w : Word) → o ≡ leaf.Set w → e.Leaf o ∷ [] ≡ e.operand_events o
set_leaf o w is = ap (λ z. e.Leaf z ∷ []) is ∙ sym (ap e.operand_events is ∙ (operand_is (leaf.Set w) ∙ ap layer_events (outs-Set w)))

pub regular_leaf : (o : Operand) (w : Word) → o ≡ leaf.RegularExpression w → e.Leaf o ∷ [] ≡ e.operand_events o
regular_leaf o w is = ap (λ z. e.Leaf z ∷ []) is ∙ sym (ap e.operand_events is ∙ (operand_is (leaf.RegularExpression w) ∙ ap layer_events (outs-RegularExpression w)))

pub range_leaf : (o : Operand) (low : Key) (dots : Place) (high : Key) → o ≡ leaf.Range low dots high → e.Leaf o ∷ [] ≡ e.operand_events o
range_leaf o low dots high is = ap (λ z. e.Leaf z ∷ []) is ∙ sym (ap e.operand_events is ∙ (operand_is (leaf.Range low dots high) ∙ ap layer_events (outs-Range low dots high)))

pub name_leaf : (o : Operand) (w : Word) → o ≡ leaf.Name w → e.Name w ∷ [] ≡ e.operand_events o
name_leaf o w is = sym (ap e.operand_events is ∙ (operand_is (leaf.Name w) ∙ ap layer_events (outs-Name w)))

pub group_inside : (o : Operand) (opening : Place) (inner : Union) (closing : Place) → o ≡ leaf.Group opening inner closing → e.union_events inner ≡ e.operand_events o
group_inside o opening inner closing is = sym (ap e.operand_events is ∙ (operand_is (leaf.Group opening inner closing) ∙ ap layer_events (outs-Group opening inner closing)))

pub scanner_inside : (o : Operand) (s : Scanner) → o ≡ leaf.Scanner s → [] ≡ e.operand_events o
scanner_inside o s is = sym (ap e.operand_events is ∙ (operand_is (leaf.Scanner s) ∙ ap layer_events (outs-Scanner s)))

-- ---- parts one behind another

pub two_parts : (old mid a b more whole : Found) → mid ≡ old ++ a → b ≡ more → whole ≡ a ++ more → mid ++ b ≡ old ++ whole
two_parts old mid a b more whole p q r = ap (λ z. z ++ b) p ∙ (ap (λ z. (old ++ a) ++ z) q ∙ (append_assoc old a more ∙ ap (λ z. old ++ z) (sym r)))

-- a turn of a loop over parts
pub part_more : {X : Type 0} (f : X → Found) (xs : List X) (i : ℕ) (x : X) (old new whole : Found) → i < length xs → x ≡ get_or xs i x → new ≡ old ++ f x
    → old ++ flat_map f (drop i xs) ≡ whole → new ++ flat_map f (drop (i + 1) xs) ≡ whole
part_more f xs i x old new whole less item more h =
    ap (λ z. z ++ flat_map f (drop (i + 1) xs)) more
    ∙ (append_assoc old (f x) (flat_map f (drop (i + 1) xs)) ∙ (ap (λ z. old ++ flat_map f z) (sym (at_head xs i x less item)) ∙ h))
