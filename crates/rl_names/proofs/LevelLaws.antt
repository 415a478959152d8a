-- What expressions are read as, one level at a time.
use Rattle.std.proofs.Common.{◌≡◌, List, [], ◌∷◌, map, Result, Ok, refl, ap, ◌∙◌}
use Rattle.rl_types.specs.declared.numbers.Place.{Place}
use Rattle.rl_grammar.specs.declared.read_fault.ReadFault.{ReadFault}
use Rattle.rl_grammar.specs.declared.syntax.Operand.TheOpen as operand
use Rattle.rl_grammar.specs.declared.syntax.Operand.TheFolds.{map-Operand}
use Rattle.rl_grammar.specs.declared.syntax.Operand.TheVariants as leaf
use Rattle.rl_grammar.specs.declared.syntax.Operand.TheVariants.{outs-Literal, outs-Number, outs-Range, outs-Set, outs-RegularExpression, outs-Name, outs-Group, outs-Scanner}
use Rattle.rl_grammar.specs.declared.syntax.Key.{Key}
use Rattle.rl_grammar.specs.declared.syntax.Number.{Number}
use Rattle.rl_grammar.specs.declared.syntax.Word.{Word}
use Rattle.rl_grammar.specs.declared.syntax.Operand.{Operand, out-Operand, fold_out-Operand}
use Rattle.rl_grammar.specs.declared.syntax.Concatenation.{Concatenation, out-Concatenation, fold_out-Concatenation}
use Rattle.rl_grammar.specs.declared.syntax.ConcatenationPart.{ConcatenationPart, fold_out-ConcatenationPart}
use Rattle.rl_grammar.specs.declared.syntax.Embedded.{Embedded, out-Embedded, fold_out-Embedded}
use Rattle.rl_grammar.specs.declared.syntax.Negated.{Negated, out-Negated, fold_out-Negated}
use Rattle.rl_grammar.specs.declared.syntax.Pattern.{Pattern}
use Rattle.rl_grammar.specs.declared.syntax.Repeated.{Repeated, out-Repeated, fold_out-Repeated}
use Rattle.rl_grammar.specs.declared.syntax.Scanner.{Scanner, out-Scanner, fold_out-Scanner}
use Rattle.rl_grammar.specs.declared.syntax.Union.{Union, out-Union, fold_out-Union}
use Rattle.rl_grammar.specs.declared.syntax.UnionPart.{UnionPart, fold_out-UnionPart}
use Rattle.rl_draft.specs.declared.expression.Expression.{Expression}
use Rattle.rl_names.specs.Answers.{and_then, each}
use Rattle.rl_names.specs.Expressions as x
use Rattle.rl_names.specs.Expressions.{Scope, Told, Joined, with_links, with_negations, with_repetitions, with_puts, negation_of, repetition_read, put_read, leaf_at, name_read, misplaced}
use Rattle.rl_names.specs.Leaves.{literal_read, number_leaf, range_between, set_read, regular_read}
use Rattle.rl_names.specs.Levels.{concatenation_part_read, union_part_read}
use Rattle.rl_names.specs.Places.{number_place, key_place, front, layer_place, operand_place, negated_place, repeated_place, embedded_place, concatenation_place, union_place}
use Rattle.rl_names.specs.Values.{Layer}

each_mapped : {X Y : Type 0} (f : X → Result Y ReadFault) (xs : List X) → each (λ (r : Result Y ReadFault). r) (map f xs) ≡ each f xs
each_mapped f [] = refl
each_mapped f (a ∷ xs) = ap (λ z. and_then (f a) (λ y. and_then z (λ ys. Ok (y ∷ ys)))) (each_mapped f xs)

each_same : {X Y : Type 0} (f g : X → Result Y ReadFault) (xs : List X) → ((a : X) → f a ≡ g a) → each f xs ≡ each g xs
each_same f g [] same = refl
each_same f g (a ∷ xs) same =
    ap (λ z. and_then z (λ y. and_then (each f xs) (λ ys. Ok (y ∷ ys)))) (same a)
    ∙ ap (λ z. and_then (g a) (λ y. and_then z (λ ys. Ok (y ∷ ys)))) (each_same f g xs same)

abbrev pub layer_read : Scope → Layer → Result Expression ReadFault
layer_read k (operand.Literal w) = leaf_at w.place (literal_read k.alphabet w)
layer_read k (operand.Number n) = leaf_at (number_place n) (number_leaf k.alphabet n)
layer_read k (operand.Range low dots high) = leaf_at (key_place low) (range_between k.alphabet low high)
layer_read k (operand.Set w) = leaf_at w.place (set_read k.alphabet w)
layer_read k (operand.RegularExpression w) = leaf_at w.place (regular_read k.alphabet w)
layer_read k (operand.Name w) = name_read k w
layer_read k (operand.Group opening inner closing) = (x.union_told k inner).read
layer_read k (operand.Scanner s) = misplaced (out-Scanner s).opening

abbrev nowhere : Place → Told
nowhere place = record { place = place; read = misplaced place }

scanner_at : (k : Scope) (s : Scanner) → x.scanner_told k s ≡ (out-Scanner s).opening
unfolding x.operand_told x.concatenation_told x.concatenation_part_told x.embedded_told x.negated_told x.pattern_told x.repeated_told x.scanner_told x.union_told x.union_part_told
scanner_at k s = fold_out-Scanner Told Told Joined Told Told Place Told Place Told Joined (x.operand_step k) (x.concatenation_step k) (x.concatenation_part_step k) (x.embedded_step k) (x.negated_step k) (x.pattern_step k) (x.repeated_step k) (x.scanner_step k) (x.union_step k) (x.union_part_step k) s

layer_is : (k : Scope) (l : Layer) → x.operand_step k (map-Operand Operand Concatenation ConcatenationPart Embedded Negated Pattern Repeated Scanner Union UnionPart Told Told Joined Told Told Place Told Place Told Joined (x.operand_told k) (x.concatenation_told k) (x.concatenation_part_told k) (x.embedded_told k) (x.negated_told k) (x.pattern_told k) (x.repeated_told k) (x.scanner_told k) (x.union_told k) (x.union_part_told k) l) ≡ record { place = layer_place l; read = layer_read k l }
layer_is k (operand.Literal w) = refl
layer_is k (operand.Number n) = refl
layer_is k (operand.Range low dots high) = refl
layer_is k (operand.Set w) = refl
layer_is k (operand.RegularExpression w) = refl
layer_is k (operand.Name w) = refl
layer_is k (operand.Group opening inner closing) = refl
layer_is k (operand.Scanner s) = ap nowhere (scanner_at k s)

operand_both : (k : Scope) (o : Operand) → x.operand_told k o ≡ record { place = operand_place o; read = layer_read k (out-Operand o) }
unfolding x.operand_told x.concatenation_told x.concatenation_part_told x.embedded_told x.negated_told x.pattern_told x.repeated_told x.scanner_told x.union_told x.union_part_told
operand_both k o = fold_out-Operand Told Told Joined Told Told Place Told Place Told Joined (x.operand_step k) (x.concatenation_step k) (x.concatenation_part_step k) (x.embedded_step k) (x.negated_step k) (x.pattern_step k) (x.repeated_step k) (x.scanner_step k) (x.union_step k) (x.union_part_step k) o ∙ layer_is k (out-Operand o)

pub operand_is : (k : Scope) (o : Operand) → (x.operand_told k o).read ≡ layer_read k (out-Operand o)
operand_is k o = ap (λ (t : Told). t.read) (operand_both k o)

operand_at : (k : Scope) (o : Operand) → (x.operand_told k o).place ≡ operand_place o
operand_at k o = ap (λ (t : Told). t.place) (operand_both k o)

negated_both : (k : Scope) (n : Negated) → x.negated_told k n ≡ x.negated_step k (record { negations = (out-Negated n).negations; operand = x.operand_told k (out-Negated n).operand })
unfolding x.operand_told x.concatenation_told x.concatenation_part_told x.embedded_told x.negated_told x.pattern_told x.repeated_told x.scanner_told x.union_told x.union_part_told
negated_both k n = fold_out-Negated Told Told Joined Told Told Place Told Place Told Joined (x.operand_step k) (x.concatenation_step k) (x.concatenation_part_step k) (x.embedded_step k) (x.negated_step k) (x.pattern_step k) (x.repeated_step k) (x.scanner_step k) (x.union_step k) (x.union_part_step k) n

negated_at : (k : Scope) (n : Negated) → (x.negated_told k n).place ≡ negated_place n
negated_at k n = ap (λ (t : Told). t.place) (negated_both k n) ∙ ap (front (out-Negated n).negations) (operand_at k (out-Negated n).operand)

pub negated_is : (k : Scope) (n : Negated) → (x.negated_told k n).read ≡ and_then (x.operand_told k (out-Negated n).operand).read (λ e. Ok (with_negations (map negation_of (out-Negated n).negations) e))
negated_is k n = ap (λ (t : Told). t.read) (negated_both k n)

repeated_both : (k : Scope) (r : Repeated) → x.repeated_told k r ≡ x.repeated_step k (record { operand = x.negated_told k (out-Repeated r).operand; repetitions = (out-Repeated r).repetitions })
unfolding x.operand_told x.concatenation_told x.concatenation_part_told x.embedded_told x.negated_told x.pattern_told x.repeated_told x.scanner_told x.union_told x.union_part_told
repeated_both k r = fold_out-Repeated Told Told Joined Told Told Place Told Place Told Joined (x.operand_step k) (x.concatenation_step k) (x.concatenation_part_step k) (x.embedded_step k) (x.negated_step k) (x.pattern_step k) (x.repeated_step k) (x.scanner_step k) (x.union_step k) (x.union_part_step k) r

repeated_at : (k : Scope) (r : Repeated) → (x.repeated_told k r).place ≡ repeated_place r
repeated_at k r = ap (λ (t : Told). t.place) (repeated_both k r) ∙ negated_at k (out-Repeated r).operand

pub repeated_is : (k : Scope) (r : Repeated) → (x.repeated_told k r).read ≡ and_then (x.negated_told k (out-Repeated r).operand).read (λ e. and_then (each repetition_read (out-Repeated r).repetitions) (λ rs. Ok (with_repetitions rs (repeated_place r) e)))
repeated_is k r =
    ap (λ (t : Told). t.read) (repeated_both k r)
    ∙ ap (λ p. and_then (x.negated_told k (out-Repeated r).operand).read (λ e. and_then (each repetition_read (out-Repeated r).repetitions) (λ rs. Ok (with_repetitions rs p e)))) (negated_at k (out-Repeated r).operand)

embedded_both : (k : Scope) (m : Embedded) → x.embedded_told k m ≡ x.embedded_step k (record { operand = x.repeated_told k (out-Embedded m).operand; embeddings = (out-Embedded m).embeddings })
unfolding x.operand_told x.concatenation_told x.concatenation_part_told x.embedded_told x.negated_told x.pattern_told x.repeated_told x.scanner_told x.union_told x.union_part_told
embedded_both k m = fold_out-Embedded Told Told Joined Told Told Place Told Place Told Joined (x.operand_step k) (x.concatenation_step k) (x.concatenation_part_step k) (x.embedded_step k) (x.negated_step k) (x.pattern_step k) (x.repeated_step k) (x.scanner_step k) (x.union_step k) (x.union_part_step k) m

embedded_at : (k : Scope) (m : Embedded) → (x.embedded_told k m).place ≡ embedded_place m
embedded_at k m = ap (λ (t : Told). t.place) (embedded_both k m) ∙ repeated_at k (out-Embedded m).operand

pub embedded_is : (k : Scope) (m : Embedded) → (x.embedded_told k m).read ≡ and_then (x.repeated_told k (out-Embedded m).operand).read (λ e. and_then (each (put_read k) (out-Embedded m).embeddings) (λ ps. Ok (with_puts ps (embedded_place m) e)))
embedded_is k m =
    ap (λ (t : Told). t.read) (embedded_both k m)
    ∙ ap (λ p. and_then (x.repeated_told k (out-Embedded m).operand).read (λ e. and_then (each (put_read k) (out-Embedded m).embeddings) (λ ps. Ok (with_puts ps p e)))) (repeated_at k (out-Embedded m).operand)

concatenation_part_is : (k : Scope) (p : ConcatenationPart) → x.concatenation_part_told k p ≡ concatenation_part_read k p
unfolding x.operand_told x.concatenation_told x.concatenation_part_told x.embedded_told x.negated_told x.pattern_told x.repeated_told x.scanner_told x.union_told x.union_part_told
concatenation_part_is k p = fold_out-ConcatenationPart Told Told Joined Told Told Place Told Place Told Joined (x.operand_step k) (x.concatenation_step k) (x.concatenation_part_step k) (x.embedded_step k) (x.negated_step k) (x.pattern_step k) (x.repeated_step k) (x.scanner_step k) (x.union_step k) (x.union_part_step k) p

concatenation_links : (k : Scope) (ps : List ConcatenationPart) → x.links (map (x.concatenation_part_told k) ps) ≡ each (concatenation_part_read k) ps
concatenation_links k ps = each_mapped (x.concatenation_part_told k) ps ∙ each_same (x.concatenation_part_told k) (concatenation_part_read k) ps (concatenation_part_is k)

concatenation_both : (k : Scope) (c : Concatenation) → x.concatenation_told k c ≡ x.chained (x.embedded_told k (out-Concatenation c).first) (map (x.concatenation_part_told k) (out-Concatenation c).rest)
unfolding x.operand_told x.concatenation_told x.concatenation_part_told x.embedded_told x.negated_told x.pattern_told x.repeated_told x.scanner_told x.union_told x.union_part_told
concatenation_both k c = fold_out-Concatenation Told Told Joined Told Told Place Told Place Told Joined (x.operand_step k) (x.concatenation_step k) (x.concatenation_part_step k) (x.embedded_step k) (x.negated_step k) (x.pattern_step k) (x.repeated_step k) (x.scanner_step k) (x.union_step k) (x.union_part_step k) c

concatenation_at : (k : Scope) (c : Concatenation) → (x.concatenation_told k c).place ≡ concatenation_place c
concatenation_at k c = ap (λ (t : Told). t.place) (concatenation_both k c) ∙ embedded_at k (out-Concatenation c).first

pub concatenation_is : (k : Scope) (c : Concatenation) → (x.concatenation_told k c).read ≡ and_then (x.embedded_told k (out-Concatenation c).first).read (λ e. and_then (each (concatenation_part_read k) (out-Concatenation c).rest) (λ ls. Ok (with_links ls (concatenation_place c) e)))
concatenation_is k c =
    ap (λ (t : Told). t.read) (concatenation_both k c)
    ∙ (ap (λ p. and_then (x.embedded_told k (out-Concatenation c).first).read (λ e. and_then (x.links (map (x.concatenation_part_told k) (out-Concatenation c).rest)) (λ ls. Ok (with_links ls p e)))) (embedded_at k (out-Concatenation c).first)
    ∙ ap (λ z. and_then (x.embedded_told k (out-Concatenation c).first).read (λ e. and_then z (λ ls. Ok (with_links ls (concatenation_place c) e)))) (concatenation_links k (out-Concatenation c).rest))

union_part_is : (k : Scope) (p : UnionPart) → x.union_part_told k p ≡ union_part_read k p
unfolding x.operand_told x.concatenation_told x.concatenation_part_told x.embedded_told x.negated_told x.pattern_told x.repeated_told x.scanner_told x.union_told x.union_part_told
union_part_is k p = fold_out-UnionPart Told Told Joined Told Told Place Told Place Told Joined (x.operand_step k) (x.concatenation_step k) (x.concatenation_part_step k) (x.embedded_step k) (x.negated_step k) (x.pattern_step k) (x.repeated_step k) (x.scanner_step k) (x.union_step k) (x.union_part_step k) p

union_links : (k : Scope) (ps : List UnionPart) → x.links (map (x.union_part_told k) ps) ≡ each (union_part_read k) ps
union_links k ps = each_mapped (x.union_part_told k) ps ∙ each_same (x.union_part_told k) (union_part_read k) ps (union_part_is k)

union_both : (k : Scope) (u : Union) → x.union_told k u ≡ x.chained (x.concatenation_told k (out-Union u).first) (map (x.union_part_told k) (out-Union u).rest)
unfolding x.operand_told x.concatenation_told x.concatenation_part_told x.embedded_told x.negated_told x.pattern_told x.repeated_told x.scanner_told x.union_told x.union_part_told
union_both k u = fold_out-Union Told Told Joined Told Told Place Told Place Told Joined (x.operand_step k) (x.concatenation_step k) (x.concatenation_part_step k) (x.embedded_step k) (x.negated_step k) (x.pattern_step k) (x.repeated_step k) (x.scanner_step k) (x.union_step k) (x.union_part_step k) u

pub union_at : (k : Scope) (u : Union) → (x.union_told k u).place ≡ union_place u
union_at k u = ap (λ (t : Told). t.place) (union_both k u) ∙ concatenation_at k (out-Union u).first

pub union_is : (k : Scope) (u : Union) → (x.union_told k u).read ≡ and_then (x.concatenation_told k (out-Union u).first).read (λ e. and_then (each (union_part_read k) (out-Union u).rest) (λ ls. Ok (with_links ls (union_place u) e)))
union_is k u =
    ap (λ (t : Told). t.read) (union_both k u)
    ∙ (ap (λ p. and_then (x.concatenation_told k (out-Union u).first).read (λ e. and_then (x.links (map (x.union_part_told k) (out-Union u).rest)) (λ ls. Ok (with_links ls p e)))) (concatenation_at k (out-Union u).first)
    ∙ ap (λ z. and_then (x.concatenation_told k (out-Union u).first).read (λ e. and_then z (λ ls. Ok (with_links ls (union_place u) e)))) (union_links k (out-Union u).rest))

-- ---- one variant of an operand

pub literal_is : (k : Scope) (w : Word) → (x.operand_told k (leaf.Literal w)).read ≡ leaf_at w.place (literal_read k.alphabet w)
literal_is k w = operand_is k (leaf.Literal w) ∙ ap (layer_read k) (outs-Literal w)

pub number_is : (k : Scope) (n : Number) → (x.operand_told k (leaf.Number n)).read ≡ leaf_at (number_place n) (number_leaf k.alphabet n)
number_is k n = operand_is k (leaf.Number n) ∙ ap (layer_read k) (outs-Number n)

pub set_is : (k : Scope) (w : Word) → (x.operand_told k (leaf.Set w)).read ≡ leaf_at w.place (set_read k.alphabet w)
set_is k w = operand_is k (leaf.Set w) ∙ ap (layer_read k) (outs-Set w)

pub regular_is : (k : Scope) (w : Word) → (x.operand_told k (leaf.RegularExpression w)).read ≡ leaf_at w.place (regular_read k.alphabet w)
regular_is k w = operand_is k (leaf.RegularExpression w) ∙ ap (layer_read k) (outs-RegularExpression w)

pub name_is : (k : Scope) (w : Word) → (x.operand_told k (leaf.Name w)).read ≡ name_read k w
name_is k w = operand_is k (leaf.Name w) ∙ ap (layer_read k) (outs-Name w)

pub range_is : (k : Scope) (low : Key) (dots : Place) (high : Key) → (x.operand_told k (leaf.Range low dots high)).read ≡ leaf_at (key_place low) (range_between k.alphabet low high)
range_is k low dots high = operand_is k (leaf.Range low dots high) ∙ ap (layer_read k) (outs-Range low dots high)

pub group_is : (k : Scope) (opening : Place) (inner : Union) (closing : Place) → (x.operand_told k (leaf.Group opening inner closing)).read ≡ (x.union_told k inner).read
group_is k opening inner closing = operand_is k (leaf.Group opening inner closing) ∙ ap (layer_read k) (outs-Group opening inner closing)

pub scanner_is : (k : Scope) (s : Scanner) → (x.operand_told k (leaf.Scanner s)).read ≡ misplaced (out-Scanner s).opening
scanner_is k s = operand_is k (leaf.Scanner s) ∙ ap (layer_read k) (outs-Scanner s)
