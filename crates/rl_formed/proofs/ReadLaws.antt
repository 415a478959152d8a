-- What holds of all that expressions are built from holds of each expression that is read.
use Rattle.std.proofs.Common.{◌≡◌, ℕ, List, [], ◌∷◌, map, Option, None, Some, Result, Ok, Err, sym, ap, ◌∙◌, subst}
use Rattle.std.specs.Prelude.{slice_get}
use Rattle.std.specs.List.{flat_map}
use Rattle.rl_types.specs.declared.numbers.Place.{Place}
use Rattle.rl_grammar.specs.declared.read_fault.ReadFault.{ReadFault}
use Rattle.rl_grammar.specs.declared.syntax.Embedding.{Embedding}
use Rattle.rl_grammar.specs.declared.syntax.Word.{Word}
use Rattle.rl_grammar.specs.declared.syntax.Operand.{Operand}
use Rattle.rl_grammar.specs.declared.syntax.Concatenation.{Concatenation}
use Rattle.rl_grammar.specs.declared.syntax.ConcatenationPart.{ConcatenationPart}
use Rattle.rl_grammar.specs.declared.syntax.Embedded.{Embedded}
use Rattle.rl_grammar.specs.declared.syntax.Negated.{Negated}
use Rattle.rl_grammar.specs.declared.syntax.Pattern.{Pattern}
use Rattle.rl_grammar.specs.declared.syntax.Repeated.{Repeated}
use Rattle.rl_grammar.specs.declared.syntax.Scanner.{Scanner}
use Rattle.rl_grammar.specs.declared.syntax.Union.{Union}
use Rattle.rl_grammar.specs.declared.syntax.UnionPart.{UnionPart}
use Rattle.rl_grammar.specs.declared.syntax.Operand.TheOpen.{Operand-F}
use Rattle.rl_grammar.specs.declared.syntax.Operand.TheOpen as operand
use Rattle.rl_grammar.specs.declared.syntax.Operand.TheVariants as leaf
use Rattle.rl_grammar.specs.declared.syntax.Operand.TheVariants.{outs-Literal, outs-Number, outs-Range, outs-Set, outs-RegularExpression}
use Rattle.rl_grammar.specs.declared.syntax.Operand.TheFolds.{ind-Union, map-Operand, fold-roll-Operand, fold-roll-Concatenation, fold-roll-ConcatenationPart, fold-roll-Embedded, fold-roll-Negated, fold-roll-Repeated, fold-roll-Union, fold-roll-UnionPart}
use Rattle.rl_draft.specs.declared.draft.Definition.{Definition}
use Rattle.rl_draft.specs.declared.draft.Value.{Value}
use Rattle.rl_draft.specs.declared.draft.Value.TheVariants as value
use Rattle.rl_draft.specs.declared.expression.Expression.{Expression, out-Expression}
use Rattle.rl_draft.specs.declared.expression.Expression.TheVariants as made
use Rattle.rl_draft.specs.declared.expression.Join.{Join}
use Rattle.rl_draft.specs.declared.expression.Leaf.{Leaf}
use Rattle.rl_draft.specs.declared.expression.Link.{Link}
use Rattle.rl_draft.specs.declared.expression.NegationSign.{NegationSign}
use Rattle.rl_draft.specs.declared.expression.Put.{Put}
use Rattle.rl_draft.specs.declared.expression.Repetition.{Repetition}
use Rattle.rl_leaves.specs.BuiltIns.{built_in_named, built_in_leaf}
use Rattle.rl_leaves.specs.declared.built_in.BuiltIn.{BuiltIn}
use Rattle.rl_names.specs.Answers.{and_then, each}
use Rattle.rl_names.specs.Expressions as x
use Rattle.rl_names.specs.Expressions.{Scope, Told, Joined, with_links, with_negations, with_repetitions, with_puts, negation_of, repetition_read, put_read, leaf_at, name_read, name_by, numbered, defined_read, definition_used, value_used, followed, misplaced, link, links, chained, joined_by, united_by}
use Rattle.rl_names.specs.Events.{Event, Found, all}
use Rattle.rl_names.specs.Events as events
use Rattle.rl_names.specs.Places.{number_place, key_place}
use Rattle.rl_names.specs.Leaves.{leaf_read, layer_leaf, literal_read, number_leaf, range_between, set_read, regular_read}
use Rattle.rl_form.proofs.Lists.{Each, each_map, each_front, each_behind}
use Rattle.rl_formed.proofs.ResultLaws.{ok_then, same_ok, err_or_ok}

-- it holds of what is read, if anything is
abbrev pub OfRead : {A : Type 0} → (A → Type 0) → Result A ReadFault → Type 0
OfRead {A} P read = (a : A) → read ≡ Ok a → P a

pub of_ok : {A : Type 0} (P : A → Type 0) (a : A) → P a → OfRead P (Ok a)
of_ok P a h b e = subst P (same_ok a b e) h

pub of_err : {A : Type 0} (P : A → Type 0) (f : ReadFault) → OfRead P (Err f)
of_err P f b e = absurd (err_or_ok f b e)

pub of_then : {A B : Type 0} (P : A → Type 0) (Q : B → Type 0) (read : Result A ReadFault) (next : A → Result B ReadFault) → OfRead P read → ((a : A) → P a → OfRead Q (next a)) → OfRead Q (and_then read next)
of_then P Q read next h f b e = let i = ok_then read next b e in f i.0 (h i.0 i.1) b i.2

-- each part is such a one
of_links : (PL : Link → Type 0) (parts : List Joined) → Each (OfRead PL) parts → OfRead (Each PL) (links parts)
of_links PL [] h = of_ok (Each PL) [] tt
of_links PL (p ∷ ps) h =
    of_then PL (Each PL) p (λ l. and_then (links ps) (λ ls. Ok (l ∷ ls))) h.0
    (λ l k. of_then (Each PL) (Each PL) (links ps) (λ ls. Ok (l ∷ ls)) (of_links PL ps h.1) (λ ls g. of_ok (Each PL) (l ∷ ls) (k, g)))

module _ (k : Scope) (P : Expression → Type 0) (PL : Link → Type 0) (Q : Put → Type 0)
    (B : Event → Type 0)
    (leaf_holds : (o : Operand) (l : Leaf) (at : Place) → B (events.Leaf o) → leaf_read k.alphabet o ≡ Ok l → P (made.Leaf l at))
    (built_in_holds : (b : BuiltIn) (at : Place) → P (made.Leaf (built_in_leaf k.alphabet b) at))
    (name_holds : (i : ℕ) → P (made.Name i))
    (negated_holds : (ns : List NegationSign) (e : Expression) → P e → P (made.Negated ns e))
    (repeated_holds : (rs : List Repetition) (at : Place) (e : Expression) → P e → P (made.Repeated e rs at))
    (puts_hold : (ps : List Put) (at : Place) (e : Expression) → P e → Each Q ps → P (made.Embedded e ps at))
    (chain_holds : (ls : List Link) (at : Place) (e : Expression) → P e → Each PL ls → P (made.Chain e ls at))
    (link_holds : (j : Join) (e : Expression) → P e → PL (link j e))
    (put_holds : (m : Embedding) → Each B (events.embedding_events m) → OfRead Q (put_read k m)) where
  -- ---- one level

  of_leaf : (at : Place) (o : Operand) (read : Result Leaf ReadFault) → B (events.Leaf o) → leaf_read k.alphabet o ≡ read → OfRead P (leaf_at at read)
  of_leaf at o read b is =
      of_then (λ l. leaf_read k.alphabet o ≡ Ok l) P read (λ l. Ok (made.Leaf l at)) (λ l e. is ∙ e) (λ l h. of_ok P (made.Leaf l at) (leaf_holds o l at b h))

  of_value : (at : Place) (i : ℕ) (v : Value) → OfRead P (value_used at i v)
  of_value at i (value.Expression e) = of_ok P (made.Name (followed i (out-Expression e))) (name_holds (followed i (out-Expression e)))
  of_value at i (value.Scanner ps opening) = of_err P _

  of_used : (at : Place) (i : ℕ) (d : Option Definition) → OfRead P (definition_used at i d)
  of_used at i None = of_err P _
  of_used at i (Some d) = of_value at i d.value

  of_named : (w : Word) (b : Option BuiltIn) → OfRead P (name_by k w b)
  of_named w (Some b) = of_ok P (made.Leaf (built_in_leaf k.alphabet b) w.place) (built_in_holds b w.place)
  of_named w None = of_then (λ i. Unit {0}) P (numbered w.place w.text k.names) (λ i. definition_used w.place i (slice_get k.earlier i)) (λ i e. tt) (λ i h. of_used w.place i (slice_get k.earlier i))

  of_embeddings : (ms : List Embedding) → Each B (flat_map events.embedding_events ms) → OfRead (Each Q) (each (put_read k) ms)
  of_embeddings [] b = of_ok (Each Q) [] tt
  of_embeddings (m ∷ ms) b =
      of_then Q (Each Q) (put_read k m) (λ q. and_then (each (put_read k) ms) (λ qs. Ok (q ∷ qs))) (put_holds m (each_front B (events.embedding_events m) (flat_map events.embedding_events ms) b))
      (λ q h. of_then (Each Q) (Each Q) (each (put_read k) ms) (λ qs. Ok (q ∷ qs)) (of_embeddings ms (each_behind B (events.embedding_events m) (flat_map events.embedding_events ms) b))
      (λ qs hs. of_ok (Each Q) (q ∷ qs) (h, hs)))

  of_negations : (ns : List NegationSign) (e : Expression) → P e → P (with_negations ns e)
  of_negations [] e h = h
  of_negations (n ∷ ns) e h = negated_holds (n ∷ ns) e h

  of_repetitions : (rs : List Repetition) (at : Place) (e : Expression) → P e → P (with_repetitions rs at e)
  of_repetitions [] at e h = h
  of_repetitions (r ∷ rs) at e h = repeated_holds (r ∷ rs) at e h

  of_puts : (ps : List Put) (at : Place) (e : Expression) → P e → Each Q ps → P (with_puts ps at e)
  of_puts [] at e h g = h
  of_puts (p ∷ ps) at e h g = puts_hold (p ∷ ps) at e h g

  of_chain : (ls : List Link) (at : Place) (e : Expression) → P e → Each PL ls → P (with_links ls at e)
  of_chain [] at e h g = h
  of_chain (l ∷ ls) at e h g = chain_holds (l ∷ ls) at e h g

  of_chained : (first : Told) (rest : List Joined) → OfRead P first.read → Each (OfRead PL) rest → OfRead P (chained first rest).read
  of_chained first rest h hs =
      of_then P P first.read (λ e. and_then (links rest) (λ ls. Ok (with_links ls first.place e))) h
      (λ e g. of_then (Each PL) P (links rest) (λ ls. Ok (with_links ls first.place e)) (of_links PL rest hs) (λ ls gs. of_ok P (with_links ls first.place e) (of_chain ls first.place e g gs)))

  of_part : (j : Join) (read : Result Expression ReadFault) → OfRead P read → OfRead PL (and_then read (λ e. Ok (link j e)))
  of_part j read h = of_then P PL read (λ e. Ok (link j e)) h (λ e g. of_ok PL (link j e) (link_holds j e g))

  -- ---- all levels

  abbrev HasOperand : Operand → Type 0
  HasOperand o = Each B (events.operand_events o) → OfRead P (x.operand_told k o).read

  abbrev HasConcatenation : Concatenation → Type 0
  HasConcatenation c = Each B (events.concatenation_events c) → OfRead P (x.concatenation_told k c).read

  abbrev HasConcatenationPart : ConcatenationPart → Type 0
  HasConcatenationPart p = Each B (events.concatenation_part_events p) → OfRead PL (x.concatenation_part_told k p)

  abbrev HasEmbedded : Embedded → Type 0
  HasEmbedded m = Each B (events.embedded_events m) → OfRead P (x.embedded_told k m).read

  abbrev HasNegated : Negated → Type 0
  HasNegated n = Each B (events.negated_events n) → OfRead P (x.negated_told k n).read

  abbrev HasPattern : Pattern → Type 0
  HasPattern p = Unit {0}

  abbrev HasRepeated : Repeated → Type 0
  HasRepeated r = Each B (events.repeated_events r) → OfRead P (x.repeated_told k r).read

  abbrev HasScanner : Scanner → Type 0
  HasScanner s = Unit {0}

  abbrev HasUnion : Union → Type 0
  HasUnion u = Each B (events.union_events u) → OfRead P (x.union_told k u).read

  abbrev HasUnionPart : UnionPart → Type 0
  HasUnionPart p = Each B (events.union_part_events p) → OfRead PL (x.union_part_told k p)

  abbrev With : {X : Type 0} → (X → Type 0) → Type 0
  With {X} H = (a : X) × H a

  all_with : {X : Type 0} (H : X → Type 0) (ys : List (With H)) → Each H (map (λ y. y.0) ys)
  all_with H [] = tt
  all_with H (y ∷ ys) = (y.1, all_with H ys)

  abbrev Layer : Type 0
  Layer = Operand-F Operand Concatenation ConcatenationPart Embedded Negated Pattern Repeated Scanner Union UnionPart

  abbrev WithLayer : Type 0
  WithLayer = Operand-F (With HasOperand) (With HasConcatenation) (With HasConcatenationPart) (With HasEmbedded) (With HasNegated) (With HasPattern) (With HasRepeated) (With HasScanner) (With HasUnion) (With HasUnionPart)

  abbrev told_layer : Layer → Told
  told_layer l = x.operand_step k (map-Operand Operand Concatenation ConcatenationPart Embedded Negated Pattern Repeated Scanner Union UnionPart Told Told Joined Told Told Place Told Place Told Joined (x.operand_told k) (x.concatenation_told k) (x.concatenation_part_told k) (x.embedded_told k) (x.negated_told k) (x.pattern_told k) (x.repeated_told k) (x.scanner_told k) (x.union_told k) (x.union_part_told k) l)

  abbrev event_layer : Layer → Found
  event_layer l = events.operand_step (map-Operand Operand Concatenation ConcatenationPart Embedded Negated Pattern Repeated Scanner Union UnionPart Found Found Found Found Found Found Found Found Found Found events.operand_events events.concatenation_events events.concatenation_part_events events.embedded_events events.negated_events events.pattern_events events.repeated_events events.scanner_events events.union_events events.union_part_events l)

  abbrev bare : WithLayer → Layer
  bare y = map-Operand (With HasOperand) (With HasConcatenation) (With HasConcatenationPart) (With HasEmbedded) (With HasNegated) (With HasPattern) (With HasRepeated) (With HasScanner) (With HasUnion) (With HasUnionPart) Operand Concatenation ConcatenationPart Embedded Negated Pattern Repeated Scanner Union UnionPart (λ o. o.0) (λ o. o.0) (λ o. o.0) (λ o. o.0) (λ o. o.0) (λ o. o.0) (λ o. o.0) (λ o. o.0) (λ o. o.0) (λ o. o.0) y

  by_layer : (y : WithLayer) → Each B (event_layer (bare y)) → OfRead P (told_layer (bare y)).read
  by_layer (operand.Literal w) h = of_leaf w.place (leaf.Literal w) (literal_read k.alphabet w) h.0 (ap (layer_leaf k.alphabet) (outs-Literal w))
  by_layer (operand.Number n) h = of_leaf (number_place n) (leaf.Number n) (number_leaf k.alphabet n) h.0 (ap (layer_leaf k.alphabet) (outs-Number n))
  by_layer (operand.Range low dots high) h = of_leaf (key_place low) (leaf.Range low dots high) (range_between k.alphabet low high) h.0 (ap (layer_leaf k.alphabet) (outs-Range low dots high))
  by_layer (operand.Set w) h = of_leaf w.place (leaf.Set w) (set_read k.alphabet w) h.0 (ap (layer_leaf k.alphabet) (outs-Set w))
  by_layer (operand.RegularExpression w) h = of_leaf w.place (leaf.RegularExpression w) (regular_read k.alphabet w) h.0 (ap (layer_leaf k.alphabet) (outs-RegularExpression w))
  by_layer (operand.Name w) h = of_named w (built_in_named w.text)
  by_layer (operand.Group opening inner closing) h = inner.1 h
  by_layer (operand.Scanner s) h = of_err P _

  -- what holds of each where its events are such holds of all where all are
  each_where : {X : Type 0} (C : X → Type 0) (f : X → Found) (xs : List X) → Each (λ x. Each B (f x) → C x) xs → Each B (all (map f xs)) → Each C xs
  each_where C f [] h g = tt
  each_where C f (x ∷ xs) h g = (h.0 (each_front B (f x) (all (map f xs)) g), each_where C f xs h.1 (each_behind B (f x) (all (map f xs)) g))

  pub union_holds : (u : Union) → Each B (events.union_events u) → OfRead P (x.union_told k u).read
  unfolding x.operand_told x.concatenation_told x.concatenation_part_told x.embedded_told x.negated_told x.pattern_told x.repeated_told x.scanner_told x.union_told x.union_part_told events.operand_events events.concatenation_events events.concatenation_part_events events.embedded_events events.negated_events events.pattern_events events.repeated_events events.scanner_events events.union_events events.union_part_events
  union_holds = ind-Union HasOperand HasConcatenation HasConcatenationPart HasEmbedded HasNegated HasPattern HasRepeated HasScanner HasUnion HasUnionPart
      (λ l y is h. subst (λ (t : Told). OfRead P t.read) (sym (fold-roll-Operand Told Told Joined Told Told Place Told Place Told Joined (x.operand_step k) (x.concatenation_step k) (x.concatenation_part_step k) (x.embedded_step k) (x.negated_step k) (x.pattern_step k) (x.repeated_step k) (x.scanner_step k) (x.union_step k) (x.union_part_step k) l))
      (let g = subst (Each B) (fold-roll-Operand Found Found Found Found Found Found Found Found Found Found events.operand_step events.concatenation_step events.concatenation_part_step events.embedded_step events.negated_step events.pattern_step events.repeated_step events.scanner_step events.union_step events.union_part_step l) h in subst (λ z. Each B (event_layer z) → OfRead P (told_layer z).read) is (by_layer y) g))
      (λ c y is h. subst (λ (t : Told). OfRead P t.read) (sym (fold-roll-Concatenation Told Told Joined Told Told Place Told Place Told Joined (x.operand_step k) (x.concatenation_step k) (x.concatenation_part_step k) (x.embedded_step k) (x.negated_step k) (x.pattern_step k) (x.repeated_step k) (x.scanner_step k) (x.union_step k) (x.union_part_step k) c))
      (let g = subst (Each B) (fold-roll-Concatenation Found Found Found Found Found Found Found Found Found Found events.operand_step events.concatenation_step events.concatenation_part_step events.embedded_step events.negated_step events.pattern_step events.repeated_step events.scanner_step events.union_step events.union_part_step c) h in of_chained (x.embedded_told k c.first) (map (x.concatenation_part_told k) c.rest)
      (subst (λ z. HasEmbedded z.first) is y.first.1 (each_front B (events.embedded_events c.first) (all (map events.concatenation_part_events c.rest)) g))
      (each_map (OfRead PL) (x.concatenation_part_told k) c.rest (each_where (λ p. OfRead PL (x.concatenation_part_told k p)) events.concatenation_part_events c.rest (subst (λ z. Each HasConcatenationPart z.rest) is (all_with HasConcatenationPart y.rest)) (each_behind B (events.embedded_events c.first) (all (map events.concatenation_part_events c.rest)) g)))))
      (λ p y is h. subst (λ (t : Joined). OfRead PL t) (sym (fold-roll-ConcatenationPart Told Told Joined Told Told Place Told Place Told Joined (x.operand_step k) (x.concatenation_step k) (x.concatenation_part_step k) (x.embedded_step k) (x.negated_step k) (x.pattern_step k) (x.repeated_step k) (x.scanner_step k) (x.union_step k) (x.union_part_step k) p))
      (let g = subst (Each B) (fold-roll-ConcatenationPart Found Found Found Found Found Found Found Found Found Found events.operand_step events.concatenation_step events.concatenation_part_step events.embedded_step events.negated_step events.pattern_step events.repeated_step events.scanner_step events.union_step events.union_part_step p) h in of_part (joined_by p.sign) (x.embedded_told k p.operand).read (subst (λ z. HasEmbedded z.operand) is y.operand.1 g)))
      (λ m y is h. subst (λ (t : Told). OfRead P t.read) (sym (fold-roll-Embedded Told Told Joined Told Told Place Told Place Told Joined (x.operand_step k) (x.concatenation_step k) (x.concatenation_part_step k) (x.embedded_step k) (x.negated_step k) (x.pattern_step k) (x.repeated_step k) (x.scanner_step k) (x.union_step k) (x.union_part_step k) m))
      (let g = subst (Each B) (fold-roll-Embedded Found Found Found Found Found Found Found Found Found Found events.operand_step events.concatenation_step events.concatenation_part_step events.embedded_step events.negated_step events.pattern_step events.repeated_step events.scanner_step events.union_step events.union_part_step m) h in of_then P P (x.repeated_told k m.operand).read _ (subst (λ z. HasRepeated z.operand) is y.operand.1 (each_front B (events.repeated_events m.operand) (flat_map events.embedding_events m.embeddings) g))
      (λ e f. of_then (Each Q) P (each (put_read k) m.embeddings) _ (λ ps r. of_embeddings m.embeddings (each_behind B (events.repeated_events m.operand) (flat_map events.embedding_events m.embeddings) g) ps r) (λ ps fs. of_ok P _ (of_puts ps (x.repeated_told k m.operand).place e f fs)))))
      (λ n y is h. subst (λ (t : Told). OfRead P t.read) (sym (fold-roll-Negated Told Told Joined Told Told Place Told Place Told Joined (x.operand_step k) (x.concatenation_step k) (x.concatenation_part_step k) (x.embedded_step k) (x.negated_step k) (x.pattern_step k) (x.repeated_step k) (x.scanner_step k) (x.union_step k) (x.union_part_step k) n))
      (let g = subst (Each B) (fold-roll-Negated Found Found Found Found Found Found Found Found Found Found events.operand_step events.concatenation_step events.concatenation_part_step events.embedded_step events.negated_step events.pattern_step events.repeated_step events.scanner_step events.union_step events.union_part_step n) h in of_then P P (x.operand_told k n.operand).read _ (subst (λ z. HasOperand z.operand) is y.operand.1 g) (λ e f. of_ok P _ (of_negations (map negation_of n.negations) e f))))
      (λ p y is. tt)
      (λ r y is h. subst (λ (t : Told). OfRead P t.read) (sym (fold-roll-Repeated Told Told Joined Told Told Place Told Place Told Joined (x.operand_step k) (x.concatenation_step k) (x.concatenation_part_step k) (x.embedded_step k) (x.negated_step k) (x.pattern_step k) (x.repeated_step k) (x.scanner_step k) (x.union_step k) (x.union_part_step k) r))
      (let g = subst (Each B) (fold-roll-Repeated Found Found Found Found Found Found Found Found Found Found events.operand_step events.concatenation_step events.concatenation_part_step events.embedded_step events.negated_step events.pattern_step events.repeated_step events.scanner_step events.union_step events.union_part_step r) h in of_then P P (x.negated_told k r.operand).read _ (subst (λ z. HasNegated z.operand) is y.operand.1 g)
      (λ e f. of_then (λ rs. Unit {0}) P (each repetition_read r.repetitions) _ (λ rs q. tt) (λ rs fs. of_ok P _ (of_repetitions rs (x.negated_told k r.operand).place e f)))))
      (λ s y is. tt)
      (λ u y is h. subst (λ (t : Told). OfRead P t.read) (sym (fold-roll-Union Told Told Joined Told Told Place Told Place Told Joined (x.operand_step k) (x.concatenation_step k) (x.concatenation_part_step k) (x.embedded_step k) (x.negated_step k) (x.pattern_step k) (x.repeated_step k) (x.scanner_step k) (x.union_step k) (x.union_part_step k) u))
      (let g = subst (Each B) (fold-roll-Union Found Found Found Found Found Found Found Found Found Found events.operand_step events.concatenation_step events.concatenation_part_step events.embedded_step events.negated_step events.pattern_step events.repeated_step events.scanner_step events.union_step events.union_part_step u) h in of_chained (x.concatenation_told k u.first) (map (x.union_part_told k) u.rest)
      (subst (λ z. HasConcatenation z.first) is y.first.1 (each_front B (events.concatenation_events u.first) (all (map events.union_part_events u.rest)) g))
      (each_map (OfRead PL) (x.union_part_told k) u.rest (each_where (λ p. OfRead PL (x.union_part_told k p)) events.union_part_events u.rest (subst (λ z. Each HasUnionPart z.rest) is (all_with HasUnionPart y.rest)) (each_behind B (events.concatenation_events u.first) (all (map events.union_part_events u.rest)) g)))))
      (λ p y is h. subst (λ (t : Joined). OfRead PL t) (sym (fold-roll-UnionPart Told Told Joined Told Told Place Told Place Told Joined (x.operand_step k) (x.concatenation_step k) (x.concatenation_part_step k) (x.embedded_step k) (x.negated_step k) (x.pattern_step k) (x.repeated_step k) (x.scanner_step k) (x.union_step k) (x.union_part_step k) p))
      (let g = subst (Each B) (fold-roll-UnionPart Found Found Found Found Found Found Found Found Found Found events.operand_step events.concatenation_step events.concatenation_part_step events.embedded_step events.negated_step events.pattern_step events.repeated_step events.scanner_step events.union_step events.union_part_step p) h in of_part (united_by p.sign) (x.concatenation_told k p.operand).read (subst (λ z. HasConcatenation z.operand) is y.operand.1 g)))
