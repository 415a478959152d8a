-- What every operator keeps holds of each definition's expression.
use Rattle.std.proofs.Common.{◌≡◌, ℕ, zero, suc, ◌++◌, Bool, true, false, cond, List, [], ◌∷◌, map, Option, None, Some, Result, Ok, refl, sym, ap, ◌∙◌, subst}
use Rattle.std.specs.Prelude.{slice_get, if◌then◌else◌}
use Rattle.std.specs.List.{flat_map}
use Rattle.rl_types.specs.declared.alphabet.Alphabet.{Alphabet}
use Rattle.rl_types.specs.declared.numbers.ActionId.{ActionId}
use Rattle.rl_types.specs.declared.numbers.Place.{Place}
use Rattle.rl_types.specs.KeyRange.{Range}
use Rattle.rl_grammar.specs.declared.read_fault.ReadFault.{ReadFault}
use Rattle.rl_grammar.specs.declared.syntax.Definition.{Definition as Written}
use Rattle.rl_grammar.specs.declared.syntax.Embedding.{Embedding}
use Rattle.rl_grammar.specs.declared.syntax.Operand.{Operand as Written_Operand}
use Rattle.rl_leaves.specs.BuiltIns.{built_in_leaf}
use Rattle.rl_leaves.specs.declared.built_in.BuiltIn.{BuiltIn}
use Rattle.rl_grammar.specs.declared.syntax.Pattern.{Pattern as Listed, out-Pattern}
use Rattle.rl_grammar.specs.declared.syntax.Scanner.{Scanner, out-Scanner}
use Rattle.rl_grammar.specs.declared.syntax.Statement.{Statement}
use Rattle.rl_grammar.specs.declared.syntax.Statement.TheVariants as statement
use Rattle.rl_grammar.specs.declared.syntax.Union.{Union}
use Rattle.rl_grammar.specs.declared.step.Step.{Step}
use Rattle.rl_draft.specs.declared.draft.Definition.{Definition}
use Rattle.rl_draft.specs.declared.draft.Pattern.{Pattern}
use Rattle.rl_draft.specs.declared.draft.Value.{Value}
use Rattle.rl_draft.specs.declared.draft.Value.TheVariants as value
use Rattle.rl_draft.specs.declared.expression.Expression.{Expression}
use Rattle.rl_draft.specs.declared.expression.Expression.TheFolds.{fold-roll-Expression, fold-roll-Link}
use Rattle.rl_draft.specs.declared.expression.Expression.TheOpen as level
use Rattle.rl_draft.specs.declared.expression.Expression.TheVariants as made
use Rattle.rl_draft.specs.declared.expression.Expression.TheVariants.{rolls-Leaf, rolls-Name, rolls-Chain, rolls-Repeated, rolls-Negated, rolls-Embedded}
use Rattle.rl_draft.specs.declared.expression.Item.{Item}
use Rattle.rl_draft.specs.declared.expression.Join.{Join}
use Rattle.rl_draft.specs.declared.expression.Join.TheVariants as join
use Rattle.rl_draft.specs.declared.expression.Leaf.{Leaf}
use Rattle.rl_draft.specs.declared.expression.Leaf.TheVariants as leaf
use Rattle.rl_draft.specs.declared.expression.Link.{Link}
use Rattle.rl_draft.specs.declared.expression.Negation.{Negation}
use Rattle.rl_draft.specs.declared.expression.Negation.TheVariants as negation
use Rattle.rl_draft.specs.declared.expression.NegationSign.{NegationSign}
use Rattle.rl_draft.specs.declared.expression.Put.{Put}
use Rattle.rl_draft.specs.declared.expression.Repetition.{Repetition}
use Rattle.rl_draft.specs.declared.expression.Repetition.TheVariants as repetition
use Rattle.rl_names.specs.Answers.{and_then, each}
use Rattle.rl_names.specs.Drafts.{names_of, scope_behind, token_read, value_by, value_read, pattern_read, scanner_read, definition_read, definition_behind, definitions_by, definitions_behind, definitions_of}
use Rattle.rl_names.specs.Events.{Event}
use Rattle.rl_names.specs.Events as events
use Rattle.rl_names.specs.Expressions.{Scope, put_read, link, union_told}
use Rattle.rl_names.specs.Leaves.{leaf_read}
use Rattle.rl_names.specs.Frames.{is_of}
use Rattle.rl_names.specs.Places.{union_place}
use Rattle.rl_names.specs.Values.{scanner_of}
use Rattle.rl_rewrite.specs.Entries.{Meaning, meanings_behind, meanings_in}
use Rattle.rl_rewrite.specs.Plain as p
use Rattle.rl_rewrite.specs.Plain.{Plain, Operand, Pairing, Guard, any, every, no_place, joined, repeated, all_repeated, whole, all_negated, starred, character, item, behind, row, leaf_plain, chained, named, expression_step, link_step, plain, operand, PlainPattern, PlainValue, pattern_plain, value_of, as_name}
use Rattle.rl_form.proofs.Lists.{Each, each_append, each_front, each_behind}
use Rattle.rl_formed.proofs.ResultLaws.{ok_then, same_ok, not_refused, along_keeps}
use Rattle.rl_formed.proofs.ReadLaws.{OfRead, of_ok, of_then, union_holds}

-- it is kept by all that expressions are made of
pub record IsKept (alphabet : Alphabet) (H : Plain → Type 0) (Q : Put → Type 0) : Type 0 where
  pub empty : (at : Place) → H (p.Null at)
  pub none : (at : Place) → H (p.Nothing at)
  pub every : (at : Place) → H (p.Set (any alphabet) at)
  pub pair : (q : Pairing) (a b : Plain) (at : Place) → H a → H b → H (p.Pair q a b at)
  pub guarded : (g : Guard) (a b : Plain) (at : Place) → H a → H b → H (p.Guarded g a b at)
  pub longest : (a : Plain) (at : Place) → H a → H (p.Longest a at)
  pub count : (a : Plain) (least : ℕ) (most : Option ℕ) (at : Place) → H a → H (p.Count a least most at)
  pub series : (a : Plain) (ps : List Put) (at : Place) → H a → Each Q ps → H (p.Series a ps at)

-- each set of the leaf is such a one
abbrev pub HoldsOfRanges : (List Range → Type 0) → Option (List Range) → Type 0
HoldsOfRanges S None = Unit {0}
HoldsOfRanges S (Some ranges) = S ranges

abbrev pub HoldsOfLeaf : (List Range → Type 0) → Leaf → Type 0
HoldsOfLeaf S (leaf.Set ranges) = S ranges
HoldsOfLeaf S leaf.Null = Unit {0}
HoldsOfLeaf S leaf.Nothing = Unit {0}
HoldsOfLeaf S (leaf.Row items) = Each (λ (i : Item). HoldsOfRanges S i.ranges) items

-- ---- operators keep it

module _ (alphabet : Alphabet) (H : Plain → Type 0) (Q : Put → Type 0) (S : List Range → Type 0) (kept : IsKept alphabet H Q) (of_set : (ranges : List Range) (at : Place) → S ranges → H (p.Set ranges at)) where
  every_holds : (at : Place) → H (every alphabet at)
  every_holds at = kept.count (p.Set (any alphabet) at) 0 None at (kept.every at)

  pub joined_hold : (j : Join) (a b : Plain) (at : Place) → H a → H b → H (joined alphabet j a b at)
  joined_hold join.Union a b at h g = kept.pair p.Either a b at h g
  joined_hold join.Intersection a b at h g = kept.pair p.Both a b at h g
  joined_hold join.Difference a b at h g = kept.pair p.Less a b at h g
  joined_hold join.StrongDifference a b at h g =
      kept.pair p.Less a (p.Pair p.Then (p.Pair p.Then (every alphabet at) b at) (every alphabet at) at) at h
      (kept.pair p.Then (p.Pair p.Then (every alphabet at) b at) (every alphabet at) at (kept.pair p.Then (every alphabet at) b at (every_holds at) g) (every_holds at))
  joined_hold join.Concatenation a b at h g = kept.pair p.Then a b at h g
  joined_hold join.LeftGuarded a b at h g = kept.guarded p.Left a b at h g
  joined_hold join.EntryGuarded a b at h g = kept.guarded p.Entry a b at h g
  joined_hold join.FinishGuarded a b at h g = kept.guarded p.Finish a b at h g

  repeated_hold : (r : Repetition) (a : Plain) (at : Place) → H a → H (repeated r a at)
  repeated_hold repetition.Star a at h = kept.count a 0 None at h
  repeated_hold repetition.LongestStar a at h = kept.longest a at h
  repeated_hold repetition.Optional a at h = kept.count a 0 (Some 1) at h
  repeated_hold repetition.Plus a at h = kept.count a 1 None at h
  repeated_hold (repetition.Count bounds) a at h = kept.count a bounds.least bounds.most at h

  pub all_repeated_hold : (rs : List Repetition) (a : Plain) (at : Place) → H a → H (all_repeated rs a at)
  all_repeated_hold [] a at h = h
  all_repeated_hold (r ∷ rs) a at h = all_repeated_hold rs (repeated r a at) at (repeated_hold r a at h)

  whole_holds : (m : Negation) (at : Place) → H (whole alphabet m at)
  whole_holds negation.Language at = every_holds at
  whole_holds negation.Character at = kept.every at

  pub all_negated_hold : (ms : List NegationSign) (a : Plain) → H a → H (all_negated alphabet ms a)
  all_negated_hold [] a h = h
  all_negated_hold (m ∷ ms) a h = kept.pair p.Less (whole alphabet m.negation m.place) (all_negated alphabet ms a) m.place (whole_holds m.negation m.place)
      (all_negated_hold ms a h)

  character_holds : (r : Option (List Range)) (at : Place) → HoldsOfRanges S r → H (character r at)
  character_holds None at h = kept.empty at
  character_holds (Some r) at h = of_set r at h

  item_holds : (b : Bool) (r : Option (List Range)) (at : Place) → HoldsOfRanges S r → H (cond b (starred (character r at) at) (character r at))
  item_holds true r at h = kept.count (character r at) 0 None at (character_holds r at h)
  item_holds false r at h = character_holds r at h

  behind_hold : (a : Plain) (is : List Item) (at : Place) → H a → Each (λ (i : Item). HoldsOfRanges S i.ranges) is → H (behind a is at)
  behind_hold a [] at h g = h
  behind_hold a (i ∷ is) at h g = behind_hold (p.Pair p.Then a (item i at) at) is at (kept.pair p.Then a (item i at) at h (item_holds i.starred i.ranges at g.0)) g.1

  row_holds : (is : List Item) (at : Place) → Each (λ (i : Item). HoldsOfRanges S i.ranges) is → H (row is at)
  row_holds [] at g = kept.empty at
  row_holds (i ∷ is) at g = behind_hold (item i at) is at (item_holds i.starred i.ranges at g.0) g.1

  pub leaf_holds : (l : Leaf) (at : Place) → HoldsOfLeaf S l → H (leaf_plain l at)
  leaf_holds (leaf.Set ranges) at h = of_set ranges at h
  leaf_holds leaf.Null at h = kept.empty at
  leaf_holds leaf.Nothing at h = kept.none at
  leaf_holds (leaf.Row items) at h = row_holds items at h

  named_holds : (known : List Plain) (i : ℕ) → Each H known → H (named (slice_get known i))
  named_holds [] i h = kept.none no_place
  named_holds (q ∷ known) zero h = h.0
  named_holds (q ∷ known) (suc i) h = named_holds known i h.1

  module _ (known : List Plain) (h_known : Each H known) where
    abbrev Holds : Expression → Type 0
    Holds e = H (plain alphabet known e)

    abbrev HoldsLink : Link → Type 0
    HoldsLink l = H (operand alphabet known l).plain

    chained_hold : (a : Plain) (ls : List Link) (at : Place) → H a → Each HoldsLink ls → H (chained alphabet a (map (operand alphabet known) ls) at)
    chained_hold a [] at h g = h
    chained_hold a (l ∷ ls) at h g = chained_hold (joined alphabet (operand alphabet known l).join a (operand alphabet known l).plain at) ls at
        (joined_hold (operand alphabet known l).join a (operand alphabet known l).plain at h g.0) g.1

    of_leaf : (l : Leaf) (at : Place) → HoldsOfLeaf S l → Holds (made.Leaf l at)
    of_leaf l at h = subst H (sym (ap (plain alphabet known) (sym (rolls-Leaf l at)) ∙ fold-roll-Expression Plain Operand (expression_step alphabet known) link_step (level.Leaf l at))) (leaf_holds l at h)

    of_name : (i : ℕ) → Holds (made.Name i)
    of_name i = subst H (sym (ap (plain alphabet known) (sym (rolls-Name i)) ∙ fold-roll-Expression Plain Operand (expression_step alphabet known) link_step (level.Name i))) (named_holds known i h_known)

    of_negated : (ns : List NegationSign) (e : Expression) → Holds e → Holds (made.Negated ns e)
    of_negated ns e h = subst H (sym (ap (plain alphabet known) (sym (rolls-Negated ns e)) ∙ fold-roll-Expression Plain Operand (expression_step alphabet known) link_step (level.Negated ns e)))
        (all_negated_hold ns (plain alphabet known e) h)

    of_repeated : (rs : List Repetition) (at : Place) (e : Expression) → Holds e → Holds (made.Repeated e rs at)
    of_repeated rs at e h = subst H (sym (ap (plain alphabet known) (sym (rolls-Repeated e rs at)) ∙ fold-roll-Expression Plain Operand (expression_step alphabet known) link_step (level.Repeated e rs at)))
        (all_repeated_hold rs (plain alphabet known e) at h)

    of_embedded : (ps : List Put) (at : Place) (e : Expression) → Holds e → Each Q ps → Holds (made.Embedded e ps at)
    of_embedded ps at e h g = subst H (sym (ap (plain alphabet known) (sym (rolls-Embedded e ps at)) ∙ fold-roll-Expression Plain Operand (expression_step alphabet known) link_step (level.Embedded e ps at)))
        (kept.series (plain alphabet known e) ps at h g)

    of_chain : (ls : List Link) (at : Place) (e : Expression) → Holds e → Each HoldsLink ls → Holds (made.Chain e ls at)
    of_chain ls at e h g = subst H (sym (ap (plain alphabet known) (sym (rolls-Chain e ls at)) ∙ fold-roll-Expression Plain Operand (expression_step alphabet known) link_step (level.Chain e ls at)))
        (chained_hold (plain alphabet known e) ls at h g)

    of_link : (j : Join) (e : Expression) → Holds e → HoldsLink (link j e)
    of_link j e h = subst (λ (o : Operand). H o.plain) (sym (fold-roll-Link Plain Operand (expression_step alphabet known) link_step (record { join = j; operand = e }))) h

    union_plain : (k : Scope) → k.alphabet ≡ alphabet → (B : Event → Type 0) → ((o : Written_Operand) (l : Leaf) → B (events.Leaf o) → leaf_read alphabet o ≡ Ok l → HoldsOfLeaf S l) → ((b : BuiltIn) → HoldsOfLeaf S (built_in_leaf alphabet b))
        → ((m : Embedding) → Each B (events.embedding_events m) → OfRead Q (put_read k m)) → (u : Union) → Each B (events.union_events u) → OfRead Holds (union_told k u).read
    union_plain k same B leaves built_ins puts u h =
        union_holds k Holds HoldsLink Q B
        (λ o l at b e. of_leaf l at (leaves o l b (subst (λ z. leaf_read z o ≡ Ok l) same e))) (λ b at. of_leaf (built_in_leaf k.alphabet b) at (subst (λ z. HoldsOfLeaf S (built_in_leaf z b)) (sym same) (built_ins b)))
        of_name of_negated of_repeated of_embedded of_chain of_link puts u h

-- ---- definitions

-- such scopes have the alphabet, and read such embeddings where their events are such
abbrev pub IsScope : Alphabet → (Put → Type 0) → (Event → Type 0) → Scope → Type 0
IsScope alphabet Q B k = (k.alphabet ≡ alphabet) × ((m : Embedding) → Each B (events.embedding_events m) → OfRead Q (put_read k m))

-- however a definition is read, its scope is such a one
abbrev pub AreScopes : Alphabet → (Put → Type 0) → (Event → Type 0) → Scope → Type 0
AreScopes alphabet Q B k = (names : List (List ℕ)) (earlier : List Definition) (owner : List ℕ) → IsScope alphabet Q B (scope_behind k names earlier owner)

-- the events of the expressions of a statement are such
abbrev pub HoldsOfEvents : (Event → Type 0) → Statement → Type 0
HoldsOfEvents B (statement.Definition d) = Each B (events.value_events d.value)
HoldsOfEvents B _ = Unit {0}

-- it holds of the expression, or of those of all patterns
abbrev pub HoldsOfPlain : (Plain → Type 0) → PlainValue → Type 0
HoldsOfPlain H (p.Expression q) = H q
HoldsOfPlain H (p.Scanner qs at) = Each (λ (q : PlainPattern). H q.plain) qs

-- behind definitions of which it holds, it holds of the value
abbrev HoldsOfValueBy : Alphabet → (Plain → Type 0) → Value → Type 0
HoldsOfValueBy alphabet H v = (known : List Plain) → Each H known → HoldsOfPlain H (value_of alphabet known v)

abbrev HoldsOfDefinitionBy : Alphabet → (Plain → Type 0) → Definition → Type 0
HoldsOfDefinitionBy alphabet H d = HoldsOfValueBy alphabet H d.value

module _ (alphabet : Alphabet) (H : Plain → Type 0) (Q : Put → Type 0) (S : List Range → Type 0) (kept : IsKept alphabet H Q) (of_set : (ranges : List Range) (at : Place) → S ranges → H (p.Set ranges at))
    (B : Event → Type 0) (barred : (at : Place) → B (events.Barred at) → B (events.Ends at)) (leaves : (o : Written_Operand) (l : Leaf) → B (events.Leaf o) → leaf_read alphabet o ≡ Ok l → HoldsOfLeaf S l) (built_ins : (b : BuiltIn) → HoldsOfLeaf S (built_in_leaf alphabet b)) where
  abbrev HoldsOfValue : Value → Type 0
  HoldsOfValue v = HoldsOfValueBy alphabet H v

  abbrev HoldsOfDefinition : Definition → Type 0
  HoldsOfDefinition d = HoldsOfDefinitionBy alphabet H d

  -- ---- patterns

  -- an event that is such in a pattern is such
  from_pattern : (place : Place) (e : Event) → Each B (events.in_pattern place e) → B e
  from_pattern place (events.Leaf o) h = h.0
  from_pattern place (events.Name w) h = h.0
  from_pattern place (events.Action w) h = h.0
  from_pattern place (events.Code w) h = h.0
  from_pattern place (events.Priority w) h = h.0
  from_pattern place (events.Quiet at a) h = h.0
  from_pattern place (events.Embeds a) h = h.0
  from_pattern place (events.Ends at) h = barred at h.0
  from_pattern place (events.Barred at) h = h.0
  from_pattern place (events.Taken at w) h = h.0

  all_from_pattern : (place : Place) (es : List Event) → Each B (flat_map (events.in_pattern place) es) → Each B es
  all_from_pattern place [] h = tt
  all_from_pattern place (e ∷ es) h = (
    from_pattern place e (each_front B (events.in_pattern place e) (flat_map (events.in_pattern place) es) h),
    all_from_pattern place es (each_behind B (events.in_pattern place e) (flat_map (events.in_pattern place) es) h),
  )

  -- the events of its expression
  of_pattern : (q : Listed) → Each B (events.pattern_uses q) → Each B (events.union_events (out-Pattern q).value)
  of_pattern q h =
      let place = union_place (out-Pattern q).value in
      let es = events.union_events (out-Pattern q).value in
      let own = each_front B (events.uses_from place es) (events.token_events (out-Pattern q).action) h in
      let inside = each_behind B (events.first_name place es) (flat_map (events.calmed place) es ++ flat_map (events.in_pattern place) es) own in
      all_from_pattern place es (each_behind B (flat_map (events.calmed place) es) (flat_map (events.in_pattern place) es) inside)

  abbrev HoldsOfPattern : Pattern → Type 0
  HoldsOfPattern q = (known : List Plain) → Each H known → H (plain alphabet known q.expression)

  pattern_holds : (k : Scope) (q : Listed) → IsScope alphabet Q B k → Each B (events.pattern_uses q) → OfRead HoldsOfPattern (pattern_read k q)
  pattern_holds k q scope b =
      let read = union_told k (out-Pattern q).value in
      let made : Expression → Option ActionId → Pattern = λ e t. record { expression = e; token = t; place = read.place } in
      of_then (λ (e : Expression). (known : List Plain) → Each H known → H (plain alphabet known e)) HoldsOfPattern read.read
      (λ e. and_then (token_read k (out-Pattern q).action) (λ t. Ok (made e t)))
      (λ e r known h. union_plain alphabet H Q S kept of_set known h k scope.0 B leaves built_ins scope.1 (out-Pattern q).value (of_pattern q b) e r)
      (λ e h. of_then (λ t. Unit {0}) HoldsOfPattern (token_read k (out-Pattern q).action) (λ t. Ok (made e t)) (λ t r. tt)
      (λ t u. of_ok HoldsOfPattern (made e t) h))

  patterns_hold : (k : Scope) (qs : List Listed) → IsScope alphabet Q B k → Each B (flat_map events.pattern_uses qs) → OfRead (Each HoldsOfPattern) (each (pattern_read k) qs)
  patterns_hold k [] scope b = of_ok (Each HoldsOfPattern) [] tt
  patterns_hold k (q ∷ qs) scope b =
      of_then HoldsOfPattern (Each HoldsOfPattern) (pattern_read k q) (λ x. and_then (each (pattern_read k) qs) (λ xs. Ok (x ∷ xs)))
      (pattern_holds k q scope (each_front B (events.pattern_uses q) (flat_map events.pattern_uses qs) b))
      (λ x h. of_then (Each HoldsOfPattern) (Each HoldsOfPattern) (each (pattern_read k) qs) (λ xs. Ok (x ∷ xs)) (patterns_hold k qs scope (each_behind B (events.pattern_uses q) (flat_map events.pattern_uses qs) b))
      (λ xs g. of_ok (Each HoldsOfPattern) (x ∷ xs) (h, g)))

  all_patterns : (qs : List Pattern) → Each HoldsOfPattern qs → (known : List Plain) → Each H known → Each (λ (q : PlainPattern). H q.plain) (map (pattern_plain alphabet known) qs)
  all_patterns [] h known g = tt
  all_patterns (q ∷ qs) h known g = (h.0 known g, all_patterns qs h.1 known g)

  scanner_holds : (k : Scope) (s : Scanner) → IsScope alphabet Q B k → Each B (events.scanner_uses s) → OfRead HoldsOfValue (scanner_read k s)
  scanner_holds k s scope b =
      let first = (out-Scanner s).first in
      let rest = (out-Scanner s).rest in
      let made = λ (q : Pattern) (qs : List Pattern). value.Scanner (q ∷ qs) (out-Scanner s).opening in
      of_then HoldsOfPattern HoldsOfValue (pattern_read k first) (λ q. and_then (each (pattern_read k) rest) (λ qs. Ok (made q qs)))
      (pattern_holds k first scope (each_front B (events.pattern_uses first) (flat_map events.pattern_uses rest) b))
      (λ q h. of_then (Each HoldsOfPattern) HoldsOfValue (each (pattern_read k) rest) (λ qs. Ok (made q qs)) (patterns_hold k rest scope (each_behind B (events.pattern_uses first) (flat_map events.pattern_uses rest) b))
      (λ qs g. of_ok HoldsOfValue (made q qs) (all_patterns (q ∷ qs) (h, g))))

  -- ---- values

  value_holds_by : (k : Scope) (u : Union) (s : Option Scanner) → IsScope alphabet Q B k → Each B (events.uses_by u s) → OfRead HoldsOfValue (value_by k u s)
  value_holds_by k u None scope b =
      of_then (λ e. HoldsOfValue (value.Expression e)) HoldsOfValue (union_told k u).read (λ e. Ok (value.Expression e))
      (λ e q known h. union_plain alphabet H Q S kept of_set known h k scope.0 B leaves built_ins scope.1 u b e q)
      (λ e h. of_ok HoldsOfValue (value.Expression e) h)
  value_holds_by k u (Some s) scope b = scanner_holds k s scope b

  definition_holds : (k : Scope) (d : Written) → IsScope alphabet Q B k → Each B (events.value_events d.value) → OfRead HoldsOfDefinition (definition_read k d)
  definition_holds k d scope b =
      of_then HoldsOfValue HoldsOfDefinition (value_read k d.value) _ (value_holds_by k d.value (scanner_of d.value) scope b) (λ v h. of_ok HoldsOfDefinition _ h)

  one_more : (k : Scope) (earlier : List Definition) (d : Written) (ds : List Definition) → AreScopes alphabet Q B k → Each B (events.value_events d.value) → definition_behind k earlier d ≡ Ok ds → Each HoldsOfDefinition earlier → Each HoldsOfDefinition ds
  one_more k earlier d ds scopes b e h =
      let n = not_refused _ _ _ ds e in
      let i = ok_then (definition_read (scope_behind k (names_of earlier) earlier d.name.text) d) (λ x. Ok (earlier ++ x ∷ [])) ds n.1 in
      subst (Each HoldsOfDefinition) (same_ok (earlier ++ i.0 ∷ []) ds i.2)
      (each_append HoldsOfDefinition earlier (i.0 ∷ []) h (definition_holds (scope_behind k (names_of earlier) earlier d.name.text) d (scopes (names_of earlier) earlier d.name.text) b i.0 i.1, tt))

  no_more : (earlier ds : List Definition) → ◌≡◌ {A = Result (List Definition) ReadFault} (Ok earlier) (Ok ds) → Each HoldsOfDefinition earlier → Each HoldsOfDefinition ds
  no_more earlier ds e h = subst (Each HoldsOfDefinition) (same_ok earlier ds e) h

  by_statement : (k : Scope) (s : Statement) (earlier ds : List Definition) → AreScopes alphabet Q B k → HoldsOfEvents B s → definitions_by k earlier s ≡ Ok ds → Each HoldsOfDefinition earlier → Each HoldsOfDefinition ds
  by_statement k (statement.Definition d) earlier ds scopes b e h = one_more k earlier d ds scopes b e h
  by_statement k (statement.Action a) earlier ds scopes b e h = no_more earlier ds e h
  by_statement k (statement.Machine m) earlier ds scopes b e h = no_more earlier ds e h
  by_statement k (statement.Include m) earlier ds scopes b e h = no_more earlier ds e h
  by_statement k (statement.Alphtype m) earlier ds scopes b e h = no_more earlier ds e h
  by_statement k (statement.Access m) earlier ds scopes b e h = no_more earlier ds e h
  by_statement k (statement.Variable m) earlier ds scopes b e h = no_more earlier ds e h
  by_statement k (statement.Write m) earlier ds scopes b e h = no_more earlier ds e h

-- the events of the expressions of each statement are such, at some index of its own
module _ (alphabet : Alphabet) (H : Plain → Type 0) (Q : Put → Type 0) (S : List Range → Type 0) (kept : IsKept alphabet H Q) (of_set : (ranges : List Range) (at : Place) → S ranges → H (p.Set ranges at))
    (I : Type 0) (B : I → Event → Type 0) (barred : (i : I) (at : Place) → B i (events.Barred at) → B i (events.Ends at)) (leaves : (i : I) (o : Written_Operand) (l : Leaf) → B i (events.Leaf o) → leaf_read alphabet o ≡ Ok l → HoldsOfLeaf S l) (built_ins : (b : BuiltIn) → HoldsOfLeaf S (built_in_leaf alphabet b)) where
  abbrev HoldsOfOne : Definition → Type 0
  HoldsOfOne d = HoldsOfDefinitionBy alphabet H d

  -- at some index the events of a step of the machine are such
  abbrev pub HoldsOfStep : List ℕ → Step → Type 0
  HoldsOfStep machine s = is_of machine s ≡ true → (i : I) × HoldsOfEvents (B i) s.statement

  by_case : (b : Bool) (k : Scope) (s : Statement) (earlier ds : List Definition) → ((i : I) → AreScopes alphabet Q (B i) k) → (b ≡ true → (i : I) × HoldsOfEvents (B i) s) → (if b then definitions_by k earlier s else Ok earlier) ≡ Ok ds
      → Each HoldsOfOne earlier → Each HoldsOfOne ds
  by_case true k s earlier ds scopes b e h = let u = b refl in by_statement alphabet H Q S kept of_set (B u.0) (barred u.0) (leaves u.0) built_ins k s earlier ds (scopes u.0) u.1 e h
  by_case false k s earlier ds scopes b e h = subst (Each HoldsOfOne) (same_ok earlier ds e) h

  definitions_hold : (k : Scope) (machine : List ℕ) (steps : List Step) (ds : List Definition) → ((i : I) → AreScopes alphabet Q (B i) k) → Each (HoldsOfStep machine) steps → definitions_of k machine steps ≡ Ok ds → Each HoldsOfOne ds
  definitions_hold k machine steps ds scopes b e =
      along_keeps (Each HoldsOfOne) (HoldsOfStep machine) (definitions_behind k machine) (λ earlier s t u q h. by_case (is_of machine s) k s.statement earlier t scopes u q h) [] steps ds b e tt

  -- as a name, a scanner stands for no word
  named_hold : (v : PlainValue) → HoldsOfPlain H v → H (as_name v)
  named_hold (p.Expression q) h = h
  named_hold (p.Scanner qs at) h = kept.none no_place

  meanings_hold : (known : List Plain) (ds : List Definition) → Each H known → Each HoldsOfOne ds → Each (λ (m : Meaning). HoldsOfPlain H m.value) (meanings_behind alphabet known ds)
  meanings_hold known [] h g = tt
  meanings_hold known (d ∷ ds) h g =
      let v = value_of alphabet known d.value in
      let one = g.0 known h in
      (one, meanings_hold (known ++ as_name v ∷ []) ds (each_append H known (as_name v ∷ []) h (named_hold v one, tt)) g.1)

  -- it holds of what each definition gives its name to
  pub all_meanings : (k : Scope) (machine : List ℕ) (steps : List Step) (ds : List Definition) → ((i : I) → AreScopes alphabet Q (B i) k) → Each (HoldsOfStep machine) steps → definitions_of k machine steps ≡ Ok ds
      → Each (λ (m : Meaning). HoldsOfPlain H m.value) (meanings_in alphabet ds)
  all_meanings k machine steps ds scopes b e = meanings_hold [] ds tt (definitions_hold k machine steps ds scopes b e)
