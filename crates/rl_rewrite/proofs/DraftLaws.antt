-- The sets of what a draft's definitions stand for.
use Rattle.std.proofs.Common.{◌<ℤ◌, arith, ◌≡◌, ◌≢◌, ℕ, zero, suc, ◌++◌, Bool, true, false, cond, List, [], ◌∷◌, map, Option, Some, None, refl, ap, sym, subst, ◌∙◌}
use Rattle.std.specs.Prelude.{All, slice_get, option_to_list}
use Rattle.std.specs.List.{flat_map}
use Rattle.std.proofs.lemmas.Int.{ints}
use Rattle.std.proofs.lemmas.List.Elements.{All-nil, All-cons, All-append, All-head, All-tail}
use Rattle.rl_types.specs.declared.alphabet.Alphabet.{Alphabet}
use Rattle.rl_types.specs.declared.numbers.Place.{Place}
use Rattle.rl_types.specs.Alphabet.{least_key, greatest_key}
use Rattle.rl_types.specs.KeyRange.{Range}
use Rattle.rl_draft.specs.declared.expression.Expression.{Expression}
use Rattle.rl_draft.specs.declared.expression.Expression.TheOpen.{Expression-F, Link-F}
use Rattle.rl_draft.specs.declared.expression.Expression.TheOpen as level
use Rattle.rl_draft.specs.declared.expression.Expression.TheFolds.{fold-Link, fold-roll-Expression, fold-roll-Link, map-Expression, ind-Expression}
use Rattle.rl_draft.specs.declared.expression.Link.{Link}
use Rattle.rl_draft.specs.declared.expression.Leaf.{Leaf}
use Rattle.rl_draft.specs.declared.expression.Leaf.TheVariants as leaf
use Rattle.rl_draft.specs.declared.expression.Item.{Item}
use Rattle.rl_draft.specs.declared.expression.Join.{Join}
use Rattle.rl_draft.specs.declared.expression.Join.TheVariants as join
use Rattle.rl_draft.specs.declared.expression.Repetition.{Repetition}
use Rattle.rl_draft.specs.declared.expression.Repetition.TheVariants as repetition
use Rattle.rl_draft.specs.declared.expression.Negation.{Negation}
use Rattle.rl_draft.specs.declared.expression.Negation.TheVariants as negation
use Rattle.rl_draft.specs.declared.expression.NegationSign.{NegationSign}
use Rattle.rl_rewrite.specs.Plain as p
use Rattle.rl_rewrite.specs.Plain.{Plain, PlainPattern, PlainValue, pattern_plain, value_of, as_name, Operand, any, joined, repeated, all_repeated, all_negated, whole, item, character, starred, behind, row, leaf_plain, chained, named, no_place, expression_step, link_step, plain, operand}
use Rattle.rl_rewrite.specs.Drafts as drafts
use Rattle.rl_rewrite.specs.Drafts.{Sets, leaf_sets, sets, expressions, IsSet, HasSetsInForm, HasPattern, HasScannersInForm}
use Rattle.rl_rewrite.specs.declared.counts.Counts.{Counts}
use Rattle.rl_rewrite.proofs.SetLaws.{AreSets}
use Rattle.rl_rewrite.proofs.PatternLaws.{ArePatternSets, AreValueSets, root_sets}
use Rattle.rl_rewrite.proofs.EntryLaws.{all_map}
use Rattle.rl_types.specs.declared.alphabet.Alphabet.TheVariants as alphabets
use Rattle.rl_types.specs.declared.numbers.ActionId.{ActionId}
use Rattle.rl_automata.specs.Refused.{sets_in}
use Rattle.rl_model.specs.declared.spec.Entry as rust
use Rattle.rl_model.specs.Specification.{root_of}
use Rattle.rl_model.specs.Counts.{trees_of}
use Rattle.rl_model.specs.WellFormed.{IsInAlphabet, HasPatterns}
use Rattle.rl_draft.specs.declared.draft.Definition.{Definition}
use Rattle.rl_draft.specs.declared.draft.Draft.{Draft}
use Rattle.rl_draft.specs.declared.draft.Pattern.{Pattern}
use Rattle.rl_draft.specs.declared.draft.Value.{Value}
use Rattle.rl_draft.specs.declared.draft.Value.TheVariants as value
use Rattle.rl_rewrite.specs.Walk.{walk_patterns, walk_value, begun}
use Rattle.rl_rewrite.specs.Entries.{Made, Meaning, made_of, meaning, meanings, meanings_in, meanings_behind, is_entry, entry, entries, made_by, conditions_by}

all_left : {X : Type 0} (P : X → Type 0) (xs ys : List X) → All P (xs ++ ys) → All P xs
all_left P [] ys h = All-nil P
all_left P (x ∷ xs) ys h = All-cons P x xs (All-head P x (xs ++ ys) h) (all_left P xs ys (All-tail P x (xs ++ ys) h))

all_right : {X : Type 0} (P : X → Type 0) (xs ys : List X) → All P (xs ++ ys) → All P ys
all_right P [] ys h = h
all_right P (x ∷ xs) ys h = all_right P xs ys (All-tail P x (xs ++ ys) h)

abbrev link_parts : Link → Sets
link_parts = fold-Link Sets Sets drafts.level_sets drafts.link_sets

module _ (alphabet : Alphabet) (P : List Range → Type 0) (h_any : P (any alphabet)) where
  joined_sets : (j : Join) (a b : Plain) (at : Place) → AreSets P a → AreSets P b → AreSets P (joined alphabet j a b at)
  joined_sets join.Union a b at h g = (h, g)
  joined_sets join.Intersection a b at h g = (h, g)
  joined_sets join.Difference a b at h g = (h, g)
  joined_sets join.StrongDifference a b at h g = (h, ((h_any, g), h_any))
  joined_sets join.Concatenation a b at h g = (h, g)
  joined_sets join.LeftGuarded a b at h g = (h, g)
  joined_sets join.EntryGuarded a b at h g = (h, g)
  joined_sets join.FinishGuarded a b at h g = (h, g)

  repeated_sets : (r : Repetition) (a : Plain) (at : Place) → AreSets P a → AreSets P (repeated r a at)
  repeated_sets repetition.Star a at h = h
  repeated_sets repetition.LongestStar a at h = h
  repeated_sets repetition.Optional a at h = h
  repeated_sets repetition.Plus a at h = h
  repeated_sets (repetition.Count bounds) a at h = h

  all_repeated_sets : (rs : List Repetition) (a : Plain) (at : Place) → AreSets P a → AreSets P (all_repeated rs a at)
  all_repeated_sets [] a at h = h
  all_repeated_sets (r ∷ rs) a at h = all_repeated_sets rs (repeated r a at) at (repeated_sets r a at h)

  whole_sets : (m : Negation) (at : Place) → AreSets P (whole alphabet m at)
  whole_sets negation.Language at = h_any
  whole_sets negation.Character at = h_any

  all_negated_sets : (ms : List NegationSign) (a : Plain) → AreSets P a → AreSets P (all_negated alphabet ms a)
  all_negated_sets [] a h = h
  all_negated_sets (m ∷ ms) a h = (whole_sets m.negation m.place, all_negated_sets ms a h)

  item_case : (b : Bool) (r : Option (List Range)) (at : Place) → All P (option_to_list r) → AreSets P (cond b (starred (character r at) at) (character r at))
  item_case true None at h = tt
  item_case true (Some r) at h = All-head P r [] h
  item_case false None at h = tt
  item_case false (Some r) at h = All-head P r [] h

  behind_sets : (a : Plain) (is : List Item) (at : Place) → AreSets P a → All P (flat_map (λ (i : Item). option_to_list i.ranges) is) → AreSets P (behind a is at)
  behind_sets a [] at h g = h
  behind_sets a (i ∷ is) at h g =
      let xs = option_to_list i.ranges in
      let ys = flat_map (λ (k : Item). option_to_list k.ranges) is in
      behind_sets (p.Pair p.Then a (item i at) at) is at (h, item_case i.starred i.ranges at (all_left P xs ys g)) (all_right P xs ys g)

  row_sets : (is : List Item) (at : Place) → All P (flat_map (λ (i : Item). option_to_list i.ranges) is) → AreSets P (row is at)
  row_sets [] at g = tt
  row_sets (i ∷ is) at g =
      let xs = option_to_list i.ranges in
      let ys = flat_map (λ (k : Item). option_to_list k.ranges) is in
      behind_sets (item i at) is at (item_case i.starred i.ranges at (all_left P xs ys g)) (all_right P xs ys g)

  leaf_sets_hold : (l : Leaf) (at : Place) → All P (leaf_sets l) → AreSets P (leaf_plain l at)
  leaf_sets_hold (leaf.Set ranges) at h = All-head P ranges [] h
  leaf_sets_hold leaf.Null at h = tt
  leaf_sets_hold leaf.Nothing at h = tt
  leaf_sets_hold (leaf.Row items) at h = row_sets items at h

  named_sets : (known : List Plain) (k : ℕ) → All (AreSets P) known → AreSets P (named (slice_get known k))
  named_sets [] k h = tt
  named_sets (q ∷ known) zero h = All-head (AreSets P) q known h
  named_sets (q ∷ known) (suc k) h = named_sets known k (All-tail (AreSets P) q known h)

  module _ (known : List Plain) (h_known : All (AreSets P) known) where
    abbrev HasSets : Expression → Type 0
    HasSets e = All P (sets e) → AreSets P (plain alphabet known e)

    abbrev HasLinkSets : Link → Type 0
    HasLinkSets l = All P (link_parts l) → AreSets P (operand alphabet known l).plain

    abbrev Told : Type 0
    Told = (e : Expression) × HasSets e

    abbrev ToldLink : Type 0
    ToldLink = (l : Link) × HasLinkSets l

    chain_sets : (a : Plain) (os : List ToldLink) (at : Place) → AreSets P a → All P (flat_map (λ (y : Sets). y) (map link_parts (map (λ l. l.0) os)))
        → AreSets P (chained alphabet a (map (operand alphabet known) (map (λ l. l.0) os)) at)
    chain_sets a [] at h g = h
    chain_sets a (o ∷ os) at h g =
        let xs = link_parts o.0 in
        let ys = flat_map (λ (y : Sets). y) (map link_parts (map (λ l. l.0) os)) in
        chain_sets (joined alphabet (operand alphabet known o.0).join a (operand alphabet known o.0).plain at) os at
        (joined_sets (operand alphabet known o.0).join a (operand alphabet known o.0).plain at h (o.1 (all_left P xs ys g))) (all_right P xs ys g)

    level_sets : (y : Expression-F Told ToldLink) → All P (drafts.level_sets (map-Expression Expression Link Sets Sets sets link_parts (map-Expression Told ToldLink Expression Link (λ e. e.0) (λ l. l.0) y)))
        → AreSets P (expression_step alphabet known (map-Expression Expression Link Plain Operand (plain alphabet known) (operand alphabet known) (map-Expression Told ToldLink Expression Link (λ e. e.0) (λ l. l.0) y)))
    level_sets (level.Leaf l at) h = leaf_sets_hold l at h
    level_sets (level.Name k) h = named_sets known k h_known
    level_sets (level.Chain a os at) h =
        let xs = sets a.0 in
        let ys = flat_map (λ (y : Sets). y) (map link_parts (map (λ l. l.0) os)) in
        chain_sets (plain alphabet known a.0) os at (a.1 (all_left P xs ys h)) (all_right P xs ys h)
    level_sets (level.Repeated a rs at) h = all_repeated_sets rs (plain alphabet known a.0) at (a.1 h)
    level_sets (level.Negated ms a) h = all_negated_sets ms (plain alphabet known a.0) (a.1 h)
    level_sets (level.Embedded a ps at) h = a.1 h

    plain_sets : (e : Expression) → HasSets e
    plain_sets = ind-Expression HasSets HasLinkSets
        (λ x y is h. subst (AreSets P) (sym (fold-roll-Expression Plain Operand (expression_step alphabet known) link_step x))
        (subst (λ z. All P (drafts.level_sets (map-Expression Expression Link Sets Sets sets link_parts z))
        → AreSets P (expression_step alphabet known (map-Expression Expression Link Plain Operand (plain alphabet known) (operand alphabet known) z))) is (level_sets y)
        (subst (All P) (fold-roll-Expression Sets Sets drafts.level_sets drafts.link_sets x) h)))
        (λ x y is h. subst (λ z. AreSets P z.plain) (sym (fold-roll-Link Plain Operand (expression_step alphabet known) link_step x))
        (subst (λ z. All P (sets z.operand) → AreSets P (plain alphabet known z.operand)) is y.operand.1
        (subst (All P) (fold-roll-Link Sets Sets drafts.level_sets drafts.link_sets x) h)))

-- ---- all definitions

-- the sets of its expressions
abbrev AreWritten : (List Range → Type 0) → Value → Type 0
AreWritten P v = All (λ e. All P (sets e)) (expressions v)

module _ (alphabet : Alphabet) (P : List Range → Type 0) (h_any : P (any alphabet)) where
  patterns_written : (known : List Plain) → All (AreSets P) known → (ps : List Pattern) → All (λ e. All P (sets e)) (map (λ (x : Pattern). x.expression) ps) → ArePatternSets P (map (pattern_plain alphabet known) ps)
  patterns_written known k [] g = tt
  patterns_written known k (x ∷ ps) g =
      let Q : Expression → Type 0 = λ e. All P (sets e) in
      let es = map (λ (y : Pattern). y.expression) ps in
      (plain_sets alphabet P h_any known k x.expression (All-head Q x.expression es g), patterns_written known k ps (All-tail Q x.expression es g))

  value_sets : (known : List Plain) → All (AreSets P) known → (v : Value) → AreWritten P v → AreValueSets P (value_of alphabet known v)
  value_sets known k (value.Expression e) g = plain_sets alphabet P h_any known k e (All-head (λ z. All P (sets z)) e [] g)
  value_sets known k (value.Scanner ps at) g = patterns_written known k ps g

  name_sets : (v : PlainValue) → AreValueSets P v → AreSets P (as_name v)
  name_sets (p.Expression e) h = h
  name_sets (p.Scanner qs at) h = tt

  abbrev HasMeantSets : Meaning → Type 0
  HasMeantSets m = AreValueSets P m.value

  meanings_sets : (known : List Plain) → All (AreSets P) known → (ds : List Definition) → All (λ e. All P (sets e)) (flat_map (λ (d : Definition). expressions d.value) ds) → All HasMeantSets (meanings_behind alphabet known ds)
  meanings_sets known k [] g = All-nil HasMeantSets
  meanings_sets known k (d ∷ ds) g =
      let Q : Expression → Type 0 = λ e. All P (sets e) in
      let ys = flat_map (λ (x : Definition). expressions x.value) ds in
      let v = value_of alphabet known d.value in
      let h = value_sets known k d.value (all_left Q (expressions d.value) ys g) in
      let more = All-append (AreSets P) known (as_name v ∷ []) k (All-cons (AreSets P) (as_name v) [] (name_sets v h) (All-nil (AreSets P))) in
      All-cons HasMeantSets (meaning d v) (meanings_behind alphabet (known ++ as_name v ∷ []) ds) h (meanings_sets (known ++ as_name v ∷ []) more ds (all_right Q (expressions d.value) ys g))

-- the sets of an entry's expression
abbrev HasMadeSets : (List Range → Type 0) → Made → Type 0
HasMadeSets P x = All P (flat_map sets_in (trees_of x.root))

made_sets : (P : List Range → Type 0) (b : Bool) (cs : List ActionId) (m : Meaning) → AreValueSets P m.value → All (HasMadeSets P) (cond b (entry cs m ∷ []) [])
made_sets P true cs m h = All-cons (HasMadeSets P) (entry cs m) [] (root_sets P m.value (begun cs) h) (All-nil (HasMadeSets P))
made_sets P false cs m h = All-nil (HasMadeSets P)

entries_sets : (P : List Range → Type 0) (cs : List ActionId) (ms : List Meaning) → All (λ (m : Meaning). AreValueSets P m.value) ms → All (HasMadeSets P) (entries cs ms)
entries_sets P cs [] h = All-nil (HasMadeSets P)
entries_sets P cs (m ∷ ms) h =
    let Q = λ (x : Meaning). AreValueSets P x.value in
    All-append (HasMadeSets P) (made_by cs m) (entries (conditions_by cs m) ms) (made_sets P (is_entry m.sign) cs m (All-head Q m ms h))
    (entries_sets P (conditions_by cs m) ms (All-tail Q m ms h))

any_is_in : (alphabet : Alphabet) → IsInAlphabet alphabet (record { lo = least_key alphabet; hi = greatest_key alphabet })
any_is_in alphabets.Char = refl
any_is_in alphabets.UnsignedChar = refl
any_is_in alphabets.Short = refl
any_is_in alphabets.UnsignedShort = refl
any_is_in alphabets.Int = refl
any_is_in alphabets.UnsignedInt = refl

any_is_set : (alphabet : Alphabet) → IsSet alphabet (any alphabet)
any_is_set alphabet = (tt, All-cons (IsInAlphabet alphabet) _ [] (any_is_in alphabet) (All-nil (IsInAlphabet alphabet)))

-- the ends of an alphabet ascend
pub ends_ascend : (alphabet : Alphabet) → greatest_key alphabet <ℤ least_key alphabet → ⊥
ends_ascend alphabets.Char h = omega (arith, ints, h)
ends_ascend alphabets.UnsignedChar h = omega (arith, ints, h)
ends_ascend alphabets.Short h = omega (arith, ints, h)
ends_ascend alphabets.UnsignedShort h = omega (arith, ints, h)
ends_ascend alphabets.Int h = omega (arith, ints, h)
ends_ascend alphabets.UnsignedInt h = omega (arith, ints, h)

-- the sets of all entries are in order and in the alphabet
pub entries_in_form : (draft : Draft) (es : List rust.Entry) → HasSetsInForm draft → map made_of es ≡ entries [] (meanings draft)
    → All (λ (e : rust.Entry). All (IsSet draft.alphabet) (flat_map sets_in (trees_of (root_of e.root)))) es
entries_in_form draft es h e =
    let P = IsSet draft.alphabet in
    let ms = meanings_sets draft.alphabet P (any_is_set draft.alphabet) [] (All-nil (AreSets P)) draft.definitions h in
    all_map (HasMadeSets P) made_of es (subst (All (HasMadeSets P)) (sym e) (entries_sets P [] (meanings draft) ms))

pub sets_at_end : (draft : Draft) (ds : List Definition) (es : List rust.Entry) → HasSetsInForm draft → ds ≡ draft.definitions → map made_of es ≡ entries [] (meanings_in draft.alphabet ds)
    → All (λ (e : rust.Entry). All (IsSet draft.alphabet) (flat_map sets_in (trees_of (root_of e.root)))) es
sets_at_end draft ds es h s e = entries_in_form draft es h (e ∙ ap (λ z. entries [] (meanings_in draft.alphabet z)) s)

-- ---- patterns

-- it is no scanner without patterns
abbrev HasOne : PlainValue → Type 0
HasOne (p.Expression e) = Unit {0}
HasOne (p.Scanner qs at) = qs ≢ []

some_map : {X Y : Type 0} (f : X → Y) (xs : List X) → xs ≢ [] → map f xs ≢ []
some_map f [] h e = h refl
some_map f (x ∷ xs) h e = absurd (cc)

has_one : (alphabet : Alphabet) (known : List Plain) (v : Value) → HasPattern v → HasOne (value_of alphabet known v)
has_one alphabet known (value.Expression e) h = tt
has_one alphabet known (value.Scanner ps at) h = some_map (pattern_plain alphabet known) ps h

some_walked : (qs : List PlainPattern) (c : Counts) → qs ≢ [] → (walk_patterns qs c).0.patterns ≢ []
some_walked [] c h e = h refl
some_walked (q ∷ qs) c h e = absurd (cc)

root_has : (v : PlainValue) (c : Counts) → HasOne v → HasPatterns (walk_value v c).0.root
root_has (p.Expression e) c h = tt
root_has (p.Scanner qs at) c h = some_walked qs c h

abbrev HasMadeOne : Made → Type 0
HasMadeOne x = HasPatterns x.root

abbrev HasMeantOne : Meaning → Type 0
HasMeantOne m = HasOne m.value

made_one : (b : Bool) (cs : List ActionId) (m : Meaning) → HasMeantOne m → All HasMadeOne (cond b (entry cs m ∷ []) [])
made_one true cs m h = All-cons HasMadeOne (entry cs m) [] (root_has m.value (begun cs) h) (All-nil HasMadeOne)
made_one false cs m h = All-nil HasMadeOne

entries_one : (alphabet : Alphabet) (known : List Plain) (cs : List ActionId) (ds : List Definition) → All (λ (d : Definition). HasPattern d.value) ds → All HasMadeOne (entries cs (meanings_behind alphabet known ds))
entries_one alphabet known cs [] h = All-nil HasMadeOne
entries_one alphabet known cs (d ∷ ds) h =
    let Q = λ (x : Definition). HasPattern x.value in
    let v = value_of alphabet known d.value in
    let m = meaning d v in
    All-append HasMadeOne (made_by cs m) (entries (conditions_by cs m) (meanings_behind alphabet (known ++ as_name v ∷ []) ds))
    (made_one (is_entry m.sign) cs m (has_one alphabet known d.value (All-head Q d ds h))) (entries_one alphabet (known ++ as_name v ∷ []) (conditions_by cs m) ds (All-tail Q d ds h))

-- each entry that is a scanner has a pattern
pub patterns_at_end : (draft : Draft) (ds : List Definition) (es : List rust.Entry) → HasScannersInForm draft → ds ≡ draft.definitions → map made_of es ≡ entries [] (meanings_in draft.alphabet ds)
    → All (λ (e : rust.Entry). HasPatterns (root_of e.root)) es
patterns_at_end draft ds es h s e =
    all_map HasMadeOne made_of es (subst (All HasMadeOne) (sym (e ∙ ap (λ z. entries [] (meanings_in draft.alphabet z)) s)) (entries_one draft.alphabet [] [] draft.definitions h))
