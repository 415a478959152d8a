-- No pattern embeds an action with control statements, an end-of-file or an error action where no fault of names is found.
use Rattle.std.proofs.Common.{◌≡◌, ℕ, zero, suc, ◌+◌, Bool, true, false, cond, List, [], ◌∷◌, ◌++◌, map, length, fold, Option, Some, None, Result, Ok, refl, sym, ap, ◌∙◌, subst, inl, inr, ◌⊎◌, arith, append_assoc}
use Rattle.std.specs.Prelude.{◌&&◌, ◌||◌, not, is_some, if◌then◌else◌, slice_get, get_or, unwrap_or, position, IfSome, ◌≢◌}
use Rattle.std.specs.List.{flat_map, list_any, list_all}
use Rattle.std.specs.Map.{lookup}
use Rattle.std.specs.Option.{option_map}
use Rattle.std.specs.Str.{bytes_eq}
use Rattle.std.proofs.lemmas.Bool.{false≢true}
use Rattle.std.proofs.lemmas.List.{length-append}
use Rattle.std.proofs.lemmas.List.Elements.{All-from_recursion}
use Rattle.std.proofs.lemmas.List.Quantifiers.{position-Some}
use Rattle.std.proofs.lemmas.Slice.Eq.{bytes_eq-Decides}
use Rattle.rl_types.specs.declared.faults.FaultKind.TheVariants.{F6, F13, F14}
use Rattle.rl_types.specs.declared.numbers.ActionId.{ActionId}
use Rattle.rl_types.specs.declared.numbers.Place.{Place}
use Rattle.rl_grammar.specs.declared.read_fault.ReadFault.{ReadFault}
use Rattle.rl_grammar.specs.declared.step.Step.{Step}
use Rattle.rl_grammar.specs.declared.syntax.ActionUse.{ActionUse}
use Rattle.rl_grammar.specs.declared.syntax.ActionUse.TheVariants as action
use Rattle.rl_grammar.specs.declared.syntax.Definition.{Definition as Written}
use Rattle.rl_grammar.specs.declared.syntax.Embedding.{Embedding}
use Rattle.rl_grammar.specs.declared.syntax.Pattern.{Pattern as Listed, out-Pattern}
use Rattle.rl_grammar.specs.declared.syntax.PatternAction.{PatternAction}
use Rattle.rl_grammar.specs.declared.syntax.Scanner.{Scanner, out-Scanner}
use Rattle.rl_grammar.specs.declared.syntax.Statement.{Statement}
use Rattle.rl_grammar.specs.declared.syntax.Statement.TheVariants as statement
use Rattle.rl_grammar.specs.declared.syntax.Union.{Union}
use Rattle.rl_grammar.specs.declared.syntax.Word.{Word}
use Rattle.rl_leaves.specs.BuiltIns.{built_in_leaf}
use Rattle.rl_model.specs.declared.spec.ActionDef.{ActionDef}
use Rattle.rl_model.specs.WellFormed.{IsNumber}
use Rattle.rl_draft.specs.declared.draft.Definition.{Definition}
use Rattle.rl_draft.specs.declared.draft.Pattern.{Pattern}
use Rattle.rl_draft.specs.declared.draft.Value.{Value}
use Rattle.rl_draft.specs.declared.draft.Value.TheVariants as value
use Rattle.rl_draft.specs.declared.expression.Expression.{Expression, out-Expression}
use Rattle.rl_draft.specs.declared.expression.Expression.TheFolds.{fold-roll-Expression, fold-roll-Link}
use Rattle.rl_draft.specs.declared.expression.Expression.TheOpen as level
use Rattle.rl_draft.specs.declared.expression.Expression.TheVariants as made
use Rattle.rl_draft.specs.declared.expression.Expression.TheVariants.{rolls-Leaf, rolls-Name, rolls-Chain, rolls-Repeated, rolls-Negated, rolls-Embedded, outs-Leaf, outs-Name, outs-Chain, outs-Repeated, outs-Negated, outs-Embedded}
use Rattle.rl_draft.specs.declared.expression.Join.{Join}
use Rattle.rl_draft.specs.declared.expression.Leaf.{Leaf}
use Rattle.rl_draft.specs.declared.expression.Link.{Link}
use Rattle.rl_draft.specs.declared.expression.NegationSign.{NegationSign}
use Rattle.rl_draft.specs.declared.expression.Put.{Put}
use Rattle.rl_draft.specs.declared.expression.Repetition.{Repetition}
use Rattle.rl_names.specs.Actions.{anonymous_name}
use Rattle.rl_names.specs.Answers.{and_then, each, along, or_else}
use Rattle.rl_names.specs.Drafts.{names_of, scope_behind, token_read, pattern_read, scanner_read, value_by, value_read, sign_of, definition_read, definition_behind, definitions_by, definitions_behind, definitions_of}
use Rattle.rl_names.specs.Events.{Event, Found, union_events, embedding_events, token_events, in_pattern, calmed, first_name, uses_from, pattern_uses, scanner_uses, uses_by, value_events}
use Rattle.rl_names.specs.Events as event
use Rattle.rl_names.specs.Expressions.{Scope, Level, followed, number_at, numbered, value_used, definition_used, defined_read, action_at, action_named, action_read, put_read, link, union_told}
use Rattle.rl_names.specs.Frames.{is_of}
use Rattle.rl_names.specs.Leaves.{fault_at, is_built_in}
use Rattle.rl_names.specs.Names.{Named, Known, known, known_behind, nothing, same, said_of, steers, brings_statements, embeds_statements, brought_ending, earlier, ending_of, first_ending, brought, defined_by, is_code, names_of as count_of, unless, twice, counted, use_fault, uses_fault, taken_fault, name_fault, definition_fault, statement_fault, step_fault, faults_behind, names_fault}
use Rattle.rl_names.specs.Patterns as fit
use Rattle.rl_names.specs.Patterns.{fits, expression_fits, link_fits, expression_step, link_step, all_fit, value_fits, IsFit, HasFitPatterns, HaveFitPatterns}
use Rattle.rl_names.specs.Places.{union_place}
use Rattle.rl_names.specs.Values.{scanner_of}
use Rattle.rl_names.specs.declared.tables.Brought.{Brought}
use Rattle.rl_names.specs.declared.tables.Ending.{Ending}
use Rattle.rl_names.proofs.EachLaws.{Each, each_front, each_behind, each_of_flat, both_each, ok_then, same_ok, err_or_ok, same_some, some_or_none, or_none, not_refused}
use Rattle.rl_names.proofs.NamesChecked.{fold_behind}
use Rattle.rl_names.proofs.ReadingLaws.{OfRead, of_ok, of_then, union_holds}

-- ---- events that bring nothing that a pattern may not have

abbrev pub IsCalm : Brought → Type 0
IsCalm b = (b.steers ≡ false) × (b.ending ≡ None)

abbrev pub IsCalmEvent : Known → List ℕ → Event → Type 0
IsCalmEvent k machine (event.Embeds a) = steers k machine a ≡ false
IsCalmEvent k machine (event.Name w) = (b : Brought) → said_of (machine, w.text) k.defined ≡ Some b → IsCalm b
IsCalmEvent k machine (event.Ends place) = ⊥
IsCalmEvent k machine _ = Unit {0}

is_not : (b : Bool) (e : ReadFault) → unless (not b) e ≡ None → b ≡ false
is_not true e h = absurd (some_or_none e h)
is_not false e h = refl

neither : (a b : Bool) → (a || b) ≡ false → (a ≡ false) × (b ≡ false)
neither true b h = absurd (false≢true (sym h))
neither false b h = (refl, h)

none_mapped : {A B : Type 0} (f : A → B) (o : Option A) → option_map f o ≡ None → o ≡ None
none_mapped f None h = refl
none_mapped f (Some x) h = absurd (some_or_none (f x) h)

-- what a name brings, told of by its two tests
calm_by : (o : Option Brought) → brings_statements o ≡ false → brought_ending o ≡ None → (b : Brought) → o ≡ Some b → IsCalm b
calm_by None s e b is = absurd (some_or_none b (sym is))
calm_by (Some c) s e b is = subst IsCalm (same_some c b is) (s, e)

module _ (k : Known) (machine : List ℕ) where
  calm_event : (e : Event) → embeds_statements k machine e ≡ false → ending_of k machine e ≡ None → IsCalmEvent k machine e
  calm_event (event.Embeds a) s e = s
  calm_event (event.Name w) s e = calm_by (said_of (machine, w.text) k.defined) s e
  calm_event (event.Ends place) s e = some_or_none _ e
  calm_event (event.Leaf o) s e = tt
  calm_event (event.Action w) s e = tt
  calm_event (event.Code w) s e = tt
  calm_event (event.Priority w) s e = tt
  calm_event (event.Quiet place a) s e = tt
  calm_event (event.Barred place) s e = tt
  calm_event (event.Taken place w) s e = tt

  neither_ends : (a b : Option Ending) → earlier a b ≡ None → (a ≡ None) × (b ≡ None)
  neither_ends None b h = (refl, h)
  neither_ends (Some a) None h = absurd (some_or_none a h)
  neither_ends (Some a) (Some b) h = absurd (some_or_none _ h)

  no_endings : (found : Option Ending) (es : Found) → fold (λ x e. earlier x (ending_of k machine e)) found es ≡ None → (found ≡ None) × Each (λ e. ending_of k machine e ≡ None) es
  no_endings found [] h = (h, tt)
  no_endings found (e ∷ es) h =
      let rest = no_endings (earlier found (ending_of k machine e)) es h in
      let both = neither_ends found (ending_of k machine e) rest.0 in
      (both.0, (both.1, rest.1))

  no_statements : (es : Found) → list_any (embeds_statements k machine) es ≡ false → Each (λ e. embeds_statements k machine e ≡ false) es
  no_statements [] h = tt
  no_statements (e ∷ es) h = let both = neither (embeds_statements k machine e) (list_any (embeds_statements k machine) es) h in (both.0, no_statements es both.1)

  -- an expression that brings nothing uses nothing of the kind
  pub calm_events : (es : Found) → list_any (embeds_statements k machine) es ≡ false → first_ending k machine es ≡ None → Each (IsCalmEvent k machine) es
  calm_events es s e = both_each (λ x. embeds_statements k machine x ≡ false) (λ x. ending_of k machine x ≡ None) (IsCalmEvent k machine) es calm_event (no_statements es s) (no_endings None es e).1

  -- ---- events of a pattern in which no fault is found

  abbrev IsGood : Event → Type 0
  IsGood e = (n : ℕ) × (use_fault k machine n e ≡ None)

  pub good_uses : (n : ℕ) (es : Found) → uses_fault k machine n es ≡ None → Each IsGood es
  good_uses n [] h = tt
  good_uses n (e ∷ es) h = let p = or_none (use_fault k machine n e) (uses_fault k machine (n + is_code e) es) h in ((n, p.0), good_uses (n + is_code e) es p.1)

  calm_taken : (place : Place) (o : Option Brought) → taken_fault place o ≡ None → (b : Brought) → o ≡ Some b → IsCalm b
  calm_taken place o h =
      let p = or_none (option_map (λ (x : Ending). fault_at F14 x.place) (brought_ending o)) (unless (not (brings_statements o)) (fault_at F13 place)) h in
      calm_by o (is_not (brings_statements o) (fault_at F13 place) p.1) (none_mapped (λ (x : Ending). fault_at F14 x.place) (brought_ending o) p.0)

  module _ (K : Event → Type 0) where
    abbrev IsUsed : Event → Type 0
    IsUsed e = K e × IsCalmEvent k machine e

    pattern_event : (place : Place) (e : Event) → Each IsGood (calmed place e) → Each (λ x. IsGood x × K x) (in_pattern place e) → IsUsed e
    pattern_event place (event.Embeds a) c i = (i.0.1, is_not (steers k machine a) (fault_at F13 place) c.0.1)
    pattern_event place (event.Name w) c i = (i.0.1, calm_taken place (said_of (machine, w.text) k.defined) i.1.0.0.1)
    pattern_event place (event.Ends at) c i = absurd (some_or_none (fault_at F14 at) i.0.0.1)
    pattern_event place (event.Leaf o) c i = (i.0.1, tt)
    pattern_event place (event.Action w) c i = (i.0.1, tt)
    pattern_event place (event.Code w) c i = (i.0.1, tt)
    pattern_event place (event.Priority w) c i = (i.0.1, tt)
    pattern_event place (event.Quiet at a) c i = (i.0.1, tt)
    pattern_event place (event.Barred at) c i = (i.0.1, tt)
    pattern_event place (event.Taken at w) c i = (i.0.1, tt)

    pattern_events : (place : Place) (es tokens : Found) → Each (λ x. IsGood x × K x) (uses_from place es ++ tokens) → Each IsUsed es
    pattern_events place es tokens h =
        let own = each_front (λ x. IsGood x × K x) (uses_from place es) tokens h in
        let rest = each_behind (λ x. IsGood x × K x) (first_name place es) (flat_map (calmed place) es ++ flat_map (in_pattern place) es) own in
        let asked = each_of_flat (λ x. IsGood x × K x) (calmed place) es (each_front (λ x. IsGood x × K x) (flat_map (calmed place) es) (flat_map (in_pattern place) es) rest) in
        let inside = each_of_flat (λ x. IsGood x × K x) (in_pattern place) es (each_behind (λ x. IsGood x × K x) (flat_map (calmed place) es) (flat_map (in_pattern place) es) rest) in
        both_each (λ e. Each (λ x. IsGood x × K x) (calmed place e)) (λ e. Each (λ x. IsGood x × K x) (in_pattern place e)) IsUsed es
        (λ e c i. pattern_event place e (both_each (λ x. IsGood x × K x) (λ x. Unit {0}) IsGood (calmed place e) (λ x g u. g.0) c (always (calmed place e))) i) asked inside
      where
        always : (xs : Found) → Each (λ x. Unit {0}) xs
        always [] = tt
        always (x ∷ xs) = (tt, always xs)

-- ---- expressions

and_true : (a b : Bool) → a ≡ true → b ≡ true → (a && b) ≡ true
and_true true b h g = g
and_true false b h g = absurd (false≢true h)

module _ (actions : List ActionDef) (flags : List Bool) where
  abbrev IsPointed : Level → Type 0
  IsPointed (level.Leaf l place) = Unit {0}
  IsPointed (level.Name i) = slice_get flags i ≡ Some true
  IsPointed (level.Chain first rest place) = Unit {0}
  IsPointed (level.Repeated inner repetitions place) = Unit {0}
  IsPointed (level.Negated negations inner) = Unit {0}
  IsPointed (level.Embedded inner puts place) = Unit {0}

  -- it fits, and where it is a name alone, it is that of a definition that fits
  abbrev pub Fits : Expression → Type 0
  Fits e = (expression_fits actions flags e ≡ true) × IsPointed (out-Expression e)

  abbrev FitsLink : Link → Type 0
  FitsLink l = link_fits actions flags l ≡ true

  abbrev FitsPut : Put → Type 0
  FitsPut q = fits actions q ≡ true

  fits_leaf : (l : Leaf) (at : Place) → Fits (made.Leaf l at)
  fits_leaf l at =
      (ap (expression_fits actions flags) (sym (rolls-Leaf l at)) ∙ fold-roll-Expression Bool Bool (expression_step actions flags) link_step (level.Leaf l at), subst IsPointed (sym (outs-Leaf l at)) tt)

  fits_name : (i : ℕ) → slice_get flags i ≡ Some true → Fits (made.Name i)
  fits_name i h =
      (ap (expression_fits actions flags) (sym (rolls-Name i)) ∙ (fold-roll-Expression Bool Bool (expression_step actions flags) link_step (level.Name i) ∙ ap (λ z. unwrap_or z true) h), subst IsPointed (sym (outs-Name i)) h)

  fits_negated : (ns : List NegationSign) (e : Expression) → Fits e → Fits (made.Negated ns e)
  fits_negated ns e h =
      (ap (expression_fits actions flags) (sym (rolls-Negated ns e)) ∙ (fold-roll-Expression Bool Bool (expression_step actions flags) link_step (level.Negated ns e) ∙ h.0), subst IsPointed (sym (outs-Negated ns e)) tt)

  fits_repeated : (rs : List Repetition) (at : Place) (e : Expression) → Fits e → Fits (made.Repeated e rs at)
  fits_repeated rs at e h =
      (ap (expression_fits actions flags) (sym (rolls-Repeated e rs at)) ∙ (fold-roll-Expression Bool Bool (expression_step actions flags) link_step (level.Repeated e rs at) ∙ h.0), subst IsPointed (sym (outs-Repeated e rs at)) tt)

  all_puts : (ps : List Put) → Each FitsPut ps → list_all (fits actions) ps ≡ true
  all_puts [] h = refl
  all_puts (p ∷ ps) h = and_true (fits actions p) (list_all (fits actions) ps) h.0 (all_puts ps h.1)

  fits_puts : (ps : List Put) (at : Place) (e : Expression) → Fits e → Each FitsPut ps → Fits (made.Embedded e ps at)
  fits_puts ps at e h g =
      (ap (expression_fits actions flags) (sym (rolls-Embedded e ps at)) ∙ (fold-roll-Expression Bool Bool (expression_step actions flags) link_step (level.Embedded e ps at) ∙ and_true (expression_fits actions flags e) (list_all (fits actions) ps) h.0 (all_puts ps g)), subst IsPointed (sym (outs-Embedded e ps at)) tt)

  all_links : (ls : List Link) → Each FitsLink ls → all_fit (map (link_fits actions flags) ls) ≡ true
  all_links [] h = refl
  all_links (l ∷ ls) h = and_true (link_fits actions flags l) (all_fit (map (link_fits actions flags) ls)) h.0 (all_links ls h.1)

  fits_chain : (ls : List Link) (at : Place) (e : Expression) → Fits e → Each FitsLink ls → Fits (made.Chain e ls at)
  fits_chain ls at e h g =
      (ap (expression_fits actions flags) (sym (rolls-Chain e ls at)) ∙ (fold-roll-Expression Bool Bool (expression_step actions flags) link_step (level.Chain e ls at) ∙ and_true (expression_fits actions flags e) (all_fit (map (link_fits actions flags) ls)) h.0 (all_links ls g)), subst IsPointed (sym (outs-Chain e ls at)) tt)

  fits_link : (j : Join) (e : Expression) → Fits e → FitsLink (link j e)
  fits_link j e h = fold-roll-Link Bool Bool (expression_step actions flags) link_step (record { join = j; operand = e }) ∙ h.0

-- ---- definitions that stand before

slice_more : {X : Type 0} (xs ys : List X) (i : ℕ) (x : X) → slice_get xs i ≡ Some x → slice_get (xs ++ ys) i ≡ Some x
slice_more [] ys i x h = absurd (cc)
slice_more (z ∷ xs) ys zero x h = h
slice_more (z ∷ xs) ys (suc i) x h = slice_more xs ys i x h

slice_last : {X : Type 0} (xs : List X) (y : X) → slice_get (xs ++ y ∷ []) (length xs) ≡ Some y
slice_last [] y = refl
slice_last (x ∷ xs) y = slice_last xs y

one_of : {X : Type 0} (xs : List X) (y : X) (i : ℕ) (x : X) → slice_get (xs ++ y ∷ []) i ≡ Some x → (slice_get xs i ≡ Some x) ⊎ ((i ≡ length xs) × (y ≡ x))
one_of [] y zero x h = inr (refl, same_some y x h)
one_of [] y (suc i) x h = absurd (cc)
one_of (z ∷ xs) y zero x h = inl h
one_of (z ∷ xs) y (suc i) x h = elim (one_of xs y i x h) [
  | inl g ↦ inl g
  | inr g ↦ inr (ap (λ n. suc n) g.0, g.1)
]

found_front : {A : Type 0} (c : Bool) (v : A) (r s : Option A) (b : A) → (r ≡ Some b → s ≡ Some b) → cond c (Some v) r ≡ Some b → cond c (Some v) s ≡ Some b
found_front true v r s b f h = h
found_front false v r s b f h = f h

lookup_front : {A : Type 0} (f : Named → Bool) (xs ys : List (Named × A)) (b : A) → lookup f xs ≡ Some b → lookup f (xs ++ ys) ≡ Some b
lookup_front f [] ys b h = absurd (some_or_none b (sym h))
lookup_front f (x ∷ xs) ys b h = found_front (f x.0) x.1 (lookup f xs) (lookup f (xs ++ ys)) b (lookup_front f xs ys b) h

found_last : {A : Type 0} (c : Bool) (v : A) (r s : Option A) (b : A) → (r ≡ None → s ≡ Some b) → cond c (Some v) r ≡ None → cond c (Some v) s ≡ Some b
found_last true v r s b f h = absurd (some_or_none v h)
found_last false v r s b f h = f h

lookup_last : {A : Type 0} (f : Named → Bool) (xs : List (Named × A)) (p : Named) (b : A) → lookup f xs ≡ None → f p ≡ true → lookup f (xs ++ (p, b) ∷ []) ≡ Some b
lookup_last f [] p b n h = ap (λ z. cond z (Some b) None) h
lookup_last f (x ∷ xs) p b n h = found_last (f x.0) x.1 (lookup f xs) (lookup f (xs ++ (p, b) ∷ [])) b (λ m. lookup_last f xs p b m h) n

same_text : (xs : List ℕ) → bytes_eq xs xs ≡ true
same_text xs = (bytes_eq-Decides xs xs).1 refl

same_self : (p : Named) → same p p ≡ true
same_self p = and_true (bytes_eq p.0 p.0) (bytes_eq p.1 p.1) (same_text p.0) (same_text p.1)

name_at : (ds : List Definition) (i : ℕ) (d : Definition) → slice_get ds i ≡ Some d → get_or (names_of ds) i [] ≡ d.name
name_at [] i d h = absurd (cc)
name_at (x ∷ ds) zero d h = ap (λ (y : Definition). y.name) (same_some x d h)
name_at (x ∷ ds) (suc i) d h = name_at ds i d h

number_found : (place : Place) (o : Option ℕ) (i : ℕ) → number_at place o ≡ Ok i → o ≡ Some i
number_found place None i e = absurd (err_or_ok _ i e)
number_found place (Some j) i e = ap (λ z. Some z) (same_ok j i e)

same_expression : (a b : Expression) → value.Expression a ≡ value.Expression b → a ≡ b
same_expression a b h = cc

no_expression : {B : Type 0} (ps : List Pattern) (at : Place) (b : Expression) → value.Scanner ps at ≡ value.Expression b → B
no_expression ps at b h = absurd (cc)

some_pattern : (p : Pattern) (ps : List Pattern) → p ∷ ps ≡ [] → ⊥
some_pattern p ps h = cc

-- of each definition it is known what its name brings, and where that is nothing, what its name stands for fits
abbrev Agrees : List ℕ → List (Named × Brought) → List Definition → List Bool → Type 0
Agrees machine known ds flags = (i : ℕ) (d : Definition) → slice_get ds i ≡ Some d
    → (b : Brought) × (said_of (machine, d.name) known ≡ Some b) × (IsCalm b → (e : Expression) → d.value ≡ value.Expression e → slice_get flags (followed i (out-Expression e)) ≡ Some true)

agrees_more : (machine : List ℕ) (known more : List (Named × Brought)) (ds : List Definition) (flags : List Bool) → Agrees machine known ds flags → Agrees machine (known ++ more) ds flags
agrees_more machine known more ds flags h i d at = let a = h i d at in (a.0, lookup_front (same (machine, d.name)) known more a.0 a.1, a.2)

-- ---- values

-- its patterns fit, and its expression does where its name brings nothing
abbrev IsValueFit : List ActionDef → List ℕ → List Bool → Known → Found → Value → Type 0
IsValueFit actions machine flags known es v = HasFitPatterns actions flags v
    × (list_any (embeds_statements known machine) es ≡ false → first_ending known machine es ≡ None → (x : Expression) → v ≡ value.Expression x → Fits actions flags x)

module _ (actions : List ActionDef) (machine : List ℕ) (flags : List Bool) (known : Known) (k : Scope) (names : k.names ≡ names_of k.earlier) (agrees : Agrees machine known.defined k.earlier flags)
    (own : length k.actions ≡ length actions) (K : Event → Type 0) (puts : (m : Embedding) → Each (IsUsed known machine K) (embedding_events m) → OfRead (FitsPut actions flags) (put_read k m)) where
  -- ---- names

  valued : (place : Place) (i : ℕ) (v : Value) (e : Expression) → value_used place i v ≡ Ok e → ((x : Expression) → v ≡ value.Expression x → slice_get flags (followed i (out-Expression x)) ≡ Some true) → Fits actions flags e
  valued place i (value.Expression x) e is h = subst (Fits actions flags) (same_ok (made.Name (followed i (out-Expression x))) e is) (fits_name actions flags (followed i (out-Expression x)) (h x refl))
  valued place i (value.Scanner ps at) e is h = absurd (err_or_ok _ e is)

  used_at : (w : Word) (i : ℕ) (o : Option Definition) (e : Expression) → slice_get k.earlier i ≡ o → bytes_eq w.text (get_or k.names i []) ≡ true → definition_used w.place i o ≡ Ok e
      → ((b : Brought) → said_of (machine, w.text) known.defined ≡ Some b → IsCalm b) → Fits actions flags e
  used_at w i None e at is read calm = absurd (err_or_ok _ e read)
  used_at w i (Some d) e at is read calm =
      let a = agrees i d at in
      let name : w.text ≡ d.name = (bytes_eq-Decides w.text (get_or k.names i [])).0 is ∙ (ap (λ z. get_or z i []) names ∙ name_at k.earlier i d at) in
      let said : said_of (machine, w.text) known.defined ≡ Some a.0 = ap (λ z. said_of (machine, z) known.defined) name ∙ a.1 in
      valued w.place i d.value e read (a.2 (calm a.0 said))

  name_fits : (w : Word) (e : Expression) → ((b : Brought) → said_of (machine, w.text) known.defined ≡ Some b → IsCalm b) → defined_read k w ≡ Ok e → Fits actions flags e
  name_fits w e calm read =
      let i = ok_then (numbered w.place w.text k.names) (λ i. definition_used w.place i (slice_get k.earlier i)) e read in
      let found = number_found w.place (position (bytes_eq w.text) k.names) i.0 i.1 in
      let at = position-Some (bytes_eq w.text) k.names i.0 [] found in
      used_at w i.0 (slice_get k.earlier i.0) e refl at.1 i.2 calm

  union_fits : (u : Union) → Each (IsUsed known machine K) (union_events u) → OfRead (Fits actions flags) (union_told k u).read
  union_fits u h =
      union_holds k (Fits actions flags) (FitsLink actions flags) (FitsPut actions flags) (IsUsed known machine K)
      (λ o l at b e. fits_leaf actions flags l at) (λ b at. fits_leaf actions flags (built_in_leaf k.alphabet b) at) (λ w e b read. name_fits w e b.1 read)
      (fits_negated actions flags) (fits_repeated actions flags) (fits_puts actions flags) (fits_chain actions flags) (fits_link actions flags) puts u h

  -- ---- patterns

  abbrev IsOne : ActionId → Type 0
  IsOne n = IsNumber (length actions) n.0

  abbrev IsToken : Option ActionId → Type 0
  IsToken t = IfSome t IsOne

  one_named : (place : Place) (name : List ℕ) → OfRead IsOne (action_named k place name)
  one_named place name a e =
      let i = ok_then (numbered place name k.actions) action_at a e in
      let found = number_found place (position (bytes_eq name) k.actions) i.0 i.1 in
      let within = (position-Some (bytes_eq name) k.actions i.0 [] found).0 in
      let one : IsNumber (length actions) (i.0 + 1) = (omega arith, omega (arith, within, own)) in
      subst IsOne (same_ok (record { 0 = i.0 + 1 }) a i.2) one

  one_read : (a : ActionUse) → OfRead IsOne (action_read k a)
  one_read (action.Name w) = one_named w.place w.text
  one_read (action.Group opening w closing) = one_named w.place w.text
  one_read (action.Code w) = one_named w.place (anonymous_name w.place)

  token_fits : (o : Option PatternAction) → OfRead IsToken (token_read k o)
  token_fits None = of_ok IsToken None tt
  token_fits (Some a) = of_then IsOne IsToken (action_read k a.action) (λ n. Ok (Some n)) (one_read a.action) (λ n h. of_ok IsToken (Some n) h)

  abbrev IsRight : Event → Type 0
  IsRight e = IsGood known machine e × K e

  pattern_fits : (p : Listed) → Each IsRight (pattern_uses p) → OfRead (IsFit actions flags) (pattern_read k p)
  pattern_fits p h =
      let told = union_told k (out-Pattern p).value in
      let used = pattern_events known machine K (union_place (out-Pattern p).value) (union_events (out-Pattern p).value) (token_events (out-Pattern p).action) h in
      of_then (Fits actions flags) (IsFit actions flags) told.read (λ e. and_then (token_read k (out-Pattern p).action) (λ t. Ok (record { expression = e; token = t; place = told.place }))) (union_fits (out-Pattern p).value used)
      (λ e f. of_then IsToken (IsFit actions flags) (token_read k (out-Pattern p).action) (λ t. Ok (record { expression = e; token = t; place = told.place })) (token_fits (out-Pattern p).action)
      (λ t g. of_ok (IsFit actions flags) (record { expression = e; token = t; place = told.place }) (record { fits = f.0; token = g })))

  patterns_fit : (xs : List Listed) → Each (λ x. Each IsRight (pattern_uses x)) xs → OfRead (Each (IsFit actions flags)) (each (pattern_read k) xs)
  patterns_fit [] h = of_ok (Each (IsFit actions flags)) [] tt
  patterns_fit (x ∷ xs) h =
      of_then (IsFit actions flags) (Each (IsFit actions flags)) (pattern_read k x) (λ y. and_then (each (pattern_read k) xs) (λ ys. Ok (y ∷ ys))) (pattern_fits x h.0)
      (λ y f. of_then (Each (IsFit actions flags)) (Each (IsFit actions flags)) (each (pattern_read k) xs) (λ ys. Ok (y ∷ ys)) (patterns_fit xs h.1)
      (λ ys g. of_ok (Each (IsFit actions flags)) (y ∷ ys) (f, g)))

  scanner_fits : (s : Scanner) (es : Found) → Each IsRight (scanner_uses s) → OfRead (IsValueFit actions machine flags known es) (scanner_read k s)
  scanner_fits s es h =
      of_then (IsFit actions flags) (IsValueFit actions machine flags known es) (pattern_read k (out-Scanner s).first) (λ p. and_then (each (pattern_read k) (out-Scanner s).rest) (λ ps. Ok (value.Scanner (p ∷ ps) (out-Scanner s).opening)))
      (pattern_fits (out-Scanner s).first (each_front IsRight (pattern_uses (out-Scanner s).first) (flat_map pattern_uses (out-Scanner s).rest) h))
      (λ p f. of_then (Each (IsFit actions flags)) (IsValueFit actions machine flags known es) (each (pattern_read k) (out-Scanner s).rest) (λ ps. Ok (value.Scanner (p ∷ ps) (out-Scanner s).opening))
      (patterns_fit (out-Scanner s).rest (each_of_flat IsRight pattern_uses (out-Scanner s).rest (each_behind IsRight (pattern_uses (out-Scanner s).first) (flat_map pattern_uses (out-Scanner s).rest) h)))
      (λ ps g. of_ok (IsValueFit actions machine flags known es) (value.Scanner (p ∷ ps) (out-Scanner s).opening)
      ((some_pattern p ps, All-from_recursion (IsFit actions flags) (p ∷ ps) (f, g)), (λ t n x is. no_expression (p ∷ ps) (out-Scanner s).opening x is))))

  pub value_fit : (u : Union) (o : Option Scanner) → Each IsRight (uses_by u o) → OfRead (IsValueFit actions machine flags known (uses_by u o)) (value_by k u o)
  value_fit u (Some s) h = scanner_fits s (scanner_uses s) h
  value_fit u None h = λ v read.
      let e = ok_then (union_told k u).read (λ x. Ok (value.Expression x)) v read in
      subst (IsValueFit actions machine flags known (union_events u)) (same_ok (value.Expression e.0) v e.2) (
        tt,
        (λ t n x is. subst (Fits actions flags) (same_expression e.0 x is)
            (union_fits u (both_each IsRight (IsCalmEvent known machine) (IsUsed known machine K) (union_events u) (λ y g c. (g.1, c)) h (calm_events known machine (union_events u) t n)) e.0 e.1)),
      )

-- ---- all definitions

module _ (actions : List ActionDef) where
  abbrev flags_of : List Definition → List Bool
  flags_of ds = fold (fit.known_behind actions) [] ds

  flags_more : (ds : List Definition) (d : Definition) → flags_of (ds ++ d ∷ []) ≡ flags_of ds ++ value_fits actions (flags_of ds) d.value ∷ []
  flags_more ds d = fold_behind (fit.known_behind actions) [] ds d

  have_more : (flags : List Bool) (ds : List Definition) (d : Definition) → HaveFitPatterns actions flags ds → HasFitPatterns actions (fold (fit.known_behind actions) flags ds) d.value
      → HaveFitPatterns actions flags (ds ++ d ∷ [])
  have_more flags [] d h g = (g, tt)
  have_more flags (x ∷ ds) d h g = (h.0, have_more (fit.known_behind actions flags x) ds d h.1 g)

  -- what is known of definitions that are read so far
  abbrev AreRead : List ℕ → List (Named × Brought) → List Definition → Type 0
  AreRead machine known ds = Agrees machine known ds (flags_of ds) × (length (flags_of ds) ≡ length ds) × HaveFitPatterns actions [] ds

  -- ---- one more

  flag_at : (flags : List Bool) (b : Bool) (n i : ℕ) → length flags ≡ n → b ≡ true → i ≡ n → slice_get (flags ++ b ∷ []) i ≡ Some true
  flag_at flags b n i long is at = ap (slice_get (flags ++ b ∷ [])) (at ∙ sym long) ∙ (slice_last flags b ∙ ap (λ z. Some z) is)

  -- a name alone is followed
  by_level : (flags : List Bool) (b : Bool) (n : ℕ) (l : Level) → length flags ≡ n → b ≡ true → IsPointed actions flags l → slice_get (flags ++ b ∷ []) (followed n l) ≡ Some true
  by_level flags b n (level.Leaf l place) long is h = flag_at flags b n n long is refl
  by_level flags b n (level.Name i) long is h = slice_more flags (b ∷ []) i true h
  by_level flags b n (level.Chain first rest place) long is h = flag_at flags b n n long is refl
  by_level flags b n (level.Repeated inner repetitions place) long is h = flag_at flags b n n long is refl
  by_level flags b n (level.Negated negations inner) long is h = flag_at flags b n n long is refl
  by_level flags b n (level.Embedded inner puts place) long is h = flag_at flags b n n long is refl

  by_value : (flags : List Bool) (n : ℕ) (v : Value) (e : Expression) → v ≡ value.Expression e → length flags ≡ n → Fits actions flags e
      → slice_get (flags ++ value_fits actions flags v ∷ []) (followed n (out-Expression e)) ≡ Some true
  by_value flags n v e is long h = by_level flags (value_fits actions flags v) n (out-Expression e) long (ap (value_fits actions flags) is ∙ h.0) h.1

  module _ (machine : List ℕ) (known : Known) (d : Written) (es : Found) (ds : List Definition) (x : Definition) (named : x.name ≡ d.name.text)
      (fresh : said_of (machine, d.name.text) known.defined ≡ None) (right : IsValueFit actions machine (flags_of ds) known es x.value) (old : AreRead machine known.defined ds) where
    abbrev more : List (Named × Brought)
    more = ((machine, d.name.text), brought known machine d es) ∷ []

    abbrev longer : List Bool
    longer = flags_of ds ++ value_fits actions (flags_of ds) x.value ∷ []

    agree : Agrees machine (known.defined ++ more) (ds ++ x ∷ []) longer
    agree i y at = elim (one_of ds x i y at) [
      | inl g ↦
          let a = old.0 i y g in (
            a.0,
            lookup_front (same (machine, y.name)) known.defined more a.0 a.1,
            (λ calm e is. slice_more (flags_of ds) (value_fits actions (flags_of ds) x.value ∷ []) (followed i (out-Expression e)) true (a.2 calm e is)),
          )
      | inr g ↦
          let name : y.name ≡ d.name.text = sym (ap (λ (z : Definition). z.name) g.1) ∙ named in (
            brought known machine d es,
            subst (λ z. said_of (machine, z) (known.defined ++ more) ≡ Some (brought known machine d es)) (sym name)
                (lookup_last (same (machine, d.name.text)) known.defined (machine, d.name.text) (brought known machine d es) fresh (same_self (machine, d.name.text))),
            (λ calm e is.
                let own : x.value ≡ value.Expression e = ap (λ (z : Definition). z.value) g.1 ∙ is in
                subst (λ z. slice_get longer (followed z (out-Expression e)) ≡ Some true) (sym g.0)
                (by_value (flags_of ds) (length ds) x.value e own old.1 (right.1 calm.0 calm.1 e own))),
          )
    ]

    pub read_more : AreRead machine (known.defined ++ more) (ds ++ x ∷ [])
    read_more = (
      subst (Agrees machine (known.defined ++ more) (ds ++ x ∷ [])) (sym (flags_more ds x)) agree,
      ap length (flags_more ds x) ∙ (one_longer (flags_of ds) (value_fits actions (flags_of ds) x.value) ∙ (ap (λ n. n + 1) old.1 ∙ sym (one_longer ds x))),
      have_more [] ds x old.2 right.0,
    )
      where
        one_longer : {X : Type 0} (xs : List X) (y : X) → length (xs ++ y ∷ []) ≡ length xs + 1
        one_longer xs y = length-append xs (y ∷ [])

-- ---- all steps

module _ (actions : List ActionDef) (machine : List ℕ) (k0 : Scope) (own : length k0.actions ≡ length actions) (steps : List Step) (K : List Step → Event → Type 0)
    (events : (before rest : List Step) (s : Step) (d : Written) → before ++ (s ∷ rest) ≡ steps → is_of machine s ≡ true → s.statement ≡ statement.Definition d → Each (K before) (value_events d.value))
    (puts : (before rest : List Step) (s : Step) → before ++ (s ∷ rest) ≡ steps → (names : List (List ℕ)) (earlier : List Definition) (owner : List ℕ) (m : Embedding)
    → Each (λ e. K before e × IsCalmEvent (known before) machine e) (embedding_events m) → OfRead (λ q. fits actions q ≡ true) (put_read (scope_behind k0 names earlier owner) m)) where
  module _ (before rest : List Step) (s : Step) (is : before ++ (s ∷ rest) ≡ steps) where
    new_name : (d : Written) → name_fault (known before) machine d.name ≡ None → said_of (machine, d.name.text) (known before).defined ≡ None
    new_name d h = absent (is_built_in d.name.text) (said_of (machine, d.name.text) (known before).defined) h
      where
        absent : (b : Bool) (o : Option Brought) → unless (not (b || is_some o)) (twice d.name.place) ≡ None → o ≡ None
        absent b None h = refl
        absent true (Some x) h = absurd (some_or_none (twice d.name.place) h)
        absent false (Some x) h = absurd (some_or_none (twice d.name.place) h)

    definition_more : (d : Written) (n : ℕ) (ds all : List Definition) → is_of machine s ≡ true → s.statement ≡ statement.Definition d → definition_fault (known before) machine n d ≡ None
        → definition_behind k0 ds d ≡ Ok all → AreRead actions machine (known before).defined ds → AreRead actions machine ((known before).defined ++ defined_by (known before) machine (statement.Definition d)) all
    definition_more d n ds all of said fault read old =
        let f = or_none (name_fault (known before) machine d.name) (or_else (counted n d.name.place) (uses_fault (known before) machine (n + 1) (value_events d.value))) fault in
        let g = or_none (counted n d.name.place) (uses_fault (known before) machine (n + 1) (value_events d.value)) f.1 in
        let k = scope_behind k0 (names_of ds) ds d.name.text in
        let one = not_refused (list_any (bytes_eq d.name.text) (names_of ds)) (fault_at F6 d.name.place) (and_then (definition_read k d) (λ x. Ok (ds ++ x ∷ []))) all read in
        let x = ok_then (definition_read k d) (λ x. Ok (ds ++ x ∷ [])) all one in
        let v = ok_then (value_read k d.value) (λ v. Ok (record { name = d.name.text; place = d.name.place; sign = sign_of d.sign; value = v })) x.0 x.1 in
        let is_x = same_ok (record { name = d.name.text; place = d.name.place; sign = sign_of d.sign; value = v.0 }) x.0 v.2 in
        let uses = both_each (IsGood (known before) machine) (K before) (λ e. IsGood (known before) machine e × K before e) (value_events d.value) (λ e p q. (p, q)) (good_uses (known before) machine (n + 1) (value_events d.value) g.1) (events before rest s d is of said) in
        let right = value_fit actions machine (flags_of actions ds) (known before) k refl old.0 own (K before) (puts before rest s is (names_of ds) ds d.name.text) d.value (scanner_of d.value) uses v.0 v.1 in
        subst (AreRead actions machine ((known before).defined ++ defined_by (known before) machine (statement.Definition d))) (same_ok (ds ++ x.0 ∷ []) all x.2)
        (read_more actions machine (known before) d (value_events d.value) ds x.0 (sym (ap (λ (y : Definition). y.name) is_x)) (new_name d f.0)
        (subst (λ (y : Definition). IsValueFit actions machine (flags_of actions ds) (known before) (value_events d.value) y.value) is_x right) old)

    nothing_more : (t : Statement) (ds all : List Definition) (other : List ℕ) → ◌≡◌ {A = Result (List Definition) ReadFault} (Ok ds) (Ok all) → AreRead actions machine (known before).defined ds
        → AreRead actions machine ((known before).defined ++ defined_by (known before) other t) all
    nothing_more t ds all other read old =
        subst (AreRead actions machine ((known before).defined ++ defined_by (known before) other t)) (same_ok ds all read)
        (agrees_more machine (known before).defined (defined_by (known before) other t) ds (flags_of actions ds) old.0, old.1, old.2)

    by_statement : (b : Bool) (t : Statement) (n : ℕ) (ds all : List Definition) → is_of machine s ≡ b → s.statement ≡ t → statement_fault (known before) s.machine n t ≡ None
        → (if b then definitions_by k0 ds t else Ok ds) ≡ Ok all → AreRead actions machine (known before).defined ds → AreRead actions machine ((known before).defined ++ defined_by (known before) s.machine t) all
    by_statement false t n ds all of said fault read old = nothing_more t ds all s.machine read old
    by_statement true (statement.Definition d) n ds all of said fault read old =
        let same : machine ≡ s.machine = (bytes_eq-Decides machine s.machine).0 of in
        subst (λ m. AreRead actions machine ((known before).defined ++ defined_by (known before) m (statement.Definition d)) all) same
        (definition_more d n ds all of said (subst (λ m. definition_fault (known before) m n d ≡ None) (sym same) fault) read old)
    by_statement true (statement.Machine m) n ds all of said fault read old = nothing_more (statement.Machine m) ds all s.machine read old
    by_statement true (statement.Include m) n ds all of said fault read old = nothing_more (statement.Include m) ds all s.machine read old
    by_statement true (statement.Alphtype m) n ds all of said fault read old = nothing_more (statement.Alphtype m) ds all s.machine read old
    by_statement true (statement.Access m) n ds all of said fault read old = nothing_more (statement.Access m) ds all s.machine read old
    by_statement true (statement.Variable m) n ds all of said fault read old = nothing_more (statement.Variable m) ds all s.machine read old
    by_statement true (statement.Write m) n ds all of said fault read old = nothing_more (statement.Write m) ds all s.machine read old
    by_statement true (statement.Action m) n ds all of said fault read old = nothing_more (statement.Action m) ds all s.machine read old

    step_more : (ds all : List Definition) → step_fault before s ≡ None → definitions_behind k0 machine ds s ≡ Ok all → AreRead actions machine (known before).defined ds → AreRead actions machine (known (before ++ s ∷ [])).defined all
    step_more ds all fault read old =
        subst (λ (z : Known). AreRead actions machine z.defined all) (sym (fold_behind known_behind nothing before s))
        (by_statement (is_of machine s) s.statement (count_of s.machine before) ds all refl refl fault read old)

  all_more : (before ss : List Step) (ds all : List Definition) → before ++ ss ≡ steps → faults_behind before ss ≡ None → along (definitions_behind k0 machine) ds ss ≡ Ok all → AreRead actions machine (known before).defined ds
      → HaveFitPatterns actions [] all
  all_more before [] ds all is fault read old = subst (HaveFitPatterns actions []) (same_ok ds all read) old.2
  all_more before (s ∷ ss) ds all is fault read old =
      let f = or_none (step_fault before s) (faults_behind (before ++ s ∷ []) ss) fault in
      let one = ok_then (definitions_behind k0 machine ds s) (λ x. along (definitions_behind k0 machine) x ss) all read in
      all_more (before ++ s ∷ []) ss one.0 all (append_assoc before (s ∷ []) ss ∙ is) f.1 one.2 (step_more before ss s is ds one.0 f.0 one.1 old)

  -- the patterns of all scanners fit
  pub all_fit_patterns : (ds : List Definition) → names_fault steps ≡ None → definitions_of k0 machine steps ≡ Ok ds → HaveFitPatterns actions [] ds
  all_fit_patterns ds fault read = all_more [] steps [] ds refl fault read ((λ i d at. absurd (cc)), refl, tt)
