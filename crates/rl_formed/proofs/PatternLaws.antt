-- What scanners have where the patterns of a draft fit: patterns, tokens of the machine, and no embedded action with statements.
use Rattle.std.proofs.Common.{◌≡◌, ◌≢◌, ℕ, zero, suc, ◌++◌, Bool, true, false, cond, List, [], ◌∷◌, length, map, Option, None, Some, refl, sym, subst, arith}
use Rattle.std.specs.Prelude.{◌&&◌, nat_eq, IfSome, slice_get, unwrap_or, option_to_list}
use Rattle.std.specs.List.{flat_map, list_all}
use Rattle.std.specs.Option.{option_map, option_map_or}
use Rattle.std.proofs.lemmas.Bool.{false≢true}
use Rattle.std.proofs.lemmas.Bool.Decides.{nat_tests}
use Rattle.rl_types.specs.declared.alphabet.Alphabet.{Alphabet}
use Rattle.rl_types.specs.declared.numbers.ActionId.{ActionId}
use Rattle.rl_types.specs.declared.numbers.Place.{Place}
use Rattle.rl_types.specs.KeyRange.{Range}
use Rattle.rl_run.specs.declared.statements.Statement.{Statement}
use Rattle.rl_automata.specs.Nodes.{Node}
use Rattle.rl_automata.specs.Scans.{Root, Pattern as Made_Pattern}
use Rattle.rl_model.specs.declared.spec.ActionDef.{ActionDef}
use Rattle.rl_model.specs.Counts.{actions_in, pattern_trees, token_actions}
use Rattle.rl_model.specs.Specification.{Action, action_of}
use Rattle.rl_model.specs.WellFormed.{IsNumber, HasNoStatement, HasPatterns}
use Rattle.rl_draft.specs.declared.draft.Definition.{Definition}
use Rattle.rl_draft.specs.declared.draft.Pattern.{Pattern}
use Rattle.rl_draft.specs.declared.draft.Value.{Value}
use Rattle.rl_draft.specs.declared.draft.Value.TheVariants as value
use Rattle.rl_draft.specs.declared.expression.Expression.{Expression}
use Rattle.rl_draft.specs.declared.expression.Expression.TheOpen.{Expression-F}
use Rattle.rl_draft.specs.declared.expression.Expression.TheOpen as level
use Rattle.rl_draft.specs.declared.expression.Expression.TheFolds.{fold-roll-Expression, fold-roll-Link, map-Expression, ind-Expression}
use Rattle.rl_draft.specs.declared.expression.Link.{Link}
use Rattle.rl_draft.specs.declared.expression.Put.{Put}
use Rattle.rl_draft.specs.declared.expression.Put.TheVariants as put
use Rattle.rl_names.specs.Patterns as fit
use Rattle.rl_names.specs.Patterns.{is_quiet, is_turn, fits, expression_fits, link_fits, value_fits, IsFit, HasFitPatterns, HaveFitPatterns}
use Rattle.rl_rewrite.specs.declared.counts.Counts.{Counts}
use Rattle.rl_rewrite.specs.Entries.{Made, Meaning, meanings_behind, meanings_in, is_entry, entry, entries, made_by, conditions_by}
use Rattle.rl_rewrite.specs.Plain as p
use Rattle.rl_rewrite.specs.Plain.{Plain, PlainPattern, PlainValue, Operand, named, joined, chained, expression_step, link_step, plain, operand, pattern_plain, value_of, value_plain}
use Rattle.rl_rewrite.specs.Walk.{walk, walk_patterns, walk_value, begun}
use Rattle.rl_form.proofs.Lists.{Each, each_append, each}
use Rattle.rl_formed.proofs.EmbeddedLaws.{Any, any_leaf, kept}
use Rattle.rl_formed.proofs.PlainLaws.{IsKept, joined_hold, all_repeated_hold, all_negated_hold, leaf_holds}
use Rattle.rl_formed.proofs.ResultLaws.{always}
use Rattle.rl_formed.proofs.WalkLaws.{HoldsOf, HoldsOfPut, embeds_asked, keeps_actions, value_holds}

both_true : (a b : Bool) → (a && b) ≡ true → (a ≡ true) × (b ≡ true)
both_true true b h = (refl, h)
both_true false b h = absurd (false≢true h)

-- ---- actions

not_none : (n : ℕ) → nat_eq (suc n) 0 ≡ true → ⊥
not_none n h = grind (arith, nat_tests)

no_element : (xs : List Statement) → nat_eq (length xs) 0 ≡ true → xs ≡ []
no_element [] h = refl
no_element (x ∷ xs) h = absurd (not_none (length xs) h)

quiet_at : (actions : List ActionDef) (i : ℕ) → option_map_or (λ (a : ActionDef). nat_eq (length a.statements) 0) (slice_get actions i) true ≡ true → IfSome (slice_get (map action_of actions) i) (λ (x : Action). x.statements ≡ [])
quiet_at [] i h = tt
quiet_at (a ∷ rest) zero h = no_element a.statements h
quiet_at (a ∷ rest) (suc i) h = quiet_at rest i h

module _ (actions : List ActionDef) where
  abbrev pub Quiet : ℕ → Type 0
  Quiet n = HasNoStatement (map action_of actions) n

  quiet_number : (n : ℕ) → is_quiet actions (record { 0 = n }) ≡ true → Quiet n
  quiet_number zero h = tt
  quiet_number (suc i) h = quiet_at actions i h

  -- ---- expressions

  abbrev AnyCondition : ℕ → Type 0
  AnyCondition n = Unit {0}

  abbrev InActions : Node → Type 0
  InActions t = Each Quiet (actions_in t)

  abbrev Holds : Plain → Type 0
  Holds q = HoldsOf (embeds_asked Quiet AnyCondition) q

  abbrev HoldsPut : Put → Type 0
  HoldsPut q = HoldsOfPut (embeds_asked Quiet AnyCondition) q

  fit_put : (q : Put) → fits actions q ≡ true → HoldsPut q
  fit_put (put.Action t n) h = quiet_number n.0 h
  fit_put (put.Priority t x v) h = tt
  fit_put (put.Mark class kind n) h = quiet_number n.0 (both_true (is_turn kind) (is_quiet actions n) h).1
  fit_put (put.When n) h = tt

  fit_puts : (qs : List Put) → list_all (fits actions) qs ≡ true → Each HoldsPut qs
  fit_puts [] h = tt
  fit_puts (q ∷ qs) h = let k = both_true (fits actions q) (list_all (fits actions) qs) h in (fit_put q k.0, fit_puts qs k.1)

  -- what fits among the definitions before has such expressions
  abbrev Fit : List Bool → List Plain → Type 0
  Fit [] [] = Unit {0}
  Fit [] (q ∷ ps) = ⊥
  Fit (b ∷ bs) [] = ⊥
  Fit (b ∷ bs) (q ∷ ps) = (b ≡ true → Holds q) × Fit bs ps

  fit_more : (bs : List Bool) (ps : List Plain) (b : Bool) (q : Plain) → Fit bs ps → (b ≡ true → Holds q) → Fit (bs ++ b ∷ []) (ps ++ q ∷ [])
  fit_more [] [] b q h g = (g, tt)
  fit_more [] (x ∷ ps) b q h g = absurd h
  fit_more (c ∷ bs) [] b q h g = absurd h
  fit_more (c ∷ bs) (x ∷ ps) b q h g = (h.0, fit_more bs ps b q h.1 g)

  fit_named : (bs : List Bool) (ps : List Plain) (i : ℕ) → Fit bs ps → unwrap_or (slice_get bs i) true ≡ true → Holds (named (slice_get ps i))
  fit_named [] [] i h g = tt
  fit_named [] (x ∷ ps) i h g = absurd h
  fit_named (c ∷ bs) [] i h g = absurd h
  fit_named (c ∷ bs) (x ∷ ps) zero h g = h.0 g
  fit_named (c ∷ bs) (x ∷ ps) (suc i) h g = fit_named bs ps i h.1 g

  module _ (alphabet : Alphabet) where
    is_kept : IsKept alphabet Holds HoldsPut
    is_kept = kept (embeds_asked Quiet AnyCondition) InActions (keeps_actions Quiet AnyCondition) alphabet

    of_set : (ranges : List Range) (at : Place) → Any ranges → Holds (p.Set ranges at)
    of_set ranges at h = tt

    module _ (bs : List Bool) (ps : List Plain) (known : Fit bs ps) where
      abbrev IsFitExpression : Expression → Type 0
      IsFitExpression e = expression_fits actions bs e ≡ true → Holds (plain alphabet ps e)

      abbrev IsFitLink : Link → Type 0
      IsFitLink l = link_fits actions bs l ≡ true → Holds (operand alphabet ps l).plain

      abbrev Told : Type 0
      Told = (e : Expression) × IsFitExpression e

      abbrev ToldLink : Type 0
      ToldLink = (l : Link) × IsFitLink l

      abbrev bare : Expression-F Told ToldLink → Expression-F Expression Link
      bare y = map-Expression Told ToldLink Expression Link (λ e. e.0) (λ l. l.0) y

      chain_fits : (a : Plain) (os : List ToldLink) (at : Place) → Holds a → fit.all_fit (map (link_fits actions bs) (map (λ l. l.0) os)) ≡ true
          → Holds (chained alphabet a (map (operand alphabet ps) (map (λ l. l.0) os)) at)
      chain_fits a [] at h g = h
      chain_fits a (o ∷ os) at h g =
          let k = both_true (link_fits actions bs o.0) (fit.all_fit (map (link_fits actions bs) (map (λ l. l.0) os))) g in
          let x = operand alphabet ps o.0 in
          chain_fits (joined alphabet x.join a x.plain at) os at (joined_hold alphabet Holds HoldsPut Any is_kept of_set x.join a x.plain at h (o.1 k.0)) k.1

      level_fits : (y : Expression-F Told ToldLink) → fit.expression_step actions bs (map-Expression Expression Link Bool Bool (expression_fits actions bs) (link_fits actions bs) (bare y)) ≡ true
          → Holds (expression_step alphabet ps (map-Expression Expression Link Plain Operand (plain alphabet ps) (operand alphabet ps) (bare y)))
      level_fits (level.Leaf l at) h = leaf_holds alphabet Holds HoldsPut Any is_kept of_set l at (any_leaf l)
      level_fits (level.Name i) h = fit_named bs ps i known h
      level_fits (level.Chain a os at) h =
          let k = both_true (expression_fits actions bs a.0) (fit.all_fit (map (link_fits actions bs) (map (λ l. l.0) os))) h in
          chain_fits (plain alphabet ps a.0) os at (a.1 k.0) k.1
      level_fits (level.Repeated a rs at) h = all_repeated_hold alphabet Holds HoldsPut Any is_kept of_set rs (plain alphabet ps a.0) at (a.1 h)
      level_fits (level.Negated ns a) h = all_negated_hold alphabet Holds HoldsPut Any is_kept of_set ns (plain alphabet ps a.0) (a.1 h)
      level_fits (level.Embedded a qs at) h =
          let k = both_true (expression_fits actions bs a.0) (list_all (fits actions) qs) h in
          (a.1 k.0, fit_puts qs k.1)

      fit_expression : (e : Expression) → IsFitExpression e
      fit_expression = ind-Expression IsFitExpression IsFitLink
          (λ x y is h. subst Holds (sym (fold-roll-Expression Plain Operand (expression_step alphabet ps) link_step x))
          (subst (λ z. fit.expression_step actions bs (map-Expression Expression Link Bool Bool (expression_fits actions bs) (link_fits actions bs) z) ≡ true
          → Holds (expression_step alphabet ps (map-Expression Expression Link Plain Operand (plain alphabet ps) (operand alphabet ps) z))) is (level_fits y)
          (subst (λ z. z ≡ true) (fold-roll-Expression Bool Bool (fit.expression_step actions bs) fit.link_step x) h)))
          (λ x y is h. subst (λ z. Holds z.plain) (sym (fold-roll-Link Plain Operand (expression_step alphabet ps) link_step x))
          (subst (λ z. expression_fits actions bs z.operand ≡ true → Holds (plain alphabet ps z.operand)) is y.operand.1
          (subst (λ z. z ≡ true) (fold-roll-Link Bool Bool (fit.expression_step actions bs) fit.link_step x) h)))

    -- ---- definitions

    -- its expression embeds no action with statements, and the action of its token exists
    record IsRight (q : PlainPattern) : Type 0 where
      plain : Holds q.plain
      token : IfSome q.token (λ (n : ActionId). IsNumber (length actions) n.0)

    abbrev AreRight : PlainValue → Type 0
    AreRight (p.Expression q) = Unit {0}
    AreRight (p.Scanner qs at) = (qs ≢ []) × Each IsRight qs

    right_patterns : (bs : List Bool) (ps : List Plain) → Fit bs ps → (qs : List Pattern) → Each (IsFit actions bs) qs → Each IsRight (map (pattern_plain alphabet ps) qs)
    right_patterns bs ps known [] h = tt
    right_patterns bs ps known (q ∷ qs) h = (record { plain = fit_expression bs ps known q.expression h.0.fits; token = h.0.token }, right_patterns bs ps known qs h.1)

    some_plain : (ps : List Plain) (qs : List Pattern) → qs ≢ [] → map (pattern_plain alphabet ps) qs ≢ []
    some_plain ps [] n = λ e. n refl
    some_plain ps (q ∷ qs) n = λ e. absurd (cc)

    right_value : (bs : List Bool) (ps : List Plain) → Fit bs ps → (v : Value) → HasFitPatterns actions bs v → AreRight (value_of alphabet ps v)
    right_value bs ps known (value.Expression e) h = tt
    right_value bs ps known (value.Scanner qs at) h = (some_plain ps qs h.0, right_patterns bs ps known qs (each (IsFit actions bs) qs h.1))

    value_fit : (bs : List Bool) (ps : List Plain) → Fit bs ps → (v : Value) → value_fits actions bs v ≡ true → Holds (value_plain alphabet ps v)
    value_fit bs ps known (value.Expression e) h = fit_expression bs ps known e h
    value_fit bs ps known (value.Scanner qs at) h = tt

    right_behind : (bs : List Bool) (ps : List Plain) (ds : List Definition) → Fit bs ps → HaveFitPatterns actions bs ds → Each (λ (m : Meaning). AreRight m.value) (meanings_behind alphabet ps ds)
    right_behind bs ps [] known h = tt
    right_behind bs ps (d ∷ ds) known h =
        let b = value_fits actions bs d.value in
        let q = value_plain alphabet ps d.value in
        (right_value bs ps known d.value h.0, right_behind (bs ++ b ∷ []) (ps ++ q ∷ []) ds (fit_more bs ps b q known (value_fit bs ps known d.value)) h.1)

    -- ---- entries

    -- where it is a scanner it has a pattern, the actions of its tokens exist, and those that its patterns embed have no statement
    pub record IsFitRoot (x : Root) : Type 0 where
      pub patterns : HasPatterns x
      pub tokens : Each (IsNumber (length actions)) (token_actions x)
      pub quiet : Each (λ t. Each Quiet (actions_in t)) (pattern_trees x)

    own_token : (o : Option ActionId) → IfSome o (λ (n : ActionId). IsNumber (length actions) n.0) → Each (IsNumber (length actions)) (option_to_list (option_map (λ (n : ActionId). n.0) o))
    own_token None h = tt
    own_token (Some n) h = (h, tt)

    own_tokens : (qs : List PlainPattern) (c : Counts) → Each IsRight qs → Each (IsNumber (length actions)) (flat_map (λ (q : Made_Pattern). option_to_list q.token) (walk_patterns qs c).0.patterns)
    own_tokens [] c h = tt
    own_tokens (q ∷ qs) c h =
        let x = walk q.plain c in
        each_append (IsNumber (length actions)) (option_to_list (option_map (λ (n : ActionId). n.0) q.token)) (flat_map (λ (q : Made_Pattern). option_to_list q.token) (walk_patterns qs x.1).0.patterns)
        (own_token q.token h.0.token) (own_tokens qs x.1 h.1)

    some_made : (qs : List PlainPattern) (c : Counts) → qs ≢ [] → (walk_patterns qs c).0.patterns ≢ []
    some_made [] c n = λ e. n refl
    some_made (q ∷ qs) c n = λ e. absurd (cc)

    each_plain : (qs : List PlainPattern) → Each IsRight qs → Each (λ (q : PlainPattern). Holds q.plain) qs
    each_plain [] h = tt
    each_plain (q ∷ qs) h = (h.0.plain, each_plain qs h.1)

    right_root : (v : PlainValue) (c : Counts) → AreRight v → IsFitRoot (walk_value v c).0.root
    right_root (p.Expression q) c h = record { patterns = tt; tokens = tt; quiet = tt }
    right_root (p.Scanner qs at) c h = record {
      patterns = some_made qs c h.0;
      tokens = own_tokens qs c h.1;
      quiet = (value_holds (embeds_asked Quiet AnyCondition) InActions (keeps_actions Quiet AnyCondition) (p.Scanner qs at) c (each_plain qs h.1) (always c.conditions)).0;
    }

    abbrev pub IsFitMade : Made → Type 0
    IsFitMade m = IsFitRoot m.root

    made_case : (b : Bool) (cs : List ActionId) (m : Meaning) → AreRight m.value → Each IsFitMade (cond b (entry cs m ∷ []) [])
    made_case true cs m h = (right_root m.value (begun cs) h, tt)
    made_case false cs m h = tt

    right_entries : (cs : List ActionId) (ms : List Meaning) → Each (λ (m : Meaning). AreRight m.value) ms → Each IsFitMade (entries cs ms)
    right_entries cs [] h = tt
    right_entries cs (m ∷ ms) h = each_append IsFitMade (made_by cs m) (entries (conditions_by cs m) ms) (made_case (is_entry m.sign) cs m h.0) (right_entries (conditions_by cs m) ms h.1)

    -- of all entries
    pub fit_entries : (ds : List Definition) → HaveFitPatterns actions [] ds → Each IsFitMade (entries [] (meanings_in alphabet ds))
    fit_entries ds h = right_entries [] (meanings_in alphabet ds) (right_behind [] [] ds tt h)
