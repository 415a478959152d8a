-- No pattern embeds an action with statements, an end-of-file or an error action where no fault of names is found.
use Rattle.std.proofs.Common.{◌≡◌, ℕ, zero, suc, ◌++◌, true, List, [], ◌∷◌, length, map, None, Ok, refl, ap, ◌∙◌, subst}
use Rattle.std.specs.Prelude.{nat_eq, IfSome, slice_get}
use Rattle.std.specs.Option.{option_map_or}
use Rattle.std.proofs.lemmas.List.{length-map}
use Rattle.rl_types.specs.declared.numbers.ActionId.{ActionId}
use Rattle.rl_types.specs.declared.numbers.Place.{Place}
use Rattle.rl_grammar.specs.declared.step.Step.{Step}
use Rattle.rl_grammar.specs.declared.syntax.ActionUse.{ActionUse}
use Rattle.rl_grammar.specs.declared.syntax.Embedding.{Embedding}
use Rattle.rl_grammar.specs.declared.syntax.Embedding.TheVariants as embedding
use Rattle.rl_grammar.specs.declared.syntax.Label.{Label}
use Rattle.rl_grammar.specs.declared.syntax.Label.TheVariants as label
use Rattle.rl_grammar.specs.declared.syntax.StateKind.{StateKind}
use Rattle.rl_grammar.specs.declared.syntax.StateKind.TheVariants as called
use Rattle.rl_automata.specs.Refused.{AreDifferent}
use Rattle.rl_model.specs.declared.spec.ActionDef.{ActionDef}
use Rattle.rl_model.specs.Specification.{Action, action_of, numbered}
use Rattle.rl_model.specs.WellFormed.{HasNoStatement}
use Rattle.rl_draft.specs.declared.draft.Definition.{Definition}
use Rattle.rl_draft.specs.declared.expression.Put.{Put}
use Rattle.rl_draft.specs.declared.expression.Put.TheVariants as put
use Rattle.rl_draft.specs.declared.expression.Transitions.{Transitions}
use Rattle.rl_names.specs.Actions.{actions_of}
use Rattle.rl_names.specs.Drafts.{scope_behind, definitions_of}
use Rattle.rl_names.specs.Events.{Event, Found, embedding_events, labelled, embedded, marked, used}
use Rattle.rl_names.specs.Expressions.{Scope, action_read, label_read, put_read, transitions_of, class_of, kind_of}
use Rattle.rl_names.specs.Names.{known, names_fault}
use Rattle.rl_names.specs.Patterns.{is_quiet, fits, HaveFitPatterns}
use Rattle.rl_names.proofs.FitLaws.{IsCalmEvent, all_fit_patterns}
use Rattle.rl_form.proofs.Lists.{Each, each_more}
use Rattle.rl_formed.proofs.EmbeddedLaws.{of_priority}
use Rattle.rl_formed.proofs.FaultLaws.{Before}
use Rattle.rl_formed.proofs.PlainLaws.{HoldsOfEvents}
use Rattle.rl_formed.proofs.QuietLaws.{IsKnownBehind, quiet_used, one_known}
use Rattle.rl_formed.proofs.ReadLaws.{OfRead, of_ok, of_then}
use Rattle.rl_formed.proofs.TurnLaws.{IsQuietName, names_in, name_used, quiet_read}

-- ---- an action without statements

test_at : (actions : List ActionDef) (i : ℕ) → IfSome (slice_get (map action_of actions) i) (λ (x : Action). x.statements ≡ []) → option_map_or (λ (a : ActionDef). nat_eq (length a.statements) 0) (slice_get actions i) true ≡ true
test_at [] i h = refl
test_at (a ∷ rest) zero h = ap (λ z. nat_eq (length z) 0) h
test_at (a ∷ rest) (suc i) h = test_at rest i h

test_of : (actions : List ActionDef) (n : ℕ) → HasNoStatement (map action_of actions) n → option_map_or (λ (a : ActionDef). nat_eq (length a.statements) 0) (numbered actions n) true ≡ true
test_of actions zero h = refl
test_of actions (suc i) h = test_at actions i h

-- ---- what an embedding is read as

module _ (actions : List ActionDef) (k : Scope) (own : k.actions ≡ names_in actions) where
  abbrev FitsPut : Put → Type 0
  FitsPut q = fits actions q ≡ true

  abbrev FitsAction : ActionId → Type 0
  FitsAction n = is_quiet actions n ≡ true

  fit_action : (a : ActionUse) → IsQuietName actions (name_used a) → OfRead FitsAction (action_read k a)
  fit_action a h n e = test_of actions n.0 (quiet_read actions k own a h n e)

  fit_transition : (ts : Transitions) (a : ActionUse) → IsQuietName actions (name_used a) → OfRead FitsPut (label_read k ts (label.Action a))
  fit_transition ts a h = of_then FitsAction FitsPut (action_read k a) (λ n. Ok (put.Action ts n)) (fit_action a h) (λ n g. of_ok FitsPut (put.Action ts n) g)

  fit_priority : (ts : Transitions) (l : _) → OfRead FitsPut (label_read k ts (label.Priority l))
  fit_priority ts l = of_priority k FitsPut (λ ts x v. refl) ts l

  fit_condition : (place : Place) (a : ActionUse) → IsQuietName actions (name_used a) → OfRead FitsPut (put_read k (embedding.When place a))
  fit_condition place a h = of_then FitsAction FitsPut (action_read k a) (λ n. Ok (put.When n)) (fit_action a h) (λ n g. of_ok FitsPut (put.When n) g)

-- ---- all patterns

module _ (machine : List ℕ) (steps : List Step) (differ : AreDifferent (names_in (actions_of machine steps))) where
  abbrev actions : List ActionDef
  actions = actions_of machine steps

  abbrev IsUsed : List Step → Event → Type 0
  IsUsed before e = IsKnownBehind machine steps differ before e × IsCalmEvent (known before) machine e

  only_known : (before : List Step) (es : Found) → Each (IsUsed before) es → Each (IsKnownBehind machine steps differ before) es
  only_known before es h = each_more (IsUsed before) (IsKnownBehind machine steps differ before) es (λ e g. g.0) h

  -- an action that is embedded has no statements
  quiet_embedded : (i : Before steps) (a : ActionUse) → Each (IsUsed i.0) (embedded a) → IsQuietName actions (name_used a)
  quiet_embedded i a b = quiet_used machine steps differ i a b.0.1 (only_known i.0 (used a) b.1)

  module _ (k : Scope) (own : k.actions ≡ names_in actions) (i : Before steps) where
    fit_label : (ts : Transitions) (l : Label) → Each (IsUsed i.0) (labelled l) → OfRead (FitsPut actions k own) (label_read k ts l)
    fit_label ts (label.Action a) b = fit_transition actions k own ts a (quiet_embedded i a b)
    fit_label ts (label.Priority r) b = fit_priority actions k own ts r

    fit_state : (kind : StateKind) (place : Place) (a : ActionUse) → Each (IsUsed i.0) (marked kind place a ++ embedded a) → (class : _) → OfRead (λ n. FitsPut actions k own (put.Mark class (kind_of kind) n)) (action_read k a)
    fit_state called.To place a b class = fit_action actions k own a (quiet_embedded i a b.1)
    fit_state called.From place a b class = fit_action actions k own a (quiet_embedded i a b.1)
    fit_state called.Eof place a b class = absurd b.0.1
    fit_state called.Error place a b class = absurd b.0.1

    fit_embedding : (m : Embedding) → Each (IsUsed i.0) (embedding_events m) → OfRead (FitsPut actions k own) (put_read k m)
    fit_embedding (embedding.Transition s l) b = fit_label (transitions_of s) l b
    fit_embedding (embedding.State mark a) b =
        let class = class_of mark.class in
        let P = λ (n : ActionId). FitsPut actions k own (put.Mark class (kind_of mark.kind) n) in
        of_then P (FitsPut actions k own) (action_read k a) (λ n. Ok (put.Mark class (kind_of mark.kind) n)) (fit_state mark.kind mark.place a b class)
        (λ n g. of_ok (FitsPut actions k own) (put.Mark class (kind_of mark.kind) n) g)
    fit_embedding (embedding.When place a) b = fit_condition actions k own place a (quiet_embedded i a b.1)

  -- no pattern of the machine embeds what it may not
  pub fit_patterns : (k : Scope) (ds : List Definition) → k.actions ≡ names_in actions → names_fault steps ≡ None → definitions_of k machine steps ≡ Ok ds → HaveFitPatterns actions [] ds
  fit_patterns k ds own none e =
      all_fit_patterns actions machine k (ap length own ∙ length-map actions (λ (a : ActionDef). a.name)) steps (IsKnownBehind machine steps differ)
      (λ before rest s d is mine def. subst (HoldsOfEvents (IsKnownBehind machine steps differ before)) def (one_known machine steps differ none (before, (s ∷ rest, is)) rest s refl mine))
      (λ before rest s is names earlier owner m b. fit_embedding (scope_behind k names earlier owner) own (before, (s ∷ rest, is)) m b)
      ds none e
