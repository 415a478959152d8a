-- Conditions, to-state and from-state actions have no statements where none that is embedded as such has one.
use Rattle.std.proofs.Common.{◌≡◌, ℕ, zero, suc, ◌+◌, ◌<◌, true, List, [], ◌∷◌, map, length, Some, Ok, subst, arith}
use Rattle.std.specs.Prelude.{get_or}
use Rattle.std.specs.List.{position}
use Rattle.std.specs.Str.{bytes_eq}
use Rattle.std.proofs.lemmas.List.Quantifiers.{position-Some}
use Rattle.std.proofs.lemmas.Slice.Eq.{bytes_eq-Decides}
use Rattle.rl_types.specs.declared.alphabet.Alphabet.{Alphabet}
use Rattle.rl_types.specs.declared.numbers.ActionId.{ActionId}
use Rattle.rl_types.specs.declared.numbers.Place.{Place}
use Rattle.rl_grammar.specs.declared.step.Step.{Step}
use Rattle.rl_grammar.specs.declared.syntax.ActionUse.{ActionUse}
use Rattle.rl_grammar.specs.declared.syntax.ActionUse.TheVariants as action
use Rattle.rl_grammar.specs.declared.syntax.Embedding.{Embedding}
use Rattle.rl_grammar.specs.declared.syntax.Embedding.TheVariants as embedding
use Rattle.rl_grammar.specs.declared.syntax.Label.{Label}
use Rattle.rl_grammar.specs.declared.syntax.Label.TheVariants as label
use Rattle.rl_grammar.specs.declared.syntax.Priority.{Priority}
use Rattle.rl_grammar.specs.declared.syntax.StateKind.{StateKind}
use Rattle.rl_grammar.specs.declared.syntax.StateKind.TheVariants as called
use Rattle.rl_model.specs.declared.spec.ActionDef.{ActionDef}
use Rattle.rl_model.specs.Counts.{turn_action, turn_actions_in, trees_of}
use Rattle.rl_model.specs.Specification.{action_of}
use Rattle.rl_model.specs.WellFormed.{HasNoStatement}
use Rattle.rl_draft.specs.declared.draft.Definition.{Definition}
use Rattle.rl_draft.specs.declared.expression.Put.{Put}
use Rattle.rl_draft.specs.declared.expression.Put.TheVariants as put
use Rattle.rl_draft.specs.declared.expression.Transitions.{Transitions}
use Rattle.rl_names.specs.Actions.{anonymous_name}
use Rattle.rl_names.specs.Drafts.{scope_behind, definitions_of}
use Rattle.rl_names.specs.Events.{Event, Barred, Ends, embedding_events}
use Rattle.rl_names.specs.Expressions.{Scope, action_at, action_named, action_read, label_read, put_read, transitions_of, class_of, kind_of}
use Rattle.rl_names.specs.Expressions as expressions
use Rattle.rl_names.specs.Frames.{is_of}
use Rattle.rl_rewrite.specs.Entries.{Made, meanings_in, entries, all_conditions}
use Rattle.rl_form.proofs.Lists.{Each}
use Rattle.rl_formed.proofs.ResultLaws.{ok_then, same_ok}
use Rattle.rl_formed.proofs.ReadLaws.{OfRead, of_ok, of_then}
use Rattle.rl_formed.proofs.PlainLaws.{HoldsOfEvents}
use Rattle.rl_formed.proofs.WalkLaws.{HoldsOfPut, turn_asked, keeps_turns}
use Rattle.rl_formed.proofs.EmbeddedLaws.{number_found, of_priority, all_hold}

-- the name that an action is used by
abbrev pub name_used : ActionUse → List ℕ
name_used (action.Name w) = w.text
name_used (action.Group opening w closing) = w.text
name_used (action.Code w) = anonymous_name w.place

-- ---- numbers of names

-- no action of this name has a statement
abbrev pub IsQuietName : List ActionDef → List ℕ → Type 0
IsQuietName actions name = Each (λ (a : ActionDef). name ≡ a.name → a.statements ≡ []) actions

abbrev pub names_in : List ActionDef → List (List ℕ)
names_in actions = map (λ (a : ActionDef). a.name) actions

quiet_at : (actions : List ActionDef) (name : List ℕ) (i : ℕ) → i < length (names_in actions) → bytes_eq name (get_or (names_in actions) i []) ≡ true → IsQuietName actions name → HasNoStatement (map action_of actions) (suc i)
quiet_at [] name i within is h = tt
quiet_at (a ∷ rest) name zero within is h = h.0 ((bytes_eq-Decides name a.name).0 is)
quiet_at (a ∷ rest) name (suc i) within is h = quiet_at rest name i (omega (arith, within)) is h.1

module _ (actions : List ActionDef) where
  abbrev IsQuiet : ℕ → Type 0
  IsQuiet n = HasNoStatement (map action_of actions) n

  abbrev IsQuietAction : ActionId → Type 0
  IsQuietAction n = IsQuiet n.0

  module _ (k : Scope) (own : k.actions ≡ names_in actions) where
    quiet_named : (place : Place) (name : List ℕ) → IsQuietName actions name → OfRead IsQuietAction (action_named k place name)
    quiet_named place name h a e =
        let i = ok_then (expressions.numbered place name k.actions) action_at a e in
        let found = subst (λ z. position (bytes_eq name) z ≡ Some i.0) own (number_found place (position (bytes_eq name) k.actions) i.0 i.1) in
        let at = position-Some (bytes_eq name) (names_in actions) i.0 [] found in
        let next : suc i.0 ≡ i.0 + 1 = omega arith in
        subst IsQuietAction (same_ok (record { 0 = i.0 + 1 }) a i.2) (subst IsQuiet next (quiet_at actions name i.0 at.0 at.1 h))

    pub quiet_read : (a : ActionUse) → IsQuietName actions (name_used a) → OfRead IsQuietAction (action_read k a)
    quiet_read (action.Name w) h = quiet_named w.place w.text h
    quiet_read (action.Group opening w closing) h = quiet_named w.place w.text h
    quiet_read (action.Code w) h = quiet_named w.place (anonymous_name w.place) h

    -- ---- embeddings

    abbrev HoldsPut : Put → Type 0
    HoldsPut q = HoldsOfPut (turn_asked IsQuiet) q

    any_label : (ts : Transitions) (l : Label) → OfRead HoldsPut (label_read k ts l)
    any_label ts (label.Action a) = of_then (λ n. Unit {0}) HoldsPut (action_read k a) (λ n. Ok (put.Action ts n)) (λ n e. tt) (λ n u. of_ok HoldsPut (put.Action ts n) tt)
    any_label ts (label.Priority r) = of_priority k HoldsPut (λ ts x v. tt) ts r

  -- the action of a to-state or from-state embedding, or of a condition, has no statement
  abbrev pub IsQuietState : StateKind → ActionUse → Type 0
  IsQuietState called.To a = IsQuietName actions (name_used a)
  IsQuietState called.From a = IsQuietName actions (name_used a)
  IsQuietState called.Eof a = Unit {0}
  IsQuietState called.Error a = Unit {0}

  abbrev pub IsQuietUse : Embedding → Type 0
  IsQuietUse (embedding.Transition s l) = Unit {0}
  IsQuietUse (embedding.State mark a) = IsQuietState mark.kind a
  IsQuietUse (embedding.When place a) = IsQuietName actions (name_used a)

  module _ (k : Scope) (own : k.actions ≡ names_in actions) where
    quiet_state : (called_as : StateKind) (a : ActionUse) → IsQuietState called_as a → OfRead (λ (n : ActionId). Each IsQuiet (turn_action (kind_of called_as) n.0)) (action_read k a)
    quiet_state called.To a h n e = (quiet_read k own a h n e, tt)
    quiet_state called.From a h n e = (quiet_read k own a h n e, tt)
    quiet_state called.Eof a h n e = tt
    quiet_state called.Error a h n e = tt

    quiet_put : (m : Embedding) → IsQuietUse m → OfRead (HoldsOfPut (turn_asked IsQuiet)) (put_read k m)
    quiet_put (embedding.Transition s l) h = any_label k own (transitions_of s) l
    quiet_put (embedding.State mark a) h =
        of_then (λ (n : ActionId). Each IsQuiet (turn_action (kind_of mark.kind) n.0)) (HoldsOfPut (turn_asked IsQuiet)) (action_read k a) (λ n. Ok (put.Mark (class_of mark.class) (kind_of mark.kind) n)) (quiet_state mark.kind a h)
        (λ n g. of_ok (HoldsOfPut (turn_asked IsQuiet)) (put.Mark (class_of mark.class) (kind_of mark.kind) n) g)
    quiet_put (embedding.When place a) h =
        of_then IsQuietAction (HoldsOfPut (turn_asked IsQuiet)) (action_read k a) (λ n. Ok (put.When n)) (quiet_read k own a h) (λ n g. of_ok (HoldsOfPut (turn_asked IsQuiet)) (put.When n) g)

  -- ---- entries

  -- none of its to-state and from-state actions has a statement
  abbrev pub HasQuietTurns : Made → Type 0
  HasQuietTurns m = Each (λ t. Each IsQuiet (turn_actions_in t)) (trees_of m.root)

  -- of all entries, and of the conditions, where the events of what they embed say so
  pub quiet_entries : (alphabet : Alphabet) (I : Type 0) (B : I → Event → Type 0) (k : Scope) (machine : List ℕ) (steps : List Step) (ds : List Definition) → k.alphabet ≡ alphabet → k.actions ≡ names_in actions
      → ((i : I) (m : Embedding) → Each (B i) (embedding_events m) → IsQuietUse m) → ((i : I) (at : Place) → B i (Barred at) → B i (Ends at)) → Each (λ (s : Step). is_of machine s ≡ true → (i : I) × HoldsOfEvents (B i) s.statement) steps → definitions_of k machine steps ≡ Ok ds
      → Each HasQuietTurns (entries [] (meanings_in alphabet ds)) × Each IsQuietAction (all_conditions [] (meanings_in alphabet ds))
  quiet_entries alphabet I B k machine steps ds known own quiet barred events e =
      all_hold (turn_asked IsQuiet) (λ t. Each IsQuiet (turn_actions_in t)) (keeps_turns IsQuiet) alphabet I B k machine steps ds
      (λ i names earlier owner. (known, (λ m b. quiet_put (scope_behind k names earlier owner) own m (quiet i m b)))) barred events e
