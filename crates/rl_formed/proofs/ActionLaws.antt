-- What holds of each action that a statement defines holds of all actions of a machine.
use Rattle.std.proofs.Common.{◌≡◌, ℕ, Bool, true, false, List, [], ◌∷◌, refl}
use Rattle.std.specs.Prelude.{fold, if◌then◌else◌}
use Rattle.rl_grammar.specs.declared.syntax.Statement.{Statement}
use Rattle.rl_grammar.specs.declared.syntax.Statement.TheVariants as statement
use Rattle.rl_model.specs.declared.spec.ActionDef.{ActionDef}
use Rattle.rl_grammar.specs.declared.step.Step.{Step}
use Rattle.rl_names.specs.Actions.{anonymous_name, action_def, action_used, actions_by, actions_behind, actions_of}
use Rattle.rl_names.specs.Entries.{entries_of}
use Rattle.rl_names.specs.Events.{Event, value_events}
use Rattle.rl_names.specs.Events as event
use Rattle.rl_names.specs.Frames.{is_of}
use Rattle.rl_form.proofs.Lists.{Each, each_append}

module _ (P : ActionDef → Type 0) (entries : List (List ℕ)) where
  -- it holds of the action that an expression has
  abbrev pub HoldsOfEvent : Event → Type 0
  HoldsOfEvent (event.Code w) = P (action_def entries (anonymous_name w.place) w)
  HoldsOfEvent _ = Unit {0}

  -- it holds of the actions that a statement defines
  abbrev pub HoldsOfStatement : Statement → Type 0
  HoldsOfStatement (statement.Action a) = P (action_def entries a.name.text a.code)
  HoldsOfStatement (statement.Definition d) = Each HoldsOfEvent (value_events d.value)
  HoldsOfStatement _ = Unit {0}

  by_event : (e : Event) (actions : List ActionDef) → HoldsOfEvent e → Each P actions → Each P (action_used entries actions e)
  by_event (event.Code w) actions p h = each_append P actions (action_def entries (anonymous_name w.place) w ∷ []) h (p, tt)
  by_event (event.Leaf o) actions p h = h
  by_event (event.Name w) actions p h = h
  by_event (event.Action w) actions p h = h
  by_event (event.Priority w) actions p h = h
  by_event (event.Quiet place a) actions p h = h
  by_event (event.Embeds a) actions p h = h
  by_event (event.Ends place) actions p h = h
  by_event (event.Barred place) actions p h = h
  by_event (event.Taken place w) actions p h = h

  by_events : (es : List Event) (actions : List ActionDef) → Each HoldsOfEvent es → Each P actions → Each P (fold (action_used entries) actions es)
  by_events [] actions p h = h
  by_events (e ∷ es) actions p h = by_events es (action_used entries actions e) p.1 (by_event e actions p.0 h)

  by_statement : (s : Statement) (actions : List ActionDef) → HoldsOfStatement s → Each P actions → Each P (actions_by entries actions s)
  by_statement (statement.Action a) actions p h = each_append P actions (action_def entries a.name.text a.code ∷ []) h (p, tt)
  by_statement (statement.Definition d) actions p h = by_events (value_events d.value) actions p h
  by_statement (statement.Machine m) actions p h = h
  by_statement (statement.Include m) actions p h = h
  by_statement (statement.Alphtype m) actions p h = h
  by_statement (statement.Access m) actions p h = h
  by_statement (statement.Variable m) actions p h = h
  by_statement (statement.Write m) actions p h = h

  by_choice : (b : Bool) (s : Statement) (actions : List ActionDef) → (b ≡ true → HoldsOfStatement s) → Each P actions → Each P (if b then actions_by entries actions s else actions)
  by_choice true s actions p h = by_statement s actions (p refl) h
  by_choice false s actions p h = h

  -- it holds of the actions that a step of the machine defines
  abbrev pub HoldsOfOwn : List ℕ → Step → Type 0
  HoldsOfOwn machine s = is_of machine s ≡ true → HoldsOfStatement s.statement

  pub by_steps : (machine : List ℕ) (steps : List Step) (actions : List ActionDef) → Each (HoldsOfOwn machine) steps → Each P actions → Each P (fold (actions_behind entries machine) actions steps)
  by_steps machine [] actions p h = h
  by_steps machine (s ∷ ss) actions p h = by_steps machine ss (actions_behind entries machine actions s) p.1 (by_choice (is_of machine s) s.statement actions p.0 h)

pub all_actions : (P : ActionDef → Type 0) (machine : List ℕ) (steps : List Step) → Each (HoldsOfOwn P (entries_of machine steps) machine) steps → Each P (actions_of machine steps)
all_actions P machine steps p = by_steps P (entries_of machine steps) machine steps [] p tt
