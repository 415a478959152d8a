-- Actions and `write` statements stand in the files of their statements.
use Rattle.std.proofs.Common.{ℕ, ◌<◌, Bool, true, false, List, [], ◌∷◌}
use Rattle.std.specs.Prelude.{fold, if◌then◌else◌}
use Rattle.rl_grammar.specs.declared.syntax.Statement.{Statement}
use Rattle.rl_grammar.specs.declared.syntax.Statement.TheVariants as statement
use Rattle.rl_model.specs.declared.spec.ActionDef.{ActionDef}
use Rattle.rl_model.specs.declared.spec.Write.{Write}
use Rattle.rl_grammar.specs.declared.step.Step.{Step}
use Rattle.rl_names.specs.Actions.{actions_of}
use Rattle.rl_names.specs.Entries.{entries_of}
use Rattle.rl_names.specs.Events.{Event, value_events}
use Rattle.rl_names.specs.Events as event
use Rattle.rl_names.specs.Frames.{is_own, kind_written, write_by, write_behind, writes_of}
use Rattle.rl_form.proofs.Lists.{Each, each_append, each_more, each}
use Rattle.rl_formed.specs.Laws.{IsUsedIn, StandsIn}
use Rattle.rl_formed.proofs.ActionLaws.{HoldsOfEvent, HoldsOfStatement, HoldsOfOwn, all_actions}

module _ (count : ℕ) where
  abbrev pub IsActionIn : ActionDef → Type 0
  IsActionIn a = a.place.file < count

  abbrev pub IsWriteIn : Write → Type 0
  IsWriteIn w = w.place.file < count

  abbrev pub IsStepIn : Step → Type 0
  IsStepIn s = StandsIn count s.statement

  -- ---- actions

  event_in : (entries : List (List ℕ)) (e : Event) → IsUsedIn count e → HoldsOfEvent IsActionIn entries e
  event_in entries (event.Code w) h = h
  event_in entries (event.Leaf o) h = tt
  event_in entries (event.Name w) h = tt
  event_in entries (event.Action w) h = tt
  event_in entries (event.Priority w) h = tt
  event_in entries (event.Quiet place a) h = tt
  event_in entries (event.Embeds a) h = tt
  event_in entries (event.Ends place) h = tt
  event_in entries (event.Barred place) h = tt
  event_in entries (event.Taken place w) h = tt

  statement_in : (entries : List (List ℕ)) (s : Statement) → StandsIn count s → HoldsOfStatement IsActionIn entries s
  statement_in entries (statement.Action a) h = h
  statement_in entries (statement.Definition d) h = each_more (IsUsedIn count) (HoldsOfEvent IsActionIn entries) (value_events d.value) (event_in entries) (each (IsUsedIn count) (value_events d.value) h)
  statement_in entries (statement.Machine m) h = tt
  statement_in entries (statement.Include m) h = tt
  statement_in entries (statement.Alphtype m) h = tt
  statement_in entries (statement.Access m) h = tt
  statement_in entries (statement.Variable m) h = tt
  statement_in entries (statement.Write m) h = tt

  pub actions_in : (machine : List ℕ) (steps : List Step) → Each IsStepIn steps → Each IsActionIn (actions_of machine steps)
  actions_in machine steps h =
      let entries = entries_of machine steps in
      all_actions IsActionIn machine steps (each_more IsStepIn (HoldsOfOwn IsActionIn entries machine) steps (λ s k own. statement_in entries s.statement k) h)

  -- ---- writes

  write_in : (block : ℕ) (s : Statement) (ws : List Write) → StandsIn count s → Each IsWriteIn ws → Each IsWriteIn (write_by ws block s)
  write_in block (statement.Write w) ws h g =
      each_append IsWriteIn ws (record { block = block; kind = kind_written w.what; place = w.start } ∷ []) g (h, tt)
  write_in block (statement.Action a) ws h g = g
  write_in block (statement.Definition d) ws h g = g
  write_in block (statement.Machine m) ws h g = g
  write_in block (statement.Include m) ws h g = g
  write_in block (statement.Alphtype m) ws h g = g
  write_in block (statement.Access m) ws h g = g
  write_in block (statement.Variable m) ws h g = g

  write_case : (b : Bool) (block : ℕ) (s : Statement) (ws : List Write) → StandsIn count s → Each IsWriteIn ws → Each IsWriteIn (if b then write_by ws block s else ws)
  write_case true block s ws h g = write_in block s ws h g
  write_case false block s ws h g = g

  writes_behind : (machine : List ℕ) (steps : List Step) (ws : List Write) → Each IsStepIn steps → Each IsWriteIn ws → Each IsWriteIn (fold (write_behind machine) ws steps)
  writes_behind machine [] ws h g = g
  writes_behind machine (s ∷ ss) ws h g = writes_behind machine ss (write_behind machine ws s) h.1 (write_case (is_own machine s) s.block s.statement ws h.0 g)

  pub writes_in : (machine : List ℕ) (steps : List Step) → Each IsStepIn steps → Each IsWriteIn (writes_of machine steps)
  writes_in machine steps h = writes_behind machine steps [] h tt
