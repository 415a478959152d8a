-- What a draft is read as.
use Rattle.std.proofs.Common.{◌≡◌, refl, ℕ, List, [], length, Ok, ap, ◌∙◌, subst, arith}
use Rattle.std.specs.Prelude.{All, IsTrue, ◌||◌}
use Rattle.rl_grammar.specs.declared.syntax.Statement.{Statement}
use Rattle.rl_grammar.specs.declared.syntax.Statement.TheVariants as statement
use Rattle.rl_arrays.specs.Names.{is_name, is_place, is_action_name}
use Rattle.rl_names.specs.Events.{Event, value_events}
use Rattle.rl_names.specs.Events as event
use Rattle.rl_names.specs.Frames.{machines_of, writes_of}
use Rattle.rl_types.specs.declared.numbers.ActionId.{ActionId}
use Rattle.std.proofs.lemmas.List.{length-map}
use Rattle.rl_automata.specs.Nodes.{Node}
use Rattle.std.specs.List.{flat_map}
use Rattle.rl_automata.specs.Refused.{sets_in}
use Rattle.rl_model.specs.Counts.{actions_in, trees_of}
use Rattle.rl_model.specs.WellFormed.{IsNumber}
use Rattle.rl_model.specs.declared.spec.ActionDef.{ActionDef}
use Rattle.rl_grammar.specs.declared.step.Step.{Step}
use Rattle.rl_draft.specs.declared.draft.Definition.{Definition}
use Rattle.rl_draft.specs.declared.draft.Draft.{Draft}
use Rattle.rl_names.specs.Actions.{actions_of, action_names}
use Rattle.rl_names.specs.Entries.{entries_of}
use Rattle.rl_names.specs.Drafts.{definitions_of, scope_of, definitions_with, draft_with, draft_of}
use Rattle.rl_rewrite.specs.Entries.{Made, meanings, entries, all_conditions}
use Rattle.rl_form.proofs.Lists.{Each, each_more, all, each}
use Rattle.rl_formed.specs.Laws as laws
use Rattle.rl_formed.proofs.ResultLaws.{ok_then, same_ok}
use Rattle.rl_formed.proofs.ActionLaws.{HoldsOfEvent, HoldsOfStatement, HoldsOfOwn, all_actions}
use Rattle.rl_formed.proofs.NameLaws.{actions_differ, definitions_differ, entries_differ, fewer_entries}
use Rattle.rl_formed.proofs.EmbeddedLaws.{EmbedsOwn, own_actions}
use Rattle.rl_formed.proofs.WrittenLaws.{HoldsOfName, HoldsOfStep, machines_named, all_named}
use Rattle.rl_formed.proofs.PlaceNameLaws.{anonymous_named}
use Rattle.rl_formed.proofs.SetLaws.{IsFew, all_few}
use Rattle.rl_formed.proofs.FileLaws as files
use Rattle.rl_formed.proofs.CountLaws.{few_actions, few_definitions}

-- the names of its actions, its definitions, and what it is
pub record IsRead (steps : List Step) (machine : List ℕ) (draft : Draft) : Type 0 where
  pub names : List (List ℕ)
  pub definitions : List Definition
  pub named : action_names (actions_of machine steps) ≡ Ok names
  pub defined : definitions_of (scope_of names machine steps) machine steps ≡ Ok definitions
  pub is : draft_with steps machine (actions_of machine steps) definitions ≡ draft

pub read : (steps : List Step) (machine : List ℕ) (draft : Draft) → draft_of steps machine ≡ Ok draft → IsRead steps machine draft
read steps machine draft h =
    let i = ok_then (definitions_with steps machine (actions_of machine steps)) (λ ds. Ok (draft_with steps machine (actions_of machine steps) ds)) draft h in
    let j = ok_then (action_names (actions_of machine steps)) (λ names. definitions_of (scope_of names machine steps) machine steps) i.0 i.1 in
    record {
      names = j.0;
      definitions = i.0;
      named = j.1;
      defined = j.2;
      is = same_ok (draft_with steps machine (actions_of machine steps) i.0) draft i.2;
    }

pub have_own_actions : laws.OfDrafts laws.HasOwnActions
have_own_actions steps machine draft h =
    let r = read steps machine draft h in
    subst laws.HasOwnActions r.is (actions_differ (actions_of machine steps) r.names r.named).1

pub have_own_entries : laws.OfDrafts laws.HasOwnEntries
have_own_entries steps machine draft h =
    let r = read steps machine draft h in
    let d = draft_with steps machine (actions_of machine steps) r.definitions in
    subst laws.HasOwnEntries r.is (entries_differ [] d.alphabet r.definitions (definitions_differ (scope_of r.names machine steps) machine steps r.definitions r.defined))

pub have_few_actions : laws.OfNamed laws.HasFewActions
have_few_actions steps machine draft none h = subst laws.HasFewActions (read steps machine draft h).is (few_actions machine steps none)

pub have_few_entries : laws.OfNamed laws.HasFewEntries
have_few_entries steps machine draft none h =
    let r = read steps machine draft h in
    let d = draft_with steps machine (actions_of machine steps) r.definitions in
    let few = few_definitions machine (scope_of r.names machine steps) steps r.definitions none r.defined in
    let fewer = fewer_entries [] d.alphabet r.definitions in
    let whole : laws.HasFewEntries d = omega (arith, few, fewer) in
    subst laws.HasFewEntries r.is whole

-- of a draft: its actions are embedded, and its conditions are among them
record OwnsActions (draft : Draft) : Type 0 where
  entries : laws.EmbedsOwnActions draft
  conditions : laws.HasOwnConditions draft

owns_actions : laws.OfDrafts OwnsActions
owns_actions steps machine draft h =
    let r = read steps machine draft h in
    let actions = actions_of machine steps in
    let d = draft_with steps machine actions r.definitions in
    let count = length actions in
    let same : length r.names ≡ count = ap length (actions_differ actions r.names r.named).0 ∙ length-map actions (λ (a : ActionDef). a.name) in
    let held = own_actions count d.alphabet (scope_of r.names machine steps) machine steps r.definitions refl same r.defined in
    let P = λ (m : Made). All (λ (t : Node). All (IsNumber count) (actions_in t)) (trees_of m.root) in
    subst OwnsActions r.is (record {
      entries = all P (entries [] (meanings d)) (each_more (EmbedsOwn count) P (entries [] (meanings d))
          (λ m k. all (λ (t : Node). All (IsNumber count) (actions_in t)) (trees_of m.root) (each_more (λ t. Each (IsNumber count) (actions_in t)) (λ t. All (IsNumber count) (actions_in t)) (trees_of m.root) (λ t e. all (IsNumber count) (actions_in t) e) k)) held.0);
      conditions = all (λ (a : ActionId). IsNumber count a.0) (all_conditions [] (meanings d)) held.1;
    })

pub embed_own_actions : laws.OfDrafts laws.EmbedsOwnActions
embed_own_actions steps machine draft h = (owns_actions steps machine draft h).entries

pub have_own_conditions : laws.OfDrafts laws.HasOwnConditions
have_own_conditions steps machine draft h = (owns_actions steps machine draft h).conditions

-- ---- names

abbrev IsNamed : List ℕ → Type 0
IsNamed name = IsTrue (is_name name)

abbrev IsCalled : ActionDef → Type 0
IsCalled a = IsTrue (is_action_name a.name)

named_as_written : (s : Statement) → laws.IsWritten s → HoldsOfName IsNamed s
named_as_written (statement.Machine m) h = h
named_as_written (statement.Definition d) h = h.0
named_as_written (statement.Action a) h = tt
named_as_written (statement.Include m) h = tt
named_as_written (statement.Alphtype m) h = tt
named_as_written (statement.Access m) h = tt
named_as_written (statement.Variable m) h = tt
named_as_written (statement.Write m) h = tt

used_as_written : (entries : List (List ℕ)) (e : Event) → laws.IsUsedAsWritten e → HoldsOfEvent IsCalled entries e
used_as_written entries (event.Code w) h = anonymous_named w.place h.0.0 h.0.1 h.0.2
used_as_written entries (event.Leaf o) h = tt
used_as_written entries (event.Name w) h = tt
used_as_written entries (event.Action w) h = tt
used_as_written entries (event.Priority w) h = tt
used_as_written entries (event.Quiet place a) h = tt
used_as_written entries (event.Embeds a) h = tt
used_as_written entries (event.Ends place) h = tt
used_as_written entries (event.Barred place) h = tt
used_as_written entries (event.Taken place w) h = tt

called_as_written : (entries : List (List ℕ)) (s : Statement) → laws.IsWritten s → HoldsOfStatement IsCalled entries s
called_as_written entries (statement.Action a) h = ap (λ z. z || is_place a.name.text) h.0
called_as_written entries (statement.Definition d) h =
    each_more laws.IsUsedAsWritten (HoldsOfEvent IsCalled entries) (value_events d.value) (used_as_written entries) (each laws.IsUsedAsWritten (value_events d.value) h.1)
called_as_written entries (statement.Machine m) h = tt
called_as_written entries (statement.Include m) h = tt
called_as_written entries (statement.Alphtype m) h = tt
called_as_written entries (statement.Access m) h = tt
called_as_written entries (statement.Variable m) h = tt
called_as_written entries (statement.Write m) h = tt

steps_named : (steps : List Step) → laws.AreWritten steps → Each (HoldsOfStep IsNamed) steps
steps_named steps h =
    each_more (λ (s : Step). laws.IsWritten s.statement) (HoldsOfStep IsNamed) steps (λ s k. named_as_written s.statement k) (each (λ (s : Step). laws.IsWritten s.statement) steps h)

pub have_named_entries : laws.OfWritten laws.HasNamedEntries
have_named_entries steps machine draft w h =
    let r = read steps machine draft h in
    let d = draft_with steps machine (actions_of machine steps) r.definitions in
    subst laws.HasNamedEntries r.is (all (λ (m : Made). IsNamed m.name) (entries [] (meanings d))
    (all_named IsNamed (scope_of r.names machine steps) machine steps r.definitions d.alphabet (steps_named steps w) r.defined))

pub have_named_actions : laws.OfWritten laws.HasNamedActions
have_named_actions steps machine draft w h =
    let actions = actions_of machine steps in
    let entries = entries_of machine steps in
    subst laws.HasNamedActions (read steps machine draft h).is (all IsCalled actions (all_actions IsCalled machine steps
    (each_more (λ (s : Step). laws.IsWritten s.statement) (HoldsOfOwn IsCalled entries machine) steps (λ s k own. called_as_written entries s.statement k) (each (λ (s : Step). laws.IsWritten s.statement) steps w))))

pub have_named_machines : laws.HaveNamedMachines
have_named_machines steps w = all IsNamed (machines_of steps) (machines_named IsNamed steps (steps_named steps w))

-- ---- sets

pub have_small_sets : laws.OfDrafts laws.HasSmallSets
have_small_sets steps machine draft h =
    let r = read steps machine draft h in
    let d = draft_with steps machine (actions_of machine steps) r.definitions in
    let few = all_few d.alphabet (scope_of r.names machine steps) machine steps r.definitions refl r.defined in
    let P = λ (m : Made). All (IsFew d.alphabet) (flat_map sets_in (trees_of m.root)) in
    subst laws.HasSmallSets r.is (all P (entries [] (meanings d)) (each_more (λ (m : Made). Each (IsFew d.alphabet) (flat_map sets_in (trees_of m.root))) P (entries [] (meanings d))
    (λ m k. all (IsFew d.alphabet) (flat_map sets_in (trees_of m.root)) k) few))

-- ---- files

pub have_actions_in : laws.OfFiles laws.HasActionsIn
have_actions_in count steps machine draft w h =
    let actions = actions_of machine steps in
    subst (laws.HasActionsIn count) (read steps machine draft h).is (all (files.IsActionIn count) actions (files.actions_in count machine steps (each (files.IsStepIn count) steps w)))

pub have_writes_in : laws.OfFiles laws.HasWritesIn
have_writes_in count steps machine draft w h =
    let writes = writes_of machine steps in
    subst (laws.HasWritesIn count) (read steps machine draft h).is (all (files.IsWriteIn count) writes (files.writes_in count machine steps (each (files.IsStepIn count) steps w)))
