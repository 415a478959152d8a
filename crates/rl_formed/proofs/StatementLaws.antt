-- What a draft's actions say: their codes are read as their statements, and those that may have none have none.
use Rattle.std.proofs.Common.{◌≡◌, ℕ, ◌≤◌, List, [], ◌∷◌, map, length, None, refl, sym, subst}
use Rattle.std.specs.Prelude.{All}
use Rattle.rl_types.specs.declared.numbers.ActionId.{ActionId}
use Rattle.rl_grammar.specs.declared.step.Step.{Step}
use Rattle.rl_grammar.specs.declared.syntax.Statement.{Statement}
use Rattle.rl_grammar.specs.declared.syntax.Statement.TheVariants as statement
use Rattle.rl_automata.specs.Nodes.{Node}
use Rattle.rl_code.specs.Reading.{IsBlock, IsReadAs, statements_in}
use Rattle.rl_model.specs.declared.spec.ActionDef.{ActionDef}
use Rattle.rl_model.specs.Counts.{actions_in, turn_actions_in, trees_of, pattern_trees, token_actions}
use Rattle.rl_model.specs.Specification.{action_of}
use Rattle.rl_model.specs.WellFormed.{IsNumber, HasNoStatement, HasPatterns, outer_statements}
use Rattle.rl_draft.specs.declared.draft.Draft.{Draft}
use Rattle.rl_names.specs.Actions.{actions_of}
use Rattle.rl_names.specs.Checks.{leaves_fault}
use Rattle.rl_names.specs.Drafts.{scope_of, draft_with}
use Rattle.rl_names.specs.Entries.{entries_of}
use Rattle.rl_names.specs.Events.{Event, value_events}
use Rattle.rl_names.specs.Events as event
use Rattle.rl_names.specs.Names.{names_fault}
use Rattle.rl_names.specs.Patterns.{AreFit}
use Rattle.rl_rewrite.specs.Entries.{Made, meanings, entries, all_conditions}
use Rattle.rl_form.proofs.Lists.{Each, each_more, all, each}
use Rattle.rl_formed.specs.Laws as laws
use Rattle.rl_formed.proofs.ActionLaws.{HoldsOfEvent, HoldsOfStatement, HoldsOfOwn, all_actions}
use Rattle.rl_formed.proofs.CodeLaws.{IsRightCode, few_outer, read_as}
use Rattle.rl_formed.proofs.DraftLaws.{read}
use Rattle.rl_formed.proofs.EntryNameLaws.{entries_made}
use Rattle.rl_formed.proofs.FaultLaws.{Before, NamesEntries, right_codes, named_entries}
use Rattle.rl_formed.proofs.NameLaws.{actions_differ}
use Rattle.rl_formed.proofs.QuietLaws.{IsKnown, quiet_embedding, all_known}
use Rattle.rl_formed.proofs.FitLaws.{fit_patterns}
use Rattle.rl_formed.proofs.PatternLaws.{IsFitMade, fit_entries}
use Rattle.rl_formed.proofs.TurnLaws as turning

-- ---- statements as they are read

module _ (entries : List (List ℕ)) where
  abbrev IsStated : ActionDef → Type 0
  IsStated a = a.statements ≡ statements_in entries a.code

  event_stated : (e : Event) → HoldsOfEvent IsStated entries e
  event_stated (event.Code w) = refl
  event_stated (event.Leaf o) = tt
  event_stated (event.Name w) = tt
  event_stated (event.Action w) = tt
  event_stated (event.Priority w) = tt
  event_stated (event.Quiet place a) = tt
  event_stated (event.Embeds a) = tt
  event_stated (event.Ends place) = tt
  event_stated (event.Barred place) = tt
  event_stated (event.Taken place w) = tt

  events_stated : (es : List Event) → Each (HoldsOfEvent IsStated entries) es
  events_stated [] = tt
  events_stated (e ∷ es) = (event_stated e, events_stated es)

  stated : (s : Statement) → HoldsOfStatement IsStated entries s
  stated (statement.Action a) = refl
  stated (statement.Definition d) = events_stated (value_events d.value)
  stated (statement.Machine m) = tt
  stated (statement.Include m) = tt
  stated (statement.Alphtype m) = tt
  stated (statement.Access m) = tt
  stated (statement.Variable m) = tt
  stated (statement.Write m) = tt

  -- ---- codes are blocks

  abbrev HasBlock : ActionDef → Type 0
  HasBlock a = IsBlock a.code

  event_block : (e : Event) → laws.IsUsedAsWritten e → HoldsOfEvent HasBlock entries e
  event_block (event.Code w) h = h.1
  event_block (event.Leaf o) h = tt
  event_block (event.Name w) h = tt
  event_block (event.Action w) h = tt
  event_block (event.Priority w) h = tt
  event_block (event.Quiet place a) h = tt
  event_block (event.Embeds a) h = tt
  event_block (event.Ends place) h = tt
  event_block (event.Barred place) h = tt
  event_block (event.Taken place w) h = tt

  block : (s : Statement) → laws.IsWritten s → HoldsOfStatement HasBlock entries s
  block (statement.Action a) h = h.1
  block (statement.Definition d) h = each_more laws.IsUsedAsWritten (HoldsOfEvent HasBlock entries) (value_events d.value) event_block (each laws.IsUsedAsWritten (value_events d.value) h.1)
  block (statement.Machine m) h = tt
  block (statement.Include m) h = tt
  block (statement.Alphtype m) h = tt
  block (statement.Access m) h = tt
  block (statement.Variable m) h = tt
  block (statement.Write m) h = tt

all_stated : (machine : List ℕ) (steps : List Step) → Each (IsStated (entries_of machine steps)) (actions_of machine steps)
all_stated machine steps = all_actions (IsStated (entries_of machine steps)) machine steps (each_step steps)
  where
    each_step : (ss : List Step) → Each (HoldsOfOwn (IsStated (entries_of machine steps)) (entries_of machine steps) machine) ss
    each_step [] = tt
    each_step (s ∷ ss) = ((λ own. stated (entries_of machine steps) s.statement), each_step ss)

all_blocks : (machine : List ℕ) (steps : List Step) → laws.AreWritten steps → Each (λ (a : ActionDef). IsBlock a.code) (actions_of machine steps)
all_blocks machine steps w =
    let entries = entries_of machine steps in
    all_actions (λ (a : ActionDef). IsBlock a.code) machine steps
    (each_more (λ (s : Step). laws.IsWritten s.statement) (HoldsOfOwn (λ (a : ActionDef). IsBlock a.code) entries machine) steps (λ s k own. block entries s.statement k) (each (λ (s : Step). laws.IsWritten s.statement) steps w))

all_right : (machine : List ℕ) (steps : List Step) → names_fault steps ≡ None → Each (λ (a : ActionDef). IsRightCode a.code) (actions_of machine steps)
all_right machine steps none = all_actions (λ (a : ActionDef). IsRightCode a.code) machine steps (right_codes (entries_of machine steps) machine steps none)

all_named : (machine : List ℕ) (steps : List Step) → leaves_fault steps ≡ None → Each (NamesEntries (entries_of machine steps) machine) (actions_of machine steps)
all_named machine steps none = all_actions (NamesEntries (entries_of machine steps) machine) machine steps (named_entries machine steps none)

-- ---- codes are read

few_one : (names : List (List ℕ)) (actions : List ActionDef) → Each (IsStated names) actions → Each (λ (a : ActionDef). IsRightCode a.code) actions → Each (λ (a : ActionDef). outer_statements a.statements ≤ 4) actions
few_one names [] s r = tt
few_one names (a ∷ rest) s r = (subst (λ z. outer_statements z ≤ 4) (sym s.0) (few_outer names a.code r.0.few), few_one names rest s.1 r.1)

read_one : (names : List (List ℕ)) (machine : List ℕ) (actions : List ActionDef) → Each (IsStated names) actions → Each (λ (a : ActionDef). IsBlock a.code) actions → Each (λ (a : ActionDef). IsRightCode a.code) actions
    → Each (NamesEntries names machine) actions → Each (λ (a : ActionDef). IsReadAs names a.code a.statements) actions
read_one names machine [] s b r n = tt
read_one names machine (a ∷ rest) s b r n = (subst (IsReadAs names a.code) (sym s.0) (read_as names a.code b.0 r.0 n.0), read_one names machine rest s.1 b.1 r.1 n.1)

pub have_few_statements : laws.OfNamed laws.HasFewStatements
have_few_statements steps machine draft none h =
    let actions = actions_of machine steps in
    subst laws.HasFewStatements (read steps machine draft h).is
    (all (λ (a : ActionDef). outer_statements a.statements ≤ 4) actions (few_one (entries_of machine steps) actions (all_stated machine steps) (all_right machine steps none)))

pub have_read_codes : laws.OfAccepted laws.HasReadCodes
have_read_codes steps machine draft w none leaves h =
    let r = read steps machine draft h in
    let actions = actions_of machine steps in
    let d = draft_with steps machine actions r.definitions in
    let P = λ (names : List (List ℕ)) (a : ActionDef). IsReadAs names a.code a.statements in
    let names = entries_of machine steps in
    let same = entries_made (scope_of r.names machine steps) machine steps r.definitions d.alphabet r.defined in
    let codes = read_one names machine actions (all_stated machine steps) (all_blocks machine steps w) (all_right machine steps none) (all_named machine steps leaves) in
    subst laws.HasReadCodes r.is (all (P (laws.entry_names d)) actions (subst (λ z. Each (P z) actions) same codes))

-- ---- actions without statements

record IsQuietDraft (draft : Draft) : Type 0 where
  conditions : laws.HasQuietConditions draft
  turns : laws.HasQuietTurns draft

quiet_draft : laws.OfNamed IsQuietDraft
quiet_draft steps machine draft none h =
    let r = read steps machine draft h in
    let actions = actions_of machine steps in
    let d = draft_with steps machine actions r.definitions in
    let named = actions_differ actions r.names r.named in
    let quiet = turning.quiet_entries actions d.alphabet (Before steps) (IsKnown machine steps named.1) (scope_of r.names machine steps) machine steps r.definitions refl named.0
    (quiet_embedding machine steps named.1) (λ i at h. tt) (all_known machine steps named.1 none) r.defined in
    let Q = λ (n : ℕ). HasNoStatement (map action_of actions) n in
    let P = λ (m : Made). All (λ (t : Node). All Q (turn_actions_in t)) (trees_of m.root) in
    subst IsQuietDraft r.is (record {
      conditions = all (λ (a : ActionId). Q a.0) (all_conditions [] (meanings d)) quiet.1;
      turns = all P (entries [] (meanings d)) (each_more (turning.HasQuietTurns actions) P (entries [] (meanings d))
          (λ m k. all (λ (t : Node). All Q (turn_actions_in t)) (trees_of m.root) (each_more (λ t. Each Q (turn_actions_in t)) (λ t. All Q (turn_actions_in t)) (trees_of m.root) (λ t e. all Q (turn_actions_in t) e) k)) quiet.0);
    })

-- ---- patterns

record HasFitScanners (draft : Draft) : Type 0 where
  patterns : laws.HasPatternsIn draft
  tokens : laws.HasOwnTokens draft
  quiet : laws.HasQuietPatterns draft

of_each : {X : Type 0} (P Q : X → Type 0) (xs : List X) → ((x : X) → P x → Q x) → Each P xs → All Q xs
of_each P Q xs f h = all Q xs (each_more P Q xs f h)

fit_draft : (draft : Draft) → AreFit draft → HasFitScanners draft
fit_draft draft h =
    let made = entries [] (meanings draft) in
    let P = IsFitMade draft.actions draft.alphabet in
    let count = length draft.actions in
    let Q = λ (n : ℕ). HasNoStatement (map action_of draft.actions) n in
    let fit = fit_entries draft.actions draft.alphabet draft.definitions h in
    record {
      patterns = of_each P (λ m. HasPatterns m.root) made (λ m k. k.patterns) fit;
      tokens = of_each P (λ m. All (IsNumber count) (token_actions m.root)) made (λ m k. all (IsNumber count) (token_actions m.root) k.tokens) fit;
      quiet = of_each P (λ m. All (λ (t : Node). All Q (actions_in t)) (pattern_trees m.root)) made
          (λ m k. of_each (λ t. Each Q (actions_in t)) (λ t. All Q (actions_in t)) (pattern_trees m.root) (λ t e. all Q (actions_in t) e) k.quiet) fit;
    }

fit_named : laws.OfNamed HasFitScanners
fit_named steps machine draft none h =
    let r = read steps machine draft h in
    let actions = actions_of machine steps in
    let d = draft_with steps machine actions r.definitions in
    let named = actions_differ actions r.names r.named in
    subst HasFitScanners r.is (fit_draft d (fit_patterns machine steps named.1 (scope_of r.names machine steps) r.definitions named.0 none r.defined))

pub have_patterns : laws.OfNamed laws.HasPatternsIn
have_patterns steps machine draft none h = (fit_named steps machine draft none h).patterns

pub have_own_tokens : laws.OfNamed laws.HasOwnTokens
have_own_tokens steps machine draft none h = (fit_named steps machine draft none h).tokens

pub have_quiet_patterns : laws.OfNamed laws.HasQuietPatterns
have_quiet_patterns steps machine draft none h = (fit_named steps machine draft none h).quiet

pub have_quiet_conditions : laws.OfNamed laws.HasQuietConditions
have_quiet_conditions steps machine draft none h = (quiet_draft steps machine draft none h).conditions

pub have_quiet_turns : laws.OfNamed laws.HasQuietTurns
have_quiet_turns steps machine draft none h = (quiet_draft steps machine draft none h).turns
