-- The drafts of a source's machines.
use Rattle.std.specs.Prelude.{ℕ, if◌then◌else◌, List, [], ◌∷◌, ◌++◌, map, Option, Some, None, Result, Ok, Err}
use Rattle.std.specs.List.{list_any}
use Rattle.std.specs.Str.{bytes_eq}
use Rattle.rl_types.specs.declared.faults.FaultKind.TheVariants.{F6}
use Rattle.rl_types.specs.declared.numbers.ActionId.{ActionId}
use Rattle.rl_grammar.specs.declared.read_fault.ReadFault.{ReadFault}
use Rattle.rl_grammar.specs.declared.syntax.Definition.{Definition as Written}
use Rattle.rl_grammar.specs.declared.syntax.DefinitionSign.{DefinitionSign}
use Rattle.rl_grammar.specs.declared.syntax.DefinitionSign.TheVariants as written
use Rattle.rl_grammar.specs.declared.syntax.Pattern.{Pattern as Listed, out-Pattern}
use Rattle.rl_grammar.specs.declared.syntax.PatternAction.{PatternAction}
use Rattle.rl_grammar.specs.declared.syntax.Scanner.{Scanner, out-Scanner}
use Rattle.rl_grammar.specs.declared.syntax.Statement.{Statement}
use Rattle.rl_grammar.specs.declared.syntax.Statement.TheVariants as statement
use Rattle.rl_grammar.specs.declared.syntax.Union.{Union}
use Rattle.rl_model.specs.declared.spec.ActionDef.{ActionDef}
use Rattle.rl_draft.specs.declared.draft.Definition.{Definition}
use Rattle.rl_draft.specs.declared.draft.Draft.{Draft}
use Rattle.rl_draft.specs.declared.draft.Pattern.{Pattern}
use Rattle.rl_draft.specs.declared.draft.Sign.{Sign}
use Rattle.rl_draft.specs.declared.draft.Sign.TheVariants as sign
use Rattle.rl_draft.specs.declared.draft.Value.{Value}
use Rattle.rl_draft.specs.declared.draft.Value.TheVariants as value
use Rattle.rl_names.specs.Actions.{actions_of, action_names}
use Rattle.rl_names.specs.Answers.{and_then, each, along}
use Rattle.rl_names.specs.Expressions.{Scope, union_told, action_read}
use Rattle.rl_names.specs.Frames.{is_of, alphabet_of, frame_of, writes_of, machines_of}
use Rattle.rl_names.specs.Leaves.{fault_at}
use Rattle.rl_names.specs.Priorities.{priorities_of}
use Rattle.rl_names.specs.Values.{scanner_of}
use Rattle.rl_grammar.specs.declared.step.Step.{Step}

-- ---- definitions

abbrev pub token_read : Scope → Option PatternAction → Result (Option ActionId) ReadFault
token_read k None = Ok None
token_read k (Some a) = and_then (action_read k a.action) (λ n. Ok (Some n))

abbrev pub pattern_read : Scope → Listed → Result Pattern ReadFault
pattern_read k p =
    and_then (union_told k (out-Pattern p).value).read (λ e.
    and_then (token_read k (out-Pattern p).action) (λ t. Ok (record { expression = e; token = t; place = (union_told k (out-Pattern p).value).place })))

abbrev pub scanner_read : Scope → Scanner → Result Value ReadFault
scanner_read k s =
    and_then (pattern_read k (out-Scanner s).first) (λ p.
    and_then (each (pattern_read k) (out-Scanner s).rest) (λ ps. Ok (value.Scanner (p ∷ ps) (out-Scanner s).opening)))

abbrev pub value_by : Scope → Union → Option Scanner → Result Value ReadFault
value_by k u None = and_then (union_told k u).read (λ e. Ok (value.Expression e))
value_by k u (Some s) = scanner_read k s

abbrev pub value_read : Scope → Union → Result Value ReadFault
value_read k u = value_by k u (scanner_of u)

abbrev pub sign_of : DefinitionSign → Sign
sign_of (written.Name place) = sign.Name
sign_of (written.Instantiation place) = sign.Instantiation

abbrev pub definition_read : Scope → Written → Result Definition ReadFault
definition_read k d = and_then (value_read k d.value) (λ v. Ok (record { name = d.name.text; place = d.name.place; sign = sign_of d.sign; value = v }))

abbrev pub names_of : List Definition → List (List ℕ)
names_of ds = map (λ d. d.name) ds

-- what a definition is read by, behind others with these names
abbrev pub scope_behind : Scope → List (List ℕ) → List Definition → List ℕ → Scope
scope_behind k names earlier owner = record k { earlier = earlier; names = names; owner = owner }

-- a definition is read by those before it, which have other names
abbrev pub definition_behind : Scope → List Definition → Written → Result (List Definition) ReadFault
definition_behind k earlier d =
    if list_any (bytes_eq d.name.text) (names_of earlier) then Err (fault_at F6 d.name.place)
    else and_then (definition_read (scope_behind k (names_of earlier) earlier d.name.text) d) (λ x. Ok (earlier ++ x ∷ []))

abbrev pub definitions_by : Scope → List Definition → Statement → Result (List Definition) ReadFault
definitions_by k earlier (statement.Definition d) = definition_behind k earlier d
definitions_by k earlier _ = Ok earlier

abbrev pub definitions_behind : Scope → List ℕ → List Definition → Step → Result (List Definition) ReadFault
definitions_behind k machine earlier s = if is_of machine s then definitions_by k earlier s.statement else Ok earlier

abbrev pub definitions_of : Scope → List ℕ → List Step → Result (List Definition) ReadFault
definitions_of k machine steps = along (definitions_behind k machine) [] steps

-- ---- drafts

-- what the expressions of a machine are read by, whose actions have these names
abbrev pub scope_of : List (List ℕ) → List ℕ → List Step → Scope
scope_of actions machine steps = record {
  alphabet = alphabet_of machine steps;
  actions = actions;
  priorities = priorities_of machine steps;
  earlier = [];
  names = [];
  owner = [];
}

-- a draft with these actions and definitions
abbrev pub draft_with : List Step → List ℕ → List ActionDef → List Definition → Draft
draft_with steps machine actions definitions = record {
  machine = machine;
  alphabet = alphabet_of machine steps;
  definitions = definitions;
  actions = actions;
  frame = frame_of machine steps;
  writes = writes_of machine steps;
}

-- the definitions of a machine with these actions
abbrev pub definitions_with : List Step → List ℕ → List ActionDef → Result (List Definition) ReadFault
definitions_with steps machine actions = and_then (action_names actions) (λ names. definitions_of (scope_of names machine steps) machine steps)

abbrev pub draft_of : List Step → List ℕ → Result Draft ReadFault
draft_of steps machine = and_then (definitions_with steps machine (actions_of machine steps)) (λ ds. Ok (draft_with steps machine (actions_of machine steps) ds))

-- the drafts of the machines, or the first refusal
abbrev pub drafts_of : List Step → Result (List Draft) ReadFault
drafts_of steps = each (draft_of steps) (machines_of steps)
