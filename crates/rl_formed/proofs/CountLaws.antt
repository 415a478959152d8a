-- Where no fault of names is found, a machine has at most 65,535 names, and no more actions and definitions than names.
use Rattle.std.proofs.Common.{◌≡◌, ℕ, ◌+◌, ◌≤◌, ◌<◌, Bool, true, false, List, [], ◌∷◌, ◌++◌, length, None, Result, Ok, refl, sym, ap, ◌∙◌, subst, arith, append_assoc}
use Rattle.std.specs.Prelude.{nat_lt, fold, if◌then◌else◌}
use Rattle.std.specs.Str.{bytes_eq}
use Rattle.std.proofs.lemmas.Bool.Decides.{nat_tests}
use Rattle.std.proofs.lemmas.List.{length-append, append-nil}
use Rattle.std.proofs.lemmas.Slice.Eq.{bytes_eq-Decides}
use Rattle.rl_types.specs.declared.numbers.Place.{Place}
use Rattle.rl_grammar.specs.declared.read_fault.ReadFault.{ReadFault}
use Rattle.rl_grammar.specs.declared.syntax.Statement.{Statement}
use Rattle.rl_grammar.specs.declared.syntax.Statement.TheVariants as statement
use Rattle.rl_grammar.specs.declared.syntax.Definition.{Definition as Written}
use Rattle.rl_model.specs.declared.spec.ActionDef.{ActionDef}
use Rattle.rl_grammar.specs.declared.step.Step.{Step}
use Rattle.rl_draft.specs.declared.draft.Definition.{Definition}
use Rattle.rl_names.specs.Actions.{action_def, action_used, actions_by, actions_behind, actions_of}
use Rattle.rl_names.specs.Answers.{along}
use Rattle.rl_names.specs.Codes.{code_fault}
use Rattle.rl_names.specs.Drafts.{scope_behind, definition_read, definition_behind, definitions_by, definitions_behind, definitions_of}
use Rattle.rl_names.specs.Drafts as drafts
use Rattle.rl_names.specs.Entries.{entries_of}
use Rattle.rl_names.specs.Events.{Event, Found, value_events}
use Rattle.rl_names.specs.Events as event
use Rattle.rl_names.specs.Expressions.{Scope}
use Rattle.rl_names.specs.Frames.{is_of}
use Rattle.rl_names.specs.Names.{Known, known, codes_in, is_code, names_by, names_of, unless, too_many, counted, use_fault, uses_fault, name_fault, action_name_fault, statement_fault, step_fault, faults_behind, names_fault}
use Rattle.rl_formed.proofs.ResultLaws.{some_or_none, or_none, ok_then, same_ok, not_refused}

-- ---- names are counted

passed : (b : Bool) (e : ReadFault) → unless b e ≡ None → b ≡ true
passed true e h = refl
passed false e h = absurd (some_or_none e h)

below : (n : ℕ) → nat_lt n 65535 ≡ true → n < 65535
below n e = grind (arith, nat_tests)

counts : (n : ℕ) (place : Place) → counted n place ≡ None → n + 1 ≤ 65535
counts n place e = let l = below n (passed (nat_lt n 65535) (too_many place) e) in omega (arith, l)

uses_count : (k : Known) (machine : List ℕ) (n : ℕ) (es : Found) → n ≤ 65535 → uses_fault k machine n es ≡ None → n + codes_in es ≤ 65535
uses_count k machine n [] h e = omega (arith, h)
uses_count k machine n (event.Code w ∷ es) h e =
    let p = or_none (use_fault k machine n (event.Code w)) (uses_fault k machine (n + 1) es) e in
    let l = counts n w.place (or_none (counted n w.place) (code_fault w) p.0).0 in
    omega (arith, uses_count k machine (n + 1) es l p.1)
uses_count k machine n (event.Leaf o ∷ es) h e = let m : n + 0 ≤ 65535 = omega (arith, h) in omega (arith, uses_count k machine (n + 0) es m (or_none (use_fault k machine n (event.Leaf o)) (uses_fault k machine (n + 0) es) e).1)
uses_count k machine n (event.Name w ∷ es) h e = let m : n + 0 ≤ 65535 = omega (arith, h) in omega (arith, uses_count k machine (n + 0) es m (or_none (use_fault k machine n (event.Name w)) (uses_fault k machine (n + 0) es) e).1)
uses_count k machine n (event.Action w ∷ es) h e = let m : n + 0 ≤ 65535 = omega (arith, h) in omega (arith, uses_count k machine (n + 0) es m (or_none (use_fault k machine n (event.Action w)) (uses_fault k machine (n + 0) es) e).1)
uses_count k machine n (event.Priority w ∷ es) h e = let m : n + 0 ≤ 65535 = omega (arith, h) in omega (arith, uses_count k machine (n + 0) es m (or_none (use_fault k machine n (event.Priority w)) (uses_fault k machine (n + 0) es) e).1)
uses_count k machine n (event.Quiet place a ∷ es) h e = let m : n + 0 ≤ 65535 = omega (arith, h) in omega (arith, uses_count k machine (n + 0) es m (or_none (use_fault k machine n (event.Quiet place a)) (uses_fault k machine (n + 0) es) e).1)
uses_count k machine n (event.Embeds a ∷ es) h e = let m : n + 0 ≤ 65535 = omega (arith, h) in omega (arith, uses_count k machine (n + 0) es m (or_none (use_fault k machine n (event.Embeds a)) (uses_fault k machine (n + 0) es) e).1)
uses_count k machine n (event.Ends place ∷ es) h e = let m : n + 0 ≤ 65535 = omega (arith, h) in omega (arith, uses_count k machine (n + 0) es m (or_none (use_fault k machine n (event.Ends place)) (uses_fault k machine (n + 0) es) e).1)
uses_count k machine n (event.Barred place ∷ es) h e = let m : n + 0 ≤ 65535 = omega (arith, h) in omega (arith, uses_count k machine (n + 0) es m (or_none (use_fault k machine n (event.Barred place)) (uses_fault k machine (n + 0) es) e).1)
uses_count k machine n (event.Taken place w ∷ es) h e = let m : n + 0 ≤ 65535 = omega (arith, h) in omega (arith, uses_count k machine (n + 0) es m (or_none (use_fault k machine n (event.Taken place w)) (uses_fault k machine (n + 0) es) e).1)

statement_counts : (k : Known) (machine : List ℕ) (n : ℕ) (s : Statement) → n ≤ 65535 → statement_fault k machine n s ≡ None → n + names_by s ≤ 65535
statement_counts k machine n (statement.Definition d) h e =
    let p = or_none _ _ (or_none (name_fault k machine d.name) _ e).1 in
    let l = counts n d.name.place p.0 in
    omega (arith, uses_count k machine (n + 1) (value_events d.value) l p.1)
statement_counts k machine n (statement.Action a) h e = counts n a.name.place (or_none (counted n a.name.place) (code_fault a.code) (or_none (action_name_fault k machine a.name) _ e).1).0
statement_counts k machine n (statement.Machine m) h e = omega (arith, h)
statement_counts k machine n (statement.Include m) h e = omega (arith, h)
statement_counts k machine n (statement.Alphtype m) h e = omega (arith, h)
statement_counts k machine n (statement.Access m) h e = omega (arith, h)
statement_counts k machine n (statement.Variable m) h e = omega (arith, h)
statement_counts k machine n (statement.Write m) h e = omega (arith, h)

module _ (machine : List ℕ) where
  abbrev own : Step → ℕ
  own s = if bytes_eq machine s.machine then names_by s.statement else 0

  names_append : (xs ys : List Step) → names_of machine (xs ++ ys) ≡ names_of machine xs + names_of machine ys
  names_append [] ys = omega arith
  names_append (x ∷ xs) ys = ap (λ z. own x + z) (names_append xs ys) ∙ omega arith

  own_case : (b : Bool) (before : List Step) (s : Step) → bytes_eq machine s.machine ≡ b → names_of machine before ≤ 65535 → step_fault before s ≡ None
      → names_of machine before + (if b then names_by s.statement else 0) ≤ 65535
  own_case true before s is h e =
      let same = (bytes_eq-Decides machine s.machine).0 is in
      statement_counts (known before) machine (names_of machine before) s.statement h (subst (λ z. statement_fault (known before) z (names_of z before) s.statement ≡ None) (sym same) e)
  own_case false before s is h e = omega (arith, h)

  few_behind : (before ss : List Step) → names_of machine before ≤ 65535 → faults_behind before ss ≡ None → names_of machine (before ++ ss) ≤ 65535
  few_behind before [] h e = subst (λ z. names_of machine z ≤ 65535) (sym (append-nil before)) h
  few_behind before (s ∷ ss) h e =
      let p = or_none (step_fault before s) (faults_behind (before ++ s ∷ []) ss) e in
      let one = own_case (bytes_eq machine s.machine) before s refl h p.0 in
      let more : names_of machine (before ++ s ∷ []) ≤ 65535 = omega (arith, one, names_append before (s ∷ [])) in
      subst (λ z. names_of machine z ≤ 65535) (append_assoc before (s ∷ []) ss) (few_behind (before ++ s ∷ []) ss more p.1)

  pub few_names : (steps : List Step) → names_fault steps ≡ None → names_of machine steps ≤ 65535
  few_names steps e = few_behind [] steps (omega arith) e

  -- ---- actions

  one_action : (entries : List (List ℕ)) (e : Event) (actions : List ActionDef) → length (action_used entries actions e) ≡ length actions + is_code e
  one_action entries (event.Code w) actions = length-append actions _
  one_action entries (event.Leaf o) actions = omega arith
  one_action entries (event.Name w) actions = omega arith
  one_action entries (event.Action w) actions = omega arith
  one_action entries (event.Priority w) actions = omega arith
  one_action entries (event.Quiet place a) actions = omega arith
  one_action entries (event.Embeds a) actions = omega arith
  one_action entries (event.Ends place) actions = omega arith
  one_action entries (event.Barred place) actions = omega arith
  one_action entries (event.Taken place w) actions = omega arith

  event_actions : (entries : List (List ℕ)) (es : Found) (actions : List ActionDef) → length (fold (action_used entries) actions es) ≡ length actions + codes_in es
  event_actions entries [] actions = omega arith
  event_actions entries (e ∷ es) actions = event_actions entries es (action_used entries actions e) ∙ omega (arith, one_action entries e actions)

  statement_actions : (entries : List (List ℕ)) (s : Statement) (actions : List ActionDef) → length (actions_by entries actions s) ≤ length actions + names_by s
  statement_actions entries (statement.Definition d) actions = omega (arith, event_actions entries (value_events d.value) actions)
  statement_actions entries (statement.Action a) actions = let e = length-append actions (action_def entries a.name.text a.code ∷ []) in omega (arith, e)
  statement_actions entries (statement.Machine m) actions = omega arith
  statement_actions entries (statement.Include m) actions = omega arith
  statement_actions entries (statement.Alphtype m) actions = omega arith
  statement_actions entries (statement.Access m) actions = omega arith
  statement_actions entries (statement.Variable m) actions = omega arith
  statement_actions entries (statement.Write m) actions = omega arith

  action_case : (entries : List (List ℕ)) (b : Bool) (s : Statement) (actions : List ActionDef) → length (if b then actions_by entries actions s else actions) ≤ length actions + (if b then names_by s else 0)
  action_case entries true s actions = statement_actions entries s actions
  action_case entries false s actions = omega arith

  step_actions : (entries : List (List ℕ)) (ss : List Step) (actions : List ActionDef) → length (fold (actions_behind entries machine) actions ss) ≤ length actions + names_of machine ss
  step_actions entries [] actions = omega arith
  step_actions entries (s ∷ ss) actions = omega (arith, step_actions entries ss (actions_behind entries machine actions s), action_case entries (is_of machine s) s.statement actions)

  -- no more actions than names
  pub few_actions : (steps : List Step) → names_fault steps ≡ None → length (actions_of machine steps) ≤ 65535
  few_actions steps e = omega (arith, step_actions (entries_of machine steps) steps [], few_names steps e)

  -- ---- definitions

  one_more : (k : Scope) (earlier : List Definition) (d : Written) (ds : List Definition) → definition_behind k earlier d ≡ Ok ds → length ds ≡ length earlier + 1
  one_more k earlier d ds e =
      let n = not_refused _ _ _ ds e in
      let i = ok_then (definition_read (scope_behind k (drafts.names_of earlier) earlier d.name.text) d) (λ x. Ok (earlier ++ x ∷ [])) ds n.1 in
      ap length (sym (same_ok (earlier ++ i.0 ∷ []) ds i.2)) ∙ length-append earlier (i.0 ∷ [])

  same_count : (s : Statement) (earlier ds : List Definition) → ◌≡◌ {A = Result (List Definition) ReadFault} (Ok earlier) (Ok ds) → length ds ≤ length earlier + names_by s
  same_count s earlier ds e = let l = ap length (same_ok earlier ds e) in omega (arith, l)

  statement_definitions : (k : Scope) (s : Statement) (earlier ds : List Definition) → definitions_by k earlier s ≡ Ok ds → length ds ≤ length earlier + names_by s
  statement_definitions k (statement.Definition d) earlier ds e = let l = one_more k earlier d ds e in omega (arith, l)
  statement_definitions k (statement.Action a) earlier ds e = same_count (statement.Action a) earlier ds e
  statement_definitions k (statement.Machine m) earlier ds e = same_count (statement.Machine m) earlier ds e
  statement_definitions k (statement.Include m) earlier ds e = same_count (statement.Include m) earlier ds e
  statement_definitions k (statement.Alphtype m) earlier ds e = same_count (statement.Alphtype m) earlier ds e
  statement_definitions k (statement.Access m) earlier ds e = same_count (statement.Access m) earlier ds e
  statement_definitions k (statement.Variable m) earlier ds e = same_count (statement.Variable m) earlier ds e
  statement_definitions k (statement.Write m) earlier ds e = same_count (statement.Write m) earlier ds e

  definition_case : (b : Bool) (k : Scope) (s : Statement) (earlier ds : List Definition) → (if b then definitions_by k earlier s else Ok earlier) ≡ Ok ds → length ds ≤ length earlier + (if b then names_by s else 0)
  definition_case true k s earlier ds e = statement_definitions k s earlier ds e
  definition_case false k s earlier ds e = let l = ap length (same_ok earlier ds e) in omega (arith, l)

  step_definitions : (k : Scope) (ss : List Step) (earlier ds : List Definition) → along (definitions_behind k machine) earlier ss ≡ Ok ds → length ds ≤ length earlier + names_of machine ss
  step_definitions k [] earlier ds e = let l = ap length (same_ok earlier ds e) in omega (arith, l)
  step_definitions k (s ∷ ss) earlier ds e =
      let i = ok_then (definitions_behind k machine earlier s) (λ t. along (definitions_behind k machine) t ss) ds e in
      omega (arith, step_definitions k ss i.0 ds i.2, definition_case (is_of machine s) k s.statement earlier i.0 i.1)

  -- no more definitions than names
  pub few_definitions : (k : Scope) (steps : List Step) (ds : List Definition) → names_fault steps ≡ None → definitions_of k machine steps ≡ Ok ds → length ds ≤ 65535
  few_definitions k steps ds e d = omega (arith, step_definitions k steps [] ds d, few_names steps e)
