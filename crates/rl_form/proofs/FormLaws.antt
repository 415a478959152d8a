-- A Spec is well-formed exactly where its parts are as is asked.
use Rattle.std.proofs.Common.{◌≡◌, ◌≢◌, ℕ, ◌+◌, ◌≤◌, List, [], ◌∷◌, ◌++◌, length, map, Bool, Option, None, Some, Result, Ok, Err, refl, sym, ap, ◌∙◌, subst, arith}
use Rattle.std.specs.Prelude.{◌↔◌, IsTrue, IsSome, IfSome, IfOk, slice_get, sum_by, option_to_list, All}
use Rattle.std.specs.List.{flat_map}
use Rattle.std.specs.Option.{option_map}
use Rattle.std.proofs.lemmas.List.Sums.{sum_by-cons}
use Rattle.rl_types.specs.declared.numbers.ActionId.{ActionId}
use Rattle.rl_types.specs.declared.numbers.Memory.{Memory}
use Rattle.rl_run.specs.declared.statements.Statement.{Statement}
use Rattle.rl_automata.specs.Nodes.{Node, node_of}
use Rattle.rl_automata.specs.Scans.{Pattern}
use Rattle.rl_automata.specs.Refused.{sets_in, conditions_in}
use Rattle.rl_arrays.specs.Names.{is_name, is_action_name}
use Rattle.rl_arrays.specs.Statements.{names_entry}
use Rattle.rl_model.specs.declared.spec.Pattern as rust_pattern
use Rattle.rl_model.specs.declared.spec.Root as rust_root
use Rattle.rl_model.specs.declared.spec.Root.TheVariants as R
use Rattle.rl_model.specs.declared.spec.Entry as rust_entry
use Rattle.rl_model.specs.declared.spec.ActionDef.{ActionDef}
use Rattle.rl_model.specs.declared.spec.Write.{Write}
use Rattle.rl_model.specs.declared.spec.Spec.{Spec}
use Rattle.rl_model.specs.Specification as model
use Rattle.rl_model.specs.Specification.{Root, Action, specification_of, pattern_of, root_of, roots_of, entry_of, action_of, numbered}
use Rattle.rl_model.specs.Counts.{size_of, depth_of, deepest, root_size, root_depth, trees_of, pattern_trees, token_actions, actions_in, turn_actions_in, stamps_in}
use Rattle.rl_model.specs.WellFormed.{IsWellFormed, IsNumber, HasNoStatement, HasPlaces, HasPatterns, all_trees, all_statements, all_places, pattern_places, quiet_actions, outer_statements}
use Rattle.rl_form.specs.declared.scope.Scope.{Scope}
use Rattle.rl_model.proofs.CodeLaws.{IsStatement, spec_statements}
use Rattle.rl_form.specs.Parts.{IsPattern, IsRoot, IsQuiet, HasQuietActions, IsQuietRoot, IsEntry, IsAction, IsWrite, IsCondition, HasFile, HasParts, scope_of}
use Rattle.rl_form.proofs.Lists.{Each, each_append, each_front, each_behind, each_more, each_map, each_mapped, each_flat, each_of_flat, each_flat_flat, each_of_flat_flat, each_at, each_from, all, each}
use Rattle.rl_form.proofs.QuietLaws.{quiet_number, number_quiet, turns, quiet_turns, embedded, quiet_embedded, turns_embedded}
use Rattle.rl_form.proofs.TreeLaws.{IsKeySet, IsFewRanges, SaysTree, says, sound}

-- ---- patterns

module _ (scope : Scope) where
  -- what holds of each pattern, of those that the model has
  of_patterns : (P : Pattern → Type 0) (ps : List rust_pattern.Pattern) → ((p : rust_pattern.Pattern) → IsPattern scope p → P (pattern_of p)) → Each (IsPattern scope) ps → Each P (map pattern_of ps)
  of_patterns P ps f h = each_map P pattern_of ps (each_more (IsPattern scope) (λ p. P (pattern_of p)) ps f h)

  -- and of their expressions
  of_pattern_trees : (P : Node → Type 0) (ps : List rust_pattern.Pattern) → ((t : Node) → SaysTree scope t → P t) → Each (IsPattern scope) ps → Each P (map (λ p. p.tree) (map pattern_of ps))
  of_pattern_trees P ps f h = each_map P (λ p. p.tree) (map pattern_of ps) (of_patterns (λ p. P p.tree) ps (λ p k. f (node_of p.tree) (says scope (node_of p.tree) k.sound)) h)

  not_deep_ones : (ps : List rust_pattern.Pattern) → Each (IsPattern scope) ps → deepest (map pattern_of ps) ≤ 2000
  not_deep_ones [] h = omega arith
  not_deep_ones (p ∷ ps) h =
      let first = h.0.not_deep in
      let rest = not_deep_ones ps h.1 in
      omega (arith, first, rest)

  tokens_of : (o : Option ActionId) → IfSome o (λ (a : ActionId). IsNumber scope.actions a.0) → Each (IsNumber scope.actions) (option_to_list (option_map (λ (a : ActionId). a.0) o))
  tokens_of None h = tt
  tokens_of (Some a) h = (h, tt)

  of_tokens : (o : Option ActionId) → Each (IsNumber scope.actions) (option_to_list (option_map (λ (a : ActionId). a.0) o)) → IfSome o (λ (a : ActionId). IsNumber scope.actions a.0)
  of_tokens None h = tt
  of_tokens (Some a) h = h.0

-- the nodes of patterns are those of their expressions
sizes_of : (ps : List rust_pattern.Pattern) → sum_by (λ (p : Pattern). size_of p.tree) (map pattern_of ps) ≡ sum_by (λ (p : rust_pattern.Pattern). size_of (node_of p.tree)) ps
sizes_of [] = refl
sizes_of (p ∷ ps) =
    sum_by-cons (λ (p : Pattern). size_of p.tree) (pattern_of p) (map pattern_of ps)
    ∙ (ap (λ n. size_of (node_of p.tree) + n) (sizes_of ps) ∙ sym (sum_by-cons (λ (p : rust_pattern.Pattern). size_of (node_of p.tree)) p ps))

no_model_pattern : (ps : List rust_pattern.Pattern) → ps ≢ [] → map pattern_of ps ≢ []
no_model_pattern [] n e = n refl
no_model_pattern (p ∷ ps) n e = absurd (cc)

no_pattern : (ps : List rust_pattern.Pattern) → map pattern_of ps ≢ [] → ps ≢ []
no_pattern ps n e = n (ap (map pattern_of) e)

-- ---- entries

-- what is asked of an entry's expression, by the words of the Spec
pub record SaysRoot (scope : Scope) (x : Root) : Type 0 where
  pub nodes : root_size x ≤ 100000
  pub not_deep : root_depth x ≤ 2000
  pub patterns : HasPatterns x
  pub actions : Each (λ t. Each (IsNumber scope.actions) (actions_in t)) (trees_of x)
  pub tokens : Each (IsNumber scope.actions) (token_actions x)
  pub conditions : Each (λ t. Each (IsNumber scope.conditions) (conditions_in t)) (trees_of x)
  pub stamps : Each (λ t. Each (IsNumber 100000) (stamps_in t)) (trees_of x)
  pub keys : Each (λ t. Each (IsKeySet scope) (sets_in t)) (trees_of x)
  pub ranges : Each (λ t. Each IsFewRanges (sets_in t)) (trees_of x)

-- an entry's expression has as many nodes as it has places
size_of_root : (scope : Scope) (n : ℕ) (x : rust_root.Root) → IsRoot scope n x → n ≡ root_size (root_of x)
size_of_root scope n (R.Plain t) h = sym h.nodes
size_of_root scope n (R.Scanner ps) h = sym h.nodes ∙ sym (ap (λ n. n + 1) (sizes_of ps))

says_root : (scope : Scope) (n : ℕ) (x : rust_root.Root) → n ≤ 100000 → IsRoot scope n x → SaysRoot scope (root_of x)
says_root scope n (R.Plain t) few h =
    let p = says scope (node_of t) h.sound in
    let size = h.nodes in
    record {
      nodes = omega (arith, size, few);
      not_deep = h.not_deep;
      patterns = tt;
      actions = (p.actions, tt);
      tokens = tt;
      conditions = (p.conditions, tt);
      stamps = (p.stamps, tt);
      keys = (p.keys, tt);
      ranges = (p.ranges, tt);
    }
says_root scope n (R.Scanner ps) few h =
    let size : n ≡ root_size (root_of (R.Scanner ps)) = size_of_root scope n (R.Scanner ps) h in
    let each_one = each (IsPattern scope) ps h.patterns in
    record {
      nodes = subst (λ m. m ≤ 100000) size few;
      not_deep = not_deep_ones scope ps each_one;
      patterns = no_model_pattern ps h.some_pattern;
      actions = of_pattern_trees scope (λ t. Each (IsNumber scope.actions) (actions_in t)) ps (λ t p. p.actions) each_one;
      tokens = each_flat (IsNumber scope.actions) (λ (p : Pattern). option_to_list p.token) (map pattern_of ps)
          (of_patterns scope (λ (p : Pattern). Each (IsNumber scope.actions) (option_to_list p.token)) ps (λ p k. tokens_of scope p.token k.token) each_one);
      conditions = of_pattern_trees scope (λ t. Each (IsNumber scope.conditions) (conditions_in t)) ps (λ t p. p.conditions) each_one;
      stamps = of_pattern_trees scope (λ t. Each (IsNumber 100000) (stamps_in t)) ps (λ t p. p.stamps) each_one;
      keys = of_pattern_trees scope (λ t. Each (IsKeySet scope) (sets_in t)) ps (λ t p. p.keys) each_one;
      ranges = of_pattern_trees scope (λ t. Each IsFewRanges (sets_in t)) ps (λ t p. p.ranges) each_one;
    }

-- patterns, by the words of the Spec
patterns_say : (scope : Scope) (ps : List rust_pattern.Pattern)
    → deepest (map pattern_of ps) ≤ 2000
    → Each (λ t. Each (IsNumber scope.actions) (actions_in t)) (map (λ (p : Pattern). p.tree) (map pattern_of ps))
    → Each (IsNumber scope.actions) (flat_map (λ (p : Pattern). option_to_list p.token) (map pattern_of ps))
    → Each (λ t. Each (IsNumber scope.conditions) (conditions_in t)) (map (λ (p : Pattern). p.tree) (map pattern_of ps))
    → Each (λ t. Each (IsNumber 100000) (stamps_in t)) (map (λ (p : Pattern). p.tree) (map pattern_of ps))
    → Each (λ t. Each (IsKeySet scope) (sets_in t)) (map (λ (p : Pattern). p.tree) (map pattern_of ps))
    → Each (λ t. Each IsFewRanges (sets_in t)) (map (λ (p : Pattern). p.tree) (map pattern_of ps))
    → Each (HasFile scope.files) (map (λ (p : rust_pattern.Pattern). p.place) ps)
    → Each (IsPattern scope) ps
patterns_say scope [] deep xs ts cs ss ks rs fs = tt
patterns_say scope (p ∷ ps) deep xs ts cs ss ks rs fs =
    let own = option_to_list (pattern_of p).token in
    let others = flat_map (λ (p : Pattern). option_to_list p.token) (map pattern_of ps) in
    let first : depth_of (node_of p.tree) ≤ 2000 = omega (arith, deep) in
    let rest : deepest (map pattern_of ps) ≤ 2000 = omega (arith, deep) in (
      record {
        not_deep = first;
        sound = sound scope (node_of p.tree) (record { actions = xs.0; conditions = cs.0; stamps = ss.0; keys = ks.0; ranges = rs.0 });
        token = of_tokens scope p.token (each_front (IsNumber scope.actions) own others ts);
        place = fs.0;
      },
      patterns_say scope ps rest xs.1 (each_behind (IsNumber scope.actions) own others ts) cs.1 ss.1 ks.1 rs.1 fs.1,
    )

pub root_says : (scope : Scope) (n : ℕ) (x : rust_root.Root) → n ≡ root_size (root_of x) → SaysRoot scope (root_of x) → Each (HasFile scope.files) (pattern_places x) → IsRoot scope n x
root_says scope n (R.Plain t) size h files = record {
  not_deep = h.not_deep;
  nodes = sym size;
  sound = sound scope (node_of t) (record { actions = h.actions.0; conditions = h.conditions.0; stamps = h.stamps.0; keys = h.keys.0; ranges = h.ranges.0 });
}
root_says scope n (R.Scanner ps) size h files = record {
  some_pattern = no_pattern ps h.patterns;
  nodes = sym (size ∙ ap (λ n. n + 1) (sizes_of ps));
  patterns = all (IsPattern scope) ps (patterns_say scope ps h.not_deep h.actions h.tokens h.conditions h.stamps h.keys h.ranges files);
}

root_places : (scope : Scope) (n : ℕ) (root : rust_root.Root) → IsRoot scope n root → Each (HasFile scope.files) (pattern_places root)
root_places scope n (R.Plain t) h = tt
root_places scope n (R.Scanner ps) h =
    each_map (HasFile scope.files) (λ (p : rust_pattern.Pattern). p.place) ps (each_more (IsPattern scope) (λ p. HasFile scope.files p.place) ps (λ p k. k.place) (each (IsPattern scope) ps h.patterns))

-- ---- statements

abbrev IsQuietPattern : List ActionDef → rust_pattern.Pattern → Type 0
IsQuietPattern actions p = HasQuietActions actions (node_of p.tree)

-- what holds of the expressions of quiet patterns
of_quiet : (actions : List ActionDef) (P : Node → Type 0) (ps : List rust_pattern.Pattern) → ((t : Node) → HasQuietActions actions t → P t) → All (IsQuietPattern actions) ps → Each P (map (λ (p : Pattern). p.tree) (map pattern_of ps))
of_quiet actions P ps f h =
    each_map P (λ (p : Pattern). p.tree) (map pattern_of ps)
    (each_map (λ (p : Pattern). P p.tree) pattern_of ps (each_more (IsQuietPattern actions) (λ p. P (node_of p.tree)) ps (λ p k. f (node_of p.tree) k) (each (IsQuietPattern actions) ps h)))

-- the actions in its patterns
root_patterns : (actions : List ActionDef) (x : rust_root.Root) → IsQuietRoot actions x → Each (λ t. Each (HasNoStatement (map action_of actions)) (actions_in t)) (pattern_trees (root_of x))
root_patterns actions (R.Plain t) h = tt
root_patterns actions (R.Scanner ps) h = of_quiet actions (λ t. Each (HasNoStatement (map action_of actions)) (actions_in t)) ps (embedded actions) h

-- its to-state and from-state actions
root_turns : (actions : List ActionDef) (x : rust_root.Root) → IsQuietRoot actions x → Each (λ t. Each (HasNoStatement (map action_of actions)) (turn_actions_in t)) (trees_of (root_of x))
root_turns actions (R.Plain t) h = (turns actions (node_of t) h, tt)
root_turns actions (R.Scanner ps) h = of_quiet actions (λ t. Each (HasNoStatement (map action_of actions)) (turn_actions_in t)) ps (turns_embedded actions) h

pub turns_root : (actions : List ActionDef) (x : rust_root.Root) → Each (λ t. Each (HasNoStatement (map action_of actions)) (turn_actions_in t)) (trees_of (root_of x)) → Each (λ t. Each (HasNoStatement (map action_of actions)) (actions_in t)) (pattern_trees (root_of x)) → IsQuietRoot actions x
turns_root actions (R.Plain t) h k = quiet_turns actions (node_of t) h.0
turns_root actions (R.Scanner ps) h k =
    let Q : Node → Type 0 = λ t. Each (HasNoStatement (map action_of actions)) (actions_in t) in
    all (IsQuietPattern actions) ps (each_more (λ (p : rust_pattern.Pattern). Q (node_of p.tree)) (IsQuietPattern actions) ps (λ p q. quiet_embedded actions (node_of p.tree) q)
    (each_mapped (λ (p : Pattern). Q p.tree) pattern_of ps (each_mapped Q (λ (p : Pattern). p.tree) (map pattern_of ps) k)))

-- ---- from the parts to the Spec

module _ (spec : Spec) where
  abbrev scope : Scope
  scope = scope_of spec

  -- what holds of each entry's expression, of the expressions of the specification
  of_roots : (P : Root → Type 0) → Each (λ (e : rust_entry.Entry). P (root_of e.root)) spec.entries → Each P (roots_of (specification_of spec))
  of_roots P h = each_map P (λ e. e.root) (map entry_of spec.entries) (each_map (λ (e : model.Entry). P e.root) entry_of spec.entries h)

  to_roots : (P : Root → Type 0) → Each P (roots_of (specification_of spec)) → Each (λ (e : rust_entry.Entry). P (root_of e.root)) spec.entries
  to_roots P h = each_mapped (λ (e : model.Entry). P e.root) entry_of spec.entries (each_mapped P (λ e. e.root) (map entry_of spec.entries) h)

  -- what stands in the expressions
  of_trees : {X : Type 0} (P : X → Type 0) (f : Node → List X) → Each (λ x. Each (λ t. Each P (f t)) (trees_of x)) (roots_of (specification_of spec)) → Each P (flat_map f (all_trees (specification_of spec)))
  of_trees P f h = each_flat_flat P f trees_of (roots_of (specification_of spec)) h

  to_trees : {X : Type 0} (P : X → Type 0) (f : Node → List X) → All P (flat_map f (all_trees (specification_of spec))) → Each (λ (e : rust_entry.Entry). Each (λ t. Each P (f t)) (trees_of (root_of e.root))) spec.entries
  to_trees P f h = to_roots (λ x. Each (λ t. Each P (f t)) (trees_of x)) (each_of_flat_flat P f trees_of (roots_of (specification_of spec)) (each P (flat_map f (all_trees (specification_of spec))) h))

  module _ (parts : HasParts spec) where
    entries : Each (IsEntry scope) spec.entries
    entries = each (IsEntry scope) spec.entries parts.sound.entries

    actions : Each (IsAction (length spec.files)) spec.actions
    actions = each (IsAction (length spec.files)) spec.actions parts.sound.actions

    of_entries : (P : rust_entry.Entry → Type 0) → ((e : rust_entry.Entry) → IsEntry scope e → P e) → Each P spec.entries
    of_entries P f = each_more (IsEntry scope) P spec.entries f entries

    of_actions : (P : ActionDef → Type 0) → ((a : ActionDef) → IsAction (length spec.files) a → P a) → Each P spec.actions
    of_actions P f = each_more (IsAction (length spec.files)) P spec.actions f actions

    roots : Each (SaysRoot scope) (roots_of (specification_of spec))
    roots = of_roots (SaysRoot scope) (of_entries (λ e. SaysRoot scope (root_of e.root)) (λ e h. says_root scope (length e.places) e.root h.few h.root))

    from_roots : (P : Root → Type 0) → ((x : Root) → SaysRoot scope x → P x) → Each P (roots_of (specification_of spec))
    from_roots P f = each_more (SaysRoot scope) P (roots_of (specification_of spec)) f roots

    -- what holds of all statements that are read, of those of the Spec
    of_statements : (P : Statement → Type 0) → ((s : Statement) → IsStatement (length spec.entries) s → P s) → All P (all_statements (specification_of spec))
    of_statements P f =
        let own : Each (λ (a : ActionDef). Each P a.statements) spec.actions =
        each_more (λ (a : ActionDef). Each (IsStatement (length spec.entries)) a.statements) (λ (a : ActionDef). Each P a.statements) spec.actions
        (λ a h. each_more (IsStatement (length spec.entries)) P a.statements f h) (spec_statements spec parts.codes) in
        all P (all_statements (specification_of spec)) (each_flat P (λ (a : Action). a.statements) (map action_of spec.actions) (each_map (λ (a : Action). Each P a.statements) action_of spec.actions own))

    abbrev Quiet : ℕ → Type 0
    Quiet = HasNoStatement (map action_of spec.actions)

    quiet_conditions : Each Quiet (map (λ (a : ActionId). a.0) spec.conds)
    quiet_conditions = each_map Quiet (λ (a : ActionId). a.0) spec.conds
        (each_more (λ (a : ActionId). IsQuiet spec.actions a.0) (λ (a : ActionId). Quiet a.0) spec.conds (λ a h. quiet_number spec.actions a.0 h) (each (λ (a : ActionId). IsQuiet spec.actions a.0) spec.conds parts.quiet.conditions))

    -- what holds of quiet roots, of the expressions of the specification
    from_quiet : (P : Root → Type 0) → ((x : rust_root.Root) → IsQuietRoot spec.actions x → P (root_of x)) → Each P (roots_of (specification_of spec))
    from_quiet P f = of_roots P (each_more (λ (e : rust_entry.Entry). IsQuietRoot spec.actions e.root) (λ (e : rust_entry.Entry). P (root_of e.root)) spec.entries
        (λ e h. f e.root h) (each (λ (e : rust_entry.Entry). IsQuietRoot spec.actions e.root) spec.entries parts.quiet.roots))

    quiet_in_turns : Each Quiet (flat_map turn_actions_in (all_trees (specification_of spec)))
    quiet_in_turns = of_trees Quiet turn_actions_in (from_quiet (λ x. Each (λ t. Each Quiet (turn_actions_in t)) (trees_of x)) (root_turns spec.actions))

    quiet_in_patterns : Each Quiet (flat_map actions_in (flat_map pattern_trees (roots_of (specification_of spec))))
    quiet_in_patterns = each_flat_flat Quiet actions_in pattern_trees (roots_of (specification_of spec)) (from_quiet (λ x. Each (λ t. Each Quiet (actions_in t)) (pattern_trees x)) (root_patterns spec.actions))

    all_quiet : Each Quiet (quiet_actions (specification_of spec))
    all_quiet = each_append Quiet (map (λ (a : ActionId). a.0) spec.conds ++ flat_map turn_actions_in (all_trees (specification_of spec))) (flat_map actions_in (flat_map pattern_trees (roots_of (specification_of spec)))) (each_append Quiet (map (λ (a : ActionId). a.0) spec.conds) (flat_map turn_actions_in (all_trees (specification_of spec))) quiet_conditions quiet_in_turns) quiet_in_patterns

    trees : {X : Type 0} (P : X → Type 0) (f : Node → List X) → ((x : Root) → SaysRoot scope x → Each (λ t. Each P (f t)) (trees_of x)) → All P (flat_map f (all_trees (specification_of spec)))
    trees P f h = all P (flat_map f (all_trees (specification_of spec))) (of_trees P f (from_roots (λ x. Each (λ t. Each P (f t)) (trees_of x)) h))

    numbers_of_actions : Each (IsNumber (length spec.actions)) (flat_map actions_in (all_trees (specification_of spec)) ++ flat_map token_actions (roots_of (specification_of spec)))
    numbers_of_actions = each_append (IsNumber (length spec.actions)) (flat_map actions_in (all_trees (specification_of spec))) (flat_map token_actions (roots_of (specification_of spec))) (of_trees (IsNumber (length spec.actions)) actions_in (from_roots (λ x. Each (λ t. Each (IsNumber (length spec.actions)) (actions_in t)) (trees_of x)) (λ x h. h.actions))) (each_flat (IsNumber (length spec.actions)) token_actions (roots_of (specification_of spec)) (from_roots (λ x. Each (IsNumber (length spec.actions)) (token_actions x)) (λ x h. h.tokens)))

    entries_files : Each (HasFile (length spec.files)) (flat_map (λ (e : rust_entry.Entry). e.places ++ pattern_places e.root) spec.entries)
    entries_files = each_flat (HasFile (length spec.files)) (λ (e : rust_entry.Entry). e.places ++ pattern_places e.root) spec.entries (of_entries (λ e. Each (HasFile (length spec.files)) (e.places ++ pattern_places e.root)) (λ e h. each_append (HasFile (length spec.files)) e.places (pattern_places e.root) (each (HasFile (length spec.files)) e.places h.places) (root_places scope (length e.places) e.root h.root)))

    actions_files : Each (HasFile (length spec.files)) (map (λ (a : ActionDef). a.place) spec.actions)
    actions_files = each_map (HasFile (length spec.files)) (λ (a : ActionDef). a.place) spec.actions (of_actions (λ a. HasFile (length spec.files) a.place) (λ a h. h.place))

    writes_files : Each (HasFile (length spec.files)) (map (λ (w : Write). w.place) spec.writes)
    writes_files = each_map (HasFile (length spec.files)) (λ (w : Write). w.place) spec.writes (each (IsWrite (length spec.files)) spec.writes parts.sound.writes)

    files : Each (HasFile (length spec.files)) (all_places spec)
    files = each_append (HasFile (length spec.files)) (flat_map (λ (e : rust_entry.Entry). e.places ++ pattern_places e.root) spec.entries ++ map (λ (a : ActionDef). a.place) spec.actions) (map (λ (w : Write). w.place) spec.writes) (each_append (HasFile (length spec.files)) (flat_map (λ (e : rust_entry.Entry). e.places ++ pattern_places e.root) spec.entries) (map (λ (a : ActionDef). a.place) spec.actions) entries_files actions_files) writes_files

    pub form_of_parts : IsWellFormed spec
    form_of_parts = record {
      some_entry = parts.few.some_entry;
      few_entries = parts.few.entries;
      few_actions = parts.few.actions;
      few_conditions = parts.few.conditions;
      entries_differ = parts.apart.entries;
      actions_differ = parts.apart.actions;
      conditions_differ = parts.apart.conditions;
      machine_name = parts.sound.machine;
      entry_names = all (λ e. IsTrue (is_name e.name)) spec.entries (of_entries (λ e. IsTrue (is_name e.name)) (λ e h. h.name));
      action_names = all (λ a. IsTrue (is_action_name a.name)) spec.actions (of_actions (λ a. IsTrue (is_action_name a.name)) (λ a h. h.name));
      actions_exist = all (IsNumber (length spec.actions)) (flat_map actions_in (all_trees (specification_of spec)) ++ flat_map token_actions (roots_of (specification_of spec))) numbers_of_actions;
      condition_actions_exist = all (IsNumber (length spec.actions)) (map (λ (a : ActionId). a.0) spec.conds) (each_map (IsNumber (length spec.actions)) (λ (a : ActionId). a.0) spec.conds (each (IsCondition (length spec.actions)) spec.conds parts.sound.conditions));
      conditions_exist = trees (IsNumber (length spec.conds)) conditions_in (λ x h. h.conditions);
      entries_exist = of_statements (λ s. IfSome s.entry (λ e. IsNumber (length spec.entries) e.0)) (λ s h. h.exists);
      files_exist = all (HasFile (length spec.files)) (all_places spec) files;
      keys_in_alphabet = trees (IsKeySet scope) sets_in (λ x h. h.keys);
      few_ranges = trees IsFewRanges sets_in (λ x h. h.ranges);
      few_nodes = all (λ x. root_size x ≤ 100000) (roots_of (specification_of spec)) (from_roots (λ x. root_size x ≤ 100000) (λ x h. h.nodes));
      not_deep = all (λ x. root_depth x ≤ 2000) (roots_of (specification_of spec)) (from_roots (λ x. root_depth x ≤ 2000) (λ x h. h.not_deep));
      stamps = trees (IsNumber 100000) stamps_in (λ x h. h.stamps);
      places = all HasPlaces spec.entries (of_entries HasPlaces (λ e h. size_of_root scope (length e.places) e.root h.root));
      patterns = all HasPatterns (roots_of (specification_of spec)) (from_roots HasPatterns (λ x h. h.patterns));
      codes = parts.codes;
      statement_entries = of_statements (λ s. IsSome s.entry ↔ IsTrue (names_entry s.kind)) (λ s h. h.entry);
      few_outer = all (λ (a : ActionDef). outer_statements a.statements ≤ 4) spec.actions (of_actions (λ a. outer_statements a.statements ≤ 4) (λ a h. h.few_outer));
      quiet = all Quiet (quiet_actions (specification_of spec)) all_quiet;
    }

  -- ---- and back

  module _ (wf : IsWellFormed spec) where
    back_actions : All (IsNumber (length spec.actions)) (flat_map actions_in (all_trees (specification_of spec)))
    back_actions = all (IsNumber (length spec.actions)) (flat_map actions_in (all_trees (specification_of spec))) (each_front (IsNumber (length spec.actions)) (flat_map actions_in (all_trees (specification_of spec))) (flat_map token_actions (roots_of (specification_of spec))) (each (IsNumber (length spec.actions)) (flat_map actions_in (all_trees (specification_of spec)) ++ flat_map token_actions (roots_of (specification_of spec))) wf.actions_exist))

    back_tokens : Each (λ (e : rust_entry.Entry). Each (IsNumber (length spec.actions)) (token_actions (root_of e.root))) spec.entries
    back_tokens = to_roots (λ x. Each (IsNumber (length spec.actions)) (token_actions x)) (each_of_flat (IsNumber (length spec.actions)) token_actions (roots_of (specification_of spec)) (each_behind (IsNumber (length spec.actions)) (flat_map actions_in (all_trees (specification_of spec))) (flat_map token_actions (roots_of (specification_of spec))) (each (IsNumber (length spec.actions)) (flat_map actions_in (all_trees (specification_of spec)) ++ flat_map token_actions (roots_of (specification_of spec))) wf.actions_exist)))

    back_roots : (P : Root → Type 0) → All P (roots_of (specification_of spec)) → Each (λ (e : rust_entry.Entry). P (root_of e.root)) spec.entries
    back_roots P h = to_roots P (each P (roots_of (specification_of spec)) h)

    root_at : (i : ℕ) (e : rust_entry.Entry) → slice_get spec.entries i ≡ Some e → SaysRoot scope (root_of e.root)
    root_at i e at = record {
      nodes = each_at (λ (e : rust_entry.Entry). root_size (root_of e.root) ≤ 100000) spec.entries i e at (back_roots (λ x. root_size x ≤ 100000) wf.few_nodes);
      not_deep = each_at (λ (e : rust_entry.Entry). root_depth (root_of e.root) ≤ 2000) spec.entries i e at (back_roots (λ x. root_depth x ≤ 2000) wf.not_deep);
      patterns = each_at (λ (e : rust_entry.Entry). HasPatterns (root_of e.root)) spec.entries i e at (back_roots HasPatterns wf.patterns);
      actions = each_at (λ (e : rust_entry.Entry). Each (λ t. Each (IsNumber (length spec.actions)) (actions_in t)) (trees_of (root_of e.root))) spec.entries i e at (to_trees (IsNumber (length spec.actions)) actions_in back_actions);
      tokens = each_at (λ (e : rust_entry.Entry). Each (IsNumber (length spec.actions)) (token_actions (root_of e.root))) spec.entries i e at back_tokens;
      conditions = each_at (λ (e : rust_entry.Entry). Each (λ t. Each (IsNumber (length spec.conds)) (conditions_in t)) (trees_of (root_of e.root))) spec.entries i e at (to_trees (IsNumber (length spec.conds)) conditions_in wf.conditions_exist);
      stamps = each_at (λ (e : rust_entry.Entry). Each (λ t. Each (IsNumber 100000) (stamps_in t)) (trees_of (root_of e.root))) spec.entries i e at (to_trees (IsNumber 100000) stamps_in wf.stamps);
      keys = each_at (λ (e : rust_entry.Entry). Each (λ t. Each (IsKeySet scope) (sets_in t)) (trees_of (root_of e.root))) spec.entries i e at (to_trees (IsKeySet scope) sets_in wf.keys_in_alphabet);
      ranges = each_at (λ (e : rust_entry.Entry). Each (λ t. Each IsFewRanges (sets_in t)) (trees_of (root_of e.root))) spec.entries i e at (to_trees IsFewRanges sets_in wf.few_ranges);
    }

    all_files : Each (HasFile (length spec.files)) (all_places spec)
    all_files = each (HasFile (length spec.files)) (all_places spec) wf.files_exist

    former_files : Each (HasFile (length spec.files)) (flat_map (λ (e : rust_entry.Entry). e.places ++ pattern_places e.root) spec.entries ++ map (λ (a : ActionDef). a.place) spec.actions)
    former_files = each_front (HasFile (length spec.files)) (flat_map (λ (e : rust_entry.Entry). e.places ++ pattern_places e.root) spec.entries ++ map (λ (a : ActionDef). a.place) spec.actions) (map (λ (w : Write). w.place) spec.writes) all_files

    back_entries_files : Each (λ (e : rust_entry.Entry). Each (HasFile (length spec.files)) (e.places ++ pattern_places e.root)) spec.entries
    back_entries_files = each_of_flat (HasFile (length spec.files)) (λ (e : rust_entry.Entry). e.places ++ pattern_places e.root) spec.entries (each_front (HasFile (length spec.files)) (flat_map (λ (e : rust_entry.Entry). e.places ++ pattern_places e.root) spec.entries) (map (λ (a : ActionDef). a.place) spec.actions) former_files)

    entry_at : (i : ℕ) (e : rust_entry.Entry) → slice_get spec.entries i ≡ Some e → IsEntry scope e
    entry_at i e at =
        let size : length e.places ≡ root_size (root_of e.root) = each_at HasPlaces spec.entries i e at (each HasPlaces spec.entries wf.places) in
        let p = root_at i e at in
        let few = p.nodes in
        let files = each_at (λ (e : rust_entry.Entry). Each (HasFile (length spec.files)) (e.places ++ pattern_places e.root)) spec.entries i e at back_entries_files in
        record {
          name = each_at (λ (e : rust_entry.Entry). IsTrue (is_name e.name)) spec.entries i e at (each (λ (e : rust_entry.Entry). IsTrue (is_name e.name)) spec.entries wf.entry_names);
          few = omega (arith, size, few);
          root = root_says scope (length e.places) e.root size p (each_behind (HasFile (length spec.files)) e.places (pattern_places e.root) files);
          places = all (HasFile (length spec.files)) e.places (each_front (HasFile (length spec.files)) e.places (pattern_places e.root) files);
        }

    abbrev NoStatement : ℕ → Type 0
    NoStatement = HasNoStatement (map action_of spec.actions)

    back_quiet : Each NoStatement (quiet_actions (specification_of spec))
    back_quiet = each NoStatement (quiet_actions (specification_of spec)) wf.quiet

    back_former : Each NoStatement (map (λ (a : ActionId). a.0) spec.conds ++ flat_map turn_actions_in (all_trees (specification_of spec)))
    back_former = each_front NoStatement (map (λ (a : ActionId). a.0) spec.conds ++ flat_map turn_actions_in (all_trees (specification_of spec))) (flat_map actions_in (flat_map pattern_trees (roots_of (specification_of spec)))) back_quiet

    back_conditions : Each (λ (a : ActionId). IsQuiet spec.actions a.0) spec.conds
    back_conditions = each_more (λ (a : ActionId). NoStatement a.0) (λ (a : ActionId). IsQuiet spec.actions a.0) spec.conds (λ a h. number_quiet spec.actions a.0 h)
        (each_mapped NoStatement (λ (a : ActionId). a.0) spec.conds (each_front NoStatement (map (λ (a : ActionId). a.0) spec.conds) (flat_map turn_actions_in (all_trees (specification_of spec))) back_former))

    back_in_turns : Each (λ (e : rust_entry.Entry). Each (λ t. Each NoStatement (turn_actions_in t)) (trees_of (root_of e.root))) spec.entries
    back_in_turns = to_roots (λ x. Each (λ t. Each NoStatement (turn_actions_in t)) (trees_of x))
        (each_of_flat_flat NoStatement turn_actions_in trees_of (roots_of (specification_of spec)) (each_behind NoStatement (map (λ (a : ActionId). a.0) spec.conds) (flat_map turn_actions_in (all_trees (specification_of spec))) back_former))

    back_in_patterns : Each (λ (e : rust_entry.Entry). Each (λ t. Each NoStatement (actions_in t)) (pattern_trees (root_of e.root))) spec.entries
    back_in_patterns = to_roots (λ x. Each (λ t. Each NoStatement (actions_in t)) (pattern_trees x))
        (each_of_flat_flat NoStatement actions_in pattern_trees (roots_of (specification_of spec)) (each_behind NoStatement (map (λ (a : ActionId). a.0) spec.conds ++ flat_map turn_actions_in (all_trees (specification_of spec))) (flat_map actions_in (flat_map pattern_trees (roots_of (specification_of spec)))) back_quiet))

    quiet_root_at : (i : ℕ) (e : rust_entry.Entry) → slice_get spec.entries i ≡ Some e → IsQuietRoot spec.actions e.root
    quiet_root_at i e at = turns_root spec.actions e.root
        (each_at (λ (e : rust_entry.Entry). Each (λ t. Each NoStatement (turn_actions_in t)) (trees_of (root_of e.root))) spec.entries i e at back_in_turns)
        (each_at (λ (e : rust_entry.Entry). Each (λ t. Each NoStatement (actions_in t)) (pattern_trees (root_of e.root))) spec.entries i e at back_in_patterns)

    back_actions_files : Each (λ (a : ActionDef). HasFile (length spec.files) a.place) spec.actions
    back_actions_files = each_mapped (HasFile (length spec.files)) (λ (a : ActionDef). a.place) spec.actions (each_behind (HasFile (length spec.files)) (flat_map (λ (e : rust_entry.Entry). e.places ++ pattern_places e.root) spec.entries) (map (λ (a : ActionDef). a.place) spec.actions) former_files)

    back_writes_files : Each (IsWrite (length spec.files)) spec.writes
    back_writes_files = each_mapped (HasFile (length spec.files)) (λ (w : Write). w.place) spec.writes (each_behind (HasFile (length spec.files)) (flat_map (λ (e : rust_entry.Entry). e.places ++ pattern_places e.root) spec.entries ++ map (λ (a : ActionDef). a.place) spec.actions) (map (λ (w : Write). w.place) spec.writes) all_files)

    action_at : (i : ℕ) (a : ActionDef) → slice_get spec.actions i ≡ Some a → IsAction (length spec.files) a
    action_at i a at = record {
      name = each_at (λ (a : ActionDef). IsTrue (is_action_name a.name)) spec.actions i a at (each (λ (a : ActionDef). IsTrue (is_action_name a.name)) spec.actions wf.action_names);
      few_outer = each_at (λ (a : ActionDef). outer_statements a.statements ≤ 4) spec.actions i a at (each (λ (a : ActionDef). outer_statements a.statements ≤ 4) spec.actions wf.few_outer);
      place = each_at (λ (a : ActionDef). HasFile (length spec.files) a.place) spec.actions i a at back_actions_files;
    }

    pub parts_of_form : HasParts spec
    parts_of_form = record {
      few = record { some_entry = wf.some_entry; entries = wf.few_entries; actions = wf.few_actions; conditions = wf.few_conditions };
      sound = record {
        machine = wf.machine_name;
        entries = all (IsEntry scope) spec.entries (each_from (IsEntry scope) spec.entries entry_at);
        actions = all (IsAction (length spec.files)) spec.actions (each_from (IsAction (length spec.files)) spec.actions action_at);
        conditions = all (IsCondition (length spec.actions)) spec.conds (each_mapped (IsNumber (length spec.actions)) (λ (a : ActionId). a.0) spec.conds (each (IsNumber (length spec.actions)) (map (λ (a : ActionId). a.0) spec.conds) wf.condition_actions_exist));
        writes = all (IsWrite (length spec.files)) spec.writes back_writes_files;
      };
      quiet = record {
        conditions = all (λ (a : ActionId). IsQuiet spec.actions a.0) spec.conds back_conditions;
        roots = all (λ (e : rust_entry.Entry). IsQuietRoot spec.actions e.root) spec.entries (each_from (λ (e : rust_entry.Entry). IsQuietRoot spec.actions e.root) spec.entries quiet_root_at);
      };
      apart = record { entries = wf.entries_differ; actions = wf.actions_differ; conditions = wf.conditions_differ };
      codes = wf.codes;
    }

-- ---- an answer

pub form_of_answer : (spec : Spec) (r : Result Bool Memory) → IfOk r (λ b. IsTrue b ↔ HasParts spec) → IfOk r (λ b. IsTrue b ↔ IsWellFormed spec)
form_of_answer spec (Ok b) h = ((λ t. form_of_parts spec (h.0 t)), (λ f. h.1 (parts_of_form spec f)))
form_of_answer spec (Err e) h = tt
