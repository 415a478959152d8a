-- The Specs of a source that is accepted are well-formed, where the places of its entries stand in its files.
use Rattle.std.proofs.Common.{◌≡◌, ℕ, ◌≤◌, ◌++◌, List, [], ◌∷◌, map, length, true, Option, None, Some, Result, Ok, refl, sym, ap, ◌∙◌, subst, arith}
use Rattle.std.specs.Prelude.{All, IsTrue}
use Rattle.std.specs.List.{flat_map}
use Rattle.std.proofs.lemmas.List.{length-map}
use Rattle.rl_types.specs.declared.alphabet.Alphabet.{Alphabet}
use Rattle.rl_types.specs.declared.faults.Limit.{Limit}
use Rattle.rl_grammar.specs.declared.read_fault.ReadFault.{ReadFault}
use Rattle.rl_types.specs.declared.numbers.ActionId.{ActionId}
use Rattle.rl_types.specs.KeyRange.{Range}
use Rattle.rl_automata.specs.Nodes.{Node}
use Rattle.rl_automata.specs.Refused.{AreDifferent, sets_in, conditions_in}
use Rattle.rl_arrays.specs.Names.{is_name, is_action_name}
use Rattle.rl_model.specs.declared.spec.Entry as rust
use Rattle.rl_model.specs.declared.spec.Root as rust_root
use Rattle.rl_model.specs.declared.spec.ActionDef.{ActionDef}
use Rattle.rl_model.specs.declared.spec.Spec.{Spec}
use Rattle.rl_model.specs.Specification.{action_of, root_of}
use Rattle.rl_code.specs.Reading.{IsReadAs}
use Rattle.rl_model.specs.Counts.{root_size, root_depth, trees_of, pattern_trees, token_actions, actions_in, turn_actions_in, stamps_in}
use Rattle.rl_model.specs.WellFormed.{IsWellFormed, IsNumber, IsInAlphabet, HasPatterns, IsCodeRead, pattern_places, HasNoStatement, outer_statements}
use Rattle.rl_includes.specs.declared.unrolled.Unrolled.{Unrolled}
use Rattle.rl_grammar.specs.declared.step.Step.{Step}
use Rattle.rl_draft.specs.declared.draft.Draft.{Draft}
use Rattle.rl_names.specs.Answers as names
use Rattle.rl_names.specs.Checks.{leaves_fault}
use Rattle.rl_names.specs.Drafts.{draft_of}
use Rattle.rl_names.specs.Frames.{machines_of}
use Rattle.rl_names.specs.Names.{names_fault}
use Rattle.rl_rewrite.specs.Entries.{Made, made_of, meanings, entries, all_conditions, first_limit, IsMade}
use Rattle.rl_form.specs.declared.scope.Scope.{Scope}
use Rattle.rl_form.specs.Parts.{IsSet, IsRoot, IsEntry, IsAction, IsWrite, IsCondition, HasFile, IsQuiet, IsQuietRoot, AreQuiet, HasParts, scope_of}
use Rattle.rl_form.proofs.FormLaws.{form_of_answer, root_says, turns_root}
use Rattle.rl_form.proofs.Lists.{Each, each_front, each_behind, each_more, each_mapped, each_of_flat, all, each}
use Rattle.rl_form.proofs.TreeLaws.{IsKeySet, IsFewRanges}
use Rattle.rl_form.proofs.QuietLaws.{number_quiet}
use Rattle.rl_formed.specs.Laws as laws
use Rattle.rl_formed.proofs.DraftLaws as drafts
use Rattle.rl_formed.proofs.ResultLaws.{ok_then, same_ok}
use Rattle.rl_formed.proofs.SizeLaws as sizes
use Rattle.rl_formed.proofs.StatementLaws as statements
use Rattle.rl_resolve.specs.Descriptions.{Description, description, described}
use Rattle.rl_resolve.specs.Forms.{HasEntriesIn, IsFormedInFiles, AreFormedAsWritten}
use Rattle.rl_resolve.specs.Limits.{passed_as, passed}
use Rattle.rl_resolve.specs.Resolving.{outcome}
use Rattle.rl_resolve.specs.declared.answer.Runs.{Runs}
use Rattle.rl_resolve.specs.declared.limits.Passed.{Passed}
use Rattle.rl_resolve.proofs.LimitLaws.{accepted_within_limits, accepted_drafts, accepted_names, accepted_leaves}

-- ---- a draft that is accepted

-- at most four statements at the outer level
abbrev IsFew : ActionDef → Type 0
IsFew a = outer_statements a.statements ≤ 4

record IsSound (count : ℕ) (draft : Draft) : Type 0 where
  codes : laws.HasReadCodes draft
  few_statements : laws.HasFewStatements draft
  quiet_conditions : laws.HasQuietConditions draft
  quiet_turns : laws.HasQuietTurns draft
  own_actions : laws.HasOwnActions draft
  own_entries : laws.HasOwnEntries draft
  patterns : laws.HasPatternsIn draft
  tokens : laws.HasOwnTokens draft
  quiet_patterns : laws.HasQuietPatterns draft
  embedded : laws.EmbedsOwnActions draft
  conditions : laws.HasOwnConditions draft
  few_actions : laws.HasFewActions draft
  few_entries : laws.HasFewEntries draft
  within : first_limit [] (meanings draft) ≡ None
  machine : IsTrue (is_name draft.machine)
  named_entries : laws.HasNamedEntries draft
  named_actions : laws.HasNamedActions draft
  sets : laws.HasSmallSets draft
  actions_in : laws.HasActionsIn count draft
  writes_in : laws.HasWritesIn count draft

-- ---- an expression

root_sound : (scope : Scope) (x : rust_root.Root) (n : ℕ) → root_size (root_of x) ≤ 100000 → root_depth (root_of x) ≤ 2000 → n ≡ root_size (root_of x) → HasPatterns (root_of x)
    → Each (IsNumber 100000) (flat_map stamps_in (trees_of (root_of x))) → Each (λ (t : Node). All (IsNumber scope.actions) (actions_in t)) (trees_of (root_of x)) → Each (IsNumber scope.actions) (token_actions (root_of x))
    → Each (IsNumber scope.conditions) (flat_map conditions_in (trees_of (root_of x))) → Each (IsSet scope) (flat_map sets_in (trees_of (root_of x))) → Each (HasFile scope.files) (pattern_places x) → IsRoot scope n x
root_sound scope x n few deep size patterns stamps actions tokens conditions sets places =
    let trees = trees_of (root_of x) in
    let kept = each_of_flat (IsSet scope) sets_in trees sets in
    root_says scope n x size (record {
      nodes = few;
      not_deep = deep;
      patterns = patterns;
      actions = each_more (λ (t : Node). All (IsNumber scope.actions) (actions_in t)) (λ (t : Node). Each (IsNumber scope.actions) (actions_in t)) trees (λ t h. each (IsNumber scope.actions) (actions_in t) h) actions;
      tokens = tokens;
      conditions = each_of_flat (IsNumber scope.conditions) conditions_in trees conditions;
      stamps = each_of_flat (IsNumber 100000) stamps_in trees stamps;
      keys = each_more (λ (t : Node). Each (IsSet scope) (sets_in t)) (λ (t : Node). Each (IsKeySet scope) (sets_in t)) trees (λ t h. each_more (IsSet scope) (IsKeySet scope) (sets_in t) (λ ranges g. g.1) h) kept;
      ranges = each_more (λ (t : Node). Each (IsSet scope) (sets_in t)) (λ (t : Node). Each IsFewRanges (sets_in t)) trees (λ t h. each_more (IsSet scope) IsFewRanges (sets_in t) (λ ranges g. g.0) h) kept;
    }) places

made_names : (es : List rust.Entry) → map (λ (m : Made). m.name) (map made_of es) ≡ map (λ (e : rust.Entry). e.name) es
made_names [] = refl
made_names (e ∷ es) = ap (λ z. e.name ∷ z) (made_names es)

-- two facts, of each
both_each : {X : Type 0} (P Q : X → Type 0) (xs : List X) → Each P xs → Each Q xs → Each (λ x. P x × Q x) xs
both_each P Q [] h g = tt
both_each P Q (x ∷ xs) h g = ((h.0, g.0), both_each P Q xs h.1 g.1)

-- ---- a Spec

module _ (spec : Spec) (files : List (List ℕ)) (draft : Draft) (is : description spec ≡ described files draft) (right : IsSound (length files) draft) (in_files : HasEntriesIn spec) (some_entry : 1 ≤ length spec.entries) where
  same_actions : spec.actions ≡ draft.actions
  same_actions = ap (λ (d : Description). d.actions) is

  made : map made_of spec.entries ≡ entries [] (meanings draft)
  made = ap (λ (d : Description). d.entries) is

  kept : spec.conds ≡ all_conditions [] (meanings draft)
  kept = ap (λ (d : Description). d.conditions) is

  -- what holds of each entry as it is made
  of_made : (P : Made → Type 0) → All P (entries [] (meanings draft)) → Each (λ (e : rust.Entry). P (made_of e)) spec.entries
  of_made P h = each_mapped P made_of spec.entries (subst (Each P) (sym made) (each P (entries [] (meanings draft)) h))

  abbrev scope : Scope
  scope = scope_of spec

  abbrev Embeds : ℕ → Made → Type 0
  Embeds count m = All (λ (t : Node). All (IsNumber count) (actions_in t)) (trees_of m.root)

  embeds : Each (λ (e : rust.Entry). Embeds (length spec.actions) (made_of e)) spec.entries
  embeds = subst (λ z. Each (λ (e : rust.Entry). Embeds (length z) (made_of e)) spec.entries) (sym same_actions) (of_made (Embeds (length draft.actions)) right.embedded)

  patterns : Each (λ (e : rust.Entry). HasPatterns (root_of e.root)) spec.entries
  patterns = of_made (λ (m : Made). HasPatterns m.root) right.patterns

  abbrev HasTokens : ℕ → Made → Type 0
  HasTokens count m = All (IsNumber count) (token_actions m.root)

  tokens : Each (λ (e : rust.Entry). HasTokens (length spec.actions) (made_of e)) spec.entries
  tokens = subst (λ z. Each (λ (e : rust.Entry). HasTokens (length z) (made_of e)) spec.entries) (sym same_actions) (of_made (HasTokens (length draft.actions)) right.tokens)

  sized : Each (λ (e : rust.Entry). IsMade (made_of e)) spec.entries
  sized = each (λ (e : rust.Entry). IsMade (made_of e)) spec.entries (sizes.sized (meanings draft) spec.entries spec.conds made kept right.within)

  abbrev Knows : rust.Entry → Type 0
  Knows e = All (IsNumber (length spec.conds)) (flat_map conditions_in (trees_of (root_of e.root)))

  knows : Each Knows spec.entries
  knows = each Knows spec.entries (sizes.conditions_known (meanings draft) spec.entries spec.conds made kept right.within)

  abbrev HasSets : rust.Entry → Type 0
  HasSets e = All (IsSet scope) (flat_map sets_in (trees_of (root_of e.root)))

  same_files : length spec.files ≡ length files
  same_files = ap (λ (d : Description). length d.files) is

  placed_actions : Each (λ (a : ActionDef). HasFile (length spec.files) a.place) spec.actions
  placed_actions =
      subst (λ z. Each (λ (a : ActionDef). HasFile z a.place) spec.actions) (sym same_files)
      (subst (Each (λ (a : ActionDef). HasFile (length files) a.place)) (sym same_actions) (each (λ (a : ActionDef). HasFile (length files) a.place) draft.actions right.actions_in))

  placed_writes : All (IsWrite (length spec.files)) spec.writes
  placed_writes = subst (λ z. All (IsWrite z) spec.writes) (sym same_files) (subst (All (IsWrite (length files))) (sym (ap (λ (d : Description). d.writes) is)) right.writes_in)

  same_alphabet : spec.alphabet ≡ draft.alphabet
  same_alphabet = ap (λ (d : Description). d.alphabet) is

  abbrev Small : Alphabet → Made → Type 0
  Small alphabet m = All (λ (ranges : List Range). (length ranges ≤ 256) × All (IsInAlphabet alphabet) ranges) (flat_map sets_in (trees_of m.root))

  sets : Each HasSets spec.entries
  sets = subst (λ z. Each (λ (e : rust.Entry). Small z (made_of e)) spec.entries) (sym same_alphabet) (of_made (Small draft.alphabet) right.sets)

  named : Each (λ (e : rust.Entry). IsTrue (is_name e.name)) spec.entries
  named = of_made (λ (m : Made). IsTrue (is_name m.name)) right.named_entries

  called : Each (λ (a : ActionDef). IsTrue (is_action_name a.name)) spec.actions
  called = subst (Each (λ (a : ActionDef). IsTrue (is_action_name a.name))) (sym same_actions) (each (λ (a : ActionDef). IsTrue (is_action_name a.name)) draft.actions right.named_actions)

  -- what is known of an entry
  record IsKnown (e : rust.Entry) : Type 0 where
    name : IsTrue (is_name e.name)
    places : All (HasFile (length spec.files)) (e.places ++ pattern_places e.root)
    sets : HasSets e
    conditions : Knows e
    size : IsMade (made_of e)
    patterns : HasPatterns (root_of e.root)
    tokens : HasTokens (length spec.actions) (made_of e)
    embeds : Embeds (length spec.actions) (made_of e)

  entry_sound : (e : rust.Entry) → IsKnown e → IsEntry scope e
  entry_sound e k =
      let x = root_of e.root in
      let size = k.size in
      let files = each (HasFile (length spec.files)) (e.places ++ pattern_places e.root) k.places in
      record {
        name = k.name;
        few = omega (arith, size.places, size.few_nodes);
        root = root_sound scope e.root (length e.places) size.few_nodes size.not_deep size.places k.patterns
            (each (IsNumber 100000) (flat_map stamps_in (trees_of x)) size.stamps)
            (each (λ (t : Node). All (IsNumber (length spec.actions)) (actions_in t)) (trees_of x) k.embeds)
            (each (IsNumber (length spec.actions)) (token_actions x) k.tokens)
            (each (IsNumber (length spec.conds)) (flat_map conditions_in (trees_of x)) k.conditions)
            (each (IsSet scope) (flat_map sets_in (trees_of x)) k.sets)
            (each_behind (HasFile (length spec.files)) e.places (pattern_places e.root) files);
        places = all (HasFile (length spec.files)) e.places (each_front (HasFile (length spec.files)) e.places (pattern_places e.root) files);
      }

  all_sound : (es : List rust.Entry) → Each (λ (e : rust.Entry). IsTrue (is_name e.name)) es → Each (λ (e : rust.Entry). All (HasFile (length spec.files)) (e.places ++ pattern_places e.root)) es → Each HasSets es → Each Knows es
      → Each (λ (e : rust.Entry). IsMade (made_of e)) es → Each (λ (e : rust.Entry). HasPatterns (root_of e.root)) es → Each (λ (e : rust.Entry). HasTokens (length spec.actions) (made_of e)) es → Each (λ (e : rust.Entry). Embeds (length spec.actions) (made_of e)) es
      → Each (IsEntry scope) es
  all_sound [] a b c d f g t h = tt
  all_sound (e ∷ es) a b c d f g t h = (
    entry_sound e (record { name = a.0; places = b.0; sets = c.0; conditions = d.0; size = f.0; patterns = g.0; tokens = t.0; embeds = h.0 }),
    all_sound es a.1 b.1 c.1 d.1 f.1 g.1 t.1 h.1,
  )

  action_sound : (xs : List ActionDef) → Each (λ (a : ActionDef). IsTrue (is_action_name a.name)) xs → Each (λ (a : ActionDef). HasFile (length spec.files) a.place) xs → Each IsFew xs → Each (IsAction (length spec.files)) xs
  action_sound [] a b c = tt
  action_sound (x ∷ xs) a b c = (record { name = a.0; few_outer = c.0; place = b.0 }, action_sound xs a.1 b.1 c.1)

  few_statements : Each IsFew spec.actions
  few_statements = subst (Each IsFew) (sym same_actions) (each IsFew draft.actions right.few_statements)

  -- ---- what actions say

  same_names : laws.entry_names draft ≡ map (λ (e : rust.Entry). e.name) spec.entries
  same_names = sym (ap (map (λ (m : Made). m.name)) made) ∙ made_names spec.entries

  codes : All (IsCodeRead spec) spec.actions
  codes =
      subst (λ z. All (λ (a : ActionDef). IsReadAs z a.code a.statements) spec.actions) same_names
      (subst (λ z. All (λ (a : ActionDef). IsReadAs (laws.entry_names draft) a.code a.statements) z) (sym same_actions) right.codes)

  abbrev Quiet : List ActionDef → ℕ → Type 0
  Quiet actions n = HasNoStatement (map action_of actions) n

  quiet_conditions : Each (λ (a : ActionId). Quiet spec.actions a.0) spec.conds
  quiet_conditions =
      subst (λ z. Each (λ (a : ActionId). Quiet z a.0) spec.conds) (sym same_actions)
      (subst (Each (λ (a : ActionId). Quiet draft.actions a.0)) (sym kept) (each (λ (a : ActionId). Quiet draft.actions a.0) (all_conditions [] (meanings draft)) right.quiet_conditions))

  abbrev HasTurns : List ActionDef → Made → Type 0
  HasTurns actions m = All (λ (t : Node). All (Quiet actions) (turn_actions_in t)) (trees_of m.root)

  quiet_entries : Each (λ (e : rust.Entry). HasTurns spec.actions (made_of e)) spec.entries
  quiet_entries = subst (λ z. Each (λ (e : rust.Entry). HasTurns z (made_of e)) spec.entries) (sym same_actions) (of_made (HasTurns draft.actions) right.quiet_turns)

  abbrev HasPatternActions : List ActionDef → Made → Type 0
  HasPatternActions actions m = All (λ (t : Node). All (Quiet actions) (actions_in t)) (pattern_trees m.root)

  quiet_in_patterns : Each (λ (e : rust.Entry). HasPatternActions spec.actions (made_of e)) spec.entries
  quiet_in_patterns = subst (λ z. Each (λ (e : rust.Entry). HasPatternActions z (made_of e)) spec.entries) (sym same_actions) (of_made (HasPatternActions draft.actions) right.quiet_patterns)

  each_quiet : (f : Node → List ℕ) (ts : List Node) → All (λ (t : Node). All (Quiet spec.actions) (f t)) ts → Each (λ (t : Node). Each (Quiet spec.actions) (f t)) ts
  each_quiet f ts h =
      each_more (λ (t : Node). All (Quiet spec.actions) (f t)) (λ (t : Node). Each (Quiet spec.actions) (f t)) ts (λ t g. each (Quiet spec.actions) (f t) g) (each (λ (t : Node). All (Quiet spec.actions) (f t)) ts h)

  quiet_roots : (es : List rust.Entry) → Each (λ (e : rust.Entry). HasTurns spec.actions (made_of e)) es → Each (λ (e : rust.Entry). HasPatternActions spec.actions (made_of e)) es → Each (λ (e : rust.Entry). IsQuietRoot spec.actions e.root) es
  quiet_roots [] a b = tt
  quiet_roots (e ∷ es) a b = (
    turns_root spec.actions e.root (each_quiet turn_actions_in (trees_of (root_of e.root)) a.0) (each_quiet actions_in (pattern_trees (root_of e.root)) b.0),
    quiet_roots es a.1 b.1,
  )

  quiet : AreQuiet spec
  quiet = record {
    conditions = all (λ (a : ActionId). IsQuiet spec.actions a.0) spec.conds
        (each_more (λ (a : ActionId). Quiet spec.actions a.0) (λ (a : ActionId). IsQuiet spec.actions a.0) spec.conds (λ a h. number_quiet spec.actions a.0 h) quiet_conditions);
    roots = all (λ (e : rust.Entry). IsQuietRoot spec.actions e.root) spec.entries (quiet_roots spec.entries quiet_entries quiet_in_patterns);
  }

  few_entries : length spec.entries ≤ 65535
  few_entries =
      let e = ap length made in
      let l = length-map spec.entries made_of in
      omega (arith, right.few_entries, e, l)

  own_entries : AreDifferent (map (λ (e : rust.Entry). e.name) spec.entries)
  own_entries = subst AreDifferent (sym (ap (map (λ (m : Made). m.name)) made) ∙ made_names spec.entries) right.own_entries

  own_conditions : All (IsCondition (length spec.actions)) spec.conds
  own_conditions =
      subst (λ z. All (λ (a : ActionId). IsNumber (length z) a.0) spec.conds) (sym same_actions)
      (subst (All (λ (a : ActionId). IsNumber (length draft.actions) a.0)) (sym kept) right.conditions)

  parts : HasParts spec
  parts = record {
    few = record {
      some_entry = some_entry;
      entries = omega (arith, few_entries);
      actions = subst (λ z. length z ≤ 65535) (sym same_actions) right.few_actions;
      conditions = sizes.few (meanings draft) spec.entries spec.conds made kept right.within;
    };
    sound = record {
      machine = subst (λ z. IsTrue (is_name z)) (sym (ap (λ (d : Description). d.machine) is)) right.machine;
      entries = all (IsEntry scope) spec.entries
          (all_sound spec.entries named (each (λ (e : rust.Entry). All (HasFile (length spec.files)) (e.places ++ pattern_places e.root)) spec.entries in_files) sets knows sized patterns tokens embeds);
      actions = all (IsAction (length spec.files)) spec.actions (action_sound spec.actions called placed_actions few_statements);
      conditions = own_conditions;
      writes = placed_writes;
    };
    quiet = quiet;
    codes = codes;
    apart = record {
      entries = own_entries;
      actions = subst (λ (z : List ActionDef). AreDifferent (map (λ (a : ActionDef). a.name) z)) (sym same_actions) right.own_actions;
      conditions = sizes.conditions_differ (meanings draft) spec.entries spec.conds made kept right.within;
    };
  }

  spec_formed : IsWellFormed spec
  spec_formed = (form_of_answer spec (Ok true) ((λ t. parts), (λ p. refl))).0 refl

-- ---- an outcome

no_item : {X : Type 0} (x : X) (xs : List X) → x ∷ xs ≡ [] → ⊥
no_item x xs h = cc

none_as : (machine : List ℕ) (o : Option Limit) (rest : List Passed) → passed_as machine o ++ rest ≡ [] → (o ≡ None) × (rest ≡ [])
none_as machine None rest h = (refl, h)
none_as machine (Some limit) rest h = absurd (no_item _ rest h)

no_limit : (ds : List Draft) → passed ds ≡ [] → Each (λ (d : Draft). first_limit [] (meanings d) ≡ None) ds
no_limit [] h = tt
no_limit (d ∷ ds) h = let k = none_as d.machine (first_limit [] (meanings d)) (passed ds) h in (k.0, no_limit ds k.1)

draft_sound : (count : ℕ) (steps : List Step) (machine : List ℕ) (draft : Draft) → laws.AreWritten steps → laws.StandIn count steps → IsTrue (is_name machine) → names_fault steps ≡ None → leaves_fault steps ≡ None → draft_of steps machine ≡ Ok draft → first_limit [] (meanings draft) ≡ None → IsSound count draft
draft_sound count steps machine draft w f named none leaves h within = record {
  codes = statements.have_read_codes steps machine draft w none leaves h;
  few_statements = statements.have_few_statements steps machine draft none h;
  quiet_conditions = statements.have_quiet_conditions steps machine draft none h;
  quiet_turns = statements.have_quiet_turns steps machine draft none h;
  own_actions = drafts.have_own_actions steps machine draft h;
  own_entries = drafts.have_own_entries steps machine draft h;
  patterns = statements.have_patterns steps machine draft none h;
  tokens = statements.have_own_tokens steps machine draft none h;
  quiet_patterns = statements.have_quiet_patterns steps machine draft none h;
  embedded = drafts.embed_own_actions steps machine draft h;
  conditions = drafts.have_own_conditions steps machine draft h;
  few_actions = drafts.have_few_actions steps machine draft none h;
  few_entries = drafts.have_few_entries steps machine draft none h;
  within = within;
  machine = subst (λ z. IsTrue (is_name z)) (ap (λ (d : Draft). d.machine) (drafts.read steps machine draft h).is) named;
  named_entries = drafts.have_named_entries steps machine draft w h;
  named_actions = drafts.have_named_actions steps machine draft w h;
  sets = drafts.have_small_sets steps machine draft h;
  actions_in = drafts.have_actions_in count steps machine draft f h;
  writes_in = drafts.have_writes_in count steps machine draft f h;
}

sound_where : (count : ℕ) (ds : List Draft) → Each (λ (d : Draft). first_limit [] (meanings d) ≡ None → IsSound count d) ds → Each (λ (d : Draft). first_limit [] (meanings d) ≡ None) ds → Each (IsSound count) ds
sound_where count [] h g = tt
sound_where count (d ∷ ds) h g = (h.0 g.0, sound_where count ds h.1 g.1)

-- each is what its item is read as, and its item is such a one
each_read_of : {A B : Type 0} (P : A → Type 0) (Q : B → Type 0) (read : A → Result B ReadFault) → ((x : A) (y : B) → P x → read x ≡ Ok y → Q y) → (xs : List A) (ys : List B) → Each P xs → names.each read xs ≡ Ok ys → Each Q ys
each_read_of P Q read holds [] ys h e = subst (Each Q) (same_ok [] ys e) tt
each_read_of P Q read holds (x ∷ xs) ys h e =
    let i = ok_then (read x) (λ y. names.and_then (names.each read xs) (λ zs. Ok (y ∷ zs))) ys e in
    let j = ok_then (names.each read xs) (λ zs. Ok (i.0 ∷ zs)) ys i.2 in
    subst (Each Q) (same_ok (i.0 ∷ j.0) ys j.2) (holds x i.0 h.0 i.1, each_read_of P Q read holds xs j.0 h.1 j.1)

all_sound_drafts : (which : Runs) (u : Unrolled) (ds : List Draft) → laws.AreWritten u.steps → laws.StandIn (length u.files) u.steps → outcome which u ≡ Ok ds → Each (IsSound (length u.files)) ds
all_sound_drafts which u ds w f h =
    let none = accepted_names which u ds h in
    let leaves = accepted_leaves which u ds h in
    let machines = each (λ (m : List ℕ). IsTrue (is_name m)) (machines_of u.steps) (drafts.have_named_machines u.steps w) in
    sound_where (length u.files) ds (each_read_of (λ (m : List ℕ). IsTrue (is_name m)) (λ (d : Draft). first_limit [] (meanings d) ≡ None → IsSound (length u.files) d) (draft_of u.steps)
    (λ machine d named e within. draft_sound (length u.files) u.steps machine d w f named none leaves e within) (machines_of u.steps) ds machines (accepted_drafts which u ds h))
    (no_limit ds (accepted_within_limits which u ds h))

heads : {X : Type 0} (x y : X) (xs ys : List X) → x ∷ xs ≡ y ∷ ys → (x ≡ y) × (xs ≡ ys)
heads x y xs ys h = (cc, cc)

more_or_none : {X : Type 0} (x : X) (xs : List X) → [] ≡ x ∷ xs → ⊥
more_or_none x xs h = cc

each_formed : (files : List (List ℕ)) (ds : List Draft) (specs : List Spec) → map description specs ≡ map (described files) ds → Each (IsSound (length files)) ds → Each IsFormedInFiles specs
each_formed files ds [] e h = tt
each_formed files [] (s ∷ ss) e h = absurd (more_or_none (description s) (map description ss) (sym e))
each_formed files (d ∷ ds) (s ∷ ss) e h =
    let k = heads (description s) (described files d) (map description ss) (map (described files) ds) e in
    ((λ in_files some. spec_formed s files d k.0 h.0 in_files some), each_formed files ds ss k.1 h.1)

-- all Specs of a source that is accepted are well-formed where their tokens are in order
pub formed_as_written : AreFormedAsWritten
formed_as_written which u ds specs w f h e = all IsFormedInFiles specs (each_formed u.files ds specs e (all_sound_drafts which u ds w f h))
