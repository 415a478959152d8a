-- The names of a machine, its entries and its actions are names where those in its statements are.
use Rattle.std.proofs.Common.{◌≡◌, ℕ, Bool, true, false, cond, List, [], ◌∷◌, ◌++◌, Result, Ok, sym, subst}
use Rattle.std.specs.Prelude.{fold, if◌then◌else◌}
use Rattle.std.specs.List.{list_any}
use Rattle.std.specs.Str.{bytes_eq}
use Rattle.rl_types.specs.declared.numbers.ActionId.{ActionId}
use Rattle.rl_grammar.specs.declared.read_fault.ReadFault.{ReadFault}
use Rattle.rl_grammar.specs.declared.syntax.Definition.{Definition as Written}
use Rattle.rl_grammar.specs.declared.syntax.Statement.{Statement}
use Rattle.rl_grammar.specs.declared.syntax.Statement.TheVariants as statement
use Rattle.rl_grammar.specs.Steps.{is_included}
use Rattle.rl_grammar.specs.declared.step.Step.{Step}
use Rattle.rl_draft.specs.declared.draft.Definition.{Definition}
use Rattle.rl_names.specs.Drafts.{names_of, scope_behind, definition_read, definition_behind, definitions_by, definitions_behind, definitions_of}
use Rattle.rl_names.specs.Expressions.{Scope}
use Rattle.rl_names.specs.Frames.{is_of, machine_by, machine_behind, machines_of}
use Rattle.rl_types.specs.declared.alphabet.Alphabet.{Alphabet}
use Rattle.rl_rewrite.specs.Plain.{Plain, value_plain}
use Rattle.rl_rewrite.specs.Entries.{Made, Meaning, meanings_behind, meanings_in, is_entry, entry, entries, made_by, conditions_by}
use Rattle.rl_form.proofs.Lists.{Each, each_append}
use Rattle.rl_formed.proofs.ResultLaws.{ok_then, same_ok, not_refused, along_keeps}
use Rattle.rl_formed.proofs.NameLaws.{read_name}

module _ (P : List ℕ → Type 0) where
  -- it holds of the name that a statement gives
  abbrev pub HoldsOfName : Statement → Type 0
  HoldsOfName (statement.Machine m) = P m.name.text
  HoldsOfName (statement.Definition d) = P d.name.text
  HoldsOfName _ = Unit {0}

  abbrev pub HoldsOfStep : Step → Type 0
  HoldsOfStep s = HoldsOfName s.statement

  -- ---- machines

  with_case : (b : Bool) (names : List (List ℕ)) (name : List ℕ) → P name → Each P names → Each P (if b then names else names ++ name ∷ [])
  with_case true names name h g = g
  with_case false names name h g = each_append P names (name ∷ []) g (h, tt)

  machine_named : (s : Statement) (names : List (List ℕ)) → HoldsOfName s → Each P names → Each P (machine_by names s)
  machine_named (statement.Machine m) names h g = with_case (list_any (bytes_eq m.name.text) names) names m.name.text h g
  machine_named (statement.Definition d) names h g = g
  machine_named (statement.Action a) names h g = g
  machine_named (statement.Include m) names h g = g
  machine_named (statement.Alphtype m) names h g = g
  machine_named (statement.Access m) names h g = g
  machine_named (statement.Variable m) names h g = g
  machine_named (statement.Write m) names h g = g

  machine_case : (b : Bool) (s : Statement) (names : List (List ℕ)) → HoldsOfName s → Each P names → Each P (if b then names else machine_by names s)
  machine_case true s names h g = g
  machine_case false s names h g = machine_named s names h g

  machines_behind : (steps : List Step) (names : List (List ℕ)) → Each HoldsOfStep steps → Each P names → Each P (fold machine_behind names steps)
  machines_behind [] names h g = g
  machines_behind (s ∷ ss) names h g = machines_behind ss (machine_behind names s) h.1 (machine_case (is_included s) s.statement names h.0 g)

  pub machines_named : (steps : List Step) → Each HoldsOfStep steps → Each P (machines_of steps)
  machines_named steps h = machines_behind steps [] h tt

  -- ---- definitions

  abbrev HasName : Definition → Type 0
  HasName d = P d.name

  one_named : (k : Scope) (earlier : List Definition) (d : Written) (ds : List Definition) → P d.name.text → definition_behind k earlier d ≡ Ok ds → Each HasName earlier → Each HasName ds
  one_named k earlier d ds p e h =
      let n = not_refused _ _ _ ds e in
      let i = ok_then (definition_read (scope_behind k (names_of earlier) earlier d.name.text) d) (λ x. Ok (earlier ++ x ∷ [])) ds n.1 in
      subst (Each HasName) (same_ok (earlier ++ i.0 ∷ []) ds i.2)
      (each_append HasName earlier (i.0 ∷ []) h (subst P (sym (read_name (scope_behind k (names_of earlier) earlier d.name.text) d i.0 i.1)) p, tt))

  none_named : (earlier ds : List Definition) → ◌≡◌ {A = Result (List Definition) ReadFault} (Ok earlier) (Ok ds) → Each HasName earlier → Each HasName ds
  none_named earlier ds e h = subst (Each HasName) (same_ok earlier ds e) h

  statement_named : (k : Scope) (s : Statement) (earlier ds : List Definition) → HoldsOfName s → definitions_by k earlier s ≡ Ok ds → Each HasName earlier → Each HasName ds
  statement_named k (statement.Definition d) earlier ds p e h = one_named k earlier d ds p e h
  statement_named k (statement.Action a) earlier ds p e h = none_named earlier ds e h
  statement_named k (statement.Machine m) earlier ds p e h = none_named earlier ds e h
  statement_named k (statement.Include m) earlier ds p e h = none_named earlier ds e h
  statement_named k (statement.Alphtype m) earlier ds p e h = none_named earlier ds e h
  statement_named k (statement.Access m) earlier ds p e h = none_named earlier ds e h
  statement_named k (statement.Variable m) earlier ds p e h = none_named earlier ds e h
  statement_named k (statement.Write m) earlier ds p e h = none_named earlier ds e h

  case_named : (b : Bool) (k : Scope) (s : Statement) (earlier ds : List Definition) → HoldsOfName s → (if b then definitions_by k earlier s else Ok earlier) ≡ Ok ds → Each HasName earlier → Each HasName ds
  case_named true k s earlier ds p e h = statement_named k s earlier ds p e h
  case_named false k s earlier ds p e h = none_named earlier ds e h

  definitions_named : (k : Scope) (machine : List ℕ) (steps : List Step) (ds : List Definition) → Each HoldsOfStep steps → definitions_of k machine steps ≡ Ok ds → Each HasName ds
  definitions_named k machine steps ds p e =
      along_keeps (Each HasName) HoldsOfStep (definitions_behind k machine) (λ earlier s t q f h. case_named (is_of machine s) k s.statement earlier t q f h) [] steps ds p e tt

  meanings_named : (alphabet : Alphabet) (known : List Plain) (ds : List Definition) → Each HasName ds → Each (λ (m : Meaning). P m.name) (meanings_behind alphabet known ds)
  meanings_named alphabet known [] h = tt
  meanings_named alphabet known (d ∷ ds) h = (h.0, meanings_named alphabet (known ++ value_plain alphabet known d.value ∷ []) ds h.1)

  made_case : (b : Bool) (cs : List ActionId) (m : Meaning) → P m.name → Each (λ (x : Made). P x.name) (cond b (entry cs m ∷ []) [])
  made_case true cs m h = (h, tt)
  made_case false cs m h = tt

  entries_named : (cs : List ActionId) (ms : List Meaning) → Each (λ (m : Meaning). P m.name) ms → Each (λ (x : Made). P x.name) (entries cs ms)
  entries_named cs [] h = tt
  entries_named cs (m ∷ ms) h =
      each_append (λ (x : Made). P x.name) (made_by cs m) (entries (conditions_by cs m) ms) (made_case (is_entry m.sign) cs m h.0) (entries_named (conditions_by cs m) ms h.1)

  pub all_named : (k : Scope) (machine : List ℕ) (steps : List Step) (ds : List Definition) (alphabet : Alphabet) → Each HoldsOfStep steps → definitions_of k machine steps ≡ Ok ds → Each (λ (x : Made). P x.name) (entries [] (meanings_in alphabet ds))
  all_named k machine steps ds alphabet p e = entries_named [] (meanings_in alphabet ds) (meanings_named alphabet [] ds (definitions_named k machine steps ds p e))
