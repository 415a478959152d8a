-- The entries that statements instantiate are those that a draft makes.
use Rattle.std.proofs.Common.{◌≡◌, ℕ, Bool, true, false, cond, List, [], ◌∷◌, ◌++◌, map, fold, Result, Ok, refl, sym, ap, ◌∙◌, append_assoc}
use Rattle.std.specs.Prelude.{◌||◌, if◌then◌else◌}
use Rattle.std.specs.List.{list_any}
use Rattle.std.specs.Str.{bytes_eq}
use Rattle.std.proofs.lemmas.List.{append-nil}
use Rattle.rl_types.specs.declared.numbers.ActionId.{ActionId}
use Rattle.rl_grammar.specs.declared.read_fault.ReadFault.{ReadFault}
use Rattle.rl_grammar.specs.declared.step.Step.{Step}
use Rattle.rl_grammar.specs.declared.syntax.Definition.{Definition as Written}
use Rattle.rl_grammar.specs.declared.syntax.DefinitionSign.{DefinitionSign}
use Rattle.rl_grammar.specs.declared.syntax.DefinitionSign.TheVariants as written
use Rattle.rl_grammar.specs.declared.syntax.Statement.{Statement}
use Rattle.rl_grammar.specs.declared.syntax.Statement.TheVariants as statement
use Rattle.rl_draft.specs.declared.draft.Definition.{Definition}
use Rattle.rl_names.specs.Answers.{and_then, along}
use Rattle.rl_names.specs.Drafts.{sign_of, names_of, value_read, definition_read, definition_behind, definitions_by, definitions_behind, definitions_of, scope_behind}
use Rattle.rl_names.specs.Entries.{instantiates, entries_with, entries_by, entries_behind, entries_of}
use Rattle.rl_names.specs.Expressions.{Scope}
use Rattle.rl_names.specs.Frames.{is_of, with_name}
use Rattle.rl_rewrite.specs.Entries.{Made, Meaning, meaning, meanings_behind, meanings_in, is_entry, entry, entries, conditions_by}
use Rattle.rl_types.specs.declared.alphabet.Alphabet.{Alphabet}
use Rattle.rl_rewrite.specs.Plain.{Plain, value_of, value_plain}
use Rattle.rl_formed.proofs.NameLaws.{or_false, read_name}
use Rattle.rl_formed.proofs.ResultLaws.{ok_then, same_ok, not_refused}

-- the names of the definitions that make entries
abbrev entry_names : List Definition → List (List ℕ)
entry_names [] = []
entry_names (d ∷ ds) = cond (is_entry d.sign) (d.name ∷ []) [] ++ entry_names ds

sign_kept : (s : DefinitionSign) → is_entry (sign_of s) ≡ instantiates s
sign_kept (written.Name place) = refl
sign_kept (written.Instantiation place) = refl

entry_names_append : (xs ys : List Definition) → entry_names (xs ++ ys) ≡ entry_names xs ++ entry_names ys
entry_names_append [] ys = refl
entry_names_append (x ∷ xs) ys =
    ap (λ z. cond (is_entry x.sign) (x.name ∷ []) [] ++ z) (entry_names_append xs ys) ∙ sym (append_assoc (cond (is_entry x.sign) (x.name ∷ []) []) (entry_names xs) (entry_names ys))

-- a name that no definition has is no entry's
no_entry : (name : List ℕ) (ds : List Definition) → list_any (bytes_eq name) (names_of ds) ≡ false → list_any (bytes_eq name) (entry_names ds) ≡ false
no_entry name [] h = refl
no_entry name (d ∷ ds) h =
    let p = or_false (bytes_eq name d.name) (list_any (bytes_eq name) (names_of ds)) h in
    by (is_entry d.sign) p.0 (no_entry name ds p.1)
  where
    by : (b : Bool) → bytes_eq name d.name ≡ false → list_any (bytes_eq name) (entry_names ds) ≡ false → list_any (bytes_eq name) (cond b (d.name ∷ []) [] ++ entry_names ds) ≡ false
    by true e later = ap (λ z. z || list_any (bytes_eq name) (entry_names ds)) e ∙ later
    by false e later = later

new_name : (b : Bool) (names : List (List ℕ)) (name : List ℕ) → list_any (bytes_eq name) names ≡ false → (if b then with_name names name else names) ≡ names ++ cond b (name ∷ []) []
new_name true names name h = ap (λ c. if c then names else (names ++ name ∷ [])) h
new_name false names name h = sym (append-nil names)

module _ (k : Scope) (machine : List ℕ) where
  read_sign : (j : Scope) (d : Written) (x : Definition) → definition_read j d ≡ Ok x → is_entry x.sign ≡ instantiates d.sign
  read_sign j d x h =
      let i = ok_then (value_read j d.value) (λ v. Ok (record { name = d.name.text; place = d.name.place; sign = sign_of d.sign; value = v })) x h in
      ap (λ (z : Definition). is_entry z.sign) (sym (same_ok _ x i.2)) ∙ sign_kept d.sign

  one_behind : (earlier next : List Definition) (d : Written) → definition_behind k earlier d ≡ Ok next → entries_with (entry_names earlier) d.sign d.name.text ≡ entry_names next
  one_behind earlier next d h =
      let j = scope_behind k (names_of earlier) earlier d.name.text in
      let i = not_refused (list_any (bytes_eq d.name.text) (names_of earlier)) _ (and_then (definition_read j d) (λ x. Ok (earlier ++ x ∷ []))) next h in
      let r = ok_then (definition_read j d) (λ x. Ok (earlier ++ x ∷ [])) next i.1 in
      let names = entry_names earlier in
      let text = d.name.text in
      new_name (instantiates d.sign) names text (no_entry text earlier i.0)
      ∙ ap (λ b. names ++ cond b (text ∷ []) []) (sym (read_sign j d r.0 r.1))
      ∙ ap (λ z. names ++ cond (is_entry r.0.sign) (z ∷ []) []) (sym (read_name j d r.0 r.1))
      ∙ ap (λ z. names ++ z) (sym (append-nil (cond (is_entry r.0.sign) (r.0.name ∷ []) [])))
      ∙ sym (entry_names_append earlier (r.0 ∷ []))
      ∙ ap entry_names (same_ok (earlier ++ r.0 ∷ []) next r.2)

  same_behind : (earlier next : List Definition) → ◌≡◌ {A = Result (List Definition) ReadFault} (Ok earlier) (Ok next) → entry_names earlier ≡ entry_names next
  same_behind earlier next h = ap entry_names (same_ok earlier next h)

  statement_behind : (earlier next : List Definition) (s : Statement) → definitions_by k earlier s ≡ Ok next → entries_by (entry_names earlier) s ≡ entry_names next
  statement_behind earlier next (statement.Definition d) h = one_behind earlier next d h
  statement_behind earlier next (statement.Machine m) h = same_behind earlier next h
  statement_behind earlier next (statement.Include m) h = same_behind earlier next h
  statement_behind earlier next (statement.Alphtype m) h = same_behind earlier next h
  statement_behind earlier next (statement.Access m) h = same_behind earlier next h
  statement_behind earlier next (statement.Variable m) h = same_behind earlier next h
  statement_behind earlier next (statement.Write m) h = same_behind earlier next h
  statement_behind earlier next (statement.Action m) h = same_behind earlier next h

  step_case : (b : Bool) (earlier next : List Definition) (s : Statement) → (if b then definitions_by k earlier s else Ok earlier) ≡ Ok next → (if b then entries_by (entry_names earlier) s else entry_names earlier) ≡ entry_names next
  step_case true earlier next s h = statement_behind earlier next s h
  step_case false earlier next s h = same_behind earlier next h

  all_behind : (steps : List Step) (earlier ds : List Definition) → along (definitions_behind k machine) earlier steps ≡ Ok ds → fold (entries_behind machine) (entry_names earlier) steps ≡ entry_names ds
  all_behind [] earlier ds h = same_behind earlier ds h
  all_behind (s ∷ ss) earlier ds h =
      let i = ok_then (definitions_behind k machine earlier s) (λ z. along (definitions_behind k machine) z ss) ds h in
      ap (λ z. fold (entries_behind machine) z ss) (step_case (is_of machine s) earlier i.0 s.statement i.1) ∙ all_behind ss i.0 ds i.2

-- ---- entries as they are made

abbrev made_names : List Made → List (List ℕ)
made_names ms = map (λ (m : Made). m.name) ms

made_case : (b : Bool) (cs : List ActionId) (m : Meaning) (rest : List Made) (names : List (List ℕ)) → made_names rest ≡ names → made_names (cond b (entry cs m ∷ []) [] ++ rest) ≡ cond b (m.name ∷ []) [] ++ names
made_case true cs m rest names h = ap (λ z. m.name ∷ z) h
made_case false cs m rest names h = h

made : (cs : List ActionId) (alphabet : Alphabet) (known : List Plain) (ds : List Definition) → made_names (entries cs (meanings_behind alphabet known ds)) ≡ entry_names ds
made cs alphabet known [] = refl
made cs alphabet known (d ∷ ds) =
    let m = meaning d (value_of alphabet known d.value) in
    let behind = known ++ value_plain alphabet known d.value ∷ [] in
    made_case (is_entry d.sign) cs m (entries (conditions_by cs m) (meanings_behind alphabet behind ds)) (entry_names ds) (made (conditions_by cs m) alphabet behind ds)

pub entries_made : (k : Scope) (machine : List ℕ) (steps : List Step) (ds : List Definition) (alphabet : Alphabet) → definitions_of k machine steps ≡ Ok ds → entries_of machine steps ≡ map (λ (m : Made). m.name) (entries [] (meanings_in alphabet ds))
entries_made k machine steps ds alphabet e = all_behind k machine steps [] ds e ∙ sym (made [] alphabet [] ds)
