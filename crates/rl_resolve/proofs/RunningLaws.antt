-- The machine that runs has an entry: one of its statements instantiates, so one of its definitions does.
use Rattle.std.proofs.Common.{◌≡◌, ℕ, suc, ◌≤◌, ◌++◌, Bool, true, false, cond, List, [], ◌∷◌, map, length, Option, None, Some, Result, Ok, refl, sym, ap, ◌∙◌, subst, arith}
use Rattle.std.specs.Prelude.{◌&&◌, ◌||◌, if◌then◌else◌, nat_lt}
use Rattle.std.specs.List.{list_any}
use Rattle.std.specs.Str.{bytes_eq}
use Rattle.std.proofs.lemmas.Bool.{false≢true, lt-ltb}
use Rattle.std.proofs.lemmas.List.{length-map}
use Rattle.std.proofs.lemmas.List.Folds.{list_any-append}
use Rattle.std.proofs.lemmas.Slice.Eq.{bytes_eq-Decides}
use Rattle.rl_grammar.specs.declared.read_fault.ReadFault.{ReadFault}
use Rattle.rl_grammar.specs.declared.step.Step.{Step}
use Rattle.rl_grammar.specs.declared.syntax.Definition.{Definition as Written}
use Rattle.rl_grammar.specs.declared.syntax.DefinitionSign.{DefinitionSign}
use Rattle.rl_grammar.specs.declared.syntax.DefinitionSign.TheVariants as written
use Rattle.rl_grammar.specs.declared.syntax.Statement.{Statement}
use Rattle.rl_grammar.specs.declared.syntax.Statement.TheVariants as statement
use Rattle.rl_model.specs.declared.spec.Spec.{Spec}
use Rattle.rl_includes.specs.declared.unrolled.Unrolled.{Unrolled}
use Rattle.rl_types.specs.declared.numbers.ActionId.{ActionId}
use Rattle.rl_draft.specs.declared.draft.Definition.{Definition}
use Rattle.rl_draft.specs.declared.draft.Draft.{Draft}
use Rattle.rl_names.specs.Answers as names
use Rattle.rl_names.specs.Drafts.{sign_of, names_of, value_read, definition_read, definition_behind, definitions_by, definitions_behind, scope_behind, scope_of, draft_of}
use Rattle.rl_names.specs.Expressions.{Scope}
use Rattle.rl_names.specs.Frames.{is_of, alphabet_of, machines_of}
use Rattle.rl_names.specs.Checks.{leaves_fault}
use Rattle.rl_names.specs.Names.{names_fault}
use Rattle.rl_rewrite.specs.Entries.{Meaning, made_of, meanings_behind, meanings_in, meanings, is_entry, entry, entries, conditions_by}
use Rattle.rl_rewrite.specs.Plain.{Plain, value_plain}
use Rattle.rl_types.specs.declared.alphabet.Alphabet.{Alphabet}
use Rattle.rl_formed.proofs.DraftLaws as drafts
use Rattle.rl_formed.proofs.ResultLaws.{some_or_none, same_ok, ok_then, not_refused, or_none}
use Rattle.rl_resolve.specs.Answers.{HasEntry, HasRunning, IsAcceptedAs, is_running}
use Rattle.rl_resolve.specs.Descriptions.{Description, description, described}
use Rattle.rl_resolve.specs.Refusals as refusals
use Rattle.rl_resolve.specs.Resolving.{machine_fault, instance_fault, drafted, within, outcome, has_machine, running, running_fault, is_among, is_instantiation, instantiates, is_instance, has_instance}
use Rattle.rl_resolve.specs.declared.answer.Runs.{Runs}
use Rattle.rl_resolve.specs.declared.answer.Runs.TheVariants as runs
use Rattle.rl_resolve.proofs.LimitLaws.{accepted_drafts}
use Rattle.rl_resolve.proofs.OutcomeLaws.{ok_none, ok_read, ok_next}

-- ---- tests

or_nothing : (b : Bool) → b ≡ (b || false)
or_nothing true = refl
or_nothing false = refl

or_again : (a b c : Bool) → ((a || b) || c) ≡ (a || (b || c))
or_again true b c = refl
or_again false b c = refl

passed_test : {X : Type 0} (b : Bool) (e : X) → (if b then None else Some e) ≡ None → b ≡ true
passed_test true e h = refl
passed_test false e h = absurd (some_or_none e h)

-- ---- definitions that instantiate

abbrev instantiate : List Definition → Bool
instantiate ds = list_any (λ (d : Definition). is_entry d.sign) ds

sign_kept : (s : DefinitionSign) → is_entry (sign_of s) ≡ is_instantiation s
sign_kept (written.Name place) = refl
sign_kept (written.Instantiation place) = refl

module _ (k : Scope) (machine : List ℕ) where
  one_read : (j : Scope) (d : Written) (x : Definition) → definition_read j d ≡ Ok x → is_entry x.sign ≡ is_instantiation d.sign
  one_read j d x h =
      let i = ok_then (value_read j d.value) (λ v. Ok (record { name = d.name.text; place = d.name.place; sign = sign_of d.sign; value = v })) x h in
      ap (λ (z : Definition). is_entry z.sign) (sym (same_ok _ x i.2)) ∙ sign_kept d.sign

  one_behind : (earlier next : List Definition) (d : Written) → definition_behind k earlier d ≡ Ok next → instantiate next ≡ (instantiate earlier || is_instantiation d.sign)
  one_behind earlier next d h =
      let j = scope_behind k (names_of earlier) earlier d.name.text in
      let i = not_refused (list_any (bytes_eq d.name.text) (names_of earlier)) _ (names.and_then (definition_read j d) (λ x. Ok (earlier ++ x ∷ []))) next h in
      let r = ok_then (definition_read j d) (λ x. Ok (earlier ++ x ∷ [])) next i.1 in
      ap instantiate (sym (same_ok (earlier ++ r.0 ∷ []) next r.2)) ∙ list_any-append (λ (z : Definition). is_entry z.sign) earlier (r.0 ∷ [])
      ∙ ap (λ z. instantiate earlier || z) (sym (or_nothing (is_entry r.0.sign)) ∙ one_read j d r.0 r.1)

  same_behind : (earlier next : List Definition) → ◌≡◌ {A = Result (List Definition) ReadFault} (Ok earlier) (Ok next) → instantiate next ≡ (instantiate earlier || false)
  same_behind earlier next h = ap instantiate (sym (same_ok earlier next h)) ∙ or_nothing (instantiate earlier)

  statement_behind : (earlier next : List Definition) (s : Statement) → definitions_by k earlier s ≡ Ok next → instantiate next ≡ (instantiate earlier || instantiates s)
  statement_behind earlier next (statement.Definition d) h = one_behind earlier next d h
  statement_behind earlier next (statement.Machine m) h = same_behind earlier next h
  statement_behind earlier next (statement.Include m) h = same_behind earlier next h
  statement_behind earlier next (statement.Alphtype m) h = same_behind earlier next h
  statement_behind earlier next (statement.Access m) h = same_behind earlier next h
  statement_behind earlier next (statement.Variable m) h = same_behind earlier next h
  statement_behind earlier next (statement.Write m) h = same_behind earlier next h
  statement_behind earlier next (statement.Action m) h = same_behind earlier next h

  step_case : (b : Bool) (earlier next : List Definition) (s : Statement) → (if b then definitions_by k earlier s else Ok earlier) ≡ Ok next → instantiate next ≡ (instantiate earlier || (b && instantiates s))
  step_case true earlier next s h = statement_behind earlier next s h
  step_case false earlier next s h = same_behind earlier next h

  all_behind : (steps : List Step) (earlier ds : List Definition) → names.along (definitions_behind k machine) earlier steps ≡ Ok ds → instantiate ds ≡ (instantiate earlier || has_instance steps machine)
  all_behind [] earlier ds h = same_behind earlier ds h
  all_behind (s ∷ ss) earlier ds h =
      let i = ok_then (definitions_behind k machine earlier s) (λ z. names.along (definitions_behind k machine) z ss) ds h in
      all_behind ss i.0 ds i.2 ∙ ap (λ z. z || has_instance ss machine) (step_case (is_of machine s) earlier i.0 s.statement i.1)
      ∙ or_again (instantiate earlier) (is_instance machine s) (has_instance ss machine)

-- ---- entries of what instantiates

meant : (alphabet : Alphabet) (ps : List Plain) (ds : List Definition) → list_any (λ (m : Meaning). is_entry m.sign) (meanings_behind alphabet ps ds) ≡ instantiate ds
meant alphabet ps [] = refl
meant alphabet ps (d ∷ ds) = ap (λ z. is_entry d.sign || z) (meant alphabet (ps ++ value_plain alphabet ps d.value ∷ []) ds)

some : (n : ℕ) → 1 ≤ suc n
some n = omega arith

has_made : (cs : List ActionId) (ms : List Meaning) → list_any (λ (m : Meaning). is_entry m.sign) ms ≡ true → 1 ≤ length (entries cs ms)
has_made cs [] h = absurd (false≢true h)
has_made cs (m ∷ ms) h = by (is_entry m.sign) h (has_made (conditions_by cs m) ms)
  where
    by : (b : Bool) → (b || list_any (λ (x : Meaning). is_entry x.sign) ms) ≡ true → (list_any (λ (x : Meaning). is_entry x.sign) ms ≡ true → 1 ≤ length (entries (conditions_by cs m) ms))
        → 1 ≤ length (cond b (entry cs m ∷ []) [] ++ entries (conditions_by cs m) ms)
    by true g later = some (length (entries (conditions_by cs m) ms))
    by false g later = later g

-- a machine with an instantiation has an entry
draft_has : (steps : List Step) (machine : List ℕ) (d : Draft) → draft_of steps machine ≡ Ok d → has_instance steps machine ≡ true → 1 ≤ length (entries [] (meanings d))
draft_has steps machine d h g =
    let r = drafts.read steps machine d h in
    let n = all_behind (scope_of r.names machine steps) machine steps [] r.definitions r.defined ∙ g in
    let alphabet = alphabet_of machine steps in
    subst (λ (z : Draft). 1 ≤ length (entries [] (meanings z))) r.is
    (has_made [] (meanings_in alphabet r.definitions)
    (meant alphabet [] r.definitions ∙ n))

-- ---- Specs

heads : {X : Type 0} (x y : X) (xs ys : List X) → x ∷ xs ≡ y ∷ ys → (x ≡ y) × (xs ≡ ys)
heads x y xs ys h = (cc, cc)

more_or_none : {X : Type 0} (x : X) (xs : List X) → [] ≡ x ∷ xs → ⊥
more_or_none x xs h = cc

module _ (files : List (List ℕ)) (steps : List Step) where
  spec_has : (machine : List ℕ) (d : Draft) (spec : Spec) → draft_of steps machine ≡ Ok d → has_instance steps machine ≡ true → description spec ≡ described files d → HasEntry spec
  spec_has machine d spec h g is =
      let made : length (map made_of spec.entries) ≡ length (entries [] (meanings d)) = ap (λ (x : Description). length x.entries) is in
      let same = length-map spec.entries made_of in
      let least = draft_has steps machine d h g in
      omega (arith, made, same, least)

  -- the Spec of a machine with this name runs
  spec_runs : (name machine : List ℕ) (d : Draft) (spec : Spec) → bytes_eq name machine ≡ true → draft_of steps machine ≡ Ok d → has_instance steps name ≡ true → description spec ≡ described files d → is_running name spec ≡ true
  spec_runs name machine d spec same h g is =
      let named : name ≡ machine = (bytes_eq-Decides name machine).0 same in
      let own : machine ≡ spec.machine = ap (λ (x : Draft). x.machine) (drafts.read steps machine d h).is ∙ sym (ap (λ (x : Description). x.machine) is) in
      both (bytes_eq name spec.machine) (length spec.entries) (subst (λ z. bytes_eq name z ≡ true) own same) (spec_has machine d spec h (subst (λ z. has_instance steps z ≡ true) named g) is)
    where
      below : (n : ℕ) → 1 ≤ n → nat_lt 0 n ≡ true
      below n h = lt-ltb 0 n (omega (arith, h))

      both : (b : Bool) (n : ℕ) → b ≡ true → 1 ≤ n → (b && nat_lt 0 n) ≡ true
      both b n h g = ap (λ z. z && nat_lt 0 n) h ∙ below n g

  first_runs : (machines : List (List ℕ)) (ds : List Draft) (specs : List Spec) → has_machine runs.First machines ≡ true → running_fault steps (running runs.First machines) ≡ None
      → names.each (draft_of steps) machines ≡ Ok ds → map description specs ≡ map (described files) ds → HasRunning runs.First specs
  first_runs [] ds specs has none h e = absurd (false≢true has)
  first_runs (m ∷ ms) ds specs has none h e =
      let i = ok_then (draft_of steps m) (λ y. names.and_then (names.each (draft_of steps) ms) (λ zs. Ok (y ∷ zs))) ds h in
      let j = ok_then (names.each (draft_of steps) ms) (λ zs. Ok (i.0 ∷ zs)) ds i.2 in
      front i.0 j.0 specs (passed_test (has_instance steps m) _ none) i.1 (e ∙ ap (map (described files)) (sym (same_ok (i.0 ∷ j.0) ds j.2)))
    where
      front : (d : Draft) (rest : List Draft) (specs : List Spec) → has_instance steps m ≡ true → draft_of steps m ≡ Ok d → map description specs ≡ map (described files) (d ∷ rest) → HasRunning runs.First specs
      front d rest [] g h e = absurd (more_or_none (described files d) (map (described files) rest) e)
      front d rest (s ∷ ss) g h e = spec_has m d s h g (heads (description s) (described files d) (map description ss) (map (described files) rest) e).0

  one_runs : (name : List ℕ) (machines : List (List ℕ)) (ds : List Draft) (specs : List Spec) → has_instance steps name ≡ true → is_among name machines ≡ true
      → names.each (draft_of steps) machines ≡ Ok ds → map description specs ≡ map (described files) ds → list_any (is_running name) specs ≡ true
  one_runs name [] ds specs g among h e = absurd (false≢true among)
  one_runs name (m ∷ ms) ds specs g among h e =
      let i = ok_then (draft_of steps m) (λ y. names.and_then (names.each (draft_of steps) ms) (λ zs. Ok (y ∷ zs))) ds h in
      let j = ok_then (names.each (draft_of steps) ms) (λ zs. Ok (i.0 ∷ zs)) ds i.2 in
      front i.0 j.0 specs i.1 (e ∙ ap (map (described files)) (sym (same_ok (i.0 ∷ j.0) ds j.2))) (λ ss k f. one_runs name ms j.0 ss g k j.1 f)
    where
      or_later : (a b : Bool) → b ≡ true → (a || b) ≡ true
      or_later true b h = refl
      or_later false b h = h

      by : (b : Bool) (d : Draft) (s : Spec) (ss : List Spec) → bytes_eq name m ≡ b → (b || is_among name ms) ≡ true → draft_of steps m ≡ Ok d → description s ≡ described files d
          → (is_among name ms ≡ true → list_any (is_running name) ss ≡ true) → list_any (is_running name) (s ∷ ss) ≡ true
      by true d s ss t k h e later = ap (λ z. z || list_any (is_running name) ss) (spec_runs name m d s t h g e)
      by false d s ss t k h e later = or_later (is_running name s) (list_any (is_running name) ss) (later k)

      front : (d : Draft) (rest : List Draft) (specs : List Spec) → draft_of steps m ≡ Ok d → map description specs ≡ map (described files) (d ∷ rest)
          → ((ss : List Spec) → is_among name ms ≡ true → map description ss ≡ map (described files) rest → list_any (is_running name) ss ≡ true) → list_any (is_running name) specs ≡ true
      front d rest [] h e later = absurd (more_or_none (described files d) (map (described files) rest) e)
      front d rest (s ∷ ss) h e later =
          let k = heads (description s) (described files d) (map description ss) (map (described files) rest) e in
          by (bytes_eq name m) d s ss refl among h k.0 (λ a. later ss a k.1)

  some_runs : (which : Runs) (machines : List (List ℕ)) (ds : List Draft) (specs : List Spec) → has_machine which machines ≡ true → running_fault steps (running which machines) ≡ None
      → names.each (draft_of steps) machines ≡ Ok ds → map description specs ≡ map (described files) ds → HasRunning which specs
  some_runs runs.Nobody machines ds specs has none h e = tt
  some_runs runs.First machines ds specs has none h e = first_runs machines ds specs has none h e
  some_runs (runs.Named name) machines ds specs has none h e =
      one_runs name.now machines ds specs (passed_test (has_instance steps name.now) _ none) (named machines has) h e
    where
      named : (machines : List (List ℕ)) → has_machine (runs.Named name) machines ≡ true → is_among name.now machines ≡ true
      named [] h = absurd (false≢true h)
      named (m ∷ ms) h = h

-- ---- what is accepted

no_fault : (files : List (List ℕ)) (o : Option ReadFault) → refusals.told files o ≡ None → o ≡ None
no_fault files None h = refl
no_fault files (Some e) h = absurd (some_or_none (refusals.named files e) h)

module _ (which : Runs) (u : Unrolled) (ds : List Draft) (h : outcome which u ≡ Ok ds) where
  abbrev machines : List (List ℕ)
  machines = machines_of u.steps

  behind_stop : (x : List Draft) → drafted which u ≡ Ok x → (machine_fault which machines ≡ None) × (instance_fault which u.steps machines ≡ None)
  behind_stop x e =
      let a = ok_read (refusals.stopped u.stop) _ x (ok_read (refusals.told u.files (names_fault u.steps)) _ x e) in
      let b = ok_read (refusals.told u.files (leaves_fault u.steps)) _ x (ok_read (refusals.told u.files (machine_fault which machines)) _ x a) in (
        no_fault u.files (machine_fault which machines) (ok_none (refusals.told u.files (machine_fault which machines)) _ x a),
        no_fault u.files (instance_fault which u.steps machines) (ok_none (refusals.told u.files (instance_fault which u.steps machines)) _ x b),
      )

  pub accepted_machine : has_machine which machines ≡ true
  accepted_machine =
      let i = ok_next (drafted which u) (within u) ds h in
      passed_test (has_machine which machines) _ (behind_stop i.0 i.1).0

  pub accepted_instance : running_fault u.steps (running which machines) ≡ None
  accepted_instance =
      let i = ok_next (drafted which u) (within u) ds h in
      (or_none _ (running_fault u.steps (running which machines)) (behind_stop i.0 i.1).1).1

-- the Specs that are accepted have the machine that runs, with an entry
pub accepted_running : (which : Runs) (u : Unrolled) (specs : List Spec) → IsAcceptedAs which u specs → HasRunning which specs
accepted_running which u specs h =
    some_runs u.files u.steps which (machines_of u.steps) h.drafts specs (accepted_machine which u h.drafts h.accepted) (accepted_instance which u h.drafts h.accepted)
    (accepted_drafts which u h.drafts h.accepted) h.described_by
