-- The entries of a machine are the names of those of its definitions that are instantiations.
use Rattle.std.proofs.Common.{◌≡◌, ℕ, Bool, true, false, cond, List, [], ◌∷◌, ◌++◌, map, filter, fold, Result, Ok, Err, inl, inr, refl, sym, ap, ◌∙◌}
use Rattle.std.specs.Prelude.{◌||◌}
use Rattle.std.specs.List.{list_any}
use Rattle.std.specs.Str.{bytes_eq}
use Rattle.std.proofs.lemmas.Bool.{cases_Bool}
use Rattle.std.proofs.lemmas.List.{append-nil}
use Rattle.rl_types.specs.declared.faults.FaultKind.TheVariants.{F6}
use Rattle.rl_grammar.specs.declared.read_fault.ReadFault.{ReadFault}
use Rattle.rl_grammar.specs.declared.step.Step.{Step}
use Rattle.rl_grammar.specs.declared.syntax.Definition.{Definition as Written}
use Rattle.rl_grammar.specs.declared.syntax.DefinitionSign.{DefinitionSign}
use Rattle.rl_grammar.specs.declared.syntax.DefinitionSign.TheVariants as written
use Rattle.rl_grammar.specs.declared.syntax.Statement.{Statement}
use Rattle.rl_grammar.specs.declared.syntax.Statement.TheVariants as statement
use Rattle.rl_draft.specs.declared.draft.Definition.{Definition}
use Rattle.rl_draft.specs.declared.draft.Sign.{Sign}
use Rattle.rl_draft.specs.declared.draft.Sign.TheVariants as sign
use Rattle.rl_draft.specs.declared.draft.Value.{Value}
use Rattle.rl_names.specs.Answers.{and_then, along}
use Rattle.rl_names.specs.Drafts.{names_of, scope_behind, definition_behind, definitions_by, definitions_behind, definitions_of, value_read, sign_of}
use Rattle.rl_names.specs.Entries.{instantiates, entries_with, entries_by, entries_behind, entries_of}
use Rattle.rl_names.specs.Expressions.{Scope}
use Rattle.rl_names.specs.Frames.{is_of, with_name}
use Rattle.rl_names.specs.Leaves.{fault_at}

abbrev pub is_instance : Sign → Bool
is_instance sign.Name = false
is_instance sign.Instantiation = true

-- the names of those definitions that are instantiations
abbrev pub entry_names : List Definition → List (List ℕ)
entry_names [] = []
entry_names (d ∷ ds) = cond (is_instance d.sign) (d.name ∷ entry_names ds) (entry_names ds)

same_ok : {A : Type 0} (x y : A) → ◌≡◌ {A = Result A ReadFault} (Ok x) (Ok y) → x ≡ y
same_ok x y e = cc

not_ok : {A B : Type 0} (f : ReadFault) (y : A) → ◌≡◌ {A = Result A ReadFault} (Err f) (Ok y) → B
not_ok f y e = absurd (cc)

-- ---- one definition more

names_split : (ds : List Definition) (x : Definition) → entry_names (ds ++ x ∷ []) ≡ entry_names ds ++ cond (is_instance x.sign) (x.name ∷ []) []
names_split [] x = refl
names_split (d ∷ ds) x = ap (λ z. cond (is_instance d.sign) (d.name ∷ z) z) (names_split ds x) ∙ moved (is_instance d.sign) d.name (entry_names ds) _
  where
    moved : {A : Type 0} (b : Bool) (y : A) (ys zs : List A) → cond b (y ∷ (ys ++ zs)) (ys ++ zs) ≡ cond b (y ∷ ys) ys ++ zs
    moved true y ys zs = refl
    moved false y ys zs = refl

or_false : (a b : Bool) → (a || b) ≡ false → (a ≡ false) × (b ≡ false)
or_false true b e = absurd (cc)
or_false false b e = (refl, e)

absent : (name : List ℕ) (ds : List Definition) → list_any (bytes_eq name) (names_of ds) ≡ false → list_any (bytes_eq name) (entry_names ds) ≡ false
absent name [] e = refl
absent name (d ∷ ds) e =
    let parts = or_false (bytes_eq name d.name) (list_any (bytes_eq name) (names_of ds)) e in
    one (is_instance d.sign) parts.0 (absent name ds parts.1)
  where
    one : (b : Bool) → bytes_eq name d.name ≡ false → list_any (bytes_eq name) (entry_names ds) ≡ false → list_any (bytes_eq name) (cond b (d.name ∷ entry_names ds) (entry_names ds)) ≡ false
    one true first rest = ap (λ z. z || list_any (bytes_eq name) (entry_names ds)) first ∙ rest
    one false first rest = rest

signed : (s : DefinitionSign) → is_instance (sign_of s) ≡ instantiates s
signed (written.Name place) = refl
signed (written.Instantiation place) = refl

more : (makes : Bool) (names : List (List ℕ)) (name : List ℕ) → list_any (bytes_eq name) names ≡ false → cond makes (with_name names name) names ≡ names ++ cond makes (name ∷ []) []
more true names name miss = ap (λ z. cond z names (names ++ name ∷ [])) miss
more false names name miss = sym (append-nil names)

abbrev defined : Written → Value → Definition
defined d v = record { name = d.name.text; place = d.name.place; sign = sign_of d.sign; value = v }

added : (d : Written) (v : Value) (earlier : List Definition) → list_any (bytes_eq d.name.text) (names_of earlier) ≡ false
    → entries_with (entry_names earlier) d.sign d.name.text ≡ entry_names (earlier ++ defined d v ∷ [])
added d v earlier miss =
    more (instantiates d.sign) (entry_names earlier) d.name.text (absent d.name.text earlier miss)
    ∙ (ap (λ z. entry_names earlier ++ cond z (d.name.text ∷ []) []) (sym (signed d.sign)) ∙ sym (names_split earlier (defined d v)))

-- ---- one statement more

module _ (k : Scope) (machine : List ℕ) where
  read_more : (d : Written) (r : Result Value ReadFault) (earlier ds : List Definition) → list_any (bytes_eq d.name.text) (names_of earlier) ≡ false
      → and_then (and_then r (λ v. Ok (defined d v))) (λ x. Ok (earlier ++ x ∷ [])) ≡ Ok ds → entries_with (entry_names earlier) d.sign d.name.text ≡ entry_names ds
  read_more d (Ok v) earlier ds miss e = added d v earlier miss ∙ ap entry_names (same_ok (earlier ++ defined d v ∷ []) ds e)
  read_more d (Err f) earlier ds miss e = not_ok f ds e

  definition_more : (d : Written) (earlier ds : List Definition) → definition_behind k earlier d ≡ Ok ds → entries_with (entry_names earlier) d.sign d.name.text ≡ entry_names ds
  definition_more d earlier ds e =
      let read = and_then (and_then (value_read (scope_behind k (names_of earlier) earlier d.name.text) d.value) (λ v. Ok (defined d v))) (λ x. Ok (earlier ++ x ∷ [])) in
      elim (cases_Bool (list_any (bytes_eq d.name.text) (names_of earlier))) [
        | inl hit ↦ not_ok (fault_at F6 d.name.place) ds (sym (ap (λ z. cond z (Err (fault_at F6 d.name.place)) read) hit) ∙ e)
        | inr miss ↦
            read_more d (value_read (scope_behind k (names_of earlier) earlier d.name.text) d.value) earlier ds miss
            (sym (ap (λ z. cond z (Err (fault_at F6 d.name.place)) read) miss) ∙ e)
      ]

  statement_more : (s : Statement) (earlier ds : List Definition) → definitions_by k earlier s ≡ Ok ds → entries_by (entry_names earlier) s ≡ entry_names ds
  statement_more (statement.Definition d) earlier ds e = definition_more d earlier ds e
  statement_more (statement.Machine m) earlier ds e = ap entry_names (same_ok earlier ds e)
  statement_more (statement.Include m) earlier ds e = ap entry_names (same_ok earlier ds e)
  statement_more (statement.Alphtype m) earlier ds e = ap entry_names (same_ok earlier ds e)
  statement_more (statement.Access m) earlier ds e = ap entry_names (same_ok earlier ds e)
  statement_more (statement.Variable m) earlier ds e = ap entry_names (same_ok earlier ds e)
  statement_more (statement.Write m) earlier ds e = ap entry_names (same_ok earlier ds e)
  statement_more (statement.Action m) earlier ds e = ap entry_names (same_ok earlier ds e)

  step_more : (s : Step) (own : Bool) (earlier ds : List Definition) → cond own (definitions_by k earlier s.statement) (Ok earlier) ≡ Ok ds
      → cond own (entries_by (entry_names earlier) s.statement) (entry_names earlier) ≡ entry_names ds
  step_more s true earlier ds e = statement_more s.statement earlier ds e
  step_more s false earlier ds e = ap entry_names (same_ok earlier ds e)

  steps_more : (ss : List Step) (earlier ds : List Definition) → along (definitions_behind k machine) earlier ss ≡ Ok ds → fold (entries_behind machine) (entry_names earlier) ss ≡ entry_names ds
  steps_more [] earlier ds e = ap entry_names (same_ok earlier ds e)
  steps_more (s ∷ ss) earlier ds e = on (definitions_behind k machine earlier s) refl e (λ t. steps_more ss t ds)
    where
      on : (r : Result (List Definition) ReadFault) → definitions_behind k machine earlier s ≡ r → and_then r (λ t. along (definitions_behind k machine) t ss) ≡ Ok ds
          → ((t : List Definition) → along (definitions_behind k machine) t ss ≡ Ok ds → fold (entries_behind machine) (entry_names t) ss ≡ entry_names ds)
          → fold (entries_behind machine) (entry_names earlier) (s ∷ ss) ≡ entry_names ds
      on (Ok t) is rest later = ap (λ z. fold (entries_behind machine) z ss) (step_more s (is_of machine s) earlier t is) ∙ later t rest
      on (Err f) is rest later = not_ok f ds rest

  pub entries_are : (steps : List Step) (ds : List Definition) → definitions_of k machine steps ≡ Ok ds → entries_of machine steps ≡ entry_names ds
  entries_are steps ds e = steps_more steps [] ds e
