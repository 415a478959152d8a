-- No two entries have one name, and no two actions.
use Rattle.std.proofs.Common.{◌≡◌, ℕ, suc, ◌≤◌, Bool, true, false, cond, List, [], ◌∷◌, ◌++◌, map, length, Result, Ok, refl, sym, ap, ◌∙◌, subst, inl, inr, arith, append_assoc}
use Rattle.std.specs.Prelude.{◌||◌, if◌then◌else◌}
use Rattle.std.specs.List.{list_any}
use Rattle.std.specs.Str.{bytes_eq}
use Rattle.std.proofs.lemmas.List.{append-nil, map-append}
use Rattle.std.proofs.lemmas.Bool.{false≢true}
use Rattle.std.proofs.lemmas.Slice.Eq.{bytes_eq-Decides}
use Rattle.rl_types.specs.declared.numbers.ActionId.{ActionId}
use Rattle.rl_grammar.specs.declared.read_fault.ReadFault.{ReadFault}
use Rattle.rl_grammar.specs.declared.syntax.Definition.{Definition as Written}
use Rattle.rl_grammar.specs.declared.syntax.Statement.{Statement}
use Rattle.rl_grammar.specs.declared.syntax.Statement.TheVariants as statement
use Rattle.rl_sets.specs.Sets.{In}
use Rattle.rl_automata.specs.Refused.{AreDifferent}
use Rattle.rl_model.specs.declared.spec.ActionDef.{ActionDef}
use Rattle.rl_grammar.specs.declared.step.Step.{Step}
use Rattle.rl_draft.specs.declared.draft.Definition.{Definition}
use Rattle.rl_names.specs.Actions.{named_behind, action_names}
use Rattle.rl_names.specs.Answers.{along}
use Rattle.rl_names.specs.Drafts.{names_of, scope_behind, value_read, definition_read, definition_behind, definitions_by, definitions_behind, definitions_of}
use Rattle.rl_names.specs.Expressions.{Scope}
use Rattle.rl_names.specs.Frames.{is_of}
use Rattle.rl_types.specs.declared.alphabet.Alphabet.{Alphabet}
use Rattle.rl_rewrite.specs.Plain.{Plain, value_plain}
use Rattle.rl_rewrite.specs.Entries.{Made, Meaning, meanings_behind, meanings_in, is_entry, entry, entries, conditions_by}
use Rattle.rl_form.proofs.Apart.{apart_push}
use Rattle.rl_formed.proofs.ResultLaws.{ok_then, same_ok, not_refused, along_keeps, always}

-- ---- a name that is not found

pub or_false : (a b : Bool) → (a || b) ≡ false → (a ≡ false) × (b ≡ false)
or_false true b h = absurd (cc)
or_false false b h = (refl, h)

not_same : (x y : List ℕ) → bytes_eq x y ≡ false → y ≡ x → ⊥
not_same x y e h = false≢true (sym e ∙ (bytes_eq-Decides x y).1 (sym h))

pub not_in : (name : List ℕ) (names : List (List ℕ)) → list_any (bytes_eq name) names ≡ false → In name names → ⊥
not_in name [] e h = h
not_in name (x ∷ xs) e (inl h) = not_same name x (or_false (bytes_eq name x) (list_any (bytes_eq name) xs) e).0 h
not_in name (x ∷ xs) e (inr h) = not_in name xs (or_false (bytes_eq name x) (list_any (bytes_eq name) xs) e).1 h

-- ---- actions

abbrev pub names : List ActionDef → List (List ℕ)
names actions = map (λ (a : ActionDef). a.name) actions

one_named : (start : List (List ℕ)) (a : ActionDef) (end : List (List ℕ)) → named_behind start a ≡ Ok end → (end ≡ start ++ a.name ∷ []) × (list_any (bytes_eq a.name) start ≡ false)
one_named start a end e =
    let k = not_refused _ _ _ end e in
    (sym (same_ok _ end k.1), k.0)

-- the names in order
pub all_named : (start : List (List ℕ)) (actions : List ActionDef) (end : List (List ℕ)) → along named_behind start actions ≡ Ok end → end ≡ start ++ names actions
all_named start [] end e = sym (same_ok start end e) ∙ sym (append-nil start)
all_named start (a ∷ rest) end e =
    let i = ok_then (named_behind start a) (λ t. along named_behind t rest) end e in
    all_named i.0 rest end i.2 ∙ (ap (λ z. z ++ names rest) (one_named start a i.0 i.1).0 ∙ append_assoc start (a.name ∷ []) (names rest))

apart_named : (start : List (List ℕ)) (a : ActionDef) (end : List (List ℕ)) → Unit {0} → named_behind start a ≡ Ok end → AreDifferent start → AreDifferent end
apart_named start a end u e h =
    let k = one_named start a end e in
    subst AreDifferent (sym k.0) (apart_push start a.name (not_in a.name start k.1) h)

pub actions_differ : (actions : List ActionDef) (end : List (List ℕ)) → action_names actions ≡ Ok end → (end ≡ names actions) × AreDifferent (names actions)
actions_differ actions end e =
    let same = all_named [] actions end e in
    (same, subst AreDifferent same (along_keeps AreDifferent (λ a. Unit {0}) named_behind apart_named [] actions end (always actions) e tt))

-- ---- definitions

pub read_name : (k : Scope) (d : Written) (x : Definition) → definition_read k d ≡ Ok x → x.name ≡ d.name.text
read_name k d x h = let i = ok_then (value_read k d.value) _ x h in ap (λ (z : Definition). z.name) (sym (same_ok _ x i.2))

apart_defined : (k : Scope) (earlier : List Definition) (d : Written) (ds : List Definition) → definition_behind k earlier d ≡ Ok ds → AreDifferent (names_of earlier) → AreDifferent (names_of ds)
apart_defined k earlier d ds e h =
    let n = not_refused _ _ _ ds e in
    let i = ok_then (definition_read (scope_behind k (names_of earlier) earlier d.name.text) d) (λ x. Ok (earlier ++ x ∷ [])) ds n.1 in
    let is = sym (same_ok (earlier ++ i.0 ∷ []) ds i.2) in
    let named = read_name (scope_behind k (names_of earlier) earlier d.name.text) d i.0 i.1 in
    subst AreDifferent (sym (ap names_of is ∙ (map-append (λ (y : Definition). y.name) earlier (i.0 ∷ []) ∙ ap (λ z. names_of earlier ++ z ∷ []) named)))
    (apart_push (names_of earlier) d.name.text (not_in d.name.text (names_of earlier) n.0) h)

same_apart : (earlier ds : List Definition) → ◌≡◌ {A = Result (List Definition) ReadFault} (Ok earlier) (Ok ds) → AreDifferent (names_of earlier) → AreDifferent (names_of ds)
same_apart earlier ds e h = subst (λ z. AreDifferent (names_of z)) (same_ok earlier ds e) h

apart_by : (k : Scope) (s : Statement) (earlier ds : List Definition) → definitions_by k earlier s ≡ Ok ds → AreDifferent (names_of earlier) → AreDifferent (names_of ds)
apart_by k (statement.Definition d) earlier ds e h = apart_defined k earlier d ds e h
apart_by k (statement.Action a) earlier ds e h = same_apart earlier ds e h
apart_by k (statement.Machine m) earlier ds e h = same_apart earlier ds e h
apart_by k (statement.Include m) earlier ds e h = same_apart earlier ds e h
apart_by k (statement.Alphtype m) earlier ds e h = same_apart earlier ds e h
apart_by k (statement.Access m) earlier ds e h = same_apart earlier ds e h
apart_by k (statement.Variable m) earlier ds e h = same_apart earlier ds e h
apart_by k (statement.Write m) earlier ds e h = same_apart earlier ds e h

apart_case : (b : Bool) (k : Scope) (s : Statement) (earlier ds : List Definition) → (if b then definitions_by k earlier s else Ok earlier) ≡ Ok ds → AreDifferent (names_of earlier) → AreDifferent (names_of ds)
apart_case true k s earlier ds e h = apart_by k s earlier ds e h
apart_case false k s earlier ds e h = same_apart earlier ds e h

apart_step : (k : Scope) (machine : List ℕ) (earlier : List Definition) (s : Step) (ds : List Definition) → Unit {0} → definitions_behind k machine earlier s ≡ Ok ds → AreDifferent (names_of earlier) → AreDifferent (names_of ds)
apart_step k machine earlier s ds u e h = apart_case (is_of machine s) k s.statement earlier ds e h

pub definitions_differ : (k : Scope) (machine : List ℕ) (steps : List Step) (ds : List Definition) → definitions_of k machine steps ≡ Ok ds → AreDifferent (names_of ds)
definitions_differ k machine steps ds e =
    along_keeps (λ z. AreDifferent (names_of z)) (λ s. Unit {0}) (definitions_behind k machine) (apart_step k machine) [] steps ds (always steps) e tt

-- ---- entries

abbrev pub made_names : List Made → List (List ℕ)
made_names ms = map (λ (m : Made). m.name) ms

abbrev meant_names : List Meaning → List (List ℕ)
meant_names ms = map (λ (m : Meaning). m.name) ms

in_case : (b : Bool) (n : List ℕ) (cs ds : List ActionId) (m : Meaning) (ms : List Meaning) → In n (made_names (cond b (entry cs m ∷ []) [] ++ entries ds ms)) → (In n (made_names (entries ds ms)) → In n (meant_names ms)) → In n (meant_names (m ∷ ms))
in_case true n cs ds m ms (inl h) f = inl h
in_case true n cs ds m ms (inr h) f = inr (f h)
in_case false n cs ds m ms h f = inr (f h)

in_entries : (n : List ℕ) (cs : List ActionId) (ms : List Meaning) → In n (made_names (entries cs ms)) → In n (meant_names ms)
in_entries n cs [] h = h
in_entries n cs (m ∷ ms) h = in_case (is_entry m.sign) n cs (conditions_by cs m) m ms h (in_entries n (conditions_by cs m) ms)

differ_case : (b : Bool) (cs ds : List ActionId) (m : Meaning) (ms : List Meaning) → (In m.name (meant_names ms) → ⊥) → AreDifferent (made_names (entries ds ms)) → AreDifferent (made_names (cond b (entry cs m ∷ []) [] ++ entries ds ms))
differ_case true cs ds m ms new h = ((λ g. new (in_entries m.name ds ms g)), h)
differ_case false cs ds m ms new h = h

made_differ : (cs : List ActionId) (ms : List Meaning) → AreDifferent (meant_names ms) → AreDifferent (made_names (entries cs ms))
made_differ cs [] h = tt
made_differ cs (m ∷ ms) h = differ_case (is_entry m.sign) cs (conditions_by cs m) m ms h.0 (made_differ (conditions_by cs m) ms h.1)

module _ (alphabet : Alphabet) where
  -- definitions give their own names
  same_names : (known : List Plain) (ds : List Definition) → meant_names (meanings_behind alphabet known ds) ≡ names_of ds
  same_names known [] = refl
  same_names known (d ∷ ds) = ap (λ z. d.name ∷ z) (same_names (known ++ value_plain alphabet known d.value ∷ []) ds)

  same_count : (known : List Plain) (ds : List Definition) → length (meanings_behind alphabet known ds) ≡ length ds
  same_count known [] = refl
  same_count known (d ∷ ds) = ap suc (same_count (known ++ value_plain alphabet known d.value ∷ []) ds)

-- no two entries have one name where no two definitions have
pub entries_differ : (cs : List ActionId) (alphabet : Alphabet) (ds : List Definition) → AreDifferent (names_of ds) → AreDifferent (made_names (entries cs (meanings_in alphabet ds)))
entries_differ cs alphabet ds h = made_differ cs (meanings_in alphabet ds) (subst AreDifferent (sym (same_names alphabet [] ds)) h)

-- ---- how many

few_case : (b : Bool) (cs ds : List ActionId) (m : Meaning) (ms : List Meaning) → length (entries ds ms) ≤ length ms → length (cond b (entry cs m ∷ []) [] ++ entries ds ms) ≤ suc (length ms)
few_case true cs ds m ms h = omega (arith, h)
few_case false cs ds m ms h = omega (arith, h)

fewer_made : (cs : List ActionId) (ms : List Meaning) → length (entries cs ms) ≤ length ms
fewer_made cs [] = omega arith
fewer_made cs (m ∷ ms) = few_case (is_entry m.sign) cs (conditions_by cs m) m ms (fewer_made (conditions_by cs m) ms)

-- no more entries than definitions
pub fewer_entries : (cs : List ActionId) (alphabet : Alphabet) (ds : List Definition) → length (entries cs (meanings_in alphabet ds)) ≤ length ds
fewer_entries cs alphabet ds =
    let same = same_count alphabet [] ds in
    let fewer = fewer_made cs (meanings_in alphabet ds) in
    omega (arith, fewer, same)
