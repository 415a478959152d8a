-- Each limit that is passed stands at a statement, so none is missed.
use Rattle.std.proofs.Common.{◌≡◌, ◌⊎◌, ℕ, Bool, true, false, List, [], ◌∷◌, ◌++◌, Option, None, Some, Result, Ok, Err, inl, inr, refl, sym, ap, ◌∙◌, subst, append_assoc, eq-eqb}
use Rattle.std.specs.Prelude.{◌&&◌, ◌||◌, if◌then◌else◌, option_map}
use Rattle.std.specs.List.{list_any}
use Rattle.std.proofs.lemmas.Bool.{cases_Bool, false≢true}
use Rattle.rl_types.specs.declared.faults.Limit.{Limit}
use Rattle.rl_types.specs.declared.faults.LimitKind.{LimitKind}
use Rattle.rl_types.specs.declared.numbers.ActionId.{ActionId}
use Rattle.rl_types.specs.declared.numbers.Place.{Place}
use Rattle.rl_grammar.specs.declared.read_fault.ReadFault.{ReadFault}
use Rattle.rl_grammar.specs.declared.read_fault.ReadFault.TheVariants as reason
use Rattle.rl_grammar.specs.declared.syntax.Definition.{Definition as Written}
use Rattle.rl_grammar.specs.declared.syntax.Statement.{Statement}
use Rattle.rl_grammar.specs.declared.syntax.Statement.TheVariants as statement
use Rattle.rl_grammar.specs.declared.step.Step.{Step}
use Rattle.rl_includes.specs.declared.unrolled.Unrolled.{Unrolled}
use Rattle.rl_draft.specs.declared.draft.Definition.{Definition}
use Rattle.rl_draft.specs.declared.draft.Draft.{Draft}
use Rattle.rl_names.specs.Actions.{actions_of, action_names}
use Rattle.rl_names.specs.Answers.{and_then, each, along, or_else, first_of}
use Rattle.rl_names.specs.Checks.{leaves_fault}
use Rattle.rl_names.specs.Drafts.{value_read, definition_read, definition_behind, definitions_by, definitions_behind, scope_of, definitions_with, draft_with, draft_of, drafts_of}
use Rattle.rl_names.specs.Expressions.{Scope}
use Rattle.rl_names.specs.Frames.{is_of, machines_of}
use Rattle.rl_names.specs.Names.{names_fault}
use Rattle.rl_rewrite.specs.Entries.{meaning, meanings_behind, meanings, limit_by, conditions_by, first_limit}
use Rattle.rl_rewrite.specs.Entries as entries
use Rattle.rl_types.specs.declared.alphabet.Alphabet.{Alphabet}
use Rattle.rl_rewrite.specs.Plain.{Plain, value_of, value_plain}
use Rattle.rl_resolve.specs.Limits.{passed_as, passed, same_place, is_defined_at, limit_at, first_in_text, limit_fault}
use Rattle.rl_resolve.specs.Refusals as refusals
use Rattle.rl_resolve.specs.Resolving.{machine_fault, instance_fault, drafted, within, outcome}
use Rattle.rl_resolve.specs.declared.answer.ResolveFault.{ResolveFault}
use Rattle.rl_resolve.specs.declared.answer.Runs.{Runs}
use Rattle.rl_resolve.specs.declared.limits.Passed.{Passed}
use Rattle.rl_resolve.proofs.OutcomeLaws.{ok_none, ok_read, ok_next}

-- ---- plain facts

abbrev Each : {X : Type 0} → (X → Type 0) → List X → Type 0
Each P [] = Unit {0}
Each P (x ∷ xs) = P x × Each P xs

each_more : {X : Type 0} (P : X → Type 0) (xs : List X) (x : X) → Each P xs → P x → Each P (xs ++ x ∷ [])
each_more P [] x h k = (k, tt)
each_more P (y ∷ ys) x h k = (h.0, each_more P ys x h.1 k)

some_or_none : {X : Type 0} (x : X) → Some x ≡ None → ⊥
some_or_none x h = cc

none_or_some : {X : Type 0} (x : X) → None ≡ Some x → ⊥
none_or_some x h = cc

same_some : {X : Type 0} (x y : X) → Some x ≡ Some y → x ≡ y
same_some x y h = cc

same_ok : {X : Type 0} (x y : X) → ◌≡◌ {A = Result X ReadFault} (Ok x) (Ok y) → x ≡ y
same_ok x y h = cc

err_or_ok : {X : Type 0} (e : ReadFault) (x : X) → ◌≡◌ {A = Result X ReadFault} (Err e) (Ok x) → ⊥
err_or_ok e x h = cc

and_true : (a b : Bool) → a ≡ true → b ≡ true → (a && b) ≡ true
and_true a b h k = ap (λ z. z && b) h ∙ k

or_false : (a b : Bool) → a ≡ false → b ≡ false → (a || b) ≡ false
or_false a b h k = ap (λ z. z || b) h ∙ k

or_true : (a b : Bool) → b ≡ true → (a || b) ≡ true
or_true true b h = refl
or_true false b h = h

any_at : {X : Type 0} (test : X → Bool) (xs : List X) (x : X) (ys : List X) → test x ≡ true → list_any test (xs ++ x ∷ ys) ≡ true
any_at test [] x ys h = ap (λ z. z || list_any test ys) h
any_at test (w ∷ ws) x ys h = or_true (test w) (list_any test (ws ++ x ∷ ys)) (any_at test ws x ys h)

or_none : {X : Type 0} (a b : Option X) → or_else a b ≡ None → (a ≡ None) × (b ≡ None)
or_none None b h = (refl, h)
or_none (Some x) b h = absurd (some_or_none x h)

ok_then : {A B : Type 0} (read : Result A ReadFault) (next : A → Result B ReadFault) (y : B) → and_then read next ≡ Ok y → (x : A) × (read ≡ Ok x) × (next x ≡ Ok y)
ok_then (Ok x) next y h = (x, refl, h)
ok_then (Err e) next y h = absurd (err_or_ok e y h)

-- ---- where no limit is found

-- a statement of the machine defines the name that stands there
abbrev stands : List Step → List ℕ → Place → Bool
stands steps machine place = list_any (λ s. is_of machine s && is_defined_at place s.statement) steps

abbrev is_at : Step → Passed → Bool
is_at s p = is_of p.machine s && is_defined_at p.limit.place s.statement

untold : {X : Type 0} (b : Bool) (x : X) → (if b then Some x else None) ≡ None → b ≡ false
untold true x h = absurd (some_or_none x h)
untold false x h = refl

none_here : (s : Step) (all : List Passed) → first_of (limit_at s) all ≡ None → Each (λ p. is_at s p ≡ false) all
none_here s [] h = tt
none_here s (p ∷ ps) h = let k = or_none (limit_at s p) (first_of (limit_at s) ps) h in (untold (is_at s p) p.limit k.0, none_here s ps k.1)

abbrev StandsNowhere : List Step → Passed → Type 0
StandsNowhere steps p = stands steps p.machine p.limit.place ≡ false

nowhere : (all : List Passed) → Each (StandsNowhere []) all
nowhere [] = tt
nowhere (p ∷ ps) = (refl, nowhere ps)

nor_there : (s : Step) (ss : List Step) (all : List Passed) → Each (λ p. is_at s p ≡ false) all → Each (StandsNowhere ss) all → Each (StandsNowhere (s ∷ ss)) all
nor_there s ss [] h k = tt
nor_there s ss (p ∷ ps) h k = (or_false (is_at s p) (stands ss p.machine p.limit.place) h.0 k.0, nor_there s ss ps h.1 k.1)

none_in_text : (steps : List Step) (all : List Passed) → first_in_text steps all ≡ None → Each (StandsNowhere steps) all
none_in_text [] all h = nowhere all
none_in_text (s ∷ ss) all h = let k = or_none (first_of (limit_at s) all) (first_in_text ss all) h in nor_there s ss all (none_here s all k.0) (none_in_text ss all k.1)

-- ---- definitions stand at statements

same_place_as_itself : (p : Place) → same_place p p ≡ true
same_place_as_itself p = and_true _ _ (and_true _ _ (eq-eqb p.file p.file refl) (eq-eqb p.line p.line refl)) (eq-eqb p.col p.col refl)

read_place : (k : Scope) (d : Written) (x : Definition) → definition_read k d ≡ Ok x → x.place ≡ d.name.place
read_place k d x h = let i = ok_then (value_read k d.value) _ x h in ap (λ (z : Definition). z.place) (sym (same_ok _ x i.2))

not_refused : {X : Type 0} (b : Bool) (e : ReadFault) (read : Result X ReadFault) (y : X) → (if b then Err e else read) ≡ Ok y → read ≡ Ok y
not_refused true e read y h = absurd (err_or_ok e y h)
not_refused false e read y h = h

chosen : {X : Type 0} (b : Bool) (read other : Result X ReadFault) (y : X) → b ≡ true → (if b then read else other) ≡ Ok y → read ≡ Ok y
chosen b read other y is h = subst (λ z. (if z then read else other) ≡ Ok y) is h

passed_over : {X : Type 0} (b : Bool) (read other : Result X ReadFault) (y : X) → b ≡ false → (if b then read else other) ≡ Ok y → other ≡ Ok y
passed_over b read other y is h = subst (λ z. (if z then read else other) ≡ Ok y) is h

abbrev Adds : List Definition → Written → List Definition → Type 0
Adds earlier d ds = (x : Definition) × (ds ≡ earlier ++ x ∷ []) × (x.place ≡ d.name.place)

adds : (k : Scope) (earlier : List Definition) (d : Written) (ds : List Definition) → definition_behind k earlier d ≡ Ok ds → Adds earlier d ds
adds k earlier d ds h =
    let i = ok_then (definition_read _ d) (λ x. Ok (earlier ++ x ∷ [])) ds (not_refused _ _ _ ds h) in
    (i.0, sym (same_ok _ ds i.2), read_place _ d i.0 i.1)

module _ (machine : List ℕ) (whole : List Step) where
  abbrev Stands : Definition → Type 0
  Stands x = stands whole machine x.place ≡ true

  abbrev IsHere : (Place → Bool) → Type 0
  IsHere test = (place : Place) → test place ≡ true → stands whole machine place ≡ true

  same_behind : (earlier ds : List Definition) → ◌≡◌ {A = Result (List Definition) ReadFault} (Ok earlier) (Ok ds) → Each Stands earlier → Each Stands ds
  same_behind earlier ds e h = subst (Each Stands) (same_ok earlier ds e) h

  by_statement : (s : Statement) (k : Scope) (earlier ds : List Definition) → IsHere (λ place. is_defined_at place s) → Each Stands earlier → definitions_by k earlier s ≡ Ok ds → Each Stands ds
  by_statement (statement.Definition d) k earlier ds here h e =
      let i = adds k earlier d ds e in
      subst (Each Stands) (sym i.1) (each_more Stands earlier i.0 h (subst (λ z. stands whole machine z ≡ true) (sym i.2) (here d.name.place (same_place_as_itself d.name.place))))
  by_statement (statement.Machine m) k earlier ds here h e = same_behind earlier ds e h
  by_statement (statement.Include m) k earlier ds here h e = same_behind earlier ds e h
  by_statement (statement.Alphtype m) k earlier ds here h e = same_behind earlier ds e h
  by_statement (statement.Access m) k earlier ds here h e = same_behind earlier ds e h
  by_statement (statement.Variable m) k earlier ds here h e = same_behind earlier ds e h
  by_statement (statement.Write m) k earlier ds here h e = same_behind earlier ds e h
  by_statement (statement.Action m) k earlier ds here h e = same_behind earlier ds e h

  by_step : (s : Step) (k : Scope) (earlier ds : List Definition) → IsHere (λ place. is_of machine s && is_defined_at place s.statement) → Each Stands earlier → definitions_behind k machine earlier s ≡ Ok ds → Each Stands ds
  by_step s k earlier ds here h e = elim (cases_Bool (is_of machine s)) [
    | inl own ↦
        by_statement s.statement k earlier ds (λ place t. here place (and_true (is_of machine s) (is_defined_at place s.statement) own t)) h
        (chosen (is_of machine s) (definitions_by k earlier s.statement) (Ok earlier) ds own e)
    | inr other ↦ same_behind earlier ds (passed_over (is_of machine s) (definitions_by k earlier s.statement) (Ok earlier) ds other e) h
  ]

  all_stand : (steps done : List Step) (k : Scope) (earlier ds : List Definition) → whole ≡ done ++ steps → Each Stands earlier → along (definitions_behind k machine) earlier steps ≡ Ok ds → Each Stands ds
  all_stand [] done k earlier ds w h e = same_behind earlier ds e h
  all_stand (s ∷ ss) done k earlier ds w h e =
      let i = ok_then (definitions_behind k machine earlier s) (λ t. along (definitions_behind k machine) t ss) ds e in
      all_stand ss (done ++ s ∷ []) k i.0 ds (w ∙ sym (append_assoc done (s ∷ []) ss))
      (by_step s k earlier i.0 (λ place t. subst (λ z. stands z machine place ≡ true) (sym w) (any_at (λ (x : Step). is_of machine x && is_defined_at place x.statement) done s ss t)) h i.1) i.2

  at_or_later : (o : Option LimitKind) (place : Place) (later : Option Limit) (l : Limit) → entries.limit_at o place later ≡ Some l → (l.place ≡ place) ⊎ (later ≡ Some l)
  at_or_later None place later l e = inr e
  at_or_later (Some kind) place later l e = inl (ap (λ (z : Limit). z.place) (sym (same_some _ l e)))

  limit_stands : (conditions : List ActionId) (alphabet : Alphabet) (ps : List Plain) (ds : List Definition) (l : Limit) → Each Stands ds → first_limit conditions (meanings_behind alphabet ps ds) ≡ Some l → stands whole machine l.place ≡ true
  limit_stands conditions alphabet ps [] l h e = absurd (none_or_some l e)
  limit_stands conditions alphabet ps (d ∷ ds) l h e =
      let m = meaning d (value_of alphabet ps d.value) in
      let behind = ps ++ value_plain alphabet ps d.value ∷ [] in
      elim (at_or_later (limit_by conditions m) d.place (first_limit (conditions_by conditions m) (meanings_behind alphabet behind ds)) l e) [
        | inl here ↦ subst (λ z. stands whole machine z ≡ true) (sym here) h.0
        | inr later ↦ limit_stands (conditions_by conditions m) alphabet behind ds l h.1 later
      ]

-- ---- drafts

-- the limit that its entries pass first stands at a statement
abbrev IsTold : List Step → Draft → Type 0
IsTold steps draft = (l : Limit) → first_limit [] (meanings draft) ≡ Some l → stands steps draft.machine l.place ≡ true

draft_told : (steps : List Step) (machine : List ℕ) (draft : Draft) → draft_of steps machine ≡ Ok draft → IsTold steps draft
draft_told steps machine draft h =
    let i = ok_then (definitions_with steps machine (actions_of machine steps)) (λ ds. Ok (draft_with steps machine (actions_of machine steps) ds)) draft h in
    let j = ok_then (action_names (actions_of machine steps)) _ i.0 i.1 in
    subst (IsTold steps) (same_ok (draft_with steps machine (actions_of machine steps) i.0) draft i.2)
    (λ l e. limit_stands machine steps [] (draft_with steps machine (actions_of machine steps) i.0).alphabet [] i.0 l (all_stand machine steps steps [] (scope_of j.0 machine steps) [] i.0 refl tt j.2) e)

drafts_told : (steps : List Step) (machines : List (List ℕ)) (drafts : List Draft) → each (draft_of steps) machines ≡ Ok drafts → Each (IsTold steps) drafts
drafts_told steps [] drafts h = subst (Each (IsTold steps)) (same_ok [] drafts h) tt
drafts_told steps (m ∷ ms) drafts h =
    let i = ok_then (draft_of steps m) (λ y. and_then (each (draft_of steps) ms) (λ ys. Ok (y ∷ ys))) drafts h in
    let j = ok_then (each (draft_of steps) ms) (λ ys. Ok (i.0 ∷ ys)) drafts i.2 in
    subst (Each (IsTold steps)) (same_ok (i.0 ∷ j.0) drafts j.2) (draft_told steps m i.0 i.1, drafts_told steps ms j.0 j.1)

abbrev PassesNone : List Step → List ℕ → Option Limit → List Passed → Type 0
PassesNone steps machine o rest = (passed_as machine o ≡ []) × Each (StandsNowhere steps) rest

passes_none : (steps : List Step) (draft : Draft) (o : Option Limit) (rest : List Passed) → first_limit [] (meanings draft) ≡ o → IsTold steps draft → Each (StandsNowhere steps) (passed_as draft.machine o ++ rest) → PassesNone steps draft.machine o rest
passes_none steps draft None rest e told h = (refl, h)
passes_none steps draft (Some l) rest e told h = absurd (false≢true (sym h.0 ∙ told l e))

none_passed : (steps : List Step) (drafts : List Draft) → Each (IsTold steps) drafts → Each (StandsNowhere steps) (passed drafts) → passed drafts ≡ []
none_passed steps [] told h = refl
none_passed steps (d ∷ ds) told h =
    let k = passes_none steps d (first_limit [] (meanings d)) (passed ds) refl told.0 h in
    ap (λ z. z ++ passed ds) k.0 ∙ none_passed steps ds told.1 k.1

-- where no limit is found in the text, no machine passes one
pub no_limit_is_missed : (steps : List Step) (drafts : List Draft) → drafts_of steps ≡ Ok drafts → first_in_text steps (passed drafts) ≡ None → passed drafts ≡ []
no_limit_is_missed steps drafts h none = none_passed steps drafts (drafts_told steps (machines_of steps) drafts h) (none_in_text steps (passed drafts) none)

-- ---- what is accepted

read_as : {A : Type 0} (files : List (List ℕ)) (read : Result A ReadFault) (x : A) → ◌≡◌ {A = Result A ResolveFault} (refusals.read_in files read) (Ok x) → read ≡ Ok x
read_as files (Ok y) x h = cc
read_as files (Err e) x h = absurd (refused_or_ok (refusals.named files e) x h)
  where
    refused_or_ok : {X : Type 0} (e : ResolveFault) (x : X) → ◌≡◌ {A = Result X ResolveFault} (Err e) (Ok x) → ⊥
    refused_or_ok e x h = cc

drafted_as : (which : Runs) (u : Unrolled) (drafts : List Draft) → drafted which u ≡ Ok drafts → drafts_of u.steps ≡ Ok drafts
drafted_as which u drafts h =
    read_as u.files (drafts_of u.steps) drafts
    (ok_read (refusals.told u.files (instance_fault which u.steps (machines_of u.steps))) _ drafts
    (ok_read (refusals.told u.files (leaves_fault u.steps)) _ drafts
    (ok_read (refusals.told u.files (machine_fault which (machines_of u.steps))) _ drafts
    (ok_read (refusals.stopped u.stop) _ drafts
    (ok_read (refusals.told u.files (names_fault u.steps)) _ drafts h)))))

none_found : (files : List (List ℕ)) (o : Option Limit) → refusals.told files (option_map (λ limit. reason.Limit limit) o) ≡ None → o ≡ None
none_found files None h = refl
none_found files (Some l) h = absurd (some_or_none _ h)

accepted_same : (due : Option ResolveFault) (x y : List Draft) → refusals.refused due (Ok x) ≡ Ok y → x ≡ y
accepted_same due x y h = let e = ok_read due (Ok x) y h in cc

-- the machines of a source that is accepted pass no limit
pub accepted_within_limits : (which : Runs) (u : Unrolled) (drafts : List Draft) → outcome which u ≡ Ok drafts → passed drafts ≡ []
accepted_within_limits which u drafts h =
    let i = ok_next (drafted which u) (within u) drafts h in
    let due = refusals.told u.files (limit_fault u.steps (passed i.0)) in
    let none = none_found u.files (first_in_text u.steps (passed i.0)) (ok_none due (Ok i.0) drafts i.2) in
    subst (λ z. passed z ≡ []) (accepted_same due i.0 drafts i.2) (no_limit_is_missed u.steps i.0 (drafted_as which u i.0 i.1) none)

-- and its drafts are read from its statements
pub accepted_drafts : (which : Runs) (u : Unrolled) (drafts : List Draft) → outcome which u ≡ Ok drafts → drafts_of u.steps ≡ Ok drafts
accepted_drafts which u drafts h =
    let i = ok_next (drafted which u) (within u) drafts h in
    subst (λ z. drafts_of u.steps ≡ Ok z) (accepted_same (refusals.told u.files (limit_fault u.steps (passed i.0))) i.0 drafts i.2) (drafted_as which u i.0 i.1)

no_fault : (files : List (List ℕ)) (o : Option ReadFault) → refusals.told files o ≡ None → o ≡ None
no_fault files None h = refl
no_fault files (Some e) h = absurd (some_or_none _ h)

-- in which no fault of names is found
pub accepted_names : (which : Runs) (u : Unrolled) (drafts : List Draft) → outcome which u ≡ Ok drafts → names_fault u.steps ≡ None
accepted_names which u drafts h =
    let i = ok_next (drafted which u) (within u) drafts h in
    no_fault u.files (names_fault u.steps) (ok_none (refusals.told u.files (names_fault u.steps)) _ i.0 i.1)

-- and no fault of keys or of entries
pub accepted_leaves : (which : Runs) (u : Unrolled) (drafts : List Draft) → outcome which u ≡ Ok drafts → leaves_fault u.steps ≡ None
accepted_leaves which u drafts h =
    let i = ok_next (drafted which u) (within u) drafts h in
    let a = ok_read (refusals.stopped u.stop) _ i.0 (ok_read (refusals.told u.files (names_fault u.steps)) _ i.0 i.1) in
    no_fault u.files (leaves_fault u.steps) (ok_none (refusals.told u.files (leaves_fault u.steps)) _ i.0 (ok_read (refusals.told u.files (machine_fault which (machines_of u.steps))) _ i.0 a))
