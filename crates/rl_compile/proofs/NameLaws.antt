-- No two machines of a source have one name.
use Rattle.std.proofs.Common.{◌≡◌, ◌∙◌, ℕ, Bool, true, false, List, [], ◌∷◌, ◌++◌, map, Ok, refl, sym, ap, subst}
use Rattle.std.specs.Prelude.{if◌then◌else◌, fold}
use Rattle.std.specs.List.{list_any}
use Rattle.std.specs.Str.{bytes_eq}
use Rattle.rl_io.specs.Outside.{Held}
use Rattle.rl_grammar.specs.declared.step.Step.{Step}
use Rattle.rl_grammar.specs.Steps.{is_included}
use Rattle.rl_grammar.specs.declared.syntax.Syntax.{Syntax}
use Rattle.rl_grammar.specs.declared.syntax.Statement.{Statement}
use Rattle.rl_grammar.specs.declared.syntax.Statement.TheVariants as statement
use Rattle.rl_automata.specs.Refused.{AreDifferent}
use Rattle.rl_model.specs.declared.spec.Spec.{Spec}
use Rattle.rl_draft.specs.declared.draft.Draft.{Draft}
use Rattle.rl_form.proofs.Apart.{apart_push}
use Rattle.rl_formed.proofs.NameLaws.{not_in}
use Rattle.rl_formed.proofs.ResultLaws.{ok_then, same_ok}
use Rattle.rl_names.specs.Actions.{actions_of}
use Rattle.rl_names.specs.Answers.{and_then, each}
use Rattle.rl_names.specs.Drafts.{definitions_with, draft_of}
use Rattle.rl_names.specs.Frames.{machine_by, machine_behind, machines_of}
use Rattle.rl_printed.specs.Printed.{marking}
use Rattle.rl_printed.specs.Reading.{HaveOwnNames}
use Rattle.rl_resolve.specs.declared.answer.Runs.{Runs}
use Rattle.rl_resolve.specs.Answers.{Resolves}
use Rattle.rl_resolve.specs.Descriptions.{Description, description, described}
use Rattle.rl_resolve.proofs.LimitLaws.{accepted_drafts}

-- ---- the names of machines

with_case : (b : Bool) (names : List (List ℕ)) (name : List ℕ) → list_any (bytes_eq name) names ≡ b → AreDifferent names →
    AreDifferent (if b then names else names ++ name ∷ [])
with_case true names name e h = h
with_case false names name e h = apart_push names name (not_in name names e) h

apart_by : (s : Statement) (names : List (List ℕ)) → AreDifferent names → AreDifferent (machine_by names s)
apart_by (statement.Machine m) names h = with_case (list_any (bytes_eq m.name.text) names) names m.name.text refl h
apart_by (statement.Definition d) names h = h
apart_by (statement.Action a) names h = h
apart_by (statement.Include m) names h = h
apart_by (statement.Alphtype m) names h = h
apart_by (statement.Access m) names h = h
apart_by (statement.Variable m) names h = h
apart_by (statement.Write m) names h = h

apart_case : (b : Bool) (s : Statement) (names : List (List ℕ)) → AreDifferent names → AreDifferent (if b then names else machine_by names s)
apart_case true s names h = h
apart_case false s names h = apart_by s names h

apart_behind : (steps : List Step) (names : List (List ℕ)) → AreDifferent names → AreDifferent (fold machine_behind names steps)
apart_behind [] names h = h
apart_behind (s ∷ ss) names h = apart_behind ss (machine_behind names s) (apart_case (is_included s) s.statement names h)

machines_apart : (steps : List Step) → AreDifferent (machines_of steps)
machines_apart steps = apart_behind steps [] tt

-- ---- drafts bear them

draft_named : (steps : List Step) (machine : List ℕ) (d : Draft) → draft_of steps machine ≡ Ok d → d.machine ≡ machine
draft_named steps machine d e =
    let i = ok_then (definitions_with steps machine (actions_of machine steps)) _ d e in ap (λ (x : Draft). x.machine) (sym (same_ok _ d i.2))

drafts_named : (steps : List Step) (machines : List (List ℕ)) (ds : List Draft) → each (draft_of steps) machines ≡ Ok ds →
    map (λ (d : Draft). d.machine) ds ≡ machines
drafts_named steps [] ds e = ap (map (λ (d : Draft). d.machine)) (sym (same_ok [] ds e))
drafts_named steps (m ∷ ms) ds e =
    let i = ok_then (draft_of steps m) (λ y. and_then (each (draft_of steps) ms) (λ zs. Ok (y ∷ zs))) ds e in
    let j = ok_then (each (draft_of steps) ms) (λ zs. Ok (i.0 ∷ zs)) ds i.2 in
    ap (map (λ (d : Draft). d.machine)) (sym (same_ok (i.0 ∷ j.0) ds j.2))
    ∙ (ap (λ x. x ∷ map (λ (d : Draft). d.machine) j.0) (draft_named steps m i.0 i.1) ∙ ap (λ xs. m ∷ xs) (drafts_named steps ms j.0 j.1))

-- ---- and so do Specs

specs_named : (specs : List Spec) → map (λ (d : Description). d.machine) (map description specs) ≡ map (λ (s : Spec). s.machine) specs
specs_named [] = refl
specs_named (s ∷ ss) = ap (λ z. s.machine ∷ z) (specs_named ss)

described_named : (files : List (List ℕ)) (ds : List Draft) →
    map (λ (d : Description). d.machine) (map (described files) ds) ≡ map (λ (d : Draft). d.machine) ds
described_named files [] = refl
described_named files (d ∷ ds) = ap (λ z. d.machine ∷ z) (described_named files ds)

pub own_names : (held : Held) (name : List ℕ) (trees : List Syntax) (which : Runs) (specs : List Spec) → Resolves held name trees which specs →
    HaveOwnNames specs
own_names held name trees which specs r =
    let steps = r.unrolled.steps in
    let names = drafts_named steps (machines_of steps) r.drafts (accepted_drafts which r.unrolled r.drafts r.accepted) in
    let same = sym (specs_named specs) ∙ (ap (map (λ (d : Description). d.machine)) r.described_by ∙ (described_named r.unrolled.files r.drafts ∙ names)) in
    subst AreDifferent (sym same) (machines_apart steps)

-- ---- whether `#line` is printed changes no name

marked_named : (marked : Bool) (specs : List Spec) → map (λ (s : Spec). s.machine) (map (marking marked) specs) ≡ map (λ (s : Spec). s.machine) specs
marked_named marked [] = refl
marked_named marked (s ∷ ss) = ap (λ z. s.machine ∷ z) (marked_named marked ss)

pub marked_own : (marked : Bool) (specs : List Spec) → HaveOwnNames specs → HaveOwnNames (map (marking marked) specs)
marked_own marked specs h = subst AreDifferent (sym (marked_named marked specs)) h
