-- How the steps from a source to its Specs and sections put together say what it comes to.
use Rattle.std.proofs.Common.{◌≡◌, ◌∙◌, ◌<◌, inl, inr, ℕ, suc, Bool, true, false, List, [], ◌∷◌, length, All, slice_get, Option, Some, Result, Ok, Err, refl, sym, ap, subst, arith, cond}
use Rattle.std.specs.Prelude.{IfOk, IfErr, IfSome}
use Rattle.std.specs.List.{find}
use Rattle.rl_types.specs.declared.faults.Fault.{Fault}
use Rattle.rl_types.specs.declared.faults.FaultKind.TheVariants.{F12}
use Rattle.rl_types.specs.declared.faults.Limit.{Limit}
use Rattle.rl_io.specs.Outside.{Held, Rose, Reads}
use Rattle.rl_grammar.specs.declared.read_fault.ReadFault.{ReadFault}
use Rattle.rl_grammar.specs.declared.read_fault.ReadFault.TheVariants as reason
use Rattle.rl_grammar.specs.declared.syntax.Syntax.{Syntax}
use Rattle.rl_automata.specs.Refused as cause
use Rattle.rl_automata.specs.Refused.{Cause}
use Rattle.rl_model.specs.declared.spec.Spec.{Spec}
use Rattle.rl_model.specs.RefusedNode.{IsRefusedAt, IsBuildable}
use Rattle.rl_model.specs.WellFormed.{IsWellFormed}
use Rattle.rl_build.specs.declared.fault.BuildRefusal.{BuildRefusal}
use Rattle.rl_build.specs.Entries.{TellsRefusal}
use Rattle.rl_build.specs.Trees.{cause_of}
use Rattle.rl_files.specs.Files.{ReadsAs, Explains}
use Rattle.rl_includes.specs.declared.unrolled.Stop.{Stop}
use Rattle.rl_includes.specs.declared.unrolled.Stop.TheVariants as stop
use Rattle.rl_resolve.specs.declared.answer.ResolveFault.{ResolveFault}
use Rattle.rl_resolve.specs.declared.answer.ResolveFault.TheVariants as refusal
use Rattle.rl_resolve.specs.declared.answer.Runs.{Runs}
use Rattle.rl_resolve.specs.declared.answer.Runs.TheVariants as runs
use Rattle.rl_resolve.specs.Refusals.{file_name}
use Rattle.rl_resolve.specs.Answers as resolved
use Rattle.rl_resolve.specs.Answers.{Resolves, IsDueRefusal, IsFormed, HasEntry, HasRunning, IsStoreFailure, is_running}
use Rattle.rl_compile.specs.declared.fault.CompileFault.{CompileFault}
use Rattle.rl_compile.specs.declared.fault.CompileFault.TheVariants as faults
use Rattle.rl_compile.specs.Sources.{HasTrees, Says, HasSpecs, chosen, IsToldAs, IsUnbuilt}
use Rattle.rl_compile.specs.Sections.{Because, IsSectionFor, IsSectionIn, RefusesSpecs, RefusesSection}
use Rattle.rl_compile.specs.Reads.{ReadsText, ReadsSpecs, ReadsSource, TellsNode, told_by_names, told_by_text}

-- what explains one refusal explains it in other words too
pub because : (P Q : Stop → Type 0) → ((s : Stop) → P s → Q s) → (e : CompileFault) → Because P e → Because Q e
because P Q f (faults.Fault fault file) p = f (stop.Fault fault file) p
because P Q f (faults.Limit limit file) p = f (stop.Limit limit file) p
because P Q f (faults.Missing file) p = f (stop.Missing file) p
because P Q f (faults.StoreFailed file) p = f (stop.StoreFailed file) p
because P Q f faults.Memory p = tt

-- ---- the text

-- a text that is not read
pub text_refused : (held : Held) (name : List ℕ) (which : Runs) (before now : ℕ) (e : CompileFault) → ReadsText held name before now (Err e) →
    Because (RefusesSpecs held name which before now) e
text_refused held name which before now (faults.Fault fault file) p = absurd p
text_refused held name which before now (faults.Limit limit file) p = absurd p
text_refused held name which before now (faults.Missing file) p = inl (inl (p.0, ap (λ n. stop.Missing n) p.1), p.2)
text_refused held name which before now (faults.StoreFailed file) p = (p.0, inl p.1)
text_refused held name which before now faults.Memory p = tt

-- a text that is refused
pub fault_refused : (held : Held) (name file text : List ℕ) (which : Runs) (before now : ℕ) (f : Fault) → Reads held name text → file ≡ name →
    Explains 0 text (reason.Fault f) → now ≡ before →
    RefusesSpecs held name which before now (stop.Fault f file)
fault_refused held name file text which before now f reads same refused quiet =
    inl (inr (record { text = text; reads = reads; refused = (refused, same) }), quiet)

pub limit_refused : (held : Held) (name file text : List ℕ) (which : Runs) (before now : ℕ) (l : Limit) → Reads held name text → file ≡ name →
    Explains 0 text (reason.Limit l) → now ≡ before →
    RefusesSpecs held name which before now (stop.Limit l file)
limit_refused held name file text which before now l reads same refused quiet =
    inl (inr (record { text = text; reads = reads; refused = (refused, same) }), quiet)

pub text_unread : (held : Held) (name file text : List ℕ) (which : Runs) (count : ℕ) (e : ReadFault) → Reads held name text → file ≡ name →
    Explains 0 text e →
    Because (RefusesSpecs held name which count count) (told_by_text e file)
text_unread held name file text which count (reason.Fault f) reads same refused =
    fault_refused held name file text which count count f reads same refused refl
text_unread held name file text which count (reason.Limit l) reads same refused =
    limit_refused held name file text which count count l reads same refused refl
text_unread held name file text which count reason.Memory reads same refused = tt

-- ---- the statements

-- what is said of a refusal of statements
record IsSaid (held : Held) (file : List ℕ) (trees : List Syntax) (which : Runs) (before now : ℕ) (e : ResolveFault) : Type 0 where
  pub refused : resolved.IsRefusal held file trees which e
  pub due : (Rose before now → ⊥) → IsDueRefusal held file trees which e
  pub rose : IsStoreFailure e → Rose before now

said_specs : (held : Held) (name text : List ℕ) (trees : List Syntax) (which : Runs) (before now : ℕ) (e : ResolveFault) →
    HasTrees held name text trees → IsSaid held name trees which before now e →
    Because (RefusesSpecs held name which before now) (told_by_names e)
said_specs held name text trees which before now (refusal.Fault f file) h s =
    inr (record { text = text; trees = trees; has = h; refused = s.refused; due = s.due })
said_specs held name text trees which before now (refusal.Limit l file) h s =
    inr (record { text = text; trees = trees; has = h; refused = s.refused; due = s.due })
said_specs held name text trees which before now (refusal.Missing file) h s =
    inr (record { text = text; trees = trees; has = h; refused = s.refused; due = s.due })
said_specs held name text trees which before now (refusal.StoreFailed file) h s =
    (s.rose tt, inr (record { text = text; trees = trees; has = h; refused = s.refused; due = s.due }))
said_specs held name text trees which before now refusal.Memory h s = tt

-- statements that are refused
pub names_refused : (held : Held) (name file text : List ℕ) (trees : List Syntax) (which : Runs) (before now : ℕ) (e : ResolveFault) → file ≡ name →
    Reads held name text → ReadsAs 0 text trees →
    resolved.IsRefusal held file trees which e → ((Rose before now → ⊥) → IsDueRefusal held file trees which e) → (IsStoreFailure e → Rose before now) →
    Because (RefusesSpecs held name which before now) (told_by_names e)
names_refused held name file text trees which before now e same reads means refused due rose =
    said_specs held name text trees which before now e (record { reads = reads; means = means })
    (subst (λ n. IsSaid held n trees which before now e) same (record { refused = refused; due = due; rose = rose }))

-- statements that have their Specs
pub specs_said : (held : Held) (name file text : List ℕ) (trees : List Syntax) (which : Runs) (specs : List Spec) → file ≡ name → Reads held name text →
    ReadsAs 0 text trees →
    Resolves held file trees which specs → Says held name which text specs
specs_said held name file text trees which specs same reads means resolves = record {
  trees = trees;
  has = record { reads = reads; means = means };
  resolves = subst (λ n. Resolves held n trees which specs) same resolves;
}

-- ---- a text, and then its Specs

pub reads_moved : (held mid_held : Held) (name text seen : List ℕ) → mid_held ≡ held → seen ≡ text → Reads held name text → Reads mid_held name seen
reads_moved held mid_held name text seen same e p = subst (λ t. Reads mid_held name t) (sym e) (subst (λ h. Reads h name text) (sym same) p)

pub source_read : (held mid_held : Held) (name text seen : List ℕ) (which : Runs) (before mid now : ℕ) (specs : List Spec) → mid_held ≡ held →
    seen ≡ text → mid ≡ before →
    ReadsSpecs mid_held name which seen mid now (Ok specs) → ReadsSource held name which before now (Ok (text, specs))
source_read held mid_held name text seen which before mid now specs same e quiet p =
    (subst (λ t. Says held name which t specs) e (subst (λ h. Says h name which seen specs) same p.0), p.1 ∙ quiet)

pub source_refused : (held mid_held : Held) (name seen : List ℕ) (which : Runs) (before mid now : ℕ) (e : CompileFault) → mid_held ≡ held → mid ≡ before →
    ReadsSpecs mid_held name which seen mid now (Err e) → ReadsSource held name which before now (Err e)
source_refused held mid_held name seen which before mid now e same quiet p =
    subst (λ n. Because (RefusesSpecs held name which n now) e) quiet (subst (λ h. Because (RefusesSpecs h name which mid now) e) same p)

-- ---- the machine that runs

same_spec : (a b : Spec) → Some a ≡ Some b → a ≡ b
same_spec a b e = cc

some_first : (x : Spec) (xs : List Spec) → 0 < length (x ∷ xs)
some_first x xs = omega arith

formed_later : (x : Spec) (xs : List Spec) → All IsFormed (x ∷ xs) → All IsFormed xs
formed_later x xs formed i d b = formed (suc i) d (omega (arith, b))

has_entry : (name : List ℕ) (x : Spec) → is_running name x ≡ true → HasEntry x
has_entry name x e = search (arith, e)

found_formed : (name : List ℕ) (specs : List Spec) (spec : Spec) → All IsFormed specs → find (is_running name) specs ≡ Some spec → IsWellFormed spec
found_formed name [] spec formed at = absurd (cc at)
found_formed name (x ∷ xs) spec formed at = by (is_running name x) refl (λ h. found_formed name xs spec (formed_later x xs formed) h) at
  where
    by : (b : Bool) → is_running name x ≡ b → (find (is_running name) xs ≡ Some spec → IsWellFormed spec) →
        cond b (Some x) (find (is_running name) xs) ≡ Some spec → IsWellFormed spec
    by true e later h = subst IsWellFormed (same_spec x spec h) (formed 0 x (some_first x xs) (has_entry name x e))
    by false e later h = later h

first_formed : (specs : List Spec) (spec : Spec) → All IsFormed specs → HasRunning runs.First specs → slice_get specs 0 ≡ Some spec → IsWellFormed spec
first_formed [] spec formed running at = absurd running
first_formed (x ∷ xs) spec formed running at = subst IsWellFormed (same_spec x spec at) (formed 0 x (some_first x xs) running)

-- it has its form
pub chosen_formed : (which : Runs) (specs : List Spec) (spec : Spec) → All IsFormed specs → HasRunning which specs → chosen which specs ≡ Some spec →
    IsWellFormed spec
chosen_formed runs.Nobody specs spec formed running at = absurd (cc at)
chosen_formed runs.First specs spec formed running at = first_formed specs spec formed running at
chosen_formed (runs.Named name) specs spec formed running at = found_formed name.now specs spec formed at

-- a source without Specs has no section
pub section_unread : (held : Held) (name : List ℕ) (which : Runs) (before now : ℕ) (e : CompileFault) →
    Because (RefusesSpecs held name which before now) e →
    Because (RefusesSection held name which before now) e
section_unread held name which before now e p =
    because (RefusesSpecs held name which before now) (RefusesSection held name which before now) (λ s h. inl h) e p

-- nor has one whose machine is refused
pub section_unbuilt : (held : Held) (name : List ℕ) (which : Runs) (before now : ℕ) (specs : List Spec) (spec : Spec) (e : CompileFault) →
    HasSpecs held name which specs → now ≡ before →
    chosen which specs ≡ Some spec → Because (IsUnbuilt spec) e → Because (RefusesSection held name which before now) e
section_unbuilt held name which before now specs spec e has quiet at p =
    because (IsUnbuilt spec) (RefusesSection held name which before now) (λ s h. inr ((spec, record { specs = specs; has = has; chosen = at }, h), quiet)) e p

section_made : (held : Held) (name bytes : List ℕ) (which : Runs) (specs : List Spec) (spec : Spec) → HasSpecs held name which specs →
    chosen which specs ≡ Some spec →
    IsBuildable spec → IsSectionFor spec bytes → IsSectionIn held name which bytes
section_made held name bytes which specs spec has at buildable made = record {
  source = spec;
  has = record { named = record { specs = specs; has = has; chosen = at }; buildable = buildable };
  section = made;
}

-- the Spec that a slice shows
pub chosen_here : (which : Runs) (specs seen : List Spec) (spec : Spec) (found : Option Spec) → seen ≡ specs → found ≡ chosen which seen →
    Some spec ≡ found → chosen which specs ≡ Some spec
chosen_here which specs seen spec found same e at = subst (λ xs. chosen which xs ≡ Some spec) same (sym (at ∙ e))

pub sections : (held : Held) (name : List ℕ) (which other : Runs) (specs : List Spec) (spec : Spec) (r : Result (List ℕ) CompileFault) → other ≡ which →
    HasSpecs held name other specs →
    chosen other specs ≡ Some spec → IfOk r (λ _. IsBuildable spec) → IfOk r (IsSectionFor spec) → IfOk r (IsSectionIn held name which)
sections held name which other specs spec (Ok bytes) same has at buildable made =
    subst (λ w. IsSectionIn held name w bytes) same (section_made held name bytes other specs spec has at buildable made)
sections held name which other specs spec (Err e) same has at buildable made = tt

pub no_sections : (held : Held) (name : List ℕ) (which other : Runs) (before now : ℕ) (specs : List Spec) (spec : Spec) (r : Result (List ℕ) CompileFault) → other ≡ which → HasSpecs held name other specs →
    now ≡ before → chosen other specs ≡ Some spec → IfErr r (Because (IsUnbuilt spec)) → IfErr r (Because (RefusesSection held name which before now))
no_sections held name which other before now specs spec (Ok bytes) same has quiet at p = tt
no_sections held name which other before now specs spec (Err e) same has quiet at p =
    subst (λ w. Because (RefusesSection held name w before now) e) same (section_unbuilt held name other before now specs spec e has quiet at p)

pub section_unread_by : (held : Held) (name : List ℕ) (which other : Runs) (before now : ℕ) (e : CompileFault) → other ≡ which →
    Because (RefusesSpecs held name other before now) e →
    Because (RefusesSection held name which before now) e
section_unread_by held name which other before now e same p =
    subst (λ w. Because (RefusesSection held name w before now) e) same (section_unread held name other before now e p)

-- ---- nodes

-- a node that is refused
unbuilt : (spec : Spec) (r : BuildRefusal) (files : List (List ℕ)) → files ≡ spec.files → TellsRefusal spec r → (cause : Cause) →
    cause_of r.fault ≡ Some cause →
    (s : Stop) → IsToldAs cause r.place (file_name files r.place.file) s → IsUnbuilt spec s
unbuilt spec r files same t cause is s told = record {
  cause = cause;
  place = r.place;
  refused = subst (λ o. IfSome o (λ cause. IsRefusedAt spec cause r.place)) is t;
  told = subst (λ fs. IsToldAs cause r.place (file_name fs r.place.file) s) same told;
}

pub node_told : (spec : Spec) (files : List (List ℕ)) (r : BuildRefusal) (e : CompileFault) → files ≡ spec.files → TellsRefusal spec r →
    TellsNode files r e → Because (IsUnbuilt spec) e
node_told spec files r (faults.Fault fault file) same t k = unbuilt spec r files same t k.0 k.1 (stop.Fault fault file) k.2
node_told spec files r (faults.Limit limit file) same t k = unbuilt spec r files same t k.0 k.1 (stop.Limit limit file) k.2
node_told spec files r (faults.Missing file) same t k = unbuilt spec r files same t k.0 k.1 (stop.Missing file) k.2
node_told spec files r (faults.StoreFailed file) same t k = unbuilt spec r files same t k.0 k.1 (stop.StoreFailed file) k.2
node_told spec files r faults.Memory same t k = tt

-- a pattern that matches the empty word
pub empty_token_told : (files : List (List ℕ)) (r : BuildRefusal) (i : ℕ) (file : List ℕ) (e : CompileFault) → cause_of r.fault ≡ Some (cause.F12 i) →
    file ≡ file_name files r.place.file →
    e ≡ faults.Fault (record { kind = F12; place = r.place }) file → TellsNode files r e
empty_token_told files r i file e c n t =
    subst (λ x. TellsNode files r x) (sym t) (cause.F12 i, c, ap (λ name. stop.Fault (record { kind = F12; place = r.place }) name) n)
