-- How the steps of the reading of a source put together say what it comes to.
use Rattle.std.proofs.Common.{◌≡◌, ◌∙◌, ◌<◌, inl, inr, ℕ, suc, List, [], ◌∷◌, length, All, slice_get, Option, Some, None, Bool, true, false, cond, Result, Ok, Err, refl, sym, ap, subst, arith}
use Rattle.std.specs.Prelude.{◌&&◌, nat_lt}
use Rattle.std.specs.List.{find}
use Rattle.std.specs.Str.{bytes_eq}
use Rattle.std.proofs.lemmas.List.Elements.{All-tail}
use Rattle.std.proofs.lemmas.Bool.{ltb-true}
use Rattle.std.specs.Prelude.{IfOk, IfErr, IfSome}
use Rattle.rl_types.specs.declared.faults.Fault.{Fault}
use Rattle.rl_types.specs.declared.faults.FaultKind.TheVariants.{F12}
use Rattle.rl_types.specs.declared.faults.Limit.{Limit}
use Rattle.rl_io.specs.Outside.{Held, Rose, Reads}
use Rattle.rl_grammar.specs.declared.read_fault.ReadFault.TheVariants as reason
use Rattle.rl_grammar.specs.declared.syntax.Syntax.{Syntax}
use Rattle.rl_automata.specs.Refused as cause
use Rattle.rl_automata.specs.Refused.{Cause}
use Rattle.rl_arrays.specs.declared.arrays.Arrays.{Arrays}
use Rattle.rl_model.specs.declared.spec.Spec.{Spec}
use Rattle.rl_model.specs.RefusedNode.{IsRefusedAt, IsBuildable}
use Rattle.rl_model.specs.WellFormed.{IsWellFormed}
use Rattle.rl_build.specs.declared.fault.BuildRefusal.{BuildRefusal}
use Rattle.rl_build.specs.Entries.{TellsRefusal}
use Rattle.rl_build.specs.Trees.{cause_of}
use Rattle.rl_files.specs.Files.{ReadsAs, IsRefusal, Explains}
use Rattle.rl_includes.specs.declared.unrolled.Stop.TheVariants as stop
use Rattle.rl_resolve.specs.declared.answer.ResolveFault.{ResolveFault}
use Rattle.rl_resolve.specs.declared.answer.ResolveFault.TheVariants as fault
use Rattle.rl_resolve.specs.declared.answer.Runs.{Runs}
use Rattle.rl_resolve.specs.declared.answer.Runs.TheVariants as runs
use Rattle.rl_resolve.specs.Refusals.{file_name}
use Rattle.rl_resolve.specs.Answers as resolved
use Rattle.rl_resolve.specs.Answers.{Resolves, IsDueRefusal, IsFormed, HasEntry, HasRunning, IsStoreFailure, is_running}
use Rattle.rl_ends.specs.declared.refusal.Refusal.{Refusal}
use Rattle.rl_ends.specs.declared.refusal.Refusal.TheVariants as refusals
use Rattle.ragel_run.specs.declared.source.Unread.{Unread}
use Rattle.ragel_run.specs.declared.source.Unread.TheVariants as unread
use Rattle.ragel_run.specs.Sources.{HasTrees, IsToRun, IsUnread, running}
use Rattle.ragel_run.specs.Files.{IsMadeFor}
use Rattle.ragel_run.specs.Replay.{HasNoSource}
use Rattle.ragel_run.specs.Reads.{AreFormed, ReadsTrees, ReadsSpecs, ReadsSource, TellsNode, IsRefusedSpec, refusal_by_text, refusal_by_names}

-- ---- the text

-- a text that reads as trees, and one that is refused
pub trees_read : (held : Held) (name text bytes : List ℕ) (trees : List Syntax) (before now : ℕ) → Reads held name text → bytes ≡ text → ReadsAs 0 bytes trees → now ≡ before →
    ReadsTrees held name before now (Ok trees)
trees_read held name text bytes trees before now reads same means quiet =
    (record { text = text; reads = reads; means = subst (λ t. ReadsAs 0 t trees) same means }, quiet)

pub fault_read : (held : Held) (name text bytes : List ℕ) (f : Fault) (before now : ℕ) → Reads held name text → bytes ≡ text → Explains 0 bytes (reason.Fault f) → now ≡ before →
    ReadsTrees held name before now (Err (unread.Fault f))
fault_read held name text bytes f before now reads same refused quiet =
    (record { text = text; reads = reads; refused = (subst (λ t. IsRefusal 0 t (reason.Fault f)) same refused, refl) }, quiet)

pub limit_read : (held : Held) (name text bytes : List ℕ) (l : Limit) (before now : ℕ) → Reads held name text → bytes ≡ text → Explains 0 bytes (reason.Limit l) → now ≡ before →
    ReadsTrees held name before now (Err (unread.Limit l))
limit_read held name text bytes l before now reads same refused quiet =
    (record { text = text; reads = reads; refused = (subst (λ t. IsRefusal 0 t (reason.Limit l)) same refused, refl) }, quiet)

-- a text that is not read
pub specs_by_text : (held : Held) (machine : Option (List ℕ)) (name file : List ℕ) (before now : ℕ) (u : Unread) → file ≡ name → ReadsTrees held name before now (Err u) → ReadsSpecs held machine name before now (Err (refusal_by_text u file))
specs_by_text held machine name file before now unread.Missing same p = inl (inl (p.0, ap (λ n. stop.Missing n) same), p.1)
specs_by_text held machine name file before now unread.Failed same p = (p, inl same)
specs_by_text held machine name file before now (unread.Fault f) same p = inl (inr (inl (subst (λ n. IsUnread held name (stop.Fault f n)) (sym same) p.0)), p.1)
specs_by_text held machine name file before now (unread.Limit l) same p = inl (inr (inl (subst (λ n. IsUnread held name (stop.Limit l n)) (sym same) p.0)), p.1)
specs_by_text held machine name file before now unread.Memory same p = tt

-- ---- the statements

-- what is said of a refusal of statements
record IsSaid (held : Held) (file : List ℕ) (trees : List Syntax) (which : Runs) (before now : ℕ) (e : ResolveFault) : Type 0 where
  pub refused : resolved.IsRefusal held file trees which e
  pub due : (Rose before now → ⊥) → IsDueRefusal held file trees which e
  pub rose : IsStoreFailure e → Rose before now

module _ (held : Held) (machine : Option (List ℕ)) (which : Runs) (run : IsToRun machine which) where
  said_specs : (name : List ℕ) (trees : List Syntax) (before now : ℕ) (e : ResolveFault) → HasTrees held name trees → IsSaid held name trees which before now e →
      ReadsSpecs held machine name before now (Err (refusal_by_names e))
  said_specs name trees before now (fault.Fault f file) h s = inr (record { trees = trees; has = h; which = which; to_run = run; refused = s.refused; due = s.due })
  said_specs name trees before now (fault.Limit l file) h s = inr (record { trees = trees; has = h; which = which; to_run = run; refused = s.refused; due = s.due })
  said_specs name trees before now (fault.Missing file) h s = inr (record { trees = trees; has = h; which = which; to_run = run; refused = s.refused; due = s.due })
  said_specs name trees before now (fault.StoreFailed file) h s = (s.rose tt, inr (record { trees = trees; has = h; which = which; to_run = run; refused = s.refused; due = s.due }))
  said_specs name trees before now fault.Memory h s = tt

  -- statements that are refused, behind a text that was read
  pub specs_by_names : (mid_held : Held) (name file : List ℕ) (trees : List Syntax) (before mid now : ℕ) (e : ResolveFault) → mid_held ≡ held → file ≡ name →
      ReadsTrees held name before mid (Ok trees) → resolved.IsRefusal mid_held file trees which e → ((Rose mid now → ⊥) → IsDueRefusal mid_held file trees which e) → (IsStoreFailure e → Rose mid now) →
      ReadsSpecs held machine name before now (Err (refusal_by_names e))
  specs_by_names mid_held name file trees before mid now e same_held same h refused due rose =
      said_specs name trees before now e h.0
      (subst (λ n. IsSaid held name trees which n now e) h.1
      (subst (λ n. IsSaid held n trees which mid now e) same
      (subst (λ x. IsSaid x file trees which mid now e) same_held (record { refused = refused; due = due; rose = rose }))))

  -- statements that have their Specs
  pub specs_read : (mid_held : Held) (name file : List ℕ) (trees : List Syntax) (before mid now : ℕ) (specs : List Spec) → mid_held ≡ held → file ≡ name →
      ReadsTrees held name before mid (Ok trees) → Resolves mid_held file trees which specs → now ≡ mid → ReadsSpecs held machine name before now (Ok specs)
  specs_read mid_held name file trees before mid now specs same_held same h resolves quiet = (
    record {
      trees = trees;
      has = h.0;
      which = which;
      to_run = run;
      resolves = subst (λ n. Resolves held n trees which specs) same (subst (λ x. Resolves x file trees which specs) same_held resolves);
    },
    quiet ∙ h.1,
  )

-- ---- the machine that runs

some : (xs : List Spec) → 0 < suc (length xs)
some xs = omega arith

-- one that is found has an entry
found_entry : (name : List ℕ) (s : Spec) → is_running name s ≡ true → HasEntry s
found_entry name s e = ltb-true 0 (length s.entries) (second (bytes_eq name s.machine) (nat_lt 0 (length s.entries)) e)
  where
    second : (c d : Bool) → (c && d) ≡ true → d ≡ true
    second true d e = e
    second false d e = absurd (cc e)

found_formed : (name : List ℕ) (specs : List Spec) → All IsFormed specs → IfSome (find (is_running name) specs) IsWellFormed
found_formed name [] formed = tt
found_formed name (x ∷ xs) formed = go (is_running name x) (λ e. formed 0 x (some xs) (found_entry name x e)) (found_formed name xs (All-tail IsFormed x xs formed))
  where
    go : (c : Bool) → (c ≡ true → IsWellFormed x) → IfSome (find (is_running name) xs) IsWellFormed → IfSome (cond c (Some x) (find (is_running name) xs)) IsWellFormed
    go true here later = here refl
    go false here later = later

first_formed : (specs : List Spec) → All IsFormed specs → HasRunning runs.First specs → IfSome (slice_get specs 0) IsWellFormed
first_formed [] formed running = tt
first_formed (x ∷ xs) formed running = formed 0 x (some xs) running

pub running_formed : (machine : Option (List ℕ)) (which : Runs) (specs : List Spec) → IsToRun machine which → All IsFormed specs → HasRunning which specs → AreFormed machine specs
running_formed (Some name) which specs run formed has = found_formed name specs formed
running_formed None runs.Nobody specs run formed has = absurd run
running_formed None runs.First specs run formed has = first_formed specs formed has
running_formed None (runs.Named name) specs run formed has = absurd (cc run)

-- it is the one that the slice shows
pub running_is : (machine : Option (List ℕ)) (specs seen : List Spec) (spec : Spec) → seen ≡ specs → running machine seen ≡ Some spec → running machine specs ≡ Some spec
running_is machine specs seen spec same at = subst (λ xs. running machine xs ≡ Some spec) same at

pub one_formed : (machine : Option (List ℕ)) (specs : List Spec) (spec : Spec) → AreFormed machine specs → running machine specs ≡ Some spec → IsWellFormed spec
one_formed machine specs spec formed at = subst (λ o. IfSome o IsWellFormed) at formed

-- a node that is refused
of_node : (spec : Spec) (r : BuildRefusal) (e : Refusal) → TellsRefusal spec r → TellsNode spec.files r e → IsRefusedSpec spec e
of_node spec r (refusals.Fault f file) t k = (k.0, r.place, subst (λ o. IfSome o (λ cause. IsRefusedAt spec cause r.place)) k.1 t, k.2)
of_node spec r (refusals.Limit l file) t k = (k.0, r.place, subst (λ o. IfSome o (λ cause. IsRefusedAt spec cause r.place)) k.1 t, k.2)
of_node spec r refusals.Memory t k = tt
of_node spec r _ t k = k

pub node_told : (spec : Spec) (files : List (List ℕ)) (r : BuildRefusal) (e : Refusal) → files ≡ spec.files → TellsRefusal spec r → TellsNode files r e → IsRefusedSpec spec e
node_told spec files r e same t k = of_node spec r e t (subst (λ fs. TellsNode fs r e) same k)

-- a pattern that matches the empty word
pub empty_token_told : (files : List (List ℕ)) (r : BuildRefusal) (i : ℕ) (file : List ℕ) (e : Refusal) → cause_of r.fault ≡ Some (cause.F12 i) → file ≡ file_name files r.place.file →
    e ≡ refusals.Fault (record { kind = F12; place = r.place }) file → TellsNode files r e
empty_token_told files r i file e c n t = subst (λ x. TellsNode files r x) (sym t) (cause.F12 i, c, ap (λ name. stop.Fault (record { kind = F12; place = r.place }) name) n)

-- one that is refused has no tables
node_refused : (held : Held) (machine : Option (List ℕ)) (name : List ℕ) (before now : ℕ) (specs : List Spec) (spec : Spec) (e : Refusal) → ReadsSpecs held machine name before now (Ok specs) → running machine specs ≡ Some spec →
    IsRefusedSpec spec e → HasNoSource held machine name before now e
node_refused held machine name before now specs spec (refusals.Fault f file) h at p =
    inl (inr (inr (record { spec = spec; named = record { specs = specs; has = h.0; runs = at }; cause = p.0; place = p.1; refused = p.2; told = p.3 })), h.1)
node_refused held machine name before now specs spec (refusals.Limit l file) h at p =
    inl (inr (inr (record { spec = spec; named = record { specs = specs; has = h.0; runs = at }; cause = p.0; place = p.1; refused = p.2; told = p.3 })), h.1)
node_refused held machine name before now specs spec refusals.Memory h at p = tt
node_refused held machine name before now specs spec refusals.Usage h at p = absurd p
node_refused held machine name before now specs spec (refusals.Missing f) h at p = absurd p
node_refused held machine name before now specs spec (refusals.StoreFailed f) h at p = absurd p
node_refused held machine name before now specs spec (refusals.Section t f) h at p = absurd p
node_refused held machine name before now specs spec (refusals.Script t f) h at p = absurd p
node_refused held machine name before now specs spec refusals.InputFailed h at p = absurd p
node_refused held machine name before now specs spec refusals.OutputFailed h at p = absurd p

-- and one that is not has them
pub source_read : (held : Held) (machine : Option (List ℕ)) (name : List ℕ) (before now : ℕ) (specs : List Spec) (spec : Spec) (r : Result Arrays Refusal) → ReadsSpecs held machine name before now (Ok specs) → running machine specs ≡ Some spec →
    IfOk r (λ _. IsBuildable spec) → IfOk r (IsMadeFor spec) → IfErr r (IsRefusedSpec spec) → ReadsSource held machine name before now r
source_read held machine name before now specs spec (Ok a) h at buildable made stopped =
    (record { source = spec; has = record { named = record { specs = specs; has = h.0; runs = at }; buildable = buildable }; made = made }, h.1)
source_read held machine name before now specs spec (Err e) h at buildable made stopped = node_refused held machine name before now specs spec e h at stopped
