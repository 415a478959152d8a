-- Where the store tells what it holds and does not fail, a source has one machine or one refusal.
use Rattle.std.proofs.Common.{◌≡◌, ◌∙◌, inl, inr, ℕ, Bool, true, false, cond, List, [], ◌∷◌, map, length, slice_get, Option, Some, None, Result, IsSome, refl, sym, ap, ap₂, subst}
use Rattle.std.specs.Prelude.{◌&&◌, nat_lt}
use Rattle.std.specs.List.{find}
use Rattle.std.specs.Str.{bytes_eq}
use Rattle.std.proofs.lemmas.List.{length-map}
use Rattle.rl_io.specs.Outside.{Held, Reads, Lacks}
use Rattle.rl_grammar.specs.declared.read_fault.ReadFault.{ReadFault}
use Rattle.rl_grammar.specs.declared.read_fault.ReadFault.TheVariants as reason
use Rattle.rl_grammar.specs.declared.syntax.Syntax.{Syntax}
use Rattle.rl_model.specs.declared.spec.Spec.{Spec}
use Rattle.rl_files.specs.Files.{ReadsAs, IsRefusal}
use Rattle.rl_files.proofs.FileOnce as files
use Rattle.rl_includes.specs.Answers.{stop_of}
use Rattle.rl_includes.specs.Unrolling.{RefusedAs}
use Rattle.rl_includes.specs.declared.unrolled.Stop.{Stop}
use Rattle.rl_includes.specs.declared.unrolled.Stop.TheVariants as stop
use Rattle.rl_resolve.specs.declared.answer.Runs.{Runs}
use Rattle.rl_resolve.specs.declared.answer.Runs.TheVariants as runs
use Rattle.rl_resolve.specs.Answers.{Resolves, IsDue, is_running}
use Rattle.rl_resolve.specs.Resolving as resolving
use Rattle.rl_resolve.specs.Resolving.{has_machine, is_among, outcome, within, unless, at_head, written_fault, running_fault}
use Rattle.rl_resolve.specs.Refusals.{refused, and_then, told, stopped, read_in}
use Rattle.rl_resolve.specs.declared.answer.ResolveFault.{ResolveFault}
use Rattle.rl_includes.specs.declared.unrolled.Unrolled.{Unrolled}
use Rattle.rl_draft.specs.declared.draft.Draft.{Draft}
use Rattle.rl_names.specs.Answers.{or_else, first_of}
use Rattle.rl_names.specs.Checks.{leaves_fault}
use Rattle.rl_names.specs.Drafts.{drafts_of}
use Rattle.rl_names.specs.Frames.{machines_of}
use Rattle.rl_names.specs.Names.{names_fault}
use Rattle.rl_rewrite.specs.Entries.{made_of}
use Rattle.rl_types.specs.declared.faults.FaultKind.TheVariants.{F4}
use Rattle.rl_resolve.specs.Descriptions.{Description, description}
use Rattle.rl_resolve.specs.Refusals.{stopped_by}
use Rattle.rl_resolve.proofs.ResolveLaws.{resolved_once, due_once, resolved_or_due, same_first}
use Rattle.ragel_run.proofs.NodeLaws.{node_once, refused_not_built}
use Rattle.ragel_run.specs.Sources.{HasTrees, HasSpecs, HasSpec, HasSource, IsToRun, IsUnread, IsUnresolved, IsUnbuilt, StopsByItself, Stops, running}

-- what is told is read in one way, and is not lacking
pub reads_same : (held : Held) (name t u : List ℕ) → IsSome held → Reads held name t → Reads held name u → t ≡ u
reads_same (Some held) name t u told p q = some_same (sym p ∙ q)
  where
    some_same : Some t ≡ Some u → t ≡ u
    some_same e = cc
reads_same None name t u told p q = absurd (cc told)

pub lacks_not : (held : Held) (name t : List ℕ) → IsSome held → Lacks held name → Reads held name t → ⊥
lacks_not (Some held) name t told p q = none_some (sym p ∙ q)
  where
    none_some : None ≡ Some t → ⊥
    none_some e = cc
lacks_not None name t told p q = absurd (cc told)

-- ---- a text of its own

-- a refusal of a text, as its reader tells it
record IsFaultOf (text name : List ℕ) (s : Stop) : Type 0 where
  pub fault : ReadFault
  pub refused : IsRefusal 0 text fault
  pub told : stop_of fault name ≡ Some s

fault_of : (text name : List ℕ) (s : Stop) → RefusedAs 0 text name s → IsFaultOf text name s
fault_of text name (stop.Fault f file) h = record { fault = reason.Fault f; refused = h.0; told = ap (λ n. Some (stop.Fault f n)) (sym h.1) }
fault_of text name (stop.Limit l file) h = record { fault = reason.Limit l; refused = h.0; told = ap (λ n. Some (stop.Limit l n)) (sym h.1) }
fault_of text name (stop.Missing file) h = absurd h
fault_of text name (stop.StoreFailed file) h = absurd h

same_stop : (s t : Stop) → Some s ≡ Some t → s ≡ t
same_stop s t e = cc

same_spec : (a b : Spec) → Some a ≡ Some b → a ≡ b
same_spec a b e = cc

same_told : (s t : Stop) → stopped_by s ≡ stopped_by t → s ≡ t
same_told (stop.Fault f x) (stop.Fault g y) e = cc
same_told (stop.Fault f x) (stop.Limit g y) e = cc
same_told (stop.Fault f x) (stop.Missing y) e = cc
same_told (stop.Fault f x) (stop.StoreFailed y) e = cc
same_told (stop.Limit f x) (stop.Fault g y) e = cc
same_told (stop.Limit f x) (stop.Limit g y) e = cc
same_told (stop.Limit f x) (stop.Missing y) e = cc
same_told (stop.Limit f x) (stop.StoreFailed y) e = cc
same_told (stop.Missing x) (stop.Fault g y) e = cc
same_told (stop.Missing x) (stop.Limit g y) e = cc
same_told (stop.Missing x) (stop.Missing y) e = cc
same_told (stop.Missing x) (stop.StoreFailed y) e = cc
same_told (stop.StoreFailed x) (stop.Fault g y) e = cc
same_told (stop.StoreFailed x) (stop.Limit g y) e = cc
same_told (stop.StoreFailed x) (stop.Missing y) e = cc
same_told (stop.StoreFailed x) (stop.StoreFailed y) e = cc

-- the firsts of two lists that say the same
firsts_same : (xs ys : List Spec) (a b : Spec) → map description xs ≡ map description ys → slice_get xs 0 ≡ Some a → slice_get ys 0 ≡ Some b → description a ≡ description b
firsts_same [] ys a b h e f = absurd (cc e)
firsts_same (x ∷ xs) [] a b h e f = absurd (cc f)
firsts_same (x ∷ xs) (y ∷ ys) a b h e f =
    sym (ap description (same_spec x a e)) ∙ same_first x y xs ys h ∙ ap description (same_spec y b f)

-- the one that runs of two lists that say the same
abbrev test : List ℕ → Description → Bool
test name d = bytes_eq name d.machine && nat_lt 0 (length d.entries)

test_is : (name : List ℕ) (s : Spec) → is_running name s ≡ test name (description s)
test_is name s = ap (λ n. bytes_eq name s.machine && nat_lt 0 n) (sym (length-map s.entries made_of))

same_test : (name : List ℕ) (x y : Spec) → description x ≡ description y → is_running name x ≡ is_running name y
same_test name x y e = test_is name x ∙ ap (test name) e ∙ sym (test_is name y)

no_spec : (a : Spec) → None ≡ Some a → ⊥
no_spec a e = cc

rest_same : (x y : Spec) (xs ys : List Spec) → map description (x ∷ xs) ≡ map description (y ∷ ys) → map description xs ≡ map description ys
rest_same x y xs ys e = cons_rest (description x) (description y) (map description xs) (map description ys) e
  where
    cons_rest : (d f : Description) (ds fs : List Description) → d ∷ ds ≡ f ∷ fs → ds ≡ fs
    cons_rest d f ds fs e = cc

nothing_same : (y : Spec) (ys : List Spec) → map description [] ≡ map description (y ∷ ys) → ⊥
nothing_same y ys e = no_cons (description y) (map description ys) e
  where
    no_cons : (d : Description) (ds : List Description) → [] ≡ d ∷ ds → ⊥
    no_cons d ds e = cc

found_same : (name : List ℕ) (xs ys : List Spec) (a b : Spec) → map description xs ≡ map description ys → find (is_running name) xs ≡ Some a → find (is_running name) ys ≡ Some b → description a ≡ description b
found_same name [] ys a b h e f = absurd (no_spec a e)
found_same name (x ∷ xs) [] a b h e f = absurd (no_spec b f)
found_same name (x ∷ xs) (y ∷ ys) a b h e f =
    go (is_running name x) (is_running name y) (same_test name x y (same_first x y xs ys h)) (found_same name xs ys a b (rest_same x y xs ys h)) e f
  where
    go : (c d : Bool) → c ≡ d → (find (is_running name) xs ≡ Some a → find (is_running name) ys ≡ Some b → description a ≡ description b) →
        cond c (Some x) (find (is_running name) xs) ≡ Some a → cond d (Some y) (find (is_running name) ys) ≡ Some b → description a ≡ description b
    go true true same later e f = sym (ap description (same_spec x a e)) ∙ same_first x y xs ys h ∙ ap description (same_spec y b f)
    go false false same later e f = later e f
    go true false same later e f = absurd (cc same)
    go false true same later e f = absurd (cc same)

ones_same : (machine : Option (List ℕ)) (xs ys : List Spec) (a b : Spec) → map description xs ≡ map description ys → running machine xs ≡ Some a → running machine ys ≡ Some b → description a ≡ description b
ones_same None xs ys a b h e f = firsts_same xs ys a b h e f
ones_same (Some name) xs ys a b h e f = found_same name xs ys a b h e f

-- ---- the machine that is to run

-- what a source comes to, by whether the machine is there, and by its name
abbrev by_name : Unrolled → Bool → Option (List ℕ) → Result (List Draft) ResolveFault
by_name u there name =
    and_then
    (refused (told u.files (names_fault u.steps))
    (refused (stopped u.stop)
    (refused (told u.files (unless there (at_head F4)))
    (refused (told u.files (leaves_fault u.steps))
    (refused (told u.files (or_else (first_of (λ s. written_fault u.steps s.machine s.statement) u.steps) (running_fault u.steps name)))
    (read_in u.files (drafts_of u.steps))))))) (within u)

none_some : (name : List ℕ) (machine : Option (List ℕ)) → machine ≡ None → machine ≡ Some name → ⊥
none_some name machine e f = no_some (sym e ∙ f)
  where
    no_some : None ≡ Some name → ⊥
    no_some e = cc

one_name : (x y : List ℕ) (machine : Option (List ℕ)) → machine ≡ Some x → machine ≡ Some y → x ≡ y
one_name x y machine e f = same (sym e ∙ f)
  where
    same : Some x ≡ Some y → x ≡ y
    same e = cc

same_there : (machine : Option (List ℕ)) (v w : Runs) (ms : List (List ℕ)) → IsToRun machine v → IsToRun machine w → has_machine v ms ≡ has_machine w ms
same_there machine runs.Nobody w ms p q = absurd p
same_there machine runs.First runs.Nobody ms p q = absurd q
same_there machine runs.First runs.First ms p q = refl
same_there machine runs.First (runs.Named y) ms p q = absurd (none_some y.now machine p q)
same_there machine (runs.Named x) runs.Nobody ms p q = absurd q
same_there machine (runs.Named x) runs.First ms p q = absurd (none_some x.now machine q p)
same_there machine (runs.Named x) (runs.Named y) [] p q = refl
same_there machine (runs.Named x) (runs.Named y) (m ∷ ms) p q = ap (λ n. is_among n (m ∷ ms)) (one_name x.now y.now machine p q)

same_one : (machine : Option (List ℕ)) (v w : Runs) (ms : List (List ℕ)) → IsToRun machine v → IsToRun machine w → resolving.running v ms ≡ resolving.running w ms
same_one machine runs.Nobody w ms p q = absurd p
same_one machine runs.First runs.Nobody ms p q = absurd q
same_one machine runs.First runs.First ms p q = refl
same_one machine runs.First (runs.Named y) ms p q = absurd (none_some y.now machine p q)
same_one machine (runs.Named x) runs.Nobody ms p q = absurd q
same_one machine (runs.Named x) runs.First ms p q = absurd (none_some x.now machine q p)
same_one machine (runs.Named x) (runs.Named y) ms p q = ap (λ n. Some n) (one_name x.now y.now machine p q)

same_outcome : (machine : Option (List ℕ)) (v w : Runs) (u : Unrolled) → IsToRun machine v → IsToRun machine w → outcome v u ≡ outcome w u
same_outcome machine v w u p q =
    ap₂ (by_name u) (same_there machine v w (machines_of u.steps) p q) (same_one machine v w (machines_of u.steps) p q)

module _ (held : Held) (told : IsSome held) (machine : Option (List ℕ)) (name : List ℕ) where
  -- by whatever tells it, the same comes to the same
  resolves_as : (trees : List Syntax) (v w : Runs) (xs : List Spec) → IsToRun machine v → IsToRun machine w → Resolves held name trees v xs → Resolves held name trees w xs
  resolves_as trees v w xs p q h = record {
    unrolled = h.unrolled;
    comes = h.comes;
    drafts = h.drafts;
    accepted = sym (same_outcome machine v w h.unrolled p q) ∙ h.accepted;
    described_by = h.described_by;
  }

  due_as : (trees : List Syntax) (v w : Runs) (e : ResolveFault) → IsToRun machine v → IsToRun machine w → IsDue held name trees v e → IsDue held name trees w e
  due_as trees v w e p q h = record {
    unrolled = h.unrolled;
    comes = h.comes;
    refused = sym (same_outcome machine v w h.unrolled p q) ∙ h.refused;
    unfailed = h.unfailed;
  }

  -- ---- trees, and the refusal of a text

  trees_once : (a b : List Syntax) → HasTrees held name a → HasTrees held name b → a ≡ b
  trees_once a b h k = files.reads_once 0 h.text a b h.means (subst (λ t. ReadsAs 0 t b) (reads_same held name k.text h.text told k.reads h.reads) k.means)

  unread_once : (s t : Stop) → IsUnread held name s → IsUnread held name t → s ≡ t
  unread_once s t h k =
      let other = subst (λ x. RefusedAs 0 x name t) (reads_same held name k.text h.text told k.reads h.reads) k.refused in
      let u = fault_of h.text name s h.refused in
      let v = fault_of h.text name t other in
      same_stop s t (sym u.told ∙ ap (λ e. stop_of e name) (files.refusals_once 0 h.text u.fault v.fault u.refused v.refused) ∙ v.told)

  unread_no_trees : (s : Stop) (a : List Syntax) → IsUnread held name s → HasTrees held name a → ⊥
  unread_no_trees s a h k =
      let u = fault_of h.text name s h.refused in
      files.read_or_refused 0 h.text a u.fault (subst (λ t. ReadsAs 0 t a) (reads_same held name k.text h.text told k.reads h.reads) k.means) u.refused

  -- ---- Specs, and the refusal of statements

  specs_once : (xs ys : List Spec) → HasSpecs held machine name xs → HasSpecs held machine name ys → map description xs ≡ map description ys
  specs_once xs ys h k =
      resolved_once held name h.trees h.which xs ys told h.resolves
      (resolves_as h.trees k.which h.which ys k.to_run h.to_run (subst (λ ts. Resolves held name ts k.which ys) (trees_once k.trees h.trees k.has h.has) k.resolves))

  pub spec_once : (a b : Spec) → HasSpec held machine name a → HasSpec held machine name b → description a ≡ description b
  spec_once a b h k = ones_same machine h.specs k.specs a b (specs_once h.specs k.specs h.has k.has) h.runs k.runs

  due : (s : Stop) → (h : IsUnresolved ⊥ held machine name s) → IsDue held name h.trees h.which (stopped_by s)
  due s h = h.due (λ no. no)

  unresolved_once : (s t : Stop) → IsUnresolved ⊥ held machine name s → IsUnresolved ⊥ held machine name t → s ≡ t
  unresolved_once s t h k =
      same_told s t (due_once held name h.trees h.which (stopped_by s) (stopped_by t) told (due s h)
      (due_as h.trees k.which h.which (stopped_by t) k.to_run h.to_run
      (subst (λ ts. IsDue held name ts k.which (stopped_by t)) (trees_once k.trees h.trees k.has h.has) (due t k))))

  unresolved_no_specs : (s : Stop) (xs : List Spec) → IsUnresolved ⊥ held machine name s → HasSpecs held machine name xs → ⊥
  unresolved_no_specs s xs h k =
      resolved_or_due held name h.trees h.which xs (stopped_by s) told
      (resolves_as h.trees k.which h.which xs k.to_run h.to_run (subst (λ ts. Resolves held name ts k.which xs) (trees_once k.trees h.trees k.has h.has) k.resolves))
      (due s h)

  -- ---- nodes

  unbuilt_once : (s t : Stop) → IsUnbuilt held machine name s → IsUnbuilt held machine name t → s ≡ t
  unbuilt_once s t h k = node_once h.spec k.spec (spec_once h.spec k.spec h.named k.named) h.cause k.cause h.place k.place s t h.refused h.told k.refused k.told

  unbuilt_no_source : (s : Stop) (a : Spec) → IsUnbuilt held machine name s → HasSource held machine name a → ⊥
  unbuilt_no_source s a h k = refused_not_built a h.spec (spec_once a h.spec k.named h.named) h.cause h.place h.refused k.buildable

  -- ---- all of them

  by_itself_once : (s t : Stop) → StopsByItself held machine name s → StopsByItself held machine name t → s ≡ t
  by_itself_once s t (inl a) (inl b) = a.1 ∙ sym b.1
  by_itself_once s t (inl a) (inr (inl b)) = absurd (lacks_not held name b.text told a.0 b.reads)
  by_itself_once s t (inl a) (inr (inr b)) = let h = b.named.has.has in absurd (lacks_not held name h.text told a.0 h.reads)
  by_itself_once s t (inr (inl a)) (inl b) = absurd (lacks_not held name a.text told b.0 a.reads)
  by_itself_once s t (inr (inl a)) (inr (inl b)) = unread_once s t a b
  by_itself_once s t (inr (inl a)) (inr (inr b)) = absurd (unread_no_trees s b.named.has.trees a b.named.has.has)
  by_itself_once s t (inr (inr a)) (inl b) = let h = a.named.has.has in absurd (lacks_not held name h.text told b.0 h.reads)
  by_itself_once s t (inr (inr a)) (inr (inl b)) = absurd (unread_no_trees t a.named.has.trees b a.named.has.has)
  by_itself_once s t (inr (inr a)) (inr (inr b)) = unbuilt_once s t a b

  by_itself_resolved : (s t : Stop) → StopsByItself held machine name s → IsUnresolved ⊥ held machine name t → ⊥
  by_itself_resolved s t (inl a) k = lacks_not held name k.has.text told a.0 k.has.reads
  by_itself_resolved s t (inr (inl a)) k = unread_no_trees s k.trees a k.has
  by_itself_resolved s t (inr (inr a)) k = unresolved_no_specs t a.named.specs k a.named.has

  pub stops_once : (s t : Stop) → Stops ⊥ held machine name s → Stops ⊥ held machine name t → s ≡ t
  stops_once s t (inl a) (inl b) = by_itself_once s t a b
  stops_once s t (inl a) (inr b) = absurd (by_itself_resolved s t a b)
  stops_once s t (inr a) (inl b) = absurd (by_itself_resolved t s b a)
  stops_once s t (inr a) (inr b) = unresolved_once s t a b

  pub stops_no_source : (s : Stop) (a : Spec) → Stops ⊥ held machine name s → HasSource held machine name a → ⊥
  stops_no_source s a (inl (inl x)) k = let h = k.named.has.has in lacks_not held name h.text told x.0 h.reads
  stops_no_source s a (inl (inr (inl x))) k = unread_no_trees s k.named.has.trees x k.named.has.has
  stops_no_source s a (inl (inr (inr x))) k = unbuilt_no_source s a x k
  stops_no_source s a (inr x) k = unresolved_no_specs s k.named.specs x k.named.has

-- ---- failures of the store

pub unfailed : (Failed : Type 0) (held : Held) (machine : Option (List ℕ)) (name : List ℕ) (s : Stop) → (Failed → ⊥) → IsUnresolved Failed held machine name s → IsUnresolved ⊥ held machine name s
unfailed Failed held machine name s not h = record { trees = h.trees; has = h.has; which = h.which; to_run = h.to_run; refused = h.refused; due = λ no. h.due not }
