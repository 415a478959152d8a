-- Where the store tells what it holds and does not fail, a source has one outcome.
use Rattle.std.proofs.Common.{◌≡◌, ◌∙◌, inl, inr, ℕ, List, map, Some, None, IsSome, sym, ap, subst}
use Rattle.rl_io.specs.Outside.{Held, Reads, Lacks}
use Rattle.rl_grammar.specs.declared.read_fault.ReadFault.{ReadFault}
use Rattle.rl_grammar.specs.declared.read_fault.ReadFault.TheVariants as reason
use Rattle.rl_grammar.specs.declared.syntax.Syntax.{Syntax}
use Rattle.rl_model.specs.declared.spec.Spec.{Spec}
use Rattle.rl_files.specs.Files.{ReadsAs, IsRefusal}
use Rattle.rl_files.proofs.FileOnce as files
use Rattle.rl_includes.specs.Answers.{stop_of}
use Rattle.rl_includes.specs.Unrolling.{RefusedAs}
use Rattle.rl_includes.specs.declared.unrolled.Stop.{Stop}
use Rattle.rl_includes.specs.declared.unrolled.Stop.TheVariants as stop
use Rattle.rl_resolve.specs.declared.answer.Runs.{Runs}
use Rattle.rl_resolve.specs.declared.answer.Runs.TheVariants.{Nobody}
use Rattle.rl_resolve.specs.Answers.{Resolves, IsDue}
use Rattle.rl_resolve.specs.Descriptions.{description}
use Rattle.rl_resolve.specs.Refusals.{stopped_by}
use Rattle.rl_resolve.proofs.ResolveLaws.{resolved_once, due_once, resolved_or_due}
use Rattle.rl_compile.specs.Sources.{HasTrees, Says, IsUnread, IsUnresolved, StopsAtText, HasNoSpecs}
use Rattle.rl_compile.specs.Printing.{HasAllBuilt, StopsSource}
use Rattle.rl_compile.proofs.NodeLaws.{first_once, first_not_built}

-- what is told is read in one way, and is not lacking
reads_same : (held : Held) (name t u : List ℕ) → IsSome held → Reads held name t → Reads held name u → t ≡ u
reads_same (Some held) name t u told p q = some_same (sym p ∙ q)
  where
    some_same : Some t ≡ Some u → t ≡ u
    some_same e = cc
reads_same None name t u told p q = absurd (cc told)

lacks_not : (held : Held) (name t : List ℕ) → IsSome held → Lacks held name → Reads held name t → ⊥
lacks_not (Some held) name t told p q = none_some (sym p ∙ q)
  where
    none_some : None ≡ Some t → ⊥
    none_some e = cc
lacks_not None name t told p q = absurd (cc told)

-- ---- a text of its own

-- a refusal of a text, as its reader tells it
record IsFaultOf (text name : List ℕ) (s : Stop) : Type 0 where
  pub fault : ReadFault
  pub refused : IsRefusal 0 text fault
  pub told : stop_of fault name ≡ Some s

fault_of : (text name : List ℕ) (s : Stop) → RefusedAs 0 text name s → IsFaultOf text name s
fault_of text name (stop.Fault f file) h = record { fault = reason.Fault f; refused = h.0; told = ap (λ n. Some (stop.Fault f n)) (sym h.1) }
fault_of text name (stop.Limit l file) h = record { fault = reason.Limit l; refused = h.0; told = ap (λ n. Some (stop.Limit l n)) (sym h.1) }
fault_of text name (stop.Missing file) h = absurd h
fault_of text name (stop.StoreFailed file) h = absurd h

same_stop : (s t : Stop) → Some s ≡ Some t → s ≡ t
same_stop s t e = cc

same_told : (s t : Stop) → stopped_by s ≡ stopped_by t → s ≡ t
same_told (stop.Fault f x) (stop.Fault g y) e = cc
same_told (stop.Fault f x) (stop.Limit g y) e = cc
same_told (stop.Fault f x) (stop.Missing y) e = cc
same_told (stop.Fault f x) (stop.StoreFailed y) e = cc
same_told (stop.Limit f x) (stop.Fault g y) e = cc
same_told (stop.Limit f x) (stop.Limit g y) e = cc
same_told (stop.Limit f x) (stop.Missing y) e = cc
same_told (stop.Limit f x) (stop.StoreFailed y) e = cc
same_told (stop.Missing x) (stop.Fault g y) e = cc
same_told (stop.Missing x) (stop.Limit g y) e = cc
same_told (stop.Missing x) (stop.Missing y) e = cc
same_told (stop.Missing x) (stop.StoreFailed y) e = cc
same_told (stop.StoreFailed x) (stop.Fault g y) e = cc
same_told (stop.StoreFailed x) (stop.Limit g y) e = cc
same_told (stop.StoreFailed x) (stop.Missing y) e = cc
same_told (stop.StoreFailed x) (stop.StoreFailed y) e = cc

module _ (held : Held) (told : IsSome held) (name : List ℕ) where
  -- ---- trees, and the refusal of a text

  trees_once : (t u : List ℕ) (a b : List Syntax) → HasTrees held name t a → HasTrees held name u b → a ≡ b
  trees_once t u a b h k = files.reads_once 0 t a b h.means (subst (λ x. ReadsAs 0 x b) (reads_same held name u t told k.reads h.reads) k.means)

  unread_once : (s t : Stop) → IsUnread held name s → IsUnread held name t → s ≡ t
  unread_once s t h k =
      let other = subst (λ x. RefusedAs 0 x name t) (reads_same held name k.text h.text told k.reads h.reads) k.refused in
      let u = fault_of h.text name s h.refused in
      let v = fault_of h.text name t other in
      same_stop s t (sym u.told ∙ ap (λ e. stop_of e name) (files.refusals_once 0 h.text u.fault v.fault u.refused v.refused) ∙ v.told)

  unread_no_trees : (s : Stop) (t : List ℕ) (a : List Syntax) → IsUnread held name s → HasTrees held name t a → ⊥
  unread_no_trees s t a h k =
      let u = fault_of h.text name s h.refused in
      files.read_or_refused 0 h.text a u.fault (subst (λ x. ReadsAs 0 x a) (reads_same held name t h.text told k.reads h.reads) k.means) u.refused

  at_text_once : (s t : Stop) → StopsAtText held name s → StopsAtText held name t → s ≡ t
  at_text_once s t (inl a) (inl b) = a.1 ∙ sym b.1
  at_text_once s t (inl a) (inr b) = absurd (lacks_not held name b.text told a.0 b.reads)
  at_text_once s t (inr a) (inl b) = absurd (lacks_not held name a.text told b.0 a.reads)
  at_text_once s t (inr a) (inr b) = unread_once s t a b

  at_text_no_trees : (s : Stop) (t : List ℕ) (a : List Syntax) → StopsAtText held name s → HasTrees held name t a → ⊥
  at_text_no_trees s t a (inl x) k = lacks_not held name t told x.0 k.reads
  at_text_no_trees s t a (inr x) k = unread_no_trees s t a x k

  -- ---- Specs, and the refusal of statements

  module _ (which : Runs) where
    specs_once : (t u : List ℕ) (xs ys : List Spec) → Says held name which t xs → Says held name which u ys → map description xs ≡ map description ys
    specs_once t u xs ys h k =
        resolved_once held name h.trees which xs ys told h.resolves
        (subst (λ ts. Resolves held name ts which ys) (trees_once u t k.trees h.trees k.has h.has) k.resolves)

    due : (s : Stop) → (h : IsUnresolved ⊥ held name which s) → IsDue held name h.trees which (stopped_by s)
    due s h = h.due (λ no. no)

    unresolved_once : (s t : Stop) → IsUnresolved ⊥ held name which s → IsUnresolved ⊥ held name which t → s ≡ t
    unresolved_once s t h k =
        same_told s t (due_once held name h.trees which (stopped_by s) (stopped_by t) told (due s h)
        (subst (λ ts. IsDue held name ts which (stopped_by t)) (trees_once k.text h.text k.trees h.trees k.has h.has) (due t k)))

    unresolved_no_specs : (s : Stop) (u : List ℕ) (xs : List Spec) → IsUnresolved ⊥ held name which s → Says held name which u xs → ⊥
    unresolved_no_specs s u xs h k =
        resolved_or_due held name h.trees which xs (stopped_by s) told
        (subst (λ ts. Resolves held name ts which xs) (trees_once u h.text k.trees h.trees k.has h.has) k.resolves)
        (due s h)

    no_specs_once : (s t : Stop) → HasNoSpecs ⊥ held name which s → HasNoSpecs ⊥ held name which t → s ≡ t
    no_specs_once s t (inl a) (inl b) = at_text_once s t a b
    no_specs_once s t (inl a) (inr b) = absurd (at_text_no_trees s b.text b.trees a b.has)
    no_specs_once s t (inr a) (inl b) = absurd (at_text_no_trees t a.text a.trees b a.has)
    no_specs_once s t (inr a) (inr b) = unresolved_once s t a b

    specs_or_none : (s : Stop) (u : List ℕ) (xs : List Spec) → HasNoSpecs ⊥ held name which s → Says held name which u xs → ⊥
    specs_or_none s u xs (inl a) k = at_text_no_trees s u k.trees a k.has
    specs_or_none s u xs (inr a) k = unresolved_no_specs s u xs a k

  -- ---- all of them

  pub stops_once : (s t : Stop) → StopsSource ⊥ held name s → StopsSource ⊥ held name t → s ≡ t
  stops_once s t (inl a) (inl b) = no_specs_once Nobody s t a b
  stops_once s t (inl a) (inr b) = absurd (specs_or_none Nobody s b.0 b.1 a b.2)
  stops_once s t (inr a) (inl b) = absurd (specs_or_none Nobody t a.0 a.1 b a.2)
  stops_once s t (inr a) (inr b) = first_once a.1 b.1 s t (specs_once Nobody a.0 b.0 a.1 b.1 a.2 b.2) a.3 b.3

  pub stops_no_built : (s : Stop) → StopsSource ⊥ held name s → HasAllBuilt held name → ⊥
  stops_no_built s (inl a) k = specs_or_none Nobody s k.0 k.1 a k.2
  stops_no_built s (inr a) k = first_not_built a.1 k.1 s (specs_once Nobody a.0 k.0 a.1 k.1 a.2 k.2) a.3 k.3

-- ---- failures of the store

pub unfailed : (Failed : Type 0) (held : Held) (name : List ℕ) (which : Runs) (s : Stop) → (Failed → ⊥) → IsUnresolved Failed held name which s →
    IsUnresolved ⊥ held name which s
unfailed Failed held name which s not h = record { text = h.text; trees = h.trees; has = h.has; refused = h.refused; due = λ no. h.due not }
