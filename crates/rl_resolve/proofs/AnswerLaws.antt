-- From what is unrolled to the answers.
use Rattle.std.proofs.Common.{◌≡◌, ℕ, List, [], None, Result, Ok, Err, sym, ap, ◌∙◌, subst}
use Rattle.std.specs.Prelude.{IfOk, IfErr}
use Rattle.rl_grammar.specs.declared.syntax.Syntax.{Syntax}
use Rattle.rl_io.specs.Outside.{Held, Rose, HasCause}
use Rattle.rl_model.specs.declared.spec.Spec.{Spec}
use Rattle.rl_includes.specs.Unrolling.{Unrolls, OnlyEnd, IsFailure}
use Rattle.rl_includes.specs.declared.unrolled.Unrolled.{Unrolled}
use Rattle.rl_draft.specs.declared.draft.Draft.{Draft}
use Rattle.rl_resolve.specs.Answers.{Comes, Resolves, Refuses, IsDue, IsRefusal, IsDueRefusal, IsWithin, IsAcceptedAs, Settles, EndsInStoreFailure, HasCount}
use Rattle.rl_resolve.specs.Limits.{passed, limit_fault}
use Rattle.rl_resolve.specs.Machines.{AreAll}
use Rattle.rl_resolve.specs.Refusals.{told, Told, Explains}
use Rattle.rl_resolve.specs.Resolving.{drafted, within, outcome}
use Rattle.rl_resolve.specs.declared.answer.ResolveFault.{ResolveFault}
use Rattle.rl_resolve.specs.declared.answer.ResolveFault.TheVariants as refusal
use Rattle.rl_resolve.specs.declared.answer.Runs.{Runs}
use Rattle.rl_resolve.specs.declared.machines.Machines.{Machines}
use Rattle.rl_resolve.proofs.MachineLaws.{kept_all}
use Rattle.rl_resolve.proofs.OutcomeLaws.{accepted_unfailed, store_failed}
use Rattle.rl_resolve.proofs.RefusalLaws.{told_refused, refused_none, told_none, and_then_ok}

-- ---- limits

pub within_all : (u : Unrolled) (drafts : List Draft) (m : Machines) → AreAll u.files drafts m → limit_fault u.steps m.passed ≡ None → m.passed ≡ [] → IsWithin u drafts m.specs
within_all u drafts m h none empty = record {
  passes = refused_none (told u.files (limit_fault u.steps (passed drafts))) (Ok drafts) (told_none u.files (limit_fault u.steps (passed drafts)) (ap (limit_fault u.steps) (sym h.passed) ∙ none));
  described_by = h.specs ∙ kept_all u.files drafts (sym h.passed ∙ empty);
}

pub within_refused : (u : Unrolled) (drafts : List Draft) (m : Machines) (e : ResolveFault) → AreAll u.files drafts m → Told (told u.files (limit_fault u.steps m.passed)) e → Explains (within u drafts) e
within_refused u drafts m e h t = told_refused e (told u.files (limit_fault u.steps (passed drafts))) (Ok drafts) (subst (λ z. Told (told u.files (limit_fault u.steps z)) e) h.passed t)

pub accepted_within : (which : Runs) (u : Unrolled) (drafts : List Draft) (specs : List Spec) → drafted which u ≡ Ok drafts → IsWithin u drafts specs → IsAcceptedAs which u specs
accepted_within which u drafts specs h k = record {
  drafts = drafts;
  accepted = and_then_ok drafts (drafted which u) (within u) h ∙ k.passes;
  described_by = k.described_by;
}

-- ---- a source

module _ (held : Held) (file : List ℕ) (blocks : List Syntax) (which : Runs) (u : Unrolled) (unrolls : Unrolls held file blocks u) (only : OnlyEnd held file blocks u) where
  comes : Comes held file blocks u
  comes = record { unrolls = unrolls; only = only }

  pub resolved_as : (result : Result (List Spec) ResolveFault) → Settles which u result → IfOk result (Resolves held file blocks which)
  resolved_as (Ok specs) h = record { unrolled = u; comes = comes; drafts = h.drafts; accepted = h.accepted; described_by = h.described_by }
  resolved_as (Err e) h = tt

  refuses : (e : ResolveFault) → outcome which u ≡ Err e → Refuses held file blocks which e
  refuses e h = record { unrolled = u; comes = comes; refused = h }

  explained : (e : ResolveFault) → Explains (outcome which u) e → IsRefusal held file blocks which e
  explained (refusal.Fault fault name) h = refuses (refusal.Fault fault name) h
  explained (refusal.Limit limit name) h = refuses (refusal.Limit limit name) h
  explained (refusal.Missing name) h = refuses (refusal.Missing name) h
  explained (refusal.StoreFailed name) h = refuses (refusal.StoreFailed name) h
  explained refusal.Memory h = tt

  pub refused_as : (result : Result (List Spec) ResolveFault) → Settles which u result → IfErr result (IsRefusal held file blocks which)
  refused_as (Ok specs) h = tt
  refused_as (Err e) h = explained e h

  due : (e : ResolveFault) → outcome which u ≡ Err e → (IsFailure u.stop → ⊥) → IsDue held file blocks which e
  due e h unfailed = record { unrolled = u; comes = comes; refused = h; unfailed = unfailed }

  due_explained : (e : ResolveFault) → Explains (outcome which u) e → (IsFailure u.stop → ⊥) → IsDueRefusal held file blocks which e
  due_explained (refusal.Fault fault name) h unfailed = due (refusal.Fault fault name) h unfailed
  due_explained (refusal.Limit limit name) h unfailed = due (refusal.Limit limit name) h unfailed
  due_explained (refusal.Missing name) h unfailed = due (refusal.Missing name) h unfailed
  due_explained (refusal.StoreFailed name) h unfailed = due (refusal.StoreFailed name) h unfailed
  due_explained refusal.Memory h unfailed = tt

  pub due_as : (before now : ℕ) → HasCause before now (IsFailure u.stop) → (result : Result (List Spec) ResolveFault) → Settles which u result → (Rose before now → ⊥) → IfErr result (IsDueRefusal held file blocks which)
  due_as before now cause (Ok specs) h fell = tt
  due_as before now cause (Err e) h fell = due_explained e h (λ f. fell (cause.failed f))

-- ---- the store's count

module _ (before now : ℕ) where
  unrisen : (Fails : Type 0) → HasCause before now Fails → (Rose before now → ⊥) → now ≡ before
  unrisen Fails cause fell = cause.kept (λ f. fell (cause.failed f))

  pub count_memory : (Fails : Type 0) → HasCause before now Fails → HasCount {A = List Spec} before now (Err refusal.Memory)
  count_memory Fails cause = record { later = cause.later; failed = λ f. absurd f; unmoved = unrisen Fails cause; accepted = λ f. absurd f; in_range = cause.in_range }

  module _ (which : Runs) (u : Unrolled) (cause : HasCause before now (IsFailure u.stop)) where
    blamed : (e : ResolveFault) → Explains (outcome which u) e → EndsInStoreFailure {A = List Spec} (Err e) → Rose before now
    blamed (refusal.StoreFailed name) h f = cause.failed (store_failed name which u h)
    blamed (refusal.Fault fault name) h f = absurd f
    blamed (refusal.Limit limit name) h f = absurd f
    blamed (refusal.Missing name) h f = absurd f
    blamed refusal.Memory h f = absurd f

    pub count_as : (result : Result (List Spec) ResolveFault) → Settles which u result → HasCount before now result
    count_as (Ok specs) h = record {
      later = cause.later;
      failed = λ f. absurd f;
      unmoved = unrisen (IsFailure u.stop) cause;
      accepted = λ done. cause.kept (accepted_unfailed which u h.drafts h.accepted);
      in_range = cause.in_range;
    }
    count_as (Err e) h = record {
      later = cause.later;
      failed = blamed e h;
      unmoved = unrisen (IsFailure u.stop) cause;
      accepted = λ f. absurd f;
      in_range = cause.in_range;
    }
