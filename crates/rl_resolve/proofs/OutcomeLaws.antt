-- What is accepted does not end before the source does, and the store is blamed where it failed alone.
use Rattle.std.proofs.Common.{◌≡◌, ℕ, List, Option, None, Some, Result, Ok, Err, refl, ap, subst}
use Rattle.rl_grammar.specs.declared.read_fault.ReadFault.{ReadFault}
use Rattle.rl_grammar.specs.declared.read_fault.ReadFault.TheVariants as reason
use Rattle.rl_includes.specs.Unrolling.{IsFailure}
use Rattle.rl_includes.specs.declared.unrolled.Stop.{Stop}
use Rattle.rl_includes.specs.declared.unrolled.Stop.TheVariants as stop
use Rattle.rl_includes.specs.declared.unrolled.Unrolled.{Unrolled}
use Rattle.rl_draft.specs.declared.draft.Draft.{Draft}
use Rattle.rl_names.specs.Checks.{leaves_fault}
use Rattle.rl_names.specs.Drafts.{drafts_of}
use Rattle.rl_names.specs.Frames.{machines_of}
use Rattle.rl_names.specs.Names.{names_fault}
use Rattle.rl_resolve.specs.Refusals.{refused, and_then, named, told, read_in, stopped, stopped_by}
use Rattle.rl_resolve.specs.Resolving.{machine_fault, instance_fault, drafted, within, outcome}
use Rattle.rl_resolve.specs.declared.answer.ResolveFault.{ResolveFault}
use Rattle.rl_resolve.specs.declared.answer.ResolveFault.TheVariants as refusal
use Rattle.rl_resolve.specs.declared.answer.Runs.{Runs}

-- ---- what is read stands behind no refusal

err_or_ok : {A : Type 0} (e : ResolveFault) (x : A) → ◌≡◌ {A = Result A ResolveFault} (Err e) (Ok x) → ⊥
err_or_ok e x h = cc

pub ok_none : {A : Type 0} (due : Option ResolveFault) (read : Result A ResolveFault) (x : A) → refused due read ≡ Ok x → due ≡ None
ok_none None read x h = refl
ok_none (Some e) read x h = absurd (err_or_ok e x h)

pub ok_read : {A : Type 0} (due : Option ResolveFault) (read : Result A ResolveFault) (x : A) → refused due read ≡ Ok x → read ≡ Ok x
ok_read None read x h = h
ok_read (Some e) read x h = absurd (err_or_ok e x h)

pub ok_next : {A B : Type 0} (first : Result A ResolveFault) (next : A → Result B ResolveFault) (y : B) → and_then first next ≡ Ok y → (x : A) × (first ≡ Ok x) × (next x ≡ Ok y)
ok_next (Ok x) next y h = (x, refl, h)
ok_next (Err e) next y h = absurd (err_or_ok e y h)

some_or_none : (e : ResolveFault) → Some e ≡ None → ⊥
some_or_none e h = cc

not_stopped : (s : Option Stop) → stopped s ≡ None → s ≡ None
not_stopped None h = refl
not_stopped (Some s) h = absurd (some_or_none (stopped_by s) h)

pub accepted_unstopped : (which : Runs) (u : Unrolled) (drafts : List Draft) → outcome which u ≡ Ok drafts → u.stop ≡ None
accepted_unstopped which u drafts h =
    let x = ok_next (drafted which u) (within u) drafts h in
    not_stopped u.stop (ok_none (stopped u.stop) _ x.0 (ok_read (told u.files (names_fault u.steps)) _ x.0 x.1))

pub accepted_unfailed : (which : Runs) (u : Unrolled) (drafts : List Draft) → outcome which u ≡ Ok drafts → IsFailure u.stop → ⊥
accepted_unfailed which u drafts h f = subst IsFailure (accepted_unstopped which u drafts h) f

-- ---- no other step blames the store

module _ (name : List ℕ) where
  no_blame : (files : List (List ℕ)) (e : ReadFault) → named files e ≡ refusal.StoreFailed name → ⊥
  no_blame files (reason.Fault fault) h = cc
  no_blame files (reason.Limit limit) h = cc
  no_blame files reason.Memory h = cc

  same_err : {A : Type 0} (a b : ResolveFault) → ◌≡◌ {A = Result A ResolveFault} (Err a) (Err b) → a ≡ b
  same_err a b h = cc

  blamed_behind : {A : Type 0} (files : List (List ℕ)) (due : Option ReadFault) (read : Result A ResolveFault) → refused (told files due) read ≡ Err (refusal.StoreFailed name) → read ≡ Err (refusal.StoreFailed name)
  blamed_behind files None read h = h
  blamed_behind files (Some e) read h = absurd (no_blame files e (same_err (named files e) (refusal.StoreFailed name) h))

  ok_or_err : {A : Type 0} (e : ResolveFault) (x : A) → ◌≡◌ {A = Result A ResolveFault} (Ok x) (Err e) → ⊥
  ok_or_err e x h = cc

  not_read : {A : Type 0} (files : List (List ℕ)) (read : Result A ReadFault) → read_in files read ≡ Err (refusal.StoreFailed name) → ⊥
  not_read files (Ok x) h = ok_or_err (refusal.StoreFailed name) x h
  not_read files (Err e) h = no_blame files e (same_err (named files e) (refusal.StoreFailed name) h)

  stop_blames : (s : Stop) → stopped_by s ≡ refusal.StoreFailed name → IsFailure (Some s)
  stop_blames (stop.StoreFailed n) h = tt
  stop_blames (stop.Fault fault n) h = absurd (cc)
  stop_blames (stop.Limit limit n) h = absurd (cc)
  stop_blames (stop.Missing n) h = absurd (cc)

  stop_or_behind : {A : Type 0} (s : Option Stop) (read : Result A ResolveFault) → refused (stopped s) read ≡ Err (refusal.StoreFailed name) → (read ≡ Err (refusal.StoreFailed name) → ⊥) → IsFailure s
  stop_or_behind None read h none = absurd (none h)
  stop_or_behind (Some s) read h none = stop_blames s (same_err (stopped_by s) (refusal.StoreFailed name) h)

  drafted_blames : (which : Runs) (u : Unrolled) → drafted which u ≡ Err (refusal.StoreFailed name) → IsFailure u.stop
  drafted_blames which u h =
      stop_or_behind u.stop _ (blamed_behind u.files (names_fault u.steps) _ h) (λ k.
      not_read u.files (drafts_of u.steps)
      (blamed_behind u.files (instance_fault which u.steps (machines_of u.steps)) _
      (blamed_behind u.files (leaves_fault u.steps) _
      (blamed_behind u.files (machine_fault which (machines_of u.steps)) _ k))))

  within_blames : (u : Unrolled) (drafts : List Draft) → within u drafts ≡ Err (refusal.StoreFailed name) → ⊥
  within_blames u drafts h = ok_or_err (refusal.StoreFailed name) drafts (blamed_behind u.files _ (Ok drafts) h)

  step_blames : {A B : Type 0} (first : Result A ResolveFault) (next : A → Result B ResolveFault) → and_then first next ≡ Err (refusal.StoreFailed name) → ((x : A) → next x ≡ Err (refusal.StoreFailed name) → ⊥) → first ≡ Err (refusal.StoreFailed name)
  step_blames (Ok x) next h none = absurd (none x h)
  step_blames (Err e) next h none = ap (λ z. Err z) (same_err e (refusal.StoreFailed name) h)

  pub store_failed : (which : Runs) (u : Unrolled) → outcome which u ≡ Err (refusal.StoreFailed name) → IsFailure u.stop
  store_failed which u h = drafted_blames which u (step_blames (drafted which u) (within u) h (within_blames u))
