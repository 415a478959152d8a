-- When the store may have failed.
use Rattle.std.proofs.Common.{◌≡◌, ℕ, false, List, Option, Some, None, Result, Ok, Err, inl, inr, refl, sym, subst, arith}
use Rattle.std.specs.Prelude.{is_some, IfOk, OnOk}
use Rattle.std.proofs.lemmas.Bool.{false≢true}
use Rattle.rl_types.specs.declared.faults.FaultKind.{FaultKind}
use Rattle.rl_types.specs.declared.numbers.Memory.{Memory}
use Rattle.rl_types.specs.declared.numbers.Place.{Place}
use Rattle.rl_grammar.specs.declared.syntax.Syntax.{Syntax}
use Rattle.rl_io.specs.Outside.{HasCause}
use Rattle.rl_includes.specs.Answers.{FailsIn}
use Rattle.rl_includes.specs.Turns.{faulted, stopped}
use Rattle.rl_includes.specs.Unrolling.{IsFailure, too_deep, with_request, RefusedAs, OpensText}
use Rattle.rl_includes.specs.declared.reader.Reader.{Reader}
use Rattle.rl_includes.specs.declared.reader.Request.{Request}
use Rattle.rl_includes.specs.declared.unrolled.Stop.{Stop}
use Rattle.rl_includes.specs.declared.unrolled.Stop.TheVariants as stop
use Rattle.rl_includes.specs.declared.unrolled.Unrolled.{Unrolled}

-- no call of the store
pub cause_none : (Fails : Type 0) (n : ℕ) → (Fails → ⊥) → HasCause n n Fails
cause_none Fails n none = record { later = omega arith; failed = λ f. absurd (none f); kept = λ _. refl; in_range = λ h. h }

-- calls that have not failed, and then one that may
pub cause_then : (Fails Later : Type 0) (before mid now : ℕ) → (Fails → ⊥) → HasCause before mid Fails → HasCause mid now Later → HasCause before now Later
cause_then Fails Later before mid now none h k = subst (λ (z : ℕ). HasCause z now Later) (h.kept none) k

-- the same cause in other words
pub cause_as : (Fails Others : Type 0) (before now : ℕ) → (Others → Fails) → (Fails → Others) → HasCause before now Fails → HasCause before now Others
cause_as Fails Others before now to back h = record {
  later = h.later;
  failed = λ f. h.failed (to f);
  kept = λ n. h.kept (λ f. n (back f));
  in_range = h.in_range;
}

pub no_failure : (s : Option Stop) → is_some s ≡ false → IsFailure s → ⊥
no_failure None none f = f
no_failure (Some s) some f = absurd (false≢true (sym some))

pub fails_in : {A : Type 0} (r : Result A Memory) (s : Option Stop) → (IsFailure s → ⊥) → FailsIn r s → ⊥
fails_in (Ok x) s not f = not f
fails_in (Err e) s not f = f

failure_of : (new old : Unrolled) → new ≡ old → (IsFailure old.stop → ⊥) → IsFailure new.stop → ⊥
failure_of new old same not f = not (subst (λ z. IsFailure z.stop) same f)

pub faulted_no_failure : (r : Result (Unit {0}) Memory) (kind : FaultKind) (place : Place) (file : List ℕ) (old new : Unrolled) → OnOk r (new ≡ faulted kind place file old) → FailsIn r new.stop → ⊥
faulted_no_failure (Ok x) kind place file old new h f = failure_of new (faulted kind place file old) h (λ g. g) f
faulted_no_failure (Err e) kind place file old new h f = f

pub too_deep_no_failure : (r : Result (Unit {0}) Memory) (reader : Reader) (place : Place) (old new : Unrolled) → OnOk r (new ≡ too_deep reader place old) → FailsIn r new.stop → ⊥
too_deep_no_failure (Ok x) reader place old new h f = failure_of new (too_deep reader place old) h (λ g. g) f
too_deep_no_failure (Err e) reader place old new h f = f

refused_no_failure : (number : ℕ) (text name : List ℕ) (s : Stop) → RefusedAs number text name s → IsFailure (Some s) → ⊥
refused_no_failure number text name (stop.Fault fault file) h f = f
refused_no_failure number text name (stop.Limit limit file) h f = f
refused_no_failure number text name (stop.Missing file) h f = f
refused_no_failure number text name (stop.StoreFailed file) h f = h

pub text_no_failure : (r : Result (Option (List Syntax)) Memory) (reader : Reader) (request : Request) (text : List ℕ) (old new : Unrolled) → is_some old.stop ≡ false
    → IfOk r (λ opened. OpensText reader request text old new opened) → FailsIn r new.stop → ⊥
text_no_failure (Ok None) reader request text old new unstopped (inl h) f =
    failure_of new (stopped h.refusal (with_request request old)) h.is (refused_no_failure _ text request.file h.refusal h.refused) f
text_no_failure (Ok None) reader request text old new unstopped (inr h) f = failure_of new _ h.opens.1 (λ g. g) f
text_no_failure (Ok (Some trees)) reader request text old new unstopped h f = failure_of new (with_request request old) h.opens.1 (no_failure old.stop unstopped) f
text_no_failure (Err e) reader request text old new unstopped h f = f
