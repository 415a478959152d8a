-- A refusal that is told is the first one.
use Rattle.std.proofs.Common.{◌≡◌, ℕ, List, Option, None, Some, Result, Ok, Err, sym, ap, subst}
use Rattle.rl_types.specs.declared.faults.Fault.{Fault}
use Rattle.rl_types.specs.declared.faults.Limit.{Limit}
use Rattle.rl_grammar.specs.declared.read_fault.ReadFault.{ReadFault}
use Rattle.rl_grammar.specs.declared.read_fault.ReadFault.TheVariants as reason
use Rattle.rl_names.specs.Answers as names
use Rattle.rl_resolve.specs.Refusals.{refused, and_then, named, told, read_in, IsTold, Told, Explains}
use Rattle.rl_resolve.specs.declared.answer.ResolveFault.{ResolveFault}
use Rattle.rl_resolve.specs.declared.answer.ResolveFault.TheVariants as refusal

pub told_some : (due e : ResolveFault) → IsTold due e → Told (Some due) e
told_some due (refusal.Fault fault name) h = ap (λ z. Some z) h
told_some due (refusal.Limit limit name) h = ap (λ z. Some z) h
told_some due (refusal.Missing name) h = ap (λ z. Some z) h
told_some due (refusal.StoreFailed name) h = ap (λ z. Some z) h
told_some due refusal.Memory h = tt

-- want of memory is told as that alone
no_fault : (f : Fault) (n : List ℕ) → refusal.Memory ≡ refusal.Fault f n → ⊥
no_fault f n h = cc

no_limit : (l : Limit) (n : List ℕ) → refusal.Memory ≡ refusal.Limit l n → ⊥
no_limit l n h = cc

no_missing : (n : List ℕ) → refusal.Memory ≡ refusal.Missing n → ⊥
no_missing n h = cc

no_failure : (n : List ℕ) → refusal.Memory ≡ refusal.StoreFailed n → ⊥
no_failure n h = cc

memory_told : (due : Option ResolveFault) (e : ResolveFault) → IsTold refusal.Memory e → Told due e
memory_told due (refusal.Fault fault name) h = absurd (no_fault fault name h)
memory_told due (refusal.Limit limit name) h = absurd (no_limit limit name h)
memory_told due (refusal.Missing name) h = absurd (no_missing name h)
memory_told due (refusal.StoreFailed name) h = absurd (no_failure name h)
memory_told due refusal.Memory h = tt

memory_explains : {A : Type 0} (read : Result A ResolveFault) (e : ResolveFault) → IsTold refusal.Memory e → Explains read e
memory_explains read (refusal.Fault fault name) h = absurd (no_fault fault name h)
memory_explains read (refusal.Limit limit name) h = absurd (no_limit limit name h)
memory_explains read (refusal.Missing name) h = absurd (no_missing name h)
memory_explains read (refusal.StoreFailed name) h = absurd (no_failure name h)
memory_explains read refusal.Memory h = tt

-- ---- the name of the file

pub told_none : (files : List (List ℕ)) (due : Option ReadFault) → due ≡ None → told files due ≡ None
told_none files due h = ap (told files) h

pub told_err : (files : List (List ℕ)) (due : Option ReadFault) (e : ReadFault) (r : ResolveFault) → names.Told due e → IsTold (named files e) r → Told (told files due) r
told_err files due (reason.Fault fault) r h k = subst (λ z. Told (told files z) r) (sym h) (told_some (named files (reason.Fault fault)) r k)
told_err files due (reason.Limit limit) r h k = subst (λ z. Told (told files z) r) (sym h) (told_some (named files (reason.Limit limit)) r k)
told_err files due reason.Memory r h k = memory_told (told files due) r k

explains_err : (A : Type 0) (due e : ResolveFault) → IsTold due e → Explains {A = A} (Err due) e
explains_err A due (refusal.Fault fault name) h = ap (λ z. Err z) h
explains_err A due (refusal.Limit limit name) h = ap (λ z. Err z) h
explains_err A due (refusal.Missing name) h = ap (λ z. Err z) h
explains_err A due (refusal.StoreFailed name) h = ap (λ z. Err z) h
explains_err A due refusal.Memory h = tt

pub explains_in : {A : Type 0} (files : List (List ℕ)) (read : Result A ReadFault) (e : ReadFault) (r : ResolveFault) → names.Explains read e → IsTold (named files e) r → Explains (read_in files read) r
explains_in {A} files read (reason.Fault fault) r h k = subst (λ z. Explains (read_in files z) r) (sym h) (explains_err A (named files (reason.Fault fault)) r k)
explains_in {A} files read (reason.Limit limit) r h k = subst (λ z. Explains (read_in files z) r) (sym h) (explains_err A (named files (reason.Limit limit)) r k)
explains_in {A} files read reason.Memory r h k = memory_explains (read_in files read) r k

-- ---- one after another

pub told_refused : {A : Type 0} (e : ResolveFault) (due : Option ResolveFault) (read : Result A ResolveFault) → Told due e → Explains (refused due read) e
told_refused (refusal.Fault fault name) due read h = ap (λ z. refused z read) h
told_refused (refusal.Limit limit name) due read h = ap (λ z. refused z read) h
told_refused (refusal.Missing name) due read h = ap (λ z. refused z read) h
told_refused (refusal.StoreFailed name) due read h = ap (λ z. refused z read) h
told_refused refusal.Memory due read h = tt

pub refused_none : {A : Type 0} (due : Option ResolveFault) (read : Result A ResolveFault) → due ≡ None → refused due read ≡ read
refused_none due read none = ap (λ z. refused z read) none

pub explains_behind : {A : Type 0} (e : ResolveFault) (due : Option ResolveFault) (read : Result A ResolveFault) → due ≡ None → Explains read e → Explains (refused due read) e
explains_behind e due read none h = subst (λ z. Explains z e) (sym (refused_none due read none)) h

pub explains_first : {A B : Type 0} (e : ResolveFault) (first : Result A ResolveFault) (next : A → Result B ResolveFault) → Explains first e → Explains (and_then first next) e
explains_first (refusal.Fault fault name) first next h = ap (λ z. and_then z next) h
explains_first (refusal.Limit limit name) first next h = ap (λ z. and_then z next) h
explains_first (refusal.Missing name) first next h = ap (λ z. and_then z next) h
explains_first (refusal.StoreFailed name) first next h = ap (λ z. and_then z next) h
explains_first refusal.Memory first next h = tt

pub and_then_ok : {A B : Type 0} (x : A) (first : Result A ResolveFault) (next : A → Result B ResolveFault) → first ≡ Ok x → and_then first next ≡ next x
and_then_ok x first next h = ap (λ z. and_then z next) h

pub explains_next : {A B : Type 0} (e : ResolveFault) (x : A) (first : Result A ResolveFault) (next : A → Result B ResolveFault) → first ≡ Ok x → Explains (next x) e → Explains (and_then first next) e
explains_next e x first next h k = subst (λ z. Explains z e) (sym (and_then_ok x first next h)) k
