-- Values that are read one after another up to the first refusal, and what a reader of them answers.
use Rattle.std.specs.Prelude.{◌≡◌, List, [], ◌∷◌, Option, Some, None, Result, Ok, Err, MatchResult}
use Rattle.rl_grammar.specs.declared.read_fault.ReadFault.{ReadFault}
use Rattle.rl_grammar.specs.declared.read_fault.ReadFault.TheVariants as reason

-- what is read on from a value; a refusal stays
abbrev pub and_then : {E A B : Type 0} → Result A E → (A → Result B E) → Result B E
and_then (Err e) next = Err e
and_then (Ok x) next = next x

-- what each of a list is read as, in order, or the first refusal
abbrev pub each : {E A B : Type 0} → (A → Result B E) → List A → Result (List B) E
each read [] = Ok []
each read (x ∷ xs) = and_then (read x) (λ y. and_then (each read xs) (λ ys. Ok (y ∷ ys)))

-- what a list makes of a state, one item after another, or the first refusal
abbrev pub along : {E S A : Type 0} → (S → A → Result S E) → S → List A → Result S E
along read s [] = Ok s
along read s (x ∷ xs) = and_then (read s x) (λ t. along read t xs)

-- the reader gives the refusal that is defined; only memory may be wanted at any time
abbrev pub Explains : {A : Type 0} → Result A ReadFault → ReadFault → Type 0
Explains defined (reason.Fault fault) = defined ≡ Err (reason.Fault fault)
Explains defined (reason.Limit limit) = defined ≡ Err (reason.Limit limit)
Explains defined reason.Memory = Unit {0}

-- the reader gives the value, or the refusal
abbrev pub Gives : {A : Type 0} → Result A ReadFault → Result A ReadFault → Type 0
Gives defined answer = MatchResult answer (λ value. defined ≡ Ok value) (Explains defined)

-- ---- tests that find the first refusal

abbrev pub or_else : {A : Type 0} → Option A → Option A → Option A
or_else None b = b
or_else (Some a) b = Some a

-- the first that a test finds in a list
abbrev pub first_of : {A B : Type 0} → (A → Option B) → List A → Option B
first_of test [] = None
first_of test (x ∷ xs) = or_else (test x) (first_of test xs)

-- a refusal where there is one, or else what is read
abbrev pub refused : {A : Type 0} → Option ReadFault → Result A ReadFault → Result A ReadFault
refused None read = read
refused (Some e) read = Err e

-- the refusal that is answered is the one that is due; only memory may be wanted at any time
abbrev pub Told : Option ReadFault → ReadFault → Type 0
Told due (reason.Fault fault) = due ≡ Some (reason.Fault fault)
Told due (reason.Limit limit) = due ≡ Some (reason.Limit limit)
Told due reason.Memory = Unit {0}

-- nothing is due, or it is told
abbrev pub Tells : Option ReadFault → Result (Unit {0}) ReadFault → Type 0
Tells due answer = MatchResult answer (λ done. due ≡ None) (Told due)

-- the same of a test that takes no memory
abbrev pub Shows : Option ReadFault → Result (Unit {0}) ReadFault → Type 0
Shows due answer = MatchResult answer (λ done. due ≡ None) (λ e. due ≡ Some e)
