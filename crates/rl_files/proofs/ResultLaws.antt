-- Values that are read one after another, up to the first fault.
use Rattle.std.proofs.Common.{◌≡◌, List, [], ◌∷◌, ◌++◌, Result, Ok, Err, refl, sym, ap, subst, append_assoc}
use Rattle.rl_types.specs.declared.faults.Fault.{Fault}
use Rattle.rl_grammar.specs.declared.read_fault.ReadFault.{ReadFault}
use Rattle.rl_grammar.specs.declared.read_fault.ReadFault.TheVariants as reason
use Rattle.rl_lexical.specs.Answers.{Explains, Gives}
use Rattle.rl_files.specs.Results.{and_then}

-- a fault stays
pub explains_then : {A B : Type 0} (e : ReadFault) (r : Result A Fault) (next : A → Result B Fault) → Explains r e → Explains (and_then r next) e
explains_then (reason.Fault f) r next h = ap (λ z. and_then z next) h
explains_then (reason.Limit l) r next h = h
explains_then reason.Memory r next h = tt

pub explains_along : {A : Type 0} (e : ReadFault) (r s : Result A Fault) → r ≡ s → Explains r e → Explains s e
explains_along e r s same h = subst (λ z. Explains z e) same h

pub gives_then : {A B : Type 0} (r : Result A Fault) (next : A → Result B Fault) (x : A) (answer : Result B ReadFault) → r ≡ Ok x → Gives (next x) answer → Gives (and_then r next) answer
gives_then r next x answer e h = subst (λ z. Gives (and_then z next) answer) (sym e) h

-- values before those that are read on
abbrev pub behind : {B : Type 0} → List B → Result (List B) Fault → Result (List B) Fault
behind found read = and_then read (λ ys. Ok (found ++ ys))

pub nothing_before : {B : Type 0} (r : Result (List B) Fault) → behind [] r ≡ r
nothing_before (Ok ys) = refl
nothing_before (Err e) = refl

pub one_before : {B : Type 0} (found : List B) (y : B) (r : Result (List B) Fault) → behind found (and_then r (λ ys. Ok (y ∷ ys))) ≡ behind (found ++ y ∷ []) r
one_before found y (Ok ys) = ap (λ z. Ok z) (sym (append_assoc found (y ∷ []) ys))
one_before found y (Err e) = refl
