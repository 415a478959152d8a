-- What a reader answers where a definition gives a value or a first fault.
use Rattle.std.specs.Prelude.{◌≡◌, Result, Ok, Err, MatchResult}
use Rattle.rl_types.specs.declared.faults.Fault.{Fault}
use Rattle.rl_grammar.specs.declared.read_fault.ReadFault.{ReadFault}
use Rattle.rl_grammar.specs.declared.read_fault.ReadFault.TheVariants as r

-- the reader gives the first fault; only memory may be wanted at any time
abbrev pub Explains : {A : Type 0} → Result A Fault → ReadFault → Type 0
Explains defined (r.Fault fault) = defined ≡ Err fault
Explains defined (r.Limit limit) = ⊥
Explains defined r.Memory = Unit {0}

-- the reader gives the value, or the first fault
abbrev pub Gives : {A : Type 0} → Result A Fault → Result A ReadFault → Type 0
Gives defined answer = MatchResult answer (λ value. defined ≡ Ok value) (Explains defined)
