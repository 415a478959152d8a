-- What a call answers where a definition gives a value or a fault.
use Rattle.std.specs.Prelude.{◌≡◌, Result, Ok, Err, MatchResult}
use Rattle.rl_types.specs.declared.faults.FaultKind.{FaultKind}
use Rattle.rl_types.specs.declared.faults.FaultKind.TheVariants.{F8, F9}
use Rattle.rl_leaves.specs.declared.fault.KeyFault.{KeyFault}
use Rattle.rl_leaves.specs.declared.fault.KeyFault.TheVariants as k
use Rattle.rl_leaves.specs.declared.fault.LeafFault.{LeafFault}
use Rattle.rl_leaves.specs.declared.fault.LeafFault.TheVariants as f

-- the number of a fault
abbrev pub kind_of : KeyFault → FaultKind
kind_of k.Outside = F8
kind_of k.Reversed = F9
kind_of k.UpperOutside = F8

-- the call gives the fault; only memory may be wanted at any time
abbrev pub Explains : {A : Type 0} → Result A KeyFault → LeafFault → Type 0
Explains defined (f.Keys fault) = defined ≡ Err fault
Explains defined f.Memory = Unit {0}

-- the call gives the value, or the fault
abbrev pub Gives : {A : Type 0} → Result A KeyFault → Result A LeafFault → Type 0
Gives defined answer = MatchResult answer (λ value. defined ≡ Ok value) (Explains defined)
