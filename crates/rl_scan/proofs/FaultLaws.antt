-- The fault of an exploration is one of the scanner's.
use Rattle.std.proofs.Common.{◌≡◌, ℕ, ◌+◌, ◌<◌, true, false, cond, List, [], ◌∷◌, Some, length, arith}
use Rattle.std.specs.Prelude.{Result, Ok, Err, IfOk, IfErr}
use Rattle.rl_automata.proofs.Congruence.{some_in, none_in}
use Rattle.rl_fsm.specs.Graphs.{Graph, fsm_auto}
use Rattle.rl_explore.specs.declared.fault.BuildFault.{BuildFault}
use Rattle.rl_explore.specs.declared.fault.BuildFault.TheVariants.{L6, L8, F12, F15, Memory}
use Rattle.rl_explore.specs.Numbers.{IsCause}
use Rattle.rl_scan.specs.Beside.{side_auto, side_jams, first_empty_from}
use Rattle.rl_scan.specs.Scanners.{IsScanCause}

pub cause_is : (ms : List Graph) (most : ℕ) (e : BuildFault) → IsCause (side_auto ms) (side_jams ms) most e → IsScanCause ms most e
cause_is ms most L6 h = h
cause_is ms most L8 h = h
cause_is ms most F15 h = h
cause_is ms most (F12 i) h = absurd h
cause_is ms most Memory h = h

pub empty_below : (i : ℕ) (ms : List Graph) (j : ℕ) → first_empty_from i ms ≡ Some j → j < i + length ms
empty_below i [] j e = none_in j e
empty_below i (m ∷ ms) j e =
    (elim ((fsm_auto m).final m.start) as (λ b. cond b (Some i) (first_empty_from (i + 1) ms) ≡ Some j → j < i + length (m ∷ ms)) [
      | true ↦ λ q. let r : i ≡ j = some_in i j q in omega arith
      | false ↦ λ q. let r : j < (i + 1) + length ms = empty_below (i + 1) ms j q in omega arith
    ]) e

pub if_ok_to : {T E : Type 0} (P Q : T → Type 0) (r : Result T E) → ((t : T) → P t → Q t) → IfOk r P → IfOk r Q
if_ok_to P Q (Ok t) f h = f t h
if_ok_to P Q (Err e) f h = h

pub if_err_to : {T E : Type 0} (P Q : E → Type 0) (r : Result T E) → ((e : E) → P e → Q e) → IfErr r P → IfErr r Q
if_err_to P Q (Ok t) f h = h
if_err_to P Q (Err e) f h = f e h
