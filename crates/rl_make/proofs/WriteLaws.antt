-- The tables of a Spec write what its expressions write.
use Rattle.std.proofs.Common.{◌≡◌, ◌≤◌, ℕ, List, length, ap}
use Rattle.rl_arrays.specs.declared.arrays.Arrays.{Arrays}
use Rattle.rl_arrays.specs.TableMachine.{machine}
use Rattle.rl_run.specs.Machine.{Machine}
use Rattle.rl_run.specs.Twin.{After}
use Rattle.rl_run.proofs.Compose.{twin_after}
use Rattle.rl_replay.proofs.Twins.{written_same}
use Rattle.rl_fsm.specs.declared.root.EntryFsm.{EntryFsm}
use Rattle.rl_model.specs.declared.spec.Spec.{Spec}
use Rattle.rl_model.specs.Specification.{specification_of}
use Rattle.rl_model.specs.Trees.{TreeState, context_of, tree_machine}
use Rattle.rl_model.specs.WellFormed.{IsWellFormed}
use Rattle.rl_minimal.specs.Minimal.{Minimal}
use Rattle.rl_minimal.specs.Machine.{min_machine}
use Rattle.rl_minimal.specs.Sound.{IsMinimal}
use Rattle.rl_reach.specs.Canonical.{IsMachineOf}
use Rattle.rl_layout.specs.Fits.{Fits}
use Rattle.rl_layout.specs.Layout.{arrays_of}
use Rattle.rl_layout.specs.Shown.{number_of, Shows}
use Rattle.rl_make.specs.Named.{NamesUsed}
use Rattle.rl_make.specs.Writes.{entry_names, condition_names, WritesAs, IsBuiltOf}
use Rattle.rl_script.specs.TableNames.{names_in}
use Rattle.rl_make.proofs.FitLaws.{Named, Counted, tree_twin, fits, some_machine}
use Rattle.rl_make.proofs.NamedLaws.{names_used}

pub built_fits : (spec : Spec) (entries : List EntryFsm) (m : Minimal) → IsWellFormed spec → IsBuiltOf spec entries → IsMachineOf entries m → IsMinimal m → Fits spec m
built_fits spec entries m well built made sound =
    let (tests, honest) = built.tests in
    fits spec well entries m made sound tests (built.twin tests honest) built.machines

pub built_writes : (spec : Spec) (entries : List EntryFsm) (m : Minimal) (a : Arrays) → IsWellFormed spec → IsBuiltOf spec entries → IsMachineOf entries m → IsMinimal m → Shows spec m a → WritesAs spec a
built_writes spec entries m a well built made sound shows tests honest settings script =
    let plain = specification_of spec in
    let tree : Machine (TreeState plain) = tree_machine plain tests in
    let small : Machine ℕ = min_machine m (context_of plain) in
    let twin = built.twin tests honest in
    let R = After (Named spec well entries m made sound tests twin) (Counted spec well entries m made sound tests twin) in
    written_same tree (machine a) (λ x. number_of m x) (After R (λ q p. p ≡ q))
    (twin_after tree small (machine a) (λ x. x) (number_of m) R (λ q p. p ≡ q) (tree_twin spec well entries m made sound tests twin) shows) (names_in a) settings script

pub built_some : (spec : Spec) (entries : List EntryFsm) → IsWellFormed spec → IsBuiltOf spec entries → 1 ≤ length entries
built_some spec entries well built = some_machine spec entries well built.machines

pub built_names : (spec : Spec) (m : Minimal) (a : Arrays) → a ≡ arrays_of spec m → (names_in a).entries ≡ entry_names spec
unfolding arrays_of
built_names spec m a e = ap (λ w. (names_in w).entries) e

pub built_conditions : (spec : Spec) (m : Minimal) (a : Arrays) → a ≡ arrays_of spec m → (names_in a).conditions ≡ condition_names spec
unfolding arrays_of
built_conditions spec m a e = ap (λ w. (names_in w).conditions) e

pub built_used : (spec : Spec) (entries : List EntryFsm) (m : Minimal) (a : Arrays) → IsWellFormed spec → IsBuiltOf spec entries → IsMachineOf entries m → IsMinimal m
    → a ≡ arrays_of spec m → NamesUsed spec a
built_used spec entries m a well built made sound e tests honest name =
    names_used spec well entries m made sound tests (built.twin tests honest) (built_fits spec entries m well built made sound) a e name
