-- The arrays of a machine show it, where its Spec is well-formed.
use Rattle.std.proofs.Common.{◌≡◌, ℕ, length, Some, true, subst, sym}
use Rattle.std.specs.List.{AllByRecursion}
use Rattle.rl_types.specs.declared.numbers.Key.{Key}
use Rattle.rl_arrays.specs.declared.arrays.Arrays.{Arrays}
use Rattle.rl_model.specs.declared.spec.ActionDef.{ActionDef}
use Rattle.rl_model.specs.declared.spec.Spec.{Spec}
use Rattle.rl_model.specs.Parts.{letter_of}
use Rattle.rl_model.specs.WellFormed.{IsWellFormed}
use Rattle.rl_model.proofs.CodeLaws.{IsStatement, spec_statements}
use Rattle.rl_minimal.specs.declared.state.MinEdge.{MinEdge}
use Rattle.rl_minimal.specs.Minimal.{Minimal, numbers}
use Rattle.rl_minimal.specs.Machine.{edge_for, edges_at}
use Rattle.rl_minimal.specs.Sound.{IsMinimal}
use Rattle.rl_layout.specs.Books.{lists_of, order_of}
use Rattle.rl_layout.specs.Layout.{arrays_of}
use Rattle.rl_layout.specs.Shown.{Shows}
use Rattle.rl_layout.proofs.ListLaws.{all_more}
use Rattle.rl_layout.proofs.BookLaws.{has_number}
use Rattle.rl_layout.proofs.SpecLaws.{IsPlain}
use Rattle.rl_layout.proofs.TwinLaws.{arrays_twin, found_numbered}

pub all_plain_in : (spec : Spec) → IsWellFormed spec → AllByRecursion (λ (y : ActionDef). AllByRecursion IsPlain y.statements) spec.actions
all_plain_in spec well = all_more (λ (y : ActionDef). AllByRecursion (IsStatement (length spec.entries)) y.statements) (λ (y : ActionDef). AllByRecursion IsPlain y.statements) spec.actions
    (λ y h. all_more (IsStatement (length spec.entries)) IsPlain y.statements (λ s r. record { entry = r.entry; base = r.base; offset = r.offset }) h) (spec_statements spec well.codes)

pub shows : (spec : Spec) (m : Minimal) → IsMinimal m → IsWellFormed spec → Shows spec m (arrays_of spec m)
shows spec m sound well = arrays_twin spec m sound (all_plain_in spec well)

-- arrays that are these show it too
pub shown_by : (spec : Spec) (m : Minimal) (a : Arrays) → a ≡ arrays_of spec m → IsMinimal m → IsWellFormed spec → Shows spec m a
shown_by spec m a e sound well = subst (Shows spec m) (sym e) (shows spec m sound well)

-- the actions of an edge that is found have numbers
pub edges_numbered : (spec : Spec) (m : Minimal) → IsMinimal m → IsWellFormed spec → (q : ℕ) (key : Key) (hold : ℕ) (x : MinEdge)
    → edge_for (letter_of key hold) (edges_at m q) ≡ Some x → AllByRecursion (λ n. has_number (order_of (lists_of m.states)) n ≡ true) (numbers x.list)
edges_numbered spec m sound well = found_numbered spec m sound (all_plain_in spec well)
