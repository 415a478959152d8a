-- The arrays of a machine are valid, where its Spec is well-formed and it keeps to the Spec.
use Rattle.std.proofs.Common.{None, arith}
use Rattle.rl_arrays.specs.declared.arrays.ArrayName.{ArrayName}
use Rattle.rl_arrays.specs.declared.arrays.ArrayName.TheVariants as the
use Rattle.rl_arrays.specs.Valid.{FirstWrong, IsVersioned, Valid}
use Rattle.rl_model.specs.declared.spec.Spec.{Spec}
use Rattle.rl_model.specs.WellFormed.{IsWellFormed}
use Rattle.rl_minimal.specs.Minimal.{Minimal}
use Rattle.rl_minimal.specs.Sound.{IsMinimal}
use Rattle.rl_layout.specs.Books.{lists_of, order_of}
use Rattle.rl_layout.specs.Layout.{arrays_laid, arrays_of}
use Rattle.rl_layout.specs.Fits.{Fits}
use Rattle.rl_layout.proofs.ValidBase.{key_offsets_right, cell_offsets_right, single_lengths_right, range_lengths_right, kinds_right, homes_right, le_pos}
use Rattle.rl_layout.proofs.ValidLists.{actions_right, from_right, to_right, eof_right, error_right, token_right}
use Rattle.rl_layout.proofs.ValidCells.{cell_uses_right, asks_right, cell_entries_right, targets_right, step_lists_right}
use Rattle.rl_layout.proofs.ValidNames.{action_names_right, cond_names_right, entry_names_right, entry_states_right}
use Rattle.rl_layout.proofs.ValidStatements as statements
use Rattle.rl_layout.proofs.ValidKeys.{keys_right}

module _ (spec : Spec) (m : Minimal) (sound : IsMinimal m) (well : IsWellFormed spec) (fits : Fits spec m) where
  each : (array : ArrayName) → FirstWrong (arrays_laid spec (lists_of m.states) (order_of (lists_of m.states)) m) array None
  each the.Actions = actions_right spec m sound
  each the.KeyOffsets = key_offsets_right spec (lists_of m.states) (order_of (lists_of m.states)) m sound
  each the.TransKeys = keys_right spec m sound fits
  each the.SingleLengths = single_lengths_right spec (lists_of m.states) (order_of (lists_of m.states)) m sound
  each the.RangeLengths = range_lengths_right spec (lists_of m.states) (order_of (lists_of m.states)) m sound
  each the.CellOffsets = cell_offsets_right spec (lists_of m.states) (order_of (lists_of m.states)) m sound
  each the.CellUses = cell_uses_right spec m sound fits
  each the.CellAsks = asks_right spec m sound fits
  each the.CellEntries = cell_entries_right spec m sound fits
  each the.TransTargs = targets_right spec m sound fits
  each the.TransLists = step_lists_right spec m sound fits
  each the.FromLists = from_right spec m sound
  each the.ToLists = to_right spec m sound
  each the.EofLists = eof_right spec m sound
  each the.ErrorLists = error_right spec m sound
  each the.AcceptLists = token_right spec m sound
  each the.StateKinds = kinds_right spec (lists_of m.states) (order_of (lists_of m.states)) m sound
  each the.Homes = homes_right spec (lists_of m.states) (order_of (lists_of m.states)) m sound
  each the.ActionNames = action_names_right spec m sound well fits
  each the.StmtFirsts = statements.firsts_right spec m sound well fits
  each the.StmtCounts = statements.counts_right spec m sound well fits
  each the.StmtKinds = statements.kinds_right spec m sound well fits
  each the.StmtOuter = statements.outer_right spec m sound well fits
  each the.StmtArgs = statements.arguments_right spec m sound well fits
  each the.StmtBases = statements.bases_right spec m sound well fits
  each the.CondNames = cond_names_right spec m sound well fits
  each the.EntryNames = entry_names_right spec m sound well fits
  each the.EntryStates = entry_states_right spec m sound well fits

  version : IsVersioned (arrays_laid spec (lists_of m.states) (order_of (lists_of m.states)) m)
  version = (le_pos 1 2 (omega arith), le_pos 2 2 (omega arith))

  pub arrays_valid : Valid (arrays_of spec m)
  unfolding arrays_of
  arrays_valid = record { version = version; each = each }
