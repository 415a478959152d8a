-- The arrays of a small machine: the word `ab`, with an action at each character. Its section, and its look-ups.
use Rattle.std.proofs.Common.{◌≡◌, [], ◌∷◌, Some, None, refl}
use Rattle.std.specs.Prelude.{pos, true, codes}
use Rattle.std.specs.List.{flat_map}
use Rattle.std.specs.Fmt.{digits}
use Rattle.rl_arrays.specs.declared.arrays.Arrays.{Arrays}
use Rattle.rl_arrays.specs.TableMachine.{machine}
use Rattle.rl_arrays.specs.Section.{section, section_lines, line_text}

abbrev pub one : Arrays
one = record {
  version = pos 1;
  name = codes "one";
  start = pos 1;
  first_final = pos 3;
  alphabet = pos 0;
  actions = pos 0 ∷ pos 1 ∷ pos 1 ∷ [];
  key_offsets = pos 0 ∷ pos 0 ∷ pos 1 ∷ pos 2 ∷ [];
  trans_keys = pos 97 ∷ pos 98 ∷ pos 0 ∷ [];
  single_lengths = pos 0 ∷ pos 1 ∷ pos 1 ∷ pos 0 ∷ [];
  range_lengths = pos 0 ∷ pos 0 ∷ pos 0 ∷ pos 0 ∷ [];
  cell_offsets = pos 0 ∷ pos 0 ∷ pos 1 ∷ pos 2 ∷ [];
  cell_uses = [];
  cell_asks = pos 0 ∷ pos 0 ∷ pos 0 ∷ [];
  cell_entries = pos 0 ∷ pos 1 ∷ pos 0 ∷ [];
  trans_targs = pos 2 ∷ pos 3 ∷ pos 0 ∷ [];
  trans_lists = pos 1 ∷ pos 1 ∷ pos 0 ∷ [];
  from_lists = pos 0 ∷ pos 0 ∷ pos 0 ∷ pos 0 ∷ [];
  to_lists = pos 0 ∷ pos 0 ∷ pos 0 ∷ pos 0 ∷ [];
  eof_lists = pos 0 ∷ pos 0 ∷ pos 0 ∷ pos 0 ∷ [];
  error_lists = pos 0 ∷ pos 0 ∷ pos 0 ∷ pos 0 ∷ [];
  accept_lists = pos 0 ∷ pos 0 ∷ pos 0 ∷ pos 0 ∷ [];
  state_kinds = pos 0 ∷ pos 0 ∷ pos 0 ∷ pos 0 ∷ [];
  homes = pos 0 ∷ pos 0 ∷ pos 0 ∷ pos 0 ∷ [];
  action_names = [] ∷ codes "x" ∷ [];
  stmt_firsts = pos 0 ∷ pos 1 ∷ [];
  stmt_counts = pos 0 ∷ pos 0 ∷ [];
  stmt_kinds = pos 0 ∷ [];
  stmt_outer = pos 0 ∷ [];
  stmt_args = pos 0 ∷ [];
  stmt_bases = pos 0 ∷ [];
  cond_names = [] ∷ [];
  entry_names = [] ∷ codes "main" ∷ [];
  entry_states = pos 0 ∷ pos 1 ∷ [];
}

-- the whole section
pub section-one : section one ≡ flat_map line_text (
    codes "/* rl-data 1 one */" ∷
    codes "static const int one_start = 1;" ∷
    codes "static const int one_first_final = 3;" ∷
    codes "static const int one_error = 0;" ∷
    codes "static const int one_alphabet = 0;" ∷
    codes "static const int one_en_main = 1;" ∷
    codes "static const int _one_actions[] = { 0, 1, 1 };" ∷
    codes "static const int _one_key_offsets[] = { 0, 0, 1, 2 };" ∷
    codes "static const long long _one_trans_keys[] = { 97, 98, 0 };" ∷
    codes "static const int _one_single_lengths[] = { 0, 1, 1, 0 };" ∷
    codes "static const int _one_range_lengths[] = { 0, 0, 0, 0 };" ∷
    codes "static const int _one_cell_offsets[] = { 0, 0, 1, 2 };" ∷
    codes "static const int _one_cell_asks[] = { 0, 0, 0 };" ∷
    codes "static const int _one_cell_entries[] = { 0, 1, 0 };" ∷
    codes "static const int _one_trans_targs[] = { 2, 3, 0 };" ∷
    codes "static const int _one_trans_lists[] = { 1, 1, 0 };" ∷
    codes "static const int _one_from_lists[] = { 0, 0, 0, 0 };" ∷
    codes "static const int _one_to_lists[] = { 0, 0, 0, 0 };" ∷
    codes "static const int _one_eof_lists[] = { 0, 0, 0, 0 };" ∷
    codes "static const int _one_error_lists[] = { 0, 0, 0, 0 };" ∷
    codes "static const int _one_accept_lists[] = { 0, 0, 0, 0 };" ∷
    codes "static const int _one_state_kinds[] = { 0, 0, 0, 0 };" ∷
    codes "static const int _one_homes[] = { 0, 0, 0, 0 };" ∷
    codes "static const char *const _one_action_names[] = { \"\", \"x\" };" ∷
    codes "static const int _one_stmt_firsts[] = { 0, 1 };" ∷
    codes "static const int _one_stmt_counts[] = { 0, 0 };" ∷
    codes "static const int _one_stmt_kinds[] = { 0 };" ∷
    codes "static const int _one_stmt_outer[] = { 0 };" ∷
    codes "static const int _one_stmt_args[] = { 0 };" ∷
    codes "static const int _one_stmt_bases[] = { 0 };" ∷
    codes "static const char *const _one_cond_names[] = { \"\" };" ∷
    codes "static const char *const _one_entry_names[] = { \"\", \"main\" };" ∷
    codes "static const int _one_entry_states[] = { 0, 1 };" ∷
    codes "/* rl-end one */" ∷
    []
    )
unfolding section_lines digits
section-one = refl

-- the same machine, where keys share cells
abbrev pub two : Arrays
two = record one { version = pos 2; cell_uses = pos 0 ∷ pos 1 ∷ pos 0 ∷ [] }

-- its section
pub section-two : section two ≡ flat_map line_text (
    codes "/* rl-data 2 one */" ∷
    codes "static const int one_start = 1;" ∷
    codes "static const int one_first_final = 3;" ∷
    codes "static const int one_error = 0;" ∷
    codes "static const int one_alphabet = 0;" ∷
    codes "static const int one_en_main = 1;" ∷
    codes "static const int _one_actions[] = { 0, 1, 1 };" ∷
    codes "static const int _one_key_offsets[] = { 0, 0, 1, 2 };" ∷
    codes "static const long long _one_trans_keys[] = { 97, 98, 0 };" ∷
    codes "static const int _one_single_lengths[] = { 0, 1, 1, 0 };" ∷
    codes "static const int _one_range_lengths[] = { 0, 0, 0, 0 };" ∷
    codes "static const int _one_cell_offsets[] = { 0, 0, 1, 2 };" ∷
    codes "static const int _one_cell_uses[] = { 0, 1, 0 };" ∷
    codes "static const int _one_cell_asks[] = { 0, 0, 0 };" ∷
    codes "static const int _one_cell_entries[] = { 0, 1, 0 };" ∷
    codes "static const int _one_trans_targs[] = { 2, 3, 0 };" ∷
    codes "static const int _one_trans_lists[] = { 1, 1, 0 };" ∷
    codes "static const int _one_from_lists[] = { 0, 0, 0, 0 };" ∷
    codes "static const int _one_to_lists[] = { 0, 0, 0, 0 };" ∷
    codes "static const int _one_eof_lists[] = { 0, 0, 0, 0 };" ∷
    codes "static const int _one_error_lists[] = { 0, 0, 0, 0 };" ∷
    codes "static const int _one_accept_lists[] = { 0, 0, 0, 0 };" ∷
    codes "static const int _one_state_kinds[] = { 0, 0, 0, 0 };" ∷
    codes "static const int _one_homes[] = { 0, 0, 0, 0 };" ∷
    codes "static const char *const _one_action_names[] = { \"\", \"x\" };" ∷
    codes "static const int _one_stmt_firsts[] = { 0, 1 };" ∷
    codes "static const int _one_stmt_counts[] = { 0, 0 };" ∷
    codes "static const int _one_stmt_kinds[] = { 0 };" ∷
    codes "static const int _one_stmt_outer[] = { 0 };" ∷
    codes "static const int _one_stmt_args[] = { 0 };" ∷
    codes "static const int _one_stmt_bases[] = { 0 };" ∷
    codes "static const char *const _one_cond_names[] = { \"\" };" ∷
    codes "static const char *const _one_entry_names[] = { \"\", \"main\" };" ∷
    codes "static const int _one_entry_states[] = { 0, 1 };" ∷
    codes "/* rl-end one */" ∷
    []
    )
unfolding section_lines digits
section-two = refl

-- on `a` it goes on, with its action; on `b` it does not
pub step-one : (machine one).find 1 (record { 0 = pos 97 }) 0 ≡ Some (record { target = 2; list = 1 ∷ [] })
unfolding machine
step-one = refl

pub no_step-one : (machine one).find 1 (record { 0 = pos 98 }) 0 ≡ None
unfolding machine
no_step-one = refl

pub final-one : (machine one).final 3 ≡ true
unfolding machine
final-one = refl

pub start-one : (machine one).entry 1 ≡ 1
unfolding machine
start-one = refl

-- where keys share cells, the step is the same
pub step-two : (machine two).find 1 (record { 0 = pos 97 }) 0 ≡ Some (record { target = 2; list = 1 ∷ [] })
unfolding machine
step-two = refl
