-- The lines of the texts that set a session to its start and that run a machine. In them N is the machine's name, and the names of
-- variables stand for the texts of the source (this profile).
use Rattle.std.specs.Prelude.{ℕ, List, [], ◌∷◌, codes}
use Rattle.rl_cexec.specs.declared.line.Switch.{Switch}
use Rattle.rl_cexec.specs.declared.line.Switch.TheVariants as sw

-- a line, and when it stands: always, if an action calls or returns, if the machine has a scanner, if the end of the input does
-- something; and in their places the lines of all conditions and the cases of a switch
pub data Line : Type 0 where
  Always : List ℕ → Line
  IfCalls : List ℕ → Line
  IfScanner : List ℕ → Line
  IfEnding : List ℕ → Line
  EachCondition : Line
  Cases : Switch → Line

abbrev pub init_lines : List Line
init_lines =
    Always (codes "\t{")
    ∷ Always (codes "\tcs = N_start;")
    ∷ IfCalls (codes "\ttop = 0;")
    ∷ IfScanner (codes "\tts = 0; te = 0; act = 0;")
    ∷ Always (codes "\t}")
    ∷ []

abbrev pub exec_lines : List Line
exec_lines =
    Always (codes "\t{")
    ∷ Always (codes "\tconst int *_a;")
    ∷ Always (codes "\tint _n, _i, _f, _e, _b;")
    ∷ Always (codes "\tlong long _k;")
    ∷ Always (codes "_resume:")
    ∷ Always (codes "\tif ( cs == 0 ) goto _out;")
    ∷ Always (codes "\tif ( p >= pe ) goto _test_eof;")
    ∷ IfScanner (codes "\tif ( _N_state_kinds[cs] == 1 ) { ts = p; te = 0; act = 0; }")
    ∷ Always (codes "\t_k = (*p);")
    ∷ Always (codes "\t_a = _N_actions + _N_from_lists[cs];")
    ∷ Always (codes "\tfor ( _n = *_a++; _n > 0; _n-- ) { switch ( *_a++ ) {")
    ∷ Cases sw.From
    ∷ Always (codes "\t} }")
    ∷ Always (codes "\t_f = -1;")
    ∷ Always (codes "\t_b = 1;")
    ∷ Always (codes "\t_i = _N_key_offsets[cs];")
    ∷ Always (codes "\t_e = _N_cell_offsets[cs];")
    ∷ Always (codes "\tfor ( _n = _N_single_lengths[cs]; _n > 0; _n-- ) {")
    ∷ Always (codes "\t\tif ( _N_trans_keys[_i] == _k ) _f = _N_cell_uses[_e];")
    ∷ Always (codes "\t\t_i += 1; _e += 1;")
    ∷ Always (codes "\t}")
    ∷ Always (codes "\tfor ( _n = _N_range_lengths[cs]; _n > 0; _n-- ) {")
    ∷ Always (codes "\t\tif ( _N_trans_keys[_i] <= _k && _k <= _N_trans_keys[_i+1] ) _f = _N_cell_uses[_e];")
    ∷ Always (codes "\t\t_i += 2; _e += 1;")
    ∷ Always (codes "\t}")
    ∷ Always (codes "\tif ( _f >= 0 ) {")
    ∷ Always (codes "\t\t_e = _N_cell_entries[_f];")
    ∷ EachCondition
    ∷ Always (codes "\t\tif ( _N_trans_targs[_e] == 0 ) _f = -1;")
    ∷ Always (codes "\t}")
    ∷ Always (codes "\tif ( _f < 0 ) {")
    ∷ IfScanner (codes "\t\tif ( _N_state_kinds[cs] >= 2 && te != 0 ) goto _deliver;")
    ∷ Always (codes "\t\t_a = _N_actions + _N_error_lists[cs];")
    ∷ Always (codes "\t\tcs = 0;")
    ∷ Always (codes "\t} else {")
    ∷ Always (codes "\t\tcs = _N_trans_targs[_e];")
    ∷ Always (codes "\t\t_a = _N_actions + _N_trans_lists[_e];")
    ∷ Always (codes "\t}")
    ∷ Always (codes "\tfor ( _n = *_a++; _n > 0; _n-- ) { switch ( *_a++ ) {")
    ∷ Cases sw.Do
    ∷ Always (codes "\t} }")
    ∷ IfScanner (codes "\tif ( _N_state_kinds[cs] >= 3 ) { te = p + 1; act = _N_accept_lists[cs]; }")
    ∷ IfScanner (codes "\tif ( _N_state_kinds[cs] != 4 ) goto _again;")
    ∷ IfScanner (codes "_deliver:")
    ∷ IfScanner (codes "\t_a = _N_actions + act;")
    ∷ IfScanner (codes "\tcs = _N_homes[cs];")
    ∷ IfScanner (codes "\tp = te - 1;")
    ∷ IfScanner (codes "\tfor ( _n = *_a++; _n > 0; _n-- ) { switch ( *_a++ ) {")
    ∷ Cases sw.Token
    ∷ IfScanner (codes "\t} }")
    ∷ Always (codes "_again:")
    ∷ Always (codes "\t_a = _N_actions + _N_to_lists[cs];")
    ∷ Always (codes "\tfor ( _n = *_a++; _n > 0; _n-- ) { switch ( *_a++ ) {")
    ∷ Cases sw.To
    ∷ Always (codes "\t} }")
    ∷ Always (codes "\tif ( cs == 0 ) goto _out;")
    ∷ Always (codes "\tp++;")
    ∷ Always (codes "\tgoto _resume;")
    ∷ Always (codes "_test_eof: ;")
    ∷ IfEnding (codes "\tif ( p == eof ) {")
    ∷ IfScanner (codes "\t\tif ( _N_state_kinds[cs] >= 2 && te != 0 ) goto _deliver;")
    ∷ IfEnding (codes "\t\t_a = _N_actions + _N_eof_lists[cs];")
    ∷ IfEnding (codes "\t\tfor ( _n = *_a++; _n > 0; _n-- ) { switch ( *_a++ ) {")
    ∷ Cases sw.End
    ∷ IfEnding (codes "\t\t} }")
    ∷ IfEnding (codes "\t}")
    ∷ Always (codes "_out: ;")
    ∷ Always (codes "\t}")
    ∷ []
