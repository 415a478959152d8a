-- Codes and texts as they are printed, computed.
use Rattle.std.specs.Prelude.{◌≡◌, true, false, pos, [], ◌∷◌, codes}
use Rattle.rl_arrays.specs.declared.arrays.Arrays.{Arrays}
use Rattle.rl_automata.specs.declared.tree.Tree.{Tree}
use Rattle.rl_model.specs.declared.spec.Root.TheVariants as root
use Rattle.rl_model.specs.declared.spec.Entry.{Entry}
use Rattle.rl_model.specs.declared.spec.Frame.{Frame}
use Rattle.rl_model.specs.declared.spec.Spec.{Spec}
use Rattle.rl_cexec.specs.Code.{written_code}
use Rattle.rl_cexec.specs.Texts.{init_text}

-- without `access` and `variable`
abbrev pub plain : Frame
plain = record { access = []; variables = []; marked = true }

-- with `access fsm->;` and `variable p P;`
abbrev pub renamed : Frame
renamed = record { access = codes "fsm->"; variables = (codes "p", codes "P") ∷ []; marked = true }

-- with the entries `main` and `num`, whose states are 1 and 7
abbrev pub with_entries : Arrays → Arrays
with_entries a = record a { entry_names = [] ∷ codes "main" ∷ codes "num" ∷ []; entry_states = pos 0 ∷ pos 1 ∷ pos 7 ∷ [] }

abbrev pub CharacterIsRead : Type 0
CharacterIsRead = (a : Arrays) → written_code a plain false (codes "{ version = fc - '0'; }") ≡ codes "{ version =  (*p) - '0'; }"

abbrev pub CallPushes : Type 0
CallPushes = (a : Arrays) → written_code (with_entries a) plain false (codes "{ fcall num; }") ≡ codes "{  {stack[top++] = cs; cs = 7; goto _again;} }"

abbrev pub EndLeavesRun : Type 0
EndLeavesRun = (a : Arrays) → written_code (with_entries a) plain true (codes "{ fhold; fgoto num; }") ≡ codes "{  ;  {cs = 7; goto _out;} }"

abbrev pub GoalIsKept : Type 0
GoalIsKept = (a : Arrays) → written_code a plain false (codes "{ fexec p + 5; }") ≡ codes "{  {p = ( p + 5) - 1;} }"

abbrev pub GoalHasValues : Type 0
GoalHasValues = (a : Arrays) → written_code a plain false (codes "{ fexec fpc + f(';'); }") ≡ codes "{  {p = (  p + f(';')) - 1;} }"

abbrev pub TextIsKept : Type 0
TextIsKept = (a : Arrays) → written_code a plain false (codes "{ f(\"fhold;\", 'c'); /* fret; */ xfc(fcx); }") ≡ codes "{ f(\"fhold;\", 'c'); /* fret; */ xfc(fcx); }"

abbrev pub NamesAreReplaced : Type 0
NamesAreReplaced = (a : Arrays) → written_code (with_entries a) renamed false (codes "{ fhold; fnext main; p = cs; }") ≡ codes "{  P--;  fsm->cs = 1; p = cs; }"

abbrev pub EntryIsNumber : Type 0
EntryIsNumber = (a : Arrays) → written_code (with_entries a) plain false (codes "{ x = fentry( num ) + fpc; }") ≡ codes "{ x =  7 +  p; }"

abbrev pub ShortInit : Type 0
ShortInit = (spec : Spec) (e : Entry) (t : Tree) (a : Arrays)
    → init_text (record spec { entries = record e { root = root.Plain t } ∷ [] }) (record a { name = codes "http"; stmt_kinds = pos 0 ∷ pos 7 ∷ [] }) plain
    ≡ codes "\t{\n\tcs = http_start;\n\t}\n"

abbrev pub LongInit : Type 0
LongInit = (spec : Spec) (e : Entry) (a : Arrays)
    → init_text (record spec { entries = record e { root = root.Scanner [] } ∷ [] }) (record a { name = codes "m"; stmt_kinds = pos 0 ∷ pos 5 ∷ [] }) renamed
    ≡ codes "\t{\n\tfsm->cs = m_start;\n\tfsm->top = 0;\n\tfsm->ts = 0; fsm->te = 0; fsm->act = 0;\n\t}\n"
