-- The text of a data section: lines of C, each with its newline.
use Rattle.std.specs.Prelude.{ℕ, Bool, true, false, not, if◌then◌else◌, filter, ℤ, pos, List, [], ◌∷◌, ◌++◌, map, drop, codes}
use Rattle.std.specs.List.{flat_map, zip}
use Rattle.std.specs.Fmt.{signed_decimal}
use Rattle.rl_arrays.specs.declared.arrays.Arrays.{Arrays}
use Rattle.rl_arrays.specs.declared.arrays.ArrayName.{ArrayName}
use Rattle.rl_arrays.specs.declared.arrays.ArrayName.TheVariants as the
use Rattle.rl_arrays.specs.declared.arrays.TheConstants.{ORDER}
use Rattle.rl_arrays.specs.Sizes.{shares}

-- texts with a comma and a blank between them
abbrev pub comma : List ℕ → List ℕ
comma text = codes ", " ++ text

abbrev pub joined : List (List ℕ) → List ℕ
joined [] = []
joined (text ∷ texts) = text ++ flat_map comma texts

-- a name between double quotes
abbrev pub quoted : List ℕ → List ℕ
quoted name = codes "\"" ++ (name ++ codes "\"")

-- an array's name as it is printed
abbrev pub word : ArrayName → List ℕ
word the.Actions = codes "actions"
word the.KeyOffsets = codes "key_offsets"
word the.TransKeys = codes "trans_keys"
word the.SingleLengths = codes "single_lengths"
word the.RangeLengths = codes "range_lengths"
word the.CellOffsets = codes "cell_offsets"
word the.CellUses = codes "cell_uses"
word the.CellAsks = codes "cell_asks"
word the.CellEntries = codes "cell_entries"
word the.TransTargs = codes "trans_targs"
word the.TransLists = codes "trans_lists"
word the.FromLists = codes "from_lists"
word the.ToLists = codes "to_lists"
word the.EofLists = codes "eof_lists"
word the.ErrorLists = codes "error_lists"
word the.AcceptLists = codes "accept_lists"
word the.StateKinds = codes "state_kinds"
word the.Homes = codes "homes"
word the.ActionNames = codes "action_names"
word the.StmtFirsts = codes "stmt_firsts"
word the.StmtCounts = codes "stmt_counts"
word the.StmtKinds = codes "stmt_kinds"
word the.StmtOuter = codes "stmt_outer"
word the.StmtArgs = codes "stmt_args"
word the.StmtBases = codes "stmt_bases"
word the.CondNames = codes "cond_names"
word the.EntryNames = codes "entry_names"
word the.EntryStates = codes "entry_states"

-- its C type
abbrev pub ctype : ArrayName → List ℕ
ctype the.Actions = codes "const int"
ctype the.KeyOffsets = codes "const int"
ctype the.TransKeys = codes "const long long"
ctype the.SingleLengths = codes "const int"
ctype the.RangeLengths = codes "const int"
ctype the.CellOffsets = codes "const int"
ctype the.CellUses = codes "const int"
ctype the.CellAsks = codes "const int"
ctype the.CellEntries = codes "const int"
ctype the.TransTargs = codes "const int"
ctype the.TransLists = codes "const int"
ctype the.FromLists = codes "const int"
ctype the.ToLists = codes "const int"
ctype the.EofLists = codes "const int"
ctype the.ErrorLists = codes "const int"
ctype the.AcceptLists = codes "const int"
ctype the.StateKinds = codes "const int"
ctype the.Homes = codes "const int"
ctype the.ActionNames = codes "const char *const"
ctype the.StmtFirsts = codes "const int"
ctype the.StmtCounts = codes "const int"
ctype the.StmtKinds = codes "const int"
ctype the.StmtOuter = codes "const int"
ctype the.StmtArgs = codes "const int"
ctype the.StmtBases = codes "const int"
ctype the.CondNames = codes "const char *const"
ctype the.EntryNames = codes "const char *const"
ctype the.EntryStates = codes "const int"

-- the texts of its elements
abbrev pub elements : Arrays → ArrayName → List (List ℕ)
elements a the.Actions = map signed_decimal a.actions
elements a the.KeyOffsets = map signed_decimal a.key_offsets
elements a the.TransKeys = map signed_decimal a.trans_keys
elements a the.SingleLengths = map signed_decimal a.single_lengths
elements a the.RangeLengths = map signed_decimal a.range_lengths
elements a the.CellOffsets = map signed_decimal a.cell_offsets
elements a the.CellUses = map signed_decimal a.cell_uses
elements a the.CellAsks = map signed_decimal a.cell_asks
elements a the.CellEntries = map signed_decimal a.cell_entries
elements a the.TransTargs = map signed_decimal a.trans_targs
elements a the.TransLists = map signed_decimal a.trans_lists
elements a the.FromLists = map signed_decimal a.from_lists
elements a the.ToLists = map signed_decimal a.to_lists
elements a the.EofLists = map signed_decimal a.eof_lists
elements a the.ErrorLists = map signed_decimal a.error_lists
elements a the.AcceptLists = map signed_decimal a.accept_lists
elements a the.StateKinds = map signed_decimal a.state_kinds
elements a the.Homes = map signed_decimal a.homes
elements a the.ActionNames = map quoted a.action_names
elements a the.StmtFirsts = map signed_decimal a.stmt_firsts
elements a the.StmtCounts = map signed_decimal a.stmt_counts
elements a the.StmtKinds = map signed_decimal a.stmt_kinds
elements a the.StmtOuter = map signed_decimal a.stmt_outer
elements a the.StmtArgs = map signed_decimal a.stmt_args
elements a the.StmtBases = map signed_decimal a.stmt_bases
elements a the.CondNames = map quoted a.cond_names
elements a the.EntryNames = map quoted a.entry_names
elements a the.EntryStates = map signed_decimal a.entry_states

-- the version, as it is printed
abbrev pub version_word : Arrays → List ℕ
version_word a = if shares a then codes "2" else codes "1"

abbrev pub first_line : List ℕ → List ℕ → List ℕ
first_line version name = codes "/* rl-data " ++ (version ++ (codes " " ++ (name ++ codes " */")))

abbrev pub last_line : List ℕ → List ℕ
last_line name = codes "/* rl-end " ++ (name ++ codes " */")

-- the line of a number, and what stands before and behind the number
abbrev pub number_front : List ℕ → List ℕ → List ℕ
number_front name label = codes "static const int " ++ (name ++ (codes "_" ++ (label ++ codes " = ")))

abbrev pub number_back : List ℕ
number_back = codes ";"

abbrev pub number_line : List ℕ → List ℕ → ℤ → List ℕ
number_line name label n = number_front name label ++ (signed_decimal n ++ number_back)

-- the line of an entry
abbrev pub entry_line : List ℕ → List ℕ × ℤ → List ℕ
entry_line name entry = number_line name (codes "en_" ++ entry.0) entry.1

-- the line of an array, and what stands before and behind its elements
abbrev pub array_front : List ℕ → ArrayName → List ℕ
array_front name array = codes "static " ++ (ctype array ++ (codes " _" ++ (name ++ (codes "_" ++ (word array ++ codes "[] = { ")))))

abbrev pub array_back : List ℕ
array_back = codes " };"

abbrev pub array_line : List ℕ → ArrayName → List (List ℕ) → List ℕ
array_line name array texts = array_front name array ++ (joined texts ++ array_back)

-- the entries, with the numbers of their states
abbrev pub entries : Arrays → List (List ℕ × ℤ)
entries a = zip (drop 1 a.entry_names) (drop 1 a.entry_states)

abbrev pub head_lines : Arrays → List (List ℕ)
head_lines a =
    first_line (version_word a) a.name
    ∷ number_line a.name (codes "start") a.start
    ∷ number_line a.name (codes "first_final") a.first_final
    ∷ number_line a.name (codes "error") (pos 0)
    ∷ number_line a.name (codes "alphabet") a.alphabet
    ∷ []

-- it is the array of uses
abbrev pub is_uses : ArrayName → Bool
is_uses the.CellUses = true
is_uses _ = false

-- the arrays that are printed: version 1 has no uses
abbrev pub printed : Bool → List ArrayName
printed true = ORDER
printed false = filter (λ array. not (is_uses array)) ORDER

-- the lines of a section, without their newlines
unfoldable pub section_lines : Arrays → List (List ℕ)
section_lines a =
    head_lines a ++ (map (entry_line a.name) (entries a) ++ (map (λ array. array_line a.name array (elements a array)) (printed (shares a)) ++ (last_line a.name ∷ [])))

abbrev pub line_text : List ℕ → List ℕ
line_text line = line ++ (10 ∷ [])

-- its text
abbrev pub section : Arrays → List ℕ
section a = flat_map line_text (section_lines a)
