-- The command lines of the programs, as the parser of command lines is told them.
use Rattle.std.specs.Prelude.{ℕ, List, [], ◌∷◌, ◌++◌, Some, true, codes}
use Rattle.clap.specs.Words.{App, Rule, Shape, Text, new_app, new_rule, with_rule}
use Rattle.clap.specs.declared.builder.action.ArgAction.TheVariants.{Set, SetTrue}

-- `--NAME VALUE`, where the name is also its id
abbrev pub option : Text → Rule
option name = record (new_rule name) { long = Some name; action = Some Set }

-- `-X VALUE`
abbrev pub letter_option : Text → ℕ → Rule
letter_option id letter = record (new_rule id) { short = Some letter; action = Some Set }

-- `-X`
abbrev pub letter_flag : Text → ℕ → Rule
letter_flag id letter = record (new_rule id) { short = Some letter; action = Some SetTrue }

-- `--NAME`
abbrev pub flag : Text → Rule
flag name = record (new_rule name) { long = Some name; action = Some SetTrue }

-- a word that is no option
abbrev pub word : Text → Rule
word name = record (new_rule name) { action = Some Set }

-- a command without a name of its own
abbrev pub nameless : Text → App
nameless name = record { top = record (new_app name).top { no_binary_name = true }; subs = [] }

abbrev pub with_rules : App → List Rule → App
with_rules a [] = a
with_rules a (r ∷ rs) = with_rules (with_rule a r) rs

-- ---- `ragel-run`

-- the machine's name and the settings
abbrev pub settings : List Rule
settings = option (codes "machine") ∷ option (codes "stack") ∷ option (codes "look") ∷ option (codes "token") ∷ []

-- the options that tell the forms apart
abbrev pub forms : List Rule
forms = option (codes "input") ∷ option (codes "make") ∷ option (codes "upgrade") ∷ []

-- the names of files
abbrev pub files : List Rule
files = word (codes "spec") ∷ word (codes "script") ∷ []

abbrev pub replayer : App
replayer = with_rules (with_rules (with_rules (nameless (codes "ragel-run")) settings) forms) files

-- ---- `ragel`

-- `-C`, `-m`, `-l` and `-e`, which change nothing, and `-L`
abbrev pub letters : List Rule
letters =
    letter_flag (codes "C") 67 ∷ letter_flag (codes "m") 109 ∷ letter_flag (codes "l") 108 ∷ letter_flag (codes "e") 101
    ∷ letter_flag (codes "L") 76 ∷ []

-- `-T`, `-o` and `--certify`, and the name of the source
abbrev pub outputs : List Rule
outputs = letter_option (codes "T") 84 ∷ letter_option (codes "o") 111 ∷ flag (codes "certify") ∷ word (codes "spec") ∷ []

abbrev pub compiler : App
compiler = with_rules (with_rules (nameless (codes "ragel")) letters) outputs
