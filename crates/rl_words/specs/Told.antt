-- What the code holds, as plain values.
use Rattle.std.specs.Prelude.{◌≡◌, ◌≢◌, List, [], ℕ, map, Option, None, option_map, Result, Ok, Err}
use denote.Ref.{Bor}
use Rattle.clap.specs.Words.{App, Text, Kinds, fault_of, found_of, matches_of, rows_of}
use Rattle.clap.specs.declared.parser.matches.ArgMatches.{ArgMatches}
use Rattle.rl_words.specs.declared.given.Given as code
use Rattle.rl_words.specs.declared.replays.RunWords.{RunWords}
use Rattle.rl_words.specs.declared.replays.RunWords.TheVariants as code_run
use Rattle.rl_words.specs.declared.fault.WordsFault.{WordsFault}
use Rattle.rl_words.specs.declared.fault.WordsFault.TheVariants as fault
use Rattle.rl_words.specs.Given as said
use Rattle.rl_words.specs.Runs as run
use Rattle.rl_words.specs.Compiles as compile
use Rattle.rl_words.specs.declared.compiles.CompileWords.{CompileWords}

abbrev pub text_in : Option (Bor Text) → Option Text
text_in o = option_map (λ t. t.now) o

abbrev pub texts : List (Bor Text) → List Text
texts words = map (λ w. w.now) words

abbrev pub given_told : code.Given → said.Given
given_told g = record {
  machine = text_in g.machine;
  stack = text_in g.stack;
  look = text_in g.look;
  token = text_in g.token;
  input = text_in g.input;
  make = text_in g.make;
  upgrade = text_in g.upgrade;
  spec = text_in g.spec;
  script = text_in g.script;
}

abbrev pub run_told : RunWords → run.Run
run_told (code_run.Replay r) = run.Replay (text_in r.machine) r.settings r.spec.now r.script.now
run_told (code_run.Stream spec entry) = run.Stream spec.now entry.now
run_told (code_run.Make lines spec) = run.Make lines spec.now
run_told (code_run.Upgrade machine out spec) = run.Upgrade (text_in machine) out.now spec.now

abbrev pub compile_told : CompileWords → compile.Compile
compile_told c = record { spec = c.spec.now; out = text_in c.out; marked = c.marked; certify = c.certify }

-- the fault is `Usage` only where the parser of command lines does not take the words
abbrev pub IsNotTaken : Kinds → WordsFault → Type 0
IsNotTaken kinds fault.Usage = kinds ≢ []
IsNotTaken kinds fault.Memory = Unit {0}

-- the matches of a command line, or why there are none
abbrev pub IsMatched : App → List Text → Result ArgMatches WordsFault → Type 0
IsMatched a words (Ok m) = (fault_of a words ≡ []) × (rows_of (found_of m) ≡ matches_of a words)
IsMatched a words (Err e) = IsNotTaken (fault_of a words) e

-- the fault is `Usage` only where the words say nothing
abbrev pub RefusesWords : {X : Type 0} → Option X → WordsFault → Type 0
RefusesWords {X} said fault.Usage = said ≡ None
RefusesWords {X} said fault.Memory = Unit {0}
