-- What the words of `ragel-run` say (this profile).
use Rattle.std.specs.Prelude.{◌≡◌, ℕ, Bool, true, false, ◌&&◌, ◌||◌, ◌==◌, not, List, [], ◌∷◌, Option, Some, None, is_some, option_map, option_and_then, codes, if◌then◌else◌}
use Rattle.std.specs.List.{ends_with}
use Rattle.clap.specs.Words.{Text, Kinds, fault_of, matches_of}
use Rattle.rl_run.specs.declared.sessions.Settings.{Settings}
use Rattle.rl_replay.specs.Script.{number_of}
use Rattle.rl_words.specs.Commands.{replayer}
use Rattle.rl_words.specs.Given.{Given, given_in}

-- what `ragel-run` is to do
pub data Run : Type 0 where
  -- a script over the machine of this name, or the first, of a file: machine, settings, file, script
  Replay : Option Text → Settings → Text → Text → Run
  -- the standard input from an entry on: file, entry
  Stream : Text → Text → Run
  -- an input of so many lines that is made: lines, file
  Make : ℕ → Text → Run
  -- the section of this name, or the first, of a printed file goes in version 2 to another file: machine, new file, file
  Upgrade : Option Text → Text → Text → Run

-- ---- numbers

-- the number of an option, which is from low to high, or what it is without the option
abbrev pub number_or : ℕ → ℕ → ℕ → Option Text → Option ℕ
number_or low high without None = Some without
number_or low high without (Some text) = number_of low high text

abbrev pub settings_of : Given → Option Settings
settings_of g =
    option_and_then (λ stack. option_and_then (λ look. option_map (λ token. record { stack = stack; look = look; token_max = token })
    (number_or 1 1048576 65536 g.token)) (number_or 1 4096 8 g.look)) (number_or 0 1024 64 g.stack)

-- no setting is given
abbrev pub has_no_settings : Given → Bool
has_no_settings g = not (is_some g.stack || is_some g.look || is_some g.token)

-- ---- the four forms

-- a printed file is one whose name ends in `.c`
abbrev pub is_printed : Text → Bool
is_printed name = ends_with (λ a b. a == b) name (codes ".c")

-- `[--machine NAME] [--stack N] [--look N] [--token N] SPEC SCRIPT`
abbrev pub replay : Given → Text → Text → Option Run
replay g spec script = option_map (λ settings. Replay g.machine settings spec script) (settings_of g)

-- `SPEC --input ENTRY`
abbrev pub stream : Given → Text → Text → Option Run
stream g spec entry = if has_no_settings g && not (is_some g.machine) then Some (Stream spec entry) else None

-- `--make N SPEC`
abbrev pub make : Given → Text → Text → Option Run
make g spec lines = if has_no_settings g && not (is_some g.machine) then option_map (λ n. Make n spec) (number_of 1 1000000 lines) else None

-- `[--machine NAME] --upgrade OUT SPEC.c`
abbrev pub upgrade : Given → Text → Text → Option Run
upgrade g spec out = if has_no_settings g && is_printed spec then Some (Upgrade g.machine out spec) else None

-- the form that the words have, by the options that tell the forms apart
abbrev pub form : Given → Option Text → Option Text → Option Text → Option Text → Option Text → Option Run
form g None None None (Some spec) (Some script) = replay g spec script
form g (Some entry) None None (Some spec) None = stream g spec entry
form g None (Some lines) None (Some spec) None = make g spec lines
form g None None (Some out) (Some spec) None = upgrade g spec out
form g _ _ _ _ _ = None

abbrev pub run_given : Given → Option Run
run_given g = form g g.input g.make g.upgrade g.spec g.script

-- what they say where the parser of command lines takes them
abbrev pub run_matched : Kinds → Given → Option Run
run_matched [] g = run_given g
run_matched (k ∷ ks) g = None

-- what the words behind the program's name say, if they have one of the forms
abbrev pub run_of : List Text → Option Run
run_of words = run_matched (fault_of replayer words) (given_in (matches_of replayer words))
