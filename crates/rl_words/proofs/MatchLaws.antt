-- What is matched, by the entries of the matches; and what the words say by that.
use Rattle.std.proofs.Common.{◌≡◌, codes, List, [], ◌∷◌, Option, Some, None, Result, Ok, Err, true, false, refl, sym, ap, ap₂, subst, ◌∙◌}
use Rattle.clap.specs.Words.{App, HasMatchesOf, Kinds, Row, Text, fault_of, found_of, first_of, first_value, is_simple, is_simple_and_free, matches_of, rows_of}
use Rattle.clap.specs.declared.parser.matches.ArgMatches.{ArgMatches}
use Rattle.clap.specs.declared.parser.matches.Found.{Found}
use Rattle.clap.proofs.OnLiterals.{clap_on_literals}
use Rattle.clap.proofs.WalkLemmas.{first_value-rows, both}
use Rattle.rl_words.specs.declared.fault.WordsFault.{WordsFault}
use Rattle.rl_words.specs.declared.fault.WordsFault.TheVariants as fault
use Rattle.rl_words.specs.Commands.{replayer, compiler}
use Rattle.rl_words.specs.Given.{Given, given_in}
use Rattle.rl_words.specs.Runs.{Run, run_given, run_matched, run_of}
use Rattle.rl_words.specs.Compiles.{Compile, compile_given, compile_matched, compile_of}
use Rattle.rl_words.specs.Told.{IsMatched, IsNotTaken, RefusesWords}

pub first_matched : (f : Found) (id : Text) → first_value f id ≡ first_of id (rows_of f)
first_matched f id = first_value-rows f id

pub rows_matched : (a : App) (words : List Text) (m : ArgMatches) → is_simple_and_free a ≡ true → HasMatchesOf a words m → rows_of (found_of m) ≡ matches_of a words
rows_matched a words m s h = (h (both (is_simple a) _ s).0).0

-- ---- the two command lines are such whose matches are known

replayer_known : is_simple_and_free replayer ≡ true
unfolding clap_on_literals
replayer_known = refl

compiler_known : is_simple_and_free compiler ≡ true
unfolding clap_on_literals
compiler_known = refl

known : (a b : App) (words : List Text) (r : Result ArgMatches WordsFault) → a ≡ b → is_simple_and_free b ≡ true → (is_simple_and_free a ≡ true → IsMatched a words r) → IsMatched b words r
known a b words r e k h = subst (λ x. is_simple_and_free x ≡ true → IsMatched x words r) e h k

-- ---- `ragel-run`

pub run_said : (a : App) (words : List Text) (m : ArgMatches) (said : Option Run) → a ≡ replayer → (is_simple_and_free a ≡ true → IsMatched a words (Ok m))
    → run_given (given_in (rows_of (found_of m))) ≡ said → run_of words ≡ said
run_said a words m said e h g =
    let k = known a replayer words (Ok m) e replayer_known h in
    ap₂ run_matched k.0 (ap given_in (sym k.1)) ∙ g

run_missed : (kinds : Kinds) (g : Given) (e : WordsFault) → IsNotTaken kinds e → RefusesWords (run_matched kinds g) e
run_missed [] g fault.Usage h = absurd (h refl)
run_missed (k ∷ ks) g fault.Usage h = refl
run_missed kinds g fault.Memory h = tt

pub run_refused : (a : App) (words : List Text) (f : WordsFault) → a ≡ replayer → (is_simple_and_free a ≡ true → IsMatched a words (Err f)) → RefusesWords (run_of words) f
run_refused a words f e h = run_missed (fault_of replayer words) (given_in (matches_of replayer words)) f (known a replayer words (Err f) e replayer_known h)

-- ---- `ragel`

abbrev compile_in : List Row → Option Compile
compile_in rows = compile_given rows (first_of (codes "spec") rows)

pub compile_said : (a : App) (words : List Text) (m : ArgMatches) (said : Option Compile) → a ≡ compiler → (is_simple_and_free a ≡ true → IsMatched a words (Ok m))
    → compile_in (rows_of (found_of m)) ≡ said → compile_of words ≡ said
compile_said a words m said e h g =
    let k = known a compiler words (Ok m) e compiler_known h in
    ap₂ compile_matched k.0 (sym k.1) ∙ g

compile_missed : (kinds : Kinds) (rows : List Row) (e : WordsFault) → IsNotTaken kinds e → RefusesWords (compile_matched kinds rows) e
compile_missed [] rows fault.Usage h = absurd (h refl)
compile_missed (k ∷ ks) rows fault.Usage h = refl
compile_missed kinds rows fault.Memory h = tt

pub compile_refused : (a : App) (words : List Text) (f : WordsFault) → a ≡ compiler → (is_simple_and_free a ≡ true → IsMatched a words (Err f)) → RefusesWords (compile_of words) f
compile_refused a words f e h = compile_missed (fault_of compiler words) (matches_of compiler words) f (known a compiler words (Err f) e compiler_known h)
