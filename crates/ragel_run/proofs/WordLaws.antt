-- The number of lines that words say is one of those that can be made.
use Rattle.std.proofs.Common.{◌≡◌, ◌≤◌, ℕ, Bool, true, false, ◌&&◌, not, List, [], ◌∷◌, Option, Some, None, is_some, IfSome, option_map, option_and_then, nat_le, decimal, refl, subst, leb-true, if◌then◌else◌}
use Rattle.std.specs.Bool.{then_some}
use Rattle.std.specs.Str.{bytes_eq}
use Rattle.rl_run.specs.declared.sessions.Settings.{Settings}
use Rattle.rl_replay.specs.Script.{number_of, value_of}
use Rattle.clap.specs.Words.{Text, Kinds, fault_of, matches_of}
use Rattle.rl_words.specs.Commands.{replayer}
use Rattle.rl_words.specs.Given.{Given, given_in}
use Rattle.rl_words.specs.Runs as words
use Rattle.rl_words.specs.Runs.{Run, form, run_given, run_matched, run_of, has_no_settings, is_printed, settings_of}
use Rattle.ragel_run.specs.Made.{IsCounted}

-- a number is one of those from low to high
if_within : (low high n : ℕ) (spelled least most : Bool) → (least ≡ true → low ≤ n) → (most ≡ true → n ≤ high) → IfSome (then_some (spelled && least && most) n) (λ x. (low ≤ x) × (x ≤ high))
if_within low high n true true true f g = (f refl, g refl)
if_within low high n true true false f g = tt
if_within low high n true false most f g = tt
if_within low high n false least most f g = tt

number_within : (low high : ℕ) (word : List ℕ) → IfSome (number_of low high word) (λ x. (low ≤ x) × (x ≤ high))
number_within low high word =
    let n = value_of word in
    if_within low high n (bytes_eq (decimal n) word) (nat_le low n) (nat_le n high) (leb-true low n) (leb-true n high)

lines_counted : (o : Option ℕ) (spec : Text) → IfSome o (λ n. (1 ≤ n) × (n ≤ 1000000)) → IfSome (option_map (λ n. words.Make n spec) o) IsCounted
lines_counted (Some n) spec p = p
lines_counted None spec p = tt

made_counted : (b : Bool) (spec lines : Text) → IfSome (if b then option_map (λ n. words.Make n spec) (number_of 1 1000000 lines) else None) IsCounted
made_counted true spec lines = lines_counted (number_of 1 1000000 lines) spec (number_within 1 1000000 lines)
made_counted false spec lines = tt

streamed : (b : Bool) (spec entry : Text) → IfSome (if b then Some (words.Stream spec entry) else None) IsCounted
streamed true spec entry = tt
streamed false spec entry = tt

renewed : (b : Bool) (machine : Option Text) (out spec : Text) → IfSome (if b then Some (words.Upgrade machine out spec) else None) IsCounted
renewed true machine out spec = tt
renewed false machine out spec = tt

replayed : (o : Option Settings) (machine : Option Text) (spec script : Text) → IfSome (option_map (λ settings. words.Replay machine settings spec script) o) IsCounted
replayed (Some settings) machine spec script = tt
replayed None machine spec script = tt

form_counted : (g : Given) (input make upgrade spec script : Option Text) → IfSome (form g input make upgrade spec script) IsCounted
form_counted g None None None None None = tt
form_counted g None None None None (Some script) = tt
form_counted g None None None (Some spec) None = tt
form_counted g None None None (Some spec) (Some script) = replayed (settings_of g) g.machine spec script
form_counted g None None (Some out) None None = tt
form_counted g None None (Some out) None (Some script) = tt
form_counted g None None (Some out) (Some spec) None = renewed (has_no_settings g && is_printed spec) g.machine out spec
form_counted g None None (Some out) (Some spec) (Some script) = tt
form_counted g None (Some lines) None None None = tt
form_counted g None (Some lines) None None (Some script) = tt
form_counted g None (Some lines) None (Some spec) None = made_counted (has_no_settings g && not (is_some g.machine)) spec lines
form_counted g None (Some lines) None (Some spec) (Some script) = tt
form_counted g None (Some lines) (Some out) None None = tt
form_counted g None (Some lines) (Some out) None (Some script) = tt
form_counted g None (Some lines) (Some out) (Some spec) None = tt
form_counted g None (Some lines) (Some out) (Some spec) (Some script) = tt
form_counted g (Some entry) None None None None = tt
form_counted g (Some entry) None None None (Some script) = tt
form_counted g (Some entry) None None (Some spec) None = streamed (has_no_settings g && not (is_some g.machine)) spec entry
form_counted g (Some entry) None None (Some spec) (Some script) = tt
form_counted g (Some entry) None (Some out) None None = tt
form_counted g (Some entry) None (Some out) None (Some script) = tt
form_counted g (Some entry) None (Some out) (Some spec) None = tt
form_counted g (Some entry) None (Some out) (Some spec) (Some script) = tt
form_counted g (Some entry) (Some lines) None None None = tt
form_counted g (Some entry) (Some lines) None None (Some script) = tt
form_counted g (Some entry) (Some lines) None (Some spec) None = tt
form_counted g (Some entry) (Some lines) None (Some spec) (Some script) = tt
form_counted g (Some entry) (Some lines) (Some out) None None = tt
form_counted g (Some entry) (Some lines) (Some out) None (Some script) = tt
form_counted g (Some entry) (Some lines) (Some out) (Some spec) None = tt
form_counted g (Some entry) (Some lines) (Some out) (Some spec) (Some script) = tt

matched_counted : (kinds : Kinds) (g : Given) → IfSome (run_matched kinds g) IsCounted
matched_counted [] g = form_counted g g.input g.make g.upgrade g.spec g.script
matched_counted (k ∷ ks) g = tt

-- what words say
pub is_counted : (said : List Text) (r : Run) → run_of said ≡ Some r → IsCounted r
is_counted said r e = subst (λ o. IfSome o IsCounted) e (matched_counted (fault_of replayer said) (given_in (matches_of replayer said)))
