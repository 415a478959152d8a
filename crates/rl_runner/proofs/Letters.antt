-- The characters of a window.
use Rattle.std.proofs.Common.{◌≡◌, ℕ, ◌+◌, ◌-◌, ◌*◌, ◌<◌, ◌≤◌, ◌^◌, suc, Bool, true, false, List, length, Some, None, refl, sym, ◌∙◌, ap, subst, arith, nat_lt}
use Rattle.std.specs.Prelude.{◌/◌, slice_get}
use Rattle.std.proofs.lemmas.Bool.Decides.{nat_tests}
use Rattle.std.proofs.Math.Nat.{mul-div-le, mul-le-mul_right}
use Rattle.rl_types.specs.Alphabet.{characters, group_at, has_rest}
use Rattle.rl_types.proofs.Characters.{character_here, no_character, length-characters, within_whole}
use Rattle.rl_run.specs.declared.calls.Answer.{Answer}
use Rattle.rl_run.specs.declared.calls.Call.{Call}
use Rattle.rl_run.specs.declared.calls.Outcome.TheVariants.{Stopped}
use Rattle.rl_run.specs.declared.calls.Stop.TheVariants.{HalfKey}
use Rattle.rl_run.specs.declared.sessions.Settings.{Settings}
use Rattle.rl_run.specs.Machine.{Machine, Session}
use Rattle.rl_run.specs.Play.{Plays}
use Rattle.rl_run.specs.Chain.{Played, run_on}
use Rattle.rl_run.specs.Run.{Rest, rest, letter, ending, end_of, input_at, turns}
use Rattle.rl_run.proofs.Runs.{plays_ending, plays_half}
use Rattle.rl_runner.specs.Feeds.{closed_of}

-- the character at a position that is seen
pub letter_here : (width base : ℕ) (bytes : List ℕ) (is_closed : Bool) (p at : ℕ) → base ≤ p → p < base + length bytes / width → at ≡ width * (p - base) →
    letter (input_at width base bytes is_closed) p ≡ Some (group_at width bytes at)
letter_here width base bytes is_closed p at low high e =
    let no : nat_lt p base ≡ false = grind (arith, nat_tests) in
    rw no (subst (λ n. slice_get (characters width bytes) (p - base) ≡ Some (group_at width bytes n)) (sym e)
    (character_here width bytes (p - base) (omega arith)))

-- there is none behind the last whole one
pub letter_past : (width base : ℕ) (bytes : List ℕ) (is_closed : Bool) (p : ℕ) → base + length bytes / width ≤ p →
    letter (input_at width base bytes is_closed) p ≡ None
letter_past width base bytes is_closed p high =
    let no : nat_lt p base ≡ false = grind (arith, nat_tests) in
    rw no (no_character width bytes (p - base) (omega arith))

pub end_is : (width base : ℕ) (bytes : List ℕ) (is_closed : Bool) → end_of (input_at width base bytes is_closed) ≡ base + length bytes / width
end_is width base bytes is_closed = ap (λ n. base + n) (length-characters width bytes)

-- there are no more characters than bytes
pub end_below : (width base n : ℕ) → 0 < width → width * base + n < 2 ^ 63 → base + n / width < 2 ^ 63
end_below width base n some h =
    let one : 1 * (base + n / width) ≤ width * (base + n / width) = mul-le-mul_right (base + n / width) (omega arith) in
    let whole : width * (n / width) ≤ n = mul-div-le n width in
    omega arith

pub limit : (width base : ℕ) (bytes : List ℕ) (is_closed : Bool) → 0 < width → width * base + length bytes < 2 ^ 63 →
    end_of (input_at width base bytes is_closed) < 2 ^ 63
limit width base bytes is_closed some h = subst (λ n. n < 2 ^ 63) (sym (end_is width base bytes is_closed)) (end_below width base (length bytes) some h)

-- all bytes of a character before the end are there
pub place_within : (width base n p : ℕ) → base ≤ p → p < base + n / width → width * (p - base) + width ≤ n
place_within width base n p low high = within_whole width n (p - base) (omega arith)

module _ {S H : Type 0} (step : H → Call → Answer → H → Type 0) (m : Machine S) (settings : Settings) (width base : ℕ) (bytes : List ℕ) where
  -- the end of an input whose bytes are whole characters
  pub ends_whole : (b : Bool) (n at : ℕ) (s : Session S) (h last : H) (r : Rest S) → base + length bytes / width ≤ s.next → has_rest width bytes ≡ false →
      at ≡ base + length bytes / width →
      Plays step h (ending b m settings at s (λ t. turns b m settings (closed_of width base bytes) n t)) last r →
      Plays step h (turns b m settings (closed_of width base bytes) (suc n) s) last r
  ends_whole b n at s h last r past none e p =
      plays_ending step m settings (closed_of width base bytes) b n s h last r (letter_past width base bytes true s.next past) refl none
      (subst (λ q. Plays step h (ending b m settings q s (λ t. turns b m settings (closed_of width base bytes) n t)) last r)
      (e ∙ sym (end_is width base bytes true)) p)

  -- the end of one with bytes that fill no character
  pub ends_half : (b : Bool) (n : ℕ) (s : Session S) (h : H) → base + length bytes / width ≤ s.next → has_rest width bytes ≡ true →
      Plays step h (turns b m settings (closed_of width base bytes) (suc n) s) h (rest (Some (Stopped HalfKey)) s)
  ends_half b n s h past some = plays_half step m settings (closed_of width base bytes) b n s h (letter_past width base bytes true s.next past) refl some

-- the same of widths that are the same
pub played_by : {S H : Type 0} (step : H → Call → Answer → H → Type 0) (m : Machine S) (settings : Settings) (v w base : ℕ) (bytes : List ℕ) (is_closed : Bool)
    (s : Session S) (h last : H) (r : Rest S) → v ≡ w →
    Played step h (run_on true m settings (input_at v base bytes is_closed) s) last r →
    Played step h (run_on true m settings (input_at w base bytes is_closed) s) last r
played_by step m settings v w base bytes is_closed s h last r e p =
    subst (λ n. Played step h (run_on true m settings (input_at n base bytes is_closed) s) last r) e p
