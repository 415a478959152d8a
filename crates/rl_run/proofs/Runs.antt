-- Runs go on turn by turn.
use Rattle.std.proofs.Common.{◌≡◌, ℕ, suc, ◌+◌, ◌-◌, ◌<◌, ◌≤◌, Bool, true, false, List, length, get_or, Some, None, refl, sym, subst, arith, nat_lt}
use Rattle.std.proofs.lemmas.Bool.Decides.{nat_tests}
use Rattle.std.proofs.lemmas.Option.{slice_get-get_or, slice_get_past}
use Rattle.rl_run.specs.declared.calls.Call.{Call}
use Rattle.rl_run.specs.declared.calls.Answer.{Answer}
use Rattle.rl_run.specs.declared.sessions.Flow.{Flow}
use Rattle.rl_run.specs.declared.sessions.Flow.TheVariants.{Goes, Jumps, Breaks, Stops}
use Rattle.rl_run.specs.declared.calls.Outcome.TheVariants.{Wants, Broke, Ended, Stopped}
use Rattle.rl_run.specs.declared.calls.Stop.{Stop as StopCause}
use Rattle.rl_run.specs.declared.calls.Stop.TheVariants.{PastEnd, HalfKey}
use Rattle.rl_run.specs.declared.sessions.Settings.{Settings}
use Rattle.rl_run.specs.Machine.{Machine, Session}
use Rattle.rl_run.specs.Picks.{Came, came}
use Rattle.rl_run.specs.Turn.{turn}
use Rattle.rl_run.specs.Run.{Input, Rest, rest, letter, end_of, after, last_delivery, last_list, over, at_kept, ending, at_end, at_letter, turns}
use Rattle.rl_run.specs.Play.{Play, Plays}
use Rattle.rl_run.proofs.Plays.{plays_bind}

module _ {S H : Type 0} (step : H → Call → Answer → H → Type 0) (m : Machine S) (settings : Settings) (input : Input) where
  -- a turn, and then what comes after it
  pub plays_turn : (is_broken_off : Bool) (n byte : ℕ) (s : Session S) (h mid last : H) (c : Came S) (r : Rest S) → letter input s.next ≡ Some byte →
      Plays step h (turn m settings s byte) mid c →
      Plays step mid (after is_broken_off c (λ t. turns is_broken_off m settings input n t)) last r →
      Plays step h (turns is_broken_off m settings input (suc n) s) last r
  unfolding turns at_letter
  plays_turn is_broken_off n byte s h mid last c r e first second =
      rw e (plays_bind step h mid last (turn m settings s byte) (λ c. after is_broken_off c (λ t. turns is_broken_off m settings input n t)) c r first second)

  -- the input's end, which is not the last
  pub plays_wants : (is_broken_off : Bool) (n : ℕ) (s : Session S) (h : H) → letter input s.next ≡ None → input.is_closed ≡ false →
      Plays step h (turns is_broken_off m settings input (suc n) s) h (rest (Some Wants) s)
  unfolding turns at_letter
  plays_wants is_broken_off n s h e f = rw (e, f) (refl, refl)

  pub plays_on : (is_broken_off : Bool) (n : ℕ) (flow : Flow) (s : Session S) (h last : H) (r : Rest S) →
      (flow ≡ Breaks → ⊥) → ((cause : StopCause) → flow ≡ Stops cause → ⊥) →
      Plays step h (turns is_broken_off m settings input n s) last r →
      Plays step h (after is_broken_off (came flow s) (λ t. turns is_broken_off m settings input n t)) last r
  unfolding after
  plays_on b n Goes s h last r x y p = p
  plays_on b n Jumps s h last r x y p = p
  plays_on b n Breaks s h last r x y p = absurd (x refl)
  plays_on b n (Stops cause) s h last r x y p = absurd (y cause refl)

  pub plays_broke : (n : ℕ) (s : Session S) (h : H) →
      Plays step h (after true (came Breaks s) (λ t. turns true m settings input n t)) h (rest (Some Broke) s)
  unfolding after
  plays_broke n s h = (refl, refl)

  pub plays_stopped : (is_broken_off : Bool) (n : ℕ) (cause : StopCause) (s : Session S) (h : H) →
      Plays step h (after is_broken_off (came (Stops cause) s) (λ t. turns is_broken_off m settings input n t)) h (rest (Some (Stopped cause)) s)
  unfolding after
  plays_stopped b n cause s h = (refl, refl)

-- the character at a position that is seen
pub letter_some : (base : ℕ) (characters : List ℕ) (is_closed has_rest : Bool) (p : ℕ) → base ≤ p → p < base + length characters →
    letter (record { base = base; characters = characters; is_closed = is_closed; has_rest = has_rest }) p ≡ Some (get_or characters (p - base) 0)
letter_some base characters is_closed has_rest p a b =
    let no : nat_lt p base ≡ false = grind (arith, nat_tests) in
    rw no (slice_get-get_or characters (p - base) 0 (omega arith))

pub letter_none : (base : ℕ) (characters : List ℕ) (is_closed has_rest : Bool) (p : ℕ) → base + length characters ≤ p →
    letter (record { base = base; characters = characters; is_closed = is_closed; has_rest = has_rest }) p ≡ None
letter_none base characters is_closed has_rest p b =
    let no : nat_lt p base ≡ false = grind (arith, nat_tests) in
    rw no (slice_get_past characters (p - base) (omega arith))

module _ {S H : Type 0} (step : H → Call → Answer → H → Type 0) (m : Machine S) (settings : Settings) (input : Input) where
  -- bytes that fill no character, at the end of a closed input
  pub plays_half : (is_broken_off : Bool) (n : ℕ) (s : Session S) (h : H) → letter input s.next ≡ None → input.is_closed ≡ true → input.has_rest ≡ true →
      Plays step h (turns is_broken_off m settings input (suc n) s) h (rest (Some (Stopped HalfKey)) s)
  unfolding turns at_letter at_end
  plays_half is_broken_off n s h e f g = rw (e, f, g) (refl, refl)

  -- the end of a closed input without such bytes
  pub plays_ending : (is_broken_off : Bool) (n : ℕ) (s : Session S) (h last : H) (r : Rest S) → letter input s.next ≡ None → input.is_closed ≡ true → input.has_rest ≡ false →
      Plays step h (ending is_broken_off m settings (end_of input) s (λ t. turns is_broken_off m settings input n t)) last r →
      Plays step h (turns is_broken_off m settings input (suc n) s) last r
  unfolding turns at_letter at_end
  plays_ending is_broken_off n s h last r e f g p = rw (e, f, g) p

  -- past the end
  pub plays_past : (b : Bool) (at : ℕ) (s : Session S) (h : H) (k : Session S → Play (Rest S)) → at < s.next →
      Plays step h (ending b m settings at s k) h (rest (Some (Stopped PastEnd)) s)
  unfolding ending
  plays_past b at s h k e = let past : nat_lt at s.next ≡ true = grind (arith, nat_tests) in rw past (refl, refl)

  -- a kept token list
  pub plays_delivery : (b : Bool) (at : ℕ) (s : Session S) (list : List ℕ) (h mid last : H) (c : Came S) (r : Rest S) (k : Session S → Play (Rest S)) → s.next ≤ at → s.kept ≡ Some list →
      Plays step h (last_delivery m settings at list s) mid c → Plays step mid (after b c k) last r →
      Plays step h (ending b m settings at s k) last r
  unfolding ending at_kept
  plays_delivery b at s list h mid last c r k e f p q =
      let past : nat_lt at s.next ≡ false = grind (arith, nat_tests) in
      rw past (subst (λ l. Plays step h (at_kept b m settings at s k l) last r) (sym f)
      (plays_bind step h mid last (last_delivery m settings at list s) (λ d. after b d k) c r p q))

  pub plays_last : (b : Bool) (at : ℕ) (s : Session S) (h last : H) (r : Rest S) (k : Session S → Play (Rest S)) → s.next ≤ at → s.kept ≡ None →
      Plays step h (last_list m settings at s) last r → Plays step h (ending b m settings at s k) last r
  unfolding ending at_kept
  plays_last b at s h last r k e f p =
      let past : nat_lt at s.next ≡ false = grind (arith, nat_tests) in
      rw past (subst (λ l. Plays step h (at_kept b m settings at s k l) last r) (sym f) p)

pub over_ended : {S : Type 0} (flow : Flow) (s : Session S) → ((cause : StopCause) → flow ≡ Stops cause → ⊥) → over (came flow s) ≡ rest (Some Ended) s
over_ended Goes s n = refl
over_ended Jumps s n = refl
over_ended Breaks s n = refl
over_ended (Stops cause) s n = absurd (n cause refl)
