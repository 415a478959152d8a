-- Runs on parts of an input are one run.
use Rattle.std.proofs.Common.{◌≡◌, ℕ, zero, suc, ◌+◌, ◌*◌, ◌-◌, ◌^◌, ◌<◌, ◌≤◌, Bool, true, false, cond, List, [], ◌∷◌, ◌++◌, length, drop, Some, None, refl, sym, ◌∙◌, ap, subst, arith, nat_lt, zero-add}
use Rattle.std.specs.Prelude.{◌/◌, slice_get}
use Rattle.std.proofs.lemmas.Bool.Decides.{nat_tests}
use Rattle.rl_run.specs.declared.calls.Call.{Call}
use Rattle.rl_run.specs.declared.calls.Answer.{Answer}
use Rattle.rl_run.specs.declared.calls.Outcome.{Outcome}
use Rattle.rl_run.specs.declared.calls.Outcome.TheVariants.{Wants, Broke, Ended, Stopped}
use Rattle.rl_run.specs.declared.calls.Stop.{Stop as StopCause}
use Rattle.rl_run.specs.declared.sessions.Settings.{Settings}
use Rattle.rl_run.specs.Machine.{Machine, Session}
use Rattle.rl_run.specs.Run.{Input, Rest, rest, letter, end_of, turns}
use Rattle.rl_run.specs.Play.{Plays}
use Rattle.rl_run.specs.Chain.{Played, Extends, run_on}
use Rattle.rl_run.specs.Fine.{IsKinded, IsFine, weight}
use Rattle.rl_run.proofs.Cuts.{plays, played, goes_on, stays, on_enough}
use Rattle.rl_run.proofs.Runs.{plays_wants}
use Rattle.rl_runner.proofs.Letters.{limit, letter_past}
use Rattle.rl_runner.specs.Feeds.{window_of}
use Rattle.rl_types.specs.Alphabet.{characters}
use Rattle.rl_types.proofs.Characters.{drop-characters, characters_of_front}
use Rattle.rl_sessions.specs.Joins.{Joins, Comes, RanOver, RunsFrom}
use Rattle.rl_sessions.specs.Short.{IsShort}
use Rattle.rl_sessions.proofs.Stands.{turns_stand}

pub extends_through : (a b c : Input) → Extends a b → Extends b c → Extends a c
extends_through a b c x y p character e = y p character (x p character e)

slice_drop : (xs : List ℕ) (base i b : ℕ) → slice_get (drop base xs) i ≡ Some b → slice_get xs (base + i) ≡ Some b
slice_drop xs zero i b e = rw zero-add e
slice_drop [] (suc base) i b e = absurd (no i e)
  where
    no : (i : ℕ) → slice_get [] i ≡ Some b → ⊥
    no i e = cc
slice_drop (x ∷ xs) (suc base) i b e =
    let here : suc base + i ≡ suc (base + i) = omega arith in
    rw here (slice_drop xs base i b e)

-- a part of what is seen
pub part_extends : (width b0 b : ℕ) (xs front behind : List ℕ) → 0 < width → b0 ≤ b → front ++ behind ≡ drop (width * (b - b0)) xs →
    Extends (window_of width b front) (window_of width b0 xs)
part_extends width b0 b xs front behind some low e p c f = go (nat_lt p b) refl f
  where
    go : (t : Bool) → nat_lt p b ≡ t → cond t None (slice_get (characters width front) (p - b)) ≡ Some c → letter (window_of width b0 xs) p ≡ Some c
    go true x f = absurd (no f)
      where
        no : None ≡ Some c → ⊥
        no f = cc
    go false x f =
        let within : b ≤ p = grind (arith, nat_tests) in
        let from : nat_lt p b0 ≡ false = grind (arith, nat_tests) in
        let there : p - b0 ≡ (b - b0) + (p - b) = omega arith in
        let seen = characters_of_front width front behind (p - b) c f in
        let inner = subst (λ cs. slice_get cs (p - b) ≡ Some c) (ap (λ ys. characters width ys) e ∙ sym (drop-characters width (b - b0) xs some)) seen in
        rw (from, there) (slice_drop (characters width xs) (b - b0) (p - b) c inner)

module _ {S H : Type 0} (step : H → Call → Answer → H → Type 0) (m : Machine S) (settings : Settings) where
  pub as_turns : (b : Bool) (input : Input) (h : H) (s : Session S) (last : H) (r : Rest S) → Plays step h (run_on b m settings input s) last r → Plays step h (turns b m settings input (suc (weight s)) s) last r
  unfolding run_on
  as_turns b input h s last r p = p

  -- a run as its turns
  pub turns_of : (input : Input) (h : H) (s : Session S) (last : H) (r : Rest S) → Played step h (run_on true m settings input s) last r →
      Plays step h (turns true m settings input (suc (weight s)) s) last r
  turns_of input h s last r p = as_turns true input h s last r (plays step h last (run_on true m settings input s) p.log r p.chain p.calls)

  pub joins_start : (whole : Input) (h : H) (s : Session S) → Joins step m settings whole h s h s
  joins_start whole h s = record { on = λ last r k p. (k, p) }

  pub runs_start : (seen : Input) (h : H) (s : Session S) → RunsFrom step m settings seen h s h s
  runs_start seen h s = record { joins = λ whole x. joins_start whole h s }

  module _ (seen : Input) (h : H) (s : Session S) (h1 : H) (s1 : Session S) (from : RunsFrom step m settings seen h s h1 s1)
      (short : Input) (not_closed : short.is_closed ≡ false) (part : Extends short seen) (mid : H) (t : Session S) where
    -- a run that was broken off
    pub runs_broke : Played step h1 (run_on true m settings short s1) mid (rest (Some Broke) t) → RunsFrom step m settings seen h s mid t
    runs_broke p = record {
      joins = λ whole x. record {
        on = λ last r k q.
            let w = goes_on step m settings true short whole not_closed (extends_through short seen whole part x) (suc (weight s1)) k s1 t h1 mid last (Some Broke) r tt
            (turns_of short h1 s1 mid (rest (Some Broke) t) p) q in
            (from.joins whole x).on last r w.0 w.1;
      };
    }

    -- a run that wants more
    pub runs_wants : Played step h1 (run_on true m settings short s1) mid (rest (Some Wants) t) → RunsFrom step m settings seen h s mid t
    runs_wants p = record {
      joins = λ whole x. record {
        on = λ last r k q.
            let w = goes_on step m settings true short whole not_closed (extends_through short seen whole part x) (suc (weight s1)) k s1 t h1 mid last (Some Wants) r tt
            (turns_of short h1 s1 mid (rest (Some Wants) t) p) q in
            (from.joins whole x).on last r w.0 w.1;
      };
    }

    -- a run that stopped
    runs_stop : (cause : StopCause) → Played step h1 (run_on true m settings short s1) mid (rest (Some (Stopped cause)) t) → RanOver step m settings seen h s (Stopped cause) mid t
    runs_stop cause p = record {
      comes = λ whole x.
          let w = stays step m settings true short whole not_closed (extends_through short seen whole part x) (suc (weight s1)) s1 t h1 mid cause
          (turns_of short h1 s1 mid (rest (Some (Stopped cause)) t) p) in
          (from.joins whole x).on mid (rest (Some (Stopped cause)) t) w.0 w.1;
    }

    -- a run that was not broken off
    pub runs_end : IsKinded m → IsFine m s1 → IsShort settings s1 → end_of short < 2 ^ 63 → (o : Outcome) → (o ≡ Broke → ⊥) →
        Played step h1 (run_on true m settings short s1) mid (rest (Some o) t) → RanOver step m settings seen h s o mid t
    runs_end kinded fine near limit Wants n p = record { comes = λ whole x. (runs_wants p).joins whole x }
    runs_end kinded fine near limit Broke n p = absurd (n refl)
    runs_end kinded fine near limit Ended n p =
        elim (turns_stand step m kinded settings short limit not_closed mid (rest (Some Ended) t) (suc (weight s1)) s1 h1 fine near
        (turns_of short h1 s1 mid (rest (Some Ended) t) p)) [ ]
    runs_end kinded fine near limit (Stopped cause) n p = runs_stop cause p

    -- what was run over a part
    pub ran_part : (o : Outcome) → RanOver step m settings short h1 s1 o mid t → RanOver step m settings seen h s o mid t
    ran_part Wants p = record {
      comes = λ whole x. record { on = λ last r k q. let w = (p.comes whole (extends_through short seen whole part x)).on last r k q in (from.joins whole x).on last r w.0 w.1 };
    }
    ran_part Broke p = record { comes = λ whole x. p.comes whole (extends_through short seen whole part x) }
    ran_part Ended p = record { comes = λ whole x. p.comes whole (extends_through short seen whole part x) }
    ran_part (Stopped cause) p = record {
      comes = λ whole x. let w = p.comes whole (extends_through short seen whole part x) in (from.joins whole x).on mid (rest (Some (Stopped cause)) t) w.0 w.1;
    }

    pub ran_wants : RanOver step m settings short h1 s1 Wants mid t → RunsFrom step m settings seen h s mid t
    ran_wants p = record { joins = λ whole x. (ran_part Wants p).comes whole x }

  -- so a run over what is seen is the run on the whole
  pub ran_whole : (width : ℕ) (seen : Input) (xs : List ℕ) (h : H) (s : Session S) (o : Outcome) (last : H) (t : Session S) → 0 < width → IsKinded m →
      IsFine m s →
      RanOver step m settings seen h s o last t → Extends seen (window_of width 0 xs) → length xs < 2 ^ 63 → (o ≡ Wants → length xs / width ≤ t.next) →
      Played step h (run_on false m settings (window_of width 0 xs) s) last (rest (Some o) t)
  ran_whole width seen xs h s o last t some kinded fine ran extends below past =
      let w = go o (ran.comes (window_of width 0 xs) extends) past in
      played step h last (run_on false m settings (window_of width 0 xs) s) (rest (Some o) t)
      (on_enough step m kinded settings false (window_of width 0 xs) (limit width 0 xs false some (omega arith)) w.0 s t h last o fine (omega arith) w.1)
    where
      go : (o : Outcome) → Comes step m settings (window_of width 0 xs) h s o last t → (o ≡ Wants → length xs / width ≤ t.next) →
          (j : ℕ) × Plays step h (turns false m settings (window_of width 0 xs) j s) last (rest (Some o) t)
      go Wants c past =
          let p = past refl in
          c.on last (rest (Some Wants) t) 1
          (plays_wants step m settings (window_of width 0 xs) false 0 t last (letter_past width 0 xs false t.next (omega arith)) refl)
      go Broke c past = absurd c
      go Ended c past = absurd c
      go (Stopped cause) c past = c
