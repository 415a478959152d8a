-- From a run over a window to the run over a session's input.
use Rattle.std.proofs.Common.{◌≡◌, ℕ, ◌+◌, ◌*◌, ◌-◌, ◌^◌, ◌<◌, ◌≤◌, Bool, true, List, [], ◌++◌, length, drop, Option, Some, None, refl, sym, ◌∙◌, ap, subst, arith, length-append}
use Rattle.std.specs.Prelude.{◌/◌}
use Rattle.std.proofs.lemmas.List.{length-drop, drop-drop, drop-append-le, append-nil}
use Rattle.rl_run.specs.declared.calls.Call.{Call}
use Rattle.rl_run.specs.declared.calls.Answer.{Answer}
use Rattle.rl_run.specs.declared.calls.Outcome.{Outcome}
use Rattle.rl_run.specs.declared.calls.Outcome.TheVariants.{Wants, Broke, Ended, Stopped}
use Rattle.rl_run.specs.declared.sessions.Settings.{Settings}
use Rattle.rl_run.specs.Machine.{Machine, Session}
use Rattle.rl_run.specs.Chain.{Extends}
use Rattle.rl_run.specs.Fine.{IsKinded, IsFine}
use Rattle.rl_runner.specs.Feeds.{window_of, over_after}
use Rattle.rl_window.specs.WindowValue.{WindowValue}
use Rattle.rl_sessions.specs.Joins.{RanOver, RanOut}
use Rattle.rl_sessions.specs.Pieces.{IsPart}
use Rattle.rl_sessions.specs.Runs.{Takes, Ends}
use Rattle.rl_sessions.specs.SessionsValue.{SessionValue}
use Rattle.rl_sessions.proofs.Widths.{mul_split, quotient_behind}
use Rattle.rl_sessions.proofs.Joined.{part_extends, ran_whole}

abbrev pub value : List ℕ → WindowValue → Session ℕ → Option Outcome → Bool → SessionValue
value name w s over is_closed = record { name = name; base = w.base; window = w.bytes; session = s; over = over; is_closed = is_closed }

-- what an outcome leaves open wants more
pub open_wants : (o : Outcome) → (o ≡ Broke → ⊥) → over_after o ≡ None → o ≡ Wants
open_wants Wants n e = refl
open_wants Broke n e = absurd (n refl)
open_wants Ended n e = absurd (no e)
  where
    no : Some Ended ≡ None → ⊥
    no e = cc
open_wants (Stopped cause) n e = absurd (no e)
  where
    no : Some (Stopped cause) ≡ None → ⊥
    no e = cc

pub over_some : (o : Outcome) → (o ≡ Broke → ⊥) → (o ≡ Wants → ⊥) → over_after o ≡ Some o
over_some Wants n m = absurd (m refl)
over_some Broke n m = absurd (n refl)
over_some Ended n m = refl
over_some (Stopped cause) n m = refl

module _ (width : ℕ) (w : WindowValue) (piece input : List ℕ) (within : width * w.base ≤ length input) (same : drop (width * w.base) input ≡ w.bytes) where
  long : length input ≡ width * w.base + length w.bytes
  long =
      let len = length-drop (width * w.base) input in
      let same_len = ap length same in
      omega arith

  longer : length (input ++ piece) ≡ width * w.base + length w.bytes + length piece
  longer = let len = length-append input piece in let front = long in omega arith

  whole_longer : length (input ++ piece) ≡ width * w.base + length (w.bytes ++ piece)
  whole_longer = let len = longer in let both = length-append w.bytes piece in omega arith

  from_base : drop (width * w.base) (input ++ piece) ≡ w.bytes ++ piece
  from_base = drop-append-le (width * w.base) input piece within ∙ ap (λ xs. xs ++ piece) same

  seen_in : 0 < width → Extends (window_of width w.base (w.bytes ++ piece)) (window_of width 0 (input ++ piece))
  seen_in some =
      let whole : w.base - 0 ≡ w.base = omega arith in
      part_extends width 0 w.base (input ++ piece) (w.bytes ++ piece) [] some (omega arith)
      (append-nil (w.bytes ++ piece) ∙ sym from_base ∙ ap (λ n. drop (width * n) (input ++ piece)) (sym whole))

  window_at : (v : WindowValue) → IsPart width w.base (w.bytes ++ piece) v [] → drop (width * v.base) (input ++ piece) ≡ v.bytes
  window_at v part =
      let low = part.low in
      let later : v.base ≡ w.base + (v.base - w.base) = omega arith in
      let there : width * v.base ≡ width * w.base + width * (v.base - w.base) = ap (λ n. width * n) later ∙ mul_split width w.base (v.base - w.base) in
      ap (λ n. drop n (input ++ piece)) there ∙ sym (drop-drop (width * (v.base - w.base)) (width * w.base) (input ++ piece))
      ∙ ap (λ xs. drop (width * (v.base - w.base)) xs) from_base
      ∙ sym part.same ∙ append-nil v.bytes

  window_within : (v : WindowValue) → IsPart width w.base (w.bytes ++ piece) v [] → width * v.base ≤ length (input ++ piece)
  window_within v part =
      let end = part.end in
      let len = whole_longer in
      omega (arith, end, len)

pub none_some : {A : Type 0} (o : Outcome) → None ≡ Some o → A
none_some o e = cc

module _ {H : Type 0} (step : H → Call → Answer → H → Type 0) (m : Machine ℕ) (settings : Settings) where
  -- a session that is over
  pub rests : (piece : List ℕ) (h : H) (x : SessionValue) (o : Outcome) → x.over ≡ Some o → Takes step m settings piece h h x x o
  rests piece h x o e = record {
    name = refl;
    is_closed = refl;
    going = λ none. none_some o (sym none ∙ e);
    stopped = λ p f. record { outcome_same = same p (sym e ∙ f); session_same = refl; over_same = refl; host_same = refl };
  }
    where
      same : (p : Outcome) → Some o ≡ Some p → o ≡ p
      same p e = cc

  pub ends_rest : (h : H) (x : SessionValue) (base : ℕ) (window : List ℕ) (o : Outcome) → x.over ≡ Some o → Ends step m settings h h x (record x { base = base; window = window; is_closed = true }) o
  ends_rest h x base window o e = record {
    name = refl;
    is_closed = refl;
    going = λ none. none_some o (sym none ∙ e);
    stopped = λ p f. record { outcome_same = same p (sym e ∙ f); session_same = refl; over_same = refl; host_same = refl };
  }
    where
      same : (p : Outcome) → Some o ≡ Some p → o ≡ p
      same p e = cc

  -- a session that takes a piece
  pub takes_piece : (w : WindowValue) (piece : List ℕ) (h : H) (s : Session ℕ) (o : Outcome) (last : H) (t : Session ℕ) (v : WindowValue) (name : List ℕ) (over after : Option Outcome) (c : Bool) →
      0 < m.width → over ≡ None → after ≡ over_after o → IsKinded m → IsFine m s → m.width * w.base + length w.bytes + length piece < 2 ^ 63 →
      RanOver step m settings (window_of m.width w.base (w.bytes ++ piece)) h s o last t →
      (o ≡ Wants → w.base + length (w.bytes ++ piece) / m.width ≤ t.next) → (o ≡ Wants → IsPart m.width w.base (w.bytes ++ piece) v []) → (o ≡ Broke → ⊥) →
      Takes step m settings piece h last (value name w s over c) (value name v t after c) o
  takes_piece w piece h s o last t v name over after c some going e kinded fine limit ran past part unbroken = record {
    name = refl;
    is_closed = refl;
    going = λ _. record {
      played = λ input b.
          let len = longer m.width w piece input b.within b.same in
          let ends =
          quotient_behind m.width w.base (length (w.bytes ++ piece)) (length (input ++ piece)) some (whole_longer m.width w piece input b.within b.same) in
          ran_whole step m settings m.width (window_of m.width w.base (w.bytes ++ piece)) (input ++ piece) h s o last t some kinded fine ran
          (seen_in m.width w piece input b.within b.same some) (omega (arith, len, limit))
          (λ f. subst (λ n. n ≤ t.next) (sym ends) (past f));
      window = λ none input b.
          let p = part (open_wants o unbroken (sym e ∙ none)) in
          record { within = window_within m.width w piece input b.within b.same v p; same = window_at m.width w piece input b.within b.same v p };
      over = e;
      unbroken = unbroken;
    };
    stopped = λ p f. none_some p (sym going ∙ f);
  }

  -- a session that is ended
  pub ends_run : (w : WindowValue) (h : H) (s : Session ℕ) (o : Outcome) (last : H) (t : Session ℕ) (v : WindowValue) (name : List ℕ) (over after : Option Outcome) (c : Bool) →
      over ≡ None → after ≡ over_after o → RanOut step m settings w.base w.bytes h s o last t → (o ≡ Broke → ⊥) → (o ≡ Wants → ⊥) →
      Ends step m settings h last (value name w s over c) (value name v t after true) o
  ends_run w h s o last t v name over after c going e ran unbroken ends = record {
    name = refl;
    is_closed = refl;
    going = λ _. record {
      played = λ input b. ran.ran input b.within b.same;
      over = e ∙ over_some o unbroken ends;
      unbroken = unbroken;
      ends = ends;
    };
    stopped = λ p f. none_some p (sym going ∙ f);
  }
