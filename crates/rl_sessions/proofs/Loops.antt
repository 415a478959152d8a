-- What the loops behind breaks keep.
use Rattle.std.proofs.Common.{◌≡◌, ℕ, suc, ◌+◌, ◌*◌, ◌<◌, ◌≤◌, ◌^◌, Bool, true, false, List, length, drop, Some, ap, sym, subst, arith}
use Rattle.std.proofs.lemmas.List.{length-drop}
use Rattle.rl_run.specs.declared.calls.Call.{Call}
use Rattle.rl_run.specs.declared.calls.Answer.{Answer}
use Rattle.rl_run.specs.declared.calls.Outcome.{Outcome}
use Rattle.rl_run.specs.declared.calls.Outcome.TheVariants.{Wants, Broke}
use Rattle.rl_run.specs.declared.sessions.Settings.{Settings}
use Rattle.rl_run.specs.Machine.{Machine, Session, keep}
use Rattle.rl_run.specs.Run.{Input, Rest, rest, end_of, input_at}
use Rattle.rl_run.specs.Play.{Play, Plays}
use Rattle.rl_run.specs.Chain.{Played, run_on}
use Rattle.rl_run.specs.Fine.{IsKinded, IsFine, weight}
use Rattle.rl_run.proofs.Cuts.{played, on_enough}
use Rattle.rl_runner.specs.Feeds.{closed_of}
use Rattle.rl_runner.proofs.Letters.{limit}
use Rattle.rl_arrays.specs.declared.arrays.Arrays.{Arrays}
use Rattle.rl_arrays.specs.TableMachine.{machine}
use Rattle.rl_sessions.specs.Joins.{RanOver, RunsFrom, RanOut, EndsFrom}
use Rattle.rl_sessions.specs.Short.{IsShort}
use Rattle.rl_sessions.proofs.Broken.{break_goes_on}
use Rattle.rl_sessions.proofs.Unbroken.{run_unbroken}
use Rattle.rl_sessions.proofs.Closed.{run_at_end}
use Rattle.rl_sessions.proofs.Joined.{runs_start, runs_broke, runs_end, joins_start, turns_of, as_turns}
use Rattle.rl_sessions.proofs.Stands.{StandsBy, turns_stand}

-- a run over a window that was broken off so far
pub record Behind {S H : Type 0} (step : H → Call → Answer → H → Type 0) (m : Machine S) (settings : Settings) (base : ℕ) (seen : Input)
    (first : H) (start : Session S) (h : H) (s : Session S) : Type 0 where
  pub fine : IsFine m s → IsFine m start
  pub low : base ≤ keep settings s
  pub short : IsShort settings s
  pub runs : RunsFrom step m settings seen first start h s

module _ {S H : Type 0} (step : H → Call → Answer → H → Type 0) (m : Machine S) (settings : Settings) where
  pub behind_start : (base : ℕ) (seen : Input) (h : H) (s : Session S) → base ≤ keep settings s → IsShort settings s → Behind step m settings base seen h s h s
  behind_start base seen h s low short = record { fine = λ x. x; low = low; short = short; runs = runs_start step m settings seen h s }

  -- where a run over an input that may go on stands
  pub stands : (seen : Input) (h : H) (s : Session S) (mid : H) (o : Outcome) (t : Session S) → seen.is_closed ≡ false → end_of seen < 2 ^ 63 → IsKinded m → IsFine m s → IsShort settings s →
      Played step h (run_on true m settings seen s) mid (rest (Some o) t) → StandsBy m settings (Some o) t
  stands seen h s mid o t not_closed limit kinded fine short p =
      turns_stand step m kinded settings seen limit not_closed mid (rest (Some o) t) (suc (weight s)) s h fine short (turns_of step m settings seen h s mid (rest (Some o) t) p)

  pub short_behind : (seen : Input) (h : H) (s : Session S) (mid : H) (o : Outcome) (t : Session S) → seen.is_closed ≡ false → end_of seen < 2 ^ 63 → IsKinded m → IsFine m s → IsShort settings s →
      o ≡ Wants → Played step h (run_on true m settings seen s) mid (rest (Some o) t) → IsShort settings t
  short_behind seen h s mid o t not_closed limit kinded fine short e p =
      (stands seen h s mid Wants t not_closed limit kinded fine short (subst (λ v. Played step h (run_on true m settings seen s) mid (rest (Some v) t)) e p)).1

  module _ (base : ℕ) (seen : Input) (first : H) (start : Session S) (h : H) (s : Session S) (mid : H) (t : Session S)
      (behind : Behind step m settings base seen first start h s) (kinded : IsKinded m) (fine : IsFine m s) (not_closed : seen.is_closed ≡ false) (limit : end_of seen < 2 ^ 63) where
    pub behind_more : base ≤ keep settings t → Played step h (run_on true m settings seen s) mid (rest (Some Broke) t) → Behind step m settings base seen first start mid t
    behind_more low p = record {
      fine = λ _. behind.fine fine;
      low = low;
      short = (stands seen h s mid Broke t not_closed limit kinded fine behind.short p).1;
      runs = runs_broke step m settings seen first start h s behind.runs seen not_closed (λ q character e. e) mid t p;
    }

    pub behind_end : (o : Outcome) → (o ≡ Broke → ⊥) → Played step h (run_on true m settings seen s) mid (rest (Some o) t) → RanOver step m settings seen first start o mid t
    behind_end o n p = runs_end step m settings seen first start h s behind.runs seen not_closed (λ q character e. e) mid t kinded fine behind.short limit o n p

-- a run over a last window that was broken off so far
pub record EndsBehind {S H : Type 0} (step : H → Call → Answer → H → Type 0) (m : Machine S) (settings : Settings) (base : ℕ) (window : List ℕ)
    (first : H) (start : Session S) (h : H) (s : Session S) : Type 0 where
  pub fine : IsFine m s → IsFine m start
  pub low : base ≤ keep settings s
  pub ends : EndsFrom step m settings base window first start h s

module _ {S H : Type 0} (step : H → Call → Answer → H → Type 0) (m : Machine S) (settings : Settings) (base : ℕ) (window : List ℕ) where
  pub ends_start : (h : H) (s : Session S) → base ≤ keep settings s → EndsBehind step m settings base window h s h s
  ends_start h s low =
      record { fine = λ x. x; low = low; ends = record { joins = λ input within same. joins_start step m settings (closed_of m.width 0 input) h s } }

  limit_of : (input : List ℕ) → m.width * base ≤ length input → drop (m.width * base) input ≡ window → m.width * base + length window < 2 ^ 63 →
      length input < 2 ^ 63
  limit_of input within same below =
      let len = length-drop (m.width * base) input in
      let same_len = ap length same in
      omega arith

  module _ (first : H) (start : Session S) (h : H) (s : Session S) (mid : H) (t : Session S)
      (behind : EndsBehind step m settings base window first start h s) (some : 0 < m.width) (kinded : IsKinded m) (fine : IsFine m s)
      (below : m.width * base + length window < 2 ^ 63) where
    -- on the whole input
    on_whole : (o : Outcome) → Played step h (run_on true m settings (closed_of m.width base window) s) mid (rest (Some o) t) →
        (input : List ℕ) → m.width * base ≤ length input → drop (m.width * base) input ≡ window →
        Plays step h (run_on true m settings (closed_of m.width 0 input) s) mid (rest (Some o) t)
    on_whole o p input within same =
        run_at_end step m kinded settings m.width base input mid (rest (Some o) t) s h some within (limit_of input within same below) fine behind.low
        (subst (λ w. Played step h (run_on true m settings (closed_of m.width base w) s) mid (rest (Some o) t)) (sym same) p)

    pub ends_more : base ≤ keep settings t → Played step h (run_on true m settings (closed_of m.width base window) s) mid (rest (Some Broke) t) →
        EndsBehind step m settings base window first start mid t
    ends_more low p = record {
      fine = λ _. behind.fine fine;
      low = low;
      ends = record {
        joins = λ input within same. record {
          on = λ last r k q.
              let w = break_goes_on step m settings (closed_of m.width 0 input) mid last t r k q s h (on_whole Broke p input within same) in
              (behind.ends.joins input within same).on last r w.0 w.1;
        };
      };
    }

    pub ends_whole : (o : Outcome) → (o ≡ Broke → ⊥) → Played step h (run_on true m settings (closed_of m.width base window) s) mid (rest (Some o) t) →
        RanOut step m settings base window first start o mid t
    ends_whole o n p = record {
      ran = λ input within same.
          let q = run_unbroken step m settings (closed_of m.width 0 input) mid o t n s h (on_whole o p input within same) in
          let w = (behind.ends.joins input within same).on mid (rest (Some o) t) (suc (weight s))
          (as_turns step m settings false (closed_of m.width 0 input) h s mid (rest (Some o) t) q) in
          let room = limit m.width 0 input true some (subst (λ n. n < 2 ^ 63) (omega arith) (limit_of input within same below)) in
          played step first mid (run_on false m settings (closed_of m.width 0 input) start) (rest (Some o) t)
          (on_enough step m kinded settings false (closed_of m.width 0 input) room w.0 start t first mid o (behind.fine fine) (omega arith) w.1);
    }

-- the same of tables and settings that are the same
pub played_of : {H : Type 0} (step : H → Call → Answer → H → Type 0) (base : ℕ) (bytes : List ℕ) (is_closed : Bool) (a b : Arrays) (x y : Settings)
    (s : Session ℕ) (h last : H) (r : Rest ℕ) → a ≡ b → x ≡ y →
    Played step h (run_on true (machine a) x (input_at (machine a).width base bytes is_closed) s) last r →
    Played step h (run_on true (machine b) y (input_at (machine b).width base bytes is_closed) s) last r
played_of step base bytes is_closed a b x y s h last r e f p =
    subst (λ v. Played step h (run_on true (machine b) v (input_at (machine b).width base bytes is_closed) s) last r) f
    (subst (λ v. Played step h (run_on true (machine v) x (input_at (machine v).width base bytes is_closed) s) last r) e p)

pub fine_of : (a b : Arrays) (s : Session ℕ) → a ≡ b → IsFine (machine a) s → IsFine (machine b) s
fine_of a b s e f = subst (λ v. IsFine (machine v) s) e f

pub kinded_of : (a b : Arrays) → a ≡ b → IsKinded (machine a) → IsKinded (machine b)
kinded_of a b e f = subst (λ v. IsKinded (machine v)) e f

pub broke_of : {H : Type 0} (step : H → Call → Answer → H → Type 0) (h : H) (p : Play (Rest ℕ)) (last : H) (o : Outcome) (t : Session ℕ) → o ≡ Broke →
    Played step h p last (rest (Some o) t) → Played step h p last (rest (Some Broke) t)
broke_of step h p last o t e q = subst (λ v. Played step h p last (rest (Some v) t)) e q
