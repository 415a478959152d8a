-- Calls that have the host's answers are those of the host's run.
use Rattle.std.proofs.Common.{◌≡◌, ℕ, Bool, false, if◌then◌else◌, List, [], ◌∷◌, ◌++◌, map, Some, refl, sym, ◌∙◌, ap, subst, append_assoc, append-nil}
use Rattle.rl_run.specs.declared.calls.Answer.{Answer}
use Rattle.rl_run.specs.declared.calls.Call.{Call}
use Rattle.rl_run.specs.declared.sessions.Settings.{Settings}
use Rattle.rl_run.specs.Chain.{IsLogOf, run_on}
use Rattle.rl_run.specs.Hosted.{hosted}
use Rattle.rl_run.specs.Machine.{Machine, fresh}
use Rattle.rl_run.specs.Play.{Play, Log, Reached, done, ask, ended, stands, run}
use Rattle.rl_run.specs.Run.{Rest, input_at}
use Rattle.rl_run.specs.Verdict.{verdict_of}
use Rattle.rl_replay.specs.Host.{host}
use Rattle.rl_replay.specs.Lines.{calls_lines, stop_lines, end_line}
use Rattle.rl_sessions.specs.SessionsValue.{SessionValue}
use Rattle.rl_sessions.specs.Whole.{HasRun}
use Rattle.rl_stream.specs.Lines.{input_name, IsHosted, lines_over, lines_at, rest_of}

abbrev log_of : {A : Type 0} → List Call → Reached A → Log A
log_of calls reached = record { calls = calls; reached = reached }

abbrev pair : {A : Type 0} → List Call → A → List Call × A
pair calls a = (calls, a)

module _ (m : Machine ℕ) {A : Type 0} where
  pub hosted_log : (past : List Call) (p : Play A) (log : List (Call × Answer)) (a : A) → IsHosted m past log → IsLogOf p log a →
      hosted (host m []) past p ≡ pair (past ++ map (λ (y : Call × Answer). y.0) log) a
  hosted_log past (done x) [] a h e =
      subst (λ u. pair past x ≡ pair u a) (sym (append-nil past)) (ap (pair past) (ended_same x a (ap (λ (l : Log _). l.reached) e)))
    where
      ended_same : {A : Type 0} (x a : A) → ended x ≡ ended a → x ≡ a
      ended_same x a e = cc
  hosted_log past (done x) (y ∷ log) a h e = absurd (no (ap (λ (l : Log _). l.calls) e))
    where
      no : [] ≡ (y.0 ∷ map (λ (z : Call × Answer). z.0) log) → ⊥
      no e = cc
  hosted_log past (ask c f) [] a h e = absurd (no (ap (λ (l : Log _). l.reached) e))
    where
      no : stands (ask c f) ≡ ended a → ⊥
      no e = cc
  hosted_log past (ask c f) (y ∷ log) a h e =
      let same : c ≡ y.0 = head_same c y.0 _ _ (ap (λ (l : Log _). l.calls) e) in
      let more : IsLogOf (f y.1) log a = rest_same (run (f y.1) (map (λ (z : Call × Answer). z.1) log)) _ _ _ _ e in
      let later = hosted_log (past ++ y.0 ∷ []) (f y.1) log a h.1 more in
      let mid : hosted (host m []) (past ++ y.0 ∷ []) (f (host m [] (past ++ y.0 ∷ []))) ≡ pair ((past ++ y.0 ∷ []) ++ map (λ (z : Call × Answer). z.0) log) a =
      subst (λ x. hosted (host m []) (past ++ y.0 ∷ []) (f x) ≡ pair ((past ++ y.0 ∷ []) ++ map (λ (z : Call × Answer). z.0) log) a) h.0 later in
      subst (λ (k : Call). hosted (host m []) (past ++ k ∷ []) (f (host m [] (past ++ k ∷ []))) ≡ pair (past ++ y.0 ∷ map (λ (z : Call × Answer). z.0) log) a) (sym same)
      (subst (λ u. hosted (host m []) (past ++ y.0 ∷ []) (f (host m [] (past ++ y.0 ∷ []))) ≡ pair u a)
      (append_assoc past (y.0 ∷ []) (map (λ (z : Call × Answer). z.0) log)) mid)
    where
      head_same : (x z : Call) (xs zs : List Call) → (x ∷ xs) ≡ (z ∷ zs) → x ≡ z
      head_same x z xs zs e = cc

      rest_same : {A : Type 0} (l : Log A) (x z : Call) (zs : List Call) (r : Reached A) →
          log_of (x ∷ l.calls) l.reached ≡ log_of (z ∷ zs) r → l ≡ log_of zs r
      rest_same l x z zs r e =
          let first : x ∷ l.calls ≡ z ∷ zs = ap (λ (w : Log _). w.calls) e in
          let calls : l.calls ≡ zs = cc in
          let second : l.reached ≡ r = ap (λ (w : Log _). w.reached) e in
          subst (λ w. l ≡ log_of w r) calls (subst (λ w. l ≡ log_of l.calls w) second refl)

-- the lines of the run over all bytes so far
pub lines_of_log : (m : Machine ℕ) (settings : Settings) (entry : ℕ) (bytes : List ℕ) (log : List (Call × Answer)) (x : SessionValue) →
    HasRun m settings entry bytes log x → IsHosted m [] log → lines_over m settings entry bytes x.is_closed ≡ lines_at m log x
lines_of_log m settings entry bytes log x has hosted_so =
    ap (λ (r : List Call × Rest ℕ). calls_lines m input_name (host m []) [] r.0 ++ stop_lines input_name r.1
    ++ (if x.is_closed then end_line input_name (verdict_of m r.1) r.1.session.next else []))
    (hosted_log m [] (run_on false m settings (input_at m.width 0 bytes x.is_closed) (fresh (m.entry entry))) log (rest_of x) hosted_so has.ran)
