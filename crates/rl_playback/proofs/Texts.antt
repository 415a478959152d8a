-- What one more line of a session adds to its text.
use Rattle.std.proofs.Common.{◌≡◌, ℕ, Bool, true, false, cond, ◌||◌, List, [], ◌∷◌, ◌++◌, length, drop, filter_map, Option, Some, None, is_some, refl, sym, ◌∙◌, ap, subst, append_assoc, append-nil, ◌+◌, ◌^◌, ◌<◌, ◌≤◌, arith}
use Rattle.std.proofs.Math.Seq.{drop-append_seam, take-append_seam}
use Rattle.std.proofs.lemmas.List.Elements.{filter_map-append}
use Rattle.std.proofs.lemmas.Grind.{flat_map-append}
use Rattle.std.proofs.lemmas.List.Folds.{list_any-append}
use Rattle.std.proofs.Math.Nat.{div-le_self}
use Rattle.rl_types.specs.Alphabet.{characters}
use Rattle.rl_types.proofs.Characters.{length-characters}
use Rattle.rl_run.specs.declared.sessions.Settings.{Settings}
use Rattle.rl_run.specs.declared.calls.Answer.{Answer}
use Rattle.rl_run.specs.declared.calls.Call.{Call}
use Rattle.rl_run.specs.declared.calls.Outcome.{Outcome}
use Rattle.rl_run.specs.declared.calls.Outcome.TheVariants.{Wants, Broke, Ended, Stopped}
use Rattle.rl_run.specs.declared.calls.Stop.{Stop}
use Rattle.rl_run.specs.Chain.{Extends}
use Rattle.rl_run.specs.Machine.{Machine, Session}
use Rattle.rl_run.specs.Run.{Rest, rest, input_at}
use Rattle.rl_run.specs.Verdict.{verdict_of}
use Rattle.rl_run.proofs.Cuts.{front_extends}
use Rattle.rl_replay.specs.declared.script.Line.{Line}
use Rattle.rl_replay.specs.Host.{host}
use Rattle.rl_replay.specs.Lines.{call_line, calls_lines, stop_lines, end_line, run_lines}
use Rattle.rl_replay.specs.Sessions.{Names, first, opening_of, feeding_of, is_end, opened_at, is_opened, is_ended, fed}
use Rattle.rl_replay.specs.Written.{input_of, entry_of, host_run, session_lines}
use Rattle.rl_playback.specs.Log.{stop_text}

-- ---- lines that follow

first_append : {A : Type 0} (xs ys : List A) (x : A) → first xs ≡ Some x → first (xs ++ ys) ≡ Some x
first_append [] ys x e = absurd (cc e)
first_append (y ∷ xs) ys x e = e

pub first_behind : {A : Type 0} (xs ys : List A) → first xs ≡ None → first (xs ++ ys) ≡ first ys
first_behind [] ys e = refl
first_behind (x ∷ xs) ys e = absurd (cc e)

module _ (past : List Line) (line : Line) where
  pub fed_more : fed (past ++ line ∷ []) ≡ fed past ++ feeding_of line.event
  fed_more = flat_map-append (λ l. feeding_of l.event) past (line ∷ []) ∙ ap (λ bytes. fed past ++ bytes) (append-nil (feeding_of line.event))

  or_none : (b : Bool) → b || false ≡ b
  or_none true = refl
  or_none false = refl

  pub ended_more : is_ended past ≡ false → is_ended (past ++ line ∷ []) ≡ is_end line.event
  ended_more e = list_any-append (λ l. is_end l.event) past (line ∷ []) ∙ ap (λ b. b || (is_end line.event || false)) e ∙ or_none (is_end line.event)

  pub opened_same : is_opened past ≡ true → opened_at (past ++ line ∷ []) ≡ opened_at past
  opened_same e = go (opened_at past) refl e
    where
      go : (o : Option (Option (List ℕ))) → opened_at past ≡ o → is_some o ≡ true → opened_at (past ++ line ∷ []) ≡ opened_at past
      go None f e = absurd (cc e)
      go (Some entry) f e =
          ap first (filter_map-append (λ l. opening_of l.event) past (line ∷ []))
          ∙ first_append (filter_map (λ l. opening_of l.event) past) (filter_map (λ l. opening_of l.event) (line ∷ [])) entry f ∙ sym f

  -- the input of a session that was not ended
  pub input_more : (width : ℕ) → is_ended past ≡ false → input_of width (past ++ line ∷ []) ≡ input_at width 0 (fed past ++ feeding_of line.event) (is_end line.event)
  input_more width e =
      let P : List ℕ → Type 0 = λ bytes. input_of width (past ++ line ∷ []) ≡ input_at width 0 bytes (is_ended (past ++ line ∷ [])) in
      let Q : Bool → Type 0 = λ b. input_of width (past ++ line ∷ []) ≡ input_at width 0 (fed past ++ feeding_of line.event) b in
      subst Q (ended_more e) (subst P fed_more refl)

-- a piece may end within a character
pub extends_more : (width : ℕ) (xs ys : List ℕ) (a b : Bool) → Extends (input_at width 0 xs a) (input_at width 0 (xs ++ ys) b)
extends_more width xs ys a b =
    let P : List ℕ → Type 0 = λ front. Extends (input_at width 0 front a) (input_at width 0 (xs ++ ys) b) in
    subst P (take-append_seam xs ys) (front_extends width (xs ++ ys) (length xs) a b)

-- there are no more characters than bytes
pub few_characters : (width : ℕ) (bytes : List ℕ) → length bytes < 2 ^ 63 → 0 + length (characters width bytes) < 2 ^ 63
few_characters width bytes limit =
    fewer (length (characters width bytes)) (length bytes) (subst (λ n. n ≤ length bytes) (sym (length-characters width bytes)) (div-le_self (length bytes) width)) limit
  where
    fewer : (n k : ℕ) → n ≤ k → k < 2 ^ 63 → 0 + n < 2 ^ 63
    fewer n k h l = omega arith

-- ---- texts

module _ (m : Machine ℕ) (s : List ℕ) (host : List Call → Answer) where
  calls_lines_append : (past xs ys : List Call) → calls_lines m s host past (xs ++ ys) ≡ calls_lines m s host past xs ++ calls_lines m s host (past ++ xs) ys
  calls_lines_append past [] ys = ap (λ p. calls_lines m s host p ys) (sym (append-nil past))
  calls_lines_append past (x ∷ xs) ys =
      ap (λ t. call_line m s x (host (past ++ x ∷ [])) ++ t)
      (calls_lines_append (past ++ x ∷ []) xs ys ∙ ap (λ p. calls_lines m s host (past ++ x ∷ []) xs ++ calls_lines m s host p ys) (append_assoc past (x ∷ []) xs))
      ∙ sym (append_assoc (call_line m s x (host (past ++ x ∷ []))) (calls_lines m s host (past ++ x ∷ []) xs) (calls_lines m s host (past ++ x ∷ xs) ys))

  -- the lines of calls, of a stop, and of an end
  abbrev pub end_text : Rest ℕ → Bool → List ℕ
  end_text r closed = cond closed (end_line s (verdict_of m r) r.session.next) []

  abbrev pub lines_by : List Call × Rest ℕ → Bool → List ℕ
  lines_by r closed = calls_lines m s host [] r.0 ++ stop_lines s r.1 ++ end_text r.1 closed

  -- of a run that has gone on
  pub grown : (calls more : List Call) (t u : Session ℕ) (o : Outcome) (closed : Bool) →
      drop (length (lines_by (calls, rest (Some Wants) t) false)) (lines_by (calls ++ more, rest (Some o) u) closed)
      ≡ calls_lines m s host calls more ++ (stop_lines s (rest (Some o) u) ++ end_text (rest (Some o) u) closed)
  grown calls more t u o closed =
      let front = calls_lines m s host [] calls in
      let behind = calls_lines m s host calls more in
      let ends = stop_lines s (rest (Some o) u) ++ end_text (rest (Some o) u) closed in
      ap (λ text. drop (length text) (lines_by (calls ++ more, rest (Some o) u) closed)) (append-nil (front ++ []) ∙ append-nil front)
      ∙ ap (λ text. drop (length front) text)
      (append_assoc (calls_lines m s host [] (calls ++ more)) (stop_lines s (rest (Some o) u)) (end_text (rest (Some o) u) closed)
      ∙ ap (λ text. text ++ ends) (calls_lines_append [] calls more)
      ∙ append_assoc front behind ends)
      ∙ drop-append_seam front (behind ++ ends)

  -- and of one that had stopped
  pub grown_stopped : (calls : List Call) (t : Session ℕ) (cause : Stop) (closed : Bool) →
      drop (length (lines_by (calls, rest (Some (Stopped cause)) t) false)) (lines_by (calls, rest (Some (Stopped cause)) t) closed)
      ≡ end_text (rest (Some (Stopped cause)) t) closed
  grown_stopped calls t cause closed =
      let front = calls_lines m s host [] calls ++ stop_lines s (rest (Some (Stopped cause)) t) in
      ap (λ text. drop (length text) (front ++ end_text (rest (Some (Stopped cause)) t) closed)) (append-nil front)
      ∙ drop-append_seam front (end_text (rest (Some (Stopped cause)) t) closed)

pub stop_same : (s : List ℕ) (o : Outcome) (t : Session ℕ) → stop_lines s (rest (Some o) t) ≡ stop_text s o t.next
stop_same s Wants t = refl
stop_same s Broke t = refl
stop_same s Ended t = refl
stop_same s (Stopped cause) t = refl

pub session_text : (names : Names) (m : Machine ℕ) (settings : Settings) (s : List ℕ) (own past : List Line) → is_opened past ≡ true →
    session_lines names m settings s own past ≡ lines_by m s (host m own) (host_run names m settings own past) (is_ended past)
session_text names m settings s own past e = ap (λ b. cond b (run_lines m settings s (host m own) (entry_of names past) (input_of m.width past)) []) e
