-- Calls on a session by a closure that logs, as calls by the log.
use Rattle.std.proofs.Common.{◌≡◌, ℕ, zero, suc, ◌*◌, ◌≤◌, List, ◌∷◌, length, drop, Option, Some, None, refl, sym, ◌∙◌, ap, arith}
use Rattle.rl_run.specs.declared.calls.Answer.{Answer}
use Rattle.rl_run.specs.declared.calls.Call.{Call}
use Rattle.rl_run.specs.declared.calls.Outcome.{Outcome}
use Rattle.rl_run.specs.declared.sessions.Settings.{Settings}
use Rattle.rl_run.specs.Chain.{Played}
use Rattle.rl_run.specs.Machine.{Machine}
use Rattle.rl_run.specs.Play.{Play, done, ask, Plays}
use Rattle.rl_run.proofs.Cuts.{plays}
use Rattle.rl_arrays.specs.TableMachine.{machine}
use Rattle.rl_sessions.specs.SessionsValue.{SessionValue, SessionsValue, IsWindowOf}
use Rattle.rl_sessions.specs.Runs.{Rests, TakesPiece, TakesEnd}
use Rattle.rl_playback.specs.declared.log.Log.{Log}
use Rattle.rl_playback.specs.Log.{LogsCall}
use Rattle.rl_playback.proofs.Between.{played_log}

-- some input whose end a window is
padded : ℕ → List ℕ → List ℕ
padded zero bytes = bytes
padded (suc n) bytes = 0 ∷ padded n bytes

drop_padded : (n : ℕ) (bytes : List ℕ) → drop n (padded n bytes) ≡ bytes
unfolding padded
drop_padded zero bytes = refl
drop_padded (suc n) bytes = drop_padded n bytes

length_padded : (n : ℕ) (bytes : List ℕ) → n ≤ length (padded n bytes)
unfolding padded
length_padded zero bytes = omega arith
length_padded (suc n) bytes = let h = length_padded n bytes in omega arith

some_input : (width : ℕ) (x : SessionValue) → IsWindowOf width (padded (width * x.base) x.window) x
some_input width x = record { within = length_padded (width * x.base) x.window; same = drop_padded (width * x.base) x.window }

module _ {H : Type 0} (step : H → Call → Answer → H → Type 0) where
  -- what each call keeps
  module _ (name_of : H → ℕ) (named : (h : H) (c : Call) (x : Answer) (k : H) → step h c x k → name_of k ≡ name_of h) where
    plays_name : {A : Type 0} (h last : H) (p : Play A) (x : A) → Plays step h p last x → name_of last ≡ name_of h
    plays_name h last (done y) x (e, f) = ap name_of (sym e)
    plays_name h last (ask c f) x (y, mid, w, p) = plays_name mid last (f y) x p ∙ named h c y mid w

    played_name : {A : Type 0} (h last : H) (p : Play A) (x : A) → Played step h p last x → name_of last ≡ name_of h
    played_name h last p x q = plays_name h last p x (plays step h last p q.log x q.chain q.calls)

    pub piece_name : (h last : H) (s : List ℕ) (old new : SessionsValue) (piece : List ℕ) (o : Outcome) → TakesPiece step h last s old new piece o → name_of last ≡ name_of h
    piece_name h last s old new piece o t = go t.earlier.over refl
      where
        go : (over : Option Outcome) → t.earlier.over ≡ over → name_of last ≡ name_of h
        go None e = played_name h last _ _ ((t.takes.going e).played (padded ((machine old.tables).width * t.earlier.base) t.earlier.window) (some_input (machine old.tables).width t.earlier))
        go (Some x) e = ap name_of (t.takes.stopped x e).host_same

    pub end_name : (h last : H) (s : List ℕ) (old new : SessionsValue) (o : Outcome) → TakesEnd step h last s old new o → name_of last ≡ name_of h
    end_name h last s old new o t = go t.earlier.over refl
      where
        go : (over : Option Outcome) → t.earlier.over ≡ over → name_of last ≡ name_of h
        go None e = played_name h last _ _ ((t.ends.going e).played (padded ((machine old.tables).width * t.earlier.base) t.earlier.window) (some_input (machine old.tables).width t.earlier))
        go (Some x) e = ap name_of (t.ends.stopped x e).host_same

  module _ (log_of : H → Log) (tells : (h : H) (c : Call) (x : Answer) (k : H) → step h c x k → LogsCall (log_of h) c x (log_of k)) where
    rests : (h last : H) (x y : SessionValue) (o p : Outcome) (m : Machine ℕ) (settings : Settings) →
        Rests step m settings h last x y o p → Rests LogsCall m settings (log_of h) (log_of last) x y o p
    rests h last x y o p m settings r =
        record { outcome_same = r.outcome_same; session_same = r.session_same; over_same = r.over_same; host_same = ap log_of r.host_same }

    pub piece_logged : (h last : H) (s : List ℕ) (old new : SessionsValue) (piece : List ℕ) (o : Outcome) →
        TakesPiece step h last s old new piece o → TakesPiece LogsCall (log_of h) (log_of last) s old new piece o
    piece_logged h last s old new piece o t = record {
      earlier = t.earlier;
      later = t.later;
      becomes = t.becomes;
      takes = record {
        name = t.takes.name;
        is_closed = t.takes.is_closed;
        going = λ e.
            let r = t.takes.going e in
            record {
              played = λ before w. played_log step log_of tells h last _ _ (r.played before w);
              window = r.window;
              over = r.over;
              unbroken = r.unbroken;
            };
        stopped = λ x e. rests h last t.earlier t.later x o _ _ (t.takes.stopped x e);
      };
    }

    pub end_logged : (h last : H) (s : List ℕ) (old new : SessionsValue) (o : Outcome) →
        TakesEnd step h last s old new o → TakesEnd LogsCall (log_of h) (log_of last) s old new o
    end_logged h last s old new o t = record {
      earlier = t.earlier;
      later = t.later;
      becomes = t.becomes;
      ends = record {
        name = t.ends.name;
        is_closed = t.ends.is_closed;
        going = λ e.
            let r = t.ends.going e in
            record {
              played = λ before w. played_log step log_of tells h last _ _ (r.played before w);
              over = r.over;
              unbroken = r.unbroken;
              ends = r.ends;
            };
        stopped = λ x e. rests h last t.earlier t.later x o _ _ (t.ends.stopped x e);
      };
    }
