-- What a chain of logged calls leaves.
use Rattle.std.proofs.Common.{◌≡◌, ℕ, List, [], ◌∷◌, ◌++◌, false, refl, sym, ◌∙◌, ap, subst, append_assoc, append-nil}
use Rattle.std.specs.Str.{bytes_eq}
use Rattle.rl_run.specs.declared.calls.Answer.{Answer}
use Rattle.rl_run.specs.declared.calls.Call.{Call}
use Rattle.rl_run.specs.Chain.{Played}
use Rattle.rl_run.specs.Hosted.{hosted}
use Rattle.rl_run.specs.Play.{Play, done, ask, Plays}
use Rattle.rl_run.proofs.Cuts.{plays, played}
use Rattle.rl_arrays.specs.declared.arrays.Arrays.{Arrays}
use Rattle.rl_arrays.specs.TableMachine.{machine}
use Rattle.rl_replay.specs.declared.script.Line.{Line}
use Rattle.rl_replay.specs.Host.{host}
use Rattle.rl_replay.specs.Lines.{call_line, calls_lines}
use Rattle.rl_playback.specs.declared.log.Log.{Log}
use Rattle.rl_playback.specs.Books.{Named, count_in}
use Rattle.rl_playback.specs.Log.{tables_of, IsSameLog, LogsCall}
use Rattle.rl_playback.specs.Stands.{Counts}
use Rattle.rl_playback.proofs.Answered.{LogsAt, logs_at, by_host, counted, others_picks, others_asks}

-- a log that is not full at the end was never full
pub room_before : {A : Type 0} (first last : Log) (p : Play A) (x : A) → Plays LogsCall first p last x → last.is_full ≡ false → first.is_full ≡ false
room_before first last (done y) x (e, f) room = ap (λ (l : Log). l.is_full) e ∙ room
room_before first last (ask c f) x (y, mid, w, p) room = (w (room_before mid last (f y) x p room)).room

-- what a chain leaves as it is
pub record Between (s : List ℕ) (first last : Log) : Type 0 where
  pub same_log : IsSameLog first last
  pub other_picks : (q : Named) → bytes_eq q.0 s ≡ false → count_in q last.books.picks.counts ≡ count_in q first.books.picks.counts
  pub other_asks : (q : Named) → bytes_eq q.0 s ≡ false → count_in q last.books.asks.counts ≡ count_in q first.books.asks.counts

between_none : (s : List ℕ) (log : Log) → Between s log log
between_none s log = record {
  same_log = record { tables = refl; session = refl; picks = refl; asks = refl };
  other_picks = λ q e. refl;
  other_asks = λ q e. refl;
}

-- what it tells of the calls
pub record Told {A : Type 0} (a : Arrays) (s : List ℕ) (own : List Line) (past : List Call) (first last : Log) (p : Play A) (x : A) : Type 0 where
  pub more : List Call
  pub run : hosted (host (machine a) own) past p ≡ (past ++ more, x)
  pub text : last.text.items ≡ first.text.items ++ calls_lines (machine a) s (host (machine a) own) past more
  pub counts : Counts (machine a) s own (past ++ more) last.books

abbrev pair : {A : Type 0} → List Call → A → List Call × A
pair calls a = (calls, a)

module _ {A : Type 0} (a : Arrays) (s : List ℕ) where
  pub between : (first last : Log) (p : Play A) (x : A) → Plays LogsCall first p last x → last.is_full ≡ false → tables_of first ≡ a → first.session.now ≡ s → Between s first last
  between first last (done y) x (e, f) room at_tables at_session = subst (λ l. Between s first l) e (between_none s first)
  between first last (ask c f) x (y, mid, w, p) room at_tables at_session =
      let l = logs_at a s first mid c y at_tables at_session (w (room_before mid last (f y) x p room)) in
      let r = between mid last (f y) x p room (l.same_log.tables ∙ at_tables) (l.same_log.session ∙ at_session) in
      record {
        same_log = record {
          tables = r.same_log.tables ∙ l.same_log.tables;
          session = r.same_log.session ∙ l.same_log.session;
          picks = r.same_log.picks ∙ l.same_log.picks;
          asks = r.same_log.asks ∙ l.same_log.asks;
        };
        other_picks = λ q e. r.other_picks q e ∙ kept_picks c y first mid l q e;
        other_asks = λ q e. r.other_asks q e ∙ kept_asks c y first mid l q e;
      }
    where
      kept_picks : (c : Call) (y : Answer) (first mid : Log) → LogsAt a s first mid c y → (q : Named) → bytes_eq q.0 s ≡ false → count_in q mid.books.picks.counts ≡ count_in q first.books.picks.counts
      kept_picks c y first mid l q e = others_picks a s first mid c y l q e

      kept_asks : (c : Call) (y : Answer) (first mid : Log) → LogsAt a s first mid c y → (q : Named) → bytes_eq q.0 s ≡ false → count_in q mid.books.asks.counts ≡ count_in q first.books.asks.counts
      kept_asks c y first mid l q e = others_asks a s first mid c y l q e

  pub told : (own : List Line) (past : List Call) (first last : Log) (p : Play A) (x : A) → Plays LogsCall first p last x → last.is_full ≡ false →
      tables_of first ≡ a → first.session.now ≡ s → Counts (machine a) s own past first.books → Told a s own past first last p x
  told own past first last (done y) x (e, f) room at_tables at_session counts = record {
    more = [];
    run = subst (λ z. pair past y ≡ pair (past ++ []) z) f (subst (λ u. pair past y ≡ pair u y) (sym (append-nil past)) refl);
    text = sym (append-nil _ ∙ ap (λ (l : Log). l.text.items) e);
    counts = subst (λ u. Counts (machine a) s own u last.books) (sym (append-nil past)) (subst (λ (l : Log). Counts (machine a) s own past l.books) e counts);
  }
  told own past first last (ask c f) x (y, mid, w, p) room at_tables at_session counts =
      let l = logs_at a s first mid c y at_tables at_session (w (room_before mid last (f y) x p room)) in
      let by : y ≡ host (machine a) own (past ++ c ∷ []) = by_host a s own past first mid c y counts l in
      let r = told own (past ++ c ∷ []) mid last (f y) x p room (l.same_log.tables ∙ at_tables) (l.same_log.session ∙ at_session) (counted a s own past first mid c y counts l) in
      let line : mid.text.items ≡ first.text.items ++ call_line (machine a) s c (host (machine a) own (past ++ c ∷ [])) =
      subst (λ z. mid.text.items ≡ first.text.items ++ call_line (machine a) s c z) by l.text in
      record {
        more = c ∷ r.more;
        run = subst (λ z. hosted (host (machine a) own) (past ++ c ∷ []) (f z) ≡ (past ++ c ∷ r.more, x)) by
            (subst (λ u. hosted (host (machine a) own) (past ++ c ∷ []) (f y) ≡ pair u x) (append_assoc past (c ∷ []) r.more) r.run);
        text = r.text
            ∙ ap (λ t. t ++ calls_lines (machine a) s (host (machine a) own) (past ++ c ∷ []) r.more) line
            ∙ append_assoc first.text.items (call_line (machine a) s c (host (machine a) own (past ++ c ∷ []))) (calls_lines (machine a) s (host (machine a) own) (past ++ c ∷ []) r.more);
        counts = subst (λ u. Counts (machine a) s own u last.books) (append_assoc past (c ∷ []) r.more) r.counts;
      }

-- a play by a closure that logs, as one by the log
module _ {A H : Type 0} (step : H → Call → Answer → H → Type 0) (log_of : H → Log)
    (tells : (h : H) (c : Call) (x : Answer) (k : H) → step h c x k → LogsCall (log_of h) c x (log_of k)) where
  logged : (h last : H) (p : Play A) (x : A) → Plays step h p last x → Plays LogsCall (log_of h) p (log_of last) x
  logged h last (done y) x (e, f) = (ap log_of e, f)
  logged h last (ask c f) x (y, mid, w, p) = (y, log_of mid, tells h c y mid w, logged mid last (f y) x p)

  pub played_log : (h last : H) (p : Play A) (x : A) → Played step h p last x → Played LogsCall (log_of h) p (log_of last) x
  played_log h last p x q = played LogsCall (log_of h) (log_of last) p x (logged h last p x (plays step h last p q.log x q.chain q.calls))
