-- An answer that the books give is logged as the call's answer.
use Rattle.std.proofs.Common.{◌≡◌, ℕ, ◌+◌, Bool, true, false, cond, Option, None, unwrap_or, refl, sym, ◌∙◌, ap}
use Rattle.rl_run.specs.declared.calls.Answer.{Answer}
use Rattle.rl_run.specs.declared.calls.Answer.TheVariants.{Yes, No}
use Rattle.rl_run.specs.declared.calls.Call.{Call}
use Rattle.rl_run.specs.declared.calls.CallKind.{CallKind}
use Rattle.rl_run.specs.declared.calls.CallKind.TheVariants.{From, Ask, Do, Error, To, Token, Eof}
use Rattle.rl_run.specs.Picks.{takes_picks}
use Rattle.rl_arrays.specs.TableMachine.{machine}
use Rattle.rl_replay.specs.Host.{is_ask, own_answer, own_picks, picks_answer}
use Rattle.rl_playback.specs.declared.books.Book.{Book}
use Rattle.rl_playback.specs.declared.log.Log.{Log}
use Rattle.rl_playback.specs.Books.{Named, same, count_in, next_in, TakesNext}
use Rattle.rl_playback.specs.Log.{tables_of, called, raised, AnswersCall}
use Rattle.rl_playback.proofs.Maps.{same_tells}

no : false ≡ true → ⊥
no e = cc

pub no_ask_of_picks : (kind : CallKind) → takes_picks kind ≡ true → is_ask kind ≡ false
no_ask_of_picks Ask e = absurd (no e)
no_ask_of_picks From e = refl
no_ask_of_picks Do e = refl
no_ask_of_picks Error e = refl
no_ask_of_picks To e = refl
no_ask_of_picks Token e = refl
no_ask_of_picks Eof e = refl

pub no_picks_of_ask : (kind : CallKind) → is_ask kind ≡ true → takes_picks kind ≡ false
no_picks_of_ask Ask e = refl
no_picks_of_ask From e = refl
no_picks_of_ask Do e = absurd (no e)
no_picks_of_ask Error e = absurd (no e)
no_picks_of_ask To e = refl
no_picks_of_ask Token e = absurd (no e)
no_picks_of_ask Eof e = absurd (no e)

-- the count that was raised
raised_count : (count : Named → ℕ) (p q : Named) → cond (same q p) (count p + 1) (count q) ≡ raised true p q (count q)
raised_count count p q = go (same q p) refl
  where
    go : (b : Bool) → same q p ≡ b → cond b (count p + 1) (count q) ≡ cond b (count q + 1) (count q)
    go true e = ap (λ u. count u + 1) (sym ((same_tells q p).0 e))
    go false e = refl

abbrev asks_now : Log → Book → Log
asks_now log book = record log { books = record { picks = log.books.picks; asks = book } }

abbrev picks_now : Log → Book → Log
picks_now log book = record log { books = record { picks = book; asks = log.books.asks } }

module _ (log : Log) (c : Call) (answer : Option Answer) where
  abbrev own : Answer
  own = picks_answer (own_picks (machine (tables_of log)) c)

  abbrev by_kind : Bool → Bool → Answer
  by_kind a b = cond a (unwrap_or (next_in (called log c) log.books.asks) No) (cond b (unwrap_or (next_in (called log c) log.books.picks) own) Yes)

  abbrev by_itself : Bool → Bool → Answer
  by_itself a b = cond a No (cond b own Yes)

  pub asked_call : (book : Book) → is_ask c.kind ≡ true → TakesNext log.books.asks book (called log c) answer →
      AnswersCall log (asks_now log book) c (unwrap_or answer (own_answer (machine (tables_of log)) c))
  asked_call book e t = record {
    same_log = record { tables = refl; session = refl; picks = refl; asks = t.answers };
    gives = ap (λ a. unwrap_or answer (by_itself a (takes_picks c.kind))) e ∙ ap (λ o. unwrap_or o No) t.gives ∙ sym (ap (λ a. by_kind a (takes_picks c.kind)) e);
    pick_counts = λ q. sym (ap (λ b. raised b (called log c) q (count_in q log.books.picks.counts)) (no_picks_of_ask c.kind e));
    ask_counts = λ q. t.counts q ∙ raised_count (λ u. count_in u log.books.asks.counts) (called log c) q
        ∙ sym (ap (λ b. raised b (called log c) q (count_in q log.books.asks.counts)) e);
  }

  pub picked_call : (book : Book) → takes_picks c.kind ≡ true → TakesNext log.books.picks book (called log c) answer →
      AnswersCall log (picks_now log book) c (unwrap_or answer (own_answer (machine (tables_of log)) c))
  picked_call book e t =
      let f = no_ask_of_picks c.kind e in
      record {
        same_log = record { tables = refl; session = refl; picks = t.answers; asks = refl };
        gives = ap (λ a. unwrap_or answer (by_itself a (takes_picks c.kind))) f ∙ ap (λ b. unwrap_or answer (by_itself false b)) e ∙ ap (λ o. unwrap_or o own) t.gives
            ∙ sym (ap (λ a. by_kind a (takes_picks c.kind)) f ∙ ap (λ b. by_kind false b) e);
        pick_counts = λ q. t.counts q ∙ raised_count (λ u. count_in u log.books.picks.counts) (called log c) q
            ∙ sym (ap (λ b. raised b (called log c) q (count_in q log.books.picks.counts)) e);
        ask_counts = λ q. sym (ap (λ b. raised b (called log c) q (count_in q log.books.asks.counts)) f);
      }

pub quiet_call : (log : Log) (c : Call) → is_ask c.kind ≡ false → takes_picks c.kind ≡ false → AnswersCall log log c (own_answer (machine (tables_of log)) c)
quiet_call log c e f = record {
  same_log = record { tables = refl; session = refl; picks = refl; asks = refl };
  gives = ap (λ a. by_itself log c None a (takes_picks c.kind)) e ∙ ap (λ b. by_itself log c None false b) f
      ∙ sym (ap (λ a. by_kind log c None a (takes_picks c.kind)) e ∙ ap (λ b. by_kind log c None false b) f);
  pick_counts = λ q. sym (ap (λ b. raised b (called log c) q (count_in q log.books.picks.counts)) f);
  ask_counts = λ q. sym (ap (λ b. raised b (called log c) q (count_in q log.books.asks.counts)) e);
}
