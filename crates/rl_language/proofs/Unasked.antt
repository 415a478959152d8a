-- A machine that asks nothing makes no call of a condition.
use Rattle.std.proofs.Common.{◌≡◌, ◌≢◌, ℕ, zero, suc, Bool, true, false, cond, List, [], ◌∷◌, sym, subst, Option, Some, None, nat_eq, nat_lt}
use Rattle.rl_types.specs.declared.numbers.Key.{Key}
use Rattle.rl_run.specs.declared.calls.Answer.{Answer}
use Rattle.rl_run.specs.declared.calls.CallKind.{CallKind}
use Rattle.rl_run.specs.declared.calls.CallKind.TheVariants.{From, Ask, Do, Error, To, Token, Eof}
use Rattle.rl_run.specs.declared.calls.Outcome.TheVariants.{Wants, Broke, Stopped}
use Rattle.rl_run.specs.declared.calls.Stop.TheVariants.{Overlong, PastEnd, HalfKey}
use Rattle.rl_run.specs.declared.sessions.Flow.{Flow}
use Rattle.rl_run.specs.declared.sessions.Flow.TheVariants.{Goes, Jumps, Breaks, Stops}
use Rattle.rl_run.specs.declared.sessions.Heard.{Heard}
use Rattle.rl_run.specs.declared.sessions.Settings.{Settings}
use Rattle.rl_run.specs.declared.sessions.Spot.{Spot}
use Rattle.rl_run.specs.Machine.{Go, Machine, Session}
use Rattle.rl_run.specs.Picks.{Came, came, answered}
use Rattle.rl_run.specs.Play.{Play, done, ask, bind, run}
use Rattle.rl_run.specs.Turn.{if_goes, calls, conditions, all_conditions, cleared, sent_home, deliver, token_kept, marked, behind, stepped, judged, failed, missed, chosen, if_heard, sought, raised, closed, finished, opened, is_overlong, body, spot_of, turn}
use Rattle.rl_run.specs.Run.{Input, Rest, rest, letter, end_of, end_spot, after, last_delivery, over, last_list, at_kept, ending, at_end, at_letter, turns}
use Rattle.rl_run.specs.Chain.{run_on}
use Rattle.rl_run.specs.Fine.{weight}
use Rattle.rl_language.specs.Verdicts.{AreAnsweredBy}

-- no call that it may make is that of a condition
abbrev pub NeverAsks : {A : Type 0} → Play A → Type 0
NeverAsks (done a) = Unit {0}
NeverAsks (ask c f) = (c.kind ≢ Ask) × ((x : Answer) → NeverAsks (f x))

both_never : {A B : Type 0} (p : Play A) (k : A → Play B) → NeverAsks p → ((a : A) → NeverAsks (k a)) → NeverAsks (bind p k)
both_never (done a) k h f = f a
both_never (ask c g) k h f = (h.0, λ x. both_never (g x) k (h.1 x) f)

-- so its calls are answered as any truths say
pub never_answered : {A : Type 0} (truths : ℕ → ℕ) (p : Play A) (answers : List Answer) → NeverAsks p → AreAnsweredBy truths (run p answers).calls answers
never_answered truths (done a) answers h = tt
never_answered truths (ask c f) [] h = tt
never_answered truths (ask c f) (x ∷ answers) h = ((λ e. absurd (h.0 e)), never_answered truths (f x) answers (h.1 x))

-- ---- the other calls

pub from_ask : From ≢ Ask
from_ask e = cc

pub do_ask : Do ≢ Ask
do_ask e = cc

pub error_ask : Error ≢ Ask
error_ask e = cc

pub to_ask : To ≢ Ask
to_ask e = cc

pub token_ask : Token ≢ Ask
token_ask e = cc

pub eof_ask : Eof ≢ Ask
eof_ask e = cc

module _ {S : Type 0} (m : Machine S) (asks_none : (q : S) (key : Key) → m.asked q key ≡ 0) (settings : Settings) where
  goes_never : (c : Came S) (k : Session S → Play (Came S)) → ((t : Session S) → NeverAsks (k t)) → NeverAsks (if_goes c k)
  unfolding if_goes
  goes_never c k h = by c.flow
    where
      by : (flow : Flow) → NeverAsks (elim flow as (λ _. Play (Came S)) [ Goes ↦ k c.session | Jumps ↦ done c | Breaks ↦ done c | Stops _ ↦ done c ])
      by Goes = h c.session
      by Jumps = tt
      by Breaks = tt
      by (Stops _) = tt

  calls_never : (spot : Spot) (kind : CallKind) → kind ≢ Ask → (list : List ℕ) (s : Session S) → NeverAsks (calls m settings spot kind list s)
  calls_never spot kind ne [] s = tt
  calls_never spot kind ne (action ∷ list) s = (ne, λ x. goes_never (answered m settings spot kind action s x) (λ t. calls m settings spot kind list t) (calls_never spot kind ne list))

  cond_never : {A : Type 0} (b : Bool) (p q : Play A) → NeverAsks p → NeverAsks q → NeverAsks (cond b p q)
  cond_never true p q h g = h
  cond_never false p q h g = g

  deliver_never : (spot : Spot) (list : List ℕ) (s : Session S) → NeverAsks (deliver m settings spot list s)
  unfolding deliver
  deliver_never spot list s = both_never (calls m settings spot Token list (sent_home m s)) (λ c. done (cleared c)) (calls_never spot Token token_ask list (sent_home m s)) (λ c. tt)

  marked_never : (spot : Spot) (target : S) (s : Session S) → NeverAsks (marked m settings spot target s)
  unfolding marked
  marked_never spot target s =
      let u = token_kept m spot target s in
      cond_never (nat_eq (m.kind target) 3) (done (came Goes u)) (cond (nat_eq (m.kind target) 4) (deliver m settings spot (m.token target) u) (done (came Goes s))) tt
      (cond_never (nat_eq (m.kind target) 4) (deliver m settings spot (m.token target) u) (done (came Goes s)) (deliver_never spot (m.token target) u) tt)

  stepped_never : (spot : Spot) (s : Session S) (go : Go S) → NeverAsks (stepped m settings spot s go)
  unfolding stepped
  stepped_never spot s go =
      both_never (calls m settings spot Do go.list (behind spot go.target s)) (λ c. if_goes c (λ t. marked m settings spot go.target t))
      (calls_never spot Do do_ask go.list (behind spot go.target s)) (λ c. goes_never c (λ t. marked m settings spot go.target t) (marked_never spot go.target))

  missed_never : (spot : Spot) (s : Session S) → NeverAsks (missed m settings spot s)
  unfolding missed failed
  missed_never spot s = by s.kept
    where
      by : (o : Option (List ℕ)) → NeverAsks (elim o as (λ _. Play (Came S)) [ None ↦ failed m settings spot s | Some list ↦ deliver m settings spot list s ])
      by None = both_never (calls m settings spot Error (m.error s.state) (behind spot m.failed s)) (λ c. done (judged m spot c)) (calls_never spot Error error_ask (m.error s.state) (behind spot m.failed s)) (λ c. tt)
      by (Some list) = deliver_never spot list s

  chosen_never : (spot : Spot) (key : Key) (s : Session S) (hold : ℕ) → NeverAsks (chosen m settings spot key s hold)
  unfolding chosen
  chosen_never spot key s hold = by (m.find s.state key hold)
    where
      by : (o : Option (Go S)) → NeverAsks (elim o as (λ _. Play (Came S)) [ None ↦ missed m settings spot s | Some go ↦ stepped m settings spot s go ])
      by None = missed_never spot s
      by (Some go) = stepped_never spot s go

  heard_never : (s : Session S) (h : Heard) (k : ℕ → Play (Came S)) → ((hold : ℕ) → NeverAsks (k hold)) → NeverAsks (if_heard s h k)
  unfolding if_heard
  heard_never s h k f = by h.flow
    where
      by : (flow : Flow) → NeverAsks (elim flow as (λ _. Play (Came S)) [ Stops cause ↦ done (came (Stops cause) s) | _ ↦ k h.hold ])
      by Goes = f h.hold
      by Jumps = f h.hold
      by Breaks = f h.hold
      by (Stops cause) = tt

  sought_never : (spot : Spot) (key : Key) (s : Session S) → NeverAsks (sought m settings spot key s)
  unfolding sought
  sought_never spot key s =
      subst (λ asked. NeverAsks (bind (conditions spot s asked all_conditions 0) (λ h. if_heard s h (λ hold. chosen m settings spot key s hold)))) (sym (asks_none s.state key))
      (heard_never s (record { flow = Goes; hold = 0 }) (λ hold. chosen m settings spot key s hold) (chosen_never spot key s))

  finished_never : (spot : Spot) (c : Came S) → NeverAsks (finished m settings spot c)
  unfolding finished
  finished_never spot c = by c.flow
    where
      goes : NeverAsks (bind (calls m settings spot To (m.to c.session.state) c.session) (λ d. done (closed d)))
      goes = both_never (calls m settings spot To (m.to c.session.state) c.session) (λ d. done (closed d)) (calls_never spot To to_ask (m.to c.session.state) c.session) (λ d. tt)

      by : (flow : Flow) → NeverAsks (elim flow as (λ _. Play (Came S)) [
        | Stops _ ↦ done c
        | Breaks ↦ done (came Breaks (raised c.session))
        | _ ↦ bind (calls m settings spot To (m.to c.session.state) c.session) (λ d. done (closed d))
      ])
      by Goes = goes
      by Jumps = goes
      by Breaks = tt
      by (Stops _) = tt

  turn_never : (s : Session S) (character : ℕ) → NeverAsks (turn m settings s character)
  unfolding turn body
  turn_never s character =
      let spot = spot_of m settings s character in
      let u = opened m s in
      both_never (body m settings spot (m.key_of character) u) (finished m settings spot)
      (cond_never (is_overlong settings u) (done (came (Stops Overlong) u)) (bind (calls m settings spot From (m.from u.state) u) (λ c. if_goes c (λ t. sought m settings spot (m.key_of character) t))) tt
      (both_never (calls m settings spot From (m.from u.state) u) (λ c. if_goes c (λ t. sought m settings spot (m.key_of character) t)) (calls_never spot From from_ask (m.from u.state) u)
      (λ c. goes_never c (λ t. sought m settings spot (m.key_of character) t) (sought_never spot (m.key_of character)))))
      (finished_never spot)

  after_never : (b : Bool) (c : Came S) (k : Session S → Play (Rest S)) → ((t : Session S) → NeverAsks (k t)) → NeverAsks (after b c k)
  unfolding after
  after_never b c k h = by c.flow
    where
      by : (flow : Flow) → NeverAsks (elim flow as (λ _. Play (Rest S)) [
        | Goes ↦ k c.session
        | Jumps ↦ k c.session
        | Breaks ↦ cond b (done (rest (Some Broke) c.session)) (k c.session)
        | Stops cause ↦ done (rest (Some (Stopped cause)) c.session)
      ])
      by Goes = h c.session
      by Jumps = h c.session
      by Breaks = cond_never b (done (rest (Some Broke) c.session)) (k c.session) tt (h c.session)
      by (Stops cause) = tt

  ending_never : (b : Bool) (at : ℕ) (s : Session S) (k : Session S → Play (Rest S)) → ((t : Session S) → NeverAsks (k t)) → NeverAsks (ending b m settings at s k)
  unfolding ending at_kept last_list last_delivery
  ending_never b at s k h =
      cond_never (nat_lt at s.next) (done (rest (Some (Stopped PastEnd)) s)) (at_kept b m settings at s k s.kept) tt (by s.kept)
    where
      by : (o : Option (List ℕ)) → NeverAsks (at_kept b m settings at s k o)
      by (Some list) =
          both_never (last_delivery m settings at list s) (λ c. after b c k)
          (both_never (deliver m settings (end_spot settings s at false) list s) (finished m settings (end_spot settings s at false)) (deliver_never (end_spot settings s at false) list s) (finished_never (end_spot settings s at false)))
          (λ c. after_never b c k h)
      by None = both_never (calls m settings (end_spot settings s at true) Eof (m.eof s.state) s) (λ c. done (over c)) (calls_never (end_spot settings s at true) Eof eof_ask (m.eof s.state) s) (λ c. tt)

  end_never : (b : Bool) (input : Input) (k : Session S → Play (Rest S)) → ((t : Session S) → NeverAsks (k t)) →
      (s : Session S) → NeverAsks (at_end b m settings input k s)
  unfolding at_end
  end_never b input k h s =
      cond_never input.has_rest (done (rest (Some (Stopped HalfKey)) s)) (ending b m settings (end_of input) s k) tt (ending_never b (end_of input) s k h)

  letter_never : (b : Bool) (input : Input) (k : Session S → Play (Rest S)) → ((t : Session S) → NeverAsks (k t)) → (s : Session S) (o : Option ℕ) → NeverAsks (at_letter b m settings input k s o)
  unfolding at_letter
  letter_never b input k h s (Some character) = both_never (turn m settings s character) (λ c. after b c k) (turn_never s character) (λ c. after_never b c k h)
  letter_never b input k h s None = cond_never input.is_closed (at_end b m settings input k s) (done (rest (Some Wants) s)) (end_never b input k h s) tt

  turns_never : (b : Bool) (input : Input) (n : ℕ) (s : Session S) → NeverAsks (turns b m settings input n s)
  unfolding turns
  turns_never b input zero s = tt
  turns_never b input (suc n) s = letter_never b input (λ t. turns b m settings input n t) (turns_never b input n) s (letter input s.next)

  pub run_never : (b : Bool) (input : Input) (s : Session S) → NeverAsks (run_on b m settings input s)
  unfolding run_on
  run_never b input s = turns_never b input (suc (weight s)) s
