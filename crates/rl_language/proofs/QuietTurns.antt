-- A turn in a state of an expression, where no action has a control statement: it makes the automaton's step.
use Rattle.std.proofs.Common.{◌≡◌, ◌≢◌, ℕ, ◌+◌, ◌^◌, ◌<◌, true, false, cond, List, [], ◌∷◌, ◌⊎◌, inl, inr, refl, sym, ◌∙◌, ap, subst, Option, Some, None, option_map, nat_eq, nat_lt}
use Rattle.rl_labels.specs.Labels.{once}
use Rattle.rl_types.specs.declared.numbers.Key.{Key}
use Rattle.rl_types.specs.declared.numbers.Letter.{Letter}
use Rattle.rl_automata.specs.declared.moves.Move.{Move}
use Rattle.rl_automata.specs.Auto.{Auto}
use Rattle.rl_automata.specs.Laws.{AgreeOn, StepsByAsked}
use Rattle.rl_run.specs.declared.calls.Answer.{Answer}
use Rattle.rl_run.specs.declared.calls.Answer.TheVariants.{Yes, No, Picks, Stop}
use Rattle.rl_run.specs.declared.calls.CallKind.{CallKind}
use Rattle.rl_run.specs.declared.calls.Call.{Call}
use Rattle.rl_run.specs.declared.calls.CallKind.TheVariants.{From, Ask, Do, Error, To}
use Rattle.rl_run.specs.declared.calls.Pick.{Pick}
use Rattle.rl_run.specs.declared.calls.Stop.{Stop as StopCause}
use Rattle.rl_run.specs.declared.calls.Stop.TheVariants.{Stray, HostStop, ErrorState}
use Rattle.rl_run.specs.declared.sessions.Flow.TheVariants.{Goes, Jumps, Breaks, Stops}
use Rattle.rl_run.specs.declared.sessions.Heard.{Heard}
use Rattle.rl_run.specs.declared.sessions.Settings.{Settings}
use Rattle.rl_run.specs.Machine.{Go, Machine, Session}
use Rattle.rl_run.specs.declared.sessions.Spot.{Spot}
use Rattle.rl_run.specs.Picks.{Came, came, on_goes, entry_number, stated, pick_one, pick_all, takes_picks, answered}
use Rattle.rl_run.specs.Play.{Play, done, bind}
use Rattle.rl_run.specs.Turn.{if_goes, call_of, calls, conditions, all_conditions, marked, stepped, behind, judged, failed, missed, chosen, if_heard, sought, raised, closed, finished, body, spot_of, turn, token_kept, deliver}
use Rattle.rl_model.specs.Parts.{letter_of}
use Rattle.rl_language.specs.Verdicts.{IsByHost, IsAnsweredBy}
use Rattle.rl_language.proofs.Unasked.{from_ask, do_ask, error_ask, to_ask}
use Rattle.rl_language.proofs.Conditions.{EndsBy, ends_bind, HearsAll, all_heard}

-- ---- lists of actions without statements

-- it has stopped, for a cause of this sort
abbrev pub IsHeld : {S : Type 0} → (StopCause → Type 0) → Came S → Type 0
IsHeld Sort c = (cause : StopCause) × (c.flow ≡ Stops cause) × Sort cause

-- it has come to nothing but s, or has stopped so
abbrev pub Unmoved : {S : Type 0} → (StopCause → Type 0) → Session S → Came S → Type 0
Unmoved Sort s c = (c ≡ came Goes s) ⊎ IsHeld Sort c

-- what goes on after a part that stopped is that part
pub if_goes_held : {S : Type 0} (Sort : StopCause → Type 0) (c : Came S) (k : Session S → Play (Came S)) → IsHeld Sort c → if_goes c k ≡ done c
unfolding if_goes
if_goes_held {S} Sort c k (cause, e, h) = subst (λ flow. (elim flow as (λ _. Play (Came S)) [ Goes ↦ k c.session | Jumps ↦ done c | Breaks ↦ done c | Stops _ ↦ done c ]) ≡ done c) (sym e) refl

on_goes_held : {S : Type 0} (Sort : StopCause → Type 0) (c : Came S) (k : Session S → Came S) → IsHeld Sort c → on_goes c k ≡ c
on_goes_held {S} Sort c k (cause, e, h) = subst (λ flow. (elim flow as (λ _. Came S) [ Goes ↦ k c.session | Jumps ↦ c | Breaks ↦ c | Stops _ ↦ c ]) ≡ c) (sym e) refl

module _ {S : Type 0} (m : Machine S) (quiet : (action n : ℕ) → m.statement action n ≡ None) (settings : Settings) (spot : Spot) where
  pick_held : (stray : StopCause) → IsByHost stray → (action : ℕ) (s : Session S) (pick : Pick) → IsHeld IsByHost (pick_one m settings spot stray action s pick)
  pick_held stray h action s pick =
      subst (λ o. IsHeld IsByHost (elim o as (λ _. Came S) [ None ↦ came (Stops stray) s | Some statement ↦ stated m settings spot stray pick s (entry_number statement.entry) statement.kind pick.goal ])) (sym (quiet action pick.statement))
      (stray, refl, h)

  picks_unmoved : (stray : StopCause) → IsByHost stray → (action : ℕ) (picks : List (Option Pick)) (s : Session S) → Unmoved IsByHost s (pick_all m settings spot stray action picks s)
  picks_unmoved stray h action [] s = inl refl
  picks_unmoved stray h action (None ∷ picks) s = inl refl
  picks_unmoved stray h action (Some pick ∷ picks) s =
      let held = pick_held stray h action s pick in
      inr (subst (λ c. IsHeld IsByHost c) (sym (on_goes_held IsByHost (pick_one m settings spot stray action s pick) (λ t. pick_all m settings spot stray action picks t) held)) held)

  pub answered_unmoved : (kind : CallKind) (action : ℕ) (s : Session S) (x : Answer) → Unmoved IsByHost s (answered m settings spot kind action s x)
  answered_unmoved kind action s Yes = inl refl
  answered_unmoved kind action s No = inr (Stray No, refl, tt)
  answered_unmoved kind action s (Picks picks) =
      elim (takes_picks kind) as (λ b. Unmoved IsByHost s (cond b (pick_all m settings spot (Stray (Picks picks)) action picks s) (came (Stops (Stray (Picks picks))) s))) [
        | true ↦ picks_unmoved (Stray (Picks picks)) tt action picks s
        | false ↦ inr (Stray (Picks picks), refl, tt)
      ]
  answered_unmoved kind action s Stop = inr (HostStop, refl, tt)

-- The answers of this sort: a condition is answered as it holds, and to a list's calls they do nothing, or stop the
-- session for a cause of a sort.
pub record AreQuiet {S : Type 0} (m : Machine S) (settings : Settings) (truths : ℕ → ℕ) (Fits : Call → Answer → Type 0) (Sort : StopCause → Type 0) : Type 0 where
  pub asks : (c : Call) (x : Answer) → Fits c x → IsAnsweredBy truths c x
  pub lists : (spot : Spot) (kind : CallKind) → kind ≢ Ask → (action : ℕ) (s : Session S) (x : Answer) → Fits (call_of spot kind action s) x → Unmoved Sort s (answered m settings spot kind action s x)

module _ {S : Type 0} (m : Machine S) (settings : Settings) (truths : ℕ → ℕ) (Fits : Call → Answer → Type 0) (Sort : StopCause → Type 0) (answers : AreQuiet m settings truths Fits Sort) (spot : Spot) where
  pub calls_unmoved : (kind : CallKind) → kind ≢ Ask → (list : List ℕ) (s : Session S) → EndsBy Fits (Unmoved Sort s) (calls m settings spot kind list s)
  unfolding if_goes
  calls_unmoved kind ne [] s = inl refl
  calls_unmoved kind ne (action ∷ list) s = λ x e. by (calls_unmoved kind ne list s) (answered m settings spot kind action s x) (answers.lists spot kind ne action s x e)
    where
      by : EndsBy Fits (Unmoved Sort s) (calls m settings spot kind list s) → (c : Came S) → Unmoved Sort s c → EndsBy Fits (Unmoved Sort s) (if_goes c (λ t. calls m settings spot kind list t))
      by rest c (inl e) = subst (λ d. EndsBy Fits (Unmoved Sort s) (if_goes d (λ t. calls m settings spot kind list t))) (sym e) rest
      by rest c (inr h) = subst (EndsBy Fits (Unmoved Sort s)) (sym (if_goes_held Sort c (λ t. calls m settings spot kind list t) h)) (inr h)

  -- behind a list the session is as before, or has stopped so
  pub after_calls : {B : Type 0} (Q : B → Type 0) (kind : CallKind) → kind ≢ Ask → (list : List ℕ) (s : Session S) (k : Came S → Play B)
      → EndsBy Fits Q (k (came Goes s)) → ((c : Came S) → IsHeld Sort c → EndsBy Fits Q (k c)) → EndsBy Fits Q (bind (calls m settings spot kind list s) k)
  after_calls Q kind ne list s k goes held = ends_bind Fits (Unmoved Sort s) Q (calls m settings spot kind list s) k (calls_unmoved kind ne list s) (λ c u. by c u)
    where
      by : (c : Came S) → Unmoved Sort s c → EndsBy Fits Q (k c)
      by c (inl e) = subst (λ d. EndsBy Fits Q (k d)) (sym e) goes
      by c (inr h) = held c h

-- ---- a machine that shows an automaton

-- the step of the automaton, as the machine finds it
abbrev pub go_of : {C S : Type 0} → (C → S) → Move C → Go S
go_of place n = record { target = place n.to; list = once n.carry.actions }

-- at the places of its configurations the machine shows the automaton
pub record Shows {C S : Type 0} (A : Auto C) (m : Machine S) (place : C → S) : Type 0 where
  pub kind : (c : C) → m.kind (place c) ≡ 0
  pub asked : (c : C) (key : Key) → m.asked (place c) key ≡ A.asked c key.0
  pub find : (c : C) (key : Key) (hold : ℕ) → m.find (place c) key hold ≡ option_map (go_of place) (A.step c (letter_of key hold))
  pub final : (c : C) → m.final (place c) ≡ A.final c
  pub is_failed : m.is_failed m.failed ≡ true
  pub needs : StepsByAsked A

-- a session in a state outside scanners, that has called nothing
abbrev pub standing : {S : Type 0} → S → ℕ → ℕ → ℕ → Session S
standing q p furthest backs = record { state = q; next = p; stack = []; ts = None; te = None; kept = None; furthest = furthest; backs = backs }

module _ {C S : Type 0} (A : Auto C) (m : Machine S) (place : C → S) (shows : Shows A m place) (settings : Settings) (truths : ℕ → ℕ) (low : (p : ℕ) → truths p < 2 ^ 8) (Fits : Call → Answer → Type 0) (Sort : StopCause → Type 0) (answers : AreQuiet m settings truths Fits Sort) where
  -- what a turn at this letter comes to: an answer stops it so, or it stops where there is no step, or it makes the step
  pub data Turned (c : C) (l : Letter) (p : ℕ) (x : Came S) : Type 0 where
    held : IsHeld Sort x → Turned c l p x
    stuck : A.step c l ≡ None → x.flow ≡ Stops ErrorState → Turned c l p x
    went : (n : Move C) (furthest backs : ℕ) → A.step c l ≡ Some n → x ≡ came Goes (standing (place n.to) (p + 1) furthest backs) → Turned c l p x

  -- ---- the end of a turn

  finished_stops : (Q : Came S → Type 0) (spot : Spot) (c : Came S) (cause : StopCause) → c.flow ≡ Stops cause → Q c → EndsBy Fits Q (finished m settings spot c)
  unfolding finished
  finished_stops Q spot c cause e q =
      subst (λ flow. EndsBy Fits Q (elim flow as (λ _. Play (Came S)) [
        | Stops _ ↦ done c
        | Breaks ↦ done (came Breaks (raised c.session))
        | _ ↦ bind (calls m settings spot To (m.to c.session.state) c.session) (λ d. done (closed d))
      ])) (sym e) q

  closed_held : (c : Came S) → IsHeld Sort c → closed c ≡ c
  closed_held c (cause, e, h) = subst (λ flow. (elim flow as (λ _. Came S) [ Stops _ ↦ c | _ ↦ came Goes (raised c.session) ]) ≡ c) (sym e) refl

  module _ (c : C) (l : Letter) (p : ℕ) where
    raised_went : (n : Move C) → A.step c l ≡ Some n → (furthest backs : ℕ) → Turned c l p (closed (came Goes (standing (place n.to) (p + 1) furthest backs)))
    raised_went n e furthest backs =
        elim (nat_lt furthest (p + 1)) as (λ b. Turned c l p (came Goes (cond b (standing (place n.to) (p + 1) (p + 1) 0) (standing (place n.to) (p + 1) furthest backs)))) [
          | true ↦ went n (p + 1) 0 e refl
          | false ↦ went n furthest backs e refl
        ]

    finished_turned : (spot : Spot) (x : Came S) → Turned c l p x → EndsBy Fits (Turned c l p) (finished m settings spot x)
    unfolding finished
    finished_turned spot x (held h) = finished_stops (Turned c l p) spot x h.0 h.1 (held h)
    finished_turned spot x (stuck e f) = finished_stops (Turned c l p) spot x ErrorState f (stuck e f)
    finished_turned spot x (went n furthest backs e same) =
        let s = standing (place n.to) (p + 1) furthest backs in
        subst (λ y. EndsBy Fits (Turned c l p) (finished m settings spot y)) (sym same)
        (after_calls m settings truths Fits Sort answers spot (Turned c l p) To to_ask (m.to (place n.to)) s (λ d. done (closed d))
        (raised_went n e furthest backs)
        (λ d h. subst (Turned c l p) (sym (closed_held d h)) (held h)))

  -- ---- the step

  judged_held : (spot : Spot) (x : Came S) → IsHeld Sort x → judged m spot x ≡ x
  judged_held spot x (cause, e, h) =
      subst (λ flow. (elim flow as (λ _. Came S) [
        | Stops _ ↦ x
        | _ ↦ cond (m.is_failed x.session.state) (came (Stops ErrorState) (record x.session { next = spot.at })) x
      ]) ≡ x) (sym e) refl

  module _ (c : C) (key : Key) (p furthest backs : ℕ) (spot : Spot) (here : spot.at ≡ p) where
    abbrev l : Letter
    l = record { key = key.0; truths = truths p }

    abbrev s : Session S
    s = standing (place c) p furthest backs

    not_found : A.step c l ≡ None → EndsBy Fits (Turned c l p) (missed m settings spot s)
    unfolding missed failed
    not_found e =
        after_calls m settings truths Fits Sort answers spot (Turned c l p) Error error_ask (m.error (place c)) (behind spot m.failed s) (λ x. done (judged m spot x))
        (subst (λ b. Turned c l p (cond b (came (Stops ErrorState) (record (behind spot m.failed s) { next = spot.at })) (came Goes (behind spot m.failed s)))) (sym shows.is_failed) (stuck e refl))
        (λ x h. subst (Turned c l p) (sym (judged_held spot x h)) (held h))

    not_marked : (n : Move C) → A.step c l ≡ Some n → EndsBy Fits (Turned c l p) (marked m settings spot (place n.to) (behind spot (place n.to) s))
    unfolding marked
    not_marked n e =
        let u = behind spot (place n.to) s in
        subst (λ k. EndsBy Fits (Turned c l p) (cond (nat_eq k 3) (done (came Goes (token_kept m spot (place n.to) u)))
        (cond (nat_eq k 4) (deliver m settings spot (m.token (place n.to)) (token_kept m spot (place n.to) u)) (done (came Goes u))))) (sym (shows.kind n.to))
        (went n furthest backs e (ap (λ j. came Goes (standing (place n.to) (j + 1) furthest backs)) here))

    found : (n : Move C) → A.step c l ≡ Some n → EndsBy Fits (Turned c l p) (stepped m settings spot s (go_of place n))
    unfolding stepped if_goes
    found n e =
        after_calls m settings truths Fits Sort answers spot (Turned c l p) Do do_ask (once n.carry.actions) (behind spot (place n.to) s) (λ x. if_goes x (λ t. marked m settings spot (place n.to) t))
        (not_marked n e)
        (λ x h. subst (EndsBy Fits (Turned c l p)) (sym (if_goes_held Sort x (λ t. marked m settings spot (place n.to) t) h)) (held h))

    chosen_turned : (hold : ℕ) → A.step c (letter_of key hold) ≡ A.step c l → EndsBy Fits (Turned c l p) (chosen m settings spot key s hold)
    unfolding chosen
    chosen_turned hold same =
        subst (λ o. EndsBy Fits (Turned c l p) (elim o as (λ _. Play (Came S)) [ None ↦ missed m settings spot s | Some go ↦ stepped m settings spot s go ]))
        (sym (shows.find c key hold ∙ ap (option_map (go_of place)) same)) (by (A.step c l) refl)
      where
        by : (o : Option (Move C)) → A.step c l ≡ o → EndsBy Fits (Turned c l p) (elim (option_map (go_of place) o) as (λ _. Play (Came S)) [ None ↦ missed m settings spot s | Some go ↦ stepped m settings spot s go ])
        by None e = not_found e
        by (Some n) e = found n e

    -- what was heard gives the step that all truths give
    same_step : (h : Heard) (a : HearsAll Fits truths answers.asks spot s (m.asked (place c) key) (low spot.at) h) → A.step c (letter_of key a.hold) ≡ A.step c l
    same_step h a = sym (shows.needs c key.0 (truths p) a.hold (low p) a.small
        (subst (λ i. AgreeOn (A.asked c key.0) (truths i) a.hold) here (subst (λ n. AgreeOn n (truths spot.at) a.hold) (shows.asked c key) a.agree)))

    sought_turned : EndsBy Fits (Turned c l p) (sought m settings spot key s)
    unfolding sought if_heard
    sought_turned =
        ends_bind Fits (HearsAll Fits truths answers.asks spot s (m.asked (place c) key) (low spot.at)) (Turned c l p) (conditions spot s (m.asked (place c) key) all_conditions 0)
        (λ h. if_heard s h (λ hold. chosen m settings spot key s hold)) (all_heard Fits truths answers.asks spot s (m.asked (place c) key) (low spot.at))
        (λ h a. subst (λ x. EndsBy Fits (Turned c l p) (if_heard s x (λ hold. chosen m settings spot key s hold))) (sym a.is) (chosen_turned a.hold (same_step h a)))

    turned_body : EndsBy Fits (Turned c l p) (body m settings spot key s)
    unfolding body if_goes
    turned_body =
        after_calls m settings truths Fits Sort answers spot (Turned c l p) From from_ask (m.from (place c)) s (λ x. if_goes x (λ t. sought m settings spot key t))
        sought_turned
        (λ x h. subst (EndsBy Fits (Turned c l p)) (sym (if_goes_held Sort x (λ t. sought m settings spot key t) h)) (held h))

  pub turn_turns : (c : C) (character p furthest backs : ℕ) →
      EndsBy Fits (Turned c (record { key = (m.key_of character).0; truths = truths p }) p) (turn m settings (standing (place c) p furthest backs) character)
  unfolding turn
  turn_turns c character p furthest backs =
      let s = standing (place c) p furthest backs in
      let l : Letter = record { key = (m.key_of character).0; truths = truths p } in
      let spot = spot_of m settings s character in
      subst (λ u. EndsBy Fits (Turned c l p) (bind (body m settings spot (m.key_of character) u) (finished m settings spot)))
      (sym (ap (λ k. cond (nat_eq k 1) (record s { ts = Some p; te = None; kept = None }) s) (shows.kind c)))
      (ends_bind Fits (Turned c l p) (Turned c l p) (body m settings spot (m.key_of character) s) (finished m settings spot)
      (turned_body c (m.key_of character) p furthest backs spot refl) (λ x t. finished_turned c l p spot x t))
