-- A turn in a scanner, where no action has a control statement: it reads one letter more of a token, or delivers the token
-- that was found and goes back to its end.
use Rattle.std.proofs.Common.{◌≡◌, ℕ, ◌+◌, ◌-◌, ◌^◌, ◌<◌, Bool, true, false, cond, List, [], ◌∷◌, ◌++◌, inl, inr, refl, sym, ◌∙◌, ap, subst, append-nil, length-append, Option, Some, None, option_map, nat_eq, nat_lt, length, arith}
use Rattle.rl_labels.specs.Labels.{once}
use Rattle.rl_types.specs.declared.numbers.Key.{Key}
use Rattle.rl_types.specs.declared.numbers.Letter.{Letter}
use Rattle.rl_automata.specs.declared.moves.Move.{Move}
use Rattle.rl_automata.specs.Auto.{Auto, is_start}
use Rattle.rl_automata.specs.Follows.{Reach, begun, went}
use Rattle.rl_automata.specs.Laws.{AgreeOn, StepsByAsked}
use Rattle.rl_run.specs.declared.calls.Answer.{Answer}
use Rattle.rl_run.specs.declared.calls.Call.{Call}
use Rattle.rl_run.specs.declared.calls.CallKind.TheVariants.{From, Do, Error, To, Token}
use Rattle.rl_run.specs.declared.calls.Stop.{Stop as StopCause}
use Rattle.rl_run.specs.declared.calls.Stop.TheVariants.{ErrorState, Overlong}
use Rattle.rl_run.specs.declared.sessions.Flow.TheVariants.{Goes, Breaks, Stops}
use Rattle.rl_run.specs.declared.sessions.Heard.{Heard}
use Rattle.rl_run.specs.declared.sessions.Settings.{Settings}
use Rattle.rl_run.specs.declared.sessions.Spot.{Spot}
use Rattle.rl_run.specs.Machine.{Machine, Session}
use Rattle.rl_run.specs.Picks.{Came, came}
use Rattle.rl_run.specs.Play.{Play, done, bind}
use Rattle.rl_run.specs.Turn.{if_goes, calls, conditions, all_conditions, cleared, sent_home, deliver, token_kept, marked, behind, stepped, judged, failed, missed, chosen, if_heard, sought, raised, closed, finished, opened, is_overlong, body, spot_of, turn}
use Rattle.rl_model.specs.Parts.{Part, letter_of}
use Rattle.rl_language.specs.Scanners.{Leads, last_match}
use Rattle.rl_language.specs.Tokens.{TokenLine, lines_of}
use Rattle.rl_language.proofs.Conditions.{HearsAll, all_heard}
use Rattle.rl_language.proofs.LongestMatch.{last_stuck, last_new, last_closed}
use Rattle.rl_language.proofs.QuietTurns.{AreQuiet, IsHeld, if_goes_held, go_of}
use Rattle.rl_language.proofs.TokenPlays.{EndsTold, told_bind, quietly_told, conditions_none, after_others, IsListTold, token_calls}
use Rattle.rl_language.proofs.Unasked.{from_ask, do_ask, error_ask, to_ask}

-- ---- a machine that shows a scanner

-- at the places of its configurations the machine shows the scanner
pub record ShowsScanner {C S : Type 0} (p : Part C) (m : Machine S) (place : C → S) : Type 0 where
  pub kind : (c : C) → m.kind (place c) ≡ cond (is_start p.auto c) 1 (cond (p.auto.final c) (cond (p.closed c) 4 3) 2)
  pub asked : (c : C) (key : Key) → m.asked (place c) key ≡ p.auto.asked c key.0
  pub find : (c : C) (key : Key) (hold : ℕ) → m.find (place c) key hold ≡ option_map (go_of place) (p.auto.step c (letter_of key hold))
  pub token : (c : C) → m.token (place c) ≡ p.token c
  pub home : (c : C) → m.home (place c) ≡ place p.auto.start
  pub final : (c : C) → m.final (place c) ≡ is_start p.auto c
  pub is_failed : m.is_failed m.failed ≡ true
  pub needs : StepsByAsked p.auto
  pub begins : is_start p.auto p.auto.start ≡ true
  pub left : (c : C) (l : Letter) (n : Move C) → p.auto.step c l ≡ Some n → is_start p.auto n.to ≡ false
  pub closed : (c : C) → Reach p.auto c → p.closed c ≡ true → (l : Letter) → p.auto.step c l ≡ None

pub leads_reach : {C : Type 0} (A : Auto C) (w : List Letter) (s c : C) → Reach A s → Leads A w s c → Reach A c
leads_reach A [] s c r e = subst (Reach A) e r
leads_reach A (l ∷ w) s c r (m, e, h) = leads_reach A w m.to c (went r l m e) h

-- where a token begins, once one letter of it is read
abbrev pub open_at : ℕ → List Letter → Option ℕ
open_at b [] = None
open_at b (l ∷ w) = Some b

pub open_after : (b : ℕ) (w : List Letter) (l : Letter) → open_at b (w ++ l ∷ []) ≡ Some b
open_after b [] l = refl
open_after b (j ∷ w) l = refl

-- where a match ends, and its token list
abbrev pub end_of_match : ℕ → Option (List Letter × List ℕ) → Option ℕ
end_of_match b found = option_map (λ x. b + length x.0) found

abbrev pub list_of_match : Option (List Letter × List ℕ) → Option (List ℕ)
list_of_match found = option_map (λ x. x.1) found

-- a session that has read the word from b on, with what it has found
abbrev pub reading : {S : Type 0} → S → ℕ → ℕ → Option ℕ → Option (List Letter × List ℕ) → ℕ → ℕ → Session S
reading q b p ts found furthest backs =
    record { state = q; next = p; stack = []; ts = ts; te = end_of_match b found; kept = list_of_match found; furthest = furthest; backs = backs }

module _ {C S : Type 0} (p : Part C) (m : Machine S) (place : C → S) (shows : ShowsScanner p m place) (settings : Settings) (truths : ℕ → ℕ) (low : (at : ℕ) → truths at < 2 ^ 8) (Fits : Call → Answer → Type 0) (Sort : StopCause → Type 0) (answers : AreQuiet m settings truths Fits Sort) where
  abbrev A : Auto C
  A = p.auto

  -- what is found so far
  abbrev pub found_in : List Letter → Option (List Letter × List ℕ)
  found_in w = last_match p w p.auto.start

  -- What a turn at this letter comes to, behind a word that was read from b on: an answer stops it so; or it stops, where
  -- there is no step and nothing is found; or it makes the step; or it delivers what is found of all that goes on, and
  -- stands at its end.
  pub data Turned (b : ℕ) (w : List Letter) (c : C) (l : Letter) (lines : List TokenLine) (x : Came S) : Type 0 where
    held : IsHeld Sort x → Turned b w c l lines x
    stuck : p.auto.step c l ≡ None → found_in w ≡ None → lines ≡ [] → x.flow ≡ Stops ErrorState → Turned b w c l lines x
    went_on : (n : Move C) (furthest backs : ℕ) → p.auto.step c l ≡ Some n → lines ≡ []
        → x ≡ came Goes (reading (place n.to) b (b + length w + 1) (Some b) (found_in (w ++ l ∷ [])) furthest backs) → Turned b w c l lines x
    cut : (u : List Letter) (actions : List ℕ) (furthest backs : ℕ) → ((v : List Letter) → found_in (w ++ l ∷ v) ≡ Some (u, actions)) → lines ≡ lines_of b (b + length u) actions
        → x ≡ came Goes (reading (place p.auto.start) (b + length u) (b + length u) None None furthest backs) → Turned b w c l lines x

  -- ---- the end of a turn

  pub finished_stops : (Q : List TokenLine → Came S → Type 0) (spot : Spot) (c : Came S) (cause : StopCause) → c.flow ≡ Stops cause → Q [] c → EndsTold Fits Q (finished m settings spot c)
  unfolding finished
  finished_stops Q spot c cause e q =
      subst (λ flow. EndsTold Fits Q (elim flow as (λ _. Play (Came S)) [
        | Stops _ ↦ done c
        | Breaks ↦ done (came Breaks (raised c.session))
        | _ ↦ bind (calls m settings spot To (m.to c.session.state) c.session) (λ d. done (closed d))
      ])) (sym e) q

  closed_held : (c : Came S) → IsHeld Sort c → closed c ≡ c
  closed_held c (cause, e, h) = subst (λ flow. (elim flow as (λ _. Came S) [ Stops cause ↦ c | _ ↦ came Goes (raised c.session) ]) ≡ c) (sym e) refl

  -- behind a turn that goes on, whatever was the greatest position
  pub finished_goes : (Q : List TokenLine → Came S → Type 0) (spot : Spot) (q : S) (b at : ℕ) (ts : Option ℕ) (found : Option (List Letter × List ℕ)) (furthest backs : ℕ)
      → ((further back : ℕ) → Q [] (came Goes (reading q b at ts found further back))) → ((c : Came S) → IsHeld Sort c → Q [] c)
      → EndsTold Fits Q (finished m settings spot (came Goes (reading q b at ts found furthest backs)))
  unfolding finished
  finished_goes Q spot q b at ts found furthest backs goes stops =
      let s = reading q b at ts found furthest backs in
      after_others m settings truths Fits Sort answers spot Q To to_ask refl (m.to q) s (λ d. done (closed d))
      (elim (nat_lt furthest at) as (λ t. Q [] (came Goes (cond t (reading q b at ts found at 0) s))) [ true ↦ goes at 0 | false ↦ goes furthest backs ])
      (λ d h. subst (Q []) (sym (closed_held d h)) (stops d h))

  finished_turned : (b : ℕ) (w : List Letter) (c : C) (l : Letter) (spot : Spot) (lines : List TokenLine) (x : Came S) → Turned b w c l lines x → EndsTold Fits (λ more y. Turned b w c l (lines ++ more) y) (finished m settings spot x)
  finished_turned b w c l spot lines x (held h) = finished_stops (λ more y. Turned b w c l (lines ++ more) y) spot x h.0 h.1 (held h)
  finished_turned b w c l spot lines x (stuck e f n g) = finished_stops (λ more y. Turned b w c l (lines ++ more) y) spot x ErrorState g (stuck e f (append-nil lines ∙ n) g)
  finished_turned b w c l spot lines x (went_on n furthest backs e none same) =
      subst (λ y. EndsTold Fits (λ more y. Turned b w c l (lines ++ more) y) (finished m settings spot y)) (sym same)
      (finished_goes (λ more y. Turned b w c l (lines ++ more) y) spot (place n.to) b (b + length w + 1) (Some b) (found_in (w ++ l ∷ [])) furthest backs
      (λ further back. went_on n further back e (append-nil lines ∙ none) refl) (λ d h. held h))
  finished_turned b w c l spot lines x (cut u actions furthest backs e told same) =
      subst (λ y. EndsTold Fits (λ more y. Turned b w c l (lines ++ more) y) (finished m settings spot y)) (sym same)
      (finished_goes (λ more y. Turned b w c l (lines ++ more) y) spot (place p.auto.start) (b + length u) (b + length u) None None furthest backs
      (λ further back. cut u actions further back e (append-nil lines ∙ told) refl) (λ d h. held h))

  -- ---- tokens

  cleared_held : (c : Came S) → IsHeld Sort c → cleared c ≡ c
  cleared_held c (cause, e, h) =
      subst (λ flow. (elim flow as (λ _. Came S) [ Stops cause ↦ c | _ ↦ came c.flow (record c.session { ts = None; te = None; kept = None }) ]) ≡ c) (sym e) refl

  -- what was found is delivered, and the session stands at its end
  pub delivered : (Q : List TokenLine → Came S → Type 0) (spot : Spot) (q : S) (b next te : ℕ) (kept : Option (List ℕ)) (actions : List ℕ) (furthest backs : ℕ) → m.home q ≡ place p.auto.start
      → Q (lines_of b te actions) (came Goes (reading (place p.auto.start) te te None None furthest backs)) → ((lines : List TokenLine) (c : Came S) → IsHeld Sort c → Q lines c)
      → EndsTold Fits Q (deliver m settings spot actions (record { state = q; next = next; stack = []; ts = Some b; te = Some te; kept = kept; furthest = furthest; backs = backs }))
  unfolding deliver
  delivered Q spot q b next te kept actions furthest backs home goes stops =
      let t : Session S = record { state = q; next = next; stack = []; ts = Some b; te = Some te; kept = kept; furthest = furthest; backs = backs } in
      told_bind Fits (IsListTold m settings truths Fits Sort answers spot (sent_home m t) actions) Q (calls m settings spot Token actions (sent_home m t)) (λ c. done (cleared c))
      (token_calls m settings truths Fits Sort answers spot actions (sent_home m t)) (λ lines c h. by lines c h)
    where
      by : (lines : List TokenLine) (c : Came S)
          → IsListTold m settings truths Fits Sort answers spot (record { state = m.home q; next = te; stack = []; ts = Some b; te = Some te; kept = kept; furthest = furthest; backs = backs }) actions lines c
          → Q (lines ++ []) (cleared c)
      by lines c (inl (e, same)) =
          subst (λ xs. Q xs (cleared c)) (sym (append-nil lines ∙ e))
          (subst (λ d. Q (lines_of b te actions) (cleared d)) (sym same)
          (subst (λ home. Q (lines_of b te actions) (came Goes (reading home te te None None furthest backs))) (sym home) goes))
      by lines c (inr h) = subst (Q (lines ++ [])) (sym (cleared_held c h)) (stops (lines ++ []) c h)

  judged_held : (spot : Spot) (x : Came S) → IsHeld Sort x → judged m spot x ≡ x
  judged_held spot x (cause, e, h) =
      subst (λ flow. (elim flow as (λ _. Came S) [
        | Stops _ ↦ x
        | _ ↦ cond (m.is_failed x.session.state) (came (Stops ErrorState) (record x.session { next = spot.at })) x
      ]) ≡ x) (sym e) refl

  -- ---- the step

  module _ (b : ℕ) (w : List Letter) (c : C) (led : Leads p.auto w p.auto.start c) (key : Key) (furthest backs : ℕ) (spot : Spot) (here : spot.at ≡ b + length w) where
    abbrev at : ℕ
    at = b + length w

    abbrev l : Letter
    l = record { key = key.0; truths = truths at }

    abbrev s : Session S
    s = reading (place c) b at (Some b) (found_in w) furthest backs

    not_found : p.auto.step c l ≡ None → EndsTold Fits (Turned b w c l) (missed m settings spot s)
    unfolding missed failed
    not_found e = by (found_in w) refl
      where
        by : (o : Option (List Letter × List ℕ)) → found_in w ≡ o → EndsTold Fits (Turned b w c l)
            (elim (list_of_match o) as (λ _. Play (Came S)) [ None ↦ failed m settings spot (reading (place c) b at (Some b) o furthest backs) | Some list ↦ deliver m settings spot list (reading (place c) b at (Some b) o furthest backs) ])
        by None none =
            let t = reading (place c) b at (Some b) None furthest backs in
            after_others m settings truths Fits Sort answers spot (Turned b w c l) Error error_ask refl (m.error (place c)) (behind spot m.failed t) (λ x. done (judged m spot x))
            (subst (λ q. Turned b w c l [] (cond q (came (Stops ErrorState) (record (behind spot m.failed t) { next = spot.at })) (came Goes (behind spot m.failed t)))) (sym shows.is_failed) (stuck e none refl refl))
            (λ x h. subst (Turned b w c l []) (sym (judged_held spot x h)) (held h))
        by (Some (u, actions)) some =
            delivered (Turned b w c l) spot (place c) b at (b + length u) (Some actions) actions furthest backs (shows.home c)
            (cut u actions furthest backs (λ v. last_stuck p w v p.auto.start c l led e ∙ some) refl refl) (λ lines x h. held h)

    module _ (n : Move C) (e : p.auto.step c l ≡ Some n) where
      kind_there : m.kind (place n.to) ≡ cond (p.auto.final n.to) (cond (p.closed n.to) 4 3) 2
      kind_there = shows.kind n.to ∙ ap (λ t. cond t 1 (cond (p.auto.final n.to) (cond (p.closed n.to) 4 3) 2)) (shows.left c l n e)

      abbrev longer : List Letter
      longer = w ++ l ∷ []

      longer_by : b + length (w ++ l ∷ []) ≡ spot.at + 1
      longer_by = let size : length (w ++ l ∷ []) ≡ length w + length (l ∷ []) = length-append w (l ∷ []) in omega (arith, here, size)

      abbrev u : Session S
      u = behind spot (place n.to) s

      goes : (found : Option (List Letter × List ℕ)) → found_in longer ≡ found → Turned b w c l [] (came Goes (reading (place n.to) b (spot.at + 1) (Some b) found furthest backs))
      goes found same = went_on n furthest backs e refl (λ i. came Goes (reading (place n.to) b (here i + 1) (Some b) (sym same i) furthest backs))

      token_goes : p.auto.final n.to ≡ true → Turned b w c l [] (came Goes (token_kept m spot (place n.to) u))
      token_goes fin =
          let new : found_in longer ≡ Some (longer, p.token n.to) = last_new p w p.auto.start c l n led e ∙ ap (λ t. cond t (Some (longer, p.token n.to)) (found_in w)) fin in
          subst (λ x. Turned b w c l [] (came Goes x))
          (λ i. record u { te = Some (longer_by i); kept = Some (sym (shows.token n.to) i) })
          (goes (Some (longer, p.token n.to)) new)

      at_once : p.auto.final n.to ≡ true → p.closed n.to ≡ true → EndsTold Fits (Turned b w c l) (deliver m settings spot (m.token (place n.to)) (token_kept m spot (place n.to) u))
      at_once fin closed =
          subst (λ xs. EndsTold Fits (Turned b w c l) (deliver m settings spot xs (record u { te = Some (spot.at + 1); kept = Some xs }))) (sym (shows.token n.to))
          (delivered (Turned b w c l) spot (place n.to) b (spot.at + 1) (spot.at + 1) (Some (p.token n.to)) (p.token n.to) furthest backs (shows.home n.to)
          (subst (λ te. Turned b w c l (lines_of b te (p.token n.to)) (came Goes (reading (place p.auto.start) te te None None furthest backs))) longer_by
          (cut longer (p.token n.to) furthest backs
          (λ v. last_closed p w v p.auto.start c l n led e fin (shows.closed n.to (went (leads_reach p.auto w p.auto.start c begun led) l n e) closed)) refl refl))
          (λ lines x h. held h))

      step_marked : EndsTold Fits (Turned b w c l) (marked m settings spot (place n.to) u)
      unfolding marked
      step_marked =
          subst (λ k. EndsTold Fits (Turned b w c l) (cond (nat_eq k 3) (done (came Goes (token_kept m spot (place n.to) u)))
          (cond (nat_eq k 4) (deliver m settings spot (m.token (place n.to)) (token_kept m spot (place n.to) u)) (done (came Goes u))))) (sym kind_there)
          (by (p.auto.final n.to) (p.closed n.to) refl refl)
        where
          by : (f k : Bool) → p.auto.final n.to ≡ f → p.closed n.to ≡ k
              → EndsTold Fits (Turned b w c l) (cond (nat_eq (cond f (cond k 4 3) 2) 3) (done (came Goes (token_kept m spot (place n.to) u)))
              (cond (nat_eq (cond f (cond k 4 3) 2) 4) (deliver m settings spot (m.token (place n.to)) (token_kept m spot (place n.to) u)) (done (came Goes u))))
          by true true fin closed = at_once fin closed
          by true false fin closed = token_goes fin
          by false k fin closed = goes (found_in w) (last_new p w p.auto.start c l n led e ∙ ap (λ t. cond t (Some (longer, p.token n.to)) (found_in w)) fin)

      found_step : EndsTold Fits (Turned b w c l) (stepped m settings spot s (go_of place n))
      unfolding stepped if_goes
      found_step =
          after_others m settings truths Fits Sort answers spot (Turned b w c l) Do do_ask refl (once n.carry.actions) u (λ x. if_goes x (λ t. marked m settings spot (place n.to) t))
          step_marked
          (λ x h. subst (EndsTold Fits (Turned b w c l)) (sym (if_goes_held Sort x (λ t. marked m settings spot (place n.to) t) h)) (held h))

    chosen_turned : (hold : ℕ) → p.auto.step c (letter_of key hold) ≡ p.auto.step c l → EndsTold Fits (Turned b w c l) (chosen m settings spot key s hold)
    unfolding chosen
    chosen_turned hold same =
        subst (λ o. EndsTold Fits (Turned b w c l) (elim o as (λ _. Play (Came S)) [ None ↦ missed m settings spot s | Some go ↦ stepped m settings spot s go ]))
        (sym (shows.find c key hold ∙ ap (option_map (go_of place)) same)) (by (p.auto.step c l) refl)
      where
        by : (o : Option (Move C)) → p.auto.step c l ≡ o → EndsTold Fits (Turned b w c l) (elim (option_map (go_of place) o) as (λ _. Play (Came S)) [ None ↦ missed m settings spot s | Some go ↦ stepped m settings spot s go ])
        by None e = not_found e
        by (Some n) e = found_step n e

    -- what was heard gives the step that all truths give
    same_step : (h : Heard) (a : HearsAll Fits truths answers.asks spot s (m.asked (place c) key) (low spot.at) h) → p.auto.step c (letter_of key a.hold) ≡ p.auto.step c l
    same_step h a = sym (shows.needs c key.0 (truths at) a.hold (low at) a.small
        (subst (λ i. AgreeOn (p.auto.asked c key.0) (truths i) a.hold) here (subst (λ n. AgreeOn n (truths spot.at) a.hold) (shows.asked c key) a.agree)))

    sought_turned : EndsTold Fits (Turned b w c l) (sought m settings spot key s)
    unfolding sought if_heard
    sought_turned =
        let Heard_all = HearsAll Fits truths answers.asks spot s (m.asked (place c) key) (low spot.at) in
        told_bind Fits (λ lines h. (lines ≡ []) × Heard_all h) (Turned b w c l) (conditions spot s (m.asked (place c) key) all_conditions 0)
        (λ h. if_heard s h (λ hold. chosen m settings spot key s hold))
        (quietly_told Fits Heard_all (conditions spot s (m.asked (place c) key) all_conditions 0) (conditions_none spot s (m.asked (place c) key) all_conditions 0) (all_heard Fits truths answers.asks spot s (m.asked (place c) key) (low spot.at)))
        (λ lines h a. subst (λ xs. EndsTold Fits (λ more x. Turned b w c l (xs ++ more) x) (if_heard s h (λ hold. chosen m settings spot key s hold))) (sym a.0)
        (subst (λ x. EndsTold Fits (Turned b w c l) (if_heard s x (λ hold. chosen m settings spot key s hold))) (sym a.1.is) (chosen_turned a.1.hold (same_step h a.1))))

    turned_body : is_overlong settings s ≡ false → EndsTold Fits (Turned b w c l) (body m settings spot key s)
    unfolding body if_goes
    turned_body short =
        subst (λ t. EndsTold Fits (Turned b w c l) (cond t (done (came (Stops Overlong) s)) (bind (calls m settings spot From (m.from (place c)) s) (λ x. if_goes x (λ t. sought m settings spot key t))))) (sym short)
        (after_others m settings truths Fits Sort answers spot (Turned b w c l) From from_ask refl (m.from (place c)) s (λ x. if_goes x (λ t. sought m settings spot key t))
        sought_turned
        (λ x h. subst (EndsTold Fits (Turned b w c l)) (sym (if_goes_held Sort x (λ t. sought m settings spot key t) h)) (held h)))

  -- ---- the start of a turn

  pub led_left : (w : List Letter) (s c : C) (l : Letter) → Leads p.auto (l ∷ w) s c → is_start p.auto c ≡ false
  led_left [] s c l (n, e, h) = subst (λ d. is_start p.auto d ≡ false) h (shows.left s l n e)
  led_left (j ∷ w) s c l (n, e, h) = led_left w n.to c j h

  inner_kind : (f k : Bool) → nat_eq (cond f (cond k 4 3) 2) 1 ≡ false
  inner_kind true true = refl
  inner_kind true false = refl
  inner_kind false k = refl

  is_opened : (b : ℕ) (w : List Letter) (c : C) → Leads p.auto w p.auto.start c → (furthest backs : ℕ)
      → opened m (reading (place c) b (b + length w) (open_at b w) (found_in w) furthest backs) ≡ reading (place c) b (b + length w) (Some b) (found_in w) furthest backs
  is_opened b [] c led furthest backs =
      let t = reading (place c) b (b + length {A = Letter} []) None None furthest backs in
      ap (λ i. cond (nat_eq i 1) (record t { ts = Some (b + 0); te = None; kept = None }) t)
      (shows.kind c ∙ ap (λ q. cond q 1 (cond (p.auto.final c) (cond (p.closed c) 4 3) 2)) (ap (is_start p.auto) (sym led) ∙ shows.begins))
      ∙ ap (λ i. record t { ts = Some i }) (plus b)
    where
      plus : (b : ℕ) → b + 0 ≡ b
      plus b = omega arith
  is_opened b (l ∷ w) c led furthest backs =
      let t = reading (place c) b (b + length (l ∷ w)) (Some b) (found_in (l ∷ w)) furthest backs in
      let kind = cond (p.auto.final c) (cond (p.closed c) 4 3) 2 in
      ap (λ i. cond (nat_eq i 1) (record t { ts = Some t.next; te = None; kept = None }) t)
      (shows.kind c ∙ ap (λ q. cond q 1 kind) (led_left w p.auto.start c l led))
      ∙ ap (λ q. cond q (record t { ts = Some t.next; te = None; kept = None }) t) (inner_kind (p.auto.final c) (p.closed c))

  pub turn_turns : (b : ℕ) (w : List Letter) (c : C) → Leads p.auto w p.auto.start c → (character furthest backs : ℕ) → nat_lt settings.token_max (b + length w + 1 - b) ≡ false
      → EndsTold Fits (Turned b w c (record { key = (m.key_of character).0; truths = truths (b + length w) }))
      (turn m settings (reading (place c) b (b + length w) (open_at b w) (found_in w) furthest backs) character)
  unfolding turn
  turn_turns b w c led character furthest backs short =
      let s = reading (place c) b (b + length w) (open_at b w) (found_in w) furthest backs in
      let l : Letter = record { key = (m.key_of character).0; truths = truths (b + length w) } in
      let spot = spot_of m settings s character in
      subst (λ u. EndsTold Fits (Turned b w c l) (bind (body m settings spot (m.key_of character) u) (finished m settings spot))) (sym (is_opened b w c led furthest backs))
      (told_bind Fits (Turned b w c l) (Turned b w c l) (body m settings spot (m.key_of character) (reading (place c) b (b + length w) (Some b) (found_in w) furthest backs)) (finished m settings spot)
      (turned_body b w c led (m.key_of character) furthest backs spot refl short) (λ lines x t. finished_turned b w c l spot lines x t))
