-- A turn in a state of an expression, where no action has a control statement and each condition is answered Yes or No: it
-- makes the automaton's step on the letter at which those hold that were said to.
use Rattle.std.proofs.Common.{◌≡◌, ◌≢◌, ℕ, ◌+◌, ◌-◌, ◌^◌, Bool, true, false, cond, ◌&&◌, List, [], ◌∷◌, ◌++◌, ◌⊎◌, inl, inr, refl, sym, ◌∙◌, ap, subst, append_assoc, append-nil, Option, Some, None, option_map, nat_eq, nat_lt, bit_and, bit_or, eq-eqb, eqb-true}
use Rattle.rl_labels.specs.Labels.{once}
use Rattle.rl_types.specs.declared.numbers.Key.{Key}
use Rattle.rl_automata.specs.declared.moves.Move.{Move}
use Rattle.rl_automata.specs.Auto.{Auto}
use Rattle.rl_run.specs.declared.calls.Answer.{Answer}
use Rattle.rl_run.specs.declared.calls.Answer.TheVariants.{Yes, No}
use Rattle.rl_run.specs.declared.calls.Call.{Call}
use Rattle.rl_run.specs.declared.calls.CallKind.{CallKind}
use Rattle.rl_run.specs.declared.calls.CallKind.TheVariants.{From, Ask, Do, Error, To}
use Rattle.rl_run.specs.declared.calls.Stop.TheVariants.{ErrorState}
use Rattle.rl_run.specs.declared.sessions.Flow.TheVariants.{Goes, Breaks, Stops}
use Rattle.rl_run.specs.declared.sessions.Heard.{Heard}
use Rattle.rl_run.specs.declared.sessions.Settings.{Settings}
use Rattle.rl_run.specs.declared.sessions.Spot.{Spot}
use Rattle.rl_run.specs.Hosted.{hosted}
use Rattle.rl_run.specs.Machine.{Machine, Session}
use Rattle.rl_run.specs.Picks.{Came, came, answered}
use Rattle.rl_run.specs.Play.{Play, done, ask, bind}
use Rattle.rl_run.specs.Turn.{if_goes, call_of, calls, heard, hears, conditions, all_conditions, marked, stepped, behind, judged, failed, missed, chosen, if_heard, sought, raised, closed, finished, body, spot_of, turn, token_kept, deliver}
use Rattle.rl_model.specs.Parts.{letter_of}
use Rattle.rl_replay.specs.Host.{is_ask}
use Rattle.rl_language.specs.Replays.{is_yes, with_answer, said_by}
use Rattle.rl_language.proofs.Accepting.{is_false}
use Rattle.rl_language.proofs.QuietTurns.{Shows, go_of, standing}

-- ---- what is said on the way

-- Wherever a program may end, with answers of a sort: of what was said at each position, as it changes what was said so far, and
-- of its value.
abbrev pub EndsSaid : {A : Type 0} → (Call → Answer → Type 0) → ((ℕ → ℕ → ℕ) → A → Type 0) → Play A → Type 0
EndsSaid Fits P (done a) = P (λ at n. n) a
EndsSaid Fits P (ask c f) = (x : Answer) → Fits c x → EndsSaid Fits (λ said a. P (λ at n. said at (with_answer at n c x)) a) (f x)

pub said_weaken : {A : Type 0} (Fits : Call → Answer → Type 0) (P Q : (ℕ → ℕ → ℕ) → A → Type 0) (p : Play A) → ((said : ℕ → ℕ → ℕ) (a : A) → P said a → Q said a) → EndsSaid Fits P p → EndsSaid Fits Q p
said_weaken Fits P Q (done a) f h = f (λ at n. n) a h
said_weaken Fits P Q (ask c g) f h = λ x e.
    said_weaken Fits (λ said a. P (λ at n. said at (with_answer at n c x)) a) (λ said a. Q (λ at n. said at (with_answer at n c x)) a) (g x) (λ said a. f (λ at n. said at (with_answer at n c x)) a) (h x e)

pub said_bind : {A B : Type 0} (Fits : Call → Answer → Type 0) (P : (ℕ → ℕ → ℕ) → A → Type 0) (Q : (ℕ → ℕ → ℕ) → B → Type 0) (p : Play A) (k : A → Play B) → EndsSaid Fits P p
    → ((said : ℕ → ℕ → ℕ) (a : A) → P said a → EndsSaid Fits (λ more b. Q (λ at n. more at (said at n)) b) (k a)) → EndsSaid Fits Q (bind p k)
said_bind Fits P Q (done a) k h f = f (λ at n. n) a h
said_bind Fits P Q (ask c g) k h f = λ x e.
    said_bind Fits (λ said a. P (λ at n. said at (with_answer at n c x)) a) (λ said b. Q (λ at n. said at (with_answer at n c x)) b) (g x) k (h x e)
    (λ said a p. f (λ at n. said at (with_answer at n c x)) a p)

-- what holds wherever it may end holds against a host whose answers are of the sort
pub said_hosted : {A : Type 0} (Fits : Call → Answer → Type 0) (host : List Call → Answer) → ((past : List Call) (c : Call) → Fits c (host (past ++ c ∷ []))) → (P : (ℕ → ℕ → ℕ) → A → Type 0) (p : Play A) (past : List Call) → EndsSaid Fits P p
    → (more : List Call) × ((hosted host past p).0 ≡ past ++ more) × P (λ at n. said_by host past more at n) (hosted host past p).1
said_hosted Fits host fits P (done a) past h = ([], sym (append-nil past), h)
said_hosted Fits host fits P (ask c f) past h =
    let x = host (past ++ c ∷ []) in
    let rest = said_hosted Fits host fits (λ said a. P (λ at n. said at (with_answer at n c x)) a) (f x) (past ++ c ∷ []) (h x (fits past c)) in
    (c ∷ rest.0, rest.1 ∙ append_assoc past (c ∷ []) rest.0, rest.2)

-- nothing is said but at one position
abbrev pub Elsewhere : ℕ → (ℕ → ℕ → ℕ) → Type 0
Elsewhere p said = (at n : ℕ) → at ≢ p → said at n ≡ n

-- Answers that stop nothing: Yes or No to a condition, and to another call one that does nothing.
pub record AreCalm {S : Type 0} (m : Machine S) (settings : Settings) (Fits : Call → Answer → Type 0) : Type 0 where
  pub asks : (c : Call) (x : Answer) → Fits c x → is_ask c.kind ≡ true → (x ≡ Yes) ⊎ (x ≡ No)
  pub lists : (spot : Spot) (kind : CallKind) → is_ask kind ≡ false → (action : ℕ) (s : Session S) (x : Answer) → Fits (call_of spot kind action s) x → answered m settings spot kind action s x ≡ came Goes s

-- another call says nothing
silent : (c : Call) (x : Answer) → is_ask c.kind ≡ false → (at n : ℕ) → with_answer at n c x ≡ n
silent c x e at n = ap (λ b. cond (b && (nat_eq c.at at && is_yes x)) (bit_or n (2 ^ (c.action.0 - 1))) n) e

module _ {S : Type 0} (m : Machine S) (settings : Settings) (Fits : Call → Answer → Type 0) (calm : AreCalm m settings Fits) (spot : Spot) where
  -- behind a list of other calls the session is as before, and nothing was said
  pub after_silent : {B : Type 0} (Q : (ℕ → ℕ → ℕ) → B → Type 0) (kind : CallKind) → is_ask kind ≡ false → (list : List ℕ) (s : Session S) (k : Came S → Play B) → EndsSaid Fits Q (k (came Goes s)) → EndsSaid Fits Q (bind (calls m settings spot kind list s) k)
  unfolding if_goes
  after_silent Q kind other [] s k h = h
  after_silent {B} Q kind other (action ∷ list) s k h = λ x f.
      let c = call_of spot kind action s in
      subst (λ R. EndsSaid Fits R (bind (if_goes (answered m settings spot kind action s x) (λ t. calls m settings spot kind list t)) k))
      (λ i said b. Q (λ at n. said at (sym (silent c x other at n) i)) b)
      (subst (λ y. EndsSaid Fits Q (bind (if_goes y (λ t. calls m settings spot kind list t)) k)) (sym (calm.lists spot kind other action s x f)) (after_silent Q kind other list s k h))

  -- these are the conditions with their bits
  abbrev AreBits : List (ℕ × ℕ) → Type 0
  AreBits [] = Unit {0}
  AreBits (c ∷ cs) = (c.1 ≡ 2 ^ (c.0 - 1)) × AreBits cs

  -- what is heard is what was said at the position
  abbrev Hears : ℕ → (ℕ → ℕ → ℕ) → Heard → Type 0
  Hears hold said h = (h ≡ heard Goes (said spot.at hold)) × Elsewhere spot.at said

  module _ (s : Session S) (asked : ℕ) where
    said_yes : (c : ℕ × ℕ) → c.1 ≡ 2 ^ (c.0 - 1) → (hold : ℕ) → with_answer spot.at hold (call_of spot Ask c.0 s) Yes ≡ bit_or hold c.1
    said_yes c bit hold =
        ap (λ b. cond (b && true) (bit_or hold (2 ^ (c.0 - 1))) hold) (eq-eqb spot.at spot.at refl) ∙ ap (bit_or hold) (sym bit)

    said_no : (c : ℕ × ℕ) (at hold : ℕ) → with_answer at hold (call_of spot Ask c.0 s) No ≡ hold
    said_no c at hold = by (nat_eq spot.at at)
      where
        by : (b : Bool) → cond (b && false) (bit_or hold (2 ^ (c.0 - 1))) hold ≡ hold
        by true = refl
        by false = refl

    said_there : (c : ℕ × ℕ) (x : Answer) (at n : ℕ) → at ≢ spot.at → with_answer at n (call_of spot Ask c.0 s) x ≡ n
    said_there c x at n ne =
        ap (λ b. cond (b && is_yes x) (bit_or n (2 ^ (c.0 - 1))) n) (is_false (nat_eq spot.at at) (λ t. ne (sym (eqb-true spot.at at t))))

    conditions_said : (cs : List (ℕ × ℕ)) (hold : ℕ) → AreBits cs → EndsSaid Fits (Hears hold) (conditions spot s asked cs hold)
    conditions_said [] hold bits = (refl, λ at n ne. refl)
    conditions_said (c ∷ cs) hold (bit, bits) = by (nat_eq (bit_and asked c.1) 0) (λ h. conditions_said cs h bits)
      where
        answer_yes : ((h : ℕ) → EndsSaid Fits (Hears h) (conditions spot s asked cs h))
            → EndsSaid Fits (λ said h. Hears hold (λ at n. said at (with_answer at n (call_of spot Ask c.0 s) Yes)) h) (conditions spot s asked cs (bit_or hold c.1))
        answer_yes rest =
            said_weaken Fits (Hears (bit_or hold c.1)) (λ said h. Hears hold (λ at n. said at (with_answer at n (call_of spot Ask c.0 s) Yes)) h) (conditions spot s asked cs (bit_or hold c.1))
            (λ said h q. (q.0 ∙ ap (λ n. heard Goes (said spot.at n)) (sym (said_yes c bit hold)), (λ at n ne. ap (said at) (said_there c Yes at n ne) ∙ q.1 at n ne))) (rest (bit_or hold c.1))

        answer_no : ((h : ℕ) → EndsSaid Fits (Hears h) (conditions spot s asked cs h))
            → EndsSaid Fits (λ said h. Hears hold (λ at n. said at (with_answer at n (call_of spot Ask c.0 s) No)) h) (conditions spot s asked cs hold)
        answer_no rest =
            said_weaken Fits (Hears hold) (λ said h. Hears hold (λ at n. said at (with_answer at n (call_of spot Ask c.0 s) No)) h) (conditions spot s asked cs hold)
            (λ said h q. (q.0 ∙ ap (λ n. heard Goes (said spot.at n)) (sym (said_no c spot.at hold)), (λ at n ne. ap (said at) (said_no c at n) ∙ q.1 at n ne))) (rest hold)

        answers : ((h : ℕ) → EndsSaid Fits (Hears h) (conditions spot s asked cs h)) → (x : Answer) → (x ≡ Yes) ⊎ (x ≡ No)
            → EndsSaid Fits (λ said h. Hears hold (λ at n. said at (with_answer at n (call_of spot Ask c.0 s) x)) h) (hears x c.1 hold (λ h. conditions spot s asked cs h))
        answers rest x (inl e) =
            subst (λ y. EndsSaid Fits (λ said h. Hears hold (λ at n. said at (with_answer at n (call_of spot Ask c.0 s) y)) h) (hears y c.1 hold (λ h. conditions spot s asked cs h))) (sym e) (answer_yes rest)
        answers rest x (inr e) =
            subst (λ y. EndsSaid Fits (λ said h. Hears hold (λ at n. said at (with_answer at n (call_of spot Ask c.0 s) y)) h) (hears y c.1 hold (λ h. conditions spot s asked cs h))) (sym e) (answer_no rest)

        by : (b : Bool) → ((h : ℕ) → EndsSaid Fits (Hears h) (conditions spot s asked cs h))
            → EndsSaid Fits (Hears hold) (cond b (conditions spot s asked cs hold) (ask (call_of spot Ask c.0 s) (λ x. hears x c.1 hold (λ h. conditions spot s asked cs h))))
        by true rest = rest hold
        by false rest = λ x f. answers rest x (calm.asks (call_of spot Ask c.0 s) x f refl)

    pub all_said : EndsSaid Fits (Hears 0) (conditions spot s asked all_conditions 0)
    all_said = conditions_said all_conditions 0 (refl, (refl, (refl, (refl, (refl, (refl, (refl, (refl, tt))))))))

-- ---- a turn

module _ {C S : Type 0} (A : Auto C) (m : Machine S) (place : C → S) (shows : Shows A m place) (settings : Settings) (Fits : Call → Answer → Type 0) (calm : AreCalm m settings Fits) where
  -- what a turn comes to: it stops where there is no step, or it makes the step
  pub data Turned (c : C) (key : Key) (p : ℕ) (said : ℕ → ℕ → ℕ) (x : Came S) : Type 0 where
    stuck : Elsewhere p said → A.step c (letter_of key (said p 0)) ≡ None → x.flow ≡ Stops ErrorState → Turned c key p said x
    went : Elsewhere p said → (n : Move C) (furthest backs : ℕ) → A.step c (letter_of key (said p 0)) ≡ Some n → x ≡ came Goes (standing (place n.to) (p + 1) furthest backs) → Turned c key p said x

  module _ (c : C) (key : Key) (p : ℕ) where
    went_closed : (said : ℕ → ℕ → ℕ) → Elsewhere p said → (n : Move C) → A.step c (letter_of key (said p 0)) ≡ Some n → (furthest backs : ℕ) → Turned c key p said (closed (came Goes (standing (place n.to) (p + 1) furthest backs)))
    went_closed said other n e furthest backs =
        elim (nat_lt furthest (p + 1)) as (λ b. Turned c key p said (came Goes (cond b (standing (place n.to) (p + 1) (p + 1) 0) (standing (place n.to) (p + 1) furthest backs)))) [
          | true ↦ went other n (p + 1) 0 e refl
          | false ↦ went other n furthest backs e refl
        ]

    finished_turned : (spot : Spot) (said : ℕ → ℕ → ℕ) (x : Came S) → Turned c key p said x → EndsSaid Fits (λ more y. Turned c key p (λ at n. more at (said at n)) y) (finished m settings spot x)
    unfolding finished
    finished_turned spot said x (stuck other e f) =
        subst (λ flow. EndsSaid Fits (λ more y. Turned c key p (λ at n. more at (said at n)) y) (elim flow as (λ _. Play (Came S)) [
          | Stops _ ↦ done x
          | Breaks ↦ done (came Breaks (raised x.session))
          | _ ↦ bind (calls m settings spot To (m.to x.session.state) x.session) (λ d. done (closed d))
        ])) (sym f) (stuck other e f)
    finished_turned spot said x (went other n furthest backs e same) =
        let s = standing (place n.to) (p + 1) furthest backs in
        subst (λ y. EndsSaid Fits (λ more y. Turned c key p (λ at n. more at (said at n)) y) (finished m settings spot y)) (sym same)
        (after_silent m settings Fits calm spot (λ more y. Turned c key p (λ at n. more at (said at n)) y) To refl (m.to (place n.to)) s (λ d. done (closed d)) (went_closed said other n e furthest backs))

    module _ (furthest backs : ℕ) (spot : Spot) (here : spot.at ≡ p) where
      abbrev s : Session S
      s = standing (place c) p furthest backs

      module _ (said : ℕ → ℕ → ℕ) (other : Elsewhere p said) where
        abbrev Comes : (ℕ → ℕ → ℕ) → Came S → Type 0
        Comes more x = Turned c key p (λ at n. more at (said at n)) x

        not_found : A.step c (letter_of key (said p 0)) ≡ None → EndsSaid Fits Comes (missed m settings spot s)
        unfolding missed failed
        not_found e =
            after_silent m settings Fits calm spot Comes Error refl (m.error (place c)) (behind spot m.failed s) (λ x. done (judged m spot x))
            (subst (λ b. Turned c key p said (cond b (came (Stops ErrorState) (record (behind spot m.failed s) { next = spot.at })) (came Goes (behind spot m.failed s)))) (sym shows.is_failed) (stuck other e refl))

        not_marked : (n : Move C) → A.step c (letter_of key (said p 0)) ≡ Some n → EndsSaid Fits Comes (marked m settings spot (place n.to) (behind spot (place n.to) s))
        unfolding marked
        not_marked n e =
            let u = behind spot (place n.to) s in
            subst (λ k. EndsSaid Fits Comes (cond (nat_eq k 3) (done (came Goes (token_kept m spot (place n.to) u)))
            (cond (nat_eq k 4) (deliver m settings spot (m.token (place n.to)) (token_kept m spot (place n.to) u)) (done (came Goes u))))) (sym (shows.kind n.to))
            (went other n furthest backs e (ap (λ j. came Goes (standing (place n.to) (j + 1) furthest backs)) here))

        found : (n : Move C) → A.step c (letter_of key (said p 0)) ≡ Some n → EndsSaid Fits Comes (stepped m settings spot s (go_of place n))
        unfolding stepped if_goes
        found n e =
            after_silent m settings Fits calm spot Comes Do refl (once n.carry.actions) (behind spot (place n.to) s) (λ x. if_goes x (λ t. marked m settings spot (place n.to) t)) (not_marked n e)

        chosen_turned : EndsSaid Fits Comes (chosen m settings spot key s (said p 0))
        unfolding chosen
        chosen_turned =
            subst (λ o. EndsSaid Fits Comes (elim o as (λ _. Play (Came S)) [ None ↦ missed m settings spot s | Some go ↦ stepped m settings spot s go ])) (sym (shows.find c key (said p 0)))
            (by (A.step c (letter_of key (said p 0))) refl)
          where
            by : (o : Option (Move C)) → A.step c (letter_of key (said p 0)) ≡ o → EndsSaid Fits Comes (elim (option_map (go_of place) o) as (λ _. Play (Came S)) [ None ↦ missed m settings spot s | Some go ↦ stepped m settings spot s go ])
            by None e = not_found e
            by (Some n) e = found n e

      sought_turned : EndsSaid Fits (Turned c key p) (sought m settings spot key s)
      unfolding sought if_heard
      sought_turned =
          said_bind Fits (Hears m settings Fits calm spot 0) (Turned c key p) (conditions spot s (m.asked (place c) key) all_conditions 0)
          (λ h. if_heard s h (λ hold. chosen m settings spot key s hold)) (all_said m settings Fits calm spot s (m.asked (place c) key))
          (λ said h q. subst (λ x. EndsSaid Fits (λ more y. Turned c key p (λ at n. more at (said at n)) y) (if_heard s x (λ hold. chosen m settings spot key s hold))) (sym (q.0 ∙ ap (λ i. heard Goes (said i 0)) here))
          (chosen_turned said (subst (λ i. Elsewhere i said) here q.1)))

      turned_body : EndsSaid Fits (Turned c key p) (body m settings spot key s)
      unfolding body if_goes
      turned_body = after_silent m settings Fits calm spot (Turned c key p) From refl (m.from (place c)) s (λ x. if_goes x (λ t. sought m settings spot key t)) sought_turned

  pub turn_turns : (c : C) (character p furthest backs : ℕ) → EndsSaid Fits (Turned c (m.key_of character) p) (turn m settings (standing (place c) p furthest backs) character)
  unfolding turn
  turn_turns c character p furthest backs =
      let s = standing (place c) p furthest backs in
      let key = m.key_of character in
      let spot = spot_of m settings s character in
      subst (λ u. EndsSaid Fits (Turned c key p) (bind (body m settings spot key u) (finished m settings spot)))
      (sym (ap (λ k. cond (nat_eq k 1) (record s { ts = Some p; te = None; kept = None }) s) (shows.kind c)))
      (said_bind Fits (Turned c key p) (Turned c key p) (body m settings spot key s) (finished m settings spot)
      (turned_body c key p furthest backs spot refl) (λ said x t. finished_turned c key p spot said x t))
