-- What holds wherever a program may end, of the token calls that it made and of its value.
use Rattle.std.proofs.Common.{◌≡◌, ◌≢◌, Bool, true, false, cond, List, [], ◌∷◌, ◌++◌, ◌⊎◌, inl, inr, map, refl, sym, ◌∙◌, ap, subst, append_assoc, append-nil, ℕ, nat_eq, bit_and, bit_or}
use Rattle.std.proofs.lemmas.Grind.{flat_map-append}
use Rattle.rl_run.specs.declared.calls.Answer.{Answer}
use Rattle.rl_run.specs.declared.calls.Answer.TheVariants.{Yes, No, Picks, Stop}
use Rattle.rl_run.specs.declared.calls.Call.{Call}
use Rattle.rl_run.specs.declared.calls.CallKind.{CallKind}
use Rattle.rl_run.specs.declared.calls.CallKind.TheVariants.{Ask, Token}
use Rattle.rl_run.specs.declared.calls.Stop.{Stop as StopCause}
use Rattle.rl_run.specs.declared.sessions.Flow.{Flow}
use Rattle.rl_run.specs.declared.sessions.Flow.TheVariants.{Goes, Jumps, Breaks, Stops}
use Rattle.rl_run.specs.declared.sessions.Settings.{Settings}
use Rattle.rl_run.specs.declared.sessions.Spot.{Spot}
use Rattle.rl_run.specs.Hosted.{hosted}
use Rattle.rl_run.specs.Machine.{Machine, Session}
use Rattle.rl_run.specs.Picks.{Came, came, answered}
use Rattle.rl_run.specs.Play.{Play, done, ask, bind, ended, run, AllEnds}
use Rattle.rl_run.specs.Turn.{if_goes, call_of, calls, conditions, hears}
use Rattle.rl_language.specs.Tokens.{is_token, TokenLine, told_by, tokens_called}
use Rattle.rl_language.specs.Verdicts.{IsAnsweredBy, AreAnsweredBy}
use Rattle.rl_language.proofs.Conditions.{EndsBy, some_end, no_end}
use Rattle.rl_language.proofs.QuietTurns.{AreQuiet, IsHeld, Unmoved, calls_unmoved, if_goes_held}

abbrev pub EndsTold : {A : Type 0} → (Call → Answer → Type 0) → (List TokenLine → A → Type 0) → Play A → Type 0
EndsTold Fits P (done a) = P [] a
EndsTold Fits P (ask c f) = (x : Answer) → Fits c x → EndsTold Fits (λ lines a. P (told_by c ++ lines) a) (f x)

pub told_weaken : {A : Type 0} (Fits : Call → Answer → Type 0) (P Q : List TokenLine → A → Type 0) (p : Play A) → ((lines : List TokenLine) (a : A) → P lines a → Q lines a) → EndsTold Fits P p → EndsTold Fits Q p
told_weaken Fits P Q (done a) f h = f [] a h
told_weaken Fits P Q (ask c g) f h = λ x e. told_weaken Fits (λ lines a. P (told_by c ++ lines) a) (λ lines a. Q (told_by c ++ lines) a) (g x) (λ lines a. f (told_by c ++ lines) a) (h x e)

pub told_bind : {A B : Type 0} (Fits : Call → Answer → Type 0) (P : List TokenLine → A → Type 0) (Q : List TokenLine → B → Type 0) (p : Play A) (k : A → Play B) → EndsTold Fits P p
    → ((lines : List TokenLine) (a : A) → P lines a → EndsTold Fits (λ more b. Q (lines ++ more) b) (k a)) → EndsTold Fits Q (bind p k)
told_bind Fits P Q (done a) k h f = f [] a h
told_bind {A} {B} Fits P Q (ask c g) k h f = λ x e.
    told_bind Fits (λ lines a. P (told_by c ++ lines) a) (λ lines b. Q (told_by c ++ lines) b) (g x) k (h x e)
    (λ lines a p. told_weaken Fits (λ more b. Q ((told_by c ++ lines) ++ more) b) (λ more b. Q (told_by c ++ (lines ++ more)) b) (k a)
    (λ more b q. subst (λ w. Q w b) (append_assoc (told_by c) lines more) q) (f (told_by c ++ lines) a p))

-- what holds wherever it may end holds where it ends
pub told_run : {A : Type 0} (truths : ℕ → ℕ) (P : List TokenLine → A → Type 0) (p : Play A) (answers : List Answer) (a : A) → EndsTold (IsAnsweredBy truths) P p
    → AreAnsweredBy truths (run p answers).calls answers → (run p answers).reached ≡ ended a → P (tokens_called (run p answers).calls) a
told_run truths P (done b) answers a h g e = subst (P []) (some_end b a e) h
told_run truths P (ask c f) [] a h g e = no_end (ask c f) a e
told_run truths P (ask c f) (x ∷ answers) a h g e = told_run truths (λ lines b. P (told_by c ++ lines) b) (f x) answers a (h x g.0) g.1 e

pub all_run : {A : Type 0} (P : A → Type 0) (p : Play A) (answers : List Answer) (a : A) → AllEnds P p → (run p answers).reached ≡ ended a → P a
all_run P (done b) answers a h e = subst P (some_end b a e) h
all_run P (ask c f) [] a h e = no_end (ask c f) a e
all_run P (ask c f) (x ∷ answers) a h e = all_run P (f x) answers a (h x) e

-- the same against a host whose answers are of the sort
module _ {A : Type 0} (Fits : Call → Answer → Type 0) (host : List Call → Answer) (fits : (past : List Call) (c : Call) → Fits c (host (past ++ c ∷ []))) where
  pub told_hosted : (P : List TokenLine → A → Type 0) (p : Play A) (past : List Call) → EndsTold Fits P p
      → (lines : List TokenLine) × (tokens_called (hosted host past p).0 ≡ tokens_called past ++ lines) × P lines (hosted host past p).1
  told_hosted P (done a) past h = ([], sym (append-nil (tokens_called past)), h)
  told_hosted P (ask c f) past h =
      let x = host (past ++ c ∷ []) in
      let rest = told_hosted (λ lines a. P (told_by c ++ lines) a) (f x) (past ++ c ∷ []) (h x (fits past c)) in (
        told_by c ++ rest.0,
        rest.1 ∙ ap (λ w. w ++ rest.0) (flat_map-append told_by past (c ∷ []) ∙ ap (λ w. tokens_called past ++ w) (append-nil (told_by c))) ∙ append_assoc (tokens_called past) (told_by c) rest.0,
        rest.2,
      )

  pub all_hosted : (P : A → Type 0) (p : Play A) (past : List Call) → AllEnds P p → P (hosted host past p).1
  all_hosted P (done a) past h = h
  all_hosted P (ask c f) past h = all_hosted P (f (host (past ++ c ∷ []))) (past ++ c ∷ []) (h (host (past ++ c ∷ [])))

-- ---- programs without token calls

abbrev pub NoTokens : {A : Type 0} → Play A → Type 0
NoTokens (done a) = Unit {0}
NoTokens (ask c f) = (is_token c.kind ≡ false) × ((x : Answer) → NoTokens (f x))

none_told : (c : Call) → is_token c.kind ≡ false → told_by c ≡ []
none_told c e = ap (λ b. cond b (record { action = c.action.0; ts = c.ts; te = c.te } ∷ []) []) e

pub quietly_told : {A : Type 0} (Fits : Call → Answer → Type 0) (P : A → Type 0) (p : Play A) → NoTokens p → EndsBy Fits P p → EndsTold Fits (λ lines a. (lines ≡ []) × P a) p
quietly_told Fits P (done a) n h = (refl, h)
quietly_told Fits P (ask c f) n h = λ x e.
    told_weaken Fits (λ lines a. (lines ≡ []) × P a) (λ lines a. (told_by c ++ lines ≡ []) × P a) (f x)
    (λ lines a q. (ap (λ w. w ++ lines) (none_told c n.0) ∙ q.0, q.1)) (quietly_told Fits P (f x) (n.1 x) (h x e))

module _ {S : Type 0} (m : Machine S) (settings : Settings) (spot : Spot) where
  goes_none : (c : Came S) (k : Session S → Play (Came S)) → ((t : Session S) → NoTokens (k t)) → NoTokens (if_goes c k)
  unfolding if_goes
  goes_none c k h = by c.flow
    where
      by : (flow : Flow) → NoTokens (elim flow as (λ _. Play (Came S)) [ Goes ↦ k c.session | Jumps ↦ done c | Breaks ↦ done c | Stops _ ↦ done c ])
      by Goes = h c.session
      by Jumps = tt
      by Breaks = tt
      by (Stops _) = tt

  pub calls_none : (kind : CallKind) → is_token kind ≡ false → (list : List ℕ) (s : Session S) → NoTokens (calls m settings spot kind list s)
  calls_none kind e [] s = tt
  calls_none kind e (action ∷ list) s = (e, λ x. goes_none (answered m settings spot kind action s x) (λ t. calls m settings spot kind list t) (calls_none kind e list))

pub conditions_none : {S : Type 0} (spot : Spot) (s : Session S) (asked : ℕ) (cs : List (ℕ × ℕ)) (hold : ℕ) → NoTokens (conditions spot s asked cs hold)
conditions_none spot s asked [] hold = tt
conditions_none spot s asked (c ∷ cs) hold = by (nat_eq (bit_and asked c.1) 0) (conditions_none spot s asked cs)
  where
    heard : ((h : ℕ) → NoTokens (conditions spot s asked cs h)) → (x : Answer) → NoTokens (hears x c.1 hold (λ h. conditions spot s asked cs h))
    heard rest Yes = rest (bit_or hold c.1)
    heard rest No = rest hold
    heard rest (Picks picks) = tt
    heard rest Stop = tt

    by : (b : Bool) → ((h : ℕ) → NoTokens (conditions spot s asked cs h)) → NoTokens (cond b (conditions spot s asked cs hold) (ask (call_of spot Ask c.0 s) (λ x. hears x c.1 hold (λ h. conditions spot s asked cs h))))
    by true rest = rest hold
    by false rest = (refl, λ x. heard rest x)

-- ---- lists

module _ {S : Type 0} (m : Machine S) (settings : Settings) (truths : ℕ → ℕ) (Fits : Call → Answer → Type 0) (Sort : StopCause → Type 0) (answers : AreQuiet m settings truths Fits Sort) (spot : Spot) where
  -- behind a list of other calls the session is as before, or has stopped so; and no token was told
  pub after_others : {B : Type 0} (Q : List TokenLine → B → Type 0) (kind : CallKind) → kind ≢ Ask → is_token kind ≡ false → (list : List ℕ) (s : Session S) (k : Came S → Play B)
      → EndsTold Fits Q (k (came Goes s)) → ((c : Came S) → IsHeld Sort c → EndsTold Fits Q (k c)) → EndsTold Fits Q (bind (calls m settings spot kind list s) k)
  after_others {B} Q kind ne other list s k goes held =
      told_bind Fits (λ lines c. (lines ≡ []) × Unmoved Sort s c) Q (calls m settings spot kind list s) k
      (quietly_told Fits (Unmoved Sort s) (calls m settings spot kind list s) (calls_none m settings spot kind other list s) (calls_unmoved m settings truths Fits Sort answers spot kind ne list s))
      (λ lines c u. subst (λ w. EndsTold Fits (λ more b. Q (w ++ more) b) (k c)) (sym u.0) (by c u.1))
    where
      by : (c : Came S) → Unmoved Sort s c → EndsTold Fits Q (k c)
      by c (inl e) = subst (λ d. EndsTold Fits Q (k d)) (sym e) goes
      by c (inr h) = held c h

  -- a token's list tells the token
  abbrev pub lines_in : Session S → List ℕ → List TokenLine
  lines_in s list = map (λ action. record { action = action; ts = s.ts; te = s.te }) list

  abbrev pub IsListTold : Session S → List ℕ → List TokenLine → Came S → Type 0
  IsListTold s list lines c = ((lines ≡ lines_in s list) × (c ≡ came Goes s)) ⊎ IsHeld Sort c

  abbrev line_in : Session S → ℕ → TokenLine
  line_in s action = record { action = action; ts = s.ts; te = s.te }

  pub token_calls : (list : List ℕ) (s : Session S) → EndsTold Fits (IsListTold s list) (calls m settings spot Token list s)
  unfolding if_goes
  token_calls [] s = inl (refl, refl)
  token_calls (action ∷ list) s = λ x e. by (token_calls list s) (answered m settings spot Token action s x) (answers.lists spot Token token_ask action s x e)
    where
      token_ask : Token ≢ Ask
      token_ask e = cc

      one_more : (lines : List TokenLine) (c : Came S) → IsListTold s list lines c → IsListTold s (action ∷ list) ((line_in s action ∷ []) ++ lines) c
      one_more lines c (inl h) = inl (ap (λ w. line_in s action ∷ w) h.0, h.1)
      one_more lines c (inr h) = inr h

      by : EndsTold Fits (IsListTold s list) (calls m settings spot Token list s) → (c : Came S) → Unmoved Sort s c
          → EndsTold Fits (λ lines d. IsListTold s (action ∷ list) ((line_in s action ∷ []) ++ lines) d) (if_goes c (λ t. calls m settings spot Token list t))
      by rest c (inl e) =
          subst (λ d. EndsTold Fits (λ lines d. IsListTold s (action ∷ list) ((line_in s action ∷ []) ++ lines) d) (if_goes d (λ t. calls m settings spot Token list t))) (sym e)
          (told_weaken Fits (IsListTold s list) (λ lines d. IsListTold s (action ∷ list) ((line_in s action ∷ []) ++ lines) d) (calls m settings spot Token list s) one_more rest)
      by rest c (inr h) =
          subst (EndsTold Fits (λ lines d. IsListTold s (action ∷ list) ((line_in s action ∷ []) ++ lines) d)) (sym (if_goes_held Sort c (λ t. calls m settings spot Token list t) h)) (inr h)
