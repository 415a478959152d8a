-- A turn leaves no open token that is longer than it may be, and stands at most at the greatest position.
use Rattle.std.proofs.Common.{◌≡◌, ℕ, zero, suc, ◌+◌, ◌-◌, ◌≤◌, Bool, true, false, cond, List, Option, Some, None, refl, sym, ◌∙◌, subst, arith, nat_lt, nat_eq}
use Rattle.std.proofs.lemmas.Bool.Decides.{nat_tests}
use Rattle.std.specs.List.{AllByRecursion}
use Rattle.rl_types.specs.declared.numbers.Key.{Key}
use Rattle.rl_run.specs.declared.calls.CallKind.TheVariants.{From, Do, Error, To, Token}
use Rattle.rl_run.specs.declared.sessions.Flow.{Flow}
use Rattle.rl_run.specs.declared.sessions.Flow.TheVariants.{Goes, Jumps, Breaks, Stops}
use Rattle.rl_run.specs.declared.calls.Stop.TheVariants.{Overlong, ErrorState}
use Rattle.rl_run.specs.declared.sessions.Settings.{Settings}
use Rattle.rl_run.specs.Machine.{Go, Machine, Session}
use Rattle.rl_run.specs.declared.sessions.Spot.{Spot}
use Rattle.rl_run.specs.Picks.{Came, came}
use Rattle.rl_run.specs.Play.{Play, done, ask, bind, AllEnds}
use Rattle.rl_run.specs.Turn.{calls, if_goes, all_conditions, conditions, chosen, if_heard, deliver, cleared, sent_home, marked, token_kept, behind, stepped, failed, missed, sought, raised, closed, finished, opened, is_overlong, body, spot_of, turn}
use Rattle.rl_run.specs.Fine.{IsKinded, IsFine, IsQuiet, UnlessStops, StartsBy}
use Rattle.rl_run.proofs.Ends.{leaves_bind}
use Rattle.rl_run.proofs.Moves.{Moved, calls_move}
use Rattle.rl_run.proofs.Same.{Same, silent_calls, quiet_calls}
use Rattle.rl_sessions.specs.Short.{IsWithin, IsShort}

pub leaves_any : {A : Type 0} (p : Play A) → AllEnds (λ a. Unit {0}) p
leaves_any (done a) = tt
leaves_any (ask c f) = λ x. leaves_any (f x)

module _ {S : Type 0} (m : Machine S) (settings : Settings) where
  -- the token that is open is no longer than it may be, unless the session stopped
  abbrev pub Within : Came S → Type 0
  Within c = UnlessStops c.flow (IsWithin settings.token_max c.session.ts c.session.next)

  -- without an open token
  no_token : (flow : Flow) (t : Session S) → t.ts ≡ None → Within (came flow t)
  no_token Goes t e = rw e tt
  no_token Jumps t e = rw e tt
  no_token Breaks t e = rw e tt
  no_token (Stops cause) t e = tt

  -- on behind a list that changed nothing
  same_then : (flow : Flow) (t u : Session S) (k : Session S → Play (Came S)) → Same t (came flow u) → AllEnds Within (k t) → AllEnds Within (if_goes (came flow u) k)
  unfolding if_goes
  same_then Goes t u k p q = subst (λ v. AllEnds Within (k v)) (sym p.0) q
  same_then Jumps t u k p q = absurd (jumps p.1)
    where
      jumps : Jumps ≡ Goes → ⊥
      jumps e = cc
  same_then Breaks t u k p q = absurd (breaks p.1)
    where
      breaks : Breaks ≡ Goes → ⊥
      breaks e = cc
  same_then (Stops cause) t u k p q = tt

  sought_leaves : (spot : Spot) (key : Key) (t : Session S) →
      AllEnds Within (missed m settings spot t) →
      ((hold : ℕ) (go : Go S) → m.find t.state key hold ≡ Some go → AllEnds Within (stepped m settings spot t go)) →
      AllEnds Within (sought m settings spot key t)
  unfolding sought chosen if_heard
  sought_leaves spot key t none some =
      leaves_bind (λ h. Unit {0}) Within (conditions spot t (m.asked t.state key) all_conditions 0) _ (leaves_any (conditions spot t (m.asked t.state key) all_conditions 0)) (λ h _. heard h.flow h.hold)
    where
      found : (hold : ℕ) (o : Option (Go S)) → m.find t.state key hold ≡ o →
          AllEnds Within (elim o as (λ _. Play (Came S)) [ None ↦ missed m settings spot t | Some go ↦ stepped m settings spot t go ])
      found hold None e = none
      found hold (Some go) e = some hold go e

      heard : (flow : Flow) (hold : ℕ) → AllEnds Within (elim flow as (λ _. Play (Came S)) [
        | Stops cause ↦ done (came (Stops cause) t)
        | _ ↦ elim (m.find t.state key hold) as (λ _. Play (Came S)) [ None ↦ missed m settings spot t | Some go ↦ stepped m settings spot t go ]
      ])
      heard Goes hold = found hold (m.find t.state key hold) refl
      heard Jumps hold = found hold (m.find t.state key hold) refl
      heard Breaks hold = found hold (m.find t.state key hold) refl
      heard (Stops cause) hold = tt

  body_leaves : (spot : Spot) (key : Key) (t : Session S) → (is_overlong settings t ≡ false → AllEnds Within (sought m settings spot key t)) → AllEnds Within (body m settings spot key t)
  unfolding body
  body_leaves spot key t h = go (is_overlong settings t) refl
    where
      go : (b : Bool) → is_overlong settings t ≡ b → AllEnds Within (cond b (done (came (Stops Overlong) t)) (bind (calls m settings spot From (m.from t.state) t) (λ c. if_goes c (λ u. sought m settings spot key u))))
      go true e = tt
      go false e = leaves_bind (Same t) Within (calls m settings spot From (m.from t.state) t) _ (silent_calls m settings spot From (m.from t.state) t refl)
          (λ c q. same_then c.flow t c.session (λ u. sought m settings spot key u) q (h e))

  -- a delivery leaves no token open
  cleared_within : (flow : Flow) (v : Session S) → Within (cleared (came flow v))
  cleared_within Goes v = tt
  cleared_within Jumps v = tt
  cleared_within Breaks v = tt
  cleared_within (Stops cause) v = tt

  deliver_leaves : (spot : Spot) (list : List ℕ) (u : Session S) → AllEnds Within (deliver m settings spot list u)
  unfolding deliver
  deliver_leaves spot list u =
      leaves_bind (λ c. Unit {0}) Within (calls m settings spot Token list (sent_home m u)) _ (leaves_any (calls m settings spot Token list (sent_home m u)))
      (λ c _. cleared_within c.flow c.session)

-- a turn in a plain state
module _ {S : Type 0} (m : Machine S) (kinded : IsKinded m) (settings : Settings) (s : Session S) (spot : Spot) (no_start : s.ts ≡ None) where
  abbrev W : Came S → Type 0
  W c = Within m settings c

  plain_judged : (flow : Flow) (t : Session S) (b : Bool) → t.ts ≡ None →
      W (elim flow as (λ _. Came S) [ Stops _ ↦ came flow t | _ ↦ cond b (came (Stops ErrorState) (record t { next = spot.at })) (came flow t) ])
  plain_judged Goes t true e = tt
  plain_judged Goes t false e = no_token m settings Goes t e
  plain_judged Jumps t true e = tt
  plain_judged Jumps t false e = no_token m settings Jumps t e
  plain_judged Breaks t true e = tt
  plain_judged Breaks t false e = no_token m settings Breaks t e
  plain_judged (Stops cause) t b e = tt

  plain_failed : AllEnds W (failed m settings spot s)
  unfolding failed
  plain_failed = leaves_bind (λ c. Moved m spot (behind spot m.failed s) c.session) W (calls m settings spot Error (m.error s.state) (behind spot m.failed s)) _
      (calls_move m kinded settings spot Error (m.error s.state) (behind spot m.failed s))
      (λ c v. plain_judged c.flow c.session (m.is_failed c.session.state) (v.ts ∙ no_start))

  plain_missed : (o : Option (List ℕ)) → AllEnds W (elim o as (λ _. Play (Came S)) [ None ↦ failed m settings spot s | Some list ↦ deliver m settings spot list s ])
  plain_missed None = plain_failed
  plain_missed (Some list) = deliver_leaves m settings spot list s

  missed_leaves : AllEnds W (missed m settings spot s)
  unfolding missed
  missed_leaves = plain_missed s.kept

  plain_marked : (q : S) (t : Session S) → m.kind q ≡ 0 → t.ts ≡ None → AllEnds W (marked m settings spot q t)
  unfolding marked
  plain_marked q t k e = subst (λ n. AllEnds W (cond (nat_eq n 3) (done (came Goes (token_kept m spot q t))) (cond (nat_eq n 4) (deliver m settings spot (m.token q) (token_kept m spot q t)) (done (came Goes t))))) (sym k) (no_token m settings Goes t e)

  plain_on : (q : S) (flow : Flow) (t : Session S) → m.kind q ≡ 0 → t.ts ≡ None → AllEnds W (if_goes (came flow t) (λ u. marked m settings spot q u))
  unfolding if_goes
  plain_on q Goes t k e = plain_marked q t k e
  plain_on q Jumps t k e = no_token m settings Jumps t e
  plain_on q Breaks t k e = no_token m settings Breaks t e
  plain_on q (Stops cause) t k e = tt

  plain_stepped : (go : Go S) → m.kind go.target ≡ 0 → AllEnds W (stepped m settings spot s go)
  unfolding stepped
  plain_stepped go k = leaves_bind (λ c. Moved m spot (behind spot go.target s) c.session) W (calls m settings spot Do go.list (behind spot go.target s)) _
      (calls_move m kinded settings spot Do go.list (behind spot go.target s))
      (λ c v. plain_on go.target c.flow c.session k (v.ts ∙ no_start))

  plain_body : (key : Key) → m.kind s.state ≡ 0 → AllEnds W (body m settings spot key s)
  plain_body key plain = body_leaves m settings spot key s (λ _. sought_leaves m settings spot key s missed_leaves
      (λ hold go e. plain_stepped go (kinded.plain s.state key hold go e plain)))

-- a turn inside a scanner, with the start a of the open token
module _ {S : Type 0} (m : Machine S) (kinded : IsKinded m) (settings : Settings) (t : Session S) (spot : Spot) (a : ℕ)
    (at : spot.at ≡ t.next) (ts : t.ts ≡ Some a) (inner : 1 ≤ m.kind t.state) where
  abbrev V : Came S → Type 0
  V c = Within m settings c

  inner_failed : AllEnds V (failed m settings spot t)
  unfolding failed
  inner_failed = rw (kinded.no_error t.state inner, kinded.is_failed) tt

  kept_missed : (o : Option (List ℕ)) → AllEnds V (elim o as (λ _. Play (Came S)) [ None ↦ failed m settings spot t | Some list ↦ deliver m settings spot list t ])
  kept_missed None = inner_failed
  kept_missed (Some list) = deliver_leaves m settings spot list t

  inner_missed : AllEnds V (missed m settings spot t)
  unfolding missed
  inner_missed = kept_missed t.kept

  -- behind the character
  inner_within : t.next + 1 ≤ a + settings.token_max → IsWithin settings.token_max t.ts (spot.at + 1)
  inner_within room = subst (λ o. IsWithin settings.token_max o (spot.at + 1)) (sym ts) (omega (arith, at))

  inner_marked : (q : S) (b3 b4 : Bool) → t.next + 1 ≤ a + settings.token_max →
      AllEnds V (cond b3 (done (came Goes (token_kept m spot q (behind spot q t)))) (cond b4 (deliver m settings spot (m.token q) (token_kept m spot q (behind spot q t))) (done (came Goes (behind spot q t)))))
  inner_marked q true b4 room = inner_within room
  inner_marked q false true room = deliver_leaves m settings spot (m.token q) (token_kept m spot q (behind spot q t))
  inner_marked q false false room = inner_within room

  inner_stepped : (go : Go S) → AllByRecursion (IsQuiet m) go.list → t.next + 1 ≤ a + settings.token_max → AllEnds V (stepped m settings spot t go)
  unfolding stepped marked
  inner_stepped go quiet room = leaves_bind (Same (behind spot go.target t)) V (calls m settings spot Do go.list (behind spot go.target t)) _
      (quiet_calls m settings spot Do go.list (behind spot go.target t) quiet)
      (λ c p. same_then m settings c.flow (behind spot go.target t) c.session (λ u. marked m settings spot go.target u) p
      (inner_marked go.target (nat_eq (m.kind go.target) 3) (nat_eq (m.kind go.target) 4) room))

  room_of : (o : Option ℕ) → o ≡ Some a → elim o as (λ _. Bool) [ None ↦ false | Some start ↦ nat_lt settings.token_max (t.next + 1 - start) ] ≡ false → t.next + 1 ≤ a + settings.token_max
  room_of None e f = absurd (no e)
    where
      no : None ≡ Some a → ⊥
      no e = cc
  room_of (Some start) e f =
      let same : start ≡ a = cc in
      let short : t.next + 1 - start ≤ settings.token_max = grind (arith, nat_tests) in
      omega arith

  inner_body : (key : Key) → AllEnds V (body m settings spot key t)
  inner_body key = body_leaves m settings spot key t (λ e. sought_leaves m settings spot key t inner_missed
      (λ hold go f. inner_stepped go (kinded.quiet t.state key hold go f inner) (room_of t.ts ts e)))

-- the end of a turn
module _ {S : Type 0} (m : Machine S) (kinded : IsKinded m) (settings : Settings) (s : Session S) (fine : IsFine m s) where
  abbrev F : Came S → Type 0
  F c = UnlessStops c.flow (IsShort settings c.session)

  raised_short : (t : Session S) → IsWithin settings.token_max t.ts t.next → IsShort settings (raised t)
  raised_short t w = go (nat_lt t.furthest t.next) refl
    where
      go : (b : Bool) → nat_lt t.furthest t.next ≡ b → IsShort settings (cond b (record t { furthest = t.next; backs = 0 }) t)
      go true e = record { token = w; reach = omega arith }
      go false e = record { token = w; reach = grind (arith, nat_tests) }

  closed_short : (t : Session S) → IsWithin settings.token_max t.ts t.next → (flow : Flow) (u : Session S) → Same t (came flow u) → F (closed (came flow u))
  closed_short t w Goes u p = subst (λ v. IsShort settings (raised v)) (sym p.0) (raised_short t w)
  closed_short t w Jumps u p = subst (λ v. IsShort settings (raised v)) (sym p.0) (raised_short t w)
  closed_short t w Breaks u p = subst (λ v. IsShort settings (raised v)) (sym p.0) (raised_short t w)
  closed_short t w (Stops cause) u p = tt

  to_leaves : (spot : Spot) (t : Session S) → IsWithin settings.token_max t.ts t.next → AllEnds F (bind (calls m settings spot To (m.to t.state) t) (λ d. done (closed d)))
  to_leaves spot t w = leaves_bind (Same t) F (calls m settings spot To (m.to t.state) t) _ (silent_calls m settings spot To (m.to t.state) t refl)
      (λ d p. closed_short t w d.flow d.session p)

  finished_leaves : (spot : Spot) (flow : Flow) (t : Session S) → Within m settings (came flow t) → AllEnds F (finished m settings spot (came flow t))
  unfolding finished
  finished_leaves spot Goes t w = to_leaves spot t w
  finished_leaves spot Jumps t w = to_leaves spot t w
  finished_leaves spot Breaks t w = raised_short t w
  finished_leaves spot (Stops cause) t w = tt

  opened_body : (spot : Spot) (key : Key) → spot.at ≡ s.next → (n : ℕ) → m.kind s.state ≡ n →
      AllEnds (Within m settings) (body m settings spot key (cond (nat_eq n 1) (record s { ts = Some s.next; te = None; kept = None }) s))
  opened_body spot key at zero e = plain_body m kinded settings s spot (fine.outside (rw e (omega arith))).0 key e
  opened_body spot key at (suc zero) e =
      inner_body m kinded settings (record s { ts = Some s.next; te = None; kept = None }) spot s.next at refl (rw e (omega arith)) key
  opened_body spot key at (suc (suc n)) e =
      let no : nat_eq (suc (suc n)) 1 ≡ false = grind (arith, nat_tests) in
      subst (λ b. AllEnds (Within m settings) (body m settings spot key (cond b (record s { ts = Some s.next; te = None; kept = None }) s)))
      (sym no) (inside s.ts refl (fine.inside (rw e (omega arith))).0)
    where
      inside : (o : Option ℕ) → s.ts ≡ o → StartsBy o s.next → AllEnds (Within m settings) (body m settings spot key s)
      inside None q h = elim h [ ]
      inside (Some a) q h = inner_body m kinded settings s spot a at q (rw e (omega arith)) key

  pub turn_short : (byte : ℕ) → AllEnds F (turn m settings s byte)
  unfolding turn
  turn_short byte =
      let spot = spot_of m settings s byte in
      leaves_bind (Within m settings) F (body m settings spot (m.key_of byte) (opened m s)) (finished m settings spot)
      (opened_body spot (m.key_of byte) refl (m.kind s.state) refl)
      (λ c w. finished_leaves spot c.flow c.session w)
