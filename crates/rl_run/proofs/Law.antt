-- Each turn of a run that does not stop lowers the weight, and reads nothing before keep.
use Rattle.std.proofs.Common.{◌≡◌, ℕ, zero, suc, ◌+◌, ◌-◌, ◌*◌, ◌^◌, ◌<◌, ◌≤◌, Bool, true, false, cond, List, [], ◌∷◌, inl, inr, Option, Some, None, refl, sym, ◌∙◌, subst, arith, nat_lt, nat_le, nat_eq, unwrap_or}
use Rattle.std.proofs.lemmas.Bool.Decides.{nat_tests}
use Rattle.std.specs.List.{AllByRecursion}
use Rattle.rl_types.specs.declared.numbers.Key.{Key}
use Rattle.rl_run.specs.declared.calls.CallKind.TheVariants.{From, Do, Error, To, Token}
use Rattle.rl_run.specs.declared.sessions.Flow.{Flow}
use Rattle.rl_run.specs.declared.sessions.Flow.TheVariants.{Goes, Jumps, Breaks, Stops}
use Rattle.rl_run.specs.declared.calls.Stop.TheVariants.{Overlong, ErrorState}
use Rattle.rl_run.specs.declared.sessions.Settings.{Settings}
use Rattle.rl_run.specs.Machine.{Go, Machine, Session, keep}
use Rattle.rl_run.specs.Picks.{Came, Spot, came}
use Rattle.rl_run.specs.Play.{Play, done, ask, bind}
use Rattle.rl_run.specs.Turn.{calls, if_goes, all_conditions, conditions, chosen, if_heard, deliver, cleared, sent_home, marked, token_kept, behind, stepped, failed, missed, sought, raised, closed, finished, opened, is_overlong, body, spot_of, turn}
use Rattle.rl_run.specs.Run.{end_spot, last_delivery}
use Rattle.rl_run.specs.Fine.{IsKinded, IsFine, IsQuiet, GoesOn, UnlessStops, Spans, KeptSpans, StartsBy, tail_weight, weight, bounds, IsLexBelow}
use Rattle.rl_run.proofs.Ends.{leaves_bind}
use Rattle.rl_run.specs.Play.{AllEnds}
use Rattle.rl_run.proofs.Moves.{IsLow, Moved, calls_move}
use Rattle.rl_run.proofs.Same.{Same, silent_calls, quiet_calls}

module _ {S : Type 0} (m : Machine S) (kinded : IsKinded m) (settings : Settings) (s : Session S) (floor : ℕ) where
  -- what the body of a turn made of s
  pub record Went (t : Session S) : Type 0 where
    pub furthest : t.furthest ≡ s.furthest
    pub backs : s.backs ≤ t.backs
    pub tail : t.backs ≡ s.backs → tail_weight t < tail_weight s
    pub fine : IsFine m t
    pub above : floor ≤ t.next
    pub start : floor ≤ unwrap_or t.ts t.next

  abbrev pub Result : Came S → Type 0
  Result c = UnlessStops c.flow (Went c.session)

  pub result : (flow : Flow) (t : Session S) → Went t → Result (came flow t)
  result Goes t w = w
  result Jumps t w = w
  result Breaks t w = w
  result (Stops cause) t w = tt

  -- on behind a list that changed nothing
  pub same_then : (flow : Flow) (t u : Session S) (k : Session S → Play (Came S)) → Same t (came flow u) → AllEnds Result (k t) → AllEnds Result (if_goes (came flow u) k)
  unfolding if_goes
  same_then Goes t u k p q = subst (λ v. AllEnds Result (k v)) (sym p.0) q
  same_then Jumps t u k p q = absurd (jumps p.1)
    where
      jumps : Jumps ≡ Goes → ⊥
      jumps e = cc
  same_then Breaks t u k p q = absurd (breaks p.1)
    where
      breaks : Breaks ≡ Goes → ⊥
      breaks e = cc
  same_then (Stops cause) t u k p q = tt

  pub leaves_any : {A : Type 0} (p : Play A) → AllEnds (λ a. Unit {0}) p
  leaves_any (done a) = tt
  leaves_any (ask c f) = λ x. leaves_any (f x)

  pub sought_leaves : (spot : Spot) (key : Key) (t : Session S) →
      ((hold : ℕ) → m.find t.state key hold ≡ None → AllEnds Result (missed m settings spot t)) →
      ((hold : ℕ) (go : Go S) → m.find t.state key hold ≡ Some go → AllEnds Result (stepped m settings spot t go)) →
      AllEnds Result (sought m settings spot key t)
  unfolding sought chosen if_heard
  sought_leaves spot key t none some =
      leaves_bind (λ h. Unit {0}) Result (conditions spot t (m.asked t.state key) all_conditions 0) _ (leaves_any (conditions spot t (m.asked t.state key) all_conditions 0)) (λ h _. heard h.flow h.hold)
    where
      found : (hold : ℕ) (o : Option (Go S)) → m.find t.state key hold ≡ o →
          AllEnds Result (elim o as (λ _. Play (Came S)) [ None ↦ missed m settings spot t | Some go ↦ stepped m settings spot t go ])
      found hold None e = none hold e
      found hold (Some go) e = some hold go e

      heard : (flow : Flow) (hold : ℕ) → AllEnds Result (elim flow as (λ _. Play (Came S)) [
        | Stops cause ↦ done (came (Stops cause) t)
        | _ ↦ elim (m.find t.state key hold) as (λ _. Play (Came S)) [ None ↦ missed m settings spot t | Some go ↦ stepped m settings spot t go ]
      ])
      heard Goes hold = found hold (m.find t.state key hold) refl
      heard Jumps hold = found hold (m.find t.state key hold) refl
      heard Breaks hold = found hold (m.find t.state key hold) refl
      heard (Stops cause) hold = tt

  pub body_leaves : (spot : Spot) (key : Key) (t : Session S) → AllEnds Result (sought m settings spot key t) → AllEnds Result (body m settings spot key t)
  unfolding body
  body_leaves spot key t h = go (is_overlong settings t)
    where
      go : (b : Bool) → AllEnds Result (cond b (done (came (Stops Overlong) t)) (bind (calls m settings spot From (m.from t.state) t) (λ c. if_goes c (λ u. sought m settings spot key u))))
      go true = tt
      go false = leaves_bind (Same t) Result (calls m settings spot From (m.from t.state) t) _ (silent_calls m settings spot From (m.from t.state) t refl)
          (λ c q. same_then c.flow t c.session (λ u. sought m settings spot key u) q h)

-- numbers
tail_less : {S : Type 0} (s t : Session S) → s.next < 2 ^ 63 → unwrap_or s.ts s.next ≤ unwrap_or t.ts t.next → s.next < t.next → tail_weight t < tail_weight s
unfolding tail_weight
tail_less s t room a b = grind arith

tail_far : {S : Type 0} (s t : Session S) → unwrap_or s.ts s.next < 2 ^ 63 → unwrap_or s.ts s.next < unwrap_or t.ts t.next → tail_weight t < tail_weight s
unfolding tail_weight
tail_far s t room a = omega arith

tail_small : {S : Type 0} (s : Session S) → tail_weight s < 2 ^ 128
unfolding tail_weight
tail_small s = omega arith

weight_near : {S : Type 0} (s t : Session S) → t.furthest ≡ s.furthest → s.backs ≤ t.backs → t.backs < 65536 → (t.backs ≡ s.backs → tail_weight t < tail_weight s) → weight t < weight s
unfolding weight
weight_near s t e b c f = go (nat_eq t.backs s.backs) refl
  where
    go : (d : Bool) → nat_eq t.backs s.backs ≡ d → ((2 ^ 63 - t.furthest) * 2 ^ 64 + (65536 - t.backs)) * 2 ^ 128 + tail_weight t < ((2 ^ 63 - s.furthest) * 2 ^ 64 + (65536 - s.backs)) * 2 ^ 128 + tail_weight s
    go true d = let same : t.backs ≡ s.backs = grind (arith, nat_tests) in let less = f same in omega arith
    go false d = let differ : s.backs < t.backs = grind (arith, nat_tests) in let small = tail_small t in omega arith

weight_far : {S : Type 0} (s t : Session S) → s.furthest < t.furthest → t.furthest ≤ 2 ^ 63 → weight t < weight s
unfolding weight
weight_far s t e b = let small = tail_small t in omega arith

-- a lower weight is lower in lexicographic order
lex : (a b c d e f g h : ℕ) → b < 2 ^ 64 → c ≤ 2 ^ 63 → d ≤ 2 ^ 63 → f < 2 ^ 64 → g ≤ 2 ^ 63 → h ≤ 2 ^ 63 →
    (a * 2 ^ 64 + b) * 2 ^ 128 + (c * 2 ^ 64 + d) < (e * 2 ^ 64 + f) * 2 ^ 128 + (g * 2 ^ 64 + h) →
    IsLexBelow (a ∷ b ∷ c ∷ d ∷ []) (e ∷ f ∷ g ∷ h ∷ [])
lex a b c d e f g h lb lc ld lf lg lh w = first (nat_lt a e) refl
  where
    fourth : a ≡ e → b ≡ f → c ≡ g → (t : Bool) → nat_lt d h ≡ t → IsLexBelow (d ∷ []) (h ∷ [])
    fourth i j k true q = inl (grind (arith, nat_tests))
    fourth i j k false q = let over : h ≤ d = grind (arith, nat_tests) in absurd (omega arith)

    third : a ≡ e → b ≡ f → (t : Bool) → nat_lt c g ≡ t → IsLexBelow (c ∷ d ∷ []) (g ∷ h ∷ [])
    third i j true q = inl (grind (arith, nat_tests))
    third i j false q = let over : g ≤ c = grind (arith, nat_tests) in let same : c ≡ g = omega arith in inr (same, fourth i j same (nat_lt d h) refl)

    second : a ≡ e → (t : Bool) → nat_lt b f ≡ t → IsLexBelow (b ∷ c ∷ d ∷ []) (f ∷ g ∷ h ∷ [])
    second i true q = inl (grind (arith, nat_tests))
    second i false q = let over : f ≤ b = grind (arith, nat_tests) in let same : b ≡ f = omega arith in inr (same, third i same (nat_lt c g) refl)

    first : (t : Bool) → nat_lt a e ≡ t → IsLexBelow (a ∷ b ∷ c ∷ d ∷ []) (e ∷ f ∷ g ∷ h ∷ [])
    first true q = inl (grind (arith, nat_tests))
    first false q = let over : e ≤ a = grind (arith, nat_tests) in let same : a ≡ e = omega arith in inr (same, second same (nat_lt b f) refl)

weight-lex : {S : Type 0} (s t : Session S) → weight t < weight s → IsLexBelow (bounds t) (bounds s)
unfolding weight tail_weight
weight-lex s t w =
    lex (2 ^ 63 - t.furthest) (65536 - t.backs) (2 ^ 63 - unwrap_or t.ts t.next) (2 ^ 63 - t.next)
    (2 ^ 63 - s.furthest) (65536 - s.backs) (2 ^ 63 - unwrap_or s.ts s.next) (2 ^ 63 - s.next)
    (omega arith) (omega arith) (omega arith) (omega arith) (omega arith) (omega arith) w

at_least_two : {A : Type 0} (n : ℕ) → n ≤ 1 → 2 ≤ n → A
at_least_two n a b = absurd (omega arith)

-- a turn in a plain state
module _ {S : Type 0} (m : Machine S) (kinded : IsKinded m) (settings : Settings) (s : Session S) (spot : Spot)
    (at : spot.at ≡ s.next) (below : spot.floor ≤ s.next) (fine : IsFine m s) (room : s.next < 2 ^ 63) (plain : m.kind s.state ≡ 0) where
  abbrev out : (s.ts ≡ None) × (s.kept ≡ None)
  out = fine.outside (omega (arith, plain))

  plain_went : (q : S) (t : Session S) → m.kind q ≡ 0 → Moved m spot (behind spot q s) t → Went m kinded settings s spot.floor t
  plain_went q t k v =
      let low : IsLow m t = v.low (record { state = omega (arith, k); stack = fine.stack }) in
      let no_start : t.ts ≡ None = v.ts ∙ out.0 in
      let far : spot.floor ≤ t.next = v.floor (omega arith) in
      record {
        furthest = v.furthest;
        backs = v.backs;
        tail = λ e. let more = v.onward e in tail_less s t room (rw (no_start, out.0) (omega (arith, at))) (omega (arith, at));
        fine = record {
          outside = λ _. (no_start, v.kept ∙ out.1);
          inside = λ h. at_least_two (m.kind t.state) low.state h;
          stack = low.stack;
          top = v.top (omega (arith, at));
          backs = v.below fine.backs;
        };
        above = far;
        start = rw no_start far;
      }

  abbrev R : Came S → Type 0
  R c = Result m kinded settings s spot.floor c

  plain_judged : (flow : Flow) (t : Session S) (b : Bool) → Went m kinded settings s spot.floor t →
      R (elim flow as (λ _. Came S) [ Stops _ ↦ came flow t | _ ↦ cond b (came (Stops ErrorState) (record t { next = spot.at })) (came flow t) ])
  plain_judged Goes t true w = tt
  plain_judged Goes t false w = w
  plain_judged Jumps t true w = tt
  plain_judged Jumps t false w = w
  plain_judged Breaks t true w = tt
  plain_judged Breaks t false w = w
  plain_judged (Stops cause) t b w = tt

  plain_failed : AllEnds R (failed m settings spot s)
  unfolding failed
  plain_failed = leaves_bind (λ c. Moved m spot (behind spot m.failed s) c.session) R (calls m settings spot Error (m.error s.state) (behind spot m.failed s)) _
      (calls_move m kinded settings spot Error (m.error s.state) (behind spot m.failed s))
      (λ c v. plain_judged c.flow c.session (m.is_failed c.session.state) (plain_went m.failed c.session kinded.failed v))

  plain_missed : AllEnds R (missed m settings spot s)
  unfolding missed
  plain_missed = subst (λ o. AllEnds R (elim o as (λ _. Play (Came S)) [ None ↦ failed m settings spot s | Some list ↦ deliver m settings spot list s ])) (sym out.1) plain_failed

  plain_marked : (q : S) (t : Session S) → m.kind q ≡ 0 → Went m kinded settings s spot.floor t → AllEnds R (marked m settings spot q t)
  unfolding marked
  plain_marked q t k w = subst (λ n. AllEnds R (cond (nat_eq n 3) (done (came Goes (token_kept m spot q t))) (cond (nat_eq n 4) (deliver m settings spot (m.token q) (token_kept m spot q t)) (done (came Goes t))))) (sym k) w

  plain_on : (q : S) (flow : Flow) (t : Session S) → m.kind q ≡ 0 → Went m kinded settings s spot.floor t → AllEnds R (if_goes (came flow t) (λ u. marked m settings spot q u))
  unfolding if_goes
  plain_on q Goes t k w = plain_marked q t k w
  plain_on q Jumps t k w = w
  plain_on q Breaks t k w = w
  plain_on q (Stops cause) t k w = tt

  plain_stepped : (go : Go S) → m.kind go.target ≡ 0 → AllEnds R (stepped m settings spot s go)
  unfolding stepped
  plain_stepped go k = leaves_bind (λ c. Moved m spot (behind spot go.target s) c.session) R (calls m settings spot Do go.list (behind spot go.target s)) _
      (calls_move m kinded settings spot Do go.list (behind spot go.target s))
      (λ c v. plain_on go.target c.flow c.session k (plain_went go.target c.session k v))

  pub plain_body : (key : Key) → AllEnds R (body m settings spot key s)
  plain_body key = body_leaves m kinded settings s spot.floor spot key s
      (sought_leaves m kinded settings s spot.floor spot key s (λ hold e. plain_missed) (λ hold go e. plain_stepped go (kinded.plain s.state key hold go e plain)))

spans_end : (a : ℕ) (te : Option ℕ) → Spans (Some a) te → (b : ℕ) × (te ≡ Some b) × (a < b) × (b ≤ 2 ^ 63)
spans_end a (Some b) p = (b, refl, p.0, p.1)
spans_end a None p = elim p [ ]

-- a turn inside a scanner; t is the session after a token was opened, with its start a
module _ {S : Type 0} (m : Machine S) (kinded : IsKinded m) (settings : Settings) (s : Session S) (spot : Spot) (t : Session S) (a : ℕ)
    (at : spot.at ≡ s.next) (room : s.next < 2 ^ 63) (stack : AllByRecursion (λ q. m.kind q ≤ 1) t.stack) (limit : s.backs < 65536)
    (furthest : t.furthest ≡ s.furthest) (backs : t.backs ≡ s.backs)
    (ts : t.ts ≡ Some a) (low : a ≤ s.next) (later : unwrap_or s.ts s.next ≤ a) (first : spot.floor ≤ a)
    (kept : KeptSpans t.kept t.ts t.te) (inner : 1 ≤ m.kind t.state) where
  abbrev Q : Came S → Type 0
  Q c = Result m kinded settings s spot.floor c

  -- after a token list
  sent_went : (u v : Session S) (b : ℕ) → u.furthest ≡ s.furthest → u.backs ≡ s.backs → AllByRecursion (λ q. m.kind q ≤ 1) u.stack → 1 ≤ m.kind u.state →
      u.te ≡ Some b → a < b → b ≤ 2 ^ 63 → Moved m spot (sent_home m u) v →
      Went m kinded settings s spot.floor (record v { ts = None; te = None; kept = None })
  sent_went u v b f k st i te ab top w =
      let lows : IsLow m v = w.low (record { state = omega (arith, kinded.home u.state i); stack = st }) in
      let from : unwrap_or u.te u.next ≡ b = rw te refl in
      let far : spot.floor ≤ v.next = w.floor (omega arith) in
      let same : v.furthest ≡ s.furthest = w.furthest ∙ f in
      record {
        furthest = same;
        backs = omega (arith, w.backs);
        tail = λ e. let more = w.onward (omega arith) in tail_far s (record v { ts = None; te = None; kept = None }) (omega arith) (omega arith);
        fine = record {
          outside = λ _. (refl, refl);
          inside = λ h. at_least_two (m.kind v.state) lows.state h;
          stack = lows.stack;
          top = w.top (omega arith);
          backs = w.below (omega arith);
        };
        above = far;
        start = far;
      }

  cleared_result : (u : Session S) (b : ℕ) → u.furthest ≡ s.furthest → u.backs ≡ s.backs → AllByRecursion (λ q. m.kind q ≤ 1) u.stack → 1 ≤ m.kind u.state →
      u.te ≡ Some b → a < b → b ≤ 2 ^ 63 → (flow : Flow) (v : Session S) → Moved m spot (sent_home m u) v → Q (cleared (came flow v))
  cleared_result u b f k st i te ab top Goes v w = sent_went u v b f k st i te ab top w
  cleared_result u b f k st i te ab top Jumps v w = sent_went u v b f k st i te ab top w
  cleared_result u b f k st i te ab top Breaks v w = sent_went u v b f k st i te ab top w
  cleared_result u b f k st i te ab top (Stops cause) v w = tt

  inner_deliver : (list : List ℕ) (u : Session S) (b : ℕ) → u.furthest ≡ s.furthest → u.backs ≡ s.backs → AllByRecursion (λ q. m.kind q ≤ 1) u.stack → 1 ≤ m.kind u.state →
      u.te ≡ Some b → a < b → b ≤ 2 ^ 63 → AllEnds Q (deliver m settings spot list u)
  unfolding deliver
  inner_deliver list u b f k st i te ab top =
      leaves_bind (λ c. Moved m spot (sent_home m u) c.session) Q (calls m settings spot Token list (sent_home m u)) _
      (calls_move m kinded settings spot Token list (sent_home m u))
      (λ c w. cleared_result u b f k st i te ab top c.flow c.session w)

  inner_failed : AllEnds Q (failed m settings spot t)
  unfolding failed
  inner_failed = rw (kinded.no_error t.state inner, kinded.is_failed) tt

  kept_missed : (o : Option (List ℕ)) → KeptSpans o t.ts t.te →
      AllEnds Q (elim o as (λ _. Play (Came S)) [ None ↦ failed m settings spot t | Some list ↦ deliver m settings spot list t ])
  kept_missed None k = inner_failed
  kept_missed (Some list) k =
      let spans : Spans (Some a) t.te = rw ts at k in
      let e = spans_end a t.te spans in
      inner_deliver list t e.0 furthest backs stack inner e.1 e.2 e.3

  inner_missed : AllEnds Q (missed m settings spot t)
  unfolding missed
  inner_missed = kept_missed t.kept kept

  -- behind a step that stays inside the token
  inner_went : (q : S) (te : Option ℕ) (list : Option (List ℕ)) → 2 ≤ m.kind q → KeptSpans list (Some a) te →
      Went m kinded settings s spot.floor (record (behind spot q t) { te = te; kept = list })
  inner_went q te list k spans = record {
    furthest = furthest;
    backs = omega arith;
    tail = λ e. tail_less s (record (behind spot q t) { te = te; kept = list }) room (rw ts (omega arith)) (omega arith);
    fine = record {
      outside = λ h. at_least_two (m.kind q) h k;
      inside = λ _. rw ts (omega arith, spans);
      stack = stack;
      top = omega arith;
      backs = omega arith;
    };
    above = omega arith;
    start = rw ts first;
  }

  inner_marked : (q : S) (b3 b4 : Bool) → 2 ≤ m.kind q →
      AllEnds Q (cond b3 (done (came Goes (token_kept m spot q (behind spot q t)))) (cond b4 (deliver m settings spot (m.token q) (token_kept m spot q (behind spot q t))) (done (came Goes (behind spot q t)))))
  inner_marked q true b4 k = inner_went q (Some (spot.at + 1)) (Some (m.token q)) k (omega arith, omega arith)
  inner_marked q false true k =
      inner_deliver (m.token q) (token_kept m spot q (behind spot q t)) (spot.at + 1) furthest backs stack (omega arith) refl (omega arith) (omega arith)
  inner_marked q false false k = inner_went q t.te t.kept k (rw ts at kept)

  inner_stepped : (go : Go S) → AllByRecursion (IsQuiet m) go.list → 2 ≤ m.kind go.target → AllEnds Q (stepped m settings spot t go)
  unfolding stepped marked
  inner_stepped go quiet k = leaves_bind (Same (behind spot go.target t)) Q (calls m settings spot Do go.list (behind spot go.target t)) _
      (quiet_calls m settings spot Do go.list (behind spot go.target t) quiet)
      (λ c p. same_then m kinded settings s spot.floor c.flow (behind spot go.target t) c.session (λ u. marked m settings spot go.target u) p
      (inner_marked go.target (nat_eq (m.kind go.target) 3) (nat_eq (m.kind go.target) 4) k))

  pub inner_body : (key : Key) → AllEnds Q (body m settings spot key t)
  inner_body key = body_leaves m kinded settings s spot.floor spot key t
      (sought_leaves m kinded settings s spot.floor spot key t (λ hold e. inner_missed)
      (λ hold go e. inner_stepped go (kinded.quiet t.state key hold go e inner) (kinded.inner t.state key hold go e inner)))

-- the end of a turn
module _ {S : Type 0} (m : Machine S) (kinded : IsKinded m) (settings : Settings) (s : Session S) (fine : IsFine m s) where
  abbrev W : Session S → Type 0
  W t = Went m kinded settings s (keep settings s) t

  abbrev F : Came S → Type 0
  F c = UnlessStops c.flow (GoesOn m settings s c.session)

  raised_follows : (t : Session S) → W t → GoesOn m settings s (raised t)
  raised_follows t w = go (nat_lt t.furthest t.next) refl
    where
      go : (b : Bool) → nat_lt t.furthest t.next ≡ b → GoesOn m settings s (cond b (record t { furthest = t.next; backs = 0 }) t)
      go true e =
          let far : t.furthest < t.next = grind (arith, nat_tests) in
          let same : t.furthest ≡ s.furthest = w.furthest in
          let top : t.next ≤ 2 ^ 63 = w.fine.top in
          let above : keep settings s ≤ t.next = w.above in
          let start : keep settings s ≤ unwrap_or t.ts t.next = w.start in
          record {
            fine = record { outside = w.fine.outside; inside = w.fine.inside; stack = w.fine.stack; top = w.fine.top; backs = omega arith };
            falls = weight_far s (record t { furthest = t.next; backs = 0 }) (omega arith) top;
            descends = weight-lex s (record t { furthest = t.next; backs = 0 }) (weight_far s (record t { furthest = t.next; backs = 0 }) (omega arith) top);
            keeps = omega arith;
          }
      go false e =
          let same : t.furthest ≡ s.furthest = w.furthest in
          let above : keep settings s ≤ t.next = w.above in
          let start : keep settings s ≤ unwrap_or t.ts t.next = w.start in
          record {
            fine = w.fine;
            falls = weight_near s t w.furthest w.backs w.fine.backs w.tail;
            descends = weight-lex s t (weight_near s t w.furthest w.backs w.fine.backs w.tail);
            keeps = omega arith;
          }

  closed_follows : (t : Session S) → W t → (flow : Flow) (u : Session S) → Same t (came flow u) → F (closed (came flow u))
  closed_follows t w Goes u p = subst (λ v. GoesOn m settings s (raised v)) (sym p.0) (raised_follows t w)
  closed_follows t w Jumps u p = subst (λ v. GoesOn m settings s (raised v)) (sym p.0) (raised_follows t w)
  closed_follows t w Breaks u p = subst (λ v. GoesOn m settings s (raised v)) (sym p.0) (raised_follows t w)
  closed_follows t w (Stops cause) u p = tt

  to_leaves : (spot : Spot) (t : Session S) → W t → AllEnds F (bind (calls m settings spot To (m.to t.state) t) (λ d. done (closed d)))
  to_leaves spot t w = leaves_bind (Same t) F (calls m settings spot To (m.to t.state) t) _ (silent_calls m settings spot To (m.to t.state) t refl)
      (λ d p. closed_follows t w d.flow d.session p)

  finished_leaves : (spot : Spot) (flow : Flow) (t : Session S) → UnlessStops flow (W t) → AllEnds F (finished m settings spot (came flow t))
  unfolding finished
  finished_leaves spot Goes t w = to_leaves spot t w
  finished_leaves spot Jumps t w = to_leaves spot t w
  finished_leaves spot Breaks t w = raised_follows t w
  finished_leaves spot (Stops cause) t w = tt

  opened_body : (spot : Spot) (key : Key) → spot.at ≡ s.next → spot.floor ≡ keep settings s → s.next < 2 ^ 63 → (n : ℕ) → m.kind s.state ≡ n →
      AllEnds (λ c. UnlessStops c.flow (W c.session)) (body m settings spot key (cond (nat_eq n 1) (record s { ts = Some s.next; te = None; kept = None }) s))
  opened_body spot key at floor room zero e =
      subst (λ f. AllEnds (λ c. UnlessStops c.flow (Went m kinded settings s f c.session)) (body m settings spot key s)) floor
      (plain_body m kinded settings s spot at (rw floor (omega arith)) fine room e key)
  opened_body spot key at floor room (suc zero) e =
      let out = fine.outside (rw e (omega arith)) in
      subst (λ f. AllEnds (λ c. UnlessStops c.flow (Went m kinded settings s f c.session)) (body m settings spot key (record s { ts = Some s.next; te = None; kept = None }))) floor
      (inner_body m kinded settings s spot (record s { ts = Some s.next; te = None; kept = None }) s.next at room fine.stack fine.backs refl refl refl (omega arith)
      (rw out.0 (omega arith)) (rw floor (omega arith)) tt (rw e (omega arith)) key)
  opened_body spot key at floor room (suc (suc n)) e =
      let in_token = fine.inside (rw e (omega arith)) in
      let no : nat_eq (suc (suc n)) 1 ≡ false = grind (arith, nat_tests) in
      subst (λ b. AllEnds (λ c. UnlessStops c.flow (W c.session)) (body m settings spot key (cond b (record s { ts = Some s.next; te = None; kept = None }) s)))
      (sym no) (inside s.ts refl in_token.0)
    where
      inside : (o : Option ℕ) → s.ts ≡ o → StartsBy o s.next → AllEnds (λ c. UnlessStops c.flow (W c.session)) (body m settings spot key s)
      inside None q h = elim h [ ]
      inside (Some a) q h =
          let in_token = fine.inside (rw e (omega arith)) in
          subst (λ f. AllEnds (λ c. UnlessStops c.flow (Went m kinded settings s f c.session)) (body m settings spot key s)) floor
          (inner_body m kinded settings s spot s a at room fine.stack fine.backs refl refl q h (rw q (omega arith)) (rw (floor, q) (omega arith)) in_token.1 (rw e (omega arith)) key)

  pub turn_follows : (byte : ℕ) → s.next < 2 ^ 63 → AllEnds F (turn m settings s byte)
  unfolding turn
  turn_follows byte room =
      let spot = spot_of m settings s byte in
      leaves_bind (λ c. UnlessStops c.flow (W c.session)) F (body m settings spot (m.key_of byte) (opened m s)) (finished m settings spot)
      (opened_body spot (m.key_of byte) refl refl room (m.kind s.state) refl)
      (λ c w. finished_leaves spot c.flow c.session w)

pub turn_law : {S : Type 0} (m : Machine S) (settings : Settings) (s : Session S) (byte : ℕ) → IsKinded m → IsFine m s → s.next < 2 ^ 63 →
    AllEnds (λ c. UnlessStops c.flow (GoesOn m settings s c.session)) (turn m settings s byte)
turn_law m settings s byte kinded fine room = turn_follows m kinded settings s fine byte room

-- the delivery at the end of input goes on towards the end too
pub delivery_law : {S : Type 0} (m : Machine S) (settings : Settings) (s : Session S) (list : List ℕ) → IsKinded m → IsFine m s → s.next < 2 ^ 63 → s.kept ≡ Some list →
    AllEnds (λ c. UnlessStops c.flow (GoesOn m settings s c.session)) (last_delivery m settings s.next list s)
unfolding last_delivery
delivery_law {S} m settings s list kinded fine room is_kept = go (nat_le 2 (m.kind s.state)) refl
  where
    spot : Spot
    spot = end_spot settings s s.next false

    by_start : 2 ≤ m.kind s.state → (o : Option ℕ) → s.ts ≡ o → StartsBy o s.next → KeptSpans s.kept o s.te →
        AllEnds (λ c. UnlessStops c.flow (GoesOn m settings s c.session)) (bind (deliver m settings spot list s) (finished m settings spot))
    by_start inner None e h k = elim h [ ]
    by_start inner (Some a) e h k =
        let spans = rw is_kept at k in
        let b = spans_end a s.te spans in
        leaves_bind (λ c. UnlessStops c.flow (Went m kinded settings s (keep settings s) c.session)) (λ c. UnlessStops c.flow (GoesOn m settings s c.session))
        (deliver m settings spot list s) (finished m settings spot)
        (inner_deliver m kinded settings s spot s a refl room fine.stack fine.backs refl refl e h (rw e (omega arith)) (rw e (omega arith)) (rw e k) (omega arith)
        list s b.0 refl refl fine.stack (omega arith) b.1 b.2 b.3)
        (λ c w. finished_leaves m kinded settings s fine spot c.flow c.session w)

    go : (b : Bool) → nat_le 2 (m.kind s.state) ≡ b → AllEnds (λ c. UnlessStops c.flow (GoesOn m settings s c.session)) (bind (deliver m settings spot list s) (finished m settings spot))
    go true e =
        let inner : 2 ≤ m.kind s.state = grind (arith, nat_tests) in
        by_start inner s.ts refl (fine.inside inner).0 (fine.inside inner).1
    go false e =
        let outer : m.kind s.state ≤ 1 = grind (arith, nat_tests) in
        absurd (no ((fine.outside outer).1))
      where
        no : s.kept ≡ None → ⊥
        no e = cc
