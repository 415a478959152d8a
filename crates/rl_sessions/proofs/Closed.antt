-- A run on the last bytes of an input is the run on the input.
use Rattle.std.proofs.Common.{◌≡◌, ℕ, zero, suc, ◌+◌, ◌*◌, ◌-◌, ◌^◌, ◌<◌, ◌≤◌, Bool, true, false, cond, List, [], ◌∷◌, length, drop, Option, Some, None, refl, sym, ◌∙◌, ap, subst, arith, nat_lt, zero-add}
use Rattle.std.specs.Prelude.{◌/◌, slice_get}
use Rattle.std.proofs.lemmas.Nat.{le-div}
use Rattle.std.proofs.Math.Nat.{mul_comm}
use Rattle.std.proofs.lemmas.List.{length-drop}
use Rattle.std.proofs.lemmas.Bool.Decides.{nat_tests}
use Rattle.rl_run.specs.declared.calls.Call.{Call}
use Rattle.rl_run.specs.declared.calls.Answer.{Answer}
use Rattle.rl_run.specs.declared.calls.Outcome.TheVariants.{Wants, Stopped}
use Rattle.rl_run.specs.declared.calls.Stop.TheVariants.{PastEnd, HalfKey}
use Rattle.rl_run.specs.declared.sessions.Flow.{Flow}
use Rattle.rl_run.specs.declared.sessions.Flow.TheVariants.{Goes, Jumps, Breaks, Stops}
use Rattle.rl_run.specs.declared.sessions.Settings.{Settings}
use Rattle.rl_run.specs.Machine.{Machine, Session, keep}
use Rattle.rl_run.specs.Picks.{Came, came}
use Rattle.rl_run.specs.Turn.{turn}
use Rattle.rl_run.specs.Run.{Input, Rest, rest, letter, after, last_delivery, at_kept, ending, at_end, end_of, at_letter, turns}
use Rattle.rl_run.specs.Play.{Play, done, bind, Plays, AllEnds}
use Rattle.rl_run.specs.Chain.{Played, run_on}
use Rattle.rl_run.specs.Fine.{IsKinded, IsFine, GoesOn, UnlessStops, weight}
use Rattle.rl_run.proofs.Cuts.{plays, plays_apart, seen_before, unseen_past}
use Rattle.rl_run.proofs.Ends.{leaf}
use Rattle.rl_run.proofs.Law.{turn_law, delivery_law}
use Rattle.rl_run.proofs.Plays.{plays_bind}
use Rattle.rl_runner.specs.Feeds.{closed_of}
use Rattle.rl_runner.proofs.Letters.{limit}
use Rattle.rl_types.specs.Alphabet.{characters}
use Rattle.rl_types.proofs.Characters.{drop-characters, length-characters, has_rest-drop}

module _ {S H : Type 0} (step : H → Call → Answer → H → Type 0) (m : Machine S) (kinded : IsKinded m) (settings : Settings)
    (a b : Input) (ca : a.is_closed ≡ true) (cb : b.is_closed ≡ true) (ends : end_of b ≡ end_of a) (rests : b.has_rest ≡ a.has_rest) (limit : end_of a < 2 ^ 63)
    (alike : (p : ℕ) → a.base ≤ p → letter b p ≡ letter a p) (last : H) (r : Rest S) where
  -- what is played on the one is played on the other
  abbrev Same : ℕ → Type 0
  Same n = (s : Session S) (h : H) → IsFine m s → a.base ≤ keep settings s → Plays step h (turns true m settings a n s) last r → Plays step h (turns true m settings b n s) last r

  behind : (n : ℕ) → Same n → (s : Session S) → a.base ≤ keep settings s → (flow : Flow) (u : Session S) (g : H) → UnlessStops flow (GoesOn m settings s u) →
      Plays step g (after true (came flow u) (λ v. turns true m settings a n v)) last r → Plays step g (after true (came flow u) (λ v. turns true m settings b n v)) last r
  unfolding after
  behind n ih s low Goes u g f p = let keeps = f.keeps in ih u g f.fine (omega arith) p
  behind n ih s low Jumps u g f p = let keeps = f.keeps in ih u g f.fine (omega arith) p
  behind n ih s low Breaks u g f p = p
  behind n ih s low (Stops cause) u g f p = p

  joined : (n : ℕ) → Same n → (s : Session S) → a.base ≤ keep settings s → (first : Play (Came S)) (h : H) →
      AllEnds (λ c. UnlessStops c.flow (GoesOn m settings s c.session)) first →
      Plays step h (bind first (λ c. after true c (λ v. turns true m settings a n v))) last r →
      Plays step h (bind first (λ c. after true c (λ v. turns true m settings b n v))) last r
  joined n ih s low first h law p =
      let w = plays_apart step h last first (λ c. after true c (λ v. turns true m settings a n v)) r p in
      plays_bind step h w.0 last first (λ c. after true c (λ v. turns true m settings b n v)) w.1 r w.2
      (behind n ih s low w.1.flow w.1.session w.0 (leaf (λ c. UnlessStops c.flow (GoesOn m settings s c.session)) step h w.0 first w.1 law w.2) w.3)

  kept : (n : ℕ) → Same n → (s : Session S) (h : H) → IsFine m s → a.base ≤ keep settings s → s.next ≡ end_of a → (list : Option (List ℕ)) → s.kept ≡ list →
      Plays step h (at_kept true m settings (end_of a) s (λ v. turns true m settings a n v) list) last r →
      Plays step h (at_kept true m settings (end_of a) s (λ v. turns true m settings b n v) list) last r
  unfolding at_kept
  kept n ih s h fine low at (Some list) e p =
      joined n ih s low (last_delivery m settings (end_of a) list s) h
      (subst (λ q. AllEnds (λ c. UnlessStops c.flow (GoesOn m settings s c.session)) (last_delivery m settings q list s)) at
      (delivery_law m settings s list kinded fine (omega (arith, at, limit)) e)) p
  kept n ih s h fine low at None e p = p

  ended : (n : ℕ) → Same n → (s : Session S) (h : H) → IsFine m s → a.base ≤ keep settings s → letter a s.next ≡ None →
      Plays step h (ending true m settings (end_of a) s (λ v. turns true m settings a n v)) last r →
      Plays step h (ending true m settings (end_of a) s (λ v. turns true m settings b n v)) last r
  unfolding ending
  ended n ih s h fine low e p = go (nat_lt (end_of a) s.next) refl p
    where
      go : (d : Bool) → nat_lt (end_of a) s.next ≡ d →
          Plays step h (cond d (done (rest (Some (Stopped PastEnd)) s)) (at_kept true m settings (end_of a) s (λ v. turns true m settings a n v) s.kept)) last r →
          Plays step h (cond d (done (rest (Some (Stopped PastEnd)) s)) (at_kept true m settings (end_of a) s (λ v. turns true m settings b n v) s.kept)) last r
      go true x q = q
      go false x q =
          let within : s.next ≤ end_of a = grind (arith, nat_tests) in
          let past : end_of a ≤ s.next = unseen_past a s.next e (omega arith) in
          kept n ih s h fine low (omega arith) s.kept refl q

  at_ended : (n : ℕ) → Same n → (s : Session S) (h : H) → IsFine m s → a.base ≤ keep settings s → letter a s.next ≡ None →
      Plays step h (at_end true m settings a (λ v. turns true m settings a n v) s) last r →
      Plays step h (at_end true m settings b (λ v. turns true m settings b n v) s) last r
  unfolding at_end
  at_ended n ih s h fine low e p =
      subst (λ d. Plays step h
      (cond d (done (rest (Some (Stopped HalfKey)) s)) (ending true m settings (end_of b) s (λ v. turns true m settings b n v))) last r) (sym rests)
      (go a.has_rest p)
    where
      go : (d : Bool) →
          Plays step h (cond d (done (rest (Some (Stopped HalfKey)) s)) (ending true m settings (end_of a) s (λ v. turns true m settings a n v))) last r →
          Plays step h (cond d (done (rest (Some (Stopped HalfKey)) s)) (ending true m settings (end_of b) s (λ v. turns true m settings b n v))) last r
      go true q = q
      go false q = subst (λ at. Plays step h (ending true m settings at s (λ v. turns true m settings b n v)) last r) (sym ends) (ended n ih s h fine low e q)

  lettered : (n : ℕ) → Same n → (s : Session S) (h : H) → IsFine m s → a.base ≤ keep settings s → (l : Option ℕ) → letter a s.next ≡ l →
      Plays step h (at_letter true m settings a (λ v. turns true m settings a n v) s l) last r →
      Plays step h (at_letter true m settings b (λ v. turns true m settings b n v) s l) last r
  unfolding at_letter
  lettered n ih s h fine low (Some character) e p =
      joined n ih s low (turn m settings s character) h (turn_law m settings s character kinded fine (omega (arith, seen_before a s.next character e))) p
  lettered n ih s h fine low None e p = go a.is_closed ca b.is_closed cb p
    where
      open_closed : {A : Type 0} → false ≡ true → A
      open_closed x = cc

      go : (c : Bool) → c ≡ true → (d : Bool) → d ≡ true →
          Plays step h (cond c (at_end true m settings a (λ v. turns true m settings a n v) s) (done (rest (Some Wants) s))) last r →
          Plays step h (cond d (at_end true m settings b (λ v. turns true m settings b n v) s) (done (rest (Some Wants) s))) last r
      go true x true y q = at_ended n ih s h fine low e q
      go true x false y q = open_closed y
      go false x d y q = open_closed x

  turns_alike : (n : ℕ) → Same n
  unfolding turns
  turns_alike zero s h fine low p = p
  turns_alike (suc n) s h fine low p =
      subst (λ l. Plays step h (at_letter true m settings b (λ v. turns true m settings b n v) s l) last r) (sym (alike s.next (omega arith)))
      (lettered n (turns_alike n) s h fine low (letter a s.next) refl p)

  pub run_alike : (s : Session S) (h : H) → IsFine m s → a.base ≤ keep settings s → Played step h (run_on true m settings a s) last r → Plays step h (run_on true m settings b s) last r
  unfolding run_on
  run_alike s h fine low p = turns_alike (suc (weight s)) s h fine low (plays step h last (turns true m settings a (suc (weight s)) s) p.log r p.chain p.calls)

drop_get : (xs : List ℕ) (base i : ℕ) → slice_get xs (base + i) ≡ slice_get (drop base xs) i
drop_get xs zero i = ap (λ n. slice_get xs n) (zero-add i)
drop_get [] (suc base) i = refl
drop_get (x ∷ xs) (suc base) i =
    let here : suc base + i ≡ suc (base + i) = omega arith in
    rw here (drop_get xs base i)

closed_alike : (width base : ℕ) (xs : List ℕ) → 0 < width → (p : ℕ) → base ≤ p →
    letter (closed_of width 0 xs) p ≡ letter (closed_of width base (drop (width * base) xs)) p
closed_alike width base xs some p low =
    let zero_low : nat_lt p 0 ≡ false = grind (arith, nat_tests) in
    let base_low : nat_lt p base ≡ false = grind (arith, nat_tests) in
    let whole : p - 0 ≡ base + (p - base) = omega arith in
    rw (zero_low, base_low, whole) (drop_get (characters width xs) base (p - base) ∙ ap (λ cs. slice_get cs (p - base)) (drop-characters width base xs some))

closed_ends : (width base : ℕ) (xs : List ℕ) → 0 < width → width * base ≤ length xs →
    end_of (closed_of width 0 xs) ≡ end_of (closed_of width base (drop (width * base) xs))
closed_ends width base xs some within =
    let whole = length-characters width xs in
    let low : base ≤ length xs / width = le-div base (length xs) width some (subst (λ n. n ≤ length xs) (mul_comm width base) within) in
    let behind : length (characters width (drop (width * base) xs)) ≡ length (characters width xs) - base =
    ap length (sym (drop-characters width base xs some)) ∙ length-drop base (characters width xs) in
    omega arith

-- so the whole run
pub run_at_end : {S H : Type 0} (step : H → Call → Answer → H → Type 0) (m : Machine S) (kinded : IsKinded m) (settings : Settings) (width base : ℕ)
    (xs : List ℕ)
    (last : H) (r : Rest S) (s : Session S) (h : H) → 0 < width → width * base ≤ length xs → length xs < 2 ^ 63 → IsFine m s → base ≤ keep settings s →
    Played step h (run_on true m settings (closed_of width base (drop (width * base) xs)) s) last r →
    Plays step h (run_on true m settings (closed_of width 0 xs) s) last r
run_at_end step m kinded settings width base xs last r s h some within below fine low p =
    let ends = closed_ends width base xs some within in
    run_alike step m kinded settings (closed_of width base (drop (width * base) xs)) (closed_of width 0 xs) refl refl ends
    (sym (has_rest-drop width base xs within))
    (subst (λ n. n < 2 ^ 63) ends (limit width 0 xs true some (omega arith))) (closed_alike width base xs some) last r s h fine low p
