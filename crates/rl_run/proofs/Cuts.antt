-- Runs on inputs that come in pieces.
use Rattle.std.proofs.Common.{◌≡◌, ℕ, zero, suc, ◌+◌, ◌<◌, ◌≤◌, ◌^◌, Bool, true, false, cond, List, [], ◌∷◌, map, length, Option, Some, None, refl, sym, ap, subst, arith, nat_lt, ◌-◌, ◌*◌, take, drop, get_or, zero-add}
use Rattle.std.specs.Prelude.{slice_get}
use Rattle.std.proofs.lemmas.Option.{slice_get_within, slice_get-get_or}
use Rattle.std.proofs.lemmas.Bool.Decides.{nat_tests}
use Rattle.rl_run.specs.declared.calls.Call.{Call}
use Rattle.rl_run.specs.declared.calls.Answer.{Answer}
use Rattle.rl_run.specs.declared.sessions.Flow.{Flow}
use Rattle.rl_run.specs.declared.sessions.Flow.TheVariants.{Goes, Jumps, Breaks, Stops}
use Rattle.rl_run.specs.declared.calls.Outcome.{Outcome}
use Rattle.rl_run.specs.declared.calls.Outcome.TheVariants.{Wants, Broke, Stopped}
use Rattle.rl_run.specs.declared.calls.Stop.{Stop as StopCause}
use Rattle.rl_run.specs.declared.calls.Stop.TheVariants.{PastEnd, HalfKey}
use Rattle.rl_run.specs.declared.sessions.Settings.{Settings}
use Rattle.rl_run.specs.Machine.{Machine, Session, keep}
use Rattle.rl_run.specs.Picks.{Came, came}
use Rattle.rl_run.specs.Turn.{turn}
use Rattle.rl_types.specs.Alphabet.{characters, has_rest}
use Rattle.rl_types.proofs.Characters.{drop-characters, characters_of_take}
use Rattle.rl_run.specs.Run.{Input, input_at, Rest, rest, letter, after, last_delivery, at_kept, ending, end_of, at_end, at_letter, turns}
use Rattle.rl_run.specs.Play.{Play, done, ask, bind, Plays, Log, Reached, ended, stands, run}
use Rattle.rl_run.specs.Chain.{Chain, IsLogOf, Played, Extends, IsOpen, run_on}
use Rattle.rl_run.specs.Fine.{IsKinded, IsFine, GoesOn, UnlessStops, weight}
use Rattle.rl_run.proofs.Ends.{leaf}
use Rattle.rl_run.specs.Play.{AllEnds}
use Rattle.rl_run.proofs.Law.{turn_law, delivery_law}
use Rattle.rl_run.proofs.Plays.{plays_bind}
use Rattle.rl_run.proofs.Runs.{plays_turn, plays_wants, letter_none}

-- a play, as a chain of calls and the run on its answers
pub played : {A H : Type 0} (step : H → Call → Answer → H → Type 0) (h last : H) (p : Play A) (a : A) → Plays step h p last a → Played step h p last a
played step h last (done x) a (e, f) = record { log = []; chain = e; calls = ap (λ w. record { calls = []; reached = ended w }) f }
played step h last (ask c f) a (x, mid, s, more) =
    let r = played step mid last (f x) a more in
    record {
      log = (c, x) ∷ r.log;
      chain = (mid, s, r.chain);
      calls = ap (λ (l : Log _). record { calls = c ∷ l.calls; reached = l.reached }) r.calls;
    }

abbrev log_of : {A : Type 0} → List Call → Reached A → Log A
log_of calls reached = record { calls = calls; reached = reached }

-- and back: a chain whose calls are the program's plays it
pub plays : {A H : Type 0} (step : H → Call → Answer → H → Type 0) (h last : H) (p : Play A) (log : List (Call × Answer)) (a : A) →
    Chain step h log last → IsLogOf p log a → Plays step h p last a
plays step h last (done x) [] a c e = (c, ended_same x a (ap (λ (l : Log _). l.reached) e))
  where
    ended_same : {A : Type 0} (x a : A) → ended x ≡ ended a → x ≡ a
    ended_same x a e = cc
plays step h last (done x) (y ∷ log) a c e = absurd (no (ap (λ (l : Log _). l.calls) e))
  where
    no : [] ≡ (y.0 ∷ map (λ z. z.0) log) → ⊥
    no e = cc
plays step h last (ask c f) [] a k e = absurd (no (ap (λ (l : Log _). l.reached) e))
  where
    no : stands (ask c f) ≡ ended a → ⊥
    no e = cc
plays step h last (ask c f) (y ∷ log) a k e =
    let same : c ≡ y.0 = head_same c y.0 _ _ (ap (λ (l : Log _). l.calls) e) in
    let more : IsLogOf (f y.1) log a = rest_same (run (f y.1) (map (λ z. z.1) log)) _ _ _ _ e in
    (y.1, k.0, subst (λ w. step h w y.1 k.0) (sym same) k.1, plays step k.0 last (f y.1) log a k.2 more)
  where
    head_same : (x z : Call) (xs zs : List Call) → (x ∷ xs) ≡ (z ∷ zs) → x ≡ z
    head_same x z xs zs e = cc

    rest_same : {A : Type 0} (l : Log A) (x z : Call) (zs : List Call) (r : Reached A) →
        log_of (x ∷ l.calls) l.reached ≡ log_of (z ∷ zs) r → l ≡ log_of zs r
    rest_same l x z zs r e =
        let first : x ∷ l.calls ≡ z ∷ zs = ap (λ (w : Log _). w.calls) e in
        let calls : l.calls ≡ zs = cc in
        let second : l.reached ≡ r = ap (λ (w : Log _). w.reached) e in
        subst (λ w. l ≡ log_of w r) calls (subst (λ w. l ≡ log_of l.calls w) second refl)

-- a play of two programs is a play of the first and a play of the second
pub plays_apart : {A B H : Type 0} (step : H → Call → Answer → H → Type 0) (h last : H) (p : Play A) (k : A → Play B) (b : B) →
    Plays step h (bind p k) last b → (mid : H) × (a : A) × Plays step h p mid a × Plays step mid (k a) last b
plays_apart step h last (done x) k b w = (h, x, (refl, refl), w)
plays_apart step h last (ask c f) k b (x, m, s, w) =
    let r = plays_apart step m last (f x) k b w in
    (r.0, r.1, (x, m, s, r.2), r.3)

module _ {S H : Type 0} (step : H → Call → Answer → H → Type 0) (m : Machine S) (settings : Settings)
    (b : Bool) (short long : Input) (not_closed : short.is_closed ≡ false) (more : Extends short long) where
  -- behind a turn
  flow_on : (n k byte : ℕ) (s t : Session S) (h mid last : H) (o : Option Outcome) (r : Rest S) → IsOpen o →
      Plays step mid (turns false m settings long k t) last r →
      ((u : Session S) (g : H) → Plays step g (turns b m settings short n u) mid (rest o t) → (j : ℕ) × Plays step g (turns false m settings long j u) last r) →
      letter long s.next ≡ Some byte →
      (flow : Flow) (u : Session S) (g : H) → Plays step h (turn m settings s byte) g (came flow u) →
      Plays step g (after b (came flow u) (λ v. turns b m settings short n v)) mid (rest o t) →
      (j : ℕ) × Plays step h (turns false m settings long j s) last r
  unfolding after
  flow_on n k byte s t h mid last o r is_open second ih e Goes u g p q =
      let w = ih u g q in
      (suc w.0, plays_turn step m settings long false w.0 byte s h g last (came Goes u) r e p w.1)
  flow_on n k byte s t h mid last o r is_open second ih e Jumps u g p q =
      let w = ih u g q in
      (suc w.0, plays_turn step m settings long false w.0 byte s h g last (came Jumps u) r e p w.1)
  flow_on n k byte s t h mid last o r is_open second ih e Breaks u g p q = broken b refl q
    where
      broken : (d : Bool) → b ≡ d → Plays step g (cond d (done (rest (Some Broke) u)) (turns b m settings short n u)) mid (rest o t) →
          (j : ℕ) × Plays step h (turns false m settings long j s) last r
      broken true x (i, f) =
          let same : u ≡ t = ap (λ (w : Rest S). w.session) f in
          let again : Plays step g (turns false m settings long k u) last r =
          subst (λ v. Plays step g (turns false m settings long k v) last r) (sym same) (subst (λ v. Plays step v (turns false m settings long k t) last r) (sym i) second) in
          (suc k, plays_turn step m settings long false k byte s h g last (came Breaks u) r e p again)
      broken false x q =
          let w = ih u g q in
          (suc w.0, plays_turn step m settings long false w.0 byte s h g last (came Breaks u) r e p w.1)
  flow_on n k byte s t h mid last o r is_open second ih e (Stops cause) u g p (i, f) =
      absurd (subst IsOpen (sym (ap (λ (w : Rest S). w.outcome) f)) is_open)

  letter_on : (n k : ℕ) (s t : Session S) (h mid last : H) (o : Option Outcome) (r : Rest S) → IsOpen o →
      Plays step mid (turns false m settings long k t) last r →
      ((u : Session S) (g : H) → Plays step g (turns b m settings short n u) mid (rest o t) → (j : ℕ) × Plays step g (turns false m settings long j u) last r) →
      (l : Option ℕ) → letter short s.next ≡ l →
      Plays step h (at_letter b m settings short (λ v. turns b m settings short n v) s l) mid (rest o t) →
      (j : ℕ) × Plays step h (turns false m settings long j s) last r
  unfolding at_letter
  letter_on n k s t h mid last o r is_open second ih (Some byte) e p =
      let a = plays_apart step h mid (turn m settings s byte) (λ c. after b c (λ v. turns b m settings short n v)) (rest o t) p in
      flow_on n k byte s t h mid last o r is_open second ih (more s.next byte e) a.1.flow a.1.session a.0 a.2 a.3
  letter_on n k s t h mid last o r is_open second ih None e p = waits short.is_closed not_closed p
    where
      waits : (d : Bool) → d ≡ false → Plays step h (cond d (at_end b m settings short (λ v. turns b m settings short n v) s) (done (rest (Some Wants) s))) mid (rest o t) →
          (j : ℕ) × Plays step h (turns false m settings long j s) last r
      waits true x p = absurd (no x)
        where
          no : true ≡ false → ⊥
          no x = cc
      waits false x (i, f) =
          let same : s ≡ t = ap (λ (w : Rest S). w.session) f in
          (k, subst (λ v. Plays step h (turns false m settings long k v) last r) (sym same) (subst (λ v. Plays step v (turns false m settings long k t) last r) (sym i) second))

  -- a run that may go on is gone on with, on what is seen of a longer input
  pub goes_on : (n k : ℕ) (s t : Session S) (h mid last : H) (o : Option Outcome) (r : Rest S) → IsOpen o →
      Plays step h (turns b m settings short n s) mid (rest o t) →
      Plays step mid (turns false m settings long k t) last r →
      (j : ℕ) × Plays step h (turns false m settings long j s) last r
  unfolding turns
  goes_on zero k s t h mid last o r is_open (i, f) second = absurd (subst IsOpen (sym (ap (λ (w : Rest S). w.outcome) f)) is_open)
  goes_on (suc n) k s t h mid last o r is_open first second =
      letter_on n k s t h mid last o r is_open second (λ u g p. goes_on n k u t g mid last o r is_open p second) (letter short s.next) refl first

-- a position that is seen lies before the end
pub seen_before : (input : Input) (p byte : ℕ) → letter input p ≡ Some byte → p < end_of input
seen_before input p byte e = go (nat_lt p input.base) refl e
  where
    go : (b : Bool) → nat_lt p input.base ≡ b → cond b None (slice_get input.characters (p - input.base)) ≡ Some byte → p < end_of input
    go true x e = let h : p < input.base = grind (arith, nat_tests) in omega arith
    go false x e = let h = slice_get_within input.characters (p - input.base) byte e in omega arith

-- a position that is not seen lies past the end, or before the base
pub unseen_past : (input : Input) (p : ℕ) → letter input p ≡ None → input.base ≤ p → end_of input ≤ p
unseen_past input p e low = go (nat_lt p input.base) refl e
  where
    go : (b : Bool) → nat_lt p input.base ≡ b → cond b None (slice_get input.characters (p - input.base)) ≡ None → end_of input ≤ p
    go true x e = let h : p < input.base = grind (arith, nat_tests) in absurd (omega arith)
    go false x e = past (nat_lt (p - input.base) (length input.characters)) refl
      where
        past : (b : Bool) → nat_lt (p - input.base) (length input.characters) ≡ b → end_of input ≤ p
        past true y =
            let within : p - input.base < length input.characters = grind (arith, nat_tests) in
            let seen = slice_get-get_or input.characters (p - input.base) 0 within in
            absurd (no seen)
          where
            no : slice_get input.characters (p - input.base) ≡ Some (get_or input.characters (p - input.base) 0) → ⊥
            no s = cc
        past false y = let h : length input.characters ≤ p - input.base = grind (arith, nat_tests) in omega arith

module _ {S H : Type 0} (step : H → Call → Answer → H → Type 0) (m : Machine S) (kinded : IsKinded m) (settings : Settings)
    (b : Bool) (input : Input) (limit : end_of input < 2 ^ 63) where
  -- a run with n turns left and one with k turns left come to the same outcome
  abbrev Ahead : (n k : ℕ) (t : Session S) (last : H) (o : Outcome) → Type 0
  Ahead n k t last o = (u : Session S) (g : H) → IsFine m u → input.base ≤ keep settings u → weight u < k →
      Plays step g (turns b m settings input n u) last (rest (Some o) t) → Plays step g (turns b m settings input k u) last (rest (Some o) t)

  enough_after : (n k : ℕ) (s t : Session S) (last : H) (o : Outcome) → input.base ≤ keep settings s → weight s < suc k → Ahead n k t last o →
      (flow : Flow) (u : Session S) (g : H) → UnlessStops flow (GoesOn m settings s u) →
      Plays step g (after b (came flow u) (λ v. turns b m settings input n v)) last (rest (Some o) t) →
      Plays step g (after b (came flow u) (λ v. turns b m settings input k v)) last (rest (Some o) t)
  unfolding after
  enough_after n k s t last o low w ih Goes u g f q = let falls = f.falls in let keeps = f.keeps in ih u g f.fine (omega arith) (omega arith) q
  enough_after n k s t last o low w ih Jumps u g f q = let falls = f.falls in let keeps = f.keeps in ih u g f.fine (omega arith) (omega arith) q
  enough_after n k s t last o low w ih Breaks u g f q = broken b q
    where
      broken : (d : Bool) → Plays step g (cond d (done (rest (Some Broke) u)) (turns b m settings input n u)) last (rest (Some o) t) →
          Plays step g (cond d (done (rest (Some Broke) u)) (turns b m settings input k u)) last (rest (Some o) t)
      broken true q = q
      broken false q = let falls = f.falls in let keeps = f.keeps in ih u g f.fine (omega arith) (omega arith) q
  enough_after n k s t last o low w ih (Stops cause) u g f q = q

  enough_part : (n k : ℕ) (s t : Session S) (h last : H) (o : Outcome) → input.base ≤ keep settings s → weight s < suc k → Ahead n k t last o →
      (p : Play (Came S)) → AllEnds (λ c. UnlessStops c.flow (GoesOn m settings s c.session)) p →
      Plays step h (bind p (λ c. after b c (λ v. turns b m settings input n v))) last (rest (Some o) t) →
      Plays step h (bind p (λ c. after b c (λ v. turns b m settings input k v))) last (rest (Some o) t)
  enough_part n k s t h last o low w ih p law q =
      let a = plays_apart step h last p (λ c. after b c (λ v. turns b m settings input n v)) (rest (Some o) t) q in
      plays_bind step h a.0 last p (λ c. after b c (λ v. turns b m settings input k v)) a.1 (rest (Some o) t) a.2
      (enough_after n k s t last o low w ih a.1.flow a.1.session a.0
      (leaf (λ c. UnlessStops c.flow (GoesOn m settings s c.session)) step h a.0 p a.1 law a.2) a.3)

  enough_kept : (n k : ℕ) (s t : Session S) (h last : H) (o : Outcome) → IsFine m s → input.base ≤ keep settings s → weight s < suc k → Ahead n k t last o →
      s.next ≡ end_of input → (l : Option (List ℕ)) → s.kept ≡ l →
      Plays step h (at_kept b m settings (end_of input) s (λ v. turns b m settings input n v) l) last (rest (Some o) t) →
      Plays step h (at_kept b m settings (end_of input) s (λ v. turns b m settings input k v) l) last (rest (Some o) t)
  unfolding at_kept
  enough_kept n k s t h last o fine low w ih at (Some list) e q =
      enough_part n k s t h last o low w ih (last_delivery m settings (end_of input) list s)
      (subst (λ p. AllEnds (λ c. UnlessStops c.flow (GoesOn m settings s c.session)) (last_delivery m settings p list s)) at
      (delivery_law m settings s list kinded fine (omega (arith, at, limit)) e)) q
  enough_kept n k s t h last o fine low w ih at None e q = q

  enough_ending : (n k : ℕ) (s t : Session S) (h last : H) (o : Outcome) → IsFine m s → input.base ≤ keep settings s → weight s < suc k → Ahead n k t last o →
      letter input s.next ≡ None →
      Plays step h (ending b m settings (end_of input) s (λ v. turns b m settings input n v)) last (rest (Some o) t) →
      Plays step h (ending b m settings (end_of input) s (λ v. turns b m settings input k v)) last (rest (Some o) t)
  unfolding ending
  enough_ending n k s t h last o fine low w ih e = go (nat_lt (end_of input) s.next) refl
    where
      go : (d : Bool) → nat_lt (end_of input) s.next ≡ d →
          Plays step h (cond d (done (rest (Some (Stopped PastEnd)) s)) (at_kept b m settings (end_of input) s (λ v. turns b m settings input n v) s.kept)) last (rest (Some o) t) →
          Plays step h (cond d (done (rest (Some (Stopped PastEnd)) s)) (at_kept b m settings (end_of input) s (λ v. turns b m settings input k v) s.kept)) last (rest (Some o) t)
      go true x q = q
      go false x q =
          let within : s.next ≤ end_of input = grind (arith, nat_tests) in
          let past : end_of input ≤ s.next = unseen_past input s.next e (omega arith) in
          enough_kept n k s t h last o fine low w ih (omega arith) s.kept refl q

  enough_end : (n k : ℕ) (s t : Session S) (h last : H) (o : Outcome) → IsFine m s → input.base ≤ keep settings s → weight s < suc k → Ahead n k t last o →
      letter input s.next ≡ None →
      Plays step h (at_end b m settings input (λ v. turns b m settings input n v) s) last (rest (Some o) t) →
      Plays step h (at_end b m settings input (λ v. turns b m settings input k v) s) last (rest (Some o) t)
  unfolding at_end
  enough_end n k s t h last o fine low w ih e p = go input.has_rest p
    where
      go : (d : Bool) → Plays step h (cond d (done (rest (Some (Stopped HalfKey)) s)) (ending b m settings (end_of input) s (λ v. turns b m settings input n v))) last (rest (Some o) t) →
          Plays step h (cond d (done (rest (Some (Stopped HalfKey)) s)) (ending b m settings (end_of input) s (λ v. turns b m settings input k v))) last (rest (Some o) t)
      go true p = p
      go false p = enough_ending n k s t h last o fine low w ih e p

  enough_letter : (n k : ℕ) (s t : Session S) (h last : H) (o : Outcome) → IsFine m s → input.base ≤ keep settings s → weight s < suc k → Ahead n k t last o →
      (l : Option ℕ) → letter input s.next ≡ l →
      Plays step h (at_letter b m settings input (λ v. turns b m settings input n v) s l) last (rest (Some o) t) →
      Plays step h (at_letter b m settings input (λ v. turns b m settings input k v) s l) last (rest (Some o) t)
  unfolding at_letter
  enough_letter n k s t h last o fine low w ih (Some byte) e p =
      enough_part n k s t h last o low w ih (turn m settings s byte)
      (turn_law m settings s byte kinded fine (omega (arith, seen_before input s.next byte e))) p
  enough_letter n k s t h last o fine low w ih None e p = go input.is_closed p
    where
      go : (d : Bool) → Plays step h (cond d (at_end b m settings input (λ v. turns b m settings input n v) s) (done (rest (Some Wants) s))) last (rest (Some o) t) →
          Plays step h (cond d (at_end b m settings input (λ v. turns b m settings input k v) s) (done (rest (Some Wants) s))) last (rest (Some o) t)
      go true p = enough_end n k s t h last o fine low w ih e p
      go false p = p

  -- so many turns as the weight are enough
  pub enough : (n k : ℕ) (s t : Session S) (h last : H) (o : Outcome) → IsFine m s → input.base ≤ keep settings s → weight s < k →
      Plays step h (turns b m settings input n s) last (rest (Some o) t) → Plays step h (turns b m settings input k s) last (rest (Some o) t)
  unfolding turns
  enough zero k s t h last o fine low w (i, f) = absurd (no (ap (λ (x : Rest S). x.outcome) f))
    where
      no : None ≡ Some o → ⊥
      no e = cc
  enough (suc n) zero s t h last o fine low w p = absurd (omega arith)
  enough (suc n) (suc k) s t h last o fine low w p =
      enough_letter n k s t h last o fine low w (λ u g f l v q. enough n k u t g last o f l v q) (letter input s.next) refl p

  pub on_enough : (n : ℕ) (s t : Session S) (h last : H) (o : Outcome) → IsFine m s → input.base ≤ keep settings s →
      Plays step h (turns b m settings input n s) last (rest (Some o) t) → Plays step h (run_on b m settings input s) last (rest (Some o) t)
  unfolding run_on
  on_enough n s t h last o fine low p = enough n (suc (weight s)) s t h last o fine low (omega arith) p

module _ {S H : Type 0} (step : H → Call → Answer → H → Type 0) (m : Machine S) (settings : Settings)
    (b : Bool) (short long : Input) (not_closed : short.is_closed ≡ false) (more : Extends short long) where
  stays_on : (n byte : ℕ) (s t : Session S) (h last : H) (cause : StopCause) →
      ((u : Session S) (g : H) → Plays step g (turns b m settings short n u) last (rest (Some (Stopped cause)) t) → (j : ℕ) × Plays step g (turns false m settings long j u) last (rest (Some (Stopped cause)) t)) →
      letter long s.next ≡ Some byte →
      (flow : Flow) (u : Session S) (g : H) → Plays step h (turn m settings s byte) g (came flow u) →
      Plays step g (after b (came flow u) (λ v. turns b m settings short n v)) last (rest (Some (Stopped cause)) t) →
      (j : ℕ) × Plays step h (turns false m settings long j s) last (rest (Some (Stopped cause)) t)
  unfolding after
  stays_on n byte s t h last cause ih e Goes u g p q =
      let w = ih u g q in
      (suc w.0, plays_turn step m settings long false w.0 byte s h g last (came Goes u) (rest (Some (Stopped cause)) t) e p w.1)
  stays_on n byte s t h last cause ih e Jumps u g p q =
      let w = ih u g q in
      (suc w.0, plays_turn step m settings long false w.0 byte s h g last (came Jumps u) (rest (Some (Stopped cause)) t) e p w.1)
  stays_on n byte s t h last cause ih e Breaks u g p q = broken b q
    where
      broken : (d : Bool) → Plays step g (cond d (done (rest (Some Broke) u)) (turns b m settings short n u)) last (rest (Some (Stopped cause)) t) →
          (j : ℕ) × Plays step h (turns false m settings long j s) last (rest (Some (Stopped cause)) t)
      broken true (i, f) = absurd (no (ap (λ (w : Rest S). w.outcome) f))
        where
          no : Some Broke ≡ Some (Stopped cause) → ⊥
          no e = cc
      broken false q =
          let w = ih u g q in
          (suc w.0, plays_turn step m settings long false w.0 byte s h g last (came Breaks u) (rest (Some (Stopped cause)) t) e p w.1)
  stays_on n byte s t h last cause ih e (Stops other) u g p q =
      (1, plays_turn step m settings long false 0 byte s h g last (came (Stops other) u) (rest (Some (Stopped cause)) t) e p q)

  stays_letter : (n : ℕ) (s t : Session S) (h last : H) (cause : StopCause) →
      ((u : Session S) (g : H) → Plays step g (turns b m settings short n u) last (rest (Some (Stopped cause)) t) → (j : ℕ) × Plays step g (turns false m settings long j u) last (rest (Some (Stopped cause)) t)) →
      (l : Option ℕ) → letter short s.next ≡ l →
      Plays step h (at_letter b m settings short (λ v. turns b m settings short n v) s l) last (rest (Some (Stopped cause)) t) →
      (j : ℕ) × Plays step h (turns false m settings long j s) last (rest (Some (Stopped cause)) t)
  unfolding at_letter
  stays_letter n s t h last cause ih (Some byte) e p =
      let a = plays_apart step h last (turn m settings s byte) (λ c. after b c (λ v. turns b m settings short n v)) (rest (Some (Stopped cause)) t) p in
      stays_on n byte s t h last cause ih (more s.next byte e) a.1.flow a.1.session a.0 a.2 a.3
  stays_letter n s t h last cause ih None e p = waits short.is_closed not_closed p
    where
      waits : (d : Bool) → d ≡ false → Plays step h (cond d (at_end b m settings short (λ v. turns b m settings short n v) s) (done (rest (Some Wants) s))) last (rest (Some (Stopped cause)) t) →
          (j : ℕ) × Plays step h (turns false m settings long j s) last (rest (Some (Stopped cause)) t)
      waits true x p = absurd (no x)
        where
          no : true ≡ false → ⊥
          no x = cc
      waits false x (i, f) = absurd (no (ap (λ (w : Rest S). w.outcome) f))
        where
          no : Some Wants ≡ Some (Stopped cause) → ⊥
          no e = cc

  -- a stop stays, on what is seen of a longer input
  pub stays : (n : ℕ) (s t : Session S) (h last : H) (cause : StopCause) →
      Plays step h (turns b m settings short n s) last (rest (Some (Stopped cause)) t) →
      (j : ℕ) × Plays step h (turns false m settings long j s) last (rest (Some (Stopped cause)) t)
  unfolding turns
  stays zero s t h last cause (i, f) = absurd (no (ap (λ (w : Rest S). w.outcome) f))
    where
      no : None ≡ Some (Stopped cause) → ⊥
      no e = cc
  stays (suc n) s t h last cause p =
      stays_letter n s t h last cause (λ u g q. stays n u t g last cause q) (letter short s.next) refl p

-- a window shows what the input has there
slice_drop : (xs : List ℕ) (base i b : ℕ) → slice_get (drop base xs) i ≡ Some b → slice_get xs (base + i) ≡ Some b
slice_drop xs zero i b e = rw zero-add e
slice_drop [] (suc base) i b e = absurd (no i e)
  where
    no : (i : ℕ) → slice_get [] i ≡ Some b → ⊥
    no i e = cc
slice_drop (x ∷ xs) (suc base) i b e =
    let here : suc base + i ≡ suc (base + i) = omega arith in
    rw here (slice_drop xs base i b e)

-- a window over the bytes behind the first `base` characters
pub window_extends : (w : ℕ) (xs : List ℕ) (base : ℕ) (c d : Bool) → 0 < w → Extends (input_at w base (drop (w * base) xs) c) (input_at w 0 xs d)
window_extends w xs base c d some p b e = go (nat_lt p base) refl e
  where
    go : (t : Bool) → nat_lt p base ≡ t → cond t None (slice_get (characters w (drop (w * base) xs)) (p - base)) ≡ Some b → letter (input_at w 0 xs d) p ≡ Some b
    go true x e = absurd (no e)
      where
        no : None ≡ Some b → ⊥
        no e = cc
    go false x e =
        let within : base ≤ p = grind (arith, nat_tests) in
        let zero_low : nat_lt p 0 ≡ false = grind (arith, nat_tests) in
        let whole : p - 0 ≡ base + (p - base) = omega arith in
        let here = subst (λ cs. slice_get cs (p - base) ≡ Some b) (sym (drop-characters w base xs some)) e in
        rw (zero_low, whole) (slice_drop (characters w xs) base (p - base) b here)

-- the first n bytes, which may end within a character
pub front_extends : (w : ℕ) (xs : List ℕ) (n : ℕ) (c d : Bool) → Extends (input_at w 0 (take n xs) c) (input_at w 0 xs d)
front_extends w xs n c d p b e =
    let zero_low : nat_lt p 0 ≡ false = grind (arith, nat_tests) in
    let front = rw zero_low at e in
    rw zero_low (characters_of_take w n xs (p - 0) b front)

abbrev open_at : ℕ → ℕ → List ℕ → Input
open_at w base bytes = input_at w base bytes false

-- two feeds, the second one over a window that begins anywhere, are one run on the whole
pub two_feeds : {S H : Type 0} (step : H → Call → Answer → H → Type 0) (m : Machine S) (settings : Settings) (w : ℕ) (xs : List ℕ) (cut base : ℕ) (s t u : Session S) (h mid last : H) →
    0 < w → IsKinded m → IsFine m s → length (characters w xs) < 2 ^ 63 →
    Played step h (run_on true m settings (open_at w 0 (take cut xs)) s) mid (rest (Some Wants) t) →
    Played step mid (run_on true m settings (open_at w base (drop (w * base) xs)) t) last (rest (Some Wants) u) →
    length (characters w xs) ≤ u.next →
    Played step h (run_on false m settings (open_at w 0 xs) s) last (rest (Some Wants) u)
unfolding run_on
two_feeds step m settings w xs cut base s t u h mid last some kinded fine limit first second past =
    let p = plays step h mid (turns true m settings (open_at w 0 (take cut xs)) (suc (weight s)) s) first.log (rest (Some Wants) t) first.chain first.calls in
    let q = plays step mid last (turns true m settings (open_at w base (drop (w * base) xs)) (suc (weight t)) t) second.log (rest (Some Wants) u) second.chain second.calls in
    let stands = plays_wants step m settings (open_at w 0 xs) false 0 u last (letter_none 0 (characters w xs) false (has_rest w xs) u.next (omega arith)) refl in
    let r = goes_on step m settings true (open_at w base (drop (w * base) xs)) (open_at w 0 xs) refl (window_extends w xs base false false some)
    (suc (weight t)) 1 t u mid last last (Some Wants) (rest (Some Wants) u) tt q stands in
    let all = goes_on step m settings true (open_at w 0 (take cut xs)) (open_at w 0 xs) refl (front_extends w xs cut false false)
    (suc (weight s)) r.0 s t h mid last (Some Wants) (rest (Some Wants) u) tt p r.1 in
    played step h last (turns false m settings (open_at w 0 xs) (suc (weight s)) s) (rest (Some Wants) u)
    (enough step m kinded settings false (open_at w 0 xs) (omega arith) all.0 (suc (weight s)) s u h last Wants fine (omega arith) (omega arith) all.1)
