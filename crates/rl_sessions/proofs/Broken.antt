-- A run that is broken off at a break is gone on with on the same input.
use Rattle.std.proofs.Common.{◌≡◌, ℕ, zero, suc, Bool, true, false, cond, List, Option, Some, None, sym, ap, subst, nat_lt}
use Rattle.rl_run.specs.declared.calls.Call.{Call}
use Rattle.rl_run.specs.declared.calls.Answer.{Answer}
use Rattle.rl_run.specs.declared.calls.CallKind.TheVariants.{Eof}
use Rattle.rl_run.specs.declared.calls.Outcome.TheVariants.{Wants, Broke, Stopped}
use Rattle.rl_run.specs.declared.calls.Stop.TheVariants.{PastEnd, HalfKey}
use Rattle.rl_run.specs.declared.sessions.Flow.{Flow}
use Rattle.rl_run.specs.declared.sessions.Flow.TheVariants.{Goes, Jumps, Breaks, Stops}
use Rattle.rl_run.specs.declared.sessions.Settings.{Settings}
use Rattle.rl_run.specs.Machine.{Machine, Session}
use Rattle.rl_run.specs.Picks.{Came, came}
use Rattle.rl_run.specs.Turn.{calls, turn}
use Rattle.rl_run.specs.Run.{Input, Rest, rest, letter, after, end_spot, last_delivery, last_list, over, at_kept, ending, at_end, end_of, at_letter, turns}
use Rattle.rl_run.specs.Play.{Play, done, bind, Plays}
use Rattle.rl_run.specs.Chain.{run_on}
use Rattle.rl_run.specs.Fine.{weight}
use Rattle.rl_run.proofs.Cuts.{plays_apart}
use Rattle.rl_run.proofs.Plays.{plays_bind}

-- the end-of-file list never ends in a break
over_broke : {S : Type 0} (flow : Flow) (u t : Session S) → over (came flow u) ≡ rest (Some Broke) t → ⊥
over_broke {S} flow u t e = by_flow flow (ap (λ (w : Rest S). w.outcome) e)
  where
    by_flow : (flow : Flow) → (over (came flow u)).outcome ≡ Some Broke → ⊥
    by_flow Goes e = cc
    by_flow Jumps e = cc
    by_flow Breaks e = cc
    by_flow (Stops cause) e = cc

module _ {S H : Type 0} (step : H → Call → Answer → H → Type 0) (m : Machine S) (settings : Settings) (mid : H) (t : Session S) where
  list_broke : (at : ℕ) (s : Session S) (h : H) → Plays step h (last_list m settings at s) mid (rest (Some Broke) t) → ⊥
  unfolding last_list
  list_broke at s h p =
      let a = plays_apart step h mid (calls m settings (end_spot settings s at true) Eof (m.eof s.state) s) (λ c. done (over c)) (rest (Some Broke) t) p in
      over_broke a.1.flow a.1.session t a.3.1

  done_broke : (o : Option _) (s : Session S) (h : H) → (o ≡ Some Broke → ⊥) → Plays step h (done (rest o s)) mid (rest (Some Broke) t) → ⊥
  done_broke o s h differs (i, e) = differs (ap (λ (w : Rest S). w.outcome) e)

stopped_broke : (cause : _) → Some (Stopped cause) ≡ Some Broke → ⊥
stopped_broke cause e = cc

wants_broke : Some Wants ≡ Some Broke → ⊥
wants_broke e = cc

none_broke : None ≡ Some Broke → ⊥
none_broke e = cc

module _ {S H : Type 0} (step : H → Call → Answer → H → Type 0) (m : Machine S) (settings : Settings) (input : Input)
    (mid last : H) (t : Session S) (r : Rest S) (k : ℕ) (second : Plays step mid (turns false m settings input k t) last r) where
  abbrev broken : Rest S
  broken = rest (Some Broke) t

  -- a run of at most n turns that is broken off is gone on with
  abbrev GoesOnFrom : ℕ → Type 0
  GoesOnFrom n = (u : Session S) (g : H) → Plays step g (turns true m settings input n u) mid broken → (j : ℕ) × Plays step g (turns false m settings input j u) last r

  on_after : (n : ℕ) → GoesOnFrom n → (flow : Flow) (u : Session S) (g : H) → Plays step g (after true (came flow u) (λ v. turns true m settings input n v)) mid broken →
      (j : ℕ) × Plays step g (after false (came flow u) (λ v. turns false m settings input j v)) last r
  unfolding after
  on_after n ih Goes u g q = ih u g q
  on_after n ih Jumps u g q = ih u g q
  on_after n ih Breaks u g (i, e) =
      let same : u ≡ t = ap (λ (w : Rest S). w.session) e in
      (k, subst (λ v. Plays step g (turns false m settings input k v) last r) (sym same) (subst (λ v. Plays step v (turns false m settings input k t) last r) (sym i) second))
  on_after n ih (Stops cause) u g q = absurd (done_broke step m settings mid t (Some (Stopped cause)) u g (stopped_broke cause) q)

  on_part : (n : ℕ) → GoesOnFrom n → (p : Play (Came S)) (h : H) → Plays step h (bind p (λ c. after true c (λ v. turns true m settings input n v))) mid broken →
      (j : ℕ) × Plays step h (bind p (λ c. after false c (λ v. turns false m settings input j v))) last r
  on_part n ih p h q =
      let a = plays_apart step h mid p (λ c. after true c (λ v. turns true m settings input n v)) broken q in
      let b = on_after n ih a.1.flow a.1.session a.0 a.3 in
      (b.0, plays_bind step h a.0 last p (λ c. after false c (λ v. turns false m settings input b.0 v)) a.1 r a.2 b.1)

  on_kept : (n : ℕ) → GoesOnFrom n → (at : ℕ) (s : Session S) (h : H) (l : Option (List ℕ)) →
      Plays step h (at_kept true m settings at s (λ v. turns true m settings input n v) l) mid broken →
      (j : ℕ) × Plays step h (at_kept false m settings at s (λ v. turns false m settings input j v) l) last r
  unfolding at_kept
  on_kept n ih at s h (Some list) q = on_part n ih (last_delivery m settings at list s) h q
  on_kept n ih at s h None q = absurd (list_broke step m settings mid t at s h q)

  on_ending : (n : ℕ) → GoesOnFrom n → (at : ℕ) (s : Session S) (h : H) →
      Plays step h (ending true m settings at s (λ v. turns true m settings input n v)) mid broken →
      (j : ℕ) × Plays step h (ending false m settings at s (λ v. turns false m settings input j v)) last r
  unfolding ending
  on_ending n ih at s h = go (nat_lt at s.next)
    where
      go : (d : Bool) → Plays step h (cond d (done (rest (Some (Stopped PastEnd)) s)) (at_kept true m settings at s (λ v. turns true m settings input n v) s.kept)) mid broken →
          (j : ℕ) × Plays step h (cond d (done (rest (Some (Stopped PastEnd)) s)) (at_kept false m settings at s (λ v. turns false m settings input j v) s.kept)) last r
      go true q = absurd (done_broke step m settings mid t (Some (Stopped PastEnd)) s h (stopped_broke PastEnd) q)
      go false q = on_kept n ih at s h s.kept q

  on_end : (n : ℕ) → GoesOnFrom n → (s : Session S) (h : H) →
      Plays step h (at_end true m settings input (λ v. turns true m settings input n v) s) mid broken →
      (j : ℕ) × Plays step h (at_end false m settings input (λ v. turns false m settings input j v) s) last r
  unfolding at_end
  on_end n ih s h = go input.has_rest
    where
      go : (d : Bool) →
          Plays step h
          (cond d (done (rest (Some (Stopped HalfKey)) s)) (ending true m settings (end_of input) s (λ v. turns true m settings input n v))) mid broken →
          (j : ℕ) × Plays step h
          (cond d (done (rest (Some (Stopped HalfKey)) s)) (ending false m settings (end_of input) s (λ v. turns false m settings input j v))) last r
      go true q = absurd (done_broke step m settings mid t (Some (Stopped HalfKey)) s h (stopped_broke HalfKey) q)
      go false q = on_ending n ih (end_of input) s h q

  on_letter : (n : ℕ) → GoesOnFrom n → (s : Session S) (h : H) (l : Option ℕ) →
      Plays step h (at_letter true m settings input (λ v. turns true m settings input n v) s l) mid broken →
      (j : ℕ) × Plays step h (at_letter false m settings input (λ v. turns false m settings input j v) s l) last r
  unfolding at_letter
  on_letter n ih s h (Some character) q = on_part n ih (turn m settings s character) h q
  on_letter n ih s h None q = go input.is_closed q
    where
      go : (d : Bool) → Plays step h (cond d (at_end true m settings input (λ v. turns true m settings input n v) s) (done (rest (Some Wants) s))) mid broken →
          (j : ℕ) × Plays step h (cond d (at_end false m settings input (λ v. turns false m settings input j v) s) (done (rest (Some Wants) s))) last r
      go true q = on_end n ih s h q
      go false q = absurd (done_broke step m settings mid t (Some Wants) s h wants_broke q)

  on : (n : ℕ) → GoesOnFrom n
  unfolding turns
  on zero u g p = absurd (done_broke step m settings mid t None u g none_broke p)
  on (suc n) u g p = let b = on_letter n (on n) u g (letter input u.next) p in (suc b.0, b.1)

  -- so the whole run
  pub break_goes_on : (s : Session S) (h : H) → Plays step h (run_on true m settings input s) mid broken → (j : ℕ) × Plays step h (turns false m settings input j s) last r
  unfolding run_on
  break_goes_on s h p = on (suc (weight s)) s h p
