-- Lists that change nothing.
use Rattle.std.proofs.Common.{◌≡◌, ℕ, Bool, true, false, cond, List, [], ◌∷◌, Option, Some, None, refl, sym, subst}
use Rattle.std.specs.List.{AllByRecursion}
use Rattle.rl_run.specs.declared.calls.Answer.{Answer}
use Rattle.rl_run.specs.declared.calls.Answer.TheVariants.{Yes, No, Picks, Stop}
use Rattle.rl_run.specs.declared.calls.CallKind.{CallKind}
use Rattle.rl_run.specs.declared.sessions.Flow.{Flow}
use Rattle.rl_run.specs.declared.sessions.Flow.TheVariants.{Goes, Jumps, Breaks, Stops}
use Rattle.rl_run.specs.declared.calls.Pick.{Pick}
use Rattle.rl_run.specs.declared.calls.Stop.{Stop as StopCause}
use Rattle.rl_run.specs.declared.calls.Stop.TheVariants.{Stray}
use Rattle.rl_run.specs.declared.sessions.Settings.{Settings}
use Rattle.rl_run.specs.Machine.{Machine, Session}
use Rattle.rl_run.specs.Picks.{Came, Spot, came, entry_number, stated, pick_one, pick_all, answered, on_goes, takes_picks}
use Rattle.rl_run.specs.Play.{Play}
use Rattle.rl_run.specs.Turn.{calls, if_goes}
use Rattle.rl_run.specs.Fine.{IsQuiet, UnlessStops}
use Rattle.rl_run.specs.Play.{AllEnds}

-- the session is as it was, unless it stopped
abbrev pub Same : {S : Type 0} → Session S → Came S → Type 0
Same s c = UnlessStops c.flow ((c.session ≡ s) × (c.flow ≡ Goes))

module _ {S : Type 0} (m : Machine S) (settings : Settings) (spot : Spot) where
  quiet_pick : (stray : StopCause) (action : ℕ) (s : Session S) (pick : Pick) → IsQuiet m action → (k : Session S → Came S) →
      Same s (on_goes (pick_one m settings spot stray action s pick) k)
  quiet_pick stray action s pick quiet k =
      subst (λ o. Same s (on_goes (elim o as (λ _. Came S) [ None ↦ came (Stops stray) s | Some statement ↦ stated m settings spot stray pick s (entry_number statement.entry) statement.kind pick.goal ]) k))
      (sym (quiet pick.statement)) tt

  quiet_picks : (stray : StopCause) (action : ℕ) (picks : List (Option Pick)) (s : Session S) → IsQuiet m action →
      Same s (pick_all m settings spot stray action picks s)
  quiet_picks stray action [] s quiet = (refl, refl)
  quiet_picks stray action (None ∷ picks) s quiet = (refl, refl)
  quiet_picks stray action (Some pick ∷ picks) s quiet = quiet_pick stray action s pick quiet (λ t. pick_all m settings spot stray action picks t)

  same_either : (s : Session S) (b : Bool) (x y : Came S) → (b ≡ true → Same s x) → Same s y → Same s (cond b x y)
  same_either s true x y p q = p refl
  same_either s false x y p q = q

  pub quiet_answer : (kind : CallKind) (action : ℕ) (s : Session S) (x : Answer) → IsQuiet m action → Same s (answered m settings spot kind action s x)
  quiet_answer kind action s Yes quiet = (refl, refl)
  quiet_answer kind action s No quiet = tt
  quiet_answer kind action s (Picks picks) quiet =
      same_either s (takes_picks kind) _ (came (Stops (Stray (Picks picks))) s) (λ _. quiet_picks (Stray (Picks picks)) action picks s quiet) tt
  quiet_answer kind action s Stop quiet = tt

  pub silent_answer : (kind : CallKind) (action : ℕ) (s : Session S) (x : Answer) → takes_picks kind ≡ false → Same s (answered m settings spot kind action s x)
  silent_answer kind action s Yes e = (refl, refl)
  silent_answer kind action s No e = tt
  silent_answer kind action s (Picks picks) e = rw e tt
  silent_answer kind action s Stop e = tt

  -- one answer that changes nothing, and then a rest that changes nothing
  same_on : (s : Session S) (flow : Flow) (t : Session S) (k : Session S → Play (Came S)) → Same s (came flow t) → AllEnds (Same s) (k s) → AllEnds (Same s) (if_goes (came flow t) k)
  unfolding if_goes
  same_on s Goes t k p q = subst (λ u. AllEnds (Same s) (k u)) (sym p.0) q
  same_on s Jumps t k p q = p
  same_on s Breaks t k p q = p
  same_on s (Stops cause) t k p q = tt

  pub silent_calls : (kind : CallKind) (list : List ℕ) (s : Session S) → takes_picks kind ≡ false → AllEnds (Same s) (calls m settings spot kind list s)
  silent_calls kind [] s e = (refl, refl)
  silent_calls kind (action ∷ list) s e = λ x.
      let c = answered m settings spot kind action s x in
      same_on s c.flow c.session (λ t. calls m settings spot kind list t) (silent_answer kind action s x e) (silent_calls kind list s e)

  pub quiet_calls : (kind : CallKind) (list : List ℕ) (s : Session S) → AllByRecursion (IsQuiet m) list → AllEnds (Same s) (calls m settings spot kind list s)
  quiet_calls kind [] s q = (refl, refl)
  quiet_calls kind (action ∷ list) s q = λ x.
      let c = answered m settings spot kind action s x in
      same_on s c.flow c.session (λ t. calls m settings spot kind list t) (quiet_answer kind action s x q.0) (quiet_calls kind list s q.1)
