-- The turns of a run are never spent.
use Rattle.std.proofs.Common.{◌≡◌, ℕ, zero, suc, ◌<◌, ◌≤◌, ◌^◌, Bool, true, false, cond, List, Option, Some, None, refl, subst, arith, nat_lt}
use Rattle.std.proofs.lemmas.Bool.Decides.{nat_tests}
use Rattle.rl_run.specs.declared.calls.CallKind.TheVariants.{Eof}
use Rattle.rl_run.specs.declared.sessions.Flow.{Flow}
use Rattle.rl_run.specs.declared.sessions.Flow.TheVariants.{Goes, Jumps, Breaks, Stops}
use Rattle.rl_run.specs.declared.calls.Outcome.{Outcome}
use Rattle.rl_run.specs.declared.calls.Outcome.TheVariants.{Wants, Broke, Ended, Stopped}
use Rattle.rl_run.specs.declared.calls.Stop.{Stop as StopCause}
use Rattle.rl_run.specs.declared.calls.Stop.TheVariants.{PastEnd, HalfKey}
use Rattle.rl_run.specs.declared.sessions.Settings.{Settings}
use Rattle.rl_run.specs.Machine.{Machine, Session, keep}
use Rattle.rl_run.specs.Picks.{Came, came}
use Rattle.rl_run.specs.Turn.{calls, turn}
use Rattle.rl_run.specs.Run.{Input, Rest, rest, letter, end_of, end_spot, after, last_delivery, over, last_list, at_kept, ending, at_end, at_letter, turns}
use Rattle.rl_run.specs.Play.{Play, done, ask, bind}
use Rattle.rl_run.specs.Chain.{run_on}
use Rattle.rl_run.specs.Fine.{IsKinded, IsFine, GoesOn, UnlessStops, weight}
use Rattle.rl_run.proofs.Ends.{leaves_bind}
use Rattle.rl_run.specs.Play.{AllEnds}
use Rattle.rl_run.proofs.Law.{turn_law, delivery_law}
use Rattle.rl_run.proofs.Cuts.{seen_before, unseen_past}

module _ {S : Type 0} (m : Machine S) (kinded : IsKinded m) (settings : Settings) (b : Bool) (input : Input) (limit : end_of input < 2 ^ 63) where
  abbrev Comes : Rest S → Type 0
  Comes r = (r.outcome ≡ None → ⊥) × (r.outcome ≡ Some Wants → IsFine m r.session)

  same_inside : (o : Outcome) → Some o ≡ Some Wants → o ≡ Wants
  same_inside o e = cc

  some_comes : (o : Outcome) (s : Session S) → (o ≡ Wants → IsFine m s) → Comes (rest (Some o) s)
  some_comes o s h = (λ e. cc, λ e. h (same_inside o e))

  broke_comes : (s : Session S) → Comes (rest (Some Broke) s)
  broke_comes s = some_comes Broke s (λ e. absurd (no e))
    where
      no : Broke ≡ Wants → ⊥
      no e = cc

  ended_comes : (s : Session S) → Comes (rest (Some Ended) s)
  ended_comes s = some_comes Ended s (λ e. absurd (no e))
    where
      no : Ended ≡ Wants → ⊥
      no e = cc

  stopped_comes : (cause : StopCause) (s : Session S) → Comes (rest (Some (Stopped cause)) s)
  stopped_comes cause s = some_comes (Stopped cause) s (λ e. absurd (no e))
    where
      no : Stopped cause ≡ Wants → ⊥
      no e = cc

  abbrev Ahead : ℕ → Type 0
  Ahead n = (u : Session S) → IsFine m u → input.base ≤ keep settings u → weight u < n → AllEnds Comes (turns b m settings input n u)

  after_comes : (n : ℕ) (s : Session S) → input.base ≤ keep settings s → weight s < suc n → Ahead n → (flow : Flow) (u : Session S) → UnlessStops flow (GoesOn m settings s u) →
      AllEnds Comes (after b (came flow u) (λ v. turns b m settings input n v))
  unfolding after
  after_comes n s low w ih Goes u f = let falls = f.falls in let keeps = f.keeps in ih u f.fine (omega arith) (omega arith)
  after_comes n s low w ih Jumps u f = let falls = f.falls in let keeps = f.keeps in ih u f.fine (omega arith) (omega arith)
  after_comes n s low w ih Breaks u f = broken b
    where
      broken : (d : Bool) → AllEnds Comes (cond d (done (rest (Some Broke) u)) (turns b m settings input n u))
      broken true = broke_comes u
      broken false = let falls = f.falls in let keeps = f.keeps in ih u f.fine (omega arith) (omega arith)
  after_comes n s low w ih (Stops cause) u f = stopped_comes cause u

  part_comes : (n : ℕ) (s : Session S) → input.base ≤ keep settings s → weight s < suc n → Ahead n → (p : Play (Came S)) →
      AllEnds (λ c. UnlessStops c.flow (GoesOn m settings s c.session)) p → AllEnds Comes (bind p (λ c. after b c (λ v. turns b m settings input n v)))
  part_comes n s low w ih p law = leaves_bind (λ c. UnlessStops c.flow (GoesOn m settings s c.session)) Comes p _ law (λ c f. after_comes n s low w ih c.flow c.session f)

  any_leaves : {A : Type 0} (p : Play A) → AllEnds (λ a. Unit {0}) p
  any_leaves (done a) = tt
  any_leaves (ask c f) = λ x. any_leaves (f x)

  over_comes : (flow : Flow) (u : Session S) → Comes (over (came flow u))
  over_comes Goes u = ended_comes u
  over_comes Jumps u = ended_comes u
  over_comes Breaks u = ended_comes u
  over_comes (Stops cause) u = stopped_comes cause u

  kept_comes : (n : ℕ) (s : Session S) → IsFine m s → input.base ≤ keep settings s → weight s < suc n → Ahead n → s.next ≡ end_of input → (o : Option (List ℕ)) → s.kept ≡ o →
      AllEnds Comes (at_kept b m settings (end_of input) s (λ v. turns b m settings input n v) o)
  unfolding at_kept last_list
  kept_comes n s fine low w ih at (Some list) e =
      part_comes n s low w ih (last_delivery m settings (end_of input) list s)
      (subst (λ p. AllEnds (λ c. UnlessStops c.flow (GoesOn m settings s c.session)) (last_delivery m settings p list s)) at
      (delivery_law m settings s list kinded fine (omega (arith, at, limit)) e))
  kept_comes n s fine low w ih at None e =
      leaves_bind (λ c. Unit {0}) Comes (calls m settings (end_spot settings s (end_of input) true) Eof (m.eof s.state) s) _
      (any_leaves (calls m settings (end_spot settings s (end_of input) true) Eof (m.eof s.state) s)) (λ c _. over_comes c.flow c.session)

  ending_comes : (n : ℕ) (s : Session S) → IsFine m s → input.base ≤ keep settings s → weight s < suc n → Ahead n → letter input s.next ≡ None →
      AllEnds Comes (ending b m settings (end_of input) s (λ v. turns b m settings input n v))
  unfolding ending
  ending_comes n s fine low w ih e = go (nat_lt (end_of input) s.next) refl
    where
      go : (d : Bool) → nat_lt (end_of input) s.next ≡ d →
          AllEnds Comes (cond d (done (rest (Some (Stopped PastEnd)) s)) (at_kept b m settings (end_of input) s (λ v. turns b m settings input n v) s.kept))
      go true x = stopped_comes PastEnd s
      go false x =
          let within : s.next ≤ end_of input = grind (arith, nat_tests) in
          let past : end_of input ≤ s.next = unseen_past input s.next e (omega arith) in
          kept_comes n s fine low w ih (omega arith) s.kept refl

  end_comes : (n : ℕ) (s : Session S) → IsFine m s → input.base ≤ keep settings s → weight s < suc n → Ahead n → letter input s.next ≡ None →
      AllEnds Comes (at_end b m settings input (λ v. turns b m settings input n v) s)
  unfolding at_end
  end_comes n s fine low w ih e = go input.has_rest
    where
      go : (d : Bool) → AllEnds Comes (cond d (done (rest (Some (Stopped HalfKey)) s)) (ending b m settings (end_of input) s (λ v. turns b m settings input n v)))
      go true = stopped_comes HalfKey s
      go false = ending_comes n s fine low w ih e

  letter_comes : (n : ℕ) (s : Session S) → IsFine m s → input.base ≤ keep settings s → weight s < suc n → Ahead n → (l : Option ℕ) → letter input s.next ≡ l →
      AllEnds Comes (at_letter b m settings input (λ v. turns b m settings input n v) s l)
  unfolding at_letter
  letter_comes n s fine low w ih (Some byte) e = part_comes n s low w ih (turn m settings s byte) (turn_law m settings s byte kinded fine (omega (arith, seen_before input s.next byte e)))
  letter_comes n s fine low w ih None e = go input.is_closed
    where
      go : (d : Bool) → AllEnds Comes (cond d (at_end b m settings input (λ v. turns b m settings input n v) s) (done (rest (Some Wants) s)))
      go true = end_comes n s fine low w ih e
      go false = some_comes Wants s (λ e. fine)

  pub turns_come : (n : ℕ) → Ahead n
  unfolding turns
  turns_come zero u fine low w = absurd (omega arith)
  turns_come (suc n) u fine low w = letter_comes n u fine low w (turns_come n) (letter input u.next) refl

  -- a run from a session comes to an outcome, whatever is answered, and stands at a session that may go on where it wants more
  pub run_comes : (s : Session S) → IsFine m s → input.base ≤ keep settings s → AllEnds Comes (run_on b m settings input s)
  unfolding run_on
  run_comes s fine low = turns_come (suc (weight s)) s fine low (omega arith)
