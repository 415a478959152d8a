-- The lines of a run are continued when more is seen of its input.
use Rattle.std.proofs.Common.{◌≡◌, ℕ, zero, suc, false, cond, List, [], ◌∷◌, ◌++◌, Option, Some, None, refl, sym, ◌∙◌, ap, subst, append_assoc, append-nil}
use Rattle.rl_run.specs.declared.calls.Answer.{Answer}
use Rattle.rl_run.specs.declared.calls.Call.{Call}
use Rattle.rl_run.specs.declared.calls.Outcome.{Outcome}
use Rattle.rl_run.specs.declared.calls.Outcome.TheVariants.{Wants, Broke, Ended, Stopped}
use Rattle.rl_run.specs.declared.sessions.Flow.{Flow}
use Rattle.rl_run.specs.declared.sessions.Flow.TheVariants.{Goes, Jumps, Breaks, Stops}
use Rattle.rl_run.specs.declared.sessions.Settings.{Settings}
use Rattle.rl_run.specs.Chain.{run_on, Extends}
use Rattle.rl_run.specs.Fine.{weight}
use Rattle.rl_run.specs.Hosted.{hosted}
use Rattle.rl_run.specs.Machine.{Machine, Session, fresh}
use Rattle.rl_run.specs.Picks.{Came, came}
use Rattle.rl_run.specs.Play.{Play, done, ask, bind}
use Rattle.rl_run.specs.Run.{Input, Rest, letter, after, at_letter, turns}
use Rattle.rl_run.specs.Turn.{turn}
use Rattle.rl_run.specs.Verdict.{verdict_of}
use Rattle.rl_replay.specs.Lines.{call_line, calls_lines, stop_lines, session_run, run_lines, end_line}

-- what holds where a run has stopped
abbrev IfStopped : Option Outcome → Type 0 → Type 0
IfStopped (Some (Stopped cause)) P = P
IfStopped (Some Wants) P = Unit {0}
IfStopped (Some Broke) P = Unit {0}
IfStopped (Some Ended) P = Unit {0}
IfStopped None P = Unit {0}

if_stopped : (o : Option Outcome) {P : Type 0} → P → IfStopped o P
if_stopped (Some (Stopped cause)) p = p
if_stopped (Some Wants) p = tt
if_stopped (Some Broke) p = tt
if_stopped (Some Ended) p = tt
if_stopped None p = tt

module _ {S : Type 0} where
  -- the second program makes the calls of the first, and goes on unless that has stopped
  abbrev Continues : Play (Rest S) → Play (Rest S) → Type 0
  Continues (done a) q = IfStopped a.outcome (q ≡ done a)
  Continues (ask c f) (ask d g) = (d ≡ c) × ((x : Answer) → Continues (f x) (g x))
  Continues (ask c f) (done b) = ⊥

  continues_bind : {A : Type 0} (p : Play A) (k l : A → Play (Rest S)) → ((a : A) → Continues (k a) (l a)) → Continues (bind p k) (bind p l)
  continues_bind (done a) k l h = h a
  continues_bind (ask c f) k l h = (refl, λ x. continues_bind (f x) k l h)

  continues_after : (c : Came S) (k l : Session S → Play (Rest S)) → ((t : Session S) → Continues (k t) (l t)) → Continues (after false c k) (after false c l)
  unfolding after
  continues_after c k l h = go c.flow
    where
      go : (flow : Flow) → Continues (after false (came flow c.session) k) (after false (came flow c.session) l)
      go Goes = h c.session
      go Jumps = h c.session
      go Breaks = h c.session
      go (Stops cause) = refl

  module _ (m : Machine S) (settings : Settings) (short long : Input) (extends : Extends short long) (open_yet : short.is_closed ≡ false) where
    continues_letter : (s : Session S) (k l : Session S → Play (Rest S)) → ((t : Session S) → Continues (k t) (l t)) → (o : Option ℕ) → letter short s.next ≡ o →
        Continues (at_letter false m settings short k s o) (at_letter false m settings long l s (letter long s.next))
    unfolding at_letter
    continues_letter s k l h (Some byte) e =
        subst (λ o. Continues (bind (turn m settings s byte) (λ c. after false c k)) (at_letter false m settings long l s o)) (sym (extends s.next byte e))
        (continues_bind (turn m settings s byte) (λ c. after false c k) (λ c. after false c l) (λ c. continues_after c k l h))
    continues_letter s k l h None e = rw open_yet tt

    continues_turns : (n : ℕ) (s : Session S) → Continues (turns false m settings short n s) (turns false m settings long n s)
    unfolding turns
    continues_turns zero s = tt
    continues_turns (suc n) s =
        continues_letter s (λ t. turns false m settings short n t) (λ t. turns false m settings long n t) (λ t. continues_turns n t) (letter short s.next) refl

    continues_run : (s : Session S) → Continues (run_on false m settings short s) (run_on false m settings long s)
    unfolding run_on
    continues_run s = continues_turns (suc (weight s)) s

-- a hosted run begins with the calls past
hosted_past : {A : Type 0} (host : List Call → Answer) (past : List Call) (p : Play A) → (more : List Call) × ((hosted host past p).0 ≡ past ++ more)
hosted_past host past (done a) = ([], sym (append-nil past))
hosted_past host past (ask c f) =
    let (more, e) = hosted_past host (past ++ c ∷ []) (f (host (past ++ c ∷ []))) in
    (c ∷ more, e ∙ append_assoc past (c ∷ []) more)

module _ {S : Type 0} (host : List Call → Answer) where
  record IsLonger (a b : List Call × Rest S) : Type 0 where
    more : List Call
    calls : b.0 ≡ a.0 ++ more
    stopped : IfStopped a.1.outcome (b ≡ a)

  longer : (past : List Call) (p q : Play (Rest S)) → Continues p q → IsLonger (hosted host past p) (hosted host past q)
  longer past (done a) q h =
      let (more, e) = hosted_past host past q in
      record { more = more; calls = e; stopped = go a.outcome h }
    where
      go : (o : Option Outcome) → IfStopped o (q ≡ done a) → IfStopped o (hosted host past q ≡ (past, a))
      go (Some (Stopped cause)) e = ap (λ p. hosted host past p) e
      go (Some Wants) e = tt
      go (Some Broke) e = tt
      go (Some Ended) e = tt
      go None e = tt
  longer past (ask c f) (ask d g) h =
      subst (λ e. IsLonger (hosted host (past ++ c ∷ []) (f (host (past ++ c ∷ [])))) (hosted host (past ++ e ∷ []) (g (host (past ++ e ∷ []))))) (sym h.0)
      (longer (past ++ c ∷ []) (f (host (past ++ c ∷ []))) (g (host (past ++ c ∷ []))) (h.1 (host (past ++ c ∷ []))))
  longer past (ask c f) (done b) h = elim h [ ]

module _ {S : Type 0} (m : Machine S) (s : List ℕ) (host : List Call → Answer) where
  calls_lines_append : (past xs ys : List Call) → calls_lines m s host past (xs ++ ys) ≡ calls_lines m s host past xs ++ calls_lines m s host (past ++ xs) ys
  calls_lines_append past [] ys = ap (λ p. calls_lines m s host p ys) (sym (append-nil past))
  calls_lines_append past (x ∷ xs) ys =
      ap (λ t. call_line m s x (host (past ++ x ∷ [])) ++ t)
      (calls_lines_append (past ++ x ∷ []) xs ys ∙ ap (λ p. calls_lines m s host (past ++ x ∷ []) xs ++ calls_lines m s host p ys) (append_assoc past (x ∷ []) xs))
      ∙ sym (append_assoc (call_line m s x (host (past ++ x ∷ []))) (calls_lines m s host (past ++ x ∷ []) xs) (calls_lines m s host (past ++ x ∷ xs) ys))

  abbrev body_lines : List Call × Rest S → List ℕ
  body_lines r = calls_lines m s host [] r.0 ++ stop_lines s r.1

  body_grows : (a b : List Call × Rest S) → IsLonger host a b → (more : List ℕ) × (body_lines b ≡ body_lines a ++ more)
  body_grows a b h = go a.1.outcome refl h.stopped
    where
      grown : stop_lines s a.1 ≡ [] → (more : List ℕ) × (body_lines b ≡ body_lines a ++ more)
      grown e =
          let text = calls_lines m s host a.0 h.more ++ stop_lines s b.1 in (
            text,
            ap (λ calls. calls_lines m s host [] calls ++ stop_lines s b.1) h.calls
                ∙ ap (λ t. t ++ stop_lines s b.1) (calls_lines_append [] a.0 h.more)
                ∙ append_assoc (calls_lines m s host [] a.0) (calls_lines m s host a.0 h.more) (stop_lines s b.1)
                ∙ ap (λ t. t ++ text) (sym (append-nil (calls_lines m s host [] a.0)) ∙ ap (λ t. calls_lines m s host [] a.0 ++ t) (sym e)),
          )

      go : (o : Option Outcome) → a.1.outcome ≡ o → IfStopped o (b ≡ a) → (more : List ℕ) × (body_lines b ≡ body_lines a ++ more)
      go (Some (Stopped cause)) e same = ([], ap body_lines same ∙ sym (append-nil (body_lines a)))
      go (Some Wants) e same = grown (rw e refl)
      go (Some Broke) e same = grown (rw e refl)
      go (Some Ended) e same = grown (rw e refl)
      go None e same = grown (rw e refl)

  -- the lines over more of an input, ended or not, begin with those over less of it
  pub run_lines_grow : (settings : Settings) (entry : ℕ) (short long : Input) → Extends short long → short.is_closed ≡ false →
      (more : List ℕ) × (run_lines m settings s host entry long ≡ run_lines m settings s host entry short ++ more)
  run_lines_grow settings entry short long extends open_yet =
      let start = fresh (m.entry entry) in
      let a = session_run m settings host entry short in
      let b = session_run m settings host entry long in
      let (more, e) = body_grows a b (longer host [] (run_on false m settings short start) (run_on false m settings long start) (continues_run m settings short long extends open_yet start)) in
      let end = cond long.is_closed (end_line s (verdict_of m b.1) b.1.session.next) [] in (
        more ++ end,
        ap (λ t. t ++ end) e ∙ append_assoc (body_lines a) more end
            ∙ ap (λ t. t ++ (more ++ end)) (sym (append-nil (body_lines a)) ∙ ap (λ c. body_lines a ++ cond c (end_line s (verdict_of m a.1) a.1.session.next) []) (sym open_yet)),
      )
