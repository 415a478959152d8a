-- A run that stands before a call stands there too on a longer input.
use Rattle.std.proofs.Common.{◌≡◌, ℕ, zero, suc, false, cond, List, [], ◌∷◌, ◌++◌, Option, Some, None, refl, sym, ◌∙◌, ap, subst}
use Rattle.rl_run.specs.declared.calls.Call.{Call}
use Rattle.rl_run.specs.declared.calls.Answer.{Answer}
use Rattle.rl_run.specs.declared.calls.Outcome.TheVariants.{Wants}
use Rattle.rl_run.specs.declared.sessions.Flow.{Flow}
use Rattle.rl_run.specs.declared.sessions.Flow.TheVariants.{Goes, Jumps, Breaks, Stops}
use Rattle.rl_run.specs.declared.sessions.Settings.{Settings}
use Rattle.rl_run.specs.Machine.{Machine, Session}
use Rattle.rl_run.specs.Picks.{came}
use Rattle.rl_run.specs.Play.{Play, done, ask, bind, Log, ended, stands, run}
use Rattle.rl_run.specs.Turn.{turn}
use Rattle.rl_run.specs.Run.{Input, rest, letter, after, at_end, at_letter, turns}
use Rattle.rl_run.specs.Chain.{Extends, run_on}
use Rattle.rl_run.specs.Fine.{weight}
use Rattle.rl_run.specs.Laws.{IsStandingThere}

-- as far as the one program makes calls, the other makes the same
abbrev Grows : {A : Type 0} → Play A → Play A → Type 0
Grows (done a) q = Unit {0}
Grows (ask c f) (ask d g) = (d ≡ c) × ((x : Answer) → Grows (f x) (g x))
Grows (ask c f) (done b) = ⊥

grows_bind : {A B : Type 0} (p : Play A) (k l : A → Play B) → ((a : A) → Grows (k a) (l a)) → Grows (bind p k) (bind p l)
grows_bind (done a) k l h = h a
grows_bind (ask c f) k l h = (refl, λ x. grows_bind (f x) k l h)

grows_same : {A : Type 0} (p : Play A) → Grows p p
grows_same (done a) = tt
grows_same (ask c f) = (refl, λ x. grows_same (f x))

module _ {S : Type 0} (m : Machine S) (settings : Settings) (short long : Input) (not_closed : short.is_closed ≡ false) (more : Extends short long) where
  after_grows : (n : ℕ) → ((u : Session S) → Grows (turns false m settings short n u) (turns false m settings long n u)) → (flow : Flow) (t : Session S) →
      Grows (after false (came flow t) (λ u. turns false m settings short n u)) (after false (came flow t) (λ u. turns false m settings long n u))
  unfolding after
  after_grows n h Goes t = h t
  after_grows n h Jumps t = h t
  after_grows n h Breaks t = h t
  after_grows n h (Stops cause) t = tt

  letter_grows : (n : ℕ) → ((u : Session S) → Grows (turns false m settings short n u) (turns false m settings long n u)) → (s : Session S) (o l : Option ℕ) →
      letter short s.next ≡ o → letter long s.next ≡ l →
      Grows (at_letter false m settings short (λ u. turns false m settings short n u) s o) (at_letter false m settings long (λ u. turns false m settings long n u) s l)
  unfolding at_letter
  letter_grows n h s None l e f = subst (λ b. Grows (cond b (at_end false m settings short (λ u. turns false m settings short n u) s) (done (rest (Some Wants) s))) (at_letter false m settings long (λ u. turns false m settings long n u) s l)) (sym not_closed) tt
  letter_grows n h s (Some byte) None e f = absurd (no (sym (more s.next byte e) ∙ f))
    where
      no : Some byte ≡ None → ⊥
      no e = cc
  letter_grows n h s (Some byte) (Some other) e f =
      subst (λ b. Grows (bind (turn m settings s byte) (λ c. after false c (λ u. turns false m settings short n u))) (bind (turn m settings s b) (λ c. after false c (λ u. turns false m settings long n u))))
      (same byte other (sym (more s.next byte e) ∙ f))
      (grows_bind (turn m settings s byte) _ _ (λ c. after_grows n h c.flow c.session))
    where
      same : (a b : ℕ) → Some a ≡ Some b → a ≡ b
      same a b e = cc

  turns_grow : (n : ℕ) (s : Session S) → Grows (turns false m settings short n s) (turns false m settings long n s)
  unfolding turns
  turns_grow zero s = tt
  turns_grow (suc n) s = letter_grows n (turns_grow n) s (letter short s.next) (letter long s.next) refl refl

-- the calls up to where the one stands
stands_too : {A : Type 0} (p q : Play A) (answers more : List Answer) (calls : List Call) (r : Play A) → Grows p q →
    run p answers ≡ record { calls = calls; reached = stands r } →
    (s : Play A) × (run q answers ≡ record { calls = calls; reached = stands s })
    × (run q (answers ++ more) ≡ record { calls = calls ++ (run s more).calls; reached = (run s more).reached })
stands_too (done a) q answers more calls r g e = absurd (no (ap (λ (l : Log _). l.reached) e))
  where
    no : ended a ≡ stands r → ⊥
    no e = cc
stands_too (ask c f) (done b) answers more calls r g e = absurd g
stands_too (ask c f) (ask d h) [] more calls r g e =
    let none : [] ≡ calls = ap (λ (l : Log _). l.calls) e in
    (ask d h, ap (λ cs. record { calls = cs; reached = stands (ask d h) }) none, ap (λ cs. record { calls = cs ++ (run (ask d h) more).calls; reached = (run (ask d h) more).reached }) none)
stands_too {A} (ask c f) (ask d h) (x ∷ answers) more calls r g e =
    let l = run (f x) answers in
    let end : l.reached ≡ stands r = ap (λ (l : Log _). l.reached) e in
    let all : c ∷ l.calls ≡ calls = ap (λ (l : Log _). l.calls) e in
    let first : l ≡ record { calls = l.calls; reached = stands r } = subst (λ w. l ≡ record { calls = l.calls; reached = w }) end refl in
    let w = stands_too (f x) (h x) answers more l.calls r (g.1 x) first in
    let front : d ∷ l.calls ≡ calls = ap (λ y. y ∷ l.calls) g.0 ∙ all in (
      w.0,
      ap (λ (k : Log A). record { calls = d ∷ k.calls; reached = k.reached }) w.1 ∙ ap (λ cs. record { calls = cs; reached = stands w.0 }) front,
      ap (λ (k : Log A). record { calls = d ∷ k.calls; reached = k.reached }) w.2 ∙ ap (λ cs. record { calls = cs ++ (run w.0 more).calls; reached = (run w.0 more).reached }) front,
    )

pub is_standing : {S : Type 0} (m : Machine S) → IsStandingThere m
unfolding run_on
is_standing m settings short long s answers more calls p longer e =
    stands_too (turns false m settings short (suc (weight s)) s) (turns false m settings long (suc (weight s)) s) answers more calls p
    (turns_grow m settings short long longer.not_closed longer.extends (suc (weight s)) s) e
