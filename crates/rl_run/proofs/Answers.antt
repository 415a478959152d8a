-- Runs on lists of answers, as plays against a host that has the list.
use Rattle.std.proofs.Common.{◌≡◌, ℕ, suc, false, List, [], ◌∷◌, ◌++◌, length, drop, Some, refl, sym, ◌∙◌, ap, subst, append_assoc, append-nil, arith}
use Rattle.std.proofs.Math.Seq.{drop-length}
use Rattle.rl_run.specs.declared.calls.Call.{Call}
use Rattle.rl_run.specs.declared.calls.Answer.{Answer}
use Rattle.rl_run.specs.declared.calls.Outcome.TheVariants.{Wants, Stopped}
use Rattle.rl_run.specs.Machine.{Machine}
use Rattle.rl_run.specs.Run.{rest, turns}
use Rattle.rl_run.specs.Play.{Play, done, ask, Plays, Log, Reached, ended, stands, run}
use Rattle.rl_run.specs.Chain.{run_on}
use Rattle.rl_run.specs.Fine.{weight}
use Rattle.rl_run.specs.Laws.{IsContinued, IsStoppedForGood}
use Rattle.rl_run.proofs.Cuts.{goes_on, stays, enough}

-- a host in the state (answers left, calls made)
abbrev Host : Type 0
Host = List Answer × List Call

abbrev Takes : Host → Call → Answer → Host → Type 0
Takes h c x k = (h.0 ≡ x ∷ k.0) × (k.1 ≡ h.1 ++ c ∷ [])

abbrev log_of : {A : Type 0} → List Call → Reached A → Log A
log_of calls reached = record { calls = calls; reached = reached }

-- a run on answers is a play, which leaves what it did not need
plays_run : {A : Type 0} (p : Play A) (answers rest : List Answer) (made calls : List Call) (a : A) →
    run p answers ≡ log_of calls (ended a) → Plays Takes (answers ++ rest, made) p (drop (length calls) answers ++ rest, made ++ calls) a
plays_run (done x) answers rest made calls a e =
    let none : [] ≡ calls = ap (λ (l : Log _). l.calls) e in
    let end : ended x ≡ ended a = ap (λ (l : Log _). l.reached) e in
    let host : Host = (answers ++ rest, made) in
    let same : host ≡ (answers ++ rest, made ++ []) = ap (λ w. (answers ++ rest, w)) (sym (append-nil made)) in
    (subst (λ cs. host ≡ (drop (length cs) answers ++ rest, made ++ cs)) none same, ended_same x a end)
  where
    ended_same : {A : Type 0} (x a : A) → ended x ≡ ended a → x ≡ a
    ended_same x a e = cc
plays_run (ask c f) [] rest made calls a e = absurd (no (ap (λ (l : Log _). l.reached) e))
  where
    no : stands (ask c f) ≡ ended a → ⊥
    no e = cc
plays_run (ask c f) (x ∷ answers) rest made calls a e =
    let l = run (f x) answers in
    let more : c ∷ l.calls ≡ calls = ap (λ (l : Log _). l.calls) e in
    let end : l.reached ≡ ended a = ap (λ (l : Log _). l.reached) e in
    let first : l ≡ log_of l.calls (ended a) = subst (λ r. l ≡ log_of l.calls r) end refl in
    let second = plays_run (f x) answers rest (made ++ c ∷ []) l.calls a first in
    let whole = rw append_assoc at second in
    subst (λ cs. Plays Takes ((x ∷ answers) ++ rest, made) (ask c f) (drop (length cs) (x ∷ answers) ++ rest, made ++ cs) a) more
    (x, (answers ++ rest, made ++ c ∷ []), (refl, refl), whole)

-- and a play against such a host is a run on its answers
run_plays : {A : Type 0} (p : Play A) (answers left : List Answer) (made all : List Call) (a : A) →
    Plays Takes (answers, made) p (left, all) a → (calls : List Call) × (all ≡ made ++ calls) × (run p answers ≡ log_of calls (ended a))
run_plays (done x) answers left made all a (i, f) =
    ([], ap (λ (w : Host). w.1) (sym i) ∙ sym (append-nil made), ap (λ w. log_of [] (ended w)) f)
run_plays (ask c f) answers left made all a (x, mid, s, p) =
    let r = run_plays (f x) mid.0 left mid.1 all a p in (
      c ∷ r.0,
      r.1 ∙ ap (λ w. w ++ r.0) s.1 ∙ append_assoc made (c ∷ []) r.0,
      subst (λ w. run (ask c f) w ≡ log_of (c ∷ r.0) (ended a)) (sym s.0) (ap (λ (l : Log _). log_of (c ∷ l.calls) l.reached) r.2),
    )

calls_same : (made xs ys : List Call) → made ++ xs ≡ made ++ ys → xs ≡ ys
calls_same [] xs ys e = e
calls_same (c ∷ made) xs ys e = calls_same made xs ys (tail_same (made ++ xs) (made ++ ys) e)
  where
    tail_same : (us vs : List Call) → (c ∷ us) ≡ (c ∷ vs) → us ≡ vs
    tail_same us vs e = cc

drop_all : (answers : List Answer) (n : ℕ) → n ≡ length answers → drop n answers ≡ []
drop_all answers n e = rw e (drop-length answers)

pub is_continued : {S : Type 0} (m : Machine S) → IsContinued m
unfolding run_on
is_continued m settings short long s t u answers more calls others outcome kinded fine_s longer exact first second =
    let base_long = longer.base in
    let limit = longer.limit in
    let p = plays_run (turns false m settings short (suc (weight s)) s) answers more [] calls (rest (Some Wants) t) first in
    let gone : drop (length calls) answers ≡ [] = drop_all answers (length calls) exact in
    let q = rw gone at p in
    let r = plays_run (turns false m settings long (suc (weight t)) t) more [] calls others (rest (Some outcome) u) second in
    let whole = rw append-nil at r in
    let on = goes_on Takes m settings false short long longer.not_closed longer.extends (suc (weight s)) (suc (weight t)) s t (answers ++ more, []) (more, calls) (drop (length others) more ++ [], calls ++ others)
    (Some Wants) (rest (Some outcome) u) tt q whole in
    let all = enough Takes m kinded settings false long limit on.0 (suc (weight s)) s u (answers ++ more, []) (drop (length others) more ++ [], calls ++ others) outcome fine_s (omega (arith, base_long)) (omega arith) on.1 in
    let end = run_plays (turns false m settings long (suc (weight s)) s) (answers ++ more) (drop (length others) more ++ []) [] (calls ++ others) (rest (Some outcome) u) all in
    subst (λ cs. run (turns false m settings long (suc (weight s)) s) (answers ++ more) ≡ log_of cs (ended (rest (Some outcome) u))) (sym end.1) end.2

pub is_stopped : {S : Type 0} (m : Machine S) → IsStoppedForGood m
unfolding run_on
is_stopped m settings short long s t answers more calls cause kinded fine_s longer first =
    let base_long = longer.base in
    let limit = longer.limit in
    let p = plays_run (turns false m settings short (suc (weight s)) s) answers more [] calls (rest (Some (Stopped cause)) t) first in
    let on = stays Takes m settings false short long longer.not_closed longer.extends (suc (weight s)) s t (answers ++ more, []) (drop (length calls) answers ++ more, calls) cause p in
    let all = enough Takes m kinded settings false long limit on.0 (suc (weight s)) s t (answers ++ more, []) (drop (length calls) answers ++ more, calls) (Stopped cause) fine_s (omega (arith, base_long)) (omega arith) on.1 in
    let end = run_plays (turns false m settings long (suc (weight s)) s) (answers ++ more) (drop (length calls) answers ++ more) [] calls (rest (Some (Stopped cause)) t) all in
    subst (λ cs. run (turns false m settings long (suc (weight s)) s) (answers ++ more) ≡ log_of cs (ended (rest (Some (Stopped cause)) t))) (sym end.1) end.2
