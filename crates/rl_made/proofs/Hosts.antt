-- A log of calls that were answered by themselves is the run against the host without lines.
use Rattle.std.proofs.Common.{◌≡◌, ℕ, ◌+◌, cond, sum_by, List, [], ◌∷◌, ◌++◌, map, refl, sym, ◌∙◌, ap, subst, arith, append_assoc, append-nil}
use Rattle.std.proofs.lemmas.List.{map-append}
use Rattle.std.proofs.lemmas.List.Sums.{sum_by-append, sum_by-cons}
use Rattle.rl_run.specs.declared.calls.Answer.{Answer}
use Rattle.rl_run.specs.declared.calls.Call.{Call}
use Rattle.rl_run.specs.Machine.{Machine}
use Rattle.rl_run.specs.Chain.{Chain, IsLogOf}
use Rattle.rl_run.specs.Hosted.{hosted}
use Rattle.rl_run.specs.Play.{Play, done, ask, Log, Reached, ended, stands, run}
use Rattle.rl_arrays.specs.TableMachine.{machine}
use Rattle.rl_replay.specs.Host.{host}
use Rattle.rl_made.specs.Made.{is_token}
use Rattle.rl_made.specs.Tally.{Counts, Tells, token_in}
use Rattle.rl_made.specs.Stands.{AreOwn, tokens_among}
use Rattle.rl_made.specs.declared.tally.Tally.{Tally}

called : List (Call × Answer) → List Call
called log = map (λ x. x.0) log

abbrev pair : {A : Type 0} → List Call → A → List Call × A
pair calls a = (calls, a)

ended_same : {A : Type 0} (x a : A) → ended x ≡ ended a → x ≡ a
ended_same x a e = cc

not_ended : {A : Type 0} (p : Play A) (a : A) → stands p ≡ ended a → ⊥
not_ended p a e = cc

none_more : (c : Call) (rest : List Call) → [] ≡ c ∷ rest → ⊥
none_more c rest e = cc

first_same : (c d : Call) (xs ys : List Call) → c ∷ xs ≡ d ∷ ys → c ≡ d
first_same c d xs ys e = cc

rest_same : (c d : Call) (xs ys : List Call) → c ∷ xs ≡ d ∷ ys → xs ≡ ys
rest_same c d xs ys e = cc

pub hosted_log : {A : Type 0} (m : Machine ℕ) (p : Play A) (log : List (Call × Answer)) (past : List Call) (a : A) → AreOwn m log → IsLogOf p log a →
    hosted (host m []) past p ≡ pair (past ++ map (λ x. x.0) log) a
hosted_log m (done x) [] past a own e =
    let same = ended_same x a (ap (λ (l : Log _). l.reached) e) in
    ap (λ y. pair past y) same ∙ ap (λ calls. pair calls a) (sym (append-nil past))
hosted_log m (done x) (y ∷ log) past a own e = absurd (none_more y.0 (map (λ z. z.0) log) (ap (λ (l : Log _). l.calls) e))
hosted_log m (ask c f) [] past a own e = absurd (not_ended (ask c f) a (ap (λ (l : Log _). l.reached) e))
hosted_log m (ask c f) (y ∷ log) past a own e =
    let r = run (f y.1) (map (λ (z : Call × Answer). z.1) log) in
    let calls = ap (λ (l : Log _). l.calls) e in
    let same : c ≡ y.0 = first_same c y.0 r.calls (map (λ z. z.0) log) calls in
    let behind : r.calls ≡ map (λ (z : Call × Answer). z.0) log = rest_same c y.0 r.calls (map (λ z. z.0) log) calls in
    let reached : r.reached ≡ ended a = ap (λ (l : Log _). l.reached) e in
    let next : IsLogOf (f y.1) log a = log_same r (map (λ (z : Call × Answer). z.0) log) a behind reached in
    let told : y.1 ≡ host m [] (past ++ c ∷ []) = own.0 past ∙ ap (λ d. host m [] (past ++ d ∷ [])) (sym same) in
    let ih = hosted_log m (f y.1) log (past ++ c ∷ []) a own.1 next in
    ap (λ z. hosted (host m []) (past ++ c ∷ []) (f z)) (sym told)
    ∙ ih
    ∙ ap (λ calls. pair calls a) (append_assoc past (c ∷ []) (map (λ z. z.0) log) ∙ ap (λ d. past ++ d ∷ map (λ (z : Call × Answer). z.0) log) same)
  where
    log_same : {A : Type 0} (r : Log A) (calls : List Call) (a : A) → r.calls ≡ calls → r.reached ≡ ended a → r ≡ record { calls = calls; reached = ended a }
    log_same r calls a e f = λ j. record { calls = e j; reached = f j }

-- ---- a chain of calls of a closure over a tally

pub record Told (old : Tally) (more : List (Call × Answer)) (new : Tally) : Type 0 where
  pub tables : new.names.tables.now ≡ old.names.tables.now
  pub own : AreOwn (machine old.names.tables.now) more
  pub counts : (n : ℕ) → Counts old.tokens n → Counts new.tokens (n + tokens_among more)

pub own_joined : (m : Machine ℕ) (log more : List (Call × Answer)) → AreOwn m log → AreOwn m more → AreOwn m (log ++ more)
own_joined m [] more a b = b
own_joined m (x ∷ log) more a b = (a.0, own_joined m log more a.1 b)

tokens_front : (x : Call × Answer) (more : List (Call × Answer)) → tokens_among (x ∷ more) ≡ token_in x.0.kind + tokens_among more
tokens_front x more = sum_by-cons (λ (c : Call). cond (is_token c.kind) 1 0) x.0 (map (λ (z : Call × Answer). z.0) more)

pub tokens_joined : (log more : List (Call × Answer)) → tokens_among (log ++ more) ≡ tokens_among log + tokens_among more
tokens_joined log more =
    ap (λ calls. sum_by (λ (c : Call). cond (is_token c.kind) 1 0) calls) (map-append (λ (z : Call × Answer). z.0) log more)
    ∙ sum_by-append (λ (c : Call). cond (is_token c.kind) 1 0) (map (λ (z : Call × Answer). z.0) log) (map (λ (z : Call × Answer). z.0) more)

module _ {H : Type 0} (step : H → Call → Answer → H → Type 0) (tally_of : H → Tally)
    (tells : (h : H) (c : Call) (x : Answer) (k : H) → step h c x k → Tells (tally_of h) c x (tally_of k)) where
  pub chain_told : (h last : H) (more : List (Call × Answer)) → Chain step h more last → Told (tally_of h) more (tally_of last)
  chain_told h last [] e =
      subst (λ k. Told (tally_of h) [] (tally_of k)) e (record {
        tables = refl;
        own = tt;
        counts = λ n c. subst (λ k. Counts (tally_of h).tokens k) (omega arith) c;
      })
  chain_told h last (x ∷ more) (mid, first, rest) =
      let t = tells h x.0 x.1 mid first in
      let r = chain_told mid last more rest in
      record {
        tables = r.tables ∙ t.tables;
        own = (t.own, subst (λ a. AreOwn (machine a) more) t.tables r.own);
        counts = λ n c.
            subst (λ k. Counts (tally_of last).tokens k) (omega (arith, tokens_front x more)) (r.counts (n + token_in x.0.kind) (t.counts n c));
      }

module _ {H : Type 0} (step : H → Call → Answer → H → Type 0) (name_of : H → ℕ)
    (named : (h : H) (c : Call) (x : Answer) (k : H) → step h c x k → name_of k ≡ name_of h) where
  pub chain_name : (h last : H) (more : List (Call × Answer)) → Chain step h more last → name_of last ≡ name_of h
  chain_name h last [] e = ap name_of (sym e)
  chain_name h last (x ∷ more) (mid, first, rest) = chain_name mid last more rest ∙ named h x.0 x.1 mid first
