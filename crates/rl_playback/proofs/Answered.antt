-- A log that counts a session's calls answers as the session's host.
use Rattle.std.proofs.Common.{◌≡◌, ℕ, ◌+◌, Bool, true, false, cond, ◌&&◌, List, [], ◌∷◌, ◌++◌, Option, Some, None, unwrap_or, option_map, refl, sym, ◌∙◌, ap, subst, arith}
use Rattle.std.specs.List.{last_or}
use Rattle.std.specs.Str.{bytes_eq}
use Rattle.std.proofs.lemmas.List.Sums.{sum_by_push}
use Rattle.std.proofs.lemmas.Slice.Eq.{bytes_eq-Decides}
use Rattle.rl_run.specs.declared.calls.Answer.{Answer}
use Rattle.rl_run.specs.declared.calls.Answer.TheVariants.{Yes, No}
use Rattle.rl_run.specs.declared.calls.Call.{Call}
use Rattle.rl_run.specs.declared.calls.CallKind.{CallKind}
use Rattle.rl_run.specs.declared.calls.Pick.{Pick}
use Rattle.rl_run.specs.Machine.{Machine}
use Rattle.rl_run.specs.Picks.{takes_picks}
use Rattle.rl_run.specs.Twin.{name_of}
use Rattle.rl_arrays.specs.declared.arrays.Arrays.{Arrays}
use Rattle.rl_arrays.specs.TableMachine.{machine}
use Rattle.rl_replay.specs.declared.script.Line.{Line}
use Rattle.rl_replay.specs.Host.{times, is_ask, given_picks, given_answer, picks_answer, own_picks, yes_no, answer_to, host}
use Rattle.rl_replay.specs.Lines.{call_line}
use Rattle.rl_playback.specs.declared.books.Books.{Books}
use Rattle.rl_playback.specs.declared.log.Log.{Log}
use Rattle.rl_playback.specs.Books.{Named, count_in, answer_in, next_in}
use Rattle.rl_playback.specs.Log.{tables_of, raised, IsSameLog, Logs}
use Rattle.rl_playback.specs.Stands.{Counts}

pub bytes_turned : (a b : List ℕ) → bytes_eq a b ≡ bytes_eq b a
bytes_turned a b = go (bytes_eq a b) (bytes_eq b a) refl refl
  where
    go : (x y : Bool) → bytes_eq a b ≡ x → bytes_eq b a ≡ y → x ≡ y
    go true true e f = refl
    go true false e f = sym ((bytes_eq-Decides b a).1 (sym ((bytes_eq-Decides a b).0 e))) ∙ f
    go false true e f = sym e ∙ (bytes_eq-Decides a b).1 (sym ((bytes_eq-Decides b a).0 f))
    go false false e f = refl

last_is : (o : Option Call) (past : List Call) (c : Call) → last_or o (past ++ c ∷ []) ≡ Some c
last_is o [] c = refl
last_is o (d ∷ past) c = last_is (Some d) past c

module _ {S : Type 0} (m : Machine S) (own : List Line) (calls : List Call) (c : Call) where
  host_last : host m own (calls ++ c ∷ []) ≡ answer_to m own (calls ++ c ∷ []) c
  host_last = ap (λ o. elim o as (λ _. Answer) [ None ↦ Yes | Some d ↦ answer_to m own (calls ++ c ∷ []) d ]) (last_is None calls c)

  -- one call more
  times_more : (sort : CallKind → Bool) (name : List ℕ) → times m sort (calls ++ c ∷ []) name ≡ times m sort calls name + (cond (sort c.kind && bytes_eq (name_of m c) name) 1 0)
  times_more sort name = sum_by_push (λ d. cond (sort d.kind && bytes_eq (name_of m d) name) 1 0) calls c

  times_own : (sort : CallKind → Bool) → sort c.kind ≡ true → times m sort (calls ++ c ∷ []) (name_of m c) ≡ times m sort calls (name_of m c) + 1
  times_own sort e =
      times_more sort (name_of m c)
      ∙ ap (λ b. times m sort calls (name_of m c) + (cond (b && bytes_eq (name_of m c) (name_of m c)) 1 0)) e
      ∙ ap (λ b. times m sort calls (name_of m c) + (cond b 1 0)) ((bytes_eq-Decides (name_of m c) (name_of m c)).1 refl)

  raised_times : (s : List ℕ) (sort : CallKind → Bool) (name : List ℕ) →
      raised (sort c.kind) (s, name_of m c) (s, name) (times m sort calls name) ≡ times m sort (calls ++ c ∷ []) name
  raised_times s sort name =
      ap (λ b. cond (sort c.kind && (b && bytes_eq name (name_of m c))) (times m sort calls name + 1) (times m sort calls name)) ((bytes_eq-Decides s s).1 refl)
      ∙ ap (λ b. cond (sort c.kind && b) (times m sort calls name + 1) (times m sort calls name)) (bytes_turned name (name_of m c))
      ∙ go (sort c.kind && bytes_eq (name_of m c) name) (times m sort calls name)
      ∙ sym (times_more sort name)
    where
      go : (b : Bool) (n : ℕ) → cond b (n + 1) n ≡ n + (cond b 1 0)
      go true n = refl
      go false n = omega arith

not_raised : (b : Bool) (p q : Named) (n : ℕ) → bytes_eq q.0 p.0 ≡ false → raised b p q n ≡ n
not_raised true p q n e = ap (λ z. cond (z && bytes_eq q.1 p.1) (n + 1) n) e
not_raised false p q n e = refl

yes_no_given : (o : Option Bool) → unwrap_or (option_map yes_no o) No ≡ yes_no (unwrap_or o false)
yes_no_given None = refl
yes_no_given (Some b) = refl

picks_given : (o : Option (List Pick)) (by_itself : List Pick) → unwrap_or (option_map picks_answer o) (picks_answer by_itself) ≡ picks_answer (unwrap_or o by_itself)
picks_given None by_itself = refl
picks_given (Some list) by_itself = refl

-- the answer that books give to a call of a session
abbrev pub answer_in_books : Arrays → List ℕ → Books → Call → Answer
answer_in_books a s books c =
    cond (is_ask c.kind) (unwrap_or (next_in (s, name_of (machine a) c) books.asks) No)
    (cond (takes_picks c.kind) (unwrap_or (next_in (s, name_of (machine a) c) books.picks) (picks_answer (own_picks (machine a) c)))
    Yes)

-- a logged call, of a log with these tables and this session
pub record LogsAt (a : Arrays) (s : List ℕ) (old new : Log) (c : Call) (answer : Answer) : Type 0 where
  pub same_log : IsSameLog old new
  pub gives : answer ≡ answer_in_books a s old.books c
  pub pick_counts : (q : Named) → count_in q new.books.picks.counts ≡ raised (takes_picks c.kind) (s, name_of (machine a) c) q (count_in q old.books.picks.counts)
  pub ask_counts : (q : Named) → count_in q new.books.asks.counts ≡ raised (is_ask c.kind) (s, name_of (machine a) c) q (count_in q old.books.asks.counts)
  pub room : old.is_full ≡ false
  pub text : new.text.items ≡ old.text.items ++ call_line (machine a) s c answer

pub logs_at : (a : Arrays) (s : List ℕ) (old new : Log) (c : Call) (x : Answer) → tables_of old ≡ a → old.session.now ≡ s → Logs old new c x → LogsAt a s old new c x
logs_at a s old new c x e f l =
    let P : List ℕ → Type 0 = λ v. LogsAt a v old new c x in
    let Q : Arrays → Type 0 = λ v. LogsAt v old.session.now old new c x in
    subst P f (subst Q e (record {
      same_log = l.answers.same_log;
      gives = l.answers.gives;
      pick_counts = l.answers.pick_counts;
      ask_counts = l.answers.ask_counts;
      room = l.room;
      text = l.text;
    }))

module _ (a : Arrays) (s : List ℕ) (own : List Line) (calls : List Call) (old new : Log) (c : Call) (x : Answer)
    (counts : Counts (machine a) s own calls old.books) (l : LogsAt a s old new c x) where
  abbrev m : Machine ℕ
  m = machine a

  abbrev name : List ℕ
  name = name_of m c

  asked : is_ask c.kind ≡ true → answer_in_books a s old.books c ≡ answer_to m own (calls ++ c ∷ []) c
  asked e =
      ap (λ b. cond b (unwrap_or (next_in (s, name) old.books.asks) No) (cond (takes_picks c.kind) (unwrap_or (next_in (s, name) old.books.picks) (picks_answer (own_picks m c))) Yes)) e
      ∙ ap (λ o. unwrap_or o No)
      (counts.says name (count_in (s, name) old.books.asks.counts + 1)
      ∙ ap (λ n. option_map yes_no (given_answer own name n)) (ap (λ n. n + 1) (counts.ask_counts name) ∙ sym (times_own m own calls c is_ask e)))
      ∙ yes_no_given (given_answer own name (times m is_ask (calls ++ c ∷ []) name))
      ∙ sym (ap (λ b. cond b (yes_no (unwrap_or (given_answer own name (times m is_ask (calls ++ c ∷ []) name)) false))
      (cond (takes_picks c.kind) (picks_answer (unwrap_or (given_picks own name (times m takes_picks (calls ++ c ∷ []) name)) (own_picks m c))) Yes)) e)

  picked : is_ask c.kind ≡ false → takes_picks c.kind ≡ true → answer_in_books a s old.books c ≡ answer_to m own (calls ++ c ∷ []) c
  picked e f =
      ap (λ b. cond b (unwrap_or (next_in (s, name) old.books.asks) No) (cond (takes_picks c.kind) (unwrap_or (next_in (s, name) old.books.picks) (picks_answer (own_picks m c))) Yes)) e
      ∙ ap (λ b. cond b (unwrap_or (next_in (s, name) old.books.picks) (picks_answer (own_picks m c))) Yes) f
      ∙ ap (λ o. unwrap_or o (picks_answer (own_picks m c)))
      (counts.picks name (count_in (s, name) old.books.picks.counts + 1)
      ∙ ap (λ n. option_map picks_answer (given_picks own name n)) (ap (λ n. n + 1) (counts.pick_counts name) ∙ sym (times_own m own calls c takes_picks f)))
      ∙ picks_given (given_picks own name (times m takes_picks (calls ++ c ∷ []) name)) (own_picks m c)
      ∙ sym (ap (λ b. cond b (yes_no (unwrap_or (given_answer own name (times m is_ask (calls ++ c ∷ []) name)) false))
      (cond (takes_picks c.kind) (picks_answer (unwrap_or (given_picks own name (times m takes_picks (calls ++ c ∷ []) name)) (own_picks m c))) Yes)) e
      ∙ ap (λ b. cond b (picks_answer (unwrap_or (given_picks own name (times m takes_picks (calls ++ c ∷ []) name)) (own_picks m c))) Yes) f)

  neither : is_ask c.kind ≡ false → takes_picks c.kind ≡ false → answer_in_books a s old.books c ≡ answer_to m own (calls ++ c ∷ []) c
  neither e f =
      ap (λ b. cond b (unwrap_or (next_in (s, name) old.books.asks) No) (cond (takes_picks c.kind) (unwrap_or (next_in (s, name) old.books.picks) (picks_answer (own_picks m c))) Yes)) e
      ∙ ap (λ b. cond b (unwrap_or (next_in (s, name) old.books.picks) (picks_answer (own_picks m c))) Yes) f
      ∙ sym (ap (λ b. cond b (yes_no (unwrap_or (given_answer own name (times m is_ask (calls ++ c ∷ []) name)) false))
      (cond (takes_picks c.kind) (picks_answer (unwrap_or (given_picks own name (times m takes_picks (calls ++ c ∷ []) name)) (own_picks m c))) Yes)) e
      ∙ ap (λ b. cond b (picks_answer (unwrap_or (given_picks own name (times m takes_picks (calls ++ c ∷ []) name)) (own_picks m c))) Yes) f)

  -- the answer is the host's
  pub by_host : x ≡ host m own (calls ++ c ∷ [])
  by_host = l.gives ∙ go (is_ask c.kind) (takes_picks c.kind) refl refl ∙ sym (host_last m own calls c)
    where
      go : (b d : Bool) → is_ask c.kind ≡ b → takes_picks c.kind ≡ d → answer_in_books a s old.books c ≡ answer_to m own (calls ++ c ∷ []) c
      go true d e f = asked e
      go false true e f = picked e f
      go false false e f = neither e f

  -- and the call is counted
  pub counted : Counts m s own (calls ++ c ∷ []) new.books
  counted = record {
    picks = λ u n. ap (λ answers. answer_in (s, u) n answers) l.same_log.picks ∙ counts.picks u n;
    says = λ u n. ap (λ answers. answer_in (s, u) n answers) l.same_log.asks ∙ counts.says u n;
    pick_counts = λ u. l.pick_counts (s, u) ∙ ap (raised (takes_picks c.kind) (s, name) (s, u)) (counts.pick_counts u) ∙ raised_times m own calls c s takes_picks u;
    ask_counts = λ u. l.ask_counts (s, u) ∙ ap (raised (is_ask c.kind) (s, name) (s, u)) (counts.ask_counts u) ∙ raised_times m own calls c s is_ask u;
  }

module _ (a : Arrays) (s : List ℕ) (old new : Log) (c : Call) (x : Answer) (l : LogsAt a s old new c x) where
  -- the counts of other sessions stay
  pub others_picks : (q : Named) → bytes_eq q.0 s ≡ false → count_in q new.books.picks.counts ≡ count_in q old.books.picks.counts
  others_picks q e = l.pick_counts q ∙ not_raised (takes_picks c.kind) (s, name_of (machine a) c) q (count_in q old.books.picks.counts) e

  pub others_asks : (q : Named) → bytes_eq q.0 s ≡ false → count_in q new.books.asks.counts ≡ count_in q old.books.asks.counts
  others_asks q e = l.ask_counts q ∙ not_raised (is_ask c.kind) (s, name_of (machine a) c) q (count_in q old.books.asks.counts) e
