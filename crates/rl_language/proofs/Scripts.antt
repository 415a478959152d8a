-- What a script writes for a session that is opened and ended: the lines of its one run, also where other sessions stand
-- among its lines, and however its input is cut into pieces.
use Rattle.std.proofs.Common.{◌≡◌, ℕ, ◌^◌, ◌<◌, ◌≤◌, Bool, true, false, cond, not, true≢false, List, [], ◌∷◌, ◌++◌, ◌⊎◌, inl, inr, map, filter, filter_map, append-nil, option_map, refl, sym, ◌∙◌, ap, subst, Option, Some, None, length, unwrap_or, arith}
use Rattle.std.specs.List.{cons_option, AllByRecursion}
use Rattle.std.proofs.lemmas.Slice.Eq.{bytes_eq-Decides}
use Rattle.rl_types.specs.Alphabet.{characters, has_rest, width_of, key_of}
use Rattle.rl_run.specs.declared.calls.Answer.{Answer}
use Rattle.rl_run.specs.declared.calls.Answer.TheVariants.{Yes, No}
use Rattle.rl_run.specs.declared.calls.Call.{Call}
use Rattle.rl_run.specs.declared.calls.CallKind.{CallKind}
use Rattle.rl_run.specs.declared.calls.CallKind.TheVariants.{From, Ask, Do, Error, To, Token, Eof}
use Rattle.rl_run.specs.declared.sessions.Settings.{Settings}
use Rattle.rl_run.specs.declared.sessions.Spot.{Spot}
use Rattle.rl_run.specs.Machine.{Machine, Session}
use Rattle.rl_run.specs.Picks.{came, takes_picks, answered}
use Rattle.rl_run.specs.declared.sessions.Flow.TheVariants.{Goes}
use Rattle.rl_run.specs.Run.{Rest, input_at}
use Rattle.rl_run.specs.Twin.{name_of}
use Rattle.rl_run.specs.Verdict.{verdict_of}
use Rattle.rl_model.specs.declared.spec.Spec.{Spec}
use Rattle.rl_model.specs.Specification.{Specification, specification_of, roots_of}
use Rattle.rl_model.specs.Trees.{root_at, tests_at, root_part, ConfAt, TestsOf, AreTestsHonest, part_of, context_of, tree_machine}
use Rattle.rl_model.specs.WellFormed.{IsWellFormed}
use Rattle.rl_replay.specs.declared.script.Event.{Event}
use Rattle.rl_replay.specs.declared.script.Event.TheVariants.{Open, Piece, End, Pick, Say}
use Rattle.rl_replay.specs.declared.script.Line.{Line}
use Rattle.rl_replay.specs.Host.{is_ask, picks_for, says_for, given_picks, given_answer, own_picks, picks_answer, yes_no, times, host, answer_to}
use Rattle.rl_replay.specs.Lines.{session_run, run_lines, calls_lines, stop_lines, end_line}
use Rattle.rl_replay.specs.Sessions.{Names, first, session_of, names_session, only, opening_of, is_opened, is_ended, opened_by, fed, first_fault}
use Rattle.rl_replay.specs.Written.{texts, parts_from, left, entry_of, input_of, written}
use Rattle.rl_replay.proofs.Projection.{filter_again, parts_alone}
use Rattle.rl_replay.proofs.Whole.{whole as adds_up}
use Rattle.rl_language.specs.Replays.{TellsCalls, IsNoPick, IsNoAnswer, PickNothing, AnswerNothing, truths_said}
use Rattle.rl_language.specs.Tokens.{tokens_called, ScansWithoutPriorities, IsScannedBy}
use Rattle.rl_language.specs.Verdicts.{IsWithoutPriorities, IsWordOfEntry, HasNoStatements, letters_of, IsTold, whole}
use Rattle.rl_language.proofs.Replays.{IsPlainAnswer, plain_answers, no_picks, last_is}
use Rattle.rl_language.proofs.SaidRuns.{hosted_said}
use Rattle.rl_language.proofs.SaidTurns.{AreCalm}
use Rattle.rl_language.proofs.TokenWords.{tree_cuts_hosted}
use Rattle.rl_language.proofs.TreeWords.{plain_part, root_matches, root_asks, tests_honest, place, entry_shows, entry_starts, is_within, told_then}

-- ---- what the host of a session's lines answers

no_pick : (name : List ℕ) (n : ℕ) (event : Event) → IsNoPick event → picks_for name n event ≡ None
no_pick name n (Open s entry) h = refl
no_pick name n (Piece s bytes) h = refl
no_pick name n (End s) h = refl
no_pick name n (Pick s action k picks) h = absurd h
no_pick name n (Say s condition k holds) h = refl

no_say : (name : List ℕ) (n : ℕ) (event : Event) → IsNoAnswer event → says_for name n event ≡ None
no_say name n (Open s entry) h = refl
no_say name n (Piece s bytes) h = refl
no_say name n (End s) h = refl
no_say name n (Pick s action k picks) h = refl
no_say name n (Say s condition k holds) h = absurd h

-- lines that answer no call pick nothing either
picks_neither : (event : Event) → IsNoAnswer event → IsNoPick event
picks_neither (Open s entry) h = tt
picks_neither (Piece s bytes) h = tt
picks_neither (End s) h = tt
picks_neither (Pick s action k picks) h = h
picks_neither (Say s condition k holds) h = absurd h

pick_nothing : (own : List Line) → AnswerNothing own → PickNothing own
pick_nothing [] h = tt
pick_nothing (line ∷ own) h = (picks_neither line.event h.0, pick_nothing own h.1)

none_picked : (own : List Line) → PickNothing own → (name : List ℕ) (n : ℕ) → filter_map (λ line. picks_for name n line.event) own ≡ []
none_picked [] h name n = refl
none_picked (line ∷ own) h name n = ap (λ o. cons_option o (filter_map (λ line. picks_for name n line.event) own)) (no_pick name n line.event h.0) ∙ none_picked own h.1 name n

none_said : (own : List Line) → AnswerNothing own → (name : List ℕ) (n : ℕ) → filter_map (λ line. says_for name n line.event) own ≡ []
none_said [] h name n = refl
none_said (line ∷ own) h name n = ap (λ o. cons_option o (filter_map (λ line. says_for name n line.event) own)) (no_say name n line.event h.0) ∙ none_said own h.1 name n

-- the answers to conditions are Yes or No, and the others are those that a host gives by itself
abbrev pub IsSaidAnswer : Call → Answer → Type 0
IsSaidAnswer c x = (is_ask c.kind ≡ true → (x ≡ Yes) ⊎ (x ≡ No)) × (is_ask c.kind ≡ false → x ≡ cond (takes_picks c.kind) (picks_answer []) Yes)

module _ {S : Type 0} (m : Machine S) (quiet : (action n : ℕ) → m.statement action n ≡ None) (settings : Settings) (own : List Line) where
  asked_last : (past : List Call) (c : Call) → host m own (past ++ c ∷ []) ≡ answer_to m own (past ++ c ∷ []) c
  asked_last past c = ap (λ o. elim o as (λ _. Answer) [ None ↦ Yes | Some d ↦ answer_to m own (past ++ c ∷ []) d ]) (last_is m settings quiet None past c)

  -- what is picked where no line picks
  picks_none : PickNothing own → (c : Call) (n : ℕ) → unwrap_or (given_picks own (name_of m c) n) (own_picks m c) ≡ []
  picks_none h c n = ap (λ list. unwrap_or (first list) (own_picks m c)) (none_picked own h (name_of m c) n) ∙ no_picks m settings quiet c

  pub host_silent : AnswerNothing own → (past : List Call) (c : Call) → IsPlainAnswer c (host m own (past ++ c ∷ []))
  host_silent h past c =
      let calls = past ++ c ∷ [] in
      asked_last past c
      ∙ (λ i. cond (is_ask c.kind) (yes_no (unwrap_or (first (none_said own h (name_of m c) (times m is_ask calls (name_of m c)) i)) false))
      (cond (takes_picks c.kind) (picks_answer (picks_none (pick_nothing own h) c (times m takes_picks calls (name_of m c)) i)) Yes))

  pub host_says : PickNothing own → (past : List Call) (c : Call) → IsSaidAnswer c (host m own (past ++ c ∷ []))
  host_says h past c = subst (IsSaidAnswer c) (sym (asked_last past c)) (by (is_ask c.kind) refl)
    where
      yes_or_no : (b : Bool) → (yes_no b ≡ Yes) ⊎ (yes_no b ≡ No)
      yes_or_no true = inl refl
      yes_or_no false = inr refl

      before : ℕ
      before = times m takes_picks (past ++ c ∷ []) (name_of m c)

      by : (b : Bool) → is_ask c.kind ≡ b → IsSaidAnswer c (answer_to m own (past ++ c ∷ []) c)
      by true e = (
        λ f. subst (λ b. (cond b (yes_no (unwrap_or (given_answer own (name_of m c) (times m is_ask (past ++ c ∷ []) (name_of m c))) false))
            (cond (takes_picks c.kind) (picks_answer (unwrap_or (given_picks own (name_of m c) before) (own_picks m c))) Yes) ≡ Yes)
            ⊎ (cond b (yes_no (unwrap_or (given_answer own (name_of m c) (times m is_ask (past ++ c ∷ []) (name_of m c))) false))
            (cond (takes_picks c.kind) (picks_answer (unwrap_or (given_picks own (name_of m c) before) (own_picks m c))) Yes) ≡ No)) (sym e)
            (yes_or_no (unwrap_or (given_answer own (name_of m c) (times m is_ask (past ++ c ∷ []) (name_of m c))) false)),
        λ f. absurd (true≢false (sym e ∙ f)),
      )
      by false e = (
        λ f. absurd (true≢false (sym f ∙ e)),
        λ f. ap (λ b. cond b (yes_no (unwrap_or (given_answer own (name_of m c) (times m is_ask (past ++ c ∷ []) (name_of m c))) false))
            (cond (takes_picks c.kind) (picks_answer (unwrap_or (given_picks own (name_of m c) before) (own_picks m c))) Yes)) e
            ∙ ap (λ list. cond (takes_picks c.kind) (picks_answer list) Yes) (picks_none h c before),
      )

  -- such answers stop nothing
  stays : (spot : Spot) (kind : CallKind) → is_ask kind ≡ false → (action : ℕ) (s : Session S) → answered m settings spot kind action s (cond (takes_picks kind) (picks_answer []) Yes) ≡ came Goes s
  stays spot From other action s = refl
  stays spot Ask other action s = absurd (true≢false other)
  stays spot Do other action s = refl
  stays spot Error other action s = refl
  stays spot To other action s = refl
  stays spot Token other action s = refl
  stays spot Eof other action s = refl

  pub said_answers : AreCalm m settings IsSaidAnswer
  said_answers = record {
    asks = λ c x f e. f.0 e;
    lists = λ spot kind other action s x f. ap (answered m settings spot kind action s) (f.1 other) ∙ stays spot kind other action s;
  }

-- ---- the lines of a session

-- the lines that name a session name it
owned : (s : List ℕ) (lines : List Line) → AllByRecursion (λ line. session_of line.event ≡ s) (only s lines)
owned s [] = tt
owned s (line ∷ lines) = by (names_session s line) refl (owned s lines)
  where
    by : (b : Bool) → names_session s line ≡ b → AllByRecursion (λ line. session_of line.event ≡ s) (only s lines) →
        AllByRecursion (λ line. session_of line.event ≡ s) (cond b (line ∷ only s lines) (only s lines))
    by true e h = ((bytes_eq-Decides (session_of line.event) s).0 e, h)
    by false e h = h

-- where it is ended, lines that all name it leave nothing live
none_live : (s : List ℕ) (all lines : List Line) → is_ended (only s all) ≡ true → AllByRecursion (λ line. session_of line.event ≡ s) lines
    → filter (λ t. not (is_ended (only t all))) (filter_map (λ line. opened_by line.event) lines) ≡ []
none_live s all [] ended h = refl
none_live s all (line ∷ lines) ended h = by (opening_of line.event) (none_live s all lines ended h.1)
  where
    ended_too : (t : List ℕ) → t ≡ s → not (is_ended (only t all)) ≡ false
    ended_too t e = ap (λ u. not (is_ended (only u all))) e ∙ ap not ended

    by : (o : Option (Option (List ℕ))) → filter (λ t. not (is_ended (only t all))) (filter_map (λ line. opened_by line.event) lines) ≡ []
        → filter (λ t. not (is_ended (only t all))) (cons_option (option_map (λ entry. session_of line.event) o) (filter_map (λ line. opened_by line.event) lines)) ≡ []
    by None rest = rest
    by (Some entry) rest =
        ap (λ b. cond b (session_of line.event ∷ filter (λ t. not (is_ended (only t all))) (filter_map (λ line. opened_by line.event) lines)) (filter (λ t. not (is_ended (only t all))) (filter_map (λ line. opened_by line.event) lines)))
        (ended_too (session_of line.event) h.0) ∙ rest

module _ {S : Type 0} (names : Names) (m : Machine S) (settings : Settings) (script : List Line) (s : List ℕ) where
  abbrev own : List Line
  own = only s script

  abbrev run_of : List Call × Rest S
  run_of = session_run m settings (host m own) (entry_of names own) (whole m.width (fed own))

  -- what is written for the session is the lines of its run
  pub tells_calls : first_fault names script ≡ None → is_opened own ≡ true → is_ended own ≡ true
      → written names m settings own ≡ calls_lines m s (host m own) [] run_of.0 ++ stop_lines s run_of.1 ++ end_line s (verdict_of m run_of.1) run_of.1.session.next
  tells_calls faultless opened ended =
      ap (λ ts. texts (parts_from names m settings own [] own ++ map (left names m settings own) ts))
      (none_live s own own (ap is_ended (filter_again (names_session s) script) ∙ ended) (owned s script))
      ∙ ap texts (append-nil (parts_from names m settings own [] own))
      ∙ sym (parts_alone names m settings script s [] script)
      ∙ adds_up names m settings script s faultless
      ∙ ap (λ b. cond b (run_lines m settings s (host m own) (entry_of names own) (input_of m.width own)) []) opened
      ∙ ap (λ b. run_lines m settings s (host m own) (entry_of names own) (input_at m.width 0 (fed own) b)) ended

-- the token calls of a session's run cut its input into tokens
pub script_cuts : (spec : Spec) (tests : TestsOf (specification_of spec)) → IsWellFormed spec → AreTestsHonest (specification_of spec) tests → HasNoStatements (specification_of spec) → (names : Names) (settings : Settings) (script : List Line) (s : List ℕ) → first_fault names script ≡ None
    → AnswerNothing (only s script) → is_opened (only s script) ≡ true → is_ended (only s script) ≡ true → 1 ≤ entry_of names (only s script) → entry_of names (only s script) ≤ length (specification_of spec).entries
    → ScansWithoutPriorities (root_at (roots_of (specification_of spec)) (entry_of names (only s script))) → length (fed (only s script)) < 2 ^ 63
    → has_rest (width_of (specification_of spec).alphabet) (fed (only s script)) ≡ false → length (characters (width_of (specification_of spec).alphabet) (fed (only s script))) ≤ settings.token_max
    → TellsCalls (tree_machine (specification_of spec) tests) (host (tree_machine (specification_of spec) tests) (only s script)) (written names (tree_machine (specification_of spec) tests) settings (only s script)) s
    (λ calls verdict. IsScannedBy (root_at (roots_of (specification_of spec)) (entry_of names (only s script))) (tests_at (roots_of (specification_of spec)) tests (entry_of names (only s script)))
    (letters_of (width_of (specification_of spec).alphabet) (key_of (specification_of spec).alphabet) (λ p. 0) (fed (only s script))) (tokens_called calls) verdict)
script_cuts source tests well honest quiet names settings script s faultless silent opened ended from up plain size whole_characters short =
    let spec = specification_of source in
    let m = tree_machine spec tests in
    let own = only s script in
    let e = entry_of names own in
    let r = session_run m settings (host m own) e (whole m.width (fed own)) in (
      r.0,
      r.1,
      tells_calls names m settings script s faultless opened ended,
      tree_cuts_hosted source tests well honest e from up plain settings (λ p. 0) (λ p. omega arith) IsPlainAnswer (plain_answers m settings) (host m own) (host_silent m quiet settings own silent) (fed own) size whole_characters short,
    )

-- the verdict of a session tells whether its input is a word, with the conditions that its lines say to hold
pub script_tells : (spec : Specification) (tests : TestsOf spec) → AreTestsHonest spec tests → HasNoStatements spec → (names : Names) (settings : Settings) (script : List Line) (s : List ℕ) → first_fault names script ≡ None
    → PickNothing (only s script) → is_opened (only s script) ≡ true → is_ended (only s script) ≡ true → 1 ≤ entry_of names (only s script) → entry_of names (only s script) ≤ length spec.entries
    → IsWithoutPriorities (root_at (roots_of spec) (entry_of names (only s script))) → length (fed (only s script)) < 2 ^ 63
    → TellsCalls (tree_machine spec tests) (host (tree_machine spec tests) (only s script)) (written names (tree_machine spec tests) settings (only s script)) s
    (λ calls verdict. IsTold verdict (has_rest (width_of spec.alphabet) (fed (only s script)))
    (IsWordOfEntry (root_at (roots_of spec) (entry_of names (only s script)))
    (letters_of (width_of spec.alphabet) (key_of spec.alphabet) (truths_said (host (tree_machine spec tests) (only s script)) calls) (fed (only s script)))))
script_tells spec tests honest quiet names settings script s faultless picks opened ended from up plain size =
    let m = tree_machine spec tests in
    let own = only s script in
    let e = entry_of names own in
    let x = root_at (roots_of spec) e in
    let k = tests_at (roots_of spec) tests e in
    let r = session_run m settings (host m own) e (whole m.width (fed own)) in (
      r.0,
      r.1,
      tells_calls names m settings script s faultless opened ended,
      told_then (verdict_of m r.1) (has_rest (width_of spec.alphabet) (fed own))
          (hosted_said (root_part x k).auto m (place (ConfAt spec) (part_of spec tests) (length spec.entries) (context_of spec) e)
          (entry_shows (ConfAt spec) (part_of spec tests) (length spec.entries) (context_of spec) e (plain_part x k plain) (root_asks x k plain))
          settings IsSaidAnswer (said_answers m quiet settings own) (host m own) (host_says m quiet settings own picks) (fed own) (m.entry e)
          (entry_starts (ConfAt spec) (part_of spec tests) (length spec.entries) (context_of spec) e (is_within (length spec.entries) e from up)) size)
          (root_matches x k (tests_honest (roots_of spec) tests honest e) plain (letters_of (width_of spec.alphabet) (key_of spec.alphabet) (truths_said (host m own) r.0) (fed own))),
    )
