-- A replay of a script that opens a session, feeds it one piece and ends it: the host answers by itself, and nothing that
-- it answers stops the session.
use Rattle.std.proofs.Common.{◌≡◌, ◌≢◌, ℕ, zero, suc, ◌+◌, ◌-◌, ◌^◌, ◌<◌, ◌≤◌, cond, List, [], ◌∷◌, ◌++◌, inl, refl, sym, ◌∙◌, ap, subst, Option, Some, None, length, nat_eq, arith}
use Rattle.std.specs.List.{last_or}
use Rattle.std.proofs.lemmas.Nat.Bits.{bit_at-zero}
use Rattle.rl_types.specs.Alphabet.{width_of, key_of, has_rest}
use Rattle.rl_automata.specs.Auto.{holds}
use Rattle.rl_run.specs.declared.calls.Answer.{Answer}
use Rattle.rl_run.specs.declared.calls.Answer.TheVariants.{Yes, No}
use Rattle.rl_run.specs.declared.calls.Call.{Call}
use Rattle.rl_run.specs.declared.calls.CallKind.{CallKind}
use Rattle.rl_run.specs.declared.calls.CallKind.TheVariants.{From, Ask, Do, Error, To, Token, Eof}
use Rattle.rl_run.specs.declared.sessions.Settings.{Settings}
use Rattle.rl_run.specs.declared.sessions.Spot.{Spot}
use Rattle.rl_run.specs.Machine.{Machine, Session}
use Rattle.rl_run.specs.Picks.{takes_picks, answered}
use Rattle.rl_run.specs.Turn.{call_of}
use Rattle.rl_run.specs.Verdict.{verdict_of}
use Rattle.rl_model.specs.Specification.{Specification, roots_of}
use Rattle.rl_model.specs.Trees.{root_at, tests_at, root_part, ConfAt, TestsOf, AreTestsHonest, part_of, context_of, tree_machine}
use Rattle.rl_replay.specs.Host.{Numbered, is_ask, statements_from, statements_of, picks_among, own_picks, picks_answer, host, answer_to}
use Rattle.rl_replay.specs.Lines.{session_run, calls_lines, stop_lines}
use Rattle.rl_replay.specs.Sessions.{Names, entry_or_start}
use Rattle.rl_replay.specs.Written.{written, whole_input}
use Rattle.rl_replay.proofs.Whole.{one_run}
use Rattle.rl_language.specs.Verdicts.{IsWithoutPriorities, IsWordOfEntry, HasNoStatements, letters_of, IsTold, whole}
use Rattle.rl_language.specs.Replays.{EndsWithVerdict}
use Rattle.rl_language.proofs.QuietTurns.{AreQuiet, Unmoved}
use Rattle.rl_language.proofs.QuietRuns.{hosted_tells}
use Rattle.rl_language.proofs.TreeWords.{plain_part, root_matches, root_asks, tests_honest, place, entry_shows, entry_starts, is_within, told_then}

-- what a host answers by itself where no action has a statement: No to a condition, and no picks
abbrev pub plain_answer : Call → Answer
plain_answer c = cond (is_ask c.kind) No (cond (takes_picks c.kind) (picks_answer []) Yes)

abbrev pub IsPlainAnswer : Call → Answer → Type 0
IsPlainAnswer c x = x ≡ plain_answer c

module _ {S : Type 0} (m : Machine S) (settings : Settings) where
  no_condition : (c : Call) → c.kind ≡ Ask → plain_answer c ≡ (cond (holds c.action.0 0) Yes No)
  no_condition c p =
      ap (λ kind. cond (is_ask kind) No (cond (takes_picks kind) (picks_answer []) Yes)) p
      ∙ sym (ap (λ bit. cond (nat_eq bit 1) Yes No) (bit_at-zero (c.action.0 - 1)))

  stays : (spot : Spot) (kind : CallKind) → kind ≢ Ask → (action : ℕ) (s : Session S) → Unmoved (λ cause. ⊥) s (answered m settings spot kind action s (plain_answer (call_of spot kind action s)))
  stays spot From ne action s = inl refl
  stays spot Ask ne action s = absurd (ne refl)
  stays spot Do ne action s = inl refl
  stays spot Error ne action s = inl refl
  stays spot To ne action s = inl refl
  stays spot Token ne action s = inl refl
  stays spot Eof ne action s = inl refl

  pub plain_answers : AreQuiet m settings (λ p. 0) IsPlainAnswer (λ cause. ⊥)
  plain_answers = record {
    asks = λ c x f p. f ∙ no_condition c p;
    lists = λ spot kind ne action s x f. subst (λ y. Unmoved (λ cause. ⊥) s (answered m settings spot kind action s y)) (sym f) (stays spot kind ne action s);
  }

  module _ (quiet : (action n : ℕ) → m.statement action n ≡ None) where
    none_from : (action most n : ℕ) → statements_from m action most n ≡ []
    unfolding statements_from
    none_from action zero n = refl
    none_from action (suc most) n =
        ap (λ o. elim o as (λ _. List Numbered) [ None ↦ [] | Some statement ↦ (n, statement) ∷ statements_from m action most (n + 1) ]) (quiet action n)

    pub no_picks : (c : Call) → own_picks m c ≡ []
    unfolding statements_of
    no_picks c = ap (picks_among c) (none_from c.action.0 4294967295 1)

    pub last_is : (o : Option Call) (past : List Call) (c : Call) → last_or o (past ++ c ∷ []) ≡ Some c
    last_is o [] c = refl
    last_is o (d ∷ past) c = last_is (Some d) past c

    pub host_plain : (past : List Call) (c : Call) → IsPlainAnswer c (host m [] (past ++ c ∷ []))
    host_plain past c =
        ap (λ o. elim o as (λ _. Answer) [ None ↦ Yes | Some d ↦ answer_to m [] (past ++ c ∷ []) d ]) (last_is None past c)
        ∙ ap (λ picks. cond (is_ask c.kind) No (cond (takes_picks c.kind) (picks_answer picks) Yes)) (no_picks c)

-- the end line of the replay tells whether the input is a word
pub replay_tells : (spec : Specification) (tests : TestsOf spec) → AreTestsHonest spec tests → HasNoStatements spec → (names : Names) (settings : Settings) (s : List ℕ) (entry : Option (List ℕ)) (bytes : List ℕ) → length bytes < 2 ^ 63
    → 1 ≤ entry_or_start names entry → entry_or_start names entry ≤ length spec.entries → IsWithoutPriorities (root_at (roots_of spec) (entry_or_start names entry))
    → EndsWithVerdict (written names (tree_machine spec tests) settings (whole_input s entry bytes)) s
    (λ verdict. IsTold verdict (has_rest (width_of spec.alphabet) bytes)
    (IsWordOfEntry (root_at (roots_of spec) (entry_or_start names entry)) (letters_of (width_of spec.alphabet) (key_of spec.alphabet) (λ p. 0) bytes)))
replay_tells spec tests honest quiet names settings s entry bytes size from up plain =
    let e = entry_or_start names entry in
    let x = root_at (roots_of spec) e in
    let k = tests_at (roots_of spec) tests e in
    let m = tree_machine spec tests in
    let r = session_run m settings (host m []) e (whole m.width bytes) in (
      calls_lines m s (host m []) [] r.0 ++ stop_lines s r.1,
      verdict_of m r.1,
      r.1.session.next,
      one_run names m settings s entry bytes,
      told_then (verdict_of m r.1) (has_rest (width_of spec.alphabet) bytes)
          (hosted_tells (root_part x k).auto m (place (ConfAt spec) (part_of spec tests) (length spec.entries) (context_of spec) e)
          (entry_shows (ConfAt spec) (part_of spec tests) (length spec.entries) (context_of spec) e (plain_part x k plain) (root_asks x k plain))
          settings (λ p. 0) (λ p. omega arith) IsPlainAnswer (plain_answers m settings) (host m []) (host_plain m settings quiet) bytes (m.entry e)
          (entry_starts (ConfAt spec) (part_of spec tests) (length spec.entries) (context_of spec) e (is_within (length spec.entries) e from up)) size)
          (root_matches x k (tests_honest (roots_of spec) tests honest e) plain (letters_of (width_of spec.alphabet) (key_of spec.alphabet) (λ p. 0) bytes)),
    )
