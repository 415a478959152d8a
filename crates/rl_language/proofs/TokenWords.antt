-- The token calls of the tree machine's scanners, and those of its twins, cut the input into tokens.
use Rattle.std.proofs.Common.{◌≡◌, ℕ, suc, ◌+◌, ◌^◌, ◌<◌, ◌≤◌, Bool, true, false, cond, List, [], ◌∷◌, ◌++◌, ◌⊎◌, inl, inr, drop, IsTrue, map, refl, sym, ◌∙◌, ap, subst, Option, Some, None, nat_eq, length, arith}
use Rattle.std.specs.List.{AllZip}
use Rattle.std.proofs.lemmas.List.{map-append}
use Rattle.rl_types.specs.declared.numbers.Letter.{Letter}
use Rattle.rl_types.specs.Alphabet.{characters, has_rest, width_of, key_of}
use Rattle.rl_sets.proofs.OrderLaws.{eq_by_cmp-itself, eq_by_cmp-same}
use Rattle.rl_automata.specs.declared.moves.Move.{Move}
use Rattle.rl_automata.specs.Auto.{is_start}
use Rattle.rl_automata.specs.Follows.{Reach}
use Rattle.rl_automata.specs.Laws.{StepsByAsked}
use Rattle.rl_automata.specs.Scans.{Pattern, PatternMarks, scan_auto}
use Rattle.rl_automata.proofs.AskedLaws.{scan_by_asked}
use Rattle.rl_automata.proofs.MarksLaws.{scan_order}
use Rattle.rl_automata.proofs.StartLaws.{scan_never}
use Rattle.rl_run.specs.declared.calls.Answer.{Answer}
use Rattle.rl_run.specs.declared.calls.Call.{Call}
use Rattle.rl_run.specs.declared.calls.CallKind.{CallKind}
use Rattle.rl_run.specs.declared.calls.CallKind.TheVariants.{From, Ask, Do, Error, To, Token, Eof}
use Rattle.rl_run.specs.declared.calls.Outcome.TheVariants.{Wants}
use Rattle.rl_run.specs.declared.calls.Verdict.{Verdict}
use Rattle.rl_run.specs.declared.calls.Stop.{Stop as StopCause}
use Rattle.rl_run.specs.declared.sessions.Settings.{Settings}
use Rattle.rl_run.specs.Chain.{run_on}
use Rattle.rl_run.specs.Fine.{IsKinded, IsFine, weight}
use Rattle.rl_run.specs.Hosted.{hosted}
use Rattle.rl_run.specs.Machine.{Machine, fresh, keep}
use Rattle.rl_run.specs.Play.{ended, run, AllEnds}
use Rattle.rl_run.specs.Run.{Rest, turns}
use Rattle.rl_run.specs.Twin.{CallR, renames}
use Rattle.rl_run.specs.Alike.{MakeSameRuns}
use Rattle.rl_run.specs.Verdict.{verdict_of}
use Rattle.rl_run.proofs.Spent.{run_comes}
use Rattle.rl_run.proofs.Starts.{start_fine}
use Rattle.rl_run.proofs.SameRuns.{same_runs}
use Rattle.rl_fsm.specs.declared.root.EntryFsm.{EntryFsm}
use Rattle.rl_model.specs.declared.spec.Spec.{Spec}
use Rattle.rl_model.specs.Parts.{Part, Context, StandsAt, machine}
use Rattle.rl_model.specs.Specification.{Root, Plain, Scanner, Specification, specification_of, roots_of}
use Rattle.rl_model.specs.Trees.{RootConf, Tests, IsHonest, root_part, root_at, tests_at, ConfAt, TestsOf, AreTestsHonest, part_of, context_of, TreeState, tree_machine}
use Rattle.rl_model.specs.WellFormed.{IsWellFormed}
use Rattle.rl_model.proofs.WellFormedLaws.{tree_keeps}
use Rattle.rl_root.specs.Roots.{part_at, root_machine}
use Rattle.rl_replay.specs.Lines.{session_run}
use Rattle.rl_build.specs.Roots.{IsTwinOf}
use Rattle.rl_language.specs.Tokens.{is_token, TokenLine, told_by, tokens_called, IsCut, IsScanned, ScansWithoutPriorities, IsScannedBy, renamed_line, IsScannedUnder, TokensCutInput}
use Rattle.rl_language.specs.Verdicts.{HasNoStatements, IsByHost, IsStoppedBy, IsStoppedByHost, IsAnsweredBy, AreAnsweredBy, letters_from, letters_of, whole}
use Rattle.rl_language.proofs.LongestMatch.{scan_finds}
use Rattle.rl_language.proofs.QuietRuns.{fewer_characters, never_stopped}
use Rattle.rl_language.proofs.QuietTurns.{AreQuiet, answered_unmoved}
use Rattle.rl_language.proofs.TokenPlays.{EndsTold, told_weaken, told_run, told_hosted, all_run, all_hosted}
use Rattle.rl_language.proofs.TokenRuns.{ScannedFrom, Tells, turns_tell}
use Rattle.rl_language.proofs.TokenTurns.{ShowsScanner}
use Rattle.rl_language.proofs.TreeWords.{place, entry_starts, is_within, tests_honest, same_answers, same_end, same_letters}

-- ---- one scanner

-- what holds of a scanner's part
record IsScannerPart {C : Type 0} (p : Part C) : Type 0 where
  scanner : p.is_scanner ≡ true
  needs : StepsByAsked p.auto
  begins : is_start p.auto p.auto.start ≡ true
  left : (c : C) (l : Letter) (n : Move C) → p.auto.step c l ≡ Some n → is_start p.auto n.to ≡ false
  closed : (c : C) → Reach p.auto c → p.closed c ≡ true → (l : Letter) → p.auto.step c l ≡ None

not_true : (b : Bool) → (b ≡ true → ⊥) → b ≡ false
not_true true h = absurd (h refl)
not_true false h = refl

scanner_part : (x : Root) (k : Tests x) → IsHonest x k → ScansWithoutPriorities x → IsScannerPart (root_part x k)
scanner_part (Plain t) k h e = absurd e
scanner_part (Scanner ps) k h e =
    let A = scan_auto ps k.0 in
    record {
      scanner = refl;
      needs = scan_by_asked ps k.0;
      begins = eq_by_cmp-itself (scan_order ps k.0) A.start;
      left = λ c l n s. not_true (is_start A n.to) (λ t. scan_never ps k.0 c l n s (eq_by_cmp-same (scan_order ps k.0) n.to A.start t));
      closed = λ c r t. (h.1 c r).0 t;
    }

-- ---- all entries

module _ (C : ℕ → Type 0) (part : (e : ℕ) → Part (C e)) (count : ℕ) (context : Context) (e : ℕ) where
  scanner_shows : IsScannerPart (part e) → ShowsScanner (part e) (machine C part count context) (place C part count context e)
  scanner_shows scans = record {
    kind = λ c. ap (λ b. cond b (cond (is_start (part e).auto c) 1 (cond ((part e).auto.final c) (cond ((part e).closed c) 4 3) 2)) 0) scans.scanner;
    asked = λ c key. refl;
    find = λ c key hold. refl;
    token = λ c. ap (λ b. cond b ((part e).token c) []) scans.scanner;
    home = λ c. ap (λ b. cond b (Some (e, (part e).auto.start)) None) scans.scanner;
    final = λ c. ap (λ b. cond b (nat_eq (cond b (cond (is_start (part e).auto c) 1 (cond ((part e).auto.final c) (cond ((part e).closed c) 4 3) 2)) 0) 1) ((part e).auto.final c)) scans.scanner ∙ by (is_start (part e).auto c) ((part e).auto.final c) ((part e).closed c);
    is_failed = refl;
    needs = scans.needs;
    begins = scans.begins;
    left = scans.left;
    closed = scans.closed;
  }
    where
      by : (a f k : Bool) → nat_eq (cond a 1 (cond f (cond k 4 3) 2)) 1 ≡ a
      by true f k = refl
      by false true true = refl
      by false true false = refl
      by false false k = refl

-- ---- runs

drop_zero : {X : Type 0} (xs : List X) → drop 0 xs ≡ xs
drop_zero [] = refl
drop_zero (x ∷ xs) = refl

module _ {S : Type 0} (m : Machine S) (settings : Settings) (e : ℕ) (truths : ℕ → ℕ) (low : (at : ℕ) → truths at < 2 ^ 8) (Fits : Call → Answer → Type 0) (Sort : StopCause → Type 0) (answers : AreQuiet m settings truths Fits Sort)
    (bytes : List ℕ) (whole_characters : has_rest m.width bytes ≡ false) (short : length (characters m.width bytes) ≤ settings.token_max) where
  abbrev word : List Letter
  word = letters_of m.width m.key_of truths bytes

  -- the turns of a run were spent, or an answer stopped it, or it tells the tokens of its input
  abbrev RunTells : (x : Root) → Tests x → List TokenLine → Rest S → Type 0
  RunTells x k lines r = (r.outcome ≡ None) ⊎ (IsStoppedBy Sort r.outcome ⊎ IsScannedBy x k word lines (verdict_of m r))

  scanned : (ps : List Pattern) (k : PatternMarks ps) (w v : List Letter) (lines : List TokenLine) (verdict : Verdict) → w ≡ v → ScannedFrom ps k 0 w lines verdict → IsScanned ps k v lines verdict
  scanned ps k w v lines verdict e s = record { tokens = s.tokens; rest = s.left; cut = subst (λ y. IsCut ps y s.tokens s.left) e s.cut; told = s.told; word = s.word }

  run_tells_tokens : (x : Root) (k : Tests x) → IsHonest x k → ScansWithoutPriorities x → (place : RootConf x → S) → ShowsScanner (root_part x k) m place → m.entry e ≡ place (root_part x k).auto.start
      → EndsTold Fits (RunTells x k) (run_on false m settings (whole m.width bytes) (fresh (m.entry e)))
  unfolding run_on
  run_tells_tokens (Plain t) k h plain place shows start = absurd plain
  run_tells_tokens (Scanner ps) k h plain place shows start =
      let p = root_part (Scanner ps) k in
      let all = characters m.width bytes in
      let n = suc (weight (fresh (place p.auto.start))) in
      subst (λ q. EndsTold Fits (RunTells (Scanner ps) k) (turns false m settings (whole m.width bytes) (suc (weight (fresh q))) (fresh q))) (sym start)
      (told_weaken Fits (Tells p m place shows ps k.0 (scan_finds ps k.0 plain h.0 k.1) settings truths low Fits Sort answers all (has_rest m.width bytes) whole_characters short 0) (RunTells (Scanner ps) k)
      (turns false m settings (whole m.width bytes) n (fresh (place p.auto.start))) by
      (turns_tell p m place shows ps k.0 (scan_finds ps k.0 plain h.0 k.1) settings truths low Fits Sort answers all (has_rest m.width bytes) whole_characters short n 0 [] p.auto.start refl refl (omega arith) 0 0))
    where
      by : (lines : List TokenLine) (r : Rest S)
          → Tells (root_part (Scanner ps) k) m place shows ps k.0 (scan_finds ps k.0 plain h.0 k.1) settings truths low Fits Sort answers (characters m.width bytes) (has_rest m.width bytes) whole_characters short 0 lines r
          → RunTells (Scanner ps) k lines r
      by lines r (inl none) = inl none
      by lines r (inr (inl stopped)) = inr (inl stopped)
      by lines r (inr (inr s)) = inr (inr (scanned ps k.0 _ word lines (verdict_of m r) (ap (letters_from m.key_of truths 0) (drop_zero (characters m.width bytes))) s))

-- wherever a run may end, its turns are not spent
module _ {S : Type 0} (m : Machine S) (kinded : IsKinded m) (settings : Settings) (e : ℕ) (bytes : List ℕ) (size : length bytes < 2 ^ 63) where
  abbrev Comes : Rest S → Type 0
  Comes r = (r.outcome ≡ None → ⊥) × (r.outcome ≡ Some Wants → IsFine m r.session)

  comes : AllEnds Comes (run_on false m settings (whole m.width bytes) (fresh (m.entry e)))
  comes = run_comes m kinded settings false (whole m.width bytes) limit (fresh (m.entry e)) (start_fine m e kinded) (none_before (keep settings (fresh (m.entry e))))
    where
      none_before : (n : ℕ) → 0 ≤ n
      none_before n = omega arith

      limit : 0 + length (characters m.width bytes) < 2 ^ 63
      limit = let few : length (characters m.width bytes) ≤ length bytes = fewer_characters m.width bytes in omega arith

-- ---- the tree machine

-- what an answer does to a list's calls where no action has a statement
quiet_answers : {S : Type 0} (m : Machine S) → ((action n : ℕ) → m.statement action n ≡ None) → (settings : Settings) (truths : ℕ → ℕ) → AreQuiet m settings truths (IsAnsweredBy truths) IsByHost
quiet_answers m quiet settings truths = record { asks = λ c x f. f; lists = λ spot kind ne action s x f. answered_unmoved m quiet settings spot kind action s x }

-- the tree machine shows its scanners
pub tree_shows : (spec : Specification) (tests : TestsOf spec) → AreTestsHonest spec tests → (e : ℕ) → ScansWithoutPriorities (root_at (roots_of spec) e)
    → ShowsScanner (root_part (root_at (roots_of spec) e) (tests_at (roots_of spec) tests e)) (tree_machine spec tests) (place (ConfAt spec) (part_of spec tests) (length spec.entries) (context_of spec) e)
tree_shows spec tests honest e plain =
    scanner_shows (ConfAt spec) (part_of spec tests) (length spec.entries) (context_of spec) e
    (scanner_part (root_at (roots_of spec) e) (tests_at (roots_of spec) tests e) (tests_honest (roots_of spec) tests honest e) plain)

pub tree_starts : (spec : Specification) (tests : TestsOf spec) (e : ℕ) → 1 ≤ e → e ≤ length spec.entries
    → (tree_machine spec tests).entry e ≡ place (ConfAt spec) (part_of spec tests) (length spec.entries) (context_of spec) e (part_of spec tests e).auto.start
tree_starts spec tests e from up = entry_starts (ConfAt spec) (part_of spec tests) (length spec.entries) (context_of spec) e (is_within (length spec.entries) e from up)

pub tree_cuts : (spec : Spec) (tests : TestsOf (specification_of spec)) → IsWellFormed spec → AreTestsHonest (specification_of spec) tests → HasNoStatements (specification_of spec) → (e : ℕ) → 1 ≤ e → e ≤ length (specification_of spec).entries
    → ScansWithoutPriorities (root_at (roots_of (specification_of spec)) e)
    → TokensCutInput (tree_machine (specification_of spec) tests) e (IsScannedBy (root_at (roots_of (specification_of spec)) e) (tests_at (roots_of (specification_of spec)) tests e))
tree_cuts source tests well honest quiet e from up plain settings bytes truths answers r size whole_characters short low by reached not_held =
    let spec = specification_of source in
    let m = tree_machine spec tests in
    let x = root_at (roots_of spec) e in
    let k = tests_at (roots_of spec) tests e in
    let p = run_on false m settings (whole m.width bytes) (fresh (m.entry e)) in
    let calm = quiet_answers m quiet settings truths in
    let told = told_run truths (RunTells m settings e truths low (IsAnsweredBy truths) IsByHost calm bytes whole_characters short x k) p answers r
    (run_tells_tokens m settings e truths low (IsAnsweredBy truths) IsByHost calm bytes whole_characters short x k (tests_honest (roots_of spec) tests honest e) plain
    (place (ConfAt spec) (part_of spec tests) (length spec.entries) (context_of spec) e) (tree_shows spec tests honest e plain) (tree_starts spec tests e from up)) by reached in
    let come = all_run (Comes m (tree_keeps source well tests).kinded settings e bytes size) p answers r (comes m (tree_keeps source well tests).kinded settings e bytes size) reached in
    elim told [ inl none ↦ absurd (come.0 none) | inr later ↦ elim later [ inl stopped ↦ absurd (not_held stopped) | inr s ↦ s ] ]

-- the same where a host answers that stops nothing
pub tree_cuts_hosted : (spec : Spec) (tests : TestsOf (specification_of spec)) → IsWellFormed spec → AreTestsHonest (specification_of spec) tests → (e : ℕ) → 1 ≤ e → e ≤ length (specification_of spec).entries
    → ScansWithoutPriorities (root_at (roots_of (specification_of spec)) e) → (settings : Settings) (truths : ℕ → ℕ) → ((at : ℕ) → truths at < 2 ^ 8)
    → (Fits : Call → Answer → Type 0) → AreQuiet (tree_machine (specification_of spec) tests) settings truths Fits (λ cause. ⊥)
    → (host : List Call → Answer) → ((past : List Call) (c : Call) → Fits c (host (past ++ c ∷ []))) → (bytes : List ℕ) → length bytes < 2 ^ 63
    → has_rest (tree_machine (specification_of spec) tests).width bytes ≡ false → length (characters (tree_machine (specification_of spec) tests).width bytes) ≤ settings.token_max
    → IsScannedBy (root_at (roots_of (specification_of spec)) e) (tests_at (roots_of (specification_of spec)) tests e)
    (letters_of (tree_machine (specification_of spec) tests).width (tree_machine (specification_of spec) tests).key_of truths bytes)
    (tokens_called (session_run (tree_machine (specification_of spec) tests) settings host e (whole (tree_machine (specification_of spec) tests).width bytes)).0)
    (verdict_of (tree_machine (specification_of spec) tests) (session_run (tree_machine (specification_of spec) tests) settings host e (whole (tree_machine (specification_of spec) tests).width bytes)).1)
tree_cuts_hosted source tests well honest e from up plain settings truths low Fits calm host fits bytes size whole_characters short =
    let spec = specification_of source in
    let m = tree_machine spec tests in
    let x = root_at (roots_of spec) e in
    let k = tests_at (roots_of spec) tests e in
    let p = run_on false m settings (whole m.width bytes) (fresh (m.entry e)) in
    let told = told_hosted Fits host fits (RunTells m settings e truths low Fits (λ cause. ⊥) calm bytes whole_characters short x k) p []
    (run_tells_tokens m settings e truths low Fits (λ cause. ⊥) calm bytes whole_characters short x k (tests_honest (roots_of spec) tests honest e) plain
    (place (ConfAt spec) (part_of spec tests) (length spec.entries) (context_of spec) e) (tree_shows spec tests honest e plain) (tree_starts spec tests e from up)) in
    let come = all_hosted Fits host fits (Comes m (tree_keeps source well tests).kinded settings e bytes size) p [] (comes m (tree_keeps source well tests).kinded settings e bytes size) in
    subst (λ lines. IsScannedBy x k (letters_of m.width m.key_of truths bytes) lines (verdict_of m (hosted host [] p).1)) (sym told.1)
    (elim told.2 [ inl none ↦ absurd (come.0 none) | inr later ↦ elim later [ inl stopped ↦ absurd (never_stopped (hosted host [] p).1.outcome stopped) | inr s ↦ s ] ])

-- ---- machines that make the same runs

kept_lines : (lines : List TokenLine) → map (renamed_line (λ a. a)) lines ≡ lines
kept_lines [] = refl
kept_lines (line ∷ lines) = ap (λ more. line ∷ more) (kept_lines lines)

module _ {S T : Type 0} (m : Machine S) (w : Machine T) (rename : ℕ → ℕ) (R : S → T → Type 0) where
  line_told : (kind : CallKind) (action : ℕ) (ts te : Option ℕ) → cond (is_token kind) (record { action = renames rename kind action; ts = ts; te = te } ∷ []) []
      ≡ map (renamed_line rename) (cond (is_token kind) (record { action = action; ts = ts; te = te } ∷ []) [])
  line_told From action ts te = refl
  line_told Ask action ts te = refl
  line_told Do action ts te = refl
  line_told Error action ts te = refl
  line_told To action ts te = refl
  line_told Token action ts te = refl
  line_told Eof action ts te = refl

  same_told : (c d : Call) → CallR m w rename c d → told_by d ≡ map (renamed_line rename) (told_by c)
  same_told c d (e, name, same) = ap told_by e ∙ line_told c.kind c.action.0 c.ts c.te

  same_tokens : (cs ds : List Call) → AllZip (CallR m w rename) cs ds → tokens_called ds ≡ map (renamed_line rename) (tokens_called cs)
  same_tokens [] [] z = refl
  same_tokens [] (d ∷ ds) z = absurd z
  same_tokens (c ∷ cs) [] z = absurd z
  same_tokens (c ∷ cs) (d ∷ ds) z = (λ i. same_told c d z.0 i ++ same_tokens cs ds z.1 i) ∙ sym (map-append (renamed_line rename) (told_by c) (tokens_called cs))

  -- what the other's runs are said to tell, of characters of this width
  abbrev CutsAt : ℕ → ℕ → (x : Root) → Tests x → Type 0
  CutsAt width e x k =
      (settings : Settings) (bytes : List ℕ) (truths : ℕ → ℕ) (answers : List Answer) (r : Rest T) →
      length bytes < 2 ^ 63 → has_rest width bytes ≡ false → length (characters width bytes) ≤ settings.token_max → ((p : ℕ) → truths p < 2 ^ 8) →
      AreAnsweredBy truths (run (run_on false w settings (whole width bytes) (fresh (w.entry e))) answers).calls answers →
      (run (run_on false w settings (whole width bytes) (fresh (w.entry e))) answers).reached ≡ ended r → ¬ IsStoppedByHost r.outcome →
      IsScannedUnder rename x k (letters_of width w.key_of truths bytes) (tokens_called (run (run_on false w settings (whole width bytes) (fresh (w.entry e))) answers).calls) (verdict_of w r)

  pub same_cut : MakeSameRuns m w rename R → w.width ≡ m.width → ((character : ℕ) → w.key_of character ≡ m.key_of character) →
      (e : ℕ) (x : Root) (k : Tests x) → TokensCutInput m e (IsScannedBy x k) → TokensCutInput w e (IsScannedUnder rename x k)
  same_cut same width keys e x k cuts = subst (λ n. CutsAt n e x k) (sym width) other
    where
      other : CutsAt m.width e x k
      other settings bytes truths answers r size whole_characters short low by reached not_held =
          let input = whole m.width bytes in
          let alike = same false settings input e answers in
          let p = run (run_on false m settings input (fresh (m.entry e))) answers in
          let q = run (run_on false w settings input (fresh (w.entry e))) answers in
          let end = same_end m w rename R p.reached q.reached r alike.1 reached in
          let told = cuts settings bytes truths answers end.0 size whole_characters short low (same_answers m w rename R truths p.calls q.calls answers alike.0 by)
          end.1 (λ h. not_held (subst IsStoppedByHost (sym end.2.outcome) h)) in (
            tokens_called p.calls,
            same_tokens p.calls q.calls alike.0,
            subst (λ word. IsScannedBy x k word (tokens_called p.calls) (verdict_of w r)) (sym (same_letters m w rename R keys truths 0 (characters m.width bytes)))
                (subst (λ v. IsScannedBy x k (letters_of m.width m.key_of truths bytes) (tokens_called p.calls) v) (sym end.2.verdict) told),
          )

-- where actions keep their numbers the lines are the same
kept_cut : {T : Type 0} (w : Machine T) (e : ℕ) (x : Root) (k : Tests x) → TokensCutInput w e (IsScannedUnder (λ a. a) x k) → TokensCutInput w e (IsScannedBy x k)
kept_cut w e x k cuts settings bytes truths answers r size whole_characters short low by reached not_held =
    let s = cuts settings bytes truths answers r size whole_characters short low by reached not_held in
    subst (λ lines. IsScannedBy x k (letters_of w.width w.key_of truths bytes) lines (verdict_of w r)) (sym (s.1 ∙ kept_lines s.0)) s.2

pub alike_cuts : (spec : Spec) (tests : TestsOf (specification_of spec)) (m : Machine ℕ) (rename : ℕ → ℕ) (stands : TreeState (specification_of spec) → ℕ → Bool) → IsWellFormed spec → AreTestsHonest (specification_of spec) tests → HasNoStatements (specification_of spec)
    → (e : ℕ) → 1 ≤ e → e ≤ length (specification_of spec).entries → ScansWithoutPriorities (root_at (roots_of (specification_of spec)) e)
    → MakeSameRuns (tree_machine (specification_of spec) tests) m rename (λ q p. IsTrue (stands q p))
    → m.width ≡ width_of (specification_of spec).alphabet → ((character : ℕ) → m.key_of character ≡ key_of (specification_of spec).alphabet character)
    → TokensCutInput m e (IsScannedUnder rename (root_at (roots_of (specification_of spec)) e) (tests_at (roots_of (specification_of spec)) tests e))
alike_cuts source tests m rename stands well honest quiet e from up plain same width keys =
    let spec = specification_of source in
    same_cut (tree_machine spec tests) m rename (λ q p. IsTrue (stands q p)) same width keys e (root_at (roots_of spec) e) (tests_at (roots_of spec) tests e) (tree_cuts source tests well honest quiet e from up plain)

pub built_cuts : (spec : Spec) (tests : TestsOf (specification_of spec)) (entries : List EntryFsm) → IsWellFormed spec → AreTestsHonest (specification_of spec) tests → IsTwinOf (specification_of spec) tests entries → HasNoStatements (specification_of spec) → (e : ℕ) → 1 ≤ e → e ≤ length (specification_of spec).entries
    → ScansWithoutPriorities (root_at (roots_of (specification_of spec)) e)
    → TokensCutInput (root_machine entries (context_of (specification_of spec))) e (IsScannedBy (root_at (roots_of (specification_of spec)) e) (tests_at (roots_of (specification_of spec)) tests e))
built_cuts source tests entries well honest twin quiet e from up plain =
    let spec = specification_of source in
    let R = StandsAt (ConfAt spec) (λ e. ℕ) (part_at entries) twin.0 in
    kept_cut (root_machine entries (context_of spec)) e (root_at (roots_of spec) e) (tests_at (roots_of spec) tests e)
    (same_cut (tree_machine spec tests) (root_machine entries (context_of spec)) (λ a. a) R
    (same_runs (tree_machine spec tests) (root_machine entries (context_of spec)) (λ a. a) R twin.1)
    twin.1.width twin.1.key_of e (root_at (roots_of spec) e) (tests_at (roots_of spec) tests e) (tree_cuts source tests well honest quiet e from up plain))
