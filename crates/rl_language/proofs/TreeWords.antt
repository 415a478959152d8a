-- The tree machine's verdicts tell the words of its entries, and those of its twins do too.
use Rattle.std.proofs.Common.{◌≡◌, ℕ, ◌+◌, ◌<◌, ◌^◌, Bool, true, false, cond, List, [], ◌∷◌, ◌↔◌, refl, sym, ◌∙◌, ap, subst, Some, None, length, nat_eq, zero, suc, ◌≤◌, arith}
use Rattle.std.specs.List.{AllZip}
use Rattle.rl_types.specs.declared.numbers.Letter.{Letter}
use Rattle.rl_types.specs.Alphabet.{width_of, key_of, has_rest, characters}
use Rattle.rl_automata.specs.Auto.{is_start, holds}
use Rattle.rl_automata.specs.Laws.{StepsByAsked}
use Rattle.rl_automata.proofs.AskedLaws.{steps_by_asked}
use Rattle.rl_run.specs.declared.calls.Answer.{Answer}
use Rattle.rl_run.specs.declared.calls.Answer.TheVariants.{Yes, No}
use Rattle.rl_run.specs.declared.calls.Call.{Call}
use Rattle.std.proofs.lemmas.Bool.Decides.{nat_tests}
use Rattle.rl_run.specs.declared.calls.Verdict.{Verdict}
use Rattle.rl_run.specs.declared.sessions.Settings.{Settings}
use Rattle.rl_run.specs.Machine.{Machine, fresh}
use Rattle.rl_run.specs.Play.{Reached, ended, stands, run}
use Rattle.rl_run.specs.Run.{Rest}
use Rattle.rl_run.specs.Chain.{run_on}
use Rattle.rl_run.specs.Twin.{CallR, renamed, renames}
use Rattle.rl_run.specs.Alike.{EndsAlike, ReachAlike, MakeSameRuns}
use Rattle.rl_run.specs.Verdict.{verdict_of}
use Rattle.rl_model.specs.Parts.{Part, Context, EntryState, is_entry, kind_in, machine, start_at}
use Rattle.rl_model.specs.Specification.{Specification, Root, Plain, Scanner, roots_of}
use Rattle.rl_model.specs.Trees.{Tests, IsHonest, root_part, root_at, AllTests, AreAllHonest, tests_at, ConfAt, TestsOf, AreTestsHonest, part_of, context_of, tree_machine}
use Rattle.rl_language.specs.Verdicts.{IsWithoutPriorities, IsWordOfEntry, HasNoStatements, letters_from, letters_of, IsTold, AreAnsweredBy, IsAnsweredBy, IsStoppedByHost, whole, VerdictsTellWords}
use Rattle.rl_language.proofs.Accepting.{accepts}
use Rattle.rl_language.proofs.Matching.{matches}
use Rattle.rl_language.proofs.QuietTurns.{Shows}
use Rattle.rl_language.proofs.QuietRuns.{run_tells}

-- ---- one entry

pub plain_part : (x : Root) (k : Tests x) → IsWithoutPriorities x → (root_part x k).is_scanner ≡ false
plain_part (Plain t) k e = refl
plain_part (Scanner ps) k e = absurd e

pub root_matches : (x : Root) (k : Tests x) → IsHonest x k → IsWithoutPriorities x → (w : List Letter) → (accepts (root_part x k).auto w (root_part x k).auto.start ≡ true) ↔ IsWordOfEntry x w
root_matches (Plain t) k h e w = matches t k e h w
root_matches (Scanner ps) k h e w = absurd e

pub root_asks : (x : Root) (k : Tests x) → IsWithoutPriorities x → StepsByAsked (root_part x k).auto
root_asks (Plain t) k e = steps_by_asked t k
root_asks (Scanner ps) k e = absurd e

pub tests_honest : (xs : List Root) (k : AllTests xs) → AreAllHonest xs k → (e : ℕ) → IsHonest (root_at xs e) (tests_at xs k e)
tests_honest [] k h e = tt
tests_honest (x ∷ xs) k h zero = tt
tests_honest (x ∷ xs) k h (suc zero) = h.0
tests_honest (x ∷ xs) k h (suc (suc e)) = tests_honest xs k.1 h.1 (suc e)

-- ---- all entries

module _ (C : ℕ → Type 0) (part : (e : ℕ) → Part (C e)) (count : ℕ) (context : Context) (e : ℕ) where
  abbrev pub m : Machine (EntryState C)
  m = machine C part count context

  abbrev pub place : C e → EntryState C
  place s = Some (e, s)

  pub entry_shows : (part e).is_scanner ≡ false → StepsByAsked (part e).auto → Shows (part e).auto m place
  entry_shows plain needs = record {
    kind = λ s. ap (λ b. cond b (cond (is_start (part e).auto s) 1 (cond ((part e).auto.final s) (cond ((part e).closed s) 4 3) 2)) 0) plain;
    asked = λ s key. refl;
    find = λ s key hold. refl;
    final = λ s. ap (λ b. cond b (nat_eq (kind_in (part e) s) 1) ((part e).auto.final s)) plain;
    is_failed = refl;
    needs = needs;
  }

  pub entry_starts : is_entry count e ≡ true → m.entry e ≡ place (part e).auto.start
  entry_starts h = ap (λ b. cond b (start_at C part e) None) h

pub is_within : (count e : ℕ) → 1 ≤ e → e ≤ count → is_entry count e ≡ true
is_within count e a b = grind (arith, nat_tests)

pub iff_then : {P Q R : Type 0} → (P ↔ Q) → (Q ↔ R) → P ↔ R
iff_then f g = ((λ p. g.0 (f.0 p)), (λ r. f.1 (g.1 r)))

pub told_then : {P Q : Type 0} (verdict : Verdict) (half : Bool) → IsTold verdict half P → (P ↔ Q) → IsTold verdict half Q
told_then verdict half told f = record {
  word = ((λ e. ((told.word.0 e).0, f.0 (told.word.0 e).1)), (λ h. told.word.1 (h.0, f.1 h.1)));
  rest = told.rest;
}

pub tree_tells : (spec : Specification) (tests : TestsOf spec) → AreTestsHonest spec tests → HasNoStatements spec → (e : ℕ) → 1 ≤ e → e ≤ length spec.entries
    → IsWithoutPriorities (root_at (roots_of spec) e) → VerdictsTellWords (tree_machine spec tests) e (root_at (roots_of spec) e)
tree_tells spec tests honest quiet e from up plain settings bytes truths answers r size low by reached not_held =
    let x = root_at (roots_of spec) e in
    let k = tests_at (roots_of spec) tests e in
    let w = letters_of (width_of spec.alphabet) (key_of spec.alphabet) truths bytes in
    told_then (verdict_of (tree_machine spec tests) r) (has_rest (width_of spec.alphabet) bytes)
    (run_tells (root_part x k).auto (tree_machine spec tests) (place (ConfAt spec) (part_of spec tests) (length spec.entries) (context_of spec) e)
    (entry_shows (ConfAt spec) (part_of spec tests) (length spec.entries) (context_of spec) e (plain_part x k plain) (root_asks x k plain))
    quiet settings truths low bytes ((tree_machine spec tests).entry e)
    (entry_starts (ConfAt spec) (part_of spec tests) (length spec.entries) (context_of spec) e (is_within (length spec.entries) e from up)) answers r size by reached not_held)
    (root_matches x k (tests_honest (roots_of spec) tests honest e) plain w)

-- ---- machines that make the same runs

module _ {S T : Type 0} (m : Machine S) (w : Machine T) (rename : ℕ → ℕ) (R : S → T → Type 0) where
  same_answer : (truths : ℕ → ℕ) (c d : Call) (x : Answer) → CallR m w rename c d → IsAnsweredBy truths d x → IsAnsweredBy truths c x
  same_answer truths c d x (e, name, same) g p =
      let h : IsAnsweredBy truths (renamed rename c) x = subst (λ y. IsAnsweredBy truths y x) e g in
      h p ∙ ap (λ kind. cond (holds (renames rename kind c.action.0) (truths c.at)) Yes No) p

  pub same_answers : (truths : ℕ → ℕ) (cs ds : List Call) (xs : List Answer) → AllZip (CallR m w rename) cs ds → AreAnsweredBy truths ds xs → AreAnsweredBy truths cs xs
  same_answers truths [] ds xs z g = tt
  same_answers truths (c ∷ cs) [] xs z g = absurd z
  same_answers truths (c ∷ cs) (d ∷ ds) [] z g = tt
  same_answers truths (c ∷ cs) (d ∷ ds) (x ∷ xs) z g = (same_answer truths c d x z.0 g.0, same_answers truths cs ds xs z.1 g.1)

  pub same_end : (x : Reached (Rest S)) (y : Reached (Rest T)) (r : Rest T) → ReachAlike m w rename R x y → y ≡ ended r → (a : Rest S) × (x ≡ ended a) × EndsAlike m w rename R a r
  same_end x y r h e = by x (subst (ReachAlike m w rename R x) e h)
    where
      by : (x : Reached (Rest S)) → ReachAlike m w rename R x (ended r) → (a : Rest S) × (x ≡ ended a) × EndsAlike m w rename R a r
      by (ended a) h = (a, refl, h)
      by (stands p) h = absurd h

  pub same_letters : ((character : ℕ) → w.key_of character ≡ m.key_of character) → (truths : ℕ → ℕ) (at : ℕ) (all : List ℕ) →
      letters_from w.key_of truths at all ≡ letters_from m.key_of truths at all
  same_letters k truths at [] = refl
  same_letters k truths at (character ∷ all) = λ i. record { key = (k character i).0; truths = truths at } ∷ same_letters k truths (at + 1) all i

  -- what the other's verdicts are said to tell, of characters of this width
  abbrev TellsAt : ℕ → ℕ → Root → Type 0
  TellsAt width e x =
      (settings : Settings) (bytes : List ℕ) (truths : ℕ → ℕ) (answers : List Answer) (r : Rest T) →
      length bytes < 2 ^ 63 → ((p : ℕ) → truths p < 2 ^ 8) →
      AreAnsweredBy truths (run (run_on false w settings (whole width bytes) (fresh (w.entry e))) answers).calls answers →
      (run (run_on false w settings (whole width bytes) (fresh (w.entry e))) answers).reached ≡ ended r → ¬ IsStoppedByHost r.outcome →
      IsTold (verdict_of w r) (has_rest width bytes) (IsWordOfEntry x (letters_of width w.key_of truths bytes))

  pub same_tell : MakeSameRuns m w rename R → w.width ≡ m.width → ((character : ℕ) → w.key_of character ≡ m.key_of character) →
      (e : ℕ) (x : Root) → VerdictsTellWords m e x → VerdictsTellWords w e x
  same_tell same width k e x tell = subst (λ n. TellsAt n e x) (sym width) tells
    where
      tells : TellsAt m.width e x
      tells settings bytes truths answers r size low by reached not_held =
          let input = whole m.width bytes in
          let alike = same false settings input e answers in
          let p = run (run_on false m settings input (fresh (m.entry e))) answers in
          let q = run (run_on false w settings input (fresh (w.entry e))) answers in
          let end = same_end p.reached q.reached r alike.1 reached in
          let told = tell settings bytes truths answers end.0 size low (same_answers truths p.calls q.calls answers alike.0 by)
          end.1 (λ h. not_held (subst IsStoppedByHost (sym end.2.outcome) h)) in
          subst (λ word. IsTold (verdict_of w r) (has_rest m.width bytes) (IsWordOfEntry x word)) (sym (same_letters k truths 0 (characters m.width bytes)))
          (subst (λ v. IsTold v (has_rest m.width bytes) (IsWordOfEntry x (letters_of m.width m.key_of truths bytes))) (sym end.2.verdict) told)
