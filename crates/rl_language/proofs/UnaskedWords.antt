-- Without conditions each run that ends tells its input's word.
use Rattle.std.proofs.Common.{false, ◌≡◌, ℕ, ◌≤◌, ◌<◌, ◌^◌, ap, subst, length, [], arith}
use Rattle.rl_types.specs.declared.numbers.Key.{Key}
use Rattle.rl_run.specs.Machine.{Machine, fresh}
use Rattle.rl_run.specs.Chain.{run_on}
use Rattle.rl_model.specs.declared.spec.Spec.{Spec}
use Rattle.rl_model.specs.Specification.{specification_of, roots_of, Root}
use Rattle.rl_model.specs.WellFormed.{IsWellFormed}
use Rattle.rl_model.specs.Trees.{TestsOf, AreTestsHonest, root_at, tree_machine}
use Rattle.rl_model.proofs.WellFormedLaws.{tree_keeps}
use Rattle.rl_language.specs.Verdicts.{IsWithoutPriorities, HasNoStatements, VerdictsTellWords, VerdictsTellPlainWords, whole}
use Rattle.rl_language.proofs.TreeWords.{tree_tells}
use Rattle.rl_language.proofs.Unasked.{never_answered, run_never}

-- what holds for all truths holds where nothing is asked
pub plainly_tells : {S : Type 0} (m : Machine S) → ((q : S) (key : Key) → m.asked q key ≡ 0) → (e : ℕ) (x : Root) → VerdictsTellWords m e x → VerdictsTellPlainWords m e x
plainly_tells m none e x tell settings bytes answers r size reached not_held =
    tell settings bytes (λ p. 0) answers r size (λ p. omega arith)
    (never_answered (λ p. 0) (run_on false m settings (whole m.width bytes) (fresh (m.entry e))) answers (run_never m none settings false (whole m.width bytes) (fresh (m.entry e)))) reached not_held

pub spec_tells : (spec : Spec) (tests : TestsOf (specification_of spec)) → IsWellFormed spec → AreTestsHonest (specification_of spec) tests → HasNoStatements (specification_of spec) → (specification_of spec).conditions ≡ [] → (e : ℕ) → 1 ≤ e → e ≤ length (specification_of spec).entries
    → IsWithoutPriorities (root_at (roots_of (specification_of spec)) e) → VerdictsTellPlainWords (tree_machine (specification_of spec) tests) e (root_at (roots_of (specification_of spec)) e)
spec_tells spec tests well honest quiet unconditioned e from up plain =
    let said = specification_of spec in
    let keeps = tree_keeps spec well tests in
    plainly_tells (tree_machine said tests) (λ q key. none ((tree_machine said tests).asked q key) (length said.conditions) (keeps.asked q key) (ap length unconditioned)) e (root_at (roots_of said) e)
    (tree_tells said tests honest quiet e from up plain)
  where
    none : (n k : ℕ) → n < 2 ^ k → k ≡ 0 → n ≡ 0
    none n k h e = by (subst (λ j. n < 2 ^ j) e h)
      where
        by : n < 1 → n ≡ 0
        by h = omega arith
