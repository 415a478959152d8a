-- Twins make the same runs, and end in states to which one way leads.
use Rattle.std.proofs.Common.{◌≡◌, ℕ, Bool, List, [], ◌∷◌, Option, Some, None, refl}
use Rattle.std.specs.List.{AllZip}
use Rattle.rl_types.specs.declared.numbers.Key.{Key}
use Rattle.rl_run.specs.declared.calls.Answer.{Answer}
use Rattle.rl_run.specs.declared.sessions.Settings.{Settings}
use Rattle.rl_run.specs.Machine.{Go, Machine, fresh}
use Rattle.rl_run.specs.Twin.{IsTwin, GoR, After}
use Rattle.rl_run.specs.Alike.{EndsAlike, ReachAlike, MakeSameRuns}
use Rattle.rl_run.specs.Chain.{run_on}
use Rattle.rl_run.specs.Play.{Reached, ended, stands, run}
use Rattle.rl_run.specs.Run.{Input, Rest}
use Rattle.rl_run.proofs.Compose.{twin_after}
use Rattle.rl_run.proofs.SameRuns.{same_runs}
use Rattle.rl_arrays.specs.declared.arrays.Arrays.{Arrays}
use Rattle.rl_arrays.specs.TableMachine.{machine}
use Rattle.rl_fsm.specs.declared.root.EntryFsm.{EntryFsm}
use Rattle.rl_model.specs.declared.spec.Spec.{Spec}
use Rattle.rl_model.specs.Specification.{specification_of}
use Rattle.rl_model.specs.Trees.{TreeState, context_of, tree_machine}
use Rattle.rl_model.specs.WellFormed.{IsWellFormed}
use Rattle.rl_minimal.specs.Minimal.{Minimal}
use Rattle.rl_minimal.specs.Machine.{min_machine}
use Rattle.rl_minimal.specs.Sound.{IsMinimal}
use Rattle.rl_reach.specs.Canonical.{IsMachineOf}
use Rattle.rl_layout.specs.Shown.{number_of, Shows}
use Rattle.rl_make.specs.Twins.{StandFor, failed, entered, went, went_home, RunsAs}
use Rattle.rl_make.specs.Writes.{IsBuiltOf}
use Rattle.rl_make.proofs.FitLaws.{Named, Counted, tree_twin}

zip_map : {A B : Type 0} (P Q : A → B → Type 0) → ((a : A) (b : B) → P a b → Q a b) → (xs : List A) (ys : List B) → AllZip P xs ys → AllZip Q xs ys
zip_map P Q f [] [] h = tt
zip_map P Q f (x ∷ xs) (y ∷ ys) h = (f x y h.0, zip_map P Q f xs ys h.1)
zip_map P Q f [] (y ∷ ys) h = absurd h
zip_map P Q f (x ∷ xs) [] h = absurd h

-- runs that end in states of one relation end in states of a wider one
module _ {S T : Type 0} (m : Machine S) (w : Machine T) (ρ : ℕ → ℕ) (R Q : S → T → Type 0) (wider : (q : S) (p : T) → R q p → Q q p) where
  ends : (a : Rest S) (b : Rest T) → EndsAlike m w ρ R a b → EndsAlike m w ρ Q a b
  ends a b h = record {
    outcome = h.outcome;
    state = wider a.session.state b.session.state h.state;
    stack = zip_map R Q wider a.session.stack b.session.stack h.stack;
    next = h.next;
    ts = h.ts;
    te = h.te;
    kept = h.kept;
    furthest = h.furthest;
    backs = h.backs;
    verdict = h.verdict;
  }

  reach : (x : Reached (Rest S)) (y : Reached (Rest T)) → ReachAlike m w ρ R x y → ReachAlike m w ρ Q x y
  reach (ended a) (ended b) h = ends a b h
  reach (stands p) (stands q) h = tt
  reach (ended a) (stands q) h = absurd h
  reach (stands p) (ended b) h = absurd h

  runs_wider : MakeSameRuns m w ρ R → MakeSameRuns m w ρ Q
  runs_wider same b settings input e answers =
      let h = same b settings input e answers in
      (h.0, reach (run (run_on b m settings input (fresh (m.entry e))) answers).reached (run (run_on b w settings input (fresh (w.entry e))) answers).reached h.1)

module _ {S T : Type 0} (m : Machine S) (w : Machine T) (ρ : ℕ → ℕ) (R : S → T → Type 0) (twin : IsTwin m w ρ R) where
  abbrev Both : S → T → Type 0
  Both q p = R q p × StandFor m w q p

  step : (q : S) (p : T) (key : Key) (hold : ℕ) → Both q p → (o : Option (Go S)) (u : Option (Go T)) → m.find q key hold ≡ o → w.find p key hold ≡ u
      → GoR m w ρ R o u → GoR m w ρ Both o u
  step q p key hold b None None e f x = tt
  step q p key hold b (Some g) (Some h) e f x = ((x.0, went b.1 key hold g h e f), x.1)
  step q p key hold b None (Some h) e f x = absurd x
  step q p key hold b (Some g) None e f x = absurd x

  both : IsTwin m w ρ Both
  both = record {
    width = twin.width;
    key_of = twin.key_of;
    asked = λ q p key b. twin.asked q p key b.0;
    find = λ q p key hold b. step q p key hold b (m.find q key hold) (w.find p key hold) refl refl (twin.find q p key hold b.0);
    from = λ q p b. twin.from q p b.0;
    to = λ q p b. twin.to q p b.0;
    error = λ q p b. twin.error q p b.0;
    eof = λ q p b. twin.eof q p b.0;
    token = λ q p b. twin.token q p b.0;
    kind = λ q p b. twin.kind q p b.0;
    final = λ q p b. twin.final q p b.0;
    home = λ q p b. (twin.home q p b.0, went_home b.1);
    failed = (twin.failed, failed);
    is_failed = λ q p b. twin.is_failed q p b.0;
    condition_name = twin.condition_name;
    entry_name = twin.entry_name;
    entry = λ e. (twin.entry e, entered e);
  }

  twins_run : MakeSameRuns m w ρ (StandFor m w)
  twins_run = runs_wider m w ρ Both (StandFor m w) (λ q p b. b.1) (same_runs m w ρ Both both)

pub built_runs : (spec : Spec) (entries : List EntryFsm) (m : Minimal) (a : Arrays) → IsWellFormed spec → IsBuiltOf spec entries → IsMachineOf entries m → IsMinimal m → Shows spec m a → RunsAs spec a
built_runs spec entries m a well built made sound shows tests honest =
    let plain = specification_of spec in
    let tree : Machine (TreeState plain) = tree_machine plain tests in
    let small : Machine ℕ = min_machine m (context_of plain) in
    let twin = built.twin tests honest in
    let R = After (Named spec well entries m made sound tests twin) (Counted spec well entries m made sound tests twin) in (
      number_of m,
      twins_run tree (machine a) (number_of m) (After R (λ q p. p ≡ q))
          (twin_after tree small (machine a) (λ x. x) (number_of m) R (λ q p. p ≡ q) (tree_twin spec well entries m made sound tests twin) shows),
    )
