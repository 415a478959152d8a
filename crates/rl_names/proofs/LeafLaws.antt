-- The keys and entries of a statement, by what is known of its machine.
use Rattle.std.proofs.Common.{◌≡◌, ℕ, ◌+◌, ◌<◌, Bool, List, length, drop, get_or, Result, sym, ap, ◌∙◌, subst}
use Rattle.rl_types.specs.declared.alphabet.Alphabet.{Alphabet}
use Rattle.rl_grammar.specs.declared.read_fault.ReadFault.{ReadFault}
use Rattle.rl_grammar.specs.declared.step.Step.{Step}
use Rattle.rl_names.specs.Answers.{first_of, Told, Tells}
use Rattle.rl_names.specs.Checks.{statement_leaf_fault, step_leaf_fault, leaves_fault}
use Rattle.rl_names.specs.Entries.{is_entry}
use Rattle.rl_names.specs.Frames.{alphabet_of}
use Rattle.rl_names.proofs.GroupLaws.{at_head}
use Rattle.rl_names.proofs.NamesChecked.{told_else, told_along}

pub told_of_step : (steps : List Step) (s : Step) (machine : List ℕ) (alphabet : Alphabet) (has : List ℕ → Bool) (answer : Result (Unit {0}) ReadFault) → machine ≡ s.machine
    → alphabet ≡ alphabet_of machine steps → ((n : List ℕ) → has n ≡ is_entry machine steps n) → Tells (statement_leaf_fault alphabet has s.statement) answer → Tells (step_leaf_fault steps s) answer
told_of_step steps s machine alphabet has answer named right known told =
    let here : statement_leaf_fault alphabet has s.statement ≡ step_leaf_fault steps s =
    (λ j. statement_leaf_fault (right j) (λ n. known n j) s.statement) ∙ ap (λ m. statement_leaf_fault (alphabet_of m steps) (is_entry m steps) s.statement) named in
    subst (λ z. Tells z answer) here told

-- a step that has a fault
pub leaves_stop : (steps : List Step) (i : ℕ) (s : Step) (e : ReadFault) → i < length steps → s ≡ get_or steps i s → first_of (step_leaf_fault steps) (drop i steps) ≡ leaves_fault steps
    → Told (step_leaf_fault steps s) e → Told (leaves_fault steps) e
leaves_stop steps i s e less item left t =
    told_along e _ _ (sym (ap (first_of (step_leaf_fault steps)) (at_head steps i s less item)) ∙ left)
    (told_else e (step_leaf_fault steps s) (first_of (step_leaf_fault steps) (drop (i + 1) steps)) t)
