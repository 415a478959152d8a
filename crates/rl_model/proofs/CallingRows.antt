-- Rows of a source whose entry for numbers has a difference, whatever honest tests it has.
use Rattle.std.proofs.Common.{◌≡◌, ℕ, Bool, true, false, List, [], ◌∷◌, refl, subst, codes}
use Rattle.rl_automata.specs.Auto.{Auto, every_truths, minus_auto}
use Rattle.rl_automata.specs.Follows.{Reach, begun}
use Rattle.rl_automata.specs.Nodes as N
use Rattle.rl_automata.specs.Nodes.{Conf}
use Rattle.rl_automata.specs.Marks.{auto}
use Rattle.rl_automata.specs.Runs.{letters}
use Rattle.rl_automata.proofs.MarksLaws.{auto_order}
use Rattle.rl_types.specs.Alphabet.{characters}
use Rattle.rl_run.specs.Fine.{weight, tail_weight}
use Rattle.rl_run.specs.Run.{turns, at_letter, after, at_end as at_input_end, ending, at_kept, last_list, last_delivery}
use Rattle.rl_run.specs.Turn.{if_goes, deliver, marked, stepped, failed, missed, chosen, if_heard, sought, finished, body, turn}
use Rattle.rl_run.specs.Chain.{run_on}
use Rattle.rl_model.specs.Trees.{TestsOf, AreTestsHonest, tree_machine}
use Rattle.rl_model.specs.Seen.{seen}
use Rattle.rl_model.specs.Sources.{any, does, at_end, with_stack, ends_final}
use Rattle.rl_model.specs.ControlRows.{enter, done, digit, numbers, calls_and_returns, ReturnsToCaller, ReturnsAtEnd}
use Rattle.rl_model.proofs.Values.{same_values, led, led_reach, stuck_ends, is_false}

module _ (tests : TestsOf numbers) (honest : AreTestsHonest numbers tests) where
  abbrev raw : Auto (Conf (N.Minus any digit))
  raw = minus_auto (auto any tests.0.1.0.0) (auto digit tests.0.1.0.1)

  abbrev live : Conf (N.Minus any digit) → Bool
  live = tests.0.1.0.2

  abbrev behind : List ℕ → Conf (N.Minus any digit)
  behind text = led raw raw.start (letters text)

  reached : (text : List ℕ) → Reach raw (behind text)
  reached text = led_reach raw raw.start (letters text) begun

  -- a letter is one that is no digit, and a digit is none
  ends_x : live (behind (codes "x")) ≡ true
  ends_x = (honest.0.1.0.2 (behind (codes "x")) (reached (codes "x"))).1 ([], refl)

  dead_digit : live (behind (codes "2")) ≡ false
  dead_digit = is_false (live (behind (codes "2"))) (λ e.
      let p = (honest.0.1.0.2 (behind (codes "2")) (reached (codes "2"))).0 e in
      stuck_ends raw (behind (codes "2")) (λ l. refl) refl p.0 p.1)

  abbrev with_test : (Conf (N.Minus any digit) → Bool) → TestsOf numbers
  with_test test = ((tests.0.0, ((tests.0.1.0.0, tests.0.1.0.1, test), tests.0.1.1)), tests.1)

  abbrev values : List (Conf (N.Minus any digit) × Bool)
  values = (behind (codes "x"), true) ∷ (behind (codes "2"), false) ∷ []

  pub returns : seen (tree_machine numbers tests) (with_stack 64) 2 (codes "n12x") calls_and_returns
      ≡ record { calls = does enter 0 110 ∷ does done 3 120 ∷ []; end = ends_final 4 }
  unfolding characters every_truths run_on weight tail_weight turns at_letter after at_input_end ending at_kept last_list last_delivery if_goes deliver marked stepped failed missed chosen if_heard sought finished body turn
  returns =
      subst (λ test. seen (tree_machine numbers (with_test test)) (with_stack 64) 2 (codes "n12x") calls_and_returns
      ≡ record { calls = does enter 0 110 ∷ does done 3 120 ∷ []; end = ends_final 4 })
      (same_values raw.order live (auto_order (N.Minus any digit) tests.0.1.0) values (ends_x, (dead_digit, tt))) refl

  pub returns_late : seen (tree_machine numbers tests) (with_stack 64) 2 (codes "n12") calls_and_returns
      ≡ record { calls = does enter 0 110 ∷ at_end done 3 ∷ []; end = ends_final 3 }
  unfolding characters every_truths run_on weight tail_weight turns at_letter after at_input_end ending at_kept last_list last_delivery if_goes deliver marked stepped failed missed chosen if_heard sought finished body turn
  returns_late =
      subst (λ test. seen (tree_machine numbers (with_test test)) (with_stack 64) 2 (codes "n12") calls_and_returns
      ≡ record { calls = does enter 0 110 ∷ at_end done 3 ∷ []; end = ends_final 3 })
      (same_values raw.order live (auto_order (N.Minus any digit) tests.0.1.0) values (ends_x, (dead_digit, tt))) refl

pub returns_to_caller : ReturnsToCaller
returns_to_caller = λ tests honest. returns tests honest

pub returns_at_end : ReturnsAtEnd
returns_at_end = λ tests honest. returns_late tests honest
