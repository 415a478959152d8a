-- Rows of scanners, whatever honest tests they have.
use Rattle.std.proofs.Common.{◌≡◌, ℕ, pos, Bool, true, false, true≢false, List, [], ◌∷◌, refl, ap, subst, codes, is_some, Some, None}
use Rattle.rl_types.specs.declared.numbers.Letter.{Letter}
use Rattle.rl_automata.specs.Auto.{Auto, every_truths}
use Rattle.rl_automata.specs.Follows.{Reach, begun}
use Rattle.rl_automata.specs.Runs.{letters}
use Rattle.rl_automata.specs.Scans.{Pattern, Confs, scan_auto}
use Rattle.rl_automata.proofs.MarksLaws.{scan_order}
use Rattle.rl_run.specs.declared.calls.Stop.TheVariants.{ErrorState}
use Rattle.rl_types.specs.Alphabet.{characters}
use Rattle.rl_run.specs.Fine.{weight, tail_weight}
use Rattle.rl_run.specs.Run.{turns, at_letter, after, at_end, ending, at_kept, last_list, last_delivery}
use Rattle.rl_run.specs.Turn.{if_goes, deliver, marked, stepped, failed, missed, chosen, if_heard, sought, finished, body, turn}
use Rattle.rl_run.specs.Chain.{run_on}
use Rattle.rl_automata.specs.Nodes as N
use Rattle.rl_model.specs.Trees.{TestsOf, AreTestsHonest, tree_machine}
use Rattle.rl_model.specs.Seen.{seen}
use Rattle.rl_model.specs.Sources.{one, two, yes, token, last_token, with_stack, ends_final, stops}
use Rattle.rl_model.specs.ScannerRows.{a, kw, id, lower, lookahead, single, words, BacksUp, TokenAtOnce, KeywordThenWord}
use Rattle.rl_model.proofs.Values.{same_values, led, led_reach, is_false}

abbrev letter : ℕ → Letter
letter k = record { key = pos k; truths = 0 }

-- ---- the longest match

abbrev shortly : List Pattern
shortly = record { tree = one 97; token = Some 1 } ∷ record { tree = N.Cat (two 97 97) (one 98); token = Some 2 } ∷ []

module _ (tests : TestsOf lookahead) (honest : AreTestsHonest lookahead tests) where
  abbrev short_scan : Auto (Confs shortly)
  short_scan = scan_auto shortly tests.0.0

  abbrev behind_a : Confs shortly
  behind_a = led short_scan short_scan.start (letters (codes "a"))

  -- another a may follow
  open_a : tests.0.1 behind_a ≡ false
  open_a = is_false (tests.0.1 behind_a) (λ e.
      true≢false (ap is_some ((honest.0.1 behind_a (led_reach short_scan short_scan.start (letters (codes "a")) begun)).0 e (letter 97))))

  pub backs : seen (tree_machine lookahead tests) (with_stack 64) 1 (codes "aaac") yes
      ≡ record { calls = token a 2 97 0 1 ∷ token a 3 99 1 2 ∷ token a 3 99 2 3 ∷ []; end = stops ErrorState 3 }
  unfolding characters every_truths run_on weight tail_weight turns at_letter after at_end ending at_kept last_list last_delivery if_goes deliver marked stepped failed missed chosen if_heard sought finished body turn
  backs =
      let values : List (Confs shortly × Bool) = (behind_a, false) ∷ [] in
      subst (λ closed. seen (tree_machine lookahead ((tests.0.0, closed), tt)) (with_stack 64) 1 (codes "aaac") yes
      ≡ record { calls = token a 2 97 0 1 ∷ token a 3 99 1 2 ∷ token a 3 99 2 3 ∷ []; end = stops ErrorState 3 })
      (same_values short_scan.order tests.0.1 (scan_order shortly tests.0.0) values (open_a, tt)) refl

pub backs_up : BacksUp
backs_up = λ tests honest. backs tests honest

-- ---- no longer match

abbrev alone : List Pattern
alone = record { tree = one 97; token = Some 1 } ∷ []

module _ (tests : TestsOf single) (honest : AreTestsHonest single tests) where
  abbrev single_scan : Auto (Confs alone)
  single_scan = scan_auto alone tests.0.0

  abbrev matched : Confs alone
  matched = led single_scan single_scan.start (letters (codes "a"))

  closed_a : tests.0.1 matched ≡ true
  closed_a = (honest.0.1 matched (led_reach single_scan single_scan.start (letters (codes "a")) begun)).1 (λ l. refl)

  pub at_once : seen (tree_machine single tests) (with_stack 64) 1 (codes "aa") yes ≡ record { calls = token a 0 97 0 1 ∷ token a 1 97 1 2 ∷ []; end = ends_final 2 }
  unfolding characters every_truths run_on weight tail_weight turns at_letter after at_end ending at_kept last_list last_delivery if_goes deliver marked stepped failed missed chosen if_heard sought finished body turn
  at_once =
      let values : List (Confs alone × Bool) = (matched, true) ∷ [] in
      subst (λ closed. seen (tree_machine single ((tests.0.0, closed), tt)) (with_stack 64) 1 (codes "aa") yes
      ≡ record { calls = token a 0 97 0 1 ∷ token a 1 97 1 2 ∷ []; end = ends_final 2 })
      (same_values single_scan.order tests.0.1 (scan_order alone tests.0.0) values (closed_a, tt)) refl

pub token_at_once : TokenAtOnce
token_at_once = λ tests honest. at_once tests honest

-- ---- of equal matches the first

abbrev listed : List Pattern
listed = record { tree = two 105 102; token = Some 1 } ∷ record { tree = N.Cat lower (N.Star lower 1); token = Some 2 } ∷ record { tree = one 32; token = None } ∷ []

module _ (tests : TestsOf words) (honest : AreTestsHonest words tests) where
  abbrev scan : Auto (Confs listed)
  scan = scan_auto listed tests.0.0

  abbrev behind : List ℕ → Confs listed
  behind text = led scan scan.start (letters text)

  reached : (text : List ℕ) → Reach scan (behind text)
  reached text = led_reach scan scan.start (letters text) begun

  -- another letter may follow each of them
  open_i : tests.0.1 (behind (codes "i")) ≡ false
  open_i = is_false _ (λ e. true≢false (ap is_some ((honest.0.1 (behind (codes "i")) (reached (codes "i"))).0 e (letter 97))))

  open_if : tests.0.1 (behind (codes "if")) ≡ false
  open_if = is_false _ (λ e. true≢false (ap is_some ((honest.0.1 (behind (codes "if")) (reached (codes "if"))).0 e (letter 97))))

  open_ifx : tests.0.1 (behind (codes "ifx")) ≡ false
  open_ifx = is_false _ (λ e. true≢false (ap is_some ((honest.0.1 (behind (codes "ifx")) (reached (codes "ifx"))).0 e (letter 97))))

  -- and none a blank
  closed_blank : tests.0.1 (behind (codes " ")) ≡ true
  closed_blank = (honest.0.1 (behind (codes " ")) (reached (codes " "))).1 (λ l. refl)

  pub tokens : seen (tree_machine words tests) (with_stack 64) 1 (codes "if ifx") yes
      ≡ record { calls = token kw 2 32 0 2 ∷ last_token id 6 3 6 ∷ []; end = ends_final 6 }
  unfolding characters every_truths run_on weight tail_weight turns at_letter after at_end ending at_kept last_list last_delivery if_goes deliver marked stepped failed missed chosen if_heard sought finished body turn
  tokens =
      let values : List (Confs listed × Bool) =
      (behind (codes "i"), false) ∷ (behind (codes "if"), false) ∷ (behind (codes "ifx"), false) ∷ (behind (codes " "), true) ∷ [] in
      subst (λ closed. seen (tree_machine words ((tests.0.0, closed), tt)) (with_stack 64) 1 (codes "if ifx") yes
      ≡ record { calls = token kw 2 32 0 2 ∷ last_token id 6 3 6 ∷ []; end = ends_final 6 })
      (same_values scan.order tests.0.1 (scan_order listed tests.0.0) values (open_i, (open_if, (open_ifx, (closed_blank, tt))))) refl

pub keyword_then_word : KeywordThenWord
keyword_then_word = λ tests honest. tokens tests honest
