-- Rows of sources whose tests matter: the tests' values at the states that are visited follow from honesty, and with them written out the
-- rows compute.
use Rattle.std.proofs.Common.{◌≡◌, ℕ, Bool, true, false, true≢false, pos, List, [], ◌∷◌, refl, ◌∙◌, ap, subst, is_some, Some, None, Result, Ok, Err, codes}
use Rattle.std.specs.Fmt.{digits}
use Rattle.rl_types.specs.declared.numbers.Letter.{Letter}
use Rattle.rl_automata.specs.Auto.{Auto, every_truths, minus_auto}
use Rattle.rl_automata.specs.Follows.{Reach, begun}
use Rattle.rl_automata.specs.Nodes as N
use Rattle.rl_automata.specs.Nodes.{Node, Conf}
use Rattle.rl_automata.specs.Marks.{auto}
use Rattle.rl_automata.specs.Scans.{Pattern, Confs, scan_auto}
use Rattle.rl_automata.specs.Runs.{letters}
use Rattle.rl_automata.specs.Rows.{nothing_ends}
use Rattle.rl_automata.proofs.DeadRow.{apart_is_dead}
use Rattle.rl_automata.proofs.MarksLaws.{auto_order}
use Rattle.rl_automata.proofs.MarksLaws.{scan_order}
use Rattle.rl_run.specs.declared.sessions.Settings.{Settings}
use Rattle.rl_types.specs.Alphabet.{characters}
use Rattle.rl_run.specs.Fine.{weight, tail_weight}
use Rattle.rl_run.specs.Run.{turns, at_letter, after, at_end, ending, at_kept, last_list, last_delivery}
use Rattle.rl_run.specs.Turn.{if_goes, deliver, marked, stepped, failed, missed, chosen, if_heard, sought, finished, body, turn}
use Rattle.rl_run.specs.Chain.{run_on}
use Rattle.rl_replay.specs.declared.script.Line.{Line}
use Rattle.rl_replay.specs.declared.script.ScriptFault.{ScriptFault}
use Rattle.rl_replay.specs.Host.{statements_from, statements_of}
use Rattle.rl_replay.specs.Sessions.{script_of}
use Rattle.rl_replay.proofs.Twins.{written_same}
use Rattle.rl_model.specs.Specification.{Specification}
use Rattle.rl_model.specs.Trees.{TestsOf, AreTestsHonest, tree_machine}
use Rattle.rl_model.specs.Sources.{one, any, two, act, with_stack}
use Rattle.rl_model.specs.OperatorRows.{both}
use Rattle.rl_model.specs.ControlRows.{digit, numbers}
use Rattle.rl_model.specs.ScannerRows.{lower, lookahead, words}
use Rattle.rl_model.proofs.HonestTwins.{honest_twins}
use Rattle.rl_model.proofs.Values.{with_values, same_values, led, led_reach, accepts_ends, stuck_ends, is_false}
use Rattle.rl_rows.specs.Replays.{replay, on, names_of, lines_written}
use Rattle.rl_rows.specs.TestedRows as rows
use Rattle.rl_rows.specs.TestedRows.{without, DeadPathsGo, SecondOperandActs, SecondOperandIsOut, ReturnsToCaller, ReturnsAtEnd, BacksUp, PiecesAddUp, SessionsTakeTurns, KeywordThenWord, TokenIsTooLong}

abbrev letter : ℕ → Letter
letter k = record { key = pos k; truths = 0 }

-- ---- an intersection

-- which honest tests are taken does not matter
replays_agree : (source : Specification) (k l : TestsOf source) → AreTestsHonest source k → AreTestsHonest source l → (settings : Settings) (script : List ℕ) → replay source l settings script ≡ replay source k settings script
replays_agree source k l h g settings script = each (script_of (names_of source) script)
  where
    each : (lines : Result (List Line) ScriptFault) → lines_written (names_of source) (tree_machine source l) settings lines ≡ lines_written (names_of source) (tree_machine source k) settings lines
    each (Ok lines) = written_same (tree_machine source k) (tree_machine source l) (λ a. a) _ (honest_twins source k l h g) (names_of source) settings lines
    each (Err fault) = refl

nothing_lives : replay both (nothing_ends, tt) (with_stack 64) (on (codes "a")) ≡ codes "s stop error 0\ns end error 0\n"
unfolding characters statements_from statements_of digits every_truths run_on weight tail_weight turns at_letter after at_end ending at_kept last_list last_delivery if_goes deliver marked stepped failed missed chosen if_heard sought finished body turn
nothing_lives = refl

pub dead_paths_go : DeadPathsGo
dead_paths_go = λ tests honest.
    replays_agree both (nothing_ends, tt) tests (((tt, tt), (tt, tt), apart_is_dead), tt) honest (with_stack 64) (on (codes "a")) ∙ nothing_lives

-- ---- a difference

abbrev left : Node
left = N.Union (two 97 98) (two 97 99)

abbrev right : Node
right = N.All (two 97 98) (act 1 ([], 1))

module _ (tests : TestsOf without) (honest : AreTestsHonest without tests) where
  abbrev difference : Auto (Conf (N.Minus left right))
  difference = minus_auto (auto left tests.0.0) (auto right tests.0.1)

  abbrev at : List ℕ → Conf (N.Minus left right)
  at text = led difference difference.start (letters text)

  at_reached : (text : List ℕ) → Reach difference (at text)
  at_reached text = led_reach difference difference.start (letters text) begun

  ends_a : tests.0.2 (at (codes "a")) ≡ true
  ends_a = (honest.0.2 (at (codes "a")) (at_reached (codes "a"))).1 (letters (codes "c"), accepts_ends difference (at (codes "a")) (letters (codes "c")) refl)

  ends_ac : tests.0.2 (at (codes "ac")) ≡ true
  ends_ac = (honest.0.2 (at (codes "ac")) (at_reached (codes "ac"))).1 ([], refl)

  dead_ab : tests.0.2 (at (codes "ab")) ≡ false
  dead_ab = is_false (tests.0.2 (at (codes "ab"))) (λ e.
      let p = (honest.0.2 (at (codes "ab")) (at_reached (codes "ab"))).0 e in
      stuck_ends difference (at (codes "ab")) (λ l. refl) refl p.0 p.1)

  abbrev without_values : List (Conf (N.Minus left right) × Bool)
  without_values = (at (codes "a"), true) ∷ (at (codes "ac"), true) ∷ (at (codes "ab"), false) ∷ []

  abbrev without_tests : TestsOf without
  without_tests = ((tests.0.0, tests.0.1, with_values difference.order tests.0.2 without_values), tt)

  by_difference : (settings : Settings) (script lines : List ℕ) → replay without without_tests settings script ≡ lines → replay without tests settings script ≡ lines
  by_difference settings script lines e = subst (λ live. replay without ((tests.0.0, tests.0.1, live), tt) settings script ≡ lines)
      (same_values difference.order tests.0.2 (auto_order (N.Minus left right) tests.0) without_values (ends_a, (ends_ac, (dead_ab, tt)))) e

-- ---- an entry that is called

module _ (tests : TestsOf numbers) (honest : AreTestsHonest numbers tests) where
  abbrev other : Auto (Conf (N.Minus any digit))
  other = minus_auto (auto any tests.0.1.0.0) (auto digit tests.0.1.0.1)

  abbrev behind : List ℕ → Conf (N.Minus any digit)
  behind text = led other other.start (letters text)

  behind_reached : (text : List ℕ) → Reach other (behind text)
  behind_reached text = led_reach other other.start (letters text) begun

  ends_x : tests.0.1.0.2 (behind (codes "x")) ≡ true
  ends_x = (honest.0.1.0.2 (behind (codes "x")) (behind_reached (codes "x"))).1 ([], refl)

  dead_digit : tests.0.1.0.2 (behind (codes "2")) ≡ false
  dead_digit = is_false (tests.0.1.0.2 (behind (codes "2"))) (λ e.
      let p = (honest.0.1.0.2 (behind (codes "2")) (behind_reached (codes "2"))).0 e in
      stuck_ends other (behind (codes "2")) (λ l. refl) refl p.0 p.1)

  abbrev number_values : List (Conf (N.Minus any digit) × Bool)
  number_values = (behind (codes "x"), true) ∷ (behind (codes "2"), false) ∷ []

  abbrev number_tests : (Conf (N.Minus any digit) → Bool) → TestsOf numbers
  number_tests live = ((tests.0.0, ((tests.0.1.0.0, tests.0.1.0.1, live), tests.0.1.1)), tests.1)

  by_other : (settings : Settings) (script lines : List ℕ) → replay numbers (number_tests (with_values other.order tests.0.1.0.2 number_values)) settings script ≡ lines → replay numbers tests settings script ≡ lines
  by_other settings script lines e = subst (λ live. replay numbers (number_tests live) settings script ≡ lines)
      (same_values other.order tests.0.1.0.2 (auto_order (N.Minus any digit) tests.0.1.0) number_values (ends_x, (dead_digit, tt))) e

-- ---- scanners

abbrev short : List Pattern
short = record { tree = one 97; token = Some 1 } ∷ record { tree = N.Cat (two 97 97) (one 98); token = Some 2 } ∷ []

module _ (tests : TestsOf lookahead) (honest : AreTestsHonest lookahead tests) where
  abbrev short_scan : Auto (Confs short)
  short_scan = scan_auto short tests.0.0

  abbrev behind_a : Confs short
  behind_a = led short_scan short_scan.start (letters (codes "a"))

  open_a : tests.0.1 behind_a ≡ false
  open_a = is_false (tests.0.1 behind_a) (λ e.
      true≢false (ap is_some ((honest.0.1 behind_a (led_reach short_scan short_scan.start (letters (codes "a")) begun)).0 e (letter 97))))

  abbrev short_values : List (Confs short × Bool)
  short_values = (behind_a, false) ∷ []

  by_short : (settings : Settings) (script lines : List ℕ) → replay lookahead ((tests.0.0, with_values short_scan.order tests.0.1 short_values), tt) settings script ≡ lines → replay lookahead tests settings script ≡ lines
  by_short settings script lines e = subst (λ closed. replay lookahead ((tests.0.0, closed), tt) settings script ≡ lines)
      (same_values short_scan.order tests.0.1 (scan_order short tests.0.0) short_values (open_a, tt)) e

abbrev listed : List Pattern
listed = record { tree = two 105 102; token = Some 1 } ∷ record { tree = N.Cat lower (N.Star lower 1); token = Some 2 } ∷ record { tree = one 32; token = None } ∷ []

module _ (tests : TestsOf words) (honest : AreTestsHonest words tests) where
  abbrev scan : Auto (Confs listed)
  scan = scan_auto listed tests.0.0

  abbrev past : List ℕ → Confs listed
  past text = led scan scan.start (letters text)

  past_reached : (text : List ℕ) → Reach scan (past text)
  past_reached text = led_reach scan scan.start (letters text) begun

  -- another letter may follow a word
  open_i : tests.0.1 (past (codes "i")) ≡ false
  open_i = is_false _ (λ e. true≢false (ap is_some ((honest.0.1 (past (codes "i")) (past_reached (codes "i"))).0 e (letter 97))))

  open_if : tests.0.1 (past (codes "if")) ≡ false
  open_if = is_false _ (λ e. true≢false (ap is_some ((honest.0.1 (past (codes "if")) (past_reached (codes "if"))).0 e (letter 97))))

  open_ifx : tests.0.1 (past (codes "ifx")) ≡ false
  open_ifx = is_false _ (λ e. true≢false (ap is_some ((honest.0.1 (past (codes "ifx")) (past_reached (codes "ifx"))).0 e (letter 97))))

  -- and none a blank
  closed_blank : tests.0.1 (past (codes " ")) ≡ true
  closed_blank = (honest.0.1 (past (codes " ")) (past_reached (codes " "))).1 (λ l. refl)

  abbrev word_values : List (Confs listed × Bool)
  word_values = (past (codes "i"), false) ∷ (past (codes "if"), false) ∷ (past (codes "ifx"), false) ∷ (past (codes " "), true) ∷ []

  by_words : (settings : Settings) (script lines : List ℕ) → replay words ((tests.0.0, with_values scan.order tests.0.1 word_values), tt) settings script ≡ lines → replay words tests settings script ≡ lines
  by_words settings script lines e = subst (λ closed. replay words ((tests.0.0, closed), tt) settings script ≡ lines)
      (same_values scan.order tests.0.1 (scan_order listed tests.0.0) word_values (open_i, (open_if, (open_ifx, (closed_blank, tt))))) e

abbrev lettered : List Pattern
lettered = record { tree = N.Cat lower (N.Star lower 1); token = Some 1 } ∷ []

module _ (tests : TestsOf rows.letters) (honest : AreTestsHonest rows.letters tests) where
  abbrev letter_scan : Auto (Confs lettered)
  letter_scan = scan_auto lettered tests.0.0

  abbrev within : List ℕ → Confs lettered
  within text = led letter_scan letter_scan.start (letters text)

  within_open : (text : List ℕ) → (tests.0.1 (within text) ≡ true → letter_scan.step (within text) (letter 97) ≡ None → ⊥) → tests.0.1 (within text) ≡ false
  within_open text h = is_false _ (λ e. h e ((honest.0.1 (within text) (led_reach letter_scan letter_scan.start (letters text) begun)).0 e (letter 97)))

  abbrev letter_values : List (Confs lettered × Bool)
  letter_values = (within (codes "a"), false) ∷ (within (codes "ab"), false) ∷ []

  by_letters : (settings : Settings) (script lines : List ℕ) → replay rows.letters ((tests.0.0, with_values letter_scan.order tests.0.1 letter_values), tt) settings script ≡ lines → replay rows.letters tests settings script ≡ lines
  by_letters settings script lines e = subst (λ closed. replay rows.letters ((tests.0.0, closed), tt) settings script ≡ lines)
      (same_values letter_scan.order tests.0.1 (scan_order lettered tests.0.0) letter_values
      (within_open (codes "a") (λ e n. true≢false (ap is_some n)), (within_open (codes "ab") (λ e n. true≢false (ap is_some n)), tt))) e

-- ---- the rows

pub second_operand_acts : SecondOperandActs
unfolding characters statements_from statements_of digits every_truths run_on weight tail_weight turns at_letter after at_end ending at_kept last_list last_delivery if_goes deliver marked stepped failed missed chosen if_heard sought finished body turn
second_operand_acts = λ tests honest. by_difference tests honest (with_stack 64) (on (codes "ac")) (codes "s do Z 0\ns end final 2\n") refl

pub second_operand_is_out : SecondOperandIsOut
unfolding characters statements_from statements_of digits every_truths run_on weight tail_weight turns at_letter after at_end ending at_kept last_list last_delivery if_goes deliver marked stepped failed missed chosen if_heard sought finished body turn
second_operand_is_out = λ tests honest. by_difference tests honest (with_stack 64) (on (codes "ab")) (codes "s do Z 0\ns stop error 1\ns end error 1\n") refl

pub returns_to_caller : ReturnsToCaller
unfolding characters statements_from statements_of digits every_truths run_on weight tail_weight turns at_letter after at_end ending at_kept last_list last_delivery if_goes deliver marked stepped failed missed chosen if_heard sought finished body turn
returns_to_caller = λ tests honest. by_other tests honest (with_stack 64) (codes "open s\npiece s \"n12\"\npiece s \"x\"\nend s\n") (codes "s do enter 0 call num\ns do done 3 hold ret\ns end final 4\n") refl

pub returns_at_end : ReturnsAtEnd
unfolding characters statements_from statements_of digits every_truths run_on weight tail_weight turns at_letter after at_end ending at_kept last_list last_delivery if_goes deliver marked stepped failed missed chosen if_heard sought finished body turn
returns_at_end = λ tests honest. by_other tests honest (with_stack 64) (on (codes "n12")) (codes "s do enter 0 call num\ns eof done 3 hold ret\ns end final 3\n") refl

pub backs_up : BacksUp
unfolding characters statements_from statements_of digits every_truths run_on weight tail_weight turns at_letter after at_end ending at_kept last_list last_delivery if_goes deliver marked stepped failed missed chosen if_heard sought finished body turn
backs_up = λ tests honest. by_short tests honest (with_stack 64) (on (codes "aaac")) (codes "s token A 2 0 1\ns token A 3 1 2\ns token A 3 2 3\ns stop error 3\ns end error 3\n") refl

pub pieces_add_up : PiecesAddUp
unfolding characters statements_from statements_of digits every_truths run_on weight tail_weight turns at_letter after at_end ending at_kept last_list last_delivery if_goes deliver marked stepped failed missed chosen if_heard sought finished body turn
pieces_add_up = λ tests honest. by_short tests honest (with_stack 64) (codes "open s\npiece s \"a\"\npiece s \"a\"\npiece s \"a\"\npiece s \"c\"\nend s\n") (codes "s token A 2 0 1\ns token A 3 1 2\ns token A 3 2 3\ns stop error 3\ns end error 3\n") refl

pub sessions_take_turns : SessionsTakeTurns
unfolding characters statements_from statements_of digits every_truths run_on weight tail_weight turns at_letter after at_end ending at_kept last_list last_delivery if_goes deliver marked stepped failed missed chosen if_heard sought finished body turn
sessions_take_turns = λ tests honest. by_short tests honest (with_stack 64) (codes "open s\nopen t\npiece s \"a\"\npiece t \"aaa\"\npiece s \"aac\"\npiece t \"c\"\nend t\nend s\n") (codes "t token A 2 0 1\ns token A 2 0 1\ns token A 3 1 2\ns token A 3 2 3\ns stop error 3\nt token A 3 1 2\nt token A 3 2 3\nt stop error 3\nt end error 3\ns end error 3\n") refl

pub keyword_then_word : KeywordThenWord
unfolding characters statements_from statements_of digits every_truths run_on weight tail_weight turns at_letter after at_end ending at_kept last_list last_delivery if_goes deliver marked stepped failed missed chosen if_heard sought finished body turn
keyword_then_word = λ tests honest. by_words tests honest (with_stack 64) (on (codes "if ifx")) (codes "s token kw 2 0 2\ns token id 6 3 6\ns end final 6\n") refl

pub token_is_too_long : TokenIsTooLong
unfolding characters statements_from statements_of digits every_truths run_on weight tail_weight turns at_letter after at_end ending at_kept last_list last_delivery if_goes deliver marked stepped failed missed chosen if_heard sought finished body turn
token_is_too_long = λ tests honest. by_letters tests honest (record { stack = 64; look = 8; token_max = 3 }) (on (codes "abcd")) (codes "s stop overlong 3\ns end error 3\n") refl
