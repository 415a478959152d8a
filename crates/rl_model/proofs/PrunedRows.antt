-- Rows of sources with an intersection or a difference, whatever honest tests they have.
use Rattle.std.proofs.Common.{◌≡◌, ℕ, pos, negsuc, ℤ, Bool, true, false, true≢false, cond, not, ◌&&◌, List, [], ◌∷◌, ◌++◌, refl, sym, ap, subst, Option, Some, None, codes, arith}
use Rattle.std.proofs.lemmas.Bool.Decides.{leb_tells}
use Rattle.std.specs.List.{list_any}
use Rattle.rl_types.specs.declared.numbers.Letter.{Letter}
use Rattle.rl_types.specs.KeyRange.{in_range}
use Rattle.rl_labels.specs.declared.carry.Carry.{Carry}
use Rattle.rl_labels.specs.Carries.{no_carry}
use Rattle.rl_automata.specs.declared.moves.Move.{Move}
use Rattle.rl_automata.specs.Auto.{Auto, every_truths, set_auto, cat_auto, and_auto, minus_auto, every_auto, quiet, first, targets, kept, carries, step_to, on_part, part_moves}
use Rattle.rl_automata.specs.Follows.{Reach, begun}
use Rattle.rl_automata.specs.Nodes as N
use Rattle.rl_automata.specs.Nodes.{Node, Conf, Ends, TellsLive, carry_of}
use Rattle.rl_automata.specs.Marks.{auto}
use Rattle.rl_automata.specs.Runs.{letters}
use Rattle.rl_automata.proofs.Congruence.{some_in, none_in}
use Rattle.rl_automata.proofs.MarksLaws.{auto_order}
use Rattle.rl_run.specs.declared.calls.Stop.TheVariants.{ErrorState}
use Rattle.rl_types.specs.Alphabet.{characters}
use Rattle.rl_run.specs.Fine.{weight, tail_weight}
use Rattle.rl_run.specs.Run.{turns, at_letter, after, at_end, ending, at_kept, last_list, last_delivery}
use Rattle.rl_run.specs.Turn.{if_goes, deliver, marked, stepped, failed, missed, chosen, if_heard, sought, finished, body, turn}
use Rattle.rl_run.specs.Chain.{run_on}
use Rattle.rl_model.specs.Trees.{TestsOf, AreTestsHonest, tree_machine}
use Rattle.rl_model.specs.Seen.{seen}
use Rattle.rl_model.specs.Sources.{two, act, yes, does, with_stack, ends_final, stops}
use Rattle.rl_model.specs.OperatorRows.{both, without, DeadPathsGo, SecondOperandActs, SecondOperandIsOut}
use Rattle.rl_model.proofs.Values.{same_values, led, led_reach, accepts_ends, stuck_ends, is_false}

-- ---- a difference

abbrev left : Node
left = N.Union (two 97 98) (two 97 99)

abbrev right : Node
right = N.All (two 97 98) (act 1 (codes "A", 1))

module _ (tests : TestsOf without) (honest : AreTestsHonest without tests) where
  abbrev raw : Auto (Conf (N.Minus left right))
  raw = minus_auto (auto left tests.0.0) (auto right tests.0.1)

  abbrev at : List ℕ → Conf (N.Minus left right)
  at text = led raw raw.start (letters text)

  reached : (text : List ℕ) → Reach raw (at text)
  reached text = led_reach raw raw.start (letters text) begun

  ends_a : tests.0.2 (at (97 ∷ [])) ≡ true
  ends_a = (honest.0.2 (at (97 ∷ [])) (reached (97 ∷ []))).1 (letters (99 ∷ []), accepts_ends raw (at (97 ∷ [])) (letters (99 ∷ [])) refl)

  ends_ac : tests.0.2 (at (97 ∷ 99 ∷ [])) ≡ true
  ends_ac = (honest.0.2 (at (97 ∷ 99 ∷ [])) (reached (97 ∷ 99 ∷ []))).1 ([], refl)

  dead_ab : tests.0.2 (at (97 ∷ 98 ∷ [])) ≡ false
  dead_ab = is_false (tests.0.2 (at (97 ∷ 98 ∷ []))) (λ e.
      let p = (honest.0.2 (at (97 ∷ 98 ∷ [])) (reached (97 ∷ 98 ∷ []))).0 e in
      stuck_ends raw (at (97 ∷ 98 ∷ [])) (λ l. refl) refl p.0 p.1)

  abbrev with_test : (Conf (N.Minus left right) → Bool) → TestsOf without
  with_test live = ((tests.0.0, tests.0.1, live), tt)

  pub acts : seen (tree_machine without tests) (with_stack 64) 1 (codes "ac") yes ≡ record { calls = does (codes "A", 1) 0 97 ∷ []; end = ends_final 2 }
  unfolding characters every_truths run_on weight tail_weight turns at_letter after at_end ending at_kept last_list last_delivery if_goes deliver marked stepped failed missed chosen if_heard sought finished body turn
  acts =
      let values : List (Conf (N.Minus left right) × Bool) = (at (97 ∷ []), true) ∷ (at (97 ∷ 99 ∷ []), true) ∷ [] in
      subst (λ live. seen (tree_machine without (with_test live)) (with_stack 64) 1 (codes "ac") yes ≡ record { calls = does (codes "A", 1) 0 97 ∷ []; end = ends_final 2 })
      (same_values raw.order tests.0.2 (auto_order (N.Minus left right) tests.0) values (ends_a, (ends_ac, tt))) refl

  pub is_out : seen (tree_machine without tests) (with_stack 64) 1 (codes "ab") yes ≡ record { calls = does (codes "A", 1) 0 97 ∷ []; end = stops ErrorState 1 }
  unfolding characters every_truths run_on weight tail_weight turns at_letter after at_end ending at_kept last_list last_delivery if_goes deliver marked stepped failed missed chosen if_heard sought finished body turn
  is_out =
      let values : List (Conf (N.Minus left right) × Bool) = (at (97 ∷ []), true) ∷ (at (97 ∷ 98 ∷ []), false) ∷ [] in
      subst (λ live. seen (tree_machine without (with_test live)) (with_stack 64) 1 (codes "ab") yes ≡ record { calls = does (codes "A", 1) 0 97 ∷ []; end = stops ErrorState 1 })
      (same_values raw.order tests.0.2 (auto_order (N.Minus left right) tests.0) values (ends_a, (dead_ab, tt))) refl

pub second_operand_acts : SecondOperandActs
second_operand_acts = λ tests honest. acts tests honest

pub second_operand_is_out : SecondOperandIsOut
second_operand_is_out = λ tests honest. is_out tests honest

-- ---- an intersection

-- where one operand is gone, nothing ends
module _ {S T : Type 0} (A : Auto S) (B : Auto T) where
  target_of : {C : Type 0} (target : C) (cs : List Carry) (m : Move C) → step_to target cs ≡ Some m → target ≡ m.to
  target_of target [] m e = none_in m e
  target_of target (c ∷ cs) m e = ap (λ x. x.to) (some_in _ m e)

  left_gone : (w : List Letter) (q : Option T) → Ends (and_auto A B) w (None, q) → ⊥
  left_gone [] q e = true≢false (sym e)
  left_gone (l ∷ w) q (m, p, e) =
      let rs = part_moves B l q in
      let all = carries rs in
      left_gone w (first (targets (kept all rs))) (subst (Ends (and_auto A B) w) (sym (target_of (None, first (targets (kept all rs))) (carries (kept all rs)) m p)) e)

  right_gone : (w : List Letter) (p : Option S) → Ends (and_auto A B) w (p, None) → ⊥
  right_gone [] p e = both_false (on_part false A.final p) e
    where
      both_false : (b : Bool) → (b && false) ≡ true → ⊥
      both_false true e = true≢false (sym e)
      both_false false e = true≢false (sym e)
  right_gone (l ∷ w) c (m, p, e) =
      let ls = part_moves A l c in
      let all = carries ls ++ [] in
      right_gone w (first (targets (kept all ls))) (subst (Ends (and_auto A B) w) (sym (target_of (first (targets (kept all ls)), None) (carries (kept all ls) ++ []) m p)) e)

-- one character, whose test is known
abbrev gate : Bool → Auto Bool
gate takes = record (set_auto []) { step = λ c l. cond (not c && takes) (Some (record { to = true; carry = no_carry })) None }

abbrev takes_one : ℕ → Letter → Bool
takes_one k l = list_any (in_range l.key) (record { lo = pos k; hi = pos k } ∷ [])

-- no key is both 98 and 99
never_both : (z : ℤ) → list_any (in_range z) (record { lo = pos 98; hi = pos 98 } ∷ []) ≡ true → list_any (in_range z) (record { lo = pos 99; hi = pos 99 } ∷ []) ≡ true → ⊥
never_both (pos n) e f = grind (arith, leb_tells 99 n, leb_tells n 98, e, f)
never_both (negsuc n) e f = true≢false (sym e)

module _ (tests : TestsOf both) (honest : AreTestsHonest both tests) where
  abbrev first_operand : Node
  first_operand = N.All (two 97 98) (act 1 (codes "A", 1))

  abbrev second_operand : Node
  second_operand = two 97 99

  abbrev A : Auto (Conf first_operand)
  A = auto first_operand tests.0.0

  abbrev B : Auto (Conf second_operand)
  B = auto second_operand tests.0.1

  abbrev meet : Auto (Conf (N.And first_operand second_operand))
  meet = and_auto A B

  abbrev behind_a : Conf (N.And first_operand second_operand)
  behind_a = led meet meet.start (letters (97 ∷ []))

  -- the intersection, where it is known whether the second characters are taken
  abbrev gated : Bool → Bool → Auto (Conf (N.And first_operand second_operand))
  gated p q = and_auto (every_auto (quiet (cat_auto (set_auto (record { lo = pos 97; hi = pos 97 } ∷ [])) (gate p))) (carry_of (act 1 (codes "A", 1))))
      (quiet (cat_auto (set_auto (record { lo = pos 97; hi = pos 97 } ∷ [])) (gate q)))

  no_way : (p q : Bool) → (p ≡ true → q ≡ true → ⊥) → (l : Letter) (m : Move (Conf (N.And first_operand second_operand))) (w : List Letter)
      → (gated p q).step behind_a l ≡ Some m → Ends meet w m.to → ⊥
  no_way true true h l m w e r = h refl refl
  no_way true false h l m w e r = right_gone A B w _ (subst (Ends meet w) (sym (ap (λ x. x.to) (some_in _ m e))) r)
  no_way false true h l m w e r = left_gone A B w _ (subst (Ends meet w) (sym (ap (λ x. x.to) (some_in _ m e))) r)
  no_way false false h l m w e r = none_in m e

  dead : (w : List Letter) → Ends meet w behind_a → ⊥
  dead [] e = true≢false (sym e)
  dead (l ∷ w) (m, p, e) = no_way (takes_one 98 l) (takes_one 99 l) (never_both l.key) l m w p e

  dead_a : tests.0.2 behind_a ≡ false
  dead_a = is_false (tests.0.2 behind_a) (λ e.
      let p = (honest.0.2 behind_a (led_reach meet meet.start (letters (97 ∷ [])) begun)).0 e in dead p.0 p.1)

  pub gone : seen (tree_machine both tests) (with_stack 64) 1 (codes "a") yes ≡ record { calls = []; end = stops ErrorState 0 }
  unfolding characters every_truths run_on weight tail_weight turns at_letter after at_end ending at_kept last_list last_delivery if_goes deliver marked stepped failed missed chosen if_heard sought finished body turn
  gone =
      let values : List (Conf (N.And first_operand second_operand) × Bool) = (behind_a, false) ∷ [] in
      subst (λ live. seen (tree_machine both ((tests.0.0, tests.0.1, live), tt)) (with_stack 64) 1 (codes "a") yes ≡ record { calls = []; end = stops ErrorState 0 })
      (same_values meet.order tests.0.2 (auto_order (N.And first_operand second_operand) tests.0) values (dead_a, tt)) refl

pub dead_paths_go : DeadPathsGo
dead_paths_go = λ tests honest. gone tests honest
