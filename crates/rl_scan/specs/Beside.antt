-- Machines side by side, each of which is in a state or is absent: how the patterns of a scanner go on together. The
-- configuration is a list, of one state for each machine.
--     side_auto ms          their automaton, whose candidates are cut as one set
--     tokens_of ms ts c     the actions of a match, or none where no machine is final in c
use Rattle.std.specs.Prelude.{ℕ, ◌+◌, ℤ, Bool, false, cond, not, ◌&&◌, ◌||◌, List, [], ◌∷◌, ◌++◌, map, bit_or, Option, Some, None}
use Rattle.std.specs.Option.{option_cmp, option_map}
use Rattle.std.specs.Ordering.{nat_cmp}
use Rattle.std.specs.Cmp.Lexicographic.{slice_cmp}
use Rattle.rl_types.specs.declared.numbers.Letter.{Letter}
use Rattle.rl_types.specs.declared.numbers.ActionId.{ActionId}
use Rattle.rl_types.specs.KeyRange.{Range}
use Rattle.rl_labels.specs.declared.stamped.Stamp.{Stamp}
use Rattle.rl_labels.specs.declared.carry.Carry.{Carry}
use Rattle.rl_labels.specs.Labels.{stamps_of, once}
use Rattle.rl_labels.specs.Carries.{no_carry}
use Rattle.rl_automata.specs.declared.moves.Move.{Move}
use Rattle.rl_automata.specs.declared.tree.Kind.{Kind}
use Rattle.rl_automata.specs.Auto.{Auto, on_part, first, listed, carries, targets, kept, step_to, is_none_left}
use Rattle.rl_automata.specs.Scans.{with_token}
use Rattle.rl_fsm.specs.Graphs.{Graph, fsm_auto, ranges_at}

-- the state of the first machine; absent where there is none
abbrev pub first_part : List (Option ℕ) → Option ℕ
first_part [] = None
first_part (o ∷ c) = o

-- the states of the other machines
abbrev pub behind : {X : Type 0} → List X → List X
behind [] = []
behind (x ∷ xs) = xs

-- ---- candidates for a step

-- the step of each machine
abbrev pub steps_at : List Graph → List (Option ℕ) → Letter → List (Option (Move ℕ))
steps_at [] c l = []
steps_at (m ∷ ms) c l = on_part None (λ s. (fsm_auto m).step s l) (first_part c) ∷ steps_at ms (behind c) l

-- what they carry
abbrev pub carried : List (Option (Move ℕ)) → List Carry
carried [] = []
carried (o ∷ os) = carries (listed o) ++ carried os

-- where those lead that none of `all` beats
abbrev pub kept_parts : List Carry → List (Option (Move ℕ)) → List (Option ℕ)
kept_parts all [] = []
kept_parts all (o ∷ os) = first (targets (kept all (listed o))) ∷ kept_parts all os

-- and what these carry
abbrev pub kept_labels : List Carry → List (Option (Move ℕ)) → List Carry
kept_labels all [] = []
kept_labels all (o ∷ os) = carries (kept all (listed o)) ++ kept_labels all os

-- the step that they make together
abbrev pub settled : List (Option (Move ℕ)) → Option (Move (List (Option ℕ)))
settled os = let all = carried os in step_to (kept_parts all os) (kept_labels all os)

-- whether they are a cycle of priorities
abbrev pub is_jammed : List (Option (Move ℕ)) → Bool
is_jammed os = let all = carried os in not (is_none_left all) && is_none_left (kept_labels all os)

-- ---- matches

-- whether the machine is final in the state
abbrev pub is_final_in : Graph → Option ℕ → Bool
is_final_in m o = on_part false (fsm_auto m).final o

-- what it leaves there
abbrev pub out_in : Graph → Option ℕ → Carry
out_in m o = on_part no_carry (fsm_auto m).out o

abbrev pub any_final : List Graph → List (Option ℕ) → Bool
any_final [] c = false
any_final (m ∷ ms) c = is_final_in m (first_part c) || any_final ms (behind c)

-- the out of the first machine that is final
abbrev pub first_out : List Graph → List (Option ℕ) → Carry
first_out [] c = no_carry
first_out (m ∷ ms) c = cond (is_final_in m (first_part c)) (out_in m (first_part c)) (first_out ms (behind c))

-- the action of the first token, if it has one
abbrev pub first_token : List (Option ActionId) → Option ℕ
first_token [] = None
first_token (t ∷ ts) = option_map (λ a. a.0) t

-- the leaving actions of the first machine that is final, and then its token's action
abbrev pub tokens_of : List Graph → List (Option ActionId) → List (Option ℕ) → Option (List ℕ)
tokens_of [] ts c = None
tokens_of (m ∷ ms) ts c =
    cond (is_final_in m (first_part c)) (Some (with_token (first_token ts) (once (out_in m (first_part c)).actions))) (tokens_of ms (behind ts) (behind c))

-- the number, from i on, of the first machine whose start is final
abbrev pub first_empty_from : ℕ → List Graph → Option ℕ
first_empty_from i [] = None
first_empty_from i (m ∷ ms) = cond ((fsm_auto m).final m.start) (Some i) (first_empty_from (i + 1) ms)

-- ---- what all of them give together

abbrev pub all_marks : List Graph → List (Option ℕ) → Kind → List Stamp
all_marks [] c k = []
all_marks (m ∷ ms) c k = on_part [] (λ s. (fsm_auto m).marks s k) (first_part c) ++ all_marks ms (behind c) k

abbrev pub all_asked : List Graph → List (Option ℕ) → ℤ → ℕ
all_asked [] c k = 0
all_asked (m ∷ ms) c k = bit_or (on_part 0 (λ s. (fsm_auto m).asked s k) (first_part c)) (all_asked ms (behind c) k)

-- the same, with those that are gathered so far
abbrev pub asked_with : ℕ → List Graph → List (Option ℕ) → ℤ → ℕ
asked_with so_far [] c k = so_far
asked_with so_far (m ∷ ms) c k = asked_with (bit_or so_far (on_part 0 (λ s. (fsm_auto m).asked s k) (first_part c))) ms (behind c) k

-- the ranges of their edges
abbrev pub all_ranges : List Graph → List (Option ℕ) → List Range
all_ranges [] c = []
all_ranges (m ∷ ms) c = on_part [] (ranges_at m) (first_part c) ++ all_ranges ms (behind c)

abbrev pub all_starts : List Graph → List (Option ℕ)
all_starts ms = map (λ (m : Graph). Some m.start) ms

abbrev pub side_auto : List Graph → Auto (List (Option ℕ))
side_auto ms = record {
  order = slice_cmp (option_cmp nat_cmp);
  start = all_starts ms;
  step = λ c l. settled (steps_at ms c l);
  final = any_final ms;
  out = first_out ms;
  marks = λ c k. stamps_of (all_marks ms c k);
  asked = all_asked ms;
}

-- whether the candidates of all machines are a cycle of priorities
abbrev pub side_jams : List Graph → List (Option ℕ) → Letter → Bool
side_jams ms c l = is_jammed (steps_at ms c l)
