-- Each row is told by the automaton that is not pruned, which computes.
use Rattle.std.proofs.Common.{◌≡◌, Bool, true, false, true≢false, List, [], ◌∷◌, refl, sym, ◌∙◌, codes}
use Rattle.rl_types.specs.declared.numbers.Letter.{Letter}
use Rattle.rl_automata.specs.Nodes.{Node}
use Rattle.rl_automata.specs.Marks.{auto}
use Rattle.rl_automata.specs.Runs.{unpruned, letters}
use Rattle.rl_automata.specs.Language.{IsWordOf, has_priority}
use Rattle.rl_language.specs.Rows.{rounds, with_b, without_b, evens, guarded, at, RoundsAreWhole, ADifferenceIsTheRest, AnIntersectionIsInBoth, EachLetterHasTheCondition}
use Rattle.rl_language.proofs.Accepting.{accepts}
use Rattle.rl_language.proofs.Matching.{unpruned_matches}

abbrev has_word : Node → List Letter → Bool
has_word t w = accepts (auto t (unpruned t)) w (auto t (unpruned t)).start

it_has : (t : Node) (w : List Letter) → has_priority t ≡ false → has_word t w ≡ true → IsWordOf t w
it_has t w e h = (unpruned_matches t e w).0 h

it_has_not : (t : Node) (w : List Letter) → has_priority t ≡ false → has_word t w ≡ false → IsWordOf t w → ⊥
it_has_not t w e h word = true≢false (sym ((unpruned_matches t e w).1 word) ∙ h)

pub rounds_are_whole : RoundsAreWhole
rounds_are_whole = (it_has rounds [] refl refl, it_has rounds (letters (codes "abcab")) refl refl, it_has_not rounds (letters (codes "aba")) refl refl)

pub a_difference_is_the_rest : ADifferenceIsTheRest
a_difference_is_the_rest = (
  it_has with_b (letters (codes "abc")) refl refl,
  it_has_not without_b (letters (codes "abc")) refl refl,
  it_has_not with_b (letters (codes "acc")) refl refl,
  it_has without_b (letters (codes "acc")) refl refl,
)

pub an_intersection_is_in_both : AnIntersectionIsInBoth
an_intersection_is_in_both = (it_has evens (letters (codes "aaaa")) refl refl, it_has_not evens (letters (codes "aaa")) refl refl)

pub each_letter_has_the_condition : EachLetterHasTheCondition
each_letter_has_the_condition =
    (it_has guarded (at 97 1 ∷ at 97 3 ∷ at 98 0 ∷ []) refl refl, it_has_not guarded (at 97 1 ∷ at 97 2 ∷ at 98 0 ∷ []) refl refl)
