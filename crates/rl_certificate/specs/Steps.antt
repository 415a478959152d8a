-- The steps of states on letters that ascend.
use Rattle.std.specs.Prelude.{◌≡◌, ℕ, List, [], ◌∷◌, map, length, Option}
use Rattle.std.specs.List.{range_with_len}
use Rattle.std.specs.declared.cmp.Ordering.{Ordering}
use Rattle.std.specs.Ordering.{ordering_then, int_cmp, nat_cmp}
use Rattle.rl_types.specs.declared.numbers.Letter.{Letter}
use Rattle.rl_sets.specs.Sets.{In, insert}
use Rattle.rl_minimal.specs.declared.state.MinState.{MinState}
use Rattle.rl_minimal.specs.Minimal.{Minimal}
use Rattle.rl_minimal.specs.Machine.{edges_at}
use Rattle.rl_certificate.specs.declared.steps.Steps.{Steps}
use Rattle.rl_certificate.specs.Walks.{target_on}
use Rattle.rl_certificate.specs.Firsts.{LetterBefore}
use Rattle.rl_certificate.specs.Rounds.{own_letters}

-- by key and then truths
abbrev pub letter_cmp : Letter → Letter → Ordering
letter_cmp l k = ordering_then (int_cmp l.key k.key) (nat_cmp l.truths k.truths)

-- the first of these letters put in its place among the others, then the next
abbrev pub with_letters : List Letter → List Letter → List Letter
with_letters [] others = others
with_letters (l ∷ letters) others = with_letters letters (insert letter_cmp l others)

-- the same for the first letters of the states' edges
abbrev pub with_states : List MinState → List Letter → List Letter
with_states [] others = others
with_states (s ∷ states) others = with_states states (with_letters (own_letters s.edges) others)

-- each letter is before all behind it
abbrev pub AreRising : List Letter → Type 0
AreRising [] = Unit {0}
AreRising (l ∷ later) = ((k : Letter) → In k later → LetterBefore l k) × AreRising later

-- where the state steps on each letter
abbrev pub row_of : Minimal → List Letter → ℕ → List (Option ℕ)
row_of m letters i = map (λ (l : Letter). target_on m i l) letters

-- the letters ascend and have the first ones of all edges; and each state has its row
pub record AreSteps (m : Minimal) (s : Steps) : Type 0 where
  pub rising : AreRising s.letters.items
  pub own : (i : ℕ) (l : Letter) → In l (own_letters (edges_at m i)) → In l s.letters.items
  pub rows : map (λ row. row.items) s.targets.items ≡ map (λ (i : ℕ). row_of m s.letters.items i) (range_with_len 0 (length m.states))
