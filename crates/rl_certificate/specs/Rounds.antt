-- What is known of pairs of states after rounds.
use Rattle.std.specs.Prelude.{◌≡◌, ℕ, ◌<◌, ◌≤◌, Bool, List, ◌∷◌, map, Option, Some, None, length}
use Rattle.rl_types.specs.declared.numbers.Letter.{Letter}
use Rattle.rl_sets.specs.Sets.{In}
use Rattle.rl_fsm.specs.Reads.{own_letter}
use Rattle.rl_minimal.specs.declared.state.MinEdge.{MinEdge}
use Rattle.rl_minimal.specs.Minimal.{Minimal, reads_of}
use Rattle.rl_certificate.specs.Walks.{target_on}
use Rattle.rl_certificate.specs.Views.{ShowSame}
use Rattle.rl_certificate.specs.Firsts.{LetterBefore, TellsApart, IsFirstWord}

-- the first letters of the edges
abbrev pub own_letters : List MinEdge → List Letter
own_letters es = map (λ (e : MinEdge). own_letter (reads_of e)) es

-- a state but Error
abbrev pub IsReal : Minimal → ℕ → Type 0
IsReal m i = (0 < i) × (i < length m.states)

module _ (m : Minimal) (homes : Bool) where
  -- What is known of two states when all words of at most n letters have been looked at: their first word, or that they
  -- show the same and none of these tells them apart.
  abbrev pub IsTold : ℕ → ℕ → ℕ → Option (List Letter) → Type 0
  IsTold n i j (Some w) = IsFirstWord m homes i j w × (length w ≤ n)
  IsTold n i j None = ShowSame m homes i j × ((w : List Letter) → length w ≤ n → TellsApart m homes w i j → ⊥)

  -- `told` has this for all pairs of states but Error
  abbrev pub AreTold : ℕ → (ℕ → ℕ → Option (List Letter)) → Type 0
  AreTold n told = (i j : ℕ) → IsReal m i → IsReal m j → IsTold n i j (told i j)

-- a word of n letters tells apart the states to which two steps lead
pub record IsRest (told : ℕ → ℕ → Option (List Letter)) (n : ℕ) (one other : Option ℕ) (q p : ℕ) (rest : List Letter) : Type 0 where
  pub one_is : one ≡ Some q
  pub other_is : other ≡ Some p
  pub rest_is : told q p ≡ Some rest
  pub count : length rest ≡ n

-- a letter leads from the two states to two that a word of n letters tells apart
abbrev pub IsCandidate : Minimal → ℕ → (ℕ → ℕ → Option (List Letter)) → ℕ → ℕ → Letter → ℕ → ℕ → List Letter → Type 0
IsCandidate m n told i j l q p rest = IsRest told n (target_on m i l) (target_on m j l) q p rest

-- none of the letters does
abbrev pub IsNoStep : Minimal → List Letter → ℕ → (ℕ → ℕ → Option (List Letter)) → ℕ → ℕ → Type 0
IsNoStep m letters n told i j = (k : Letter) (x y : ℕ) (v : List Letter) → In k letters → IsCandidate m n told i j k x y v → ⊥

-- this letter does, and none before it
pub record IsFirstStep (m : Minimal) (letters : List Letter) (n : ℕ) (told : ℕ → ℕ → Option (List Letter)) (i j : ℕ) (l : Letter)
    (rest : List Letter) : Type 0 where
  pub q : ℕ
  pub p : ℕ
  pub candidate : IsCandidate m n told i j l q p rest
  pub least : (k : Letter) (x y : ℕ) (v : List Letter) → In k letters → LetterBefore k l → IsCandidate m n told i j k x y v → ⊥

-- the word begins with such a letter
pub record IsLed (m : Minimal) (letters : List Letter) (n : ℕ) (told : ℕ → ℕ → Option (List Letter)) (i j : ℕ) (word : List Letter) : Type 0 where
  pub letter : Letter
  pub rest : List Letter
  pub step : IsFirstStep m letters n told i j letter rest
  pub word_is : word ≡ letter ∷ rest
