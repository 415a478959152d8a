-- What is known of the words to states during a search.
use Rattle.std.specs.Prelude.{◌≡◌, ◌==◌, ℕ, ◌+◌, ◌⊎◌, Bool, true, false, List, [], ◌∷◌, ◌++◌, take, drop, Option, Some, slice_get}
use Rattle.std.specs.List.{list_any, find}
use Rattle.rl_types.specs.declared.numbers.Letter.{Letter}
use Rattle.rl_sets.specs.Sets.{In}
use Rattle.rl_fsm.specs.Reads.{own_letter}
use Rattle.rl_minimal.specs.declared.state.MinEdge.{MinEdge}
use Rattle.rl_minimal.specs.Minimal.{Minimal, reads_of}
use Rattle.rl_minimal.specs.Machine.{edges_at, entry_at}
use Rattle.rl_certificate.specs.declared.certificate.Access.{Access}
use Rattle.rl_certificate.specs.Walks.{IsEntry, LeadsTo}
use Rattle.rl_certificate.specs.Firsts.{AccessBefore}

-- before the other word, or the same
abbrev pub UpTo : ℕ → List Letter → ℕ → List Letter → Type 0
UpTo e u f v = AccessBefore e u f v ⊎ ((e ≡ f) × (u ≡ v))

-- the state has a word up to this one
pub record IsMet (met : List Access) (state entry : ℕ) (word : List Letter) : Type 0 where
  pub access : Access
  pub there : In access met
  pub leads : access.state ≡ state
  pub upto : UpTo access.entry.0 access.word.items entry word

-- the states to which the edges lead have words up to the ones along the edges
pub record AreGone (met : List Access) (a : Access) (edges : List MinEdge) : Type 0 where
  pub each : (e : MinEdge) → In e edges → IsMet met e.target a.entry.0 (a.word.items ++ own_letter (reads_of e) ∷ [])

-- the words lead to their states, and no two to one
pub record AreWords (m : Minimal) (met : List Access) : Type 0 where
  pub lead : (a : Access) → In a met → LeadsTo m a.entry.0 a.word.items a.state
  pub once : (a b : Access) → In a met → In b met → a.state ≡ b.state → a ≡ b

-- the search is done
pub record IsClosed (m : Minimal) (met : List Access) : Type 0 where
  pub words : AreWords m met
  pub starts : (e : ℕ) → IsEntry m e → IsMet met (entry_at m.entries e) e []
  pub steps : (a : Access) → In a met → AreGone met a (edges_at m a.state)

-- all words are before this one
abbrev pub AllBefore : List Access → ℕ → List Letter → Type 0
AllBefore met e w = (a : Access) → In a met → AccessBefore a.entry.0 a.word.items e w

-- each word is before all behind it
abbrev pub AreSorted : List Access → Type 0
AreSorted [] = Unit {0}
AreSorted (a ∷ later) = ((b : Access) → In b later → AccessBefore a.entry.0 a.word.items b.entry.0 b.word.items) × AreSorted later

-- the words that were met so far, in order
pub record AreMet (m : Minimal) (met : List Access) : Type 0 where
  pub words : AreWords m met
  pub sorted : AreSorted met
  pub starts : (e : ℕ) → IsEntry m e → IsMet met (entry_at m.entries e) e []

-- ---- the turns of a search

-- whether the state has a word
abbrev pub is_met : List Access → ℕ → Bool
is_met met state = list_any (λ (a : Access). a.state == state) met

-- the first word of the state
abbrev pub access_in : List Access → ℕ → Option Access
access_in met state = find (λ (a : Access). a.state == state) met

-- a word for the state was put behind the others
pub record IsPut (old new : List Access) (state entry : ℕ) (word : List Letter) : Type 0 where
  pub access : Access
  pub leads : access.state ≡ state
  pub from : access.entry.0 ≡ entry
  pub word_is : access.word.items ≡ word
  pub end : new ≡ old ++ access ∷ []

-- the word was put behind the others, unless the state had one
abbrev pub IsAdded : List Access → List Access → ℕ → ℕ → List Letter → Type 0
IsAdded old new state entry word = ((is_met old state ≡ true) × (new ≡ old)) ⊎ ((is_met old state ≡ false) × IsPut old new state entry word)

-- the words along the edges were added, one after another
abbrev pub AreAdded : List Access → List Access → ℕ → List Letter → List MinEdge → Type 0
AreAdded old new entry word [] = new ≡ old
AreAdded old new entry word (e ∷ edges) =
    (mid : List Access) × IsAdded old mid e.target entry (word ++ own_letter (reads_of e) ∷ []) × AreAdded mid new entry word edges

-- the empty words of the entries' states were added, of which so many entries stand before
abbrev pub AreBegun : List Access → List Access → ℕ → List ℕ → Type 0
AreBegun old new before [] = new ≡ old
AreBegun old new before (state ∷ states) = (mid : List Access) × IsAdded old mid state (before + 1) [] × AreBegun mid new (before + 1) states

-- the search went on from the word at this place
pub record IsGoneOn (m : Minimal) (old new : List Access) (place : ℕ) : Type 0 where
  pub from : (a : Access) → slice_get old place ≡ Some a → AreAdded old new a.entry.0 a.word.items (edges_at m a.state)

-- the search went on from the words before this place; the others with any letter are behind all words
pub record IsSearched (m : Minimal) (met : List Access) (place : ℕ) : Type 0 where
  pub known : AreMet m met
  pub gone : (a : Access) → In a (take place met) → AreGone met a (edges_at m a.state)
  pub ahead : (a : Access) → In a (drop place met) → (l : Letter) → AllBefore met a.entry.0 (a.word.items ++ l ∷ [])
