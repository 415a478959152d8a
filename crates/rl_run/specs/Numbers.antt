-- The canonical numbers of a machine's states.
--     0                Error
--     from 1 on        the classes of alike states that the entries reach, as a breadth-first walk meets them: from the entries in
--                      order, by ascending key and then ascending truths; those that are not final stand before those that are
use Rattle.std.specs.Prelude.{◌≡◌, ℕ, ℤ, ◌≤◌, ◌⊎◌, not, List, [], ◌∷◌, ◌++◌, map, filter, length, nat_eq, Some, Contains}
use Rattle.std.specs.Option.{option_map}
use Rattle.std.specs.List.{filter_map, flat_map, range_with_len}
use Rattle.rl_types.specs.declared.numbers.Key.{Key}
use Rattle.rl_types.specs.declared.alphabet.Alphabet.{Alphabet}
use Rattle.rl_types.specs.Alphabet.{keys_of}
use Rattle.rl_run.specs.Machine.{Go, Machine}
use Rattle.rl_run.specs.Classes.{AreClasses}

-- the letters of an alphabet by ascending key and then ascending truths
unfoldable pub letters_of : Alphabet → List (Key × ℕ)
letters_of alphabet = flat_map (λ (key : ℤ). map (λ truths. (record { 0 = key }, truths)) (range_with_len 0 256)) (keys_of alphabet)

-- each number once, at its first place
abbrev pub firsts : List ℕ → List ℕ
firsts [] = []
firsts (x ∷ xs) = x ∷ filter (λ y. not (nat_eq x y)) (firsts xs)

module _ {S : Type 0} (m : Machine S) (letters : List (Key × ℕ)) (entries : ℕ) where
  -- a word leads from one state to another
  abbrev pub Leads : List (Key × ℕ) → S → S → Type 0
  Leads [] q p = q ≡ p
  Leads (l ∷ word) q p = (g : Go S) × (m.find q l.0 l.1 ≡ Some g) × Leads word g.target p

  -- some word leads to the state from the start of an entry
  abbrev pub IsReached : S → Type 0
  IsReached q = (e : ℕ) × (1 ≤ e) × (e ≤ entries) × (word : List (Key × ℕ)) × Leads word (m.entry e) q

  -- Error, and the states that the entries reach
  abbrev pub IsKnown : S → Type 0
  IsKnown q = (q ≡ m.failed) ⊎ IsReached q

  module _ (class : S → ℕ) (state : ℕ → S) where
    -- the classes where the steps of a class lead, letter by letter
    abbrev pub targets : ℕ → List ℕ
    targets c = filter_map (λ l. option_map (λ (g : Go S). class g.target) (m.find (state c) l.0 l.1)) letters

    -- the classes that are met from the entries on, where each class met shows in its turn where its steps lead
    pub record IsBreadthFirst (order : List ℕ) : Type 0 where
      pub met : order ≡ firsts (map (λ e. class (m.entry e)) (range_with_len 1 entries) ++ flat_map targets order)
      pub reached : (c : ℕ) → Contains order c → (q : S) × IsReached q × (class q ≡ c)

    -- the numbers are the canonical ones; `order` has the classes as the walk meets them
    pub record AreCanonical (order : List ℕ) : Type 0 where
      pub classes : AreClasses m IsKnown class state
      pub failed : class m.failed ≡ 0
      pub walk : IsBreadthFirst order
      pub counted : filter (λ c. not (m.final (state c))) order ++ filter (λ c. m.final (state c)) order ≡ range_with_len 1 (length order)
