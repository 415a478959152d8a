-- Functions of the keys that are constant from one step up to the next.
use Rattle.std.specs.Prelude.{◌≡◌, ◌+◌, ◌≤◌, length, ℕ, Bool, ℤ, ◌<ℤ◌, List, [], ◌∷◌, Option, Some, None, map, int_le, if◌then◌else◌}
use Rattle.std.specs.Int.{int_min}
use Rattle.std.specs.Ordering.{int_eq}
use Rattle.rl_classes.specs.declared.steps.Step.{Step}
use Rattle.rl_classes.specs.declared.steps.Steps.{Steps}

-- each key is above the one before it
abbrev pub IsBelowFirst : ℤ → List ℤ → Type 0
IsBelowFirst low [] = Unit {0}
IsBelowFirst low (key ∷ keys) = low <ℤ key

abbrev pub Ascend : List ℤ → Type 0
Ascend [] = Unit {0}
Ascend (key ∷ keys) = IsBelowFirst key keys × Ascend keys

abbrev pub froms : {T : Type 0} → List (Step T) → List ℤ
froms steps = map (λ s. s.from) steps

-- the value at a key, of a function that has a first value, and after each step the step's
abbrev pub value_from : {T : Type 0} → T → List (Step T) → ℤ → T
value_from first [] key = first
value_from first (s ∷ steps) key = value_from (if int_le s.from key then s.value else first) steps key

abbrev pub value_at : {T : Type 0} → Steps T → ℤ → T
value_at f key = value_from f.first f.later.items key

-- the next key at which one of two functions steps
abbrev pub next_key : List ℤ → List ℤ → Option ℤ
next_key [] [] = None
next_key (x ∷ xs) [] = Some x
next_key [] (y ∷ ys) = Some y
next_key (x ∷ xs) (y ∷ ys) = Some (int_min x y)

-- the value from a key on, where it was another one before, and the steps that are left
abbrev pub passed : {T : Type 0} → List (Step T) → ℤ → T → T × List (Step T)
passed [] key before = (before, [])
passed (s ∷ steps) key before = if int_eq s.from key then (s.value, steps) else (before, s ∷ steps)

-- the function has at each key the pair of what two functions have, and steps where they do
pub record IsPairOf {T U : Type 0} (left : Steps T) (right : Steps U) (pairs : Steps (T × U)) : Type 0 where
  pub value : (key : ℤ) → value_at pairs key ≡ (value_at left key, value_at right key)
  pub ascends : Ascend (froms pairs.later.items)
  pub short : length pairs.later.items ≤ length left.later.items + length right.later.items
