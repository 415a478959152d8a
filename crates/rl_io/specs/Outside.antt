-- What a store, a source and a sink do to what they hold, and when they may fail.
use Rattle.std.specs.Prelude.{◌≡◌, ◌≢◌, ℕ, ◌+◌, ◌-◌, ◌^◌, ◌<◌, ◌≤◌, ◌↔◌, min, List, [], ◌++◌, take, drop, length, Option, Some, None, IsUtf8}

-- the number after n: numbers end at 2^64 - 1
abbrev pub next_number : ℕ → ℕ
next_number n = min (n + 1) (2 ^ 64 - 1)

-- a count rose, or stands at its end
abbrev pub Rose : ℕ → ℕ → Type 0
Rose before now = next_number before ≤ now

-- a call answers that it failed only where the count of faults rose, and any other answer leaves the count
pub record HasCause (before now : ℕ) (Fails : Type 0) : Type 0 where
  pub later : before ≤ now
  pub failed : Fails → Rose before now
  pub kept : ¬ Fails → now ≡ before
  pub in_range : before < 2 ^ 64 → now < 2 ^ 64

-- the files of a store by their names, where it tells them
abbrev pub Held : Type 0
Held = Option (List ℕ → Option (List ℕ))

-- the bytes of a name were read: they are what is held under it
abbrev pub Reads : Held → List ℕ → List ℕ → Type 0
Reads None name bytes = Unit {0}
Reads (Some held) name bytes = held name ≡ Some bytes

-- the name is absent
abbrev pub Lacks : Held → List ℕ → Type 0
Lacks None name = Unit {0}
Lacks (Some held) name = held name ≡ None

-- the name holds the bytes now
abbrev pub Writes : Held → Held → List ℕ → List ℕ → Type 0
Writes None new name bytes = Unit {0}
Writes (Some old) None name bytes = ⊥
Writes (Some old) (Some new) name bytes = new name ≡ Some bytes

-- every other name holds what it held
abbrev pub KeepsOthers : Held → Held → List ℕ → Type 0
KeepsOthers None new name = Unit {0}
KeepsOthers (Some old) None name = ⊥
KeepsOthers (Some old) (Some new) name = (other : List ℕ) → other ≢ name → new other ≡ old other

-- a name that is no text is in no store
abbrev pub HoldsTextNames : Held → Type 0
HoldsTextNames None = Unit {0}
HoldsTextNames (Some held) = (name : List ℕ) → ¬ (IsUtf8 name) → held name ≡ None

-- the first n bytes that were left stand at the front of the buffer, and the others are left
pub record MovesBytes (left : List ℕ) (after : Option (List ℕ)) (n : ℕ) (old new : List ℕ) : Type 0 where
  pub enough : n ≤ length left
  pub rest : after ≡ Some (drop n left)
  pub buffer : new ≡ take n left ++ drop n old

abbrev pub Moves : Option (List ℕ) → Option (List ℕ) → ℕ → List ℕ → List ℕ → Type 0
Moves None after n old new = Unit {0}
Moves (Some left) after n old new = MovesBytes left after n old new

-- no byte comes exactly where none is left
abbrev pub EndsAt : Option (List ℕ) → ℕ → Type 0
EndsAt None n = Unit {0}
EndsAt (Some left) n = (n ≡ 0) ↔ (left ≡ [])

-- the whole piece was added at the end
abbrev pub Appends : Option (List ℕ) → Option (List ℕ) → List ℕ → Type 0
Appends None after piece = Unit {0}
Appends (Some before) after piece = after ≡ Some (before ++ piece)

-- a prefix of the piece was added at the end
abbrev pub AppendsPrefix : Option (List ℕ) → Option (List ℕ) → List ℕ → Type 0
AppendsPrefix None after piece = Unit {0}
AppendsPrefix (Some before) after piece = (front : List ℕ) × (rest : List ℕ) × (front ++ rest ≡ piece) × (after ≡ Some (before ++ front))
