-- What holds of the machines that are built, and of each session that a run reaches.
use Rattle.std.specs.Prelude.{◌≡◌, ℕ, ◌+◌, ◌-◌, ◌*◌, ◌^◌, ◌<◌, ◌≤◌, ◌⊎◌, List, [], ◌∷◌, Option, Some, None, true, unwrap_or}
use Rattle.std.specs.List.{AllByRecursion}
use Rattle.rl_types.specs.declared.numbers.Key.{Key}
use Rattle.rl_run.specs.declared.sessions.Flow.{Flow}
use Rattle.rl_run.specs.declared.sessions.Flow.TheVariants.{Goes, Jumps, Breaks, Stops}
use Rattle.rl_run.specs.declared.sessions.Settings.{Settings}
use Rattle.rl_run.specs.Machine.{Go, Machine, Session, keep}

-- an action without statements
abbrev pub IsQuiet : {S : Type 0} → Machine S → ℕ → Type 0
IsQuiet m action = (n : ℕ) → m.statement action n ≡ None

-- the rules on kinds that every machine keeps
pub record IsKinded {S : Type 0} (m : Machine S) : Type 0 where
  pub plain : (q : S) (key : Key) (hold : ℕ) (go : Go S) → m.find q key hold ≡ Some go → m.kind q ≡ 0 → m.kind go.target ≡ 0
  pub inner : (q : S) (key : Key) (hold : ℕ) (go : Go S) → m.find q key hold ≡ Some go → 1 ≤ m.kind q → 2 ≤ m.kind go.target
  pub quiet : (q : S) (key : Key) (hold : ℕ) (go : Go S) → m.find q key hold ≡ Some go → 1 ≤ m.kind q → AllByRecursion (IsQuiet m) go.list
  pub no_error : (q : S) → 1 ≤ m.kind q → m.error q ≡ []
  pub home : (q : S) → 1 ≤ m.kind q → m.kind (m.home q) ≡ 1
  pub entry : (e : ℕ) → m.kind (m.entry e) ≤ 1
  pub failed : m.kind m.failed ≡ 0
  pub is_failed : m.is_failed m.failed ≡ true

-- a kept token lies within the open token
abbrev pub Spans : Option ℕ → Option ℕ → Type 0
Spans (Some a) (Some b) = (a < b) × (b ≤ 2 ^ 63)
Spans (Some a) None = ⊥
Spans None te = ⊥

abbrev pub KeptSpans : Option (List ℕ) → Option ℕ → Option ℕ → Type 0
KeptSpans None ts te = Unit {0}
KeptSpans (Some list) ts te = Spans ts te

abbrev pub StartsBy : Option ℕ → ℕ → Type 0
StartsBy None p = ⊥
StartsBy (Some a) p = a ≤ p

-- what holds of a session between turns
pub record IsFine {S : Type 0} (m : Machine S) (s : Session S) : Type 0 where
  pub outside : m.kind s.state ≤ 1 → (s.ts ≡ None) × (s.kept ≡ None)
  pub inside : 2 ≤ m.kind s.state → StartsBy s.ts s.next × KeptSpans s.kept s.ts s.te
  pub stack : AllByRecursion (λ q. m.kind q ≤ 1) s.stack
  pub top : s.next ≤ 2 ^ 63
  pub backs : s.backs < 65536

-- what a session has left: up to the greatest position, of goings back, of the token, and up to the next position
abbrev pub bounds : {S : Type 0} → Session S → List ℕ
bounds s = (2 ^ 63 - s.furthest) ∷ (65536 - s.backs) ∷ (2 ^ 63 - unwrap_or s.ts s.next) ∷ (2 ^ 63 - s.next) ∷ []

-- one list of numbers stands before another of its length in lexicographic order
abbrev pub IsLexBelow : List ℕ → List ℕ → Type 0
IsLexBelow [] ys = ⊥
IsLexBelow (x ∷ xs) [] = ⊥
IsLexBelow (x ∷ xs) (y ∷ ys) = (x < y) ⊎ (x ≡ y) × IsLexBelow xs ys

-- the four numbers as one, which falls exactly where they fall in lexicographic order
unfoldable pub tail_weight : {S : Type 0} → Session S → ℕ
tail_weight s = (2 ^ 63 - unwrap_or s.ts s.next) * 2 ^ 64 + (2 ^ 63 - s.next)

unfoldable pub weight : {S : Type 0} → Session S → ℕ
weight s = ((2 ^ 63 - s.furthest) * 2 ^ 64 + (65536 - s.backs)) * 2 ^ 128 + tail_weight s

-- the session after a turn that did not stop it
pub record GoesOn {S : Type 0} (m : Machine S) (settings : Settings) (s t : Session S) : Type 0 where
  pub fine : IsFine m t
  pub falls : weight t < weight s
  pub descends : IsLexBelow (bounds t) (bounds s)
  pub keeps : keep settings s ≤ keep settings t

abbrev pub UnlessStops : Flow → Type 0 → Type 0
UnlessStops (Stops cause) P = Unit {0}
UnlessStops Goes P = P
UnlessStops Jumps P = P
UnlessStops Breaks P = P
