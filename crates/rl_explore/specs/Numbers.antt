-- Configurations that get numbers in order of first use.
use Rattle.std.specs.Prelude.{◌≡◌, ℕ, ◌<◌, ◌≤◌, Bool, true, false, List, [], ◌∷◌, ◌++◌, ◌⊎◌, length, map, Some, slice_get, unwrap_or}
use Rattle.rl_types.specs.Limits.{most_configurations}
use Rattle.rl_types.specs.declared.numbers.Letter.{Letter}
use Rattle.rl_sets.specs.Sets.{In}
use Rattle.rl_automata.specs.declared.moves.Move.{Move}
use Rattle.rl_automata.specs.declared.tree.Kind.{Kind}
use Rattle.rl_automata.specs.Auto.{Auto}
use Rattle.rl_automata.specs.Follows.{Reach}
use Rattle.rl_automata.specs.Refused.{AreDifferent, HasMore, JamsSomewhere}
use Rattle.rl_fsm.specs.declared.edge.Edge.{Edge}
use Rattle.rl_fsm.specs.declared.state.State.{State}
use Rattle.rl_fsm.specs.Graphs.{carry_out, marks_of}
use Rattle.rl_fsm.specs.Builds.{known_after, known_from, targets_in}
use Rattle.rl_explore.specs.declared.found.Found.{Found}
use Rattle.rl_explore.specs.declared.made.Told.{Told}
use Rattle.rl_explore.specs.declared.made.Made.{Made}
use Rattle.rl_explore.specs.Rows.{IsRow}
use Rattle.rl_explore.specs.declared.fault.BuildFault.{BuildFault}
use Rattle.rl_explore.specs.declared.fault.BuildFault.TheVariants.{L6, L8, F12, F15, Memory}

-- the fault is L6 and this holds, or it is want of memory
abbrev pub IsFull : Type 0 → BuildFault → Type 0
IsFull P L6 = P
IsFull P L8 = ⊥
IsFull P (F12 i) = ⊥
IsFull P F15 = ⊥
IsFull P Memory = Unit {0}

module _ {S : Type 0} where
  -- c has the number n in `new`, which is `old` with c behind it where it was not there
  pub record HasNumber (old new : List S) (c : S) (n : ℕ) : Type 0 where
    pub there : slice_get new n ≡ Some c
    pub grows : (new ≡ old) × (n < length old) ⊎ (new ≡ old ++ c ∷ []) × (n ≡ length old)
    pub differ : AreDifferent old → AreDifferent new

  -- the longer list begins with the shorter one
  abbrev pub Extends : List S → List S → Type 0
  Extends old new = (more : List S) × (new ≡ old ++ more)

  -- the configuration of a number; d where no configuration has it
  abbrev pub name_at : List S → ℕ → S → S
  name_at names i d = unwrap_or (slice_get names i) d

  -- the edge with its target's configuration
  abbrev pub with_name : List S → S → Edge → Found S
  with_name names d e = record {
    range = e.range;
    asks = e.asks;
    truths = e.truths;
    to = name_at names e.target d;
    carry = record { actions = e.actions; table = e.priors };
  }

  abbrev pub tos : List (Found S) → List S
  tos fs = map (λ f. f.to) fs

  -- the edges have numbers in place of the configurations; those that had none got the next ones
  pub record AreNumbered (old new : List S) (fs : List (Found S)) (es : List Edge) : Type 0 where
    pub named : (d : S) → map (with_name new d) es ≡ fs
    pub below : (e : Edge) → In e es → e.target < length new
    pub extends : Extends old new
    pub known : known_after (length old) (map (λ (e : Edge). e.target) es) ≡ Some (length new)
    pub differ : AreDifferent old → AreDifferent new
    pub from : (x : S) → In x new → In x old ⊎ In x (tos fs)

  -- more different configurations than there is room for, each of them an old one or one of these
  abbrev pub Overflows : ℕ → List S → (S → Type 0) → Type 0
  Overflows room old P = AreDifferent old → (cs : List S) × AreDifferent cs × ((x : S) → In x cs → In x old ⊎ P x) × (room < length cs)

  -- a letter leads from c to x
  abbrev pub LeadsTo : Auto S → S → S → Type 0
  LeadsTo A c x = (l : Letter) × (m : Move S) × (A.step c l ≡ Some m) × (m.to ≡ x)

  -- what the state says of the configuration c, when targets are named
  pub record IsState (A : Auto S) (names : List S) (c : S) (s : State) : Type 0 where
    pub row : (d : S) → IsRow A c (map (with_name names d) s.edges)
    pub below : (e : Edge) → In e s.edges → e.target < length names
    pub final : s.fin ≡ A.final c
    pub out : carry_out s.out ≡ A.out c
    pub marks : (k : Kind) → marks_of k s.marks ≡ A.marks c k

  -- the names grow by what steps of c lead to, in order
  pub record Grows (A : Auto S) (c : S) (old new : List S) (s : State) : Type 0 where
    pub extends : Extends old new
    pub known : known_after (length old) (targets_in s) ≡ Some (length new)
    pub differ : AreDifferent old → AreDifferent new
    pub from : (x : S) → In x new → In x old ⊎ LeadsTo A c x

  -- what is told of c: its row, whether the candidates are a cycle at some letter, and what stays with it
  pub record IsTold (A : Auto S) (jams : S → Letter → Bool) (c : S) (t : Told S) : Type 0 where
    pub row : IsRow A c t.row.found.items
    pub final : t.fin ≡ A.final c
    pub out : t.out ≡ A.out c
    pub marks : (k : Kind) → marks_of k t.marks ≡ A.marks c k
    pub cycle : t.row.cycle ≡ true → (l : Letter) × (jams c l ≡ true)
    pub clear : t.row.cycle ≡ false → (l : Letter) → jams c l ≡ false

  -- the state is that of c, and the names grew for it
  pub record IsMade (A : Auto S) (jams : S → Letter → Bool) (c : S) (old new : List S) (m : Made) : Type 0 where
    pub state : IsState A new c m.state
    pub grows : Grows A c old new m.state
    pub cycle : m.cycle ≡ true → (l : Letter) × (jams c l ≡ true)
    pub clear : m.cycle ≡ false → (l : Letter) → jams c l ≡ false

-- As far as an exploration has come: these configurations were found, the states of the first ones are made, and
-- `cycle` tells whether a cycle of priorities was met.
pub record Explored {S : Type 0} (A : Auto S) (jams : S → Letter → Bool) (room : ℕ) (names : List S) (states : List State) (cycle : Bool) : Type 0 where
  pub few : length names ≤ room
  pub within : length states ≤ length names
  pub start : slice_get names 0 ≡ Some A.start
  pub differ : AreDifferent names
  pub reached : (c : S) → In c names → Reach A c
  pub made : (j : ℕ) (c : S) (s : State) → slice_get names j ≡ Some c → slice_get states j ≡ Some s → IsState A names c s
  pub known : known_from 0 1 states ≡ Some (length names)
  pub jammed : cycle ≡ true → JamsSomewhere A jams
  pub clear : cycle ≡ false → (j : ℕ) (c : S) → j < length states → slice_get names j ≡ Some c → (l : Letter) → jams c l ≡ false

-- a fault of an exploration that has room for so many configurations, of an operator that may have `most`, and its cause
abbrev pub IsCauseWithin : {S : Type 0} → ℕ → Auto S → (S → Letter → Bool) → ℕ → BuildFault → Type 0
IsCauseWithin room A jams most L6 = HasMore A room
IsCauseWithin room A jams most L8 = ¬ HasMore A room × HasMore A most
IsCauseWithin room A jams most (F12 i) = ⊥
IsCauseWithin room A jams most F15 = ¬ HasMore A room × ¬ HasMore A most × JamsSomewhere A jams
IsCauseWithin room A jams most Memory = Unit {0}

-- no cause for a fault
abbrev pub HasNoCauseWithin : {S : Type 0} → ℕ → Auto S → (S → Letter → Bool) → ℕ → Type 0
HasNoCauseWithin room A jams most = ¬ HasMore A room × ¬ HasMore A most × ¬ JamsSomewhere A jams

-- the same of a node, which may have 32,767 configurations
abbrev pub IsCause : {S : Type 0} → Auto S → (S → Letter → Bool) → ℕ → BuildFault → Type 0
IsCause A jams most fault = IsCauseWithin most_configurations A jams most fault

abbrev pub HasNoCause : {S : Type 0} → Auto S → (S → Letter → Bool) → ℕ → Type 0
HasNoCause A jams most = HasNoCauseWithin most_configurations A jams most
