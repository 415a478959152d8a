-- When the look-ups of two machines agree, up to names of states and actions.
use Rattle.std.specs.Prelude.{◌≡◌, ℕ, List, map, Option, Some, None}
use Rattle.std.specs.List.{AllByRecursion}
use Rattle.rl_types.specs.declared.numbers.Key.{Key}
use Rattle.rl_run.specs.declared.calls.Call.{Call}
use Rattle.rl_run.specs.declared.calls.CallKind.{CallKind}
use Rattle.rl_run.specs.declared.calls.CallKind.TheVariants.{From, Ask, Do, Error, To, Token, Eof}
use Rattle.rl_run.specs.declared.statements.Statement.{Statement}
use Rattle.rl_run.specs.Machine.{Go, Machine}

-- conditions keep their numbers
module _ (ρ : ℕ → ℕ) where
  abbrev pub renames : CallKind → ℕ → ℕ
  renames Ask action = action
  renames From action = ρ action
  renames Do action = ρ action
  renames Error action = ρ action
  renames To action = ρ action
  renames Token action = ρ action
  renames Eof action = ρ action

  abbrev pub renamed : Call → Call
  renamed c = record c { action = record { 0 = renames c.kind c.action.0 } }

abbrev pub name_by : CallKind → List ℕ → List ℕ → List ℕ
name_by Ask condition action = condition
name_by From condition action = action
name_by Do condition action = action
name_by Error condition action = action
name_by To condition action = action
name_by Token condition action = action
name_by Eof condition action = action

-- the name of the action or of the condition that is called
abbrev pub name_of : {S : Type 0} → Machine S → Call → List ℕ
name_of m c = name_by c.kind (m.condition_name c.action.0) (m.action_name c.action.0)

-- what is called has the same statements; a condition has none
abbrev pub SameStatements : CallKind → (ℕ → Option Statement) → (ℕ → Option Statement) → Type 0
SameStatements Ask f g = Unit {0}
SameStatements From f g = (n : ℕ) → g n ≡ f n
SameStatements Do f g = (n : ℕ) → g n ≡ f n
SameStatements Error f g = (n : ℕ) → g n ≡ f n
SameStatements To f g = (n : ℕ) → g n ≡ f n
SameStatements Token f g = (n : ℕ) → g n ≡ f n
SameStatements Eof f g = (n : ℕ) → g n ≡ f n

-- the same call but for the number, with the same name and statements
abbrev pub CallR : {S T : Type 0} → Machine S → Machine T → (ℕ → ℕ) → Call → Call → Type 0
CallR m w ρ c d = (d ≡ renamed ρ c) × (name_of w d ≡ name_of m c) × SameStatements c.kind (m.statement c.action.0) (w.statement d.action.0)

module _ {S T : Type 0} (m : Machine S) (w : Machine T) (ρ : ℕ → ℕ) (R : S → T → Type 0) where
  -- the action's new number has the action's statements and its name
  abbrev pub Agrees : ℕ → Type 0
  Agrees a = ((n : ℕ) → w.statement (ρ a) n ≡ m.statement a n) × (w.action_name (ρ a) ≡ m.action_name a)

  abbrev pub ListR : List ℕ → List ℕ → Type 0
  ListR xs ys = (ys ≡ map ρ xs) × AllByRecursion Agrees xs

  abbrev pub GoR : Option (Go S) → Option (Go T) → Type 0
  GoR None None = Unit {0}
  GoR (Some g) (Some h) = R g.target h.target × ListR g.list h.list
  GoR None (Some h) = ⊥
  GoR (Some g) None = ⊥

  -- the look-ups agree at states that stand for each other
  pub record IsTwin : Type 0 where
    pub width : w.width ≡ m.width
    pub key_of : (character : ℕ) → w.key_of character ≡ m.key_of character
    pub asked : (q : S) (p : T) (key : Key) → R q p → w.asked p key ≡ m.asked q key
    pub find : (q : S) (p : T) (key : Key) (hold : ℕ) → R q p → GoR (m.find q key hold) (w.find p key hold)
    pub from : (q : S) (p : T) → R q p → ListR (m.from q) (w.from p)
    pub to : (q : S) (p : T) → R q p → ListR (m.to q) (w.to p)
    pub error : (q : S) (p : T) → R q p → ListR (m.error q) (w.error p)
    pub eof : (q : S) (p : T) → R q p → ListR (m.eof q) (w.eof p)
    pub token : (q : S) (p : T) → R q p → ListR (m.token q) (w.token p)
    pub kind : (q : S) (p : T) → R q p → w.kind p ≡ m.kind q
    pub final : (q : S) (p : T) → R q p → w.final p ≡ m.final q
    pub home : (q : S) (p : T) → R q p → R (m.home q) (w.home p)
    pub failed : R m.failed w.failed
    pub is_failed : (q : S) (p : T) → R q p → w.is_failed p ≡ m.is_failed q
    pub condition_name : (c : ℕ) → w.condition_name c ≡ m.condition_name c
    pub entry_name : (e : ℕ) → w.entry_name e ≡ m.entry_name e
    pub entry : (e : ℕ) → R (m.entry e) (w.entry e)

-- states that a third one joins
abbrev pub After : {S T U : Type 0} → (S → T → Type 0) → (T → U → Type 0) → S → U → Type 0
After {T = T} R Q q p = (s : T) × R q s × Q s p
