-- Classes of states that agree, and the machine of the classes.
use Rattle.std.specs.Prelude.{◌≡◌, ℕ, List, [], ◌∷◌, Option, Some, None}
use Rattle.std.specs.Option.{option_map}
use Rattle.rl_types.specs.declared.numbers.Key.{Key}
use Rattle.rl_run.specs.Machine.{Go, Machine}

module _ {S : Type 0} (m : Machine S) (class : S → ℕ) where
  abbrev pub class_go : Go S → Go ℕ
  class_go g = record { target = class g.target; list = g.list }

  -- the machine of the classes, each by one of its states
  abbrev pub quotient : (ℕ → S) → Machine ℕ
  quotient state = record {
    width = m.width;
    key_of = m.key_of;
    asked = λ p key. m.asked (state p) key;
    find = λ p key hold. option_map class_go (m.find (state p) key hold);
    from = λ p. m.from (state p);
    to = λ p. m.to (state p);
    error = λ p. m.error (state p);
    eof = λ p. m.eof (state p);
    token = λ p. m.token (state p);
    kind = λ p. m.kind (state p);
    final = λ p. m.final (state p);
    home = λ p. class (m.home (state p));
    failed = class m.failed;
    is_failed = λ p. m.is_failed (state p);
    entry = λ e. class (m.entry e);
    statement = m.statement;
    action_name = m.action_name;
    condition_name = m.condition_name;
    entry_name = m.entry_name;
  }

  -- two states show the same, and their steps and homes lead to the same classes
  pub record LooksAlike (q p : S) : Type 0 where
    pub asked : (key : Key) → m.asked p key ≡ m.asked q key
    pub find : (key : Key) (hold : ℕ) → option_map class_go (m.find p key hold) ≡ option_map class_go (m.find q key hold)
    pub from : m.from p ≡ m.from q
    pub to : m.to p ≡ m.to q
    pub error : m.error p ≡ m.error q
    pub eof : m.eof p ≡ m.eof q
    pub token : m.token p ≡ m.token q
    pub kind : m.kind p ≡ m.kind q
    pub final : m.final p ≡ m.final q
    pub home : class (m.home p) ≡ class (m.home q)
    pub is_failed : m.is_failed p ≡ m.is_failed q

  -- `state` has a state of each class that is used, and all states of a class look alike; `In` tells which states a run can reach
  pub record IsStable (In : S → Type 0) (state : ℕ → S) : Type 0 where
    pub alike : (q : S) → In q → LooksAlike q (state (class q))
    pub steps : (q : S) (key : Key) (hold : ℕ) (g : Go S) → In q → m.find q key hold ≡ Some g → In g.target
    pub homes : (q : S) → In q → In (m.home q)
    pub failed : In m.failed
    pub entries : (e : ℕ) → In (m.entry e)

  abbrev pub InClass : (S → Type 0) → S → ℕ → Type 0
  InClass In q p = (p ≡ class q) × In q

module _ {S : Type 0} (m : Machine S) where
  -- what a state shows; Error shows itself
  pub record ShowSame (q p : S) : Type 0 where
    pub asked : (key : Key) → m.asked p key ≡ m.asked q key
    pub from : m.from p ≡ m.from q
    pub to : m.to p ≡ m.to q
    pub error : m.error p ≡ m.error q
    pub eof : m.eof p ≡ m.eof q
    pub token : m.token p ≡ m.token q
    pub kind : m.kind p ≡ m.kind q
    pub final : m.final p ≡ m.final q
    pub is_failed : m.is_failed p ≡ m.is_failed q

  abbrev pub BothStep : (S → S → Type 0) → Option (Go S) → Option (Go S) → Type 0
  BothStep after None None = Unit {0}
  BothStep after (Some g) (Some h) = (h.list ≡ g.list) × after g.target h.target
  BothStep after None (Some h) = ⊥
  BothStep after (Some g) None = ⊥

  -- along a word both step or neither does, with the same lists, and both show the same at its end
  abbrev pub AgreeAlong : List (Key × ℕ) → S → S → Type 0
  AgreeAlong [] q p = ShowSame q p
  AgreeAlong (l ∷ word) q p = BothStep (AgreeAlong word) (m.find q l.0 l.1) (m.find p l.0 l.1)

  abbrev pub Agree : S → S → Type 0
  Agree q p = (word : List (Key × ℕ)) → AgreeAlong word q p

  abbrev pub AreAlike : S → S → Type 0
  AreAlike q p = Agree q p × Agree (m.home q) (m.home p)

  -- the numbers are those of the classes of alike states, among the states that `In` tells
  pub record AreClasses (In : S → Type 0) (class : S → ℕ) (state : ℕ → S) : Type 0 where
    pub sound : (q p : S) → In q → In p → class q ≡ class p → AreAlike q p
    pub complete : (q p : S) → In q → In p → AreAlike q p → class q ≡ class p
    pub picks : (q : S) → In q → In (state (class q)) × (class (state (class q)) ≡ class q)

  -- the states that runs reach, and their homes
  pub record AreReached (In : S → Type 0) : Type 0 where
    pub steps : (q : S) (key : Key) (hold : ℕ) (g : Go S) → In q → m.find q key hold ≡ Some g → In g.target × (m.home g.target ≡ m.home q)
    pub homes : (q : S) → In q → In (m.home q) × (m.home (m.home q) ≡ m.home q)
    pub failed : In m.failed
    pub entries : (e : ℕ) → In (m.entry e)
