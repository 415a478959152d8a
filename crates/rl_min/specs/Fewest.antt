-- No machine has fewer states.
use Rattle.std.specs.Prelude.{◌≡◌, ℕ, ◌≤◌, List, [], ◌∷◌, Option, Some, None, length}
use Rattle.rl_types.specs.declared.numbers.Key.{Key}
use Rattle.rl_fsm.specs.declared.root.EntryFsm.{EntryFsm}
use Rattle.rl_run.specs.Machine.{Go, Machine}
use Rattle.rl_model.specs.Parts.{Context}
use Rattle.rl_minimal.specs.Minimal.{Minimal}
use Rattle.rl_minimal.specs.Machine.{min_machine}

module _ {S T : Type 0} (m : Machine S) (w : Machine T) where
  -- what states of two machines show; Error shows itself
  pub record ShowSame (q : S) (p : T) : Type 0 where
    pub asked : (key : Key) → w.asked p key ≡ m.asked q key
    pub from : w.from p ≡ m.from q
    pub to : w.to p ≡ m.to q
    pub error : w.error p ≡ m.error q
    pub eof : w.eof p ≡ m.eof q
    pub token : w.token p ≡ m.token q
    pub kind : w.kind p ≡ m.kind q
    pub final : w.final p ≡ m.final q
    pub is_failed : w.is_failed p ≡ m.is_failed q

  abbrev pub BothStep : (S → T → Type 0) → Option (Go S) → Option (Go T) → Type 0
  BothStep after None None = Unit {0}
  BothStep after (Some g) (Some h) = (h.list ≡ g.list) × after g.target h.target
  BothStep after None (Some h) = ⊥
  BothStep after (Some g) None = ⊥

  -- along a word both step or neither does, with the same lists, and both show the same at its end
  abbrev pub AgreeAlong : List (Key × ℕ) → S → T → Type 0
  AgreeAlong [] q p = ShowSame q p
  AgreeAlong (l ∷ word) q p = BothStep (AgreeAlong word) (m.find q l.0 l.1) (w.find p l.0 l.1)

  -- states of two machines agree along every word, and so do their homes
  abbrev pub AreAlike : S → T → Type 0
  AreAlike q p = ((word : List (Key × ℕ)) → AgreeAlong word q p) × ((word : List (Key × ℕ)) → AgreeAlong word (m.home q) (w.home p))

-- so many entries of two machines are alike, one by one
abbrev pub HaveAlikeEntries : ℕ → Minimal → Minimal → Context → Type 0
HaveAlikeEntries count m w context = (e : ℕ) → 1 ≤ e → e ≤ count → AreAlike (min_machine m context) (min_machine w context) ((min_machine m context).entry e) ((min_machine w context).entry e)
