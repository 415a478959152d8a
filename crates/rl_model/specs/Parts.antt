-- The look-ups of a run, made from one automaton for each entry.
use Rattle.std.specs.Prelude.{◌≡◌, ℕ, Bool, true, false, cond, ◌&&◌, List, [], ◌++◌, nat_eq, nat_le, Option, Some, None}
use Rattle.std.specs.Option.{option_map}
use Rattle.rl_labels.specs.Labels.{stamps_of, once}
use Rattle.rl_types.specs.declared.numbers.Key.{Key}
use Rattle.rl_types.specs.declared.numbers.Letter.{Letter}
use Rattle.rl_automata.specs.declared.moves.Move.{Move}
use Rattle.rl_automata.specs.declared.tree.Kind.TheVariants as K
use Rattle.rl_automata.specs.Auto.{Auto, is_start}
use Rattle.rl_automata.specs.Follows.{Reach, Follows}
use Rattle.rl_run.specs.declared.statements.Statement.{Statement}
use Rattle.rl_run.specs.Machine.{Go, Machine}

-- an entry: an automaton and, for a scanner, the token lists of its matches and which states no letter leaves
pub record Part (S : Type 0) : Type 0 where
  pub auto : Auto S
  pub is_scanner : Bool
  pub token : S → List ℕ
  pub closed : S → Bool

-- what a machine has beside its states
pub record Context : Type 0 where
  pub width : ℕ
  pub key_of : ℕ → Key
  pub statement : ℕ → ℕ → Option Statement
  pub action_name : ℕ → List ℕ
  pub condition_name : ℕ → List ℕ
  pub entry_name : ℕ → List ℕ

abbrev pub letter_of : Key → ℕ → Letter
letter_of key hold = record { key = key.0; truths = hold }

module _ {S : Type 0} (p : Part S) where
  -- 0 plain; in a scanner 1 the start, 2 no match, 3 a match that a letter may lengthen, 4 a match that none can
  abbrev pub kind_in : S → ℕ
  kind_in s =
      cond p.is_scanner
      (cond (is_start p.auto s) 1 (cond (p.auto.final s) (cond (p.closed s) 4 3) 2))
      0

  -- a scanner's state is final where it is the start
  abbrev pub final_in : S → Bool
  final_in s = cond p.is_scanner (nat_eq (kind_in s) 1) (p.auto.final s)

  -- a scanner's lists for errors and for the end of input are empty
  abbrev pub plain_list : List ℕ → List ℕ
  plain_list xs = cond p.is_scanner [] xs

  abbrev pub error_in : S → List ℕ
  error_in s = plain_list (once (p.auto.marks s K.Error))

  -- the end-of-file marks with the leaving actions where the state is final, else with the error marks
  abbrev pub eof_in : S → List ℕ
  eof_in s = plain_list (once (stamps_of (p.auto.marks s K.Eof ++ cond (p.auto.final s) (p.auto.out s).actions (p.auto.marks s K.Error))))

  abbrev pub token_in : S → List ℕ
  token_in s = cond p.is_scanner (p.token s) []

-- Error, or an entry's number and a state of its automaton
abbrev pub EntryState : (ℕ → Type 0) → Type 0
EntryState C = Option ((e : ℕ) × C e)

-- entries have the numbers from 1 to how many there are
abbrev pub is_entry : ℕ → ℕ → Bool
is_entry count e = nat_le 1 e && nat_le e count

module _ (C : ℕ → Type 0) (part : (e : ℕ) → Part (C e)) where
  -- what is told of a state; d of Error
  abbrev pub told : {X : Type 0} → X → ((e : ℕ) → C e → X) → EntryState C → X
  told d f None = d
  told d f (Some (e, s)) = f e s

  abbrev pub start_at : ℕ → EntryState C
  start_at e = Some (e, (part e).auto.start)

  abbrev pub go_at : (e : ℕ) → Move (C e) → Go (EntryState C)
  go_at e m = record { target = Some (e, m.to); list = once m.carry.actions }

  -- the machine of so many entries; Error has no step, asks nothing, and its lists are empty
  abbrev pub machine : ℕ → Context → Machine (EntryState C)
  machine count context = record {
    width = context.width;
    key_of = context.key_of;
    asked = λ q key. told 0 (λ e s. (part e).auto.asked s key.0) q;
    find = λ q key hold. told None (λ e s. option_map (go_at e) ((part e).auto.step s (letter_of key hold))) q;
    from = told [] (λ e s. once ((part e).auto.marks s K.From));
    to = told [] (λ e s. once ((part e).auto.marks s K.To));
    error = told [] (λ e s. error_in (part e) s);
    eof = told [] (λ e s. eof_in (part e) s);
    token = told [] (λ e s. token_in (part e) s);
    kind = told 0 (λ e s. kind_in (part e) s);
    final = told false (λ e s. final_in (part e) s);
    home = told None (λ e s. cond (part e).is_scanner (start_at e) None);
    failed = None;
    is_failed = told true (λ e s. false);
    entry = λ e. cond (is_entry count e) (start_at e) None;
    statement = context.statement;
    action_name = context.action_name;
    condition_name = context.condition_name;
    entry_name = context.entry_name;
  }

  -- Error, or a state that some word leads to
  abbrev pub IsReached : EntryState C → Type 0
  IsReached None = Unit {0}
  IsReached (Some (e, s)) = Reach (part e).auto s

-- one entry's automaton is another's under other names, with the same token lists and kinds
pub record PartFollows {S T : Type 0} (A : Part S) (B : Part T) (name : S → T) : Type 0 where
  pub auto : Follows A.auto B.auto name
  pub is_scanner : A.is_scanner ≡ B.is_scanner
  pub token : (s : S) → Reach A.auto s → token_in A s ≡ token_in B (name s)
  pub kind : (s : S) → Reach A.auto s → kind_in A s ≡ kind_in B (name s)

-- a state of the one machine stands for a state of the other, to which some word leads, and whose name it is
module _ (C D : ℕ → Type 0) (B : (e : ℕ) → Part (D e)) (name : (e : ℕ) → D e → C e) where
  abbrev pub named : EntryState D → EntryState C
  named None = None
  named (Some (e, s)) = Some (e, name e s)

  abbrev pub StandsAt : EntryState C → EntryState D → Type 0
  StandsAt q p = (q ≡ named p) × IsReached D B p
