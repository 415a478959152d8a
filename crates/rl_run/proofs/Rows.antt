-- Runs that are computed. The machine has the expression 'ab' with the action 1 on each character, and a second entry, whose start has the
-- to-state action 2. The action 1 has three statements: a goto to the second entry, a return, and a hold.
use Rattle.std.proofs.Common.{◌≡◌, ℕ, Bool, true, false, cond, pos, List, [], ◌∷◌, ◌++◌, map, Option, Some, None, refl, nat_eq, ◌&&◌, int_lt, not}
use Rattle.std.specs.List.{flat_map, range_with_len}
use Rattle.rl_types.specs.declared.numbers.Key.{Key}
use Rattle.rl_types.specs.Alphabet.{characters}
use Rattle.rl_types.specs.declared.numbers.EntryId.{EntryId}
use Rattle.rl_run.specs.declared.calls.Call.{Call}
use Rattle.rl_run.specs.declared.calls.Pick.{Pick}
use Rattle.rl_run.specs.declared.calls.Answer.{Answer}
use Rattle.rl_run.specs.declared.calls.Answer.TheVariants.{Yes, Picks}
use Rattle.rl_run.specs.declared.calls.CallKind.TheVariants.{Do, To}
use Rattle.rl_run.specs.declared.calls.Outcome.TheVariants.{Ended, Stopped}
use Rattle.rl_run.specs.declared.calls.Stop.TheVariants.{Back, StackEmpty, HalfKey}
use Rattle.rl_run.specs.declared.sessions.Settings.{Settings}
use Rattle.rl_run.specs.declared.statements.Statement.{Statement}
use Rattle.rl_run.specs.declared.statements.StatementKind.{StatementKind}
use Rattle.rl_run.specs.declared.statements.StatementKind.TheVariants.{Hold, Goto, Ret}
use Rattle.rl_run.specs.declared.statements.GoalBase.TheVariants.{Unread}
use Rattle.rl_run.specs.Machine.{Go, Machine, Session, fresh}
use Rattle.rl_run.specs.Run.{Input, input_at, rest, turns, at_letter, after, at_end, ending, at_kept, last_list, last_delivery}
use Rattle.rl_run.specs.Turn.{if_goes, deliver, marked, stepped, failed, missed, chosen, if_heard, sought, finished, body, turn}
use Rattle.rl_run.specs.Play.{ended, run}
use Rattle.rl_run.specs.Chain.{run_on}
use Rattle.rl_run.specs.Fine.{weight, tail_weight}
use Rattle.rl_run.specs.Numbers.{firsts, targets}

settings : Settings
settings = record { stack = 64; look = 8; token_max = 65536 }

abbrev same_key : Key → ℕ → Bool
same_key key n = not (int_lt key.0 (pos n)) && not (int_lt (pos n) key.0)

abbrev find_ab : ℕ → Key → Option (Go ℕ)
find_ab state key =
    cond (nat_eq state 1 && same_key key 97) (Some (record { target = 2; list = 1 ∷ [] }))
    (cond (nat_eq state 2 && same_key key 98) (Some (record { target = 4; list = 1 ∷ [] })) None)

abbrev plain : StatementKind → Option EntryId → Statement
plain kind entry = record { kind = kind; outer = true; entry = entry; base = Unread; offset = pos 0 }

abbrev statement_of : ℕ → ℕ → Option Statement
statement_of action n =
    cond (nat_eq action 1 && nat_eq n 1) (Some (plain Goto (Some (record { 0 = 2 }))))
    (cond (nat_eq action 1 && nat_eq n 2) (Some (plain Ret None))
    (cond (nat_eq action 1 && nat_eq n 3) (Some (plain Hold None)) None))

abbrev ab : Machine ℕ
ab = record {
  width = 1;
  key_of = λ n. record { 0 = pos n };
  asked = λ state key. 0;
  find = λ state key hold. find_ab state key;
  from = λ state. [];
  to = λ state. cond (nat_eq state 3) (2 ∷ []) [];
  error = λ state. [];
  eof = λ state. [];
  token = λ state. [];
  kind = λ state. 0;
  final = λ state. nat_eq state 4;
  home = λ state. 0;
  failed = 0;
  is_failed = λ state. nat_eq state 0;
  entry = λ e. cond (nat_eq e 1) 1 (cond (nat_eq e 2) 3 0);
  statement = statement_of;
  action_name = λ a. [];
  condition_name = λ c. [];
  entry_name = λ e. [];
}

abbrev do_x : ℕ → ℕ → ℕ → Call
do_x at next key = record { kind = Do; action = record { 0 = 1 }; at = at; next = next; key = Some (record { 0 = pos key }); ts = None; te = None }

abbrev take : ℕ → Pick
take n = record { statement = n; goal = None }

abbrev picks : Pick → Option Pick → Answer
picks first second = Picks (Some first ∷ second ∷ None ∷ None ∷ [])

abbrev text : List ℕ → Input
text bytes = input_at 1 0 bytes true

abbrev at_state : ℕ → ℕ → ℕ → ℕ → Session ℕ
at_state state next furthest backs = record (fresh state) { next = next; furthest = furthest; backs = backs }

-- ab: the action is called behind each character
on_each_character : run (run_on false ab settings (text (97 ∷ 98 ∷ [])) (fresh 1)) (Yes ∷ Yes ∷ []) ≡
    record { calls = do_x 0 1 97 ∷ do_x 1 2 98 ∷ []; reached = ended (rest (Some Ended) (at_state 4 2 2 0)) }
unfolding settings characters run_on weight tail_weight turns at_letter after at_end ending at_kept last_list last_delivery if_goes deliver marked stepped failed missed chosen if_heard sought finished body turn
on_each_character = refl

-- a jump to the second entry: its to-state action is called in the same turn
to_after_a_jump : run (run_on false ab settings (text (97 ∷ [])) (fresh 1)) (picks (take 1) None ∷ Yes ∷ []) ≡
    record { calls = do_x 0 1 97 ∷ record (do_x 0 1 97) { kind = To; action = record { 0 = 2 } } ∷ []; reached = ended (rest (Some Ended) (at_state 3 1 1 0)) }
unfolding settings characters run_on weight tail_weight turns at_letter after at_end ending at_kept last_list last_delivery if_goes deliver marked stepped failed missed chosen if_heard sought finished body turn
to_after_a_jump = refl

-- a return with nothing on the stack
nothing_to_return_to : run (run_on false ab settings (text (97 ∷ [])) (fresh 1)) (picks (take 2) None ∷ []) ≡
    record { calls = do_x 0 1 97 ∷ []; reached = ended (rest (Some (Stopped (StackEmpty (take 2)))) (at_state 2 1 0 0)) }
unfolding settings characters run_on weight tail_weight turns at_letter after at_end ending at_kept last_list last_delivery if_goes deliver marked stepped failed missed chosen if_heard sought finished body turn
nothing_to_return_to = refl

-- two holds at the first character: the second one would go below the input's start
held_twice : run (run_on false ab settings (text (97 ∷ [])) (fresh 1)) (picks (take 3) (Some (take 3)) ∷ []) ≡
    record { calls = do_x 0 1 97 ∷ []; reached = ended (rest (Some (Stopped (Back (take 3)))) (at_state 2 0 0 1)) }
unfolding settings characters run_on weight tail_weight turns at_letter after at_end ending at_kept last_list last_delivery if_goes deliver marked stepped failed missed chosen if_heard sought finished body turn
held_twice = refl

-- characters of two bytes: the third byte fills none
half_a_character : run (run_on false (record ab { width = 2 }) settings (input_at 2 0 (97 ∷ 0 ∷ 98 ∷ []) true) (fresh 1)) (Yes ∷ []) ≡
    record { calls = do_x 0 1 97 ∷ []; reached = ended (rest (Some (Stopped HalfKey)) (at_state 2 1 1 0)) }
unfolding settings characters run_on weight tail_weight turns at_letter after at_end ending at_kept last_list last_delivery if_goes deliver marked stepped failed missed chosen if_heard sought finished body turn
half_a_character = refl

abbrev letters : List (Key × ℕ)
letters = (record { 0 = pos 97 }, 0) ∷ (record { 0 = pos 98 }, 0) ∷ []

-- a breadth-first walk of this machine meets its states in this order, and 4, which is final, has the last number
walked : firsts (map (λ e. ab.entry e) (range_with_len 1 2) ++ flat_map (targets ab letters 2 (λ q. q) (λ c. c)) (1 ∷ 3 ∷ 2 ∷ 4 ∷ [])) ≡ 1 ∷ 3 ∷ 2 ∷ 4 ∷ []
walked = refl
