-- Scripts, and what is written for them, computed.
use Rattle.std.proofs.Common.{◌≡◌, ℕ, true, false, cond, pos, negsuc, [], ◌∷◌, Option, Some, None, Ok, Err, refl, nat_eq, ◌&&◌, codes}
use Rattle.std.specs.Fmt.{digits}
use Rattle.rl_types.specs.Alphabet.{characters}
use Rattle.rl_run.specs.declared.statements.Statement.{Statement}
use Rattle.rl_run.specs.declared.statements.StatementKind.TheVariants as statements
use Rattle.rl_run.specs.declared.statements.GoalBase.TheVariants as bases
use Rattle.rl_run.specs.Machine.{Machine}
use Rattle.rl_run.specs.Run.{turns, at_letter, at_end, after, ending, at_kept, last_list, last_delivery}
use Rattle.rl_run.specs.Turn.{if_goes, deliver, marked, stepped, failed, missed, chosen, if_heard, sought, finished, body, turn}
use Rattle.rl_run.specs.Chain.{run_on}
use Rattle.rl_run.specs.Fine.{weight, tail_weight}
use Rattle.rl_replay.specs.declared.script.Event.TheVariants.{Open, Piece, Pick, Say}
use Rattle.rl_replay.specs.declared.script.ScriptFault.TheVariants.{NoName}
use Rattle.rl_replay.specs.Script.{event_of, read_script}
use Rattle.rl_replay.specs.Sessions.{script_of}
use Rattle.rl_replay.specs.Host.{statements_from, statements_of}
use Rattle.rl_replay.specs.ScriptRows.{names, same_key, ab, replay, AreThreeLines, IsNoLine, IsNotOpen, IsOpenedTwice, IsNoEntry, EachCallHasItsLine, StopsForGood, LeftAreTold, SessionsTakeTurns, SecondCallIsPicked, NoSuchStatement, HalfACharacter, ACharacterIsCut}

-- a script of three lines
pub three_lines : AreThreeLines
three_lines = refl

no_last_newline : read_script (codes "# one\n\nopen s main\npiece s \"a b\"") ≡
    Ok (record { number = 3; event = Open (codes "s") (Some (codes "main")) } ∷ record { number = 4; event = Piece (codes "s") (codes "a b") } ∷ [])
no_last_newline = refl

escapes : event_of (codes "piece s-1 \"\\n\\x0A\\xfF\\\\ \\\"\"") ≡ Some (Piece (codes "s-1") (10 ∷ 10 ∷ 255 ∷ 92 ∷ 32 ∷ 34 ∷ []))
escapes = refl

picks : event_of (codes "pick s again 3 1=-9223372036854775808,2,3=-0") ≡
    Some (Pick (codes "s") (codes "again") 3 ((1, Some (negsuc 9223372036854775807)) ∷ (2, None) ∷ (3, Some (pos 0)) ∷ []))
unfolding digits
picks = refl

no_picks : event_of (codes "pick s a 4294967295 -") ≡ Some (Pick (codes "s") (codes "a") 4294967295 [])
unfolding digits
no_picks = refl

says : event_of (codes "say s c 1 no") ≡ Some (Say (codes "s") (codes "c") 1 false)
unfolding digits
says = refl

leading_zero : event_of (codes "say s c 01 no") ≡ None
unfolding digits
leading_zero = refl

five_picks : event_of (codes "pick s a 1 1,2,3,4,5") ≡ None
unfolding digits
five_picks = refl

no_end_quote : event_of (codes "piece s \"a\" ") ≡ None
no_end_quote = refl

pub bad_word : IsNoLine
bad_word = refl

pub fed_unopened : IsNotOpen
fed_unopened = refl

pub opened_twice : IsOpenedTwice
opened_twice = refl

pub no_entry : IsNoEntry
no_entry = refl

no_action : script_of names (codes "pick s y 1 -\nopen s\n") ≡ Err (NoName 1)
unfolding digits
no_action = refl

pub each_call : EachCallHasItsLine
unfolding characters statements_from statements_of digits run_on weight tail_weight turns at_letter at_end after ending
    at_kept last_list last_delivery if_goes deliver marked stepped failed missed chosen if_heard sought finished body turn
each_call = refl

pub stopped : StopsForGood
unfolding characters statements_from statements_of digits run_on weight tail_weight turns at_letter at_end after ending
    at_kept last_list last_delivery if_goes deliver marked stepped failed missed chosen if_heard sought finished body turn
stopped = refl

pub left_behind : LeftAreTold
unfolding characters statements_from statements_of digits run_on weight tail_weight turns at_letter at_end after ending
    at_kept last_list last_delivery if_goes deliver marked stepped failed missed chosen if_heard sought finished body turn
left_behind = refl

pub interleaved : SessionsTakeTurns
unfolding characters statements_from statements_of digits run_on weight tail_weight turns at_letter at_end after ending
    at_kept last_list last_delivery if_goes deliver marked stepped failed missed chosen if_heard sought finished body turn
interleaved = refl

pub second_call_picked : SecondCallIsPicked
unfolding characters statements_from statements_of digits run_on weight tail_weight turns at_letter at_end after ending
    at_kept last_list last_delivery if_goes deliver marked stepped failed missed chosen if_heard sought finished body turn
second_call_picked = refl

pub no_such_statement : NoSuchStatement
unfolding characters statements_from statements_of digits run_on weight tail_weight turns at_letter at_end after ending
    at_kept last_list last_delivery if_goes deliver marked stepped failed missed chosen if_heard sought finished body turn
no_such_statement = refl

pub half_a_character : HalfACharacter
unfolding characters statements_from statements_of digits run_on weight tail_weight turns at_letter at_end after ending
    at_kept last_list last_delivery if_goes deliver marked stepped failed missed chosen if_heard sought finished body turn
half_a_character = refl

pub cut_character : ACharacterIsCut
unfolding characters statements_from statements_of digits run_on weight tail_weight turns at_letter at_end after ending
    at_kept last_list last_delivery if_goes deliver marked stepped failed missed chosen if_heard sought finished body turn
cut_character = refl

-- a scanner of one pattern, with an action in every list, under a condition
abbrev scanner : Machine ℕ
scanner = record {
  width = 1;
  key_of = λ byte. record { 0 = pos byte };
  asked = λ state key. cond (nat_eq state 1) 1 0;
  find = λ state key hold. cond (nat_eq state 1 && same_key key 97 && nat_eq hold 1) (Some (record { target = 2; list = 1 ∷ [] })) None;
  from = λ state. cond (nat_eq state 1) (1 ∷ []) [];
  to = λ state. cond (nat_eq state 1) (1 ∷ []) [];
  error = λ state. [];
  eof = λ state. 1 ∷ [];
  token = λ state. 1 ∷ [];
  kind = λ state. cond (nat_eq state 1) 1 (cond (nat_eq state 2) 4 0);
  final = λ state. nat_eq state 1;
  home = λ state. 1;
  failed = 0;
  is_failed = λ state. nat_eq state 0;
  entry = λ e. 1;
  statement = λ a n. None;
  action_name = λ a. codes "x";
  condition_name = λ c. codes "c";
  entry_name = λ e. codes "main";
}

all_kinds : replay scanner (codes "say s c 1 yes\nopen s\npiece s \"a\"\nend s") ≡ codes "s from x 0\ns ask c 0 yes\ns do x 0\ns token x 0 0 1\ns to x 0\ns eof x 1\ns end final 1\n"
unfolding characters statements_from statements_of digits run_on weight tail_weight turns at_letter at_end after ending
    at_kept last_list last_delivery if_goes deliver marked stepped failed missed chosen if_heard sought finished body turn
all_kinds = refl

told_no : replay scanner (codes "say s c 2 yes\nopen s\npiece s \"a\"\nend s") ≡ codes "s from x 0\ns ask c 0 no\ns stop error 0\ns end error 0\n"
unfolding characters statements_from statements_of digits run_on weight tail_weight turns at_letter at_end after ending
    at_kept last_list last_delivery if_goes deliver marked stepped failed missed chosen if_heard sought finished body turn
told_no = refl

-- an action that executes behind the character, goes to the entry, and would hold
abbrev jump : ℕ → Option Statement
jump n =
    cond (nat_eq n 1) (Some (record { kind = statements.Exec; outer = true; entry = None; base = bases.P; offset = pos 1 }))
    (cond (nat_eq n 2) (Some (record { kind = statements.Goto; outer = true; entry = Some (record { 0 = 1 }); base = bases.Unread; offset = pos 0 }))
    (cond (nat_eq n 3) (Some (record { kind = statements.Hold; outer = true; entry = None; base = bases.Unread; offset = pos 0 })) None))

abbrev jumping : Machine ℕ
jumping = record ab { statement = λ a n. jump n }

picked_by_itself : replay jumping (codes "open s\npiece s \"aa\"\nend s\npick s x 2 -") ≡ codes "s do x 0 exec 1 goto main\ns do x 1\ns end partial 2\n"
unfolding characters statements_from statements_of digits run_on weight tail_weight turns at_letter at_end after ending
    at_kept last_list last_delivery if_goes deliver marked stepped failed missed chosen if_heard sought finished body turn
picked_by_itself = refl
