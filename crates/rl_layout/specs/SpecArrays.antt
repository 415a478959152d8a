-- What the arrays have of a Spec: statements and names, by actions in an order.
use Rattle.std.specs.Prelude.{ℕ, ℤ, pos, List, [], slice_get, codes, unwrap_or, if◌then◌else◌}
use Rattle.std.specs.Option.{option_map_or}
use Rattle.std.specs.List.{position}
use Rattle.std.specs.Str.{bytes_eq}
use Rattle.rl_types.specs.declared.alphabet.Alphabet.{Alphabet}
use Rattle.rl_types.specs.declared.alphabet.Alphabet.TheVariants.{Char, UnsignedChar, Short, UnsignedShort, Int, UnsignedInt}
use Rattle.rl_types.specs.declared.numbers.EntryId.{EntryId}
use Rattle.rl_run.specs.declared.statements.Statement.{Statement}
use Rattle.rl_run.specs.declared.statements.StatementKind.{StatementKind}
use Rattle.rl_run.specs.declared.statements.StatementKind.TheVariants.{Hold, Exec, Goto, Call, Ret, Next, Break}
use Rattle.rl_run.specs.declared.statements.GoalBase.{GoalBase}
use Rattle.rl_run.specs.declared.statements.GoalBase.TheVariants.{Unread, P, Ts, Te}
use Rattle.rl_model.specs.declared.spec.ActionDef.{ActionDef}
use Rattle.rl_model.specs.declared.spec.Entry.{Entry}
use Rattle.rl_model.specs.Specification.{numbered}
use Rattle.rl_layout.specs.declared.statements.StatementArray.{StatementArray}
use Rattle.rl_layout.specs.declared.statements.StatementArray.TheVariants as the

abbrev pub statements_of : List ActionDef → ℕ → List Statement
statements_of actions a = option_map_or (λ (x : ActionDef). x.statements) (numbered actions a) []

abbrev pub name_of : List ActionDef → ℕ → List ℕ
name_of actions a = option_map_or (λ (x : ActionDef). x.name) (numbered actions a) []

abbrev pub kind_number : StatementKind → ℤ
kind_number Hold = pos 1
kind_number Exec = pos 2
kind_number Goto = pos 3
kind_number Call = pos 4
kind_number Ret = pos 5
kind_number Next = pos 6
kind_number Break = pos 7

abbrev pub base_number : GoalBase → ℤ
base_number Unread = pos 0
base_number P = pos 1
base_number Ts = pos 2
base_number Te = pos 3

-- the entry's number, or the offset of an exec
abbrev pub argument_of : Statement → ℤ
argument_of s = option_map_or (λ (e : EntryId). pos e.0) s.entry s.offset

abbrev pub element_of : StatementArray → Statement → ℤ
element_of the.Kind s = kind_number s.kind
element_of the.Outer s = if s.outer then pos 1 else pos 0
element_of the.Argument s = argument_of s
element_of the.Base s = base_number s.base

abbrev pub alphabet_number : Alphabet → ℤ
alphabet_number Char = pos 0
alphabet_number UnsignedChar = pos 1
alphabet_number Short = pos 2
alphabet_number UnsignedShort = pos 3
alphabet_number Int = pos 4
alphabet_number UnsignedInt = pos 5

-- the entry `main`, or the first one where none has that name, from 0
abbrev pub start_place : List Entry → ℕ
start_place entries = unwrap_or (position (λ (e : Entry). bytes_eq (codes "main") e.name) entries) 0

-- its state
abbrev pub start_of : List Entry → List ℕ → ℕ
start_of entries states = unwrap_or (slice_get states (start_place entries)) 0
