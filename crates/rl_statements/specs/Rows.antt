-- Codes and what they say, computed.
use Rattle.std.specs.Prelude.{◌≡◌, ℕ, true, false, pos, neg_ℤ, List, [], ◌∷◌, Some, None, codes}
use Rattle.rl_run.specs.declared.statements.StatementKind.TheVariants as kind
use Rattle.rl_run.specs.declared.statements.GoalBase.TheVariants as base
use Rattle.rl_code.specs.Sayings.{sayings}
use Rattle.rl_code.specs.Reading.{statements_in, first_misplaced, fifth_outer}

abbrev pub HoldIsRead : Type 0
HoldIsRead = statements_in [] (codes "{ fhold; }") ≡ record { kind = kind.Hold; outer = true; entry = None; base = base.Unread; offset = pos 0 } ∷ []

abbrev pub NestedExecIsRead : Type 0
NestedExecIsRead = statements_in [] (codes "{ if (q) { fexec p - 5; } }") ≡ record { kind = kind.Exec; outer = false; entry = None; base = base.P; offset = neg_ℤ (pos 5) } ∷ []

abbrev pub CallNamesEntry : Type 0
CallNamesEntry = statements_in (codes "main" ∷ codes "num" ∷ []) (codes "{ fcall  num ; }") ≡ record { kind = kind.Call; outer = true; entry = Some (record { 0 = 2 }); base = base.Unread; offset = pos 0 } ∷ []

abbrev pub GotoWantsName : Type 0
GotoWantsName = first_misplaced (sayings (codes "{ fgoto ; }")) ≡ Some 2

abbrev pub TextIsNotRead : Type 0
TextIsNotRead = first_misplaced (sayings (codes "{ 'fret' /* fret */ \"fret\" x = fentry( main ) + fpc; }")) ≡ None

abbrev pub FifthIsTooMany : Type 0
FifthIsTooMany = fifth_outer (sayings (codes "{ fhold; fhold; fhold; fhold; fhold; }")) ≡ Some 30

abbrev pub NoneBehindTransfer : Type 0
NoneBehindTransfer = fifth_outer (sayings (codes "{ fhold; fhold; fret; fhold; fhold; fhold; }")) ≡ None

abbrev pub BraceEndsBefore : Type 0
BraceEndsBefore = first_misplaced (sayings (codes "{ { fexec 1 } ; }")) ≡ Some 4

abbrev pub GoalHasStatement : Type 0
GoalHasStatement = first_misplaced (sayings (codes "{ fexec fhold; }")) ≡ None

abbrev pub LeftOutIsMisplaced : Type 0
LeftOutIsMisplaced = first_misplaced (sayings (codes "{ a = ftargs; }")) ≡ Some 6

abbrev pub ReservedIsNoName : Type 0
ReservedIsNoName = first_misplaced (sayings (codes "{ fgoto when; }")) ≡ Some 2

abbrev pub EntryWantsParentheses : Type 0
EntryWantsParentheses = first_misplaced (sayings (codes "{ fentry main; }")) ≡ Some 2
