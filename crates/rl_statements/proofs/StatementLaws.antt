-- What holds of the statements that codes are read as.
use Rattle.std.proofs.Common.{◌≡◌, ◌↔◌, ℕ, zero, suc, ◌+◌, ◌<◌, ◌≤◌, Bool, true, false, not, IsTrue, List, [], ◌∷◌, length, map, Option, Some, None, All, cond, position, refl, sym, ap, ◌∙◌, subst, inl, inr, eqb, ℤ, arith}
use Rattle.std.specs.Prelude.{◌&&◌, IsSome, IfSome, is_some, filter, slice_get, pos, nat_lt, unwrap_or, drop}
use Rattle.std.specs.Option.{option_map, option_and_then}
use Rattle.std.specs.List.{AllByRecursion, cons_option, position_or_len}
use Rattle.std.specs.Str.{bytes_eq}
use Rattle.std.proofs.lemmas.Bool.{cases_Bool, ltb-true}
use Rattle.std.proofs.lemmas.List.Elements.{All-from_recursion, recursion_from_All}
use Rattle.rl_types.specs.declared.numbers.EntryId.{EntryId}
use Rattle.rl_run.specs.declared.statements.Statement.{Statement}
use Rattle.rl_run.specs.declared.statements.StatementKind.{StatementKind}
use Rattle.rl_run.specs.declared.statements.StatementKind.TheVariants as kind
use Rattle.rl_run.specs.declared.statements.GoalBase.{GoalBase}
use Rattle.rl_run.specs.declared.statements.GoalBase.TheVariants.{Unread}
use Rattle.rl_arrays.specs.Statements.{is_exec, names_entry, ends_list}
use Rattle.rl_lexical.specs.declared.mode.Mode.{Mode}
use Rattle.rl_lexical.specs.declared.mode.Mode.TheVariants as m
use Rattle.rl_lexical.specs.Bytes.{in_word}
use Rattle.rl_lexical.specs.Modes.{mode_behind}
use Rattle.rl_code.specs.declared.said.Control.{Control}
use Rattle.rl_code.specs.declared.said.Said.{Said}
use Rattle.rl_code.specs.declared.said.Saying.{Saying}
use Rattle.rl_code.specs.declared.said.Saying.TheVariants as says
use Rattle.rl_code.specs.declared.word.CodeWord.{CodeWord}
use Rattle.rl_code.specs.declared.word.CodeWord.TheVariants as w
use Rattle.rl_code.specs.Texts.{is_outside, braces, up_to_semicolon, are_blanks, only_name, first_word, behind_word, behind_blanks}
use Rattle.rl_code.specs.Forms.{Goal, goal_in, plain_control, control_in, control_at, name_in_parentheses, saying_of, code_word}
use Rattle.rl_code.specs.Sayings.{said_here, said_at, sayings_from, sayings}
use Rattle.rl_code.specs.Reading as reading
use Rattle.rl_code.specs.Reading.{control_of, controls, entry_named, statement_of, names_one_of, is_outer, ends, fifth_outer, IsReadAs}
use Rattle.rl_statements.specs.Statements.{HasOwnGoal, HasOwnEntry, IsEntryAmong, up_to_end, outer_kinds, GoalsAreOwn, EntriesAreOwn, EntriesAreThere, OuterAreFew}

-- ---- controls that are read

record IsFormed (c : Control) : Type 0 where
  base : is_exec c.kind ≡ false → c.base ≡ Unread
  offset : is_exec c.kind ≡ false → c.offset ≡ pos 0
  target : IsSome c.target ↔ IsTrue (names_entry c.kind)

exec_formed : (outer : Bool) (x : Option Goal) → IfSome (option_map (λ (g : Goal). record { kind = kind.Exec; outer = outer; target = None; base = g.base; offset = g.offset }) x) IsFormed
exec_formed outer None = tt
exec_formed outer (Some g) = record { base = λ e. absurd (cc); offset = λ e. absurd (cc); target = ((λ e. absurd (cc)), (λ e. absurd (cc))) }

naming_formed : (k : StatementKind) → names_entry k ≡ true → (outer : Bool) (x : Option (List ℕ))
    → IfSome (option_map (λ name. record { kind = k; outer = outer; target = Some name; base = Unread; offset = pos 0 }) x) IsFormed
naming_formed k e outer None = tt
naming_formed k e outer (Some name) = record { base = λ h. refl; offset = λ h. refl; target = ((λ h. e), (λ h. refl)) }

bare_formed : (k : StatementKind) → names_entry k ≡ false → (outer b : Bool) → IfSome (cond b (Some (plain_control k outer)) None) IsFormed
bare_formed k e outer false = tt
bare_formed k e outer true = record { base = λ h. refl; offset = λ h. refl; target = ((λ h. absurd (cc)), (λ h. (let both : true ≡ false = sym h ∙ e in absurd (cc)))) }

control_in_formed : (k : StatementKind) (outer : Bool) (text : List ℕ) → IfSome (control_in k outer text) IsFormed
control_in_formed kind.Hold outer text = bare_formed kind.Hold refl outer (are_blanks text)
control_in_formed kind.Exec outer text = exec_formed outer (goal_in text)
control_in_formed kind.Goto outer text = naming_formed kind.Goto refl outer (only_name text)
control_in_formed kind.Call outer text = naming_formed kind.Call refl outer (only_name text)
control_in_formed kind.Ret outer text = bare_formed kind.Ret refl outer (are_blanks text)
control_in_formed kind.Next outer text = naming_formed kind.Next refl outer (only_name text)
control_in_formed kind.Break outer text = bare_formed kind.Break refl outer (are_blanks text)

behind_formed : (k : StatementKind) (outer : Bool) (x : Option (List ℕ)) → IfSome (option_and_then (control_in k outer) x) IsFormed
behind_formed k outer None = tt
behind_formed k outer (Some text) = control_in_formed k outer text

-- ---- words that are read

abbrev SaysFormed : Said → Type 0
SaysFormed s = IfSome (control_of s) IsFormed

control_says : (from : ℕ) (x : Option Control) → IfSome x IsFormed → SaysFormed (record { from = from; saying = unwrap_or (option_map (λ c. says.Control c) x) says.Misplaced })
control_says from None h = tt
control_says from (Some c) h = h

entry_says : (from : ℕ) (x : Option (List ℕ)) → SaysFormed (record { from = from; saying = unwrap_or (option_map (λ name. says.Entry name) x) says.Misplaced })
entry_says from None = tt
entry_says from (Some name) = tt

word_says : (from : ℕ) (word : CodeWord) (depth : ℕ) (behind : List ℕ) → SaysFormed (record { from = from; saying = saying_of word depth behind })
word_says from (w.Control k) depth behind = control_says from (control_at k depth behind) (behind_formed k (eqb depth 0) (up_to_semicolon depth (m.Code depth) behind))
word_says from w.Entry depth behind = entry_says from (name_in_parentheses (behind_blanks behind))
word_says from w.Position depth behind = tt
word_says from w.Character depth behind = tt
word_says from w.LeftOut depth behind = tt

abbrev Each : {X : Type 0} → (X → Type 0) → List X → Type 0
Each P xs = AllByRecursion P xs

put_says : (x : Option Said) (rest : List Said) → IfSome x SaysFormed → Each SaysFormed rest → Each SaysFormed (cons_option x rest)
put_says None rest h more = more
put_says (Some s) rest h more = (h, more)

here_says : (from depth : ℕ) (behind : List ℕ) (x : Option CodeWord) → IfSome (option_map (λ w. record { from = from; saying = saying_of w depth behind }) x) SaysFormed
here_says from depth behind None = tt
here_says from depth behind (Some word) = word_says from word depth behind

at_says : (from : ℕ) (b : Bool) (mode : Mode) (text : List ℕ) → IfSome (cond b (said_here from mode text) None) SaysFormed
at_says from false mode text = tt
at_says from true mode text = here_says from (braces mode) (behind_word text) (code_word (first_word text))

all_say : (from : ℕ) (fresh : Bool) (mode : Mode) (text : List ℕ) → Each SaysFormed (sayings_from from fresh mode text)
unfolding sayings_from
all_say from fresh mode [] = tt
all_say from fresh mode (b ∷ bs) =
    put_says (said_at from fresh mode (b ∷ bs)) (sayings_from (from + 1) (not (in_word b)) (mode_behind mode b) bs)
    (at_says from (fresh && is_outside mode) mode (b ∷ bs))
    (all_say (from + 1) (not (in_word b)) (mode_behind mode b) bs)

-- ---- statements

record IsRead (count : ℕ) (s : Statement) : Type 0 where
  goal : HasOwnGoal s
  own : HasOwnEntry s
  among : IsEntryAmong count s

abbrev number : ℕ → EntryId
number place = record { 0 = place + 1 }

number_among : (place count : ℕ) (b : Bool) → nat_lt place count ≡ b → IfSome (option_map number (cond b (Some place) None)) (λ e. (1 ≤ e.0) × (e.0 ≤ count))
number_among place count false e = tt
number_among place count true e = (let l : place < count = ltb-true place count e in (omega arith, omega arith))

entry_among : (entries : List (List ℕ)) (name : List ℕ) → IfSome (entry_named entries name) (λ e. (1 ≤ e.0) × (e.0 ≤ length entries))
entry_among entries name =
    number_among (position_or_len (bytes_eq name) entries) (length entries) (nat_lt (position_or_len (bytes_eq name) entries) (length entries)) refl

statement_read : (entries : List (List ℕ)) (from : ℕ) (k : StatementKind) (outer : Bool) (t : Option (List ℕ)) (b : GoalBase) (z : ℤ)
    → IsFormed (record { kind = k; outer = outer; target = t; base = b; offset = z })
    → IsTrue (names_one_of entries (record { from = from; saying = says.Control (record { kind = k; outer = outer; target = t; base = b; offset = z }) }))
    → IsRead (length entries) (statement_of entries (record { kind = k; outer = outer; target = t; base = b; offset = z }))
statement_read entries from k outer None b z formed named = record {
  goal = record { base = formed.base; offset = formed.offset };
  own = formed.target;
  among = tt;
}
statement_read entries from k outer (Some name) b z formed named = record {
  goal = record { base = formed.base; offset = formed.offset };
  own = ((λ h. formed.target.0 refl), (λ h. named));
  among = entry_among entries name;
}

one_read : (entries : List (List ℕ)) (from : ℕ) (saying : Saying) (rest : List Control)
    → SaysFormed (record { from = from; saying = saying }) → IsTrue (names_one_of entries (record { from = from; saying = saying }))
    → Each (IsRead (length entries)) (map (statement_of entries) rest)
    → Each (IsRead (length entries)) (map (statement_of entries) (cons_option (control_of (record { from = from; saying = saying })) rest))
one_read entries from (says.Control c) rest formed named more = (statement_read entries from c.kind c.outer c.target c.base c.offset formed named, more)
one_read entries from (says.Entry name) rest formed named more = more
one_read entries from says.Position rest formed named more = more
one_read entries from says.Character rest formed named more = more
one_read entries from says.Misplaced rest formed named more = more

all_read : (entries : List (List ℕ)) (said : List Said) → Each SaysFormed said → Each (λ (s : Said). IsTrue (names_one_of entries s)) said
    → Each (IsRead (length entries)) (map (statement_of entries) (controls said))
all_read entries [] formed named = tt
all_read entries (s ∷ ss) formed named = one_read entries s.from s.saying (controls ss) formed.0 named.0 (all_read entries ss formed.1 named.1)

code_read : (entries : List (List ℕ)) (code : List ℕ) (statements : List Statement) → IsReadAs entries code statements → All (IsRead (length entries)) statements
code_read entries code statements r =
    subst (All (IsRead (length entries))) (sym r.says)
    (All-from_recursion (IsRead (length entries)) (map (statement_of entries) (controls (sayings code)))
    (all_read entries (sayings code) (all_say 1 true (m.Code 0) (drop 1 code))
    (recursion_from_All (λ (s : Said). IsTrue (names_one_of entries s)) (sayings code) r.named)))

pub goals_are_own : GoalsAreOwn
goals_are_own entries code statements r = λ k d l. (code_read entries code statements r k d l).goal

pub entries_are_own : EntriesAreOwn
entries_are_own entries code statements r = λ k d l. (code_read entries code statements r k d l).own

pub entries_are_there : EntriesAreThere
entries_are_there entries code statements r = λ k d l. (code_read entries code statements r k d l).among

-- ---- the outer level

abbrev outer_of : List (List ℕ) → List Control → List StatementKind
outer_of entries cs = map (λ (s : Statement). s.kind) (filter (λ (s : Statement). s.outer) (map (statement_of entries) cs))

-- one word more, with the lengths of what is up to the end
one_outer : (entries : List (List ℕ)) (from : ℕ) (saying : Saying) (cs : List Control) (ss : List Said)
    → length (up_to_end (outer_of entries cs)) ≡ length (reading.up_to_end (filter is_outer ss))
    → length (up_to_end (outer_of entries (cons_option (control_of (record { from = from; saying = saying })) cs)))
    ≡ length (reading.up_to_end (filter is_outer (record { from = from; saying = saying } ∷ ss)))
one_outer entries from (says.Control c) cs ss e = elim (cases_Bool c.outer) [
  | inr inner ↦ rw inner e
  | inl outer ↦ elim (cases_Bool (ends_list c.kind)) [
    | inl last ↦ rw outer (rw last refl)
    | inr goes_on ↦ rw outer (rw goes_on (ap (λ z. suc z) e))
  ]
]
one_outer entries from (says.Entry name) cs ss e = e
one_outer entries from says.Position cs ss e = e
one_outer entries from says.Character cs ss e = e
one_outer entries from says.Misplaced cs ss e = e

same_outer : (entries : List (List ℕ)) (said : List Said) → length (up_to_end (outer_of entries (controls said))) ≡ length (reading.up_to_end (filter is_outer said))
same_outer entries [] = refl
same_outer entries (s ∷ ss) = one_outer entries s.from s.saying (controls ss) ss (same_outer entries ss)

none_there : (xs : List Said) (k : ℕ) → option_map (λ (s : Said). s.from) (slice_get xs k) ≡ None → length xs ≤ k
none_there [] k e = omega arith
none_there (s ∷ ss) zero e = absurd (cc)
none_there (s ∷ ss) (suc k) e = (let l : length ss ≤ k = none_there ss k e in omega arith)

pub outer_are_few : OuterAreFew
outer_are_few entries code statements r none =
    let few : length (reading.up_to_end (filter is_outer (sayings code))) ≤ 4 = none_there (reading.up_to_end (filter is_outer (sayings code))) 4 none in
    let same : length (outer_kinds (map (statement_of entries) (controls (sayings code)))) ≡ length (reading.up_to_end (filter is_outer (sayings code))) = same_outer entries (sayings code) in
    subst (λ z. length (outer_kinds z) ≤ 4) (sym r.says) (subst (λ n. n ≤ 4) (sym same) few)
