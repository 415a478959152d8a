-- Statements that reading gives: what they name, and what they count from.
use Rattle.std.proofs.Common.{◌≡◌, ℕ, ◌+◌, Bool, true, false, cond, not, ◌&&◌, ℤ, pos, List, [], ◌∷◌, map, length, Option, Some, None, refl, sym, subst, arith, true≢false}
use Rattle.std.specs.Prelude.{◌↔◌, ◌==◌, IsTrue, IsSome, IfSome, All, option_and_then, unwrap_or, drop, position}
use Rattle.std.specs.Option.{option_map}
use Rattle.std.specs.List.{AllByRecursion, cons_option}
use Rattle.std.specs.Str.{bytes_eq}
use Rattle.std.proofs.lemmas.List.{length-map}
use Rattle.std.proofs.lemmas.List.Elements.{recursion_from_All}
use Rattle.std.proofs.lemmas.List.Quantifiers.{position-Some}
use Rattle.rl_types.specs.declared.numbers.EntryId.{EntryId}
use Rattle.rl_run.specs.declared.statements.Statement.{Statement}
use Rattle.rl_run.specs.declared.statements.StatementKind.{StatementKind}
use Rattle.rl_run.specs.declared.statements.StatementKind.TheVariants as kind
use Rattle.rl_run.specs.declared.statements.GoalBase.{GoalBase}
use Rattle.rl_run.specs.declared.statements.GoalBase.TheVariants.{Unread}
use Rattle.rl_arrays.specs.Statements.{names_entry, is_exec}
use Rattle.rl_lexical.specs.declared.mode.Mode.{Mode}
use Rattle.rl_lexical.specs.declared.mode.Mode.TheVariants as m
use Rattle.rl_lexical.specs.Bytes.{in_word}
use Rattle.rl_lexical.specs.Modes.{mode_behind}
use Rattle.rl_code.specs.declared.said.Control.{Control}
use Rattle.rl_code.specs.declared.said.Said.{Said}
use Rattle.rl_code.specs.declared.said.Saying.{Saying}
use Rattle.rl_code.specs.declared.said.Saying.TheVariants as says
use Rattle.rl_code.specs.declared.word.CodeWord.{CodeWord}
use Rattle.rl_code.specs.declared.word.CodeWord.TheVariants as word
use Rattle.rl_code.specs.Texts.{is_outside, braces, up_to_semicolon, first_word, behind_word, behind_blanks, are_blanks, only_name}
use Rattle.rl_code.specs.Forms.{code_word, goal_in, plain_control, control_in, control_at, name_in_parentheses, saying_of}
use Rattle.rl_code.specs.Sayings.{said_here, said_at, sayings_from, sayings}
use Rattle.rl_code.specs.Reading.{control_of, controls, entry_named, statement_of, names_one_of, IsReadAs}
use Rattle.rl_model.specs.declared.spec.Entry as rust_entry
use Rattle.rl_model.specs.declared.spec.ActionDef.{ActionDef}
use Rattle.rl_model.specs.declared.spec.Spec.{Spec}
use Rattle.rl_model.specs.WellFormed.{IsNumber, IsCodeRead}

abbrev Each : {X : Type 0} → (X → Type 0) → List X → Type 0
Each P xs = AllByRecursion P xs

-- ---- what holds of a value, if there is one

if_map : {X Y : Type 0} (P : Y → Type 0) (f : X → Y) (o : Option X) → ((x : X) → P (f x)) → IfSome (option_map f o) P
if_map P f None h = tt
if_map P f (Some x) h = h x

if_then : {X Y : Type 0} (P : Y → Type 0) (f : X → Option Y) (o : Option X) → ((x : X) → IfSome (f x) P) → IfSome (option_and_then f o) P
if_then P f None h = tt
if_then P f (Some x) h = h x

if_test : {Y : Type 0} (P : Y → Type 0) (b : Bool) (o : Option Y) → IfSome o P → IfSome (cond b o None) P
if_test P true o h = h
if_test P false o h = tt

each_cons : {X : Type 0} (P : X → Type 0) (o : Option X) (xs : List X) → IfSome o P → Each P xs → Each P (cons_option o xs)
each_cons P None xs h t = t
each_cons P (Some x) xs h t = (h, t)

each_map_cons : {X Y : Type 0} (P : Y → Type 0) (f : X → Y) (o : Option X) (xs : List X) → IfSome o (λ x. P (f x)) → Each P (map f xs) → Each P (map f (cons_option o xs))
each_map_cons P f None xs h t = t
each_map_cons P f (Some x) xs h t = (h, t)

each_more : {X : Type 0} (P Q : X → Type 0) (xs : List X) → ((x : X) → P x → Q x) → Each P xs → Each Q xs
each_more P Q [] f h = tt
each_more P Q (x ∷ xs) f h = (f x h.0, each_more P Q xs f h.1)

-- ---- control statements as they are written

-- it has a name exactly where its kind names an entry, and a goal only where it is an exec
record IsControl (c : Control) : Type 0 where
  target : IsSome c.target ↔ IsTrue (names_entry c.kind)
  base : is_exec c.kind ≡ false → c.base ≡ Unread
  offset : is_exec c.kind ≡ false → c.offset ≡ pos 0

control_is : (k : StatementKind) (outer : Bool) (text : List ℕ) → IfSome (control_in k outer text) IsControl
control_is kind.Exec outer text = if_map IsControl _ (goal_in text) (λ g. record { target = ((λ h. h), (λ h. h)); base = λ e. absurd (true≢false e); offset = λ e. absurd (true≢false e) })
control_is kind.Goto outer text = if_map IsControl _ (only_name text) (λ name. record { target = ((λ h. refl), (λ h. refl)); base = λ e. refl; offset = λ e. refl })
control_is kind.Call outer text = if_map IsControl _ (only_name text) (λ name. record { target = ((λ h. refl), (λ h. refl)); base = λ e. refl; offset = λ e. refl })
control_is kind.Next outer text = if_map IsControl _ (only_name text) (λ name. record { target = ((λ h. refl), (λ h. refl)); base = λ e. refl; offset = λ e. refl })
control_is kind.Hold outer text = if_test IsControl (are_blanks text) (Some (plain_control kind.Hold outer)) (record { target = ((λ h. h), (λ h. h)); base = λ e. refl; offset = λ e. refl })
control_is kind.Ret outer text = if_test IsControl (are_blanks text) (Some (plain_control kind.Ret outer)) (record { target = ((λ h. h), (λ h. h)); base = λ e. refl; offset = λ e. refl })
control_is kind.Break outer text = if_test IsControl (are_blanks text) (Some (plain_control kind.Break outer)) (record { target = ((λ h. h), (λ h. h)); base = λ e. refl; offset = λ e. refl })

-- ---- what a word says

abbrev OfSaying : Saying → Type 0
OfSaying (says.Control c) = IsControl c
OfSaying (says.Entry name) = Unit {0}
OfSaying says.Position = Unit {0}
OfSaying says.Character = Unit {0}
OfSaying says.Misplaced = Unit {0}

control_or : (o : Option Control) → IfSome o IsControl → OfSaying (unwrap_or (option_map (λ c. says.Control c) o) says.Misplaced)
control_or None h = tt
control_or (Some c) h = h

entry_or : (o : Option (List ℕ)) → OfSaying (unwrap_or (option_map (λ name. says.Entry name) o) says.Misplaced)
entry_or None = tt
entry_or (Some name) = tt

word_is : (w : CodeWord) (depth : ℕ) (behind : List ℕ) → OfSaying (saying_of w depth behind)
word_is (word.Control k) depth behind = control_or (control_at k depth behind) (if_then IsControl (control_in k (depth == 0)) (up_to_semicolon depth (m.Code depth) behind) (λ text. control_is k (depth == 0) text))
word_is word.Entry depth behind = entry_or (name_in_parentheses (behind_blanks behind))
word_is word.Position depth behind = tt
word_is word.Character depth behind = tt
word_is word.LeftOut depth behind = tt

abbrev OfSaid : Said → Type 0
OfSaid s = OfSaying s.saying

said_is : (from : ℕ) (fresh : Bool) (mode : Mode) (text : List ℕ) → IfSome (said_at from fresh mode text) OfSaid
said_is from fresh mode text =
    if_test OfSaid (fresh && is_outside mode) (said_here from mode text) (if_map OfSaid _ (code_word (first_word text)) (λ w. word_is w (braces mode) (behind_word text)))

sayings_are : (text : List ℕ) (from : ℕ) (fresh : Bool) (mode : Mode) → Each OfSaid (sayings_from from fresh mode text)
unfolding sayings_from
sayings_are [] from fresh mode = tt
sayings_are (b ∷ bs) from fresh mode =
    each_cons OfSaid (said_at from fresh mode (b ∷ bs)) (sayings_from (from + 1) (not (in_word b)) (mode_behind mode b) bs) (said_is from fresh mode (b ∷ bs)) (sayings_are bs (from + 1) (not (in_word b)) (mode_behind mode b))

-- ---- statements

-- its entry is the number of one of so many, there is one exactly where its kind names one, and it has a goal only where it is an exec
pub record IsStatement (entries : ℕ) (s : Statement) : Type 0 where
  pub entry : IsSome s.entry ↔ IsTrue (names_entry s.kind)
  pub exists : IfSome s.entry (λ e. IsNumber entries e.0)
  pub base : is_exec s.kind ≡ false → s.base ≡ Unread
  pub offset : is_exec s.kind ≡ false → s.offset ≡ pos 0

module _ (entries : List (List ℕ)) where
  entry_exists : (name : List ℕ) → IfSome (entry_named entries name) (λ e. IsNumber (length entries) e.0)
  entry_exists name = by (position (bytes_eq name) entries) refl
    where
      by : (o : Option ℕ) → position (bytes_eq name) entries ≡ o → IfSome (option_map (λ place. record { 0 = place + 1 }) o) (λ (e : EntryId). IsNumber (length entries) e.0)
      by None e = tt
      by (Some i) e = let l = (position-Some (bytes_eq name) entries i [] e).0 in (omega arith, omega (arith, l))

  abbrev spelled : StatementKind → Bool → Option (List ℕ) → GoalBase → ℤ → Control
  spelled k outer target base offset = record { kind = k; outer = outer; target = target; base = base; offset = offset }

  statement_is : (from : ℕ) (k : StatementKind) (outer : Bool) (target : Option (List ℕ)) (base : GoalBase) (offset : ℤ) → IsControl (spelled k outer target base offset)
      → IsTrue (names_one_of entries (record { from = from; saying = says.Control (spelled k outer target base offset) })) → IsStatement (length entries) (statement_of entries (spelled k outer target base offset))
  statement_is from k outer None base offset h n = record { entry = h.target; exists = tt; base = h.base; offset = h.offset }
  statement_is from k outer (Some name) base offset h n = record {
    entry = ((λ _. h.target.0 refl), (λ _. n));
    exists = entry_exists name;
    base = h.base;
    offset = h.offset;
  }

  one_statement : (from : ℕ) (x : Saying) → OfSaying x → IsTrue (names_one_of entries (record { from = from; saying = x }))
      → IfSome (control_of (record { from = from; saying = x })) (λ c. IsStatement (length entries) (statement_of entries c))
  one_statement from (says.Control c) h n = statement_is from c.kind c.outer c.target c.base c.offset h n
  one_statement from (says.Entry name) h n = tt
  one_statement from says.Position h n = tt
  one_statement from says.Character h n = tt
  one_statement from says.Misplaced h n = tt

  statements_are : (said : List Said) → Each OfSaid said → Each (λ (s : Said). IsTrue (names_one_of entries s)) said → Each (IsStatement (length entries)) (map (statement_of entries) (controls said))
  statements_are [] a b = tt
  statements_are (s ∷ ss) a b = each_map_cons (IsStatement (length entries)) (statement_of entries) (control_of s) (controls ss) (one_statement s.from s.saying a.0 b.0) (statements_are ss a.1 b.1)

  pub read_statements : (code : List ℕ) (statements : List Statement) → IsReadAs entries code statements → AllByRecursion (IsStatement (length entries)) statements
  read_statements code statements h =
      subst (Each (IsStatement (length entries))) (sym h.says) (statements_are (sayings code) (sayings_are (drop 1 code) 1 true (m.Code 0)) (recursion_from_All (λ (s : Said). IsTrue (names_one_of entries s)) (sayings code) h.named))

-- the statements of each action of a Spec
pub spec_statements : (spec : Spec) → All (IsCodeRead spec) spec.actions → AllByRecursion (λ (a : ActionDef). AllByRecursion (IsStatement (length spec.entries)) a.statements) spec.actions
spec_statements spec codes = each_more (IsCodeRead spec) (λ (a : ActionDef). Each (IsStatement (length spec.entries)) a.statements) spec.actions
    (λ a h. subst (λ n. Each (IsStatement n) a.statements) (length-map spec.entries (λ (e : rust_entry.Entry). e.name)) (read_statements (map (λ (e : rust_entry.Entry). e.name) spec.entries) a.code a.statements h))
    (recursion_from_All (IsCodeRead spec) spec.actions codes)
