-- What follows for an action's code where no fault of code is found.
use Rattle.std.proofs.Common.{◌≡◌, ℕ, suc, ◌+◌, ◌≤◌, ◌<◌, Bool, true, false, not, cond, List, [], ◌∷◌, map, filter, length, Option, None, Some, refl, sym, ap, subst, arith}
use Rattle.std.specs.Prelude.{IsTrue, is_some, slice_get, if◌then◌else◌, ◌||◌}
use Rattle.std.specs.Option.{option_map, option_map_or}
use Rattle.std.specs.List.{cons_option, list_any, position, position_or_len}
use Rattle.std.specs.Str.{bytes_eq}
use Rattle.std.proofs.lemmas.Bool.{false≢true, lt-ltb}
use Rattle.rl_types.specs.declared.numbers.EntryId.{EntryId}
use Rattle.rl_run.specs.declared.statements.Statement.{Statement}
use Rattle.rl_run.specs.declared.statements.StatementKind.{StatementKind}
use Rattle.rl_arrays.specs.Statements.{ends_list}
use Rattle.rl_code.specs.declared.said.Control.{Control}
use Rattle.rl_code.specs.declared.said.Said.{Said}
use Rattle.rl_code.specs.declared.said.Saying.{Saying}
use Rattle.rl_code.specs.declared.said.Saying.TheVariants as says
use Rattle.rl_code.specs.Reading.{IsBlock, IsReadAs, control_of, controls, entry_of, entry_named, names_one_of, statement_of, statements_in, is_misplaced, first_misplaced, is_outer, ends, fifth_outer}
use Rattle.rl_code.specs.Reading as reading
use Rattle.rl_code.specs.Sayings.{sayings}
use Rattle.rl_grammar.specs.declared.syntax.Word.{Word}
use Rattle.rl_names.specs.Codes.{is_control, has_statements, first_of_both, code_fault, is_unnamed, first_unnamed, unnamed, entry_fault}
use Rattle.rl_model.specs.WellFormed.{outer_statements}
use Rattle.rl_model.specs.WellFormed as model
use Rattle.rl_form.proofs.Lists.{Each, all}
use Rattle.rl_formed.proofs.NameLaws.{or_false}

-- no element is the first that a test finds
pub none_found : {X : Type 0} (b : Bool) (x : X) (o : Option X) → (if b then Some x else o) ≡ None → (b ≡ false) × (o ≡ None)
none_found true x o h = absurd (cc)
none_found false x o h = (refl, h)

-- ---- words

pub none_misplaced : (said : List Said) → first_misplaced said ≡ None → Each (λ (s : Said). is_misplaced s ≡ false) said
none_misplaced [] h = tt
none_misplaced (s ∷ ss) h = let k = none_found (is_misplaced s) s.from (first_misplaced ss) h in (k.0, none_misplaced ss k.1)

-- ---- statements at the outer level

abbrev outer_kinds : List Statement → List StatementKind
outer_kinds statements = map (λ (s : Statement). s.kind) (filter (λ (s : Statement). s.outer) statements)

module _ (entries : List (List ℕ)) where
  abbrev stated : List Said → List Statement
  stated said = map (statement_of entries) (controls said)

  abbrev IsCounted : List Said → Type 0
  IsCounted said = length (model.up_to_end (outer_kinds (stated said))) ≡ length (reading.up_to_end (filter is_outer said))

  ended : (b : Bool) (k : StatementKind) (ks : List StatementKind) (s : Said) (ss : List Said) → length (model.up_to_end ks) ≡ length (reading.up_to_end ss)
      → length (if b then k ∷ [] else k ∷ model.up_to_end ks) ≡ length (if b then s ∷ [] else s ∷ reading.up_to_end ss)
  ended true k ks s ss h = refl
  ended false k ks s ss h = ap suc h

  kept : (b : Bool) (c : Control) (from : ℕ) (ss : List Said) → IsCounted ss
      → length (model.up_to_end (map (λ (s : Statement). s.kind) (cond b (statement_of entries c ∷ filter (λ (s : Statement). s.outer) (stated ss)) (filter (λ (s : Statement). s.outer) (stated ss)))))
      ≡ length (reading.up_to_end (cond b (record { from = from; saying = says.Control c } ∷ filter is_outer ss) (filter is_outer ss)))
  kept true c from ss h = ended (ends_list c.kind) c.kind (outer_kinds (stated ss)) (record { from = from; saying = says.Control c }) (filter is_outer ss) h
  kept false c from ss h = h

  counted_one : (x : Saying) (from : ℕ) (ss : List Said) → IsCounted ss → IsCounted (record { from = from; saying = x } ∷ ss)
  counted_one (says.Control c) from ss h = kept c.outer c from ss h
  counted_one (says.Entry name) from ss h = h
  counted_one says.Position from ss h = h
  counted_one says.Character from ss h = h
  counted_one says.Misplaced from ss h = h

  counted : (said : List Said) → IsCounted said
  counted [] = refl
  counted (s ∷ ss) = counted_one s.saying s.from ss (counted ss)

  no_fifth : (ss : List Said) → option_map (λ (s : Said). s.from) (slice_get ss 4) ≡ None → length ss ≤ 4
  no_fifth [] h = omega arith
  no_fifth (a ∷ []) h = omega arith
  no_fifth (a ∷ b ∷ []) h = omega arith
  no_fifth (a ∷ b ∷ c ∷ []) h = omega arith
  no_fifth (a ∷ b ∷ c ∷ d ∷ []) h = omega arith
  no_fifth (a ∷ b ∷ c ∷ d ∷ e ∷ ss) h = absurd (cc)

  -- at most four statements stand at the outer level
  pub few_outer : (code : List ℕ) → fifth_outer (sayings code) ≡ None → outer_statements (statements_in entries code) ≤ 4
  few_outer code h =
      let same = counted (sayings code) in
      let few = no_fifth (reading.up_to_end (filter is_outer (sayings code))) h in
      omega (arith, same, few)

-- ---- names

before_end : (test : List ℕ → Bool) (names : List (List ℕ)) → list_any test names ≡ true → position_or_len test names < length names
before_end test [] h = absurd (false≢true h)
before_end test (x ∷ xs) h = by (test x) h (before_end test xs)
  where
    by : (b : Bool) → (b || list_any test xs) ≡ true → (list_any test xs ≡ true → position_or_len test xs < length xs) → cond (not b) (1 + position_or_len test xs) 0 < suc (length xs)
    by true h later = omega arith
    by false h later = let l = later h in omega (arith, l)

placed : (test : List ℕ → Bool) (names : List (List ℕ)) → list_any test names ≡ true → position test names ≡ Some (position_or_len test names)
placed test names h = ap (λ b. cond b (Some (position_or_len test names)) None) (lt-ltb (position_or_len test names) (length names) (before_end test names h))

abbrev entry_at : ℕ → EntryId
entry_at place = record { 0 = place + 1 }

-- it is the name of one of the entries
named : (entries : List (List ℕ)) (name : List ℕ) → list_any (bytes_eq name) entries ≡ true → is_some (entry_named entries name) ≡ true
named entries name h = subst (λ (o : Option ℕ). is_some (option_map entry_at o) ≡ true) (sym (placed (bytes_eq name) entries h)) refl

is_there : (b : Bool) → not b ≡ false → b ≡ true
is_there true h = refl
is_there false h = absurd (false≢true (sym h))

module _ (entries : List (List ℕ)) where
  abbrev has : List ℕ → Bool
  has name = list_any (bytes_eq name) entries

  abbrev is_one : Option (List ℕ) → Bool
  is_one o = elim o as (λ x. Bool) [ None ↦ true | Some name ↦ is_some (entry_named entries name) ]

  target_named : (o : Option (List ℕ)) → option_map_or (λ name. not (has name)) o false ≡ false → IsTrue (is_one o)
  target_named None h = refl
  target_named (Some name) h = named entries name (is_there (has name) h)

  control_named : (c : Control) (from : ℕ) → is_unnamed has (record { from = from; saying = says.Control c }) ≡ false → IsTrue (names_one_of entries (record { from = from; saying = says.Control c }))
  control_named c from h = target_named c.target h

  said_named : (x : Saying) (from : ℕ) → is_unnamed has (record { from = from; saying = x }) ≡ false → IsTrue (names_one_of entries (record { from = from; saying = x }))
  said_named (says.Control c) from h = control_named c from h
  said_named (says.Entry name) from h = named entries name (is_there (has name) h)
  said_named says.Position from h = refl
  said_named says.Character from h = refl
  said_named says.Misplaced from h = refl

  -- each word names an entry, if it names any
  pub all_named : (said : List Said) → first_unnamed has said ≡ None → Each (λ (s : Said). IsTrue (names_one_of entries s)) said
  all_named [] h = tt
  all_named (s ∷ ss) h = let k = none_found (is_unnamed has s) s.from (first_unnamed has ss) h in (said_named s.saying s.from k.0, all_named ss k.1)

-- ---- statements

-- there is no control where no word is one
pub no_controls : (said : List Said) → list_any is_control said ≡ false → controls said ≡ []
no_controls [] h = refl
no_controls (s ∷ ss) h = by (control_of s) (or_false (is_control s) (list_any is_control ss) h).0 (no_controls ss (or_false (is_control s) (list_any is_control ss) h).1)
  where
    by : (o : Option Control) → is_some o ≡ false → controls ss ≡ [] → cons_option o (controls ss) ≡ []
    by None h later = later
    by (Some c) h later = absurd (false≢true (sym h))

pub no_statements : (entries : List (List ℕ)) (code : List ℕ) → has_statements code ≡ false → statements_in entries code ≡ []
no_statements entries code h = ap (map (statement_of entries)) (no_controls (sayings code) h)

-- ---- one code

both_none : (w : Word) (a b : Option ℕ) → first_of_both w a b ≡ None → (a ≡ None) × (b ≡ None)
both_none w None None h = (refl, refl)
both_none w None (Some x) h = absurd (cc)
both_none w (Some x) None h = absurd (cc)
both_none w (Some x) (Some y) h = absurd (cc)

-- no word is misplaced, and no statement is one too many at the outer level
pub record IsRightCode (code : List ℕ) : Type 0 where
  pub placed : first_misplaced (sayings code) ≡ None
  pub few : fifth_outer (sayings code) ≡ None

pub right_code : (w : Word) → code_fault w ≡ None → IsRightCode w.text
right_code w h = let k = both_none w (first_misplaced (sayings w.text)) (fifth_outer (sayings w.text)) h in record { placed = k.0; few = k.1 }

pub right_names : (has : List ℕ → Bool) (w : Word) → entry_fault has w ≡ None → first_unnamed has (sayings w.text) ≡ None
right_names has w h = by (first_unnamed has (sayings w.text)) h
  where
    by : (o : Option ℕ) → option_map (unnamed w) o ≡ None → o ≡ None
    by None h = refl
    by (Some x) h = absurd (cc)

-- it is read as its statements
pub read_as : (entries : List (List ℕ)) (code : List ℕ) → IsBlock code → IsRightCode code → first_unnamed (λ name. list_any (bytes_eq name) entries) (sayings code) ≡ None → IsReadAs entries code (statements_in entries code)
read_as entries code block right names = record {
  block = block;
  formed = all (λ (s : Said). is_misplaced s ≡ false) (sayings code) (none_misplaced (sayings code) right.placed);
  named = all (λ (s : Said). IsTrue (names_one_of entries s)) (sayings code) (all_named entries (sayings code) names);
  says = refl;
}
