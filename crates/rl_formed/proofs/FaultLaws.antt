-- What each statement has where no fault of names or of entries is found.
use Rattle.std.proofs.Common.{◌≡◌, ℕ, ◌+◌, Bool, true, false, not, List, [], ◌∷◌, ◌++◌, Option, None, refl, sym, ◌∙◌, subst, append_assoc}
use Rattle.std.specs.Prelude.{is_some}
use Rattle.std.specs.List.{list_any}
use Rattle.std.specs.Str.{bytes_eq}
use Rattle.std.proofs.lemmas.Bool.{false≢true}
use Rattle.std.proofs.lemmas.List.{append-nil}
use Rattle.std.proofs.lemmas.Slice.Eq.{bytes_eq-Decides}
use Rattle.rl_types.specs.declared.alphabet.Alphabet.{Alphabet}
use Rattle.rl_grammar.specs.declared.read_fault.ReadFault.{ReadFault}
use Rattle.rl_grammar.specs.declared.step.Step.{Step}
use Rattle.rl_grammar.specs.declared.syntax.Statement.{Statement}
use Rattle.rl_grammar.specs.declared.syntax.Statement.TheVariants as statement
use Rattle.rl_code.specs.Sayings.{sayings}
use Rattle.rl_model.specs.declared.spec.ActionDef.{ActionDef}
use Rattle.rl_names.specs.Answers.{first_of}
use Rattle.rl_names.specs.Checks.{leaf_fault, statement_leaf_fault, leaves_fault}
use Rattle.rl_names.specs.Codes.{code_fault, first_unnamed}
use Rattle.rl_names.specs.Entries.{entries_of, is_entry}
use Rattle.rl_names.specs.Events.{Event, Found, value_events, embedding_events, used}
use Rattle.rl_names.specs.Events as event
use Rattle.rl_names.specs.Frames.{alphabet_of}
use Rattle.rl_names.specs.Names.{Known, known, said_of, is_code, names_of, unless, counted, steers, use_fault, uses_fault, name_fault, action_name_fault, statement_fault, step_fault, faults_behind, names_fault}
use Rattle.rl_form.proofs.Lists.{Each, each_more}
use Rattle.rl_formed.proofs.ActionLaws.{HoldsOfEvent, HoldsOfStatement, HoldsOfOwn}
use Rattle.rl_formed.proofs.CodeLaws.{IsRightCode, right_code, right_names}
use Rattle.rl_formed.proofs.ResultLaws.{some_or_none, or_none}

-- ---- uses

passed : (b : Bool) (e : ReadFault) → unless b e ≡ None → b ≡ true
passed true e h = refl
passed false e h = absurd (some_or_none e h)

is_not : (b : Bool) → not b ≡ true → b ≡ false
is_not true h = absurd (false≢true h)
is_not false h = refl

-- no fault is found with a use, whatever stands before it
abbrev pub IsRightUse : Known → List ℕ → Event → Type 0
IsRightUse k machine (event.Action w) = is_some (said_of (machine, w.text) k.actions) ≡ true
IsRightUse k machine (event.Code w) = IsRightCode w.text
IsRightUse k machine (event.Quiet place a) = steers k machine a ≡ false
IsRightUse k machine _ = Unit {0}

module _ (k : Known) (machine : List ℕ) where
  right_use : (n : ℕ) (e : Event) → use_fault k machine n e ≡ None → IsRightUse k machine e
  right_use n (event.Action w) h = passed (is_some (said_of (machine, w.text) k.actions)) _ h
  right_use n (event.Code w) h = right_code w (or_none (counted n w.place) (code_fault w) h).1
  right_use n (event.Quiet place a) h = is_not (steers k machine a) (passed (not (steers k machine a)) _ h)
  right_use n (event.Leaf o) h = tt
  right_use n (event.Name w) h = tt
  right_use n (event.Priority w) h = tt
  right_use n (event.Embeds a) h = tt
  right_use n (event.Ends place) h = tt
  right_use n (event.Barred place) h = tt
  right_use n (event.Taken place w) h = tt

  right_uses : (n : ℕ) (es : Found) → uses_fault k machine n es ≡ None → Each (IsRightUse k machine) es
  right_uses n [] h = tt
  right_uses n (e ∷ es) h = let p = or_none (use_fault k machine n e) (uses_fault k machine (n + is_code e) es) h in (right_use n e p.0, right_uses (n + is_code e) es p.1)

  abbrev pub IsRightStatement : Statement → Type 0
  IsRightStatement (statement.Definition d) = Each (IsRightUse k machine) (value_events d.value)
  IsRightStatement (statement.Action a) = IsRightCode a.code.text
  IsRightStatement _ = Unit {0}

  right_statement : (n : ℕ) (s : Statement) → statement_fault k machine n s ≡ None → IsRightStatement s
  right_statement n (statement.Definition d) h = right_uses (n + 1) (value_events d.value) (or_none (counted n d.name.place) _ (or_none (name_fault k machine d.name) _ h).1).1
  right_statement n (statement.Action a) h = right_code a.code (or_none (counted n a.name.place) (code_fault a.code) (or_none (action_name_fault k machine a.name) _ h).1).1
  right_statement n (statement.Machine m) h = tt
  right_statement n (statement.Include m) h = tt
  right_statement n (statement.Alphtype m) h = tt
  right_statement n (statement.Access m) h = tt
  right_statement n (statement.Variable m) h = tt
  right_statement n (statement.Write m) h = tt

-- ---- steps

-- the steps before some step of all
abbrev pub Before : List Step → Type 0
Before steps = (before : List Step) × ((rest : List Step) × (before ++ rest ≡ steps))

abbrev pub IsRightStep : List Step → Step → Type 0
IsRightStep steps s = (i : Before steps) × IsRightStatement (known i.0) s.machine s.statement

right_behind : (steps before ss : List Step) → before ++ ss ≡ steps → faults_behind before ss ≡ None → Each (IsRightStep steps) ss
right_behind steps before [] is h = tt
right_behind steps before (s ∷ ss) is h =
    let p = or_none (step_fault before s) (faults_behind (before ++ s ∷ []) ss) h in
    (((before, (s ∷ ss, is)), right_statement (known before) s.machine (names_of s.machine before) s.statement p.0), right_behind steps (before ++ s ∷ []) ss (append_assoc before (s ∷ []) ss ∙ is) p.1)

pub right_steps : (steps : List Step) → names_fault steps ≡ None → Each (IsRightStep steps) steps
right_steps steps h = right_behind steps [] steps refl h

-- of the step that stands behind these
fault_at : (before ss : List Step) (rest : List Step) (s : Step) → faults_behind before (ss ++ (s ∷ rest)) ≡ None → step_fault (before ++ ss) s ≡ None
fault_at before [] rest s h = subst (λ z. step_fault z s ≡ None) (sym (append-nil before)) (or_none (step_fault before s) (faults_behind (before ++ s ∷ []) rest) h).0
fault_at before (x ∷ ss) rest s h =
    let p = or_none (step_fault before x) (faults_behind (before ++ x ∷ []) (ss ++ (s ∷ rest))) h in
    subst (λ z. step_fault z s ≡ None) (append_assoc before (x ∷ []) ss) (fault_at (before ++ x ∷ []) ss rest s p.1)

pub right_at : (steps before rest : List Step) (s : Step) → before ++ (s ∷ rest) ≡ steps → names_fault steps ≡ None → IsRightStatement (known before) s.machine s.statement
right_at steps before rest s is h =
    right_statement (known before) s.machine (names_of s.machine before) s.statement (fault_at [] before rest s (subst (λ z. faults_behind [] z ≡ None) (sym is) h))

-- ---- codes

module _ (entries : List (List ℕ)) (machine : List ℕ) where
  abbrev HasRightCode : ActionDef → Type 0
  HasRightCode a = IsRightCode a.code

  right_event : (k : Known) (other : List ℕ) (e : Event) → IsRightUse k other e → HoldsOfEvent HasRightCode entries e
  right_event k other (event.Code w) h = h
  right_event k other (event.Action w) h = tt
  right_event k other (event.Quiet place a) h = tt
  right_event k other (event.Leaf o) h = tt
  right_event k other (event.Name w) h = tt
  right_event k other (event.Priority w) h = tt
  right_event k other (event.Embeds a) h = tt
  right_event k other (event.Ends place) h = tt
  right_event k other (event.Barred place) h = tt
  right_event k other (event.Taken place w) h = tt

  right_actions : (k : Known) (other : List ℕ) (s : Statement) → IsRightStatement k other s → HoldsOfStatement HasRightCode entries s
  right_actions k other (statement.Definition d) h = each_more (IsRightUse k other) (HoldsOfEvent HasRightCode entries) (value_events d.value) (right_event k other) h
  right_actions k other (statement.Action a) h = h
  right_actions k other (statement.Machine m) h = tt
  right_actions k other (statement.Include m) h = tt
  right_actions k other (statement.Alphtype m) h = tt
  right_actions k other (statement.Access m) h = tt
  right_actions k other (statement.Variable m) h = tt
  right_actions k other (statement.Write m) h = tt

  pub right_codes : (steps : List Step) → names_fault steps ≡ None → Each (HoldsOfOwn (λ (a : ActionDef). IsRightCode a.code) entries machine) steps
  right_codes steps h =
      each_more (IsRightStep steps) (HoldsOfOwn HasRightCode entries machine) steps (λ s r own. right_actions (known r.0.0) s.machine s.statement r.1) (right_steps steps h)

-- ---- names of entries

first_none : {A B : Type 0} (test : A → Option B) (xs : List A) → first_of test xs ≡ None → Each (λ x. test x ≡ None) xs
first_none test [] h = tt
first_none test (x ∷ xs) h = let p = or_none (test x) (first_of test xs) h in (p.0, first_none test xs p.1)

module _ (entries : List (List ℕ)) (machine : List ℕ) where
  abbrev has : List ℕ → Bool
  has name = list_any (bytes_eq name) entries

  abbrev pub NamesEntries : ActionDef → Type 0
  NamesEntries a = first_unnamed has (sayings a.code) ≡ None

  event_names : (alphabet : Alphabet) (e : Event) → leaf_fault alphabet has e ≡ None → HoldsOfEvent NamesEntries entries e
  event_names alphabet (event.Code w) h = right_names has w h
  event_names alphabet (event.Leaf o) h = tt
  event_names alphabet (event.Action w) h = tt
  event_names alphabet (event.Quiet place a) h = tt
  event_names alphabet (event.Name w) h = tt
  event_names alphabet (event.Priority w) h = tt
  event_names alphabet (event.Embeds a) h = tt
  event_names alphabet (event.Ends place) h = tt
  event_names alphabet (event.Barred place) h = tt
  event_names alphabet (event.Taken place w) h = tt

  statement_names : (alphabet : Alphabet) (s : Statement) → statement_leaf_fault alphabet has s ≡ None → HoldsOfStatement NamesEntries entries s
  statement_names alphabet (statement.Definition d) h =
      each_more (λ e. leaf_fault alphabet has e ≡ None) (HoldsOfEvent NamesEntries entries) (value_events d.value) (event_names alphabet) (first_none (leaf_fault alphabet has) (value_events d.value) h)
  statement_names alphabet (statement.Action a) h = right_names has a.code h
  statement_names alphabet (statement.Machine m) h = tt
  statement_names alphabet (statement.Include m) h = tt
  statement_names alphabet (statement.Alphtype m) h = tt
  statement_names alphabet (statement.Access m) h = tt
  statement_names alphabet (statement.Variable m) h = tt
  statement_names alphabet (statement.Write m) h = tt

pub named_entries : (machine : List ℕ) (steps : List Step) → leaves_fault steps ≡ None → Each (HoldsOfOwn (NamesEntries (entries_of machine steps) machine) (entries_of machine steps) machine) steps
named_entries machine steps h =
    each_more (λ s. statement_leaf_fault (alphabet_of s.machine steps) (is_entry s.machine steps) s.statement ≡ None) (HoldsOfOwn (NamesEntries (entries_of machine steps) machine) (entries_of machine steps) machine) steps
    (λ s r own. statement_names (entries_of machine steps) machine (alphabet_of s.machine steps) s.statement
    (subst (λ z. statement_leaf_fault (alphabet_of s.machine steps) (is_entry z steps) s.statement ≡ None) (sym ((bytes_eq-Decides machine s.machine).0 own)) r))
    (first_none (λ s. statement_leaf_fault (alphabet_of s.machine steps) (is_entry s.machine steps) s.statement) steps h)
