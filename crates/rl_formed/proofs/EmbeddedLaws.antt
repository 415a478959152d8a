-- What is asked of all that definitions embed holds of the entries that they make, and of the conditions.
use Rattle.std.proofs.Common.{◌≡◌, ℕ, ℤ, ◌+◌, Bool, true, false, cond, List, [], ◌∷◌, length, Option, None, Some, Ok, ap, subst, arith}
use Rattle.std.specs.List.{position}
use Rattle.std.specs.Str.{bytes_eq}
use Rattle.std.proofs.lemmas.List.Quantifiers.{position-Some}
use Rattle.rl_types.specs.declared.alphabet.Alphabet.{Alphabet}
use Rattle.rl_types.specs.declared.numbers.ActionId.{ActionId}
use Rattle.rl_types.specs.declared.numbers.Place.{Place}
use Rattle.rl_types.specs.KeyRange.{Range}
use Rattle.rl_grammar.specs.declared.syntax.ActionUse.{ActionUse}
use Rattle.rl_grammar.specs.declared.syntax.ActionUse.TheVariants as action
use Rattle.rl_grammar.specs.declared.syntax.Embedding.{Embedding}
use Rattle.rl_grammar.specs.declared.syntax.Embedding.TheVariants as embedding
use Rattle.rl_grammar.specs.declared.syntax.Label.{Label}
use Rattle.rl_grammar.specs.declared.syntax.Label.TheVariants as label
use Rattle.rl_grammar.specs.declared.syntax.Number.{Number}
use Rattle.rl_grammar.specs.declared.syntax.Priority.{Priority}
use Rattle.rl_grammar.specs.declared.syntax.Priority.TheVariants as priority
use Rattle.rl_grammar.specs.declared.syntax.Statement.{Statement}
use Rattle.rl_grammar.specs.declared.syntax.Statement.TheVariants as statement
use Rattle.rl_model.specs.Counts.{actions_in, trees_of}
use Rattle.rl_model.specs.WellFormed.{IsNumber}
use Rattle.rl_grammar.specs.declared.step.Step.{Step}
use Rattle.rl_draft.specs.declared.draft.Definition.{Definition}
use Rattle.rl_draft.specs.declared.expression.Item.{Item}
use Rattle.rl_draft.specs.declared.expression.Leaf.{Leaf}
use Rattle.rl_draft.specs.declared.expression.Leaf.TheVariants as leaf
use Rattle.rl_draft.specs.declared.expression.Put.{Put}
use Rattle.rl_draft.specs.declared.expression.Put.TheVariants as put
use Rattle.rl_draft.specs.declared.expression.Transitions.{Transitions}
use Rattle.rl_names.specs.Actions.{anonymous_name}
use Rattle.rl_names.specs.Answers.{and_then}
use Rattle.rl_names.specs.Drafts.{scope_behind, definitions_of}
use Rattle.rl_leaves.specs.BuiltIns.{built_in_leaf}
use Rattle.rl_names.specs.Events.{Event, Barred, Ends, value_events}
use Rattle.rl_names.specs.Expressions.{Scope, number_at, numbered, action_at, action_named, action_read, prioritized, priority_read, label_read, put_read, transitions_of, class_of, kind_of}
use Rattle.rl_names.specs.Leaves.{number_read}
use Rattle.rl_names.specs.Frames.{is_of}
use Rattle.rl_rewrite.specs.Entries.{Made, Meaning, meanings_in, is_entry, entry, entries, made_by, conditions_by, conditions_behind, all_conditions}
use Rattle.rl_automata.specs.Nodes.{Node}
use Rattle.rl_rewrite.specs.Walk.{begun}
use Rattle.rl_rewrite.specs.Plain as p
use Rattle.rl_rewrite.specs.Plain.{PlainValue}
use Rattle.rl_form.proofs.Lists.{Each, each_append}
use Rattle.rl_formed.proofs.ResultLaws.{ok_then, same_ok, err_or_ok, always}
use Rattle.rl_formed.proofs.ReadLaws.{OfRead, of_ok, of_then}
use Rattle.rl_formed.proofs.PlainLaws.{IsKept, HoldsOfPlain, HoldsOfRanges, HoldsOfLeaf, HoldsOfEvents, AreScopes, all_meanings}
use Rattle.rl_formed.proofs.WalkLaws.{Asked, HoldsOfPut, HoldsOf, HoldsOfValue, InConditions, IsKeptBy, value_holds, all_asked, keeps_actions}

-- ---- an action that is read is one of the machine's

pub number_found : (place : Place) (o : Option ℕ) (i : ℕ) → number_at place o ≡ Ok i → o ≡ Some i
number_found place None i e = absurd (err_or_ok _ i e)
number_found place (Some j) i e = ap (λ z. Some z) (same_ok j i e)

-- what holds of each priority holds of the one that is read
module _ (k : Scope) (P : Put → Type 0) (any : (ts : Transitions) (x : ℕ) (v : ℤ) → P (put.Priority ts x v)) where
  one_priority : (ts : Transitions) (place : Place) (name : List ℕ) (n : Number) → OfRead P (prioritized k ts place name n)
  one_priority ts place name n =
      of_then (λ i. Unit {0}) P (numbered place name k.priorities) (λ i. and_then (number_read n) (λ v. Ok (put.Priority ts i v))) (λ i e. tt)
      (λ i u. of_then (λ v. Unit {0}) P (number_read n) (λ v. Ok (put.Priority ts i v)) (λ v e. tt) (λ v w. of_ok P (put.Priority ts i v) (any ts i v)))

  pub of_priority : (ts : Transitions) (r : Priority) → OfRead P (priority_read k ts r)
  of_priority ts (priority.Plain n) = one_priority ts _ k.owner n
  of_priority ts (priority.Named r) = one_priority ts r.name.place r.name.text r.value

module _ (k : Scope) where
  abbrev IsOne : ℕ → Type 0
  IsOne n = IsNumber (length k.actions) n

  abbrev IsOneAction : ActionId → Type 0
  IsOneAction a = IsOne a.0

  one_named : (place : Place) (name : List ℕ) → OfRead IsOneAction (action_named k place name)
  one_named place name a e =
      let i = ok_then (numbered place name k.actions) action_at a e in
      let found = number_found place (position (bytes_eq name) k.actions) i.0 i.1 in
      let within = (position-Some (bytes_eq name) k.actions i.0 [] found).0 in
      let one : IsOne (i.0 + 1) = (omega arith, omega (arith, within)) in
      subst IsOneAction (same_ok (record { 0 = i.0 + 1 }) a i.2) one

  one_read : (a : ActionUse) → OfRead IsOneAction (action_read k a)
  one_read (action.Name w) = one_named w.place w.text
  one_read (action.Group opening w closing) = one_named w.place w.text
  one_read (action.Code w) = one_named w.place (anonymous_name w.place)

  abbrev HoldsPut : Put → Type 0
  HoldsPut q = HoldsOfPut (all_asked IsOne) q

  label_holds : (ts : Transitions) (l : Label) → OfRead HoldsPut (label_read k ts l)
  label_holds ts (label.Action a) = of_then IsOneAction HoldsPut (action_read k a) (λ n. Ok (put.Action ts n)) (one_read a) (λ n h. of_ok HoldsPut (put.Action ts n) h)
  label_holds ts (label.Priority r) = of_priority k HoldsPut (λ ts x v. tt) ts r

  puts_hold : (m : Embedding) → OfRead HoldsPut (put_read k m)
  puts_hold (embedding.Transition s l) = label_holds (transitions_of s) l
  puts_hold (embedding.State mark a) =
      of_then IsOneAction HoldsPut (action_read k a) (λ n. Ok (put.Mark (class_of mark.class) (kind_of mark.kind) n)) (one_read a) (λ n h. of_ok HoldsPut (put.Mark (class_of mark.class) (kind_of mark.kind) n) h)
  puts_hold (embedding.When place a) = of_then IsOneAction HoldsPut (action_read k a) (λ n. Ok (put.When n)) (one_read a) (λ n h. of_ok HoldsPut (put.When n) h)

-- ---- entries

-- any leaf will do
abbrev pub Any : List Range → Type 0
Any ranges = Unit {0}

any_ranges : (o : Option (List Range)) → HoldsOfRanges Any o
any_ranges None = tt
any_ranges (Some ranges) = tt

any_items : (items : List Item) → Each (λ (i : Item). HoldsOfRanges Any i.ranges) items
any_items [] = tt
any_items (i ∷ is) = (any_ranges i.ranges, any_items is)

pub any_leaf : (l : Leaf) → HoldsOfLeaf Any l
any_leaf (leaf.Set ranges) = tt
any_leaf leaf.Null = tt
any_leaf leaf.Nothing = tt
any_leaf (leaf.Row items) = any_items items

-- and any event, at one index
abbrev pub AnyEvent : Unit {0} → Event → Type 0
AnyEvent i e = Unit {0}

any_statement : (s : Statement) → HoldsOfEvents (AnyEvent tt) s
any_statement (statement.Definition d) = always (value_events d.value)
any_statement (statement.Action a) = tt
any_statement (statement.Machine m) = tt
any_statement (statement.Include m) = tt
any_statement (statement.Alphtype m) = tt
any_statement (statement.Access m) = tt
any_statement (statement.Variable m) = tt
any_statement (statement.Write m) = tt

pub any_steps : (machine : List ℕ) (steps : List Step) → Each (λ (s : Step). is_of machine s ≡ true → (i : Unit {0}) × HoldsOfEvents (AnyEvent i) s.statement) steps
any_steps machine [] = tt
any_steps machine (s ∷ ss) = ((λ own. (tt, any_statement s.statement)), any_steps machine ss)

module _ (A : Asked) (InTree : Node → Type 0) (keeps : IsKeptBy A InTree) (alphabet : Alphabet) where
  pub kept : IsKept alphabet (HoldsOf A) (HoldsOfPut A)
  kept = record {
    empty = λ at. tt;
    none = λ at. tt;
    every = λ at. tt;
    pair = λ q a b at h g. (h, g);
    guarded = λ g a b at h k. (h, k);
    longest = λ a at h. h;
    count = λ a least most at h. h;
    series = λ a ps at h g. (h, g);
  }

  abbrev HoldsOfMeaning : Meaning → Type 0
  HoldsOfMeaning m = HoldsOfPlain (HoldsOf A) m.value

  as_value : (v : PlainValue) → HoldsOfPlain (HoldsOf A) v → HoldsOfValue A InTree keeps v
  as_value (p.Expression q) h = h
  as_value (p.Scanner qs at) h = h

  -- each of its trees is such a one
  abbrev pub HoldsOfMade : Made → Type 0
  HoldsOfMade m = Each InTree (trees_of m.root)

  made_case : (b : Bool) (cs : List ActionId) (m : Meaning) → HoldsOfMeaning m → InConditions A cs → Each HoldsOfMade (cond b (entry cs m ∷ []) []) × InConditions A (cond b (conditions_behind cs m) cs)
  made_case true cs m h g = let w = value_holds A InTree keeps m.value (begun cs) (as_value m.value h) g in ((w.0, tt), w.1)
  made_case false cs m h g = (tt, g)

  entries_hold : (cs : List ActionId) (ms : List Meaning) → Each HoldsOfMeaning ms → InConditions A cs → Each HoldsOfMade (entries cs ms) × InConditions A (all_conditions cs ms)
  entries_hold cs [] h g = (tt, g)
  entries_hold cs (m ∷ ms) h g =
      let one = made_case (is_entry m.sign) cs m h.0 g in
      let more = entries_hold (conditions_by cs m) ms h.1 one.1 in
      (each_append HoldsOfMade (made_by cs m) (entries (conditions_by cs m) ms) one.0 more.0, more.1)

  -- of all entries, and of the conditions
  pub all_hold : (I : Type 0) (B : I → Event → Type 0) (k : Scope) (machine : List ℕ) (steps : List Step) (ds : List Definition) → ((i : I) → AreScopes alphabet (HoldsOfPut A) (B i) k) → ((i : I) (at : Place) → B i (Barred at) → B i (Ends at)) → Each (λ (s : Step). is_of machine s ≡ true → (i : I) × HoldsOfEvents (B i) s.statement) steps
      → definitions_of k machine steps ≡ Ok ds
      → Each HoldsOfMade (entries [] (meanings_in alphabet ds)) × InConditions A (all_conditions [] (meanings_in alphabet ds))
  all_hold I B k machine steps ds scopes barred events e =
      entries_hold [] (meanings_in alphabet ds)
      (all_meanings alphabet (HoldsOf A) (HoldsOfPut A) Any kept (λ ranges at u. tt) I B barred (λ i o l b r. any_leaf l) (λ b. any_leaf (built_in_leaf alphabet b)) k machine steps ds scopes events e) tt

-- ---- all actions are those of the machine

-- each action that it embeds is one of so many
abbrev pub EmbedsOwn : ℕ → Made → Type 0
EmbedsOwn count m = Each (λ t. Each (IsNumber count) (actions_in t)) (trees_of m.root)

pub own_actions : (count : ℕ) (alphabet : Alphabet) (k : Scope) (machine : List ℕ) (steps : List Step) (ds : List Definition) → k.alphabet ≡ alphabet → length k.actions ≡ count → definitions_of k machine steps ≡ Ok ds
    → Each (EmbedsOwn count) (entries [] (meanings_in alphabet ds)) × Each (λ (a : ActionId). IsNumber count a.0) (all_conditions [] (meanings_in alphabet ds))
own_actions count alphabet k machine steps ds known same e =
    let puts = λ (names : List (List ℕ)) (earlier : List Definition) (owner : List ℕ). subst (λ z. (m : Embedding) → OfRead (HoldsOfPut (all_asked (IsNumber z))) (put_read (scope_behind k names earlier owner) m)) same (puts_hold (scope_behind k names earlier owner)) in
    all_hold (all_asked (IsNumber count)) (λ t. Each (IsNumber count) (actions_in t)) (keeps_actions (IsNumber count) (IsNumber count)) alphabet (Unit {0}) AnyEvent k machine steps ds
    (λ i names earlier owner. (known, (λ m b. puts names earlier owner m))) (λ i at h. tt) (any_steps machine steps) e
