-- Actions that may have no control statements have none where no fault of names is found.
use Rattle.std.proofs.Common.{◌≡◌, ℕ, Bool, true, false, cond, List, [], ◌∷◌, ◌++◌, fold, Option, None, Some, refl, sym, ap, ◌∙◌, subst, inl, inr, ◌⊎◌}
use Rattle.std.specs.Prelude.{◌&&◌, is_some, unwrap_or, if◌then◌else◌}
use Rattle.std.specs.List.{flat_map}
use Rattle.std.specs.Str.{bytes_eq}
use Rattle.std.proofs.lemmas.Bool.{false≢true}
use Rattle.std.proofs.lemmas.Slice.Eq.{bytes_eq-Decides}
use Rattle.rl_grammar.specs.declared.step.Step.{Step}
use Rattle.rl_grammar.specs.declared.syntax.ActionUse.{ActionUse}
use Rattle.rl_grammar.specs.declared.syntax.ActionUse.TheVariants as action
use Rattle.rl_grammar.specs.declared.syntax.Embedding.{Embedding}
use Rattle.rl_grammar.specs.declared.syntax.Embedding.TheVariants as embedding
use Rattle.rl_grammar.specs.declared.syntax.StateKind.{StateKind}
use Rattle.rl_grammar.specs.declared.syntax.StateKind.TheVariants as called
use Rattle.rl_grammar.specs.declared.syntax.Statement.{Statement}
use Rattle.rl_grammar.specs.declared.syntax.Statement.TheVariants as statement
use Rattle.rl_grammar.specs.declared.syntax.Word.{Word}
use Rattle.rl_types.specs.declared.numbers.Place.{Place}
use Rattle.rl_sets.specs.Sets.{In}
use Rattle.rl_automata.specs.Refused.{AreDifferent}
use Rattle.rl_model.specs.declared.spec.ActionDef.{ActionDef}
use Rattle.rl_names.specs.Actions.{anonymous_name, action_def, action_used, actions_by, actions_behind, actions_of}
use Rattle.rl_names.specs.Codes.{has_statements}
use Rattle.rl_names.specs.Entries.{entries_of}
use Rattle.rl_names.specs.Events.{Event, Found, value_events, embedding_events, embedded, marked, used}
use Rattle.rl_names.specs.Events as event
use Rattle.rl_names.specs.Frames.{is_of}
use Rattle.rl_names.specs.Names.{Named, known, said_of, action_by, steers, names_fault}
use Rattle.rl_names.proofs.NamesChecked.{actions_known}
use Rattle.rl_form.proofs.Lists.{Each, each_behind, each_more}
use Rattle.rl_formed.proofs.CodeLaws.{no_statements}
use Rattle.rl_formed.proofs.FaultLaws.{IsRightUse, IsRightStatement, Before, IsRightStep, right_steps, right_at}
use Rattle.rl_formed.proofs.PlainLaws.{HoldsOfEvents}
use Rattle.rl_formed.proofs.ResultLaws.{some_or_none, same_some}
use Rattle.rl_formed.proofs.TurnLaws.{names_in, name_used, IsQuietName, IsQuietState, IsQuietUse}

-- ---- an action of a list

-- it holds of one of them
abbrev One : (ActionDef → Type 0) → List ActionDef → Type 0
One P [] = ⊥
One P (a ∷ rest) = P a ⊎ One P rest

one_front : (P : ActionDef → Type 0) (xs ys : List ActionDef) → One P xs → One P (xs ++ ys)
one_front P [] ys h = absurd h
one_front P (x ∷ xs) ys (inl h) = inl h
one_front P (x ∷ xs) ys (inr h) = inr (one_front P xs ys h)

one_last : (P : ActionDef → Type 0) (xs : List ActionDef) (y : ActionDef) → P y → One P (xs ++ y ∷ [])
one_last P [] y h = inl h
one_last P (x ∷ xs) y h = inr (one_last P xs y h)

-- it has this name, and no statement
abbrev IsQuietAs : List ℕ → ActionDef → Type 0
IsQuietAs name a = (a.name ≡ name) × (a.statements ≡ [])

quiet_in : (name : List ℕ) (actions : List ActionDef) → One (IsQuietAs name) actions → In name (names_in actions)
quiet_in name [] h = h
quiet_in name (a ∷ rest) (inl h) = inl h.0
quiet_in name (a ∷ rest) (inr h) = inr (quiet_in name rest h)

absent : (name : List ℕ) (actions : List ActionDef) → (In name (names_in actions) → ⊥) → IsQuietName actions name
absent name [] h = tt
absent name (a ∷ rest) h = ((λ e. absurd (h (inl (sym e)))), absent name rest (λ i. h (inr i)))

-- where no two have one name, no action of a name has statements where one has none
only_quiet : (name : List ℕ) (actions : List ActionDef) → AreDifferent (names_in actions) → One (IsQuietAs name) actions → IsQuietName actions name
only_quiet name [] d h = tt
only_quiet name (a ∷ rest) d (inl h) = ((λ e. h.1), absent name rest (λ i. d.0 (subst (λ z. In z (names_in rest)) (sym h.0) i)))
only_quiet name (a ∷ rest) d (inr h) = ((λ e. absurd (d.0 (subst (λ z. In z (names_in rest)) e (quiet_in name rest h)))), only_quiet name rest d.1 h)

-- ---- actions stay

module _ (entries : List (List ℕ)) (machine : List ℕ) (P : ActionDef → Type 0) where
  stays_event : (e : Event) (actions : List ActionDef) → One P actions → One P (action_used entries actions e)
  stays_event (event.Code w) actions h = one_front P actions (action_def entries (anonymous_name w.place) w ∷ []) h
  stays_event (event.Leaf o) actions h = h
  stays_event (event.Name w) actions h = h
  stays_event (event.Action w) actions h = h
  stays_event (event.Priority w) actions h = h
  stays_event (event.Quiet place a) actions h = h
  stays_event (event.Embeds a) actions h = h
  stays_event (event.Ends place) actions h = h
  stays_event (event.Barred place) actions h = h
  stays_event (event.Taken place w) actions h = h

  stays_events : (es : Found) (actions : List ActionDef) → One P actions → One P (fold (action_used entries) actions es)
  stays_events [] actions h = h
  stays_events (e ∷ es) actions h = stays_events es (action_used entries actions e) (stays_event e actions h)

  stays_statement : (s : Statement) (actions : List ActionDef) → One P actions → One P (actions_by entries actions s)
  stays_statement (statement.Definition d) actions h = stays_events (value_events d.value) actions h
  stays_statement (statement.Action a) actions h = one_front P actions (action_def entries a.name.text a.code ∷ []) h
  stays_statement (statement.Machine m) actions h = h
  stays_statement (statement.Include m) actions h = h
  stays_statement (statement.Alphtype m) actions h = h
  stays_statement (statement.Access m) actions h = h
  stays_statement (statement.Variable m) actions h = h
  stays_statement (statement.Write m) actions h = h

  stays_case : (b : Bool) (s : Statement) (actions : List ActionDef) → One P actions → One P (if b then actions_by entries actions s else actions)
  stays_case true s actions h = stays_statement s actions h
  stays_case false s actions h = h

  stays : (ss : List Step) (actions : List ActionDef) → One P actions → One P (fold (actions_behind entries machine) actions ss)
  stays [] actions h = h
  stays (s ∷ ss) actions h = stays ss (actions_behind entries machine actions s) (stays_case (is_of machine s) s.statement actions h)

-- ---- actions with names

both : (a b : Bool) → (a && b) ≡ true → (a ≡ true) × (b ≡ true)
both true b h = (refl, h)
both false b h = absurd (false≢true h)

-- it has this name, and no statement where that is said
abbrev IsSaid : List ℕ → Bool → ActionDef → Type 0
IsSaid name b a = (a.name ≡ name) × (b ≡ false → a.statements ≡ [])

one_more : (P Q : ActionDef → Type 0) (actions : List ActionDef) → ((a : ActionDef) → P a → Q a) → One P actions → One Q actions
one_more P Q [] f h = h
one_more P Q (a ∷ rest) f (inl h) = inl (f a h)
one_more P Q (a ∷ rest) f (inr h) = inr (one_more P Q rest f h)

said_quiet : (name : List ℕ) (b : Bool) (actions : List ActionDef) → b ≡ false → One (IsSaid name b) actions → One (IsQuietAs name) actions
said_quiet name b actions e h = one_more (IsSaid name b) (IsQuietAs name) actions (λ a g. (g.0, g.1 e)) h

-- the actions that statements define, and whether they have statements
abbrev named_by : List Step → List (Named × Bool)
named_by steps = flat_map (λ (s : Step). action_by s.machine s.statement) steps

module _ (entries : List (List ℕ)) (machine : List ℕ) where
  abbrev behind_all : List ActionDef → List Step → List ActionDef
  behind_all actions ss = fold (actions_behind entries machine) actions ss

  said_as : (name : List ℕ) (w : Word) → IsSaid name (has_statements w.text) (action_def entries name w)
  said_as name w = (refl, (λ e. no_statements entries w.text e))

  module _ (name : List ℕ) (b : Bool) where
    abbrev Later : List Step → Option Bool → Type 0
    Later ss rest = (actions : List ActionDef) → rest ≡ Some b → One (IsSaid name b) (behind_all actions ss)

    said_action : (other : List ℕ) (text : List ℕ) (code : Word) (ss : List Step) (rest : Option Bool) (actions : List ActionDef) (x y : Bool) → bytes_eq name text ≡ y → cond (x && y) (Some (has_statements code.text)) rest ≡ Some b → Later ss rest
        → One (IsSaid name b) (behind_all (if x then actions ++ action_def entries text code ∷ [] else actions) ss)
    said_action other text code ss rest actions true true e h later =
        let is = same_some (has_statements code.text) b h in
        stays entries machine (IsSaid name b) ss (actions ++ action_def entries text code ∷ [])
        (one_last (IsSaid name b) actions (action_def entries text code) (sym ((bytes_eq-Decides name text).0 e), (λ f. no_statements entries code.text (is ∙ f))))
    said_action other text code ss rest actions true false e h later = later (actions ++ action_def entries text code ∷ []) h
    said_action other text code ss rest actions false y e h later = later actions h

    none_said : (c : Bool) (ss : List Step) (rest : Option Bool) (these actions : List ActionDef) → rest ≡ Some b → Later ss rest → One (IsSaid name b) (behind_all (if c then these else actions) ss)
    none_said true ss rest these actions h later = later these h
    none_said false ss rest these actions h later = later actions h

    said_case : (s : Statement) (other : List ℕ) (ss : List Step) (all : List (Named × Bool)) (actions : List ActionDef) → said_of (machine, name) (action_by other s ++ all) ≡ Some b → Later ss (said_of (machine, name) all)
        → One (IsSaid name b) (behind_all (if bytes_eq machine other then actions_by entries actions s else actions) ss)
    said_case (statement.Action a) other ss all actions h later = said_action other a.name.text a.code ss (said_of (machine, name) all) actions (bytes_eq machine other) (bytes_eq name a.name.text) refl h later
    said_case (statement.Definition d) other ss all actions h later = none_said (bytes_eq machine other) ss (said_of (machine, name) all) (fold (action_used entries) actions (value_events d.value)) actions h later
    said_case (statement.Machine m) other ss all actions h later = none_said (bytes_eq machine other) ss (said_of (machine, name) all) actions actions h later
    said_case (statement.Include m) other ss all actions h later = none_said (bytes_eq machine other) ss (said_of (machine, name) all) actions actions h later
    said_case (statement.Alphtype m) other ss all actions h later = none_said (bytes_eq machine other) ss (said_of (machine, name) all) actions actions h later
    said_case (statement.Access m) other ss all actions h later = none_said (bytes_eq machine other) ss (said_of (machine, name) all) actions actions h later
    said_case (statement.Variable m) other ss all actions h later = none_said (bytes_eq machine other) ss (said_of (machine, name) all) actions actions h later
    said_case (statement.Write m) other ss all actions h later = none_said (bytes_eq machine other) ss (said_of (machine, name) all) actions actions h later

    -- what is said of a name of the machine is said of an action
    said_found : (ss : List Step) (actions : List ActionDef) → said_of (machine, name) (named_by ss) ≡ Some b → One (IsSaid name b) (behind_all actions ss)
    said_found [] actions h = absurd (some_or_none b (sym h))
    said_found (s ∷ ss) actions h = said_case s.statement s.machine ss (named_by ss) actions h (λ these g. said_found ss these g)

  -- ---- actions without names

  -- an action without a name is one of these
  abbrev HasCode : List ActionDef → Event → Type 0
  HasCode actions (event.Code w) = One (IsSaid (anonymous_name w.place) (has_statements w.text)) actions
  HasCode actions _ = Unit {0}

  abbrev HasCodes : List ActionDef → Statement → Type 0
  HasCodes actions (statement.Definition d) = Each (HasCode actions) (value_events d.value)
  HasCodes actions _ = Unit {0}

  one_code : (e : Event) (es : Found) (actions : List ActionDef) → HasCode (fold (action_used entries) (action_used entries actions e) es) e
  one_code (event.Code w) es actions =
      let name = anonymous_name w.place in
      let P = IsSaid name (has_statements w.text) in
      stays_events entries machine P es (actions ++ action_def entries name w ∷ []) (one_last P actions (action_def entries name w) (said_as name w))
  one_code (event.Leaf o) es actions = tt
  one_code (event.Name w) es actions = tt
  one_code (event.Action w) es actions = tt
  one_code (event.Priority w) es actions = tt
  one_code (event.Quiet place a) es actions = tt
  one_code (event.Embeds a) es actions = tt
  one_code (event.Ends place) es actions = tt
  one_code (event.Barred place) es actions = tt
  one_code (event.Taken place w) es actions = tt

  codes_in : (es : Found) (actions : List ActionDef) → Each (HasCode (fold (action_used entries) actions es)) es
  codes_in [] actions = tt
  codes_in (e ∷ es) actions = (one_code e es actions, codes_in es (action_used entries actions e))

  code_stays : (ss : List Step) (actions : List ActionDef) (e : Event) → HasCode actions e → HasCode (behind_all actions ss) e
  code_stays ss actions (event.Code w) h = stays entries machine (IsSaid (anonymous_name w.place) (has_statements w.text)) ss actions h
  code_stays ss actions (event.Leaf o) h = tt
  code_stays ss actions (event.Name w) h = tt
  code_stays ss actions (event.Action w) h = tt
  code_stays ss actions (event.Priority w) h = tt
  code_stays ss actions (event.Quiet place a) h = tt
  code_stays ss actions (event.Embeds a) h = tt
  code_stays ss actions (event.Ends place) h = tt
  code_stays ss actions (event.Barred place) h = tt
  code_stays ss actions (event.Taken place w) h = tt

  statement_codes : (s : Statement) (ss : List Step) (actions : List ActionDef) → HasCodes (behind_all (actions_by entries actions s) ss) s
  statement_codes (statement.Definition d) ss actions =
      let these = fold (action_used entries) actions (value_events d.value) in
      each_more (HasCode these) (HasCode (behind_all these ss)) (value_events d.value) (code_stays ss these) (codes_in (value_events d.value) actions)
  statement_codes (statement.Action a) ss actions = tt
  statement_codes (statement.Machine m) ss actions = tt
  statement_codes (statement.Include m) ss actions = tt
  statement_codes (statement.Alphtype m) ss actions = tt
  statement_codes (statement.Access m) ss actions = tt
  statement_codes (statement.Variable m) ss actions = tt
  statement_codes (statement.Write m) ss actions = tt

  own_codes : (b : Bool) (s : Statement) (ss : List Step) (actions : List ActionDef) → b ≡ true → HasCodes (behind_all (if b then actions_by entries actions s else actions) ss) s
  own_codes true s ss actions own = statement_codes s ss actions
  own_codes false s ss actions own = absurd (false≢true own)

  all_codes : (ss : List Step) (actions : List ActionDef) → Each (λ (s : Step). is_of machine s ≡ true → HasCodes (behind_all actions ss) s.statement) ss
  all_codes [] actions = tt
  all_codes (s ∷ ss) actions = ((λ own. own_codes (is_of machine s) s.statement ss actions own), all_codes ss (actions_behind entries machine actions s))

-- ---- quiet uses

fold_behind : (f : List ActionDef → Step → List ActionDef) (start : List ActionDef) (xs ys : List Step) → fold f start (xs ++ ys) ≡ fold f (fold f start xs) ys
fold_behind f start [] ys = refl
fold_behind f start (x ∷ xs) ys = fold_behind f (f start x) xs ys

said_false : (o : Option Bool) → is_some o ≡ true → unwrap_or o false ≡ false → o ≡ Some false
said_false None h e = absurd (false≢true h)
said_false (Some b) h e = ap (λ z. Some z) e

both_each : {X : Type 0} (P Q R : X → Type 0) (xs : List X) → ((x : X) → P x → Q x → R x) → Each P xs → Each Q xs → Each R xs
both_each P Q R [] f h g = tt
both_each P Q R (x ∷ xs) f h g = (f x h.0 g.0, both_each P Q R xs f h.1 g.1)

module _ (machine : List ℕ) (steps : List Step) (differ : AreDifferent (names_in (actions_of machine steps))) where
  abbrev actions : List ActionDef
  actions = actions_of machine steps

  -- what is known of a use behind these steps
  abbrev pub IsKnownBehind : List Step → Event → Type 0
  IsKnownBehind before (event.Action w) = is_some (said_of (machine, w.text) (known before).actions) ≡ true
  IsKnownBehind before (event.Quiet place a) = steers (known before) machine a ≡ false
  IsKnownBehind before (event.Code w) = One (IsSaid (anonymous_name w.place) (has_statements w.text)) actions
  IsKnownBehind before _ = Unit {0}

  -- and behind the steps before it
  abbrev pub IsKnown : Before steps → Event → Type 0
  IsKnown i e = IsKnownBehind i.0 e

  quiet_word : (i : Before steps) (name : List ℕ) → unwrap_or (said_of (machine, name) (known i.0).actions) false ≡ false → is_some (said_of (machine, name) (known i.0).actions) ≡ true → IsQuietName actions name
  quiet_word i name quiet there =
      let entries = entries_of machine steps in
      let P = IsSaid name false in
      let said = said_false (said_of (machine, name) (known i.0).actions) there quiet in
      let found = said_found entries machine name false i.0 [] (subst (λ z. said_of (machine, name) z ≡ Some false) (actions_known i.0) said) in
      let later = stays entries machine P i.1.0 (fold (actions_behind entries machine) [] i.0) found in
      let whole = subst (One P) (sym (fold_behind (actions_behind entries machine) [] i.0 i.1.0)) later in
      only_quiet name actions differ (said_quiet name false actions refl (subst (λ z. One P (fold (actions_behind entries machine) [] z)) i.1.1 whole))

  pub quiet_used : (i : Before steps) (a : ActionUse) → steers (known i.0) machine a ≡ false → Each (IsKnown i) (used a) → IsQuietName actions (name_used a)
  quiet_used i (action.Name w) quiet b = quiet_word i w.text quiet b.0
  quiet_used i (action.Group opening w closing) quiet b = quiet_word i w.text quiet b.0
  quiet_used i (action.Code w) quiet b = only_quiet (anonymous_name w.place) actions differ (said_quiet (anonymous_name w.place) (has_statements w.text) actions quiet b.0)

  quiet_state : (i : Before steps) (kind : StateKind) (place : Place) (a : ActionUse) → Each (IsKnown i) (marked kind place a ++ embedded a) → IsQuietState actions kind a
  quiet_state i called.To place a b = quiet_used i a b.0 b.1.1
  quiet_state i called.From place a b = quiet_used i a b.0 b.1.1
  quiet_state i called.Eof place a b = tt
  quiet_state i called.Error place a b = tt

  pub quiet_embedding : (i : Before steps) (m : Embedding) → Each (IsKnown i) (embedding_events m) → IsQuietUse actions m
  quiet_embedding i (embedding.Transition sign l) b = tt
  quiet_embedding i (embedding.State mark a) b = quiet_state i mark.kind mark.place a b
  quiet_embedding i (embedding.When place a) b = quiet_used i a b.0 b.1.1

  known_use : (i : Before steps) (e : Event) → IsRightUse (known i.0) machine e → HasCode (entries_of machine steps) machine actions e → IsKnown i e
  known_use i (event.Action w) h g = h
  known_use i (event.Quiet place a) h g = h
  known_use i (event.Code w) h g = g
  known_use i (event.Leaf o) h g = tt
  known_use i (event.Name w) h g = tt
  known_use i (event.Priority w) h g = tt
  known_use i (event.Embeds a) h g = tt
  known_use i (event.Ends place) h g = tt
  known_use i (event.Barred place) h g = tt
  known_use i (event.Taken place w) h g = tt

  known_statement : (i : Before steps) (s : Statement) → IsRightStatement (known i.0) machine s → HasCodes (entries_of machine steps) machine actions s → HoldsOfEvents (IsKnown i) s
  known_statement i (statement.Definition d) h g =
      both_each (IsRightUse (known i.0) machine) (HasCode (entries_of machine steps) machine actions) (IsKnown i) (value_events d.value) (known_use i) h g
  known_statement i (statement.Action a) h g = tt
  known_statement i (statement.Machine m) h g = tt
  known_statement i (statement.Include m) h g = tt
  known_statement i (statement.Alphtype m) h g = tt
  known_statement i (statement.Access m) h g = tt
  known_statement i (statement.Variable m) h g = tt
  known_statement i (statement.Write m) h g = tt

  -- what is known of the uses of one of the steps
  pub one_known : names_fault steps ≡ None → (i : Before steps) (rest : List Step) (s : Step) → i.1.0 ≡ s ∷ rest → is_of machine s ≡ true → HoldsOfEvents (IsKnown i) s.statement
  one_known h i rest s is own =
      let split : i.0 ++ (s ∷ rest) ≡ steps = ap (λ z. i.0 ++ z) (sym is) ∙ i.1.1 in
      let right = subst (λ z. IsRightStatement (known i.0) z s.statement) (sym ((bytes_eq-Decides machine s.machine).0 own)) (right_at steps i.0 rest s split h) in
      let Codes : Step → Type 0 = λ t. is_of machine t ≡ true → HasCodes (entries_of machine steps) machine actions t.statement in
      let codes = each_behind Codes i.0 (s ∷ rest) (subst (Each Codes) (sym split) (all_codes (entries_of machine steps) machine steps [])) in
      known_statement i s.statement right (codes.0 own)

  pub all_known : names_fault steps ≡ None → Each (λ (s : Step). is_of machine s ≡ true → (i : Before steps) × HoldsOfEvents (IsKnown i) s.statement) steps
  all_known h =
      both_each (IsRightStep steps) (λ (s : Step). is_of machine s ≡ true → HasCodes (entries_of machine steps) machine actions s.statement)
      (λ (s : Step). is_of machine s ≡ true → (i : Before steps) × HoldsOfEvents (IsKnown i) s.statement) steps
      (λ s right codes own. (right.0, known_statement right.0 s.statement (subst (λ z. IsRightStatement (known right.0.0) z s.statement) (sym ((bytes_eq-Decides machine s.machine).0 own)) right.1) (codes own)))
      (right_steps steps h) (all_codes (entries_of machine steps) machine steps [])
