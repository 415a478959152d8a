-- The tree machine of a well-formed Spec keeps the rules on lists and kinds.
use Rattle.std.proofs.Common.{◌≡◌, ℕ, zero, suc, ◌≤◌, Bool, true, false, true≢false, cond, List, [], ◌∷◌, ◌++◌, ◌⊎◌, map, flat_map, filter, All, refl, sym, ◌∙◌, ap, subst, inl, inr, Option, Some, None, option_map, option_to_list, nat_eq, not, arith}
use Rattle.std.specs.List.{AllByRecursion}
use Rattle.rl_types.specs.declared.numbers.Key.{Key}
use Rattle.rl_types.specs.declared.numbers.Letter.{Letter}
use Rattle.rl_sets.specs.Sets.{In}
use Rattle.rl_sets.proofs.SetLaws.{In-map, In-flat_map, In-set_of_from, In-append_cases}
use Rattle.rl_sets.proofs.OrderLaws.{eq_by_cmp-itself, eq_by_cmp-same}
use Rattle.rl_labels.specs.declared.stamped.Stamp.{Stamp}
use Rattle.rl_labels.specs.Labels.{stamps_of, once, is_listed}
use Rattle.rl_labels.proofs.LabelOrders.{stamp_order}
use Rattle.rl_automata.specs.declared.moves.Move.{Move}
use Rattle.rl_automata.specs.declared.tree.Kind.{Kind}
use Rattle.rl_automata.specs.declared.tree.Kind.TheVariants as K
use Rattle.rl_labels.specs.Carries.{no_carry}
use Rattle.rl_automata.specs.Auto.{Auto, is_start, on_part}
use Rattle.rl_automata.specs.Nodes.{Node, Nothing}
use Rattle.rl_automata.specs.Marks.{Marks, auto}
use Rattle.rl_automata.specs.Scans.{Pattern, Confs, PatternMarks, Root, Plain, Scanner, scan_auto, with_token, token_list}
use Rattle.rl_run.specs.Machine.{Go, Machine}
use Rattle.rl_run.specs.Fine.{IsQuiet, IsKinded}
use Rattle.rl_model.specs.Specification.{Action, statement_at}
use Rattle.rl_model.specs.Counts.{actions_in, turn_actions_in, trees_of, pattern_trees, token_actions}
use Rattle.rl_model.specs.WellFormed.{IsNumber}
use Rattle.rl_model.specs.Parts.{Part, Context, EntryState, is_entry, start_at, go_at, letter_of, machine, kind_in, error_in, eof_in, token_in}
use Rattle.rl_model.specs.Trees.{Tests, root_part, root_at, list_or}
use Rattle.rl_model.specs.ListRules.{lists_at}
use Rattle.rl_model.proofs.Embedded.{IsKept, InTurn, tree_kept, scan_kept}
use Rattle.rl_automata.proofs.Congruence.{none_in, some_in}
use Rattle.rl_automata.proofs.MarksLaws.{scan_order}
use Rattle.rl_automata.proofs.StartLaws as start
use Rattle.rl_model.proofs.Values.{is_false}

-- ---- lists

pub all_in : {X : Type 0} (P : X → Type 0) (xs : List X) → All P xs → (x : X) → In x xs → P x
all_in P [] h x i = absurd i
all_in P (y ∷ ys) h x (inl e) = subst P e (h 0 y (omega arith))
all_in P (y ∷ ys) h x (inr i) = all_in P ys (λ k d b. h (suc k) d (omega (arith, b))) x i

filtered_all : {X : Type 0} (P : X → Type 0) (p : X → Bool) (xs : List X) → AllByRecursion P xs → AllByRecursion P (filter p xs)
filtered_all P p [] h = tt
filtered_all P p (x ∷ xs) h = elim (p x) as (λ b. AllByRecursion P (cond b (x ∷ filter p xs) (filter p xs))) [ true ↦ (h.0, filtered_all P p xs h.1) | false ↦ filtered_all P p xs h.1 ]

once_all : (P : ℕ → Type 0) (xs : List Stamp) → ((x : Stamp) → In x xs → P x.action.0) → AllByRecursion P (once xs)
once_all P [] h = tt
once_all P (x ∷ xs) h = (h x (inl refl), filtered_all P (λ b. not (nat_eq b x.action.0)) (once xs) (once_all P xs (λ y i. h y (inr i))))

append_all : (P : ℕ → Type 0) (xs ys : List ℕ) → AllByRecursion P xs → AllByRecursion P ys → AllByRecursion P (xs ++ ys)
append_all P [] ys h k = k
append_all P (x ∷ xs) ys h k = (h.0, append_all P xs ys h.1 k)

none_below : 1 ≤ 0 → ⊥
none_below h = omega (arith, h)

-- ---- one entry

module _ (count : ℕ) (actions : List Action) where
  -- the action has no control statement
  abbrev Quiet : ℕ → Type 0
  Quiet a = (n : ℕ) → statement_at actions a n ≡ None

  -- what is known of the actions in an entry's expressions
  pub record RootFacts (x : Root) : Type 0 where
    pub acts : (a : ℕ) → In a (flat_map actions_in (trees_of x)) → IsNumber count a
    pub turns : (a : ℕ) → In a (flat_map turn_actions_in (trees_of x)) → Quiet a
    pub patterns : (a : ℕ) → In a (flat_map actions_in (pattern_trees x)) → Quiet a
    pub tokens : (a : ℕ) → In a (token_actions x) → IsNumber count a

  -- and what comes of it for the entry's part
  pub record PartRules {S : Type 0} (p : Part S) : Type 0 where
    pub step : (s : S) (l : Letter) (m : Move S) → p.auto.step s l ≡ Some m → (x : Stamp) → In x m.carry.actions → IsNumber count x.action.0 × (p.is_scanner ≡ true → Quiet x.action.0)
    pub out : (s : S) (x : Stamp) → In x (p.auto.out s).actions → IsNumber count x.action.0
    pub marks : (s : S) (kind : Kind) (x : Stamp) → In x (p.auto.marks s kind) → IsNumber count x.action.0 × InTurn Quiet Quiet kind x.action.0
    pub token : (s : S) → AllByRecursion (IsNumber count) (token_in p s)
    pub start_kind : kind_in p p.auto.start ≡ cond p.is_scanner 1 0
    pub inner : (s : S) (l : Letter) (m : Move S) → p.is_scanner ≡ true → p.auto.step s l ≡ Some m → 2 ≤ kind_in p m.to

  two_or_more : (a b c : Bool) → a ≡ false → 2 ≤ cond a 1 (cond b (cond c 4 3) 2)
  two_or_more true b c e = absurd (true≢false e)
  two_or_more false true true e = omega arith
  two_or_more false true false e = omega arith
  two_or_more false false c e = omega arith

  with_token_all : (token : Option ℕ) (xs : List ℕ) → ((a : ℕ) → In a (option_to_list token) → IsNumber count a) → AllByRecursion (IsNumber count) xs → AllByRecursion (IsNumber count) (with_token token xs)
  with_token_all None xs h k = k
  with_token_all (Some a) xs h k =
      elim (is_listed a xs) as (λ b. AllByRecursion (IsNumber count) (cond b xs (xs ++ a ∷ []))) [ true ↦ k | false ↦ append_all (IsNumber count) xs (a ∷ []) k (h a (inl refl), tt) ]

  plain_rules : (t : Node) (k : Marks t) → RootFacts (Plain t) → PartRules (root_part (Plain t) k)
  plain_rules t k F =
      let G = tree_kept (IsNumber count) Quiet t k (λ a i. F.acts a (In-flat_map actions_in a t (t ∷ []) (inl refl) i)) (λ a i. F.turns a (In-flat_map turn_actions_in a t (t ∷ []) (inl refl) i)) in
      record {
        step = λ s l m e x i. (G.step s l m e x i, λ p. absurd (true≢false (sym p)));
        out = λ s x i. G.out s x i;
        marks = λ s kind x i. G.marks s kind x i;
        token = λ s. tt;
        start_kind = refl;
        inner = λ s l m p e. absurd (true≢false (sym p));
      }

  -- what a pattern's actions are, within the scanner
  abbrev OfPattern : Pattern → Type 0
  OfPattern p = ((a : ℕ) → In a (actions_in p.tree) → IsNumber count a × Quiet a) × ((a : ℕ) → In a (turn_actions_in p.tree) → Quiet a) × ((a : ℕ) → In a (option_to_list p.token) → IsNumber count a)

  of_patterns : (ps : List Pattern) → RootFacts (Scanner ps) → (p : Pattern) → In p ps → OfPattern p
  of_patterns ps F p i = (
    λ a j. (F.acts a (In-flat_map actions_in a p.tree (map (λ q. q.tree) ps) (In-map (λ q. q.tree) p ps i) j), F.patterns a (In-flat_map actions_in a p.tree (map (λ q. q.tree) ps) (In-map (λ q. q.tree) p ps i) j)),
    λ a j. F.turns a (In-flat_map turn_actions_in a p.tree (map (λ q. q.tree) ps) (In-map (λ q. q.tree) p ps i) j),
    λ a j. F.tokens a (In-flat_map (λ (q : Pattern). option_to_list q.token) a p ps i j),
  )

  abbrev Both : ℕ → Type 0
  Both a = IsNumber count a × Quiet a

  part_out : {S : Type 0} {A : Auto S} → IsKept Both Quiet A → (o : Option S) (x : Stamp) → In x (on_part no_carry A.out o).actions → IsNumber count x.action.0
  part_out F None x i = absurd i
  part_out F (Some s) x i = (F.out s x i).0

  tokens_all : (ps : List Pattern) (k : PatternMarks ps) (c : Confs ps) → ((p : Pattern) → In p ps → OfPattern p) → AllByRecursion (IsNumber count) (list_or (token_list ps k c))
  tokens_all [] k c h = tt
  tokens_all (p ∷ ps) k c h =
      let F = let x = h p (inl refl) in tree_kept Both Quiet p.tree k.0 x.0 x.1 in
      let A = auto p.tree k.0 in
      let list = with_token p.token (once (on_part no_carry A.out c.0).actions) in
      elim (on_part false A.final c.0) as (λ b. AllByRecursion (IsNumber count) (list_or (cond b (Some list) (token_list ps k.1 c.1)))) [
        | true ↦ with_token_all p.token _ (h p (inl refl)).2 (once_all (IsNumber count) (on_part no_carry A.out c.0).actions (part_out F c.0))
        | false ↦ tokens_all ps k.1 c.1 (λ q i. h q (inr i))
      ]

  scanner_rules : (ps : List Pattern) (k : Tests (Scanner ps)) → RootFacts (Scanner ps) → PartRules (root_part (Scanner ps) k)
  scanner_rules ps k F =
      let h = of_patterns ps F in
      let A = scan_auto ps k.0 in
      let G = scan_kept Both Quiet ps k.0 (λ p i. ((h p i).0, (h p i).1)) in
      record {
        step = λ s l m e x i. let b = G.step s l m e x i in (b.0, λ p. b.1);
        out = λ s x i. (G.out s x i).0;
        marks = λ s kind x i. let b = G.marks s kind x i in (b.0.0, b.1);
        token = λ s. tokens_all ps k.0 s h;
        start_kind = ap (λ b. cond b 1 (cond (A.final A.start) (cond (k.1 A.start) 4 3) 2)) (eq_by_cmp-itself (scan_order ps k.0) A.start);
        inner = λ s l m p e. two_or_more (is_start A m.to) (A.final m.to) (k.1 m.to) (is_false (is_start A m.to) (λ q. start.scan_never ps k.0 s l m e (eq_by_cmp-same (scan_order ps k.0) m.to A.start q)));
      }

  pub root_rules : (x : Root) (k : Tests x) → RootFacts x → PartRules (root_part x k)
  root_rules (Plain t) k F = plain_rules t k F
  root_rules (Scanner ps) k F = scanner_rules ps k F

  no_facts : RootFacts (Plain Nothing)
  no_facts = record { acts = λ a i. absurd i; turns = λ a i. absurd i; patterns = λ a i. absurd i; tokens = λ a i. absurd i }

  -- what holds of each entry holds of the e-th
  pub root_at_has : (xs : List Root) → ((x : Root) → In x xs → RootFacts x) → (e : ℕ) → RootFacts (root_at xs e)
  root_at_has [] h e = no_facts
  root_at_has (x ∷ xs) h zero = no_facts
  root_at_has (x ∷ xs) h (suc zero) = h x (inl refl)
  root_at_has (x ∷ xs) h (suc (suc e)) = root_at_has xs (λ y i. h y (inr i)) (suc e)

-- ---- the machine

pub record KeepsLists {S : Type 0} (count : ℕ) (m : Machine S) : Type 0 where
  pub kinded : IsKinded m
  pub from : (q : S) → AllByRecursion (IsQuiet m) (m.from q)
  pub to : (q : S) → AllByRecursion (IsQuiet m) (m.to q)
  pub lists : (q : S) → AllByRecursion (IsNumber count) (lists_at m q)
  pub steps : (q : S) (key : Key) (hold : ℕ) (go : Go S) → m.find q key hold ≡ Some go → AllByRecursion (IsNumber count) go.list

module _ (C : ℕ → Type 0) (part : (e : ℕ) → Part (C e)) (count : ℕ) (actions : List Action) (rules : (e : ℕ) → PartRules count actions (part e)) (entries : ℕ) (context : Context)
    (states : (a n : ℕ) → context.statement a n ≡ statement_at actions a n) where
  abbrev made : Machine (EntryState C)
  made = machine C part entries context

  quiet_here : (a : ℕ) → Quiet count actions a → IsQuiet made a
  quiet_here a h n = states a n ∙ h n

  -- a step is one of the entry's
  step_of : (e : ℕ) (o : Option (Move (C e))) (go : Go (EntryState C)) → option_map (go_at C part e) o ≡ Some go → (m : Move (C e)) × (o ≡ Some m) × (go_at C part e m ≡ go)
  step_of e None go q = none_in go q
  step_of e (Some m) go q = (m, refl, some_in (go_at C part e m) go q)

  abbrev kind_by : Bool → Bool → Bool → Bool → ℕ
  kind_by a b c d = cond a (cond b 1 (cond c (cond d 4 3) 2)) 0

  kind_zero : (a b c d : Bool) → kind_by a b c d ≡ 0 → a ≡ false
  kind_zero true true c d e = absurd (true≢false (ap (λ n. nat_eq n 1) e))
  kind_zero true false true true e = absurd (true≢false (ap (λ n. nat_eq n 4) e))
  kind_zero true false true false e = absurd (true≢false (ap (λ n. nat_eq n 3) e))
  kind_zero true false false d e = absurd (true≢false (ap (λ n. nat_eq n 2) e))
  kind_zero false b c d e = refl

  kind_some : (a : Bool) (n : ℕ) → 1 ≤ cond a n 0 → a ≡ true
  kind_some true n h = refl
  kind_some false n h = absurd (none_below h)

  plain_kind : (e : ℕ) (s t : C e) → kind_in (part e) s ≡ 0 → kind_in (part e) t ≡ 0
  plain_kind e s t h =
      ap (λ b. cond b (cond (is_start (part e).auto t) 1 (cond ((part e).auto.final t) (cond ((part e).closed t) 4 3) 2)) 0)
      (kind_zero (part e).is_scanner (is_start (part e).auto s) ((part e).auto.final s) ((part e).closed s) h)

  home_kind : (e : ℕ) (b : Bool) → (part e).is_scanner ≡ b → b ≡ true → made.kind (cond b (start_at C part e) None) ≡ 1
  home_kind e true p q = (rules e).start_kind ∙ ap (λ b. cond b 1 0) p
  home_kind e false p q = absurd (true≢false (sym q))

  entry_kind : (e : ℕ) (b : Bool) → made.kind (cond b (start_at C part e) None) ≤ 1
  entry_kind e true = subst (λ n. n ≤ 1) (sym (rules e).start_kind) (by (part e).is_scanner)
    where
      by : (b : Bool) → cond b 1 0 ≤ 1
      by true = omega arith
      by false = omega arith
  entry_kind e false = omega arith

  find_rules : (R : EntryState C → Go (EntryState C) → Type 0) → ((e : ℕ) (s : C e) (l : Letter) (m : Move (C e)) → (part e).auto.step s l ≡ Some m → R (Some (e, s)) (go_at C part e m))
      → (q : EntryState C) (key : Key) (hold : ℕ) (go : Go (EntryState C)) → made.find q key hold ≡ Some go → R q go
  find_rules R h None key hold go p = none_in go p
  find_rules R h (Some (e, s)) key hold go p =
      let r = step_of e ((part e).auto.step s (letter_of key hold)) go p in
      subst (R (Some (e, s))) r.2 (h e s (letter_of key hold) r.0 r.1)

  pub kinded : IsKinded made
  kinded = record {
    plain = find_rules (λ q go. made.kind q ≡ 0 → made.kind go.target ≡ 0) (λ e s l m p k. plain_kind e s m.to k);
    inner = find_rules (λ q go. 1 ≤ made.kind q → 2 ≤ made.kind go.target) (λ e s l m p k. (rules e).inner s l m (kind_some (part e).is_scanner _ k) p);
    quiet = find_rules (λ q go. 1 ≤ made.kind q → AllByRecursion (IsQuiet made) go.list)
        (λ e s l m p k. once_all (IsQuiet made) m.carry.actions (λ x i. quiet_here x.action.0 (((rules e).step s l m p x i).1 (kind_some (part e).is_scanner _ k))));
    no_error = no_error_in;
    home = home_in;
    entry = λ e. entry_kind e (is_entry entries e);
    failed = refl;
    is_failed = refl;
  }
    where
      no_error_in : (q : EntryState C) → 1 ≤ made.kind q → made.error q ≡ []
      no_error_in None h = refl
      no_error_in (Some (e, s)) h = ap (λ b. cond b [] (once ((part e).auto.marks s K.Error))) (kind_some (part e).is_scanner _ h)

      home_in : (q : EntryState C) → 1 ≤ made.kind q → made.kind (made.home q) ≡ 1
      home_in None h = absurd (none_below h)
      home_in (Some (e, s)) h = home_kind e (part e).is_scanner refl (kind_some (part e).is_scanner _ h)

  -- a list that is empty in a scanner
  plain_all : (e : ℕ) (xs : List ℕ) → AllByRecursion (IsNumber count) xs → AllByRecursion (IsNumber count) (cond (part e).is_scanner [] xs)
  plain_all e xs h = elim (part e).is_scanner as (λ b. AllByRecursion (IsNumber count) (cond b [] xs)) [ true ↦ tt | false ↦ h ]

  marks_all : (e : ℕ) (s : C e) (kind : Kind) → AllByRecursion (IsNumber count) (once ((part e).auto.marks s kind))
  marks_all e s kind = once_all (IsNumber count) ((part e).auto.marks s kind) (λ x i. ((rules e).marks s kind x i).0)

  last_in : (e : ℕ) (s : C e) (b : Bool) (x : Stamp) → In x (cond b ((part e).auto.out s).actions ((part e).auto.marks s K.Error)) → IsNumber count x.action.0
  last_in e s true x i = (rules e).out s x i
  last_in e s false x i = ((rules e).marks s K.Error x i).0

  eof_all : (e : ℕ) (s : C e) → AllByRecursion (IsNumber count) (eof_in (part e) s)
  eof_all e s =
      let A = (part e).auto in
      let last = cond (A.final s) (A.out s).actions (A.marks s K.Error) in
      plain_all e (once (stamps_of (A.marks s K.Eof ++ last))) (once_all (IsNumber count) (stamps_of (A.marks s K.Eof ++ last))
      (λ x i. let r : In x (A.marks s K.Eof) ⊎ In x last = In-append_cases x (A.marks s K.Eof) last (In-set_of_from stamp_order x (A.marks s K.Eof ++ last) i) in
      elim r [ inl j ↦ ((rules e).marks s K.Eof x j).0 | inr j ↦ last_in e s (A.final s) x j ]))

  pub keeps : KeepsLists count made
  keeps = record {
    kinded = kinded;
    from = from_in;
    to = to_in;
    lists = lists_in;
    steps = find_rules (λ q go. AllByRecursion (IsNumber count) go.list) (λ e s l m p. once_all (IsNumber count) m.carry.actions (λ x i. ((rules e).step s l m p x i).0));
  }
    where
      from_in : (q : EntryState C) → AllByRecursion (IsQuiet made) (made.from q)
      from_in None = tt
      from_in (Some (e, s)) = once_all (IsQuiet made) ((part e).auto.marks s K.From) (λ x i. quiet_here x.action.0 (((rules e).marks s K.From x i).1 x.action.0 (inl refl)))

      to_in : (q : EntryState C) → AllByRecursion (IsQuiet made) (made.to q)
      to_in None = tt
      to_in (Some (e, s)) = once_all (IsQuiet made) ((part e).auto.marks s K.To) (λ x i. quiet_here x.action.0 (((rules e).marks s K.To x i).1 x.action.0 (inl refl)))

      lists_in : (q : EntryState C) → AllByRecursion (IsNumber count) (lists_at made q)
      lists_in None = tt
      lists_in (Some (e, s)) =
          append_all (IsNumber count) _ (token_in (part e) s)
          (append_all (IsNumber count) _ (eof_in (part e) s)
          (append_all (IsNumber count) _ (error_in (part e) s)
          (append_all (IsNumber count) (once ((part e).auto.marks s K.From)) (once ((part e).auto.marks s K.To)) (marks_all e s K.From) (marks_all e s K.To))
          (plain_all e (once ((part e).auto.marks s K.Error)) (marks_all e s K.Error)))
          (eof_all e s))
          ((rules e).token s)
