-- A well-formed Spec's tree machine keeps the rules.
use Rattle.std.proofs.Common.{◌≡◌, ℕ, zero, suc, ◌-◌, ◌^◌, ◌<◌, ℤ, Bool, true, false, true≢false, ◌&&◌, ◌∙◌, List, [], ◌∷◌, ◌++◌, inl, inr, map, flat_map, length, All, IfSome, IsTrue, int_le, refl, sym, ap, subst, Option, Some, None, option_map, arith}
use Rattle.std.specs.List.{list_any}
use Rattle.std.proofs.lemmas.List.{length-map}
use Rattle.std.proofs.lemmas.Nat.{pow_pos}
use Rattle.std.proofs.Math.Pow.{pow-lt}
use Rattle.rl_types.specs.declared.alphabet.Alphabet.{Alphabet}
use Rattle.rl_types.specs.declared.numbers.ActionId.{ActionId}
use Rattle.rl_types.specs.declared.numbers.Key.{Key}
use Rattle.rl_types.specs.Alphabet.{has_key, least_key, greatest_key}
use Rattle.rl_types.specs.KeyRange.{Range, in_range}
use Rattle.rl_sets.specs.Sets.{In}
use Rattle.rl_sets.proofs.SetLaws.{any_from, In-append_left, In-append_right, In-flat_map, In-flat_map_from}
use Rattle.rl_run.specs.declared.statements.Statement.{Statement}
use Rattle.rl_run.specs.Machine.{Go, Machine}
use Rattle.rl_automata.specs.declared.moves.Move.{Move}
use Rattle.rl_automata.specs.Nodes.{Node, Nothing}
use Rattle.rl_automata.specs.Scans.{Pattern, Root, Plain, Scanner}
use Rattle.rl_automata.specs.Refused.{sets_in, conditions_in, pattern_sets, pattern_conditions}
use Rattle.rl_automata.proofs.Congruence.{none_in}
use Rattle.rl_model.specs.declared.spec.Spec.{Spec}
use Rattle.rl_model.specs.Specification.{Action, Specification, specification_of, action_of, roots_of, numbered, statement_at}
use Rattle.rl_model.specs.Counts.{actions_in, turn_actions_in, trees_of, pattern_trees, token_actions}
use Rattle.rl_model.specs.WellFormed.{IsNumber, HasNoStatement, IsInAlphabet, IsWellFormed, all_trees, all_actions, quiet_actions}
use Rattle.rl_model.specs.Parts.{letter_of, go_at}
use Rattle.rl_model.specs.Trees.{Tests, TestsOf, ConfAt, TreeState, root_part, part_of, context_of, tree_machine, tests_at, root_at}
use Rattle.rl_model.specs.ListRules.{KeepsRules}
use Rattle.rl_model.proofs.Bounds.{le_trans, IsBounded, OfSets, OfConditions, tree_bounded, scan_bounded}
use Rattle.rl_model.proofs.RuleLaws.{all_in, RootFacts, root_rules, root_at_has, keeps}

-- without a statement there is none of any number
no_statement : (actions : List Action) (a n : ℕ) → HasNoStatement actions a → statement_at actions a n ≡ None
no_statement actions a n h =
    (elim (numbered actions a) as (λ o. IfSome o (λ x. x.statements ≡ []) → (elim o [ None ↦ None | Some x ↦ numbered x.statements n ]) ≡ None) [
      | None ↦ λ k. refl
      | Some x ↦ λ k. ap (λ l. numbered l n) k ∙ none_at n
    ]) h
  where
    none_at : (n : ℕ) → numbered {X = Statement} [] n ≡ None
    none_at zero = refl
    none_at (suc i) = refl

-- what stands in an expression of an entry stands in one of the specification
of_entry : {X : Type 0} (f : Node → List X) (trees : Root → List Node) (xs : List Root) (x : Root) (a : X) → In x xs → In a (flat_map f (trees x)) → In a (flat_map f (flat_map trees xs))
of_entry f trees xs x a i j =
    let r = In-flat_map_from f a (trees x) j in
    In-flat_map f a r.0 (flat_map trees xs) (In-flat_map trees r.0 x xs i r.1) r.2

sets_of : (ps : List Pattern) → pattern_sets ps ≡ flat_map sets_in (map (λ (p : Pattern). p.tree) ps)
sets_of [] = refl
sets_of (p ∷ ps) = ap (λ x. sets_in p.tree ++ x) (sets_of ps)

conditions_of : (ps : List Pattern) → pattern_conditions ps ≡ flat_map conditions_in (map (λ (p : Pattern). p.tree) ps)
conditions_of [] = refl
conditions_of (p ∷ ps) = ap (λ x. conditions_in p.tree ++ x) (conditions_of ps)

-- ---- what the entries of a specification ask and step on

module _ (R : ℤ → Type 0) (n : ℕ) where
  pub record EntryBounds (x : Root) : Type 0 where
    pub sets : OfSets n R (flat_map sets_in (trees_of x))
    pub conditions : OfConditions n R (flat_map conditions_in (trees_of x))

  root_bounded : (x : Root) (k : Tests x) → EntryBounds x → IsBounded n R (root_part x k).auto
  root_bounded (Plain t) k h = tree_bounded n R t k (λ ranges i. h.sets ranges (In-append_left ranges (sets_in t) [] i)) (λ c i. h.conditions c (In-append_left c (conditions_in t) [] i))
  root_bounded (Scanner ps) k h = scan_bounded n R ps k.0 (λ ranges i. h.sets ranges (subst (In ranges) (sets_of ps) i)) (λ c i. h.conditions c (subst (In c) (conditions_of ps) i))

  no_bounds : EntryBounds (Plain Nothing)
  no_bounds = record { sets = λ ranges i. absurd i; conditions = λ c i. absurd i }

  bounds_at : (xs : List Root) → ((x : Root) → In x xs → EntryBounds x) → (e : ℕ) → EntryBounds (root_at xs e)
  bounds_at [] h e = no_bounds
  bounds_at (x ∷ xs) h zero = no_bounds
  bounds_at (x ∷ xs) h (suc zero) = h x (inl refl)
  bounds_at (x ∷ xs) h (suc (suc e)) = bounds_at xs (λ y i. h y (inr i)) (suc e)

-- ---- the whole Spec

-- a key of a range whose ends are in the alphabet is in the alphabet
key_in : (alphabet : Alphabet) (ranges : List Range) → All (IsInAlphabet alphabet) ranges → (k : ℤ) → list_any (in_range k) ranges ≡ true → IsTrue (has_key alphabet k)
key_in alphabet ranges h k e =
    let r = any_from (in_range k) ranges e in
    let ends = both_true (has_key alphabet r.0.lo) (has_key alphabet r.0.hi) (all_in (IsInAlphabet alphabet) ranges h r.0 r.1) in
    let low = both_true (int_le (least_key alphabet) r.0.lo) (int_le r.0.lo (greatest_key alphabet)) ends.0 in
    let high = both_true (int_le (least_key alphabet) r.0.hi) (int_le r.0.hi (greatest_key alphabet)) ends.1 in
    let within = both_true (int_le r.0.lo k) (int_le k r.0.hi) r.2 in
    (λ i. le_trans (least_key alphabet) r.0.lo k low.0 within.0 i && le_trans k r.0.hi (greatest_key alphabet) within.1 high.1 i)
  where
    both_true : (a b : Bool) → (a && b) ≡ true → (a ≡ true) × (b ≡ true)
    both_true true b e = (refl, e)
    both_true false b e = absurd (true≢false (sym e))

module _ (spec : Spec) (well : IsWellFormed spec) where
  abbrev plain : Specification
  plain = specification_of spec

  -- the number of an action of the Spec is one of the plain value
  to_plain : (a : ℕ) → IsNumber (length spec.actions) a → IsNumber (length plain.actions) a
  to_plain a = subst (λ n. IsNumber n a) (sym (length-map spec.actions action_of))

  facts : (x : Root) → In x (roots_of plain) → RootFacts (length plain.actions) plain.actions x
  facts x i = record {
    acts = λ a j. to_plain a (all_in (IsNumber (length spec.actions)) (all_actions plain) well.actions_exist a
        (In-append_left a (flat_map actions_in (all_trees plain)) (flat_map token_actions (roots_of plain)) (of_entry actions_in trees_of (roots_of plain) x a i j)));
    turns = λ a j n. no_statement plain.actions a n (all_in (HasNoStatement plain.actions) (quiet_actions plain) well.quiet a
        (In-append_left a (plain.conditions ++ flat_map turn_actions_in (all_trees plain)) (flat_map actions_in (flat_map pattern_trees (roots_of plain)))
        (In-append_right a plain.conditions (flat_map turn_actions_in (all_trees plain)) (of_entry turn_actions_in trees_of (roots_of plain) x a i j))));
    patterns = λ a j n. no_statement plain.actions a n (all_in (HasNoStatement plain.actions) (quiet_actions plain) well.quiet a
        (In-append_right a (plain.conditions ++ flat_map turn_actions_in (all_trees plain)) (flat_map actions_in (flat_map pattern_trees (roots_of plain))) (of_entry actions_in pattern_trees (roots_of plain) x a i j)));
    tokens = λ a j. to_plain a (all_in (IsNumber (length spec.actions)) (all_actions plain) well.actions_exist a
        (In-append_right a (flat_map actions_in (all_trees plain)) (flat_map token_actions (roots_of plain)) (In-flat_map token_actions a x (roots_of plain) i j)));
  }

  condition_below : (c : ℕ) → IsNumber (length spec.conds) c → 2 ^ (c - 1) < 2 ^ length plain.conditions
  condition_below c h = subst (λ n. 2 ^ (c - 1) < 2 ^ n) (sym (length-map spec.conds (λ (a : ActionId). a.0))) (pow-lt (omega (arith, h.0, h.1)))

  abbrev InAlphabet : ℤ → Type 0
  InAlphabet k = IsTrue (has_key spec.alphabet k)

  bounds : (x : Root) → In x (roots_of plain) → EntryBounds InAlphabet (length plain.conditions) x
  bounds x i = record {
    sets = λ ranges j. key_in spec.alphabet ranges (all_in (All (IsInAlphabet spec.alphabet)) (flat_map sets_in (all_trees plain)) well.keys_in_alphabet ranges
        (of_entry sets_in trees_of (roots_of plain) x ranges i j));
    conditions = λ c j. condition_below c (all_in (IsNumber (length spec.conds)) (flat_map conditions_in (all_trees plain)) well.conditions_exist c
        (of_entry conditions_in trees_of (roots_of plain) x c i j));
  }

  module _ (tests : TestsOf plain) where
    entry_bounded : (e : ℕ) → IsBounded (length plain.conditions) InAlphabet (part_of plain tests e).auto
    entry_bounded e = root_bounded InAlphabet (length plain.conditions) (root_at (roots_of plain) e) (tests_at (roots_of plain) tests e)
        (bounds_at InAlphabet (length plain.conditions) (roots_of plain) bounds e)

    abbrev tree : Machine (TreeState plain)
    tree = tree_machine plain tests

    asked_below : (q : TreeState plain) (key : Key) → tree.asked q key < 2 ^ length plain.conditions
    asked_below None key = pow_pos (length plain.conditions)
    asked_below (Some (e, s)) key = (entry_bounded e).asked s key.0

    keys_in : (q : TreeState plain) (key : Key) (hold : ℕ) (go : Go (TreeState plain)) → tree.find q key hold ≡ Some go → InAlphabet key.0
    keys_in None key hold go p = none_in go p
    keys_in (Some (e, s)) key hold go p = by ((part_of plain tests e).auto.step s (letter_of key hold)) refl p
      where
        by : (o : Option (Move (ConfAt plain e))) → (part_of plain tests e).auto.step s (letter_of key hold) ≡ o → option_map (go_at (ConfAt plain) (part_of plain tests) e) o ≡ Some go → InAlphabet key.0
        by None q p = none_in go p
        by (Some m) q p = (entry_bounded e).step s (letter_of key hold) m q

    pub tree_keeps : KeepsRules plain tree
    tree_keeps =
        let K = keeps (ConfAt plain) (part_of plain tests) (length plain.actions) plain.actions
        (λ e. root_rules (length plain.actions) plain.actions (root_at (roots_of plain) e) (tests_at (roots_of plain) tests e) (root_at_has (length plain.actions) plain.actions (roots_of plain) facts e))
        (length plain.entries) (context_of plain) (λ a n. refl) in
        record { kinded = K.kinded; from = K.from; to = K.to; lists = K.lists; steps = K.steps; asked = asked_below; keys = keys_in }
