-- What a machine that passes no limit has: few nodes, no deep expression, stamps and places in order, few conditions.
use Rattle.std.proofs.Common.{◌≡◌, ℕ, ◌≤◌, Bool, true, false, cond, List, [], ◌∷◌, Option, Some, None, length, map, refl, sym, ◌∙◌, subst, arith}
use Rattle.std.specs.Prelude.{nat_lt, All}
use Rattle.std.specs.List.{flat_map}
use Rattle.std.proofs.lemmas.List.{append-nil}
use Rattle.std.proofs.lemmas.Bool.Decides.{nat_tests}
use Rattle.rl_types.specs.declared.numbers.ActionId.{ActionId}
use Rattle.rl_types.specs.declared.numbers.Place.{Place}
use Rattle.rl_types.specs.declared.faults.Limit.{Limit}
use Rattle.rl_types.specs.declared.faults.LimitKind.{LimitKind}
use Rattle.rl_types.specs.declared.faults.LimitKind.TheVariants.{L7}
use Rattle.rl_automata.specs.Refused.{AreDifferent, conditions_in}
use Rattle.rl_model.specs.declared.spec.Entry as rust
use Rattle.rl_model.specs.Specification.{root_of}
use Rattle.rl_model.specs.Counts.{root_size, root_depth, trees_of}
use Rattle.rl_model.specs.WellFormed.{IsNumber}
use Rattle.rl_rewrite.specs.Walk.{walk_value, begun}
use Rattle.rl_rewrite.specs.Entries.{Made, Meaning, made_of, is_entry, entries, all_conditions, first_limit, limit_at, limit_by, limit_of, conditions_by, conditions_behind, size_limit, condition_limit, earlier_limit, IsMade, AreSoFar}
use Rattle.rl_rewrite.proofs.EntryLaws.{all_made, ends_differ, ends_known}

-- ---- conditions

no_later : (a b : Option LimitKind) → earlier_limit a b ≡ None → b ≡ None
no_later None b e = e
no_later (Some kind) b e = absurd (cc)

no_seventh : (b : Bool) → cond b (Some L7) None ≡ None → b ≡ false
no_seventh true e = absurd (cc)
no_seventh false e = refl

not_above : (k n : ℕ) → nat_lt k n ≡ false → n ≤ k
not_above k n e = grind (arith, nat_tests)

few_behind : (b : Bool) (cs : List ActionId) (m : Meaning) → length cs ≤ 8 → cond b (limit_of cs m) None ≡ None → length (cond b (conditions_behind cs m) cs) ≤ 8
few_behind true cs m h e =
    let x = walk_value m.value (begun cs) in
    not_above 8 (length x.1.conditions) (no_seventh (nat_lt 8 (length x.1.conditions)) (no_later (size_limit (root_size x.0.root) (root_depth x.0.root)) (condition_limit x.1.conditions) e))
few_behind false cs m h e = h

limit_first : (l : Option LimitKind) (at : Place) (later : Option Limit) → limit_at l at later ≡ None → (l ≡ None) × (later ≡ None)
limit_first None at later e = (refl, e)
limit_first (Some kind) at later e = absurd (cc)

few_conditions : (cs : List ActionId) (ms : List Meaning) → length cs ≤ 8 → first_limit cs ms ≡ None → length (all_conditions cs ms) ≤ 8
few_conditions cs [] h e = h
few_conditions cs (m ∷ ms) h e =
    let k = limit_first (limit_by cs m) m.place (first_limit (conditions_by cs m) ms) e in
    few_conditions (conditions_by cs m) ms (few_behind (is_entry m.sign) cs m h k.0) k.1

-- ---- entries as they are kept

module _ (ms : List Meaning) (es : List rust.Entry) (cs : List ActionId) (made : map made_of es ≡ entries [] ms) (kept : cs ≡ all_conditions [] ms) (within : first_limit [] ms ≡ None) where
  pub few : length cs ≤ 8
  few = subst (λ z. length z ≤ 8) (sym kept) (few_conditions [] ms (omega arith) within)

  so_far : AreSoFar [] ms (record { entries = es; conditions = cs })
  so_far = record { made = append-nil (map made_of es) ∙ made; conditions = kept; limit = sym within; few = few }

  -- few nodes, no deep expression, stamps, and a place for each node
  pub sized : All (λ (e : rust.Entry). IsMade (made_of e)) es
  sized = all_made ms (record { entries = es; conditions = cs }) so_far

  -- no two conditions have one action
  pub conditions_differ : AreDifferent (map (λ (a : ActionId). a.0) cs)
  conditions_differ = ends_differ ms (record { entries = es; conditions = cs }) so_far

  -- each condition in an expression is one of them
  pub conditions_known : All (λ (e : rust.Entry). All (IsNumber (length cs)) (flat_map conditions_in (trees_of (root_of e.root)))) es
  conditions_known = ends_known ms (record { entries = es; conditions = cs }) so_far
