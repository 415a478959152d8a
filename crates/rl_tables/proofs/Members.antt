-- The members of a list of valid arrays are actions.
use Rattle.std.proofs.Common.{◌≡◌, ℕ, zero, suc, ◌+◌, ◌-◌, ◌<◌, ◌≤◌, Bool, true, false, List, length, take, drop, get_or, All, refl, sym, ◌∙◌, subst, arith, nat_lt}
use Rattle.std.proofs.lemmas.Bool.Decides.{nat_tests}
use Rattle.std.proofs.lemmas.List.{get_or-take, get_or-drop, length-take}
use Rattle.std.proofs.lemmas.Option.{slice_get-get_or}
use Rattle.std.specs.Prelude.{ℤ, ◌==◌}
use Rattle.rl_arrays.specs.declared.arrays.Arrays.{Arrays}
use Rattle.rl_arrays.specs.declared.arrays.ArrayName.TheVariants as the
use Rattle.rl_arrays.specs.Words.{number_at}
use Rattle.rl_arrays.specs.Lists.{left_at, left_next}
use Rattle.rl_arrays.specs.Rules.{IsAction, ActionSays}
use Rattle.rl_arrays.specs.Valid.{Valid}
use Rattle.rl_tables.proofs.Elements.{right, if_at}

left-suc : (lists : List ℤ) (i : ℕ) → left_at lists (i + 1) ≡ left_next (left_at lists i) (number_at lists i)
unfolding left_at
left-suc lists i = let next : i + 1 ≡ suc i = omega arith in rw next refl

-- behind a list's length its members are still to come
left-behind : (lists : List ℤ) (place k : ℕ) → left_at lists place ≡ 0 → k ≤ number_at lists place → left_at lists (place + 1 + k) ≡ number_at lists place - k
left-behind lists place zero e h =
    let same : place + 1 + 0 ≡ place + 1 = omega arith in
    let whole : number_at lists place - 0 ≡ number_at lists place = omega arith in
    rw (same, left-suc lists place, e, whole) refl
left-behind lists place (suc k) e h =
    let before = left-behind lists place k e (omega arith) in
    let same : place + 1 + suc k ≡ (place + 1 + k) + 1 = omega arith in
    let more : (number_at lists place - k == 0) ≡ false = grind (arith, nat_tests) in
    let less : number_at lists place - k - 1 ≡ number_at lists place - suc k = omega arith in
    rw (same, left-suc lists (place + 1 + k), before, more, less) refl

-- a list ends within the array
pub list_within : (a : Arrays) → Valid a → (place : ℕ) → place < length a.actions → left_at a.actions place ≡ 0 → place + 1 + number_at a.actions place ≤ length a.actions
list_within a valid place h e =
    let n = number_at a.actions place in
    let last = (right a valid the.Actions 0 (omega arith)).there in
    go (nat_lt (length a.actions) (place + 1 + n)) refl
  where
    go : (b : Bool) → nat_lt (length a.actions) (place + 1 + number_at a.actions place) ≡ b → place + 1 + number_at a.actions place ≤ length a.actions
    go false f = grind (arith, nat_tests)
    go true f =
        let over : length a.actions < place + 1 + number_at a.actions place = grind (arith, nat_tests) in
        let k = length a.actions - (place + 1) in
        let behind = left-behind a.actions place k e (omega arith) in
        let same : place + 1 + k ≡ length a.actions = omega arith in
        let more : left_at a.actions (length a.actions) ≡ number_at a.actions place - k = rw same at behind in
        let there = (right a valid the.Actions (length a.actions) (omega (arith, more))).there in
        absurd (omega arith)

member : (a : Arrays) → Valid a → (place k : ℕ) (d : ℤ) → place < length a.actions → left_at a.actions place ≡ 0 → k < number_at a.actions place → IsAction a (get_or a.actions (place + 1 + k) d)
member a valid place k d h e l =
    let within = list_within a valid place h e in
    let says = (right a valid the.Actions (place + 1 + k) (omega arith)).says in
    let at = slice_get-get_or a.actions (place + 1 + k) d (omega arith) in
    let here = if_at a.actions (place + 1 + k) (get_or a.actions (place + 1 + k) d) (ActionSays a (place + 1 + k)) at says in
    here.member (omega (arith, left-behind a.actions place k e (omega arith)))

pub members_are_actions : (a : Arrays) → Valid a → (place : ℕ) → place < length a.actions → left_at a.actions place ≡ 0 → All (IsAction a) (take (number_at a.actions place) (drop (place + 1) a.actions))
members_are_actions a valid place h e k d l =
    let n = number_at a.actions place in
    let few : k < n = omega (arith, length-take n (drop (place + 1) a.actions)) in
    let first = get_or-take n (drop (place + 1) a.actions) k d few in
    let second = get_or-drop (place + 1) a.actions k d in
    subst (IsAction a) (sym (first ∙ second)) (member a valid place k d h e few)
