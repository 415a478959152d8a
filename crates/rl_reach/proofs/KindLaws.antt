-- The kinds of a scanner's states.
use Rattle.std.proofs.Common.{◌≡◌, ℕ, ◌<◌, ◌≤◌, Bool, true, false, cond, List, [], ◌∷◌, ◌⊎◌, Option, Some, None, is_some, nat_eq, length, refl, sym, ◌∙◌, ap, subst, inl, inr, arith, true≢false}
use Rattle.std.specs.Ordering.{eq_by_cmp, nat_cmp}
use borrow.Author.Tests.{eqb-true, eq-eqb}
use Rattle.rl_sets.specs.Sets.{In}
use Rattle.rl_sets.proofs.OrderLaws.{nat_order, eq_by_cmp-itself, eq_by_cmp-same}
use Rattle.rl_sets.proofs.SetLaws.{both_ways, any_true}
use Rattle.rl_types.specs.declared.numbers.ActionId.{ActionId}
use Rattle.rl_labels.specs.Labels.{numbers}
use Rattle.rl_automata.specs.Auto.{on_part, is_none_left}
use Rattle.rl_fsm.specs.declared.root.EntryFsm.{EntryFsm}
use Rattle.rl_fsm.specs.declared.root.EntryFsm.TheVariants.{Plain, Scanner}
use Rattle.rl_fsm.specs.declared.edge.Edge.{Edge}
use Rattle.rl_fsm.specs.Graphs.{edges_at}
use Rattle.rl_fsm.specs.Roots.{graph_of, scans, ends_in, token_list_in, entry_at, graph_at, scans_at, ends_at, token_list_at}
use Rattle.rl_fsm.specs.Scanned.{Scanned, token_at, leads_to}
use Rattle.rl_reach.specs.Walks.{IsSoundAt}

-- ---- kinds, by what is told of a state

-- whether its entry is a scanner, whether it is the start, whether a token ends there, and whether no letter leaves it
abbrev pub kind_by : Bool → Bool → Bool → Bool → ℕ
kind_by scanner start ends closed = cond scanner (cond start 1 (cond ends (cond closed 4 3) 2)) 0

abbrev pub final_by : Bool → Bool → Bool → Bool → Bool
final_by scanner start ends closed = cond scanner (nat_eq (kind_by scanner start ends closed) 1) ends

pub kind_most : (a b c d : Bool) → kind_by a b c d ≤ 4
kind_most false b c d = omega arith
kind_most true true c d = omega arith
kind_most true false false d = omega arith
kind_most true false true true = omega arith
kind_most true false true false = omega arith

pub kind_plain : (a b c d : Bool) → kind_by a b c d ≡ 0 → a ≡ false
kind_plain false b c d e = refl
kind_plain true true c d e = absurd (omega arith)
kind_plain true false false d e = absurd (omega arith)
kind_plain true false true true e = absurd (omega arith)
kind_plain true false true false e = absurd (omega arith)

pub kind_scanner : (a b c d : Bool) → 0 < kind_by a b c d → a ≡ true
kind_scanner false b c d l = absurd (omega arith)
kind_scanner true b c d l = refl

pub kind_first : (b c d : Bool) → b ≡ true → kind_by true b c d ≡ 1
kind_first b c d e = ap (λ t. kind_by true t c d) e

pub kind_entry : (a b c d : Bool) → b ≡ true → kind_by a b c d ≤ 1
kind_entry false b c d e = omega arith
kind_entry true true c d e = omega arith
kind_entry true false c d e = absurd (true≢false (sym e))

pub kind_inner : (a b c d : Bool) → a ≡ true → b ≡ false → 2 ≤ kind_by a b c d
kind_inner false b c d e f = absurd (true≢false (sym e))
kind_inner true true c d e f = absurd (true≢false f)
kind_inner true false false d e f = omega arith
kind_inner true false true true e f = omega arith
kind_inner true false true false e f = omega arith

pub kind_closed : (a b c d : Bool) → kind_by a b c d ≡ 4 → d ≡ true
kind_closed a b c true e = refl
kind_closed false b c false e = absurd (omega arith)
kind_closed true true c false e = absurd (omega arith)
kind_closed true false true false e = absurd (omega arith)
kind_closed true false false false e = absurd (omega arith)

-- where no token ends, in plain entries and at starts, the kind is below 3
pub kind_silent : (a b c d : Bool) → kind_by a b c d < 3 → (a ≡ false) ⊎ ((a ≡ true) × (b ≡ true)) ⊎ (c ≡ false)
kind_silent false b c d l = inl refl
kind_silent true true c d l = inr (inl (refl, refl))
kind_silent true false false d l = inr (inr refl)
kind_silent true false true true l = absurd (omega arith)
kind_silent true false true false l = absurd (omega arith)

pub first_final : (a b c d : Bool) → kind_by a b c d ≡ 1 → final_by a b c d ≡ true
first_final false b c d e = absurd (omega arith)
first_final true true c d e = refl
first_final true false false d e = absurd (omega arith)
first_final true false true true e = absurd (omega arith)
first_final true false true false e = absurd (omega arith)

pub inner_plain : (a b c d : Bool) → 2 ≤ kind_by a b c d → final_by a b c d ≡ false
inner_plain false b c d l = absurd (omega arith)
inner_plain true true c d l = absurd (omega arith)
inner_plain true false false d l = refl
inner_plain true false true true l = refl
inner_plain true false true false l = refl

-- ---- starts

-- numbers are equal where they compare so
pub start_is : (a b : ℕ) → eq_by_cmp nat_cmp a b ≡ nat_eq a b
start_is a b = both_ways _ _
    (λ e. eq-eqb a b (eq_by_cmp-same nat_order a b e))
    (λ e. subst (λ c. eq_by_cmp nat_cmp a c ≡ true) (eqb-true a b e) (eq_by_cmp-itself nat_order a))

-- ---- token lists

-- plain entries have none
pub token_plain : (entries : List EntryFsm) (e i : ℕ) → cond (scans_at entries e) (token_list_at entries e i) [] ≡ token_list_at entries e i
token_plain entries e i = by (entry_at entries e)
  where
    by : (o : Option EntryFsm) → cond (on_part false scans o) (on_part [] (λ x. token_list_in x i) o) [] ≡ on_part [] (λ x. token_list_in x i) o
    by None = refl
    by (Some (Plain m)) = refl
    by (Some (Scanner s)) = refl

-- where no token ends, there is none
pub token_none : (entries : List EntryFsm) (e i : ℕ) → ends_at entries e i ≡ false → token_list_at entries e i ≡ []
token_none entries e i = by (entry_at entries e)
  where
    at : (o : Option (List ActionId)) → is_some o ≡ false → on_part [] numbers o ≡ []
    at None q = refl
    at (Some list) q = absurd (true≢false q)

    by : (o : Option EntryFsm) → on_part false (λ x. ends_in x i) o ≡ false → on_part [] (λ x. token_list_in x i) o ≡ []
    by None q = refl
    by (Some (Plain m)) q = refl
    by (Some (Scanner s)) q = at (token_at s.tokens i) q

-- ---- scanners

pub scanner_there : (o : Option EntryFsm) → on_part false scans o ≡ true → (s : Scanned) × (o ≡ Some (Scanner s))
scanner_there None q = absurd (true≢false (sym q))
scanner_there (Some (Plain m)) q = absurd (true≢false (sym q))
scanner_there (Some (Scanner s)) q = (s, refl)

module _ (entries : List EntryFsm) (e : ℕ) (sound : IsSoundAt entries e) (scanner : scans_at entries e ≡ true) where
  -- no token ends at the start
  pub start_ends : ends_at entries e (graph_at entries e).start ≡ false
  start_ends =
      let s = scanner_there (entry_at entries e) scanner in
      ap (λ o. on_part false (λ x. ends_in x (on_part (record { start = 0; states = [] }) graph_of o).start) o) s.1 ∙ ap is_some (sound.scanner s.0 s.1).begins

  -- no edge leads there
  pub target_inner : (i : ℕ) (x : Edge) → i < length (graph_at entries e).states → In x (edges_at (graph_at entries e) i) → nat_eq x.target (graph_at entries e).start ≡ false
  target_inner i x l h = by (nat_eq x.target (graph_at entries e).start) refl
    where
      never : leads_to (graph_at entries e).start (edges_at (graph_at entries e) i) ≡ false
      never =
          let s = scanner_there (entry_at entries e) scanner in
          let is : graph_at entries e ≡ s.0.machine = ap (λ o. on_part (record { start = 0; states = [] }) graph_of o) s.1 in
          subst (λ g. leads_to g.start (edges_at g i) ≡ false) (sym is) ((sound.scanner s.0 s.1).left i (subst (λ g. i < length g.states) is l))

      by : (b : Bool) → nat_eq x.target (graph_at entries e).start ≡ b → b ≡ false
      by false q = refl
      by true q = absurd (true≢false (sym (any_true (λ (y : Edge). nat_eq y.target (graph_at entries e).start) x (edges_at (graph_at entries e) i) h q) ∙ never))

-- ---- edges

pub none_left : (es : List Edge) → is_none_left es ≡ true → es ≡ []
none_left [] q = refl
none_left (x ∷ es) q = absurd (true≢false (sym q))
