-- The machines of the entries are together a twin of the tree machine.
use Rattle.std.proofs.Common.{◌≡◌, ℕ, zero, suc, ◌-◌, Bool, true, false, cond, ◌||◌, List, [], ◌∷◌, length, Option, Some, None, option_map, is_some, refl, sym, ◌∙◌, ap, subst, arith, slice_get, nat_eq}
use Rattle.std.proofs.lemmas.Bool.Decides.{nat_tests}
use Rattle.std.proofs.lemmas.List.{length-map}
use Rattle.rl_types.specs.declared.numbers.ActionId.{ActionId}
use Rattle.rl_labels.specs.Labels.{numbers}
use Rattle.rl_sets.proofs.SetLaws.{both_ways}
use Rattle.rl_sets.proofs.OrderLaws.{nat_order}
use Rattle.rl_automata.specs.declared.moves.Move.{Move}
use Rattle.rl_automata.specs.Auto.{Auto, on_part, point_auto}
use Rattle.rl_automata.specs.Follows.{Reach, renamed, Follows}
use Rattle.rl_automata.specs.Nodes.{Nothing}
use Rattle.rl_automata.specs.Marks.{auto}
use Rattle.rl_automata.specs.Scans.{Pattern, PatternMarks, Confs, scan_auto, token_list, ends_token, TellsClosed, Root, Plain, Scanner}
use Rattle.rl_automata.proofs.Congruence.{reach_all, reach_along, none_in}
use Rattle.rl_automata.proofs.Congruence1.{start_same}
use Rattle.rl_automata.proofs.Leads.{LeadsAs, reach_in}
use Rattle.rl_automata.proofs.MarksLaws.{scan_order}
use Rattle.rl_fsm.specs.declared.root.EntryFsm.{EntryFsm}
use Rattle.rl_fsm.specs.declared.root.EntryFsm.TheVariants as F
use Rattle.rl_fsm.specs.Graphs.{Graph, fsm_auto, has_no_edge}
use Rattle.rl_fsm.specs.Roots.{graph_of, scans, ends_in, token_list_in, entry_at}
use Rattle.rl_fsm.specs.Scanned.{Scanned, token_at}
use Rattle.rl_embed.proofs.StatesLaws.{reached_within}
use Rattle.rl_scan.specs.Scanners.{BuildsScanner}
use Rattle.rl_scan.proofs.ClosedLaws.{closed_told}
use Rattle.rl_run.specs.Twin.{IsTwin}
use Rattle.rl_model.specs.Parts.{Part, PartFollows, StandsAt, machine}
use Rattle.rl_model.specs.Specification.{Specification, roots_of}
use Rattle.rl_model.specs.Trees.{Tests, IsHonest, RootConf, list_or, root_part, root_at, AllTests, AreAllHonest, tests_at, ConfAt, TestsOf, AreTestsHonest, part_of, context_of, tree_machine}
use Rattle.rl_model.proofs.PartTwins.{part_twin}
use Rattle.rl_root.specs.Roots.{part_at}
use Rattle.rl_build.specs.Entries.{IsMachineOf, AreMachinesOf}
use Rattle.rl_build.specs.Roots.{IsTwinOf}

-- ---- token lists

some_same : (o : Option (List ActionId)) → is_some o ≡ is_some (option_map numbers o)
some_same None = refl
some_same (Some xs) = refl

list_same : (o : Option (List ActionId)) → on_part [] numbers o ≡ list_or (option_map numbers o)
list_same None = refl
list_same (Some xs) = refl

-- there is a list exactly where a token ends
list_some : (ps : List Pattern) (k : PatternMarks ps) (c : Confs ps) → is_some (token_list ps k c) ≡ ends_token ps k c
list_some [] k c = refl
list_some (p ∷ ps) k c = by (on_part false (auto p.tree k.0).final c.0) _ (token_list ps k.1 c.1) (ends_token ps k.1 c.1) (list_some ps k.1 c.1)
  where
    by : {X : Type 0} (b : Bool) (x : X) (o : Option X) (d : Bool) → is_some o ≡ d → is_some (cond b (Some x) o) ≡ (b || d)
    by true x o d e = refl
    by false x o d e = e

-- ---- the part of an entry, or of none

abbrev no_graph : Graph
no_graph = record { start = 0; states = [] }

abbrev graph_in : Option EntryFsm → Graph
graph_in o = on_part no_graph graph_of o

abbrev auto_in : Option EntryFsm → Auto ℕ
auto_in o = record {
  order = (fsm_auto (graph_in o)).order;
  start = (fsm_auto (graph_in o)).start;
  step = (fsm_auto (graph_in o)).step;
  final = λ i. on_part false (λ x. ends_in x i) o;
  out = (fsm_auto (graph_in o)).out;
  marks = (fsm_auto (graph_in o)).marks;
  asked = (fsm_auto (graph_in o)).asked;
}

part_in : Option EntryFsm → Part ℕ
part_in o = record { auto = auto_in o; is_scanner = on_part false scans o; token = λ i. on_part [] (λ x. token_list_in x i) o; closed = has_no_edge (graph_in o) }

only_start : (i : ℕ) → Reach (auto_in None) i → i ≡ 0
only_start = reach_all (λ i. i ≡ 0) refl (λ i r e l m q. none_in m q)

no_follows : Follows (auto_in None) (point_auto false) (λ i. tt)
no_follows = record {
  start = refl;
  step = λ i r l. refl;
  final = λ i r. refl;
  out = λ i r. refl;
  marks = λ i r k. refl;
  asked = λ i r k. refl;
  apart = λ i j r q e. only_start i r ∙ sym (only_start j q);
}

-- ---- one entry

abbrev Named : Part ℕ → (x : Root) → Tests x → Type 0
Named p x k = (name : ℕ → RootConf x) × PartFollows p (root_part x k) name

no_named : Named (part_in None) (Plain Nothing) tt
unfolding part_in
no_named = ((λ i. tt), record { auto = no_follows; is_scanner = refl; token = λ i r. refl; kind = λ i r. refl })

-- a scanner
module _ (ps : List Pattern) (s : Scanned) (k : PatternMarks ps) (B : BuildsScanner (scan_auto ps k) (token_list ps k) s) where
  abbrev own : Auto ℕ
  own = auto_in (Some (F.Scanner s))

  abbrev name : ℕ → Confs ps
  name = B.machine.name

  abbrev G : Follows (fsm_auto s.machine) (scan_auto ps k) name
  G = B.machine.follows

  leads : LeadsAs own (fsm_auto s.machine)
  leads i l m e = (m, e, refl)

  reached : (i : ℕ) → Reach own i → Reach (fsm_auto s.machine) i
  reached i r = reach_in {A = fsm_auto s.machine} {A' = own} refl leads i r

  list_at : (i : ℕ) → Reach own i → option_map numbers (token_at s.tokens i) ≡ token_list ps k (name i)
  list_at i r = B.tokens i (reached_within s.machine B.machine.sound i (reached i r))

  ends_same : (i : ℕ) → Reach own i → own.final i ≡ (scan_auto ps k).final (name i)
  ends_same i r = some_same (token_at s.tokens i) ∙ ap is_some (list_at i r) ∙ list_some ps k (name i)

  scanner_follows : Follows own (scan_auto ps k) name
  scanner_follows = record {
    start = G.start;
    step = λ i r l. G.step i (reached i r) l;
    final = ends_same;
    out = λ i r. G.out i (reached i r);
    marks = λ i r j. G.marks i (reached i r) j;
    asked = λ i r j. G.asked i (reached i r) j;
    apart = λ i j r q e. G.apart i j (reached i r) (reached j q) e;
  }

  -- a state without edges is one from which no letter steps
  closed_same : (closed : Confs ps → Bool) → TellsClosed (scan_auto ps k) closed → (i : ℕ) → Reach own i → has_no_edge s.machine i ≡ closed (name i)
  closed_same closed tells i r =
      let q = reached i r in
      let mine = closed_told s.machine B.machine.sound i q in
      let other = tells (name i) (reach_along G i q) in
      both_ways _ _
      (λ e. other.1 (λ l. sym (G.step i q l) ∙ ap (option_map (renamed name)) (mine.0 e l)))
      (λ e. mine.1 (λ l. none_back ((fsm_auto s.machine).step i l) (G.step i q l ∙ other.0 e l)))
    where
      none_back : (o : Option (Move ℕ)) → option_map (renamed name) o ≡ None → o ≡ None
      none_back None e = refl
      none_back (Some m) e = none_in (renamed name m) (sym e)

  scanner_named : (closed : Confs ps → Bool) → TellsClosed (scan_auto ps k) closed → Named (part_in (Some (F.Scanner s))) (Scanner ps) (k, closed)
  unfolding part_in
  scanner_named closed tells = (
    name,
    record {
      auto = scanner_follows;
      is_scanner = refl;
      token = λ i r. list_same (token_at s.tokens i) ∙ ap list_or (list_at i r);
      kind = λ i r.
          let first = start_same nat_order (scan_order ps k) scanner_follows i r in
          let ends = ends_same i r in
          let shut = closed_same closed tells i r in
          λ j. cond (first j) 1 (cond (ends j) (cond (shut j) 4 3) 2);
    },
  )

entry_named : (x : Root) (m : EntryFsm) (k : Tests x) → IsMachineOf x m → IsHonest x k → Named (part_in (Some m)) x k
unfolding part_in
entry_named (Plain t) (F.Plain m) k h g = let z = h k g in (z.name, record { auto = z.follows; is_scanner = refl; token = λ i r. refl; kind = λ i r. refl })
entry_named (Plain t) (F.Scanner s) k h g = absurd h
entry_named (Scanner ps) (F.Plain m) k h g = absurd h
entry_named (Scanner ps) (F.Scanner s) k h g = scanner_named ps s k.0 (h k.0 g.0) k.1 g.1

-- ---- all entries

part_is : (ms : List EntryFsm) (e : ℕ) → part_in (entry_at ms e) ≡ part_at ms e
unfolding part_in
part_is ms e = refl

part_none : (e : ℕ) → part_in None ≡ part_at [] e
part_none e = ap part_in (by (nat_eq e 0)) ∙ part_is [] e
  where
    by : (b : Bool) → None ≡ cond b None (slice_get {X = EntryFsm} [] (e - 1))
    by true = refl
    by false = refl

part_first : (m : EntryFsm) (ms : List EntryFsm) → part_in (Some m) ≡ part_at (m ∷ ms) 1
part_first m ms = part_is (m ∷ ms) 1

part_zero : (m : EntryFsm) (ms : List EntryFsm) → part_in None ≡ part_at (m ∷ ms) 0
part_zero m ms = part_is (m ∷ ms) 0

part_later : (m : EntryFsm) (ms : List EntryFsm) (e : ℕ) → part_at ms (suc e) ≡ part_at (m ∷ ms) (suc (suc e))
part_later m ms e = sym (part_is ms (suc e)) ∙ ap part_in (entry_later e) ∙ part_is (m ∷ ms) (suc (suc e))
  where
    not_zero : (n : ℕ) → nat_eq (suc n) 0 ≡ false
    not_zero n = grind (arith, nat_tests)

    less : (n : ℕ) → suc n - 1 ≡ n
    less n = omega arith

    at : (ms : List EntryFsm) (n : ℕ) → entry_at ms (suc n) ≡ slice_get ms n
    at ms n = (λ i. cond (not_zero n i) None (slice_get ms (less n i)))

    entry_later : (e : ℕ) → entry_at ms (suc e) ≡ entry_at (m ∷ ms) (suc (suc e))
    entry_later e = at ms e ∙ sym (at (m ∷ ms) (suc e))

all_named : (xs : List Root) (ms : List EntryFsm) (k : AllTests xs) → AreMachinesOf xs ms → AreAllHonest xs k → (e : ℕ) → Named (part_at ms e) (root_at xs e) (tests_at xs k e)
all_named [] [] k h g e = subst (λ p. Named p (Plain Nothing) tt) (part_none e) no_named
all_named [] (m ∷ ms) k h g e = absurd h
all_named (x ∷ xs) [] k h g e = absurd h
all_named (x ∷ xs) (m ∷ ms) k h g zero = subst (λ p. Named p (Plain Nothing) tt) (part_zero m ms) no_named
all_named (x ∷ xs) (m ∷ ms) k h g (suc zero) = subst (λ p. Named p x k.0) (part_first m ms) (entry_named x m k.0 h.0 g.0)
all_named (x ∷ xs) (m ∷ ms) k h g (suc (suc e)) = subst (λ p. Named p (root_at xs (suc e)) (tests_at xs k.1 (suc e))) (part_later m ms e) (all_named xs ms k.1 h.1 g.1 (suc e))

as_many : (xs : List Root) (ms : List EntryFsm) → AreMachinesOf xs ms → length xs ≡ length ms
as_many [] [] h = refl
as_many [] (m ∷ ms) h = absurd h
as_many (x ∷ xs) [] h = absurd h
as_many (x ∷ xs) (m ∷ ms) h = ap suc (as_many xs ms h.1)

pub machines_twin : (spec : Specification) (ms : List EntryFsm) → AreMachinesOf (roots_of spec) ms → (tests : TestsOf spec) → AreTestsHonest spec tests → IsTwinOf spec tests ms
machines_twin spec ms h tests g =
    let named : (e : ℕ) → Named (part_at ms e) (root_at (roots_of spec) e) (tests_at (roots_of spec) tests e) = all_named (roots_of spec) ms tests h g in
    let name : (e : ℕ) → ℕ → ConfAt spec e = λ e. (named e).0 in
    let count : length spec.entries ≡ length ms = sym (length-map spec.entries (λ e. e.root)) ∙ as_many (roots_of spec) ms h in (
      name,
      subst (λ n. IsTwin (tree_machine spec tests) (machine (λ e. ℕ) (part_at ms) n (context_of spec)) (λ a. a) (StandsAt (ConfAt spec) (λ e. ℕ) (part_at ms) name)) count
          (part_twin (ConfAt spec) (λ e. ℕ) (part_of spec tests) (part_at ms) name (λ e. (named e).1) (length spec.entries) (context_of spec)),
    )
