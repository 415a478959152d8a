-- Scanners: what their patterns give when each of them is built, and what is said of the machine of all of them.
use Rattle.std.proofs.Common.{◌≡◌, ℕ, suc, ◌+◌, ◌*◌, ◌/◌, ◌^◌, ◌<◌, ◌≤◌, List, [], ◌∷◌, ◌++◌, map, length, Some, refl, sym, ◌∙◌, ap, subst, ◌↔◌, arith}
use Rattle.std.specs.Prelude.{Result, Ok, Err, IfOk, OnOk, IfErr, IfSome, Option, None}
use Rattle.std.proofs.lemmas.List.{length-append, length-map}
use Rattle.std.proofs.lemmas.List.Sums.{sum_by-cons, sum_by-append}
use Rattle.std.proofs.lemmas.Nat.{pow_pos}
use Rattle.std.proofs.Math.Nat.{mul-pos}
use native.Mathlib.Decide.{dec_lt}
use Rattle.rl_types.specs.declared.alphabet.Alphabet.{Alphabet}
use Rattle.rl_sets.specs.Sets.{In}
use Rattle.rl_sets.proofs.SetLaws.{In-append_left}
use Rattle.rl_automata.specs.Nodes.{Node}
use Rattle.rl_automata.specs.Marks.{Marks}
use Rattle.rl_automata.specs.Scans.{Pattern, PatternMarks, ArePatternsHonest, scan_raw, scan_jams, scan_auto, Root, Plain, Scanner}
use Rattle.rl_automata.specs.Sites.{Site, AtScanner, sites, pattern_sites, IsHonestSite, RootMarks, IsRootHonest, root_sites}
use Rattle.rl_automata.specs.Refused as refused
use Rattle.rl_automata.specs.Refused.{HasMore, Cause, IsAccepted, IsRefusedFor, IsFirstRefused, first_empty, site_width, sets_in, conditions_in, pattern_sets, pattern_conditions}
use Rattle.rl_automata.proofs.Congruence.{none_in}
use Rattle.rl_automata.proofs.CountLaws.{cells_more, quiet_more}
use Rattle.rl_automata.proofs.RefusalLaws.{honest_all}
use Rattle.rl_explore.specs.declared.fault.BuildFault.{BuildFault}
use Rattle.rl_explore.specs.declared.fault.BuildFault.TheVariants.{L6, L8, F12, F15, Memory}
use Rattle.rl_explore.specs.Numbers.{HasNoCause}
use Rattle.rl_fsm.specs.declared.root.EntryFsm.TheVariants as F
use Rattle.rl_fsm.specs.Graphs.{Graph}
use Rattle.rl_fsm.specs.Scanned.{Scanned}
use Rattle.rl_scan.specs.Scanners.{ScannerStandsFor, StandForPatterns, AreBuiltOf, HasNoScanCause, IsScanCause, IsPatternCause}
use Rattle.rl_scan.proofs.CauseLaws.{scanner_causes}
use Rattle.rl_scan.proofs.FaultLaws.{empty_below}
use Rattle.rl_model.specs.declared.spec.Pattern as rust_pattern
use Rattle.rl_model.specs.Counts.{size_of, root_size}
use Rattle.rl_model.specs.Specification.{pattern_of}
use Rattle.rl_build.specs.declared.built.Built.{Built}
use Rattle.rl_build.specs.declared.built.Refused.{Refused}
use Rattle.rl_build.specs.declared.cells.Cells.{Cells}
use Rattle.rl_build.specs.Cells.{AreCells, most_of}
use Rattle.rl_build.specs.Chains.{AreBuilt}
use Rattle.rl_build.specs.Entries.{IsEntryBuilt, NamesPattern, IsRootRefused}
use Rattle.rl_build.specs.Patterns.{nodes_in, IsScannerMadeFor}
use Rattle.rl_build.specs.Trees.{cause_of, OfCause, AreAccepted, IsBuilt, IsRefused}
use Rattle.rl_build.proofs.CellLaws.{some_class, count_is}
use Rattle.rl_build.proofs.SiteLaws.{any_tests, count_one, sites_counted, honest_sites, accepted_append, accepted_behind, first_before, first_after, last_refused}
use Rattle.rl_build.proofs.StateCounts.{states_counted}

-- ---- causes of faults

pub if_some_to : {X : Type 0} (P Q : X → Type 0) (o : Option X) → ((x : X) → P x → Q x) → IfSome o P → IfSome o Q
if_some_to P Q None f h = tt
if_some_to P Q (Some x) f h = f x h

pub if_some_both : {X : Type 0} (P Q R : X → Type 0) (o : Option X) → ((x : X) → P x → Q x → R x) → IfSome o P → IfSome o Q → IfSome o R
if_some_both P Q R None f g h = tt
if_some_both P Q R (Some x) f g h = f x g h

first_of : (e : BuildFault) (P Q : Cause → Type 0) → ((cause : Cause) → P cause → Q cause) → OfCause e P → IfSome (cause_of e) Q
first_of L6 P Q f h = f refused.L6 h
first_of L8 P Q f h = f refused.L8 h
first_of (F12 i) P Q f h = absurd h
first_of F15 P Q f h = f refused.F15 h
first_of Memory P Q f h = tt

no_pattern : (e : BuildFault) (P : Cause → Type 0) (x : Root) → OfCause e P → NamesPattern x e
no_pattern L6 P x h = tt
no_pattern L8 P x h = tt
no_pattern (F12 i) P x h = absurd h
no_pattern F15 P x h = tt
no_pattern Memory P x h = tt

-- ---- the sites of an entry

pub root_honest : (x : Root) (k : RootMarks x) → IsRootHonest x k → (y : Site) → In y (root_sites x k) → IsHonestSite y
root_honest x k h y i = honest_all (x ∷ []) (k, tt) (h, tt) y (In-append_left y (root_sites x k) [] i)

pub patterns_counted : (ps : List Pattern) (k : PatternMarks ps) → length (pattern_sites ps k) ≡ nodes_in ps
patterns_counted [] k = refl
patterns_counted (p ∷ ps) k =
    let a : length (sites p.tree k.0 ++ pattern_sites ps k.1) ≡ length (sites p.tree k.0) + length (pattern_sites ps k.1) = length-append (sites p.tree k.0) (pattern_sites ps k.1) in
    let b : length (sites p.tree k.0) ≡ size_of p.tree = sites_counted p.tree k.0 in
    let c : length (pattern_sites ps k.1) ≡ nodes_in ps = patterns_counted ps k.1 in
    let d : nodes_in (p ∷ ps) ≡ size_of p.tree + nodes_in ps = sum_by-cons (λ (p : Pattern). size_of p.tree) p ps in
    omega arith

pub root_counted : (x : Root) (k : RootMarks x) → length (root_sites x k) ≡ root_size x
root_counted (Plain t) k = sites_counted t k
root_counted (Scanner ps) k = count_one (pattern_sites ps k) (AtScanner ps k) (nodes_in ps) (patterns_counted ps k)

patterns_honest : (ps : List Pattern) (k : PatternMarks ps) → ArePatternsHonest ps k → (y : Site) → In y (pattern_sites ps k) → IsHonestSite y
patterns_honest ps k h y i = root_honest (Scanner ps) k h y (In-append_left y (pattern_sites ps k) (AtScanner ps k ∷ []) i)

pub any_patterns : (ps : List Pattern) → PatternMarks ps
any_patterns [] = tt
any_patterns (p ∷ ps) = (any_tests p.tree, any_patterns ps)

-- the node of this number is the first that is refused, of an expression and of an entry
module _ (alphabet : Alphabet) where
  abbrev SaysFirst : Node → ℕ → Cause → Type 0
  SaysFirst t n cause = (k : Marks t) × IsFirstRefused alphabet (sites t k) n cause

  abbrev pub RootSays : Root → ℕ → Cause → Type 0
  RootSays x n cause = (k : RootMarks x) × IsFirstRefused alphabet (root_sites x k) n cause

-- an expression that is built or refused is so as an entry
pub plain_built : (alphabet : Alphabet) (t : Node) (b : Built) → IsBuilt alphabet t b → IsEntryBuilt alphabet (Plain t) (F.Plain b.machine)
plain_built alphabet t b h = record { machine = h.stands; tests = h.tests; accepted = h.accepted; few = h.few }

pub plain_refused : (alphabet : Alphabet) (t : Node) (r : Refused) → IsRefused alphabet t r → IsRootRefused alphabet (Plain t) r
plain_refused alphabet t r h = record {
  within = h.within;
  names = no_pattern r.fault (SaysFirst alphabet t r.node) (Plain t) h.first;
  first = first_of r.fault (SaysFirst alphabet t r.node) (RootSays alphabet (Plain t) r.node) (λ cause s. s) h.first;
}

-- ---- patterns that are built

abbrev pub trees_in : List Pattern → List Node
trees_in ps = map (λ (p : Pattern). p.tree) ps

abbrev pub machines_in : List Built → List Graph
machines_in bs = map (λ (b : Built). b.machine) bs

module _ (alphabet : Alphabet) where
  pub patterns_tests : (ps : List Pattern) (bs : List Built) → AreBuilt alphabet (trees_in ps) bs → (k : PatternMarks ps) × ArePatternsHonest ps k
  patterns_tests [] [] h = (tt, tt)
  patterns_tests [] (b ∷ bs) h = absurd h
  patterns_tests (p ∷ ps) [] h = absurd h
  patterns_tests (p ∷ ps) (b ∷ bs) h =
      let t = h.0.tests in
      let r = patterns_tests ps bs h.1 in
      ((t.0, r.0), (t.1, r.1))

  patterns_accepted : (ps : List Pattern) (bs : List Built) → AreBuilt alphabet (trees_in ps) bs → (k : PatternMarks ps) → ArePatternsHonest ps k → AreAccepted alphabet (pattern_sites ps k)
  patterns_accepted [] [] h k g = λ x i. absurd i
  patterns_accepted [] (b ∷ bs) h k g = absurd h
  patterns_accepted (p ∷ ps) [] h k g = absurd h
  patterns_accepted (p ∷ ps) (b ∷ bs) h k g = accepted_append alphabet (sites p.tree k.0) (pattern_sites ps k.1) (h.0.accepted k.0 g.0) (patterns_accepted ps bs h.1 k.1 g.1)

  built_of : (ps : List Pattern) (bs : List Built) → AreBuilt alphabet (trees_in ps) bs → (k : PatternMarks ps) → ArePatternsHonest ps k → AreBuiltOf ps k (machines_in bs)
  built_of [] [] h k g = tt
  built_of [] (b ∷ bs) h k g = absurd h
  built_of (p ∷ ps) [] h k g = absurd h
  built_of (p ∷ ps) (b ∷ bs) h k g = (h.0.stands k.0 g.0, built_of ps bs h.1 k.1 g.1)

  pub stand_for : (qs : List rust_pattern.Pattern) (bs : List Built) → AreBuilt alphabet (trees_in (map pattern_of qs)) bs → StandForPatterns (map pattern_of qs) (machines_in bs) (map (λ (q : rust_pattern.Pattern). q.token) qs)
  stand_for [] [] h = tt
  stand_for [] (b ∷ bs) h = absurd h
  stand_for (q ∷ qs) [] h = absurd h
  stand_for (q ∷ qs) (b ∷ bs) h = (h.0.stands, refl, stand_for qs bs h.1)

  pub built_count : (ts : List Node) (bs : List Built) → AreBuilt alphabet ts bs → length bs ≡ length ts
  built_count [] [] h = refl
  built_count [] (b ∷ bs) h = absurd h
  built_count (t ∷ ts) [] h = absurd h
  built_count (t ∷ ts) (b ∷ bs) h = ap suc (built_count ts bs h.1)

  -- ---- a pattern that is refused

  refused_at : (cause : Cause) (front : List Pattern) (bs : List Built) (p : Pattern) (back : List Pattern) → AreBuilt alphabet (trees_in front) bs → (i n : ℕ) → nodes_in front + i ≡ n
      → (k : Marks p.tree) → IsFirstRefused alphabet (sites p.tree k) i cause → (j : PatternMarks (front ++ p ∷ back)) × IsFirstRefused alphabet (pattern_sites (front ++ p ∷ back) j) n cause
  refused_at cause [] [] p back h i n e k f =
      let same : i ≡ n = zero_and i n e in
      ((k, any_patterns back), first_before alphabet (sites p.tree k) (pattern_sites back (any_patterns back)) n cause (subst (λ w. IsFirstRefused alphabet (sites p.tree k) w cause) same f))
    where
      zero_and : (i n : ℕ) → 0 + i ≡ n → i ≡ n
      zero_and i n e = omega arith
  refused_at cause [] (b ∷ bs) p back h i n e k f = absurd h
  refused_at cause (q ∷ front) [] p back h i n e k f = absurd h
  refused_at cause (q ∷ front) (b ∷ bs) p back h i n e k f =
      let r = refused_at cause front bs p back h.1 i (nodes_in front + i) refl k f in
      let t = h.0.tests in
      let sum : nodes_in (q ∷ front) ≡ size_of q.tree + nodes_in front = sum_by-cons (λ (p : Pattern). size_of p.tree) q front in
      let count : length (sites q.tree t.0) ≡ size_of q.tree = sites_counted q.tree t.0 in
      let place : length (sites q.tree t.0) + (nodes_in front + i) ≡ n = omega arith in (
        (t.0, r.0),
        first_after alphabet (sites q.tree t.0) (pattern_sites (front ++ p ∷ back) r.0) (nodes_in front + i) n cause (honest_sites q.tree t.0 t.1) (h.0.accepted t.0 t.1) place r.1,
      )

  less_nodes : (front : List Pattern) (p : Pattern) (back : List Pattern) → nodes_in front + size_of p.tree ≤ nodes_in (front ++ p ∷ back)
  less_nodes front p back =
      let a : nodes_in (front ++ p ∷ back) ≡ nodes_in front + nodes_in (p ∷ back) = sum_by-append (λ (p : Pattern). size_of p.tree) front (p ∷ back) in
      let b : nodes_in (p ∷ back) ≡ size_of p.tree + nodes_in back = sum_by-cons (λ (p : Pattern). size_of p.tree) p back in
      omega arith

  -- the refused node of a pattern, whatever comes behind it
  pub pattern_refused : (front : List Pattern) (bs : List Built) (p : Pattern) → AreBuilt alphabet (trees_in front) bs → (r q : Refused) → IsRefused alphabet p.tree r → q.fault ≡ r.fault → q.node ≡ nodes_in front + r.node
      → (back : List Pattern) → IsRootRefused alphabet (Scanner (front ++ p ∷ back)) q
  pattern_refused front bs p h r q x same number back = record {
    within =
        let a : r.node < size_of p.tree = x.within in
        let b : nodes_in front + size_of p.tree ≤ nodes_in (front ++ p ∷ back) = less_nodes front p back in
        omega arith;
    names = subst (NamesPattern (Scanner (front ++ p ∷ back))) (sym same) (no_pattern r.fault (SaysFirst alphabet p.tree r.node) (Scanner (front ++ p ∷ back)) x.first);
    first = subst (λ e. IfSome (cause_of e) (RootSays alphabet (Scanner (front ++ p ∷ back)) q.node)) (sym same)
        (first_of r.fault (SaysFirst alphabet p.tree r.node) (RootSays alphabet (Scanner (front ++ p ∷ back)) q.node) (λ cause s.
        let w = refused_at cause front bs p back h r.node q.node (sym number) s.0 s.1 in
        (w.0, first_before alphabet (pattern_sites (front ++ p ∷ back) w.0) (AtScanner (front ++ p ∷ back) w.0 ∷ []) q.node cause w.1)) x.first);
  }

  -- ---- the scanner's own node

  module _ (ps : List Pattern) (bs : List Built) (h : AreBuilt alphabet (trees_in ps) bs) (cells : Cells) (c : AreCells alphabet (pattern_sets ps) (pattern_conditions ps) cells) where
    abbrev width : ℕ
    width = cells.classes * 2 ^ length cells.conditions.items

    wide : (k : PatternMarks ps) → site_width alphabet (AtScanner ps k) ≡ width
    wide k i = count_is alphabet (pattern_sets ps) cells.classes c.classes i * 2 ^ length (sym c.conditions i)

    some : 0 < width
    some = mul-pos (some_class alphabet (pattern_sets ps) cells.classes c.classes) (pow_pos (length cells.conditions.items))

    -- more cells are more configurations
    more_cells : (k : PatternMarks ps) → refused.HasTooManyCells alphabet (AtScanner ps k) ↔ HasMore (scan_raw ps k) (most_of cells)
    more_cells k = subst (λ w. refused.HasMoreCells (scan_raw ps k) w 4194304 ↔ HasMore (scan_raw ps k) (4194304 / width)) (sym (wide k)) (cells_more (scan_raw ps k) width 4194304 some)

    causes : (k : PatternMarks ps) → ArePatternsHonest ps k → (e : BuildFault) → IsScanCause (machines_in bs) (most_of cells) e ↔ IsPatternCause ps k (most_of cells) e
    causes k g e = scanner_causes ps k (machines_in bs) (built_of ps bs h k g) (most_of cells) e

    module _ (n : HasNoScanCause (machines_in bs) (most_of cells)) (k : PatternMarks ps) (g : ArePatternsHonest ps k) where
      few : ¬ HasMore (scan_raw ps k) 32767
      few q = n.0.0 ((causes k g L6).1 q)

      clear : HasNoCause (scan_raw ps k) (scan_jams ps k) (most_of cells)
      clear =
          let within : ¬ HasMore (scan_raw ps k) (most_of cells) = λ q. n.0.1 ((causes k g L8).1 (few, q)).1 in
          (few, within, λ q. n.0.2 ((causes k g F15).1 (few, within, q)).2)

      none_empty : (i : ℕ) → first_empty ps k ≡ Some i → ⊥
      none_empty i e = none_in i (sym n.1 ∙ ((causes k g (F12 i)).1 (clear, e)).1)

      accepted_scanner : IsAccepted alphabet (AtScanner ps k)
      accepted_scanner refused.L6 r = few r
      accepted_scanner refused.L8 r = clear.1 ((more_cells k).0 r.1)
      accepted_scanner refused.F15 r = clear.2 r.2
      accepted_scanner (refused.F12 i) r = none_empty i r.3

    refused_scanner : (k : PatternMarks ps) → ArePatternsHonest ps k → (e : BuildFault) → IsPatternCause ps k (most_of cells) e → IfSome (cause_of e) (IsRefusedFor alphabet (AtScanner ps k))
    refused_scanner k g L6 r = r
    refused_scanner k g L8 r = (r.0, (more_cells k).1 r.1)
    refused_scanner k g (F12 i) r = (r.0.0, (λ m. r.0.1 ((more_cells k).0 m)), r.0.2, r.1)
    refused_scanner k g F15 r = (r.0, (λ m. r.1 ((more_cells k).0 m)), r.2)
    refused_scanner k g Memory r = tt

    scanner_built : (s : Scanned) → ScannerStandsFor ps s → HasNoScanCause (machines_in bs) (most_of cells) → IsEntryBuilt alphabet (Scanner ps) (F.Scanner s)
    scanner_built s stands n = record {
      machine = stands;
      tests = patterns_tests ps bs h;
      accepted = λ k g. accepted_behind alphabet (pattern_sites ps k) (AtScanner ps k) (patterns_accepted ps bs h k g) (accepted_scanner n k g);
      few =
          let t = patterns_tests ps bs h in
          let z = stands t.0 t.1 in
          elim (dec_lt 32767 (length s.machine.states)) [
            | yes l ↦ absurd (few n t.0 t.1 ((quiet_more (scan_raw ps t.0) 32767).0 ((states_counted (scan_auto ps t.0) s.machine 32767 z.machine).1 l)))
            | no q ↦ omega arith
          ];
    }

    last_node : (n : ℕ) → n ≡ nodes_in ps → (cause : Cause) (k : PatternMarks ps) → ArePatternsHonest ps k → IsRefusedFor alphabet (AtScanner ps k) cause → RootSays alphabet (Scanner ps) n cause
    last_node n e cause k g r = (
      k,
      subst (λ w. IsFirstRefused alphabet (root_sites (Scanner ps) k) w cause) (patterns_counted ps k ∙ sym e)
          (last_refused alphabet (pattern_sites ps k) (AtScanner ps k) cause (patterns_honest ps k g) (patterns_accepted ps bs h k g) g r),
    )

    scanner_names : (e : BuildFault) → IsScanCause (machines_in bs) (most_of cells) e → NamesPattern (Scanner ps) e
    scanner_names L6 r = tt
    scanner_names L8 r = tt
    scanner_names (F12 i) r =
        let a : i < 0 + length (machines_in bs) = empty_below 0 (machines_in bs) i r.1 in
        let b : length (machines_in bs) ≡ length bs = length-map bs (λ (b : Built). b.machine) in
        let d : length bs ≡ length (trees_in ps) = built_count (trees_in ps) bs h in
        let f : length (trees_in ps) ≡ length ps = length-map ps (λ (p : Pattern). p.tree) in
        omega arith
    scanner_names F15 r = tt
    scanner_names Memory r = tt

    scanner_refused : (n : ℕ) → n ≡ nodes_in ps → (e : BuildFault) → IsScanCause (machines_in bs) (most_of cells) e → IsRootRefused alphabet (Scanner ps) (record { fault = e; node = n })
    scanner_refused n same e r =
        let t = patterns_tests ps bs h in
        record {
          within = omega arith;
          names = scanner_names e r;
          first = if_some_to (IsRefusedFor alphabet (AtScanner ps t.0)) (RootSays alphabet (Scanner ps) n) (cause_of e) (λ cause q. last_node n same cause t.0 t.1 q) (refused_scanner t.0 t.1 e ((causes t.0 t.1 e).0 r));
        }

    pub scanner_made : (n : ℕ) → n ≡ nodes_in ps → (r : Result Scanned BuildFault) → IfOk r (ScannerStandsFor ps) → OnOk r (HasNoScanCause (machines_in bs) (most_of cells)) → IfErr r (IsScanCause (machines_in bs) (most_of cells)) → IsScannerMadeFor alphabet ps n r
    scanner_made n same (Ok s) stands free cause = scanner_built s stands free
    scanner_made n same (Err e) stands free cause = scanner_refused n same e cause
