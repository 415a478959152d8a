-- Patterns that are built one after another.
use Rattle.std.proofs.Common.{◌≡◌, ℕ, suc, ◌+◌, ◌<◌, ◌≤◌, List, [], ◌∷◌, ◌++◌, map, flat_map, length, refl, sym, ◌∙◌, ap, subst, inl, inr, arith, take, drop, get_or, drop-cons, add-one}
use Rattle.std.specs.Prelude.{sum_by, IfSome, Option, Result, IfOk, OnOk, IfErr}
use Rattle.std.proofs.Math.Seq.{take-suc}
use Rattle.std.proofs.lemmas.List.{take-append-drop, map-append, length-map}
use Rattle.std.proofs.lemmas.List.Sums.{sum_by-cons, sum_by-append}
use Rattle.std.proofs.lemmas.Grind.{flat_map-append}
use Rattle.rl_types.specs.declared.alphabet.Alphabet.{Alphabet}
use Rattle.rl_types.specs.declared.numbers.ActionId.{ActionId}
use Rattle.rl_types.specs.KeyRange.{Range}
use Rattle.rl_sets.specs.Sets.{In}
use Rattle.rl_automata.specs.Nodes.{Node}
use Rattle.rl_automata.specs.Scans.{Pattern, Scanner}
use Rattle.rl_automata.specs.Refused.{sets_in, conditions_in, pattern_sets, pattern_conditions}
use Rattle.rl_classes.specs.Sets.{range_count}
use Rattle.rl_explore.specs.declared.fault.BuildFault.{BuildFault}
use Rattle.rl_explore.specs.declared.fault.BuildFault.TheVariants.{Memory}
use Rattle.rl_fsm.specs.Graphs.{Graph}
use Rattle.rl_fsm.specs.Scanned.{Scanned}
use Rattle.rl_scan.specs.Scanners.{ScannerStandsFor, StandForPatterns, HasNoScanCause, IsScanCause}
use Rattle.rl_scan.proofs.FaultLaws.{if_ok_to}
use Rattle.rl_model.specs.declared.spec.Pattern as rust_pattern
use Rattle.rl_model.specs.Counts.{size_of}
use Rattle.rl_model.specs.Specification.{pattern_of}
use Rattle.rl_build.specs.declared.built.Built.{Built}
use Rattle.rl_build.specs.declared.built.Refused.{Refused}
use Rattle.rl_build.specs.declared.cells.Cells.{Cells}
use Rattle.rl_build.specs.declared.patterns.Row.{Row}
use Rattle.rl_build.specs.Cells.{AreCells, most_of}
use Rattle.rl_build.specs.Chains.{AreBuilt}
use Rattle.rl_build.specs.Entries.{ArePatternsFit, NamesPattern, IsRootRefused}
use Rattle.rl_build.specs.Patterns.{nodes_in, ranges_together, IsRow, IsScannerMadeFor}
use Rattle.rl_build.specs.Trees.{cause_of, IsBuilt, IsRefused, ranges_in, wrong_numbers, IsFit}
use Rattle.rl_build.proofs.AnswerLaws.{ranges_are}
use Rattle.rl_build.proofs.ChainLaws.{built_behind}
use Rattle.rl_build.proofs.EntryLaws.{size_some}
use Rattle.rl_build.proofs.ScannerLaws.{RootSays, trees_in, machines_in, built_count, stand_for, pattern_refused, scanner_made}

-- ---- sums

-- one of them is no more than all together
within_sum : {X : Type 0} (f : X → ℕ) (xs : List X) (x : X) → In x xs → f x ≤ sum_by f xs
within_sum f [] x i = absurd i
within_sum f (y ∷ xs) x (inl e) =
    let a : sum_by f (y ∷ xs) ≡ f y + sum_by f xs = sum_by-cons f y xs in
    let b : f y ≡ f x = ap f e in
    omega arith
within_sum f (y ∷ xs) x (inr i) =
    let a : sum_by f (y ∷ xs) ≡ f y + sum_by f xs = sum_by-cons f y xs in
    let b : f x ≤ sum_by f xs = within_sum f xs x i in
    omega arith

-- at least as many as there are
count_within : {X : Type 0} (f : X → ℕ) → ((x : X) → 0 < f x) → (xs : List X) → length xs ≤ sum_by f xs
count_within f some [] = omega arith
count_within f some (x ∷ xs) =
    let a : sum_by f (x ∷ xs) ≡ f x + sum_by f xs = sum_by-cons f x xs in
    let b : 0 < f x = some x in
    let c : length xs ≤ sum_by f xs = count_within f some xs in
    let d : length (x ∷ xs) ≡ suc (length xs) = refl in
    omega arith

-- ---- patterns that fit

pub pattern_fits : (ps : List Pattern) (p : Pattern) → ArePatternsFit ps → In p ps → IsFit p.tree
pattern_fits ps p h i = record {
  nodes = let a : size_of p.tree ≤ nodes_in ps = within_sum (λ (p : Pattern). size_of p.tree) ps p i in let b : nodes_in ps + 1 ≤ 100000 = h.nodes in omega arith;
  ranges = let a : ranges_in p.tree ≤ sum_by (λ (p : Pattern). ranges_in p.tree) ps = within_sum (λ (p : Pattern). ranges_in p.tree) ps p i in let b : sum_by (λ (p : Pattern). ranges_in p.tree) ps ≤ 25600000 = h.ranges in omega arith;
  conditions = let a : wrong_numbers p.tree ≤ sum_by (λ (p : Pattern). wrong_numbers p.tree) ps = within_sum (λ (p : Pattern). wrong_numbers p.tree) ps p i in let b : sum_by (λ (p : Pattern). wrong_numbers p.tree) ps ≡ 0 = h.conditions in omega arith;
}

pub few_patterns : (ps : List Pattern) → ArePatternsFit ps → length ps ≤ 99999
few_patterns ps h =
    let a : length ps ≤ nodes_in ps = count_within (λ (p : Pattern). size_of p.tree) (λ p. size_some p.tree) ps in
    let b : nodes_in ps + 1 ≤ 100000 = h.nodes in
    omega arith

pub some_patterns : (ps : List Pattern) → ArePatternsFit ps → 1 ≤ length ps
some_patterns [] h = absurd (h.some refl)
some_patterns (p ∷ ps) h = let d : length (p ∷ ps) ≡ suc (length ps) = refl in omega arith

-- ---- rows

module _ (alphabet : Alphabet) where
  nodes_more : (ps : List Pattern) (p : Pattern) → nodes_in (ps ++ p ∷ []) ≡ nodes_in ps + size_of p.tree
  nodes_more ps p =
      let a : nodes_in (ps ++ p ∷ []) ≡ nodes_in ps + nodes_in (p ∷ []) = sum_by-append (λ (p : Pattern). size_of p.tree) ps (p ∷ []) in
      let b : nodes_in (p ∷ []) ≡ size_of p.tree + nodes_in [] = sum_by-cons (λ (p : Pattern). size_of p.tree) p [] in
      let z : nodes_in [] ≡ 0 = refl in
      omega arith

  pub row_none : (row : Row) → row.patterns.items ≡ [] → row.nodes ≡ 0 → IsRow alphabet [] row
  row_none row e n = record { built = subst (AreBuilt alphabet []) (sym e) tt; count = n }

  pub row_more : (ps : List Pattern) (p : Pattern) (b : Built) (old new : Row) → IsRow alphabet ps old → IsBuilt alphabet p.tree b → new.patterns.items ≡ old.patterns.items ++ b ∷ [] → new.nodes ≡ old.nodes + b.nodes → IsRow alphabet (ps ++ p ∷ []) new
  row_more ps p b old new h x e n = record {
    built = subst (AreBuilt alphabet (trees_in (ps ++ p ∷ []))) (sym e) (subst (λ ts. AreBuilt alphabet ts (old.patterns.items ++ b ∷ [])) (sym (map-append (λ (p : Pattern). p.tree) ps (p ∷ []))) (built_behind alphabet (trees_in ps) old.patterns.items p.tree b h.built x));
    count =
        let a : b.nodes ≡ size_of p.tree = x.count in
        let d : old.nodes ≡ nodes_in ps = h.count in
        let f : nodes_in (ps ++ p ∷ []) ≡ nodes_in ps + size_of p.tree = nodes_more ps p in
        omega arith;
  }

  pub row_refused : (ps : List Pattern) (p : Pattern) (row : Row) (r q : Refused) → IsRow alphabet ps row → IsRefused alphabet p.tree r → q.fault ≡ r.fault → q.node ≡ row.nodes + r.node → (back : List Pattern) → IsRootRefused alphabet (Scanner (ps ++ p ∷ back)) q
  row_refused ps p row r q h x same number = pattern_refused alphabet ps row.patterns.items p h.built r q x same (number ∙ ap (λ n. n + r.node) h.count)

  memory_told : (ps : List Pattern) (q : Refused) → q.fault ≡ Memory → q.node ≡ 0 → IsRootRefused alphabet (Scanner ps) q
  memory_told ps q same number = record {
    within = omega arith;
    names = subst (NamesPattern (Scanner ps)) (sym same) tt;
    first = subst (λ e. IfSome (cause_of e) (RootSays alphabet (Scanner ps) q.node)) (sym same) tt;
  }

  -- want of memory at a pattern that is built
  pub row_memory : (ps : List Pattern) (p : Pattern) (q : Refused) → q.fault ≡ Memory → q.node ≡ 0 → (back : List Pattern) → IsRootRefused alphabet (Scanner (ps ++ p ∷ back)) q
  row_memory ps p q same number back = memory_told (ps ++ p ∷ back) q same number

  -- ---- the patterns of code, one after another

  pub row_next : (qs : List rust_pattern.Pattern) (i : ℕ) (q : rust_pattern.Pattern) (row : Row) → i < length qs → get_or qs i q ≡ q → IsRow alphabet (map pattern_of (take i qs) ++ pattern_of q ∷ []) row → IsRow alphabet (map pattern_of (take (i + 1) qs)) row
  row_next qs i q row lt at h =
      let more : take (i + 1) qs ≡ take i qs ++ q ∷ [] = rw add-one (take-suc qs i q lt) ∙ ap (λ x. take i qs ++ x ∷ []) at in
      subst (λ ps. IsRow alphabet ps row) (sym (ap (map pattern_of) more ∙ map-append pattern_of (take i qs) (q ∷ []))) h

  pub row_stopped : (qs : List rust_pattern.Pattern) (i : ℕ) (q : rust_pattern.Pattern) (r : Refused) → i < length qs → get_or qs i q ≡ q → ((back : List Pattern) → IsRootRefused alphabet (Scanner (map pattern_of (take i qs) ++ pattern_of q ∷ back)) r) → IsRootRefused alphabet (Scanner (map pattern_of qs)) r
  row_stopped qs i q r lt at h =
      let cut : qs ≡ take i qs ++ q ∷ drop (suc i) qs = sym (take-append-drop i qs) ∙ ap (λ x. take i qs ++ x) (drop-cons qs i q lt ∙ ap (λ x. x ∷ drop (suc i) qs) at) in
      subst (λ ps. IsRootRefused alphabet (Scanner ps) r) (sym (ap (map pattern_of) cut ∙ map-append pattern_of (take i qs) (q ∷ drop (suc i) qs))) (h (map pattern_of (drop (suc i) qs)))

  -- ---- the cells of all patterns

  split_last : (ts : List Node) (bs : List Built) (b : Built) → AreBuilt alphabet ts (bs ++ b ∷ []) → (us : List Node) × (t : Node) × (us ++ t ∷ [] ≡ ts) × AreBuilt alphabet us bs × IsBuilt alphabet t b
  split_last [] [] b h = absurd h
  split_last [] (c ∷ bs) b h = absurd h
  split_last (t ∷ []) [] b h = ([], t, refl, tt, h.0)
  split_last (t ∷ u ∷ ts) [] b h = absurd h.1
  split_last (t ∷ ts) (c ∷ bs) b h =
      let r = split_last ts bs b h.1 in
      (t ∷ r.0, r.1, (λ i. t ∷ r.2 i), (h.0, r.3), r.4)

  pub cells_none : (c : Cells) → AreCells alphabet [] [] c → (ts : List Node) → AreBuilt alphabet ts [] → AreCells alphabet (flat_map sets_in ts) (flat_map conditions_in ts) c
  cells_none c h [] x = h
  cells_none c h (t ∷ ts) x = absurd x

  flat_last : {X : Type 0} (f : Node → List X) (us : List Node) (t : Node) (ts : List Node) → us ++ t ∷ [] ≡ ts → flat_map f us ++ f t ≡ flat_map f ts
  flat_last f us t ts e = ap (λ w. flat_map f us ++ w) (sym (alone (f t))) ∙ sym (flat_map-append f us (t ∷ [])) ∙ ap (flat_map f) e
    where
      alone : {X : Type 0} (xs : List X) → xs ++ [] ≡ xs
      alone [] = refl
      alone (x ∷ xs) = ap (λ w. x ∷ w) (alone xs)

  pub cells_next : (bs : List Built) (b : Built) (old new : Cells) → ((ts : List Node) → AreBuilt alphabet ts bs → AreCells alphabet (flat_map sets_in ts) (flat_map conditions_in ts) old)
      → ((xs ys : List (List Range)) (cs ds : List ℕ) → AreCells alphabet xs cs old → AreCells alphabet ys ds b.cells → AreCells alphabet (xs ++ ys) (cs ++ ds) new)
      → (ts : List Node) → AreBuilt alphabet ts (bs ++ b ∷ []) → AreCells alphabet (flat_map sets_in ts) (flat_map conditions_in ts) new
  cells_next bs b old new f join ts h =
      let r = split_last ts bs b h in
      subst (λ cs. AreCells alphabet (flat_map sets_in ts) cs new) (flat_last conditions_in r.0 r.1 ts r.2)
      (subst (λ xs. AreCells alphabet xs (flat_map conditions_in r.0 ++ conditions_in r.1) new) (flat_last sets_in r.0 r.1 ts r.2)
      (join (flat_map sets_in r.0) (sets_in r.1) (flat_map conditions_in r.0) (conditions_in r.1) (f r.0 r.3) r.4.cells))

  pub pattern_cells : (ps : List Pattern) (c : Cells) → AreCells alphabet (flat_map sets_in (trees_in ps)) (flat_map conditions_in (trees_in ps)) c → AreCells alphabet (pattern_sets ps) (pattern_conditions ps) c
  pattern_cells ps c h = subst (λ cs. AreCells alphabet (pattern_sets ps) cs c) (conditions ps) (subst (λ xs. AreCells alphabet xs (flat_map conditions_in (trees_in ps)) c) (sets ps) h)
    where
      sets : (ps : List Pattern) → flat_map sets_in (trees_in ps) ≡ pattern_sets ps
      sets [] = refl
      sets (p ∷ ps) = ap (λ w. sets_in p.tree ++ w) (sets ps)

      conditions : (ps : List Pattern) → flat_map conditions_in (trees_in ps) ≡ pattern_conditions ps
      conditions [] = refl
      conditions (p ∷ ps) = ap (λ w. conditions_in p.tree ++ w) (conditions ps)

  pub ranges_fit_together : (ps : List Pattern) (bs : List Built) → ArePatternsFit ps → AreBuilt alphabet (trees_in ps) bs → ranges_together bs ≤ 25600000
  ranges_fit_together ps bs f h = let a : ranges_together bs ≤ sum_by (λ (p : Pattern). ranges_in p.tree) ps = less ps bs h in let b : sum_by (λ (p : Pattern). ranges_in p.tree) ps ≤ 25600000 = f.ranges in omega arith
    where
      less : (ps : List Pattern) (bs : List Built) → AreBuilt alphabet (trees_in ps) bs → ranges_together bs ≤ sum_by (λ (p : Pattern). ranges_in p.tree) ps
      less [] [] h = omega arith
      less [] (b ∷ bs) h = absurd h
      less (p ∷ ps) [] h = absurd h
      less (p ∷ ps) (b ∷ bs) h =
          let a : ranges_together (b ∷ bs) ≡ range_count b.cells.sets.items + ranges_together bs = sum_by-cons (λ (b : Built). range_count b.cells.sets.items) b bs in
          let c : sum_by (λ (p : Pattern). ranges_in p.tree) (p ∷ ps) ≡ ranges_in p.tree + sum_by (λ (p : Pattern). ranges_in p.tree) ps = sum_by-cons (λ (p : Pattern). ranges_in p.tree) p ps in
          let d : range_count b.cells.sets.items ≤ range_count (sets_in p.tree) = h.0.cells.few in
          let e : range_count (sets_in p.tree) ≡ ranges_in p.tree = ranges_are alphabet p.tree in
          let g : ranges_together bs ≤ sum_by (λ (p : Pattern). ranges_in p.tree) ps = less ps bs h.1 in
          omega arith

  -- as many tokens as machines
  pub as_many_tokens : (qs : List rust_pattern.Pattern) (bs : List Built) → AreBuilt alphabet (trees_in (map pattern_of qs)) bs → length (map (λ (q : rust_pattern.Pattern). q.token) qs) ≡ length (machines_in bs)
  as_many_tokens qs bs h =
      let a : length (map (λ (q : rust_pattern.Pattern). q.token) qs) ≡ length qs = length-map qs (λ (q : rust_pattern.Pattern). q.token) in
      let b : length (machines_in bs) ≡ length bs = length-map bs (λ (b : Built). b.machine) in
      let c : length bs ≡ length (trees_in (map pattern_of qs)) = built_count alphabet (trees_in (map pattern_of qs)) bs h in
      let d : length (trees_in (map pattern_of qs)) ≡ length (map pattern_of qs) = length-map (map pattern_of qs) (λ (p : Pattern). p.tree) in
      let e : length (map pattern_of qs) ≡ length qs = length-map qs pattern_of in
      omega arith

  pub machines_counted : (ps : List Pattern) (bs : List Built) → AreBuilt alphabet (trees_in ps) bs → length (machines_in bs) ≡ length ps
  machines_counted ps bs h =
      let b : length (machines_in bs) ≡ length bs = length-map bs (λ (b : Built). b.machine) in
      let c : length bs ≡ length (trees_in ps) = built_count alphabet (trees_in ps) bs h in
      let d : length (trees_in ps) ≡ length ps = length-map ps (λ (p : Pattern). p.tree) in
      omega arith

  -- ---- what is gathered of the patterns

  pub machines_next : (bs : List Built) (b : Built) (old new : List Graph) → old ≡ machines_in bs → new ≡ old ++ b.machine ∷ [] → new ≡ machines_in (bs ++ b ∷ [])
  machines_next bs b old new d e = e ∙ ap (λ w. w ++ b.machine ∷ []) d ∙ sym (map-append (λ (b : Built). b.machine) bs (b ∷ []))

  pub ranges_next : (bs : List Built) (b : Built) (old new : ℕ) → old ≤ ranges_together bs → new ≤ old + range_count b.cells.sets.items → new ≤ ranges_together (bs ++ b ∷ [])
  ranges_next bs b old new d e =
      let a : ranges_together (bs ++ b ∷ []) ≡ ranges_together bs + ranges_together (b ∷ []) = sum_by-append (λ (b : Built). range_count b.cells.sets.items) bs (b ∷ []) in
      let c : ranges_together (b ∷ []) ≡ range_count b.cells.sets.items + ranges_together [] = sum_by-cons (λ (b : Built). range_count b.cells.sets.items) b [] in
      let z : ranges_together [] ≡ 0 = refl in
      omega arith

  pub nodes_before : (qs : List rust_pattern.Pattern) (i : ℕ) (row : Row) → ArePatternsFit (map pattern_of qs) → IsRow alphabet (map pattern_of (take i qs)) row → row.nodes ≤ 100000
  nodes_before qs i row f h =
      let cut : map pattern_of qs ≡ map pattern_of (take i qs) ++ map pattern_of (drop i qs) = ap (map pattern_of) (sym (take-append-drop i qs)) ∙ map-append pattern_of (take i qs) (drop i qs) in
      let all : nodes_in (map pattern_of qs) ≡ nodes_in (map pattern_of (take i qs) ++ map pattern_of (drop i qs)) = ap nodes_in cut in
      let two : nodes_in (map pattern_of (take i qs) ++ map pattern_of (drop i qs)) ≡ nodes_in (map pattern_of (take i qs)) + nodes_in (map pattern_of (drop i qs)) = sum_by-append (λ (p : Pattern). size_of p.tree) (map pattern_of (take i qs)) (map pattern_of (drop i qs)) in
      let some : nodes_in (map pattern_of qs) + 1 ≤ 100000 = f.nodes in
      let count : row.nodes ≡ nodes_in (map pattern_of (take i qs)) = h.count in
      omega arith

  -- what is said of these machines and tokens is said of the patterns
  pub scanner_told : (qs : List rust_pattern.Pattern) (row : Row) (ms : List Graph) (ts : List (Option ActionId)) (cells : Cells) (most : ℕ) (r : Result Scanned BuildFault) → IsRow alphabet (map pattern_of qs) row
      → ms ≡ machines_in row.patterns.items → ts ≡ map (λ (q : rust_pattern.Pattern). q.token) qs → ((us : List Node) → AreBuilt alphabet us row.patterns.items → AreCells alphabet (flat_map sets_in us) (flat_map conditions_in us) cells) → most ≡ most_of cells
      → IfOk r (λ s. (ps : List Pattern) → StandForPatterns ps ms ts → ScannerStandsFor ps s) → OnOk r (HasNoScanCause ms most) → IfErr r (IsScanCause ms most) → IsScannerMadeFor alphabet (map pattern_of qs) row.nodes r
  scanner_told qs row ms ts cells most r h machines tokens all e stands free cause =
      let ps = map pattern_of qs in
      let bs = row.patterns.items in
      let each : StandForPatterns (map pattern_of qs) ms ts =
      subst (λ w. StandForPatterns (map pattern_of qs) w ts) (sym machines) (subst (λ w. StandForPatterns (map pattern_of qs) (machines_in row.patterns.items) w) (sym tokens) (stand_for alphabet qs bs h.built)) in
      scanner_made alphabet ps bs h.built cells (pattern_cells ps cells (all (trees_in ps) h.built)) row.nodes h.count r
      (if_ok_to (λ s. (ps : List Pattern) → StandForPatterns ps ms ts → ScannerStandsFor ps s) (ScannerStandsFor ps) r (λ s f. f ps each) stands)
      (subst (λ w. OnOk r (HasNoScanCause w (most_of cells))) machines (subst (λ n. OnOk r (HasNoScanCause ms n)) e free))
      (subst (λ w. IfErr r (IsScanCause w (most_of cells))) machines (subst (λ n. IfErr r (IsScanCause ms n)) e cause))
