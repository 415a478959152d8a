-- Patterns of scanners: sizes, places, stamps, conditions and sets of the roots that a walk makes.
use Rattle.std.proofs.Common.{◌≡◌, ℕ, ◌+◌, ◌≤◌, ◌<◌, ◌++◌, max, List, [], ◌∷◌, map, drop, length, get_or, refl, ap, sym, ◌∙◌, append_assoc, arith}
use Rattle.std.specs.Prelude.{All, sum_by}
use Rattle.std.specs.List.{flat_map}
use Rattle.std.proofs.lemmas.List.{drop_more, length-append}
use Rattle.std.proofs.lemmas.List.Elements.{All-nil, All-append, All-weaker}
use Rattle.std.proofs.lemmas.List.Sums.{sum_by-cons}
use Rattle.rl_types.specs.declared.alphabet.Alphabet.{Alphabet}
use Rattle.rl_types.specs.declared.numbers.Place.{Place}
use Rattle.rl_types.specs.KeyRange.{Range}
use Rattle.rl_automata.specs.Nodes.{Node}
use Rattle.rl_automata.specs.Scans as root
use Rattle.rl_automata.specs.Scans.{Root}
use Rattle.rl_automata.specs.Refused.{sets_in, conditions_in}
use Rattle.rl_model.specs.Counts.{size_of, stamps_in, root_size, root_depth, deepest, trees_of}
use Rattle.rl_draft.specs.declared.draft.Pattern.{Pattern}
use Rattle.rl_rewrite.specs.declared.counts.Counts.{Counts}
use Rattle.rl_rewrite.specs.declared.sizes.Size.{Size}
use Rattle.rl_rewrite.specs.Plain as p
use Rattle.rl_rewrite.specs.Plain.{Plain, PlainPattern, PlainValue, pattern_plain}
use Rattle.rl_rewrite.specs.Walk.{Placed, PlacedPatterns, no_patterns, pattern_made, with_pattern, walk, walk_patterns, walk_value}
use Rattle.rl_rewrite.specs.Sizes.{nodes, depth, pattern_nodes, pattern_depth, value_nodes, value_depth}
use Rattle.rl_rewrite.specs.Measures.{cut, measured, beside, all_beside}
use Rattle.rl_rewrite.specs.Steps.{pattern_places, pattern_added, patterns_on}
use Rattle.rl_rewrite.proofs.CutLaws.{same_size}
use Rattle.rl_rewrite.proofs.SizeLaws.{walk_nodes, walk_depth}
use Rattle.rl_rewrite.proofs.PlaceLaws.{walk_whole}
use Rattle.rl_rewrite.proofs.StampLaws.{walk_rises, walk_within}
use Rattle.rl_rewrite.proofs.ConditionLaws.{walk_conditions, walk_grows}
use Rattle.rl_rewrite.proofs.SetLaws.{AreSets, walk_sets}

-- ---- behind those that are made

abbrev before : PlacedPatterns → PlacedPatterns → PlacedPatterns
before x y = record { patterns = x.patterns ++ y.patterns; places = x.places ++ y.places }

append_none : {X : Type 0} (xs : List X) → xs ++ [] ≡ xs
append_none [] = refl
append_none (x ∷ xs) = ap (λ z. x ∷ z) (append_none xs)

before_none : (x : PlacedPatterns) → before x no_patterns ≡ x
before_none x = ap (λ z. record { patterns = z; places = x.places ++ [] }) (append_none x.patterns) ∙ ap (λ z. record { patterns = x.patterns; places = z }) (append_none x.places)

added_before : (x : PlacedPatterns) (q : PlainPattern) (y : Placed) (z : PlacedPatterns) → before (pattern_added x q y) z ≡ before x (with_pattern q y z)
added_before x q y z =
    ap (λ w. record { patterns = w; places = (x.places ++ y.places) ++ z.places }) (append_assoc x.patterns (pattern_made q y.node ∷ []) z.patterns)
    ∙ ap (λ w. record { patterns = x.patterns ++ (pattern_made q y.node ∷ z.patterns); places = w }) (append_assoc x.places y.places z.places)

on_before : (x : PlacedPatterns) (qs : List PlainPattern) (c : Counts) → patterns_on x qs c ≡ (before x (walk_patterns qs c).0, (walk_patterns qs c).1)
on_before x [] c = ap (λ z. (z, c)) (sym (before_none x))
on_before x (q ∷ qs) c =
    let y = walk q.plain c in
    on_before (pattern_added x q y.0) qs y.1 ∙ ap (λ z. (z, (walk_patterns qs y.1).1)) (added_before x q y.0 (walk_patterns qs y.1).0)

pub scanner_is : (x : PlacedPatterns) (d : Counts) (qs : List PlainPattern) (at : Place) (c : Counts) → (x, d) ≡ patterns_on no_patterns qs c
    → (record { root = root.Scanner x.patterns; places = x.places ++ at ∷ [] }, d) ≡ walk_value (p.Scanner qs at) c
scanner_is x d qs at c e = ap (λ z. (record { root = root.Scanner z.0.patterns; places = z.0.places ++ at ∷ [] }, z.1)) (e ∙ on_before no_patterns qs c)

-- the places of patterns
pub places_are : (alphabet : Alphabet) (known : List Plain) (ps : List Pattern) → pattern_places ps ≡ map (λ (q : PlainPattern). q.place) (map (pattern_plain alphabet known) ps)
places_are alphabet known [] = refl
places_are alphabet known (q ∷ ps) = ap (λ z. q.place ∷ z) (places_are alphabet known ps)

-- the patterns from an index on
pub patterns_left : (alphabet : Alphabet) (known : List Plain) (ps : List Pattern) (i : ℕ) (q : Pattern) → i < length ps → q ≡ get_or ps i q
    → map (pattern_plain alphabet known) (drop i ps) ≡ pattern_plain alphabet known q ∷ map (pattern_plain alphabet known) (drop (i + 1) ps)
patterns_left alphabet known ps i q h e = ap (map (pattern_plain alphabet known)) (drop_more ps i q h ∙ ap (λ y. y ∷ drop (i + 1) ps) (sym e))

pub places_left : (ps : List Pattern) (i : ℕ) (q : Pattern) → i < length ps → q ≡ get_or ps i q → pattern_places (drop i ps) ≡ q.place ∷ pattern_places (drop (i + 1) ps)
places_left ps i q h e = ap pattern_places (drop_more ps i q h ∙ ap (λ y. y ∷ drop (i + 1) ps) (sym e))

-- ---- sizes

beside_all : (s : Size) (qs : List PlainPattern) → all_beside (cut s) qs ≡ cut (record { nodes = s.nodes + pattern_nodes qs; depth = max s.depth (pattern_depth qs) })
beside_all s [] = same_size _ _ (omega arith) (omega arith)
beside_all s (q ∷ qs) =
    let here : cut (beside (cut s) (cut (measured q.plain))) ≡ cut (beside s (measured q.plain)) = same_size _ _ (omega arith) (omega arith) in
    ap (λ z. all_beside z qs) here ∙ beside_all (beside s (measured q.plain)) qs ∙ same_size _ _ (omega arith) (omega arith)

pub scanner_cut : (qs : List PlainPattern) → all_beside (record { nodes = 1; depth = 0 }) qs ≡ cut (record { nodes = pattern_nodes qs + 1; depth = pattern_depth qs })
scanner_cut qs = beside_all (record { nodes = 1; depth = 0 }) qs ∙ same_size _ _ (omega arith) (omega arith)

patterns_size : (qs : List PlainPattern) (c : Counts) → sum_by (λ (x : root.Pattern). size_of x.tree) (walk_patterns qs c).0.patterns ≡ pattern_nodes qs
patterns_size [] c = refl
patterns_size (q ∷ qs) c =
    let x = walk q.plain c in
    sum_by-cons (λ (y : root.Pattern). size_of y.tree) (pattern_made q x.0.node) (walk_patterns qs x.1).0.patterns ∙ ap (λ z. z + sum_by (λ (y : root.Pattern). size_of y.tree) (walk_patterns qs x.1).0.patterns) (walk_nodes q.plain c)
    ∙ ap (λ z. nodes q.plain + z) (patterns_size qs x.1)

pub root_nodes : (v : PlainValue) (c : Counts) → root_size (walk_value v c).0.root ≡ value_nodes v
root_nodes (p.Expression e) c = walk_nodes e c
root_nodes (p.Scanner qs at) c = ap (λ z. z + 1) (patterns_size qs c)

patterns_deep : (qs : List PlainPattern) (c : Counts) → deepest (walk_patterns qs c).0.patterns ≡ pattern_depth qs
patterns_deep [] c = refl
patterns_deep (q ∷ qs) c =
    let x = walk q.plain c in
    ap (λ z. max z (deepest (walk_patterns qs x.1).0.patterns)) (walk_depth q.plain c) ∙ ap (λ z. max (depth q.plain) z) (patterns_deep qs x.1)

pub root_deep : (v : PlainValue) (c : Counts) → root_depth (walk_value v c).0.root ≡ value_depth v
root_deep (p.Expression e) c = walk_depth e c
root_deep (p.Scanner qs at) c = patterns_deep qs c

-- ---- places

patterns_whole : (qs : List PlainPattern) (c : Counts) → length (walk_patterns qs c).0.places ≡ pattern_nodes qs
patterns_whole [] c = refl
patterns_whole (q ∷ qs) c =
    let x = walk q.plain c in
    omega (arith, length-append x.0.places (walk_patterns qs x.1).0.places, walk_whole q.plain c, walk_nodes q.plain c, patterns_whole qs x.1)

-- each node has a place
pub root_whole : (v : PlainValue) (c : Counts) → length (walk_value v c).0.places ≡ root_size (walk_value v c).0.root
root_whole (p.Expression e) c = walk_whole e c
root_whole (p.Scanner qs at) c =
    let x = walk_patterns qs c in
    length-append x.0.places (at ∷ []) ∙ ap (λ z. z + 1) (patterns_whole qs c) ∙ sym (root_nodes (p.Scanner qs at) c)

-- ---- stamps

abbrev trees : List root.Pattern → List Node
trees ps = map (λ (x : root.Pattern). x.tree) ps

record AreFresh (k : ℕ) (c : Counts) (x : PlacedPatterns × Counts) : Type 0 where
  rises : c.stamp ≤ x.1.stamp
  few : x.1.stamp ≤ c.stamp + k
  within : All (λ s. (c.stamp < s) × (s ≤ x.1.stamp)) (flat_map stamps_in (trees x.0.patterns))

patterns_fresh : (qs : List PlainPattern) (c : Counts) → AreFresh (pattern_nodes qs) c (walk_patterns qs c)
patterns_fresh [] c = record { rises = omega arith; few = omega arith; within = All-nil (λ s. (c.stamp < s) × (s ≤ c.stamp)) }
patterns_fresh (q ∷ qs) c =
    let x = walk q.plain c in
    let y = walk_patterns qs x.1 in
    let h = walk_rises q.plain c in
    let g = patterns_fresh qs x.1 in
    let P : ℕ → Type 0 = λ s. (c.stamp < s) × (s ≤ y.1.stamp) in
    record {
      rises = omega (arith, h.0, g.rises);
      few = omega (arith, h.1, g.few);
      within = All-append P (stamps_in x.0.node) (flat_map stamps_in (trees y.0.patterns))
          (All-weaker (λ s. (c.stamp < s) × (s ≤ x.1.stamp)) P (λ s k. (k.0, omega (arith, k.1, g.rises))) (stamps_in x.0.node) (walk_within q.plain c))
          (All-weaker (λ s. (x.1.stamp < s) × (s ≤ y.1.stamp)) P (λ s k. (omega (arith, k.0, h.0), k.1)) (flat_map stamps_in (trees y.0.patterns)) g.within);
    }

-- the stamps of a walk from nothing are numbers from 1 up to the nodes
pub root_stamps : (v : PlainValue) (c : Counts) → c.stamp ≡ 0 → All (λ s. (1 ≤ s) × (s ≤ value_nodes v)) (flat_map stamps_in (trees_of (walk_value v c).0.root))
root_stamps (p.Expression e) c z =
    let x = walk e c in
    let P : ℕ → Type 0 = λ s. (1 ≤ s) × (s ≤ nodes e) in
    All-append P (stamps_in x.0.node) []
    (All-weaker (λ s. (c.stamp < s) × (s ≤ x.1.stamp)) P (λ s k. (omega (arith, k.0), omega (arith, k.1, z, (walk_rises e c).1))) (stamps_in x.0.node) (walk_within e c)) (All-nil P)
root_stamps (p.Scanner qs at) c z =
    let x = walk_patterns qs c in
    let h = patterns_fresh qs c in
    All-weaker (λ s. (c.stamp < s) × (s ≤ x.1.stamp)) (λ s. (1 ≤ s) × (s ≤ pattern_nodes qs + 1)) (λ s k. (omega (arith, k.0), omega (arith, k.1, z, h.few)))
    (flat_map stamps_in (trees x.0.patterns)) h.within

-- ---- conditions

patterns_grow : (qs : List PlainPattern) (c : Counts) → length c.conditions ≤ length (walk_patterns qs c).1.conditions
patterns_grow [] c = omega arith
patterns_grow (q ∷ qs) c = omega (arith, walk_grows q.plain c, patterns_grow qs (walk q.plain c).1)

pub root_grows : (v : PlainValue) (c : Counts) → length c.conditions ≤ length (walk_value v c).1.conditions
root_grows (p.Expression e) c = walk_grows e c
root_grows (p.Scanner qs at) c = patterns_grow qs c

abbrev IsUpTo : ℕ → ℕ → Type 0
IsUpTo count s = (1 ≤ s) × (s ≤ count)

patterns_known : (qs : List PlainPattern) (c : Counts) → length (walk_patterns qs c).1.conditions ≤ 8
    → All (IsUpTo (length (walk_patterns qs c).1.conditions)) (flat_map conditions_in (trees (walk_patterns qs c).0.patterns))
patterns_known [] c h = All-nil (IsUpTo (length c.conditions))
patterns_known (q ∷ qs) c h =
    let x = walk q.plain c in
    let y = walk_patterns qs x.1 in
    let g = patterns_grow qs x.1 in
    let m = length y.1.conditions in
    All-append (IsUpTo m) (conditions_in x.0.node) (flat_map conditions_in (trees y.0.patterns))
    (All-weaker (IsUpTo (length x.1.conditions)) (IsUpTo m) (λ s k. (k.0, omega (arith, k.1, g))) (conditions_in x.0.node) (walk_conditions q.plain c (omega (arith, g, h))))
    (patterns_known qs x.1 h)

-- conditions go on, and those of the root are among them
pub root_conditions : (v : PlainValue) (c : Counts) → length (walk_value v c).1.conditions ≤ 8
    → All (λ s. (1 ≤ s) × (s ≤ length (walk_value v c).1.conditions)) (flat_map conditions_in (trees_of (walk_value v c).0.root))
root_conditions (p.Expression e) c h =
    let x = walk e c in
    All-append (IsUpTo (length x.1.conditions)) (conditions_in x.0.node) [] (walk_conditions e c h) (All-nil (IsUpTo (length x.1.conditions)))
root_conditions (p.Scanner qs at) c h = patterns_known qs c h

-- ---- sets

abbrev pub ArePatternSets : (List Range → Type 0) → List PlainPattern → Type 0
ArePatternSets P [] = Unit {0}
ArePatternSets P (q ∷ qs) = AreSets P q.plain × ArePatternSets P qs

-- each set of the value is such a set
abbrev pub AreValueSets : (List Range → Type 0) → PlainValue → Type 0
AreValueSets P (p.Expression e) = AreSets P e
AreValueSets P (p.Scanner qs at) = ArePatternSets P qs

patterns_sets : (P : List Range → Type 0) (qs : List PlainPattern) (c : Counts) → ArePatternSets P qs → All P (flat_map sets_in (trees (walk_patterns qs c).0.patterns))
patterns_sets P [] c h = All-nil P
patterns_sets P (q ∷ qs) c h =
    let x = walk q.plain c in
    All-append P (sets_in x.0.node) (flat_map sets_in (trees (walk_patterns qs x.1).0.patterns)) (walk_sets P q.plain c h.0) (patterns_sets P qs x.1 h.1)

pub root_sets : (P : List Range → Type 0) (v : PlainValue) (c : Counts) → AreValueSets P v → All P (flat_map sets_in (trees_of (walk_value v c).0.root))
root_sets P (p.Expression e) c h = All-append P (sets_in (walk e c).0.node) [] (walk_sets P e c h) (All-nil P)
root_sets P (p.Scanner qs at) c h = patterns_sets P qs c h
