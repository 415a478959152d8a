-- Which node is refused, and for which cause. The limits are this profile's.
use Rattle.std.specs.Prelude.{◌≡◌, ℕ, zero, suc, ◌+◌, ◌*◌, ◌^◌, ◌<◌, ℤ, Bool, true, false, List, [], ◌∷◌, ◌++◌, map, length, Option, Some, None, IsTrue}
use Rattle.std.specs.Ordering.{nat_cmp, bool_cmp}
use Rattle.std.specs.Cmp.Lexicographic.{slice_cmp}
use Rattle.std.specs.List.{list_any}
use Rattle.std.specs.Option.{option_map}
use Rattle.rl_types.specs.Limits.{most_cells, most_configurations}
use Rattle.rl_types.specs.declared.numbers.Letter.{Letter}
use Rattle.rl_types.specs.declared.alphabet.Alphabet.{Alphabet}
use Rattle.rl_types.specs.Alphabet.{keys_of}
use Rattle.rl_types.specs.KeyRange.{Range, in_range}
use Rattle.rl_sets.specs.Sets.{In, set_of}
use Rattle.rl_automata.specs.Auto.{Auto}
use Rattle.rl_automata.specs.Follows.{Reach}
use Rattle.rl_automata.specs.Nodes as N
use Rattle.rl_automata.specs.Nodes.{Node}
use Rattle.rl_automata.specs.Marks.{auto}
use Rattle.rl_automata.specs.Scans.{Pattern, PatternMarks, Root}
use Rattle.rl_automata.specs.Sites.{Site, AtNode, AtScanner, site_auto, site_jams, IsHonestSite, AllRootMarks, AreRootsHonest, all_sites}

-- ---- how many configurations are reached

-- no two of them are equal
abbrev pub AreDifferent : {S : Type 0} → List S → Type 0
AreDifferent [] = Unit {0}
AreDifferent (c ∷ cs) = ¬ In c cs × AreDifferent cs

-- different configurations, each of them reached
abbrev pub AreFound : {S : Type 0} → Auto S → List S → Type 0
AreFound {S} A cs = AreDifferent cs × ((c : S) → In c cs → Reach A c)

-- more than n different configurations are reached
abbrev pub HasMore : {S : Type 0} → Auto S → ℕ → Type 0
HasMore {S} A n = (cs : List S) × AreFound A cs × (n < length cs)

-- the configurations that are reached have, with `width` cells each, more than n cells together
abbrev pub HasMoreCells : {S : Type 0} → Auto S → ℕ → ℕ → Type 0
HasMoreCells {S} A width n = (cs : List S) × AreFound A cs × (n < length cs * width)

-- at some configuration that is reached, and some letter, the candidates are a cycle of priorities
abbrev pub JamsSomewhere : {S : Type 0} → Auto S → (S → Letter → Bool) → Type 0
JamsSomewhere {S} A jam = (c : S) × Reach A c × (l : Letter) × IsTrue (jam c l)

-- ---- how many cells a configuration has

-- which of the sets hold the key
abbrev pub held_in : List (List Range) → ℤ → List Bool
held_in sets key = map (λ ranges. list_any (in_range key) ranges) sets

-- the number of key classes: two keys are in one class exactly where the same sets hold them
abbrev pub class_count : Alphabet → List (List Range) → ℕ
class_count alphabet sets = length (set_of (slice_cmp bool_cmp) (map (held_in sets) (keys_of alphabet)))

-- the sets of an expression
abbrev pub sets_in : Node → List (List Range)
sets_in (N.Set ranges) = ranges ∷ []
sets_in N.Null = []
sets_in N.Nothing = []
sets_in (N.Union a b) = sets_in a ++ sets_in b
sets_in (N.And a b) = sets_in a ++ sets_in b
sets_in (N.Minus a b) = sets_in a ++ sets_in b
sets_in (N.Cat a b) = sets_in a ++ sets_in b
sets_in (N.Star a n) = sets_in a
sets_in (N.Enter a l) = sets_in a
sets_in (N.Finish a l) = sets_in a
sets_in (N.All a l) = sets_in a
sets_in (N.Leave a l) = sets_in a
sets_in (N.Mark a class kind s x) = sets_in a
sets_in (N.When a c) = sets_in a

-- the conditions of an expression, as often as they stand in it
abbrev pub conditions_in : Node → List ℕ
conditions_in (N.Set ranges) = []
conditions_in N.Null = []
conditions_in N.Nothing = []
conditions_in (N.Union a b) = conditions_in a ++ conditions_in b
conditions_in (N.And a b) = conditions_in a ++ conditions_in b
conditions_in (N.Minus a b) = conditions_in a ++ conditions_in b
conditions_in (N.Cat a b) = conditions_in a ++ conditions_in b
conditions_in (N.Star a n) = conditions_in a
conditions_in (N.Enter a l) = conditions_in a
conditions_in (N.Finish a l) = conditions_in a
conditions_in (N.All a l) = conditions_in a
conditions_in (N.Leave a l) = conditions_in a
conditions_in (N.Mark a class kind s x) = conditions_in a
conditions_in (N.When a c) = c ∷ conditions_in a

abbrev pub pattern_sets : List Pattern → List (List Range)
pattern_sets [] = []
pattern_sets (p ∷ ps) = sets_in p.tree ++ pattern_sets ps

abbrev pub pattern_conditions : List Pattern → List ℕ
pattern_conditions [] = []
pattern_conditions (p ∷ ps) = conditions_in p.tree ++ pattern_conditions ps

-- a cell for each key class and each set of truths of the conditions
abbrev pub width_of : Alphabet → List (List Range) → List ℕ → ℕ
width_of alphabet sets conditions = class_count alphabet sets * 2 ^ length (set_of nat_cmp conditions)

abbrev pub site_width : Alphabet → Site → ℕ
site_width alphabet (AtNode t k) = width_of alphabet (sets_in t) (conditions_in t)
site_width alphabet (AtScanner ps k) = width_of alphabet (pattern_sets ps) (pattern_conditions ps)

-- ---- causes

-- 0 where this pattern is the one, else one more than among the later ones
abbrev pub or_later : Bool → Option ℕ → Option ℕ
or_later true later = Some 0
or_later false later = option_map (λ i. i + 1) later

-- the number, from 0, of the first pattern that matches the empty word
abbrev pub first_empty : (ps : List Pattern) → PatternMarks ps → Option ℕ
first_empty [] k = None
first_empty (p ∷ ps) k = or_later ((auto p.tree k.0).final (auto p.tree k.0).start) (first_empty ps k.1)

-- L6: too many configurations
abbrev pub HasTooMany : Site → Type 0
HasTooMany x = HasMore (site_auto x) most_configurations

-- L8: too many cells
abbrev pub HasTooManyCells : Alphabet → Site → Type 0
HasTooManyCells alphabet x = HasMoreCells (site_auto x) (site_width alphabet x) most_cells

-- F15: a cycle of priorities
abbrev pub HasCycle : Site → Type 0
HasCycle x = JamsSomewhere (site_auto x) (site_jams x)

-- F12: a pattern that matches the empty word
abbrev pub empty_at : Site → Option ℕ
empty_at (AtNode t k) = None
empty_at (AtScanner ps k) = first_empty ps k

-- why a node is refused, by the numbers that are printed; of F12 the number of the pattern, from 0
pub data Cause : Type 0 where
  L6 L8 F15 : Cause
  F12 : ℕ → Cause

-- at one node the causes are tested in this order, and the first one counts
abbrev pub IsRefusedFor : Alphabet → Site → Cause → Type 0
IsRefusedFor alphabet x L6 = HasTooMany x
IsRefusedFor alphabet x L8 = ¬ HasTooMany x × HasTooManyCells alphabet x
IsRefusedFor alphabet x F15 = ¬ HasTooMany x × ¬ HasTooManyCells alphabet x × HasCycle x
IsRefusedFor alphabet x (F12 i) = ¬ HasTooMany x × ¬ HasTooManyCells alphabet x × ¬ HasCycle x × (empty_at x ≡ Some i)

abbrev pub IsAccepted : Alphabet → Site → Type 0
IsAccepted alphabet x = (cause : Cause) → ¬ IsRefusedFor alphabet x cause

-- the i-th of the sites, from 0, is the first that is refused, and the tests below all up to it are honest
abbrev pub IsFirstRefused : Alphabet → List Site → ℕ → Cause → Type 0
IsFirstRefused alphabet [] i cause = ⊥
IsFirstRefused alphabet (x ∷ xs) zero cause = IsHonestSite x × IsRefusedFor alphabet x cause
IsFirstRefused alphabet (x ∷ xs) (suc i) cause = IsHonestSite x × IsAccepted alphabet x × IsFirstRefused alphabet xs i cause

-- ---- a machine's entries

-- The i-th node of the entries, from 0, with their nodes in post-order and one entry after the other, is the first that
-- is refused.
abbrev pub IsRefusal : Alphabet → List Root → ℕ → Cause → Type 0
IsRefusal alphabet xs i cause = (k : AllRootMarks xs) × IsFirstRefused alphabet (all_sites xs k) i cause

-- there are honest tests, and with them no node is refused
abbrev pub AreBuildable : Alphabet → List Root → Type 0
AreBuildable alphabet xs = (k : AllRootMarks xs) × AreRootsHonest xs k × ((x : Site) → In x (all_sites xs k) → IsAccepted alphabet x)
