-- The entries of a machine, and the first limit that one of them passes. The limits are this profile's.
use Rattle.std.specs.Prelude.{◌≡◌, ℕ, ◌≤◌, Bool, true, false, cond, nat_lt, List, [], ◌∷◌, ◌++◌, length, map, Option, Some, None, All}
use Rattle.std.specs.List.{flat_map}
use Rattle.rl_types.specs.Limits.{most_conditions, most_depth, most_nodes}
use Rattle.rl_types.specs.declared.alphabet.Alphabet.{Alphabet}
use Rattle.rl_types.specs.declared.numbers.Place.{Place}
use Rattle.rl_types.specs.declared.numbers.ActionId.{ActionId}
use Rattle.rl_types.specs.declared.faults.Limit.{Limit}
use Rattle.rl_types.specs.declared.faults.LimitKind.{LimitKind}
use Rattle.rl_types.specs.declared.faults.LimitKind.TheVariants.{L4, L5, L7}
use Rattle.rl_automata.specs.Scans.{Root}
use Rattle.rl_model.specs.declared.spec.Entry as rust
use Rattle.rl_model.specs.Specification.{root_of}
use Rattle.rl_model.specs.Counts.{root_size, root_depth, trees_of, stamps_in}
use Rattle.rl_model.specs.WellFormed.{IsNumber, pattern_places}
use Rattle.rl_draft.specs.declared.draft.Definition.{Definition}
use Rattle.rl_draft.specs.declared.draft.Draft.{Draft}
use Rattle.rl_draft.specs.declared.draft.Sign.{Sign}
use Rattle.rl_draft.specs.declared.draft.Sign.TheVariants as sign
use Rattle.rl_rewrite.specs.declared.entries.Rewritten.{Rewritten}
use Rattle.rl_rewrite.specs.declared.entries.RewriteFault.{RewriteFault}
use Rattle.rl_rewrite.specs.declared.entries.RewriteFault.TheVariants as fault
use Rattle.rl_rewrite.specs.Plain.{Plain, PlainPattern, PlainValue, Expression, Scanner, value_of, value_plain}
use Rattle.rl_rewrite.specs.Walk.{walk_value, begun}

-- an entry: its name, its expression or patterns, the place of each node, pattern after pattern in post-order, and the place of
-- each pattern
pub record Made : Type 0 where
  pub name : List ℕ
  pub root : Root
  pub places : List Place
  pub pattern_places : List Place

abbrev pub made_of : rust.Entry → Made
made_of e = record { name = e.name; root = root_of e.root; places = e.places; pattern_places = pattern_places e.root }

-- a definition, and what it gives its name to
pub record Meaning : Type 0 where
  pub name : List ℕ
  pub place : Place
  pub sign : Sign
  pub value : PlainValue

abbrev pub meaning : Definition → PlainValue → Meaning
meaning d v = record { name = d.name; place = d.place; sign = d.sign; value = v }

-- where it is known what earlier names stand for
abbrev pub meanings_behind : Alphabet → List Plain → List Definition → List Meaning
meanings_behind alphabet known [] = []
meanings_behind alphabet known (d ∷ ds) =
    meaning d (value_of alphabet known d.value) ∷ meanings_behind alphabet (known ++ value_plain alphabet known d.value ∷ []) ds

-- what these definitions of a machine with an alphabet give their names to
abbrev pub meanings_in : Alphabet → List Definition → List Meaning
meanings_in alphabet definitions = meanings_behind alphabet [] definitions

abbrev pub meanings : Draft → List Meaning
meanings draft = meanings_in draft.alphabet draft.definitions

abbrev pub is_entry : Sign → Bool
is_entry sign.Name = false
is_entry sign.Instantiation = true

-- ---- an entry behind those that have these conditions

abbrev pub places_of_patterns : PlainValue → List Place
places_of_patterns (Expression p) = []
places_of_patterns (Scanner ps at) = map (λ (p : PlainPattern). p.place) ps

abbrev pub entry : List ActionId → Meaning → Made
entry conditions m =
    let x = walk_value m.value (begun conditions) in
    record { name = m.name; root = x.0.root; places = x.0.places; pattern_places = places_of_patterns m.value }

-- the conditions of both
abbrev pub conditions_behind : List ActionId → Meaning → List ActionId
conditions_behind conditions m = (walk_value m.value (begun conditions)).1.conditions

abbrev pub size_limit : ℕ → ℕ → Option LimitKind
size_limit nodes depth = cond (nat_lt most_nodes nodes) (Some L4) (cond (nat_lt most_depth depth) (Some L5) None)

abbrev pub condition_limit : List ActionId → Option LimitKind
condition_limit conditions = cond (nat_lt most_conditions (length conditions)) (Some L7) None

abbrev pub earlier_limit : Option LimitKind → Option LimitKind → Option LimitKind
earlier_limit None later = later
earlier_limit (Some kind) later = Some kind

-- the first limit that it passes
abbrev pub limit_of : List ActionId → Meaning → Option LimitKind
limit_of conditions m =
    let x = walk_value m.value (begun conditions) in
    earlier_limit (size_limit (root_size x.0.root) (root_depth x.0.root)) (condition_limit x.1.conditions)

-- ---- a definition makes one where it is an instantiation

abbrev pub made_by : List ActionId → Meaning → List Made
made_by conditions m = cond (is_entry m.sign) (entry conditions m ∷ []) []

abbrev pub conditions_by : List ActionId → Meaning → List ActionId
conditions_by conditions m = cond (is_entry m.sign) (conditions_behind conditions m) conditions

abbrev pub limit_by : List ActionId → Meaning → Option LimitKind
limit_by conditions m = cond (is_entry m.sign) (limit_of conditions m) None

-- ---- all definitions, behind entries that have these conditions

abbrev pub entries : List ActionId → List Meaning → List Made
entries conditions [] = []
entries conditions (m ∷ ms) = made_by conditions m ++ entries (conditions_by conditions m) ms

abbrev pub all_conditions : List ActionId → List Meaning → List ActionId
all_conditions conditions [] = conditions
all_conditions conditions (m ∷ ms) = all_conditions (conditions_by conditions m) ms

abbrev pub limit_at : Option LimitKind → Place → Option Limit → Option Limit
limit_at None place later = later
limit_at (Some kind) place later = Some (record { kind = kind; place = place })

-- the first limit in text order that an entry passes, at the entry's name
abbrev pub first_limit : List ActionId → List Meaning → Option Limit
first_limit conditions [] = None
first_limit conditions (m ∷ ms) = limit_at (limit_by conditions m) m.place (first_limit (conditions_by conditions m) ms)

-- ---- what is promised

-- it has few nodes, it is not deep, its stamps are numbers from 1, and each node has its place
pub record IsMade (m : Made) : Type 0 where
  pub few_nodes : root_size m.root ≤ most_nodes
  pub not_deep : root_depth m.root ≤ most_depth
  pub stamps : All (IsNumber most_nodes) (flat_map stamps_in (trees_of m.root))
  pub places : length m.places ≡ root_size m.root

-- it is want of memory, or this limit
abbrev pub IsRefusal : Option Limit → RewriteFault → Type 0
IsRefusal limit (fault.Limit l) = limit ≡ Some l
IsRefusal limit fault.Memory = Unit {0}

abbrev pub Refuses : Draft → RewriteFault → Type 0
Refuses draft e = IsRefusal (first_limit [] (meanings draft)) e

-- ---- the code's steps

-- behind some of all definitions, with the rest to come
pub record AreSoFar (rest all : List Meaning) (r : Rewritten) : Type 0 where
  pub made : map made_of r.entries ++ entries r.conditions rest ≡ entries [] all
  pub conditions : all_conditions r.conditions rest ≡ all_conditions [] all
  pub limit : first_limit r.conditions rest ≡ first_limit [] all
  pub few : length r.conditions ≤ 8

-- r2 is r1 with what a definition makes
pub record IsNext (m : Meaning) (r1 r2 : Rewritten) : Type 0 where
  pub made : map made_of r2.entries ≡ map made_of r1.entries ++ made_by r1.conditions m
  pub conditions : r2.conditions ≡ conditions_by r1.conditions m
  pub limit : limit_by r1.conditions m ≡ None
  pub few : length r2.conditions ≤ 8
