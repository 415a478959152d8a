-- Nodes and depth as the code tells them: neither is told apart above a million.
use Rattle.std.specs.Prelude.{◌≡◌, ℕ, ◌+◌, ◌≤◌, min, max, cond, List, [], ◌∷◌, map, Option, Some, None}
use Rattle.rl_types.specs.declared.alphabet.Alphabet.{Alphabet}
use Rattle.rl_draft.specs.declared.expression.Join.{Join}
use Rattle.rl_draft.specs.declared.expression.Join.TheVariants as join
use Rattle.rl_draft.specs.declared.expression.Repetition.{Repetition}
use Rattle.rl_draft.specs.declared.expression.Repetition.TheVariants as repetition
use Rattle.rl_draft.specs.declared.expression.Negation.{Negation}
use Rattle.rl_draft.specs.declared.expression.Negation.TheVariants as negation
use Rattle.rl_draft.specs.declared.expression.NegationSign.{NegationSign}
use Rattle.rl_draft.specs.declared.expression.Item.{Item}
use Rattle.rl_draft.specs.declared.draft.Definition.{Definition}
use Rattle.rl_rewrite.specs.declared.sizes.Size.{Size}
use Rattle.rl_rewrite.specs.Plain.{Plain, Operand, PlainPattern, PlainValue, plains}
use Rattle.rl_rewrite.specs.Walk.{has_copies}
use Rattle.rl_rewrite.specs.Sizes.{nodes, depth, count_nodes, count_depth, value_nodes, value_depth}

abbrev pub measured : Plain → Size
measured p = record { nodes = nodes p; depth = depth p }

abbrev pub cut : Size → Size
cut s = record { nodes = min 1000000 s.nodes; depth = min 1000000 s.depth }

abbrev pub IsCut : Size → Type 0
IsCut s = (1 ≤ s.nodes) × (s.nodes ≤ 1000000) × (1 ≤ s.depth) × (s.depth ≤ 1000000)

-- two trees side by side, with this many nodes and levels above them
abbrev pub both : Size → Size → ℕ → ℕ → Size
both a b more levels = record { nodes = a.nodes + b.nodes + more; depth = max a.depth b.depth + levels }

abbrev pub strong_size : Size → Size → Size
strong_size a b = record { nodes = a.nodes + b.nodes + 7; depth = max a.depth (max 2 b.depth + 2) + 1 }

abbrev pub joined_size : Join → Size → Size → Size
joined_size join.Union a b = both a b 1 1
joined_size join.Intersection a b = both a b 1 1
joined_size join.Difference a b = both a b 1 1
joined_size join.StrongDifference a b = strong_size a b
joined_size join.Concatenation a b = both a b 1 1
joined_size join.LeftGuarded a b = both a b 3 2
joined_size join.EntryGuarded a b = both a b 3 2
joined_size join.FinishGuarded a b = both a b 3 2

abbrev pub chained_size : Size → List Operand → Size
chained_size s [] = s
chained_size s (o ∷ os) = chained_size (cut (joined_size o.join s (cut (measured o.plain)))) os

abbrev pub one : Size
one = record { nodes = 1; depth = 1 }

abbrev pub count_size : ℕ → Option ℕ → Size → Size
count_size least most s = cond (has_copies least most) (record { nodes = count_nodes least most s.nodes; depth = count_depth least most s.depth }) one

abbrev pub raised : Size → ℕ → Size
raised s n = record { nodes = s.nodes + n; depth = s.depth + n }

abbrev pub repeated_size : Repetition → Size → Size
repeated_size repetition.Star s = count_size 0 None s
repeated_size repetition.LongestStar s = raised s 3
repeated_size repetition.Optional s = count_size 0 (Some 1) s
repeated_size repetition.Plus s = count_size 1 None s
repeated_size (repetition.Count bounds) s = count_size bounds.least bounds.most s

abbrev pub all_repeated_size : Size → List Repetition → Size
all_repeated_size s [] = s
all_repeated_size s (r ∷ rs) = all_repeated_size (cut (repeated_size r s)) rs

abbrev pub whole_size : Negation → Size
whole_size negation.Language = record { nodes = 2; depth = 2 }
whole_size negation.Character = one

-- the outermost first
abbrev pub all_negated_size : Size → List NegationSign → Size
all_negated_size s [] = s
all_negated_size s (n ∷ ns) = cut (both (whole_size n.negation) (all_negated_size s ns) 1 1)

abbrev pub item_size : Item → Size
item_size i = cond i.starred (record { nodes = 2; depth = 2 }) one

abbrev pub items_size : Size → List Item → Size
items_size s [] = s
items_size s (i ∷ is) = items_size (cut (both s (item_size i) 1 1)) is

abbrev pub cut_sizes : List Plain → List Size
cut_sizes ps = map (λ p. cut (measured p)) ps

-- these are the sizes of what the definitions stand for
abbrev pub AreSizes : Alphabet → List Definition → List Size → Type 0
AreSizes alphabet ds sizes = sizes ≡ cut_sizes (plains alphabet ds)

-- ---- entries

abbrev pub value_measured : PlainValue → Size
value_measured v = record { nodes = value_nodes v; depth = value_depth v }

-- a pattern beside those before it
abbrev pub beside : Size → Size → Size
beside s q = record { nodes = s.nodes + q.nodes; depth = max s.depth q.depth }

abbrev pub all_beside : Size → List PlainPattern → Size
all_beside s [] = s
all_beside s (q ∷ qs) = all_beside (cut (beside s (cut (measured q.plain)))) qs
