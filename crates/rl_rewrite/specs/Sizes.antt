-- Nodes and depth of a tree before it is made.
use Rattle.std.specs.Prelude.{ℕ, zero, suc, ◌+◌, ◌-◌, ◌*◌, max, cond, List, [], ◌∷◌, length, Option, Some, None}
use Rattle.rl_rewrite.specs.Plain as p
use Rattle.rl_rewrite.specs.Plain.{Plain, PlainPattern, PlainValue}
use Rattle.rl_rewrite.specs.Walk.{has_copies}

-- of so many copies of a tree, and then so many of another, in a row
abbrev pub row_nodes : ℕ → ℕ → ℕ → ℕ → ℕ
row_nodes few k more j = few * (k + 1) + more * (j + 1) - 1

abbrev pub count_nodes : ℕ → Option ℕ → ℕ → ℕ
count_nodes least (Some most) k = row_nodes least k (most - least) (k + 2)
count_nodes least None k = row_nodes least k 1 (k + 1)

abbrev pub nodes : Plain → ℕ
nodes (p.Set ranges at) = 1
nodes (p.Null at) = 1
nodes (p.Nothing at) = 1
nodes (p.Pair pairing a b at) = nodes a + nodes b + 1
nodes (p.Guarded g a b at) = nodes a + nodes b + 3
nodes (p.Longest a at) = nodes a + 3
nodes (p.Count a least most at) = cond (has_copies least most) (count_nodes least most (nodes a)) 1
nodes (p.Series a ps at) = nodes a + length ps

-- a row from the left: the first of its items lies deepest
abbrev pub row_depth : ℕ → ℕ → ℕ → ℕ → ℕ
row_depth zero d zero e = 1
row_depth zero d (suc more) e = e + more
row_depth (suc few) d zero e = d + few
row_depth (suc few) d (suc more) e = max (d + few) e + (more + 1)

abbrev pub count_depth : ℕ → Option ℕ → ℕ → ℕ
count_depth least (Some most) d = row_depth least d (most - least) (max d 1 + 1)
count_depth least None d = row_depth least d 1 (d + 1)

abbrev pub depth : Plain → ℕ
depth (p.Set ranges at) = 1
depth (p.Null at) = 1
depth (p.Nothing at) = 1
depth (p.Pair pairing a b at) = max (depth a) (depth b) + 1
depth (p.Guarded g a b at) = max (depth a) (depth b) + 2
depth (p.Longest a at) = depth a + 3
depth (p.Count a least most at) = cond (has_copies least most) (count_depth least most (depth a)) 1
depth (p.Series a ps at) = depth a + length ps

-- ---- entries

-- of all patterns
abbrev pub pattern_nodes : List PlainPattern → ℕ
pattern_nodes [] = 0
pattern_nodes (q ∷ qs) = nodes q.plain + pattern_nodes qs

-- of the deepest pattern
abbrev pub pattern_depth : List PlainPattern → ℕ
pattern_depth [] = 0
pattern_depth (q ∷ qs) = max (depth q.plain) (pattern_depth qs)

-- a scanner is one node beside those of its patterns
abbrev pub value_nodes : PlainValue → ℕ
value_nodes (p.Expression e) = nodes e
value_nodes (p.Scanner qs at) = pattern_nodes qs + 1

abbrev pub value_depth : PlainValue → ℕ
value_depth (p.Expression e) = depth e
value_depth (p.Scanner qs at) = pattern_depth qs
