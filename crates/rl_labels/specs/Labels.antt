-- Stamped sets of actions and tables of priorities.
use Rattle.std.specs.Prelude.{ℕ, ◌+◌, Bool, true, false, cond, not, ◌&&◌, List, [], ◌∷◌, ◌++◌, map, nat_eq, nat_lt, Option, Some, None}
use Rattle.std.specs.declared.cmp.Ordering.{Ordering}
use Rattle.std.specs.Ordering.{match_ordering, ordering_then, nat_cmp, int_cmp, is_gt}
use Rattle.std.specs.List.{filter, list_any, list_all, find, enumerate_from}
use Rattle.rl_types.specs.declared.numbers.ActionId.{ActionId}
use Rattle.rl_labels.specs.declared.stamped.Stamp.{Stamp}
use Rattle.rl_labels.specs.declared.priors.Prior.{Prior}
use Rattle.rl_sets.specs.Sets.{set_of, Ascends}

-- by major, then minor, then action
abbrev pub stamp_cmp : Stamp → Stamp → Ordering
stamp_cmp x y =
    ordering_then (nat_cmp x.major y.major) (ordering_then (nat_cmp x.minor y.minor) (nat_cmp x.action.0 y.action.0))

-- the members of all, in order and each once
abbrev pub stamps_of : List Stamp → List Stamp
stamps_of xs = set_of stamp_cmp xs

abbrev pub restamp_from : ℕ → ℕ → List Stamp → List Stamp
restamp_from base i [] = []
restamp_from base i (x ∷ xs) =
    record { major = base; minor = i; action = x.action } ∷ restamp_from base (i + 1) xs

-- the i-th member, from 0, gets the stamp (base, i)
abbrev pub restamp : ℕ → List Stamp → List Stamp
restamp base xs = restamp_from base 0 xs

abbrev pub without : ℕ → List ℕ → List ℕ
without a xs = filter (λ b. not (nat_eq b a)) xs

-- the actions in order; of several copies the first stays
abbrev pub once : List Stamp → List ℕ
once [] = []
once (x ∷ xs) = x.action.0 ∷ without x.action.0 (once xs)

-- the numbers of the listed actions
abbrev pub numbers : List ActionId → List ℕ
numbers actions = map (λ a. a.0) actions

-- the number is among the listed
abbrev pub is_listed : ℕ → List ℕ → Bool
is_listed a listed = list_any (λ b. nat_eq b a) listed

-- the listed, with the number at the end unless it is among them
abbrev pub with_last : ℕ → List ℕ → List ℕ
with_last a listed = cond (is_listed a listed) listed (listed ++ a ∷ [])

-- by name, then stamp, then value
abbrev pub prior_cmp : Prior → Prior → Ordering
prior_cmp p q = ordering_then (nat_cmp p.name q.name) (ordering_then (nat_cmp p.stamp q.stamp) (int_cmp p.value q.value))

-- q has p's name, and a greater stamp, or of equal stamps a greater value
abbrev pub outranks : Prior → Prior → Bool
outranks p q = nat_eq q.name p.name && is_gt (prior_cmp q p)

-- under each name the greatest entry, by ascending name
abbrev pub table_of : List Prior → List Prior
table_of ps = filter (λ p. not (list_any (outranks p) ps)) (set_of prior_cmp ps)

abbrev pub entry_at : ℕ → List Prior → Option Prior
entry_at n ps = find (λ q. nat_eq q.name n) ps

-- whether p's value is above the entry's; where there is none, or the values are equal, what the rest says
abbrev pub by_value : Prior → Option Prior → Bool → Bool
by_value p None rest = rest
by_value p (Some q) rest = match_ordering (int_cmp p.value q.value) false rest true

-- at the first common name with different values, t has the higher one
abbrev pub beats : List Prior → List Prior → Bool
beats [] u = false
beats (p ∷ t) u = by_value p (entry_at p.name u) (beats t u)

-- by name alone
abbrev pub name_cmp : Prior → Prior → Ordering
name_cmp p q = nat_cmp p.name q.name

-- the entries ascend by name: so each name has one entry at most
abbrev pub IsTable : List Prior → Type 0
IsTable ps = Ascends name_cmp ps

-- the one with the greater stamp; of equal stamps the first
abbrev pub newer : Prior → Prior → Prior
newer p q = cond (nat_lt p.stamp q.stamp) q p

-- the table with p put over it: in the place of its name, or against the entry that has its name
abbrev pub put_over : Prior → List Prior → List Prior
put_over p [] = p ∷ []
put_over p (q ∷ t) = match_ordering (nat_cmp p.name q.name) (p ∷ q ∷ t) (newer p q ∷ t) (q ∷ put_over p t)

-- the entries of both tables; under a common name the greater stamp leads, and of equal stamps the first table's
abbrev pub lead : List Prior → List Prior → List Prior
lead [] u = u
lead (p ∷ t) u = put_over p (lead t u)

-- of what two tables have under one name, what leads
abbrev pub leading : Option Prior → Option Prior → Option Prior
leading None q = q
leading (Some p) None = Some p
leading (Some p) (Some q) = Some (newer p q)

-- one of the tables beats this one
abbrev pub is_beaten : List (List Prior) → List Prior → Bool
is_beaten tables t = list_any (λ u. beats u t) tables

-- the places, from 0, of the tables that none of them beats
abbrev pub cut : List (List Prior) → List ℕ
cut tables = map (λ at. at.0) (filter (λ at. not (is_beaten tables at.1)) (enumerate_from 0 tables))

-- there are tables, and each is beaten
abbrev pub is_cycle : List (List Prior) → Bool
is_cycle [] = false
is_cycle (t ∷ tables) = list_all (is_beaten (t ∷ tables)) (t ∷ tables)
