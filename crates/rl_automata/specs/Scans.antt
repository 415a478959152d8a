-- Scanners: all patterns side by side, whose candidates are cut as one set.
--     scan_auto ps k        the automaton of the patterns ps, whose trees have the tests k
--     token_list ps k c     the actions of a match, or none where no pattern is final in c
use Rattle.std.specs.Prelude.{ℕ, ℤ, Bool, false, cond, not, ◌&&◌, ◌||◌, List, [], ◌∷◌, ◌++◌, Option, Some, None, bit_or, ◌≡◌, ◌↔◌, IsTrue}
use Rattle.std.specs.declared.cmp.Ordering.{Ordering}
use Rattle.std.specs.declared.cmp.Ordering.TheVariants.{Equal}
use Rattle.std.specs.Option.{option_cmp}
use Rattle.rl_labels.specs.declared.stamped.Stamp.{Stamp}
use Rattle.rl_labels.specs.declared.carry.Carry.{Carry}
use Rattle.rl_sets.specs.Order.{pair_order}
use Rattle.rl_labels.specs.Labels.{stamps_of, once, with_last}
use Rattle.rl_labels.specs.Carries.{no_carry}
use Rattle.rl_types.specs.declared.numbers.Letter.{Letter}
use Rattle.rl_automata.specs.declared.tree.Kind.{Kind}
use Rattle.rl_automata.specs.Auto.{Auto, on_part, first, carries, targets, kept, step_to, part_moves, is_none_left, quiet}
use Rattle.rl_automata.specs.Follows.{Reach}
use Rattle.rl_automata.specs.Nodes.{Node, Conf}
use Rattle.rl_automata.specs.Marks.{Marks, auto, AreHonest}

-- a pattern: its expression, and the action of its token, if it has one
pub record Pattern : Type 0 where
  pub tree : Node
  pub token : Option ℕ

-- a configuration: one of each pattern, absent once the pattern has no way on
abbrev pub Confs : List Pattern → Type 0
Confs [] = Unit {0}
Confs (p ∷ ps) = Option (Conf p.tree) × Confs ps

abbrev pub PatternMarks : List Pattern → Type 0
PatternMarks [] = Unit {0}
PatternMarks (p ∷ ps) = Marks p.tree × PatternMarks ps

abbrev pub ArePatternsHonest : (ps : List Pattern) → PatternMarks ps → Type 0
ArePatternsHonest [] k = Unit {0}
ArePatternsHonest (p ∷ ps) k = AreHonest p.tree k.0 × ArePatternsHonest ps k.1

-- ---- steps

-- what the candidates of all patterns carry
abbrev pub all_carried : (ps : List Pattern) → PatternMarks ps → Confs ps → Letter → List Carry
all_carried [] k c l = []
all_carried (p ∷ ps) k c l = carries (part_moves (auto p.tree k.0) l c.0) ++ all_carried ps k.1 c.1 l

-- where those candidates lead that none of `all` beats
abbrev pub kept_confs : (ps : List Pattern) → PatternMarks ps → List Carry → Confs ps → Letter → Confs ps
kept_confs [] k all c l = tt
kept_confs (p ∷ ps) k all c l = (first (targets (kept all (part_moves (auto p.tree k.0) l c.0))), kept_confs ps k.1 all c.1 l)

-- and what they carry
abbrev pub kept_carries : (ps : List Pattern) → PatternMarks ps → List Carry → Confs ps → Letter → List Carry
kept_carries [] k all c l = []
kept_carries (p ∷ ps) k all c l = carries (kept all (part_moves (auto p.tree k.0) l c.0)) ++ kept_carries ps k.1 all c.1 l

abbrev pub confs_order : (ps : List Pattern) → PatternMarks ps → Confs ps → Confs ps → Ordering
confs_order [] k = λ c d. Equal
confs_order (p ∷ ps) k = pair_order (option_cmp (auto p.tree k.0).order) (confs_order ps k.1)

abbrev pub starts : (ps : List Pattern) → PatternMarks ps → Confs ps
starts [] k = tt
starts (p ∷ ps) k = (Some (auto p.tree k.0).start, starts ps k.1)

-- ---- matches

-- a match: some pattern is final
abbrev pub ends_token : (ps : List Pattern) → PatternMarks ps → Confs ps → Bool
ends_token [] k c = false
ends_token (p ∷ ps) k c = on_part false (auto p.tree k.0).final c.0 || ends_token ps k.1 c.1

-- the out of the first pattern that is final
abbrev pub token_out : (ps : List Pattern) → PatternMarks ps → Confs ps → Carry
token_out [] k c = no_carry
token_out (p ∷ ps) k c = cond (on_part false (auto p.tree k.0).final c.0) (on_part no_carry (auto p.tree k.0).out c.0) (token_out ps k.1 c.1)

-- the token's action comes last, unless it is there already
abbrev pub with_token : Option ℕ → List ℕ → List ℕ
with_token None actions = actions
with_token (Some a) actions = with_last a actions

-- the token list of a match: the leaving actions of the first pattern that is final, then its token's action
abbrev pub token_list : (ps : List Pattern) → PatternMarks ps → Confs ps → Option (List ℕ)
token_list [] k c = None
token_list (p ∷ ps) k c =
    cond (on_part false (auto p.tree k.0).final c.0) (Some (with_token p.token (once (on_part no_carry (auto p.tree k.0).out c.0).actions))) (token_list ps k.1 c.1)

-- ---- what all patterns give together

abbrev pub confs_marks : (ps : List Pattern) → PatternMarks ps → Confs ps → Kind → List Stamp
confs_marks [] k c j = []
confs_marks (p ∷ ps) k c j = on_part [] (λ s. (auto p.tree k.0).marks s j) c.0 ++ confs_marks ps k.1 c.1 j

abbrev pub confs_asked : (ps : List Pattern) → PatternMarks ps → Confs ps → ℤ → ℕ
confs_asked [] k c j = 0
confs_asked (p ∷ ps) k c j = bit_or (on_part 0 (λ s. (auto p.tree k.0).asked s j) c.0) (confs_asked ps k.1 c.1 j)

-- the scanner before it is made quiet, as a union of all patterns
abbrev pub scan_raw : (ps : List Pattern) → PatternMarks ps → Auto (Confs ps)
scan_raw ps k = record {
  order = confs_order ps k;
  start = starts ps k;
  step = λ c l. let all = all_carried ps k c l in step_to (kept_confs ps k all c l) (kept_carries ps k all c l);
  final = ends_token ps k;
  out = token_out ps k;
  marks = λ c j. stamps_of (confs_marks ps k c j);
  asked = confs_asked ps k;
}

abbrev pub scan_auto : (ps : List Pattern) → PatternMarks ps → Auto (Confs ps)
scan_auto ps k = quiet (scan_raw ps k)

-- whether the candidates of all patterns are a cycle of priorities
abbrev pub scan_jams : (ps : List Pattern) → PatternMarks ps → Confs ps → Letter → Bool
scan_jams ps k c l = let all = all_carried ps k c l in not (is_none_left all) && is_none_left (kept_carries ps k all c l)

-- `closed` tells of each reachable configuration whether no letter steps from it
abbrev pub TellsClosed : {S : Type 0} → Auto S → (S → Bool) → Type 0
TellsClosed A closed = (s : _) → Reach A s → IsTrue (closed s) ↔ ((l : Letter) → A.step s l ≡ None)

-- ---- entries

-- the root of an entry: one expression, or the patterns of a scanner
pub data Root : Type 0 where
  Plain : Node → Root
  Scanner : List Pattern → Root
