-- What is asked by an automaton that asks nothing where it can't step.
use Rattle.std.specs.Prelude.{◌≡◌, ℕ, ◌<◌, ℤ, pos, Bool, true, false, None, IsTrue}
use Rattle.rl_types.specs.declared.numbers.Letter.{Letter}
use Rattle.rl_sets.specs.Sets.{In}
use Rattle.rl_automata.specs.Auto.{Auto, quiet, pruned, set_auto, point_auto, union_auto, and_auto, minus_auto, cat_auto, star_auto, enter_auto, finish_auto, every_auto, leave_auto, mark_auto, when_auto}
use Rattle.rl_automata.specs.Nodes as N
use Rattle.rl_automata.specs.Nodes.{Node, Conf, carry_of}
use Rattle.rl_automata.specs.Follows.{Reach}
use Rattle.rl_automata.specs.Marks.{Marks, auto}
use Rattle.rl_automata.specs.Runs.{unpruned}
use Rattle.rl_automata.specs.Rows.{optional, ring}
use Rattle.rl_automata.specs.Sites.{Site, sites}
use Rattle.rl_automata.specs.Refused.{HasCycle}

-- no truths of 8 conditions give a step from c at this key
abbrev pub StepsNowhere : {S : Type 0} → Auto S → S → ℤ → Type 0
StepsNowhere A c key = (truths : ℕ) → truths < 256 → A.step c (record { key = key; truths = truths }) ≡ None

-- where no truths give a step, nothing is asked
abbrev pub AsksWhereItSteps : {S : Type 0} → Auto S → Type 0
AsksWhereItSteps {S} A = (c : S) (key : ℤ) → StepsNowhere A c key → A.asked c key ≡ 0

-- with some truths the candidates at c and this key are a cycle of priorities, as `jam` tells
abbrev pub JamsAt : {S : Type 0} → (S → Letter → Bool) → S → ℤ → Type 0
JamsAt jam c key = (truths : ℕ) × (truths < 256) × IsTrue (jam c (record { key = key; truths = truths }))

-- Made quiet, A asks the same wherever no candidates are a cycle of priorities. `A.asked` is what the parts ask: for a
-- union both parts, for a concatenation and a repetition also the next start, where a part that is final reaches it.
abbrev pub AsksTheSameQuiet : {S : Type 0} → Auto S → (S → Letter → Bool) → Type 0
AsksTheSameQuiet {S} A jam = (c : S) (key : ℤ) → ¬ JamsAt jam c key → (quiet A).asked c key ≡ A.asked c key

-- ---- the same for a whole expression

-- the automaton of the expression by the operators alone: only an intersection, a difference and a condition ask
-- nothing where they can't step
abbrev pub plain_auto : (t : Node) → Marks t → Auto (Conf t)
plain_auto (N.Set ranges) k = set_auto ranges
plain_auto N.Null k = point_auto true
plain_auto N.Nothing k = point_auto false
plain_auto (N.Union a b) k = union_auto (plain_auto a k.0) (plain_auto b k.1)
plain_auto (N.And a b) k = pruned k.2 (and_auto (plain_auto a k.0) (plain_auto b k.1))
plain_auto (N.Minus a b) k = pruned k.2 (minus_auto (plain_auto a k.0) (plain_auto b k.1))
plain_auto (N.Cat a b) k = cat_auto (plain_auto a k.0) (plain_auto b k.1)
plain_auto (N.Star a n) k = star_auto (plain_auto a k) n
plain_auto (N.Enter a l) k = enter_auto (plain_auto a k) (carry_of l)
plain_auto (N.Finish a l) k = finish_auto (plain_auto a k) (carry_of l)
plain_auto (N.All a l) k = every_auto (plain_auto a k) (carry_of l)
plain_auto (N.Leave a l) k = leave_auto (plain_auto a k) (carry_of l)
plain_auto (N.Mark a class kind s x) k = mark_auto (plain_auto a k) class kind (record { major = s; minor = 0; action = record { 0 = x } })
plain_auto (N.When a c) k = when_auto c (plain_auto a k)

-- at no node of the expression a cycle of priorities is reached
abbrev pub HasNoCycles : (t : Node) → Marks t → Type 0
HasNoCycles t k = (x : Site) → In x (sites t k) → ¬ HasCycle x

-- ---- a cycle that hides what is asked

-- 'k'{0,2} followed by three that beat each other, each step of which wants condition 1
abbrev pub guarded_ring : Node
guarded_ring = N.Cat (N.Cat optional optional) (N.When ring 1)

-- After kk the three steps on a, at which the condition holds, are a cycle: so no truths give a step, and nothing is
-- asked, though each part asks the condition.
abbrev pub CycleHidesCondition : Type 0
CycleHidesCondition =
    let k = unpruned guarded_ring in
    (c : Conf guarded_ring) × Reach (auto guarded_ring k) c × ((auto guarded_ring k).asked c (pos 97) ≡ 0) × ((plain_auto guarded_ring k).asked c (pos 97) ≡ 1)
