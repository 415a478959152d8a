-- A union without priorities reaches no fewer configurations than an operand, and no cycle of priorities.
use Rattle.std.proofs.Common.{◌≡◌, ℕ, ◌<◌, false, List, [], ◌∷◌, map, length, refl, sym, ◌∙◌, ap, subst, inl, inr, Option, Some}
use Rattle.std.proofs.lemmas.List.{length-map}
use Rattle.rl_types.specs.declared.numbers.Letter.{Letter}
use Rattle.rl_sets.specs.Sets.{In}
use Rattle.rl_sets.proofs.SetLaws.{In-map, In-map_from}
use Rattle.rl_automata.specs.Auto.{Auto, union_auto, both_jams}
use Rattle.rl_automata.specs.Follows.{Reach, begun, went}
use Rattle.rl_automata.specs.Nodes as N
use Rattle.rl_automata.specs.Nodes.{Node, Conf}
use Rattle.rl_automata.specs.Marks.{Marks, auto, AreHonest, HasMarks}
use Rattle.rl_automata.specs.Refused.{AreDifferent, HasMore}
use Rattle.rl_automata.proofs.Congruence.{AllIn, reach_all, some_in}
use Rattle.rl_automata.proofs.CountLaws.{quiet_more}
use Rattle.rl_unions.specs.Unions.{HasNoPriors, HaveNoPriors, union_of}
use Rattle.rl_unions.proofs.Calm.{IsCalm, tree_calm}
use Rattle.rl_unions.proofs.Joins.{goes_along, calm_jams}

module _ {S T : Type 0} (A : Auto S) (B : Auto T) (F : IsCalm A) (G : IsCalm B) where
  -- what the first operand reaches is the first part of what the union reaches
  along : (s : S) → Reach A s → (y : Option T) × Reach (union_auto A B) (Some s, y)
  along = reach_all (λ s. (y : Option T) × Reach (union_auto A B) (Some s, y)) (Some B.start, begun)
      (λ s r (y, q) l m e. let p = goes_along A B F G s y l m e in (p.0, went q l _ p.2))

  listed_along : (cs : List S) → AllIn (Reach A) cs → (ds : List (Option S × Option T)) × AllIn (Reach (union_auto A B)) ds × (map (λ d. d.0) ds ≡ map Some cs)
  listed_along [] r = ([], (λ x h. absurd h), refl)
  listed_along (c ∷ cs) r =
      let p = along c (r c (inl refl)) in
      let q = listed_along cs (λ x h. r x (inr h)) in
      ((Some c, p.0) ∷ q.0, (λ x h. elim h [ inl e ↦ subst (Reach (union_auto A B)) e p.1 | inr i ↦ q.1 x i ]), λ i. Some c ∷ q.2 i)

  different_back : {X Y : Type 0} (f : X → Y) (xs : List X) → AreDifferent (map f xs) → AreDifferent xs
  different_back f [] d = tt
  different_back f (x ∷ xs) d = ((λ i. d.0 (In-map f x xs i)), different_back f xs d.1)

  different_some : (cs : List S) → AreDifferent cs → AreDifferent (map Some cs)
  different_some [] d = tt
  different_some (c ∷ cs) d = (
    (λ i. let p = In-map_from Some (Some c) cs i in d.0 (subst (λ w. In w cs) (some_in p.0 c p.2) p.1)),
    different_some cs d.1,
  )

  pub union_more : (n : ℕ) → HasMore A n → HasMore (union_auto A B) n
  union_more n (cs, (d, r), lt) =
      let q = listed_along cs r in
      let same : length q.0 ≡ length cs = sym (length-map q.0 (λ d. d.0)) ∙ ap length q.2 ∙ length-map cs Some in
      (q.0, (different_back (λ d. d.0) q.0 (subst AreDifferent (sym q.2) (different_some cs d)), q.1), subst (λ w. n < w) (sym same) lt)

-- ---- expressions

pub grows : (a b : Node) (k : Marks a) (h : Marks b) (n : ℕ) → HasNoPriors a → HasNoPriors b → HasMore (auto a k) n → HasMore (auto (N.Union a b) (k, h)) n
grows a b k h n f g m = (quiet_more (union_auto (auto a k) (auto b h)) n).1 (union_more (auto a k) (auto b h) (tree_calm a k f) (tree_calm b h g) n m)

pub free_jams : (a b : Node) (k : Marks a) (h : Marks b) → HasNoPriors a → HasNoPriors b → (c : Option (Conf a) × Option (Conf b)) (l : Letter) → both_jams (auto a k) (auto b h) c l ≡ false
free_jams a b k h f g = calm_jams (auto a k) (auto b h) (tree_calm a k f) (tree_calm b h g)

-- the expressions have honest tests
abbrev pub HaveMarks : List Node → Type 0
HaveMarks [] = Unit {0}
HaveMarks (t ∷ ts) = HasMarks t × HaveMarks ts

pub all_grow : (t : Node) (us : List Node) (k : Marks t) (n : ℕ) → HasNoPriors t → HaveNoPriors us → AreHonest t k → HaveMarks us → HasMore (auto t k) n → (h : Marks (union_of t us)) × AreHonest (union_of t us) h × HasMore (auto (union_of t us) h) n
all_grow t [] k n f g o p m = (k, o, m)
all_grow t (u ∷ us) k n f g o p m = all_grow (N.Union t u) us (k, p.0.0) n (f, g.0) g.1 (o, p.0.1) p.1 (grows t u k p.0.0 n f g.0 m)
