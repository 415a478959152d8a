-- Unions of many operands: what the machine of all of them at once says of the expression.
use Rattle.std.proofs.Common.{◌≡◌, ℕ, suc, ◌+◌, ◌*◌, ◌/◌, ◌^◌, ◌<◌, ◌≤◌, true≢false, List, [], ◌∷◌, ◌++◌, length, take, drop, refl, sym, ◌∙◌, ap, subst, arith}
use Rattle.std.specs.Prelude.{Result, Ok, Err, MatchResult, IfSome, Option, Some, None, Vec}
use Rattle.std.specs.declared.alloc.Global.{Global}
use Rattle.std.proofs.lemmas.List.{take-append-drop}
use Rattle.std.proofs.lemmas.Nat.{pow_pos}
use Rattle.std.proofs.Math.Nat.{mul-pos}
use Rattle.rl_types.specs.declared.alphabet.Alphabet.{Alphabet}
use Rattle.rl_types.specs.KeyRange.{Range}
use Rattle.rl_automata.specs.Auto.{union_auto}
use Rattle.rl_automata.specs.Nodes as N
use Rattle.rl_automata.specs.Nodes.{Node}
use Rattle.rl_automata.specs.Marks.{Marks, auto, AreHonest, HasMarks}
use Rattle.rl_automata.specs.Sites.{AtNode, sites}
use Rattle.rl_automata.specs.Refused.{HasMore, IsAccepted, IsFirstRefused, site_width, sets_in, conditions_in}
use Rattle.rl_automata.proofs.Congruence.{follows_on}
use Rattle.rl_automata.proofs.CountLaws.{quiet_more}
use Rattle.rl_classes.specs.Sets.{range_count}
use Rattle.rl_explore.specs.declared.fault.BuildFault.TheVariants.{Memory}
use Rattle.rl_fsm.specs.Graphs.{Graph}
use Rattle.rl_fsm.specs.Builds.{StandsFor}
use Rattle.rl_model.specs.Counts.{size_of}
use Rattle.rl_unions.specs.Unions.{HasNoPriors, HaveNoPriors, union_of, MeansAs}
use Rattle.rl_unions.proofs.Regrouping.{union_append, grouping}
use Rattle.rl_unions.proofs.Growing.{HaveMarks, all_grow, free_jams}
use Rattle.rl_build.specs.declared.built.Built.{Built}
use Rattle.rl_build.specs.declared.built.Refused.{Refused}
use Rattle.rl_build.specs.declared.cells.Cells.{Cells}
use Rattle.rl_build.specs.declared.chain.Sums.{Sums}
use Rattle.rl_build.specs.Adds.{IsCopy}
use Rattle.rl_build.specs.Cells.{HaveSame, AreCounted, AreCells, most_of}
use Rattle.rl_build.specs.Chains.{IsNoUnion, operands_of, AreBuilt, AreOperandsOf, Fits, AllFit, AreSums, AreSmallSums, AreSumsOf, IsGathered, IsUnionOf}
use Rattle.rl_build.specs.Nodes.{sites_below}
use Rattle.rl_build.specs.Trees.{OfCause, AreAccepted, IsBuilt, IsRefused, IsFit, ranges_in, wrong_numbers, IsSmall}
use Rattle.rl_build.proofs.CellLaws.{some_class, count_is}
use Rattle.rl_build.proofs.NodeLaws.{accepted_for}
use Rattle.rl_build.proofs.SiteLaws.{any_tests, below, below_counted, accepted_append, accepted_behind}
use Rattle.rl_build.proofs.StateCounts.{states_counted}
use Rattle.rl_build.proofs.AnswerLaws.{ranges_are, small_answer}

-- ---- machines that mean the same

stands_along : (s t : Node) (m : Graph) → StandsFor s m → MeansAs s t → StandsFor t m
stands_along s t m z f k h =
    let p = f k h in
    let b = z p.0 p.1 in
    record { sound = b.sound; numbered = b.numbered; name = λ i. p.2 (b.name i); follows = follows_on b.name p.2 b.follows p.3 }

-- ---- lists of operands

module _ (alphabet : Alphabet) where
  pub built_behind : (ts : List Node) (bs : List Built) (t : Node) (b : Built) → AreBuilt alphabet ts bs → IsBuilt alphabet t b → AreBuilt alphabet (ts ++ t ∷ []) (bs ++ b ∷ [])
  built_behind [] [] t b x y = (y, tt)
  built_behind [] (c ∷ bs) t b x y = absurd x
  built_behind (s ∷ ts) [] t b x y = absurd x
  built_behind (s ∷ ts) (c ∷ bs) t b x y = (x.0, built_behind ts bs t b x.1 y)

  no_more : (b : Built) (bs : List Built) → AreBuilt alphabet [] (bs ++ b ∷ []) → ⊥
  no_more b [] x = x
  no_more b (c ∷ bs) x = x

  none_left : (t : Node) (ts : List Node) → AreBuilt alphabet (ts ++ t ∷ []) [] → ⊥
  none_left t [] x = x
  none_left t (s ∷ ts) x = x

  pub built_before : (ts : List Node) (bs : List Built) (t : Node) (b : Built) → AreBuilt alphabet (ts ++ t ∷ []) (bs ++ b ∷ []) → AreBuilt alphabet ts bs × IsBuilt alphabet t b
  built_before [] [] t b x = (tt, x.0)
  built_before [] (c ∷ bs) t b x = absurd (no_more b bs x.1)
  built_before (s ∷ ts) [] t b x = absurd (none_left t ts x.1)
  built_before (s ∷ ts) (c ∷ bs) t b x = let r = built_before ts bs t b x.1 in ((x.0, r.0), r.1)

  -- the operands are those before the last one, and the last one
  operands_last : (ts : List Node) (bs : List Built) (t : Node) → AreBuilt alphabet (ts ++ t ∷ []) bs → (cs : List Built) × (b : Built) × AreBuilt alphabet ts cs × IsBuilt alphabet t b
  operands_last [] [] t x = absurd x
  operands_last [] (b ∷ bs) t x = ([], b, tt, x.0)
  operands_last (s ∷ ts) [] t x = absurd x
  operands_last (s ∷ ts) (c ∷ bs) t x = let r = operands_last ts bs t x.1 in (c ∷ r.0, r.1, (x.0, r.2), r.3)

  single : (t : Node) (bs : List Built) → AreBuilt alphabet (t ∷ []) bs → (b : Built) × IsBuilt alphabet t b
  single t [] x = absurd x
  single t (b ∷ bs) x = (b, x.0)

  -- an expression that is no union is its own operand
  pub alone_built : (t : Node) (b : Built) → IsNoUnion t → IsBuilt alphabet t b → AreOperandsOf alphabet t (b ∷ [])
  alone_built (N.Union a c) b n x = absurd n
  alone_built t b n x = (x, tt)

  pub built_alone : (t : Node) (bs front : List Built) (last : Built) → IsNoUnion t → bs ≡ front ++ last ∷ [] → AreOperandsOf alphabet t bs → IsBuilt alphabet t last
  built_alone (N.Union a c) bs front last n e x = absurd n
  built_alone t bs front last n e x = (built_before [] front t last (subst (AreOperandsOf alphabet t) e x)).1

  pub fits_alone : (n : ℕ) (t : Node) → IsNoUnion t → AllFit alphabet n t
  fits_alone n (N.Union a c) h = absurd h
  fits_alone n t h = tt

  halves : (ls rs : List Built) (t : Node) (us : List Node) → 0 < length ls → 0 < length rs → AreBuilt alphabet (t ∷ us) (ls ++ rs)
      → (vs : List Node) × (w : Node) × (ws : List Node) × (us ≡ vs ++ w ∷ ws) × AreBuilt alphabet (t ∷ vs) ls × AreBuilt alphabet (w ∷ ws) rs
  halves [] rs t us p q x = absurd (let z : 0 < 0 = p in omega arith)
  halves (l ∷ []) [] t us p q x = absurd (let z : 0 < 0 = q in omega arith)
  halves (l ∷ []) (r ∷ rs) t [] p q x = absurd x.1
  halves (l ∷ []) (r ∷ rs) t (u ∷ us) p q x = ([], u, us, refl, (x.0, tt), x.1)
  halves (l ∷ k ∷ ls) rs t [] p q x = absurd x.1
  halves (l ∷ k ∷ ls) rs t (u ∷ us) p q x =
      let r = halves (k ∷ ls) rs u us (some (length ls)) q x.1 in
      (u ∷ r.0, r.1, r.2, (λ i. u ∷ r.3 i), (x.0, r.4), r.5)
    where
      some : (n : ℕ) → 0 < suc n
      some n = omega arith

-- ---- expressions without priorities

free_behind : (ts : List Node) (t : Node) → HaveNoPriors ts → HasNoPriors t → HaveNoPriors (ts ++ t ∷ [])
free_behind [] t f g = (g, tt)
free_behind (s ∷ ts) t f g = (f.0, free_behind ts t f.1 g)

free_split : (ts us : List Node) → HaveNoPriors (ts ++ us) → HaveNoPriors ts × HaveNoPriors us
free_split [] us f = (tt, f)
free_split (t ∷ ts) us f = let r = free_split ts us f.1 in ((f.0, r.0), r.1)

-- ---- the machine of all operands

pub two_united : (a b : Built) (m : Graph) → ((s t : Node) → StandsFor s a.machine → StandsFor t b.machine → StandsFor (N.Union s t) m) → IsUnionOf (a ∷ b ∷ []) m
two_united a b m f alphabet t [] g x = absurd x.1
two_united a b m f alphabet t (u ∷ []) g x = f t u x.0.stands x.1.0.stands
two_united a b m f alphabet t (u ∷ v ∷ us) g x = absurd x.1.1

pub three_united : (a b c : Built) (front m : Graph) → ((s t : Node) → StandsFor s a.machine → StandsFor t b.machine → StandsFor (N.Union s t) front)
    → ((s t : Node) → StandsFor s front → StandsFor t c.machine → StandsFor (N.Union s t) m) → IsUnionOf (a ∷ b ∷ c ∷ []) m
three_united a b c front m f h alphabet t [] g x = absurd x.1
three_united a b c front m f h alphabet t (u ∷ []) g x = absurd x.1.1
three_united a b c front m f h alphabet t (u ∷ v ∷ []) g x = h (N.Union t u) v (f t u x.0.stands x.1.0.stands) x.1.1.0.stands
three_united a b c front m f h alphabet t (u ∷ v ∷ w ∷ us) g x = absurd x.1.1.1

pub pair_united : (bs behind last : List Built) (a b : Built) (m : Graph) → bs ≡ a ∷ behind → behind ≡ b ∷ last → length last ≡ 0 → ((s t : Node) → StandsFor s a.machine → StandsFor t b.machine → StandsFor (N.Union s t) m) → IsUnionOf bs m
pair_united bs behind [] a b m e q n f = subst (λ w. IsUnionOf w m) (sym (e ∙ ap (λ w. a ∷ w) q)) (two_united a b m f)
pair_united bs behind (c ∷ last) a b m e q n f = absurd (none (length last) n)
  where
    none : (n : ℕ) → suc n ≡ 0 → ⊥
    none n e = omega arith

pub triple_united : (bs behind last none : List Built) (a b c : Built) (front m : Graph) → bs ≡ a ∷ behind → behind ≡ b ∷ last → last ≡ c ∷ none → length bs ≤ 3
    → ((s t : Node) → StandsFor s a.machine → StandsFor t b.machine → StandsFor (N.Union s t) front) → ((s t : Node) → StandsFor s front → StandsFor t c.machine → StandsFor (N.Union s t) m) → IsUnionOf bs m
triple_united bs behind last [] a b c front m e q r few f h = subst (λ w. IsUnionOf w m) (sym (e ∙ ap (λ w. a ∷ w) (q ∙ ap (λ w. b ∷ w) r))) (three_united a b c front m f h)
triple_united bs behind last (d ∷ none) a b c front m e q r few f h =
    absurd (more (length none) (subst (λ w. length w ≤ 3) (e ∙ ap (λ w. a ∷ w) (q ∙ ap (λ w. b ∷ w) r)) few))
  where
    more : (n : ℕ) → suc (suc (suc (suc n))) ≤ 3 → ⊥
    more n l = omega arith

pub halves_united : (ls rs bs : List Built) (l r m : Graph) → bs ≡ ls ++ rs → 0 < length ls → 0 < length rs → IsUnionOf ls l → IsUnionOf rs r
    → ((s t : Node) → StandsFor s l → StandsFor t r → StandsFor (N.Union s t) m) → IsUnionOf bs m
halves_united ls rs bs l r m e p q a b f alphabet t us g x =
    let h = halves alphabet ls rs t us p q (subst (AreBuilt alphabet (t ∷ us)) e x) in
    let free = free_split h.0 (h.1 ∷ h.2) (subst HaveNoPriors h.3 g.1) in
    let both = N.Union (union_of t h.0) (union_of h.1 h.2) in
    stands_along both (union_of t us) m
    (f (union_of t h.0) (union_of h.1 h.2) (a alphabet t h.0 (g.0, free.0) h.4) (b alphabet h.1 h.2 free.1 h.5))
    (subst (λ w. MeansAs both (union_of t w)) (sym h.3) (grouping t h.0 h.1 h.2 (g.0, free.0) free.1))

-- each expression is the union of its operands, as it is written
chain_of : (t : Node) → (u : Node) × (us : List Node) × (operands_of t ≡ u ∷ us) × (union_of u us ≡ t) × (HasNoPriors t → HaveNoPriors (u ∷ us))
chain_of (N.Union a b) =
    let r = chain_of a in
    (r.0, r.1 ++ b ∷ [], ap (λ ts. ts ++ b ∷ []) r.2, union_append r.0 r.1 b [] ∙ ap (λ s. N.Union s b) r.3, λ f. free_behind (r.0 ∷ r.1) b (r.4 f.0) f.1)
chain_of (N.Set ranges) = (N.Set ranges, [], refl, refl, λ f. (f, tt))
chain_of N.Null = (N.Null, [], refl, refl, λ f. (f, tt))
chain_of N.Nothing = (N.Nothing, [], refl, refl, λ f. (f, tt))
chain_of (N.And a b) = (N.And a b, [], refl, refl, λ f. (f, tt))
chain_of (N.Minus a b) = (N.Minus a b, [], refl, refl, λ f. (f, tt))
chain_of (N.Cat a b) = (N.Cat a b, [], refl, refl, λ f. (f, tt))
chain_of (N.Star a n) = (N.Star a n, [], refl, refl, λ f. (f, tt))
chain_of (N.Enter a l) = (N.Enter a l, [], refl, refl, λ f. (f, tt))
chain_of (N.Finish a l) = (N.Finish a l, [], refl, refl, λ f. (f, tt))
chain_of (N.All a l) = (N.All a l, [], refl, refl, λ f. (f, tt))
chain_of (N.Leave a l) = (N.Leave a l, [], refl, refl, λ f. (f, tt))
chain_of (N.Mark a class kind s x) = (N.Mark a class kind s x, [], refl, refl, λ f. (f, tt))
chain_of (N.When a c) = (N.When a c, [], refl, refl, λ f. (f, tt))

module _ (alphabet : Alphabet) where
  pub whole_united : (t : Node) (bs : List Built) (m : Graph) → IsUnionOf bs m → HasNoPriors t → AreOperandsOf alphabet t bs → StandsFor t m
  whole_united t bs m u f x =
      let r = chain_of t in
      subst (λ w. StandsFor w m) r.3 (u alphabet r.0 r.1 (r.4 f) (subst (λ ts. AreBuilt alphabet ts bs) r.2 x))

  -- ---- no union in it is refused

  operands_tests : (t : Node) (bs : List Built) → AreOperandsOf alphabet t bs → HasMarks t
  operands_tests (N.Union a b) bs x =
      let l = operands_last alphabet (operands_of a) bs b x in
      let p = operands_tests a l.0 l.2 in
      let q = l.3.tests in
      ((p.0, q.0), (p.1, q.1))
  operands_tests t bs x = (single alphabet t bs x).1.tests

  module _ (m : Graph) (few : length m.states ≤ 32767) where
    node_accepted : (a b : Node) (us : List Node) → HasNoPriors a → HasNoPriors b → HaveNoPriors us → HaveMarks us → StandsFor (union_of (N.Union a b) us) m → Fits alphabet (length m.states) (N.Union a b)
        → (k : Marks a × Marks b) → AreHonest a k.0 × AreHonest b k.1 → IsAccepted alphabet (AtNode (N.Union a b) k)
    node_accepted a b us f g e p s fit k h =
        let c = fit.0 in
        let t = N.Union a b in
        let width = c.classes * 2 ^ length c.conditions.items in
        let wide : site_width alphabet (AtNode t k) ≡ width = λ i. count_is alphabet (sets_in t) c.classes fit.1.classes i * 2 ^ length (sym fit.1.conditions i) in
        let some : 0 < width = mul-pos (some_class alphabet (sets_in t) c.classes fit.1.classes) (pow_pos (length c.conditions.items)) in
        accepted_for alphabet t k width wide some (
          (λ q. over 32767 (more 32767 q) few),
          (λ q. over (4194304 / width) (more (4194304 / width) q) fit.2),
          (λ q. true≢false (sym q.3 ∙ free_jams a b k.0 k.1 f g q.0 q.2)),
        )
      where
        over : (n : ℕ) → n < length m.states → length m.states ≤ n → ⊥
        over n lt le = omega arith

        more : (n : ℕ) → HasMore (union_auto (auto a k.0) (auto b k.1)) n → n < length m.states
        more n q =
            let r = all_grow (N.Union a b) us k n (f, g) e h p ((quiet_more (union_auto (auto a k.0) (auto b k.1)) n).1 q) in
            (states_counted (auto (union_of (N.Union a b) us) r.0) m n (s r.0 r.1)).0 r.2

    accepted_along : (t : Node) (us : List Node) (bs : List Built) → AreOperandsOf alphabet t bs → AllFit alphabet (length m.states) t → HasNoPriors t → HaveNoPriors us → HaveMarks us → StandsFor (union_of t us) m
        → (k : Marks t) → AreHonest t k → AreAccepted alphabet (sites t k)
    accepted_along (N.Union a b) us bs x fit f g p s k h =
        let l = operands_last alphabet (operands_of a) bs b x in
        accepted_behind alphabet (sites a k.0 ++ sites b k.1) (AtNode (N.Union a b) (k.0, k.1))
        (accepted_append alphabet (sites a k.0) (sites b k.1)
        (accepted_along a (b ∷ us) l.0 l.2 fit.0 f.0 (f.1, g) (l.3.tests, p) s k.0 h.0)
        (l.3.accepted k.1 h.1))
        (node_accepted a b us f.0 f.1 g p s fit.1 k h)
    accepted_along t us bs x fit f g p s k h = (single alphabet t bs x).1.accepted k h

    pub chain_built : (t : Node) (bs : List Built) (sums : Sums) → AreOperandsOf alphabet t bs → HasNoPriors t → IsUnionOf bs m → AreSums alphabet (length m.states) t sums
        → IsBuilt alphabet t (record { machine = m; cells = sums.cells; nodes = sums.nodes })
    chain_built t bs sums x f u z =
        let s = whole_united t bs m u f x in
        record {
          stands = s;
          tests = operands_tests t bs x;
          accepted = accepted_along t [] bs x z.fit f tt tt s;
          few = few;
          cells = z.cells;
          count = z.count;
        }

  -- ---- what the operands have together

  pub cells_copied : (xs : List (List Range)) (cs : List ℕ) (a c : Cells) → IsCopy a c → AreCells alphabet xs cs a → AreCells alphabet xs cs c
  cells_copied xs cs a c e h = record {
    same = subst (λ w. HaveSame w xs) (sym e.sets) h.same;
    few = subst (λ w. range_count w ≤ range_count xs) (sym e.sets) h.few;
    classes = subst (AreCounted alphabet xs) (sym e.classes) h.classes;
    conditions = e.conditions ∙ h.conditions;
  }

  pub sums_more : (n : ℕ) (a b : Node) (s u : Sums) (d : Built) → AreSums alphabet n a s → IsBuilt alphabet b d → AreCells alphabet (sets_in a ++ sets_in b) (conditions_in a ++ conditions_in b) u.cells
      → u.nodes ≡ s.nodes + d.nodes + 1 → n ≤ most_of u.cells → AreSums alphabet n (N.Union a b) u
  sums_more n a b s u d x y c e le = record {
    cells = c;
    count = let p : s.nodes ≡ size_of a = x.count in let q : d.nodes ≡ size_of b = y.count in omega arith;
    fit = (x.fit, (u.cells, c, le));
  }

  pub small_sums : (n : ℕ) (t : Node) (s : Sums) → IsFit t → AreSums alphabet n t s → AreSmallSums s
  small_sums n t s f x = record {
    nodes = let e : s.nodes ≡ size_of t = x.count in let l : size_of t ≤ 100000 = f.nodes in omega arith;
    ranges =
        let a : range_count s.cells.sets.items ≤ range_count (sets_in t) = x.cells.few in
        let c : range_count (sets_in t) ≡ ranges_in t = ranges_are alphabet t in
        let l : ranges_in t ≤ 25600000 = f.ranges in
        omega arith;
  }

  pub small_built : (t : Node) (b : Built) → IsFit t → IsBuilt alphabet t b → IsSmall b
  small_built t b f x = small_answer alphabet t (Ok b) f x

  -- want of memory
  pub memory_refused : (t : Node) (r : Refused) → r.fault ≡ Memory → r.node ≡ 0 → IsRefused alphabet t r
  memory_refused t r e n = record {
    within =
        let k = below t (any_tests t) in
        let s : length (sites_below t k) + 1 ≡ size_of t = below_counted t k in
        omega arith;
    first = subst (λ w. OfCause w (λ cause. (k : Marks t) × IsFirstRefused alphabet (sites t k) r.node cause)) (sym e) tt;
  }

-- ---- operands of fit expressions

pub fit_left : (a b : Node) → IsFit (N.Union a b) → IsFit a
fit_left a b f = record {
  nodes = let l : size_of a + size_of b + 1 ≤ 100000 = f.nodes in omega arith;
  ranges = let l : ranges_in a + ranges_in b ≤ 25600000 = f.ranges in omega arith;
  conditions = let l : wrong_numbers a + wrong_numbers b ≡ 0 = f.conditions in omega arith;
}

pub fit_right : (a b : Node) → IsFit (N.Union a b) → IsFit b
fit_right a b f = record {
  nodes = let l : size_of a + size_of b + 1 ≤ 100000 = f.nodes in omega arith;
  ranges = let l : ranges_in a + ranges_in b ≤ 25600000 = f.ranges in omega arith;
  conditions = let l : wrong_numbers a + wrong_numbers b ≡ 0 = f.conditions in omega arith;
}

-- ---- one operand less

module _ (alphabet : Alphabet) where
  pub some_operand : (t : Node) (bs : List Built) → AreOperandsOf alphabet t bs → length bs ≡ 0 → ⊥
  some_operand t [] x e = let r = chain_of t in subst (λ ts. AreBuilt alphabet ts []) r.2 x
  some_operand t (b ∷ bs) x e = none (length bs) e
    where
      none : (n : ℕ) → suc n ≡ 0 → ⊥
      none n e = omega arith

  pub front_ready : (t a b : Node) (bs front : List Built) (last : Built) → t ≡ N.Union a b → bs ≡ front ++ last ∷ [] → IsFit t → AreOperandsOf alphabet t bs
      → (IsFit a × AreOperandsOf alphabet a front) × (IsFit b × IsBuilt alphabet b last)
  front_ready t a b bs front last e q f x =
      let fit : IsFit (N.Union a b) = subst IsFit e f in
      let built : AreOperandsOf alphabet (N.Union a b) (front ++ last ∷ []) = subst (λ cs. AreOperandsOf alphabet (N.Union a b) cs) q (subst (λ s. AreOperandsOf alphabet s bs) e x) in
      let r = built_before alphabet (operands_of a) front b last built in
      ((fit_left a b fit, r.0), (fit_right a b fit, r.1))

  -- ---- answers

  pub gathered_of : (u : Node) (bs : List Built) (r : Result (Vec Built Global) Refused) → AreOperandsOf alphabet u bs → MatchResult r (λ (v : Vec Built Global). v.items ≡ bs) (λ (x : Refused). (x.fault ≡ Memory) × (x.node ≡ 0))
      → IsGathered alphabet u r
  gathered_of u bs (Ok v) x e = subst (AreOperandsOf alphabet u) (sym e) x
  gathered_of u bs (Err r) x e = memory_refused alphabet u r e.0 e.1

  pub sums_first : (n : ℕ) (t : Node) (s : Sums) (b : Built) → AllFit alphabet n t → IsBuilt alphabet t b → IsCopy b.cells s.cells → s.nodes ≡ b.nodes → AreSums alphabet n t s
  sums_first n t s b fit x c e = record { cells = cells_copied alphabet (sets_in t) (conditions_in t) b.cells s.cells c x.cells; count = e ∙ x.count; fit = fit }

  pub small_option : (n : ℕ) (t : Node) (s : Option Sums) → IsFit t → AreSumsOf alphabet n t s → IfSome s AreSmallSums
  small_option n t None f x = tt
  small_option n t (Some s) f x = small_sums alphabet n t s f x

-- the two parts of a list that is cut
pub split_whole : (bs ls rs : List Built) (n : ℕ) → ls ≡ take n bs → rs ≡ drop n bs → bs ≡ ls ++ rs
split_whole bs ls rs n e q = sym (take-append-drop n bs) ∙ (λ i. sym e i ++ sym q i)
