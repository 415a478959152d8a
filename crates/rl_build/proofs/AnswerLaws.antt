-- What building an expression gives, from what building its operands gave.
use Rattle.std.proofs.Common.{◌≡◌, ℕ, ◌+◌, ◌*◌, ◌^◌, ◌<◌, ◌≤◌, true, List, [], ◌∷◌, ◌++◌, length, append_assoc, All, refl, sym, subst, inl, arith}
use Rattle.std.specs.Prelude.{Result, Ok, Err, IfOk, IfErr, OnOk, MatchResult}
use Rattle.std.proofs.lemmas.List.Sums.{sum_by-append, sum_by-cons}
use Rattle.std.proofs.lemmas.Nat.{pow_pos}
use Rattle.std.proofs.Math.Nat.{mul-pos}
use Rattle.std.proofs.lemmas.Bool.Decides.{nat_tests}
use native.Mathlib.Decide.{dec_lt}
use Rattle.rl_types.specs.declared.alphabet.Alphabet.{Alphabet}
use Rattle.rl_types.specs.KeyRange.{Range}
use Rattle.rl_sets.proofs.SetLaws.{In-append_left, In-append_right}
use Rattle.rl_automata.specs.declared.tree.Label.{Label}
use Rattle.rl_automata.specs.declared.tree.Class.{Class}
use Rattle.rl_automata.specs.declared.tree.Kind.{Kind}
use Rattle.rl_automata.specs.Nodes as N
use Rattle.rl_automata.specs.Nodes.{Node}
use Rattle.rl_automata.specs.Marks.{Marks, auto, AreHonest, HasMarks}
use Rattle.rl_automata.specs.Sites.{Below, AreHonestBelow, Site, AtNode, sites}
use Rattle.rl_automata.specs.Refused as refused
use Rattle.rl_automata.specs.Refused.{HasMore, Cause, IsRefusedFor, IsAccepted, IsFirstRefused, site_width, sets_in, conditions_in}
use Rattle.rl_classes.specs.Sets.{range_count}
use Rattle.rl_explore.specs.declared.fault.BuildFault.{BuildFault}
use Rattle.rl_explore.specs.declared.fault.BuildFault.TheVariants.{L6, L8, F12, F15, Memory}
use Rattle.rl_fsm.proofs.PieceLaws.{All-In, All-from_In}
use Rattle.rl_fsm.specs.Graphs.{Graph}
use Rattle.rl_embed.specs.declared.how.How.{How}
use Rattle.rl_embed.specs.declared.how.How.TheVariants as H
use Rattle.rl_embed.specs.Embeds.{embed_node}
use Rattle.rl_model.specs.Counts.{size_of}
use Rattle.rl_model.specs.WellFormed.{IsNumber}
use Rattle.rl_build.specs.declared.built.Built.{Built}
use Rattle.rl_build.specs.declared.built.Refused.{Refused}
use Rattle.rl_build.specs.declared.cells.Cells.{Cells}
use Rattle.rl_build.specs.declared.pairing.Pairing.{Pairing}
use Rattle.rl_build.specs.declared.pairing.Pairing.TheVariants as P
use Rattle.rl_build.specs.Cells.{AreCells, most_of}
use Rattle.rl_build.specs.Nodes.{pair_node, IsOperand, Accepts, Fails, IsPlain, sites_below}
use Rattle.rl_build.specs.Trees.{OfCause, AreAccepted, IsBuilt, IsRefused, IsAnswer, AreOperandsBuilt, ranges_in, wrong_number, wrong_numbers, IsFit, AreFit, IsSmallAnswer}
use Rattle.rl_build.proofs.CellLaws.{some_class, count_is}
use Rattle.rl_build.proofs.NodeLaws.{accepted_for, refused_for}
use Rattle.rl_build.proofs.SiteLaws.{any_tests, with_below, below, sites_split, sites_with, honest_below, sites_counted, below_counted, honest_sites, honest_operands, accepted_append, accepted_behind, first_before, first_after, last_refused, raw_more}
use Rattle.rl_build.proofs.StateCounts.{states_counted}

-- ---- one side of an answer

pub ok_of : {T E : Type 0} (P Q : T → Type 0) (R : E → Type 0) (r : Result T E) → ((t : T) → P t → Q t) → MatchResult r P R → IfOk r Q
ok_of P Q R (Ok t) f h = f t h
ok_of P Q R (Err e) f h = tt

pub on_ok_of : {T E : Type 0} (P : T → Type 0) (Q : Type 0) (R : E → Type 0) (r : Result T E) → ((t : T) → P t → Q) → MatchResult r P R → OnOk r Q
on_ok_of P Q R (Ok t) f h = f t h
on_ok_of P Q R (Err e) f h = tt

pub err_of : {T E : Type 0} (P : T → Type 0) (R : E → Type 0) (r : Result T E) → MatchResult r P R → IfErr r R
err_of P R (Ok t) h = tt
err_of P R (Err e) h = h

pub of_cause : (e : BuildFault) (P Q : Cause → Type 0) → ((cause : Cause) → P cause → Q cause) → OfCause e P → OfCause e Q
of_cause L6 P Q f h = f refused.L6 h
of_cause L8 P Q f h = f refused.L8 h
of_cause (F12 i) P Q f h = h
of_cause F15 P Q f h = f refused.F15 h
of_cause Memory P Q f h = h

-- ---- a node whose operands are built

module _ (alphabet : Alphabet) (t : Node) (n : ℕ) (o : AreOperandsBuilt alphabet t n) where
  count_below : (k : Below t) → length (sites_below t k) ≡ n
  count_below k = let a : length (sites_below t k) + 1 ≡ size_of t = below_counted t k in let b : size_of t ≡ n + 1 = o.size in omega arith

  refused_here : (cause : Cause) → ((k : Below t) → AreHonestBelow t k → IsRefusedFor alphabet (AtNode t k) cause) → (k : Marks t) × IsFirstRefused alphabet (sites t k) n cause
  refused_here cause f =
      let k = o.tests.0 in
      let h = o.tests.1 in (
        with_below t k,
        subst (λ w. IsFirstRefused alphabet (sites t (with_below t k)) w cause) (count_below k)
            (subst (λ xs. IsFirstRefused alphabet xs (length (sites_below t k)) cause) (sym (sites_with t k))
            (last_refused alphabet (sites_below t k) (AtNode t k) cause (honest_operands t k h) (o.accepted k h) h (f k h))),
      )

  accepted_here : ((k : Below t) → AreHonestBelow t k → IsAccepted alphabet (AtNode t k)) → (k : Marks t) → AreHonest t k → AreAccepted alphabet (sites t k)
  accepted_here f k h =
      let j = below t k in
      let g = honest_below t k h in
      subst (AreAccepted alphabet) (sym (sites_split t k)) (accepted_behind alphabet (sites_below t j) (AtNode t j) (o.accepted j g) (f j g))

  module _ (cells : Cells) (c : AreCells alphabet (sets_in t) (conditions_in t) cells) where
    abbrev width : ℕ
    width = cells.classes * 2 ^ length cells.conditions.items

    wide : (k : Below t) → site_width alphabet (AtNode t k) ≡ width
    wide k i = count_is alphabet (sets_in t) cells.classes c.classes i * 2 ^ length (sym c.conditions i)

    some : 0 < width
    some = mul-pos (some_class alphabet (sets_in t) cells.classes c.classes) (pow_pos (length cells.conditions.items))

    pub answer_built : (m : Graph) → Accepts t (most_of cells) m → IsBuilt alphabet t (record { machine = m; cells = cells; nodes = n + 1 })
    answer_built m a = record {
      stands = a.stands;
      tests = a.tests;
      accepted = accepted_here (λ k h. accepted_for alphabet t k width (wide k) some (a.clear k h));
      few =
          let k = a.tests.0 in
          let h = a.tests.1 in
          let z = a.stands k h in
          elim (dec_lt 32767 (length m.states)) [
            | yes l ↦ absurd ((a.clear (below t k) (honest_below t k h)).0 (raw_more t k 32767 ((states_counted (auto t k) m 32767 z).1 l)))
            | no q ↦ omega arith
          ];
      cells = c;
      count = sym o.size;
    }

    pub answer_refused : (e : BuildFault) → Fails t (most_of cells) e → IsRefused alphabet t (record { fault = e; node = n })
    answer_refused e f = record { within = let s : size_of t ≡ n + 1 = o.size in omega arith; first = by e (λ k h. refused_for alphabet t k width (wide k) some e (f k h)) }
      where
        by : (e : BuildFault) → ((k : Below t) → AreHonestBelow t k → OfCause e (IsRefusedFor alphabet (AtNode t k))) → OfCause e (λ cause. (k : Marks t) × IsFirstRefused alphabet (sites t k) n cause)
        by L6 f = refused_here refused.L6 f
        by L8 f = refused_here refused.L8 f
        by (F12 i) f = f o.tests.0 o.tests.1
        by F15 f = refused_here refused.F15 f
        by Memory f = tt

  -- want of memory at the node
  pub answer_memory : IsRefused alphabet t (record { fault = Memory; node = n })
  answer_memory = record { within = let s : size_of t ≡ n + 1 = o.size in omega arith; first = tt }

-- ---- operands that are built

module _ (alphabet : Alphabet) where
  two_accepted : (s t : Node) (a b : Built) → IsBuilt alphabet s a → IsBuilt alphabet t b → (k : Marks s × Marks t) → AreHonest s k.0 × AreHonest t k.1 → AreAccepted alphabet (sites s k.0 ++ sites t k.1)
  two_accepted s t a b x y k h = accepted_append alphabet (sites s k.0) (sites t k.1) (x.accepted k.0 h.0) (y.accepted k.1 h.1)

  two_sizes : (s t : Node) (a b : Built) → IsBuilt alphabet s a → IsBuilt alphabet t b → size_of s + size_of t + 1 ≡ a.nodes + b.nodes + 1
  two_sizes s t a b x y = let e : a.nodes ≡ size_of s = x.count in let f : b.nodes ≡ size_of t = y.count in omega arith

  pub pair_ready : (how : Pairing) (s t : Node) (a b : Built) → IsBuilt alphabet s a → IsBuilt alphabet t b → AreOperandsBuilt alphabet (pair_node how s t) (a.nodes + b.nodes)
  pair_ready P.Union s t a b x y = record { tests = ((x.tests.0, y.tests.0), (x.tests.1, y.tests.1)); accepted = two_accepted s t a b x y; size = two_sizes s t a b x y }
  pair_ready P.And s t a b x y = record { tests = ((x.tests.0, y.tests.0), (x.tests.1, y.tests.1)); accepted = two_accepted s t a b x y; size = two_sizes s t a b x y }
  pair_ready P.Minus s t a b x y = record { tests = ((x.tests.0, y.tests.0), (x.tests.1, y.tests.1)); accepted = two_accepted s t a b x y; size = two_sizes s t a b x y }
  pair_ready P.Cat s t a b x y = record { tests = ((x.tests.0, y.tests.0), (x.tests.1, y.tests.1)); accepted = two_accepted s t a b x y; size = two_sizes s t a b x y }

  pub pair_cells : (how : Pairing) (s t : Node) (c : Cells) → AreCells alphabet (sets_in s ++ sets_in t) (conditions_in s ++ conditions_in t) c → AreCells alphabet (sets_in (pair_node how s t)) (conditions_in (pair_node how s t)) c
  pair_cells P.Union s t c h = h
  pair_cells P.And s t c h = h
  pair_cells P.Minus s t c h = h
  pair_cells P.Cat s t c h = h

  pub operand_of : (t : Node) (b : Built) → IsBuilt alphabet t b → IsOperand t b.machine
  operand_of t b x = record { stands = x.stands; tests = x.tests }

  pub set_ready : (ranges : List Range) → AreOperandsBuilt alphabet (N.Set ranges) 0
  set_ready ranges = record { tests = (tt, tt); accepted = λ k h x i. absurd i; size = refl }

  pub null_ready : AreOperandsBuilt alphabet N.Null 0
  null_ready = record { tests = (tt, tt); accepted = λ k h x i. absurd i; size = refl }

  pub nothing_ready : AreOperandsBuilt alphabet N.Nothing 0
  nothing_ready = record { tests = (tt, tt); accepted = λ k h x i. absurd i; size = refl }

  one_size : (t : Node) (a : Built) → IsBuilt alphabet t a → size_of t + 1 ≡ a.nodes + 1
  one_size t a x = let e : a.nodes ≡ size_of t = x.count in omega arith

  pub star_ready : (t : Node) (base : ℕ) (a : Built) → IsBuilt alphabet t a → AreOperandsBuilt alphabet (N.Star t base) a.nodes
  star_ready t base a x = record { tests = x.tests; accepted = x.accepted; size = one_size t a x }

  pub label_ready : (how : How) (t : Node) (l : Label) (a : Built) → IsBuilt alphabet t a → AreOperandsBuilt alphabet (embed_node how t l) a.nodes
  label_ready H.Enter t l a x = record { tests = x.tests; accepted = x.accepted; size = one_size t a x }
  label_ready H.Finish t l a x = record { tests = x.tests; accepted = x.accepted; size = one_size t a x }
  label_ready H.All t l a x = record { tests = x.tests; accepted = x.accepted; size = one_size t a x }
  label_ready H.Leave t l a x = record { tests = x.tests; accepted = x.accepted; size = one_size t a x }

  pub label_plain : (how : How) (t : Node) (l : Label) → IsPlain (embed_node how t l)
  label_plain H.Enter t l = tt
  label_plain H.Finish t l = tt
  label_plain H.All t l = tt
  label_plain H.Leave t l = tt

  pub label_tests : (how : How) (t : Node) (l : Label) → HasMarks t → HasMarks (embed_node how t l)
  label_tests H.Enter t l h = h
  label_tests H.Finish t l h = h
  label_tests H.All t l h = h
  label_tests H.Leave t l h = h

  pub label_cells : (how : How) (t : Node) (l : Label) (c : Cells) → AreCells alphabet (sets_in t) (conditions_in t) c → AreCells alphabet (sets_in (embed_node how t l)) (conditions_in (embed_node how t l)) c
  label_cells H.Enter t l c h = h
  label_cells H.Finish t l c h = h
  label_cells H.All t l c h = h
  label_cells H.Leave t l c h = h

  pub mark_ready : (t : Node) (class : Class) (kind : Kind) (stamp action : ℕ) (a : Built) → IsBuilt alphabet t a → AreOperandsBuilt alphabet (N.Mark t class kind stamp action) a.nodes
  mark_ready t class kind stamp action a x = record { tests = x.tests; accepted = x.accepted; size = one_size t a x }

  pub guard_ready : (t : Node) (c : ℕ) (a : Built) → IsBuilt alphabet t a → AreOperandsBuilt alphabet (N.When t c) a.nodes
  guard_ready t c a x = record { tests = x.tests; accepted = x.accepted; size = one_size t a x }

  -- ---- an operand that is refused

  abbrev SaysFirst : (t : Node) → ℕ → Cause → Type 0
  SaysFirst t n cause = (k : Marks t) × IsFirstRefused alphabet (sites t k) n cause

  up : (t u : Node) (r : Refused) → IsRefused alphabet t r → size_of t ≤ size_of u → (tests : Marks t → Marks u) (rest : Marks t → List Site) → ((k : Marks t) → sites u (tests k) ≡ sites t k ++ rest k) → IsRefused alphabet u r
  up t u r h le tests rest same = record {
    within = let w : r.node < size_of t = h.within in omega arith;
    first = of_cause r.fault (SaysFirst t r.node) (SaysFirst u r.node)
        (λ cause q. (tests q.0, subst (λ xs. IsFirstRefused alphabet xs r.node cause) (sym (same q.0)) (first_before alphabet (sites t q.0) (rest q.0) r.node cause q.1))) h.first;
  }

  more_one : (t : Node) → size_of t ≤ size_of t + 1
  more_one t = omega arith

  pub star_up : (t : Node) (base : ℕ) (r : Refused) → IsRefused alphabet t r → IsRefused alphabet (N.Star t base) r
  star_up t base r h = up t (N.Star t base) r h (more_one t) (λ k. k) (λ k. AtNode (N.Star t base) k ∷ []) (λ k. refl)

  pub label_up : (how : How) (t : Node) (l : Label) (r : Refused) → IsRefused alphabet t r → IsRefused alphabet (embed_node how t l) r
  label_up H.Enter t l r h = up t (N.Enter t l) r h (more_one t) (λ k. k) (λ k. AtNode (N.Enter t l) k ∷ []) (λ k. refl)
  label_up H.Finish t l r h = up t (N.Finish t l) r h (more_one t) (λ k. k) (λ k. AtNode (N.Finish t l) k ∷ []) (λ k. refl)
  label_up H.All t l r h = up t (N.All t l) r h (more_one t) (λ k. k) (λ k. AtNode (N.All t l) k ∷ []) (λ k. refl)
  label_up H.Leave t l r h = up t (N.Leave t l) r h (more_one t) (λ k. k) (λ k. AtNode (N.Leave t l) k ∷ []) (λ k. refl)

  pub mark_up : (t : Node) (class : Class) (kind : Kind) (stamp action : ℕ) (r : Refused) → IsRefused alphabet t r → IsRefused alphabet (N.Mark t class kind stamp action) r
  mark_up t class kind stamp action r h = up t (N.Mark t class kind stamp action) r h (more_one t) (λ k. k) (λ k. AtNode (N.Mark t class kind stamp action) k ∷ []) (λ k. refl)

  pub guard_up : (t : Node) (c : ℕ) (r : Refused) → IsRefused alphabet t r → IsRefused alphabet (N.When t c) r
  guard_up t c r h = up t (N.When t c) r h (more_one t) (λ k. k) (λ k. AtNode (N.When t c) k ∷ []) (λ k. refl)

  more_left : (s t : Node) → size_of s ≤ size_of s + size_of t + 1
  more_left s t = omega arith

  regroup : (xs ys zs : List Site) → xs ++ ys ++ zs ≡ xs ++ (ys ++ zs)
  regroup xs ys zs = append_assoc xs ys zs

  pub left_up : (how : Pairing) (s t : Node) (r : Refused) → IsRefused alphabet s r → IsRefused alphabet (pair_node how s t) r
  left_up P.Union s t r h = up s (N.Union s t) r h (more_left s t) (λ k. (k, any_tests t)) (λ k. sites t (any_tests t) ++ AtNode (N.Union s t) (k, any_tests t) ∷ []) (λ k. regroup (sites s k) (sites t (any_tests t)) (AtNode (N.Union s t) (k, any_tests t) ∷ []))
  left_up P.And s t r h = up s (N.And s t) r h (more_left s t) (λ k. (k, any_tests t, λ c. true)) (λ k. sites t (any_tests t) ++ AtNode (N.And s t) (k, any_tests t) ∷ []) (λ k. regroup (sites s k) (sites t (any_tests t)) (AtNode (N.And s t) (k, any_tests t) ∷ []))
  left_up P.Minus s t r h = up s (N.Minus s t) r h (more_left s t) (λ k. (k, any_tests t, λ c. true)) (λ k. sites t (any_tests t) ++ AtNode (N.Minus s t) (k, any_tests t) ∷ []) (λ k. regroup (sites s k) (sites t (any_tests t)) (AtNode (N.Minus s t) (k, any_tests t) ∷ []))
  left_up P.Cat s t r h = up s (N.Cat s t) r h (more_left s t) (λ k. (k, any_tests t)) (λ k. sites t (any_tests t) ++ AtNode (N.Cat s t) (k, any_tests t) ∷ []) (λ k. regroup (sites s k) (sites t (any_tests t)) (AtNode (N.Cat s t) (k, any_tests t) ∷ []))

  -- the right operand is refused behind the nodes of the left one, which is built
  behind : (s t u : Node) (a : Built) (r r' : Refused) → IsBuilt alphabet s a → IsRefused alphabet t r → r'.fault ≡ r.fault → r'.node ≡ a.nodes + r.node → size_of u ≡ size_of s + size_of t + 1
      → (tests : Marks s → Marks t → Marks u) (rest : Marks s → Marks t → List Site) → ((k : Marks s) (j : Marks t) → sites u (tests k j) ≡ sites s k ++ sites t j ++ rest k j) → IsRefused alphabet u r'
  behind s t u a r r' x h same number size tests rest split = record {
    within = let w : r.node < size_of t = h.within in let c : a.nodes ≡ size_of s = x.count in omega arith;
    first = subst (λ e. OfCause e (SaysFirst u r'.node)) (sym same) (of_cause r.fault (SaysFirst t r.node) (SaysFirst u r'.node) said h.first);
  }
    where
      place : (k : Marks s) → length (sites s k) + r.node ≡ r'.node
      place k = let c : a.nodes ≡ size_of s = x.count in let e : length (sites s k) ≡ size_of s = sites_counted s k in omega arith

      said : (cause : Cause) → SaysFirst t r.node cause → SaysFirst u r'.node cause
      said cause (j, q) =
          let k = x.tests.0 in (
            tests k j,
            subst (λ xs. IsFirstRefused alphabet xs r'.node cause) (sym (split k j))
                (first_before alphabet (sites s k ++ sites t j) (rest k j) r'.node cause
                (first_after alphabet (sites s k) (sites t j) r.node r'.node cause (honest_sites s k x.tests.1) (x.accepted k x.tests.1) (place k) q)),
          )

  pub right_up : (how : Pairing) (s t : Node) (a : Built) (r r' : Refused) → IsBuilt alphabet s a → IsRefused alphabet t r → r'.fault ≡ r.fault → r'.node ≡ a.nodes + r.node → IsRefused alphabet (pair_node how s t) r'
  right_up P.Union s t a r r' x h d e = behind s t (N.Union s t) a r r' x h d e refl (λ k j. (k, j)) (λ k j. AtNode (N.Union s t) (k, j) ∷ []) (λ k j. refl)
  right_up P.And s t a r r' x h d e = behind s t (N.And s t) a r r' x h d e refl (λ k j. (k, j, λ c. true)) (λ k j. AtNode (N.And s t) (k, j) ∷ []) (λ k j. refl)
  right_up P.Minus s t a r r' x h d e = behind s t (N.Minus s t) a r r' x h d e refl (λ k j. (k, j, λ c. true)) (λ k j. AtNode (N.Minus s t) (k, j) ∷ []) (λ k j. refl)
  right_up P.Cat s t a r r' x h d e = behind s t (N.Cat s t) a r r' x h d e refl (λ k j. (k, j)) (λ k j. AtNode (N.Cat s t) (k, j) ∷ []) (λ k j. refl)

  -- ---- sizes

  ranges_two : (xs ys : List (List Range)) (m n : ℕ) → range_count xs ≡ m → range_count ys ≡ n → range_count (xs ++ ys) ≡ m + n
  ranges_two xs ys m n a b = let e : range_count (xs ++ ys) ≡ range_count xs + range_count ys = sum_by-append (λ (s : List Range). length s) xs ys in omega arith

  pub ranges_are : (t : Node) → range_count (sets_in t) ≡ ranges_in t
  ranges_are (N.Set ranges) = let e : range_count (ranges ∷ []) ≡ length ranges + range_count [] = sum_by-cons (λ (s : List Range). length s) ranges [] in let z : range_count [] ≡ 0 = refl in omega arith
  ranges_are N.Null = refl
  ranges_are N.Nothing = refl
  ranges_are (N.Union a b) = ranges_two (sets_in a) (sets_in b) (ranges_in a) (ranges_in b) (ranges_are a) (ranges_are b)
  ranges_are (N.And a b) = ranges_two (sets_in a) (sets_in b) (ranges_in a) (ranges_in b) (ranges_are a) (ranges_are b)
  ranges_are (N.Minus a b) = ranges_two (sets_in a) (sets_in b) (ranges_in a) (ranges_in b) (ranges_are a) (ranges_are b)
  ranges_are (N.Cat a b) = ranges_two (sets_in a) (sets_in b) (ranges_in a) (ranges_in b) (ranges_are a) (ranges_are b)
  ranges_are (N.Star a n) = ranges_are a
  ranges_are (N.Enter a l) = ranges_are a
  ranges_are (N.Finish a l) = ranges_are a
  ranges_are (N.All a l) = ranges_are a
  ranges_are (N.Leave a l) = ranges_are a
  ranges_are (N.Mark a class kind s x) = ranges_are a
  ranges_are (N.When a c) = ranges_are a

  pub small_answer : (t : Node) (r : Result Built Refused) → IsFit t → IsAnswer alphabet t r → IsSmallAnswer r
  small_answer t (Ok b) f h = record {
    nodes = let e : b.nodes ≡ size_of t = h.count in let l : size_of t ≤ 100000 = f.nodes in omega arith;
    ranges =
        let a : range_count b.cells.sets.items ≤ range_count (sets_in t) = h.cells.few in
        let c : range_count (sets_in t) ≡ ranges_in t = ranges_are t in
        let l : ranges_in t ≤ 25600000 = f.ranges in
        omega arith;
  }
  small_answer t (Err r) f h = let w : r.node < size_of t = h.within in let l : size_of t ≤ 100000 = f.nodes in omega arith

  pub small_pair : (how : Pairing) (s t : Node) (r : Result Built Refused) → AreFit s t → IsAnswer alphabet (pair_node how s t) r → IsSmallAnswer r
  small_pair P.Union s t r f h = small_answer (N.Union s t) r (record { nodes = f.nodes; ranges = f.ranges; conditions = f.conditions }) h
  small_pair P.And s t r f h = small_answer (N.And s t) r (record { nodes = f.nodes; ranges = f.ranges; conditions = f.conditions }) h
  small_pair P.Minus s t r f h = small_answer (N.Minus s t) r (record { nodes = f.nodes; ranges = f.ranges; conditions = f.conditions }) h
  small_pair P.Cat s t r f h = small_answer (N.Cat s t) r (record { nodes = f.nodes; ranges = f.ranges; conditions = f.conditions }) h

-- ---- fit expressions

all_left : {X : Type 0} (Q : X → Type 0) (xs ys : List X) → All Q (xs ++ ys) → All Q xs
all_left Q xs ys h = All-from_In Q xs (λ x i. All-In Q (xs ++ ys) x h (In-append_left x xs ys i))

all_right : {X : Type 0} (Q : X → Type 0) (xs ys : List X) → All Q (xs ++ ys) → All Q ys
all_right Q xs ys h = All-from_In Q ys (λ x i. All-In Q (xs ++ ys) x h (In-append_right x xs ys i))

abbrev Few : List Range → Type 0
Few ranges = length ranges ≤ 256

right_number : (c : ℕ) → IsNumber 8 c → wrong_number c ≡ 0
right_number c n = by c n.0 n.1
  where
    by : (c : ℕ) → 1 ≤ c → c ≤ 8 → wrong_number c ≡ 0
    by c least most = grind (arith, nat_tests)

pub number_right : (c : ℕ) → wrong_number c ≡ 0 → (1 ≤ c) × (c ≤ 8)
number_right c e = (least c e, most c e)
  where
    least : (c : ℕ) → wrong_number c ≡ 0 → 1 ≤ c
    least c e = grind (arith, nat_tests)

    most : (c : ℕ) → wrong_number c ≡ 0 → c ≤ 8
    most c e = grind (arith, nat_tests)

fit_two : (m n x y : ℕ) → x ≤ 256 * m → y ≤ 256 * n → x + y ≤ 256 * (m + n + 1)
fit_two m n x y a b = omega arith

fit_one : (m x : ℕ) → x ≤ 256 * m → x ≤ 256 * (m + 1)
fit_one m x a = omega arith

pub ranges_fit : (t : Node) → All (λ (ranges : List Range). length ranges ≤ 256) (sets_in t) → ranges_in t ≤ 256 * size_of t
ranges_fit (N.Set ranges) h = let a : length ranges ≤ 256 = All-In Few (ranges ∷ []) ranges h (inl refl) in omega arith
ranges_fit N.Null h = omega arith
ranges_fit N.Nothing h = omega arith
ranges_fit (N.Union a b) h = fit_two (size_of a) (size_of b) (ranges_in a) (ranges_in b) (ranges_fit a (all_left Few (sets_in a) (sets_in b) h)) (ranges_fit b (all_right Few (sets_in a) (sets_in b) h))
ranges_fit (N.And a b) h = fit_two (size_of a) (size_of b) (ranges_in a) (ranges_in b) (ranges_fit a (all_left Few (sets_in a) (sets_in b) h)) (ranges_fit b (all_right Few (sets_in a) (sets_in b) h))
ranges_fit (N.Minus a b) h = fit_two (size_of a) (size_of b) (ranges_in a) (ranges_in b) (ranges_fit a (all_left Few (sets_in a) (sets_in b) h)) (ranges_fit b (all_right Few (sets_in a) (sets_in b) h))
ranges_fit (N.Cat a b) h = fit_two (size_of a) (size_of b) (ranges_in a) (ranges_in b) (ranges_fit a (all_left Few (sets_in a) (sets_in b) h)) (ranges_fit b (all_right Few (sets_in a) (sets_in b) h))
ranges_fit (N.Star a n) h = fit_one (size_of a) (ranges_in a) (ranges_fit a h)
ranges_fit (N.Enter a l) h = fit_one (size_of a) (ranges_in a) (ranges_fit a h)
ranges_fit (N.Finish a l) h = fit_one (size_of a) (ranges_in a) (ranges_fit a h)
ranges_fit (N.All a l) h = fit_one (size_of a) (ranges_in a) (ranges_fit a h)
ranges_fit (N.Leave a l) h = fit_one (size_of a) (ranges_in a) (ranges_fit a h)
ranges_fit (N.Mark a class kind s x) h = fit_one (size_of a) (ranges_in a) (ranges_fit a h)
ranges_fit (N.When a c) h = fit_one (size_of a) (ranges_in a) (ranges_fit a h)

none_two : (m n : ℕ) → m ≡ 0 → n ≡ 0 → m + n ≡ 0
none_two m n a b = omega arith

pub conditions_fit : (t : Node) → All (IsNumber 8) (conditions_in t) → wrong_numbers t ≡ 0
conditions_fit (N.Set ranges) h = refl
conditions_fit N.Null h = refl
conditions_fit N.Nothing h = refl
conditions_fit (N.Union a b) h = none_two (wrong_numbers a) (wrong_numbers b) (conditions_fit a (all_left (IsNumber 8) (conditions_in a) (conditions_in b) h)) (conditions_fit b (all_right (IsNumber 8) (conditions_in a) (conditions_in b) h))
conditions_fit (N.And a b) h = none_two (wrong_numbers a) (wrong_numbers b) (conditions_fit a (all_left (IsNumber 8) (conditions_in a) (conditions_in b) h)) (conditions_fit b (all_right (IsNumber 8) (conditions_in a) (conditions_in b) h))
conditions_fit (N.Minus a b) h = none_two (wrong_numbers a) (wrong_numbers b) (conditions_fit a (all_left (IsNumber 8) (conditions_in a) (conditions_in b) h)) (conditions_fit b (all_right (IsNumber 8) (conditions_in a) (conditions_in b) h))
conditions_fit (N.Cat a b) h = none_two (wrong_numbers a) (wrong_numbers b) (conditions_fit a (all_left (IsNumber 8) (conditions_in a) (conditions_in b) h)) (conditions_fit b (all_right (IsNumber 8) (conditions_in a) (conditions_in b) h))
conditions_fit (N.Star a n) h = conditions_fit a h
conditions_fit (N.Enter a l) h = conditions_fit a h
conditions_fit (N.Finish a l) h = conditions_fit a h
conditions_fit (N.All a l) h = conditions_fit a h
conditions_fit (N.Leave a l) h = conditions_fit a h
conditions_fit (N.Mark a class kind s x) h = conditions_fit a h
conditions_fit (N.When a c) h = none_two (wrong_number c) (wrong_numbers a) (right_number c (All-In (IsNumber 8) (c ∷ conditions_in a) c h (inl refl))) (conditions_fit a (all_right (IsNumber 8) (c ∷ []) (conditions_in a) h))

pub fit_from : (t : Node) → All (λ (ranges : List Range). length ranges ≤ 256) (sets_in t) → All (IsNumber 8) (conditions_in t) → size_of t ≤ 100000 → IsFit t
fit_from t h g l = record {
  nodes = l;
  ranges = let a : ranges_in t ≤ 256 * size_of t = ranges_fit t h in omega arith;
  conditions = conditions_fit t g;
}
