-- Faults of a node and their causes, and what the operators make of operands.
use Rattle.std.proofs.Common.{◌≡◌, ℕ, ◌/◌, ◌<◌, ◌≤◌, Bool, false, length, refl, sym, ◌∙◌, subst, ◌↔◌, arith, true≢false}
use Rattle.std.specs.Prelude.{Result, Ok, Err, IfOk, IfErr, OnOk}
use Rattle.rl_types.specs.declared.numbers.Letter.{Letter}
use Rattle.rl_types.specs.declared.alphabet.Alphabet.{Alphabet}
use Rattle.rl_automata.specs.Auto.{Auto, union_auto, and_auto, minus_auto, both_jams, cat_auto, cat_jams, star_auto, star_jams}
use Rattle.rl_automata.specs.Nodes as N
use Rattle.rl_automata.specs.Nodes.{Node, Conf}
use Rattle.rl_automata.specs.Marks.{HasMarks}
use Rattle.rl_automata.specs.Sites.{Below, AreHonestBelow, raw_auto, node_jams, AtNode}
use Rattle.rl_automata.specs.Refused as refused
use Rattle.rl_automata.specs.Refused.{HasMore, Cause, IsRefusedFor, IsAccepted, site_width}
use Rattle.rl_automata.proofs.Congruence.{none_in}
use Rattle.rl_automata.proofs.CountLaws.{cells_more}
use Rattle.rl_explore.specs.declared.fault.BuildFault.{BuildFault}
use Rattle.rl_explore.specs.declared.fault.BuildFault.TheVariants.{L6, L8, F12, F15, Memory}
use Rattle.rl_explore.specs.Numbers.{IsCause, HasNoCause}
use Rattle.rl_fsm.specs.Graphs.{Graph, fsm_auto}
use Rattle.rl_fsm.specs.Builds.{Builds, StandsFor}
use Rattle.rl_ops.proofs.CauseLaws.{union_causes, and_causes, minus_causes, cat_causes, star_causes}
use Rattle.rl_build.specs.Nodes.{IsOperand, Accepts, Fails, IsMadeFor, IsOver, IsPlain}
use Rattle.rl_build.specs.Trees.{OfCause}
use Rattle.rl_build.proofs.StateCounts.{states_counted}

-- ---- causes of faults are those of refusals

module _ (alphabet : Alphabet) (t : Node) (k : Below t) (width : ℕ) (wide : site_width alphabet (AtNode t k) ≡ width) (some : 0 < width) where
  -- more cells are more configurations
  more_cells : refused.HasTooManyCells alphabet (AtNode t k) ↔ HasMore (raw_auto t k) (4194304 / width)
  more_cells = subst (λ w. refused.HasMoreCells (raw_auto t k) w 4194304 ↔ HasMore (raw_auto t k) (4194304 / width)) (sym wide) (cells_more (raw_auto t k) width 4194304 some)

  pub accepted_for : HasNoCause (raw_auto t k) (node_jams t k) (4194304 / width) → IsAccepted alphabet (AtNode t k)
  accepted_for n refused.L6 r = n.0 r
  accepted_for n refused.L8 r = n.1 (more_cells.0 r.1)
  accepted_for n refused.F15 r = n.2 r.2
  accepted_for n (refused.F12 i) r = none_in i r.3

  pub refused_for : (e : BuildFault) → IsCause (raw_auto t k) (node_jams t k) (4194304 / width) e → OfCause e (IsRefusedFor alphabet (AtNode t k))
  refused_for L6 h = h
  refused_for L8 h = (h.0, more_cells.1 h.1)
  refused_for (F12 i) h = h
  refused_for F15 h = (h.0, (λ m. h.1 (more_cells.0 m)), h.2)
  refused_for Memory h = tt

-- ---- no cause goes along with names

no_cause_along : {S T : Type 0} (A : Auto S) (B : Auto T) (j : S → Letter → Bool) (j' : T → Letter → Bool) (most : ℕ) → ((e : BuildFault) → IsCause A j most e ↔ IsCause B j' most e) → HasNoCause A j most → HasNoCause B j' most
no_cause_along A B j j' most h n =
    let few : ¬ HasMore B 32767 = λ q. n.0 ((h L6).1 q) in
    let within : ¬ HasMore B most = λ q. n.1 ((h L8).1 (few, q)).1 in
    (few, within, λ q. n.2 ((h F15).1 (few, within, q)).2)

-- ---- operators

pub union_made : (a b : Graph) (most : ℕ) (r : Result Graph BuildFault) (s t : Node) → IsOperand s a → IsOperand t b
    → IfOk r (λ m. (s t : Node) → StandsFor s a → StandsFor t b → StandsFor (N.Union s t) m)
    → OnOk r (HasNoCause (union_auto (fsm_auto a) (fsm_auto b)) (both_jams (fsm_auto a) (fsm_auto b)) most)
    → IfErr r (IsCause (union_auto (fsm_auto a) (fsm_auto b)) (both_jams (fsm_auto a) (fsm_auto b)) most)
    → IsMadeFor (N.Union s t) most r
union_made a b most (Ok m) s t x y stands free cause = record {
  stands = stands s t x.stands y.stands;
  tests = ((x.tests.0, y.tests.0), (x.tests.1, y.tests.1));
  clear = λ k h. no_cause_along _ _ _ _ most (union_causes s t k.0 k.1 a b (x.stands k.0 h.0) (y.stands k.1 h.1) most) free;
}
union_made a b most (Err e) s t x y stands free cause = λ k h. (union_causes s t k.0 k.1 a b (x.stands k.0 h.0) (y.stands k.1 h.1) most e).0 cause

pub and_made : (a b : Graph) (most : ℕ) (r : Result Graph BuildFault) (s t : Node) → IsOperand s a → IsOperand t b
    → IfOk r (λ m. (s t : Node) → StandsFor s a → StandsFor t b → StandsFor (N.And s t) m)
    → OnOk r ((s t : Node) → StandsFor s a → StandsFor t b → HasMarks s → HasMarks t → HasMarks (N.And s t))
    → OnOk r (HasNoCause (and_auto (fsm_auto a) (fsm_auto b)) (both_jams (fsm_auto a) (fsm_auto b)) most)
    → IfErr r (IsCause (and_auto (fsm_auto a) (fsm_auto b)) (both_jams (fsm_auto a) (fsm_auto b)) most)
    → IsMadeFor (N.And s t) most r
and_made a b most (Ok m) s t x y stands tests free cause = record {
  stands = stands s t x.stands y.stands;
  tests = tests s t x.stands y.stands x.tests y.tests;
  clear = λ k h. no_cause_along _ _ _ _ most (and_causes s t k.0 k.1 a b (x.stands k.0 h.0) (y.stands k.1 h.1) most) free;
}
and_made a b most (Err e) s t x y stands tests free cause = λ k h. (and_causes s t k.0 k.1 a b (x.stands k.0 h.0) (y.stands k.1 h.1) most e).0 cause

pub minus_made : (a b : Graph) (most : ℕ) (r : Result Graph BuildFault) (s t : Node) → IsOperand s a → IsOperand t b
    → IfOk r (λ m. (s t : Node) → StandsFor s a → StandsFor t b → StandsFor (N.Minus s t) m)
    → OnOk r ((s t : Node) → StandsFor s a → StandsFor t b → HasMarks s → HasMarks t → HasMarks (N.Minus s t))
    → OnOk r (HasNoCause (minus_auto (fsm_auto a) (fsm_auto b)) (both_jams (fsm_auto a) (fsm_auto b)) most)
    → IfErr r (IsCause (minus_auto (fsm_auto a) (fsm_auto b)) (both_jams (fsm_auto a) (fsm_auto b)) most)
    → IsMadeFor (N.Minus s t) most r
minus_made a b most (Ok m) s t x y stands tests free cause = record {
  stands = stands s t x.stands y.stands;
  tests = tests s t x.stands y.stands x.tests y.tests;
  clear = λ k h. no_cause_along _ _ _ _ most (minus_causes s t k.0 k.1 a b (x.stands k.0 h.0) (y.stands k.1 h.1) most) free;
}
minus_made a b most (Err e) s t x y stands tests free cause = λ k h. (minus_causes s t k.0 k.1 a b (x.stands k.0 h.0) (y.stands k.1 h.1) most e).0 cause

pub cat_made : (a b : Graph) (most : ℕ) (r : Result Graph BuildFault) (s t : Node) → IsOperand s a → IsOperand t b
    → IfOk r (λ m. (s t : Node) → StandsFor s a → StandsFor t b → StandsFor (N.Cat s t) m)
    → OnOk r (HasNoCause (cat_auto (fsm_auto a) (fsm_auto b)) (cat_jams (fsm_auto a) (fsm_auto b)) most)
    → IfErr r (IsCause (cat_auto (fsm_auto a) (fsm_auto b)) (cat_jams (fsm_auto a) (fsm_auto b)) most)
    → IsMadeFor (N.Cat s t) most r
cat_made a b most (Ok m) s t x y stands free cause = record {
  stands = stands s t x.stands y.stands;
  tests = ((x.tests.0, y.tests.0), (x.tests.1, y.tests.1));
  clear = λ k h. no_cause_along _ _ _ _ most (cat_causes s t k.0 k.1 a b (x.stands k.0 h.0) (y.stands k.1 h.1) most) free;
}
cat_made a b most (Err e) s t x y stands free cause = λ k h. (cat_causes s t k.0 k.1 a b (x.stands k.0 h.0) (y.stands k.1 h.1) most e).0 cause

pub star_made : (a : Graph) (base most : ℕ) (r : Result Graph BuildFault) (t : Node) → IsOperand t a
    → IfOk r (λ m. (s : Node) → StandsFor s a → StandsFor (N.Star s base) m)
    → OnOk r (HasNoCause (star_auto (fsm_auto a) base) (star_jams (fsm_auto a) base) most)
    → IfErr r (IsCause (star_auto (fsm_auto a) base) (star_jams (fsm_auto a) base) most)
    → IsMadeFor (N.Star t base) most r
star_made a base most (Ok m) t x stands free cause = record {
  stands = stands t x.stands;
  tests = x.tests;
  clear = λ k h. no_cause_along _ _ _ _ most (star_causes t k a base (x.stands k h) most) free;
}
star_made a base most (Err e) t x stands free cause = λ k h. (star_causes t k a base (x.stands k h) most e).0 cause

-- ---- plain nodes

plain_builds : (t : Node) (m : Graph) → IsPlain t → StandsFor t m → (k : Below t) → AreHonestBelow t k → Builds (raw_auto t k) m
plain_builds (N.Set ranges) m p s k h = s k h
plain_builds N.Null m p s k h = s k h
plain_builds N.Nothing m p s k h = s k h
plain_builds (N.Union a b) m p s k h = absurd p
plain_builds (N.And a b) m p s k h = absurd p
plain_builds (N.Minus a b) m p s k h = absurd p
plain_builds (N.Cat a b) m p s k h = absurd p
plain_builds (N.Star a n) m p s k h = absurd p
plain_builds (N.Enter a l) m p s k h = s k h
plain_builds (N.Finish a l) m p s k h = s k h
plain_builds (N.All a l) m p s k h = s k h
plain_builds (N.Leave a l) m p s k h = s k h
plain_builds (N.Mark a class kind n x) m p s k h = s k h
plain_builds (N.When a c) m p s k h = s k h

plain_jams : (t : Node) → IsPlain t → (k : Below t) (c : Conf t) (l : Letter) → node_jams t k c l ≡ false
plain_jams (N.Set ranges) p k c l = refl
plain_jams N.Null p k c l = refl
plain_jams N.Nothing p k c l = refl
plain_jams (N.Union a b) p k c l = absurd p
plain_jams (N.And a b) p k c l = absurd p
plain_jams (N.Minus a b) p k c l = absurd p
plain_jams (N.Cat a b) p k c l = absurd p
plain_jams (N.Star a n) p k c l = absurd p
plain_jams (N.Enter a x) p k c l = refl
plain_jams (N.Finish a x) p k c l = refl
plain_jams (N.All a x) p k c l = refl
plain_jams (N.Leave a x) p k c l = refl
plain_jams (N.Mark a class kind n x) p k c l = refl
plain_jams (N.When a x) p k c l = refl

module _ (t : Node) (m : Graph) (most : ℕ) (p : IsPlain t) (tests : HasMarks t) (s : StandsFor t m) where
  counted : (k : Below t) (h : AreHonestBelow t k) (n : ℕ) → HasMore (raw_auto t k) n ↔ (n < length m.states)
  counted k h n = states_counted (raw_auto t k) m n (plain_builds t m p s k h)

  pub plain_made : length m.states ≤ 32767 → length m.states ≤ most → Accepts t most m
  plain_made few within = record {
    stands = s;
    tests = tests;
    clear = λ k h. (
      (λ q. let lt : 32767 < length m.states = (counted k h 32767).0 q in absurd (omega arith)),
      (λ q. let lt : most < length m.states = (counted k h most).0 q in absurd (omega arith)),
      (λ q. absurd (true≢false (sym q.3 ∙ plain_jams t p k q.0 q.2))),
    );
  }

  pub plain_over : (e : BuildFault) → IsOver (length m.states) most e → Fails t most e
  plain_over L6 many = λ k h. (counted k h 32767).1 many
  plain_over L8 (few, many) = λ k h. ((λ q. let lt : 32767 < length m.states = (counted k h 32767).0 q in absurd (omega arith)), (counted k h most).1 many)
  plain_over (F12 i) many = absurd many
  plain_over F15 many = absurd many
  plain_over Memory many = absurd many
