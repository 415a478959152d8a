-- The machine with the label where it is due follows the operator.
use Rattle.std.proofs.Common.{◌≡◌, ℕ, ℤ, zero, suc, ◌+◌, Bool, true, false, cond, ◌&&◌, List, [], ◌∷◌, map, Option, Some, None, option_map, slice_get, refl, ap, sym, ◌∙◌, subst, All, arith}
use Rattle.rl_sets.specs.Sets.{In}
use Rattle.rl_sets.proofs.SetLaws.{In-map_from}
use Rattle.rl_sets.proofs.OrderLaws.{nat_order}
use Rattle.rl_types.specs.declared.numbers.Letter.{Letter}
use Rattle.rl_labels.specs.declared.carry.Carry.{Carry}
use Rattle.rl_labels.specs.Carries.{no_carry, both_of}
use Rattle.rl_automata.specs.declared.moves.Move.{Move}
use Rattle.rl_automata.specs.declared.tree.Kind.{Kind}
use Rattle.rl_automata.specs.declared.tree.Label.{Label}
use Rattle.rl_automata.specs.Auto.{Auto, on_part, carrying, is_start, enter_auto, finish_auto, every_auto, leave_auto}
use Rattle.rl_automata.specs.Follows.{Reach, renamed, Follows}
use Rattle.rl_automata.specs.Nodes.{Node, carry_of}
use Rattle.rl_automata.specs.Marks.{auto}
use Rattle.rl_automata.proofs.Congruence.{follows_on}
use Rattle.rl_automata.proofs.Congruence1.{enter_follows, finish_follows, every_follows, leave_follows}
use Rattle.rl_automata.proofs.MarksLaws.{auto_order}
use Rattle.rl_fsm.specs.declared.edge.Edge.{Edge}
use Rattle.rl_fsm.specs.declared.state.State.{State}
use Rattle.rl_fsm.specs.Reads.{takes, asks_at}
use Rattle.rl_fsm.specs.Graphs.{Graph, fsm_auto, state_at, reads_of, edge_for, move_of, carry_out, marks_of}
use Rattle.rl_fsm.specs.Sound.{IsEdge, IsSound}
use Rattle.rl_fsm.specs.Builds.{IsNumbered, StandsFor, targets_in}
use Rattle.rl_fsm.proofs.PieceLaws.{All-In, All-from_In}
use Rattle.rl_embed.specs.declared.how.How.{How}
use Rattle.rl_embed.specs.declared.how.How.TheVariants.{Enter, Finish, All as EveryStep, Leave}
use Rattle.rl_embed.specs.Embeds.{embed_auto, embed_node, on_step, on_out}
use Rattle.rl_embed.specs.Changed.{changed, carried, embedded_edge, embedded_state, embedded}
use Rattle.rl_embed.proofs.ChangedLaws.{get_changed, KeepsEdges, changed_sound, changed_numbered}

-- ---- edges

module _ (how : How) (A : Auto ℕ) (label : Carry) where
  reads_same : (n : ℕ) (es : List Edge) → map reads_of (map (embedded_edge how A label n) es) ≡ map reads_of es
  reads_same n [] = refl
  reads_same n (e ∷ es) = ap (λ w. reads_of e ∷ w) (reads_same n es)

  leads_same : (n : ℕ) (es : List Edge) → map (λ (e : Edge). e.target) (map (embedded_edge how A label n) es) ≡ map (λ (e : Edge). e.target) es
  leads_same n [] = refl
  leads_same n (e ∷ es) = ap (λ w. e.target ∷ w) (leads_same n es)

  edge_sound : (n k : ℕ) (e : Edge) → IsEdge k e → IsEdge k (embedded_edge how A label n e)
  edge_sound n k e h = record { target = h.target; truths = h.truths; asks = h.asks; keys = h.keys }

  pub embedded_keeps : KeepsEdges (embedded_state how A label)
  embedded_keeps = record {
    reads = λ n s. reads_same n s.edges;
    leads = λ n s. leads_same n s.edges;
    each = λ n k s h. All-from_In (IsEdge k) (map (embedded_edge how A label n) s.edges) (λ x i.
        let p = In-map_from (embedded_edge how A label n) x s.edges i in
        subst (IsEdge k) p.2 (edge_sound n k p.0 (All-In (IsEdge k) s.edges p.0 h p.1)));
  }

  -- the step with the label, where it is due
  abbrev labelled : ℕ → Move ℕ → Move ℕ
  labelled n m = record { to = m.to; carry = carried (on_step how A n m.to) label m.carry }

  step_labelled : (n : ℕ) (l : Letter) (es : List Edge) → option_map move_of (edge_for l (map (embedded_edge how A label n) es)) ≡ option_map (labelled n) (option_map move_of (edge_for l es))
  step_labelled n l [] = refl
  step_labelled n l (e ∷ es) =
      elim (takes l (reads_of e)) as (λ b. option_map move_of (cond b (Some (embedded_edge how A label n e)) (edge_for l (map (embedded_edge how A label n) es))) ≡ option_map (labelled n) (option_map move_of (cond b (Some e) (edge_for l es)))) [
        | true ↦ refl
        | false ↦ step_labelled n l es
      ]

-- ---- the automaton

-- what is not final has no out that carries a label
not_out : (how : How) (A : Auto ℕ) (i : ℕ) → A.final i ≡ false → on_out how A i ≡ false
not_out Enter A i e = ap (λ b. is_start A i && b) e ∙ never (is_start A i)
  where
    never : (b : Bool) → (b && false) ≡ false
    never true = refl
    never false = refl
not_out Finish A i e = refl
not_out EveryStep A i e = refl
not_out Leave A i e = e

module _ (how : How) (label : Carry) (m : Graph) where
  abbrev A : Auto ℕ
  A = fsm_auto m

  -- the operator in the form in which states are changed
  abbrev labelling : Auto ℕ
  labelling = record A {
    step = λ i l. option_map (labelled how A label i) (A.step i l);
    out = λ i. carried (on_out how A i) label (A.out i);
  }

  there : (i : ℕ) → state_at (embedded how label m) i ≡ option_map (embedded_state how A label i) (state_at m i)
  there i = get_changed (embedded_state how A label) 0 m.states i ∙ ap (λ k. option_map (embedded_state how A label k) (state_at m i)) (zero_plus i)
    where
      zero_plus : (i : ℕ) → 0 + i ≡ i
      zero_plus i = omega arith

  abbrev new : ℕ → Option State → Option State
  new i o = option_map (embedded_state how A label i) o

  step_is : (i : ℕ) (l : Letter) (o : Option State)
      → on_part None (λ (s : State). option_map move_of (edge_for l s.edges)) (new i o) ≡ option_map (labelled how A label i) (on_part None (λ (s : State). option_map move_of (edge_for l s.edges)) o)
  step_is i l None = refl
  step_is i l (Some s) = step_labelled how A label i l s.edges

  final_is : (i : ℕ) (o : Option State) → on_part false (λ (s : State). s.fin) (new i o) ≡ on_part false (λ (s : State). s.fin) o
  final_is i None = refl
  final_is i (Some s) = refl

  out_is : (i : ℕ) (o : Option State) → state_at m i ≡ o → on_part no_carry (λ (s : State). carry_out s.out) (new i o) ≡ carried (on_out how A i) label (on_part no_carry (λ (s : State). carry_out s.out) o)
  out_is i None e = ap (λ b. cond b (both_of label no_carry) no_carry) (sym (not_out how A i (ap (λ o. on_part false (λ (s : State). s.fin) o) e)))
  out_is i (Some s) e = refl

  marks_is : (i : ℕ) (k : Kind) (o : Option State) → on_part [] (λ (s : State). marks_of k s.marks) (new i o) ≡ on_part [] (λ (s : State). marks_of k s.marks) o
  marks_is i k None = refl
  marks_is i k (Some s) = refl

  asked_is : (i : ℕ) (k : ℤ) (o : Option State) → on_part 0 (λ (s : State). asks_at k (map reads_of s.edges)) (new i o) ≡ on_part 0 (λ (s : State). asks_at k (map reads_of s.edges)) o
  asked_is i k None = refl
  asked_is i k (Some s) = ap (asks_at k) (reads_same how A label i s.edges)

  labelling_is : fsm_auto (embedded how label m) ≡ labelling
  labelling_is = λ j. record {
    order = A.order;
    start = m.start;
    step = λ i l. (ap (λ o. on_part None (λ (s : State). option_map move_of (edge_for l s.edges)) o) (there i) ∙ step_is i l (state_at m i)) j;
    final = λ i. (ap (λ o. on_part false (λ (s : State). s.fin) o) (there i) ∙ final_is i (state_at m i)) j;
    out = λ i. (ap (λ o. on_part no_carry (λ (s : State). carry_out s.out) o) (there i) ∙ out_is i (state_at m i) refl) j;
    marks = λ i k. (ap (λ o. on_part [] (λ (s : State). marks_of k s.marks) o) (there i) ∙ marks_is i k (state_at m i)) j;
    asked = λ i k. (ap (λ o. on_part 0 (λ (s : State). asks_at k (map reads_of s.edges)) o) (there i) ∙ asked_is i k (state_at m i)) j;
  }

-- each form of the label is the operator
same_step : (p : Option (Move ℕ)) → option_map (λ (n : Move ℕ). n) p ≡ p
same_step None = refl
same_step (Some n) = refl

one_step : (b : Bool) (label : Carry) (n : Move ℕ) → record { to = n.to; carry = carried b label n.carry } ≡ cond b (carrying label n) n
one_step true label n = refl
one_step false label n = refl

either_step : (b : Bool) (label : Carry) (p : Option (Move ℕ)) → option_map (λ (n : Move ℕ). record { to = n.to; carry = carried b label n.carry }) p ≡ cond b (option_map (carrying label) p) p
either_step true label p = refl
either_step false label p = same_step p

pub operator_is : (how : How) (label : Carry) (m : Graph) → labelling how label m ≡ embed_auto how (fsm_auto m) label
operator_is Enter label m = let A = fsm_auto m in λ j. record (enter_auto A label) { step = λ i l. either_step (is_start A i) label (A.step i l) j }
operator_is Finish label m = let A = fsm_auto m in λ j. record (finish_auto A label) { step = λ i l. option_map (λ (n : Move ℕ). one_step (A.final n.to) label n j) (A.step i l) }
operator_is EveryStep label m = refl
operator_is Leave label m = let A = fsm_auto m in λ j. record (leave_auto A label) { step = λ i l. same_step (A.step i l) j }

pub same_moves : (p : Option (Move ℕ)) → option_map (renamed (λ i. i)) p ≡ p
same_moves None = refl
same_moves (Some n) = refl

-- what is the same automaton follows it, and numbers stay
pub same_follows : {A B : Auto ℕ} → A ≡ B → Follows A B (λ i. i)
same_follows {A} e = subst (λ B. Follows A B (λ i. i)) e (record {
  start = refl;
  step = λ s r l. same_moves (A.step s l);
  final = λ s r. refl;
  out = λ s r. refl;
  marks = λ s r k. refl;
  asked = λ s r k. refl;
  apart = λ s t r q e. e;
})

pub embedded_follows : (how : How) (label : Carry) (m : Graph) → Follows (fsm_auto (embedded how label m)) (embed_auto how (fsm_auto m) label) (λ i. i)
embedded_follows how label m = same_follows (labelling_is how label m ∙ operator_is how label m)

-- ---- expressions

pub embed_stands : (how : How) (l : Label) (a r : Graph) → IsSound r → (IsNumbered a → IsNumbered r) → Follows (fsm_auto r) (embed_auto how (fsm_auto a) (carry_of l)) (λ i. i)
    → (t : Node) → StandsFor t a → StandsFor (embed_node how t l) r
embed_stands Enter l a r s n F t x k h =
    let b = x k h in record { sound = s; numbered = n b.numbered; name = b.name; follows = follows_on (λ i. i) b.name F (enter_follows nat_order (auto_order t k) b.follows (carry_of l)) }
embed_stands Finish l a r s n F t x k h = let b = x k h in record { sound = s; numbered = n b.numbered; name = b.name; follows = follows_on (λ i. i) b.name F (finish_follows b.follows (carry_of l)) }
embed_stands EveryStep l a r s n F t x k h = let b = x k h in record { sound = s; numbered = n b.numbered; name = b.name; follows = follows_on (λ i. i) b.name F (every_follows b.follows (carry_of l)) }
embed_stands Leave l a r s n F t x k h = let b = x k h in record { sound = s; numbered = n b.numbered; name = b.name; follows = follows_on (λ i. i) b.name F (leave_follows b.follows (carry_of l)) }

-- ---- what is promised of the machine r that was made of a

module _ (how : How) (x : Carry) (a r : Graph) (e : r ≡ embedded how x a) where
  pub follows_from : (y : Carry) → x ≡ y → Follows (fsm_auto r) (embed_auto how (fsm_auto a) y) (λ i. i)
  follows_from y d = subst (λ z. Follows (fsm_auto r) (embed_auto how (fsm_auto a) z) (λ i. i)) d (subst (λ w. Follows (fsm_auto w) (embed_auto how (fsm_auto a) x) (λ i. i)) (sym e) (embedded_follows how x a))

  pub numbered_from : IsNumbered a → IsNumbered r
  numbered_from n = subst IsNumbered (sym e) (changed_numbered (embedded_state how (fsm_auto a) x) (embedded_keeps how (fsm_auto a) x) a n)

  pub sound_from : IsSound a → IsSound r
  sound_from s = subst IsSound (sym e) (changed_sound (embedded_state how (fsm_auto a) x) (embedded_keeps how (fsm_auto a) x) a s)

  pub stands_from : (l : Label) → x ≡ carry_of l → IsSound a → (t : Node) → StandsFor t a → StandsFor (embed_node how t l) r
  stands_from l d s = embed_stands how l a r (sound_from s) numbered_from (follows_from (carry_of l) d)
