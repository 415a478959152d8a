-- The machine whose states of a class have one more mark follows the operator.
use Rattle.std.proofs.Common.{◌≡◌, ℕ, ℤ, ◌+◌, Bool, true, false, cond, ◌&&◌, List, [], ◌∷◌, map, Option, Some, None, option_map, slice_get, refl, ap, sym, ◌∙◌, subst, arith}
use Rattle.rl_sets.proofs.OrderLaws.{nat_order}
use Rattle.rl_types.specs.declared.numbers.Letter.{Letter}
use Rattle.rl_labels.specs.declared.stamped.Stamp.{Stamp}
use Rattle.rl_labels.specs.Labels.{stamps_of}
use Rattle.rl_labels.specs.Carries.{no_carry}
use Rattle.rl_automata.specs.declared.moves.Move.{Move}
use Rattle.rl_automata.specs.declared.tree.Class.{Class}
use Rattle.rl_automata.specs.declared.tree.Kind.{Kind}
use Rattle.rl_automata.specs.declared.tree.Kind.TheVariants.{To, From, Eof, Error}
use Rattle.rl_automata.specs.Auto.{Auto, on_part, in_class, same_kind, mark_auto}
use Rattle.rl_automata.specs.Follows.{Reach, renamed, Follows}
use Rattle.rl_automata.specs.Nodes as N
use Rattle.rl_automata.specs.Nodes.{Node}
use Rattle.rl_automata.specs.Marks.{auto}
use Rattle.rl_automata.proofs.Congruence.{follows_on}
use Rattle.rl_automata.proofs.Congruence1.{mark_follows}
use Rattle.rl_automata.proofs.Leads.{reach_in}
use Rattle.rl_automata.proofs.MarksLaws.{auto_order}
use Rattle.rl_fsm.specs.declared.state.Marks.{Marks}
use Rattle.rl_fsm.specs.declared.state.State.{State}
use Rattle.rl_fsm.specs.Reads.{asks_at}
use Rattle.rl_fsm.specs.Graphs.{Graph, fsm_auto, state_at, reads_of, edge_for, move_of, carry_out, marks_of}
use Rattle.rl_fsm.specs.Sound.{IsSound}
use Rattle.rl_fsm.specs.Builds.{IsNumbered, StandsFor}
use Rattle.rl_embed.specs.Marked.{marked_with, more_marks, marked_state, marked}
use Rattle.rl_embed.proofs.ChangedLaws.{get_changed, KeepsEdges, changed_sound, changed_numbered}
use Rattle.rl_embed.proofs.EmbedLaws.{same_moves}
use Rattle.rl_embed.proofs.StatesLaws.{reached_there}

pub marked_keeps : (class : Class) (kind : Kind) (x : Stamp) (A : Auto ℕ) → KeepsEdges (marked_state class kind x A)
marked_keeps class kind x A = record { reads = λ n s. refl; leads = λ n s. refl; each = λ n k s h. h }

module _ (class : Class) (kind : Kind) (x : Stamp) (m : Graph) where
  abbrev A : Auto ℕ
  A = fsm_auto m

  abbrev new : ℕ → Option State → Option State
  new i o = option_map (marked_state class kind x A i) o

  there : (i : ℕ) → state_at (marked class kind x m) i ≡ new i (state_at m i)
  there i = get_changed (marked_state class kind x A) 0 m.states i ∙ ap (λ k. new k (state_at m i)) (zero_plus i)
    where
      zero_plus : (i : ℕ) → 0 + i ≡ i
      zero_plus i = omega arith

  -- what a state says that the mark does not touch
  told : {X : Type 0} (d : X) (f : State → X) → ((i : ℕ) (s : State) → f (marked_state class kind x A i s) ≡ f s) → (i : ℕ) → on_part d f (state_at (marked class kind x m) i) ≡ on_part d f (state_at m i)
  told d f same i = ap (on_part d f) (there i) ∙ by (state_at m i)
    where
      by : (o : Option State) → on_part d f (new i o) ≡ on_part d f o
      by None = refl
      by (Some s) = same i s

  more_is : (due : Bool) (k : Kind) (n : Marks) → marks_of k (more_marks due kind x n) ≡ marked_with (same_kind kind k && due) x (marks_of k n)
  more_is due To n = refl
  more_is due From n = refl
  more_is due Eof n = refl
  more_is due Error n = refl

  marks_are : (i : ℕ) (k : Kind) (s : State) → state_at m i ≡ Some s → (fsm_auto (marked class kind x m)).marks i k ≡ (mark_auto A class kind x).marks i k
  marks_are i k s e =
      ap (λ o. on_part [] (λ (s : State). marks_of k s.marks) o) (there i ∙ ap (new i) e)
      ∙ more_is (in_class A class i) k s.marks
      ∙ ap (λ o. marked_with (same_kind kind k && in_class A class i) x (on_part [] (λ (s : State). marks_of k s.marks) o)) (sym e)

  abbrev step_of : Letter → State → Option (Move ℕ)
  step_of l s = option_map move_of (edge_for l s.edges)

  step_is : (i : ℕ) (l : Letter) → (fsm_auto (marked class kind x m)).step i l ≡ A.step i l
  step_is i l = told None (step_of l) (λ i s. refl) i

  reach_back : (i : ℕ) → Reach (fsm_auto (marked class kind x m)) i → Reach A i
  reach_back = reach_in {A = A} {A' = fsm_auto (marked class kind x m)} refl (λ s l n e. (n, sym (step_is s l) ∙ e, refl))

  pub marked_follows : IsSound m → Follows (fsm_auto (marked class kind x m)) (mark_auto A class kind x) (λ i. i)
  marked_follows h = record {
    start = refl;
    step = λ s r l. same_moves ((fsm_auto (marked class kind x m)).step s l) ∙ step_is s l;
    final = λ s r. told false (λ (s : State). s.fin) (λ i s. refl) s;
    out = λ s r. told no_carry (λ (s : State). carry_out s.out) (λ i s. refl) s;
    marks = λ s r k. let p = reached_there m h s (reach_back s r) in marks_are s k p.0 p.1;
    asked = λ s r k. told 0 (λ (s : State). asks_at k (map reads_of s.edges)) (λ i s. refl) s;
    apart = λ s t r q e. e;
  }

-- ---- what is promised of the machine r that was made of a

module _ (class : Class) (kind : Kind) (x : Stamp) (a r : Graph) (e : r ≡ marked class kind x a) where
  pub follows_from : IsSound a → Follows (fsm_auto r) (mark_auto (fsm_auto a) class kind x) (λ i. i)
  follows_from s = subst (λ w. Follows (fsm_auto w) (mark_auto (fsm_auto a) class kind x) (λ i. i)) (sym e) (marked_follows class kind x a s)

  pub numbered_from : IsNumbered a → IsNumbered r
  numbered_from n = subst IsNumbered (sym e) (changed_numbered (marked_state class kind x (fsm_auto a)) (marked_keeps class kind x (fsm_auto a)) a n)

  pub sound_from : IsSound a → IsSound r
  sound_from s = subst IsSound (sym e) (changed_sound (marked_state class kind x (fsm_auto a)) (marked_keeps class kind x (fsm_auto a)) a s)

pub stands_from : (class : Class) (kind : Kind) (stamp action : ℕ) (a r : Graph) → r ≡ marked class kind (record { major = stamp; minor = 0; action = record { 0 = action } }) a → IsSound a
    → (t : Node) → StandsFor t a → StandsFor (N.Mark t class kind stamp action) r
stands_from class kind stamp action a r e s t w k h =
    let x : Stamp = record { major = stamp; minor = 0; action = record { 0 = action } } in
    let b = w k h in
    record {
      sound = sound_from class kind x a r e s;
      numbered = numbered_from class kind x a r e b.numbered;
      name = b.name;
      follows = follows_on (λ i. i) b.name (follows_from class kind x a r e s) (mark_follows nat_order (auto_order t k) b.follows class kind x);
    }
