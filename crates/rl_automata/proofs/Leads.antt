-- Where the steps of an embedding, of a guard and of a pruned automaton lead: where the operand's do.
use Rattle.std.proofs.Common.{◌≡◌, ℕ, Bool, true, false, cond, refl, sym, ◌∙◌, ap, subst, Option, Some, None, option_map}
use Rattle.rl_types.specs.declared.numbers.Letter.{Letter}
use Rattle.rl_labels.specs.declared.carry.Carry.{Carry}
use Rattle.rl_automata.specs.declared.moves.Move.{Move}
use Rattle.rl_automata.specs.Auto.{Auto, carrying, is_start, enter_auto, finish_auto, every_auto, guarded_step, live_step, only_live, holds}
use Rattle.rl_automata.specs.Follows.{Reach, begun, went}
use Rattle.rl_automata.proofs.Congruence.{reach_all, some_in, none_in}

-- each step of A' leads where a step of A does
abbrev pub LeadsAs : {S : Type 0} → Auto S → Auto S → Type 0
LeadsAs {S} A' A = (s : S) (l : Letter) (m : Move S) → A'.step s l ≡ Some m → (n : Move S) × (A.step s l ≡ Some n) × (n.to ≡ m.to)

pub reach_in : {S : Type 0} {A A' : Auto S} → A'.start ≡ A.start → LeadsAs A' A → (s : S) → Reach A' s → Reach A s
reach_in {A = A} b w = reach_all (Reach A) (subst (Reach A) (sym b) begun) (λ s r h l m e. let p = w s l m e in subst (Reach A) p.2 (went h l p.0 p.1))

mapped : {S : Type 0} (h : Move S → Move S) → ((m : Move S) → (h m).to ≡ m.to) → (o : Option (Move S)) (m : Move S) → option_map h o ≡ Some m → (n : Move S) × (o ≡ Some n) × (n.to ≡ m.to)
mapped h same None m e = none_in m e
mapped h same (Some n) m e = (n, refl, sym (same n) ∙ ap (λ w. w.to) (some_in (h n) m e))

module _ {S : Type 0} (A : Auto S) where
  pub every_leads : (x : Carry) → LeadsAs (every_auto A x) A
  every_leads x s l m e = mapped (carrying x) (λ n. refl) (A.step s l) m e

  pub finish_leads : (x : Carry) → LeadsAs (finish_auto A x) A
  finish_leads x s l m e =
      mapped (λ n. cond (A.final n.to) (carrying x n) n) (λ n. elim (A.final n.to) as (λ b. (cond b (carrying x n) n).to ≡ n.to) [ true ↦ refl | false ↦ refl ]) (A.step s l) m e

  pub enter_leads : (x : Carry) → LeadsAs (enter_auto A x) A
  enter_leads x s l m e = by (is_start A s) e
    where
      by : (b : Bool) → cond b (option_map (carrying x) (A.step s l)) (A.step s l) ≡ Some m → (n : Move S) × (A.step s l ≡ Some n) × (n.to ≡ m.to)
      by true e = mapped (carrying x) (λ n. refl) (A.step s l) m e
      by false e = (m, e, refl)

  pub guard_leads : (c : ℕ) → LeadsAs (record A { step = guarded_step A c }) A
  guard_leads c s l m e = by (holds c l.truths) e
    where
      by : (b : Bool) → cond b (A.step s l) None ≡ Some m → (n : Move S) × (A.step s l ≡ Some n) × (n.to ≡ m.to)
      by true e = (m, e, refl)
      by false e = none_in m e

  pub live_leads : (live : S → Bool) → LeadsAs (record A { step = live_step A live }) A
  live_leads live s l m e = (m, by (A.step s l) e, refl)
    where
      by : (o : Option (Move S)) → only_live live o ≡ Some m → o ≡ Some m
      by None e = e
      by (Some n) e =
          (elim (live n.to) as (λ b. cond b (Some n) None ≡ Some m → Some n ≡ Some m) [
            | true ↦ λ e. e
            | false ↦ λ e. none_in m e
          ]) e
