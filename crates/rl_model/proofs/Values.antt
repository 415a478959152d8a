-- A test of states, with its values at some states written out.
use Rattle.std.proofs.Common.{◌≡◌, Bool, true, false, true≢false, cond, List, [], ◌∷◌, refl, sym, ◌∙◌, ap, subst, Option, Some, None, option_map, Ordering}
use Rattle.std.specs.Ordering.{eq_by_cmp}
use Rattle.rl_sets.specs.Order.{IsOrder}
use Rattle.rl_sets.proofs.OrderLaws.{eq_by_cmp-same}
use Rattle.rl_types.specs.declared.numbers.Letter.{Letter}
use Rattle.rl_automata.specs.declared.moves.Move.{Move}
use Rattle.rl_automata.specs.Auto.{Auto}
use Rattle.rl_automata.specs.Follows.{Reach, went}
use Rattle.rl_automata.specs.Nodes.{Ends}
use Rattle.rl_automata.proofs.Congruence.{some_in, none_in}

module _ {S : Type 0} (cmp : S → S → Ordering) (test : S → Bool) where
  abbrev pub with_values : List (S × Bool) → S → Bool
  with_values [] c = test c
  with_values (p ∷ ps) c = cond (eq_by_cmp cmp c p.0) p.1 (with_values ps c)

  abbrev pub AreValues : List (S × Bool) → Type 0
  AreValues [] = Unit {0}
  AreValues (p ∷ ps) = (test p.0 ≡ p.1) × AreValues ps

  -- it is the same test
  pub same_values : IsOrder cmp → (ps : List (S × Bool)) → AreValues ps → with_values ps ≡ test
  same_values o ps h = λ i c. each ps h c i
    where
      each : (ps : List (S × Bool)) → AreValues ps → (c : S) → with_values ps c ≡ test c
      each [] h c = refl
      each (p ∷ ps) h c =
          (elim (eq_by_cmp cmp c p.0) as (λ b. eq_by_cmp cmp c p.0 ≡ b → cond b p.1 (with_values ps c) ≡ test c) [
            | true ↦ λ e. sym h.0 ∙ ap test (sym (eq_by_cmp-same o c p.0 e))
            | false ↦ λ e. each ps h.1 c
          ]) refl

-- a state to which a letter leads from one that is reached
pub step_reaches : {S : Type 0} {A : Auto S} (s c : S) (l : Letter) → option_map (λ (m : Move S). m.to) (A.step s l) ≡ Some c → Reach A s → Reach A c
step_reaches {S} {A} s c l e r =
    (elim (A.step s l) as (λ o. A.step s l ≡ o → option_map (λ (m : Move S). m.to) o ≡ Some c → Reach A c) [
      | None ↦ λ p q. none_in c q
      | Some m ↦ λ p q. subst (Reach A) (some_in m.to c q) (went r l m p)
    ]) refl e

module _ {S : Type 0} (A : Auto S) where
  -- where a word leads; on letters without a step it stays
  abbrev pub led : S → List Letter → S
  led s [] = s
  led s (l ∷ w) = led (elim (A.step s l) [ None ↦ s | Some m ↦ m.to ]) w

  pub led_reach : (s : S) (w : List Letter) → Reach A s → Reach A (led s w)
  led_reach s [] r = r
  led_reach s (l ∷ w) r = led_reach (elim (A.step s l) [ None ↦ s | Some m ↦ m.to ]) w (on_step (A.step s l) refl)
    where
      on_step : (o : Option (Move S)) → A.step s l ≡ o → Reach A (elim o [ None ↦ s | Some m ↦ m.to ])
      on_step None e = r
      on_step (Some m) e = went r l m e

  -- whether a word ends in a final state
  abbrev pub accepts : S → List Letter → Bool
  accepts s [] = A.final s
  accepts s (l ∷ w) = elim (A.step s l) [ None ↦ false | Some m ↦ accepts m.to w ]

  pub accepts_ends : (s : S) (w : List Letter) → accepts s w ≡ true → Ends A w s
  accepts_ends s [] e = e
  accepts_ends s (l ∷ w) e =
      (elim (A.step s l) as (λ o. A.step s l ≡ o → (elim o [ None ↦ false | Some m ↦ accepts m.to w ]) ≡ true → Ends A (l ∷ w) s) [
        | None ↦ λ p e. absurd (true≢false (sym e))
        | Some m ↦ λ p e. (m, p, accepts_ends m.to w e)
      ]) refl e

  -- a state without steps that is not final ends nowhere
  pub stuck_ends : (s : S) → ((l : Letter) → A.step s l ≡ None) → A.final s ≡ false → (w : List Letter) → Ends A w s → ⊥
  stuck_ends s h f [] e = true≢false (sym e ∙ f)
  stuck_ends s h f (l ∷ w) (m, p, e) = none_in m (sym (h l) ∙ p)

pub is_false : (b : Bool) → (b ≡ true → ⊥) → b ≡ false
is_false true h = absurd (h refl)
is_false false h = refl
