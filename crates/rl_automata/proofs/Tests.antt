-- Tests on the numbers of a machine tell of the states that they are the numbers of.
use Rattle.std.proofs.Common.{◌≡◌, ℕ, Bool, true, false, ◌&&◌, List, ◌↔◌, refl, sym, ◌∙◌, ap, subst, Option, Some, None, option_map, IsTrue, true≢false}
use Rattle.std.specs.Ordering.{eq_by_cmp}
use Rattle.std.specs.List.{list_any}
use Rattle.rl_sets.specs.Sets.{In}
use Rattle.rl_sets.specs.Order.{IsOrder}
use Rattle.rl_sets.proofs.OrderLaws.{eq_by_cmp-itself, eq_by_cmp-same}
use Rattle.rl_types.specs.declared.numbers.Letter.{Letter}
use Rattle.rl_automata.specs.declared.moves.Move.{Move}
use Rattle.rl_automata.specs.Auto.{Auto}
use Rattle.rl_automata.specs.Follows.{Reach, renamed, Follows}
use Rattle.rl_automata.specs.Nodes.{Ends, TellsLive}
use Rattle.rl_sets.proofs.SetLaws.{both_ways, any_true, any_from}
use Rattle.rl_automata.proofs.Congruence.{named_reach, none_in}
use Rattle.rl_automata.proofs.PruneLaws.{ends_along, ends_back}
use Rattle.rl_automata.specs.Scans.{TellsClosed}

both_true : (a b : Bool) → (a && b) ≡ true → (a ≡ true) × (b ≡ true)
both_true true b e = (refl, e)
both_true false b e = absurd (true≢false (sym e))

-- `js` are the numbers that the machine reaches
module _ {S : Type 0} {A : Auto S} (o : IsOrder A.order) {M : Auto ℕ} (name : ℕ → S) (F : Follows M A name) (js : List ℕ) (all : (i : ℕ) → Reach M i ↔ In i js) where
  -- what the test says of a number that is c's
  pub on_states : (ℕ → Bool) → S → Bool
  on_states test c = list_any (λ j. eq_by_cmp A.order (name j) c && test j) js

  pub on_states-is : (test : ℕ → Bool) (i : ℕ) → Reach M i → on_states test (name i) ≡ test i
  unfolding on_states
  on_states-is test i r = both_ways _ _
      (λ e.
      let p = any_from (λ j. eq_by_cmp A.order (name j) (name i) && test j) js e in
      let q = both_true (eq_by_cmp A.order (name p.0) (name i)) (test p.0) p.2 in
      subst (λ j. test j ≡ true) (F.apart p.0 i ((all p.0).1 p.1) r (eq_by_cmp-same o (name p.0) (name i) q.0)) q.1)
      (λ e. any_true (λ j. eq_by_cmp A.order (name j) (name i) && test j) i js ((all i).0 r) (λ k. eq_by_cmp-itself o (name i) k && e k))

  none_from : (l : Letter) (i : ℕ) → Reach M i → M.step i l ≡ None ↔ (A.step (name i) l ≡ None)
  none_from l i r = ((λ e. sym (F.step i r l) ∙ ap (option_map (renamed name)) e), (λ e. back (M.step i l) (F.step i r l ∙ e)))
    where
      back : (q : Option (Move ℕ)) → option_map (renamed name) q ≡ None → q ≡ None
      back None e = refl
      back (Some m) e = none_in (renamed name m) (sym e)

  -- so the machine's own test of closed states gives an honest one for what it stands for
  pub closed_exists : (mark : ℕ → Bool) → TellsClosed M mark → TellsClosed A (on_states mark)
  closed_exists mark tells c r =
      let x = named_reach F c r in
      subst (λ c. IsTrue (on_states mark c) ↔ ((l : Letter) → A.step c l ≡ None)) x.2 (
        (λ e l. (none_from l x.0 x.1).0 ((tells x.0 x.1).0 (sym (on_states-is mark x.0 x.1) ∙ e) l)),
        (λ h. on_states-is mark x.0 x.1 ∙ (tells x.0 x.1).1 (λ l. (none_from l x.0 x.1).1 (h l))),
      )

  -- and marks of live numbers give an honest pruning of the node
  pub live_exists : (mark : ℕ → Bool) → TellsLive M mark → TellsLive A (on_states mark)
  live_exists mark tells c r =
      let x = named_reach F c r in
      subst (λ c. IsTrue (on_states mark c) ↔ ((w : List Letter) × Ends A w c)) x.2 (
        (λ e. let p = (tells x.0 x.1).0 (sym (on_states-is mark x.0 x.1) ∙ e) in (p.0, ends_along F p.0 x.0 x.1 p.1)),
        (λ q. on_states-is mark x.0 x.1 ∙ (tells x.0 x.1).1 (q.0, ends_back F q.0 x.0 x.1 q.1)),
      )
