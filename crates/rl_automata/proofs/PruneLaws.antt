-- Words that end, along names, and where less is asked; what tells the truth of live configurations agrees.
use Rattle.std.proofs.Common.{◌≡◌, ℕ, ℤ, Bool, true, false, cond, List, [], ◌∷◌, Option, Some, None, option_map, refl, ap, sym, ◌∙◌, subst, IsTrue, is_some, true≢false}
use Rattle.rl_types.specs.declared.numbers.Letter.{Letter}
use Rattle.rl_automata.specs.declared.moves.Move.{Move}
use Rattle.rl_automata.specs.Auto.{Auto, quiet, pruned, steps_at, every_truths, only_live, live_step}
use Rattle.rl_automata.specs.Follows.{Reach, Follows, went, renamed}
use Rattle.rl_automata.specs.Nodes.{Ends, TellsLive}
use Rattle.rl_sets.proofs.SetLaws.{both_ways, any_true, any_from}
use Rattle.rl_automata.proofs.Congruence.{some_in, none_in}
use Rattle.rl_automata.proofs.Congruence1.{reach_in}

-- ---- words that end, along names

module _ {S T : Type 0} {A : Auto S} {B : Auto T} {f : S → T} (F : Follows A B f) where
  pub ends_along : (w : List Letter) (s : S) → Reach A s → Ends A w s → Ends B w (f s)
  ends_along [] s r e = subst IsTrue (F.final s r) e
  ends_along (l ∷ w) s r (m, p, e) =
      (renamed f m, sym (F.step s r l) ∙ ap (option_map (renamed f)) p, ends_along w m.to (went r l m p) e)

  pub ends_back : (w : List Letter) (s : S) → Reach A s → Ends B w (f s) → Ends A w s
  ends_back [] s r e = subst IsTrue (sym (F.final s r)) e
  ends_back (l ∷ w) s r (n, p, e) =
      (elim (A.step s l) as (λ o. A.step s l ≡ o → option_map (renamed f) o ≡ Some n → (m : Move S) × (A.step s l ≡ Some m) × Ends A w m.to) [
        | None ↦ λ q g. none_in n g
        | Some m ↦ λ q g. (m, q, ends_back w m.to (went r l m q) (subst (Ends B w) (sym (ap (λ x. x.to) (some_in (renamed f m) n g))) e))
      ]) refl (F.step s r l ∙ p)

  -- two tables that tell the truth agree
  pub told_same : (live : S → Bool) (live' : T → Bool) → TellsLive A live → TellsLive B live' → ((s : S) → Reach A s → Reach B (f s)) → (s : S) → Reach A s → live s ≡ live' (f s)
  told_same live live' h k along s r = both_ways _ _
      (λ e. (k (f s) (along s r)).1 (let p = (h s r).0 e in (p.0, ends_along p.0 s r p.1)))
      (λ e. (h s r).1 (let p = (k (f s) (along s r)).0 e in (p.0, ends_back p.0 s r p.1)))

-- ---- asking less does not change where words end

module _ {S : Type 0} (A : Auto S) where
  pub quiet_reach : (s : S) → Reach (quiet A) s → Reach A s
  quiet_reach = reach_in refl (λ s l m e. (m, e, refl))

  pub loud_reach : (s : S) → Reach A s → Reach (quiet A) s
  loud_reach = reach_in refl (λ s l m e. (m, e, refl))

  pub ends_quiet : (w : List Letter) (s : S) → Ends (quiet A) w s → Ends A w s
  ends_quiet [] s e = e
  ends_quiet (l ∷ w) s (m, p, e) = (m, p, ends_quiet w m.to e)

  pub ends_loud : (w : List Letter) (s : S) → Ends A w s → Ends (quiet A) w s
  ends_loud [] s e = e
  ends_loud (l ∷ w) s (m, p, e) = (m, p, ends_loud w m.to e)

  pub quiet_tells : (live : S → Bool) → TellsLive A live → TellsLive (quiet A) live
  quiet_tells live h c r = ((λ e. let p = (h c (quiet_reach c r)).0 e in (p.0, ends_loud p.0 c p.1)), (λ q. (h c (quiet_reach c r)).1 (q.0, ends_quiet q.0 c q.1)))

  pub loud_tells : (live : S → Bool) → TellsLive (quiet A) live → TellsLive A live
  loud_tells live h c r = ((λ e. let p = (h c (loud_reach c r)).0 e in (p.0, ends_quiet p.0 c p.1)), (λ q. (h c (loud_reach c r)).1 (q.0, ends_loud q.0 c q.1)))

  module _ (live : S → Bool) where
    abbrev cut : Auto S
    cut = record A { step = live_step A live }

    cut_some : (o : Option (Move S)) → is_some (only_live live o) ≡ true → is_some o ≡ true
    cut_some None e = e
    cut_some (Some m) e = refl

    cut_steps : (c : S) (k : ℤ) → steps_at cut c k ≡ true → steps_at A c k ≡ true
    cut_steps c k e =
        let p = any_from (λ t. is_some (cut.step c (record { key = k; truths = t }))) every_truths e in
        any_true (λ t. is_some (A.step c (record { key = k; truths = t }))) p.0 every_truths p.1 (cut_some (A.step c (record { key = k; truths = p.0 })) p.2)

    twice : (a b : Bool) (n : ℕ) → (a ≡ true → b ≡ true) → cond a (cond b n 0) 0 ≡ cond a n 0
    twice true true n h = refl
    twice true false n h = absurd (true≢false (sym (h refl)))
    twice false b n h = refl

    -- pruning makes quiet
    pub prune_quiet : Follows (pruned live (quiet A)) (pruned live A) (λ s. s)
    prune_quiet = record {
      start = refl;
      step = λ s r l. same (only_live live (A.step s l));
      final = λ s r. refl;
      out = λ s r. refl;
      marks = λ s r k. refl;
      asked = λ s r k. twice (steps_at cut s k) (steps_at A s k) (A.asked s k) (cut_steps s k);
      apart = λ s t r q e. e;
    }
      where
        same : (o : Option (Move S)) → option_map (renamed (λ s. s)) o ≡ o
        same None = refl
        same (Some m) = refl
