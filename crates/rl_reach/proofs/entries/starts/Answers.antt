use Rattle.std.proofs.Common.{◌≡◌, ℕ, ◌+◌, ◌-◌, ◌<◌, ◌≤◌, ◌++◌, ◌∷◌, [], map, ap, sym, ◌∙◌, subst, inl, inr, arith}
use Rattle.std.specs.List.{range_with_len}
use Rattle.std.proofs.lemmas.Bool.{cases_lt}
use Rattle.std.proofs.lemmas.List.FromFn.{map-range_with_len_more}
use Rattle.rl_fsm.specs.Roots.{states_in}
use Rattle.rl_reach.specs.Walks.{IsSoundAt, start_of}
use Rattle.rl_reach.proofs.FewLaws.{entries_few}
use Rattle.rl_reach.proofs.entries.starts.Goals as goal

pub entries-preserved : goal.entries-preserved
entries-preserved c =
    let root = c.args.root.now in
    let n = c.entries.entry in
    let low : 1 ≤ n = c.entries.invariant.from_one in
    let there = c.in-Some.ensures.there in
    let sound : (e : ℕ) → 1 ≤ e → e < n + 1 → IsSoundAt root e = λ e h k. elim (cases_lt e n) [
      | inl l ↦ c.entries.invariant.sound e h l
      | inr g ↦ let same : n ≡ e = omega arith in subst (IsSoundAt root) same c.in-Some.ensures.sound
    ] in
    let count : n ≤ states_in root = entries_few root n there (λ e h k. let l : e < n + 1 = omega arith in (sound e h l).machine) in
    let few : states_in root ≤ 2147483646 = c.in-Some.ensures.few in
    let one : 1 + (n - 1) ≡ n = omega arith in
    let next : (n - 1) + 1 ≡ n + 1 - 1 = omega arith in
    record {
      starts = c.in_ok-push.ensures ∙ (λ i. c.entries.invariant.starts i ++ c.in-Some.ensures.start i ∷ []) ∙ sym (map-range_with_len_more (start_of root) 1 (n - 1) n one)
          ∙ ap (λ w. map (start_of root) (range_with_len 1 w)) next;
      from_one = omega arith;
      within = omega (arith, there);
      few = omega arith;
      sound = sound;
    }
