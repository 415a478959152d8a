use Rattle.std.proofs.Common.{◌≡◌, ◌<◌, ◌≤◌, ◌∙◌, ap, map, sym, subst, arith, length, true≢false, rules}
use Rattle.rl_minimal.specs.Sound.{IsMinimal}
use Rattle.rl_min.specs.Numbering.{IsNumbering}
use Rattle.rl_min.specs.Merged.{number_at, number_or, state_for}
use Rattle.rl_min.proofs.SoundLaws.{few_states, merged_sound, same_made, made_few}
use Rattle.rl_min.proofs.machine.merged.Goals as goal

pub overflow_cast-count : goal.overflow_cast-count
overflow_cast-count c =
    let m = c.args.machine.now in
    let minimal = c.states-count.ensures.minimal in
    let classes = c.in_ok-classes.classes.items in
    let numbers = c.in_ok-numbering.numbering.numbers.items in
    let states = c.in_ok-numbering.numbering.states.items in
    let n = subst (λ k. IsNumbering k numbers states) c.deref.ensures.value c.in_ok-numbering.ensures in
    let made = c.in_ok-states.ensures ∙ (λ i. map (state_for m.states (c.deref-2.ensures.value i)) (c.deref-3.ensures.value i)) in
    let few : length states ≤ length m.states = few_states m minimal classes numbers states c.in_ok-classes.ensures n in
    let most : length m.states ≤ 2147483647 = minimal.counts.few in
    let count : length c.in_ok-states.states.items ≡ length states = made_few m numbers states c.in_ok-states.states.items made in
    let is : c.len-count.result ≡ length c.in_ok-states.states.items = search rules in
    omega arith

pub unreachable-requires : goal.unreachable-requires
unreachable-requires c =
    let m = c.args.machine.now in
    let minimal = c.states-count.ensures.minimal in
    let classes = c.in_ok-classes.classes.items in
    let numbers = c.in_ok-numbering.numbering.numbers.items in
    let states = c.in_ok-numbering.numbering.states.items in
    let n = subst (λ k. IsNumbering k numbers states) c.deref.ensures.value c.in_ok-numbering.ensures in
    let made = c.in_ok-states.ensures ∙ (λ i. map (state_for m.states (c.deref-2.ensures.value i)) (c.deref-3.ensures.value i)) in
    let starts = c.in_ok-entries.ensures ∙ (λ i. map (number_at (c.deref-4.ensures.value i)) (c.entries.ensures i)) in
    let len : c.len-count.result ≡ length c.in_ok-states.states.items = search rules in
    let count = len ∙ made_few m numbers states c.in_ok-states.states.items made in
    let first = c.number_or-first_final.ensures ∙ (λ i. number_or (c.deref-5.ensures.value i) (c.first_final.ensures i) (count i)) in
    let same = same_made m numbers states c.in_ok-states.states.items c.in_ok-entries.entries.items c.number_or-first_final.result made starts first in
    true≢false (sym (c.in-None.ensures.minimal.1 (subst IsMinimal (sym same) (merged_sound m minimal classes numbers states c.in_ok-classes.ensures n))))

pub returns-clause-merged : goal.returns-clause-merged
returns-clause-merged c =
    let m = c.args.machine.now in
    let numbers = c.in_ok-numbering.numbering.numbers.items in
    let states = c.in_ok-numbering.numbering.states.items in
    let made = c.in_ok-states.ensures ∙ (λ i. map (state_for m.states (c.deref-2.ensures.value i)) (c.deref-3.ensures.value i)) in
    let starts = c.in_ok-entries.ensures ∙ (λ i. map (number_at (c.deref-4.ensures.value i)) (c.entries.ensures i)) in
    let len : c.len-count.result ≡ length c.in_ok-states.states.items = search rules in
    let count = len ∙ made_few m numbers states c.in_ok-states.states.items made in
    let first = c.number_or-first_final.ensures ∙ (λ i. number_or (c.deref-5.ensures.value i) (c.first_final.ensures i) (count i)) in
    let same = same_made m numbers states c.in_ok-states.states.items c.in_ok-entries.entries.items c.number_or-first_final.result made starts first in record {
      classes = c.in_ok-classes.classes.items;
      alike = c.in_ok-classes.ensures;
      numbers = numbers;
      states = states;
      numbering = subst (λ k. IsNumbering k numbers states) c.deref.ensures.value c.in_ok-numbering.ensures;
      made = c.in-Some.ensures.machine ∙ same;
    }
