use Rattle.std.proofs.Common.{◌∙◌, ◌≤◌, ap, map, sym, subst, arith, true≢false, length}
use Rattle.rl_reach.specs.Places.{number_in}
use Rattle.rl_minimal.specs.Sound.{IsMinimal}
use Rattle.rl_reach.specs.Canonical.{IsMachineOf, IsUnmerged}
use Rattle.rl_reach.proofs.StateLaws.{places_same, made_same}
use Rattle.rl_reach.proofs.OrderLaws.{made_right}
use Rattle.rl_reach.proofs.SoundLaws.{few_places, few_plain, made_sound}
use Rattle.rl_reach.proofs.machine.reached.Goals as goal

pub states_for-requires : goal.states_for-requires
states_for-requires c =
    let root = c.args.root.now in
    let s = c.in_ok-starts.ensures.sound in
    let met = c.in_ok-met.met.keys in
    subst (λ k. length k ≤ 2147483646) (sym (c.in_ok-numbered.ensures.places ∙ places_same root s met c.in_ok-met.ensures)) (few_places root s c.requires met c.in_ok-met.ensures)

pub numbers_of-requires : goal.numbers_of-requires
numbers_of-requires c =
    let root = c.args.root.now in
    let s = c.in_ok-starts.ensures.sound in
    let met = c.in_ok-met.met.keys in
    subst (λ k. length k ≤ 2147483646) (sym (c.in_ok-numbered.ensures.places ∙ places_same root s met c.in_ok-met.ensures)) (few_places root s c.requires met c.in_ok-met.ensures)

pub overflow_cast-numbered : goal.overflow_cast-numbered
overflow_cast-numbered c =
    let n = c.in_ok-numbered.numbered.plain in
    let few : n ≤ 2147483646 = few_plain c.args.root.now c.in_ok-starts.ensures.sound c.requires c.in_ok-met.met.keys c.in_ok-met.ensures n c.in_ok-numbered.ensures.plain in
    omega arith

pub overflow_add-numbered : goal.overflow_add-numbered
overflow_add-numbered c =
    let n = c.in_ok-numbered.numbered.plain in
    let few : n ≤ 2147483646 = few_plain c.args.root.now c.in_ok-starts.ensures.sound c.requires c.in_ok-met.met.keys c.in_ok-met.ensures n c.in_ok-numbered.ensures.plain in
    omega arith

pub unreachable-requires : goal.unreachable-requires
unreachable-requires c =
    let root = c.args.root.now in
    let s = c.in_ok-starts.ensures.sound in
    let met = c.in_ok-met.met.keys in
    let keys = c.in_ok-numbered.numbered.places.keys in
    let starts = ap (map (number_in keys)) (c.deref-2.ensures.value ∙ c.in_ok-starts.ensures.starts) in
    let same = made_same root s met c.in_ok-met.ensures keys c.in_ok-numbered.numbered.plain c.in_ok-states.states.items c.in_ok-entries.entries.items c.in_ok-numbered.ensures.places c.in_ok-numbered.ensures.plain c.in_ok-states.ensures
    (c.in_ok-entries.ensures ∙ starts) in
    true≢false (sym (c.in-None.ensures.minimal.1 (subst IsMinimal (sym same) (made_sound root s c.requires met c.in_ok-met.ensures))))

pub returns : goal.returns
returns c =
    let root = c.args.root.now in
    let s = c.in_ok-starts.ensures.sound in
    let met = c.in_ok-met.met.keys in
    let keys = c.in_ok-numbered.numbered.places.keys in
    let starts = ap (map (number_in keys)) (c.deref-2.ensures.value ∙ c.in_ok-starts.ensures.starts) in
    let same = made_same root s met c.in_ok-met.ensures keys c.in_ok-numbered.numbered.plain c.in_ok-states.states.items c.in_ok-entries.entries.items c.in_ok-numbered.ensures.places c.in_ok-numbered.ensures.plain c.in_ok-states.ensures
    (c.in_ok-entries.ensures ∙ starts) in
    subst (λ m. (is : IsMachineOf root m) × IsUnmerged root m is) (sym (c.in-Some.ensures.machine ∙ same)) (made_right root s met c.in_ok-met.ensures)
