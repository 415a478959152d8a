use Rattle.std.proofs.Common.{◌≡◌, ◌<◌, ◌≤◌, ◌+◌, drop, length, get_or, sym, subst, rules}
use Rattle.std.proofs.lemmas.Option.{slice_get-get_or}
use Rattle.rl_min.specs.Numbering.{with_class, with_classes, listed, ArePicked}
use Rattle.rl_min.proofs.NumberingLaws.{picked_first, met_first, one_picked, more_met, all_met}
use Rattle.rl_min.proofs.numbering.met_in.Goals as goal

pub loop-state-init : goal.loop-state-init
loop-state-init c = (met_first c.args.classes.now c.new.result.keys (search rules), picked_first c.args.classes.now _ _ (search rules) (search rules))

pub loop-state-preserved : goal.loop-state-preserved
loop-state-preserved c =
    let classes = c.args.classes.now in
    let i = c.loop-state.state in
    let x = get_or classes i 0 in
    let keys = c.loop-state.met.classes.keys in
    let states = c.loop-state.met.states.items in
    let below : i < length classes = search rules in
    let at = slice_get-get_or classes i 0 below in
    let found = c.in_ok-meet.ensures.classes in
    let more = c.in_ok-meet.ensures.states in (
      subst (λ k. with_classes k (drop (i + 1) classes) ≡ listed classes) (sym found) (more_met classes keys i x at c.loop-state.invariant.0),
      subst (λ k. ArePicked classes k c.meet.new.met.states.items) (sym found) (subst (λ s. ArePicked classes (with_class keys x) s) (sym more) (one_picked classes keys states i x at c.loop-state.invariant.1)),
    )

pub returns-clause-classes : goal.returns-clause-classes
returns-clause-classes c =
    let past : length c.args.classes.now ≤ c.loop-state.state = search rules in
    all_met c.args.classes.now c.loop-state.met.classes.keys c.loop-state.state past c.loop-state.invariant.0
