use Rattle.std.proofs.Common.{◌≡◌, ◌∙◌, ◌≤◌, sym, subst, arith, length, true≢false}
use Rattle.rl_automata.specs.Auto.{quiet}
use Rattle.rl_fsm.specs.Graphs.{Graph}
use Rattle.rl_fsm.specs.Builds.{Builds}
use Rattle.rl_explore.proofs.ExploredLaws.{explored_sound, explored_all, no_more, has_more, never_jams}
use Rattle.rl_explore.proofs.machine.explore_within.Goals as goal

pub returns-then-len-most-clause-refused : goal.returns-then-len-most-clause-refused
returns-then-len-most-clause-refused g c =
    let A = g.O.Operator.auto c.args.op.now in
    let J = g.O.Operator.jams c.args.op.now in
    let p = c.in_ok-walked.ensures.walked in
    let ss = c.in_ok-walked.walked.states.items in
    let n : c.len.result ≡ length ss = c.len.ensures ∙ c.in_ok-walked.walked.states.ok.0 in
    let few : length p.0 ≤ c.args.room = p.1.few in
    let within : length ss ≤ length p.0 = p.1.within in (
      no_more A J c.args.room p.0 ss c.in_ok-walked.walked.cycle p.1 p.2 c.requires.fits c.args.room (omega arith),
      has_more A J c.args.room p.0 ss c.in_ok-walked.walked.cycle p.1 p.2 c.requires.fits c.args.most (let t = c.if-len-most.true in omega arith),
    )

pub returns-then-walked-clause-refused : goal.returns-then-walked-clause-refused
returns-then-walked-clause-refused g c =
    let A = g.O.Operator.auto c.args.op.now in
    let J = g.O.Operator.jams c.args.op.now in
    let p = c.in_ok-walked.ensures.walked in
    let ss = c.in_ok-walked.walked.states.items in
    let n : c.len.result ≡ length ss = c.len.ensures ∙ c.in_ok-walked.walked.states.ok.0 in
    let few : length p.0 ≤ c.args.room = p.1.few in
    let within : length ss ≤ length p.0 = p.1.within in (
      no_more A J c.args.room p.0 ss c.in_ok-walked.walked.cycle p.1 p.2 c.requires.fits c.args.room (omega arith),
      no_more A J c.args.room p.0 ss c.in_ok-walked.walked.cycle p.1 p.2 c.requires.fits c.args.most (let t = c.if-len-most.false in omega arith),
      p.1.jammed c.if-walked.true,
    )

pub unreachable-requires : goal.unreachable-requires
unreachable-requires g c =
    let A = g.O.Operator.auto c.args.op.now in
    let J = g.O.Operator.jams c.args.op.now in
    let p = c.in_ok-walked.ensures.walked in
    true≢false (sym (c.in-None.ensures.sound.1 (explored_sound A J c.args.room p.0 c.in_ok-walked.walked.states.items c.in_ok-walked.walked.cycle p.1 p.2 c.requires.fits)))

pub returns-clause-builds : goal.returns-clause-builds
returns-clause-builds g c =
    let A = g.O.Operator.auto c.args.op.now in
    let J = g.O.Operator.jams c.args.op.now in
    let p = c.in_ok-walked.ensures.walked in
    subst (λ (m : Graph). Builds (quiet A) m) (sym c.in-Some.ensures.machine) (explored_all A J c.args.room p.0 c.in_ok-walked.walked.states.items c.in_ok-walked.walked.cycle p.1 p.2 c.requires.fits)

pub returns-clause-accepted : goal.returns-clause-accepted
returns-clause-accepted g c =
    let A = g.O.Operator.auto c.args.op.now in
    let J = g.O.Operator.jams c.args.op.now in
    let p = c.in_ok-walked.ensures.walked in
    let ss = c.in_ok-walked.walked.states.items in
    let n : c.len.result ≡ length ss = c.len.ensures ∙ c.in_ok-walked.walked.states.ok.0 in
    let few : length p.0 ≤ c.args.room = p.1.few in
    let within : length ss ≤ length p.0 = p.1.within in (
      no_more A J c.args.room p.0 ss c.in_ok-walked.walked.cycle p.1 p.2 c.requires.fits c.args.room (omega arith),
      no_more A J c.args.room p.0 ss c.in_ok-walked.walked.cycle p.1 p.2 c.requires.fits c.args.most (let t = c.if-len-most.false in omega arith),
      never_jams A J c.args.room p.0 ss c.in_ok-walked.walked.cycle p.1 p.2 c.requires.fits c.if-walked.false,
    )
