use Rattle.std.proofs.Common.{refl, rules}
use Rattle.rl_minimal.specs.Sound.{IsState}
use Rattle.rl_minimal.proofs.StateLaws.{one_more, all_done}
use Rattle.rl_minimal.proofs.sound.are_states.Goals as goal

pub loop-i-preserved : goal.loop-i-preserved
loop-i-preserved c =
    let states = c.args.states.now in
    let here : IsState states c.args.first_final c.loop-i.i c.index-states-i.result = search rules in
    one_more (λ k s. IsState states c.args.first_final k s) states c.loop-i.i c.index-states-i.result c.loop-i.invariant c.index-states-i.is here

pub returns : goal.returns
returns c = (λ t. all_done (λ k s. IsState c.args.states.now c.args.first_final k s) c.args.states.now c.loop-i.i (search rules) c.loop-i.invariant, λ h. refl)
