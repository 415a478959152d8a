use Rattle.std.proofs.Common.{◌≡◌, ◌∙◌, ℕ, List, Option, sym, ap, subst}
use Rattle.rl_types.specs.KeyRange.{Range}
use Rattle.rl_automata.specs.Auto.{cat_auto, cat_jams}
use Rattle.rl_fsm.specs.Graphs.{fsm_auto}
use Rattle.rl_explore.specs.Ranges.{AreRanges}
use Rattle.rl_ops.specs.Ranges.{chain_ranges}
use Rattle.rl_ops.proofs.RangeLaws.{chain_are}
use Rattle.rl_ops.proofs.chain.ChainedOperator.ranges.Goals as goal

pub returns : goal.returns
returns c =
    let a = c.args.self.now.a.now in
    let b = c.args.self.now.b.now in
    let whole : ◌≡◌ {A = Option ℕ × List ℕ} (c.args.c.now.0, c.states.result.now) c.args.c.now = λ i. (c.args.c.now.0, c.states.ensures i) in
    subst (λ (v : List Range). AreRanges (cat_auto (fsm_auto a) (fsm_auto b)) (cat_jams (fsm_auto a) (fsm_auto b)) c.args.c.now v)
    (sym (c.in_ok-ranges.ensures ∙ ap (chain_ranges a b) whole)) (chain_are a b c.args.c.now)
