use Rattle.std.proofs.Common.{◌+◌, ◌<◌, ◌≤◌, length, rules}
use Rattle.rl_bytes.specs.Modes.{depth_of}
use Rattle.rl_cexec.specs.Code.{statement_or_value}
use Rattle.rl_cexec.proofs.WalkLaws.{one_more}
use Rattle.rl_cexec.proofs.statements.push_code.Goals as goal

pub loop-at-preserved : goal.loop-at-preserved
loop-at-preserved c =
    let there : c.loop-at.at < length c.args.from.now = search rules in
    let deeper : depth_of c.mode_behind-mode.result ≤ c.loop-at.at + 1 = search rules in
    record {
      code = c.mode_behind-mode.ensures.code;
      depth = deeper;
      value = one_more (statement_or_value c.args.a.now c.args.frame.now c.args.at_end) c.loop-at.skip c.loop-at.fresh c.loop-at.mode c.args.from.now c.loop-at.at c.loop-at.text.items
          c.push_turn.new.text.items _ c.in_ok-skip.skip c.in_word-fresh.result c.mode_behind-mode.result there c.loop-at.invariant.value
          c.in_ok-skip.ensures.text c.in_ok-skip.ensures.skip c.in_word-fresh.ensures c.mode_behind-mode.ensures.value;
    }
