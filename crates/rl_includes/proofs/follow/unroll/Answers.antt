use Rattle.rl_includes.proofs.FollowLaws.{unrolls_of}
use Rattle.rl_includes.proofs.OnceLaws.{only_end}
use Rattle.rl_includes.proofs.follow.unroll.Goals as goal

pub returns-clause-only : goal.returns-clause-only
returns-clause-only g c =
    only_end _ c.args.file.now c.args.blocks _
    (unrolls_of _ c.args.file.now c.args.blocks c.in_ok-reader.reader c.in_ok-unrolled.unrolled c.in_ok-queue.queue _ c.in_ok-reader.ensures c.in_ok-unrolled.ensures c.in_ok-queue.ensures c.in_ok-follow.ensures.followed)
