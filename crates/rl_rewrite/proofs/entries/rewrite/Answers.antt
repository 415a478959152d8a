use Rattle.rl_rewrite.proofs.DraftLaws.{sets_at_end, patterns_at_end}
use Rattle.rl_rewrite.proofs.entries.rewrite.Goals as goal

pub returns-clause-sets : goal.returns-clause-sets
returns-clause-sets c = λ form. sets_at_end c.args.draft.now c.as_slice-definitions.result.now c.in_ok-r.r.entries form c.as_slice-definitions.ensures c.in_ok-r.ensures.entries

pub returns-clause-patterns : goal.returns-clause-patterns
returns-clause-patterns c = λ form. patterns_at_end c.args.draft.now c.as_slice-definitions.result.now c.in_ok-r.r.entries form c.as_slice-definitions.ensures c.in_ok-r.ensures.entries
