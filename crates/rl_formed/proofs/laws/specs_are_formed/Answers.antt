use Rattle.rl_formed.proofs.DraftLaws.{have_own_actions, have_own_entries, have_few_actions, have_few_entries, embed_own_actions, have_own_conditions, have_small_sets}
use Rattle.rl_formed.proofs.StatementLaws.{have_patterns, have_own_tokens}
use Rattle.rl_formed.proofs.laws.specs_are_formed.Goals as goal

pub returns-clause-actions : goal.returns-clause-actions
returns-clause-actions c = have_own_actions

pub returns-clause-entries : goal.returns-clause-entries
returns-clause-entries c = have_own_entries

pub returns-clause-few_actions : goal.returns-clause-few_actions
returns-clause-few_actions c = have_few_actions

pub returns-clause-few_entries : goal.returns-clause-few_entries
returns-clause-few_entries c = have_few_entries

pub returns-clause-embedded : goal.returns-clause-embedded
returns-clause-embedded c = embed_own_actions

pub returns-clause-conditions : goal.returns-clause-conditions
returns-clause-conditions c = have_own_conditions

pub returns-clause-sets : goal.returns-clause-sets
returns-clause-sets c = have_small_sets

pub returns-clause-patterns : goal.returns-clause-patterns
returns-clause-patterns c = have_patterns

pub returns-clause-tokens : goal.returns-clause-tokens
returns-clause-tokens c = have_own_tokens
