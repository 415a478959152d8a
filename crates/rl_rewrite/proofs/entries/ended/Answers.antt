use Rattle.rl_rewrite.proofs.EntryLaws.{at_end, ends_made, ends_conditions, ends_within, all_made, ends_differ, ends_known}
use Rattle.rl_rewrite.proofs.entries.ended.Goals as goal

pub returns-clause-entries : goal.returns-clause-entries
returns-clause-entries c = ends_made _ c.args.made (at_end c.args.alphabet c.args.definitions.now c.args.made c.requires)

pub returns-clause-conditions : goal.returns-clause-conditions
returns-clause-conditions c = ends_conditions _ c.args.made (at_end c.args.alphabet c.args.definitions.now c.args.made c.requires)

pub returns-clause-within : goal.returns-clause-within
returns-clause-within c = ends_within _ c.args.made (at_end c.args.alphabet c.args.definitions.now c.args.made c.requires)

pub returns-clause-made : goal.returns-clause-made
returns-clause-made c = all_made _ c.args.made (at_end c.args.alphabet c.args.definitions.now c.args.made c.requires)

pub returns-clause-few : goal.returns-clause-few
returns-clause-few c = c.requires.few

pub returns-clause-differ : goal.returns-clause-differ
returns-clause-differ c = ends_differ _ c.args.made (at_end c.args.alphabet c.args.definitions.now c.args.made c.requires)

pub returns-clause-known : goal.returns-clause-known
returns-clause-known c = ends_known _ c.args.made (at_end c.args.alphabet c.args.definitions.now c.args.made c.requires)
