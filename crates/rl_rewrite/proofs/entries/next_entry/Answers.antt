use Rattle.std.proofs.Common.{sym, ◌∙◌}
use Rattle.rl_rewrite.specs.Plain.{value_behind}
use Rattle.rl_rewrite.specs.Entries.{meaning}
use Rattle.rl_rewrite.proofs.EntryLaws.{refused_size, refused_all, next_all}
use Rattle.rl_rewrite.proofs.entries.next_entry.Goals as goal

pub returns-in-Some-clause-refused : goal.returns-in-Some-clause-refused
returns-in-Some-clause-refused c =
    let m = meaning c.args.d.now (value_behind c.args.alphabet c.args.earlier.now c.args.d.now.value) in
    refused_size c.args.made.conditions m c.entry_size-size.result c.in-Some.kind c.requires.entry c.entry_size-size.ensures (sym c.size_limit.ensures ∙ c.in-Some.is)

pub returns-in-None-clause-made : goal.returns-in-None-clause-made
returns-in-None-clause-made c =
    let m = meaning c.args.d.now (value_behind c.args.alphabet c.args.earlier.now c.args.d.now.value) in
    next_all m c.args.made c.small_entry.result c.entry_size-size.result c.requires.entry c.entry_size-size.ensures (sym c.size_limit.ensures ∙ c.in-None.is) c.small_entry.ensures.made c.small_entry.ensures.conditions

pub returns-in-None-clause-refused : goal.returns-in-None-clause-refused
returns-in-None-clause-refused c =
    let m = meaning c.args.d.now (value_behind c.args.alphabet c.args.earlier.now c.args.d.now.value) in
    refused_all m c.args.made c.small_entry.result c.entry_size-size.result c.requires.entry c.entry_size-size.ensures (sym c.size_limit.ensures ∙ c.in-None.is) c.small_entry.ensures.refused
