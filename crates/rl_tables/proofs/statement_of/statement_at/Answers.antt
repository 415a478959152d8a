use Rattle.std.proofs.Common.{sym}
use Rattle.rl_tables.proofs.Arguments.{argument_is, argument_fits, named_entry}
use Rattle.rl_tables.proofs.statement_of.statement_at.Goals as goal

pub statement_of-requires : goal.statement_of-requires
statement_of-requires c = λ names.
    let entry = argument_is c.args.a.now c.requires c.args.place c.in-Some.kind (sym c.in-Some.ensures) names in
    rw (c.element_at-argument.ensures, c.as_slice-in-Some.ensures) (argument_fits c.args.a.now c.requires _ entry)

pub returns-in-Some-clause-named : goal.returns-in-Some-clause-named
returns-in-Some-clause-named c =
    rw (c.statement_of.ensures, c.element_at-argument.ensures, c.as_slice-in-Some.ensures)
    (named_entry c.args.a.now c.requires c.element_at-mark.result.now _ c.element_at-base.result.now c.in-Some.kind (λ names. argument_is c.args.a.now c.requires c.args.place c.in-Some.kind (sym c.in-Some.ensures) names))
