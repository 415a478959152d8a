use Rattle.rl_certificate.proofs.PairLaws.{never_none, found_word}
use Rattle.rl_certificate.specs.Certificates.{do_homes_count}
use Rattle.rl_certificate.specs.Tables.{words_of}
use Rattle.rl_certificate.proofs.separating.word_for.Goals as goal

pub unreachable-requires : goal.unreachable-requires
unreachable-requires c =
    never_none c.args.min.now c.states.ensures.minimal c.requires.reduced c.requires.homes c.args.low c.args.high
    (words_of c.table_for.result.now c.args.low c.args.high) c.requires.first c.requires.ordered c.requires.there
    (c.table_for.ensures.each c.args.low c.args.high c.requires.first c.requires.ordered c.requires.there) c.in-None.ensures

pub returns : goal.returns
returns c =
    found_word c.args.min.now (do_homes_count c.args.min.now c.args.low c.args.high) c.args.low c.args.high
    (words_of c.table_for.result.now c.args.low c.args.high) c.in-Some.word.now
    (c.table_for.ensures.each c.args.low c.args.high c.requires.first c.requires.ordered c.requires.there) c.in-Some.ensures
