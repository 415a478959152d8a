use Rattle.std.proofs.Common.{◌+◌, ◌-◌, ◌<◌, ◌≤◌, length, rules, arith}
use Rattle.rl_certificate.proofs.SearchPlaces.{begun_searched, leads_there, slice_in, at_place, few_words, gone_on}
use Rattle.rl_certificate.proofs.reach.by_order.Goals as goal

pub words-init : goal.words-init
words-init c = begun_searched c.args.min.now c.in_ok-met.met.items c.in_ok-met.ensures

pub go_on-requires-clause-known : goal.go_on-requires-clause-known
go_on-requires-clause-known c = λ a q.
    leads_there c.args.min.now c.states.ensures.minimal a.entry.0 a.word.items a.state (c.words.invariant.known.words.lead a
    (slice_in c.words.met.items c.words.place a q))

pub words-smaller : goal.words-smaller
words-smaller c =
    let there : c.words.place < length c.words.met.items = search rules in
    let few : length c.words.met.items ≤ length c.args.min.now.states = few_words c.args.min.now c.states.ensures.minimal c.words.met.items
    c.words.invariant.known in
    let less : length c.args.min.now.states - (c.words.place + 1) < length c.args.min.now.states - c.words.place = omega arith in
    less

pub words-preserved : goal.words-preserved
words-preserved c =
    let there : c.words.place < length c.words.met.items = search rules in
    let a = at_place c.words.met.items c.words.place there in
    gone_on c.args.min.now c.states.ensures.minimal c.words.met.items c.go_on.new.met.items c.words.place a.0 a.1 c.words.invariant
    (c.in_ok-go_on.ensures.from a.0 a.1)
