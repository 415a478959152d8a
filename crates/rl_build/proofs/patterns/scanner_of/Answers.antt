use Rattle.std.proofs.Common.{◌≡◌, ◌≤◌, ◌∙◌, map, length, ap, sym, arith}
use Rattle.rl_model.specs.Specification.{pattern_of}
use Rattle.rl_build.proofs.PatternLaws.{few_patterns, some_patterns, ranges_fit_together, as_many_tokens, machines_counted, scanner_told}
use Rattle.rl_build.proofs.patterns.scanner_of.Goals as goal

pub side_of-requires : goal.side_of-requires
side_of-requires c = ranges_fit_together c.args.alphabet (map pattern_of c.args.patterns.now) c.args.row.patterns.items c.requires.fit c.requires.built.built

pub scanner-requires-clause-same : goal.scanner-requires-clause-same
scanner-requires-clause-same c =
    ap length (c.deref.ensures.value ∙ c.in_ok-tokens.ensures) ∙ as_many_tokens c.args.alphabet c.args.patterns.now c.args.row.patterns.items c.requires.built.built ∙ sym (ap length c.in_ok-side.ensures.machines)

pub scanner-requires-clause-some : goal.scanner-requires-clause-some
scanner-requires-clause-some c =
    let ps = map pattern_of c.args.patterns.now in
    let e : length c.in_ok-side.side.machines.items ≡ length (map pattern_of c.args.patterns.now) = ap length c.in_ok-side.ensures.machines ∙ machines_counted c.args.alphabet ps c.args.row.patterns.items c.requires.built.built in
    let s : 1 ≤ length (map pattern_of c.args.patterns.now) = some_patterns ps c.requires.fit in
    omega arith

pub scanner-requires-clause-few : goal.scanner-requires-clause-few
scanner-requires-clause-few c =
    let ps = map pattern_of c.args.patterns.now in
    let e : length c.in_ok-side.side.machines.items ≡ length (map pattern_of c.args.patterns.now) = ap length c.in_ok-side.ensures.machines ∙ machines_counted c.args.alphabet ps c.args.row.patterns.items c.requires.built.built in
    let s : length (map pattern_of c.args.patterns.now) ≤ 99999 = few_patterns ps c.requires.fit in
    omega arith

pub returns : goal.returns
returns c =
    scanner_told c.args.alphabet c.args.patterns.now c.args.row c.in_ok-side.side.machines.items c.deref.result.now c.in_ok-side.side.cells c.most-most.result c.scanner.result c.requires.built
    c.in_ok-side.ensures.machines (c.deref.ensures.value ∙ c.in_ok-tokens.ensures) c.in_ok-side.ensures.cells c.most-most.ensures c.scanner.ensures.stands c.scanner.ensures.accepted c.scanner.ensures.refused
