use Rattle.std.proofs.Common.{map, ap, ◌∙◌}
use Rattle.rl_automata.specs.Scans as root
use Rattle.rl_model.specs.Specification.{pattern_of}
use Rattle.rl_rewrite.specs.Plain.{patterns_followed, plains}
use Rattle.rl_rewrite.specs.Steps.{patterns_of}
use Rattle.rl_rewrite.proofs.PatternLaws.{scanner_is, places_are}
use Rattle.rl_rewrite.proofs.patterns.walk_scanner.Goals as goal

pub returns-clause-root : goal.returns-clause-root
returns-clause-root c =
    let made = c.in_ok-made.made in
    let counts = c.walk_patterns.new.counts in
    ap (λ z. (record { root = root.Scanner (map pattern_of made.patterns); places = z }, counts)) c.in_ok-push.ensures.ok
    ∙ scanner_is (patterns_of made) counts (patterns_followed c.args.alphabet c.args.earlier.now c.args.patterns.now) c.args.at c.args.counts.now c.in_ok-made.ensures.patterns

pub returns-clause-places : goal.returns-clause-places
returns-clause-places c = c.in_ok-made.ensures.places ∙ places_are c.args.alphabet (plains c.args.alphabet c.args.earlier.now) c.args.patterns.now
