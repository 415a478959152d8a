use Rattle.std.proofs.Common.{◌≡◌, length, subst, rules}
use Rattle.rl_certificate.specs.Tables.{rows_of, IsRound}
use Rattle.rl_certificate.proofs.RoundSteps.{all_found}
use Rattle.rl_certificate.proofs.rounds.all_words.Goals as goal

pub returns-then-len : goal.returns-then-len
returns-then-len c =
    let same : length c.in_ok-still.still.items ≡ length c.rounds.unknown.items = search rules in
    all_found c.args.min.now c.args.homes c.states.ensures.minimal c.rounds.count (rows_of c.rounds.table)
    (rows_of c.round.new.table) c.rounds.unknown.items c.in_ok-still.still.items
    c.rounds.invariant.known
    (subst (λ pairs. IsRound c.args.min.now c.args.homes c.rounds.count (rows_of c.rounds.table)
    (rows_of c.round.new.table) pairs c.in_ok-still.still.items) c.deref.ensures.value c.in_ok-still.ensures)
    same
