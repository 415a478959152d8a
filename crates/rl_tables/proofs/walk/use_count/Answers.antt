use Rattle.std.proofs.Common.{◌≡◌, ℕ, Some, pos, sym, ap, arith}
use Rattle.rl_tables.proofs.EntryLaws.{places_of, shared_len, own_len}
use Rattle.rl_tables.proofs.walk.use_count.Goals as goal

pub overflow_sub-result : goal.overflow_sub-result
overflow_sub-result c = let len = shared_len c.args.a.now (places_of c.args.a.now c.requires) (sym c.if-shares.ensures) in omega (arith, len)

pub overflow_sub-result-else-shares : goal.overflow_sub-result-else-shares
overflow_sub-result-else-shares c = let len = own_len c.args.a.now (places_of c.args.a.now c.requires) (sym c.if-shares.ensures) in omega (arith, len)

pub returns-then-shares : goal.returns-then-shares
returns-then-shares c =
    let P = places_of c.args.a.now c.requires in
    let len = shared_len c.args.a.now P (sym c.if-shares.ensures) in
    rw P.uses_are (ap (λ (n : ℕ). Some (pos n)) (omega (arith, len)))

pub returns-else-shares : goal.returns-else-shares
returns-else-shares c =
    let P = places_of c.args.a.now c.requires in
    let len = own_len c.args.a.now P (sym c.if-shares.ensures) in
    rw P.uses_are (ap (λ (n : ℕ). Some (pos n)) (omega (arith, len)))
