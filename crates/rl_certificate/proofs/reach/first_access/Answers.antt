use Rattle.std.proofs.Common.{refl, sym, ◌∙◌}
use Rattle.rl_certificate.proofs.SearchStates.{copied_first}
use Rattle.rl_certificate.proofs.reach.first_access.Goals as goal

pub returns-clause-first : goal.returns-clause-first
returns-clause-first c =
    copied_first c.args.min.now c.args.met.now c.requires.closed c.access_of-access.result.now _ c.access_of-access.ensures.there
    (sym c.access_of-access.ensures.leads) refl
    (c.in_ok-word.ensures ∙ c.deref.ensures.value)
