use Rattle.std.proofs.Common.{ap, ◌∙◌}
use Rattle.std.specs.Prelude.{unwrap_or}
use Rattle.std.specs.Map.{lookup}
use Rattle.rl_playback.specs.Books.{named, same}
use Rattle.rl_playback.proofs.Maps.{count_set}
use Rattle.rl_playback.proofs.books.set_count.Goals as goal

pub returns-in-Ok : goal.returns-in-Ok
returns-in-Ok c = λ q.
    ap (λ es. unwrap_or (lookup (λ k. same q (named k)) es) 0) c.in-Ok.ensures.entries
    ∙ count_set q (c.args.session, c.args.name) c.args.count c.args.counts.now.entries
