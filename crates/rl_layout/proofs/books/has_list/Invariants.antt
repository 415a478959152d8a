use Rattle.std.proofs.Common.{◌≡◌, drop}
use Rattle.std.specs.List.{list_any}
use Rattle.rl_layout.specs.Told.{told}
use Rattle.rl_layout.specs.Runs.{same_actions}
use Rattle.rl_layout.proofs.books.has_list.Given as goal

abbrev pub invariant-loop-l : goal.invariant-loop-l
invariant-loop-l l = list_any (same_actions l.list) (told l.lists) ≡ list_any (same_actions l.list) (told (drop l.l-index l.lists))
