use Rattle.std.proofs.Common.{◌≡◌, map, drop}
use Rattle.std.specs.Option.{option_copied}
use Rattle.rl_layout.specs.Told.{told}
use Rattle.rl_layout.specs.Books.{with_lists, list_of}
use Rattle.rl_layout.proofs.books.add_step_lists.Given as goal

abbrev pub invariant-loop-step : goal.invariant-loop-step
invariant-loop-step l = with_lists (told l.initial.lists.items) (map list_of (map option_copied l.steps)) ≡ with_lists (told l.lists.items) (map list_of (map option_copied (drop l.step-index l.steps)))
