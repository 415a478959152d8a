use Rattle.std.proofs.Common.{◌≡◌, take, map, option_map}
use Rattle.rl_labels.specs.Labels.{numbers}
use Rattle.rl_scan.specs.Beside.{tokens_of}
use Rattle.rl_scan.proofs.tokens.token_lists.Given as goal

abbrev pub invariant-loop-c : goal.invariant-loop-c
invariant-loop-c l = map (option_map numbers) l.lists.items ≡ map (tokens_of l.machines l.tokens) (take l.c-index l.found)
