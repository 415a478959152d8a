use Rattle.std.proofs.Common.{◌≡◌, drop}
use Rattle.rl_scan.specs.Beside.{tokens_of}
use Rattle.rl_scan.proofs.tokens.tokens_of.Given as goal

abbrev pub invariant-loop-m : goal.invariant-loop-m
invariant-loop-m l = tokens_of l.machines l.tokens l.parts ≡ tokens_of (drop l.m-index l.machines) l.ends l.rest
