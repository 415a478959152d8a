use Rattle.std.proofs.Common.{◌≡◌, drop}
use Rattle.rl_files.specs.Files.{tokens_of}
use Rattle.rl_files.proofs.ResultLaws.{behind}
use Rattle.rl_files.proofs.read.tokens_of.Given as goal

abbrev pub invariant-loop-part : goal.invariant-loop-part
invariant-loop-part l = behind l.found (tokens_of (drop l.part-index l.parts)) ≡ tokens_of l.parts
