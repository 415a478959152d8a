use Rattle.std.proofs.Common.{◌≡◌, ◌≤◌, ◌++◌, drop}
use Rattle.rl_printed.specs.Jobs.{AscendFrom}
use Rattle.rl_printed.specs.Printed.{job_text, printed_from}
use Rattle.rl_printed.proofs.texts.push_parts.Given as goal

-- what is written, and what the parts that are left print with the jobs that are left
abbrev pub invariant-loop-part : goal.invariant-loop-part
invariant-loop-part l =
    (l.text.items ++ printed_from (job_text l.specs l.tables) l.block (drop l.part-index l.parts) l.rest
    ≡ l.initial.text.items ++ printed_from (job_text l.specs l.tables) 0 l.parts l.jobs)
    × AscendFrom l.block l.rest × (l.block ≤ l.part-index)
