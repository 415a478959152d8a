use Rattle.std.proofs.Common.{◌≡◌, ◌++◌, drop}
use Rattle.std.specs.List.{flat_map}
use Rattle.rl_certificate.specs.Texts.{access_line}
use Rattle.rl_certificate.proofs.text.push_accesses.Given as goal

-- what is there, and the lines that are left
abbrev pub invariant-loop-a : goal.invariant-loop-a
invariant-loop-a l =
    l.text.items ++ flat_map (access_line l.entries) (drop l.a-index l.access) ≡ l.initial.text.items ++ flat_map (access_line l.entries) l.access
