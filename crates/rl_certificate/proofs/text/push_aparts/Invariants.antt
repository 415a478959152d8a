use Rattle.std.proofs.Common.{◌≡◌, ◌++◌, drop}
use Rattle.std.specs.List.{flat_map}
use Rattle.rl_certificate.specs.Texts.{apart_line}
use Rattle.rl_certificate.proofs.text.push_aparts.Given as goal

-- what is there, and the lines that are left
abbrev pub invariant-loop-p : goal.invariant-loop-p
invariant-loop-p l = l.text.items ++ flat_map apart_line (drop l.p-index l.apart) ≡ l.initial.text.items ++ flat_map apart_line l.apart
