use Rattle.std.proofs.Common.{◌≡◌, drop}
use Rattle.rl_lexical.specs.Places.{position_behind}
use Rattle.rl_names.specs.Codes.{place_behind_text}
use Rattle.rl_names.proofs.codes.place_behind_text.Given as goal

abbrev pub invariant-loop-byte : goal.invariant-loop-byte
invariant-loop-byte l = (position_behind (record { from = l.byte-index; place = l.at }) (drop l.byte-index l.text)).place ≡ place_behind_text l.fn.place l.text
