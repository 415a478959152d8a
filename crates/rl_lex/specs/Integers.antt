-- How many bytes an integer has.
use Rattle.std.specs.Prelude.{ℕ, ◌+◌, ◌&&◌, ◌==◌, if◌then◌else◌, List, [], ◌∷◌}
use Rattle.std.specs.List.{prefix_len}
use Rattle.rl_lexical.specs.Bytes.{is_hex_digit}

-- two more than there are digits, where there are some
abbrev pub prefixed_len : ℕ → ℕ
prefixed_len n = if n == 0 then 0 else n + 2

-- how many bytes of `0x` and hexadecimal digits a text begins with
abbrev pub hexadecimal_len : List ℕ → ℕ
hexadecimal_len [] = 0
hexadecimal_len (a ∷ []) = 0
hexadecimal_len (a ∷ b ∷ cs) = if a == 48 && b == 120 then prefixed_len (prefix_len is_hex_digit cs) else 0
