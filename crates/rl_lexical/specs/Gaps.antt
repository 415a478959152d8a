-- What stands between tokens: blanks, and comments from `#` up to their newline.
use Rattle.std.specs.Prelude.{ℕ, ◌+◌, if◌then◌else◌, ◌==◌, List, [], ◌∷◌}
use Rattle.rl_lexical.specs.Bytes.{newline, hash, is_blank}

-- how many bytes of blanks and comments a text begins with
abbrev mutual
  pub gap_len : List ℕ → ℕ
  gap_len [] = 0
  gap_len (b ∷ bs) = if b == hash then 1 + comment_len bs else (if is_blank b then 1 + gap_len bs else 0)

  -- the same within a comment
  pub comment_len : List ℕ → ℕ
  comment_len [] = 0
  comment_len (b ∷ bs) = if b == newline then 1 + gap_len bs else 1 + comment_len bs
