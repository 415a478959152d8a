-- The modes in which code is read.
use Rattle.std.specs.Prelude.{ℕ, Bool, true, false}
use Rattle.rl_lexical.specs.declared.mode.Mode.{Mode}
use Rattle.rl_lexical.specs.declared.mode.Mode.TheVariants as m

-- a mode of code, or one behind its end
abbrev pub is_of_code : Mode → Bool
is_of_code (m.Code depth) = true
is_of_code (m.CodeSlash depth) = true
is_of_code (m.CodeQuote close depth) = true
is_of_code (m.CodeEscape close depth) = true
is_of_code (m.LineComment depth) = true
is_of_code (m.BlockComment depth) = true
is_of_code (m.BlockStar depth) = true
is_of_code m.Complete = true
is_of_code m.Past = true
is_of_code _ = false

-- how many braces are open there
abbrev pub depth_of : Mode → ℕ
depth_of (m.Code depth) = depth
depth_of (m.CodeSlash depth) = depth
depth_of (m.CodeQuote close depth) = depth
depth_of (m.CodeEscape close depth) = depth
depth_of (m.LineComment depth) = depth
depth_of (m.BlockComment depth) = depth
depth_of (m.BlockStar depth) = depth
depth_of _ = 0
