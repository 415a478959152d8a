-- How deep a piece is.
use Rattle.std.specs.Prelude.{ℕ}
use Rattle.rl_lexical.specs.declared.mode.Mode.{Mode}
use Rattle.rl_lexical.specs.declared.mode.Mode.TheVariants as m

-- how many braces of code are open
abbrev pub depth_of : Mode → ℕ
depth_of (m.Code depth) = depth
depth_of (m.CodeSlash depth) = depth
depth_of (m.CodeQuote close depth) = depth
depth_of (m.CodeEscape close depth) = depth
depth_of (m.LineComment depth) = depth
depth_of (m.BlockComment depth) = depth
depth_of (m.BlockStar depth) = depth
depth_of _ = 0
