-- What contracts see of a block.
use Rattle.std.specs.Prelude.{ℕ, ◌+◌, ◌<◌, ◌≤◌, ◌^◌, List, length, take, drop}
use Rattle.rl_types.specs.declared.numbers.Place.{Place}
use Rattle.rl_lexical.specs.declared.position.Body.{Body}

-- a block of a file: its text and how many bytes are before it, the places of its `%%` and of its end, and its body
pub record SourceBlock : Type 0 where
  pub text : List ℕ
  pub from : ℕ
  pub place : Place
  pub end : Place
  pub body : Body

-- what stands between its marks
abbrev pub body_text : SourceBlock → List ℕ
body_text block = take block.body.length (drop block.body.before block.text)

-- the body lies in the text, and has no more bytes, lines and columns than positions can say
pub record IsBlock (block : SourceBlock) : Type 0 where
  pub within : block.body.before + block.body.length ≤ length block.text
  pub offsets : block.body.at.from + block.body.length < 2 ^ 63
  pub lines : block.body.at.place.line + block.body.length < 2 ^ 32
  pub columns : block.body.at.place.col + block.body.length < 2 ^ 32
