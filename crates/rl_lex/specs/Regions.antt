-- Parts of a file, one by one.
use Rattle.std.specs.Prelude.{◌≡◌, ℕ, suc, ◌+◌, ◌-◌, ◌≤◌, Bool, true, false, if◌then◌else◌, List, ◌++◌, length, take, drop, Option, Some, None, Result, Ok, Err}
use Rattle.rl_grammar.specs.declared.read_fault.ReadFault.{ReadFault}
use Rattle.rl_types.specs.declared.faults.Fault.{Fault}
use Rattle.rl_grammar.specs.declared.read_fault.ReadFault.TheVariants as r
use Rattle.rl_lexical.specs.declared.part.Part.{Part}
use Rattle.rl_lexical.specs.declared.part.Part.TheVariants as p
use Rattle.rl_lexical.specs.declared.position.Position.{Position}
use Rattle.rl_lexical.specs.Answers.{Explains}
use Rattle.rl_lexical.specs.Blocks.{SourceBlock}
use Rattle.rl_lexical.specs.Parts.{shape_of, before_body, body_at, mark_at, block_end, block_then, is_marked, marked, before_parts, parts_from}
use Rattle.rl_lexical.specs.Places.{position_behind, is_before}
use Rattle.rl_lex.specs.declared.parts.Head.{Head}
use Rattle.rl_lex.specs.declared.parts.Region.{Region}
use Rattle.rl_lex.specs.Room.{HasRoom}

-- what stands before the body of the block that a text begins with
pub record IsHead (at : Position) (text : List ℕ) (head : Head) : Type 0 where
  pub shape : head.shape ≡ shape_of text
  pub before : head.before ≡ before_body text
  pub mark : head.mark ≡ (mark_at at text).place
  pub body : head.body ≡ body_at at text
  pub within : head.before ≤ length text
  pub offset : head.body.from ≡ at.from + head.before
  pub start : HasRoom at (length text)
  pub room : HasRoom head.body (length text - head.before)

-- host text of some bytes, and what is behind it
abbrev pub IsHostPart : ℕ → Position → List ℕ → Result Region ReadFault → Type 0
IsHostPart n at text (Ok x) =
    (x.part ≡ p.Host (take n text)) × (x.fresh ≡ true) × (x.at ≡ position_behind at (take n text)) × (x.rest.now ≡ drop n text) × HasRoom x.at (length x.rest.now)
IsHostPart n at text (Err e) = e ≡ r.Memory

-- what is behind a block, or the marker there
abbrev pub IsBehindBlock : Bool → Position → List ℕ → SourceBlock → Result Region ReadFault → Type 0
IsBehindBlock fresh at text block (Ok x) =
    ((if fresh then false else is_marked (drop (length block.text) text)) ≡ false) × (x.part ≡ p.Block block) × (x.fresh ≡ fresh)
    × (x.at ≡ position_behind at block.text) × (x.rest.now ≡ drop (length block.text) text) × HasRoom x.at (length x.rest.now)
IsBehindBlock fresh at text block (Err e) =
    ((if fresh then false else is_marked (drop (length block.text) text)) ≡ true)
    × (e ≡ r.Fault (marked (mark_at (position_behind at block.text) (drop (length block.text) text))))

-- the block that a text begins with, and the other parts behind it
abbrev pub IsBlockPart : Position → List ℕ → Result Region ReadFault → Type 0
IsBlockPart at text (Ok x) =
    ((others : Bool → Position → List ℕ → Result (List Part) Fault) → block_then at text (block_end at text) others ≡ before_parts x.part (others x.fresh x.at x.rest.now))
    × HasRoom x.at (length x.rest.now)
IsBlockPart at text (Err e) =
    (others : Bool → Position → List ℕ → Result (List Part) Fault) → Explains (block_then at text (block_end at text) others) e

-- the part that stands here, and the other parts behind it
abbrev pub IsPart : Bool → Position → List ℕ → Result Region ReadFault → Type 0
IsPart fresh at text (Ok x) =
    ((n : ℕ) → parts_from (suc n) fresh at text ≡ before_parts x.part (parts_from n x.fresh x.at x.rest.now)) × HasRoom x.at (length x.rest.now)
IsPart fresh at text (Err e) = (n : ℕ) → Explains (parts_from (suc n) fresh at text) e

-- parts before those of an answer
abbrev pub joined_parts : List Part → Result (List Part) Fault → Result (List Part) Fault
joined_parts found (Ok parts) = Ok (found ++ parts)
joined_parts found (Err fault) = Err fault

-- the marker is told where no fault is before it
abbrev pub IsEarlier : Option Fault → Result (List Part) ReadFault → Result (List Part) ReadFault → Type 0
IsEarlier None answer told = told ≡ answer
IsEarlier (Some marker) (Ok parts) told = told ≡ Err (r.Fault marker)
IsEarlier (Some marker) (Err (r.Fault fault)) told = told ≡ Err (r.Fault (if is_before fault.place marker.place then fault else marker))
IsEarlier (Some marker) (Err e) told = told ≡ Err e
