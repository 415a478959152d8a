-- Walks through a block.
use Rattle.std.specs.Prelude.{◌≡◌, ◌+◌, ◌≤◌, length, Option, Some, None, Result, Ok, Err}
use Rattle.rl_types.specs.declared.numbers.Place.{Place}
use Rattle.rl_grammar.specs.declared.read_fault.ReadFault.{ReadFault}
use Rattle.rl_lexical.specs.declared.context.Shape.{Shape}
use Rattle.rl_lexical.specs.Answers.{Explains}
use Rattle.rl_lexical.specs.Fronts.{token_in_front}
use Rattle.rl_lexical.specs.Parts as parts
use Rattle.rl_lex.specs.declared.blocks.Walk.{Walk}
use Rattle.rl_lex.specs.Room.{HasRoom}

-- a walk as definitions see it
abbrev pub seen : Walk → parts.Walk
seen w = record { word = w.word; context = w.context; at = w.at; rest = w.rest.now }

-- the next walk ends where this one does
pub record IsMoved (w x : Walk) : Type 0 where
  pub offset : x.at.from + length x.rest.now ≡ w.at.from + length w.rest.now
  pub forward : w.at.from ≤ x.at.from
  pub room : HasRoom x.at (length x.rest.now)

-- behind what stands here, or the reason why nothing is
abbrev pub IsPassing : Walk → Result Walk ReadFault → Type 0
IsPassing w (Ok x) = (parts.passed (seen w) (token_in_front w.context w.rest.now) ≡ Ok (Some (seen x))) × IsMoved w x
IsPassing w (Err e) = Explains (parts.passed (seen w) (token_in_front w.context w.rest.now)) e

-- the step of a walk, or the reason why there is none
abbrev pub IsStep : Shape → Place → Walk → Result (Option Walk) ReadFault → Type 0
IsStep shape opening w (Ok None) = parts.step shape opening (seen w) ≡ Ok None
IsStep shape opening w (Ok (Some x)) = (parts.step shape opening (seen w) ≡ Ok (Some (seen x))) × IsMoved w x
IsStep shape opening w (Err e) = Explains (parts.step shape opening (seen w)) e
