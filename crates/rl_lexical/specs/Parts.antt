-- The parts of a file, or its first fault.
use Rattle.std.specs.Prelude.{ℕ, zero, suc, Bool, true, false, ◌+◌, ◌-◌, ◌&&◌, ◌==◌, nat_eq, if◌then◌else◌, List, [], ◌∷◌, length, take, drop, Option, Some, None, Result, Ok, Err, codes}
use Rattle.std.specs.List.{prefix_len, starts_with, flat_map}
use Rattle.rl_types.specs.declared.faults.Fault.{Fault}
use Rattle.rl_types.specs.declared.faults.FaultKind.TheVariants as f
use Rattle.rl_types.specs.declared.numbers.Place.{Place}
use Rattle.rl_grammar.specs.declared.token.TokenKind.{TokenKind}
use Rattle.rl_grammar.specs.declared.token.TokenKind.TheVariants as k
use Rattle.rl_lexical.specs.declared.context.Context.{Context}
use Rattle.rl_lexical.specs.declared.context.Shape.{Shape}
use Rattle.rl_lexical.specs.declared.context.Shape.TheVariants as s
use Rattle.rl_lexical.specs.declared.part.Part.{Part}
use Rattle.rl_lexical.specs.declared.part.Part.TheVariants as p
use Rattle.rl_lexical.specs.declared.position.Position.{Position}
use Rattle.rl_lexical.specs.Blocks.{SourceBlock}
use Rattle.rl_lexical.specs.Bytes.{newline, is_line_blank, in_line, in_text, is_empty}
use Rattle.rl_lexical.specs.Contexts.{is_text, context_behind, context_behind_stray, first_context}
use Rattle.rl_lexical.specs.Fronts.{opened, token_in_front}
use Rattle.rl_lexical.specs.Places.{position_behind, is_before}
use Rattle.rl_lexical.specs.Tokens.{next_position, next_text}

-- ---- the end of a block

-- where the reading of a block stands: its context, its position, what is left, and the word that the next text belongs to
pub record Walk : Type 0 where
  pub word : Place
  pub context : Context
  pub at : Position
  pub rest : List ℕ

-- at the next token
abbrev pub at_next : Walk → Walk
at_next w = record { word = w.word; context = w.context; at = next_position w.context w.at w.rest; rest = next_text w.context w.rest }

abbrev pub unclosed : Place → Fault
unclosed place = record { kind = f.F2; place = place }

abbrev pub word_behind : Place → TokenKind → Place → Place
word_behind word k.Access here = here
word_behind word k.Variable here = here
word_behind word _ here = word

-- behind the token here, which has n bytes
abbrev pub walk_behind : Walk → TokenKind → ℕ → Walk
walk_behind w kind n = record {
  word = word_behind w.word kind w.at.place;
  context = context_behind w.context kind (take n w.rest);
  at = position_behind w.at (take n w.rest);
  rest = drop n w.rest;
}

-- behind a byte that begins no token
abbrev pub walk_behind_stray : Walk → Walk
walk_behind_stray w = record {
  word = w.word;
  context = context_behind_stray w.context;
  at = position_behind w.at (take 1 w.rest);
  rest = drop 1 w.rest;
}

-- a literal, a set, a regular expression or code begins here
abbrev pub begins_piece : Context → List ℕ → Bool
begins_piece context [] = false
begins_piece context (b ∷ bs) = is_there (opened context b)
  where
    is_there : {A : Type 0} → Option A → Bool
    is_there None = false
    is_there (Some opening) = true

-- behind what stands here; a piece that begins here and is no token has no end
abbrev pub passed : Walk → Option (TokenKind × ℕ) → Result (Option Walk) Fault
passed w (Some found) = Ok (Some (walk_behind w found.0 found.1))
passed w None = if begins_piece w.context w.rest then Err (unclosed w.at.place) else Ok (Some (walk_behind_stray w))

-- a block between braces ends with `}%%`, and one of one line where nothing of it is left
abbrev pub is_end : Shape → List ℕ → Bool
is_end s.Braced text = starts_with nat_eq text (codes "}%%")
is_end s.Line text = is_empty text

-- the text of `access` or `variable` has no end
abbrev pub is_endless : List ℕ → Bool
is_endless text = prefix_len in_text text == length text

-- behind what stands here, or nowhere at the end of the block, whose `%%` is at a place
abbrev pub step : Shape → Place → Walk → Result (Option Walk) Fault
step shape opening w =
    if is_text w.context.expected then (if is_endless w.rest then Err (unclosed w.word) else passed w (token_in_front w.context w.rest)) else
    (if is_end shape w.rest then Ok None else
    (if is_empty w.rest then Err (unclosed opening) else passed w (token_in_front w.context w.rest)))

-- where nothing is left
abbrev pub at_end : Shape → Place → Position → Result Position Fault
at_end s.Braced opening at = Err (unclosed opening)
at_end s.Line opening at = Ok at

abbrev pub go_on : Result (Option Walk) Fault → Position → (Walk → Result Position Fault) → Result Position Fault
go_on (Err fault) here more = Err fault
go_on (Ok None) here more = Ok here
go_on (Ok (Some w)) here more = more w

-- the position of a block's end, or the first fault. A text of n bytes takes no more than n steps.
unfoldable pub end_from : ℕ → Shape → Place → Walk → Result Position Fault
end_from zero shape opening w = at_end shape opening w.at
end_from (suc n) shape opening w =
    let here = at_next w in go_on (step shape opening here) here.at (λ next. end_from n shape opening next)

-- ---- blocks

abbrev pub blanks_len : List ℕ → ℕ
blanks_len text = prefix_len is_line_blank text

abbrev pub behind_blanks : List ℕ → List ℕ
behind_blanks text = drop (blanks_len text) text

-- a line begins a block where its first bytes behind blanks are `%%`
abbrev pub begins_block : List ℕ → Bool
begins_block line = starts_with nat_eq (behind_blanks line) (codes "%%")

abbrev pub shape_of : List ℕ → Shape
shape_of line = if starts_with nat_eq (behind_blanks line) (codes "%%{") then s.Braced else s.Line

-- how many bytes a mark has
abbrev pub opening_len : Shape → ℕ
opening_len s.Braced = 3
opening_len s.Line = 2

abbrev pub closing_len : Shape → List ℕ → ℕ
closing_len s.Braced rest = 3
closing_len s.Line rest = length (take 1 rest)

-- what a block of a shape may hold: its line, or all that is left
abbrev pub reach : Shape → List ℕ → List ℕ
reach s.Braced rest = rest
reach s.Line rest = take (prefix_len in_line rest) rest

-- how many bytes stand before the body of a block
abbrev pub before_body : List ℕ → ℕ
before_body text = blanks_len text + opening_len (shape_of text)

abbrev pub body_at : Position → List ℕ → Position
body_at at text = position_behind at (take (before_body text) text)

abbrev pub mark_at : Position → List ℕ → Position
mark_at at text = position_behind at (take (blanks_len text) text)

-- the end of the block that a text begins with
abbrev pub block_end : Position → List ℕ → Result Position Fault
block_end at text =
    let rest = reach (shape_of text) (drop (before_body text) text) in
    let mark = (mark_at at text).place in
    end_from (length rest) (shape_of text) mark (record { word = mark; context = first_context; at = body_at at text; rest = rest })

-- the block that a text begins with, which has this end
abbrev pub block_of : Position → List ℕ → Position → SourceBlock
block_of at text end =
    let start = body_at at text in
    let before = before_body text in
    let inside = end.from - start.from in
    let closing = closing_len (shape_of text) (drop (before + inside) text) in
    record {
      text = take (before + inside + closing) text;
      from = at.from;
      place = (mark_at at text).place;
      end = end.place;
      body = record { before = before; length = inside; at = start };
    }

-- ---- markers

-- the first bytes behind blanks are those of a printed data section
abbrev pub is_marked : List ℕ → Bool
is_marked text = starts_with nat_eq (behind_blanks text) (codes "/* rl-data ")

abbrev pub marked : Position → Fault
marked at = record { kind = f.F19; place = at.place }

-- the first line that is marked
abbrev pub marked_line : Bool → Position → List ℕ → Option Fault
marked_line fresh at [] = None
marked_line fresh at (b ∷ bs) =
    if fresh && is_marked (b ∷ bs) then Some (marked (mark_at at (b ∷ bs))) else marked_line (b == newline) (position_behind at (b ∷ [])) bs

-- ---- parts

-- how many bytes stand before the first line that begins a block
abbrev pub host_len : Bool → List ℕ → ℕ
host_len fresh [] = 0
host_len fresh (b ∷ bs) = if fresh && begins_block (b ∷ bs) then 0 else 1 + host_len (b == newline) bs

abbrev pub before_parts : Part → Result (List Part) Fault → Result (List Part) Fault
before_parts part (Ok parts) = Ok (part ∷ parts)
before_parts part (Err fault) = Err fault

-- a line begins behind a block of one line
abbrev pub is_fresh : Shape → Bool
is_fresh s.Braced = false
is_fresh s.Line = true

-- the block that a text begins with and the parts behind it; behind a `}%%` there is no marker
abbrev pub block_then : Position → List ℕ → Result Position Fault → (Bool → Position → List ℕ → Result (List Part) Fault) → Result (List Part) Fault
block_then at text (Err fault) others = Err fault
block_then at text (Ok end) others =
    let block = block_of at text end in
    let rest = drop (length block.text) text in
    let behind = position_behind at block.text in
    let fresh = is_fresh (shape_of text) in
    if (if fresh then false else is_marked rest) then Err (marked (mark_at behind rest)) else before_parts (p.Block block) (others fresh behind rest)

-- the parts of a text that stands here, at the beginning of a line or not. A text of n bytes has no more than n parts.
unfoldable pub parts_from : ℕ → Bool → Position → List ℕ → Result (List Part) Fault
parts_from zero fresh at text = Ok []
parts_from (suc n) fresh at text =
    let host = host_len fresh text in
    if is_empty text then Ok [] else
    (if host == 0 then block_then at text (block_end at text) (λ again behind rest. parts_from n again behind rest) else
    before_parts (p.Host (take host text)) (parts_from n true (position_behind at (take host text)) (drop host text)))

-- the earlier of two faults; at one place that of the marker
abbrev pub earlier : Option Fault → Result (List Part) Fault → Result (List Part) Fault
earlier None parts = parts
earlier (Some marker) (Ok parts) = Err marker
earlier (Some marker) (Err fault) = if is_before fault.place marker.place then Err fault else Err marker

-- the first byte of a file
abbrev pub file_start : ℕ → Position
file_start file = record { from = 0; place = record { file = file; line = 1; col = 1 } }

-- the parts of the file with this number, or its first fault
abbrev pub file_parts : ℕ → List ℕ → Result (List Part) Fault
file_parts file text =
    earlier (marked_line true (file_start file) text) (parts_from (length text) true (file_start file) text)

-- the bytes of a part, and of parts in order
abbrev pub part_text : Part → List ℕ
part_text (p.Host text) = text
part_text (p.Block block) = block.text

abbrev pub text_of : List Part → List ℕ
text_of parts = flat_map part_text parts
