-- The parts of a file, joined in order, are its text.
use Rattle.std.proofs.Common.{◌≡◌, ℕ, zero, suc, ◌<◌, ◌≤◌, Bool, true, false, cond, eqb, List, [], ◌∷◌, ◌++◌, length, take, drop, Option, Some, None, Result, Ok, Err, refl, sym, ap, ◌∙◌, arith, length-take, length-drop}
use Rattle.std.proofs.lemmas.Bool.{false≢true}
use Rattle.rl_types.specs.declared.faults.Fault.{Fault}
use Rattle.rl_lexical.specs.declared.part.Part.{Part}
use Rattle.rl_lexical.specs.declared.part.Part.TheVariants as p
use Rattle.rl_lexical.specs.declared.context.Shape.{Shape}
use Rattle.rl_lexical.specs.declared.context.Shape.TheVariants as s
use Rattle.rl_lexical.specs.declared.position.Position.{Position}
use Rattle.rl_lexical.specs.Bytes.{is_empty}
use Rattle.rl_lexical.specs.Parts.{shape_of, opening_len, before_body, block_end, block_of, block_then, is_fresh, is_marked, marked, mark_at, host_len, before_parts, parts_from, earlier, marked_line, file_start, file_parts, text_of}
use Rattle.rl_lexical.specs.Places.{position_behind, is_before}

front_and_rest : (n : ℕ) (xs : List ℕ) → take n xs ++ drop (length (take n xs)) xs ≡ xs
front_and_rest zero xs = refl
front_and_rest (suc n) [] = refl
front_and_rest (suc n) (x ∷ xs) = ap (λ z. x ∷ z) (front_and_rest n xs)

take_drop : (n : ℕ) (xs : List ℕ) → take n xs ++ drop n xs ≡ xs
take_drop zero xs = refl
take_drop (suc n) [] = refl
take_drop (suc n) (x ∷ xs) = ap (λ z. x ∷ z) (take_drop n xs)

no_bytes : (text : List ℕ) → length text ≤ 0 → text ≡ []
no_bytes [] l = refl
no_bytes (b ∷ bs) l = absurd (omega arith)

nothing : (text : List ℕ) → is_empty text ≡ true → text ≡ []
nothing [] e = refl
nothing (b ∷ bs) e = absurd (false≢true e)

something : (text : List ℕ) → is_empty text ≡ false → 0 < length text
something [] e = absurd (false≢true (sym e))
something (b ∷ bs) e = omega arith

positive : (n : ℕ) → eqb n 0 ≡ false → 0 < n
positive zero h = absurd (false≢true (sym h))
positive (suc n) h = omega arith

step : (n : ℕ) (fresh : Bool) (at : Position) (text : List ℕ) → parts_from (suc n) fresh at text
    ≡ cond (is_empty text) (Ok [])
    (cond (eqb (host_len fresh text) 0) (block_then at text (block_end at text) (λ again behind rest. parts_from n again behind rest))
    (before_parts (p.Host (take (host_len fresh text) text)) (parts_from n true (position_behind at (take (host_len fresh text) text)) (drop (host_len fresh text) text))))
unfolding parts_from
step n fresh at text = refl

-- a part and those behind it
split_off : (part : Part) (answer : Result (List Part) Fault) (parts : List Part) → before_parts part answer ≡ Ok parts
    → (others : List Part) × (answer ≡ Ok others) × (parts ≡ part ∷ others)
split_off part (Ok others) parts e = (others, refl, cc)
split_off part (Err fault) parts e = absurd cc

-- the mark of a block has bytes
mark_bytes : (shape : Shape) → 0 < opening_len shape
mark_bytes s.Braced = omega arith
mark_bytes s.Line = omega arith

block_bytes : (at end : Position) (text : List ℕ) → 0 < length text → 0 < length (block_of at text end).text
block_bytes at end text l =
    let some : 0 < before_body text = (let mark = mark_bytes (shape_of text) in omega arith) in
    omega (arith, length-take {A = ℕ})

-- a block and what is behind it
block_joined : (at : Position) (text : List ℕ) (others : Bool → Position → List ℕ → Result (List Part) Fault) (parts : List Part) (end : Result Position Fault)
    → ((fresh : Bool) (behind : Position) (rest : List ℕ) (ps : List Part) → length rest < length text → others fresh behind rest ≡ Ok ps → text_of ps ≡ rest)
    → 0 < length text → block_then at text end others ≡ Ok parts → text_of parts ≡ text
block_joined at text others parts (Err fault) joined l e = absurd cc
block_joined at text others parts (Ok end) joined l e = unmarked (cond (is_fresh (shape_of text)) false (is_marked (drop (length (block_of at text end).text) text))) refl
  where
    unmarked : (b : Bool) → cond (is_fresh (shape_of text)) false (is_marked (drop (length (block_of at text end).text) text)) ≡ b → text_of parts ≡ text
    unmarked true h = absurd (let f : Err (marked (mark_at (position_behind at (block_of at text end).text) (drop (length (block_of at text end).text) text))) ≡ Ok parts = rw h at e in cc)
    unmarked false h =
        let f = rw h at e in
        let x = split_off (p.Block (block_of at text end)) (others (is_fresh (shape_of text)) (position_behind at (block_of at text end).text) (drop (length (block_of at text end).text) text)) parts f in
        let some = block_bytes at end text l in
        let less : length (drop (length (block_of at text end).text) text) < length text = omega (arith, length-drop {A = ℕ}) in
        let tail = joined (is_fresh (shape_of text)) (position_behind at (block_of at text end).text) (drop (length (block_of at text end).text) text) x.0 less x.1 in
        ap text_of x.2 ∙ (ap (λ z. (block_of at text end).text ++ z) tail ∙ front_and_rest _ text)

-- one part and those behind it
one_joined : (n : ℕ) (fresh : Bool) (at : Position) (text : List ℕ) (parts : List Part)
    → ((again : Bool) (behind : Position) (rest : List ℕ) (ps : List Part) → length rest ≤ n → parts_from n again behind rest ≡ Ok ps → text_of ps ≡ rest)
    → length text ≤ suc n → parts_from (suc n) fresh at text ≡ Ok parts → text_of parts ≡ text
one_joined n fresh at text parts joined l e = by_text (is_empty text) refl
  where
    by_host : is_empty text ≡ false → (b : Bool) → eqb (host_len fresh text) 0 ≡ b → text_of parts ≡ text
    by_host some true h =
        let all : block_then at text (block_end at text) (λ again behind rest. parts_from n again behind rest) ≡ Ok parts = sym (step n fresh at text ∙ rw some (rw h refl)) ∙ e in
        block_joined at text (λ again behind rest. parts_from n again behind rest) parts (block_end at text)
        (λ again behind rest ps less f. joined again behind rest ps (omega arith) f) (something text some) all
    by_host some false h =
        let all : before_parts (p.Host (take (host_len fresh text) text)) (parts_from n true (position_behind at (take (host_len fresh text) text)) (drop (host_len fresh text) text)) ≡ Ok parts =
        sym (step n fresh at text ∙ rw some (rw h refl)) ∙ e in
        let x = split_off (p.Host (take (host_len fresh text) text)) (parts_from n true (position_behind at (take (host_len fresh text) text)) (drop (host_len fresh text) text)) parts all in
        let host : 0 < host_len fresh text = positive (host_len fresh text) h in
        let bytes = something text some in
        let tail = joined true (position_behind at (take (host_len fresh text) text)) (drop (host_len fresh text) text) x.0 (omega (arith, length-drop {A = ℕ})) x.1 in
        ap text_of x.2 ∙ (ap (λ z. take (host_len fresh text) text ++ z) tail ∙ take_drop (host_len fresh text) text)

    by_text : (b : Bool) → is_empty text ≡ b → text_of parts ≡ text
    by_text true h =
        let all : Ok [] ≡ Ok parts = sym (step n fresh at text ∙ rw h refl) ∙ e in
        let none : parts ≡ [] = cc in
        ap text_of none ∙ sym (nothing text h)
    by_text false h = by_host h (eqb (host_len fresh text) 0) refl

none_joined : (fresh : Bool) (at : Position) (text : List ℕ) (parts : List Part) → length text ≤ 0 → parts_from 0 fresh at text ≡ Ok parts → text_of parts ≡ text
unfolding parts_from
none_joined fresh at text parts l e = (let none : parts ≡ [] = cc in ap text_of none ∙ sym (no_bytes text l))

from_joined : (n : ℕ) (fresh : Bool) (at : Position) (text : List ℕ) (parts : List Part) → length text ≤ n → parts_from n fresh at text ≡ Ok parts → text_of parts ≡ text
from_joined zero fresh at text parts l e = none_joined fresh at text parts l e
from_joined (suc n) fresh at text parts l e = one_joined n fresh at text parts (λ again behind rest ps m f. from_joined n again behind rest ps m f) l e

-- the parts of a file, joined in order, are its text
pub parts_are_the_text : (file : ℕ) (text : List ℕ) (parts : List Part) → file_parts file text ≡ Ok parts → text_of parts ≡ text
parts_are_the_text file text parts e = unmarked (marked_line true (file_start file) text) (parts_from (length text) true (file_start file) text) refl e
  where
    unmarked : (marker : Option Fault) (answer : Result (List Part) Fault) → parts_from (length text) true (file_start file) text ≡ answer
        → earlier marker answer ≡ Ok parts → text_of parts ≡ text
    unmarked None answer a f = from_joined (length text) true (file_start file) text parts (omega arith) (a ∙ f)
    unmarked (Some marker) (Ok others) a f = absurd cc
    unmarked (Some marker) (Err fault) a f = by_place (is_before fault.place marker.place) refl
      where
        by_place : (b : Bool) → is_before fault.place marker.place ≡ b → text_of parts ≡ text
        by_place true h = absurd (let g : Err fault ≡ Ok parts = rw h at f in cc)
        by_place false h = absurd (let g : Err marker ≡ Ok parts = rw h at f in cc)
