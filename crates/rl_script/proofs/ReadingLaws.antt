-- Scripts, line by line.
use Rattle.std.proofs.Common.{◌≡◌, ℕ, ◌+◌, ◌*◌, ◌≤◌, ◌==◌, Bool, true, false, cond, List, [], ◌∷◌, ◌++◌, length, Option, Some, None, option_and_then, Result, Ok, Err, codes, refl, sym, ◌∙◌, subst, arith}
use Rattle.std.proofs.lemmas.List.{length-append}
use Rattle.std.specs.Bool.{then_some}
use Rattle.std.specs.List.{slice_split, onto_first}
use Rattle.rl_replay.specs.declared.script.Event.{Event}
use Rattle.rl_replay.specs.declared.script.Event.TheVariants.{Open, Piece, End, Pick, Say}
use Rattle.rl_replay.specs.declared.script.Line.{Line}
use Rattle.rl_replay.specs.declared.script.ScriptFault.{ScriptFault}
use Rattle.rl_replay.specs.Script.{Behind, plain, backslash, hex, digit, with_byte, unquoted, bytes_of, escape_of, hex_of, event_of, says_nothing, with_line, or_bad, events_from, without_last_empty, lines_of, read_script}
use Rattle.rl_replay.specs.Sessions.{feeding_of, fed}
use Rattle.rl_script.proofs.EventLaws.{fed_line}

-- ---- what is fed stands in the text

-- a byte with those behind it
with_one : (b : ℕ) (o : Option (List ℕ)) (bytes : List ℕ) (n : ℕ) → with_byte b o ≡ Some bytes → ((more : List ℕ) → o ≡ Some more → length more ≤ n) → length bytes ≤ n + 1
with_one b None bytes n e h = absurd (cc e)
with_one b (Some more) bytes n e h = subst (λ bs. length bs ≤ n + 1) (same (b ∷ more) bytes e) (omega (arith, h more refl))
  where
    same : (x y : List ℕ) → Some x ≡ Some y → x ≡ y
    same x y f = cc

same_list : {A : Type 0} (x y : List A) → Some x ≡ Some y → x ≡ y
same_list x y f = cc

module _ (b : ℕ) (rest bytes : List ℕ) (later : (state : Behind) (more : List ℕ) → unquoted state rest ≡ Some more → length more ≤ length rest) where
  byte_small : (c : ℕ) → with_byte c (unquoted plain rest) ≡ Some bytes → length bytes ≤ length (b ∷ rest)
  byte_small c f = omega (arith, with_one c (unquoted plain rest) bytes (length rest) f (λ more g. later plain more g))

  later_small : (state : Behind) → unquoted state rest ≡ Some bytes → length bytes ≤ length (b ∷ rest)
  later_small state f = omega (arith, later state bytes f)

  plain_small : unquoted plain (b ∷ rest) ≡ Some bytes → length bytes ≤ length (b ∷ rest)
  plain_small e = go (b == 34) (b == 92) e
    where
      ended : (c : Bool) → then_some c [] ≡ Some bytes → length bytes ≤ length (b ∷ rest)
      ended true f = subst (λ bs. length bs ≤ length (b ∷ rest)) (same_list [] bytes f) (omega arith)
      ended false f = absurd (cc f)

      go : (c d : Bool) → cond c (then_some (length rest == 0) []) (cond d (unquoted backslash rest) (with_byte b (unquoted plain rest))) ≡ Some bytes → length bytes ≤ length (b ∷ rest)
      go true d f = ended (length rest == 0) f
      go false true f = later_small backslash f
      go false false f = byte_small b f

  backslash_small : unquoted backslash (b ∷ rest) ≡ Some bytes → length bytes ≤ length (b ∷ rest)
  backslash_small e = go (b == 120) e
    where
      escaped : (o : Option ℕ) → option_and_then (λ c. with_byte c (unquoted plain rest)) o ≡ Some bytes → length bytes ≤ length (b ∷ rest)
      escaped None f = absurd (cc f)
      escaped (Some c) f = byte_small c f

      go : (c : Bool) → cond c (unquoted hex rest) (option_and_then (λ c. with_byte c (unquoted plain rest)) (escape_of b)) ≡ Some bytes → length bytes ≤ length (b ∷ rest)
      go true f = later_small hex f
      go false f = escaped (escape_of b) f

  hex_small : unquoted hex (b ∷ rest) ≡ Some bytes → length bytes ≤ length (b ∷ rest)
  hex_small e = go (hex_of b) e
    where
      go : (o : Option ℕ) → option_and_then (λ n. unquoted (digit n) rest) o ≡ Some bytes → length bytes ≤ length (b ∷ rest)
      go None f = absurd (cc f)
      go (Some n) f = later_small (digit n) f

  digit_small : (high : ℕ) → unquoted (digit high) (b ∷ rest) ≡ Some bytes → length bytes ≤ length (b ∷ rest)
  digit_small high e = go (hex_of b) e
    where
      go : (o : Option ℕ) → option_and_then (λ low. with_byte (high * 16 + low) (unquoted plain rest)) o ≡ Some bytes → length bytes ≤ length (b ∷ rest)
      go None f = absurd (cc f)
      go (Some low) f = byte_small (high * 16 + low) f

unquoted_small : (text : List ℕ) (state : Behind) (bytes : List ℕ) → unquoted state text ≡ Some bytes → length bytes ≤ length text
unquoted_small [] state bytes e = absurd (cc e)
unquoted_small (b ∷ rest) plain bytes e = plain_small b rest bytes (λ state more f. unquoted_small rest state more f) e
unquoted_small (b ∷ rest) backslash bytes e = backslash_small b rest bytes (λ state more f. unquoted_small rest state more f) e
unquoted_small (b ∷ rest) hex bytes e = hex_small b rest bytes (λ state more f. unquoted_small rest state more f) e
unquoted_small (b ∷ rest) (digit high) bytes e = digit_small b rest bytes (λ state more f. unquoted_small rest state more f) high e

bytes_small : (text bytes : List ℕ) → bytes_of text ≡ Some bytes → length bytes ≤ length text
bytes_small [] bytes e = absurd (cc e)
bytes_small (b ∷ rest) bytes e = go (b == 34) e
  where
    go : (c : Bool) → cond c (unquoted plain rest) None ≡ Some bytes → length bytes ≤ length (b ∷ rest)
    go true f = omega (arith, unquoted_small rest plain bytes f)
    go false f = absurd (cc f)

-- a line feeds no more bytes than it has
line_small : (line : List ℕ) (event : Event) → event_of line ≡ Some event → length (feeding_of event) ≤ length line
line_small line (Open s entry) e = omega arith
line_small line (End s) e = omega arith
line_small line (Pick s action n picks) e = omega arith
line_small line (Say s condition n holds) e = omega arith
line_small line (Piece s bytes) e =
    let (quoted, same, reads) = fed_line line s bytes e in
    let small : length bytes ≤ length quoted = bytes_small quoted bytes reads in
    subst (λ l. length bytes ≤ length l) (sym same)
    (omega (arith, small, length-append (codes "piece ") (s ++ (32 ∷ quoted)), length-append s (32 ∷ quoted)))

abbrev total : List (List ℕ) → ℕ
total [] = 0
total (line ∷ lines) = length line + total lines

same_lines : (r : Result (List Line) ScriptFault) (x y : List Line) → r ≡ Ok x → r ≡ Ok y → x ≡ y
same_lines r x y e f = cc (sym e ∙ f)

module _ (n : ℕ) (line : List ℕ) (lines : List (List ℕ)) (script : List Line)
    (later : (rest : List Line) → events_from (n + 1) lines ≡ Ok rest → length (fed rest) ≤ total lines) where
  behind_it : (event : Event) (r : Result (List Line) ScriptFault) → event_of line ≡ Some event → events_from (n + 1) lines ≡ r → with_line n event r ≡ Ok script →
      length (fed script) ≤ length line + total lines
  behind_it event (Err fault) f g h = absurd (cc h)
  behind_it event (Ok rest) f g h =
      subst (λ ls. length (fed ls) ≤ length line + total lines) (same_lines (Ok ((record { number = n; event = event }) ∷ rest)) ((record { number = n; event = event }) ∷ rest) script refl h)
      (omega (arith, length-append (feeding_of event) (fed rest), line_small line event f, later rest g))

  said : (o : Option Event) → event_of line ≡ o → or_bad n o (events_from (n + 1) lines) ≡ Ok script → length (fed script) ≤ length line + total lines
  said None f h = absurd (cc h)
  said (Some event) f h = behind_it event (events_from (n + 1) lines) f refl h

  line_more : (b : Bool) → cond b (events_from (n + 1) lines) (or_bad n (event_of line) (events_from (n + 1) lines)) ≡ Ok script → length (fed script) ≤ length line + total lines
  line_more true h = omega (arith, later script h)
  line_more false h = said (event_of line) refl h

lines_small : (n : ℕ) (lines : List (List ℕ)) (script : List Line) → events_from n lines ≡ Ok script → length (fed script) ≤ total lines
lines_small n [] script e = subst (λ ls. length (fed ls) ≤ 0) (same_lines (Ok []) [] script refl e) (omega arith)
lines_small n (line ∷ lines) script e = line_more n line lines script (λ rest f. lines_small (n + 1) lines rest f) (says_nothing line) e

-- the lines of a text are no longer than it
last_dropped : (lines : List (List ℕ)) → total (without_last_empty lines) ≤ total lines
last_dropped [] = omega arith
last_dropped ([] ∷ []) = omega arith
last_dropped ((b ∷ line) ∷ []) = omega arith
last_dropped ([] ∷ next ∷ rest) = omega (arith, last_dropped (next ∷ rest))
last_dropped ((b ∷ line) ∷ next ∷ rest) = omega (arith, last_dropped (next ∷ rest))

split_small : (text : List ℕ) → total (slice_split (λ b. b == 10) text) ≤ length text
split_small [] = omega arith
split_small (b ∷ text) = go (b == 10) (slice_split (λ b. b == 10) text) (split_small text)
  where
    go : (c : Bool) (parts : List (List ℕ)) → total parts ≤ length text → total (cond c ([] ∷ parts) (onto_first b parts)) ≤ length (b ∷ text)
    go true parts h = omega arith
    go false [] h = omega arith
    go false (part ∷ parts) h = omega arith

pub script_small : (text : List ℕ) (script : List Line) → read_script text ≡ Ok script → length (fed script) ≤ length text
script_small text script e =
    omega (arith, lines_small 1 (lines_of text) script e, last_dropped (slice_split (λ b. b == 10) text), split_small text)
