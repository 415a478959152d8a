-- What lines say, by their words.
use Rattle.std.proofs.Common.{◌≡◌, ℕ, ℤ, Bool, true, false, cond, ◌&&◌, List, [], ◌∷◌, ◌++◌, Option, Some, None, option_map, option_and_then, codes, refl, sym, ◌∙◌, ap, subst, ◌==◌}
use Rattle.std.proofs.lemmas.List.Splits.{join_with_byte-slice_split}
use Rattle.std.proofs.lemmas.Slice.Eq.{bytes_eq-Decides}
use Rattle.std.specs.Bool.{then_some}
use Rattle.std.specs.List.{slice_split, join_with_byte}
use Rattle.std.specs.Str.{bytes_eq}
use Rattle.rl_replay.specs.declared.script.Event.{Event}
use Rattle.rl_replay.specs.declared.script.Event.TheVariants.{Open, Piece, End, Pick, Say}
use Rattle.rl_replay.specs.Script.{is_session, is_word, bytes_of, count_of, picks_of, yes_or_no, opens_by, feeds_by, ends_by, picks_by, says_by, event_by, event_of}
use Rattle.rl_script.specs.Parts.{words, is_one_word}
use Rattle.rl_script.proofs.PartLaws.{first_part, two_parts}

-- ---- openings
pub opens_without_entry : (s entry : List ℕ) → is_one_word (words entry) ≡ false → None ≡ opens_by (s ∷ words entry)
opens_without_entry s entry e =
    let (first, more, f) = first_part 32 entry in
    go first more (sym (ap is_one_word f) ∙ e) ∙ sym (ap (λ ws. opens_by (s ∷ ws)) f)
  where
    go : (first : List ℕ) (more : List (List ℕ)) → is_one_word (first ∷ more) ≡ false → None ≡ opens_by (s ∷ first ∷ more)
    go first [] h = both (is_session s) (is_word first) h
      where
        both : (b c : Bool) → c ≡ false → None ≡ then_some (b && c) (Open s (Some first))
        both true c g = sym (ap (λ c. then_some c (Open s (Some first))) g)
        both false c g = refl
    go first (x ∷ more) h = refl

-- ---- pieces
pub feeds : (s quoted new : List ℕ) (good : Bool) → is_session s ≡ true → option_map (λ bytes. [] ++ bytes) (bytes_of quoted) ≡ then_some good new →
    then_some good (Piece s new) ≡ feeds_by (s ∷ words quoted)
feeds s quoted new good e f =
    sym (ap (λ b. cond b (option_map (λ bytes. Piece s bytes) (bytes_of (join_with_byte 32 (words quoted)))) None) e
    ∙ ap (λ text. option_map (λ bytes. Piece s bytes) (bytes_of text)) (join_with_byte-slice_split 32 quoted)
    ∙ same (bytes_of quoted) good f)
  where
    same : (o : Option (List ℕ)) (b : Bool) → option_map (λ bytes. [] ++ bytes) o ≡ then_some b new → option_map (λ bytes. Piece s bytes) o ≡ then_some b (Piece s new)
    same None true g = absurd (cc g)
    same None false g = refl
    same (Some bytes) true g = ap (λ x. Some (Piece s x)) (some_is bytes new g)
      where
        some_is : (x y : List ℕ) → Some x ≡ Some y → x ≡ y
        some_is x y h = cc
    same (Some bytes) false g = absurd (cc g)

-- ---- ends
pub ends_with_more : (text before behind : List ℕ) → words text ≡ before ∷ words behind → None ≡ ends_by (words text)
ends_with_more text before behind e = let (second, more, f) = two_parts 32 text before behind e in sym (ap ends_by f)

-- ---- the text that a piece feeds
some_same : {A : Type 0} (x y : A) → Some x ≡ Some y → x ≡ y
some_same x y e = cc

-- the words of a line that feeds a session
abbrev Words : Event → List (List ℕ) → Type 0
Words (Piece s bytes) words = (quoted : List (List ℕ)) × (words ≡ codes "piece" ∷ s ∷ quoted) × (bytes_of (join_with_byte 32 quoted) ≡ Some bytes)
Words (Open s entry) words = Unit {0}
Words (End s) words = Unit {0}
Words (Pick s action n picks) words = Unit {0}
Words (Say s condition n holds) words = Unit {0}

opens_words : (words all : List (List ℕ)) (e : Event) → opens_by words ≡ Some e → Words e all
opens_words [] all e h = absurd (cc h)
opens_words (s ∷ []) all e h = go (is_session s) h
  where
    go : (b : Bool) → then_some b (Open s None) ≡ Some e → Words e all
    go true g = subst (λ x. Words x all) (some_same (Open s None) e g) tt
    go false g = absurd (cc g)
opens_words (s ∷ entry ∷ []) all e h = go (is_session s && is_word entry) h
  where
    go : (b : Bool) → then_some b (Open s (Some entry)) ≡ Some e → Words e all
    go true g = subst (λ x. Words x all) (some_same (Open s (Some entry)) e g) tt
    go false g = absurd (cc g)
opens_words (s ∷ entry ∷ x ∷ more) all e h = absurd (cc h)

feeds_words : (words : List (List ℕ)) (e : Event) → feeds_by words ≡ Some e → Words e (codes "piece" ∷ words)
feeds_words [] e h = absurd (cc h)
feeds_words (s ∷ quoted) e h = go (is_session s) h
  where
    fed : (o : Option (List ℕ)) → bytes_of (join_with_byte 32 quoted) ≡ o → option_map (λ bytes. Piece s bytes) o ≡ Some e → Words e (codes "piece" ∷ s ∷ quoted)
    fed None f g = absurd (cc g)
    fed (Some bytes) f g = subst (λ x. Words x (codes "piece" ∷ s ∷ quoted)) (some_same (Piece s bytes) e g) (quoted, refl, f)

    go : (b : Bool) → cond b (option_map (λ bytes. Piece s bytes) (bytes_of (join_with_byte 32 quoted))) None ≡ Some e → Words e (codes "piece" ∷ s ∷ quoted)
    go true g = fed (bytes_of (join_with_byte 32 quoted)) refl g
    go false g = absurd (cc g)

ends_words : (words all : List (List ℕ)) (e : Event) → ends_by words ≡ Some e → Words e all
ends_words [] all e h = absurd (cc h)
ends_words (s ∷ []) all e h = go (is_session s) h
  where
    go : (b : Bool) → then_some b (End s) ≡ Some e → Words e all
    go true g = subst (λ x. Words x all) (some_same (End s) e g) tt
    go false g = absurd (cc g)
ends_words (s ∷ x ∷ more) all e h = absurd (cc h)

-- an answer to a call is none of these lines
picks_words : (words all : List (List ℕ)) (e : Event) → picks_by words ≡ Some e → Words e all
picks_words [] all e h = absurd (cc h)
picks_words (s ∷ []) all e h = absurd (cc h)
picks_words (s ∷ action ∷ []) all e h = absurd (cc h)
picks_words (s ∷ action ∷ count ∷ []) all e h = absurd (cc h)
picks_words (s ∷ action ∷ count ∷ picks ∷ []) all e h = go (is_session s && is_word action) (count_of count) (picks_of picks) h
  where
    go : (b : Bool) (n : Option ℕ) (p : Option (List (ℕ × Option ℤ))) → cond b (option_and_then (λ n. option_map (λ list. Pick s action n list) p) n) None ≡ Some e → Words e all
    go true (Some n) (Some list) g = subst (λ x. Words x all) (some_same (Pick s action n list) e g) tt
    go true (Some n) None g = absurd (cc g)
    go true None p g = absurd (cc g)
    go false n p g = absurd (cc g)
picks_words (s ∷ action ∷ count ∷ picks ∷ x ∷ more) all e h = absurd (cc h)

says_words : (words all : List (List ℕ)) (e : Event) → says_by words ≡ Some e → Words e all
says_words [] all e h = absurd (cc h)
says_words (s ∷ []) all e h = absurd (cc h)
says_words (s ∷ condition ∷ []) all e h = absurd (cc h)
says_words (s ∷ condition ∷ count ∷ []) all e h = absurd (cc h)
says_words (s ∷ condition ∷ count ∷ answer ∷ []) all e h = go (is_session s && is_word condition) (count_of count) (yes_or_no answer) h
  where
    go : (b : Bool) (n : Option ℕ) (a : Option Bool) → cond b (option_and_then (λ n. option_map (λ yes. Say s condition n yes) a) n) None ≡ Some e → Words e all
    go true (Some n) (Some holds) g = subst (λ x. Words x all) (some_same (Say s condition n holds) e g) tt
    go true (Some n) None g = absurd (cc g)
    go true None a g = absurd (cc g)
    go false n a g = absurd (cc g)
says_words (s ∷ condition ∷ count ∷ answer ∷ x ∷ more) all e h = absurd (cc h)

event_words : (words : List (List ℕ)) (e : Event) → event_by words ≡ Some e → Words e words
event_words [] e h = absurd (cc h)
event_words (verb ∷ words) e h = opens (bytes_eq verb (codes "open")) refl h
  where
    verb_is : (word : List ℕ) → bytes_eq verb word ≡ true → Words e (word ∷ words) → Words e (verb ∷ words)
    verb_is word f w = subst (λ v. Words e (v ∷ words)) (sym ((bytes_eq-Decides verb word).0 f)) w

    says : (b : Bool) → cond b (says_by words) None ≡ Some e → Words e (verb ∷ words)
    says true g = says_words words (verb ∷ words) e g
    says false g = absurd (cc g)

    picks : (b : Bool) → cond b (picks_by words) (cond (bytes_eq verb (codes "say")) (says_by words) None) ≡ Some e → Words e (verb ∷ words)
    picks true g = picks_words words (verb ∷ words) e g
    picks false g = says (bytes_eq verb (codes "say")) g

    ends : (b : Bool) → bytes_eq verb (codes "end") ≡ b →
        cond b (ends_by words) (cond (bytes_eq verb (codes "pick")) (picks_by words) (cond (bytes_eq verb (codes "say")) (says_by words) None)) ≡ Some e → Words e (verb ∷ words)
    ends true f g = ends_words words (verb ∷ words) e g
    ends false f g = picks (bytes_eq verb (codes "pick")) g

    feeds : (b : Bool) → bytes_eq verb (codes "piece") ≡ b →
        cond b (feeds_by words) (cond (bytes_eq verb (codes "end")) (ends_by words) (cond (bytes_eq verb (codes "pick")) (picks_by words) (cond (bytes_eq verb (codes "say")) (says_by words) None))) ≡ Some e → Words e (verb ∷ words)
    feeds true f g = verb_is (codes "piece") f (feeds_words words e g)
    feeds false f g = ends (bytes_eq verb (codes "end")) refl g

    opens : (b : Bool) → bytes_eq verb (codes "open") ≡ b →
        cond b (opens_by words) (cond (bytes_eq verb (codes "piece")) (feeds_by words) (cond (bytes_eq verb (codes "end")) (ends_by words) (cond (bytes_eq verb (codes "pick")) (picks_by words) (cond (bytes_eq verb (codes "say")) (says_by words) None)))) ≡ Some e → Words e (verb ∷ words)
    opens true f g = opens_words words (verb ∷ words) e g
    opens false f g = feeds (bytes_eq verb (codes "piece")) refl g

joined : (line : List ℕ) (words : List (List ℕ)) → slice_split (λ b. b == 32) line ≡ words → line ≡ join_with_byte 32 words
joined line words e = sym (join_with_byte-slice_split 32 line) ∙ ap (join_with_byte 32) e

pub fed_line : (line s bytes : List ℕ) → event_of line ≡ Some (Piece s bytes) →
    (quoted : List ℕ) × (line ≡ codes "piece " ++ (s ++ (32 ∷ quoted))) × (bytes_of quoted ≡ Some bytes)
fed_line line s bytes h =
    let (quoted, words, q) = event_words (slice_split (λ b. b == 32) line) (Piece s bytes) h in
    go quoted words q
  where
    go : (quoted : List (List ℕ)) → slice_split (λ b. b == 32) line ≡ codes "piece" ∷ s ∷ quoted → bytes_of (join_with_byte 32 quoted) ≡ Some bytes →
        (quoted : List ℕ) × (line ≡ codes "piece " ++ (s ++ (32 ∷ quoted))) × (bytes_of quoted ≡ Some bytes)
    go [] words q = absurd (cc q)
    go (x ∷ xs) words q = (join_with_byte 32 (x ∷ xs), joined line (codes "piece" ∷ s ∷ x ∷ xs) words, q)
