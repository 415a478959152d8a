-- Sessions, line by line: which are opened, ended and live.
use Rattle.std.proofs.Common.{◌≡◌, ℕ, ◌+◌, Bool, true, false, cond, not, ◌||◌, List, [], ◌∷◌, ◌++◌, length, filter, filter_map, Option, is_some, refl, sym, ◌∙◌, ap, subst, arith, append-nil}
use Rattle.std.proofs.lemmas.List.Elements.{filter-append, filter_map-append}
use Rattle.std.proofs.lemmas.List.Folds.{list_any-append}
use Rattle.std.proofs.lemmas.List.{length-append}
use Rattle.std.proofs.lemmas.Slice.Eq.{bytes_eq-Decides}
use Rattle.std.specs.List.{cons_option}
use Rattle.std.specs.Str.{bytes_eq}
use Rattle.rl_replay.specs.declared.script.Event.{Event}
use Rattle.rl_replay.specs.declared.script.Event.TheVariants.{Open, Piece, End, Pick, Say}
use Rattle.rl_replay.specs.declared.script.Line.{Line}
use Rattle.rl_replay.specs.Sessions.{names_session, only, opening_of, opened_by, is_end, first, is_opened, is_ended, live, has_name}
use Rattle.rl_script.specs.NameTables.{opens}
use Rattle.rl_script.specs.Course.{opened_in, AreApart}
use Rattle.rl_script.proofs.BooleanLaws.{or_false, or_true, or_right, bytes_swapped}
use Rattle.rl_script.proofs.NameLaws.{name_behind}

abbrev pub line_of : ℕ → Event → Line
line_of n event = record { number = n; event = event }

-- an event ends a session
abbrev pub ends : List ℕ → Event → Bool
ends s (End t) = bytes_eq s t
ends s _ = false

-- ---- what one line says
opened_one : (s : List ℕ) (n : ℕ) (event : Event) → is_opened (only s (line_of n event ∷ [])) ≡ opens s event
opened_one s n (Open t entry) = go (bytes_eq t s) ∙ bytes_swapped t s
  where
    go : (b : Bool) → is_opened (cond b (line_of n (Open t entry) ∷ []) []) ≡ b
    go true = refl
    go false = refl
opened_one s n (Piece t bytes) = go (bytes_eq t s)
  where
    go : (b : Bool) → is_opened (cond b (line_of n (Piece t bytes) ∷ []) []) ≡ false
    go true = refl
    go false = refl
opened_one s n (End t) = go (bytes_eq t s)
  where
    go : (b : Bool) → is_opened (cond b (line_of n (End t) ∷ []) []) ≡ false
    go true = refl
    go false = refl
opened_one s n (Pick t action count picks) = go (bytes_eq t s)
  where
    go : (b : Bool) → is_opened (cond b (line_of n (Pick t action count picks) ∷ []) []) ≡ false
    go true = refl
    go false = refl
opened_one s n (Say t condition count holds) = go (bytes_eq t s)
  where
    go : (b : Bool) → is_opened (cond b (line_of n (Say t condition count holds) ∷ []) []) ≡ false
    go true = refl
    go false = refl

ended_one : (s : List ℕ) (n : ℕ) (event : Event) → is_ended (only s (line_of n event ∷ [])) ≡ ends s event
ended_one s n (End t) = go (bytes_eq t s) ∙ bytes_swapped t s
  where
    go : (b : Bool) → is_ended (cond b (line_of n (End t) ∷ []) []) ≡ b
    go true = refl
    go false = refl
ended_one s n (Open t entry) = go (bytes_eq t s)
  where
    go : (b : Bool) → is_ended (cond b (line_of n (Open t entry) ∷ []) []) ≡ false
    go true = refl
    go false = refl
ended_one s n (Piece t bytes) = go (bytes_eq t s)
  where
    go : (b : Bool) → is_ended (cond b (line_of n (Piece t bytes) ∷ []) []) ≡ false
    go true = refl
    go false = refl
ended_one s n (Pick t action count picks) = go (bytes_eq t s)
  where
    go : (b : Bool) → is_ended (cond b (line_of n (Pick t action count picks) ∷ []) []) ≡ false
    go true = refl
    go false = refl
ended_one s n (Say t condition count holds) = go (bytes_eq t s)
  where
    go : (b : Bool) → is_ended (cond b (line_of n (Say t condition count holds) ∷ []) []) ≡ false
    go true = refl
    go false = refl

-- ---- lines behind others
opened_both : (xs ys : List Line) → is_opened (xs ++ ys) ≡ (is_opened xs || is_opened ys)
opened_both xs ys =
    ap (λ list. is_some (first list)) (filter_map-append (λ line. opening_of line.event) xs ys)
    ∙ front (filter_map (λ line. opening_of line.event) xs) (filter_map (λ line. opening_of line.event) ys)
  where
    front : (xs ys : List (Option (List ℕ))) → is_some (first (xs ++ ys)) ≡ (is_some (first xs) || is_some (first ys))
    front [] ys = refl
    front (x ∷ xs) ys = refl

ended_both : (xs ys : List Line) → is_ended (xs ++ ys) ≡ (is_ended xs || is_ended ys)
ended_both xs ys = list_any-append (λ line. is_end line.event) xs ys

pub opened_more : (s : List ℕ) (past : List Line) (line : Line) → is_opened (only s (past ++ line ∷ [])) ≡ (is_opened (only s past) || opens s line.event)
opened_more s past line =
    ap is_opened (filter-append (names_session s) past (line ∷ []))
    ∙ opened_both (only s past) (only s (line ∷ []))
    ∙ ap (λ b. is_opened (only s past) || b) (opened_one s line.number line.event)

pub ended_more : (s : List ℕ) (past : List Line) (line : Line) → is_ended (only s (past ++ line ∷ [])) ≡ (is_ended (only s past) || ends s line.event)
ended_more s past line =
    ap is_ended (filter-append (names_session s) past (line ∷ []))
    ∙ ended_both (only s past) (only s (line ∷ []))
    ∙ ap (λ b. is_ended (only s past) || b) (ended_one s line.number line.event)

-- ---- the sessions that are opened, in order
abbrev pub opened_by_line : Event → List (List ℕ)
opened_by_line event = cons_option (opened_by event) []

pub opened_in_more : (past : List Line) (line : Line) → opened_in (past ++ line ∷ []) ≡ opened_in past ++ opened_by_line line.event
opened_in_more past line = filter_map-append (λ (l : Line). opened_by l.event) past (line ∷ [])

-- a session is opened where it is among them
opened_front : (s : List ℕ) (line : Line) (lines : List Line) → is_opened (only s (line ∷ lines)) ≡ (opens s line.event || is_opened (only s lines))
opened_front s line lines =
    ap is_opened (filter-append (names_session s) (line ∷ []) lines)
    ∙ opened_both (only s (line ∷ [])) (only s lines)
    ∙ ap (λ b. b || is_opened (only s lines)) (opened_one s line.number line.event)

names_front : (s : List ℕ) (n : ℕ) (event : Event) (names : List (List ℕ)) → has_name (cons_option (opened_by event) names) s ≡ (opens s event || has_name names s)
names_front s n (Open t entry) names = ap (λ b. b || has_name names s) (bytes_swapped t s)
names_front s n (Piece t bytes) names = refl
names_front s n (End t) names = refl
names_front s n (Pick t action count picks) names = refl
names_front s n (Say t condition count holds) names = refl

pub opened_has : (s : List ℕ) (lines : List Line) → has_name (opened_in lines) s ≡ is_opened (only s lines)
opened_has s [] = refl
opened_has s (line ∷ lines) =
    names_front s line.number line.event (opened_in lines)
    ∙ ap (λ b. opens s line.event || b) (opened_has s lines)
    ∙ sym (opened_front s line lines)

pub apart_more : (names : List (List ℕ)) (s : List ℕ) → AreApart names → has_name names s ≡ false → AreApart (names ++ s ∷ [])
apart_more [] s a h = ((λ e. absurd (cc e)), tt)
apart_more (name ∷ names) s a h = (front, apart_more names s a.1 (rest (bytes_eq name s) (has_name names s) h))
  where
    rest : (b c : Bool) → (b || c) ≡ false → c ≡ false
    rest true c e = absurd (cc e)
    rest false c e = e

    other : (b c : Bool) → (b || c) ≡ false → b ≡ false
    other true c e = absurd (cc e)
    other false c e = refl

    front : has_name (names ++ s ∷ []) name ≡ true → ⊥
    front e = go (has_name names name) refl
      where
        go : (b : Bool) → has_name names name ≡ b → ⊥
        go true f = a.0 f
        go false f =
            cc (sym (other (bytes_eq name s) (has_name names s) h) ∙ ap (λ b. b || bytes_eq name s) (sym f) ∙ sym (name_behind names s name) ∙ e)

-- ---- how many are live
same_filter : {A : Type 0} (p q : A → Bool) → ((x : A) → p x ≡ q x) → (xs : List A) → filter p xs ≡ filter q xs
same_filter p q h [] = refl
same_filter p q h (x ∷ xs) = ap (λ b. cond b (x ∷ filter p xs) (filter p xs)) (h x) ∙ ap (λ ys. cond (q x) (x ∷ ys) ys) (same_filter p q h xs)

abbrev pub stays : List Line → List ℕ → Bool
stays lines s = not (is_ended (only s lines))

live_same : (past : List Line) (line : Line) → ((s : List ℕ) → ends s line.event ≡ false) →
    live (past ++ line ∷ []) ≡ filter (stays past) (opened_in past ++ opened_by_line line.event)
live_same past line h =
    ap (filter (stays (past ++ line ∷ []))) (opened_in_more past line)
    ∙ same_filter (stays (past ++ line ∷ [])) (stays past)
    (λ s. ap not (ended_more s past line ∙ ap (λ b. is_ended (only s past) || b) (h s) ∙ or_false (is_ended (only s past))))
    (opened_in past ++ opened_by_line line.event)

-- a line that neither opens nor ends
pub live_stays : (past : List Line) (line : Line) → ((s : List ℕ) → ends s line.event ≡ false) → opened_by_line line.event ≡ [] → live (past ++ line ∷ []) ≡ live past
live_stays past line h e =
    live_same past line h ∙ ap (λ ts. filter (stays past) (opened_in past ++ ts)) e ∙ ap (filter (stays past)) (append-nil (opened_in past))

-- a line that opens a session which was not ended
pub live_opened : (past : List Line) (n : ℕ) (s : List ℕ) (entry : Option (List ℕ)) → is_ended (only s past) ≡ false →
    length (live (past ++ line_of n (Open s entry) ∷ [])) ≡ length (live past) + 1
live_opened past n s entry e =
    ap length (live_same past (line_of n (Open s entry)) (λ t. refl) ∙ filter-append (stays past) (opened_in past) (s ∷ []))
    ∙ length-append (live past) (filter (stays past) (s ∷ []))
    ∙ ap (λ b. length (live past) + length (cond (not b) (s ∷ []) [])) e

module _ (e : List ℕ → Bool) (s : List ℕ) where
  abbrev before : List ℕ → Bool
  before t = not (e t)

  abbrev after : List ℕ → Bool
  after t = not (e t || bytes_eq t s)

  other_after : (t : List ℕ) → bytes_eq t s ≡ false → after t ≡ before t
  other_after t h = ap (λ b. not (e t || b)) h ∙ ap not (or_false (e t))

  none_less : (names : List (List ℕ)) → (has_name names s ≡ true → ⊥) → filter after names ≡ filter before names
  none_less [] h = refl
  none_less (t ∷ names) h = go (bytes_eq t s) refl (none_less names (λ k. h (or_right (bytes_eq t s) (has_name names s) k)))
    where
      go : (b : Bool) → bytes_eq t s ≡ b → filter after names ≡ filter before names → filter after (t ∷ names) ≡ filter before (t ∷ names)
      go true f later = absurd (h (ap (λ b. b || has_name names s) f))
      go false f later =
          ap (λ b. cond b (t ∷ filter after names) (filter after names)) (other_after t f) ∙ ap (λ ts. cond (before t) (t ∷ ts) ts) later

  one_less : (names : List (List ℕ)) → AreApart names → has_name names s ≡ true → e s ≡ false → length (filter after names) + 1 ≡ length (filter before names)
  one_less [] a h f = absurd (cc h)
  one_less (t ∷ names) a h f = go (bytes_eq t s) refl (λ k. one_less names a.1 k f)
    where
      counted : (b : Bool) (xs ys : List (List ℕ)) → length xs + 1 ≡ length ys → length (cond b (t ∷ xs) xs) + 1 ≡ length (cond b (t ∷ ys) ys)
      counted true xs ys r = omega arith
      counted false xs ys r = r

      one : (ts : List (List ℕ)) → length ts + 1 ≡ length (t ∷ ts)
      one ts = omega arith

      go : (b : Bool) → bytes_eq t s ≡ b → (has_name names s ≡ true → length (filter after names) + 1 ≡ length (filter before names)) →
          length (filter after (t ∷ names)) + 1 ≡ length (filter before (t ∷ names))
      go true g later =
          let same : t ≡ s = (bytes_eq-Decides t s).0 g in
          let here : before t ≡ true = ap before same ∙ ap not f in
          let gone : after t ≡ false = ap (λ b. not (e t || b)) g ∙ ap not (or_true (e t)) in
          let left : filter after names ≡ filter before names = none_less names (subst (λ u. has_name names u ≡ true → ⊥) same a.0) in
          ap (λ b. length (cond b (t ∷ filter after names) (filter after names)) + 1) gone
          ∙ ap (λ ts. length ts + 1) left
          ∙ one (filter before names)
          ∙ sym (ap (λ b. length (cond b (t ∷ filter before names) (filter before names))) here)
      go false g later =
          ap (λ b. length (cond b (t ∷ filter after names) (filter after names)) + 1) (other_after t g)
          ∙ counted (before t) (filter after names) (filter before names) (later (ap (λ b. b || has_name names s) (sym g) ∙ h))

-- a line that ends a live session
pub live_ended : (past : List Line) (n : ℕ) (s : List ℕ) → AreApart (opened_in past) → is_opened (only s past) ≡ true → is_ended (only s past) ≡ false →
    length (live (past ++ line_of n (End s) ∷ [])) + 1 ≡ length (live past)
live_ended past n s a opened ended =
    let line = line_of n (End s) in
    ap (λ ts. length (filter (stays (past ++ line ∷ [])) ts) + 1) (opened_in_more past line ∙ append-nil (opened_in past))
    ∙ ap (λ ts. length ts + 1) (same_filter (stays (past ++ line ∷ [])) (λ t. not (is_ended (only t past) || bytes_eq t s)) (λ t. ap not (ended_more t past line)) (opened_in past))
    ∙ one_less (λ t. is_ended (only t past)) s (opened_in past) a (opened_has s past ∙ opened) ended
