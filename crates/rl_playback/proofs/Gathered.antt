-- The answers that lines give, one line after another.
use Rattle.std.proofs.Common.{◌≡◌, ℕ, Bool, true, false, cond, ◌&&◌, ◌==◌, List, [], ◌∷◌, ◌++◌, map, filter_map, Option, Some, None, option_map, refl, sym, ◌∙◌, ap, append-nil, arith}
use Rattle.std.specs.Bool.{then_some}
use Rattle.std.specs.Option.{option_or}
use Rattle.std.specs.Str.{bytes_eq}
use Rattle.std.proofs.lemmas.Bool.Decides.{nat_tests}
use Rattle.std.proofs.lemmas.List.Elements.{filter_map-append}
use Rattle.rl_replay.specs.declared.script.Event.{Event}
use Rattle.rl_replay.specs.declared.script.Event.TheVariants.{Open, Piece, End, Pick, Say}
use Rattle.rl_replay.specs.declared.script.Line.{Line}
use Rattle.rl_replay.specs.Host.{given_picks, given_answer, picks_for, says_for, pick_of, picks_answer, yes_no}
use Rattle.rl_replay.specs.Sessions.{first, session_of, names_session, only}
use Rattle.rl_replay.proofs.Projection.{only_more}
use Rattle.rl_playback.specs.declared.books.Books.{Books}
use Rattle.rl_playback.specs.Books.{Named, same, count_in, pick_by, say_by, AddsLine, AreAnswersOf, HasNoCalls}
use Rattle.rl_playback.proofs.Answered.{bytes_turned}

first_or : {A : Type 0} (xs ys : List A) → first (xs ++ ys) ≡ option_or (first xs) (first ys)
first_or [] [] = refl
first_or [] (y ∷ ys) = refl
first_or (x ∷ xs) ys = refl

or_none : {A : Type 0} (o : Option A) → option_or o None ≡ o
or_none None = refl
or_none (Some x) = refl

map_or : {A B : Type 0} (f : A → B) (o p : Option A) → option_map f (option_or o p) ≡ option_or (option_map f o) (option_map f p)
map_or f None p = refl
map_or f (Some x) p = refl

-- what is told by one line of a session
module _ {A : Type 0} (tell : Event → Option A) where
  abbrev told_by : List Line → Option A
  told_by lines = first (filter_map (λ line. tell line.event) lines)

  told_one : (line : Line) → told_by (line ∷ []) ≡ tell line.event
  told_one line = go (tell line.event) refl
    where
      go : (o : Option A) → tell line.event ≡ o → told_by (line ∷ []) ≡ tell line.event
      go None e = rw e refl
      go (Some x) e = rw e refl

  told_more : (s : List ℕ) (past : List Line) (line : Line) (b : Bool) → names_session s line ≡ b →
      told_by (only s (past ++ line ∷ [])) ≡ option_or (told_by (only s past)) (cond b (tell line.event) None)
  told_more s past line true e =
      ap (λ lines. told_by lines) (only_more s past line true e)
      ∙ ap first (filter_map-append (λ l. tell l.event) (only s past) (line ∷ []))
      ∙ first_or (filter_map (λ l. tell l.event) (only s past)) (filter_map (λ l. tell l.event) (line ∷ []))
      ∙ ap (λ o. option_or (told_by (only s past)) o) (told_one line)
  told_more s past line false e =
      ap (λ lines. told_by lines) (only_more s past line false e ∙ append-nil (only s past)) ∙ sym (or_none (told_by (only s past)))

map_some : {A B : Type 0} (f : A → B) (b : Bool) (x : A) → option_map f (then_some b x) ≡ then_some b (f x)
map_some f true x = refl
map_some f false x = refl

cond_some : {A : Type 0} (a b : Bool) (x : A) → cond a (then_some b x) None ≡ then_some (a && b) x
cond_some true b x = refl
cond_some false b x = refl

and_assoc : (a b c : Bool) → a && (b && c) ≡ (a && b) && c
and_assoc true b c = refl
and_assoc false b c = refl

cond_none : {A : Type 0} (b : Bool) → cond {A = Option A} b None None ≡ None
cond_none true = refl
cond_none false = refl

-- a test of a line, turned
turned : (s t u v : List ℕ) (n k : ℕ) → bytes_eq s t && (bytes_eq u v && k == n) ≡ same (t, v) (s, u) && n == k
turned s t u v n k =
    and_assoc (bytes_eq s t) (bytes_eq u v) (k == n)
    ∙ ap (λ b. b && bytes_eq u v && k == n) (bytes_turned s t)
    ∙ ap (λ b. bytes_eq t s && b && k == n) (bytes_turned u v)
    ∙ ap (λ b. bytes_eq t s && bytes_eq v u && b) (number_turned k n)
  where
    number_turned : (k n : ℕ) → (k == n) ≡ (n == k)
    number_turned k n = grind (arith, nat_tests)

one_pick : (p : Named) (n : ℕ) (event : Event) → option_map picks_answer (cond (bytes_eq (session_of event) p.0) (picks_for p.1 n event) None) ≡ pick_by p n event
one_pick p n (Open s entry) = ap (option_map picks_answer) (cond_none (bytes_eq s p.0))
one_pick p n (Piece s bytes) = ap (option_map picks_answer) (cond_none (bytes_eq s p.0))
one_pick p n (End s) = ap (option_map picks_answer) (cond_none (bytes_eq s p.0))
one_pick p n (Pick s action k list) =
    ap (option_map picks_answer) (cond_some (bytes_eq s p.0) (bytes_eq action p.1 && k == n) (map (λ x. pick_of x.0 x.1) list))
    ∙ map_some picks_answer (bytes_eq s p.0 && (bytes_eq action p.1 && k == n)) (map (λ x. pick_of x.0 x.1) list)
    ∙ ap (λ b. then_some b (picks_answer (map (λ x. pick_of x.0 x.1) list))) (turned s p.0 action p.1 n k)
one_pick p n (Say s condition k holds) = ap (option_map picks_answer) (cond_none (bytes_eq s p.0))

one_say : (p : Named) (n : ℕ) (event : Event) → option_map yes_no (cond (bytes_eq (session_of event) p.0) (says_for p.1 n event) None) ≡ say_by p n event
one_say p n (Open s entry) = ap (option_map yes_no) (cond_none (bytes_eq s p.0))
one_say p n (Piece s bytes) = ap (option_map yes_no) (cond_none (bytes_eq s p.0))
one_say p n (End s) = ap (option_map yes_no) (cond_none (bytes_eq s p.0))
one_say p n (Pick s action k list) = ap (option_map yes_no) (cond_none (bytes_eq s p.0))
one_say p n (Say s condition k holds) =
    ap (option_map yes_no) (cond_some (bytes_eq s p.0) (bytes_eq condition p.1 && k == n) holds)
    ∙ map_some yes_no (bytes_eq s p.0 && (bytes_eq condition p.1 && k == n)) holds
    ∙ ap (λ b. then_some b (yes_no holds)) (turned s p.0 condition p.1 n k)

-- one line more
pub answers_more : (past : List Line) (line : Line) (old new : Books) → AreAnswersOf past old → AddsLine old new line → AreAnswersOf (past ++ line ∷ []) new
answers_more past line old new h added = record {
  picks = λ p n.
      added.picks p n
      ∙ ap (λ o. option_or o (pick_by p n line.event)) (h.picks p n)
      ∙ ap (λ o. option_or (option_map picks_answer (given_picks (only p.0 past) p.1 n)) o) (sym (one_pick p n line.event))
      ∙ sym (map_or picks_answer (given_picks (only p.0 past) p.1 n) (cond (bytes_eq (session_of line.event) p.0) (picks_for p.1 n line.event) None))
      ∙ ap (option_map picks_answer) (sym (told_more (picks_for p.1 n) p.0 past line (bytes_eq (session_of line.event) p.0) refl));
  says = λ p n.
      added.says p n
      ∙ ap (λ o. option_or o (say_by p n line.event)) (h.says p n)
      ∙ ap (λ o. option_or (option_map yes_no (given_answer (only p.0 past) p.1 n)) o) (sym (one_say p n line.event))
      ∙ sym (map_or yes_no (given_answer (only p.0 past) p.1 n) (cond (bytes_eq (session_of line.event) p.0) (says_for p.1 n line.event) None))
      ∙ ap (option_map yes_no) (sym (told_more (says_for p.1 n) p.0 past line (bytes_eq (session_of line.event) p.0) refl));
}

pub calls_more : (line : Line) (old new : Books) → HasNoCalls old → AddsLine old new line → HasNoCalls new
calls_more line old new h added = record {
  picks = λ p. ap (λ counts. count_in p counts) added.pick_counts ∙ h.picks p;
  asks = λ p. ap (λ counts. count_in p counts) added.ask_counts ∙ h.asks p;
}
