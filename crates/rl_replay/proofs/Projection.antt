-- What is written for a session is what the lines that name it alone make.
use Rattle.std.proofs.Common.{◌≡◌, ℕ, Bool, true, false, cond, not, List, [], ◌∷◌, ◌++◌, map, length, drop, filter, filter_map, Option, Some, None, option_map, refl, sym, ◌∙◌, ap, subst, append-nil}
use Rattle.std.proofs.lemmas.List.Elements.{filter-append}
use Rattle.std.proofs.lemmas.Grind.{flat_map-append}
use Rattle.std.proofs.lemmas.Slice.Eq.{bytes_eq-Decides}
use Rattle.std.specs.List.{cons_option}
use Rattle.std.specs.Str.{bytes_eq}
use Rattle.rl_run.specs.declared.sessions.Settings.{Settings}
use Rattle.rl_run.specs.Machine.{Machine}
use Rattle.rl_replay.specs.declared.script.Line.{Line}
use Rattle.rl_replay.specs.Sessions.{Names, session_of, opening_of, opened_by, names_session, only, is_ended, live}
use Rattle.rl_replay.specs.Written.{Part, texts, texts_of, session_lines, left_part, gained, added, parts_from, left, parts, written}

again_at : {A : Type 0} (p : A → Bool) (x : A) (xs : List A) (b : Bool) → p x ≡ b → filter p xs ≡ xs → filter p (cond b (x ∷ xs) xs) ≡ cond b (x ∷ xs) xs
again_at p x xs true e h = rw e (ap (λ ys. x ∷ ys) h)
again_at p x xs false e h = h

pub filter_again : {A : Type 0} (p : A → Bool) (xs : List A) → filter p (filter p xs) ≡ filter p xs
filter_again p [] = refl
filter_again p (x ∷ xs) = again_at p x (filter p xs) (p x) refl (filter_again p xs)

pub only_more : (s : List ℕ) (past : List Line) (line : Line) (b : Bool) → names_session s line ≡ b → only s (past ++ line ∷ []) ≡ only s past ++ cond b (line ∷ []) []
only_more s past line b e = filter-append (names_session s) past (line ∷ []) ∙ ap (λ c. only s past ++ cond c (line ∷ []) []) e

module _ {S : Type 0} (names : Names) (m : Machine S) (settings : Settings) (script : List Line) (s : List ℕ) where
  abbrev pub alone : List Line
  alone = only s script

  same_alone : (lines : List Line) → only s lines ≡ only s (only s lines)
  same_alone lines = sym (filter_again (names_session s) lines)

  session_alone : (past : List Line) → session_lines names m settings s (only s script) (only s past) ≡ session_lines names m settings s (only s alone) (only s (only s past))
  session_alone past =
      ap (λ own. session_lines names m settings s own (only s past)) (same_alone script)
      ∙ ap (λ own. session_lines names m settings s (only s alone) own) (same_alone past)

  left_alone : left names m settings script s ≡ left names m settings alone s
  left_alone = ap (λ own. left_part names m settings s own) (same_alone script)

  -- what a line of the session adds
  gained_alone : (past : List Line) (line : Line) → only s (past ++ line ∷ []) ≡ only s past ++ line ∷ [] →
      gained names m settings script past line s ≡ gained names m settings alone (only s past) line s
  gained_alone past line h =
      ap (λ text. drop (length text) (session_lines names m settings s (only s script) (only s (past ++ line ∷ [])))) (session_alone past)
      ∙ ap (λ text. drop (length (session_lines names m settings s (only s alone) (only s (only s past)))) text)
      (session_alone (past ++ line ∷ []) ∙ ap (λ lines. session_lines names m settings s (only s alone) (only s lines)) h)

  abbrev pub later : List Line → List Line → List Part
  later past rest = parts_from names m settings script past rest

  abbrev pub later_alone : List Line → List Line → List Part
  later_alone past rest = parts_from names m settings alone past rest

  pub parts_alone : (past rest : List Line) → texts_of s (later past rest) ≡ texts (later_alone (only s past) (only s rest))
  parts_alone past [] = refl
  parts_alone past (line ∷ rest) = go (names_session s line) refl (parts_alone (past ++ line ∷ []) rest)
    where
      go : (b : Bool) → names_session s line ≡ b →
          texts_of s (later (past ++ line ∷ []) rest) ≡ texts (later_alone (only s (past ++ line ∷ [])) (only s rest)) →
          texts (cond b (added names m settings script past line ∷ filter (λ part. bytes_eq part.session s) (later (past ++ line ∷ []) rest))
          (filter (λ part. bytes_eq part.session s) (later (past ++ line ∷ []) rest)))
          ≡ texts (later_alone (only s past) (cond b (line ∷ only s rest) (only s rest)))
      go true e h =
          let more = only_more s past line true e in
          let text = subst (λ t. gained names m settings script past line t ≡ gained names m settings alone (only s past) line t)
          (sym ((bytes_eq-Decides (session_of line.event) s).0 e)) (gained_alone past line more) in
          ap (λ t. t ++ texts_of s (later (past ++ line ∷ []) rest)) text
          ∙ ap (λ t. gained names m settings alone (only s past) line (session_of line.event) ++ t)
          (h ∙ ap (λ p. texts (later_alone p (only s rest))) more)
      go false e h = h ∙ ap (λ p. texts (later_alone p (only s rest))) (only_more s past line false e ∙ append-nil (only s past))

  abbrev stays : List Line → List ℕ → Bool
  stays all t = not (is_ended (only t all))

  abbrev lefts : List Line → List (List ℕ) → List Part
  lefts all ts = map (left names m settings all) (filter (stays all) ts)

  -- a session of another name has no part
  other_left : (t : List ℕ) (ts : List (List ℕ)) → bytes_eq t s ≡ false → (c : Bool) →
      texts_of s (map (left names m settings script) (cond c (t ∷ filter (stays script) ts) (filter (stays script) ts))) ≡ texts_of s (lefts script ts)
  other_left t ts e true = ap (λ b. texts (cond b (left names m settings script t ∷ filter (λ part. bytes_eq part.session s) (lefts script ts)) (filter (λ part. bytes_eq part.session s) (lefts script ts)))) e
  other_left t ts e false = refl

  own_left : (ts us : List (List ℕ)) → texts_of s (lefts script ts) ≡ texts (lefts alone us) → (c : Bool) →
      texts_of s (map (left names m settings script) (cond c (s ∷ filter (stays script) ts) (filter (stays script) ts)))
      ≡ texts (map (left names m settings alone) (cond c (s ∷ filter (stays alone) us) (filter (stays alone) us)))
  own_left ts us h true =
      ap (λ b. texts (cond b (left names m settings script s ∷ filter (λ part. bytes_eq part.session s) (lefts script ts)) (filter (λ part. bytes_eq part.session s) (lefts script ts)))) ((bytes_eq-Decides s s).1 refl)
      ∙ ap (λ part. part.text ++ texts_of s (lefts script ts)) left_alone
      ∙ ap (λ t. (left names m settings alone s).text ++ t) h
  own_left ts us h false = h

  same_stays : stays script s ≡ stays alone s
  same_stays = ap (λ own. not (is_ended own)) (same_alone script)

  left_lines_at : (b : Bool) (line : Line) (lines : List Line) → cond b (cons_option (opened_by line.event) (filter_map (λ line. opened_by line.event) lines)) (filter_map (λ line. opened_by line.event) lines) ≡ filter_map (λ line. opened_by line.event) (cond b (line ∷ lines) lines)
  left_lines_at true line lines = refl
  left_lines_at false line lines = refl

  left_lines_alone : (lines : List Line) →
      texts_of s (lefts script (filter_map (λ line. opened_by line.event) lines)) ≡ texts (lefts alone (filter_map (λ line. opened_by line.event) (only s lines)))
  left_lines_alone [] = refl
  left_lines_alone (line ∷ lines) =
      go (names_session s line) refl (opening_of line.event) (left_lines_alone lines)
      ∙ ap (λ ts. texts (lefts alone ts)) (left_lines_at (names_session s line) line (only s lines))
    where
      go : (b : Bool) → names_session s line ≡ b → (o : Option (Option (List ℕ))) →
          texts_of s (lefts script (filter_map (λ line. opened_by line.event) lines)) ≡ texts (lefts alone (filter_map (λ line. opened_by line.event) (only s lines))) →
          texts_of s (lefts script (cons_option (option_map (λ entry. session_of line.event) o) (filter_map (λ line. opened_by line.event) lines)))
          ≡ texts (lefts alone (cond b (cons_option (option_map (λ entry. session_of line.event) o) (filter_map (λ line. opened_by line.event) (only s lines))) (filter_map (λ line. opened_by line.event) (only s lines))))
      go true e None h = h
      go true e (Some entry) h =
          let ts = filter_map (λ line. opened_by line.event) lines in
          let us = filter_map (λ line. opened_by line.event) (only s lines) in
          subst (λ t. texts_of s (lefts script (t ∷ ts)) ≡ texts (lefts alone (t ∷ us))) (sym ((bytes_eq-Decides (session_of line.event) s).0 e))
          (own_left ts us h (stays script s)
          ∙ ap (λ c. texts (map (left names m settings alone) (cond c (s ∷ filter (stays alone) us) (filter (stays alone) us)))) same_stays)
      go false e None h = h
      go false e (Some entry) h =
          other_left (session_of line.event) (filter_map (λ line. opened_by line.event) lines) e (stays script (session_of line.event)) ∙ h

  texts_of_append : (xs ys : List Part) → texts_of s (xs ++ ys) ≡ texts_of s xs ++ texts_of s ys
  texts_of_append xs ys =
      ap texts (filter-append (λ part. bytes_eq part.session s) xs ys)
      ∙ flat_map-append (λ part. part.text) (filter (λ part. bytes_eq part.session s) xs) (filter (λ part. bytes_eq part.session s) ys)

  pub projected : texts_of s (parts names m settings script) ≡ written names m settings (only s script)
  projected =
      texts_of_append (later [] script) (map (left names m settings script) (live script))
      ∙ ap (λ t. t ++ texts_of s (map (left names m settings script) (live script))) (parts_alone [] script)
      ∙ ap (λ t. texts (later_alone [] alone) ++ t) (left_lines_alone script)
      ∙ sym (flat_map-append (λ part. part.text) (later_alone [] alone) (map (left names m settings alone) (live alone)))
