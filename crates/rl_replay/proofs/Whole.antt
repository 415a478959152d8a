-- What the lines of a session add, one after another, is the lines of its run over all its input.
use Rattle.std.proofs.Common.{◌≡◌, ℕ, ◌-◌, Bool, true, false, cond, not, ◌&&◌, ◌||◌, List, [], ◌∷◌, ◌++◌, map, length, drop, filter_map, Option, Some, None, slice_get, is_some, unwrap_or, refl, sym, ◌∙◌, ap, subst, append_assoc, append-nil, nat_lt}
use Rattle.std.proofs.lemmas.List.Elements.{filter_map-append}
use Rattle.std.proofs.lemmas.Grind.{flat_map-append}
use Rattle.std.proofs.lemmas.List.Folds.{list_any-append}
use Rattle.std.proofs.lemmas.Slice.Eq.{bytes_eq-Decides}
use Rattle.std.proofs.Math.Seq.{drop-append_seam}
use Rattle.std.specs.Bool.{then_some}
use Rattle.std.specs.List.{AllByRecursion}
use Rattle.std.specs.Option.{option_or}
use Rattle.rl_run.specs.declared.sessions.Settings.{Settings}
use Rattle.rl_run.specs.Chain.{Extends}
use Rattle.rl_run.specs.Machine.{Machine}
use Rattle.rl_types.specs.Alphabet.{characters}
use Rattle.rl_types.proofs.Characters.{characters_of_front}
use Rattle.rl_run.specs.Run.{Input, input_at}
use Rattle.rl_replay.specs.declared.script.Event.{Event}
use Rattle.rl_replay.specs.declared.script.Event.TheVariants.{Open, Piece, End, Pick, Say}
use Rattle.rl_replay.specs.declared.script.Line.{Line}
use Rattle.rl_replay.specs.declared.script.ScriptFault.TheVariants.{NoSession}
use Rattle.rl_replay.specs.Sessions.{Names, entry_or_start, session_of, opening_of, feeding_of, is_end, names_session, only, first, opened_at, is_opened, is_ended, fed, fault_of, fault_from, first_fault}
use Rattle.rl_replay.specs.Host.{host}
use Rattle.rl_replay.specs.Lines.{run_lines}
use Rattle.rl_replay.specs.Written.{texts, texts_of, input_of, session_lines, gained, parts_from, left, written, whole_input}
use Rattle.rl_replay.proofs.Grows.{run_lines_grow}
use Rattle.rl_replay.proofs.Projection.{only_more, parts_alone}

first_append : {A : Type 0} (xs ys : List A) (x : A) → first xs ≡ Some x → first (xs ++ ys) ≡ Some x
first_append [] ys x e = absurd (cc e)
first_append (y ∷ xs) ys x e = e

-- what is seen of some bytes is seen where more stand behind them, also where the first end within a character
extends_more : (width : ℕ) (xs ys : List ℕ) (a b : Bool) → Extends (input_at width 0 xs a) (input_at width 0 (xs ++ ys) b)
extends_more width xs ys a b p character e = go (nat_lt p 0) e
  where
    go : (b : Bool) → cond b None (slice_get (characters width xs) (p - 0)) ≡ Some character →
        cond b None (slice_get (characters width (xs ++ ys)) (p - 0)) ≡ Some character
    go true e = absurd (cc e)
    go false e = characters_of_front width xs ys (p - 0) character e

-- a line that leaves the input of its session as it is
abbrev pub IsQuiet : Event → Type 0
IsQuiet event = (feeding_of event ≡ []) × (is_end event ≡ false)

-- no session has an input after its end
abbrev pub AreInOrder : List Line → List Line → Type 0
AreInOrder past [] = Unit {0}
AreInOrder past (line ∷ rest) = (is_ended past ≡ true → IsQuiet line.event) × AreInOrder (past ++ line ∷ []) rest

module _ {S : Type 0} (names : Names) (m : Machine S) (settings : Settings) (s : List ℕ) (own : List Line) where
  abbrev run_at : Option (Option (List ℕ)) → Input → List ℕ
  run_at o input = run_lines m settings s (host m own) (entry_or_start names (unwrap_or o None)) input

  abbrev lines : List Line → List ℕ
  lines past = session_lines names m settings s own past

  abbrev Grown : List ℕ → List ℕ → Type 0
  Grown a b = (more : List ℕ) × (b ≡ a ++ more)

  input_grows : (entry : Option (List ℕ)) (past : List Line) (line : Line) → (b : Bool) → is_ended past ≡ b → (b ≡ true → IsQuiet line.event) →
      Grown (run_at (Some entry) (input_of m.width past)) (run_at (Some entry) (input_of m.width (past ++ line ∷ [])))
  input_grows entry past line false e quiet =
      let more = fed (line ∷ []) in
      let extended = extends_more m.width (fed past) more (is_ended past) (is_ended (past ++ line ∷ [])) in
      let longer = subst (λ bytes. Extends (input_of m.width past) (input_at m.width 0 bytes (is_ended (past ++ line ∷ []))))
      (sym (flat_map-append (λ l. feeding_of l.event) past (line ∷ []))) extended in
      run_lines_grow m s (host m own) settings (entry_or_start names entry) (input_of m.width past) (input_of m.width (past ++ line ∷ [])) longer e
  input_grows entry past line true e quiet =
      let bytes = flat_map-append (λ l. feeding_of l.event) past (line ∷ [])
      ∙ ap (λ t. fed past ++ (t ++ [])) (quiet refl).0 ∙ append-nil (fed past) in
      let closed = list_any-append (λ l. is_end l.event) past (line ∷ []) ∙ ap (λ b. b || (is_end line.event || false)) e ∙ sym e in (
        [],
        ap (λ b. run_at (Some entry) (input_at m.width 0 b (is_ended (past ++ line ∷ [])))) bytes
            ∙ ap (λ c. run_at (Some entry) (input_at m.width 0 (fed past) c)) closed
            ∙ sym (append-nil (run_at (Some entry) (input_of m.width past))),
      )

  line_grows : (past : List Line) (line : Line) → (is_ended past ≡ true → IsQuiet line.event) → Grown (lines past) (lines (past ++ line ∷ []))
  line_grows past line quiet = go (opened_at past) refl
    where
      go : (o : Option (Option (List ℕ))) → opened_at past ≡ o → Grown (lines past) (lines (past ++ line ∷ []))
      go None e = (lines (past ++ line ∷ []), sym (ap (λ o. cond (is_some o) (run_at o (input_of m.width past)) [] ++ lines (past ++ line ∷ [])) e))
      go (Some entry) e =
          let later = ap first (filter_map-append (λ l. opening_of l.event) past (line ∷ []))
          ∙ first_append (filter_map (λ l. opening_of l.event) past) (filter_map (λ l. opening_of l.event) (line ∷ [])) entry e in
          let (more, g) = input_grows entry past line (is_ended past) refl quiet in (
            more,
            ap (λ o. cond (is_some o) (run_at o (input_of m.width (past ++ line ∷ []))) []) later ∙ g
                ∙ sym (ap (λ o. cond (is_some o) (run_at o (input_of m.width past)) [] ++ more) e),
          )

  abbrev AreOwn : List Line → Type 0
  AreOwn lines = AllByRecursion (λ line. session_of line.event ≡ s) lines

  pub only_own : (lines : List Line) → AreOwn lines → only s lines ≡ lines
  only_own [] h = refl
  only_own (line ∷ lines) h =
      ap (λ b. cond b (line ∷ only s lines) (only s lines)) ((bytes_eq-Decides (session_of line.event) s).1 h.0) ∙ ap (λ ls. line ∷ ls) (only_own lines h.1)

  own_append : (xs : List Line) (line : Line) → AreOwn xs → session_of line.event ≡ s → AreOwn (xs ++ line ∷ [])
  own_append [] line h e = (e, tt)
  own_append (x ∷ xs) line h e = (h.0, own_append xs line h.1 e)

  -- all that the lines add, behind what is there
  pub added_up : AreOwn own → (past rest : List Line) → AreOwn past → AreOwn rest → AreInOrder past rest →
      lines past ++ texts (parts_from names m settings own past rest) ≡ lines (past ++ rest)
  added_up own_is past [] h k order = append-nil (lines past) ∙ ap lines (sym (append-nil past))
  added_up own_is past (line ∷ rest) h k order =
      let (more, g) = line_grows past line order.0 in
      let later = own_append past line h k.0 in
      let gain = subst (λ t. gained names m settings own past line t ≡ more) (sym k.0)
      (ap (λ o. drop (length (session_lines names m settings s o (only s past))) (session_lines names m settings s o (only s (past ++ line ∷ [])))) (only_own own own_is)
      ∙ ap (λ p. drop (length (lines p)) (lines (only s (past ++ line ∷ [])))) (only_own past h)
      ∙ ap (λ p. drop (length (lines past)) (lines p)) (only_own (past ++ line ∷ []) later)
      ∙ ap (λ t. drop (length (lines past)) t) g
      ∙ drop-append_seam (lines past) more) in
      ap (λ t. lines past ++ (t ++ texts (parts_from names m settings own (past ++ line ∷ []) rest))) gain
      ∙ sym (append_assoc (lines past) more (texts (parts_from names m settings own (past ++ line ∷ []) rest)))
      ∙ ap (λ t. t ++ texts (parts_from names m settings own (past ++ line ∷ []) rest)) (sym g)
      ∙ added_up own_is (past ++ line ∷ []) rest later k.1 order.1
      ∙ ap lines (append_assoc past (line ∷ []) rest)

or_none : {A : Type 0} (o p : Option A) → option_or o p ≡ None → (o ≡ None) × (p ≡ None)
or_none None p e = (refl, e)
or_none (Some x) p e = absurd (cc e)

-- a script without a fault feeds and ends no session behind its end
module _ (names : Names) (all : List Line) where
  not_live : (past : List Line) (n : ℕ) (t : List ℕ) → then_some (not (is_opened (only t past) && not (is_ended (only t past)))) (NoSession n) ≡ None →
      is_ended (only t past) ≡ true → ⊥
  not_live past n t e ended = go (is_opened (only t past)) (is_ended (only t past)) ended e
    where
      go : (a b : Bool) → b ≡ true → then_some (not (a && not b)) (NoSession n) ≡ None → ⊥
      go true true f e = cc e
      go false true f e = cc e
      go a false f e = cc f

  quiet_of : (past : List Line) (n : ℕ) (event : Event) → fault_of names all past n event ≡ None → is_ended (only (session_of event) past) ≡ true → IsQuiet event
  quiet_of past n (Open t entry) e ended = (refl, refl)
  quiet_of past n (Piece t bytes) e ended = absurd (not_live past n t e ended)
  quiet_of past n (End t) e ended = absurd (not_live past n t e ended)
  quiet_of past n (Pick t action count picks) e ended = (refl, refl)
  quiet_of past n (Say t condition count holds) e ended = (refl, refl)

  in_order : (s : List ℕ) (past rest : List Line) → fault_from names all past rest ≡ None → AreInOrder (only s past) (only s rest)
  in_order s past [] e = tt
  in_order s past (line ∷ rest) e =
      let (here, later) = or_none (fault_of names all past line.number line.event) (fault_from names all (past ++ line ∷ []) rest) e in
      go (names_session s line) refl here (in_order s (past ++ line ∷ []) rest later)
    where
      go : (b : Bool) → names_session s line ≡ b → fault_of names all past line.number line.event ≡ None →
          AreInOrder (only s (past ++ line ∷ [])) (only s rest) → AreInOrder (only s past) (cond b (line ∷ only s rest) (only s rest))
      go true f here h = (
        λ ended. quiet_of past line.number line.event here
            (ap (λ t. is_ended (only t past)) ((bytes_eq-Decides (session_of line.event) s).0 f) ∙ ended),
        subst (λ p. AreInOrder p (only s rest)) (only_more s past line true f) h,
      )
      go false f here h = subst (λ p. AreInOrder p (only s rest)) (only_more s past line false f ∙ append-nil (only s past)) h

owned : (s : List ℕ) (lines : List Line) → AllByRecursion (λ line. session_of line.event ≡ s) (only s lines)
owned s [] = tt
owned s (line ∷ lines) = go (names_session s line) refl (owned s lines)
  where
    go : (b : Bool) → names_session s line ≡ b → AllByRecursion (λ line. session_of line.event ≡ s) (only s lines) →
        AllByRecursion (λ line. session_of line.event ≡ s) (cond b (line ∷ only s lines) (only s lines))
    go true e h = ((bytes_eq-Decides (session_of line.event) s).0 e, h)
    go false e h = h

module _ {S : Type 0} (names : Names) (m : Machine S) (settings : Settings) where
  -- in a script without a fault, the lines of a session add up to those of its run over all its input
  pub whole : (script : List Line) (s : List ℕ) → first_fault names script ≡ None →
      texts_of s (parts_from names m settings script [] script) ≡ session_lines names m settings s (only s script) (only s script)
  whole script s e =
      parts_alone names m settings script s [] script
      ∙ added_up names m settings s (only s script) (owned s script) [] (only s script) tt (owned s script) (in_order names script s [] script e)

  -- one input at once is one run
  pub one_run : (s : List ℕ) (entry : Option (List ℕ)) (bytes : List ℕ) →
      written names m settings (whole_input s entry bytes)
      ≡ run_lines m settings s (host m []) (entry_or_start names entry) (input_at m.width 0 bytes true)
  one_run s entry bytes =
      let script = whole_input s entry bytes in
      let own = only_own names m settings s script script (refl, (refl, (refl, tt))) in
      let none_left = ap (λ lines. cond (not (is_ended lines)) (s ∷ []) []) own in
      ap (λ ts. texts (parts_from names m settings script [] script ++ map (left names m settings script) ts)) none_left
      ∙ ap texts (append-nil (parts_from names m settings script [] script))
      ∙ added_up names m settings s script (refl, (refl, (refl, tt))) [] script tt (refl, (refl, (refl, tt))) ((λ e. absurd (cc e)), ((λ e. absurd (cc e)), ((λ e. absurd (cc e)), tt)))
      ∙ ap (λ b. run_lines m settings s (host m []) (entry_or_start names entry) (input_at m.width 0 b true)) (append-nil bytes)
