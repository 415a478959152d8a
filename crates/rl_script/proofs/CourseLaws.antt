-- What is known of a script's lines, line by line, and the faults by it.
use Rattle.std.proofs.Common.{◌≡◌, ℕ, ◌+◌, ◌-◌, ◌<◌, ◌==◌, Bool, true, false, cond, not, ◌&&◌, ◌||◌, nat_le, nat_lt, List, [], ◌∷◌, ◌++◌, length, take, drop, get_or, Option, Some, None, option_map, ℤ, unwrap_or, position, codes, refl, sym, ◌∙◌, ap, subst, append-nil, arith, inl, inr, ◌⊎◌}
use Rattle.std.proofs.lemmas.Bool.Decides.{nat_tests}
use Rattle.std.proofs.lemmas.List.{at_drop_more}
use Rattle.std.proofs.lemmas.List.Folds.{list_any-append}
use Rattle.std.proofs.lemmas.Slice.Eq.{bytes_eq-Decides}
use Rattle.std.specs.List.{list_any, position_or_len}
use Rattle.std.specs.Option.{option_or}
use Rattle.std.specs.Str.{bytes_eq}
use Rattle.rl_replay.specs.declared.script.Event.{Event}
use Rattle.rl_replay.specs.declared.script.Event.TheVariants.{Open, Piece, End, Pick, Say}
use Rattle.rl_replay.specs.declared.script.Line.{Line}
use Rattle.rl_replay.specs.declared.script.ScriptFault.{ScriptFault}
use Rattle.rl_replay.specs.declared.script.ScriptFault.TheVariants.{BadLine, Twice, NoSession, NoEntry, NoName, Full, Memory}
use Rattle.rl_replay.specs.Sessions.{Names, has_name, entry_named, start_entry, entry_or_start, only, is_opened, is_ended, is_live, live, answers_same, if_so, fault_of, fault_from, first_fault}
use Rattle.rl_script.specs.declared.course.Course.{Course}
use Rattle.rl_script.specs.declared.course.Known.{Known}
use Rattle.rl_script.specs.Course.{Knows, Tells, is_entry, is_live_in, fault_in, Notes, AreApart, opened_in}
use Rattle.rl_script.specs.Faults.{IsDue}
use Rattle.rl_script.specs.NameTables.{has, has_call, opens}
use Rattle.rl_script.proofs.BooleanLaws.{together, and_left, and_right, not_false, or_false, or_left, bytes_swapped, numbers_swapped}
use Rattle.rl_script.proofs.NameLaws.{taken}
use Rattle.rl_script.proofs.SessionLaws.{ends, opened_more, ended_more, opened_in_more, opened_by_line, opened_has, apart_more, live_stays, live_opened, live_ended}

-- ---- entries
entry_there : (test : List ℕ → Bool) (names : List (List ℕ)) → list_any test names ≡ nat_lt (position_or_len test names) (length names)
entry_there test [] = refl
entry_there test (name ∷ names) = go (test name) (entry_there test names)
  where
    go : (b : Bool) → list_any test names ≡ nat_lt (position_or_len test names) (length names) →
        (b || list_any test names) ≡ nat_lt (cond (not b) (1 + position_or_len test names) 0) (length (name ∷ names))
    go true h = grind (arith, nat_tests)
    go false h = h ∙ grind (arith, nat_tests)

entry_number : (names : Names) (entry : List ℕ) → (entry_or_start names (Some entry) == 0) ≡ not (has_name names.entries entry)
entry_number names entry =
    go (nat_lt (position_or_len test names.entries) (length names.entries)) (position_or_len test names.entries)
    ∙ sym (ap not (entry_there test names.entries))
  where
    test : List ℕ → Bool
    test = λ other. bytes_eq other entry

    go : (b : Bool) (i : ℕ) → (unwrap_or (option_map (λ i. i + 1) (cond b (Some i) None)) 0 == 0) ≡ not b
    go true i = grind (arith, nat_tests)
    go false i = refl

start_number : (names : Names) → (start_entry names == 0) ≡ false
start_number names = go (entry_named names (codes "main")) (position (λ other. bytes_eq other (codes "main")) names.entries) refl
  where
    go : (o : Option ℕ) (p : Option ℕ) → o ≡ option_map (λ i. i + 1) p → (unwrap_or o 1 == 0) ≡ false
    go o None e = ap (λ x. unwrap_or x 1 == 0) e
    go o (Some i) e = ap (λ x. unwrap_or x 1 == 0) e ∙ above i
      where
        above : (i : ℕ) → (i + 1 == 0) ≡ false
        above i = grind (arith, nat_tests)

module _ (names : Names) (all past : List Line) (known : Known) (course : Course) (knows : Knows names all known) (tells : Tells past course) where
  entry_known : (entry : Option (List ℕ)) → not (is_entry known entry) ≡ (entry_or_start names entry == 0)
  entry_known None = sym (start_number names)
  entry_known (Some entry) = ap not (knows.entries entry) ∙ sym (entry_number names entry)

  live_known : (s : List ℕ) → is_live_in course s ≡ is_live (only s past)
  live_known s = ap (λ b. b && not (has course.ended s)) (tells.opened s) ∙ ap (λ b. is_opened (only s past) && not b) (tells.ended s)

  -- what is known tells the faults
  same_fault : (n : ℕ) (event : Event) → fault_in known course n event ≡ fault_of names all past n event
  same_fault n (Open s entry) =
      ap (λ b. option_or (if_so b (Twice n)) (option_or (if_so (not (is_entry known entry)) (NoEntry n)) (if_so (nat_le 1024 course.live) (Full n)))) (tells.opened s)
      ∙ ap (λ b. option_or (if_so (is_opened (only s past)) (Twice n)) (option_or (if_so b (NoEntry n)) (if_so (nat_le 1024 course.live) (Full n)))) (entry_known entry)
      ∙ ap (λ k. option_or (if_so (is_opened (only s past)) (Twice n)) (option_or (if_so (entry_or_start names entry == 0) (NoEntry n)) (if_so (nat_le 1024 k) (Full n)))) tells.live
  same_fault n (Piece s bytes) = ap (λ b. if_so (not b) (NoSession n)) (live_known s)
  same_fault n (End s) = ap (λ b. if_so (not b) (NoSession n)) (live_known s)
  same_fault n (Pick s action count picks) =
      ap (λ b. option_or (if_so b (Twice n)) (option_or (if_so (not (has known.opened s)) (NoSession n)) (if_so (not (has known.actions action)) (NoName n)))) (tells.picks s action count)
      ∙ ap (λ b. option_or (if_so (list_any (λ line. answers_same (Pick s action count []) line.event) past) (Twice n)) (option_or (if_so (not b) (NoSession n)) (if_so (not (has known.actions action)) (NoName n)))) (knows.opened s)
      ∙ ap (λ b. option_or (if_so (list_any (λ line. answers_same (Pick s action count []) line.event) past) (Twice n)) (option_or (if_so (not (is_opened (only s all))) (NoSession n)) (if_so (not b) (NoName n)))) (knows.actions action)
  same_fault n (Say s condition count holds) =
      ap (λ b. option_or (if_so b (Twice n)) (option_or (if_so (not (has known.opened s)) (NoSession n)) (if_so (not (has known.conditions condition)) (NoName n)))) (tells.says s condition count)
      ∙ ap (λ b. option_or (if_so (list_any (λ line. answers_same (Say s condition count true) line.event) past) (Twice n)) (option_or (if_so (not b) (NoSession n)) (if_so (not (has known.conditions condition)) (NoName n)))) (knows.opened s)
      ∙ ap (λ b. option_or (if_so (list_any (λ line. answers_same (Say s condition count true) line.event) past) (Twice n)) (option_or (if_so (not (is_opened (only s all))) (NoSession n)) (if_so (not b) (NoName n)))) (knows.conditions condition)

-- ---- one line more

abbrev line_of : ℕ → Event → Line
line_of n event = record { number = n; event = event }

not_due : (b : Bool) (fault : ScriptFault) (rest : Option ScriptFault) → option_or (if_so b fault) rest ≡ None → b ≡ false
not_due true fault rest e = absurd (cc e)
not_due false fault rest e = refl

not_so : (b : Bool) (fault : ScriptFault) → if_so b fault ≡ None → b ≡ false
not_so true fault e = absurd (cc e)
not_so false fault e = refl

-- calls that were answered
more_answers : (event : Event) (past : List Line) (line : Line) →
    list_any (λ l. answers_same event l.event) (past ++ line ∷ []) ≡ (list_any (λ l. answers_same event l.event) past || answers_same event line.event)
more_answers event past line =
    list_any-append (λ l. answers_same event l.event) past (line ∷ [])
    ∙ ap (λ b. list_any (λ l. answers_same event l.event) past || b) (or_false (answers_same event line.event))

same_answers : (event : Event) (past : List Line) (line : Line) → answers_same event line.event ≡ false →
    list_any (λ l. answers_same event l.event) past ≡ list_any (λ l. answers_same event l.event) (past ++ line ∷ [])
same_answers event past line e =
    sym (more_answers event past line ∙ ap (λ b. list_any (λ l. answers_same event l.event) past || b) e ∙ or_false (list_any (λ l. answers_same event l.event) past))

swapped_calls : (s t name other : List ℕ) (n k : ℕ) → (bytes_eq t s && bytes_eq other name && k == n) ≡ (bytes_eq s t && bytes_eq name other && n == k)
swapped_calls s t name other n k =
    ap (λ b. b && bytes_eq other name && k == n) (bytes_swapped t s)
    ∙ ap (λ b. bytes_eq s t && b && k == n) (bytes_swapped other name)
    ∙ ap (λ b. bytes_eq s t && bytes_eq name other && b) (numbers_swapped k n)

module _ (past : List Line) (course new : Course) (n : ℕ) (tells : Tells past course) where
  abbrev behind : Event → List Line
  behind event = past ++ line_of n event ∷ []

  -- a line that opens no session, and ends none
  opened_stays : (event : Event) → new.opened ≡ course.opened → ((s : List ℕ) → opens s event ≡ false) → (s : List ℕ) → has new.opened s ≡ is_opened (only s (behind event))
  opened_stays event e f s =
      ap (λ t. has t s) e ∙ tells.opened s ∙ sym (opened_more s past (line_of n event) ∙ ap (λ b. is_opened (only s past) || b) (f s) ∙ or_false (is_opened (only s past)))

  ended_stays : (event : Event) → new.ended ≡ course.ended → ((s : List ℕ) → ends s event ≡ false) → (s : List ℕ) → has new.ended s ≡ is_ended (only s (behind event))
  ended_stays event e f s =
      ap (λ t. has t s) e ∙ tells.ended s ∙ sym (ended_more s past (line_of n event) ∙ ap (λ b. is_ended (only s past) || b) (f s) ∙ or_false (is_ended (only s past)))

  orderly_stays : (event : Event) → ((s : List ℕ) → ends s event ≡ false) → (s : List ℕ) → is_ended (only s (behind event)) ≡ true → is_opened (only s (behind event)) ≡ true
  orderly_stays event f s e =
      let before : is_ended (only s past) ≡ true = sym (or_false (is_ended (only s past))) ∙ sym (ap (λ b. is_ended (only s past) || b) (f s)) ∙ sym (ended_more s past (line_of n event)) ∙ e in
      opened_more s past (line_of n event) ∙ or_left (is_opened (only s past)) (opens s event) (tells.orderly s before)

  apart_stays : (event : Event) → opened_by_line event ≡ [] → AreApart (opened_in (behind event))
  apart_stays event e =
      subst AreApart (sym (opened_in_more past (line_of n event) ∙ ap (λ ts. opened_in past ++ ts) e ∙ append-nil (opened_in past))) tells.apart

  picks_stay : (event : Event) → new.picks ≡ course.picks → ((s name : List ℕ) (k : ℕ) → answers_same (Pick s name k []) event ≡ false) →
      (s name : List ℕ) (k : ℕ) → has_call new.picks s name k ≡ list_any (λ line. answers_same (Pick s name k []) line.event) (behind event)
  picks_stay event e f s name k = ap (λ t. has_call t s name k) e ∙ tells.picks s name k ∙ same_answers (Pick s name k []) past (line_of n event) (f s name k)

  says_stay : (event : Event) → new.says ≡ course.says → ((s name : List ℕ) (k : ℕ) → answers_same (Say s name k true) event ≡ false) →
      (s name : List ℕ) (k : ℕ) → has_call new.says s name k ≡ list_any (λ line. answers_same (Say s name k true) line.event) (behind event)
  says_stay event e f s name k = ap (λ t. has_call t s name k) e ∙ tells.says s name k ∙ same_answers (Say s name k true) past (line_of n event) (f s name k)

  live_as_before : (event : Event) → new.live ≡ course.live → ((s : List ℕ) → ends s event ≡ false) → opened_by_line event ≡ [] → new.live ≡ length (live (behind event))
  live_as_before event e f g = e ∙ tells.live ∙ sym (ap length (live_stays past (line_of n event) f g))

  -- an opening
  not_ended : (s : List ℕ) → is_opened (only s past) ≡ false → is_ended (only s past) ≡ false
  not_ended s e = together (is_ended (only s past)) false (λ f. sym e ∙ tells.orderly s f) (λ f. absurd (cc f))

  tells_opening : (s : List ℕ) (entry : Option (List ℕ)) → has course.opened s ≡ false → Notes (Open s entry) course new → Tells (behind (Open s entry)) new
  tells_opening s entry e notes =
      let event = Open s entry in
      let unopened : is_opened (only s past) ≡ false = sym (tells.opened s) ∙ e in record {
        opened = λ t. notes.0 t ∙ ap (λ b. b || bytes_eq t s) (tells.opened t) ∙ sym (opened_more t past (line_of n event));
        ended = ended_stays event notes.1 (λ t. refl);
        live = notes.2 ∙ ap (λ k. k + 1) tells.live ∙ sym (live_opened past n s entry (not_ended s unopened));
        picks = picks_stay event notes.3 (λ t name k. refl);
        says = says_stay event notes.4 (λ t name k. refl);
        apart = subst AreApart (sym (opened_in_more past (line_of n event))) (apart_more (opened_in past) s tells.apart (opened_has s past ∙ unopened));
        orderly = orderly_stays event (λ t. refl);
      }

  -- a piece
  tells_piece : (s bytes : List ℕ) → Notes (Piece s bytes) course new → Tells (behind (Piece s bytes)) new
  tells_piece s bytes notes =
      let event = Piece s bytes in record {
        opened = opened_stays event notes.0 (λ t. refl);
        ended = ended_stays event notes.1 (λ t. refl);
        live = live_as_before event notes.2 (λ t. refl) refl;
        picks = picks_stay event notes.3 (λ t name k. refl);
        says = says_stay event notes.4 (λ t name k. refl);
        apart = apart_stays event refl;
        orderly = orderly_stays event (λ t. refl);
      }

  -- an end
  orderly_ended : (s : List ℕ) → is_opened (only s past) ≡ true → (t : List ℕ) → is_ended (only t (behind (End s))) ≡ true → is_opened (only t (behind (End s))) ≡ true
  orderly_ended s opened t e =
      opened_more t past (line_of n (End s)) ∙ or_left (is_opened (only t past)) false (go (is_ended (only t past)) (bytes_eq t s) refl refl (sym (ended_more t past (line_of n (End s))) ∙ e))
    where
      go : (a b : Bool) → is_ended (only t past) ≡ a → bytes_eq t s ≡ b → (a || b) ≡ true → is_opened (only t past) ≡ true
      go true b f g h = tells.orderly t f
      go false true f g h = ap (λ u. is_opened (only u past)) ((bytes_eq-Decides t s).0 g) ∙ opened
      go false false f g h = absurd (cc h)

  tells_end : (s : List ℕ) → is_live_in course s ≡ true → Notes (End s) course new → Tells (behind (End s)) new
  tells_end s lives notes =
      let event = End s in
      let opened : is_opened (only s past) ≡ true = sym (tells.opened s) ∙ and_left (has course.opened s) (not (has course.ended s)) lives in
      let ended : is_ended (only s past) ≡ false = sym (tells.ended s) ∙ not_false (has course.ended s) (and_right (has course.opened s) (not (has course.ended s)) lives) in
      let less : length (live (behind event)) + 1 ≡ length (live past) = live_ended past n s tells.apart opened ended in record {
        opened = opened_stays event notes.0 (λ t. refl);
        ended = λ t. notes.1 t ∙ ap (λ b. b || bytes_eq t s) (tells.ended t) ∙ sym (ended_more t past (line_of n event));
        live = fewer new.live course.live (length (live (behind event))) (length (live past)) notes.2 tells.live less;
        picks = picks_stay event notes.3 (λ t name k. refl);
        says = says_stay event notes.4 (λ t name k. refl);
        apart = apart_stays event refl;
        orderly = orderly_ended s opened;
      }
    where
      fewer : (a b c d : ℕ) → a ≡ b - 1 → b ≡ d → c + 1 ≡ d → a ≡ c
      fewer a b c d e f g = omega arith

  -- answers
  tells_pick : (s action : List ℕ) (count : ℕ) (picks : List (ℕ × Option ℤ)) → Notes (Pick s action count picks) course new → Tells (behind (Pick s action count picks)) new
  tells_pick s action count picks notes =
      let event = Pick s action count picks in record {
        opened = opened_stays event notes.0 (λ t. refl);
        ended = ended_stays event notes.1 (λ t. refl);
        live = live_as_before event notes.2 (λ t. refl) refl;
        picks = λ t name k. notes.3 t name k
            ∙ ap (λ b. b || (bytes_eq t s && bytes_eq name action && k == count)) (tells.picks t name k)
            ∙ ap (λ b. list_any (λ line. answers_same (Pick t name k []) line.event) past || b) (swapped_calls s t action name count k)
            ∙ sym (more_answers (Pick t name k []) past (line_of n event));
        says = says_stay event notes.4 (λ t name k. refl);
        apart = apart_stays event refl;
        orderly = orderly_stays event (λ t. refl);
      }

  tells_say : (s condition : List ℕ) (count : ℕ) (holds : Bool) → Notes (Say s condition count holds) course new → Tells (behind (Say s condition count holds)) new
  tells_say s condition count holds notes =
      let event = Say s condition count holds in record {
        opened = opened_stays event notes.0 (λ t. refl);
        ended = ended_stays event notes.1 (λ t. refl);
        live = live_as_before event notes.2 (λ t. refl) refl;
        picks = picks_stay event notes.3 (λ t name k. refl);
        says = λ t name k. notes.4 t name k
            ∙ ap (λ b. b || (bytes_eq t s && bytes_eq name condition && k == count)) (tells.says t name k)
            ∙ ap (λ b. list_any (λ line. answers_same (Say t name k true) line.event) past || b) (swapped_calls s t condition name count k)
            ∙ sym (more_answers (Say t name k true) past (line_of n event));
        apart = apart_stays event refl;
        orderly = orderly_stays event (λ t. refl);
      }

  tells_on : (known : Known) (event : Event) → fault_in known course n event ≡ None → Notes event course new → Tells (behind event) new
  tells_on known (Open s entry) e notes = tells_opening s entry (not_due (has course.opened s) (Twice n) (option_or (if_so (not (is_entry known entry)) (NoEntry n)) (if_so (nat_le 1024 course.live) (Full n))) e) notes
  tells_on known (Piece s bytes) e notes = tells_piece s bytes notes
  tells_on known (End s) e notes = tells_end s (lives (is_live_in course s) (not_so (not (is_live_in course s)) (NoSession n) e)) notes
    where
      lives : (b : Bool) → not b ≡ false → b ≡ true
      lives true f = refl
      lives false f = absurd (cc f)
  tells_on known (Pick s action count picks) e notes = tells_pick s action count picks notes
  tells_on known (Say s condition count holds) e notes = tells_say s condition count holds notes

-- ---- the first fault

-- a fault that is due at a line is the first of all
due_first : (due : Option ScriptFault) (rest : Option ScriptFault) (first : Option ScriptFault) (fault : ScriptFault) → IsDue due fault → first ≡ option_or due rest →
    (fault ≡ Memory) ⊎ (first ≡ Some fault)
due_first due rest first (BadLine n) d e = inr (e ∙ ap (λ o. option_or o rest) d)
due_first due rest first (Twice n) d e = inr (e ∙ ap (λ o. option_or o rest) d)
due_first due rest first (NoSession n) d e = inr (e ∙ ap (λ o. option_or o rest) d)
due_first due rest first (NoEntry n) d e = inr (e ∙ ap (λ o. option_or o rest) d)
due_first due rest first (NoName n) d e = inr (e ∙ ap (λ o. option_or o rest) d)
due_first due rest first (Full n) d e = inr (e ∙ ap (λ o. option_or o rest) d)
due_first due rest first Memory d e = inl refl

module _ (names : Names) (lines : List Line) (i : ℕ) (line : Line) (below : i < length lines) (is : line ≡ get_or lines i line) (known : Known) (course : Course)
    (knows : Knows names lines known) (tells : Tells (take i lines) course) (fine : first_fault names lines ≡ fault_from names lines (take i lines) (drop i lines)) where
  abbrev later : Option ScriptFault
  later = fault_from names lines (take i lines ++ line ∷ []) (drop (i + 1) lines)

  here : first_fault names lines ≡ option_or (fault_of names lines (take i lines) line.number line.event) later
  here =
      fine ∙ at_drop_more (fault_from names lines (take i lines)) lines i line below
      ∙ ap (λ l. fault_from names lines (take i lines) (l ∷ drop (i + 1) lines)) (sym is)

  same_here : fault_in known course line.number line.event ≡ fault_of names lines (take i lines) line.number line.event
  same_here = same_fault names lines (take i lines) known course knows tells line.number line.event

  -- a line that has a fault is the first
  pub stopped : (fault : ScriptFault) → IsDue (fault_in known course line.number line.event) fault → (fault ≡ Memory) ⊎ (first_fault names lines ≡ Some fault)
  stopped fault due =
      due_first (fault_of names lines (take i lines) line.number line.event) later (first_fault names lines) fault (subst (λ o. IsDue o fault) same_here due) here

  -- behind a line that has none
  pub fine_more : fault_in known course line.number line.event ≡ None → first_fault names lines ≡ fault_from names lines (take (i + 1) lines) (drop (i + 1) lines)
  fine_more e =
      here ∙ ap (λ o. option_or o later) (sym same_here ∙ e)
      ∙ ap (λ past. fault_from names lines past (drop (i + 1) lines)) (sym (taken lines i line below is))

  pub tells_more : (new : Course) → fault_in known course line.number line.event ≡ None → Notes line.event course new → Tells (take (i + 1) lines) new
  tells_more new e notes =
      subst (λ past. Tells past new) (sym (taken lines i line below is)) (tells_on (take i lines) course new line.number tells known line.event e notes)
