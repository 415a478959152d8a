-- Twin machines write the same bytes.
use Rattle.std.proofs.Common.{◌≡◌, ℕ, zero, suc, ◌+◌, Bool, true, false, cond, ◌&&◌, List, [], ◌∷◌, ◌++◌, map, length, drop, fold, Option, Some, None, unwrap_or, refl, sym, ◌∙◌, ap, subst, append_assoc}
use Rattle.std.specs.List.{AllZip, last_or}
use Rattle.std.specs.Str.{bytes_eq}
use Rattle.rl_run.specs.declared.calls.Answer.{Answer}
use Rattle.rl_run.specs.declared.calls.Answer.TheVariants.{Yes}
use Rattle.rl_run.specs.declared.calls.Call.{Call}
use Rattle.rl_run.specs.declared.calls.CallKind.{CallKind}
use Rattle.rl_run.specs.declared.calls.CallKind.TheVariants.{From, Ask, Do, Error, To, Token, Eof}
use Rattle.rl_run.specs.declared.calls.Outcome.{Outcome}
use Rattle.rl_run.specs.declared.calls.Outcome.TheVariants.{Stopped}
use Rattle.rl_run.specs.declared.calls.Pick.{Pick}
use Rattle.rl_run.specs.declared.calls.Verdict.{Verdict}
use Rattle.rl_run.specs.declared.sessions.Settings.{Settings}
use Rattle.rl_run.specs.declared.statements.Statement.{Statement}
use Rattle.rl_run.specs.Alike.{EndsAlike}
use Rattle.rl_run.specs.Chain.{run_on}
use Rattle.rl_run.specs.Machine.{Machine, fresh}
use Rattle.rl_run.specs.Picks.{takes_picks}
use Rattle.rl_run.specs.Run.{Input, Rest}
use Rattle.rl_run.specs.Twin.{IsTwin, CallR, SameStatements, renamed, name_of}
use Rattle.rl_run.specs.Verdict.{verdict_of}
use Rattle.rl_run.proofs.Twins.{RestR}
use Rattle.rl_run.proofs.SameRuns.{plays_alike, rests_alike}
use Rattle.rl_run.proofs.Hosts.{hosted_alike}
use Rattle.rl_replay.specs.declared.script.Line.{Line}
use Rattle.rl_replay.specs.Sessions.{Names, session_of, only, is_opened, live}
use Rattle.rl_replay.specs.Host.{given_picks, given_answer, is_ask, times, statements_from, statements_of, picks_among, own_picks, picks_answer, yes_no, answer_to, host}
use Rattle.rl_replay.specs.Lines.{line_of, call_words, pick_word, pick_words, answer_words, picks_in, call_line, calls_lines, session_run, stop_lines, stop_line, end_line, left_line, run_lines}
use Rattle.rl_replay.specs.Written.{Part, texts, entry_of, input_of, session_lines, left_part, added, parts_from, left, written}

count_same : {A B : Type 0} (R : A → B → Type 0) (p : A → Bool) (q : B → Bool) → ((a : A) (b : B) → R a b → q b ≡ p a) →
    (n : ℕ) (xs : List A) (ys : List B) → AllZip R xs ys → fold (λ k y. k + cond (q y) 1 0) n ys ≡ fold (λ k x. k + cond (p x) 1 0) n xs
count_same R p q h n [] [] z = refl
count_same R p q h n [] (y ∷ ys) z = elim z [ ]
count_same R p q h n (x ∷ xs) [] z = elim z [ ]
count_same R p q h n (x ∷ xs) (y ∷ ys) z =
    ap (λ b. fold (λ k y. k + cond (q y) 1 0) (n + cond b 1 0) ys) (h x y z.0) ∙ count_same R p q h (n + cond (p x) 1 0) xs ys z.1

module _ {S T : Type 0} (m : Machine S) (w : Machine T) (ρ : ℕ → ℕ) where
  abbrev Q : Call → Call → Type 0
  Q = CallR m w ρ

  same_name : (is_counted : CallKind → Bool) (n k : List ℕ) → k ≡ n → (c d : Call) → Q c d →
      (is_counted d.kind && bytes_eq (name_of w d) k) ≡ (is_counted c.kind && bytes_eq (name_of m c) n)
  same_name is_counted n k e c d h =
      ap (λ x. is_counted x.kind && bytes_eq (name_of w d) k) h.0
      ∙ ap (λ x. is_counted c.kind && bytes_eq x k) h.1
      ∙ ap (λ x. is_counted c.kind && bytes_eq (name_of m c) x) e

  same_times : (is_counted : CallKind → Bool) (n k : List ℕ) → k ≡ n → (cs ds : List Call) → AllZip Q cs ds →
      times w is_counted ds k ≡ times m is_counted cs n
  same_times is_counted n k e cs ds z =
      count_same Q (λ c. is_counted c.kind && bytes_eq (name_of m c) n) (λ d. is_counted d.kind && bytes_eq (name_of w d) k)
      (λ c d h. same_name is_counted n k e c d h) 0 cs ds z

  same_statements_from : (a b : ℕ) → ((n : ℕ) → w.statement b n ≡ m.statement a n) → (most n : ℕ) → statements_from w b most n ≡ statements_from m a most n
  unfolding statements_from
  same_statements_from a b h zero n = refl
  same_statements_from a b h (suc most) n =
      ap (λ o. elim o as (λ _. List (ℕ × Statement)) [ None ↦ [] | Some statement ↦ (n, statement) ∷ statements_from w b most (n + 1) ]) (h n)
      ∙ ap (λ rest. elim (m.statement a n) as (λ _. List (ℕ × Statement)) [ None ↦ [] | Some statement ↦ (n, statement) ∷ rest ]) (same_statements_from a b h most (n + 1))

  same_own_picks : (c : Call) → ((n : ℕ) → w.statement (renamed ρ c).action.0 n ≡ m.statement c.action.0 n) → own_picks w (renamed ρ c) ≡ own_picks m c
  unfolding statements_of
  same_own_picks c h =
      ap (picks_among c)
      (same_statements_from c.action.0 (renamed ρ c).action.0 h 4294967295 1)

  -- of a kind that may have picks the statements agree
  statements_agree : (kind : CallKind) (f g : ℕ → Option Statement) → SameStatements kind f g → takes_picks kind ≡ true → (n : ℕ) → g n ≡ f n
  statements_agree Ask f g h e = absurd (cc e)
  statements_agree From f g h e = h
  statements_agree Do f g h e = h
  statements_agree Error f g h e = h
  statements_agree To f g h e = h
  statements_agree Token f g h e = h
  statements_agree Eof f g h e = h

  module _ (own : List Line) where
    answer_same : (cs ds : List Call) → AllZip Q cs ds → (c d : Call) → Q c d → answer_to w own ds d ≡ answer_to m own cs c
    answer_same cs ds z c d h =
        subst (λ x. answer_to w own ds x ≡ answer_to m own cs c) (sym h.0)
        (go (is_ask c.kind) (takes_picks c.kind) refl)
      where
        name : name_of w (renamed ρ c) ≡ name_of m c
        name = ap (λ x. name_of w x) (sym h.0) ∙ h.1

        statements : takes_picks c.kind ≡ true → (n : ℕ) → w.statement (renamed ρ c).action.0 n ≡ m.statement c.action.0 n
        statements e n = ap (λ x. w.statement x.action.0 n) (sym h.0) ∙ statements_agree c.kind (m.statement c.action.0) (w.statement d.action.0) h.2 e n

        told : yes_no (unwrap_or (given_answer own (name_of w (renamed ρ c)) (times w is_ask ds (name_of w (renamed ρ c)))) false)
            ≡ yes_no (unwrap_or (given_answer own (name_of m c) (times m is_ask cs (name_of m c))) false)
        told = ap (λ n. yes_no (unwrap_or (given_answer own (name_of w (renamed ρ c)) n) false)) (same_times is_ask (name_of m c) (name_of w (renamed ρ c)) name cs ds z)
            ∙ ap (λ k. yes_no (unwrap_or (given_answer own k (times m is_ask cs (name_of m c))) false)) name

        picked : takes_picks c.kind ≡ true →
            picks_answer (unwrap_or (given_picks own (name_of w (renamed ρ c)) (times w takes_picks ds (name_of w (renamed ρ c)))) (own_picks w (renamed ρ c)))
            ≡ picks_answer (unwrap_or (given_picks own (name_of m c) (times m takes_picks cs (name_of m c))) (own_picks m c))
        picked e =
            ap (λ n. picks_answer (unwrap_or (given_picks own (name_of w (renamed ρ c)) n) (own_picks w (renamed ρ c)))) (same_times takes_picks (name_of m c) (name_of w (renamed ρ c)) name cs ds z)
            ∙ ap (λ k. picks_answer (unwrap_or (given_picks own k (times m takes_picks cs (name_of m c))) (own_picks w (renamed ρ c)))) name
            ∙ ap (λ list. picks_answer (unwrap_or (given_picks own (name_of m c) (times m takes_picks cs (name_of m c))) list)) (same_own_picks c (statements e))

        go : (a b : Bool) → takes_picks c.kind ≡ b →
            cond a (yes_no (unwrap_or (given_answer own (name_of w (renamed ρ c)) (times w is_ask ds (name_of w (renamed ρ c)))) false))
            (cond b (picks_answer (unwrap_or (given_picks own (name_of w (renamed ρ c)) (times w takes_picks ds (name_of w (renamed ρ c)))) (own_picks w (renamed ρ c)))) Yes)
            ≡ cond a (yes_no (unwrap_or (given_answer own (name_of m c) (times m is_ask cs (name_of m c))) false))
            (cond b (picks_answer (unwrap_or (given_picks own (name_of m c) (times m takes_picks cs (name_of m c))) (own_picks m c))) Yes)
        go true b e = told
        go false true e = picked e
        go false false e = refl

    abbrev LastR : Option Call → Option Call → Type 0
    LastR None None = Unit {0}
    LastR (Some c) (Some d) = Q c d
    LastR None (Some d) = ⊥
    LastR (Some c) None = ⊥

    last_same : (o p : Option Call) → LastR o p → (cs ds : List Call) → AllZip Q cs ds → LastR (last_or o cs) (last_or p ds)
    last_same o p r [] [] z = r
    last_same o p r [] (d ∷ ds) z = elim z [ ]
    last_same o p r (c ∷ cs) [] z = elim z [ ]
    last_same o p r (c ∷ cs) (d ∷ ds) z = last_same (Some c) (Some d) z.0 cs ds z.1

    host_same : (cs ds : List Call) → AllZip Q cs ds → host w own ds ≡ host m own cs
    host_same cs ds z = go (last_or None cs) (last_or None ds) (last_same None None tt cs ds z)
      where
        go : (o p : Option Call) → LastR o p →
            (elim p as (λ _. Answer) [ None ↦ Yes | Some d ↦ answer_to w own ds d ]) ≡ (elim o as (λ _. Answer) [ None ↦ Yes | Some c ↦ answer_to m own cs c ])
        go None None r = refl
        go (Some c) (Some d) r = answer_same cs ds z c d r
        go None (Some d) r = elim r [ ]
        go (Some c) None r = elim r [ ]

  module _ (R : S → T → Type 0) (twin : IsTwin m w ρ R) (s : List ℕ) where
    entry_names : w.entry_name ≡ m.entry_name
    entry_names = λ i e. twin.entry_name e i

    words_same : (a b : ℕ) → ((n : ℕ) → w.statement b n ≡ m.statement a n) → (picks : List Pick) → pick_words w b picks ≡ pick_words m a picks
    words_same a b h [] = refl
    words_same a b h (p ∷ picks) =
        ap (λ x. x ∷ pick_words w b picks) (ap (λ o. pick_word w.entry_name o p) (h p.statement) ∙ ap (λ f. pick_word f (m.statement a p.statement) p) entry_names)
        ∙ ap (λ xs. pick_word m.entry_name (m.statement a p.statement) p ∷ xs) (words_same a b h picks)

    line_same : (c d : Call) → Q c d → (x : Answer) → call_line w s d x ≡ call_line m s c x
    line_same c d h x =
        subst (λ e. call_line w s e x ≡ call_line m s c x) (sym h.0)
        (ap (λ name. line_of s (call_words name c ++ answer_words w (renamed ρ c) x)) (ap (λ e. name_of w e) (sym h.0) ∙ h.1)
        ∙ ap (λ words. line_of s (call_words (name_of m c) c ++ words))
        (go c.kind (subst (λ e. SameStatements c.kind (m.statement c.action.0) (w.statement e.action.0)) h.0 h.2)))
      where
        go : (kind : CallKind) → SameStatements kind (m.statement c.action.0) (w.statement (renamed ρ c).action.0) →
            answer_words w (record (renamed ρ c) { kind = kind }) x ≡ answer_words m (record c { kind = kind }) x
        go Ask k = refl
        go From k = refl
        go To k = refl
        go Do k = words_same c.action.0 (renamed ρ c).action.0 k (picks_in x)
        go Error k = words_same c.action.0 (renamed ρ c).action.0 k (picks_in x)
        go Token k = words_same c.action.0 (renamed ρ c).action.0 k (picks_in x)
        go Eof k = words_same c.action.0 (renamed ρ c).action.0 k (picks_in x)

    more_zip : (cs ds : List Call) (c d : Call) → AllZip Q cs ds → Q c d → AllZip Q (cs ++ c ∷ []) (ds ++ d ∷ [])
    more_zip [] [] c d z q = (q, tt)
    more_zip [] (y ∷ ys) c d z q = elim z [ ]
    more_zip (x ∷ xs) [] c d z q = elim z [ ]
    more_zip (x ∷ xs) (y ∷ ys) c d z q = (z.0, more_zip xs ys c d z.1 q)

    calls_same : (own : List Line) (cs ds xs ys : List Call) → AllZip Q cs ds → AllZip Q xs ys →
        calls_lines w s (host w own) ds ys ≡ calls_lines m s (host m own) cs xs
    calls_same own cs ds [] [] z u = refl
    calls_same own cs ds [] (y ∷ ys) z u = elim u [ ]
    calls_same own cs ds (x ∷ xs) [] z u = elim u [ ]
    calls_same own cs ds (x ∷ xs) (y ∷ ys) z u =
        let more = more_zip cs ds x y z u.0 in
        ap (λ a. call_line w s y a ++ calls_lines w s (host w own) (ds ++ y ∷ []) ys) (host_same own (cs ++ x ∷ []) (ds ++ y ∷ []) more)
        ∙ ap (λ t. t ++ calls_lines w s (host w own) (ds ++ y ∷ []) ys) (line_same x y u.0 (host m own (cs ++ x ∷ [])))
        ∙ ap (λ t. call_line m s x (host m own (cs ++ x ∷ [])) ++ t) (calls_same own (cs ++ x ∷ []) (ds ++ y ∷ []) xs ys more u.1)

    -- what is told of a run
    abbrev told_of : Option Outcome → ℕ → Bool → Verdict → List ℕ
    told_of outcome next is_closed verdict =
        (elim outcome as (λ _. List ℕ) [ Some (Stopped cause) ↦ stop_line s cause next | _ ↦ [] ]) ++ cond is_closed (end_line s verdict next) []

    ends_same : (a : Rest S) (b : Rest T) → EndsAlike m w ρ R a b → (is_closed : Bool) →
        told_of b.outcome b.session.next is_closed (verdict_of w b) ≡ told_of a.outcome a.session.next is_closed (verdict_of m a)
    ends_same a b h is_closed =
        ap (λ o. told_of o b.session.next is_closed (verdict_of w b)) h.outcome
        ∙ ap (λ n. told_of a.outcome n is_closed (verdict_of w b)) h.next
        ∙ ap (λ v. told_of a.outcome a.session.next is_closed v) h.verdict

    runs_same : (settings : Settings) (own : List Line) (entry : ℕ) (input : Input) →
        AllZip Q (session_run m settings (host m own) entry input).0 (session_run w settings (host w own) entry input).0
        × EndsAlike m w ρ R (session_run m settings (host m own) entry input).1 (session_run w settings (host w own) entry input).1
    runs_same settings own entry input =
        let h = hosted_alike Q (RestR m w ρ R twin settings) (host m own) (host w own) (λ cs ds z. host_same own cs ds z)
        (run_on false m settings input (fresh (m.entry entry))) (run_on false w settings input (fresh (w.entry entry))) [] [] tt
        (plays_alike m w ρ R twin false settings input entry) in
        (h.0, rests_alike m w ρ R twin settings _ _ h.1)

    run_same : (settings : Settings) (own : List Line) (entry : ℕ) (input : Input) →
        run_lines w settings s (host w own) entry input ≡ run_lines m settings s (host m own) entry input
    run_same settings own entry input =
        let a = session_run m settings (host m own) entry input in
        let b = session_run w settings (host w own) entry input in
        let h = runs_same settings own entry input in
        append_assoc (calls_lines w s (host w own) [] b.0) (stop_lines s b.1) (cond input.is_closed (end_line s (verdict_of w b.1) b.1.session.next) [])
        ∙ ap (λ t. t ++ told_of b.1.outcome b.1.session.next input.is_closed (verdict_of w b.1)) (calls_same own [] [] a.0 b.0 tt h.0)
        ∙ ap (λ t. calls_lines m s (host m own) [] a.0 ++ t) (ends_same a.1 b.1 h.1 input.is_closed)
        ∙ sym (append_assoc (calls_lines m s (host m own) [] a.0) (stop_lines s a.1) (cond input.is_closed (end_line s (verdict_of m a.1) a.1.session.next) []))

    session_same : (names : Names) (settings : Settings) (own past : List Line) →
        session_lines names w settings s own past ≡ session_lines names m settings s own past
    session_same names settings own past =
        ap (λ n. cond (is_opened past) (run_lines w settings s (host w own) (entry_of names past) (input_of n past)) []) twin.width
        ∙ ap (λ t. cond (is_opened past) t []) (run_same settings own (entry_of names past) (input_of m.width past))

    left_same : (names : Names) (settings : Settings) (own : List Line) → left_part names w settings s own ≡ left_part names m settings s own
    left_same names settings own =
        let h = (runs_same settings own (entry_of names own) (input_of m.width own)).1 in
        let a = (session_run m settings (host m own) (entry_of names own) (input_of m.width own)).1 in
        let b = (session_run w settings (host w own) (entry_of names own) (input_of m.width own)).1 in
        ap (λ n. left_at (session_run w settings (host w own) (entry_of names own) (input_of n own)).1) twin.width
        ∙ ap (λ n. record { session = s; text = left_line s (verdict_of w b) n }) h.next
        ∙ ap (λ v. record { session = s; text = left_line s v a.session.next }) h.verdict
      where
        left_at : Rest T → Part
        left_at r = record { session = s; text = left_line s (verdict_of w r) r.session.next }

  module _ (R : S → T → Type 0) (twin : IsTwin m w ρ R) (names : Names) (settings : Settings) (script : List Line) where
    parts_from_same : (past rest : List Line) → parts_from names w settings script past rest ≡ parts_from names m settings script past rest
    parts_from_same past [] = refl
    parts_from_same past (line ∷ rest) =
        let s = session_of line.event in
        let own = only s script in
        let later = only s (past ++ line ∷ []) in
        ap (λ t. record { session = s; text = drop (length t) (session_lines names w settings s own later) } ∷ parts_from names w settings script (past ++ line ∷ []) rest)
        (session_same R twin s names settings own (only s past))
        ∙ ap (λ t. record { session = s; text = drop (length (session_lines names m settings s own (only s past))) t } ∷ parts_from names w settings script (past ++ line ∷ []) rest)
        (session_same R twin s names settings own later)
        ∙ ap (λ parts. added names m settings script past line ∷ parts) (parts_from_same (past ++ line ∷ []) rest)

    lefts_same : (ss : List (List ℕ)) → map (left names w settings script) ss ≡ map (left names m settings script) ss
    lefts_same [] = refl
    lefts_same (s ∷ ss) =
        ap (λ p. p ∷ map (left names w settings script) ss) (left_same R twin s names settings (only s script))
        ∙ ap (λ ps. left names m settings script s ∷ ps) (lefts_same ss)

    pub written_same : written names w settings script ≡ written names m settings script
    written_same =
        ap (λ ps. texts (ps ++ map (left names w settings script) (live script))) (parts_from_same [] script)
        ∙ ap (λ ps. texts (parts_from names m settings script [] script ++ ps)) (lefts_same (live script))
