-- A run of a scanner over a whole input, where no action has a control statement: its token calls are those of the tokens that
-- the input is cut into.
use Rattle.std.proofs.Common.{◌≡◌, ℕ, zero, suc, ◌+◌, ◌-◌, ◌^◌, ◌<◌, ◌≤◌, Bool, true, false, cond, List, [], ◌∷◌, ◌++◌, ◌⊎◌, ◌↔◌, inl, inr, drop, refl, sym, ◌∙◌, ap, subst, append-nil, append_assoc, length-append, Option, Some, None, nat_lt, length, slice_get, arith}
use Rattle.std.proofs.lemmas.Bool.Decides.{nat_tests}
use Rattle.rl_types.specs.declared.numbers.Letter.{Letter}
use Rattle.rl_automata.specs.Auto.{is_start}
use Rattle.rl_automata.specs.Scans.{Pattern, PatternMarks}
use Rattle.rl_automata.proofs.Congruence.{some_in, none_in}
use Rattle.rl_run.specs.declared.calls.Answer.{Answer}
use Rattle.rl_run.specs.declared.calls.Call.{Call}
use Rattle.rl_run.specs.declared.calls.CallKind.TheVariants.{Eof}
use Rattle.rl_run.specs.declared.calls.Outcome.TheVariants.{Ended, Stopped}
use Rattle.rl_run.specs.declared.calls.Stop.{Stop as StopCause}
use Rattle.rl_run.specs.declared.calls.Stop.TheVariants.{ErrorState, PastEnd, HalfKey}
use Rattle.rl_run.specs.declared.calls.Verdict.{Verdict}
use Rattle.rl_run.specs.declared.calls.Verdict.TheVariants.{Final, Partial, Error}
use Rattle.rl_run.specs.declared.sessions.Flow.TheVariants.{Goes, Jumps, Breaks, Stops}
use Rattle.rl_run.specs.declared.sessions.Settings.{Settings}
use Rattle.rl_run.specs.declared.sessions.Spot.{Spot}
use Rattle.rl_run.specs.Machine.{Machine, Session}
use Rattle.rl_run.specs.Picks.{Came, came}
use Rattle.rl_run.specs.Play.{Play, done, bind}
use Rattle.rl_run.specs.Turn.{deliver, finished, turn}
use Rattle.rl_run.specs.Run.{Input, Rest, rest, end_of, end_spot, after, last_delivery, over, last_list, at_kept, ending, at_end, at_letter, turns}
use Rattle.rl_run.specs.Verdict.{verdict_of}
use Rattle.rl_model.specs.Parts.{Part}
use Rattle.rl_language.specs.Scanners.{Leads, IsMatch, last_match, FindsTokens}
use Rattle.rl_language.specs.Tokens.{TokenLine, lines_of, IsCut, AreLines}
use Rattle.rl_language.specs.Verdicts.{IsStoppedBy, letters_from}
use Rattle.rl_language.proofs.LongestMatch.{leads_on, last_stuck}
use Rattle.rl_language.proofs.QuietRuns.{seen_at, partial_final, error_final}
use Rattle.rl_language.proofs.QuietTurns.{AreQuiet, IsHeld}
use Rattle.rl_language.proofs.TokenPlays.{EndsTold, told_weaken, told_bind, after_others}
use Rattle.rl_language.proofs.TokenTurns.{ShowsScanner, open_at, open_after, reading, Turned, held, stuck, went_on, cut, finished_goes, finished_stops, delivered, led_left, turn_turns}
use Rattle.rl_language.proofs.Unasked.{eof_ask}

-- ---- places in a list

drop_some : {X : Type 0} (xs : List X) (i : ℕ) (x : X) → slice_get xs i ≡ Some x → drop i xs ≡ x ∷ drop (suc i) xs
drop_some [] i x e = none_in x e
drop_some (y ∷ xs) zero x e = ap (λ z. z ∷ xs) (some_in y x e)
drop_some (y ∷ xs) (suc i) x e = drop_some xs i x e

drop_none : {X : Type 0} (xs : List X) (i : ℕ) → slice_get xs i ≡ None → drop i xs ≡ []
drop_none [] zero e = refl
drop_none [] (suc i) e = refl
drop_none (y ∷ xs) zero e = none_in y (sym e)
drop_none (y ∷ xs) (suc i) e = drop_none xs i e

place_within : {X : Type 0} (xs : List X) (i : ℕ) (x : X) → slice_get xs i ≡ Some x → i < length xs
place_within [] i x e = none_in x e
place_within (y ∷ xs) zero x e = omega arith
place_within (y ∷ xs) (suc i) x e = let lt : i < length xs = place_within xs i x e in omega arith

next_is : (i : ℕ) → suc i ≡ i + 1
next_is i = omega arith

-- the lines and the verdict of what is scanned from a position on
pub record ScannedFrom (ps : List Pattern) (k : PatternMarks ps) (b : ℕ) (w : List Letter) (lines : List TokenLine) (verdict : Verdict) : Type 0 where
  pub tokens : List (List Letter)
  pub left : List Letter
  pub cut : IsCut ps w tokens left
  pub told : AreLines ps k b tokens lines
  pub word : (verdict ≡ Final) ↔ (left ≡ [])

module _ {C S : Type 0} (p : Part C) (m : Machine S) (place : C → S) (shows : ShowsScanner p m place) (ps : List Pattern) (k : PatternMarks ps) (finds : FindsTokens ps k p)
    (settings : Settings) (truths : ℕ → ℕ) (low : (at : ℕ) → truths at < 2 ^ 8) (Fits : Call → Answer → Type 0) (Sort : StopCause → Type 0) (answers : AreQuiet m settings truths Fits Sort) (all : List ℕ) (half : Bool) (whole : half ≡ false) (short : length all ≤ settings.token_max) where
  -- the letters from a position on
  abbrev pub from : ℕ → List Letter
  from at = letters_from m.key_of truths at (drop at all)

  abbrev pub seen : Input
  seen = record { base = 0; characters = all; is_closed = true; has_rest = half }

  abbrev pub letter_at : ℕ → ℕ → Letter
  letter_at at character = record { key = (m.key_of character).0; truths = truths at }

  from_some : (at character : ℕ) → slice_get all at ≡ Some character → from at ≡ letter_at at character ∷ from (at + 1)
  from_some at character e =
      ap (letters_from m.key_of truths at) (drop_some all at character e)
      ∙ ap (λ i. letter_at at character ∷ letters_from m.key_of truths (at + 1) (drop i all)) (next_is at)

  from_none : (at : ℕ) → slice_get all at ≡ None → from at ≡ []
  from_none at e = ap (letters_from m.key_of truths at) (drop_none all at e)

  -- behind a front the letters go on from where it ends
  behind_front : (u v : List Letter) (b : ℕ) → b ≤ length all → from b ≡ u ++ v → (v ≡ from (b + length u)) × (b + length u ≤ length all)
  behind_front [] v b le e = (sym e ∙ ap from (plus b), plus_le b le)
    where
      plus : (b : ℕ) → b ≡ b + 0
      plus b = omega arith

      plus_le : (b : ℕ) → b ≤ length all → b + 0 ≤ length all
      plus_le b le = omega arith
  behind_front (l ∷ u) v b le e = by (λ le e. behind_front u v (b + 1) le e) (slice_get all b) refl
    where
      tail_is : (j : Letter) (w : List Letter) → j ∷ w ≡ l ∷ (u ++ v) → w ≡ u ++ v
      tail_is j w e = cc

      none_is : {P : Type 0} → [] ≡ l ∷ (u ++ v) → P
      none_is e = absurd (cc e)

      shifted : (b : ℕ) → b + 1 + length u ≡ b + suc (length u)
      shifted b = omega arith

      by : (b + 1 ≤ length all → from (b + 1) ≡ u ++ v → (v ≡ from (b + 1 + length u)) × (b + 1 + length u ≤ length all)) → (o : Option ℕ) → slice_get all b ≡ o → (v ≡ from (b + suc (length u))) × (b + suc (length u) ≤ length all)
      by later None n = none_is (sym (from_none b n) ∙ e)
      by later (Some character) s =
          let lt : b < length all = place_within all b character s in
          let r = later (omega arith) (tail_is (letter_at b character) (from (b + 1)) (sym (from_some b character s) ∙ e)) in
          (r.0 ∙ ap from (shifted b), subst (λ n. n ≤ length all) (shifted b) r.1)

  -- ---- what a run tells

  -- its turns were spent, or it stopped for a cause of the sort, or it tells the tokens
  abbrev pub Tells : ℕ → List TokenLine → Rest S → Type 0
  Tells b lines r = (r.outcome ≡ None) ⊎ (IsStoppedBy Sort r.outcome ⊎ ScannedFrom ps k b (from b) lines (verdict_of m r))

  nothing_before : {P : Type 0} (w : List Letter) (l : Letter) (v : List Letter) → w ++ l ∷ v ≡ [] → P
  nothing_before [] l v e = absurd (cc e)
  nothing_before (j ∷ w) l v e = absurd (cc e)

  -- where nothing is found, nothing is cut
  nothing_cut : (b : ℕ) (verdict : Verdict) → last_match p (from b) p.auto.start ≡ None → ((verdict ≡ Final) ↔ (from b ≡ [])) → ScannedFrom ps k b (from b) [] verdict
  nothing_cut b verdict none word = record {
    tokens = [];
    left = from b;
    cut = (refl, subst (IsMatch ps k (from b)) none (finds.last (from b)));
    told = refl;
    word = word;
  }

  -- a token, and then what is scanned behind it
  one_more : (b : ℕ) (u : List Letter) (actions : List ℕ) (lines more : List TokenLine) (verdict : Verdict) → b ≤ length all → last_match p (from b) p.auto.start ≡ Some (u, actions)
      → lines ≡ lines_of b (b + length u) actions → ScannedFrom ps k (b + length u) (from (b + length u)) more verdict → ScannedFrom ps k b (from b) (lines ++ more) verdict
  one_more b u actions lines more verdict le some told later =
      let found = subst (IsMatch ps k (from b)) some (finds.last (from b)) in
      let front = found.0.front in
      let rest = behind_front u front.1 b le front.2 in
      record {
        tokens = u ∷ later.tokens;
        left = later.left;
        cut = (from (b + length u), front.2 ∙ ap (λ v. u ++ v) rest.0, found.0, later.cut);
        told = (actions, more, ap (λ xs. xs ++ more) told, found.1, later.told);
        word = later.word;
      }

  after_stops : (Q : List TokenLine → Rest S → Type 0) (x : Came S) (k : Session S → Play (Rest S)) (cause : StopCause) → x.flow ≡ Stops cause → Q [] (rest (Some (Stopped cause)) x.session) → EndsTold Fits Q (after false x k)
  unfolding after
  after_stops Q x k cause e q =
      (subst (λ flow. flow ≡ Stops cause → EndsTold Fits Q (elim flow as (λ _. Play (Rest S)) [
        | Goes ↦ k x.session
        | Jumps ↦ k x.session
        | Breaks ↦ k x.session
        | Stops cause ↦ done (rest (Some (Stopped cause)) x.session)
      ])) (sym e) (λ f. q)) e

  over_held : (x : Came S) → IsHeld Sort x → IsStoppedBy Sort (over x).outcome
  over_held x (cause, e, h) =
      subst (λ flow. IsStoppedBy Sort (elim flow as (λ _. Rest S) [ Stops cause ↦ rest (Some (Stopped cause)) x.session | _ ↦ rest (Some Ended) x.session ]).outcome) (sym e) h

  -- the runs of so many turns tell, wherever they begin
  abbrev AllTell : ℕ → Type 0
  AllTell n = (b : ℕ) (w : List Letter) (c : C) → Leads p.auto w p.auto.start c → w ++ from (b + length w) ≡ from b → b + length w ≤ length all → (furthest backs : ℕ)
      → EndsTold Fits (Tells b) (turns false m settings seen n (reading (place c) b (b + length w) (open_at b w) (last_match p w p.auto.start) furthest backs))

  -- a run goes on at the end of what was cut
  goes_back : (n : ℕ) → AllTell n → (b : ℕ) (u : List Letter) (actions : List ℕ) (furthest backs : ℕ) (lines : List TokenLine) (x : Came S) → b ≤ length all → last_match p (from b) p.auto.start ≡ Some (u, actions)
      → lines ≡ lines_of b (b + length u) actions → x ≡ came Goes (reading (place p.auto.start) (b + length u) (b + length u) None None furthest backs)
      → EndsTold Fits (λ more r. Tells b (lines ++ more) r) (after false x (λ t. turns false m settings seen n t))
  unfolding after
  goes_back n later b u actions furthest backs lines x le some told same =
      let e = b + length u in
      let found = subst (IsMatch ps k (from b)) some (finds.last (from b)) in
      let rest = behind_front u found.0.front.1 b le found.0.front.2 in
      subst (λ y. EndsTold Fits (λ more r. Tells b (lines ++ more) r) (after false y (λ t. turns false m settings seen n t))) (sym same)
      (subst (λ at. EndsTold Fits (λ more r. Tells b (lines ++ more) r) (turns false m settings seen n (reading (place p.auto.start) e at None None furthest backs))) (plus e)
      (told_weaken Fits (Tells e) (λ more r. Tells b (lines ++ more) r) (turns false m settings seen n (reading (place p.auto.start) e (e + length {A = Letter} []) None None furthest backs)) (λ more r. by more r)
      (later e [] p.auto.start refl (ap from (plus e)) (subst (λ at. at ≤ length all) (sym (plus e)) rest.1) furthest backs)))
    where
      plus : (e : ℕ) → e + 0 ≡ e
      plus e = omega arith

      by : (more : List TokenLine) (r : Rest S) → Tells (b + length u) more r → Tells b (lines ++ more) r
      by more r (inl h) = inl h
      by more r (inr (inl h)) = inr (inl h)
      by more r (inr (inr h)) = inr (inr (one_more b u actions lines more (verdict_of m r) le some told h))

  -- ---- a turn

  module _ (n : ℕ) (later : AllTell n) (b : ℕ) (w : List Letter) (c : C) (led : Leads p.auto w p.auto.start c) (reads : w ++ from (b + length w) ≡ from b) (furthest backs : ℕ) where
    abbrev at : ℕ
    at = b + length w

    module _ (character : ℕ) (there : slice_get all (b + length w) ≡ Some character) where
      abbrev l : Letter
      l = letter_at (b + length w) character

      goes_on : from b ≡ w ++ l ∷ from (b + length w + 1)
      goes_on = sym reads ∙ ap (λ v. w ++ v) (from_some (b + length w) character there)

      within : b + length w < length all
      within = place_within all (b + length w) character there

      before : b ≤ length all
      before = let lt : b + length w < length all = within in omega arith

      next_place : b + length (w ++ l ∷ []) ≡ b + length w + 1
      next_place = let size : length (w ++ l ∷ []) ≡ length w + length (l ∷ []) = length-append w (l ∷ []) in omega (arith, size)

      step_reads : (w ++ l ∷ []) ++ from (b + length (w ++ l ∷ [])) ≡ from b
      step_reads = append_assoc w (l ∷ []) (from (b + length (w ++ l ∷ []))) ∙ ap (λ i. w ++ l ∷ from i) next_place ∙ sym goes_on

      after_turn : (lines : List TokenLine) (x : Came S) → Turned p m place shows settings truths low Fits Sort answers b w c l lines x
          → EndsTold Fits (λ more r. Tells b (lines ++ more) r) (after false x (λ t. turns false m settings seen n t))
      unfolding after
      after_turn lines x (held h) = after_stops (λ more r. Tells b (lines ++ more) r) x (λ t. turns false m settings seen n t) h.0 h.1 (inr (inl h.2))
      after_turn lines x (stuck e none empty f) =
          after_stops (λ more r. Tells b (lines ++ more) r) x (λ t. turns false m settings seen n t) ErrorState f
          (inr (inr (subst (λ xs. ScannedFrom ps k b (from b) xs Error) (sym (append-nil lines ∙ empty))
          (nothing_cut b Error (ap (λ v. last_match p v p.auto.start) goes_on ∙ last_stuck p w (from (b + length w + 1)) p.auto.start c l led e ∙ none)
          ((λ q. error_final q), (λ q. nothing_before w l (from (b + length w + 1)) (sym goes_on ∙ q)))))))
      after_turn lines x (went_on d further back e empty same) =
          subst (λ xs. EndsTold Fits (λ more r. Tells b (xs ++ more) r) (after false x (λ t. turns false m settings seen n t))) (sym empty)
          (subst (λ y. EndsTold Fits (Tells b) (after false y (λ t. turns false m settings seen n t))) (sym same)
          (subst (λ s. EndsTold Fits (Tells b) (turns false m settings seen n s))
          (λ i. reading (place d.to) b (next_place i) (open_after b w l i) (last_match p (w ++ l ∷ []) p.auto.start) further back)
          (later b (w ++ l ∷ []) d.to (leads_on p w p.auto.start c l d led e) step_reads (subst (λ i. i ≤ length all) (sym next_place) (let lt : b + length w < length all = within in omega arith)) further back)))
      after_turn lines x (cut u actions further back e told same) =
          goes_back n later b u actions further back lines x before (ap (λ v. last_match p v p.auto.start) goes_on ∙ e (from (b + length w + 1))) told same

      not_long : nat_lt settings.token_max (b + length w + 1 - b) ≡ false
      not_long = let lt : b + length w < length all = within in let le : length all ≤ settings.token_max = short in grind (arith, nat_tests)

      turn_tells : EndsTold Fits (Tells b) (bind (turn m settings (reading (place c) b (b + length w) (open_at b w) (last_match p w p.auto.start) furthest backs) character) (λ x. after false x (λ t. turns false m settings seen n t)))
      turn_tells =
          told_bind Fits (Turned p m place shows settings truths low Fits Sort answers b w c l) (Tells b)
          (turn m settings (reading (place c) b (b + length w) (open_at b w) (last_match p w p.auto.start) furthest backs) character) (λ x. after false x (λ t. turns false m settings seen n t))
          (turn_turns p m place shows settings truths low Fits Sort answers b w c led character furthest backs not_long) after_turn

    -- ---- the end of the input

    module _ (le : b + length w ≤ length all) (none : slice_get all (b + length w) ≡ None) where
      all_read : from b ≡ w
      all_read = sym reads ∙ ap (λ v. w ++ v) (from_none (b + length w) none) ∙ append-nil w

      begun_before : b ≤ length all
      begun_before = omega arith

      -- the state is final where nothing is left
      ended_word : (verdict_of m (rest (Some Ended) (reading (place c) b (b + length w) (open_at b w) None furthest backs)) ≡ Final) ↔ (from b ≡ [])
      ended_word =
          subst (λ t. (cond t Final Partial ≡ Final) ↔ (from b ≡ [])) (sym (shows.final c)) (by w led all_read)
        where
          by : (w : List Letter) → Leads p.auto w p.auto.start c → from b ≡ w → (cond (is_start p.auto c) Final Partial ≡ Final) ↔ (from b ≡ [])
          by [] led e = ((λ q. e), (λ q. ap (λ t. cond t Final Partial) (ap (is_start p.auto) (sym led) ∙ shows.begins)))
          by (j ∷ w) led e = (
            (λ q. partial_final (sym (ap (λ t. cond t Final Partial) (led_left p m place shows settings truths low Fits Sort answers w p.auto.start c j led)) ∙ q)),
            (λ q. nothing_before [] j w (sym e ∙ q)),
          )

      ended_tells : last_match p w p.auto.start ≡ None
          → EndsTold Fits (Tells b) (last_list m settings (end_of seen) (reading (place c) b (b + length w) (open_at b w) None furthest backs))
      unfolding last_list
      ended_tells nothing =
          let s = reading (place c) b (b + length w) (open_at b w) None furthest backs in
          after_others m settings truths Fits Sort answers (end_spot settings s (end_of seen) true) (Tells b) Eof eof_ask refl (m.eof (place c)) s (λ x. done (over x))
          (inr (inr (nothing_cut b (verdict_of m (rest (Some Ended) s)) (ap (λ v. last_match p v p.auto.start) all_read ∙ nothing) ended_word)))
          (λ x h. inr (inl (over_held x h)))

      -- what is delivered at the end
      data Delivered (u : List Letter) (actions : List ℕ) (lines : List TokenLine) (x : Came S) : Type 0 where
        broken : IsHeld Sort x → Delivered u actions lines x
        back : (further back : ℕ) → lines ≡ lines_of b (b + length u) actions → x ≡ came Goes (reading (place p.auto.start) (b + length u) (b + length u) None None further back) → Delivered u actions lines x

      finished_delivered : (spot : Spot) (u : List Letter) (actions : List ℕ) (lines : List TokenLine) (x : Came S) → Delivered u actions lines x → EndsTold Fits (λ more y. Delivered u actions (lines ++ more) y) (finished m settings spot x)
      finished_delivered spot u actions lines x (broken h) =
          finished_stops p m place shows settings truths low Fits Sort answers (λ more y. Delivered u actions (lines ++ more) y) spot x h.0 h.1 (broken h)
      finished_delivered spot u actions lines x (back further backs told same) =
          subst (λ y. EndsTold Fits (λ more y. Delivered u actions (lines ++ more) y) (finished m settings spot y)) (sym same)
          (finished_goes p m place shows settings truths low Fits Sort answers (λ more y. Delivered u actions (lines ++ more) y) spot (place p.auto.start) (b + length u) (b + length u) None None further backs
          (λ more less. back more less (append-nil lines ∙ told) refl) (λ d h. broken h))

      after_delivered : (u : List Letter) (actions : List ℕ) → last_match p w p.auto.start ≡ Some (u, actions) → (lines : List TokenLine) (x : Came S) → Delivered u actions lines x
          → EndsTold Fits (λ more r. Tells b (lines ++ more) r) (after false x (λ t. turns false m settings seen n t))
      after_delivered u actions some lines x (broken h) = after_stops (λ more r. Tells b (lines ++ more) r) x (λ t. turns false m settings seen n t) h.0 h.1 (inr (inl h.2))
      after_delivered u actions some lines x (back further backs told same) =
          goes_back n later b u actions further backs lines x begun_before (ap (λ v. last_match p v p.auto.start) all_read ∙ some) told same

      kept_tells : (u : List Letter) (actions : List ℕ) → last_match p w p.auto.start ≡ Some (u, actions)
          → EndsTold Fits (Tells b) (bind (last_delivery m settings (end_of seen) actions (reading (place c) b (b + length w) (Some b) (Some (u, actions)) furthest backs)) (λ x. after false x (λ t. turns false m settings seen n t)))
      unfolding last_delivery
      kept_tells u actions some =
          let s = reading (place c) b (b + length w) (Some b) (Some (u, actions)) furthest backs in
          let spot = end_spot settings s (end_of seen) false in
          told_bind Fits (Delivered u actions) (Tells b) (bind (deliver m settings spot actions s) (finished m settings spot)) (λ x. after false x (λ t. turns false m settings seen n t))
          (told_bind Fits (Delivered u actions) (Delivered u actions) (deliver m settings spot actions s) (finished m settings spot)
          (delivered p m place shows settings truths low Fits Sort answers (Delivered u actions) spot (place c) b (b + length w) (b + length u) (Some actions) actions furthest backs (shows.home c)
          (back furthest backs refl refl) (λ lines x h. broken h))
          (finished_delivered spot u actions))
          (after_delivered u actions some)

      kept_or_not : (w : List Letter) → (o : Option (List Letter × List ℕ)) → last_match p w p.auto.start ≡ o → ((u : List Letter) (actions : List ℕ) → o ≡ Some (u, actions) → open_at b w ≡ Some b)
      kept_or_not [] o e u actions q = none_in (u, actions) (e ∙ q)
      kept_or_not (l ∷ w) o e u actions q = refl

      end_tells : EndsTold Fits (Tells b) (ending false m settings (end_of seen) (reading (place c) b (b + length w) (open_at b w) (last_match p w p.auto.start) furthest backs) (λ t. turns false m settings seen n t))
      unfolding ending at_kept
      end_tells =
          let s = reading (place c) b (b + length w) (open_at b w) (last_match p w p.auto.start) furthest backs in
          subst (λ t. EndsTold Fits (Tells b) (cond t (done (rest (Some (Stopped PastEnd)) s)) (at_kept false m settings (end_of seen) s (λ t. turns false m settings seen n t) s.kept))) (sym (not_past (b + length w) le))
          (by (last_match p w p.auto.start) refl)
        where
          not_past : (i : ℕ) → i ≤ length all → nat_lt (0 + length all) i ≡ false
          not_past i le = grind (arith, nat_tests)

          by : (o : Option (List Letter × List ℕ)) → last_match p w p.auto.start ≡ o
              → EndsTold Fits (Tells b) (at_kept false m settings (end_of seen) (reading (place c) b (b + length w) (open_at b w) o furthest backs) (λ t. turns false m settings seen n t) (reading (place c) b (b + length w) (open_at b w) o furthest backs).kept)
          by None nothing = ended_tells nothing
          by (Some (u, actions)) some =
              subst (λ ts. EndsTold Fits (Tells b) (bind (last_delivery m settings (end_of seen) actions (reading (place c) b (b + length w) ts (Some (u, actions)) furthest backs)) (λ x. after false x (λ t. turns false m settings seen n t))))
              (sym (kept_or_not w (Some (u, actions)) some u actions refl)) (kept_tells u actions some)

    letters_tell : b + length w ≤ length all → (o : Option ℕ) → slice_get all (b + length w) ≡ o
        → EndsTold Fits (Tells b) (at_letter false m settings seen (λ t. turns false m settings seen n t) (reading (place c) b (b + length w) (open_at b w) (last_match p w p.auto.start) furthest backs) o)
    unfolding at_letter at_end
    letters_tell le (Some character) there = turn_tells character there
    letters_tell le None none =
        let s = reading (place c) b (b + length w) (open_at b w) (last_match p w p.auto.start) furthest backs in
        subst (λ t. EndsTold Fits (Tells b) (cond t (done (rest (Some (Stopped HalfKey)) s)) (ending false m settings (end_of seen) s (λ t. turns false m settings seen n t)))) (sym whole)
        (end_tells le none)

  pub turns_tell : (n : ℕ) → AllTell n
  unfolding turns
  turns_tell zero b w c led reads le furthest backs = inl refl
  turns_tell (suc n) b w c led reads le furthest backs =
      let s = reading (place c) b (b + length w) (open_at b w) (last_match p w p.auto.start) furthest backs in
      subst (λ o. EndsTold Fits (Tells b) (at_letter false m settings seen (λ t. turns false m settings seen n t) s o)) (sym (seen_at all half (b + length w)))
      (letters_tell n (turns_tell n) b w c led reads furthest backs le (slice_get all (b + length w)) refl)
