-- The left lines of the sessions that were not ended, and the whole text.
use Rattle.std.proofs.Common.{◌≡◌, ℕ, Bool, true, false, cond, not, List, [], ◌∷◌, ◌++◌, map, filter, Option, Some, None, refl, sym, ◌∙◌, ap, subst, append-nil}
use Rattle.std.specs.Str.{bytes_eq}
use Rattle.std.proofs.lemmas.Grind.{flat_map-append}
use Rattle.std.proofs.lemmas.Slice.Eq.{bytes_eq-Decides}
use Rattle.rl_run.specs.declared.sessions.Settings.{Settings}
use Rattle.rl_run.specs.declared.calls.Outcome.{Outcome}
use Rattle.rl_run.specs.declared.calls.Call.{Call}
use Rattle.rl_run.specs.Machine.{Machine, Session}
use Rattle.rl_run.specs.Run.{Rest, rest}
use Rattle.rl_run.specs.Verdict.{verdict_of}
use Rattle.rl_arrays.specs.declared.arrays.Arrays.{Arrays}
use Rattle.rl_arrays.specs.TableMachine.{machine}
use Rattle.rl_replay.specs.declared.script.Line.{Line}
use Rattle.rl_replay.specs.Lines.{left_line}
use Rattle.rl_replay.specs.Sessions.{Names, only, is_ended, live}
use Rattle.rl_replay.specs.Written.{Part, texts, parts_from, left, written}
use Rattle.rl_script.specs.TableNames.{names_in}
use Rattle.rl_sessions.specs.SessionsValue.{SessionValue, SessionsValue, find, verdict_in}
use Rattle.rl_playback.specs.declared.books.Books.{Books}
use Rattle.rl_playback.specs.declared.log.Log.{Log}
use Rattle.rl_playback.specs.Deeds.{left_text, left_texts}
use Rattle.rl_playback.specs.Stands.{outcome_of, IsOpened, StandsAt, AreDistinct, Stands}
use Rattle.rl_playback.proofs.Finds.{names_of, found_or}

-- the verdict of a run that wants more is that of one that is not over
verdict_same : (m : Machine ℕ) (over : Option Outcome) (t : Session ℕ) → verdict_of m (rest (Some (outcome_of over)) t) ≡ verdict_of m (rest over t)
verdict_same m None t = refl
verdict_same m (Some o) t = refl

module _ (settings : Settings) (script : List Line) (a : Arrays) (books : Books) where
  abbrev names : Names
  names = names_in a

  abbrev At : List ℕ → SessionValue → Type 0
  At s x = IsOpened names (machine a) settings s (only s script) (only s script) books x

  abbrev left_of : List ℕ → Part
  left_of s = left names (machine a) settings script s

  abbrev stays : List ℕ → Bool
  stays s = not (is_ended (only s script))

  -- the left line of one session
  one_left : (x : SessionValue) → At x.name x → texts (map left_of (cond (stays x.name) (x.name ∷ []) [])) ≡ left_text a x
  one_left x h = go x.is_closed refl
    where
      go : (b : Bool) → x.is_closed ≡ b → texts (map left_of (cond (stays x.name) (x.name ∷ []) [])) ≡ cond b [] (left_line x.name (verdict_in a x) x.session.next)
      go true e = ap (λ c. texts (map left_of (cond (not c) (x.name ∷ []) []))) (h.ended ∙ e)
      go false e =
          let k = h.come e in
          ap (λ c. texts (map left_of (cond (not c) (x.name ∷ []) []))) (h.ended ∙ e)
          ∙ append-nil (left_of x.name).text
          ∙ ap (λ (r : List Call × Rest ℕ). left_line x.name (verdict_of (machine a) r.1) r.1.session.next) k.run
          ∙ ap (λ v. left_line x.name v x.session.next) (verdict_same (machine a) x.over x.session)

  split : (b : Bool) (s : List ℕ) (ss : List (List ℕ)) → texts (map left_of (cond b (s ∷ ss) ss)) ≡ texts (map left_of (cond b (s ∷ []) [])) ++ texts (map left_of ss)
  split true s ss = ap (λ t. t ++ texts (map left_of ss)) (sym (append-nil (left_of s).text))
  split false s ss = refl

  -- what is found behind a session is found with it
  behind : (x : SessionValue) (xs : List SessionValue) → find x.name xs ≡ None → (s : List ℕ) (y : SessionValue) → find s xs ≡ Some y → find s (x ∷ xs) ≡ Some y
  behind x xs new s y e = go (bytes_eq x.name s) refl
    where
      none : None ≡ Some y → ⊥
      none e = cc

      go : (b : Bool) → bytes_eq x.name s ≡ b → found_or b x (find s xs) ≡ Some y
      go true f = absurd (none (sym new ∙ ap (λ u. find u xs) ((bytes_eq-Decides x.name s).0 f) ∙ e))
      go false f = e

  all_left : (xs : List SessionValue) → AreDistinct xs → ((s : List ℕ) (x : SessionValue) → find s xs ≡ Some x → At s x) →
      texts (map left_of (filter stays (names_of xs))) ≡ left_texts a xs
  all_left [] distinct h = refl
  all_left (x ∷ xs) distinct h =
      split (stays x.name) x.name (filter stays (names_of xs))
      ∙ ap (λ t. t ++ texts (map left_of (filter stays (names_of xs)))) (one_left x (h x.name x (ap (λ b. found_or b x (find x.name xs)) ((bytes_eq-Decides x.name x.name).1 refl))))
      ∙ ap (λ t. left_text a x ++ t) (all_left xs distinct.1 (λ s y e. h s y (behind x xs distinct.0 s y e)))

-- all that a replay writes
pub whole_text : (settings : Settings) (script : List Line) (a : Arrays) (log : Log) (sessions : SessionsValue) → Stands settings script script a log sessions →
    log.text.items ++ left_texts sessions.tables sessions.all ≡ written (names_in a) (machine a) settings script
whole_text settings script a log sessions st =
    ap (λ v. log.text.items ++ left_texts v sessions.all) st.machine_tables
    ∙ ap (λ t. t ++ left_texts a sessions.all) st.text
    ∙ ap (λ t. texts (parts_from (names_in a) (machine a) settings script [] script) ++ t)
    (sym (ap (λ ss. texts (map (left (names_in a) (machine a) settings script) (filter (λ s. not (is_ended (only s script))) ss))) (sym st.names)
    ∙ all_left settings script a log.books sessions.all st.distinct (λ s x e. at s (find s sessions.all) (st.each s) x e)))
    ∙ sym (flat_map-append (λ (part : Part). part.text) (parts_from (names_in a) (machine a) settings script [] script) (map (left (names_in a) (machine a) settings script) (live script)))
  where
    at : (s : List ℕ) (o : Option SessionValue) → StandsAt (names_in a) (machine a) settings s (only s script) (only s script) log.books o → (x : SessionValue) → o ≡ Some x →
        IsOpened (names_in a) (machine a) settings s (only s script) (only s script) log.books x
    at s None h x e = absurd (no e)
      where
        no : None ≡ Some x → ⊥
        no e = cc
    at s (Some y) h x e =
        let P : SessionValue → Type 0 = λ v. IsOpened (names_in a) (machine a) settings s (only s script) (only s script) log.books v in
        subst P (same e) h
      where
        same : Some y ≡ Some x → y ≡ x
        same e = cc
