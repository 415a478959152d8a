-- What an admitted line finds: its session live, or room for a new one.
use Rattle.std.proofs.Common.{◌≡◌, ℕ, ◌+◌, Bool, true, false, cond, not, nat_le, List, [], ◌∷◌, length, filter, Option, Some, None, is_some, refl, sym, ◌∙◌, ap, subst, arith}
use Rattle.std.specs.Str.{bytes_eq}
use Rattle.std.proofs.lemmas.List.Sums.{sum_by-cons}
use Rattle.std.proofs.lemmas.Slice.Eq.{bytes_eq-Decides}
use Rattle.rl_run.specs.declared.sessions.Settings.{Settings}
use Rattle.rl_arrays.specs.declared.arrays.Arrays.{Arrays}
use Rattle.rl_arrays.specs.TableMachine.{machine}
use Rattle.rl_replay.specs.declared.script.Line.{Line}
use Rattle.rl_replay.specs.Sessions as script_side
use Rattle.rl_replay.specs.Sessions.{only, is_opened, is_ended}
use Rattle.rl_script.specs.TableNames.{names_in}
use Rattle.rl_sessions.specs.declared.fault.SessionFault.{SessionFault}
use Rattle.rl_sessions.specs.declared.fault.SessionFault.TheVariants.{Twice, Full}
use Rattle.rl_sessions.specs.SessionsValue.{SessionValue, SessionsValue, find, live, refusal}
use Rattle.rl_playback.specs.declared.log.Log.{Log}
use Rattle.rl_playback.specs.Deeds.{HasLive}
use Rattle.rl_playback.specs.Stands.{IsOpened, StandsAt, AreDistinct, Stands}
use Rattle.rl_playback.proofs.Finds.{names_of, found_or}

false_true : false ≡ true → ⊥
false_true e = cc

apart : (z x : SessionValue) (zs : List SessionValue) → find z.name zs ≡ None → find x.name zs ≡ Some x → bytes_eq z.name x.name ≡ false
apart z x zs none some = go (bytes_eq z.name x.name) refl
  where
    no : None ≡ Some x → ⊥
    no e = cc

    go : (b : Bool) → bytes_eq z.name x.name ≡ b → b ≡ false
    go true f = absurd (no (sym none ∙ ap (λ s. find s zs) ((bytes_eq-Decides z.name x.name).0 f) ∙ some))
    go false f = refl

-- the names of the sessions that were not ended are as many as these
live_count : (ended : List ℕ → Bool) (all : List SessionValue) → AreDistinct all → ((x : SessionValue) → find x.name all ≡ Some x → ended x.name ≡ x.is_closed) →
    length (filter (λ s. not (ended s)) (names_of all)) ≡ live all
live_count ended [] distinct h = refl
live_count ended (z ∷ zs) distinct h =
    ap (λ b. length (cond (not b) (z.name ∷ filter (λ s. not (ended s)) (names_of zs)) (filter (λ s. not (ended s)) (names_of zs))))
    (h z (ap (λ b. found_or b z (find z.name zs)) ((bytes_eq-Decides z.name z.name).1 refl)))
    ∙ go z.is_closed (live_count ended zs distinct.1 (λ x e. h x (ap (λ b. found_or b z (find x.name zs)) (apart z x zs distinct.0 e) ∙ e)))
    ∙ sym (sum_by-cons (λ (x : SessionValue). cond (not x.is_closed) 1 0) z zs)
  where
    go : (b : Bool) → length (filter (λ s. not (ended s)) (names_of zs)) ≡ live zs →
        length (cond (not b) (z.name ∷ filter (λ s. not (ended s)) (names_of zs)) (filter (λ s. not (ended s)) (names_of zs))) ≡ cond (not b) 1 0 + live zs
    go true e = omega arith
    go false e = omega arith

abbrev refused : Bool → Bool → Option SessionFault
refused known full = cond known (Some Twice) (cond full (Some Full) None)

module _ (settings : Settings) (script past : List Line) (a : Arrays) (log : Log) (sessions : SessionsValue) (st : Stands settings script past a log sessions) where
  abbrev At : List ℕ → Option SessionValue → Type 0
  At s o = StandsAt (names_in a) (machine a) settings s (only s script) (only s past) log.books o

  -- a session that is live by the lines so far
  pub finds_live : (s : List ℕ) → is_opened (only s past) ≡ true → is_ended (only s past) ≡ false → HasLive s sessions
  finds_live s opened open_yet = go (find s sessions.all) refl (st.each s)
    where
      go : (o : Option SessionValue) → find s sessions.all ≡ o → At s o → HasLive s sessions
      go None e h = absurd (false_true (sym (ap (λ (v : Option (Option (List ℕ))). is_some v) h.opened) ∙ opened))
      go (Some x) e h = record { session = x; found = e; going = sym h.ended ∙ open_yet }

  closed : (x : SessionValue) → find x.name sessions.all ≡ Some x → is_ended (only x.name past) ≡ x.is_closed
  closed x e =
      let P : Option SessionValue → Type 0 = λ o. At x.name o in
      let is : IsOpened (names_in a) (machine a) settings x.name (only x.name script) (only x.name past) log.books x = subst P e (st.each x.name) in
      is.ended

  counted : length (script_side.live past) ≡ live sessions.all
  counted =
      ap (λ names. length (filter (λ s. not (is_ended (only s past))) names)) (sym st.names)
      ∙ live_count (λ s. is_ended (only s past)) sessions.all st.distinct closed

  unknown : (s : List ℕ) → is_opened (only s past) ≡ false → is_some (find s sessions.all) ≡ false
  unknown s unopened = go (find s sessions.all) (st.each s)
    where
      go : (o : Option SessionValue) → At s o → is_some o ≡ false
      go None h = refl
      go (Some x) h = absurd (false_true (sym unopened ∙ h.opened))

  -- one that no line so far has opened can be started, where fewer than 1,024 are live
  pub not_refused : (s : List ℕ) → is_opened (only s past) ≡ false → nat_le 1024 (length (script_side.live past)) ≡ false → refusal s sessions.all ≡ None
  not_refused s unopened room =
      ap (λ b. refused b (nat_le 1024 (live sessions.all))) (unknown s unopened)
      ∙ ap (λ b. refused false b) (ap (λ n. nat_le 1024 n) (sym counted) ∙ room)
