-- Calls on the session of a name.
use Rattle.std.proofs.Common.{◌≡◌, ℕ, ◌<◌, List, map, length, Some, None, sym, ◌∙◌, ap, subst}
use Rattle.std.specs.Prelude.{slice_set, slice_index_or}
use Rattle.std.specs.List.{position, AllByRecursion}
use Rattle.std.specs.Option.{option_map}
use Rattle.rl_run.specs.declared.calls.Call.{Call}
use Rattle.rl_run.specs.declared.calls.Answer.{Answer}
use Rattle.rl_run.specs.declared.calls.Outcome.{Outcome}
use Rattle.rl_run.specs.declared.sessions.Settings.{Settings}
use Rattle.rl_arrays.specs.declared.arrays.Arrays.{Arrays}
use Rattle.rl_arrays.specs.TableMachine.{machine}
use Rattle.rl_sessions.specs.declared.one.One.{One}
use Rattle.rl_sessions.specs.OneSession.{session_value, name_of, has_name, IsOne, IsLivePlace}
use Rattle.rl_sessions.specs.Runs.{Takes, Ends, Becomes, TakesPiece, TakesEnd}
use Rattle.rl_sessions.specs.SessionsValue.{SessionValue, SessionsValue, find}
use Rattle.rl_sessions.proofs.Laws.{found_name, replaced_found, replaced_other, replaced_names}
use Rattle.rl_sessions.proofs.Finds.{place_none, place_found, all_at}

abbrev pub sessions : Arrays → Settings → List One → SessionsValue
sessions tables settings items = record { tables = tables; settings = settings; all = map session_value items }

-- what holds of the session at a place
pub one_at : (P : One → Type 0) (items : List One) (i : ℕ) (x : One) → x ≡ slice_index_or items i x → AllByRecursion P items → i < length items → P x
one_at P items i x e all within = subst P (sym e) (all_at P items i x all within)

-- the same of tables and settings that are the same
pub one_of : (a b : Arrays) (x y : Settings) (one : One) → a ≡ b → x ≡ y → IsOne a x one → IsOne b y one
one_of a b x y one e f p = subst (λ v. IsOne b v one) f (subst (λ v. IsOne v x one) e p)

module _ (tables : Arrays) (settings : Settings) (items : List One) (name : List ℕ) (i : ℕ) (x : One) (place : IsLivePlace name items i) (e : x ≡ slice_index_or items i x) where
  pub live_found : find name (map session_value items) ≡ Some (session_value x)
  live_found = place.found x ∙ ap (λ (z : One). Some (session_value z)) (sym e)

  becomes : (y : One) → name_of y ≡ name_of x → Becomes name (sessions tables settings items) (sessions tables settings (slice_set items i y)) (session_value x) (session_value y)
  becomes y same =
      let named : name_of y ≡ name = same ∙ found_name name (map session_value items) (session_value x) live_found in
      let put = place.put y in
      record {
        found = live_found;
        was_live = ap (λ (z : One). z.is_closed) e ∙ place.live x;
        others = ap (λ zs. record { tables = tables; settings = settings; all = zs }) (sym put);
        finds = ap (λ zs. find name zs) (sym put) ∙ replaced_found name (map session_value items) (session_value x) (session_value y) live_found named;
        finds_others = λ other differs. ap (λ zs. find other zs) (sym put) ∙ replaced_other name other (map session_value items) (session_value y) named differs;
        names = ap (λ zs. map (λ (z : SessionValue). z.name) zs) (sym put) ∙ replaced_names name (map session_value items) (session_value y) named;
      }

  module _ {H : Type 0} (step : H → Call → Answer → H → Type 0) (h last : H) (y : One) (o : Outcome) (one : IsOne tables settings x) where
    pub piece_taken : (piece : List ℕ) → Takes step (machine x.runner.tables) x.runner.settings piece h last (session_value x) (session_value y) o →
        TakesPiece step h last name (sessions tables settings items) (sessions tables settings (slice_set items i y)) piece o
    piece_taken piece takes = record {
      earlier = session_value x;
      later = session_value y;
      becomes = becomes y takes.name;
      takes = subst (λ v. Takes step (machine tables) v piece h last (session_value x) (session_value y) o) one.settings
          (subst (λ v. Takes step (machine v) x.runner.settings piece h last (session_value x) (session_value y) o) one.tables takes);
    }

    pub end_taken : Ends step (machine x.runner.tables) x.runner.settings h last (session_value x) (session_value y) o →
        TakesEnd step h last name (sessions tables settings items) (sessions tables settings (slice_set items i y)) o
    end_taken ends = record {
      earlier = session_value x;
      later = session_value y;
      becomes = becomes y ends.name;
      ends = subst (λ v. Ends step (machine tables) v h last (session_value x) (session_value y) o) one.settings
          (subst (λ v. Ends step (machine v) x.runner.settings h last (session_value x) (session_value y) o) one.tables ends);
    }

-- what is told of the session of a name
pub told_none : {A : Type 0} (f : SessionValue → A) (name : List ℕ) (items : List One) → position (has_name name) items ≡ None → None ≡ option_map f (find name (map session_value items))
told_none f name items e = ap (λ o. option_map f o) (sym (place_none name items e))

pub told_some : {A : Type 0} (f : SessionValue → A) (name : List ℕ) (items : List One) (i : ℕ) (x : One) (v : A) → position (has_name name) items ≡ Some i → x ≡ slice_index_or items i x → v ≡ f (session_value x) →
    Some v ≡ option_map f (find name (map session_value items))
told_some f name items i x v p e q =
    ap Some (q ∙ ap (λ (z : One). f (session_value z)) e) ∙ ap (λ o. option_map f o) (sym (place_found name items i x p))
