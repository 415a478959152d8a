-- States that no word tells apart agree; telling apart goes both ways.
use Rattle.std.proofs.Common.{◌≡◌, ℕ, zero, suc, ◌<◌, Bool, false, ◌==◌, List, [], ◌∷◌, Option, Some, None, option_map, slice_get, refl, ap, sym, ◌∙◌, arith}
use Rattle.std.specs.Option.{option_map_or}
use Rattle.std.proofs.Math.Dec.{eqb-suc-zero}
use Rattle.rl_types.specs.declared.numbers.ActionId.{ActionId}
use Rattle.rl_types.specs.declared.numbers.Key.{Key}
use Rattle.rl_types.specs.declared.numbers.Letter.{Letter}
use Rattle.rl_sets.specs.Sets.{In}
use Rattle.rl_fsm.proofs.PieceLaws.{All-In}
use Rattle.rl_run.specs.Machine.{Machine}
use Rattle.rl_run.specs.Classes.{BothStep, AgreeAlong, Agree}
use Rattle.rl_run.specs.Classes as R
use Rattle.rl_model.specs.Parts.{Context, letter_of}
use Rattle.rl_minimal.specs.declared.state.MinState.{MinState}
use Rattle.rl_minimal.specs.declared.state.MinEdge.{MinEdge}
use Rattle.rl_minimal.specs.Minimal.{Minimal, numbers, at_state}
use Rattle.rl_minimal.specs.Machine.{edge_for, go_of, edges_at, min_machine}
use Rattle.rl_minimal.specs.Sound.{IsEdge, IsMinimal}
use Rattle.rl_certificate.specs.Walks.{and_then, walk}
use Rattle.rl_certificate.specs.Views.{list_at, ShowSame}
use Rattle.rl_certificate.specs.Certificates.{Differ}
use Rattle.rl_certificate.proofs.WalkLaws.{edge_from}

-- ---- both ways

pub shows_back : (m : Minimal) (homes : Bool) (i j : ℕ) → ShowSame m homes i j → ShowSame m homes j i
shows_back m homes i j s = record {
  from = sym s.from;
  to = sym s.to;
  eof = sym s.eof;
  error = sym s.error;
  token = sym s.token;
  verdict = sym s.verdict;
  kind = sym s.kind;
  home = λ t. sym (s.home t);
  steps = record { asked = λ k. sym (s.steps.asked k); lists = λ l. sym (s.steps.lists l) };
}

pub differ_back : (m : Minimal) (homes : Bool) (o p : Option ℕ) → Differ m homes o p → Differ m homes p o
differ_back m homes (Some i) (Some j) d = λ s. d (shows_back m homes j i s)
differ_back m homes (Some i) None d = d
differ_back m homes None (Some j) d = d
differ_back m homes None None d = d

-- ---- where no word tells two states apart

-- wherever a word leads from both, the same is shown
pub record AreShown (m : Minimal) (homes : Bool) (i j : ℕ) : Type 0 where
  pub each : (w : List Letter) (q p : ℕ) → walk m w i ≡ Some q → walk m w j ≡ Some p → ShowSame m homes q p

none_is : {X : Type 0} (x : X) → None ≡ Some x → ⊥
none_is x e = cc

some_list : (x y : List ActionId) → Some x ≡ Some y → x ≡ y
some_list x y e = cc

not_error : (i : ℕ) → 0 < i → (i == 0) ≡ false
not_error zero h = absurd (omega arith)
not_error (suc i) h = eqb-suc-zero i

numbers_told : (f : MinState → List ActionId) (o : Option MinState) → option_map_or (λ s. numbers (f s)) o [] ≡ numbers (option_map_or f o [])
numbers_told f None = refl
numbers_told f (Some s) = refl

module _ (m : Minimal) (sound : IsMinimal m) (context : Context) (homes : Bool) where
  abbrev M : Machine ℕ
  M = min_machine m context

  abbrev target_of : Option MinEdge → Option ℕ
  target_of o = option_map (λ (e : MinEdge). e.target) o

  lists_told : (f : MinState → List ActionId) (i j : ℕ) → list_at f m i ≡ list_at f m j → at_state [] (λ s. numbers (f s)) m.states j ≡ at_state [] (λ s. numbers (f s)) m.states i
  lists_told f i j e = numbers_told f (slice_get m.states j) ∙ ap numbers (sym e) ∙ sym (numbers_told f (slice_get m.states i))

  target_alive : (i : ℕ) (e : MinEdge) → In e (edges_at m i) → 0 < e.target
  target_alive i e j = by (slice_get m.states i) refl j
    where
      by : (o : Option MinState) → slice_get m.states i ≡ o → In e (option_map_or (λ s. s.edges) o []) → 0 < e.target
      by None q l = absurd l
      by (Some s) q l = (All-In (IsEdge m.states s) s.edges e (sound.states i s q).edges.each l).target.alive

  shown_end : (i j : ℕ) → 0 < i → 0 < j → ShowSame m homes i j → R.ShowSame M i j
  shown_end i j y z s = record {
    asked = λ k. sym (s.steps.asked k.0);
    from = lists_told (λ s. s.from) i j s.from;
    to = lists_told (λ s. s.to) i j s.to;
    error = lists_told (λ s. s.error) i j s.error;
    eof = lists_told (λ s. s.eof) i j s.eof;
    token = lists_told (λ s. s.token) i j s.token;
    kind = sym s.kind;
    final = sym s.verdict;
    is_failed = not_error j z ∙ sym (not_error i y);
  }

  shown_step : (l : Letter) (word : List (Key × ℕ)) (i j : ℕ) → AreShown m homes i j
      → ((q p : ℕ) → 0 < q → 0 < p → AreShown m homes q p → AgreeAlong M word q p)
      → (o p : Option MinEdge) → edge_for l (edges_at m i) ≡ o → edge_for l (edges_at m j) ≡ p
      → option_map (λ (e : MinEdge). e.list) o ≡ option_map (λ (e : MinEdge). e.list) p
      → BothStep M (AgreeAlong M word) (option_map go_of o) (option_map go_of p)
  shown_step l word i j a later None None q r e = tt
  shown_step l word i j a later None (Some f) q r e = none_is f.list e
  shown_step l word i j a later (Some e) None q r s = none_is e.list (sym s)
  shown_step l word i j a later (Some e) (Some f) q r s = (
    ap numbers (sym (some_list e.list f.list s)),
    later e.target f.target (target_alive i e (edge_from l (edges_at m i) e q).0) (target_alive j f (edge_from l (edges_at m j) f r).0)
        (record { each = λ w x y g h. a.each (l ∷ w) x y (ap (λ o. and_then (target_of o) (walk m w)) q ∙ g) (ap (λ o. and_then (target_of o) (walk m w)) r ∙ h) }),
  )

  agree_along : (word : List (Key × ℕ)) (i j : ℕ) → 0 < i → 0 < j → AreShown m homes i j → AgreeAlong M word i j
  agree_along [] i j y z a = shown_end i j y z (a.each [] i j refl refl)
  agree_along (l ∷ word) i j y z a =
      shown_step (letter_of l.0 l.1) word i j a (agree_along word) (edge_for (letter_of l.0 l.1) (edges_at m i)) (edge_for (letter_of l.0 l.1) (edges_at m j)) refl refl
      ((a.each [] i j refl refl).steps.lists (letter_of l.0 l.1))

  -- they agree
  pub shown_agree : (i j : ℕ) → 0 < i → 0 < j → AreShown m homes i j → Agree M i j
  shown_agree i j y z a word = agree_along word i j y z a
