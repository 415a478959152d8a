-- The array of lists, and the arrays of the states' lists, are right.
use Rattle.std.proofs.Common.{◌≡◌, ◌≢◌, ℕ, ◌<◌, ◌≤◌, true, pos, List, [], length, Some, None, sym, ap, ◌∙◌, subst, arith, inl, inr}
use Rattle.std.specs.Prelude.{slice_get}
use Rattle.std.specs.List.{AllByRecursion}
use Rattle.std.proofs.lemmas.Bool.{cases_lt}
use Rattle.std.proofs.lemmas.List.{length-map}
use Rattle.rl_types.specs.declared.numbers.ActionId.{ActionId}
use Rattle.rl_arrays.specs.declared.arrays.Arrays.{Arrays}
use Rattle.rl_arrays.specs.declared.arrays.ArrayName.TheVariants as the
use Rattle.rl_arrays.specs.Rules.{ActionSays, ListSays, EndListSays, TokenListSays}
use Rattle.rl_arrays.specs.Valid.{FirstWrong}
use Rattle.rl_model.specs.declared.spec.Spec.{Spec}
use Rattle.rl_minimal.specs.declared.state.MinState.{MinState}
use Rattle.rl_minimal.specs.Minimal.{Minimal}
use Rattle.rl_minimal.specs.Sound.{IsMinimal}
use Rattle.rl_layout.specs.Books.{lists_of, uses_of, place_in, order_of}
use Rattle.rl_layout.specs.SpecArrays.{name_of}
use Rattle.rl_layout.specs.Layout.{arrays_laid}
use Rattle.rl_layout.proofs.ListLaws.{all_at}
use Rattle.rl_layout.proofs.BookLaws.{listed, lists_listed}
use Rattle.rl_layout.proofs.PlaceLaws.{is_list, element_is, ends_at}
use Rattle.rl_layout.proofs.ValidBase.{at_map, if_at, right_of, not_negative, le_pos, lt_pos, states_are, kind_has, kind_may}

module _ (spec : Spec) (m : Minimal) (sound : IsMinimal m) where
  abbrev pub lists : List (List ActionId)
  lists = lists_of m.states

  abbrev pub order : List ℕ
  order = order_of lists

  abbrev pub a : Arrays
  a = arrays_laid spec lists order m

  uses_at : (i : ℕ) (s : MinState) → slice_get m.states i ≡ Some s → AllByRecursion (λ list. listed lists list ≡ true) (uses_of s)
  uses_at i s e = all_at (λ s. AllByRecursion (λ list. listed lists list ≡ true) (uses_of s)) m.states i s (lists_listed m.states) e

  -- the empty list has place 0
  place_none : (list : List ActionId) → list ≡ [] → pos (place_in lists list) ≡ pos 0
  place_none list e = ap (λ l. pos (place_in lists l)) e

  as_error : (i : ℕ) (s : MinState) → slice_get m.states i ≡ Some s → i ≡ 0 → slice_get m.states 0 ≡ Some s
  as_error i s e z = ap (slice_get m.states) (sym z) ∙ e

  list_says : (i : ℕ) (s : MinState) (list : List ActionId) → slice_get m.states i ≡ Some s → listed lists list ≡ true → (slice_get m.states 0 ≡ Some s → list ≡ []) → ListSays a i (pos (place_in lists list))
  list_says i s list e h none = record { list = is_list order lists list h; error = λ z. place_none list (none (as_error i s e z)) }

  end_list_says : (i : ℕ) (s : MinState) (list : List ActionId) → slice_get m.states i ≡ Some s → listed lists list ≡ true → (slice_get m.states 0 ≡ Some s → list ≡ []) → (0 < s.kind → list ≡ []) → EndListSays a i (pos (place_in lists list))
  end_list_says i s list e h none plain = record {
    list = is_list order lists list h;
    error = λ z. place_none list (none (as_error i s e z));
    scanner = λ k. let b = kind_has spec lists order m sound i s 1 4 e k in place_none list (plain (omega (arith, b)));
  }

  pub from_right : FirstWrong a the.FromLists None
  from_right = right_of a the.FromLists (states_are spec lists order m sound ∙ sym (length-map m.states (λ s. pos (place_in lists s.from)))) (λ i. if_at a.from_lists i (ListSays a i) (λ x e.
      let p = at_map (λ s. pos (place_in lists s.from)) m.states i x e in
      subst (ListSays a i) (sym p.2) (list_says i p.0 p.0.from p.1 (uses_at i p.0 p.1).0 (λ z. (sound.error p.0 z).from))))

  pub to_right : FirstWrong a the.ToLists None
  to_right = right_of a the.ToLists (states_are spec lists order m sound ∙ sym (length-map m.states (λ s. pos (place_in lists s.to)))) (λ i. if_at a.to_lists i (ListSays a i) (λ x e.
      let p = at_map (λ s. pos (place_in lists s.to)) m.states i x e in
      subst (ListSays a i) (sym p.2) (list_says i p.0 p.0.to p.1 (uses_at i p.0 p.1).1.0 (λ z. (sound.error p.0 z).to))))

  pub eof_right : FirstWrong a the.EofLists None
  eof_right = right_of a the.EofLists (states_are spec lists order m sound ∙ sym (length-map m.states (λ s. pos (place_in lists s.eof)))) (λ i. if_at a.eof_lists i (EndListSays a i) (λ x e.
      let p = at_map (λ s. pos (place_in lists s.eof)) m.states i x e in
      subst (EndListSays a i) (sym p.2) (end_list_says i p.0 p.0.eof p.1 (uses_at i p.0 p.1).1.1.0 (λ z. (sound.error p.0 z).eof) (sound.states i p.0 p.1).lists.eof)))

  pub error_right : FirstWrong a the.ErrorLists None
  error_right = right_of a the.ErrorLists (states_are spec lists order m sound ∙ sym (length-map m.states (λ s. pos (place_in lists s.error)))) (λ i. if_at a.error_lists i (EndListSays a i) (λ x e.
      let p = at_map (λ s. pos (place_in lists s.error)) m.states i x e in
      subst (EndListSays a i) (sym p.2) (end_list_says i p.0 p.0.error p.1 (uses_at i p.0 p.1).1.1.1.0 (λ z. (sound.error p.0 z).error) (sound.states i p.0 p.1).lists.error)))

  token_says : (i : ℕ) (s : MinState) → slice_get m.states i ≡ Some s → TokenListSays a i (pos (place_in lists s.token))
  token_says i s e = record {
    list = is_list order lists s.token (uses_at i s e).1.1.1.1.0;
    error = λ z. place_none s.token (no_token (let k = (sound.error s (as_error i s e z)).kind in omega (arith, k)));
    match = λ some. kind_may spec lists order m sound i 3 4 (λ t q. let same : t ≡ s = cc in subst (λ u. (3 ≤ u.kind) × (u.kind ≤ 4)) (sym same) (matches some, (sound.states i s e).kind.known));
  }
    where
      no_token : s.kind < 3 → s.token ≡ []
      no_token = (sound.states i s e).lists.token

      matches : pos (place_in lists s.token) ≢ pos 0 → 3 ≤ s.kind
      matches some = elim (cases_lt s.kind 3) [ inl l ↦ absurd (some (place_none s.token (no_token l))) | inr g ↦ g ]

  pub token_right : FirstWrong a the.AcceptLists None
  token_right = right_of a the.AcceptLists (states_are spec lists order m sound ∙ sym (length-map m.states (λ s. pos (place_in lists s.token)))) (λ i. if_at a.accept_lists i (TokenListSays a i) (λ x e.
      let p = at_map (λ s. pos (place_in lists s.token)) m.states i x e in
      subst (TokenListSays a i) (sym p.2) (token_says i p.0 p.1)))

  -- ---- the lists

  pub actions_right : FirstWrong a the.Actions None
  actions_right = right_of a the.Actions (let z = ends_at order lists in omega (arith, z)) (λ i. if_at a.actions i (ActionSays a i) (λ x e.
      let k = element_is lists i x e in
      subst (ActionSays a i) (sym k.is) (record {
        empty = λ z. ap (λ n. pos n) (k.first z);
        count = λ _. not_negative k.value;
        member = λ l. let b = k.member l in let n = length-map order (name_of spec.actions) in (le_pos 1 k.value b.0, lt_pos k.value (length a.action_names) (omega (arith, b, n)));
      })))
