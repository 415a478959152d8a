-- The states of a machine lead to its states, which keep their homes.
use Rattle.std.proofs.Common.{◌≡◌, ℕ, zero, suc, ◌<◌, ◌≤◌, List, [], ◌∷◌, ◌⊎◌, length, Option, Some, None, option_map, slice_get, unwrap_or, refl, ap, sym, ◌∙◌, subst, inl, inr, arith}
use Rattle.std.specs.Option.{option_map_or}
use Rattle.std.proofs.lemmas.Bool.{cases_lt}
use Rattle.rl_types.specs.declared.numbers.Key.{Key}
use Rattle.rl_types.specs.declared.numbers.Letter.{Letter}
use Rattle.rl_sets.specs.Sets.{In}
use Rattle.rl_automata.proofs.Congruence.{some_in, none_in}
use Rattle.rl_explore.proofs.NumberLaws.{get_In, get_exists}
use Rattle.rl_fsm.proofs.PieceLaws.{All-In}
use Rattle.rl_run.specs.Machine.{Go, Machine}
use Rattle.rl_run.specs.Classes.{AreReached}
use Rattle.rl_model.specs.Parts.{Context, letter_of}
use Rattle.rl_minimal.specs.declared.state.MinState.{MinState}
use Rattle.rl_minimal.specs.declared.state.MinEdge.{MinEdge}
use Rattle.rl_minimal.specs.Minimal.{Minimal, kind_at, home_at}
use Rattle.rl_minimal.specs.Machine.{edge_for, edges_at, entry_at, go_of, min_machine}
use Rattle.rl_minimal.specs.Sound.{IsEdge, IsEntry, IsMinimal}
use Rattle.rl_reach.proofs.EdgeLaws.{edge_from}

module _ (m : Minimal) (minimal : IsMinimal m) where
  home_is : (i : ℕ) (s : MinState) → slice_get m.states i ≡ Some s → home_at m.states i ≡ s.home
  home_is i s e = ap (λ o. option_map_or (λ (s : MinState). s.home) o 0) e

  kind_is : (i : ℕ) (s : MinState) → slice_get m.states i ≡ Some s → kind_at m.states i ≡ s.kind
  kind_is i s e = ap (λ o. option_map_or (λ (s : MinState). s.kind) o 0) e

  -- a plain state has home 0
  plain_home : (i : ℕ) → i < length m.states → kind_at m.states i ≡ 0 → home_at m.states i ≡ 0
  plain_home i h k = let s = get_exists m.states i h in home_is i s.0 s.1 ∙ (minimal.states i s.0 s.1).home.plain (sym (kind_is i s.0 s.1) ∙ k)

  some_states : 0 < length m.states
  some_states = let h : 2 ≤ length m.states = minimal.counts.states in omega arith

  error_home : home_at m.states 0 ≡ 0
  error_home = let s = get_exists m.states 0 some_states in plain_home 0 some_states (kind_is 0 s.0 s.1 ∙ (minimal.error s.0 s.1).kind)

  edge_right : (i : ℕ) (s : MinState) (e : MinEdge) → slice_get m.states i ≡ Some s → In e s.edges → (e.target < length m.states) × (home_at m.states e.target ≡ home_at m.states i)
  edge_right i s e at there =
      let st = minimal.states i s at in
      let t = (All-In (IsEdge m.states s) s.edges e st.edges.each there).target in (
        t.there,
        elim (cases_lt 0 s.kind) [
          | inl some ↦ t.stays.same_home some ∙ sym (home_is i s at)
          | inr none ↦
              let plain : s.kind ≡ 0 = omega arith in
              plain_home e.target t.there (t.stays.plain plain) ∙ sym (st.home.plain plain) ∙ sym (home_is i s at)
        ],
      )

  module _ (context : Context) where
    abbrev M : Machine ℕ
    M = min_machine m context

    steps : (i : ℕ) (key : Key) (hold : ℕ) (g : Go ℕ) → i < length m.states → M.find i key hold ≡ Some g → (g.target < length m.states) × (M.home g.target ≡ M.home i)
    steps i key hold g h found =
        let s = get_exists m.states i h in
        by s.0 s.1 (edge_for (letter_of key hold) s.0.edges) refl (sym (ap (λ o. option_map go_of (edge_for (letter_of key hold) (option_map_or (λ (s : MinState). s.edges) o []))) s.1) ∙ found)
      where
        by : (s : MinState) → slice_get m.states i ≡ Some s → (o : Option MinEdge) → edge_for (letter_of key hold) s.edges ≡ o → option_map go_of o ≡ Some g → (g.target < length m.states) × (M.home g.target ≡ M.home i)
        by s at None e f = none_in g f
        by s at (Some x) e f =
            let r = edge_right i s x at (edge_from (letter_of key hold) s.edges x e).0 in
            subst (λ (y : Go ℕ). (y.target < length m.states) × (M.home y.target ≡ M.home i)) (some_in (go_of x) g f) r

    homes : (i : ℕ) → i < length m.states → (M.home i < length m.states) × (M.home (M.home i) ≡ M.home i)
    homes i h = by (get_exists m.states i h)
      where
        by : (s : MinState) × (slice_get m.states i ≡ Some s) → (M.home i < length m.states) × (M.home (M.home i) ≡ M.home i)
        by s =
            let hh = (minimal.states i s.0 s.1).home in
            let e = home_is i s.0 s.1 in
            elim (cases_lt 0 s.0.kind) [
              | inl some ↦ subst (λ k. (k < length m.states) × (M.home k ≡ k)) (sym e) (hh.there some, hh.own some)
              | inr none ↦ let plain : s.0.kind ≡ 0 = omega arith in subst (λ k. (k < length m.states) × (M.home k ≡ k)) (sym (e ∙ hh.plain plain)) (some_states, error_home)
            ]

    entries : (e : ℕ) → M.entry e < length m.states
    entries zero = some_states
    entries (suc e) = by (slice_get m.entries e) refl
      where
        by : (o : Option ℕ) → slice_get m.entries e ≡ o → unwrap_or o 0 < length m.states
        by None q = some_states
        by (Some x) q = (All-In (IsEntry m.states) m.entries x minimal.entries (get_In m.entries e x q)).there

    pub states_reached : AreReached M (λ i. i < length m.states)
    states_reached = record {
      steps = λ i key hold g h e. steps i key hold g h e;
      homes = homes;
      failed = some_states;
      entries = entries;
    }
