-- The classes make a machine.
use Rattle.std.proofs.Common.{◌≡◌, ℕ, zero, suc, ◌<◌, ◌≤◌, Bool, true, false, List, [], ◌∷◌, ◌⊎◌, map, length, Some, None, Option, All, IsTrue, slice_get, unwrap_or, refl, ap, sym, ◌∙◌, subst, inl, inr, arith, pos}
use Rattle.std.specs.Prelude.{nat_le}
use Rattle.std.proofs.lemmas.Bool.{cases_lt, le-leb, lt-leb, leb-true, leb-false}
use Rattle.std.proofs.lemmas.List.{length-map}
use Rattle.std.proofs.lemmas.Option.{slice_get_within}
use Rattle.rl_sets.specs.Sets.{In}
use Rattle.rl_sets.proofs.SetLaws.{In-map_from}
use Rattle.rl_automata.proofs.Congruence.{some_in}
use Rattle.rl_explore.proofs.NumberLaws.{get_exists, get_In}
use Rattle.rl_fsm.specs.Reads.{ascend}
use Rattle.rl_fsm.proofs.PieceLaws.{All-In, All-from_In}
use Rattle.rl_model.specs.Parts.{Context}
use Rattle.rl_minimal.specs.declared.state.MinState.{MinState}
use Rattle.rl_minimal.specs.declared.state.MinEdge.{MinEdge}
use Rattle.rl_minimal.specs.Minimal.{Minimal, kind_at, home_at}
use Rattle.rl_minimal.specs.Sound.{IsTarget, IsEdge, IsState, IsError, IsEntry, IsMinimal}
use Rattle.rl_refine.specs.Classes.{AreClasses}
use Rattle.rl_min.specs.Numbering.{listed, IsNumbering}
use Rattle.rl_min.specs.Merged.{number_at, number_or, merged_edge, merged_state, state_for, merged_of}
use Rattle.rl_min.proofs.NumberingLaws.{few_listed}
use Rattle.rl_min.proofs.ClassLaws.{within, failed, alone, alive, final_same, first_within, first_alive, keys_count}
use Rattle.rl_min.proofs.MergedLaws.{IsPicked, picked, merged_twin, reads_same}

-- any context: what a machine is does not depend on it
pub no_context : Context
no_context = record {
  width = 1;
  key_of = λ k. record { 0 = pos 0 };
  statement = λ a k. None;
  action_name = λ a. [];
  condition_name = λ k. [];
  entry_name = λ e. [];
}

module _ (m : Minimal) (minimal : IsMinimal m) (classes numbers states : List ℕ) (alike : AreClasses m classes) (n : IsNumbering classes numbers states) where
  abbrev c : ℕ → ℕ
  c i = number_at numbers i

  abbrev L : Minimal
  L = merged_of m numbers states

  count_is : length L.states ≡ length states
  count_is = length-map states (state_for m.states numbers)

  inside : (i : ℕ) → i < length m.states → c i < length L.states
  inside i h = let l : c i < length states = within m minimal classes numbers states alike n i h in let e : length L.states ≡ length states = count_is in omega arith

  kind_same : (i : ℕ) → i < length m.states → kind_at L.states (c i) ≡ kind_at m.states i
  kind_same i h = (merged_twin m minimal classes numbers states alike n no_context).kind i (c i) (refl, h)

  home_same : (i : ℕ) → i < length m.states → home_at L.states (c i) ≡ c (home_at m.states i)
  home_same i h = ((merged_twin m minimal classes numbers states alike n no_context).home i (c i) (refl, h)).0

  zero_is : c 0 ≡ 0
  zero_is = failed m minimal classes numbers states alike n

  live : (i : ℕ) → i < length m.states → 0 < i → 0 < c i
  live i h l = alive m minimal classes numbers states alike n no_context i h l

  target_right : (s : MinState) (target : ℕ) → IsTarget m.states s target → IsTarget L.states (merged_state numbers s) (c target)
  target_right s target t = record {
    there = inside target t.there;
    alive = live target t.there t.alive;
    stays = record {
      plain = λ k. kind_same target t.there ∙ t.stays.plain k;
      inner = λ k. subst (λ w. 2 ≤ w) (sym (kind_same target t.there)) (t.stays.inner k);
      same_home = λ k. home_same target t.there ∙ ap c (t.stays.same_home k);
    };
  }

  edge_right : (s : MinState) (e : MinEdge) → IsEdge m.states s e → IsEdge L.states (merged_state numbers s) (merged_edge numbers e)
  edge_right s e r = record {
    target = target_right s e.target r.target;
    reads = record { truths = r.reads.truths; asks = r.reads.asks; keys = r.reads.keys };
  }

  merged_right : (i p : ℕ) (s : MinState) → i < length m.states → c i ≡ p → slice_get m.states i ≡ Some s → IsState L.states L.first_final p (merged_state numbers s)
  merged_right i p s h is at =
      let st = minimal.states i s at in
      let f = final_same m minimal classes numbers states alike n no_context i h in record {
        kind = record {
          known = st.kind.known;
          start = λ k. subst (λ w. L.first_final ≤ w) is (leb-true L.first_final (c i) (f ∙ le-leb m.first_final i (st.kind.start k)));
          inner = λ k. subst (λ w. w < L.first_final) is (leb-false L.first_final (c i) (f ∙ lt-leb m.first_final i (st.kind.inner k)));
        };
        home = record {
          plain = λ k. ap c (st.home.plain k) ∙ zero_is;
          there = λ k. inside s.home (st.home.there k);
          start = λ k. kind_same s.home (st.home.there k) ∙ st.home.start k;
          own = λ k. home_same s.home (st.home.there k) ∙ ap c (st.home.own k);
        };
        lists = record { eof = st.lists.eof; error = st.lists.error; token = st.lists.token };
        closed = λ k. ap (map (merged_edge numbers)) (st.closed k);
        edges = record {
          each = All-from_In (IsEdge L.states (merged_state numbers s)) (map (merged_edge numbers) s.edges) (λ y j.
              let x = In-map_from (merged_edge numbers) y s.edges j in
              subst (IsEdge L.states (merged_state numbers s)) x.2 (edge_right s x.0 (All-In (IsEdge m.states s) s.edges x.0 st.edges.each x.1)));
          ascending = subst (λ r. IsTrue (ascend r)) (sym (reads_same numbers s.edges)) st.edges.ascending;
        };
      }

  state_right : (p : ℕ) (s : MinState) → slice_get L.states p ≡ Some s → IsState L.states L.first_final p s
  state_right p s at =
      let l : p < length L.states = slice_get_within L.states p s at in
      let e : length L.states ≡ length states = count_is in
      let t = picked m minimal classes numbers states alike n p (omega arith) in
      subst (IsState L.states L.first_final p) (some_in (merged_state numbers t.state) s (sym t.made ∙ at)) (by t)
    where
      by : (t : IsPicked m minimal classes numbers states alike n p) → IsState L.states L.first_final p (merged_state numbers t.state)
      by t = merged_right _ p t.state t.there t.number t.was

  error_right : (s : MinState) → slice_get L.states 0 ≡ Some s → IsError s
  error_right s at =
      let l : 0 < length L.states = slice_get_within L.states 0 s at in
      let e : length L.states ≡ length states = count_is in
      let t = picked m minimal classes numbers states alike n 0 (omega arith) in
      subst IsError (some_in (merged_state numbers t.state) s (sym t.made ∙ at)) (by t)
    where
      by : (t : IsPicked m minimal classes numbers states alike n 0) → IsError (merged_state numbers t.state)
      by t =
          let zero : _ ≡ 0 = alone m minimal classes numbers states alike n _ no_context t.there t.number in
          let r = minimal.error t.state (sym (ap (slice_get m.states) zero) ∙ t.was) in
          record { kind = r.kind; from = r.from; to = r.to; eof = r.eof; error = r.error; edges = ap (map (merged_edge numbers)) r.edges }

  entry_right : (e : ℕ) → IsEntry m.states e → IsEntry L.states (c e)
  entry_right e r = record {
    alive = live e r.there r.alive;
    there = inside e r.there;
    kind = subst (λ w. w ≤ 1) (sym (kind_same e r.there)) r.kind;
  }

  some_entry : (e : ℕ) × IsEntry m.states e
  some_entry = let x = get_exists m.entries 0 (let h : 1 ≤ length m.entries = minimal.counts.entries in omega arith) in (x.0, All-In (IsEntry m.states) m.entries x.0 minimal.entries (get_In m.entries 0 x.0 x.1))

  pub two_states : 2 ≤ length states
  two_states =
      let e = some_entry in
      let low : 0 < c e.0 = live e.0 e.1.there e.1.alive in
      let high : c e.0 < length states = within m minimal classes numbers states alike n e.0 e.1.there in
      omega arith

  pub few_states : length states ≤ length m.states
  few_states =
      let k : length (listed classes) ≡ length states = keys_count m minimal classes numbers states alike n in
      let f : length (listed classes) ≤ length classes = few_listed classes in
      let w : length classes ≡ length m.states = alike.whole in
      omega arith

  pub merged_sound : IsMinimal L
  merged_sound =
      let e : length L.states ≡ length states = count_is in
      let two : 2 ≤ length states = two_states in
      let few : length states ≤ length m.states = few_states in
      let most : length m.states ≤ 2147483647 = minimal.counts.few in
      let starts : length L.entries ≡ length m.entries = length-map m.entries c in
      let some : 1 ≤ length m.entries = minimal.counts.entries in
      let few_starts : length m.entries ≤ 2147483646 = minimal.counts.few_entries in
      let high : L.first_final ≤ length states = first_within m minimal classes numbers states alike n in
      let low : 1 ≤ L.first_final = first_alive m minimal classes numbers states alike n no_context (omega arith) in record {
        counts = record {
          states = omega arith;
          few = omega arith;
          entries = omega arith;
          few_entries = omega arith;
          final = low;
          last_final = omega arith;
        };
        error = error_right;
        states = state_right;
        entries = All-from_In (IsEntry L.states) L.entries (λ y j. let x = In-map_from c y m.entries j in subst (IsEntry L.states) x.2 (entry_right x.0 (All-In (IsEntry m.states) m.entries x.0 minimal.entries x.1)));
      }

-- ---- what the code makes

pub same_made : (m : Minimal) (numbers states : List ℕ) (made : List MinState) (starts : List ℕ) (first : ℕ) → made ≡ map (state_for m.states numbers) states → starts ≡ map (number_at numbers) m.entries
    → first ≡ number_or numbers m.first_final (length states) → record { states = made; entries = starts; first_final = first } ≡ merged_of m numbers states
same_made m numbers states made starts first a b f = λ i. record { states = a i; entries = b i; first_final = f i }

pub made_few : (m : Minimal) (numbers states : List ℕ) (made : List MinState) → made ≡ map (state_for m.states numbers) states → length made ≡ length states
made_few m numbers states made a = ap length a ∙ length-map states (state_for m.states numbers)
