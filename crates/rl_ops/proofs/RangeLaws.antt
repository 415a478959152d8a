-- The ranges of the edges tell what configurations do.
use Rattle.std.proofs.Common.{◌≡◌, ℕ, ℤ, Bool, true, false, cond, ◌&&◌, List, [], ◌∷◌, ◌++◌, Option, Some, None, option_map, map, refl, ap, sym, ◌∙◌, subst, inl, inr, bit_and, bit_or, nat_eq}
use Rattle.std.proofs.lemmas.Nat.{or_comm}
use Rattle.std.specs.Int.Bits.{or_self}
use Rattle.std.specs.List.{flat_map, list_any}
use Rattle.rl_types.specs.declared.numbers.Letter.{Letter}
use Rattle.rl_types.specs.KeyRange.{Range, in_range}
use Rattle.rl_sets.specs.Sets.{In, set_of}
use Rattle.rl_sets.proofs.SetLaws.{In-append_left, In-append_right, In-flat_map, any_true}
use Rattle.rl_labels.specs.Carries.{no_carry}
use Rattle.rl_automata.specs.declared.moves.Move.{Move}
use Rattle.rl_automata.specs.Auto.{only_live, Auto, on_part, first, listed, settle, jams, both_auto, both_jams, cat_auto, cat_jams, star_auto, star_jams, part_moves, steps_of, asked_of, left_final, carrying, restamped, is_start, round_step, member_steps}
use Rattle.rl_fsm.specs.declared.edge.Edge.{Edge}
use Rattle.rl_fsm.specs.declared.state.State.{State}
use Rattle.rl_fsm.specs.Reads.{Reads, takes, own_asks, asks_at}
use Rattle.rl_fsm.specs.Graphs.{Graph, fsm_auto, state_at, reads_of, edge_for, move_of, ranges_of, ranges_at}
use Rattle.rl_fsm.proofs.Bits.{or_or, and_and}
use Rattle.rl_explore.specs.Ranges.{at, ReadsRanges, AsksRanges, AreRanges}
use Rattle.rl_ops.specs.Live.{live_at, only_marked}
use Rattle.rl_ops.specs.Parts.{part_ranges}
use Rattle.rl_ops.specs.Ranges.{pair_ranges, next_ranges, chain_ranges, round_ranges, rounds_ranges}

-- ---- conditions among others

abbrev Inside : ℕ → ℕ → Type 0
Inside a b = bit_or a b ≡ b

inside_left : (a b : ℕ) → Inside a (bit_or a b)
inside_left a b = sym (or_or a a b) ∙ ap (λ w. bit_or w b) (or_self a)

inside_right : (a b : ℕ) → Inside b (bit_or a b)
inside_right a b = ap (bit_or b) (or_comm a b) ∙ inside_left b a ∙ or_comm b a

inside_trans : (a b c : ℕ) → Inside a b → Inside b c → Inside a c
inside_trans a b c e f = ap (bit_or a) (sym f) ∙ sym (or_or a b c) ∙ ap (λ w. bit_or w c) e ∙ f

-- ---- what is told of letters

abbrev Within : List Range → List Range → Type 0
Within rs ss = (r : Range) → In r rs → In r ss

module _ {X : Type 0} where
  -- what is always the same
  reads_const : (rs : List Range) (a : ℤ → ℕ) (n : X) → ReadsRanges rs a n (λ l. n)
  reads_const rs a n = record { alike = λ j k e t. refl; outside = λ k o t. refl; told = λ k t. refl }

  -- more ranges and more conditions tell no less
  reads_wider : (rs ss : List Range) (a b : ℤ → ℕ) (n : X) (f : Letter → X) → Within rs ss → ((k : ℤ) → Inside (a k) (b k)) → ReadsRanges rs a n f → ReadsRanges ss b n f
  reads_wider rs ss a b n f sub ins h = record {
    alike = λ j k e t. h.alike j k (λ r i. e r (sub r i)) t;
    outside = λ k o t. h.outside k (λ r i. o r (sub r i)) t;
    told = λ k t. h.told k t ∙ ap (λ w. f (at k w)) (sym (and_and t (b k) (a k) (ins k))) ∙ sym (h.told k (bit_and t (b k)));
  }

  reads_as : (rs : List Range) (a : ℤ → ℕ) (n m : X) (f : Letter → X) → n ≡ m → ReadsRanges rs a n f → ReadsRanges rs a m f
  reads_as rs a n m f e h = record { alike = h.alike; outside = λ k o t. h.outside k o t ∙ e; told = h.told }

  -- something, or always the same
  reads_if : (b : Bool) (rs : List Range) (a : ℤ → ℕ) (n : X) (f : Letter → X) → ReadsRanges rs a n f → ReadsRanges (cond b rs []) (λ k. cond b (a k) 0) n (λ l. cond b (f l) n)
  reads_if true rs a n f h = h
  reads_if false rs a n f h = reads_const [] (λ k. 0) n

module _ {X Y : Type 0} where
  reads_map : (rs : List Range) (a : ℤ → ℕ) (n : X) (f : Letter → X) (g : X → Y) → ReadsRanges rs a n f → ReadsRanges rs a (g n) (λ l. g (f l))
  reads_map rs a n f g h = record {
    alike = λ j k e t. ap g (h.alike j k e t);
    outside = λ k o t. ap g (h.outside k o t);
    told = λ k t. ap g (h.told k t);
  }

  reads_pair : (rs : List Range) (a : ℤ → ℕ) (n : X) (m : Y) (f : Letter → X) (g : Letter → Y) → ReadsRanges rs a n f → ReadsRanges rs a m g → ReadsRanges {X = X × Y} rs a (n, m) (λ l. (f l, g l))
  reads_pair rs a n m f g h k = record {
    alike = λ i j e t. λ x. (h.alike i j e t x, k.alike i j e t x);
    outside = λ i o t. λ x. (h.outside i o t x, k.outside i o t x);
    told = λ i t. λ x. (h.told i t x, k.told i t x);
  }

-- one list and then another
reads_both : {X : Type 0} (rs : List Range) (a : ℤ → ℕ) (f g : Letter → List X) → ReadsRanges rs a [] f → ReadsRanges rs a [] g → ReadsRanges rs a [] (λ l. f l ++ g l)
reads_both {X} rs a f g h k = reads_map {X = List X × List X} rs a ([], []) (λ l. (f l, g l)) (λ p. p.0 ++ p.1) (reads_pair rs a [] [] f g h k)

reads_flat : {S X : Type 0} (rs : List Range) (a : ℤ → ℕ) (p : Letter → S → List X) (ss : List S) → ((s : S) → In s ss → ReadsRanges rs a [] (λ l. p l s)) → ReadsRanges rs a [] (λ l. flat_map (p l) ss)
reads_flat rs a p [] h = reads_const rs a []
reads_flat rs a p (s ∷ ss) h = reads_both rs a (λ l. p l s) (λ l. flat_map (p l) ss) (h s (inl refl)) (reads_flat rs a p ss (λ t i. h t (inr i)))

-- ---- what is asked

asks_wider : (rs ss : List Range) (a : ℤ → ℕ) → Within rs ss → AsksRanges rs a → AsksRanges ss a
asks_wider rs ss a sub h = record { alike = λ j k e. h.alike j k (λ r i. e r (sub r i)); outside = λ k o. h.outside k (λ r i. o r (sub r i)) }

asks_none : (rs : List Range) → AsksRanges rs (λ k. 0)
asks_none rs = record { alike = λ j k e. refl; outside = λ k o. refl }

asks_both : (rs : List Range) (a b : ℤ → ℕ) → AsksRanges rs a → AsksRanges rs b → AsksRanges rs (λ k. bit_or (a k) (b k))
asks_both rs a b h g = record { alike = λ j k e. λ i. bit_or (h.alike j k e i) (g.alike j k e i); outside = λ k o. λ i. bit_or (h.outside k o i) (g.outside k o i) }

asks_if : (b : Bool) (rs : List Range) (a : ℤ → ℕ) → AsksRanges rs a → AsksRanges (cond b rs []) (λ k. cond b (a k) 0)
asks_if true rs a h = h
asks_if false rs a h = asks_none []

-- ---- edges

takes_reads : (r : Reads) → ReadsRanges (r.range ∷ []) (λ k. own_asks k r) false (λ l. takes l r)
takes_reads r = record {
  alike = λ j k e t. ap (λ b. b && nat_eq (bit_and t r.asks) r.truths) (e r.range (inl refl));
  outside = λ k o t. ap (λ b. b && nat_eq (bit_and t r.asks) r.truths) (o r.range (inl refl));
  told = λ k t. told k t (in_range k r.range) refl;
}
  where
    told : (k : ℤ) (t : ℕ) (b : Bool) → in_range k r.range ≡ b → takes (at k t) r ≡ takes (at k (bit_and t (own_asks k r))) r
    told k t true e = ap (λ w. in_range k r.range && nat_eq w r.truths) (sym (and_and t r.asks r.asks (or_self r.asks))) ∙ ap (λ w. in_range k r.range && nat_eq (bit_and (bit_and t (cond w r.asks 0)) r.asks) r.truths) (sym e)
    told k t false e = ap (λ w. w && nat_eq (bit_and t r.asks) r.truths) e ∙ ap (λ w. w && nat_eq (bit_and (bit_and t (own_asks k r)) r.asks) r.truths) (sym e)

edges_read : (es : List Edge) → ReadsRanges (ranges_of es) (λ k. asks_at k (map reads_of es)) None (λ l. edge_for l es)
edges_read [] = reads_const [] (λ k. 0) None
edges_read (e ∷ es) =
    let rs = e.range ∷ ranges_of es in
    let a : ℤ → ℕ = λ k. bit_or (own_asks k (reads_of e)) (asks_at k (map reads_of es)) in
    let one : Within (e.range ∷ []) rs = λ r i. elim i [ inl q ↦ inl q | inr z ↦ absurd z ] in
    reads_map {X = Bool × Option Edge} rs a (false, None) (λ l. (takes l (reads_of e), edge_for l es)) (λ p. cond p.0 (Some e) p.1)
    (reads_pair rs a false None (λ l. takes l (reads_of e)) (λ l. edge_for l es)
    (reads_wider (e.range ∷ []) rs (λ k. own_asks k (reads_of e)) a false (λ l. takes l (reads_of e)) one (λ k. inside_left (own_asks k (reads_of e)) (asks_at k (map reads_of es))) (takes_reads (reads_of e)))
    (reads_wider (ranges_of es) rs (λ k. asks_at k (map reads_of es)) a None (λ l. edge_for l es) (λ r i. inr i) (λ k. inside_right (own_asks k (reads_of e)) (asks_at k (map reads_of es))) (edges_read es)))

edges_ask : (es : List Edge) → AsksRanges (ranges_of es) (λ k. asks_at k (map reads_of es))
edges_ask [] = asks_none []
edges_ask (e ∷ es) =
    let rs = e.range ∷ ranges_of es in
    asks_both rs (λ k. own_asks k (reads_of e)) (λ k. asks_at k (map reads_of es))
    (record { alike = λ j k q. ap (λ b. cond b e.asks.0 0) (q e.range (inl refl)); outside = λ k o. ap (λ b. cond b e.asks.0 0) (o e.range (inl refl)) })
    (asks_wider (ranges_of es) rs (λ k. asks_at k (map reads_of es)) (λ r i. inr i) (edges_ask es))

-- ---- states

pub state_reads : (m : Graph) (i : ℕ) → ReadsRanges (ranges_at m i) ((fsm_auto m).asked i) None ((fsm_auto m).step i)
state_reads m i = by (state_at m i)
  where
    by : (o : Option State) → ReadsRanges (on_part [] (λ (s : State). ranges_of s.edges) o) (λ k. on_part 0 (λ (s : State). asks_at k (map reads_of s.edges)) o) None (λ l. on_part None (λ (s : State). option_map move_of (edge_for l s.edges)) o)
    by None = reads_const [] (λ k. 0) None
    by (Some s) = reads_map (ranges_of s.edges) (λ k. asks_at k (map reads_of s.edges)) None (λ l. edge_for l s.edges) (option_map move_of) (edges_read s.edges)

pub state_asks : (m : Graph) (i : ℕ) → AsksRanges (ranges_at m i) ((fsm_auto m).asked i)
state_asks m i = by (state_at m i)
  where
    by : (o : Option State) → AsksRanges (on_part [] (λ (s : State). ranges_of s.edges) o) (λ k. on_part 0 (λ (s : State). asks_at k (map reads_of s.edges)) o)
    by None = asks_none []
    by (Some s) = edges_ask s.edges

steps_read : (m : Graph) (i : ℕ) → ReadsRanges (ranges_at m i) ((fsm_auto m).asked i) [] (λ l. listed ((fsm_auto m).step i l))
steps_read m i = reads_map (ranges_at m i) ((fsm_auto m).asked i) None ((fsm_auto m).step i) listed (state_reads m i)

-- ---- parts

abbrev part_asks : Graph → Option ℕ → ℤ → ℕ
part_asks m part k = on_part 0 (λ s. (fsm_auto m).asked s k) part

part_reads : (m : Graph) (part : Option ℕ) → ReadsRanges (part_ranges m part) (part_asks m part) [] (λ l. part_moves (fsm_auto m) l part)
part_reads m None = reads_const [] (λ k. 0) []
part_reads m (Some i) = steps_read m i

parts_ask : (m : Graph) (part : Option ℕ) → AsksRanges (part_ranges m part) (part_asks m part)
parts_ask m None = asks_none []
parts_ask m (Some i) = state_asks m i

-- ---- candidates on two sides

candidates : (rs : List Range) (a : ℤ → ℕ) {C : Type 0} (make : List ℕ → List ℕ → C) (ls ms : Letter → List (Move ℕ)) → ReadsRanges rs a [] ls → ReadsRanges rs a [] ms
    → ReadsRanges rs a None (λ l. settle make (ls l) (ms l)) × ReadsRanges rs a false (λ l. jams (ls l) (ms l))
candidates rs a make ls ms h k =
    let both = reads_pair rs a [] [] ls ms h k in (
      reads_map {X = List (Move ℕ) × List (Move ℕ)} rs a ([], []) (λ l. (ls l, ms l)) (λ p. settle make p.0 p.1) both,
      reads_map {X = List (Move ℕ) × List (Move ℕ)} rs a ([], []) (λ l. (ls l, ms l)) (λ p. jams p.0 p.1) both,
    )

-- ---- two machines side by side

pub pair_are : (a b : Graph) (test : Bool → Bool → Bool) (c : Option ℕ × Option ℕ) → AreRanges (both_auto (fsm_auto a) (fsm_auto b) test) (both_jams (fsm_auto a) (fsm_auto b)) c (pair_ranges a b c)
pair_are a b test c =
    let rs = pair_ranges a b c in
    let v = part_ranges a c.0 in
    let w = part_ranges b c.1 in
    let q : ℤ → ℕ = λ k. bit_or (part_asks a c.0 k) (part_asks b c.1 k) in
    let in_v : Within v rs = λ r i. In-append_left r v w i in
    let in_w : Within w rs = λ r i. In-append_right r v w i in
    let p = candidates rs q (λ ss ts. (first ss, first ts)) (λ l. part_moves (fsm_auto a) l c.0) (λ l. part_moves (fsm_auto b) l c.1)
    (reads_wider v rs (part_asks a c.0) q [] (λ l. part_moves (fsm_auto a) l c.0) in_v (λ k. inside_left (part_asks a c.0 k) (part_asks b c.1 k)) (part_reads a c.0))
    (reads_wider w rs (part_asks b c.1) q [] (λ l. part_moves (fsm_auto b) l c.1) in_w (λ k. inside_right (part_asks a c.0 k) (part_asks b c.1 k)) (part_reads b c.1)) in
    record {
      steps = p.0;
      cycles = p.1;
      asks = asks_both rs (part_asks a c.0) (part_asks b c.1) (asks_wider v rs (part_asks a c.0) in_v (parts_ask a c.0)) (asks_wider w rs (part_asks b c.1) in_w (parts_ask b c.1));
    }

-- ---- several states

asked_in : (m : Graph) (k : ℤ) (s : ℕ) (ss : List ℕ) → In s ss → Inside ((fsm_auto m).asked s k) (asked_of (fsm_auto m) k ss)
asked_in m k s [] i = absurd i
asked_in m k s (t ∷ ss) (inl e) = subst (λ w. Inside ((fsm_auto m).asked w k) (bit_or ((fsm_auto m).asked t k) (asked_of (fsm_auto m) k ss))) e (inside_left ((fsm_auto m).asked t k) (asked_of (fsm_auto m) k ss))
asked_in m k s (t ∷ ss) (inr i) = inside_trans _ _ _ (asked_in m k s ss i) (inside_right ((fsm_auto m).asked t k) (asked_of (fsm_auto m) k ss))

state_within : (m : Graph) (s : ℕ) (ss : List ℕ) → In s ss → Within (ranges_at m s) (flat_map (ranges_at m) ss)
state_within m s ss i r j = In-flat_map (ranges_at m) r s ss i j

all_ask : (m : Graph) (ss : List ℕ) → AsksRanges (flat_map (ranges_at m) ss) (λ k. asked_of (fsm_auto m) k ss)
all_ask m [] = asks_none []
all_ask m (s ∷ ss) =
    let rs = flat_map (ranges_at m) (s ∷ ss) in
    asks_both rs ((fsm_auto m).asked s) (λ k. asked_of (fsm_auto m) k ss)
    (asks_wider (ranges_at m s) rs ((fsm_auto m).asked s) (λ r i. In-append_left r (ranges_at m s) (flat_map (ranges_at m) ss) i) (state_asks m s))
    (asks_wider (flat_map (ranges_at m) ss) rs (λ k. asked_of (fsm_auto m) k ss) (λ r i. In-append_right r (ranges_at m s) (flat_map (ranges_at m) ss) i) (all_ask m ss))

-- ---- one machine and then another

module _ (a b : Graph) (c : Option ℕ × List ℕ) where
  abbrev A : Auto ℕ
  A = fsm_auto a

  abbrev B : Auto ℕ
  B = fsm_auto b

  abbrev ends : Bool
  ends = left_final A B (c.0, [])

  abbrev next_asks : ℤ → ℕ
  next_asks k = cond ends (B.asked B.start k) 0

  abbrev right_asks : ℤ → ℕ
  right_asks k = bit_or (asked_of B k c.1) (next_asks k)

  abbrev chain_asks : ℤ → ℕ
  chain_asks k = bit_or (part_asks a c.0 k) (right_asks k)

  abbrev V : List Range
  V = part_ranges a c.0

  abbrev W : List Range
  W = flat_map (ranges_at b) c.1

  abbrev U : List Range
  U = next_ranges a b c.0

  abbrev R : List Range
  R = chain_ranges a b c

  v_in : Within V R
  v_in r i = In-append_left r V (W ++ U) i

  w_in : Within W R
  w_in r i = In-append_right r V (W ++ U) (In-append_left r W U i)

  u_in : Within U R
  u_in r i = In-append_right r V (W ++ U) (In-append_right r W U i)

  left_asks_in : (k : ℤ) → Inside (part_asks a c.0 k) (chain_asks k)
  left_asks_in k = inside_left (part_asks a c.0 k) (right_asks k)

  right_asks_in : (k : ℤ) → Inside (asked_of B k c.1) (chain_asks k)
  right_asks_in k = inside_trans _ _ _ (inside_left (asked_of B k c.1) (next_asks k)) (inside_right (part_asks a c.0 k) (right_asks k))

  next_asks_in : (k : ℤ) → Inside (next_asks k) (chain_asks k)
  next_asks_in k = inside_trans _ _ _ (inside_right (asked_of B k c.1) (next_asks k)) (inside_right (part_asks a c.0 k) (right_asks k))

  abbrev first_moves : Letter → List (Move ℕ)
  first_moves l = map (carrying (on_part no_carry A.out c.0)) (listed (B.step B.start l))

  rights_read : ReadsRanges R chain_asks [] (λ l. steps_of B l c.1)
  rights_read = reads_flat R chain_asks (λ l s. listed (B.step s l)) c.1 (λ s i.
      reads_wider (ranges_at b s) R (B.asked s) chain_asks [] (λ l. listed (B.step s l)) (λ r j. w_in r (state_within b s c.1 i r j)) (λ k. inside_trans _ _ _ (asked_in b k s c.1 i) (right_asks_in k)) (steps_read b s))

  next_read : ReadsRanges R chain_asks [] (λ l. cond ends (first_moves l) [])
  next_read = reads_wider U R next_asks chain_asks [] (λ l. cond ends (first_moves l) []) u_in next_asks_in
      (reads_if ends (ranges_at b b.start) (B.asked b.start) [] first_moves
      (reads_map (ranges_at b b.start) (B.asked b.start) [] (λ l. listed (B.step b.start l)) (map (carrying (on_part no_carry A.out c.0))) (steps_read b b.start)))

  pub chain_are : AreRanges (cat_auto A B) (cat_jams A B) c R
  chain_are =
      let p = candidates R chain_asks (λ ss ts. (first ss, set_of B.order ts)) (λ l. part_moves A l c.0) (λ l. steps_of B l c.1 ++ cond ends (first_moves l) [])
      (reads_wider V R (part_asks a c.0) chain_asks [] (λ l. part_moves A l c.0) v_in left_asks_in (part_reads a c.0))
      (reads_both R chain_asks (λ l. steps_of B l c.1) (λ l. cond ends (first_moves l) []) rights_read next_read) in
      record {
        steps = p.0;
        cycles = p.1;
        asks = asks_both R (part_asks a c.0) right_asks (asks_wider V R (part_asks a c.0) v_in (parts_ask a c.0))
            (asks_both R (λ k. asked_of B k c.1) next_asks (asks_wider W R (λ k. asked_of B k c.1) w_in (all_ask b c.1))
            (asks_wider U R next_asks u_in (asks_if ends (ranges_at b b.start) (B.asked b.start) (state_asks b b.start))));
      }

-- ---- rounds of one machine

module _ (a : Graph) (base : ℕ) (c : List ℕ) where
  abbrev M : Auto ℕ
  M = fsm_auto a

  abbrev again : Bool
  again = list_any M.final c

  abbrev again_asks : ℤ → ℕ
  again_asks k = cond again (M.asked M.start k) 0

  abbrev rounds_asks : ℤ → ℕ
  rounds_asks k = bit_or (asked_of M k c) (again_asks k)

  abbrev X : List Range
  X = flat_map (ranges_at a) c

  abbrev Y : List Range
  Y = round_ranges a c

  abbrev Z : List Range
  Z = rounds_ranges a c

  x_in : Within X Z
  x_in r i = In-append_left r X Y i

  y_in : Within Y Z
  y_in r i = In-append_right r X Y i

  -- the step of a state; that of the start is restamped
  round_read : (s : ℕ) → ReadsRanges (ranges_at a s) (M.asked s) [] (λ l. round_step M base s l)
  round_read s = reads_as (ranges_at a s) (M.asked s) (cond (is_start M s) (map (restamped base) []) []) [] (λ l. round_step M base s l) (none (is_start M s))
      (reads_map (ranges_at a s) (M.asked s) [] (λ l. listed (M.step s l)) (λ ms. cond (is_start M s) (map (restamped base) ms) ms) (steps_read a s))
    where
      none : (b : Bool) → ◌≡◌ {A = List (Move ℕ)} (cond b [] []) []
      none true = refl
      none false = refl

  member_read : (s : ℕ) → In s c → ReadsRanges Z rounds_asks [] (λ l. member_steps M base l s)
  member_read s i = reads_both Z rounds_asks (λ l. round_step M base s l) (λ l. cond (M.final s) (map (carrying (M.out s)) (round_step M base M.start l)) [])
      (reads_wider (ranges_at a s) Z (M.asked s) rounds_asks [] (λ l. round_step M base s l) (λ r j. x_in r (state_within a s c i r j)) (λ k. inside_trans _ _ _ (asked_in a k s c i) (inside_left (asked_of M k c) (again_asks k))) (round_read s))
      (by (M.final s) refl)
    where
      by : (b : Bool) → M.final s ≡ b → ReadsRanges Z rounds_asks [] (λ l. cond b (map (carrying (M.out s)) (round_step M base M.start l)) [])
      by false e = reads_const Z rounds_asks []
      by true e =
          let some : again ≡ true = any_true M.final s c i e in
          reads_wider (ranges_at a a.start) Z (M.asked a.start) rounds_asks [] (λ l. map (carrying (M.out s)) (round_step M base M.start l))
          (λ r j. y_in r (subst (λ b. In r (cond b (ranges_at a a.start) [])) (sym some) j))
          (λ k. inside_trans _ _ _ (subst (λ b. Inside (M.asked a.start k) (cond b (M.asked a.start k) 0)) (sym some) (or_self (M.asked a.start k))) (inside_right (asked_of M k c) (again_asks k)))
          (reads_map (ranges_at a a.start) (M.asked a.start) [] (λ l. round_step M base M.start l) (map (carrying (M.out s))) (round_read a.start))

  pub rounds_are : AreRanges (star_auto M base) (star_jams M base) c Z
  rounds_are =
      let p = candidates Z rounds_asks (λ ss ts. set_of M.order ts) (λ l. []) (λ l. flat_map (member_steps M base l) c)
      (reads_const Z rounds_asks []) (reads_flat Z rounds_asks (λ l s. member_steps M base l s) c member_read) in
      record {
        steps = p.0;
        cycles = p.1;
        asks = asks_both Z (λ k. asked_of M k c) again_asks (asks_wider X Z (λ k. asked_of M k c) x_in (all_ask a c))
            (asks_wider Y Z again_asks y_in (asks_if again (ranges_at a a.start) (M.asked a.start) (state_asks a a.start)));
      }

-- ---- a machine without some steps

pub pruned_are : (m : Graph) (live : List Bool) (i : ℕ) → AreRanges (only_marked m live) (λ c l. false) i (ranges_at m i)
pruned_are m live i = record {
  steps = reads_map (ranges_at m i) ((fsm_auto m).asked i) None ((fsm_auto m).step i) (only_live (live_at live)) (state_reads m i);
  cycles = reads_const (ranges_at m i) ((fsm_auto m).asked i) false;
  asks = state_asks m i;
}
