-- Each operator keeps `Follows`: what holds of machines by numbers holds of the automata that they stand for.
use Rattle.std.proofs.Common.{◌≡◌, ℕ, ℤ, Bool, true, false, cond, ◌&&◌, ◌||◌, List, [], ◌∷◌, ◌++◌, ◌⊎◌, map, refl, sym, ◌∙◌, ap, subst, inl, inr, Option, Some, None, option_map, true≢false, unwrap_or, is_some, bit_or, max, arith}
use Rattle.std.specs.List.{list_any, flat_map}
use Rattle.rl_types.specs.declared.numbers.Letter.{Letter}
use Rattle.rl_sets.specs.Sets.{In, set_of, Ascends}
use Rattle.rl_sets.specs.Order.{IsOrder}
use Rattle.rl_labels.specs.declared.carry.Carry.{Carry}
use Rattle.rl_labels.specs.Labels.{stamps_of}
use Rattle.rl_labels.specs.Carries.{no_carry, both_of}
use Rattle.rl_automata.specs.declared.moves.Move.{Move}
use Rattle.rl_automata.specs.Auto.{Auto, carries, targets, kept, settle, step_to, on_part, first, listed, steps_of, carrying, both_auto, cat_auto, left_final, next, ends_at_once, chain_final, asked_of}
use Rattle.rl_automata.specs.Follows.{Reach, begun, went, renamed, Follows}
use Rattle.rl_sets.proofs.SetLaws.{Same, In-map, In-map_from, In-filter_from, In-append_cases, In-flat_map, In-flat_map_from, In-set_of_from, same_refl, same_sym, same_trans, same_append, same_map, same_set_of, Ascends-set_of, ascending_same, set_of-same, any-same}
use Rattle.std.specs.Int.Bits.{or_self}
use Rattle.std.proofs.lemmas.Nat.{or_comm}
use Rattle.std.proofs.lemmas.Nat.Bits.{same_from_bits, bit_at_or}
use Rattle.std.specs.Int.{bit_at}
use Rattle.rl_labels.proofs.LabelOrders.{stamp_order}
use Rattle.rl_automata.proofs.Settle.{settle-same, settle-renamed, all_of-same}

abbrev pub AllIn : {K : Type 0} → (K → Type 0) → List K → Type 0
AllIn P xs = (x : _) → In x xs → P x

-- ---- reachable states

pub reach_all : {S : Type 0} {A : Auto S} (P : S → Type 0) → P A.start → ((s : S) → Reach A s → P s → (l : Letter) (m : Move S) → A.step s l ≡ Some m → P m.to) → (s : S) → Reach A s → P s
reach_all P b w s begun = b
reach_all P b w s (went r l m e) = w _ r (reach_all P b w _ r) l m e

pub some_in : {X : Type 0} (x y : X) → Some x ≡ Some y → x ≡ y
some_in x y e = ap (λ o. unwrap_or o x) e

pub none_in : {X P : Type 0} (y : X) → None ≡ Some y → P
none_in y e = absurd (true≢false (sym (ap is_some e)))

pub steps_reach : {S : Type 0} {A : Auto S} (s : S) (l : Letter) → Reach A s → AllIn (λ m. Reach A m.to) (listed (A.step s l))
steps_reach {A = A} s l r m h =
    (elim (A.step s l) as (λ o. A.step s l ≡ o → In m (listed o) → Reach A m.to) [
      | None ↦ λ e i. absurd i
      | Some n ↦ λ e i. elim i [ inl p ↦ subst (λ w. Reach A w.to) p (went r l n e) | inr j ↦ absurd j ]
    ]) refl h

pub reach_along : {S T : Type 0} {A : Auto S} {B : Auto T} {f : S → T} → Follows A B f → (s : S) → Reach A s → Reach B (f s)
reach_along {A = A} {B = B} {f = f} F = reach_all (λ s. Reach B (f s)) (subst (Reach B) (sym F.start) begun)
    (λ s r h l m e. went h l (renamed f m) (sym (F.step s r l) ∙ ap (option_map (renamed f)) e))

option_map-twice : {S T U : Type 0} (f : S → T) (g : T → U) (o : Option (Move S)) → option_map (renamed g) (option_map (renamed f) o) ≡ option_map (renamed (λ s. g (f s))) o
option_map-twice f g None = refl
option_map-twice f g (Some m) = refl

pub follows_on : {S T U : Type 0} {A : Auto S} {B : Auto T} {C : Auto U} (f : S → T) (g : T → U) → Follows A B f → Follows B C g → Follows A C (λ s. g (f s))
follows_on {A = A} {B = B} {C = C} f g F G = record {
  start = ap g F.start ∙ G.start;
  step = λ s r l. sym (option_map-twice f g (A.step s l)) ∙ ap (option_map (renamed g)) (F.step s r l) ∙ G.step (f s) (reach_along F s r) l;
  final = λ s r. F.final s r ∙ G.final (f s) (reach_along F s r);
  out = λ s r. F.out s r ∙ G.out (f s) (reach_along F s r);
  marks = λ s r k. F.marks s r k ∙ G.marks (f s) (reach_along F s r) k;
  asked = λ s r k. F.asked s r k ∙ G.asked (f s) (reach_along F s r) k;
  apart = λ s t r q e. F.apart s t r q (G.apart (f s) (f t) (reach_along F s r) (reach_along F t q) e);
}

-- each configuration that is reached is the name of one that is reached
pub named_reach : {S T : Type 0} {A : Auto S} {B : Auto T} {f : S → T} → Follows A B f → (c : T) → Reach B c → (s : S) × Reach A s × (f s ≡ c)
named_reach {S = S} {T = T} {A = A} {B = B} {f = f} F = reach_all (λ c. (s : S) × Reach A s × (f s ≡ c)) (A.start, begun, F.start)
    (λ c r (s, q, e) l m p. step_named l m s q (ap (λ z. B.step z l) e ∙ p))
  where
    step_named : (l : Letter) (m : Move T) (s : S) → Reach A s → B.step (f s) l ≡ Some m → (t : S) × Reach A t × (f t ≡ m.to)
    step_named l m s r e = go (A.step s l) refl (F.step s r l ∙ e)
      where
        go : (q : Option (Move S)) → A.step s l ≡ q → option_map (renamed f) q ≡ Some m → (t : S) × Reach A t × (f t ≡ m.to)
        go None p g = none_in m g
        go (Some k) p g = (k.to, went r l k p, ap (λ x. x.to) (some_in (renamed f k) m g))

-- ---- parts that may be absent

abbrev pub PartReach : {S : Type 0} → Auto S → Option S → Type 0
PartReach A None = Unit {0}
PartReach A (Some s) = Reach A s

pub part_steps_reach : {S : Type 0} {A : Auto S} (o : Option S) (l : Letter) → PartReach A o → AllIn (λ m. Reach A m.to) (on_part [] (λ s. listed (A.step s l)) o)
part_steps_reach None l r m i = absurd i
part_steps_reach (Some s) l r m i = steps_reach s l r m i

pub first_reach : {S : Type 0} {A : Auto S} (ss : List S) → AllIn (Reach A) ss → PartReach A (first ss)
first_reach [] a = tt
first_reach (s ∷ ss) a = a s (inl refl)

pub kept_all : {S : Type 0} (P : Move S → Type 0) (cs : List Carry) (ms : List (Move S)) → AllIn P ms → AllIn P (kept cs ms)
kept_all P cs ms a m h = a m (In-filter_from _ m ms h).0

pub targets_all : {S : Type 0} (P : S → Type 0) (ms : List (Move S)) → AllIn (λ m. P m.to) ms → AllIn P (targets ms)
targets_all P ms a s h = let r = In-map_from (λ m. m.to) s ms h in subst P r.2 (a r.0 r.1)

pub step_to_to : {C : Type 0} (c : C) (cs : List Carry) (m : Move C) → step_to c cs ≡ Some m → c ≡ m.to
step_to_to c [] m e = none_in m e
step_to_to c (x ∷ cs) m e = ap (λ n. n.to) (some_in _ m e)

-- what holds of each choice of kept targets holds of where a settled step leads
pub settle_to : {S T C : Type 0} (P : S → Type 0) (Q : T → Type 0) (R : C → Type 0) (make : List S → List T → C) (ls : List (Move S)) (rs : List (Move T)) (m : Move C)
    → ((ss : List S) (ts : List T) → AllIn P ss → AllIn Q ts → R (make ss ts)) → AllIn (λ n. P n.to) ls → AllIn (λ n. Q n.to) rs → settle make ls rs ≡ Some m → R m.to
settle_to P Q R make ls rs m h a b e =
    let all = carries ls ++ carries rs in
    subst R (step_to_to _ (carries (kept all ls) ++ carries (kept all rs)) m e)
    (h _ _ (targets_all P (kept all ls) (kept_all _ all ls a)) (targets_all Q (kept all rs) (kept_all _ all rs b)))

module _ {S T : Type 0} {A : Auto S} {B : Auto T} {f : S → T} (F : Follows A B f) where
  pub listed_step : (s : S) (l : Letter) → Reach A s → map (renamed f) (listed (A.step s l)) ≡ listed (B.step (f s) l)
  listed_step s l r = go (A.step s l) ∙ ap listed (F.step s r l)
    where
      go : (o : Option (Move S)) → map (renamed f) (listed o) ≡ listed (option_map (renamed f) o)
      go None = refl
      go (Some m) = refl

  pub part_steps : (o : Option S) (l : Letter) → PartReach A o → map (renamed f) (on_part [] (λ s. listed (A.step s l)) o) ≡ on_part [] (λ t. listed (B.step t l)) (option_map f o)
  part_steps None l r = refl
  part_steps (Some s) l r = listed_step s l r

  pub part_told : {X : Type 0} (d : X) (p : S → X) (q : T → X) → ((s : S) → Reach A s → p s ≡ q (f s)) → (o : Option S) → PartReach A o → on_part d p o ≡ on_part d q (option_map f o)
  part_told d p q e None r = refl
  part_told d p q e (Some s) r = e s r

  part_apart : (o p : Option S) → PartReach A o → PartReach A p → option_map f o ≡ option_map f p → o ≡ p
  part_apart None None r q e = refl
  part_apart None (Some t) r q e = none_in (f t) e
  part_apart (Some s) None r q e = none_in (f s) (sym e)
  part_apart (Some s) (Some t) r q e = ap Some (F.apart s t r q (some_in (f s) (f t) e))

  first-map : (ss : List S) → option_map f (first ss) ≡ first (map f ss)
  first-map [] = refl
  first-map (s ∷ ss) = refl

  start_option : option_map f (Some A.start) ≡ Some B.start
  start_option = ap Some F.start

-- ---- two operands side by side

module _ {S T S' T' : Type 0} {A : Auto S} {B : Auto T} {A' : Auto S'} {B' : Auto T'} {f : S → S'} {g : T → T'} (F : Follows A A' f) (G : Follows B B' g) where
  abbrev pub pair_name : Option S × Option T → Option S' × Option T'
  pair_name c = (option_map f c.0, option_map g c.1)

  abbrev pub BothReach : Option S × Option T → Type 0
  BothReach c = PartReach A c.0 × PartReach B c.1

  pub both_reach : (test : Bool → Bool → Bool) (c : Option S × Option T) → Reach (both_auto A B test) c → BothReach c
  both_reach test = reach_all BothReach (begun, begun)
      (λ c r h l m e. settle_to (Reach A) (Reach B) BothReach (λ ss ts. (first ss, first ts)) _ _ m
      (λ ss ts a b. (first_reach ss a, first_reach ts b))
      (part_steps_reach c.0 l h.0) (part_steps_reach c.1 l h.1) e)

  pub both_follows : (test : Bool → Bool → Bool) → Follows (both_auto A B test) (both_auto A' B' test) pair_name
  both_follows test = record {
    start = λ i. (start_option F i, start_option G i);
    step = λ c r l. let h = both_reach test c r in
        settle-renamed f g pair_name (λ ss ts. (first ss, first ts)) (λ ss ts. (first ss, first ts)) (λ ss ts. λ i. (first-map F ss i, first-map G ts i))
        (on_part [] (λ s. listed (A.step s l)) c.0) (on_part [] (λ t. listed (B.step t l)) c.1)
        ∙ (λ i. settle (λ ss ts. (first ss, first ts)) (part_steps F c.0 l h.0 i) (part_steps G c.1 l h.1 i));
    final = λ c r. let h = both_reach test c r in
        λ i. test (part_told F false A.final A'.final F.final c.0 h.0 i) (part_told G false B.final B'.final G.final c.1 h.1 i);
    out = λ c r. let h = both_reach test c r in
        λ i. cond (test (part_told F false A.final A'.final F.final c.0 h.0 i) (part_told G false B.final B'.final G.final c.1 h.1 i))
        (both_of (part_told F no_carry A.out A'.out F.out c.0 h.0 i) (part_told G no_carry B.out B'.out G.out c.1 h.1 i)) no_carry;
    marks = λ c r k. let h = both_reach test c r in
        λ i. stamps_of (part_told F [] (λ s. A.marks s k) (λ s. A'.marks s k) (λ s q. F.marks s q k) c.0 h.0 i ++ part_told G [] (λ t. B.marks t k) (λ t. B'.marks t k) (λ t q. G.marks t q k) c.1 h.1 i);
    asked = λ c r k. let h = both_reach test c r in
        λ i. bit_or (part_told F 0 (λ s. A.asked s k) (λ s. A'.asked s k) (λ s q. F.asked s q k) c.0 h.0 i) (part_told G 0 (λ t. B.asked t k) (λ t. B'.asked t k) (λ t q. G.asked t q k) c.1 h.1 i);
    apart = λ c d r q e. let h = both_reach test c r in let k = both_reach test d q in
        λ i. (part_apart F c.0 d.0 h.0 k.0 (ap (λ w. w.0) e) i, part_apart G c.1 d.1 h.1 k.1 (ap (λ w. w.1) e) i);
  }

-- ---- the conditions that several ask

max_max : (a b c : ℕ) → max (max a b) c ≡ max a (max b c)
max_max a b c = omega arith

or_or : (a b c : ℕ) → bit_or (bit_or a b) c ≡ bit_or a (bit_or b c)
or_or a b c = same_from_bits _ _ (λ i. bit_at_or (bit_or a b) c i ∙ ap (λ w. max w (bit_at c i)) (bit_at_or a b i) ∙ max_max _ _ _
    ∙ sym (bit_at_or a (bit_or b c) i ∙ ap (max (bit_at a i)) (bit_at_or b c i)))

module _ {S : Type 0} (A : Auto S) (k : ℤ) where
  asked_by : (s : S) (ss : List S) → In s ss → bit_or (A.asked s k) (asked_of A k ss) ≡ asked_of A k ss
  asked_by s [] h = absurd h
  asked_by s (z ∷ ss) (inl e) =
      sym (or_or (A.asked s k) (A.asked z k) (asked_of A k ss)) ∙ ap (λ w. bit_or w (asked_of A k ss)) (ap (λ w. bit_or (A.asked w k) (A.asked z k)) (sym e) ∙ or_self (A.asked z k))
  asked_by s (z ∷ ss) (inr h) =
      sym (or_or (A.asked s k) (A.asked z k) (asked_of A k ss)) ∙ ap (λ w. bit_or w (asked_of A k ss)) (or_comm (A.asked s k) (A.asked z k))
      ∙ or_or (A.asked z k) (A.asked s k) (asked_of A k ss) ∙ ap (bit_or (A.asked z k)) (asked_by s ss h)

  asked_within : (ss ts : List S) → ((s : S) → In s ss → In s ts) → bit_or (asked_of A k ss) (asked_of A k ts) ≡ asked_of A k ts
  asked_within [] ts h = or_comm 0 (asked_of A k ts) ∙ or-zero (asked_of A k ts)
    where
      or-zero : (a : ℕ) → bit_or a 0 ≡ a
      or-zero a = or_comm a 0
  asked_within (s ∷ ss) ts h =
      or_or (A.asked s k) (asked_of A k ss) (asked_of A k ts) ∙ ap (bit_or (A.asked s k)) (asked_within ss ts (λ z i. h z (inr i))) ∙ asked_by s ts (h s (inl refl))

  pub asked_of-same : (ss ts : List S) → Same ss ts → asked_of A k ss ≡ asked_of A k ts
  asked_of-same ss ts e = sym (asked_within ts ss e.back) ∙ or_comm (asked_of A k ts) (asked_of A k ss) ∙ asked_within ss ts e.to

-- ---- lists of states

module _ {S T : Type 0} {A : Auto S} {B : Auto T} {f : S → T} (F : Follows A B f) where
  pub steps_renamed : (l : Letter) (ss : List S) → AllIn (Reach A) ss → map (renamed f) (steps_of A l ss) ≡ steps_of B l (map f ss)
  steps_renamed l [] a = refl
  steps_renamed l (s ∷ ss) a =
      map-append (renamed f) (listed (A.step s l)) (steps_of A l ss) ∙ (λ i. listed_step F s l (a s (inl refl)) i ++ steps_renamed l ss (λ x h. a x (inr h)) i)
    where
      map-append : {X Y : Type 0} (h : X → Y) (xs ys : List X) → map h (xs ++ ys) ≡ map h xs ++ map h ys
      map-append h [] ys = refl
      map-append h (x ∷ xs) ys = λ i. h x ∷ map-append h xs ys i

  pub any_renamed : (p : S → Bool) (q : T → Bool) → ((s : S) → Reach A s → p s ≡ q (f s)) → (ss : List S) → AllIn (Reach A) ss → list_any p ss ≡ list_any q (map f ss)
  any_renamed p q e [] a = refl
  any_renamed p q e (s ∷ ss) a = λ i. e s (a s (inl refl)) i || any_renamed p q e ss (λ x h. a x (inr h)) i

  pub map_renamed : {X : Type 0} (p : S → X) (q : T → X) → ((s : S) → Reach A s → p s ≡ q (f s)) → (ss : List S) → AllIn (Reach A) ss → map p ss ≡ map q (map f ss)
  map_renamed p q e [] a = refl
  map_renamed p q e (s ∷ ss) a = λ i. e s (a s (inl refl)) i ∷ map_renamed p q e ss (λ x h. a x (inr h)) i

  pub flat_renamed : {X : Type 0} (p : S → List X) (q : T → List X) → ((s : S) → Reach A s → p s ≡ q (f s)) → (ss : List S) → AllIn (Reach A) ss → flat_map p ss ≡ flat_map q (map f ss)
  flat_renamed p q e [] a = refl
  flat_renamed p q e (s ∷ ss) a = λ i. e s (a s (inl refl)) i ++ flat_renamed p q e ss (λ x h. a x (inr h)) i

  pub asked_renamed : (k : ℤ) (ss : List S) → AllIn (Reach A) ss → asked_of A k ss ≡ asked_of B k (map f ss)
  asked_renamed k [] a = refl
  asked_renamed k (s ∷ ss) a = λ i. bit_or (F.asked s (a s (inl refl)) k i) (asked_renamed k ss (λ x h. a x (inr h)) i)

  pub map_apart : (ss ts : List S) → AllIn (Reach A) ss → AllIn (Reach A) ts → Same (map f ss) (map f ts) → Same ss ts
  map_apart ss ts a b e = record {
    to = λ x h. let r = In-map_from f (f x) ts (e.to (f x) (In-map f x ss h)) in subst (λ w. In w ts) (F.apart r.0 x (b r.0 r.1) (a x h) r.2) r.1;
    back = λ x h. let r = In-map_from f (f x) ss (e.back (f x) (In-map f x ts h)) in subst (λ w. In w ss) (F.apart r.0 x (a r.0 r.1) (b x h) r.2) r.1;
  }

pub same_flat_map : {S X : Type 0} (p : S → List X) (ss ts : List S) → Same ss ts → Same (flat_map p ss) (flat_map p ts)
same_flat_map p ss ts e = record {
  to = λ y h. let r = In-flat_map_from p y ss h in In-flat_map p y r.0 ts (e.to r.0 r.1) r.2;
  back = λ y h. let r = In-flat_map_from p y ts h in In-flat_map p y r.0 ss (e.back r.0 r.1) r.2;
}

-- ---- one after the other

module _ {S T S' T' : Type 0} {A : Auto S} {B : Auto T} {A' : Auto S'} {B' : Auto T'} (o : IsOrder B.order) (o' : IsOrder B'.order) {f : S → S'} {g : T → T'} (F : Follows A A' f) (G : Follows B B' g) where
  abbrev pub chain_name : Option S × List T → Option S' × List T'
  chain_name c = (option_map f c.0, set_of B'.order (map g c.1))

  abbrev pub ChainReach : Option S × List T → Type 0
  ChainReach c = PartReach A c.0 × AllIn (Reach B) c.1 × Ascends B.order c.1

  steps_of_reach : (l : Letter) (ts : List T) → AllIn (Reach B) ts → AllIn (λ m. Reach B m.to) (steps_of B l ts)
  steps_of_reach l ts a m h = let r = In-flat_map_from (λ t. listed (B.step t l)) m ts h in steps_reach r.0 l (a r.0 r.1) m r.2

  carrying_reach : (x : Carry) (ms : List (Move T)) → AllIn (λ m. Reach B m.to) ms → AllIn (λ m. Reach B m.to) (map (carrying x) ms)
  carrying_reach x ms a m h = let r = In-map_from (carrying x) m ms h in subst (Reach B) (ap (λ w. w.to) r.2) (a r.0 r.1)

  next_reach : (c : Option S × List T) (x : Carry) (l : Letter) → AllIn (λ m. Reach B m.to) (next A B c (map (carrying x) (listed (B.step B.start l))) [])
  next_reach c x l =
      elim (left_final A B c) as (λ b. AllIn (λ m. Reach B m.to) (cond b (map (carrying x) (listed (B.step B.start l))) [])) [
        | true ↦ carrying_reach x (listed (B.step B.start l)) (steps_reach B.start l begun)
        | false ↦ λ m h. absurd h
      ]

  append_all : {X : Type 0} {P : X → Type 0} (xs ys : List X) → AllIn P xs → AllIn P ys → AllIn P (xs ++ ys)
  append_all xs ys a b x h = let r : In x xs ⊎ In x ys = In-append_cases x xs ys h in elim r [ inl i ↦ a x i | inr j ↦ b x j ]

  pub chain_reach : (c : Option S × List T) → Reach (cat_auto A B) c → ChainReach c
  chain_reach = reach_all ChainReach (begun, (λ x h. absurd h), tt)
      (λ c r h l m e. settle_to (Reach A) (Reach B) ChainReach (λ ss ts. (first ss, set_of B.order ts)) _ _ m
      (λ ss ts a b. (first_reach ss a, (λ x i. b x (In-set_of_from o x ts i)), Ascends-set_of o ts))
      (part_steps_reach c.0 l h.0)
      (append_all _ _ (steps_of_reach l c.1 h.1) (next_reach c (on_part no_carry A.out c.0) l)) e)

  -- the set of the new names
  named_same : (ts : List T) → Same (map g ts) (set_of B'.order (map g ts))
  named_same ts = same_sym (same_set_of o' (map g ts))

  left_same : (c : Option S × List T) → PartReach A c.0 → left_final A B c ≡ left_final A' B' (chain_name c)
  left_same c r = part_told F false A.final A'.final F.final c.0 r

  begin_final : B.final B.start ≡ B'.final B'.start
  begin_final = G.final B.start begun ∙ ap B'.final G.start

  carried_renamed : (x : Carry) (ms : List (Move T)) → map (renamed g) (map (carrying x) ms) ≡ map (carrying x) (map (renamed g) ms)
  carried_renamed x [] = refl
  carried_renamed x (m ∷ ms) = λ i. record { to = g m.to; carry = both_of x m.carry } ∷ carried_renamed x ms i

  begin_steps : (x : Carry) (l : Letter) → map (renamed g) (map (carrying x) (listed (B.step B.start l))) ≡ map (carrying x) (listed (B'.step B'.start l))
  begin_steps x l = carried_renamed x (listed (B.step B.start l)) ∙ ap (map (carrying x)) (listed_step G B.start l begun ∙ ap (λ w. listed (B'.step w l)) G.start)

  map-next : {X Y : Type 0} (h : X → Y) (b : Bool) (xs : List X) → map h (cond b xs []) ≡ cond b (map h xs) []
  map-next h true xs = refl
  map-next h false xs = refl

  map-append : {X Y : Type 0} (h : X → Y) (xs ys : List X) → map h (xs ++ ys) ≡ map h xs ++ map h ys
  map-append h [] ys = refl
  map-append h (x ∷ xs) ys = λ i. h x ∷ map-append h xs ys i

  out_same : (c : Option S × List T) → PartReach A c.0 → on_part no_carry A.out c.0 ≡ on_part no_carry A'.out (option_map f c.0)
  out_same c r = part_told F no_carry A.out A'.out F.out c.0 r

  final_same : (c : Option S × List T) → ChainReach c → chain_final A B c ≡ chain_final A' B' (chain_name c)
  final_same c h = λ i. (any_renamed G B.final B'.final G.final c.1 h.1 ∙ any-same B'.final _ _ (named_same c.1)) i || (left_same c h.0 i && begin_final i)

  pub rights_same : (c : Option S × List T) (l : Letter) → ChainReach c
      → Same (map (renamed g) (steps_of B l c.1 ++ next A B c (map (carrying (on_part no_carry A.out c.0)) (listed (B.step B.start l))) []))
      (steps_of B' l (chain_name c).1 ++ next A' B' (chain_name c) (map (carrying (on_part no_carry A'.out (chain_name c).0)) (listed (B'.step B'.start l))) [])
  rights_same c l h =
      subst (λ w. Same w (steps_of B' l (chain_name c).1 ++ next A' B' (chain_name c) (map (carrying (on_part no_carry A'.out (chain_name c).0)) (listed (B'.step B'.start l))) []))
      (sym (map-append (renamed g) (steps_of B l c.1) _))
      (same_append _ _ _ _
      (subst (λ w. Same w (steps_of B' l (chain_name c).1)) (sym (steps_renamed G l c.1 h.1)) (same_flat_map (λ t. listed (B'.step t l)) _ _ (named_same c.1)))
      (subst (λ w. Same w (next A' B' (chain_name c) (map (carrying (on_part no_carry A'.out (chain_name c).0)) (listed (B'.step B'.start l))) []))
      (sym (map-next (renamed g) (left_final A B c) _ ∙ (λ i. cond (left_same c h.0 i) ((begin_steps (on_part no_carry A.out c.0) l ∙ ap (λ x. map (carrying x) (listed (B'.step B'.start l))) (out_same c h.0)) i) [])))
      (same_refl _)))

  pub cat_follows : Follows (cat_auto A B) (cat_auto A' B') chain_name
  cat_follows = record {
    start = λ i. (start_option F i, []);
    step = λ c r l. let h = chain_reach c r in
        settle-same f g chain_name (λ ss ts. (first ss, set_of B.order ts)) (λ ss ts. (first ss, set_of B'.order ts))
        (λ ss ts ts' e. λ i. (first-map F ss i, set_of-same o' _ _ (same_trans (same_map g _ _ (same_set_of o ts)) e) i))
        (on_part [] (λ s. listed (A.step s l)) c.0)
        (steps_of B l c.1 ++ next A B c (map (carrying (on_part no_carry A.out c.0)) (listed (B.step B.start l))) [])
        (steps_of B' l (chain_name c).1 ++ next A' B' (chain_name c) (map (carrying (on_part no_carry A'.out (chain_name c).0)) (listed (B'.step B'.start l))) [])
        (rights_same c l h)
        ∙ (λ i. settle (λ ss ts. (first ss, set_of B'.order ts)) (part_steps F c.0 l h.0 i)
        (steps_of B' l (chain_name c).1 ++ next A' B' (chain_name c) (map (carrying (on_part no_carry A'.out (chain_name c).0)) (listed (B'.step B'.start l))) []));
    final = λ c r. final_same c (chain_reach c r);
    out = λ c r. let h = chain_reach c r in
        λ i. cond (final_same c h i)
        (all_of-same (map B.out c.1 ++ cond (ends_at_once A B c) (on_part no_carry A.out c.0 ∷ B.out B.start ∷ []) [])
        (map B'.out (chain_name c).1 ++ cond (ends_at_once A' B' (chain_name c)) (on_part no_carry A'.out (chain_name c).0 ∷ B'.out B'.start ∷ []) [])
        (same_append _ _ _ _
        (subst (λ w. Same w (map B'.out (chain_name c).1)) (sym (map_renamed G B.out B'.out G.out c.1 h.1)) (same_map B'.out _ _ (named_same c.1)))
        (subst (λ w. Same w (cond (ends_at_once A' B' (chain_name c)) (on_part no_carry A'.out (chain_name c).0 ∷ B'.out B'.start ∷ []) []))
        (λ j. cond (sym (left_same c h.0) j && sym begin_final j) (sym (out_same c h.0) j ∷ sym (G.out B.start begun ∙ ap B'.out G.start) j ∷ []) [])
        (same_refl _))) i)
        no_carry;
    marks = λ c r k. let h = chain_reach c r in
        set_of-same stamp_order _ _ (same_append _ _ _ _
        (subst (λ w. Same w (on_part [] (λ s. A'.marks s k) (chain_name c).0)) (sym (part_told F [] (λ s. A.marks s k) (λ s. A'.marks s k) (λ s q. F.marks s q k) c.0 h.0)) (same_refl _))
        (same_append _ _ _ _
        (subst (λ w. Same w (flat_map (λ t. B'.marks t k) (chain_name c).1)) (sym (flat_renamed G (λ t. B.marks t k) (λ t. B'.marks t k) (λ t q. G.marks t q k) c.1 h.1)) (same_flat_map (λ t. B'.marks t k) _ _ (named_same c.1)))
        (subst (λ w. Same w (next A' B' (chain_name c) (B'.marks B'.start k) []))
        (λ j. cond (sym (left_same c h.0) j) (sym (G.marks B.start begun k ∙ ap (λ w. B'.marks w k) G.start) j) [])
        (same_refl _))));
    asked = λ c r k. let h = chain_reach c r in
        λ i. bit_or (part_told F 0 (λ s. A.asked s k) (λ s. A'.asked s k) (λ s q. F.asked s q k) c.0 h.0 i)
        (bit_or ((asked_renamed G k c.1 h.1 ∙ asked_of-same B' k _ _ (named_same c.1)) i)
        (cond (left_same c h.0 i) ((G.asked B.start begun k ∙ ap (λ w. B'.asked w k) G.start) i) 0));
    apart = λ c d r q e. let h = chain_reach c r in let k = chain_reach d q in
        let s : Same c.1 d.1 = map_apart G c.1 d.1 h.1 k.1 (same_trans (named_same c.1) (same_trans (subst (λ w. Same (set_of B'.order (map g c.1)) w) (ap (λ w. w.1) e) (same_refl _)) (same_sym (named_same d.1)))) in
        λ i. (part_apart F c.0 d.0 h.0 k.0 (ap (λ w. w.0) e) i, ascending_same o c.1 d.1 h.2 k.2 s i);
  }
