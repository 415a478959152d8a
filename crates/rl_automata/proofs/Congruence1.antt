-- `Follows` through a repetition, embeddings, pruning and conditions.
use Rattle.std.proofs.Common.{◌≡◌, ℕ, ℤ, Bool, true, false, cond, not, ◌&&◌, ◌||◌, List, [], ◌∷◌, ◌++◌, ◌⊎◌, map, refl, sym, ◌∙◌, ap, subst, inl, inr, Option, Some, None, option_map, is_some, bit_or, ◌-◌, ◌^◌}
use Rattle.std.specs.Ordering.{eq_by_cmp}
use Rattle.std.specs.List.{list_any, flat_map}
use Rattle.rl_types.specs.declared.numbers.Letter.{Letter}
use Rattle.rl_automata.specs.declared.tree.Kind.{Kind}
use Rattle.rl_automata.specs.declared.tree.Class.{Class}
use Rattle.rl_automata.specs.declared.tree.Class.TheVariants as C
use Rattle.rl_labels.specs.declared.stamped.Stamp.{Stamp}
use Rattle.rl_sets.specs.Sets.{In, set_of, Ascends}
use Rattle.rl_sets.specs.Order.{IsOrder}
use Rattle.rl_labels.specs.declared.carry.Carry.{Carry}
use Rattle.rl_labels.specs.Labels.{stamps_of}
use Rattle.rl_labels.specs.Carries.{no_carry, both_of}
use Rattle.rl_automata.specs.declared.moves.Move.{Move}
use Rattle.rl_automata.specs.Auto.{Auto, listed, carrying, restamped, star_auto, is_start, round_step, member_steps, only_start, enter_auto, finish_auto, every_auto, leave_auto, mark_auto, in_class, same_kind, steps_at, quiet, pruned, when_auto, guarded_step, live_step, only_live, every_truths, holds}
use Rattle.rl_automata.specs.Follows.{Reach, begun, went, renamed, Follows}
use Rattle.rl_sets.proofs.SetLaws.{Same, In-map_from, In-append_cases, In-flat_map_from, In-set_of_from, same_refl, same_sym, same_trans, same_map, same_set_of, Ascends-set_of, ascending_same, set_of-same, both_ways, any-same}
use Rattle.rl_labels.proofs.LabelOrders.{stamp_order}
use Rattle.rl_sets.proofs.OrderLaws.{list_is_order, eq_by_cmp-itself, eq_by_cmp-same}
use Rattle.rl_automata.proofs.Settle.{settle-same, all_of-same}
pub use Rattle.rl_automata.proofs.Leads.{reach_in}
use Rattle.rl_automata.proofs.Leads.{every_leads, finish_leads, enter_leads, guard_leads, live_leads}
use Rattle.rl_automata.proofs.Congruence.{AllIn, reach_all, steps_reach, settle_to, listed_step, any_renamed, map_renamed, asked_renamed, asked_of-same, map_apart, same_flat_map}

module _ {S T : Type 0} {A : Auto S} {B : Auto T} (o : IsOrder A.order) (o' : IsOrder B.order) {f : S → T} (F : Follows A B f) where
  pub start_same : (s : S) → Reach A s → is_start A s ≡ is_start B (f s)
  start_same s r = both_ways _ _
      (λ e. ap (λ w. eq_by_cmp B.order w B.start) (ap f (eq_by_cmp-same o s A.start e) ∙ F.start) ∙ eq_by_cmp-itself o' B.start)
      (λ e. ap (λ w. eq_by_cmp A.order w A.start) (F.apart s A.start r begun (eq_by_cmp-same o' (f s) B.start e ∙ sym F.start)) ∙ eq_by_cmp-itself o A.start)

  -- ---- repetition

  abbrev pub set_name : List S → List T
  set_name c = set_of B.order (map f c)

  abbrev pub StarReach : List S → Type 0
  StarReach c = AllIn (Reach A) c × Ascends A.order c

  round_renamed : (base : ℕ) (s : S) (l : Letter) → Reach A s → map (renamed f) (round_step A base s l) ≡ round_step B base (f s) l
  round_renamed base s l r =
      move (is_start A s) (listed (A.step s l)) ∙ (λ i. cond (start_same s r i) (map (restamped base) (listed_step F s l r i)) (listed_step F s l r i))
    where
      each : (ms : List (Move S)) → map (renamed f) (map (restamped base) ms) ≡ map (restamped base) (map (renamed f) ms)
      each [] = refl
      each (m ∷ ms) = λ i. renamed f (restamped base m) ∷ each ms i

      move : (b : Bool) (ms : List (Move S)) → map (renamed f) (cond b (map (restamped base) ms) ms) ≡ cond b (map (restamped base) (map (renamed f) ms)) (map (renamed f) ms)
      move true ms = each ms
      move false ms = refl

  map-append : {X Y : Type 0} (h : X → Y) (xs ys : List X) → map h (xs ++ ys) ≡ map h xs ++ map h ys
  map-append h [] ys = refl
  map-append h (x ∷ xs) ys = λ i. h x ∷ map-append h xs ys i

  map-cond : {X Y : Type 0} (h : X → Y) (b : Bool) (xs : List X) → map h (cond b xs []) ≡ cond b (map h xs) []
  map-cond h true xs = refl
  map-cond h false xs = refl

  carried_renamed : (x : Carry) (ms : List (Move S)) → map (renamed f) (map (carrying x) ms) ≡ map (carrying x) (map (renamed f) ms)
  carried_renamed x [] = refl
  carried_renamed x (m ∷ ms) = λ i. record { to = f m.to; carry = both_of x m.carry } ∷ carried_renamed x ms i

  member_renamed : (base : ℕ) (l : Letter) (s : S) → Reach A s → map (renamed f) (member_steps A base l s) ≡ member_steps B base l (f s)
  member_renamed base l s r =
      map-append (renamed f) (round_step A base s l) _
      ∙ (λ i. round_renamed base s l r i ++ (map-cond (renamed f) (A.final s) (map (carrying (A.out s)) (round_step A base A.start l))
      ∙ (λ j. cond (F.final s r j) ((carried_renamed (A.out s) (round_step A base A.start l) ∙ (λ k. map (carrying (F.out s r k)) ((round_renamed base A.start l begun ∙ ap (λ w. round_step B base w l) F.start) k))) j) [])) i)

  members_renamed : (base : ℕ) (l : Letter) (ss : List S) → AllIn (Reach A) ss → map (renamed f) (flat_map (member_steps A base l) ss) ≡ flat_map (member_steps B base l) (map f ss)
  members_renamed base l [] a = refl
  members_renamed base l (s ∷ ss) a =
      map-append (renamed f) (member_steps A base l s) _ ∙ (λ i. member_renamed base l s (a s (inl refl)) i ++ members_renamed base l ss (λ x h. a x (inr h)) i)

  round_reach : (base : ℕ) (s : S) (l : Letter) → Reach A s → AllIn (λ m. Reach A m.to) (round_step A base s l)
  round_reach base s l r =
      elim (is_start A s) as (λ b. AllIn (λ m. Reach A m.to) (cond b (map (restamped base) (listed (A.step s l))) (listed (A.step s l)))) [
        | true ↦ λ m h. let p = In-map_from (restamped base) m (listed (A.step s l)) h in subst (Reach A) (ap (λ w. w.to) p.2) (steps_reach s l r p.0 p.1)
        | false ↦ steps_reach s l r
      ]

  member_reach : (base : ℕ) (s : S) (l : Letter) → Reach A s → AllIn (λ m. Reach A m.to) (member_steps A base l s)
  member_reach base s l r m h =
      let c : In m (round_step A base s l) ⊎ In m (cond (A.final s) (map (carrying (A.out s)) (round_step A base A.start l)) []) = In-append_cases m (round_step A base s l) _ h in
      elim c [
        | inl i ↦ round_reach base s l r m i
        | inr j ↦ (elim (A.final s) as (λ b. In m (cond b (map (carrying (A.out s)) (round_step A base A.start l)) []) → Reach A m.to) [
          | true ↦ λ k. let p = In-map_from (carrying (A.out s)) m (round_step A base A.start l) k in subst (Reach A) (ap (λ w. w.to) p.2) (round_reach base A.start l begun p.0 p.1)
          | false ↦ λ k. absurd k
        ]) j
      ]

  begin_star : StarReach (A.start ∷ [])
  begin_star = ((λ x h. elim h [ inl e ↦ subst (Reach A) e begun | inr i ↦ absurd i ]), (tt, tt))

  pub star_reach : (base : ℕ) (c : List S) → Reach (star_auto A base) c → StarReach c
  star_reach base = reach_all StarReach begin_star
      (λ c r h l m e. settle_to (Reach A) (Reach A) StarReach (λ ss ts. set_of A.order ts) [] (flat_map (member_steps A base l) c) m
      (λ ss ts a b. ((λ x i. b x (In-set_of_from o x ts i)), Ascends-set_of o ts))
      (λ n i. absurd i)
      (λ n i. let p = In-flat_map_from (member_steps A base l) n c i in member_reach base p.0 l (h.0 p.0 p.1) n p.2) e)

  named_same : (c : List S) → Same (map f c) (set_name c)
  named_same c = same_sym (same_set_of o' (map f c))

  star_apart : (c d : List S) → StarReach c → StarReach d → set_name c ≡ set_name d → c ≡ d
  star_apart c d h k e =
      ascending_same o c d h.1 k.1 (map_apart F c d h.0 k.0 (same_trans (named_same c) (same_trans (subst (λ w. Same (set_name c) w) e (same_refl _)) (same_sym (named_same d)))))

  -- the candidates under their new names
  pub members_same : (base : ℕ) (l : Letter) (c : List S) → AllIn (Reach A) c → Same (map (renamed f) (flat_map (member_steps A base l) c)) (flat_map (member_steps B base l) (set_name c))
  members_same base l c a =
      subst (λ w. Same w (flat_map (member_steps B base l) (set_name c))) (sym (members_renamed base l c a)) (same_flat_map (member_steps B base l) _ _ (named_same c))

  begin_name : set_name (A.start ∷ []) ≡ B.start ∷ []
  begin_name = λ i. F.start i ∷ []

  only_same : (c : List S) → StarReach c → only_start A c ≡ only_start B (set_name c)
  only_same c h = both_ways _ _
      (λ e. ap (λ w. only_start B w) (ap set_name (eq_by_cmp-same (list_is_order o) c (A.start ∷ []) e) ∙ begin_name) ∙ eq_by_cmp-itself (list_is_order o') (B.start ∷ []))
      (λ e. ap (only_start A) (star_apart c (A.start ∷ []) h begin_star (eq_by_cmp-same (list_is_order o') (set_name c) (B.start ∷ []) e ∙ sym begin_name)) ∙ eq_by_cmp-itself (list_is_order o) (A.start ∷ []))

  any_final : (c : List S) → StarReach c → list_any A.final c ≡ list_any B.final (set_name c)
  any_final c h = any_renamed F A.final B.final F.final c h.0 ∙ any-same B.final _ _ (named_same c)

  member_marks : (k : Kind) (s : S) → Reach A s → (A.marks s k ++ cond (A.final s) (A.marks A.start k) []) ≡ (B.marks (f s) k ++ cond (B.final (f s)) (B.marks B.start k) [])
  member_marks k s r = λ i. F.marks s r k i ++ cond (F.final s r i) ((F.marks A.start begun k ∙ ap (λ w. B.marks w k) F.start) i) []

  flat_marks : (k : Kind) (c : List S) → AllIn (Reach A) c → flat_map (λ s. A.marks s k ++ cond (A.final s) (A.marks A.start k) []) c ≡ flat_map (λ t. B.marks t k ++ cond (B.final t) (B.marks B.start k) []) (map f c)
  flat_marks k [] a = refl
  flat_marks k (s ∷ c) a = λ i. member_marks k s (a s (inl refl)) i ++ flat_marks k c (λ x h. a x (inr h)) i

  pub star_follows : (base : ℕ) → Follows (star_auto A base) (star_auto B base) set_name
  star_follows base = record {
    start = begin_name;
    step = λ c r l. let h = star_reach base c r in
        settle-same {S = S} {S' = T} f f set_name (λ ss ts. set_of A.order ts) (λ ss ts. set_of B.order ts)
        (λ ss ts ts' e. set_of-same o' _ _ (same_trans (same_map f _ _ (same_set_of o ts)) e))
        [] (flat_map (member_steps A base l) c) (flat_map (member_steps B base l) (set_name c))
        (members_same base l c h.0);
    final = λ c r. let h = star_reach base c r in λ i. only_same c h i || any_final c h i;
    out = λ c r. let h = star_reach base c r in
        λ i. cond (only_same c h i || any_final c h i)
        (all_of-same (map A.out c) (map B.out (set_name c)) (subst (λ w. Same w (map B.out (set_name c))) (sym (map_renamed F A.out B.out F.out c h.0)) (same_map B.out _ _ (named_same c))) i) no_carry;
    marks = λ c r k. let h = star_reach base c r in
        set_of-same stamp_order _ _ (subst (λ w. Same w (flat_map (λ t. B.marks t k ++ cond (B.final t) (B.marks B.start k) []) (set_name c))) (sym (flat_marks k c h.0)) (same_flat_map _ _ _ (named_same c)));
    asked = λ c r k. let h = star_reach base c r in
        λ i. bit_or ((asked_renamed F k c h.0 ∙ asked_of-same B k _ _ (named_same c)) i) (cond (any_final c h i) ((F.asked A.start begun k ∙ ap (λ w. B.asked w k) F.start) i) 0);
    apart = λ c d r q e. star_apart c d (star_reach base c r) (star_reach base d q) e;
  }

-- ---- one operand, whose states stay

module _ {S T : Type 0} {A : Auto S} {B : Auto T} {f : S → T} (F : Follows A B f) where
  map_carrying : (x : Carry) (p : Option (Move S)) → option_map (renamed f) (option_map (carrying x) p) ≡ option_map (carrying x) (option_map (renamed f) p)
  map_carrying x None = refl
  map_carrying x (Some m) = refl

  every_in : (x : Carry) (s : S) → Reach (every_auto A x) s → Reach A s
  every_in x = reach_in refl (every_leads A x)

  pub every_follows : (x : Carry) → Follows (every_auto A x) (every_auto B x) f
  every_follows x = record {
    start = F.start;
    step = λ s r l. map_carrying x (A.step s l) ∙ ap (option_map (carrying x)) (F.step s (every_in x s r) l);
    final = λ s r. F.final s (every_in x s r);
    out = λ s r. F.out s (every_in x s r);
    marks = λ s r. F.marks s (every_in x s r);
    asked = λ s r. F.asked s (every_in x s r);
    apart = λ s t r q. F.apart s t (every_in x s r) (every_in x t q);
  }

  finish_in : (x : Carry) (s : S) → Reach (finish_auto A x) s → Reach A s
  finish_in x = reach_in refl (finish_leads A x)

  finish_step : (x : Carry) (s : S) (l : Letter) → Reach A s → (p : Option (Move S)) → A.step s l ≡ p
      → option_map (renamed f) (option_map (λ m. cond (A.final m.to) (carrying x m) m) p) ≡ option_map (λ m. cond (B.final m.to) (carrying x m) m) (option_map (renamed f) p)
  finish_step x s l r None e = refl
  finish_step x s l r (Some m) e =
      ap Some (go (A.final m.to) ∙ ap (λ b. cond b (carrying x (renamed f m)) (renamed f m)) (F.final m.to (went r l m e)))
    where
      go : (b : Bool) → renamed f (cond b (carrying x m) m) ≡ cond b (carrying x (renamed f m)) (renamed f m)
      go true = refl
      go false = refl

  pub finish_follows : (x : Carry) → Follows (finish_auto A x) (finish_auto B x) f
  finish_follows x = record {
    start = F.start;
    step = λ s r l. finish_step x s l (finish_in x s r) (A.step s l) refl ∙ ap (option_map (λ m. cond (B.final m.to) (carrying x m) m)) (F.step s (finish_in x s r) l);
    final = λ s r. F.final s (finish_in x s r);
    out = λ s r. F.out s (finish_in x s r);
    marks = λ s r. F.marks s (finish_in x s r);
    asked = λ s r. F.asked s (finish_in x s r);
    apart = λ s t r q. F.apart s t (finish_in x s r) (finish_in x t q);
  }

  leave_in : (x : Carry) (s : S) → Reach (leave_auto A x) s → Reach A s
  leave_in x = reach_in refl (λ s l m e. (m, e, refl))

  pub leave_follows : (x : Carry) → Follows (leave_auto A x) (leave_auto B x) f
  leave_follows x = record {
    start = F.start;
    step = λ s r l. F.step s (leave_in x s r) l;
    final = λ s r. F.final s (leave_in x s r);
    out = λ s r. λ i. cond (F.final s (leave_in x s r) i) (both_of x (F.out s (leave_in x s r) i)) (F.out s (leave_in x s r) i);
    marks = λ s r. F.marks s (leave_in x s r);
    asked = λ s r. F.asked s (leave_in x s r);
    apart = λ s t r q. F.apart s t (leave_in x s r) (leave_in x t q);
  }

  -- ---- what asks nothing where nothing steps

  steps_at_same : (s : S) → Reach A s → (k : ℤ) → steps_at A s k ≡ steps_at B (f s) k
  steps_at_same s r k = λ i. list_any (λ t. told t i) every_truths
    where
      is_some_map : (p : Option (Move S)) → is_some p ≡ is_some (option_map (renamed f) p)
      is_some_map None = refl
      is_some_map (Some m) = refl

      told : (t : ℕ) → is_some (A.step s (record { key = k; truths = t })) ≡ is_some (B.step (f s) (record { key = k; truths = t }))
      told t = is_some_map (A.step s (record { key = k; truths = t })) ∙ ap is_some (F.step s r (record { key = k; truths = t }))

  pub quiet_follows : Follows (quiet A) (quiet B) f
  quiet_follows =
      let inside : (s : S) → Reach (quiet A) s → Reach A s = reach_in refl (λ s l m e. (m, e, refl)) in
      record {
        start = F.start;
        step = λ s r l. F.step s (inside s r) l;
        final = λ s r. F.final s (inside s r);
        out = λ s r. F.out s (inside s r);
        marks = λ s r. F.marks s (inside s r);
        asked = λ s r k. λ i. cond (steps_at_same s (inside s r) k i) (F.asked s (inside s r) k i) 0;
        apart = λ s t r q. F.apart s t (inside s r) (inside t q);
      }

module _ {S T : Type 0} {A : Auto S} {B : Auto T} {f : S → T} (F : Follows A B f) (live : S → Bool) (live' : T → Bool) (told : (s : S) → Reach A s → live s ≡ live' (f s)) where
  cut_in : (s : S) → Reach (record A { step = live_step A live }) s → Reach A s
  cut_in = reach_in refl (live_leads A live)

  live_renamed : (s : S) (l : Letter) → Reach A s → (p : Option (Move S)) → A.step s l ≡ p → option_map (renamed f) (only_live live p) ≡ only_live live' (option_map (renamed f) p)
  live_renamed s l r None e = refl
  live_renamed s l r (Some m) e = go (live m.to) ∙ ap (λ b. cond b (Some (renamed f m)) None) (told m.to (went r l m e))
    where
      go : (b : Bool) → option_map (renamed f) (cond b (Some m) None) ≡ cond b (Some (renamed f m)) None
      go true = refl
      go false = refl

  cut_follows : Follows (record A { step = live_step A live }) (record B { step = live_step B live' }) f
  cut_follows = record {
    start = F.start;
    step = λ s r l. live_renamed s l (cut_in s r) (A.step s l) refl ∙ ap (only_live live') (F.step s (cut_in s r) l);
    final = λ s r. F.final s (cut_in s r);
    out = λ s r. F.out s (cut_in s r);
    marks = λ s r. F.marks s (cut_in s r);
    asked = λ s r. F.asked s (cut_in s r);
    apart = λ s t r q. F.apart s t (cut_in s r) (cut_in t q);
  }

  pub pruned_follows : Follows (pruned live A) (pruned live' B) f
  pruned_follows = quiet_follows cut_follows

-- ---- entering labels, marks and conditions

module _ {S T : Type 0} {A : Auto S} {B : Auto T} (o : IsOrder A.order) (o' : IsOrder B.order) {f : S → T} (F : Follows A B f) where
  enter_in : (x : Carry) (s : S) → Reach (enter_auto A x) s → Reach A s
  enter_in x = reach_in refl (enter_leads A x)

  map-either : (x : Carry) (b : Bool) (p : Option (Move S)) → option_map (renamed f) (cond b (option_map (carrying x) p) p) ≡ cond b (option_map (carrying x) (option_map (renamed f) p)) (option_map (renamed f) p)
  map-either x true p = map_carrying F x p
  map-either x false p = refl

  pub enter_follows : (x : Carry) → Follows (enter_auto A x) (enter_auto B x) f
  enter_follows x = record {
    start = F.start;
    step = λ s r l. let q = enter_in x s r in
        map-either x (is_start A s) (A.step s l) ∙ (λ i. cond (start_same o o' F s q i) (option_map (carrying x) (F.step s q l i)) (F.step s q l i));
    final = λ s r. F.final s (enter_in x s r);
    out = λ s r. let q = enter_in x s r in
        λ i. cond (start_same o o' F s q i && F.final s q i) (both_of x (F.out s q i)) (F.out s q i);
    marks = λ s r. F.marks s (enter_in x s r);
    asked = λ s r. F.asked s (enter_in x s r);
    apart = λ s t r q. F.apart s t (enter_in x s r) (enter_in x t q);
  }

  class_same : (class : Class) (s : S) → Reach A s → in_class A class s ≡ in_class B class (f s)
  class_same C.Start s r = start_same o o' F s r
  class_same C.NotStart s r = ap not (start_same o o' F s r)
  class_same C.All s r = refl
  class_same C.Final s r = F.final s r
  class_same C.NotFinal s r = ap not (F.final s r)
  class_same C.Middle s r = λ i. not (start_same o o' F s r i) && not (F.final s r i)

  mark_in : (class : Class) (kind : Kind) (x : Stamp) (s : S) → Reach (mark_auto A class kind x) s → Reach A s
  mark_in class kind x = reach_in refl (λ s l m e. (m, e, refl))

  pub mark_follows : (class : Class) (kind : Kind) (x : Stamp) → Follows (mark_auto A class kind x) (mark_auto B class kind x) f
  mark_follows class kind x = record {
    start = F.start;
    step = λ s r l. F.step s (mark_in class kind x s r) l;
    final = λ s r. F.final s (mark_in class kind x s r);
    out = λ s r. F.out s (mark_in class kind x s r);
    marks = λ s r k. let q = mark_in class kind x s r in
        λ i. cond (same_kind kind k && class_same class s q i) (stamps_of (x ∷ F.marks s q k i)) (F.marks s q k i);
    asked = λ s r. F.asked s (mark_in class kind x s r);
    apart = λ s t r q. F.apart s t (mark_in class kind x s r) (mark_in class kind x t q);
  }

module _ {S T : Type 0} {A : Auto S} {B : Auto T} {f : S → T} (F : Follows A B f) (c : ℕ) where
  abbrev guarded : {X : Type 0} → Auto X → Auto X
  guarded D = record D { step = guarded_step D c }

  guarded_in : (s : S) → Reach (guarded A) s → Reach A s
  guarded_in = reach_in refl (guard_leads A c)

  map-guard : (b : Bool) (p : Option (Move S)) → option_map (renamed f) (cond b p None) ≡ cond b (option_map (renamed f) p) None
  map-guard true p = refl
  map-guard false p = refl

  guard_follows : Follows (guarded A) (guarded B) f
  guard_follows = record {
    start = F.start;
    step = λ s r l. map-guard (holds c l.truths) (A.step s l) ∙ ap (λ p. cond (holds c l.truths) p None) (F.step s (guarded_in s r) l);
    final = λ s r. F.final s (guarded_in s r);
    out = λ s r. F.out s (guarded_in s r);
    marks = λ s r. F.marks s (guarded_in s r);
    asked = λ s r. F.asked s (guarded_in s r);
    apart = λ s t r q. F.apart s t (guarded_in s r) (guarded_in t q);
  }

  pub when_follows : Follows (when_auto c A) (when_auto c B) f
  when_follows =
      let inside : (s : S) → Reach (when_auto c A) s → Reach (guarded A) s = reach_in refl (λ s l m e. (m, e, refl)) in
      record {
        start = F.start;
        step = λ s r l. guard_follows.step s (inside s r) l;
        final = λ s r. guard_follows.final s (inside s r);
        out = λ s r. guard_follows.out s (inside s r);
        marks = λ s r. guard_follows.marks s (inside s r);
        asked = λ s r k. λ i. cond (steps_at_same guard_follows s (inside s r) k i) (bit_or (2 ^ (c - 1)) (F.asked s (guarded_in s (inside s r)) k i)) 0;
        apart = λ s t r q. guard_follows.apart s t (inside s r) (inside t q);
      }
