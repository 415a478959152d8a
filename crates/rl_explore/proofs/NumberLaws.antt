-- Configurations that get numbers one after another.
use Rattle.std.proofs.Common.{◌≡◌, ℕ, zero, suc, ◌+◌, ◌<◌, ◌≤◌, Bool, true, false, cond, not, ◌||◌, List, [], ◌∷◌, ◌++◌, ◌⊎◌, ◌↔◌, map, length, Some, None, IsTrue, slice_get, nat_lt, nat_eq, refl, ap, sym, ◌∙◌, subst, inl, inr, arith, length-append, append_assoc, append-nil, true≢false, is_some, unwrap_or}
use Rattle.std.specs.List.{list_any, position_or_len, prefix_len}
use borrow.Author.Tests.{lt-ltb, ltb-true, eq-eqb}
use Rattle.indexmap.specs.IndexSet.{insert_key}
use Rattle.rl_sets.specs.Sets.{In}
use Rattle.rl_sets.proofs.SetLaws.{In-append_left, In-append_right, In-append_cases, any_true}
use Rattle.rl_automata.specs.Refused.{AreDifferent}
use Rattle.rl_automata.proofs.Congruence.{some_in, none_in}
use Rattle.rl_labels.specs.declared.carry.Carry.{Carry}
use Rattle.rl_sets.proofs.SetLaws.{In-map_from}
use Rattle.rl_automata.specs.declared.tree.Kind.{Kind}
use Rattle.rl_automata.specs.Auto.{Auto}
use Rattle.rl_fsm.specs.declared.edge.Edge.{Edge}
use Rattle.rl_fsm.specs.declared.state.State.{State}
use Rattle.rl_fsm.specs.Reads.{own_letter}
use Rattle.rl_fsm.specs.Graphs.{carry_out, marks_of}
use Rattle.rl_fsm.specs.Builds.{known_after, known_from, and_then, targets_in}
use Rattle.rl_explore.specs.declared.found.Found.{Found}
use Rattle.rl_explore.specs.Rows.{IsRow, found_reads, found_move}
use Rattle.rl_explore.specs.declared.fault.BuildFault.{BuildFault}
use Rattle.rl_explore.specs.declared.fault.BuildFault.TheVariants.{L6, L8, F12, F15, Memory}
use Rattle.rl_explore.specs.Numbers.{IsFull, HasNumber, Extends, name_at, with_name, tos, AreNumbered, Overflows, LeadsTo, IsState, Grows}
use Rattle.rl_explore.proofs.RowLaws.{map-append}

pub length-push : {X : Type 0} (xs : List X) (x : X) → length (xs ++ x ∷ []) ≡ length xs + 1
length-push xs x = length-append xs (x ∷ [])

pub get_below : {X : Type 0} (xs : List X) (i : ℕ) (x : X) → slice_get xs i ≡ Some x → i < length xs
get_below [] i x e = none_in x e
get_below (y ∷ xs) zero x e = omega arith
get_below (y ∷ xs) (suc i) x e = let h : i < length xs = get_below xs i x e in omega arith

pub get_at_end : {X : Type 0} (xs : List X) (x : X) → slice_get (xs ++ x ∷ []) (length xs) ≡ Some x
get_at_end [] x = refl
get_at_end (y ∷ xs) x = get_at_end xs x

pub get_front : {X : Type 0} (xs ys : List X) (i : ℕ) (x : X) → slice_get xs i ≡ Some x → slice_get (xs ++ ys) i ≡ Some x
get_front [] ys i x e = none_in x e
get_front (y ∷ xs) ys zero x e = e
get_front (y ∷ xs) ys (suc i) x e = get_front xs ys i x e

pub get_In : {X : Type 0} (xs : List X) (i : ℕ) (x : X) → slice_get xs i ≡ Some x → In x xs
get_In [] i x e = none_in x e
get_In (y ∷ xs) zero x e = inl (some_in y x e)
get_In (y ∷ xs) (suc i) x e = inr (get_In xs i x e)

pub In_get : {X : Type 0} (xs : List X) (x : X) → In x xs → (i : ℕ) × (slice_get xs i ≡ Some x)
In_get [] x h = absurd h
In_get (y ∷ xs) x (inl e) = (zero, ap Some e)
In_get (y ∷ xs) x (inr h) = let p = In_get xs x h in (suc p.0, p.1)

pub get_exists : {X : Type 0} (xs : List X) (i : ℕ) → i < length xs → (x : X) × (slice_get xs i ≡ Some x)
get_exists [] i h = absurd (omega arith)
get_exists (y ∷ xs) zero h = (y, refl)
get_exists (y ∷ xs) (suc i) h = get_exists xs i (omega arith)

-- one more, which was not there
pub different_push : {S : Type 0} (xs : List S) (c : S) → ¬ In c xs → AreDifferent xs → AreDifferent (xs ++ c ∷ [])
different_push [] c n d = ((λ h. h), tt)
different_push (x ∷ xs) c n d = (
  (λ h. by (In-append_cases x xs (c ∷ []) h)),
  different_push xs c (λ h. n (inr h)) d.1,
)
  where
    by : In x xs ⊎ In x (c ∷ []) → ⊥
    by (inl h) = d.0 h
    by (inr (inl e)) = n (inl (sym e))
    by (inr (inr h)) = h

-- two numbers of one configuration are equal
pub different_same : {S : Type 0} (xs : List S) (i j : ℕ) (x : S) → AreDifferent xs → slice_get xs i ≡ Some x → slice_get xs j ≡ Some x → i ≡ j
different_same [] i j x d e f = none_in x e
different_same (y ∷ xs) zero zero x d e f = refl
different_same (y ∷ xs) zero (suc j) x d e f = absurd (d.0 (subst (λ w. In w xs) (sym (some_in y x e)) (get_In xs j x f)))
different_same (y ∷ xs) (suc i) zero x d e f = absurd (d.0 (subst (λ w. In w xs) (sym (some_in y x f)) (get_In xs i x e)))
different_same (y ∷ xs) (suc i) (suc j) x d e f = ap suc (different_same xs i j x d.1 e f)

module _ {S : Type 0} (eq : S → S → Bool) (same : (c d : S) → IsTrue (eq c d) ↔ (c ≡ d)) where
  not_there : (ks : List S) (c : S) → list_any (eq c) ks ≡ false → ¬ In c ks
  not_there ks c e h = true≢false (sym (any_true (eq c) c ks h ((same c c).1 refl)) ∙ e)

  at_the_end : (ks : List S) (c : S) → list_any (eq c) ks ≡ false → position_or_len (eq c) ks ≡ length ks
  at_the_end [] c e = refl
  at_the_end (k ∷ ks) c e =
      (elim (eq c k) as (λ b. (b || list_any (eq c) ks) ≡ false → cond (not b) (1 + prefix_len (λ x. not (eq c x)) ks) 0 ≡ suc (length ks)) [
        | true ↦ λ q. absurd (true≢false q)
        | false ↦ λ q. one_more (prefix_len (λ x. not (eq c x)) ks) (length ks) (at_the_end ks c q)
      ]) e
    where
      one_more : (a b : ℕ) → a ≡ b → 1 + a ≡ suc b
      one_more a b h = omega arith

  module _ (old new : List S) (c k : S) (n : ℕ) (keys : new ≡ insert_key eq old c) (number : n ≡ position_or_len (eq c) old) (stored : slice_get new n ≡ Some k) (equal : eq c k ≡ true) where
    -- it was there, or it stands behind the others
    abbrev Cases : Type 0
    Cases = (new ≡ old) × (n < length old) ⊎ (new ≡ old ++ c ∷ []) × (n ≡ length old) × ¬ In c old

    cases : Cases
    cases = by (list_any (eq c) old) refl
      where
        by : (b : Bool) → list_any (eq c) old ≡ b → Cases
        by true e = let s : new ≡ old = keys ∙ ap (λ b. cond b old (old ++ c ∷ [])) e in inl (s, get_below old n k (ap (λ w. slice_get w n) (sym s) ∙ stored))
        by false e = inr (keys ∙ ap (λ b. cond b old (old ++ c ∷ [])) e, number ∙ at_the_end old c e, not_there old c e)

    pub inserted : HasNumber old new c n
    inserted = record {
      there = stored ∙ ap Some (sym ((same c k).0 equal));
      grows = elim cases [ inl p ↦ inl p | inr p ↦ inr (p.0, p.1) ];
      differ = λ d. elim cases [ inl p ↦ subst AreDifferent (sym p.0) d | inr p ↦ subst AreDifferent (sym p.0) (different_push old c p.2 d) ];
    }

    pub inserted_few : (room : ℕ) → length old ≤ room → n < room → length new ≤ room
    inserted_few room l h = elim cases [ inl p ↦ subst (λ w. length w ≤ room) (sym p.0) l | inr p ↦ let q : length new ≡ length old + 1 = ap length p.0 ∙ length-push old c in let r : n ≡ length old = p.1 in omega arith ]

    pub inserted_full : (room : ℕ) → length old ≤ room → room ≤ n → (length old ≡ room) × ¬ In c old
    inserted_full room l h = elim cases [ inl p ↦ let q : n < length old = p.1 in absurd (omega arith) | inr p ↦ (let r : n ≡ length old = p.1 in omega arith, p.2) ]

-- ---- what stays when more configurations are found

pub extends_refl : {S : Type 0} (xs : List S) → Extends xs xs
extends_refl xs = ([], sym (append-nil xs))

pub extends_trans : {S : Type 0} (xs ys zs : List S) → Extends xs ys → Extends ys zs → Extends xs zs
extends_trans xs ys zs e f = (e.0 ++ f.0, f.1 ∙ ap (λ w. w ++ f.0) e.1 ∙ append_assoc xs e.0 f.0)

pub extends_get : {S : Type 0} (xs ys : List S) (i : ℕ) (x : S) → Extends xs ys → slice_get xs i ≡ Some x → slice_get ys i ≡ Some x
extends_get xs ys i x e h = ap (λ w. slice_get w i) e.1 ∙ get_front xs e.0 i x h

pub extends_length : {S : Type 0} (xs ys : List S) → Extends xs ys → length xs ≤ length ys
extends_length xs ys e = let l : length ys ≡ length xs + length e.0 = ap length e.1 ∙ length-append xs e.0 in omega arith

pub extends_In : {S : Type 0} (xs ys : List S) (x : S) → Extends xs ys → In x xs → In x ys
extends_In xs ys x e h = subst (In x) (sym e.1) (In-append_left x xs e.0 h)

pub name_there : {S : Type 0} (xs : List S) (i : ℕ) (x d : S) → slice_get xs i ≡ Some x → name_at xs i d ≡ x
name_there xs i x d e = ap (λ o. unwrap_or o d) e

name_kept : {S : Type 0} (xs ys : List S) (i : ℕ) (d : S) → Extends xs ys → i < length xs → name_at ys i d ≡ name_at xs i d
name_kept xs ys i d e h = let p = get_exists xs i h in name_there ys i p.0 d (extends_get xs ys i p.0 e p.1) ∙ sym (name_there xs i p.0 d p.1)

known-append : (n : ℕ) (ts us : List ℕ) → known_after n (ts ++ us) ≡ and_then (known_after n ts) (λ k. known_after k us)
known-append n [] us = refl
known-append n (t ∷ ts) us =
    elim (nat_lt t n) as (λ b. cond b (known_after n (ts ++ us)) (cond (nat_eq t n) (known_after (n + 1) (ts ++ us)) None) ≡ and_then (cond b (known_after n ts) (cond (nat_eq t n) (known_after (n + 1) ts) None)) (λ k. known_after k us)) [
      | true ↦ known-append n ts us
      | false ↦ elim (nat_eq t n) as (λ b. cond b (known_after (n + 1) (ts ++ us)) None ≡ and_then (cond b (known_after (n + 1) ts) None) (λ k. known_after k us)) [
        | true ↦ known-append (n + 1) ts us
        | false ↦ refl
      ]
    ]

map-push : {X Y : Type 0} (f : X → Y) (xs : List X) (x : X) → map f (xs ++ x ∷ []) ≡ map f xs ++ f x ∷ []
map-push f [] x = refl
map-push f (y ∷ xs) x = ap (λ w. f y ∷ w) (map-push f xs x)

pub known_from-push : (i n : ℕ) (ss : List State) (s : State) (m k : ℕ) → known_from i n ss ≡ Some m → i + length ss < m → known_after m (targets_in s) ≡ Some k → known_from i n (ss ++ s ∷ []) ≡ Some k
known_from-push i n [] s m k e h f =
    let same : n ≡ m = ap (λ o. unwrap_or o n) e in
    let there : i < n = subst (λ w. i < w) (sym same) (omega arith) in
    ap (λ b. cond b (and_then (known_after n (targets_in s)) (λ k. Some k)) None) (lt-ltb i n there)
    ∙ ap (λ w. and_then (known_after w (targets_in s)) (λ k. Some k)) same ∙ ap (λ w. and_then w (λ k. Some k)) f
known_from-push i n (t ∷ ss) s m k e h f =
    let next : (i + 1) + length ss < m = omega arith in
    (elim (nat_lt i n) as (λ b. cond b (and_then (known_after n (targets_in t)) (λ q. known_from (i + 1) q ss)) None ≡ Some m → cond b (and_then (known_after n (targets_in t)) (λ q. known_from (i + 1) q (ss ++ s ∷ []))) None ≡ Some k) [
      | true ↦ elim (known_after n (targets_in t)) as (λ o. and_then o (λ q. known_from (i + 1) q ss) ≡ Some m → and_then o (λ q. known_from (i + 1) q (ss ++ s ∷ [])) ≡ Some k) [
        | None ↦ λ e. absurd (true≢false (sym (ap is_some e)))
        | Some q ↦ λ e. known_from-push (i + 1) q ss s m k e next f
      ]
      | false ↦ λ e. absurd (true≢false (sym (ap is_some e)))
    ]) e

not_below : (n m : ℕ) → m ≤ n → nat_lt n m ≡ false
not_below n m h = (elim (nat_lt n m) as (λ b. nat_lt n m ≡ b → b ≡ false) [
  | true ↦ λ e. let l : n < m = ltb-true n m e in absurd (omega arith)
  | false ↦ λ e. refl
]) refl

module _ {S : Type 0} where
  grown : (old new : List S) (c : S) (n : ℕ) → HasNumber old new c n → Extends old new
  grown old new c n h = elim h.grows [ inl e ↦ ([], e.0 ∙ sym (append-nil old)) | inr e ↦ (c ∷ [], e.0) ]

  grown_from : (old new : List S) (c : S) (n : ℕ) → HasNumber old new c n → (x : S) → In x new → In x old ⊎ (c ≡ x)
  grown_from old new c n h x i = elim h.grows [
    | inl e ↦ inl (subst (In x) e.0 i)
    | inr e ↦ by (In-append_cases x old (c ∷ []) (subst (In x) e.0 i))
  ]
    where
      by : In x old ⊎ In x (c ∷ []) → In x old ⊎ (c ≡ x)
      by (inl j) = inl j
      by (inr (inl f)) = inr f
      by (inr (inr z)) = absurd z

  named_kept : (xs ys : List S) (d : S) (es : List Edge) → Extends xs ys → ((e : Edge) → In e es → e.target < length xs) → map (with_name ys d) es ≡ map (with_name xs d) es
  named_kept xs ys d [] e b = refl
  named_kept xs ys d (f ∷ es) e b =
      λ i. record { range = f.range; asks = f.asks; truths = f.truths; to = name_kept xs ys f.target d e (b f (inl refl)) i; carry = record { actions = f.actions; table = f.priors } } ∷ named_kept xs ys d es e (λ g h. b g (inr h)) i

  known_one : (old new : List S) (c : S) (n : ℕ) → HasNumber old new c n → known_after (length old) (n ∷ []) ≡ Some (length new)
  known_one old new c n h =
      elim h.grows [
        | inl e ↦ ap (λ b. cond b (Some (length old)) (cond (nat_eq n (length old)) (Some (length old + 1)) None)) (lt-ltb n (length old) e.1) ∙ ap (λ w. Some (length w)) (sym e.0)
        | inr e ↦ at_end n (length old) e.1 ∙ ap Some (sym (ap length e.0 ∙ length-push old c))
      ]
    where
      at_end : (n m : ℕ) → n ≡ m → known_after m (n ∷ []) ≡ Some (m + 1)
      at_end n m e = ap (λ w. known_after m (w ∷ [])) e ∙ ap (λ b. cond b (Some m) (cond (nat_eq m m) (Some (m + 1)) None)) (not_below m m (le m)) ∙ ap (λ b. cond b (Some (m + 1)) None) (eq-eqb m m refl)
        where
          le : (m : ℕ) → m ≤ m
          le m = omega arith

  pub numbered_none : (names : List S) → AreNumbered names names [] []
  numbered_none names = record {
    named = λ d. refl;
    below = λ e h. absurd h;
    extends = extends_refl names;
    known = refl;
    differ = λ f. f;
    from = λ x h. inl h;
  }

  In-tos_front : (x : S) (fs : List (Found S)) (f : Found S) → In x (tos fs) → In x (tos (fs ++ f ∷ []))
  In-tos_front x fs f h = subst (In x) (sym (map-push (λ (f : Found S). f.to) fs f)) (In-append_left x (tos fs) (f.to ∷ []) h)

  In-tos_last : (x : S) (fs : List (Found S)) (f : Found S) → f.to ≡ x → In x (tos (fs ++ f ∷ []))
  In-tos_last x fs f e = subst (In x) (sym (map-push (λ (f : Found S). f.to) fs f)) (In-append_right x (tos fs) (f.to ∷ []) (inl e))

  pub numbered_more : (old new new' : List S) (fs : List (Found S)) (es : List Edge) (f : Found S) (e : Edge) → AreNumbered old new fs es → HasNumber new new' f.to e.target
      → e.range ≡ f.range → e.asks ≡ f.asks → e.truths ≡ f.truths → ◌≡◌ {A = Carry} (record { actions = e.actions; table = e.priors }) f.carry → AreNumbered old new' (fs ++ f ∷ []) (es ++ e ∷ [])
  numbered_more old new new' fs es f e a h r k t c =
      let grows : Extends new new' = grown new new' f.to e.target h in
      record {
        named = λ d. map-push (with_name new' d) es e
            ∙ (λ i. (named_kept new new' d es grows a.below ∙ a.named d) i ++ record { range = r i; asks = k i; truths = t i; to = name_there new' e.target f.to d h.there i; carry = c i } ∷ []);
        below = λ g i. let p : In g es ⊎ In g (e ∷ []) = In-append_cases g es (e ∷ []) i in
            elim p [
              | inl j ↦ let b : g.target < length new = a.below g j in let l : length new ≤ length new' = extends_length new new' grows in omega arith
              | inr j ↦ elim j [ inl q ↦ subst (λ w. w.target < length new') q (get_below new' e.target f.to h.there) | inr z ↦ absurd z ]
            ];
        extends = extends_trans old new new' a.extends grows;
        known = ap (known_after (length old)) (map-push (λ (x : Edge). x.target) es e) ∙ known-append (length old) (map (λ (x : Edge). x.target) es) (e.target ∷ [])
            ∙ ap (λ w. and_then w (λ n. known_after n (e.target ∷ []))) a.known ∙ known_one new new' f.to e.target h;
        differ = λ g. h.differ (a.differ g);
        from = λ x i. elim (grown_from new new' f.to e.target h x i) [
          | inl j ↦ elim (a.from x j) [ inl m ↦ inl m | inr m ↦ inr (In-tos_front x fs f m) ]
          | inr q ↦ inr (In-tos_last x fs f q)
        ];
      }

  pub numbered_full : (room : ℕ) (old new : List S) (all fs rest : List (Found S)) (es : List Edge) (f : Found S) → AreNumbered old new fs es → all ≡ (fs ++ f ∷ []) ++ rest
      → (length new ≡ room) × ¬ In f.to new → Overflows room old (λ x. In x (tos all))
  numbered_full room old new all fs rest es f a whole full d = (
    new ++ f.to ∷ [],
    different_push new f.to full.1 (a.differ d),
    (λ x i. by x (In-append_cases x new (f.to ∷ []) i)),
    let l : length (new ++ f.to ∷ []) ≡ length new + 1 = length-push new f.to in let m : length new ≡ room = full.0 in omega arith,
  )
    where
      in_all : (x : S) → In x (tos (fs ++ f ∷ [])) → In x (tos all)
      in_all x i = subst (λ w. In x (tos w)) (sym whole) (subst (In x) (sym (map-append (λ (f : Found S). f.to) (fs ++ f ∷ []) rest)) (In-append_left x (tos (fs ++ f ∷ [])) (tos rest) i))

      by : (x : S) → In x new ⊎ In x (f.to ∷ []) → In x old ⊎ In x (tos all)
      by x (inl i) = elim (a.from x i) [ inl m ↦ inl m | inr m ↦ inr (in_all x (In-tos_front x fs f m)) ]
      by x (inr (inl e)) = inr (in_all x (In-tos_last x fs f e))
      by x (inr (inr z)) = absurd z

  pub state_kept : (A : Auto S) (xs ys : List S) (c : S) (s : State) → Extends xs ys → IsState A xs c s → IsState A ys c s
  state_kept A xs ys c s e h = record {
    row = λ d. subst (IsRow A c) (sym (named_kept xs ys d s.edges e h.below)) (h.row d);
    below = λ g i. let b : g.target < length xs = h.below g i in let l : length xs ≤ length ys = extends_length xs ys e in omega arith;
    final = h.final;
    out = h.out;
    marks = h.marks;
  }

  -- what the edges of a row lead to
  row_leads : (A : Auto S) (c : S) (fs : List (Found S)) → IsRow A c fs → (x : S) → In x (tos fs) → LeadsTo A c x
  row_leads A c fs r x i = let p = In-map_from (λ (f : Found S). f.to) x fs i in (own_letter (found_reads p.0), found_move p.0, (r.each p.0 p.1).step, p.2)

  pub overflows_to : (room : ℕ) (old : List S) (P Q : S → Type 0) → ((x : S) → P x → Q x) → Overflows room old P → Overflows room old Q
  overflows_to room old P Q f h d = let p = h d in (p.0, p.1, (λ x i. elim (p.2 x i) [ inl j ↦ inl j | inr j ↦ inr (f x j) ]), p.3)

  pub row_overflows : (room : ℕ) (A : Auto S) (c : S) (fs : List (Found S)) (old : List S) → IsRow A c fs → Overflows room old (λ x. In x (tos fs)) → Overflows room old (LeadsTo A c)
  row_overflows room A c fs old r h = overflows_to room old (λ x. In x (tos fs)) (LeadsTo A c) (row_leads A c fs r) h

  pub state_is : (A : Auto S) (c : S) (old new : List S) (fs : List (Found S)) (s : State) → IsRow A c fs → AreNumbered old new fs s.edges → s.fin ≡ A.final c → carry_out s.out ≡ A.out c
      → ((k : Kind) → marks_of k s.marks ≡ A.marks c k) → IsState A new c s × Grows A c old new s
  state_is A c old new fs s r n f o m = (
    record { row = λ d. subst (IsRow A c) (sym (n.named d)) r; below = n.below; final = f; out = o; marks = m },
    record { extends = n.extends; known = n.known; differ = n.differ; from = λ x i. elim (n.from x i) [ inl j ↦ inl j | inr j ↦ inr (row_leads A c fs r x j) ] },
  )

pub full_to : (P Q : Type 0) (e : BuildFault) → (P → Q) → IsFull P e → IsFull Q e
full_to P Q L6 f h = f h
full_to P Q L8 f h = h
full_to P Q (F12 i) f h = h
full_to P Q F15 f h = h
full_to P Q Memory f h = h
