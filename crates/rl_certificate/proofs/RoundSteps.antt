-- What rounds do to the words of pairs.
use Rattle.std.proofs.Common.{◌≡◌, ℕ, zero, suc, ◌+◌, ◌<◌, ◌≤◌, Bool, true, false, nat_lt, cond, List, [], ◌∷◌, ◌++◌, length, take, get_or, Option, Some, None, slice_get, refl, ap, sym, ◌∙◌, subst, inl, inr, ◌⊎◌, arith, add-one}
use Rattle.std.specs.Option.{option_map_or}
use Rattle.std.proofs.Math.Seq.{take-suc}
use Rattle.std.proofs.lemmas.List.{get_or-map}
use native.Mathlib.Decide.{dec_lt}
use borrow.Author.Tests.{ltb-true, ltb-false}
use Rattle.rl_types.specs.declared.numbers.Letter.{Letter}
use Rattle.rl_sets.specs.Sets.{In}
use Rattle.rl_sets.proofs.SetLaws.{In-append_left, In-append_right, In-append_cases}
use Rattle.rl_fsm.proofs.PieceLaws.{All-In}
use Rattle.rl_minimal.specs.declared.state.MinEdge.{MinEdge}
use Rattle.rl_minimal.specs.declared.state.MinState.{MinState}
use Rattle.rl_minimal.specs.Minimal.{Minimal}
use Rattle.rl_minimal.specs.Machine.{edges_at}
use Rattle.rl_minimal.specs.Sound.{IsMinimal, IsEdge}
use Rattle.rl_certificate.specs.declared.order.Pair.{Pair}
use Rattle.rl_certificate.specs.declared.steps.Steps.{Steps}
use Rattle.rl_certificate.specs.Walks.{walk, target_on}
use Rattle.rl_certificate.specs.Views.{ShowSame}
use Rattle.rl_certificate.specs.Certificates.{Differ}
use Rattle.rl_certificate.specs.Firsts.{LetterBefore, TellsApart, IsFirstWord}
use Rattle.rl_certificate.specs.Steps.{AreSteps, AreRising, row_of}
use Rattle.rl_certificate.specs.Rounds.{own_letters, IsReal, IsTold, AreTold, IsRest, IsCandidate, IsNoStep, IsFirstStep, IsLed}
use Rattle.rl_certificate.specs.Tables.{Words, row_in, word_in, told_in, with_word, IsSquare, IsPair, AreOpen, AreKnown, IsNew, IsRounding, IsRound, IsTurned}
use Rattle.rl_certificate.specs.Founds.{IsFound, AreFound}
use Rattle.rl_certificate.proofs.ApartLaws.{shows_back, differ_back}
use Rattle.rl_certificate.proofs.ReachLaws.{leads_on}
use Rattle.rl_certificate.proofs.WordLaws.{letter_trans, letter_self}
use Rattle.rl_certificate.proofs.RoundLaws.{first_word, no_word, no_more}
use Rattle.rl_certificate.proofs.ShareLaws.{least, no_candidate}
use Rattle.rl_certificate.proofs.SearchPlaces.{ordered_at}
use Rattle.rl_certificate.proofs.TableLaws.{same_or_not, word_here, word_other, still_square}

some_is : {X : Type 0} (x y : X) → Some x ≡ Some y → x ≡ y
some_is x y e = cc

none_is : {X : Type 0} {Y : Type 0} (y : X) → None ≡ Some y → Y
none_is y e = cc

-- ---- steps lead to states but Error

real_by : (m : Minimal) → IsMinimal m → (i : ℕ) (o : Option MinState) → slice_get m.states i ≡ o → (e : MinEdge)
    → In e (option_map_or (λ (s : MinState). s.edges) o []) → IsReal m e.target
real_by m h i None q e j = absurd j
real_by m h i (Some s) q e j = let t = (All-In (IsEdge m.states s) s.edges e (h.states i s q).edges.each j).target in (t.alive, t.there)

pub target_real : (m : Minimal) → IsMinimal m → (i : ℕ) (l : Letter) (t : ℕ) → target_on m i l ≡ Some t → IsReal m t
target_real m h i l t q = let s = leads_on m i l t q in subst (IsReal m) s.end (real_by m h i (slice_get m.states i) refl s.edge s.there)

-- ---- the letters of a step

-- no letter that is as far as this one is before it
pub rising_front : (xs : List Letter) (i : ℕ) (x k : Letter) → AreRising xs → i < length xs → x ≡ get_or xs i x → In k xs → LetterBefore k x
    → In k (take i xs)
rising_front [] i x k r h q j b = absurd j
rising_front (y ∷ xs) zero x k r h q (inl e) b = absurd (letter_self x (subst (λ z. LetterBefore z x) (sym e ∙ sym q) b))
rising_front (y ∷ xs) zero x k r h q (inr j) b = absurd (letter_self x (letter_trans x k x (subst (λ z. LetterBefore z k) (sym q) (r.0 k j)) b))
rising_front (y ∷ xs) (suc i) x k r h q (inl e) b = inl e
rising_front (y ∷ xs) (suc i) x k r h q (inr j) b = inr (rising_front xs i x k r.1 (omega arith) q j b)

take_more : {X : Type 0} (xs : List X) (i : ℕ) (x z : X) → i < length xs → x ≡ get_or xs i x → In z (take (suc i) xs) → In z (take i xs) ⊎ (x ≡ z)
take_more [] i x z h q j = absurd j
take_more (y ∷ xs) zero x z h q (inl e) = inr (q ∙ e)
take_more (y ∷ xs) zero x z h q (inr j) = absurd j
take_more (y ∷ xs) (suc i) x z h q (inl e) = inl (inl e)
take_more (y ∷ xs) (suc i) x z h q (inr j) = elim (take_more xs i x z (omega arith) q j) [ inl k ↦ inl (inr k) | inr e ↦ inr e ]

take_all : {X : Type 0} (xs : List X) (i : ℕ) → length xs ≤ i → take i xs ≡ xs
take_all [] zero h = refl
take_all [] (suc i) h = refl
take_all (x ∷ xs) zero h = absurd (omega arith)
take_all (x ∷ xs) (suc i) h = ap (λ w. x ∷ w) (take_all xs i (omega arith))

module _ (m : Minimal) (letters : List Letter) (n : ℕ) (told : ℕ → ℕ → Option (List Letter)) (i j : ℕ) where
  -- none of the letters before a place is a step
  pub record IsPassed (place : ℕ) : Type 0 where
    pub none : IsNoStep m (take place letters) n told i j

  pub passed_first : IsPassed 0
  passed_first = record { none = λ k x y v h c. absurd h }

  pub passed_next : (place : ℕ) (l : Letter) → place < length letters → l ≡ get_or letters place l
      → ((q p : ℕ) (v : List Letter) → IsRest told n (target_on m i l) (target_on m j l) q p v → ⊥) → IsPassed place → IsPassed (place + 1)
  passed_next place l h q none k = record {
    none = λ z x y v a c. by z x y v c (take_more letters place l z h q (subst (λ w. In z (take w letters))
        (add-one place) a));
  }
    where
      by : (z : Letter) (x y : ℕ) (v : List Letter) → IsCandidate m n told i j z x y v → In z (take place letters) ⊎ (l ≡ z) → ⊥
      by z x y v c (inl a) = k.none z x y v a c
      by z x y v c (inr e) = none x y v (subst (λ w. IsCandidate m n told i j w x y v) (sym e) c)

  pub passed_found : AreRising letters → (place : ℕ) (l : Letter) → place < length letters → l ≡ get_or letters place l → (q p : ℕ) (rest : List Letter)
      → IsRest told n (target_on m i l) (target_on m j l) q p rest → IsPassed place → IsFirstStep m letters n told i j l rest
  passed_found r place l h e q p rest c k = record {
    q = q;
    p = p;
    candidate = c;
    least = λ z x y v a b d. k.none z x y v
        (rising_front letters place l z r h e a b) d;
  }

  pub passed_all : (place : ℕ) → length letters ≤ place → IsPassed place → IsNoStep m letters n told i j
  passed_all place h k = λ z x y v a c. k.none z x y v (subst (In z) (sym (take_all letters place h)) a) c

pub get_there : {X : Type 0} (xs : List X) (i : ℕ) (d : X) → i < length xs → In (get_or xs i d) xs
get_there [] i d h = absurd (omega arith)
get_there (x ∷ xs) zero d h = inl refl
get_there (x ∷ xs) (suc i) d h = inr (get_there xs i d (omega arith))

get_same : {X : Type 0} (xs : List X) (i : ℕ) (d : X) → i < length xs → get_or xs i d ≡ get_or xs i (get_or xs i d)
get_same [] i d h = absurd (omega arith)
get_same (x ∷ xs) zero d h = refl
get_same (x ∷ xs) (suc i) d h = other xs i d (get_or xs i d) (omega arith)
  where
    other : {X : Type 0} (xs : List X) (i : ℕ) (d e : X) → i < length xs → get_or xs i d ≡ get_or xs i e
    other [] i d e h = absurd (omega arith)
    other (x ∷ xs) zero d e h = refl
    other (x ∷ xs) (suc i) d e h = other xs i d e (omega arith)

-- the steps at a place of the rows
module _ (m : Minimal) (letters ls : List Letter) (n : ℕ) (told : ℕ → ℕ → Option (List Letter)) (i j : ℕ) (ones others : List (Option ℕ))
    (same : ls ≡ letters)
    (one : ones ≡ row_of m letters i) (other : others ≡ row_of m letters j) (place : ℕ) (g : place < length ls) (d : Letter) (a b : Option ℕ) where
  here : place < length letters
  here = subst (λ w. place < length w) same g

  step_at : (row : List (Option ℕ)) (k : ℕ) (x : Option ℕ) → row ≡ row_of m letters k → get_or row place x ≡ target_on m k (get_or letters place d)
  step_at row k x e = ap (λ w. get_or w place x) e ∙ get_or-map (λ (l : Letter). target_on m k l) letters place d x here

  pub step_found : AreRising letters → (rest : List Letter)
      → (q : ℕ) × (p : ℕ) × IsRest told n (get_or ones place a) (get_or others place b) q p rest → IsPassed m letters n told i j place
      → IsFirstStep m letters n told i j (get_or ls place d) rest
  step_found r rest t k =
      subst (λ w. IsFirstStep m letters n told i j (get_or w place d) rest) (sym same)
      (passed_found m letters n told i j r place (get_or letters place d) here (get_same letters place d here) t.0 t.1 rest
      (record {
        one_is = sym (step_at ones i a one) ∙ t.2.one_is;
        other_is = sym
            (step_at others j b other) ∙ t.2.other_is;
        rest_is = t.2.rest_is;
        count = t.2.count;
      }) k)

  pub step_passed : ((q p : ℕ) (v : List Letter) → IsRest told n (get_or ones place a) (get_or others place b) q p v → ⊥)
      → IsPassed m letters n told i j place → IsPassed m letters n told i j (place + 1)
  step_passed none k = passed_next m letters n told i j place (get_or letters place d) here (get_same letters place d here)
      (λ q p v t. none q p v (record {
        one_is = step_at ones i a one ∙ t.one_is;
        other_is = step_at others j b other ∙ t.other_is;
        rest_is =
            t.rest_is;
        count = t.count;
      })) k

length_more : {X : Type 0} (xs : List X) (x : X) → length (xs ++ x ∷ []) ≡ length xs + 1
length_more [] x = refl
length_more (y ∷ xs) x = let h = length_more xs x in let e : length (y ∷ (xs ++ x ∷ [])) ≡ suc (length (xs ++ x ∷ [])) = refl in let f : length
    (y ∷ xs) ≡ suc (length xs) = refl in omega arith

-- ---- the words of all pairs

module _ (m : Minimal) (homes : Bool) where
  shows_self : (i : ℕ) → ShowSame m homes i i
  shows_self i = record {
    from = refl;
    to = refl;
    eof = refl;
    error = refl;
    token = refl;
    verdict = refl;
    kind = refl;
    home = λ t. refl;
    steps = record { asked = λ k. refl; lists = λ l. refl };
  }

  same_apart : (o : Option ℕ) → Differ m homes o o → ⊥
  same_apart None d = d
  same_apart (Some i) d = d (shows_self i)

  apart_back : (w : List Letter) (i j : ℕ) → TellsApart m homes w i j → TellsApart m homes w j i
  apart_back w i j d = differ_back m homes (walk m w i) (walk m w j) d

  told_back : (n i j : ℕ) (o : Option (List Letter)) → IsTold m homes n i j o → IsTold m homes n j i o
  told_back n i j None t = (shows_back m homes i j t.0, λ w h d. t.1 w h (apart_back w j i d))
  told_back n i j (Some w) t = (record { apart = apart_back w i j t.0.apart; first = λ v d b. t.0.first v (apart_back v j i d) b }, t.1)

  abbrev pair_of : ℕ → ℕ → Pair
  pair_of i j = record { low = i; high = j }

  pub told_all : (n : ℕ) (words : Words) → AreKnown m homes n words → AreTold m homes n (told_in words)
  told_all n words k i j a b = by (nat_lt i j) refl
    where
      turned : nat_lt i j ≡ false → IsTold m homes n i j (word_in words j i)
      turned f = elim (dec_lt j i) [
        | yes h ↦ told_back n j i (word_in words j i) (k.each (pair_of j i) (record { alive = b.0; ordered = h; there = a.1 }))
        | no h ↦ let g : j ≤ i = ltb-false i j f in let e : i ≡ j = omega arith in
            subst (λ x. IsTold m homes n i x (word_in words x i)) e (subst (IsTold m homes n i i) (sym (k.own i a))
            (shows_self i, λ w l d. same_apart (walk m w i) d))
      ]

      by : (t : Bool) → nat_lt i j ≡ t → IsTold m homes n i j (cond t (word_in words i j) (word_in words j i))
      by true e = k.each (pair_of i j) (record { alive = a.0; ordered = ltb-true i j e; there = b.1 })
      by false e = turned e

  -- ---- one round

  module _ (h : IsMinimal m) (s : Steps) (steps : AreSteps m s) (n : ℕ) (old : Words) (known : AreKnown m homes n old) where
    there : (k : ℕ) (l : Letter) (t : ℕ) → target_on m k l ≡ Some t → IsReal m t
    there k l t q = target_real m h k l t q

    told : AreTold m homes n (told_in old)
    told = told_all n old known

    -- where the words differ, the new one is too long
    same_rest : (new : Words) → ((i j : ℕ) → (word_in new i j ≡ word_in old i j) ⊎ IsNew m homes n old new i j) → (i j : ℕ) (v : List Letter)
        → length v ≡ n
        → (word_in new i j ≡ Some v → word_in old i j ≡ Some v) × (word_in old i j ≡ Some v → word_in new i j ≡ Some v)
    same_rest new f i j v c = by (f i j)
      where
        by : (word_in new i j ≡ word_in old i j) ⊎ IsNew m homes n old new i j → (word_in new i j ≡ Some v
            → word_in old i j ≡ Some v) × (word_in old i j ≡ Some v → word_in new i j ≡ Some v)
        by (inl e) = (λ q. sym e ∙ q, λ q. e ∙ q)
        by (inr k) = (
          λ q. let z : length v ≡ n + 1 = ap length (some_is v k.word (sym q ∙ k.some)) ∙ k.count in absurd (omega arith),
          λ q. none_is v (sym k.none ∙ q),
        )

    same_told : (new : Words) → ((i j : ℕ) → (word_in new i j ≡ word_in old i j) ⊎ IsNew m homes n old new i j) → (q p : ℕ) (v : List Letter)
        → length v ≡ n
        → (told_in new q p ≡ Some v → told_in old q p ≡ Some v) × (told_in old q p ≡ Some v → told_in new q p ≡ Some v)
    same_told new f q p v c =
        elim (nat_lt q p) as (λ t. (cond t (word_in new q p) (word_in new p q) ≡ Some v → cond t (word_in old q p) (word_in old p q) ≡ Some v)
        × (cond t (word_in old q p) (word_in old p q) ≡ Some v → cond t (word_in new q p) (word_in new p q) ≡ Some v)) [
          | true ↦ same_rest new f q p v c
          | false ↦ same_rest new f p q v c
        ]

    has_own : (i j : ℕ) (l : Letter) → In l (own_letters (edges_at m i)) ⊎ In l (own_letters (edges_at m j)) → In l s.letters.items
    has_own i j l (inl a) = steps.own i l a
    has_own i j l (inr a) = steps.own j l a

    module _ (p : Pair) (new : Words) (f : (i j : ℕ) → (word_in new i j ≡ word_in old i j) ⊎ IsNew m homes n old new i j)
        (same : ShowSame m homes p.low p.high) (none : (w : List Letter) → length w ≤ n → TellsApart m homes w p.low p.high → ⊥) where
      to_old : (l : Letter) (x y : ℕ) (v : List Letter) → IsCandidate m n (told_in new) p.low p.high l x y v
          → IsCandidate m n (told_in old) p.low p.high l x y v
      to_old l x y v c = record { one_is = c.one_is; other_is = c.other_is; rest_is = (same_told new f x y v c.count).0 c.rest_is; count = c.count }

      to_new : (l : Letter) (x y : ℕ) (v : List Letter) → IsCandidate m n (told_in old) p.low p.high l x y v
          → IsCandidate m n (told_in new) p.low p.high l x y v
      to_new l x y v c = record { one_is = c.one_is; other_is = c.other_is; rest_is = (same_told new f x y v c.count).1 c.rest_is; count = c.count }

      pub led_first : (w : List Letter) → IsLed m s.letters.items n (told_in new) p.low p.high w → IsFirstWord m homes p.low p.high w × (length w ≡ n + 1)
      led_first w k =
          let t = k.step in
          let c = to_old k.letter t.q t.p k.rest t.candidate in
          let before = least m homes n (told_in old) p.low p.high (ordered_at m h p.low) (ordered_at m h p.high) same s.letters.items
          (has_own p.low p.high) k.letter
          (λ z x y v a b d. t.least z x y v a b (to_new z x y v d)) in (
            subst (IsFirstWord m homes p.low p.high) (sym k.word_is) (first_word m homes there n
                (told_in old) told p.low p.high same none k.letter t.q t.p k.rest c before),
            ap length k.word_is ∙ (let e : length (k.letter ∷ k.rest) ≡ suc (length k.rest) = refl in let g : length k.rest ≡ n = c.count in omega arith),
          )

      pub no_step : IsNoStep m s.letters.items n (told_in new) p.low p.high → (w : List Letter) → length w ≤ n + 1 → TellsApart m homes w p.low p.high → ⊥
      no_step k =
          no_word m homes there n (told_in old) told p.low p.high same none
          (no_candidate m homes n (told_in old) p.low p.high (ordered_at m h p.low) (ordered_at m h p.high) same s.letters.items (has_own p.low p.high)
          (λ z x y v a d. k z x y v a (to_new z x y v d)))

    -- ---- the turns of a round

    none_before : (p : Pair) → IsPair m p → word_in old p.low p.high ≡ None → ShowSame m homes p.low p.high × ((w : List Letter) → length w ≤ n
        → TellsApart m homes w p.low p.high → ⊥)
    none_before p r q = subst (IsTold m homes n p.low p.high) q (known.each p r)

    pub rounding_first : IsSquare (length m.states) old → IsRounding m homes n old old [] []
    rounding_first q = record {
      square = q;
      words = λ i j. inl refl;
      parted = λ p i. absurd i;
      still_is = λ p i. absurd i;
      few = omega arith;
      kept = λ e i j. refl;
    }

    module _ (new : Words) (over still : List Pair) (r : IsRounding m homes n old new over still) (p : Pair) (ip : IsPair m p)
        (none : word_in old p.low p.high ≡ None) where
      pub turn_led : (w : List Letter) → IsLed m s.letters.items n (told_in new) p.low p.high w → IsFirstWord m homes p.low p.high w × (length w ≡ n + 1)
      turn_led w k = let o = none_before p ip none in led_first p new r.words o.0 o.1 w k

      pub rounding_none : IsNoStep m s.letters.items n (told_in new) p.low p.high → IsRounding m homes n old new (over ++ p ∷ []) (still ++ p ∷ [])
      rounding_none k = record {
        square = r.square;
        words = r.words;
        parted = λ z i. parted_by z (In-append_cases z over (p ∷ []) i);
        still_is = λ z i. still_by z (In-append_cases z still (p ∷ []) i);
        few = let a = length_more still p in let b = length_more over p in let c = r.few in omega arith;
        kept = λ e. r.kept (let a = length_more still p in let b = length_more over p in omega arith);
      }
        where
          o : ShowSame m homes p.low p.high × ((w : List Letter) → length w ≤ n → TellsApart m homes w p.low p.high → ⊥)
          o = none_before p ip none

          parted_by : (z : Pair) → In z over ⊎ In z (p ∷ []) → ((w : List Letter) × (word_in new z.low z.high ≡ Some w)) ⊎ In z (still ++ p ∷ [])
          parted_by z (inl i) = elim (r.parted z i) [ inl q ↦ inl q | inr j ↦ inr (In-append_left z still (p ∷ []) j) ]
          parted_by z (inr i) = inr (In-append_right z still (p ∷ []) i)

          still_by : (z : Pair) → In z still ⊎ In z (p ∷ []) → In z (over ++ p ∷ []) × ((w : List Letter) → length w ≤ n + 1
              → TellsApart m homes w z.low z.high → ⊥)
          still_by z (inl i) = let x = r.still_is z i in (In-append_left z over (p ∷ []) x.0, x.1)
          still_by z (inr (inl e)) = (
            In-append_right z over (p ∷ []) (inl e),
            subst (λ (y : Pair). (w : List Letter) → length w ≤ n + 1 → TellsApart m homes w y.low y.high → ⊥) e (no_step p new r.words o.0 o.1 k),
          )
          still_by z (inr (inr a)) = absurd a

      pub rounding_found : (w : List Letter) → IsLed m s.letters.items n (told_in new) p.low p.high w
          → IsRounding m homes n old (with_word new p.low p.high w) (over ++ p ∷ []) still
      rounding_found w k = record {
        square = still_square new p.low p.high w high (length m.states) r.square;
        words = words_by;
        parted = λ z i. parted_by z (In-append_cases z over (p ∷ []) i);
        still_is = λ z i. let x = r.still_is z i in (In-append_left z over (p ∷ []) x.0, x.1);
        few = let b = length_more over p in let c = r.few in omega arith;
        kept = λ e. let b = length_more over p in let c = r.few in absurd (omega arith);
      }
        where
          fw : IsFirstWord m homes p.low p.high w × (length w ≡ n + 1)
          fw = turn_led w k

          high : p.low < length new
          high = subst (λ c. p.low < c) (sym r.square.count) (let a = ip.ordered in let b = ip.there in omega arith)

          wide : p.high < length (row_in new p.low)
          wide = subst (λ c. p.high < c) (sym (r.square.each p.low (let a = ip.ordered in let b = ip.there in omega arith))) ip.there

          here : word_in (with_word new p.low p.high w) p.low p.high ≡ Some w
          here = word_here new p.low p.high w high wide

          at : (i j : ℕ) → (word_in (with_word new p.low p.high w) i j ≡ word_in new i j) ⊎ ((i ≡ p.low) × (j ≡ p.high))
          at i j = elim (same_or_not i p.low) [
            | inl e ↦ elim (same_or_not j p.high) [
              | inl f ↦ inr (e, f)
              | inr f ↦ inl (word_other new p.low p.high w high i j (λ x y. f y))
            ]
            | inr e ↦ inl (word_other new p.low p.high w high i j (λ x y. e x))
          ]

          is_new : IsNew m homes n old (with_word new p.low p.high w) p.low p.high
          is_new = record { word = w; none = none; some = here; count = fw.1; first = fw.0 }

          moved : (i j : ℕ) → word_in (with_word new p.low p.high w) i j ≡ word_in new i j
              → (word_in new i j ≡ word_in old i j) ⊎ IsNew m homes n old new i j
              → (word_in (with_word new p.low p.high w) i j ≡ word_in old i j) ⊎ IsNew m homes n old (with_word new p.low p.high w) i j
          moved i j e (inl q) = inl (e ∙ q)
          moved i j e (inr x) = inr (record { word = x.word; none = x.none; some = e ∙ x.some; count = x.count; first = x.first })

          words_by : (i j : ℕ) → (word_in (with_word new p.low p.high w) i j ≡ word_in old i j) ⊎ IsNew m homes n old (with_word new p.low p.high w) i j
          words_by i j = elim (at i j) [
            | inl e ↦ moved i j e (r.words i j)
            | inr e ↦ inr (subst (λ x. IsNew m homes n old (with_word new p.low p.high w) x j) (sym e.0) (subst (λ x. IsNew m homes n old
                (with_word new p.low p.high w) p.low x) (sym e.1) is_new))
          ]

          kept_word : (z : Pair) (v : List Letter) → word_in new z.low z.high ≡ Some v
              → (v : List Letter) × (word_in (with_word new p.low p.high w) z.low z.high ≡ Some v)
          kept_word z v q = elim (at z.low z.high) [
            | inl e ↦ (v, e ∙ q)
            | inr e ↦ (w, (λ i. word_in (with_word new p.low p.high w) (e.0 i) (e.1 i)) ∙ here)
          ]

          parted_by : (z : Pair) → In z over ⊎ In z (p ∷ [])
              → ((v : List Letter) × (word_in (with_word new p.low p.high w) z.low z.high ≡ Some v)) ⊎ In z still
          parted_by z (inl i) = elim (r.parted z i) [ inl q ↦ inl (kept_word z q.0 q.1) | inr j ↦ inr j ]
          parted_by z (inr (inl e)) = inl (w, subst (λ (y : Pair). word_in (with_word new p.low p.high w) y.low y.high ≡ Some w) e here)
          parted_by z (inr (inr a)) = absurd a

    turn_by : (pairs : List Pair) (place : ℕ) (p : Pair) → IsPair m p → word_in old p.low p.high ≡ None → (new next : Words) (still after : List Pair)
        → IsRounding m homes n old new
        (take place pairs) still → IsTurned m s.letters.items n new next p still after → IsRounding m homes n old next
        (take place pairs ++ p ∷ []) after
    turn_by pairs place p ip q new next still after r (inl t) =
        subst (λ w. IsRounding m homes n old w (take place pairs ++ p ∷ []) after) (sym t.2)
        (subst (IsRounding m homes n old (with_word new p.low p.high t.0) (take place pairs ++ p ∷ [])) (sym t.3) (rounding_found new
        (take place pairs) still r p ip q t.0 t.1))
    turn_by pairs place p ip q new next still after r (inr t) =
        subst (λ w. IsRounding m homes n old w (take place pairs ++ p ∷ []) after) (sym t.1)
        (subst (IsRounding m homes n old new (take place pairs ++ p ∷ [])) (sym t.2) (rounding_none new (take place pairs) still r p ip q t.0))

    pub round_next : (pairs : List Pair) (place : ℕ) (d : Pair) → place < length pairs → AreOpen m old pairs → (new next : Words) (still after : List Pair)
        → IsRounding m homes n old new (take place pairs) still → IsTurned m s.letters.items n new next
        (get_or pairs place d) still after → IsRounding m homes n old next (take (place + 1) pairs) after
    round_next pairs place d g o new next still after r t =
        let x = o.each (get_or pairs place d) (get_there pairs place d g) in
        subst (λ w. IsRounding m homes n old next w after) (sym (ap (λ k. take k pairs) (add-one place) ∙ take-suc pairs place d g))
        (turn_by pairs place (get_or pairs place d) x.0 x.1 new next still after r t)

    -- ---- the end of a round

    pub round_over : (new : Words) (pairs still : List Pair) → AreOpen m old pairs → IsRounding m homes n old new pairs still
        → IsRound m homes n old new pairs still
    round_over new pairs still o r = record {
      square = r.square;
      known = record { each = λ p k. known_by p k (word_in new p.low p.high) refl; own = own_by };
      unknown = record {
        each = λ p i. let x = r.still_is p i in let y = o.each p x.0 in (
          y.0,
          open_by p y.1 x.1
              (word_in new p.low p.high) refl,
        );
        all = λ p k q. all_by p k q;
      };
      few = r.few;
      kept = r.kept;
    }
      where
        old_none : (i j : ℕ) → word_in new i j ≡ None → (word_in new i j ≡ word_in old i j) ⊎ IsNew m homes n old new i j → word_in old i j ≡ None
        old_none i j q (inl e) = sym e ∙ q
        old_none i j q (inr x) = none_is x.word (sym q ∙ x.some)

        all_by : (p : Pair) → IsPair m p → word_in new p.low p.high ≡ None → In p still
        all_by p k q = elim (r.parted p (o.all p k (old_none p.low p.high q (r.words p.low p.high)))) [
          | inl x ↦ none_is x.0 (sym q ∙ x.1)
          | inr i ↦ i
        ]

        longer : (p : Pair) (w : List Letter) → IsTold m homes n p.low p.high (Some w) → IsTold m homes (n + 1) p.low p.high (Some w)
        longer p w t = (t.0, let z : length w ≤ n = t.1 in omega arith)

        some_by : (p : Pair) (w : List Letter) → IsPair m p → word_in new p.low p.high ≡ Some w
            → (word_in new p.low p.high ≡ word_in old p.low p.high) ⊎ IsNew m homes n old new p.low p.high
            → IsTold m homes (n + 1) p.low p.high (Some w)
        some_by p w k q (inl e) = longer p w (subst (IsTold m homes n p.low p.high) (sym e ∙ q) (known.each p k))
        some_by p w k q (inr x) = subst (λ v. IsTold m homes (n + 1) p.low p.high (Some v)) (some_is x.word w (sym x.some ∙ q))
            (x.first, let z : length x.word ≡ n + 1 = x.count in omega arith)

        known_by : (p : Pair) → IsPair m p → (g : Option (List Letter)) → word_in new p.low p.high ≡ g
            → IsTold m homes (n + 1) p.low p.high (word_in new p.low p.high)
        known_by p k None q = subst (IsTold m homes (n + 1) p.low p.high) (sym q)
            ((none_before p k (old_none p.low p.high q (r.words p.low p.high))).0, (r.still_is p (all_by p k q)).1)
        known_by p k (Some w) q = subst (IsTold m homes (n + 1) p.low p.high) (sym q) (some_by p w k q (r.words p.low p.high))

        own_by : (i : ℕ) → IsReal m i → word_in new i i ≡ None
        own_by i k = elim (r.words i i) [
          | inl e ↦ e ∙ known.own i k
          | inr x ↦ absurd (same_apart (walk m x.word i) x.first.apart)
        ]

        apart_by : (p : Pair) (w : List Letter) → word_in old p.low p.high ≡ None → ((v : List Letter) → length v ≤ n + 1
            → TellsApart m homes v p.low p.high → ⊥)
            → word_in new p.low p.high ≡ Some w → (word_in new p.low p.high ≡ word_in old p.low p.high) ⊎ IsNew m homes n old new p.low p.high → ⊥
        apart_by p w q f e (inl d) = none_is w (sym q ∙ sym d ∙ e)
        apart_by p w q f e (inr x) = f x.word (let z : length x.word ≡ n + 1 = x.count in omega arith) x.first.apart

        open_by : (p : Pair) → word_in old p.low p.high ≡ None → ((v : List Letter) → length v ≤ n + 1 → TellsApart m homes v p.low p.high → ⊥)
            → (g : Option (List Letter)) → word_in new p.low p.high ≡ g → word_in new p.low p.high ≡ None
        open_by p q f None e = e
        open_by p q f (Some w) e = absurd (apart_by p w q f e (r.words p.low p.high))

    pub round_done : (new : Words) (pairs still : List Pair) (place : ℕ) → length pairs ≤ place → AreOpen m old pairs
        → IsRounding m homes n old new (take place pairs) still → IsRound m homes n old new pairs still
    round_done new pairs still place g o r = round_over new pairs still o (subst (λ w. IsRounding m homes n old new w still) (take_all pairs place g) r)

  -- ---- the last round

  module _ (h : IsMinimal m) (n : ℕ) (old new : Words) (pairs still : List Pair) (known : AreKnown m homes n old)
      (r : IsRound m homes n old new pairs still) (same : length still ≡ length pairs) where
    known_new : AreKnown m homes n new
    known_new = record {
      each = λ p k. subst (IsTold m homes n p.low p.high) (sym (r.kept same p.low p.high)) (known.each p k);
      own = λ i k. r.kept same i i ∙ known.own i k;
    }

    none_longer : (i j : ℕ) → IsReal m i → IsReal m j → told_in new i j ≡ None → (w : List Letter) → length w ≤ n + 1 → TellsApart m homes w i j → ⊥
    none_longer i j a b q = (subst (IsTold m homes (n + 1) i j) q (told_all (n + 1) new r.known i j a b)).1

    pub all_found : AreFound m homes (told_in new)
    all_found = record { each = λ i j a b c. by (pair_of i j) (record { alive = a; ordered = b; there = c }) (told_in new i j) refl }
      where
        low_real : (p : Pair) → IsPair m p → IsReal m p.low
        low_real p k = (k.alive, let a = k.ordered in let b = k.there in omega arith)

        high_real : (p : Pair) → IsPair m p → IsReal m p.high
        high_real p k = (let a = k.alive in let b = k.ordered in omega arith, k.there)

        by : (p : Pair) → IsPair m p → (g : Option (List Letter)) → told_in new p.low p.high ≡ g → IsFound m homes p.low p.high (told_in new p.low p.high)
        by p k (Some w) q = subst (IsFound m homes p.low p.high) (sym q) (subst (IsTold m homes n p.low p.high) q
            (told_all n new known_new p.low p.high (low_real p k) (high_real p k))).0
        by p k None q = subst (IsFound m homes p.low p.high) (sym q)
            (λ w. no_more m homes (λ i l t e. target_real m h i l t e) n (told_in new) (told_all n new known_new) none_longer w p.low p.high
            (low_real p k) (high_real p k) q)
