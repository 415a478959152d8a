-- A round finds the first words of one letter more.
use Rattle.std.proofs.Common.{◌≡◌, ℕ, suc, ◌+◌, ◌≤◌, Bool, List, [], ◌∷◌, length, Option, Some, None, refl, ap, sym, ◌∙◌, subst, inl, inr, arith}
use native.Mathlib.Decide.{dec_lt}
use Rattle.rl_types.specs.declared.numbers.Letter.{Letter}
use Rattle.rl_minimal.specs.Minimal.{Minimal}
use Rattle.rl_certificate.specs.Walks.{and_then, walk, target_on}
use Rattle.rl_certificate.specs.Views.{ShowSame}
use Rattle.rl_certificate.specs.Certificates.{Differ}
use Rattle.rl_certificate.specs.Firsts.{LetterBefore, LettersBefore, WordBefore, TellsApart, IsFirstWord}
use Rattle.rl_certificate.specs.Rounds.{IsReal, IsTold, AreTold, IsCandidate}

some_is : {X : Type 0} (x y : X) → Some x ≡ Some y → x ≡ y
some_is x y e = cc

module _ (m : Minimal) (homes : Bool) where
  -- a word that tells two states apart begins with a step of both
  pub record StartsApart (i j : ℕ) (l : Letter) (w : List Letter) : Type 0 where
    pub q : ℕ
    pub p : ℕ
    pub one : target_on m i l ≡ Some q
    pub other : target_on m j l ≡ Some p
    pub apart : TellsApart m homes w q p

  starts_by : (i j : ℕ) (l : Letter) (w : List Letter) (o p : Option ℕ) → target_on m i l ≡ o → target_on m j l ≡ p
      → Differ m homes (and_then o (walk m w)) (and_then p (walk m w)) → StartsApart i j l w
  starts_by i j l w (Some a) (Some b) q r d = record { q = a; p = b; one = q; other = r; apart = d }
  starts_by i j l w (Some a) None q r d = absurd (never (walk m w a) d)
    where
      never : (o : Option ℕ) → Differ m homes o None → ⊥
      never None d = d
      never (Some x) d = d
  starts_by i j l w None (Some b) q r d = absurd d
  starts_by i j l w None None q r d = absurd d

  pub starts_apart : (i j : ℕ) (l : Letter) (w : List Letter) → TellsApart m homes (l ∷ w) i j → StartsApart i j l w
  starts_apart i j l w d = starts_by i j l w (target_on m i l) (target_on m j l) refl refl d

  pub led_apart : (i j : ℕ) (l : Letter) (w : List Letter) (q p : ℕ) → target_on m i l ≡ Some q → target_on m j l ≡ Some p
      → TellsApart m homes w q p → TellsApart m homes (l ∷ w) i j
  led_apart i j l w q p a b d = subst (λ o. Differ m homes (and_then o (walk m w)) (walk m (l ∷ w) j)) (sym a) (subst (λ o. Differ m homes
      (walk m w q) (and_then o (walk m w))) (sym b) d)

  module _ (there : (k : ℕ) (l : Letter) (t : ℕ) → target_on m k l ≡ Some t → IsReal m t) (n : ℕ) (told : ℕ → ℕ → Option (List Letter))
      (known : AreTold m homes n told) (i j : ℕ)
      (same : ShowSame m homes i j) (none : (w : List Letter) → length w ≤ n → TellsApart m homes w i j → ⊥) where
    -- a word of one letter more gives a candidate
    pub candidate : (l : Letter) (w : List Letter) → length w ≡ n → TellsApart m homes (l ∷ w) i j
        → (q : ℕ) × (p : ℕ) × (rest : List Letter) × IsCandidate m n told i j l q p rest
    candidate l w c d = let s = starts_apart i j l w d in by s (told s.q s.p) refl (known s.q s.p (there i l s.q s.one) (there j l s.p s.other))
      where
        by : (s : StartsApart i j l w) (o : Option (List Letter)) → told s.q s.p ≡ o → IsTold m homes n s.q s.p o
            → (q : ℕ) × (p : ℕ) × (rest : List Letter) × IsCandidate m n told i j l q p rest
        by s None t k = absurd (k.1 w (omega arith) s.apart)
        by s (Some v) t k = elim (dec_lt (length v) n) [
          | yes h ↦ absurd (none (l ∷ v) (let e : length (l ∷ v) ≡ suc (length v) = refl in omega arith)
              (led_apart i j l v s.q s.p s.one s.other k.0.apart))
          | no h ↦ (s.q, s.p, v, record { one_is = s.one; other_is = s.other; rest_is = t; count = let b : length v ≤ n = k.1 in omega arith })
        ]

    -- the candidate with the least letter gives the first word
    pub first_word : (l : Letter) (q p : ℕ) (rest : List Letter) → IsCandidate m n told i j l q p rest
        → ((k : Letter) (x y : ℕ) (v : List Letter) → IsCandidate m n told i j k x y v → LetterBefore k l → ⊥) → IsFirstWord m homes i j (l ∷ rest)
    first_word l q p rest c least = record {
      apart = led_apart i j l rest q p c.one_is c.other_is behind.apart;
      first = before;
    }
      where
        behind : IsFirstWord m homes q p rest
        behind = let k : IsTold m homes n q p (Some rest) = subst (IsTold m homes n q p) c.rest_is (known q p (there i l q c.one_is)
            (there j l p c.other_is)) in k.0

        before : (v : List Letter) → TellsApart m homes v i j → WordBefore v (l ∷ rest) → ⊥
        before [] d b = d same
        before (k ∷ v) d (inl h) = none (k ∷ v) (let e : length (l ∷ rest) ≡ suc
            (length rest) = refl in let f : length rest ≡ n = c.count in omega arith) d
        before (k ∷ v) d (inr h) = by h.1
          where
            count : length v ≡ n
            count = let e : length (l ∷ rest) ≡ suc (length rest) = refl in let f : length rest ≡ n = c.count in let g : length (k ∷ v) ≡ suc
                (length v) = refl in let z : length (k ∷ v) ≡ length (l ∷ rest) = h.0 in omega arith

            by : LettersBefore (k ∷ v) (l ∷ rest) → ⊥
            by (inl a) = let x = candidate k v count d in least k x.0 x.1 x.2 x.3 a
            by (inr a) = let s = starts_apart i j k v d in
                behind.first v
                (subst (λ z. TellsApart m homes v q z) (some_is s.p p (sym s.other ∙ ap (target_on m j) a.0 ∙ c.other_is))
                (subst (λ z. TellsApart m homes v z s.p) (some_is s.q q (sym s.one ∙ ap (target_on m i) a.0 ∙ c.one_is)) s.apart))
                (inr (count ∙ sym c.count, a.1))

    -- where there is no candidate no word of one letter more tells them apart
    pub no_word : ((k : Letter) (x y : ℕ) (v : List Letter) → IsCandidate m n told i j k x y v → ⊥) → (w : List Letter) → length w ≤ n + 1
        → TellsApart m homes w i j → ⊥
    no_word c [] h d = d same
    no_word c (l ∷ w) h d = elim (dec_lt (length w) n) [
      | yes b ↦ none (l ∷ w) (let e : length (l ∷ w) ≡ suc (length w) = refl in omega arith) d
      | no b ↦ let x = candidate l w (let e : length (l ∷ w) ≡ suc (length w) = refl in omega arith) d in c l x.0 x.1 x.2 x.3
    ]

-- ---- where a round finds nothing there are no more words

module _ (m : Minimal) (homes : Bool) (there : (k : ℕ) (l : Letter) (t : ℕ) → target_on m k l ≡ Some t → IsReal m t) (n : ℕ) (told : ℕ → ℕ → Option
    (List Letter)) (known : AreTold m homes n told)
    (found : (i j : ℕ) → IsReal m i → IsReal m j → told i j ≡ None → (w : List Letter) → length w ≤ n + 1 → TellsApart m homes w i j → ⊥) where
  pub no_more : (w : List Letter) (i j : ℕ) → IsReal m i → IsReal m j → told i j ≡ None → TellsApart m homes w i j → ⊥
  no_more [] i j a b t d = found i j a b t [] (omega arith) d
  no_more (l ∷ w) i j a b t d =
      let s = starts_apart m homes i j l w d in
      let x = there i l s.q s.one in
      let y = there j l s.p s.other in
      by s (no_more w s.q s.p x y) (told s.q s.p) refl (known s.q s.p x y)
    where
      by : (s : StartsApart m homes i j l w) → (told s.q s.p ≡ None → TellsApart m homes w s.q s.p → ⊥) → (o : Option (List Letter))
          → told s.q s.p ≡ o → IsTold m homes n s.q s.p o → ⊥
      by s later None e k = later e s.apart
      by s later (Some v) e k = found i j a b t (l ∷ v) (let z : length v ≤ n = k.1 in let c : length (l ∷ v) ≡ suc
          (length v) = refl in omega arith) (led_apart m homes i j l v s.q s.p s.one s.other k.0.apart)
