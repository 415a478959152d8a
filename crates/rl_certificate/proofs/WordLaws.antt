-- The order of words: it goes on, no word is before itself, and it is kept where a letter is put behind.
use Rattle.std.proofs.Common.{◌≡◌, ℕ, suc, ◌+◌, ◌<◌, ◌<ℤ◌, List, [], ◌∷◌, ◌++◌, length, refl, ap, sym, ◌∙◌, subst, inl, inr, ◌⊎◌, arith}
use Rattle.std.proofs.lemmas.Int.{ints}
use Rattle.rl_types.specs.declared.numbers.Letter.{Letter}
use Rattle.rl_certificate.specs.Firsts.{LetterBefore, LettersBefore, AccessBefore}

pub letter_trans : (a b c : Letter) → LetterBefore a b → LetterBefore b c → LetterBefore a c
letter_trans a b c (inl p) (inl q) = inl (omega (arith, ints))
letter_trans a b c (inl p) (inr q) = inl (subst (λ k. a.key <ℤ k) q.0 p)
letter_trans a b c (inr p) (inl q) = inl (subst (λ k. k <ℤ c.key) (sym p.0) q)
letter_trans a b c (inr p) (inr q) = inr (p.0 ∙ q.0, let x : a.truths < b.truths = p.1 in let y : b.truths < c.truths = q.1 in omega arith)

pub letter_self : (a : Letter) → LetterBefore a a → ⊥
letter_self a (inl p) = absurd (omega (arith, ints))
letter_self a (inr p) = let x : a.truths < a.truths = p.1 in absurd (omega arith)

pub letters_trans : (u v w : List Letter) → LettersBefore u v → LettersBefore v w → LettersBefore u w
letters_trans [] v w p q = absurd p
letters_trans (a ∷ u) [] w p q = absurd p
letters_trans (a ∷ u) (b ∷ v) [] p q = absurd q
letters_trans (a ∷ u) (b ∷ v) (c ∷ w) (inl p) (inl q) = inl (letter_trans a b c p q)
letters_trans (a ∷ u) (b ∷ v) (c ∷ w) (inl p) (inr q) = inl (subst (LetterBefore a) q.0 p)
letters_trans (a ∷ u) (b ∷ v) (c ∷ w) (inr p) (inl q) = inl (subst (λ x. LetterBefore x c) (sym p.0) q)
letters_trans (a ∷ u) (b ∷ v) (c ∷ w) (inr p) (inr q) = inr (p.0 ∙ q.0, letters_trans u v w p.1 q.1)

pub letters_self : (u : List Letter) → LettersBefore u u → ⊥
letters_self [] p = p
letters_self (a ∷ u) (inl p) = letter_self a p
letters_self (a ∷ u) (inr p) = letters_self u p.1

-- whatever letters are put behind
pub letters_behind : (u v : List Letter) (l k : Letter) → LettersBefore u v → LettersBefore (u ++ l ∷ []) (v ++ k ∷ [])
letters_behind [] v l k p = absurd p
letters_behind (a ∷ u) [] l k p = absurd p
letters_behind (a ∷ u) (b ∷ v) l k (inl p) = inl p
letters_behind (a ∷ u) (b ∷ v) l k (inr p) = inr (p.0, letters_behind u v l k p.1)

pub letters_last : (u : List Letter) (l k : Letter) → LetterBefore l k → LettersBefore (u ++ l ∷ []) (u ++ k ∷ [])
letters_last [] l k p = inl p
letters_last (a ∷ u) l k p = inr (refl, letters_last u l k p)

pub length_behind : (u : List Letter) (l : Letter) → length (u ++ l ∷ []) ≡ length u + 1
length_behind [] l = refl
length_behind (a ∷ u) l = let h = length_behind u l in let e : length (a ∷ (u ++ l ∷ [])) ≡ suc (length (u ++ l ∷ [])) = refl in let f : length (a ∷ u) ≡ suc (length u) = refl in omega arith

-- ---- with entries

abbrev Tail : ℕ → List Letter → ℕ → List Letter → Type 0
Tail e u f v = (e < f) ⊎ ((e ≡ f) × LettersBefore u v)

tail_trans : (e f g : ℕ) (u v w : List Letter) → Tail e u f v → Tail f v g w → Tail e u g w
tail_trans e f g u v w (inl p) (inl q) = inl (omega arith)
tail_trans e f g u v w (inl p) (inr q) = inl (subst (λ x. e < x) q.0 p)
tail_trans e f g u v w (inr p) (inl q) = inl (subst (λ x. x < g) (sym p.0) q)
tail_trans e f g u v w (inr p) (inr q) = inr (p.0 ∙ q.0, letters_trans u v w p.1 q.1)

pub access_trans : (e f g : ℕ) (u v w : List Letter) → AccessBefore e u f v → AccessBefore f v g w → AccessBefore e u g w
access_trans e f g u v w (inl p) (inl q) = inl (omega arith)
access_trans e f g u v w (inl p) (inr q) = inl (subst (λ n. length u < n) q.0 p)
access_trans e f g u v w (inr p) (inl q) = inl (subst (λ n. n < length w) (sym p.0) q)
access_trans e f g u v w (inr p) (inr q) = inr (p.0 ∙ q.0, tail_trans e f g u v w p.1 q.1)

tail_self : (e : ℕ) (u : List Letter) → Tail e u e u → ⊥
tail_self e u (inl p) = absurd (omega arith)
tail_self e u (inr p) = letters_self u p.1

pub access_self : (e : ℕ) (u : List Letter) → AccessBefore e u e u → ⊥
access_self e u (inl p) = absurd (omega arith)
access_self e u (inr p) = tail_self e u p.1

tail_behind : (e f : ℕ) (u v : List Letter) (l k : Letter) → Tail e u f v → Tail e (u ++ l ∷ []) f (v ++ k ∷ [])
tail_behind e f u v l k (inl p) = inl p
tail_behind e f u v l k (inr p) = inr (p.0, letters_behind u v l k p.1)

pub access_behind : (e f : ℕ) (u v : List Letter) (l k : Letter) → AccessBefore e u f v → AccessBefore e (u ++ l ∷ []) f (v ++ k ∷ [])
access_behind e f u v l k (inl p) = inl (let a = length_behind u l in let b = length_behind v k in omega arith)
access_behind e f u v l k (inr p) = inr (length_behind u l ∙ ap (λ n. n + 1) p.0 ∙ sym (length_behind v k), tail_behind e f u v l k p.1)

pub access_last : (e : ℕ) (u : List Letter) (l k : Letter) → LetterBefore l k → AccessBefore e (u ++ l ∷ []) e (u ++ k ∷ [])
access_last e u l k p = inr (length_behind u l ∙ sym (length_behind u k), inr (refl, letters_last u l k p))

-- a longer word is behind
pub access_longer : (e f : ℕ) (u v : List Letter) (l : Letter) → length u ≡ length v → AccessBefore e u f (v ++ l ∷ [])
access_longer e f u v l p = inl (let a = length_behind v l in omega arith)
