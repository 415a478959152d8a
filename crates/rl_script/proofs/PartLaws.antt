-- Texts cut into parts.
use Rattle.std.proofs.Common.{◌≡◌, ℕ, ◌+◌, ◌<◌, ◌≤◌, ◌==◌, Bool, true, false, cond, List, [], ◌∷◌, length, take, drop, Some, None, position, nat_lt, refl, sym, ◌∙◌, ap, arith}
use Rattle.std.proofs.lemmas.Bool.Decides.{nat_tests}
use Rattle.std.proofs.lemmas.List.Splits.{slice_split_none, slice_split_first}
use Rattle.std.proofs.lemmas.List.Sums.{fails_before_first}
use Rattle.std.specs.List.{onto_first, position_or_len}
use Rattle.rl_script.specs.Parts.{parts_at, words, is_one_word, AreNotFour}

-- there is a first part
pub first_part : (separator : ℕ) (text : List ℕ) → (part : List ℕ) × (parts : List (List ℕ)) × (parts_at separator text ≡ part ∷ parts)
first_part separator [] = ([], [], refl)
first_part separator (b ∷ text) = go (b == separator) (first_part separator text)
  where
    go : (c : Bool) → ((part : List ℕ) × (parts : List (List ℕ)) × (parts_at separator text ≡ part ∷ parts)) →
        (part : List ℕ) × (parts : List (List ℕ)) × (cond c ([] ∷ parts_at separator text) (onto_first b (parts_at separator text)) ≡ part ∷ parts)
    go true h = ([], parts_at separator text, refl)
    go false (part, parts, e) = (b ∷ part, parts, ap (onto_first b) e)

module _ (separator : ℕ) where
  abbrev separates : ℕ → Bool
  separates b = b == separator

  found_at : (n k : ℕ) (end : ℕ) → cond (nat_lt n k) (Some n) None ≡ Some end → (n ≡ end) × (n < k)
  found_at n k end e = go (nat_lt n k) refl e
    where
      go : (b : Bool) → nat_lt n k ≡ b → cond b (Some n) None ≡ Some end → (n ≡ end) × (n < k)
      go true f e = (cc e, grind (arith, nat_tests))
      go false f e = absurd (cc e)

  pub parts_cut : (text : List ℕ) (end : ℕ) → position separates text ≡ Some end → parts_at separator text ≡ take end text ∷ parts_at separator (drop (end + 1) text)
  parts_cut text end e =
      let (same, below) = found_at (position_or_len separates text) (length text) end e in
      slice_split_first separates text 0 below ∙ ap (λ n. take n text ∷ parts_at separator (drop (n + 1) text)) same

  pub parts_whole : (text : List ℕ) → position separates text ≡ None → parts_at separator text ≡ text ∷ []
  parts_whole text e = slice_split_none separates text (λ k d below. fails_before_first separates text k d (omega (arith, past)))
    where
      past : length text ≤ position_or_len separates text
      past = go (nat_lt (position_or_len separates text) (length text)) refl e
        where
          go : (b : Bool) → nat_lt (position_or_len separates text) (length text) ≡ b → cond b (Some (position_or_len separates text)) None ≡ None → length text ≤ position_or_len separates text
          go true f e = absurd (cc e)
          go false f e = grind (arith, nat_tests)

-- a text that is cut has two parts at least
module _ (separator : ℕ) (text before behind : List ℕ) (e : parts_at separator text ≡ before ∷ parts_at separator behind) where
  pub two_parts : (second : List ℕ) × (more : List (List ℕ)) × (parts_at separator text ≡ before ∷ second ∷ more)
  two_parts = let (second, more, f) = first_part separator behind in (second, more, e ∙ ap (λ parts. before ∷ parts) f)

pub not_one_word : (text before behind : List ℕ) → words text ≡ before ∷ words behind → false ≡ is_one_word (words text)
not_one_word text before behind e = let (second, more, f) = two_parts 32 text before behind e in sym (ap is_one_word f)

-- ---- four words
five_are_not_four : (parts : List (List ℕ)) (a b c d x : List ℕ) (more : List (List ℕ)) → parts ≡ a ∷ b ∷ c ∷ d ∷ x ∷ more → AreNotFour parts
five_are_not_four parts a b c d x more e = λ p q r s f. absurd (cc (sym e ∙ f))

module _ (text a b c x y z : List ℕ) (e : words text ≡ a ∷ words x) (f : words x ≡ b ∷ words y) where
  cut_twice : words text ≡ a ∷ b ∷ words y
  cut_twice = e ∙ ap (λ ws. a ∷ ws) f

  cut_thrice : words y ≡ c ∷ words z → words text ≡ a ∷ b ∷ c ∷ words z
  cut_thrice g = cut_twice ∙ ap (λ ws. a ∷ b ∷ ws) g

  pub more_than_four : (d rest : List ℕ) → words y ≡ c ∷ words z → words z ≡ d ∷ words rest → AreNotFour (words text)
  more_than_four d rest g h =
      let (second, more, k) = two_parts 32 z d rest h in
      five_are_not_four (words text) a b c d second more (cut_thrice g ∙ ap (λ ws. a ∷ b ∷ c ∷ ws) k)
