-- The first line of a text.
use Rattle.std.proofs.Common.{◌≡◌, ℕ, ◌+◌, ◌<◌, ◌≤◌, Bool, true, false, cond, List, [], ◌∷◌, length, take, drop, Some, None, position, refl, sym, ◌∙◌, ap, subst, arith, nat_lt, ◌==◌}
use Rattle.std.proofs.lemmas.Bool.Decides.{nat_tests}
use Rattle.std.proofs.lemmas.List.Splits.{slice_split_none, slice_split_first}
use Rattle.std.proofs.lemmas.List.Sums.{fails_before_first}
use Rattle.std.specs.List.{slice_split, onto_first, position_or_len}
use Rattle.rl_replay.specs.Script.{lines_of, without_last_empty}

abbrev ends : ℕ → Bool
ends b = b == 10

-- there is a first part
first_part : (text : List ℕ) → (part : List ℕ) × (parts : List (List ℕ)) × (slice_split ends text ≡ part ∷ parts)
first_part [] = ([], [], refl)
first_part (b ∷ text) = go (ends b) (first_part text)
  where
    go : (c : Bool) → ((part : List ℕ) × (parts : List (List ℕ)) × (slice_split ends text ≡ part ∷ parts)) →
        (part : List ℕ) × (parts : List (List ℕ)) × (cond c ([] ∷ slice_split ends text) (onto_first b (slice_split ends text)) ≡ part ∷ parts)
    go true h = ([], slice_split ends text, refl)
    go false (part, parts, e) = (b ∷ part, parts, ap (onto_first b) e)

keeps_first : (line part : List ℕ) (parts : List (List ℕ)) → without_last_empty (line ∷ part ∷ parts) ≡ line ∷ without_last_empty (part ∷ parts)
keeps_first [] part parts = refl
keeps_first (b ∷ line) part parts = refl

keeps_line : (line rest : List ℕ) → without_last_empty (line ∷ slice_split ends rest) ≡ line ∷ lines_of rest
keeps_line line rest =
    let (part, parts, e) = first_part rest in
    ap (λ ps. without_last_empty (line ∷ ps)) e ∙ keeps_first line part parts ∙ ap (λ ps. line ∷ without_last_empty ps) (sym e)

found_at : (n k : ℕ) (end : ℕ) → cond (nat_lt n k) (Some n) None ≡ Some end → (n ≡ end) × (n < k)
found_at n k end e = go (nat_lt n k) refl e
  where
    go : (b : Bool) → nat_lt n k ≡ b → cond b (Some n) None ≡ Some end → (n ≡ end) × (n < k)
    go true f e = (cc e, grind (arith, nat_tests))
    go false f e = absurd (cc e)

pub lines_at : (text : List ℕ) (end : ℕ) → position ends text ≡ Some end → (end < length text) × (lines_of text ≡ take end text ∷ lines_of (drop (end + 1) text))
lines_at text end e =
    let (same, below) = found_at (position_or_len ends text) (length text) end e in (
      subst (λ n. n < length text) same below,
      ap without_last_empty (slice_split_first ends text 0 below) ∙ keeps_line (take (position_or_len ends text) text) (drop (position_or_len ends text + 1) text)
          ∙ ap (λ n. take n text ∷ lines_of (drop (n + 1) text)) same,
    )

pub lines_all : (text : List ℕ) → position ends text ≡ None → 0 < length text → lines_of text ≡ text ∷ []
lines_all text e h = ap without_last_empty (slice_split_none ends text (λ k d below. fails_before_first ends text k d (omega (arith, past)))) ∙ only text h
  where
    past : length text ≤ position_or_len ends text
    past = go (nat_lt (position_or_len ends text) (length text)) refl e
      where
        go : (b : Bool) → nat_lt (position_or_len ends text) (length text) ≡ b → cond b (Some (position_or_len ends text)) None ≡ None → length text ≤ position_or_len ends text
        go true f e = absurd (cc e)
        go false f e = grind (arith, nat_tests)

    only : (text : List ℕ) → 0 < length text → without_last_empty (text ∷ []) ≡ text ∷ []
    only [] h = absurd (omega arith)
    only (b ∷ text) h = refl
