-- The pairs that stand in a certificate, one behind another.
use Rattle.std.proofs.Common.{◌≡◌, ℕ, suc, pos, ◌+◌, ◌-◌, ◌<◌, ◌≤◌, Bool, Option, Some, None, List, [], ◌∷◌, ◌++◌, map, length, All, append_assoc, append-nil, ap, sym, ◌∙◌, subst, inl, inr, ◌⊎◌, arith}
use native.Mathlib.Decide.{dec_lt}
use Rattle.std.specs.List.{flat_map, range_with_len}
use Rattle.std.proofs.lemmas.List.{map-append}
use Rattle.rl_types.specs.declared.numbers.Letter.{Letter}
use Rattle.rl_sets.specs.Sets.{In}
use Rattle.rl_sets.proofs.SetLaws.{In-append_cases}
use Rattle.rl_fsm.proofs.PieceLaws.{All-In, All-from_In}
use Rattle.rl_model.specs.Parts.{Context}
use Rattle.rl_minimal.specs.Minimal.{Minimal}
use Rattle.rl_minimal.specs.Sound.{IsMinimal}
use Rattle.rl_certificate.specs.declared.certificate.Apart.{Apart}
use Rattle.rl_certificate.specs.Certificates.{pairs_with, pairs_of, do_homes_count, IsApart}
use Rattle.rl_certificate.specs.Orders.{pairs_from}
use Rattle.rl_certificate.specs.Reduced.{IsReduced}
use Rattle.rl_certificate.specs.Firsts.{AreOwnHomes, IsFirstApart, IsFirstWord}
use Rattle.rl_certificate.specs.Founds.{IsFound, pair_of, ArePairs}
use Rattle.rl_certificate.proofs.OrderLaws.{range_front, range_none, row_none, pairs_none, pairs_front, all_pairs}
use Rattle.rl_certificate.proofs.ToldLaws.{told_apart}

-- ---- from one row of pairs to the next

abbrev rows_from : ℕ → ℕ → List (ℕ × ℕ)
rows_from n a = flat_map (pairs_with n) (range_with_len a (n - a))

abbrev two_rows : ℕ → ℕ → ℕ → ℕ → List (ℕ × ℕ)
two_rows n low high a = map (λ h. (low, h)) (range_with_len high (n - high)) ++ rows_from n a

row_front : (n a : ℕ) → a ≤ n → rows_from n a ≡ pairs_from n a (a + 1)
row_front n a h = elim (dec_lt a n) [
  | yes l ↦
      let e : suc a ≡ a + 1 = omega arith in
      ap (flat_map (pairs_with n)) (range_front a n l)
      ∙ ap (λ x. two_rows n a (suc a) x) (sym e)
      ∙ ap (λ x. two_rows n a x (suc a)) e
  | no o ↦ ap (flat_map (pairs_with n)) (range_none a n (omega arith)) ∙ sym (pairs_none n a (a + 1) (omega arith) (omega arith))
]

pub next_row : (n low high : ℕ) → n ≤ high → low < n → pairs_from n low high ≡ pairs_from n (low + 1) (low + 2)
next_row n low high h l =
    let e : suc low ≡ low + 1 = omega arith in
    let f : low + 1 + 1 ≡ low + 2 = omega arith in
    row_none n low high h ∙ ap (rows_from n) e ∙ row_front n (low + 1) (omega arith) ∙ ap (pairs_from n (low + 1)) f

-- ---- the pairs that stand there

all_more : {X : Type 0} (P : X → Type 0) (xs : List X) (x : X) → All P xs → P x → All P (xs ++ x ∷ [])
all_more {X = X} P xs x a p = All-from_In P (xs ++ x ∷ []) (λ y i. by y (In-append_cases y xs (x ∷ []) i))
  where
    by : (y : X) → In y xs ⊎ In y (x ∷ []) → P y
    by y (inl i) = All-In P xs y a i
    by y (inr (inl e)) = subst P e p
    by y (inr (inr n)) = absurd n

pub no_pairs : (m : Minimal) → 2 ≤ length m.states → ArePairs m [] 1 2
no_pairs m h = record {
  ordered = omega arith;
  pairs = sym (all_pairs (length m.states) h);
  right = All-from_In (IsApart m) [] (λ a i. absurd i);
  first = All-from_In (IsFirstApart m) [] (λ a i. absurd i);
}

same_pair : (m : Minimal) (p : Apart) (low high : ℕ) → p.low ≡ low → p.high ≡ high → low < high → high < length m.states → IsFirstApart m p → IsApart m p
same_pair m p low high a b l h f =
    record {
      ordered = omega arith;
      there = omega arith;
      differ = f.apart;
    }

pub pair_more : (m : Minimal) (apart : List Apart) (low high : ℕ) (p : Apart) → ArePairs m apart low high → high < length m.states
    → p.low ≡ low → p.high ≡ high → IsFirstApart m p → ArePairs m (apart ++ p ∷ []) low (high + 1)
pair_more m apart low high p k h a b f = record {
  ordered = let o : low < high = k.ordered in omega arith;
  pairs =
      ap (λ w. w ++ pairs_from (length m.states) low (high + 1)) (map-append pair_of apart (p ∷ []) ∙ (λ i. map pair_of apart ++ (a i, b i) ∷ []))
      ∙ append_assoc (map pair_of apart) ((low, high) ∷ []) (pairs_from (length m.states) low (high + 1))
      ∙ ap (λ w. map pair_of apart ++ w) (sym (pairs_front (length m.states) low high h))
      ∙ k.pairs;
  right = all_more (IsApart m) apart p k.right (same_pair m p low high a b k.ordered h f);
  first = all_more (IsFirstApart m) apart p k.first f;
}

pub row_done : (m : Minimal) (apart : List Apart) (low high : ℕ) → ArePairs m apart low high → length m.states ≤ high → low < length m.states
    → ArePairs m apart (low + 1) (low + 2)
row_done m apart low high k h l = record {
  ordered = omega arith;
  pairs = ap (λ w. map pair_of apart ++ w) (sym (next_row (length m.states) low high h l)) ∙ k.pairs;
  right = k.right;
  first = k.first;
}

pub pairs_done : (m : Minimal) (apart : List Apart) (low : ℕ) → ArePairs m apart low (low + 1) → length m.states ≤ low
    → map pair_of apart ≡ pairs_of (length m.states)
pairs_done m apart low k h =
    sym (append-nil (map pair_of apart))
    ∙ ap (λ w. map pair_of apart ++ w) (sym (pairs_none (length m.states) low (low + 1) (omega arith) (omega arith)))
    ∙ k.pairs

-- ---- each pair has a word

pub found_word : (m : Minimal) (homes : Bool) (i j : ℕ) (told : Option (List Letter)) (w : List Letter) → IsFound m homes i j told → told ≡ Some w
    → IsFirstWord m homes i j w
found_word m homes i j told w f e = subst (IsFound m homes i j) e f

any_context : Context
any_context = record {
  width = 0;
  key_of = λ n. record { 0 = pos 0 };
  statement = λ n k. None;
  action_name = λ n. [];
  condition_name = λ n. [];
  entry_name = λ n. [];
}

pub never_none : (m : Minimal) → IsMinimal m → IsReduced m → AreOwnHomes m → (i j : ℕ) (told : Option (List Letter)) → 0 < i → i < j → j < length m.states
    → IsFound m (do_homes_count m i j) i j told → told ≡ None → ⊥
never_none m sound reduced own i j told z l h f e = told_apart m sound reduced own any_context i j z l h (subst (IsFound m (do_homes_count m i j) i j) e f)
