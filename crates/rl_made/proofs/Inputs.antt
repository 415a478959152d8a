-- The made input line by line, and its length.
use Rattle.std.proofs.Common.{◌≡◌, ℕ, zero, suc, ◌+◌, ◌*◌, ◌^◌, ◌%◌, ◌<◌, ◌≤◌, List, [], ◌∷◌, ◌++◌, length, refl, sym, ◌∙◌, ap, subst, arith, append-nil, append_assoc, add-one}
use Rattle.std.specs.Prelude.{flat_map, decimal}
use Rattle.std.specs.List.{range_with_len}
use Rattle.std.proofs.Math.ListN.{replicate, length-append}
use Rattle.std.proofs.Math.Nat.{mod-lt}
use Rattle.std.proofs.lemmas.Grind.{flat_map-append}
use Rattle.std.proofs.lemmas.Fmt.{length-decimal-le}
use Rattle.rl_run.specs.declared.calls.Verdict.{Verdict}
use Rattle.rl_run.specs.declared.sessions.Settings.{Settings}
use Rattle.rl_arrays.specs.declared.arrays.Arrays.{Arrays}
use Rattle.rl_made.specs.Made.{made_line, made_input, pieces_of, told_text, tokens_over, verdict_over, made_text}

range_more : (a n : ℕ) → range_with_len a (suc n) ≡ range_with_len a n ++ (a + n) ∷ []
range_more a zero = ap (λ k. k ∷ []) (omega arith)
range_more a (suc n) =
    ap (λ rest. a ∷ rest) (range_more (a + 1) n ∙ ap (λ k. range_with_len (a + 1) n ++ k ∷ []) (shifted a n))
  where
    shifted : (a n : ℕ) → a + 1 + n ≡ a + suc n
    shifted a n = omega arith

pub line_more : (n : ℕ) → made_input (suc n) ≡ made_input n ++ made_line n
line_more n =
    ap (λ r. flat_map made_line r) (range_more 0 n)
    ∙ flat_map-append made_line (range_with_len 0 n) ((0 + n) ∷ [])
    ∙ ap (λ line. made_input n ++ line) (append-nil (made_line (0 + n)) ∙ ap made_line (front n))
  where
    front : (n : ℕ) → 0 + n ≡ n
    front n = omega arith

length-replicate : (n x : ℕ) → length (replicate n x) ≡ n
length-replicate zero x = refl
length-replicate (suc n) x = ap suc (length-replicate n x)

line_long : (xs ds : List ℕ) → length (xs ++ 32 ∷ ds ++ 10 ∷ []) ≡ length xs + length ds + 2
line_long [] ds = ap suc (length-append ds (10 ∷ [])) ∙ same (length ds)
  where
    same : (n : ℕ) → suc (n + 1) ≡ 0 + n + 2
    same n = omega arith
line_long (x ∷ xs) ds = ap suc (line_long xs ds) ∙ same (length xs) (length ds)
  where
    same : (m n : ℕ) → suc (m + n + 2) ≡ suc m + n + 2
    same m n = omega arith

line_short : (n : ℕ) → n < 1000000 → length (made_line n) ≤ 13
line_short n h =
    let letters : length (replicate (n % 5 + 1) 97) ≡ n % 5 + 1 = length-replicate (n % 5 + 1) 97 in
    let below : n % 5 < 5 = mod-lt n (omega arith) in
    let digits : length (decimal n) ≤ 6 = length-decimal-le 6 n (omega arith) (omega (arith, h)) (omega (arith, h)) in
    let long : length (made_line n) ≡ length (replicate (n % 5 + 1) 97) + length (decimal n) + 2 = line_long (replicate (n % 5 + 1) 97) (decimal n) in
    omega (arith, letters, below, digits, long)

pub input_short : (n : ℕ) → n ≤ 1000000 → length (made_input n) ≤ 13 * n
input_short zero h = omega arith
input_short (suc n) h =
    let ih : length (made_input n) ≤ 13 * n = input_short n (omega arith) in
    let line : length (made_line n) ≤ 13 = line_short n (omega arith) in
    let more : length (made_input (suc n)) ≡ length (made_input n ++ made_line n) = ap length (line_more n) in
    let split : length (made_input n ++ made_line n) ≡ length (made_input n) + length (made_line n) = length-append (made_input n) (made_line n) in
    omega (arith, ih, line, more, split)

pub one_line_more : (n : ℕ) → made_input (n + 1) ≡ made_input n ++ made_line n
one_line_more n = ap made_input (add-one n) ∙ line_more n

pub small_input : (n : ℕ) (text : List ℕ) → n ≤ 1000000 → text ≡ made_input n → length text < 2 ^ 63
small_input n text h e = let short = input_short n h in let same = ap length e in omega (arith, short, same, h)

pub text_same : (a : Arrays) (settings : Settings) (n : ℕ) (input : List ℕ) (bytes pieces tokens : ℕ) (verdict : Verdict) → input ≡ made_input n → bytes ≡ length input →
    pieces ≡ length (pieces_of input) → tokens ≡ tokens_over a settings input → verdict ≡ verdict_over a settings input →
    told_text n bytes pieces tokens verdict ≡ made_text a settings n
text_same a settings n input bytes pieces tokens verdict i b p t v =
    (λ j. told_text n (b j) (p j) (t j) (v j))
    ∙ ap (λ text. told_text n (length text) (length (pieces_of text)) (tokens_over a settings text) (verdict_over a settings text)) i
