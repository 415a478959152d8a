-- The characters of bytes.
use Rattle.std.proofs.Common.{◌≡◌, ℕ, zero, suc, ◌+◌, ◌*◌, ◌-◌, ◌<◌, ◌≤◌, Bool, true, false, not, cond, List, [], ◌∷◌, ◌++◌, Option, Some, None, length, take, drop, get_or, refl, sym, ◌∙◌, ap, subst, arith, nat_lt, nat_le}
use Rattle.std.specs.Prelude.{◌/◌, ◌%◌, ◌==◌, slice_get}
use Rattle.std.specs.Option.{option_map}
use Rattle.std.proofs.lemmas.Bool.Decides.{nat_tests}
use Rattle.std.proofs.lemmas.List.{length-drop, length-append, get_or-drop, drop-drop, drop_more, drop-append-le, take-append-le, take-append-drop}
use Rattle.std.proofs.lemmas.List.FromFn.{length-map-range_with_len, get_or-map-range_with_len, fill_by_all}
use Rattle.std.proofs.lemmas.Option.{slice_get_within, slice_get_past, slice_get-get_or}
use Rattle.std.proofs.lemmas.Nat.{le-div}
use Rattle.std.proofs.Math.Nat.{mul-add-div, mul-div-le, mul-le-mul_left, div-le_of_le-mul, div-le_self, mul_comm, mul-suc, one-mul, div-one, mod-one, add-mul-mod_self_left}
use Rattle.rl_types.specs.declared.alphabet.Alphabet.{Alphabet}
use Rattle.rl_types.specs.declared.alphabet.Alphabet.TheVariants.{Char, UnsignedChar, Short, UnsignedShort, Int, UnsignedInt}
use Rattle.rl_types.specs.declared.numbers.Key.{Key}
use Rattle.rl_types.specs.Alphabet.{width_of, key_of, key_at, number_of, group_at, characters, has_rest}

-- ---- which characters there are

mul-one-more : (w i : ℕ) → w * (i + 1) ≡ w * i + w
mul-one-more w i = subst (λ n. w * n ≡ w * i + w) (omega arith) (mul-suc w i)

-- a character is there exactly where all its bytes are
pub whole_within : (w n i : ℕ) → 0 < w → w * i + w ≤ n → i < n / w
whole_within w n i some h =
    let less : i + 1 ≤ n / w = le-div (i + 1) n w some (subst (λ k. k ≤ n) (sym (mul_comm (i + 1) w ∙ mul-one-more w i)) h) in
    omega arith

pub within_whole : (w n i : ℕ) → i < n / w → w * i + w ≤ n
within_whole w n i h =
    let less : i + 1 ≤ n / w = omega arith in
    let a : w * (i + 1) ≤ w * (n / w) = mul-le-mul_left w less in
    let b : w * (n / w) ≤ n = mul-div-le n w in
    let c : w * (i + 1) ≡ w * i + w = mul-one-more w i in
    omega arith

pub length-characters : (w : ℕ) (bytes : List ℕ) → length (characters w bytes) ≡ length bytes / w
unfolding characters
length-characters w bytes = length-map-range_with_len (λ i. group_at w bytes (w * i)) 0 (length bytes / w)

pub get_or-characters : (w : ℕ) (bytes : List ℕ) (i d : ℕ) → i < length bytes / w → get_or (characters w bytes) i d ≡ group_at w bytes (w * i)
unfolding characters
get_or-characters w bytes i d h = get_or-map-range_with_len (λ i. group_at w bytes (w * i)) 0 (length bytes / w) i i d h (omega arith)

pub character_here : (w : ℕ) (bytes : List ℕ) (i : ℕ) → i < length bytes / w → slice_get (characters w bytes) i ≡ Some (group_at w bytes (w * i))
character_here w bytes i h =
    slice_get-get_or (characters w bytes) i 0 (subst (λ n. i < n) (sym (length-characters w bytes)) h) ∙ ap Some (get_or-characters w bytes i 0 h)

pub no_character : (w : ℕ) (bytes : List ℕ) (i : ℕ) → length bytes / w ≤ i → slice_get (characters w bytes) i ≡ None
no_character w bytes i h = slice_get_past (characters w bytes) i (subst (λ n. n ≤ i) (sym (length-characters w bytes)) h)

pub character_within : (w : ℕ) (bytes : List ℕ) (i c : ℕ) → slice_get (characters w bytes) i ≡ Some c → i < length bytes / w
character_within w bytes i c e = subst (λ n. i < n) (length-characters w bytes) (slice_get_within (characters w bytes) i c e)

pub width_some : (alphabet : Alphabet) → 0 < width_of alphabet
width_some Char = omega arith
width_some UnsignedChar = omega arith
width_some Short = omega arith
width_some UnsignedShort = omega arith
width_some Int = omega arith
width_some UnsignedInt = omega arith

-- the key at the bytes of a character is the key of that character
pub key_at_character : (alphabet : Alphabet) (bytes : List ℕ) (i : ℕ) →
    key_at alphabet bytes (width_of alphabet * i) ≡ option_map (key_of alphabet) (slice_get (characters (width_of alphabet) bytes) i)
key_at_character alphabet bytes i = go (nat_le (width_of alphabet * i + width_of alphabet) (length bytes)) refl
  where
    go : (b : Bool) → nat_le (width_of alphabet * i + width_of alphabet) (length bytes) ≡ b →
        cond b (Some (key_of alphabet (group_at (width_of alphabet) bytes (width_of alphabet * i)))) None
        ≡ option_map (key_of alphabet) (slice_get (characters (width_of alphabet) bytes) i)
    go true e =
        let fits : width_of alphabet * i + width_of alphabet ≤ length bytes = grind (arith, nat_tests) in
        ap (option_map (key_of alphabet)) (sym (character_here (width_of alphabet) bytes i (whole_within (width_of alphabet) (length bytes) i (width_some alphabet) fits)))
    go false e = ap (option_map (key_of alphabet)) (sym (no_character (width_of alphabet) bytes i (past (width_of alphabet) (length bytes) e)))
      where
        past : (w n : ℕ) → nat_le (w * i + w) n ≡ false → n / w ≤ i
        past w n e = by (nat_lt i (n / w)) refl
          where
            by : (b : Bool) → nat_lt i (n / w) ≡ b → n / w ≤ i
            by true f =
                let within : w * i + w ≤ n = within_whole w n i (grind (arith, nat_tests)) in
                absurd (grind (arith, nat_tests))
            by false f = grind (arith, nat_tests)

-- ---- the characters behind a place, and of a front

rest_of_quotient : (w n k : ℕ) → 0 < w → (n - w * k) / w ≡ n / w - k
rest_of_quotient w n k some = go (nat_le (w * k) n) refl
  where
    go : (b : Bool) → nat_le (w * k) n ≡ b → (n - w * k) / w ≡ n / w - k
    go true e =
        let fits : w * k ≤ n = grind (arith, nat_tests) in
        let a : n / w ≡ k + (n - w * k) / w = subst (λ m. m / w ≡ k + (n - w * k) / w) (omega arith) (mul-add-div some k (n - w * k)) in
        omega arith
    go false e =
        let short : n ≤ w * k = grind (arith, nat_tests) in
        let low : n / w ≤ k = div-le_of_le-mul w short in
        let none : (n - w * k) / w ≤ n - w * k = div-le_self (n - w * k) w in
        omega arith

pub drop-characters : (w k : ℕ) (bytes : List ℕ) → 0 < w → drop k (characters w bytes) ≡ characters w (drop (w * k) bytes)
unfolding characters
drop-characters w k bytes some =
    fill_by_all (λ i. group_at w (drop (w * k) bytes) (w * i)) (drop k (characters w bytes)) (length (drop (w * k) bytes) / w) 0 long same
  where
    behind : length (drop (w * k) bytes) / w ≡ length bytes / w - k
    behind = ap (λ n. n / w) (length-drop (w * k) bytes) ∙ rest_of_quotient w (length bytes) k some

    long : length (drop k (characters w bytes)) ≡ length (drop (w * k) bytes) / w
    long = length-drop k (characters w bytes) ∙ ap (λ n. n - k) (length-characters w bytes) ∙ sym behind

    places : (i : ℕ) → w * (k + i) ≡ w * k + w * i
    places i = omega arith

    same : (i : ℕ) → i < length (drop (w * k) bytes) / w → get_or (drop k (characters w bytes)) i 0 ≡ group_at w (drop (w * k) bytes) (w * i)
    same i h =
        let within : k + i < length bytes / w = omega (arith, behind) in
        get_or-drop k (characters w bytes) i 0 ∙ get_or-characters w bytes (k + i) 0 within
        ∙ ap (λ at. number_of (take w (drop at bytes))) (places i) ∙ sym (ap (λ xs. number_of (take w xs)) (drop-drop (w * i) (w * k) bytes))

pub characters_of_front : (w : ℕ) (xs ys : List ℕ) (i c : ℕ) → slice_get (characters w xs) i ≡ Some c → slice_get (characters w (xs ++ ys)) i ≡ Some c
characters_of_front w xs ys i c e = go (nat_lt 0 w) refl
  where
    within : i < length xs / w
    within = character_within w xs i c e

    bytes : w * i + w ≤ length xs
    bytes = within_whole w (length xs) i within

    longer : length xs ≤ length (xs ++ ys)
    longer = omega (arith, length-append xs ys)

    group : group_at w (xs ++ ys) (w * i) ≡ group_at w xs (w * i)
    group =
        let front : w ≤ length (drop (w * i) xs) = omega (arith, length-drop (w * i) xs, bytes) in
        ap (λ zs. number_of (take w zs)) (drop-append-le (w * i) xs ys (omega (arith, bytes))) ∙ ap number_of (take-append-le w (drop (w * i) xs) ys front)

    here : Some (group_at w xs (w * i)) ≡ Some c
    here = sym (character_here w xs i within) ∙ e

    go : (b : Bool) → nat_lt 0 w ≡ b → slice_get (characters w (xs ++ ys)) i ≡ Some c
    go true f =
        let some : 0 < w = grind (arith, nat_tests) in
        character_here w (xs ++ ys) i (whole_within w (length (xs ++ ys)) i some (omega (arith, bytes, longer))) ∙ ap Some group ∙ here
    go false f =
        let none : w ≡ 0 = grind (arith, nat_tests) in
        absurd (no (subst (λ n. i < length xs / n) none within))
      where
        no : i < length xs / 0 → ⊥
        no h = omega arith

pub characters_of_take : (w n : ℕ) (xs : List ℕ) (i c : ℕ) → slice_get (characters w (take n xs)) i ≡ Some c → slice_get (characters w xs) i ≡ Some c
characters_of_take w n xs i c e =
    subst (λ zs. slice_get (characters w zs) i ≡ Some c) (take-append-drop n xs) (characters_of_front w (take n xs) (drop n xs) i c e)

-- ---- characters of one byte

pub characters-one : (bytes : List ℕ) → characters 1 bytes ≡ bytes
unfolding characters
characters-one bytes = sym (fill_by_all (λ i. group_at 1 bytes (1 * i)) bytes (length bytes / 1) 0 (sym (div-one (length bytes))) same)
  where
    same : (i : ℕ) → i < length bytes / 1 → get_or bytes i 0 ≡ group_at 1 bytes (1 * i)
    same i h =
        let within : i < length bytes = subst (λ n. i < n) (div-one (length bytes)) h in
        let alone : get_or bytes i 0 + 0 ≡ get_or bytes i 0 = omega arith in
        sym (ap (λ at. number_of (take 1 (drop at bytes))) (one-mul i) ∙ ap (λ xs. number_of (take 1 xs)) (drop_more bytes i 0 within) ∙ alone)

pub has_rest-drop : (w k : ℕ) (bytes : List ℕ) → w * k ≤ length bytes → has_rest w (drop (w * k) bytes) ≡ has_rest w bytes
has_rest-drop w k bytes fits = ap (λ n. not (n == 0)) same
  where
    same : length (drop (w * k) bytes) % w ≡ length bytes % w
    same =
        let n = length bytes in
        let whole : (n - w * k) + w * k ≡ n = omega arith in
        ap (λ m. m % w) (length-drop (w * k) bytes) ∙ sym (add-mul-mod_self_left (n - w * k) w k) ∙ ap (λ m. m % w) whole

pub has_rest-one : (bytes : List ℕ) → has_rest 1 bytes ≡ false
has_rest-one bytes = ap (λ n. not (n == 0)) (mod-one (length bytes))
