-- The first wrong element is one, and valid arrays have none.
use Rattle.std.proofs.Common.{◌≡◌, ℕ, ◌<◌, Some, None, sym, ap, ◌∙◌, arith, inl, inr}
use Rattle.std.specs.Prelude.{IfSome, slice_get}
use Rattle.std.proofs.lemmas.Bool.{cases_lt}
use Rattle.rl_arrays.specs.declared.arrays.Arrays.{Arrays}
use Rattle.rl_arrays.specs.declared.arrays.ArrayName.{ArrayName}
use Rattle.rl_arrays.specs.declared.arrays.BadValue.{BadValue}
use Rattle.rl_arrays.specs.declared.arrays.TheConstants.{ORDER}
use Rattle.rl_arrays.specs.Words.{IsFirstWrong}
use Rattle.rl_arrays.specs.Valid.{Right, span, FirstWrong, Valid, SoundBefore, IsFirstBad, IsBad}

pub not_both : (a : Arrays) (bad : BadValue) → Valid a → IsBad a bad → ⊥
not_both a bad valid (inl none) = none.version valid.version
not_both a bad valid (inr wrong) = wrong.index.1 (valid.each bad.array bad.index wrong.index.0)

-- of one array
one_index : (n : ℕ) (R : ℕ → Type 0) (i j : ℕ) → IsFirstWrong n R (Some i) → IsFirstWrong n R (Some j) → i ≡ j
one_index n R i j a b = elim (cases_lt i j) [
  | inl less ↦ absurd (a.1 (b.2 i less))
  | inr le ↦ elim (cases_lt j i) [ inl more ↦ absurd (b.1 (a.2 j more)) | inr ge ↦ omega arith ]
]

-- no array before it is wrong
sound_at : (a : Arrays) (array : ArrayName) (place n : ℕ) → slice_get ORDER place ≡ Some array → place < n → SoundBefore a n → FirstWrong a array None
sound_at a array place n e lt sound = let h : IfSome (slice_get ORDER place) (λ x. FirstWrong a x None) = sound place lt in rw e at h

one_place : (a : Arrays) (b c : BadValue) (B : IsFirstBad a b) (C : IsFirstBad a c) → B.place ≡ C.place
one_place a b c B C = elim (cases_lt B.place C.place) [
  | inl less ↦ absurd (B.index.1 (sound_at a b.array B.place C.place B.array less C.before b.index B.index.0))
  | inr le ↦ elim (cases_lt C.place B.place) [
    | inl more ↦ absurd (C.index.1 (sound_at a c.array C.place B.place C.array more B.before c.index C.index.0))
    | inr ge ↦ omega arith
  ]
]

one_first : (a : Arrays) (b c : BadValue) → IsFirstBad a b → IsFirstBad a c → b ≡ c
one_first a b c B C =
    let p : B.place ≡ C.place = one_place a b c B C in
    let e : Some b.array ≡ Some c.array = sym B.array ∙ ap (slice_get ORDER) p ∙ C.array in
    let n : b.array ≡ c.array = cc in
    let C' : FirstWrong a b.array (Some c.index) = rw n C.index in
    let i : b.index ≡ c.index = one_index (span a b.array) (Right a b.array) b.index c.index B.index C' in
    let make : ArrayName → ℕ → BadValue = λ x j. record { array = x; index = j } in
    ap (λ x. make x b.index) n ∙ ap (make c.array) i

pub one_bad : (a : Arrays) (b c : BadValue) → IsBad a b → IsBad a c → b ≡ c
one_bad a b c (inl B) (inl C) = B.told ∙ sym C.told
one_bad a b c (inl B) (inr C) = absurd (B.version C.version)
one_bad a b c (inr B) (inl C) = absurd (C.version B.version)
one_bad a b c (inr B) (inr C) = one_first a b c B C
