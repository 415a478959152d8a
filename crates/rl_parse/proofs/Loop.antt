-- A loop that reads a list, turn by turn, and what a fault in a part is for the whole.
use Rattle.std.proofs.Common.{◌≡◌, ℕ, zero, suc, ◌+◌, ◌-◌, ◌<◌, ◌≤◌, Bool, true, false, List, [], ◌∷◌, ◌++◌, length, Result, Ok, refl, sym, ap, ◌∙◌, arith}
use Rattle.rl_readers.specs.Readers.{◌>>=◌, sees, many, many_from}
use Rattle.rl_grammar.specs.declared.token.Token.{Token}
use Rattle.rl_grammar.specs.declared.token.TokenKind.{TokenKind}
use Rattle.rl_grammar.specs.declared.token.TokenKind.TheVariants as k
use Rattle.rl_parse.specs.Reading.{Reader, Fails}
use Rattle.rl_parse.specs.Rules.{kind_of, by_kind}
use Rattle.rl_parse.specs.declared.stop.Stop.{Stop}
use Rattle.rl_parse.specs.declared.stop.Stop.TheVariants.{Memory, At}

sees_kind : (begins : TokenKind → Bool) (ts : List Token) → begins (kind_of ts) ≡ true → begins k.End ≡ false → sees (by_kind begins) ts ≡ true
sees_kind begins [] e h = cc
sees_kind begins (t ∷ ts) e h = e

sees_no_kind : (begins : TokenKind → Bool) (ts : List Token) → begins (kind_of ts) ≡ false → sees (by_kind begins) ts ≡ false
sees_no_kind begins [] e = refl
sees_no_kind begins (t ∷ ts) e = e

one_more : {X : Type 0} {x : X} (f : ℕ → X) (n at : ℕ) → at < n → x ≡ f (n - at) → x ≡ f (suc (n - (at + 1)))
one_more f n at below e = let turn : n - at ≡ suc (n - (at + 1)) = omega arith in e ∙ ap f turn

no_more : {X : Type 0} {x : X} (f : ℕ → X) (n at : ℕ) → n ≤ at → x ≡ f (n - at) → x ≡ f 0
no_more f n at done e = let none : n - at ≡ 0 = omega arith in e ∙ ap f none

pub fails_bind : {A B : Type 0} (e : Stop) (r : Result A ℕ) (f : A → Result B ℕ) → Fails e r → Fails e (r >>= f)
fails_bind Memory r f h = tt
fails_bind (At n) r f h = rw h refl

pub fails_same : {A : Type 0} (e : Stop) (r s : Result A ℕ) → s ≡ r → Fails e r → Fails e s
fails_same Memory r s i h = tt
fails_same (At n) r s i h = i ∙ h

pub begun : {A : Type 0} (begins : TokenKind → Bool) (item : Reader A) (ts : List Token) → many (by_kind begins) item ts ≡ many_from (by_kind begins) item (length ts - 0) [] ts
begun begins item ts = let e : length ts - 0 ≡ length ts = omega arith in ap (λ n. many_from (by_kind begins) item n [] ts) (sym e)

module _ {A : Type 0} (begins : TokenKind → Bool) (not_end : begins k.End ≡ false) (item : Reader A) (n : ℕ) (whole : Result (List A × List Token) ℕ) where
  pub goes_on : (at : ℕ) (found : List A) (ts : List Token) (a : A) (r : List Token) → at < n → begins (kind_of ts) ≡ true → item ts ≡ Ok (a, r)
      → whole ≡ many_from (by_kind begins) item (n - at) found ts → whole ≡ many_from (by_kind begins) item (n - (at + 1)) (found ++ (a ∷ [])) r
  unfolding many_from
  goes_on at found ts a r below hit one e =
      let now = one_more (λ m. many_from (by_kind begins) item m found ts) n at below e in
      let seen = sees_kind begins ts hit not_end in
      rw (seen, one) at now

  pub ends : (at : ℕ) (found : List A) (ts : List Token) (e : Stop) → at < n → begins (kind_of ts) ≡ true → Fails e (item ts)
      → whole ≡ many_from (by_kind begins) item (n - at) found ts → Fails e whole
  unfolding many_from
  ends at found ts stop below hit fault e =
      let now = one_more (λ m. many_from (by_kind begins) item m found ts) n at below e in
      let seen = sees_kind begins ts hit not_end in
      let here : whole ≡ (item ts >>= (λ x. many_from (by_kind begins) item (n - (at + 1)) (found ++ (x.0 ∷ [])) x.1)) = rw seen at now in
      fails_same stop (item ts >>= (λ x. many_from (by_kind begins) item (n - (at + 1)) (found ++ (x.0 ∷ [])) x.1)) whole here
      (fails_bind stop (item ts) (λ x. many_from (by_kind begins) item (n - (at + 1)) (found ++ (x.0 ∷ [])) x.1) fault)

  at_rest : (m : ℕ) (found : List A) (ts : List Token) → begins (kind_of ts) ≡ false → many_from (by_kind begins) item m found ts ≡ Ok (found, ts)
  unfolding many_from
  at_rest zero found ts miss = refl
  at_rest (suc m) found ts miss = rw (sees_no_kind begins ts miss) refl

  pub stopped : (at : ℕ) (found : List A) (ts : List Token) → begins (kind_of ts) ≡ false → whole ≡ many_from (by_kind begins) item (n - at) found ts → whole ≡ Ok (found, ts)
  stopped at found ts miss e = e ∙ at_rest (n - at) found ts miss

  pub done : (at : ℕ) (found : List A) (ts : List Token) → n ≤ at → whole ≡ many_from (by_kind begins) item (n - at) found ts → whole ≡ Ok (found, ts)
  unfolding many_from
  done at found ts over e = no_more (λ m. many_from (by_kind begins) item m found ts) n at over e
