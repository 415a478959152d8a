-- Refusals that tokens decide, and faults of a front of the tokens.
use Rattle.std.proofs.Common.{◌≡◌, ℕ, zero, suc, ◌+◌, ◌<◌, ◌≤◌, List, [], ◌∷◌, length, take, get_or, Option, Some, None, inl, inr, refl, sym, ap, ◌∙◌, subst, arith, length-take}
use Rattle.std.proofs.lemmas.List.{take-take, append-nil}
use Rattle.std.proofs.lemmas.Bool.{cases_order}
use Rattle.rl_types.specs.declared.numbers.Place.{Place}
use Rattle.rl_grammar.specs.Grammar.{Begins, IsFault, Derives}
use Rattle.rl_grammar.specs.Lexeme.{lexemes}
use Rattle.rl_grammar.specs.Refusals.{opened, opened_by, last_scanner, scanner_by, refusal_at, NoneBefore, IsRefused, Tells, syntax_fault, place_at}
use Rattle.rl_grammar.specs.declared.read_fault.ReadFault.{ReadFault}
use Rattle.rl_grammar.specs.declared.read_fault.ReadFault.TheVariants as fault
use Rattle.rl_grammar.specs.declared.syntax.Syntax.{Syntax}
use Rattle.rl_grammar.specs.declared.token.Token.{Token}
use Rattle.rl_grammar.specs.declared.token.TokenKind.{TokenKind}
use Rattle.rl_grammar.specs.declared.token.TokenKind.TheVariants as k
use Rattle.rl_parse.specs.Parse.{IsFirst}

pub opened_more : (n : ℕ) (ts : List Token) (at : ℕ) (d : Token) → at < length ts → opened n (take (at + 1) ts) ≡ opened_by (opened n (take at ts)) (get_or ts at d).kind
opened_more n [] at d l = absurd (omega arith)
opened_more n (t ∷ ts) zero d l = refl
opened_more n (t ∷ ts) (suc at) d l =
    let e : suc at + 1 ≡ suc (at + 1) = omega arith in
    let less : at < length ts = omega arith in
    ap (λ z. opened n (take z (t ∷ ts))) e ∙ opened_more (opened_by n t.kind) ts at d less

pub scanner_more : (found : Option Place) (ts : List Token) (at : ℕ) (d : Token) → at < length ts → last_scanner found (take (at + 1) ts) ≡ scanner_by (last_scanner found (take at ts)) (get_or ts at d)
scanner_more found [] at d l = absurd (omega arith)
scanner_more found (t ∷ ts) zero d l = refl
scanner_more found (t ∷ ts) (suc at) d l =
    let e : suc at + 1 ≡ suc (at + 1) = omega arith in
    let less : at < length ts = omega arith in
    ap (λ z. last_scanner found (take z (t ∷ ts))) e ∙ scanner_more (scanner_by found t) ts at d less

by_one_kind : (n m : ℕ) (kind : TokenKind) → n ≤ m → opened_by n kind ≤ suc m
by_one_kind n m k.OpenParenthesis l = omega arith
by_one_kind n m k.CloseParenthesis l = omega arith
by_one_kind n m _ l = omega arith

pub by_one_more : (n : ℕ) (kind : TokenKind) → opened_by n kind ≤ n + 1
by_one_more n kind = let e = by_one_kind n n kind (omega arith) in omega (arith, e)

pub none_more : (ts : List Token) (at : ℕ) → NoneBefore ts at → refusal_at ts at ≡ None → NoneBefore ts (at + 1)
none_more ts at before here i l = elim (cases_order i at) [
  | inl e ↦ subst (λ z. refusal_at ts z ≡ None) (sym e) here
  | inr o ↦ elim o [ inl less ↦ before i less | inr over ↦ absurd (omega arith) ]
]

-- a fault of a front of the tokens is one of the tokens
front_fault : (ts : List Token) (end at : ℕ) → IsFault (take end ts) at → IsFault ts at
front_fault ts end at f =
    let len : length (take end ts) ≤ end = omega (arith, length-take end ts) in
    let all : length (take end ts) ≤ length ts = omega (arith, length-take end ts) in
    let within : at < length (take end ts) = f.within in
    let at_less : at ≤ end = omega arith in
    let up_less : at + 1 ≤ end = omega arith in
    let e0 = take-take at end ts at_less in
    let e1 = take-take (at + 1) end ts up_less in
    record { within = omega arith; before = subst Begins e0 f.before; up_to = λ b. f.up_to (subst Begins (sym e1) b) }

front_within : (ts : List Token) (end at : ℕ) → IsFault (take (end + 1) ts) at → at ≤ end
front_within ts end at f = let within : at < length (take (end + 1) ts) = f.within in omega (arith, length-take (end + 1) ts)

-- ---- what the parser answers

pub tells : (e : ReadFault) (ts : List Token) → IsRefused e ts → Tells e ts
tells fault.Memory ts r = tt
tells (fault.Fault f) ts r = r
tells (fault.Limit l) ts r = r

-- a fault before the token that decides something else, or at it
pub fault_told : (ts : List Token) (end at : ℕ) (e : ReadFault) → IsFirst e ts end → IsFault (take (end + 1) ts) at → Tells (syntax_fault (place_at ts at)) ts
fault_told ts end at e first f =
    let l : at ≤ end = front_within ts end at f in
    (at, inl (record { fault = front_fault ts (end + 1) at f; first = λ i h. first.first i (omega arith) }, refl))

-- a fault where no token decides anything else
pub fault_alone : (ts : List Token) (at : ℕ) → IsFault ts at → NoneBefore ts (length ts) → Tells (syntax_fault (place_at ts at)) ts
fault_alone ts at f none =
    let w : at < length ts = f.within in
    (at, inl (record { fault = f; first = λ i h. none i (omega arith) }, refl))

-- the token decides it, and the grammar may have the token there
pub refusal_told : (ts : List Token) (at : ℕ) (e : ReadFault) → IsFirst e ts at → Begins (take (at + 1) ts) → Tells e ts
refusal_told ts at e first begins = tells e ts (at, inr (record { within = first.within; here = first.here; first = first.first; begins = begins }))

-- what derives from a tree begins one
pub begins_derived : (s : Syntax) (ts : List Token) → Derives s ts → Begins ts
begins_derived s ts h = record { whole = s; after = []; spelled = ap lexemes (append-nil ts) ∙ h.spelled; fitting = h.fitting }

-- where a refusal is decided, not all tokens decide none
pub never_none : (ts : List Token) (at : ℕ) (e : ReadFault) → IsFirst e ts at → NoneBefore ts (length ts) → ⊥
never_none ts at e first none =
    let here : refusal_at ts at ≡ Some e = first.here in
    let there : refusal_at ts at ≡ None = none at first.within in
    cc
