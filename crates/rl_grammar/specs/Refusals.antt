-- What a token decides beside the grammar: how deep parentheses nest, counts whose first number is above the second, and
-- scanners that are not the whole right side of an instantiation.
use Rattle.std.specs.Prelude.{◌≡◌, ℕ, ◌+◌, ◌-◌, ◌<◌, ◌^◌, Bool, false, ◌&&◌, not, if◌then◌else◌, nat_lt, nat_le, List, [], ◌∷◌, length, take, slice_get, Option, Some, None, ◌⊎◌}
use Rattle.std.specs.List.{All}
use Rattle.rl_types.specs.Limits.{most_parentheses}
use Rattle.rl_types.specs.declared.faults.FaultKind.TheVariants.{F3, F10, F11}
use Rattle.rl_types.specs.declared.faults.LimitKind.TheVariants.{L3}
use Rattle.rl_types.specs.declared.numbers.Place.{Place}
use Rattle.rl_grammar.specs.Grammar.{Begins, IsFault}
use Rattle.rl_grammar.specs.Lexeme.{same_kind}
use Rattle.rl_grammar.specs.Literals.{number}
use Rattle.rl_grammar.specs.declared.read_fault.ReadFault.{ReadFault}
use Rattle.rl_grammar.specs.declared.read_fault.ReadFault.TheVariants as fault
use Rattle.rl_grammar.specs.declared.token.Token.{Token}
use Rattle.rl_grammar.specs.declared.token.TokenKind.{TokenKind}
use Rattle.rl_grammar.specs.declared.token.TokenKind.TheVariants as k

-- ---- the token at an index

abbrev pub of_kind : TokenKind → Option Token → Bool
of_kind kind None = false
of_kind kind (Some t) = same_kind t.kind kind

abbrev pub is_at : TokenKind → List Token → ℕ → Bool
is_at kind ts at = of_kind kind (slice_get ts at)

-- the token before the one at the index
abbrev pub is_before : TokenKind → List Token → ℕ → Bool
is_before kind ts at = nat_le 1 at && is_at kind ts (at - 1)

abbrev pub place_of : Option Token → Place
place_of None = record { file = 0; line = 1; col = 1 }
place_of (Some t) = t.place

abbrev pub place_at : List Token → ℕ → Place
place_at ts at = place_of (slice_get ts at)

abbrev pub syntax_fault : Place → ReadFault
syntax_fault place = fault.Fault (record { kind = F3; place = place })

abbrev pub counts_fault : Place → ReadFault
counts_fault place = fault.Fault (record { kind = F10; place = place })

abbrev pub scanner_fault : Place → ReadFault
scanner_fault place = fault.Fault (record { kind = F11; place = place })

abbrev pub depth_limit : Place → ReadFault
depth_limit place = fault.Limit (record { kind = L3; place = place })

-- ---- open parentheses

abbrev pub opened_by : ℕ → TokenKind → ℕ
opened_by n k.OpenParenthesis = n + 1
opened_by n k.CloseParenthesis = n - 1
opened_by n _ = n

-- how many parentheses are open behind the tokens, where n were open before
abbrev pub opened : ℕ → List Token → ℕ
opened n [] = n
opened n (t ∷ ts) = opened (opened_by n t.kind) ts

-- a parenthesis behind as many open ones as there may be
abbrev pub too_deep : List Token → ℕ → Option ReadFault
too_deep ts at = if is_at k.OpenParenthesis ts at && nat_le most_parentheses (opened 0 (take at ts)) then Some (depth_limit (place_at ts at)) else None

-- ---- counts

abbrev pub text_of : Option Token → List ℕ
text_of None = []
text_of (Some t) = t.text

abbrev pub number_at : List Token → ℕ → ℕ
number_at ts at = number (text_of (slice_get ts at))

-- the tokens up to the index end in `{`, a number, `,`, a number and `}`
abbrev pub is_count : List Token → ℕ → Bool
is_count ts at =
    nat_le 4 at && (is_at k.OpenBrace ts (at - 4) && (is_at k.Integer ts (at - 3) && (is_at k.Comma ts (at - 2) && (is_at k.Integer ts (at - 1) && is_at k.CloseBrace ts at))))

abbrev pub falls : List Token → ℕ → Bool
falls ts at = is_count ts at && nat_lt (number_at ts (at - 1)) (number_at ts (at - 3))

-- the end of a count whose first number is above the second
abbrev pub falling_count : List Token → ℕ → Option ReadFault
falling_count ts at = if falls ts at then Some (counts_fault (place_at ts (at - 4))) else None

-- ---- scanners

abbrev pub scanner_by : Option Place → Token → Option Place
scanner_by found t = if same_kind t.kind k.OpenScanner then Some t.place else found

-- the place of the last `|*` among the tokens, or the one before them
abbrev pub last_scanner : Option Place → List Token → Option Place
last_scanner found [] = found
last_scanner found (t ∷ ts) = last_scanner (scanner_by found t) ts

abbrev pub fault_there : Option Place → Option ReadFault
fault_there None = None
fault_there (Some place) = Some (scanner_fault place)

-- a token behind a scanner that is not `;`
abbrev pub scanner_goes_on : List Token → ℕ → Option ReadFault
scanner_goes_on ts at = if is_before k.CloseScanner ts at && not (is_at k.Semicolon ts at) then fault_there (last_scanner None (take at ts)) else None

-- a `|*` that is not behind `:=`
abbrev pub scanner_misplaced : List Token → ℕ → Option ReadFault
scanner_misplaced ts at = if is_at k.OpenScanner ts at && not (is_before k.ColonEquals ts at) then Some (scanner_fault (place_at ts at)) else None

-- ---- the refusal of the fewest tokens

abbrev pub or_else : Option ReadFault → Option ReadFault → Option ReadFault
or_else None b = b
or_else (Some e) b = Some e

-- what the token at the index decides: of several, what stands first in the text
unfoldable pub refusal_at : List Token → ℕ → Option ReadFault
refusal_at ts at = or_else (scanner_goes_on ts at) (or_else (too_deep ts at) (or_else (falling_count ts at) (scanner_misplaced ts at)))

-- no token before the index decides a refusal
abbrev pub NoneBefore : List Token → ℕ → Type 0
NoneBefore ts end = (i : ℕ) → i < end → refusal_at ts i ≡ None

-- the token at the index is the first that decides something, and the grammar does not have it there
pub record FirstFault (ts : List Token) (at : ℕ) : Type 0 where
  pub fault : IsFault ts at
  pub first : NoneBefore ts at

-- the token at the index is the first that decides something, and it decides this; the grammar may have it there
pub record FirstRefusal (e : ReadFault) (ts : List Token) (at : ℕ) : Type 0 where
  pub within : at < length ts
  pub here : refusal_at ts at ≡ Some e
  pub first : NoneBefore ts at
  pub begins : Begins (take (at + 1) ts)

-- why the tokens are no sentence: at the token that decides it, and where one token decides several, the grammar first
abbrev pub IsRefused : ReadFault → List Token → Type 0
IsRefused e ts = (at : ℕ) × ((FirstFault ts at × (e ≡ syntax_fault (place_at ts at))) ⊎ FirstRefusal e ts at)

abbrev pub Tells : ReadFault → List Token → Type 0
Tells fault.Memory ts = Unit {0}
Tells (fault.Fault f) ts = IsRefused (fault.Fault f) ts
Tells (fault.Limit l) ts = IsRefused (fault.Limit l) ts

-- ---- what tokens are handed in

-- the last token, and no other, is the end
abbrev pub ends_once : List Token → Bool
ends_once [] = false
ends_once (t ∷ []) = same_kind t.kind k.End
ends_once (t ∷ u ∷ ts) = not (same_kind t.kind k.End) && ends_once (u ∷ ts)

-- each integer fits 64 bits with a sign
abbrev pub NumbersFit : List Token → Type 0
NumbersFit ts = All (λ t. t.kind ≡ k.Integer → number t.text < 2 ^ 63) ts
