-- The reader of a block on all tokens: what it gives is the tree, and where it fails is the first fault.
use Rattle.std.proofs.Common.{◌≡◌, ℕ, suc, ◌+◌, ◌-◌, ◌<◌, ◌≤◌, Bool, true, false, List, [], ◌∷◌, ◌++◌, length, take, Result, Ok, Err, refl, sym, ap, ◌∙◌, subst, arith, append_assoc, length-append}
use Rattle.std.specs.Prelude.{not}
use Rattle.std.specs.List.{flat_map}
use Rattle.std.proofs.lemmas.Bool.{and_parts}
use Rattle.std.proofs.lemmas.List.{append-nil}
use Rattle.rl_readers.proofs.Good.{lacks}
use Rattle.rl_readers.proofs.Phrases as ph
use Rattle.rl_grammar.specs.Grammar.{spell, fits, statement_text, statement_fits, all_statements_fit, mark, Derives, Begins, IsFault}
use Rattle.rl_grammar.specs.Lexeme.{Lexeme, lexemes, same_kind}
use Rattle.rl_grammar.specs.Refusals.{ends_once}
use Rattle.rl_grammar.specs.declared.syntax.Statement.{Statement}
use Rattle.rl_grammar.specs.declared.syntax.Syntax.{Syntax}
use Rattle.rl_grammar.specs.declared.token.Token.{Token}
use Rattle.rl_grammar.specs.declared.token.TokenKind.TheVariants as k
use Rattle.rl_parse.specs.Classes.{Class, tokens}
use Rattle.rl_parse.specs.Parse.{IsUnfinished}
use Rattle.rl_parse.specs.Rules.{block}
use Rattle.rl_parse.proofs.Nodes.{Part, is_end}
use Rattle.rl_parse.proofs.StatementLaws.{block_p, block_good, statements_good}

abbrev sees : (Class → Bool) → List Token → Bool
sees test ts = ph.sees tokens test ts

abbrev Took : {A : Type 0} → Part A → List Token → A → List Token → Type 0
Took q ts a r = ph.Took tokens q ts a r

abbrev Viable : {A : Type 0} → Part A → List Token → ℕ → Type 0
Viable q ts n = ph.Viable tokens q ts n

pub same_ok : {X : Type 0} {x y : X} → ◌≡◌ {A = Result X ℕ} (Ok x) (Ok y) → x ≡ y
same_ok e = cc

take_front : {X : Type 0} (a b : List X) → take (length a) (a ++ b) ≡ a
take_front [] b = refl
take_front (x ∷ a) b = ap (λ z. x ∷ z) (take_front a b)

take_one_more : {X : Type 0} (a : List X) (x : X) (b : List X) → take (suc (length a)) (a ++ (x ∷ b)) ≡ a ++ (x ∷ [])
take_one_more [] x b = refl
take_one_more (y ∷ a) x b = ap (λ z. y ∷ z) (take_one_more a x b)

no_stop : (s : Syntax) (r : List Token) → sees (block_p.goes s) r ≡ false
no_stop s [] = refl
no_stop s (t ∷ r) = refl

pub tree_read : (d : ℕ) (ts : List Token) (s : Syntax) → length ts ≤ suc d → Derives s ts → block d ts ≡ Ok (s, [])
tree_read d ts s len h =
    let x = (block_good d d).here.again ts s [] len h.spelled h.fitting refl in
    ap (block d) (sym (append-nil ts)) ∙ x

pub tree_found : (d : ℕ) (ts : List Token) (s : Syntax) → block d ts ≡ Ok (s, []) → Derives s ts
tree_found d ts s e =
    let one : Took block_p ts s [] = (block_good d d).here.sound ts s [] e in
    let is : ts ≡ one.front = one.split ∙ append-nil one.front in
    record { spelled = ap lexemes is ∙ one.spelled; fitting = one.fits }

-- the fault stands behind front
fault_behind : (ts front : List Token) (t : Token) (r : List Token) → ts ≡ front ++ (t ∷ r) → Begins front → (Begins (front ++ (t ∷ [])) → ⊥) → IsFault ts (length front)
fault_behind ts front t r is before up_to = record {
  within = omega (arith, ap length is, length-append front (t ∷ r));
  before = let e : take (length front) ts ≡ front = ap (take (length front)) is ∙ take_front front (t ∷ r) in subst Begins (sym e) before;
  up_to = λ b.
      let n : length front + 1 ≡ suc (length front) = omega arith in
      let e : take (length front + 1) ts ≡ front ++ (t ∷ []) = ap (λ z. take z ts) n ∙ (ap (take (suc (length front))) is ∙ take_one_more front t r) in
      up_to (subst Begins e b);
}

regroup : (front : List Token) (t : Token) (y : List Token) → (front ++ (t ∷ [])) ++ y ≡ front ++ (t ∷ y)
regroup front t y = append_assoc front (t ∷ []) y

-- a sentence that goes on behind a token is read whole
read_on : (front : List Token) (t : Token) (b : Begins (front ++ (t ∷ []))) → block (length (front ++ (t ∷ b.after))) (front ++ (t ∷ b.after)) ≡ Ok (b.whole, [])
read_on front t b =
    let e : lexemes (front ++ (t ∷ b.after)) ≡ spell b.whole = ap lexemes (sym (regroup front t b.after)) ∙ b.spelled in
    tree_read (length (front ++ (t ∷ b.after))) (front ++ (t ∷ b.after)) b.whole (omega arith) (record { spelled = e; fitting = b.fitting })

refuted : (ts front : List Token) (t : Token) (r : List Token) → block (length ts) ts ≡ Err (length (t ∷ r)) → ts ≡ front ++ (t ∷ r) → Begins (front ++ (t ∷ [])) → ⊥
refuted ts front t r err is b =
    let y = b.after in
    let d = length ts in
    let e = length (front ++ (t ∷ y)) in
    let here : block d (front ++ (t ∷ r)) ≡ Err (length (t ∷ r)) = ap (block d) (sym is) ∙ err in
    let len_d : length (front ++ (t ∷ r)) ≤ suc d = omega (arith, ap length is) in
    let there : block e (front ++ (t ∷ y)) ≡ Err (length (t ∷ y)) = (block_good d e).same.same front t r y len_d (omega arith) here in
    let read : block e (front ++ (t ∷ y)) ≡ Ok (b.whole, []) = read_on front t b in
    cc

pub left_within : (ts : List Token) (n : ℕ) → block (length ts) ts ≡ Err n → n ≤ length ts
left_within ts n err =
    let v : Viable block_p ts n = (block_good (length ts) 0).here.viable ts n err in
    omega (arith, ap length v.split, v.left, length-append v.front v.rest)

fault_from : (ts : List Token) (n : ℕ) (front rest after : List Token) (whole : Syntax) → block (length ts) ts ≡ Err n → 0 < n → ts ≡ front ++ rest → n ≡ length rest
    → lexemes (front ++ after) ≡ spell whole → fits whole ≡ true → IsFault ts (length ts - n)
fault_from ts n front [] after whole err some is left told fit = absurd (omega arith)
fault_from ts n front (t ∷ r) after whole err some is left told fit =
    let at : length ts - n ≡ length front = omega (arith, ap length is, left, length-append front (t ∷ r)) in
    let here : block (length ts) ts ≡ Err (length (t ∷ r)) = err ∙ ap Err left in
    subst (IsFault ts) (sym at) (fault_behind ts front t r is (record { whole = whole; after = after; spelled = told; fitting = fit }) (refuted ts front t r here is))

pub fault_found : (ts : List Token) (n : ℕ) → block (length ts) ts ≡ Err n → 0 < n → IsFault ts (length ts - n)
fault_found ts n err some =
    let v : Viable block_p ts n = (block_good (length ts) 0).here.viable ts n err in
    fault_from ts n v.front v.rest v.after v.whole err some v.split v.left v.spelled v.fits

unfinished_from : (ts front rest after : List Token) (whole : Syntax) → block (length ts) ts ≡ Err 0 → ts ≡ front ++ rest → 0 ≡ length rest
    → lexemes (front ++ after) ≡ spell whole → fits whole ≡ true → IsUnfinished ts
unfinished_from ts front (t ∷ r) after whole err is left told fit = absurd (omega arith)
unfinished_from ts front [] after whole err is left told fit =
    let here : ts ≡ front = is ∙ append-nil front in
    record {
      begins = record { whole = whole; after = after; spelled = ap (λ z. lexemes (z ++ after)) here ∙ told; fitting = fit };
      no_tree = λ s h. let read : block (length ts) ts ≡ Ok (s, []) = tree_read (length ts) ts s (omega arith) h in cc;
    }

pub unfinished_found : (ts : List Token) → block (length ts) ts ≡ Err 0 → IsUnfinished ts
unfinished_found ts err =
    let v : Viable block_p ts 0 = (block_good (length ts) 0).here.viable ts 0 err in
    unfinished_from ts v.front v.rest v.after v.whole err v.split v.left v.spelled v.fits

-- tokens behind the end of a sentence
left_over : (ts : List Token) (s : Syntax) (front : List Token) (t : Token) (r : List Token) → lexemes front ≡ spell s → fits s ≡ true → Begins (front ++ (t ∷ [])) → ⊥
left_over ts s front t r told fit b =
    let y = b.after in
    let e = length (front ++ (t ∷ y)) in
    let len : length front ≤ suc e = omega (arith, length-append front (t ∷ y)) in
    let one : block e (front ++ (t ∷ y)) ≡ Ok (s, t ∷ y) = (block_good e e).here.again front s (t ∷ y) len told fit refl in
    let read : block e (front ++ (t ∷ y)) ≡ Ok (b.whole, []) = read_on front t b in
    let pair = same_ok (sym one ∙ read) in
    let tail : t ∷ y ≡ [] = ap (λ z. z.1) pair in
    cc (tail)

pub over_found : (ts : List Token) (s : Syntax) (t : Token) (r : List Token) → block (length ts) ts ≡ Ok (s, t ∷ r) → IsFault ts (length ts - length (t ∷ r))
over_found ts s t r e =
    let one : Took block_p ts s (t ∷ r) = (block_good (length ts) 0).here.sound ts s (t ∷ r) e in
    let is : ts ≡ one.front ++ (t ∷ r) = one.split in
    let at : length ts - length (t ∷ r) ≡ length one.front = omega (arith, ap length is, length-append one.front (t ∷ r)) in
    let before : Begins one.front = record { whole = s; after = []; spelled = ap lexemes (append-nil one.front) ∙ one.spelled; fitting = one.fits } in
    subst (IsFault ts) (sym at) (fault_behind ts one.front t r is before (left_over ts s one.front t r one.spelled one.fits))

pub over_within : (ts : List Token) (s : Syntax) (r : List Token) → block (length ts) ts ≡ Ok (s, r) → length r ≤ length ts
over_within ts s r e =
    let one : Took block_p ts s r = (block_good (length ts) 0).here.sound ts s r e in
    omega (arith, ap length one.split, length-append one.front r)

-- ---- for the parser

no_items : {X : Type 0} (xs : List X) → length xs ≡ 0 → xs ≡ []
no_items [] e = refl
no_items (x ∷ xs) e = absurd (omega arith)

pub ok_derives : (ts : List Token) (s : Syntax) (r : List Token) → block (length ts) ts ≡ Ok (s, r) → length r ≡ 0 → Derives s ts
ok_derives ts s r e none = tree_found (length ts) ts s (e ∙ ap (λ z. Ok (s, z)) (no_items r none))

pub only_ok : (ts : List Token) (s : Syntax) (r : List Token) → block (length ts) ts ≡ Ok (s, r) → (other : Syntax) → Derives other ts → s ≡ other
only_ok ts s r e other h = ap (λ z. z.0) (same_ok (sym e ∙ tree_read (length ts) ts other (omega arith) h))

pub never_over : (ts : List Token) (s : Syntax) (r : List Token) → block (length ts) ts ≡ Ok (s, r) → (length r ≡ 0 → ⊥) → (other : Syntax) → Derives other ts → ⊥
never_over ts s r e some other h =
    let tail : r ≡ [] = ap (λ z. z.1) (same_ok (sym e ∙ tree_read (length ts) ts other (omega arith) h)) in
    some (ap length tail)

pub never_err : (ts : List Token) (n : ℕ) → block (length ts) ts ≡ Err n → (other : Syntax) → Derives other ts → ⊥
never_err ts n e other h = let read : block (length ts) ts ≡ Ok (other, []) = tree_read (length ts) ts other (omega arith) h in cc

pub over_refused : (ts : List Token) (s : Syntax) (r : List Token) → block (length ts) ts ≡ Ok (s, r) → (length r ≡ 0 → ⊥) → IsFault ts (length ts - length r)
over_refused ts s [] e some = absurd (some refl)
over_refused ts s (t ∷ r) e some = over_found ts s t r e

-- ---- tokens of which the last, and no other, is the end

-- where a text is all but the last of another, it is a front of the rest
front_of : {X : Type 0} (u v s : List X) (x : X) → u ++ v ≡ s ++ (x ∷ []) → (v ≡ [] → ⊥) → (w : List X) × (s ≡ u ++ w)
front_of [] v s x e full = (s, refl)
front_of (a ∷ []) [] [] x e full = absurd (full refl)
front_of (a ∷ []) (b ∷ v) [] x e full = cc
front_of (a ∷ b ∷ u) v [] x e full = cc
front_of (a ∷ u) v (b ∷ s) x e full =
    let tails : u ++ v ≡ s ++ (x ∷ []) = cc in
    let heads : a ≡ b = cc in
    let more = front_of u v s x tails full in
    let is : s ≡ u ++ more.0 = more.1 in
    (more.0, cc)

lacks_front : (u w : List Lexeme) → lacks tokens is_end (u ++ w) ≡ true → lacks tokens is_end u ≡ true
lacks_front [] w h = refl
lacks_front (l ∷ u) w h =
    let hs = and_parts (not (same_kind l.kind k.End)) (lacks tokens is_end (u ++ w)) h in
    rw hs.0 (lacks_front u w hs.1)

ended_once : (ts : List Token) → ends_once ts ≡ true → lacks tokens is_end (lexemes ts) ≡ true → ⊥
ended_once [] e h = cc
ended_once (t ∷ []) e h = let hs = and_parts (not (same_kind t.kind k.End)) true h in let no : not true ≡ true = rw e at hs.0 in cc (no)
ended_once (t ∷ u ∷ ts) e h =
    let es = and_parts (not (same_kind t.kind k.End)) (ends_once (u ∷ ts)) e in
    let hs = and_parts (not (same_kind t.kind k.End)) (lacks tokens is_end (lexemes (u ∷ ts))) h in
    ended_once (u ∷ ts) es.1 hs.1

statements_fit : (xs : List Statement) → all_statements_fit xs ≡ true → ph.all_fit tokens statement_fits xs ≡ true
statements_fit [] h = refl
statements_fit (x ∷ xs) h =
    let hs = and_parts (statement_fits x) (all_statements_fit xs) h in
    rw hs.0 (statements_fit xs hs.1)

no_end : (s : Syntax) → fits s ≡ true → lacks tokens is_end (flat_map statement_text s.statements) ≡ true
no_end s h =
    let n = length (flat_map statement_text s.statements) in
    (statements_good n n).clean s.statements (statements_fit s.statements h) (omega arith)

no_lexemes : (ts : List Token) → (ts ≡ [] → ⊥) → lexemes ts ≡ [] → ⊥
no_lexemes [] full e = full refl
no_lexemes (t ∷ ts) full e = cc

none_behind : (ts after : List Token) (s : Syntax) → ends_once ts ≡ true → lexemes (ts ++ after) ≡ spell s → fits s ≡ true → after ≡ []
none_behind ts [] s once e h = refl
none_behind ts (t ∷ after) s once e h =
    let split : lexemes ts ++ lexemes (t ∷ after) ≡ flat_map statement_text s.statements ++ mark k.End s.end = sym (ph.lexemes-append tokens ts (t ∷ after)) ∙ e in
    let part = front_of (lexemes ts) (lexemes (t ∷ after)) (flat_map statement_text s.statements) (record { kind = k.End; text = []; place = s.end }) split (λ z. cc (z)) in
    let is : flat_map statement_text s.statements ≡ lexemes ts ++ part.0 = part.1 in
    let clean : lacks tokens is_end (lexemes ts ++ part.0) ≡ true = ap (lacks tokens is_end) (sym is) ∙ no_end s h in
    absurd (ended_once ts once (lacks_front (lexemes ts) part.0 clean))

-- such tokens do not stop in the middle of a sentence
pub never_unfinished : (ts : List Token) → ends_once ts ≡ true → IsUnfinished ts → ⊥
never_unfinished ts once u =
    let b : Begins ts = u.begins in
    let none : b.after ≡ [] = none_behind ts b.after b.whole once b.spelled b.fitting in
    let all : ts ++ b.after ≡ ts = ap (λ z. ts ++ z) none ∙ append-nil ts in
    u.no_tree b.whole (record { spelled = ap lexemes (sym all) ∙ b.spelled; fitting = b.fitting })
