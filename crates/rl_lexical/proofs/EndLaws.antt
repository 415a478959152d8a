-- The end of a block stands behind its body, and is the last of its tokens.
use Rattle.std.proofs.Common.{◌≡◌, ℕ, zero, suc, ◌+◌, ◌-◌, ◌<◌, ◌≤◌, Bool, true, false, cond, eqb, List, [], ◌∷◌, ◌++◌, length, take, drop, Option, Some, None, Result, Ok, Err, inl, inr, refl, sym, ap, ◌∙◌, subst, arith}
use Rattle.std.proofs.lemmas.Bool.{cases_Bool, false≢true}
use Rattle.rl_types.specs.declared.faults.Fault.{Fault}
use Rattle.rl_types.specs.declared.numbers.Place.{Place}
use Rattle.rl_grammar.specs.declared.token.Token.{Token}
use Rattle.rl_grammar.specs.declared.token.TokenKind.{TokenKind}
use Rattle.rl_lexical.specs.declared.context.Context.{Context}
use Rattle.rl_lexical.specs.declared.context.Shape.{Shape}
use Rattle.rl_lexical.specs.declared.context.Shape.TheVariants as s
use Rattle.rl_lexical.specs.declared.position.Position.{Position}
use Rattle.rl_lexical.specs.Blocks.{SourceBlock, body_text}
use Rattle.rl_lexical.specs.Bytes.{is_empty, in_line}
use Rattle.rl_lexical.specs.Contexts.{is_text, context_behind, first_context}
use Rattle.rl_lexical.specs.Fronts.{token_in_front}
use Rattle.rl_lexical.specs.Parts.{Walk, at_next, unclosed, walk_behind, walk_behind_stray, begins_piece, passed, is_end, is_endless, step, at_end, go_on, end_from, shape_of, before_body, body_at, mark_at, closing_len, reach, block_end, block_of}
use Rattle.rl_lexical.specs.Places.{place_behind, position_behind}
use Rattle.rl_lexical.specs.Tokens.{gap_before, next_position, next_text, end_token, token_at, before_others, then_others, tokens_from, IsSlice, AreSlices, EndsAt}
use Rattle.rl_lexical.proofs.TokenLaws.{tokens_are_slices}

-- ---- positions and fronts

offset_behind : (at : Position) (text : List ℕ) → (position_behind at text).from ≡ at.from + length text
offset_behind at [] = omega arith
offset_behind at (b ∷ bs) =
    let e = offset_behind (record { from = at.from + 1; place = place_behind at.place b }) bs in
    e ∙ omega arith

-- the position behind two texts, one behind the other
behind_two : (at : Position) (a b : ℕ) (xs : List ℕ) → position_behind (position_behind at (take a xs)) (take b (drop a xs)) ≡ position_behind at (take (a + b) xs)
behind_two at zero b xs = (let n : 0 + b ≡ b = omega arith in ap (λ z. position_behind at (take z xs)) (sym n))
behind_two at (suc a) zero [] = (let n : suc a + 0 ≡ suc a = omega arith in ap (λ z. position_behind at (take z [])) (sym n))
behind_two at (suc a) (suc b) [] = (let n : suc a + suc b ≡ suc (a + suc b) = omega arith in ap (λ z. position_behind at (take z [])) (sym n))
behind_two at (suc a) b (x ∷ xs) =
    let n : suc a + b ≡ suc (a + b) = omega arith in
    behind_two (record { from = at.from + 1; place = place_behind at.place x }) a b xs ∙ ap (λ z. position_behind at (take z (x ∷ xs))) (sym n)

-- the position behind a text, part by part
behind_rest : (at : Position) (n : ℕ) (xs : List ℕ) → position_behind (position_behind at (take n xs)) (drop n xs) ≡ position_behind at xs
behind_rest at zero xs = refl
behind_rest at (suc n) [] = refl
behind_rest at (suc n) (x ∷ xs) = behind_rest (record { from = at.from + 1; place = place_behind at.place x }) n xs

whole_front : (n : ℕ) (xs : List ℕ) → drop n xs ≡ [] → take n xs ≡ xs
whole_front zero xs h = sym h
whole_front (suc n) [] h = refl
whole_front (suc n) (x ∷ xs) h = ap (λ z. x ∷ z) (whole_front n xs h)

front_of_more : (l c : ℕ) (xs : List ℕ) → take l (take (l + c) xs) ≡ take l xs
front_of_more zero c xs = refl
front_of_more (suc l) c [] = (let n : suc l + c ≡ suc (l + c) = omega arith in ap (λ z. take (suc l) (take z [])) n)
front_of_more (suc l) c (x ∷ xs) =
    let n : suc l + c ≡ suc (l + c) = omega arith in
    ap (λ z. take (suc l) (take z (x ∷ xs))) n ∙ ap (λ z. x ∷ z) (front_of_more l c xs)

-- a middle of a front is that of the text
middle : (b l c : ℕ) (xs : List ℕ) → take l (drop b (take (b + l + c) xs)) ≡ take l (drop b xs)
middle zero l c xs =
    let n : 0 + l + c ≡ l + c = omega arith in
    ap (λ z. take l (take z xs)) n ∙ front_of_more l c xs
middle (suc b) l c [] = (let n : suc b + l + c ≡ suc (b + l + c) = omega arith in ap (λ z. take l (drop (suc b) (take z []))) n)
middle (suc b) l c (x ∷ xs) =
    let n : suc b + l + c ≡ suc (b + l + c) = omega arith in
    ap (λ z. take l (drop (suc b) (take z (x ∷ xs)))) n ∙ middle b l c xs

front_again : (m : ℕ) (ys : List ℕ) → take (length (take m ys)) ys ≡ take m ys
front_again zero ys = refl
front_again (suc m) [] = refl
front_again (suc m) (y ∷ ys) = ap (λ z. y ∷ z) (front_again m ys)

front_of_line : (m l : ℕ) (ys : List ℕ) → take (length (take m (take l ys))) ys ≡ take m (take l ys)
front_of_line zero l ys = refl
front_of_line (suc m) zero ys = refl
front_of_line (suc m) (suc l) [] = refl
front_of_line (suc m) (suc l) (y ∷ ys) = ap (λ z. y ∷ z) (front_of_line m l ys)

-- a front of what a block may hold
front_of_reach : (shape : Shape) (m : ℕ) (ys : List ℕ) → take (length (take m (reach shape ys))) ys ≡ take m (reach shape ys)
front_of_reach s.Braced m ys = front_again m ys
front_of_reach s.Line m ys = front_of_line m _ ys

-- ---- walks

-- the second walk stands some bytes further
record Further (w x : Walk) : Type 0 where
  count : ℕ
  at_is : x.at ≡ position_behind w.at (take count w.rest)
  rest_is : x.rest ≡ drop count w.rest

same_walk : (x y : Walk) → ◌≡◌ {A = Result (Option Walk) Fault} (Ok (Some x)) (Ok (Some y)) → x ≡ y
same_walk x y h = cc

further : (w x y : Walk) (n : ℕ) → x ≡ y → x.at ≡ position_behind w.at (take n w.rest) → x.rest ≡ drop n w.rest → Further w y
further w x y n same a r = record { count = n; at_is = ap (λ z. z.at) (sym same) ∙ a; rest_is = ap (λ z. z.rest) (sym same) ∙ r }

passed_further : (w : Walk) (found : Option (TokenKind × ℕ)) (next : Walk) → passed w found ≡ Ok (Some next) → Further w next
passed_further w (Some x) next h = further w (walk_behind w x.0 x.1) next x.1 (same_walk (walk_behind w x.0 x.1) next h) refl refl
passed_further w None next h = elim (cases_Bool (begins_piece w.context w.rest)) [
  | inl hit ↦ absurd (let wrong : Err (unclosed w.at.place) ≡ Ok (Some next) = rw hit at h in cc)
  | inr miss ↦
      let all : Ok (Some (walk_behind_stray w)) ≡ Ok (Some next) = rw miss at h in
      further w (walk_behind_stray w) next 1 (same_walk (walk_behind_stray w) next all) refl refl
]

step_further : (shape : Shape) (opening : Place) (w next : Walk) → step shape opening w ≡ Ok (Some next) → Further w next
step_further shape opening w next h = elim (cases_Bool (is_text w.context.expected)) [
  | inl text ↦ elim (cases_Bool (is_endless w.rest)) [
    | inl endless ↦ absurd (let wrong : Err (unclosed w.word) ≡ Ok (Some next) = rw endless at (rw text at h) in cc)
    | inr ends ↦
        let all : passed w (token_in_front w.context w.rest) ≡ Ok (Some next) = rw ends at (rw text at h) in
        passed_further w (token_in_front w.context w.rest) next all
  ]
  | inr other ↦ elim (cases_Bool (is_end shape w.rest)) [
    | inl end ↦ absurd (let wrong : Ok None ≡ Ok (Some next) = rw end at (rw other at h) in cc)
    | inr inside ↦ elim (cases_Bool (is_empty w.rest)) [
      | inl empty ↦ absurd (let wrong : Err (unclosed opening) ≡ Ok (Some next) = rw empty at (rw inside at (rw other at h)) in cc)
      | inr some ↦
          let all : passed w (token_in_front w.context w.rest) ≡ Ok (Some next) = rw some at (rw inside at (rw other at h)) in
          passed_further w (token_in_front w.context w.rest) next all
    ]
  ]
]

end_step : (n : ℕ) (shape : Shape) (opening : Place) (w : Walk)
    → end_from (suc n) shape opening w ≡ go_on (step shape opening (at_next w)) (at_next w).at (λ next. end_from n shape opening next)
unfolding end_from
end_step n shape opening w = refl

end_none : (shape : Shape) (opening : Place) (w : Walk) → end_from 0 shape opening w ≡ at_end shape opening w.at
unfolding end_from
end_none shape opening w = refl

-- the end of a block stands behind some bytes of what is left
record IsFurther (w : Walk) (end : Position) : Type 0 where
  count : ℕ
  end_is : end ≡ position_behind w.at (take count w.rest)

same_end : (x y : Position) → ◌≡◌ {A = Result Position Fault} (Ok x) (Ok y) → x ≡ y
same_end x y h = cc

at_the_end : (shape : Shape) (opening : Place) (w : Walk) (end : Position) → at_end shape opening w.at ≡ Ok end → IsFurther w end
at_the_end s.Braced opening w end h = absurd cc
at_the_end s.Line opening w end h = record { count = 0; end_is = sym (same_end w.at end h) }

one_further : (shape : Shape) (opening : Place) (w : Walk) (end : Position) (more : Walk → Result Position Fault)
    → ((next : Walk) → more next ≡ Ok end → IsFurther next end) → (answer : Result (Option Walk) Fault) → step shape opening (at_next w) ≡ answer
    → go_on answer (at_next w).at more ≡ Ok end → IsFurther w end
one_further shape opening w end more walks (Err fault) a h = absurd cc
one_further shape opening w end more walks (Ok None) a h = record { count = gap_before w.context w.rest; end_is = sym (same_end (at_next w).at end h) }
one_further shape opening w end more walks (Ok (Some next)) a h =
    let gap = gap_before w.context w.rest in
    let first = step_further shape opening (at_next w) next a in
    let second = walks next h in
    let here = position_behind w.at (take gap w.rest) in
    let rest = drop gap w.rest in
    let moved : end ≡ position_behind (position_behind here (take first.count rest)) (take second.count (drop first.count rest)) =
    second.end_is ∙ (ap (λ z. position_behind z (take second.count next.rest)) first.at_is
    ∙ ap (λ z. position_behind (position_behind here (take first.count rest)) (take second.count z)) first.rest_is) in
    record {
      count = gap + (first.count + second.count);
      end_is = moved ∙ (behind_two here first.count second.count rest ∙ behind_two w.at gap (first.count + second.count) w.rest);
    }

walk_further : (n : ℕ) (shape : Shape) (opening : Place) (w : Walk) (end : Position) → end_from n shape opening w ≡ Ok end → IsFurther w end
walk_further zero shape opening w end h = at_the_end shape opening w end (sym (end_none shape opening w) ∙ h)
walk_further (suc n) shape opening w end h =
    one_further shape opening w end (λ next. end_from n shape opening next) (λ next f. walk_further n shape opening next end f)
    (step shape opening (at_next w)) refl (sym (end_step n shape opening w) ∙ h)

-- the end of a block stands behind its body
pub end_behind_body : (at : Position) (text : List ℕ) (end : Position) → block_end at text ≡ Ok end
    → end ≡ position_behind (block_of at text end).body.at (body_text (block_of at text end))
end_behind_body at text end h =
    let shape = shape_of text in
    let before = before_body text in
    let start = body_at at text in
    let ys = drop before text in
    let w : Walk = record { word = (mark_at at text).place; context = first_context; at = start; rest = reach shape ys } in
    let x = walk_further (length (reach shape ys)) shape (mark_at at text).place w end h in
    let body = take x.count (reach shape ys) in
    let count : end.from - start.from ≡ length body =
    (let offset : end.from ≡ start.from + length body = ap (λ z. z.from) x.end_is ∙ offset_behind start body in omega arith) in
    let cut : body_text (block_of at text end) ≡ take (end.from - start.from) ys =
    middle before (end.from - start.from) (closing_len shape (drop (before + (end.from - start.from)) text)) text in
    let same : body_text (block_of at text end) ≡ body = cut ∙ (ap (λ z. take z ys) count ∙ front_of_reach shape x.count ys) in
    x.end_is ∙ ap (position_behind start) (sym same)

-- ---- the last token

token_step : (n : ℕ) (context : Context) (at : Position) (text : List ℕ) → tokens_from (suc n) context at text
    ≡ cond (is_empty (next_text context text)) (Ok (end_token (next_position context at text) ∷ []))
    (then_others (token_at context (next_position context at text) (next_text context text))
    (λ token. tokens_from n (context_behind context token.kind token.text) (position_behind (next_position context at text) token.text)
    (drop (length token.text) (next_text context text))))
unfolding tokens_from
token_step n context at text = refl

token_none : (context : Context) (at : Position) (text : List ℕ) → tokens_from 0 context at text ≡ Ok (end_token at ∷ [])
unfolding tokens_from
token_none context at text = refl

same_tokens : (x y : List Token) → ◌≡◌ {A = Result (List Token) Fault} (Ok x) (Ok y) → x ≡ y
same_tokens x y h = cc

-- the last token is an end
record IsEnded (tokens : List Token) : Type 0 where
  at : Position
  ends : EndsAt at tokens

ended : (at : Position) (tokens : List Token) → end_token at ∷ [] ≡ tokens → IsEnded tokens
ended at tokens h = record { at = at; ends = record { before = []; is = sym h } }

ended_more : (token : Token) (answer : Result (List Token) Fault) (tokens : List Token) → ((others : List Token) → answer ≡ Ok others → IsEnded others)
    → before_others token answer ≡ Ok tokens → IsEnded tokens
ended_more token (Err fault) tokens others h = absurd cc
ended_more token (Ok more) tokens others h =
    let x = others more refl in
    record {
      at = x.at;
      ends = record { before = token ∷ x.ends.before; is = sym (same_tokens (token ∷ more) tokens h) ∙ ap (λ z. token ∷ z) x.ends.is };
    }

ended_then : (token : Result Token Fault) (others : Token → Result (List Token) Fault) (tokens : List Token)
    → ((t : Token) (ts : List Token) → others t ≡ Ok ts → IsEnded ts) → then_others token others ≡ Ok tokens → IsEnded tokens
ended_then (Err fault) others tokens ends h = absurd cc
ended_then (Ok token) others tokens ends h = ended_more token (others token) tokens (ends token) h

ended_from : (n : ℕ) (context : Context) (at : Position) (text : List ℕ) (tokens : List Token) → tokens_from n context at text ≡ Ok tokens → IsEnded tokens
ended_from zero context at text tokens h = ended at tokens (same_tokens (end_token at ∷ []) tokens (sym (token_none context at text) ∙ h))
ended_from (suc n) context at text tokens h = elim (cases_Bool (is_empty (next_text context text))) [
  | inl none ↦
      let all : Ok (end_token (next_position context at text) ∷ []) ≡ Ok tokens = sym (token_step n context at text ∙ rw none refl) ∙ h in
      ended (next_position context at text) tokens (same_tokens (end_token (next_position context at text) ∷ []) tokens all)
  | inr some ↦
      let all : then_others (token_at context (next_position context at text) (next_text context text))
      (λ token. tokens_from n (context_behind context token.kind token.text) (position_behind (next_position context at text) token.text)
      (drop (length token.text) (next_text context text))) ≡ Ok tokens = sym (token_step n context at text ∙ rw some refl) ∙ h in
      ended_then (token_at context (next_position context at text) (next_text context text)) _ tokens
      (λ token ts f. ended_from n (context_behind context token.kind token.text) (position_behind (next_position context at text) token.text)
      (drop (length token.text) (next_text context text)) ts f) all
]

same_position : (p q : Position) → p.from ≡ q.from → p.place ≡ q.place → p ≡ q
same_position p q f e =
    let first : p ≡ record { from = q.from; place = p.place } = ap (λ z. record { from = z; place = p.place }) f in
    first ∙ ap (λ z. record { from = q.from; place = z }) e

-- an end that is the last of slices stands behind the text
last_slice : (before : List Token) (p at : Position) (text : List ℕ) → AreSlices at text (before ++ end_token p ∷ []) → p ≡ position_behind at text
last_slice [] p at text h =
    let all : take h.0 text ≡ text = whole_front h.0 text h.2 in
    same_position p (position_behind at (take h.0 text)) h.1.offset h.1.place ∙ ap (position_behind at) all
last_slice (t ∷ ts) p at text h =
    let gap = h.0 in
    let here = position_behind at (take gap text) in
    let rest = drop gap text in
    let tail = last_slice ts p (position_behind here t.text) (drop (length t.text) rest) h.2 in
    tail ∙ (ap (λ z. position_behind (position_behind here z) (drop (length t.text) rest)) h.1.slice
    ∙ (behind_rest here (length t.text) rest ∙ behind_rest at gap text))

-- the last token of a text is its end, which stands behind it
pub end_is_last : (at : Position) (text : List ℕ) (tokens : List Token) → tokens_from (length text) first_context at text ≡ Ok tokens
    → EndsAt (position_behind at text) tokens
end_is_last at text tokens h =
    let x = ended_from (length text) first_context at text tokens h in
    let slices = tokens_are_slices at text tokens h in
    let P : List Token → Type 0 = λ z. AreSlices at text z in
    let place = last_slice x.ends.before x.at at text (subst P x.ends.is slices) in
    let Q : Position → Type 0 = λ z. EndsAt z tokens in
    subst Q place x.ends
