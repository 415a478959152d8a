-- Tokens have one tree or one refusal, and never both.
use Rattle.std.proofs.Common.{◌≡◌, ℕ, zero, suc, ◌+◌, ◌<◌, ◌≤◌, List, [], ◌∷◌, ◌++◌, length, take, drop, get_or, Ok, ◌⊎◌, inl, inr, refl, sym, ap, ◌∙◌, subst, arith, append_assoc}
use Rattle.std.proofs.lemmas.Bool.{cases_order}
use Rattle.std.proofs.lemmas.List.{take_more}
use Rattle.rl_grammar.specs.Grammar.{Begins}
use Rattle.rl_grammar.specs.Lexeme.{lexemes}
use Rattle.rl_grammar.specs.Refusals.{IsRefused, FirstFault, FirstRefusal, Tells, syntax_fault, place_at}
use Rattle.rl_grammar.specs.declared.read_fault.ReadFault.{ReadFault}
use Rattle.rl_grammar.specs.declared.read_fault.ReadFault.TheVariants as reason
use Rattle.rl_grammar.specs.declared.syntax.Syntax.{Syntax}
use Rattle.rl_grammar.specs.declared.token.Token.{Token}
use Rattle.rl_parse.proofs.Refused.{begins_derived}
use Rattle.rl_parse.proofs.Whole.{tree_read}
use Rattle.rl_parse.specs.Rules.{block}
use Rattle.rl_files.specs.Blocks.{AreTokens, AllTokens, TellsFirst}
use Rattle.rl_files.specs.Files.{IsTree, AreTrees, FirstRefused}
use Rattle.rl_files.proofs.TokenForms.{same_some, none_some, same_ok}

-- ---- what begins a sentence

take_drop : {X : Type 0} (n : ℕ) (xs : List X) → take n xs ++ drop n xs ≡ xs
take_drop zero xs = refl
take_drop (suc n) [] = refl
take_drop (suc n) (x ∷ xs) = ap (λ z. x ∷ z) (take_drop n xs)

take_take : {X : Type 0} (m n : ℕ) (xs : List X) → m ≤ n → take m (take n xs) ≡ take m xs
take_take zero n xs less = refl
take_take (suc m) zero xs less = absurd (omega arith)
take_take (suc m) (suc n) [] less = refl
take_take (suc m) (suc n) (x ∷ xs) less = ap (λ z. x ∷ z) (take_take m n xs (omega arith))

begins_front : (n : ℕ) (ts : List Token) → Begins ts → Begins (take n ts)
begins_front n ts b = record {
  whole = b.whole;
  after = drop n ts ++ b.after;
  spelled = ap lexemes (sym (append_assoc (take n ts) (drop n ts) b.after) ∙ ap (λ z. z ++ b.after) (take_drop n ts)) ∙ b.spelled;
  fitting = b.fitting;
}

begins_less : (m n : ℕ) (ts : List Token) → m ≤ n → Begins (take n ts) → Begins (take m ts)
begins_less m n ts less b = subst Begins (take_take m n ts less) (begins_front m (take n ts) b)

-- ---- one tree, or one refusal

one_tree : (ts : List Token) (a b : Syntax) → IsTree ts a → IsTree ts b → a ≡ b
one_tree ts a b h k =
    let first : block (length ts) ts ≡ Ok (a, []) = tree_read (length ts) ts a (omega arith) h.derived in
    let second : block (length ts) ts ≡ Ok (b, []) = tree_read (length ts) ts b (omega arith) k.derived in
    ap (λ z. z.0) (same_ok (a, []) (b, []) (sym first ∙ second))

abbrev Decides : ReadFault → List Token → ℕ → Type 0
Decides e ts at = (FirstFault ts at × (e ≡ syntax_fault (place_at ts at))) ⊎ FirstRefusal e ts at

never_earlier : (ts : List Token) (a b : ReadFault) (i j : ℕ) → Decides a ts i → Decides b ts j → i < j → ⊥
never_earlier ts a b i j (inl f) (inl g) less = f.0.fault.up_to (begins_less (i + 1) j ts (omega arith) g.0.fault.before)
never_earlier ts a b i j (inl f) (inr r) less = f.0.fault.up_to (begins_less (i + 1) (j + 1) ts (omega arith) r.begins)
never_earlier ts a b i j (inr r) (inl g) less = none_some a (sym (g.0.first i less) ∙ r.here)
never_earlier ts a b i j (inr r) (inr q) less = none_some a (sym (q.first i less) ∙ r.here)

same_here : (ts : List Token) (a b : ReadFault) (i : ℕ) → Decides a ts i → Decides b ts i → a ≡ b
same_here ts a b i (inl f) (inl g) = f.1 ∙ sym g.1
same_here ts a b i (inl f) (inr r) = absurd (f.0.fault.up_to r.begins)
same_here ts a b i (inr r) (inl g) = absurd (g.0.fault.up_to r.begins)
same_here ts a b i (inr r) (inr q) = same_some a b (sym r.here ∙ q.here)

one_refusal : (ts : List Token) (a b : ReadFault) → IsRefused a ts → IsRefused b ts → a ≡ b
one_refusal ts a b h k = elim (cases_order h.0 k.0) [
  | inl same ↦ same_here ts a b k.0 (subst (Decides a ts) same h.1) k.1
  | inr apart ↦ elim apart [
    | inl less ↦ absurd (never_earlier ts a b h.0 k.0 h.1 k.1 less)
    | inr more ↦ absurd (never_earlier ts b a k.0 h.0 k.1 h.1 more)
  ]
]

not_both : (ts : List Token) (s : Syntax) (e : ReadFault) → IsTree ts s → IsRefused e ts → ⊥
not_both ts s e h k = by_kind k.0 k.1
  where
    by_kind : (at : ℕ) → Decides e ts at → ⊥
    by_kind at (inl f) = f.0.fault.up_to (begins_front (at + 1) ts (begins_derived s ts h.derived))
    by_kind at (inr r) = none_some e (sym (h.unrefused at r.within) ∙ r.here)

-- ---- blocks

pub same_trees : (blocks : List (List Token)) (xs ys : List Syntax) → AreTrees blocks xs → AreTrees blocks ys → xs ≡ ys
same_trees [] [] [] h k = refl
same_trees [] [] (y ∷ ys) h k = absurd k
same_trees [] (x ∷ xs) ys h k = absurd h
same_trees (b ∷ bs) [] ys h k = absurd h
same_trees (b ∷ bs) (x ∷ xs) [] h k = absurd k
same_trees (b ∷ bs) (x ∷ xs) (y ∷ ys) h k = ap (λ z. z ∷ xs) (one_tree b x y h.0 k.0) ∙ ap (λ z. y ∷ z) (same_trees bs xs ys h.1 k.1)

pub same_refusal : (blocks : List (List Token)) (a b : ReadFault) → FirstRefused a blocks → FirstRefused b blocks → a ≡ b
same_refusal [] a b h k = absurd h
same_refusal (t ∷ ts) a b (inl h) (inl k) = one_refusal t a b h k
same_refusal (t ∷ ts) a b (inl h) (inr k) = absurd (not_both t k.0 a k.1 h)
same_refusal (t ∷ ts) a b (inr h) (inl k) = absurd (not_both t h.0 b h.1 k)
same_refusal (t ∷ ts) a b (inr h) (inr k) = same_refusal ts a b h.2 k.2

pub trees_or_refusal : (blocks : List (List Token)) (trees : List Syntax) (e : ReadFault) → AreTrees blocks trees → FirstRefused e blocks → ⊥
trees_or_refusal [] trees e h k = k
trees_or_refusal (t ∷ ts) [] e h k = h
trees_or_refusal (t ∷ ts) (x ∷ xs) e h (inl k) = not_both t x e h.0 k
trees_or_refusal (t ∷ ts) (x ∷ xs) e h (inr k) = trees_or_refusal ts xs e h.1 k.2

-- ---- a loop over blocks

trees_push : (blocks : List (List Token)) (trees : List Syntax) (x : List Token) (t : Syntax) → AreTrees blocks trees → IsTree x t → AreTrees (blocks ++ x ∷ []) (trees ++ t ∷ [])
trees_push [] [] x t h k = (k, tt)
trees_push [] (y ∷ ys) x t h k = absurd h
trees_push (b ∷ bs) [] x t h k = absurd h
trees_push (b ∷ bs) (y ∷ ys) x t h k = (h.0, trees_push bs ys x t h.1 k)

pub trees_more : (blocks : List (List Token)) (i : ℕ) (trees : List Syntax) (x : List Token) (t : Syntax) → i < length blocks → x ≡ get_or blocks i x
    → AreTrees (take i blocks) trees → IsTree x t → AreTrees (take (i + 1) blocks) (trees ++ t ∷ [])
trees_more blocks i trees x t less item h k =
    let more : take (i + 1) blocks ≡ take i blocks ++ x ∷ [] = take_more blocks i x less ∙ ap (λ z. take i blocks ++ z ∷ []) (sym item) in
    subst (λ z. AreTrees z (trees ++ t ∷ [])) (sym more) (trees_push (take i blocks) trees x t h k)

refused_at : (blocks : List (List Token)) (i : ℕ) (trees : List Syntax) (d : List Token) (e : ReadFault) → i < length blocks → AreTrees (take i blocks) trees
    → IsRefused e (get_or blocks i d) → FirstRefused e blocks
refused_at [] i trees d e less h k = absurd (omega arith)
refused_at (b ∷ bs) zero trees d e less h k = inl k
refused_at (b ∷ bs) (suc i) [] d e less h k = absurd h
refused_at (b ∷ bs) (suc i) (t ∷ ts) d e less h k = inr (t, h.0, refused_at bs i ts d e (omega arith) h.1 k)

pub refused_here : (blocks : List (List Token)) (i : ℕ) (trees : List Syntax) (x : List Token) (e : ReadFault) → i < length blocks → x ≡ get_or blocks i x
    → AreTrees (take i blocks) trees → Tells e x → TellsFirst e blocks
refused_here blocks i trees x (reason.Fault f) less item h k = refused_at blocks i trees x (reason.Fault f) less h (subst (IsRefused (reason.Fault f)) item k)
refused_here blocks i trees x (reason.Limit l) less item h k = refused_at blocks i trees x (reason.Limit l) less h (subst (IsRefused (reason.Limit l)) item k)
refused_here blocks i trees x reason.Memory less item h k = tt

pub tokens_at : (blocks : List (List Token)) (i : ℕ) (d : List Token) → AllTokens blocks → i < length blocks → AreTokens (get_or blocks i d)
tokens_at [] i d h less = absurd (omega arith)
tokens_at (b ∷ bs) zero d h less = h.0
tokens_at (b ∷ bs) (suc i) d h less = tokens_at bs i d h.1 (omega arith)

pub tokens_here : (blocks : List (List Token)) (i : ℕ) (x : List Token) → AllTokens blocks → i < length blocks → x ≡ get_or blocks i x → AreTokens x
tokens_here blocks i x h less item = subst AreTokens (sym item) (tokens_at blocks i x h less)

take_all : {X : Type 0} (i : ℕ) (xs : List X) → length xs ≤ i → take i xs ≡ xs
take_all i [] over = by_number i
  where
    by_number : {X : Type 0} (i : ℕ) → take {A = X} i [] ≡ []
    by_number zero = refl
    by_number (suc i) = refl
take_all zero (x ∷ xs) over = absurd (omega arith)
take_all (suc i) (x ∷ xs) over = ap (λ z. x ∷ z) (take_all i xs (omega arith))

pub trees_end : (blocks : List (List Token)) (i : ℕ) (trees : List Syntax) → length blocks ≤ i → AreTrees (take i blocks) trees → AreTrees blocks trees
trees_end blocks i trees over h = subst (λ z. AreTrees z trees) (take_all i blocks over) h
