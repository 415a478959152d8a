-- A queue whose first is its last.
use Rattle.std.proofs.Common.{◌≡◌, ℕ, ◌+◌, List, [], ◌∷◌, ◌++◌, length, refl, sym, ap, ◌∙◌, arith, append_assoc}
use Rattle.std.specs.Prelude.{reverse}
use Rattle.std.proofs.lemmas.List.{append-nil, reverse-append}
use Rattle.rl_grammar.specs.declared.syntax.Statement.{Statement}
use Rattle.rl_grammar.specs.declared.syntax.Syntax.{Syntax}
use Rattle.rl_includes.specs.Turns.{placed, located}
use Rattle.rl_includes.specs.declared.reader.Located.{Located}

-- what is put last is the first
pub reverse_last : {X : Type 0} (xs : List X) (x : X) → reverse (xs ++ x ∷ []) ≡ x ∷ reverse xs
reverse_last xs x = reverse-append xs (x ∷ [])

placed_last : (block : ℕ) (ss : List Statement) (s : Statement) → placed block (ss ++ s ∷ []) ≡ placed block ss ++ record { block = block; statement = s } ∷ []
placed_last block [] s = refl
placed_last block (x ∷ xs) s = ap (λ z. record { block = block; statement = x } ∷ z) (placed_last block xs s)

-- a statement more
pub put_more : (whole queue more : List Located) (block : ℕ) (ss rest : List Statement) (s : Statement) → ss ≡ rest ++ s ∷ [] → more ≡ queue ++ record { block = block; statement = s } ∷ []
    → placed block ss ++ reverse queue ≡ whole → placed block rest ++ reverse more ≡ whole
put_more whole queue more block ss rest s taken put h =
    let item : Located = record { block = block; statement = s } in
    ap (λ z. placed block rest ++ z) (ap reverse put ∙ reverse_last queue item)
    ∙ (sym (append_assoc (placed block rest) (item ∷ []) (reverse queue))
    ∙ (ap (λ z. z ++ reverse queue) (sym (ap (placed block) taken ∙ placed_last block rest s)) ∙ h))

pub put_all : (whole queue : List Located) (block : ℕ) (ss : List Statement) → ss ≡ [] → placed block ss ++ reverse queue ≡ whole → reverse queue ≡ whole
put_all whole queue block ss none h = ap (λ z. placed block z ++ reverse queue) (sym none) ∙ h

located_last : (n : ℕ) (bs : List Syntax) (b : Syntax) → located n (bs ++ b ∷ []) ≡ located n bs ++ placed (n + length bs) b.statements
located_last n [] b = let e : n + 0 ≡ n = omega arith in rw e (append-nil (placed n b.statements))
located_last n (x ∷ xs) b =
    let e : (n + 1) + length xs ≡ n + length (x ∷ xs) = omega arith in
    ap (λ z. placed n x.statements ++ z) (located_last (n + 1) xs b)
    ∙ (sym (append_assoc (placed n x.statements) (located (n + 1) xs) (placed ((n + 1) + length xs) b.statements))
    ∙ ap (λ z. (placed n x.statements ++ located (n + 1) xs) ++ placed z b.statements) e)

-- a block more
pub queue_more : (whole queue more : List Located) (bs rest : List Syntax) (b : Syntax) (number : ℕ) → bs ≡ rest ++ b ∷ [] → number ≡ length rest → reverse more ≡ placed number b.statements ++ reverse queue
    → located 0 bs ++ reverse queue ≡ whole → located 0 rest ++ reverse more ≡ whole
queue_more whole queue more bs rest b number taken is put h =
    let e : number ≡ 0 + length rest = omega (arith, is) in
    ap (λ z. located 0 rest ++ z) put
    ∙ (sym (append_assoc (located 0 rest) (placed number b.statements) (reverse queue))
    ∙ (ap (λ z. z ++ reverse queue) (ap (λ z. located 0 rest ++ placed z b.statements) e ∙ sym (ap (located 0) taken ∙ located_last 0 rest b)) ∙ h))

pub queue_all : (whole queue : List Located) (bs : List Syntax) → bs ≡ [] → located 0 bs ++ reverse queue ≡ whole → reverse queue ≡ whole
queue_all whole queue bs none h = ap (λ z. located 0 z ++ reverse queue) (sym none) ∙ h
