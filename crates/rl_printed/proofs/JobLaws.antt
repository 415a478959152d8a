-- The jobs of a block stand in front of those behind it.
use Rattle.std.proofs.Common.{◌≡◌, ℕ, suc, ◌+◌, ◌<◌, ◌≤◌, Bool, true, false, List, [], ◌∷◌, ◌++◌, take, drop, refl, sym, ap, ◌∙◌, subst, arith, append_assoc}
use Rattle.std.proofs.lemmas.Bool.Decides.{nat_tests}
use Rattle.std.specs.Prelude.{◌==◌, filter, flat_map}
use Rattle.std.specs.List.{prefix_len}
use Rattle.rl_lexical.specs.declared.part.Part.{Part}
use Rattle.rl_lexical.specs.declared.part.Part.TheVariants as p
use Rattle.rl_lexical.specs.Blocks.{SourceBlock}
use Rattle.rl_printed.specs.declared.job.Job.{Job}
use Rattle.rl_printed.specs.Jobs.{is_of, AscendFrom}
use Rattle.rl_printed.specs.Printed.{printed_from}

-- one more in front
one_front : (n : ℕ) (j : Job) (jobs : List Job) → is_of n j ≡ true → prefix_len (is_of n) (j ∷ jobs) ≡ suc (prefix_len (is_of n) jobs)
one_front n j jobs e = rw e (omega arith)

lower : (n m : ℕ) (jobs : List Job) → n ≤ m → AscendFrom m jobs → AscendFrom n jobs
lower n m [] l h = tt
lower n m (j ∷ jobs) l h = (let k = h.0 in omega (arith, k), h.1)

above : (n m : ℕ) → n ≤ m → (m == n) ≡ false → n < m
above n m l e = grind (arith, nat_tests, e, l)

-- of a later block there are none
none_of : (n m : ℕ) (jobs : List Job) → n < m → AscendFrom m jobs → filter (is_of n) jobs ≡ []
none_of n m [] l h = refl
none_of n m (j ∷ jobs) l h = by (is_of n j) refl (λ k. none_of n j.block jobs k h.1)
  where
    by : (t : Bool) → is_of n j ≡ t → (n < j.block → filter (is_of n) jobs ≡ []) → filter (is_of n) (j ∷ jobs) ≡ []
    by true e more = absurd (let k = h.0 in grind (arith, nat_tests, e, k, l))
    by false e more = rw e (more (let k = h.0 in omega (arith, k)))

pub front_is : (n : ℕ) (jobs : List Job) → AscendFrom n jobs → filter (is_of n) jobs ≡ take (prefix_len (is_of n) jobs) jobs
front_is n [] h = refl
front_is n (j ∷ jobs) h = by (is_of n j) refl (front_is n jobs (lower n j.block jobs h.0 h.1))
  where
    by : (t : Bool) → is_of n j ≡ t → filter (is_of n) jobs ≡ take (prefix_len (is_of n) jobs) jobs
        → filter (is_of n) (j ∷ jobs) ≡ take (prefix_len (is_of n) (j ∷ jobs)) (j ∷ jobs)
    by true e more =
        let one = one_front n j jobs e in
        let here : filter (is_of n) (j ∷ jobs) ≡ j ∷ filter (is_of n) jobs = rw e refl in
        here ∙ ap (λ js. j ∷ js) more ∙ sym (ap (λ k. take k (j ∷ jobs)) one)
    by false e more = rw e (none_of n j.block jobs (above n j.block h.0 e) h.1)

pub later_ascend : (n : ℕ) (jobs : List Job) → AscendFrom n jobs → AscendFrom (n + 1) (drop (prefix_len (is_of n) jobs) jobs)
later_ascend n [] h = tt
later_ascend n (j ∷ jobs) h = by (is_of n j) refl (later_ascend n jobs (lower n j.block jobs h.0 h.1))
  where
    by : (t : Bool) → is_of n j ≡ t → AscendFrom (n + 1) (drop (prefix_len (is_of n) jobs) jobs)
        → AscendFrom (n + 1) (drop (prefix_len (is_of n) (j ∷ jobs)) (j ∷ jobs))
    by true e more = subst (λ k. AscendFrom (n + 1) (drop k (j ∷ jobs))) (sym (one_front n j jobs e)) more
    by false e more = rw e (let k = above n j.block h.0 e in omega (arith, k), h.1)

-- a later block has the same jobs among those behind
later_of : (n m : ℕ) (jobs : List Job) → n < m → filter (is_of m) (drop (prefix_len (is_of n) jobs) jobs) ≡ filter (is_of m) jobs
later_of n m [] l = refl
later_of n m (j ∷ jobs) l = by (is_of n j) (is_of m j) refl refl (later_of n m jobs l)
  where
    by : (t u : Bool) → is_of n j ≡ t → is_of m j ≡ u → filter (is_of m) (drop (prefix_len (is_of n) jobs) jobs) ≡ filter (is_of m) jobs
        → filter (is_of m) (drop (prefix_len (is_of n) (j ∷ jobs)) (j ∷ jobs)) ≡ filter (is_of m) (j ∷ jobs)
    by true true e f more = absurd (grind (arith, nat_tests, e, f, l))
    by true false e f more =
        let here : filter (is_of m) (j ∷ jobs) ≡ filter (is_of m) jobs = rw f refl in
        ap (λ k. filter (is_of m) (drop k (j ∷ jobs))) (one_front n j jobs e) ∙ more ∙ sym here
    by false u e f more = rw e refl

later_print : (text : Job → List ℕ) (n m : ℕ) (parts : List Part) (jobs : List Job) → n < m
    → printed_from text m parts (drop (prefix_len (is_of n) jobs) jobs) ≡ printed_from text m parts jobs
later_print text n m [] jobs l = refl
later_print text n m (p.Host host ∷ parts) jobs l = ap (λ t. host ++ t) (later_print text n m parts jobs l)
later_print text n m (p.Block b ∷ parts) jobs l =
    ap (λ js. flat_map text js ++ printed_from text (m + 1) parts (drop (prefix_len (is_of n) jobs) jobs)) (later_of n m jobs l)
    ∙ ap (λ t. flat_map text (filter (is_of m) jobs) ++ t) (later_print text n (m + 1) parts jobs (omega arith))

-- a block prints the jobs in front, and those behind are left
pub block_prints : (text : Job → List ℕ) (n : ℕ) (parts : List Part) (jobs : List Job) → AscendFrom n jobs
    → flat_map text (filter (is_of n) jobs) ++ printed_from text (n + 1) parts jobs
    ≡ flat_map text (take (prefix_len (is_of n) jobs) jobs) ++ printed_from text (n + 1) parts (drop (prefix_len (is_of n) jobs) jobs)
block_prints text n parts jobs h =
    ap (λ js. flat_map text js ++ printed_from text (n + 1) parts jobs) (front_is n jobs h)
    ∙ ap (λ t. flat_map text (take (prefix_len (is_of n) jobs) jobs) ++ t) (sym (later_print text n (n + 1) parts jobs (omega arith)))

-- host text more
pub host_more : (of_job : Job → List ℕ) (n : ℕ) (parts more : List Part) (jobs : List Job) (host text new whole : List ℕ) → parts ≡ p.Host host ∷ more
    → text ++ printed_from of_job n parts jobs ≡ whole → new ≡ text ++ host → new ++ printed_from of_job n more jobs ≡ whole
host_more of_job n parts more jobs host text new whole cut so_far printed =
    ap (λ t. t ++ printed_from of_job n more jobs) printed
    ∙ append_assoc text host (printed_from of_job n more jobs)
    ∙ ap (λ ps. text ++ printed_from of_job n ps jobs) (sym cut)
    ∙ so_far

-- a block more
pub block_more : (of_job : Job → List ℕ) (n : ℕ) (parts more : List Part) (b : SourceBlock) (jobs rest : List Job) (text new whole : List ℕ) → AscendFrom n jobs
    → parts ≡ p.Block b ∷ more → text ++ printed_from of_job n parts jobs ≡ whole
    → rest ≡ drop (prefix_len (is_of n) jobs) jobs → new ≡ text ++ flat_map of_job (take (prefix_len (is_of n) jobs) jobs)
    → (new ++ printed_from of_job (n + 1) more rest ≡ whole) × AscendFrom (n + 1) rest
block_more of_job n parts more b jobs rest text new whole ascend cut so_far left printed =
    let here = flat_map of_job (take (prefix_len (is_of n) jobs) jobs) in
    let behind = drop (prefix_len (is_of n) jobs) jobs in (
      ap (λ t. t ++ printed_from of_job (n + 1) more rest) printed
          ∙ ap (λ js. (text ++ here) ++ printed_from of_job (n + 1) more js) left
          ∙ append_assoc text here (printed_from of_job (n + 1) more behind)
          ∙ ap (λ t. text ++ t) (sym (block_prints of_job n more jobs ascend))
          ∙ ap (λ ps. text ++ printed_from of_job n ps jobs) (sym cut)
          ∙ so_far,
      subst (AscendFrom (n + 1)) (sym left) (later_ascend n jobs ascend),
    )
