-- How many configurations are reached goes along with names.
use Rattle.std.proofs.Common.{◌≡◌, ℕ, zero, ◌<◌, ◌*◌, ◌/◌, List, [], ◌∷◌, map, length, refl, sym, ◌∙◌, ap, subst, inl, inr, ◌↔◌}
use Rattle.std.proofs.lemmas.List.{length-map}
use Rattle.std.proofs.Math.Nat.{div-lt_iff_lt-mul}
use Rattle.rl_sets.specs.Sets.{In}
use Rattle.rl_sets.proofs.SetLaws.{In-map, In-map_from}
use Rattle.rl_automata.specs.Auto.{Auto, quiet}
use Rattle.rl_automata.specs.Follows.{Reach, Follows}
use Rattle.rl_automata.specs.Refused.{AreDifferent, AreFound, HasMore, HasMoreCells}
use Rattle.rl_automata.proofs.Congruence.{AllIn, reach_along, named_reach}
use Rattle.rl_automata.proofs.PruneLaws.{quiet_reach, loud_reach}

module _ {S T : Type 0} {A : Auto S} {B : Auto T} {f : S → T} (F : Follows A B f) where
  different_along : (cs : List S) → AllIn (Reach A) cs → AreDifferent cs → AreDifferent (map f cs)
  different_along [] r d = tt
  different_along (c ∷ cs) r d = (
    (λ i. let p = In-map_from f (f c) cs i in d.0 (subst (λ w. In w cs) (F.apart p.0 c (r p.0 (inr p.1)) (r c (inl refl)) p.2) p.1)),
    different_along cs (λ x h. r x (inr h)) d.1,
  )

  different_back : (cs : List S) → AreDifferent (map f cs) → AreDifferent cs
  different_back [] d = tt
  different_back (c ∷ cs) d = ((λ i. d.0 (In-map f c cs i)), different_back cs d.1)

  pub found_along : (cs : List S) → AreFound A cs → AreFound B (map f cs)
  found_along cs (d, r) = (different_along cs r d, λ x h. let p = In-map_from f x cs h in subst (Reach B) p.2 (reach_along F p.0 (r p.0 p.1)))

  named_list : (ds : List T) → AllIn (Reach B) ds → (cs : List S) × AllIn (Reach A) cs × (map f cs ≡ ds)
  named_list [] r = ([], (λ x h. absurd h), refl)
  named_list (d ∷ ds) r =
      let p = named_reach F d (r d (inl refl)) in
      let q = named_list ds (λ x h. r x (inr h)) in
      (p.0 ∷ q.0, (λ x h. elim h [ inl e ↦ subst (Reach A) e p.1 | inr i ↦ q.1 x i ]), λ i. p.2 i ∷ q.2 i)

  pub found_back : (ds : List T) → AreFound B ds → (cs : List S) × AreFound A cs × (length cs ≡ length ds)
  found_back ds (d, r) =
      let q = named_list ds r in
      (q.0, (different_back q.0 (subst AreDifferent (sym q.2) d), q.1), sym (length-map q.0 f) ∙ ap length q.2)

  pub more_along : (n : ℕ) → HasMore A n ↔ HasMore B n
  more_along n = (
    (λ (cs, a, lt). (map f cs, found_along cs a, subst (λ w. n < w) (sym (length-map cs f)) lt)),
    (λ (ds, b, lt). let q = found_back ds b in (q.0, q.1, subst (λ w. n < w) (sym q.2) lt)),
  )

  pub cells_along : (width n : ℕ) → HasMoreCells A width n ↔ HasMoreCells B width n
  cells_along width n = (
    (λ (cs, a, lt). (map f cs, found_along cs a, subst (λ w. n < w * width) (sym (length-map cs f)) lt)),
    (λ (ds, b, lt). let q = found_back ds b in (q.0, q.1, subst (λ w. n < w * width) (sym q.2) lt)),
  )

-- more than n cells are more configurations than the whole quotient of n by the cells of each
pub cells_more : {S : Type 0} (A : Auto S) (width n : ℕ) → zero < width → HasMoreCells A width n ↔ HasMore A (n / width)
cells_more A width n p = (
  (λ (cs, a, lt). (cs, a, (div-lt_iff_lt-mul p).1 lt)),
  (λ (cs, a, lt). (cs, a, (div-lt_iff_lt-mul p).0 lt)),
)

-- asking less changes nothing
pub quiet_more : {S : Type 0} (A : Auto S) (n : ℕ) → HasMore (quiet A) n ↔ HasMore A n
quiet_more A n = (
  (λ (cs, a, lt). (cs, (a.0, λ c h. quiet_reach A c (a.1 c h)), lt)),
  (λ (cs, a, lt). (cs, (a.0, λ c h. loud_reach A c (a.1 c h)), lt)),
)
