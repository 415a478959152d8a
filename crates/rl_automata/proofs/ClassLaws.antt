-- The number of key classes is that of any keys that are one of each.
use Rattle.std.proofs.Common.{◌≡◌, suc, ℤ, ◌-◌, List, [], ◌∷◌, inl, inr, map, length, refl, sym, ◌∙◌, ap, subst}
use Rattle.std.specs.declared.cmp.Ordering.{Ordering}
use Rattle.std.specs.declared.cmp.Ordering.TheVariants.{Less, Equal, Greater}
use Rattle.std.specs.Ordering.{match_ordering}
use Rattle.std.proofs.lemmas.List.{length-map}
use Rattle.rl_types.specs.declared.alphabet.Alphabet.{Alphabet}
use Rattle.rl_types.specs.Alphabet.{keys_of}
use Rattle.rl_types.proofs.KeyLaws.{keys_to, keys_in}
use Rattle.rl_types.specs.KeyRange.{Range}
use Rattle.rl_sets.specs.Sets.{In, set_of, insert}
use Rattle.rl_sets.specs.Order.{IsOrder}
use Rattle.rl_sets.proofs.OrderLaws.{bool_order, list_is_order}
use Rattle.rl_sets.proofs.SetLaws.{In-map, In-map_from, In-set_of_from, set_of-same, Same}
use Rattle.rl_automata.specs.Refused.{AreDifferent, held_in, class_count}
use Rattle.rl_automata.specs.Laws.{AreOneOfEach}

-- ---- how long a set is

module _ {K : Type 0} {cmp : K → K → Ordering} (o : IsOrder cmp) where
  insert_length : (x : K) (xs : List K) → ¬ In x xs → length (insert cmp x xs) ≡ suc (length xs)
  insert_length x [] n = refl
  insert_length x (y ∷ ys) n =
      (elim (cmp x y) as (λ r. cmp x y ≡ r → length (match_ordering r (x ∷ y ∷ ys) (y ∷ ys) (y ∷ insert cmp x ys)) ≡ suc (suc (length ys))) [
        | Less ↦ λ e. refl
        | Equal ↦ λ e. absurd (n (inl (sym (o.same x y e))))
        | Greater ↦ λ e. ap suc (insert_length x ys (λ h. n (inr h)))
      ]) refl

  set_length : (xs : List K) → AreDifferent xs → length (set_of cmp xs) ≡ length xs
  set_length [] d = refl
  set_length (x ∷ xs) d = insert_length x (set_of cmp xs) (λ h. d.0 (In-set_of_from o x xs h)) ∙ ap suc (set_length xs d.1)

-- ---- the law

pub class_count_of : (alphabet : Alphabet) (sets : List (List Range)) (keys : List ℤ) → AreOneOfEach alphabet sets keys → class_count alphabet sets ≡ length keys
class_count_of alphabet sets keys (inside, different, each) =
    let order = list_is_order bool_order in
    let same : Same (map (held_in sets) (keys_of alphabet)) (map (held_in sets) keys) = record {
      to = λ row h. let p = In-map_from (held_in sets) row (keys_of alphabet) h in subst (λ w. In w (map (held_in sets) keys)) p.2 (each p.0 (keys_in alphabet p.0 p.1));
      back = λ row h. let p = In-map_from (held_in sets) row keys h in subst (λ w. In w (map (held_in sets) (keys_of alphabet))) p.2 (In-map (held_in sets) p.0 (keys_of alphabet) (keys_to alphabet p.0 (inside p.0 p.1)));
    } in
    ap length (set_of-same order _ _ same) ∙ set_length order (map (held_in sets) keys) different ∙ length-map keys (held_in sets)
