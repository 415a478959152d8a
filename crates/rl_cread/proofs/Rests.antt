-- The rest of a slice of lines.
use Rattle.std.proofs.Common.{◌≡◌, ◌-◌, ◌+◌, ◌<◌, ◌≤◌, ℕ, zero, suc, List, [], ◌∷◌, length, map, take, drop, ap, ◌∙◌, refl, subst, arith, length-drop, Bool, true, false}
use Rattle.std.specs.Prelude.{not}
use Rattle.std.proofs.lemmas.List.{take_all}
use denote.Ref.{Bor}
use Rattle.rl_cread.specs.declared.said.Stop.{Stop}
use Rattle.rl_cread.specs.declared.said.Stop.TheVariants as stop
use Rattle.rl_cread.specs.Reading.{Stops}
use Rattle.rl_cread.proofs.ReadingLaws.{stops_within}

map_drop : {A B : Type 0} (f : A → B) (xs : List A) (n : ℕ) → map f (drop n xs) ≡ drop n (map f xs)
map_drop f xs zero = refl
map_drop f [] (suc n) = refl
map_drop f (x ∷ xs) (suc n) = map_drop f xs n

pub rest_from : (ls : List (Bor (List ℕ))) (n : ℕ) → map (λ l. l.now) (take (length ls - n) (drop n ls)) ≡ drop n (map (λ l. l.now) ls)
rest_from ls n = ap (map (λ l. l.now)) (take_all _ _ (omega (arith, length-drop n ls))) ∙ map_drop (λ l. l.now) ls n

-- the line that is told is within the text, or the next one
pub told_within : (v : Bool) (name : List ℕ) (ls rest : List (List ℕ)) (at place : ℕ) (e : Stop) → e ≡ stop.BadLine place → Stops v name rest e
    → rest ≡ drop (at + 1) ls → at < length ls → at + place + 1 ≤ length ls
told_within v name ls rest at place e is s same lt =
    let w = stops_within v name rest place (subst (Stops v name rest) is s) in
    let d = length-drop (at + 1) ls in
    omega (arith, w, ap length same, d, lt)

pub not_false : (b : Bool) → not b ≡ false → b ≡ true
not_false true e = refl
not_false false e = absurd cc
