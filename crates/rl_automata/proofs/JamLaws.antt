-- Cycles of priorities go along with names.
use Rattle.std.proofs.Common.{◌≡◌, ℕ, Bool, true, false, cond, not, ◌&&◌, ◌||◌, List, [], ◌∷◌, ◌++◌, map, refl, sym, ◌∙◌, ap, Option, ◌↔◌}
use Rattle.std.specs.List.{flat_map, list_any, list_all}
use Rattle.std.proofs.lemmas.List.{map-append}
use Rattle.std.proofs.lemmas.List.Folds.{list_all-append}
use Rattle.rl_types.specs.declared.numbers.Letter.{Letter}
use Rattle.rl_labels.specs.declared.carry.Carry.{Carry}
use Rattle.rl_labels.specs.declared.priors.Prior.{Prior}
use Rattle.rl_labels.specs.Labels.{beats, is_beaten, is_cycle}
use Rattle.rl_labels.specs.Carries.{tables_of}
use Rattle.rl_sets.specs.Order.{IsOrder}
use Rattle.rl_sets.proofs.SetLaws.{same_refl}
use Rattle.rl_automata.specs.declared.moves.Move.{Move}
use Rattle.rl_automata.specs.Auto.{Auto, carries, kept, is_none_left, both_auto, cat_auto, star_auto, jams, both_jams, cat_jams, star_jams, part_moves, right_moves, member_steps}
use Rattle.rl_automata.specs.Follows.{Reach, Follows, renamed}
use Rattle.rl_automata.specs.Refused.{JamsSomewhere}
use Rattle.rl_automata.proofs.Settle.{jams-same}
use Rattle.rl_automata.proofs.Congruence.{both_reach, pair_name, part_steps, chain_reach, chain_name, rights_same, reach_along, named_reach}
use Rattle.rl_automata.proofs.Congruence1.{star_reach, set_name, members_same}

module _ {S T S' T' : Type 0} {A : Auto S} {B : Auto T} {A' : Auto S'} {B' : Auto T'} {f : S → S'} {g : T → T'} (F : Follows A A' f) (G : Follows B B' g) where
  pub both_jams_named : (test : Bool → Bool → Bool) (c : Option S × Option T) → Reach (both_auto A B test) c → (l : Letter) → both_jams A B c l ≡ both_jams A' B' (pair_name F G c) l
  both_jams_named test c r l =
      let h = both_reach F G test c r in
      jams-same f g (part_moves A l c.0) (part_moves B l c.1) (map (renamed g) (part_moves B l c.1)) (same_refl _)
      ∙ (λ i. jams (part_steps F c.0 l h.0 i) (part_steps G c.1 l h.1 i))

  pub cat_jams_named : (o : IsOrder B.order) (o' : IsOrder B'.order) (c : Option S × List T) → Reach (cat_auto A B) c → (l : Letter) → cat_jams A B c l ≡ cat_jams A' B' (chain_name o o' F G c) l
  cat_jams_named o o' c r l =
      let h = chain_reach o o' F G c r in
      jams-same f g (part_moves A l c.0) (right_moves A B c l) (right_moves A' B' (chain_name o o' F G c) l) (rights_same o o' F G c l h)
      ∙ (λ i. jams (part_steps F c.0 l h.0 i) (right_moves A' B' (chain_name o o' F G c) l))

pub star_jams_named : {S T : Type 0} {A : Auto S} {B : Auto T} (o : IsOrder A.order) (o' : IsOrder B.order) {f : S → T} (F : Follows A B f) (base : ℕ) (c : List S) → Reach (star_auto A base) c → (l : Letter) → star_jams A base c l ≡ star_jams B base (set_name o o' F c) l
star_jams_named {S = S} {A = A} {B = B} o o' {f = f} F base c r l =
    jams-same {S = S} f f [] (flat_map (member_steps A base l) c) (flat_map (member_steps B base l) (set_name o o' F c)) (members_same o o' F base l c (star_reach o o' F base c r).0)

-- where cycles go along with names, the one automaton has one exactly where the other has
pub jams_along : {S T : Type 0} {A : Auto S} {B : Auto T} {f : S → T} → Follows A B f → (jam : S → Letter → Bool) (jam' : T → Letter → Bool) → ((c : S) → Reach A c → (l : Letter) → jam c l ≡ jam' (f c) l)
    → JamsSomewhere A jam ↔ JamsSomewhere B jam'
jams_along {f = f} F jam jam' e = (
  (λ (c, r, l, h). (f c, reach_along F c r, l, sym (e c r l) ∙ h)),
  (λ (d, r, l, h). let p = named_reach F d r in (p.0, p.1, l, e p.0 p.1 l ∙ ap (λ w. jam' w l) p.2 ∙ h)),
)

-- ---- the candidates' tables

none-append : {X : Type 0} (xs ys : List X) → is_none_left (xs ++ ys) ≡ (is_none_left xs && is_none_left ys)
none-append [] ys = refl
none-append (x ∷ xs) ys = refl

any-tables : (t : List Prior) (all : List Carry) → list_any (λ c. beats c.table t) all ≡ is_beaten (map tables_of all) t
any-tables t [] = refl
any-tables t (c ∷ all) = ap (λ b. beats c.table t || b) (any-tables t all)

none-kept : {S : Type 0} (all : List Carry) (ms : List (Move S)) → is_none_left (carries (kept all ms)) ≡ list_all (is_beaten (map tables_of all)) (map tables_of (carries ms))
none-kept all [] = refl
none-kept all (m ∷ ms) = by (list_any (λ c. beats c.table m.carry.table) all) refl (none-kept all ms)
  where
    by : (b : Bool) → list_any (λ c. beats c.table m.carry.table) all ≡ b → is_none_left (carries (kept all ms)) ≡ list_all (is_beaten (map tables_of all)) (map tables_of (carries ms))
        → is_none_left (carries (cond (not (list_any (λ c. beats c.table m.carry.table) all)) (m ∷ kept all ms) (kept all ms))) ≡ (is_beaten (map tables_of all) m.carry.table && list_all (is_beaten (map tables_of all)) (map tables_of (carries ms)))
    by true e h =
        ap (λ b. is_none_left (carries (cond (not b) (m ∷ kept all ms) (kept all ms)))) e ∙ h
        ∙ ap (λ b. b && list_all (is_beaten (map tables_of all)) (map tables_of (carries ms))) (sym (sym (any-tables m.carry.table all) ∙ e))
    by false e h =
        ap (λ b. is_none_left (carries (cond (not b) (m ∷ kept all ms) (kept all ms)))) e
        ∙ ap (λ b. b && list_all (is_beaten (map tables_of all)) (map tables_of (carries ms))) (sym (sym (any-tables m.carry.table all) ∙ e))

none-settled : {S T : Type 0} (all : List Carry) (ls : List (Move S)) (rs : List (Move T))
    → is_none_left (carries (kept all ls) ++ carries (kept all rs)) ≡ list_all (is_beaten (map tables_of all)) (map tables_of (carries ls ++ carries rs))
none-settled all ls rs =
    none-append (carries (kept all ls)) (carries (kept all rs)) ∙ (λ i. none-kept all ls i && none-kept all rs i)
    ∙ sym (list_all-append (is_beaten (map tables_of all)) (map tables_of (carries ls)) (map tables_of (carries rs)))
    ∙ ap (list_all (is_beaten (map tables_of all))) (sym (map-append tables_of (carries ls) (carries rs)))

-- candidates are a cycle exactly where their tables are
pub jams_cycle : {S T : Type 0} (ls : List (Move S)) (rs : List (Move T)) → jams ls rs ≡ is_cycle (map tables_of (carries ls ++ carries rs))
jams_cycle ls rs =
    let all = carries ls ++ carries rs in
    ap (λ b. not (is_none_left all) && b) (none-settled all ls rs) ∙ whole all
  where
    whole : (cs : List Carry) → (not (is_none_left cs) && list_all (is_beaten (map tables_of cs)) (map tables_of cs)) ≡ is_cycle (map tables_of cs)
    whole [] = refl
    whole (c ∷ cs) = refl
