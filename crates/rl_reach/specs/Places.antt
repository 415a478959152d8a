-- Places in the order in which they were found, each once.
use Rattle.std.specs.Prelude.{ℕ, suc, Bool, ◌&&◌, List, [], ◌∷◌, nat_eq}
use Rattle.std.specs.List.{position}
use Rattle.std.specs.Option.{option_map_or}
use Rattle.indexmap.specs.IndexSet.{insert_key}
use Rattle.rl_reach.specs.declared.place.Place.{Place}

abbrev pub same_place : Place → Place → Bool
same_place p q = nat_eq p.entry q.entry && nat_eq p.state q.state

-- the place behind the others, unless it is there
abbrev pub with_place : List Place → Place → List Place
with_place places p = insert_key same_place places p

-- one after another
abbrev pub with_places : List Place → List Place → List Place
with_places places [] = places
with_places places (p ∷ more) = with_places (with_place places p) more

-- the number of a place, from 1; 0 where it is not there
abbrev pub number_in : List Place → Place → ℕ
number_in places p = option_map_or suc (position (same_place p) places) 0
