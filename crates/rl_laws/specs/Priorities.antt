-- Tables of priorities that stay after a cut, put over one another.
use Rattle.std.specs.Prelude.{◌≡◌, ◌↔◌, List, [], ◌∷◌}
use Rattle.rl_labels.specs.declared.priors.Prior.{Prior}
use Rattle.rl_sets.specs.Sets.{In, joined}
use Rattle.rl_labels.specs.Labels.{IsTable, table_of, lead}
use Rattle.rl_labels.specs.LabelLaws.{survivors}

-- the first table put over what the others come to, and none come to the empty table
abbrev pub led : List (List Prior) → List Prior
led [] = []
led (t ∷ ts) = lead t (led ts)

-- each one put, in turn, over what those before it came to
abbrev pub led_in_turn : List Prior → List (List Prior) → List Prior
led_in_turn before [] = before
led_in_turn before (t ∷ ts) = led_in_turn (lead t before) ts

-- each of the tables stays after a cut of the candidates
abbrev pub Stay : List (List Prior) → List (List Prior) → Type 0
Stay candidates ts = (t : List Prior) → In t ts → IsTable t × In t (survivors candidates)

-- put over one another they are the table of the entries of all: under each name the greatest stamp, and of equal
-- stamps the greatest value
abbrev pub SurvivorsLeadAsOne : Type 0
SurvivorsLeadAsOne = (candidates ts : List (List Prior)) → Stay candidates ts → led ts ≡ table_of (joined ts)

-- whichever of them stands at the front, and how often each is put
abbrev pub SurvivorsLeadInAnyOrder : Type 0
SurvivorsLeadInAnyOrder =
    (candidates ts us : List (List Prior)) → Stay candidates ts
    → ((t : List Prior) → In t ts ↔ In t us) → led ts ≡ led us

-- from the front or from the end
abbrev pub SurvivorsLeadInTurn : Type 0
SurvivorsLeadInTurn = (candidates ts : List (List Prior)) → Stay candidates ts → led_in_turn [] ts ≡ led ts
