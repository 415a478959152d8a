-- The machines of a source, rewritten one after another from the end.
use Rattle.std.specs.Prelude.{◌≡◌, ℕ, List, [], ◌∷◌, ◌++◌, map, reverse, Option, Some, None}
use Rattle.std.specs.List.{flat_map}
use Rattle.rl_types.specs.declared.faults.Limit.{Limit}
use Rattle.rl_draft.specs.declared.draft.Draft.{Draft}
use Rattle.rl_rewrite.specs.Entries.{meanings, first_limit}
use Rattle.rl_resolve.specs.Descriptions.{Description, description, described}
use Rattle.rl_resolve.specs.Limits.{passed_by, passed}
use Rattle.rl_resolve.specs.declared.machines.Machines.{Machines}

abbrev pub kept_as : Description → Option Limit → List Description
kept_as d None = d ∷ []
kept_as d (Some limit) = []

-- what the Spec of a draft says, where the machine passes no limit
abbrev pub kept_by : List (List ℕ) → Draft → List Description
kept_by files draft = kept_as (described files draft) (first_limit [] (meanings draft))

abbrev pub kept : List (List ℕ) → List Draft → List Description
kept files drafts = flat_map (kept_by files) drafts

-- a machine more, in front of those behind it
pub record IsNext (files : List (List ℕ)) (draft : Draft) (old new : Machines) : Type 0 where
  pub specs : reverse (map description new.specs) ≡ kept_by files draft ++ reverse (map description old.specs)
  pub passed : reverse new.passed ≡ passed_by draft ++ reverse old.passed

-- the machines of all drafts but the first ones, the last first
pub record AreBehind (files : List (List ℕ)) (first all : List Draft) (m : Machines) : Type 0 where
  pub specs : kept files first ++ reverse (map description m.specs) ≡ kept files all
  pub passed : passed first ++ reverse m.passed ≡ passed all

-- all machines in order
pub record AreAll (files : List (List ℕ)) (all : List Draft) (m : Machines) : Type 0 where
  pub specs : map description m.specs ≡ kept files all
  pub passed : m.passed ≡ passed all
