-- When the Specs of a source are well-formed.
use Rattle.std.specs.Prelude.{◌≡◌, ◌++◌, List, map, length, Ok, All}
use Rattle.rl_model.specs.declared.spec.Entry as rust
use Rattle.rl_model.specs.declared.spec.Spec.{Spec}
use Rattle.rl_model.specs.WellFormed.{pattern_places}
use Rattle.rl_includes.specs.declared.unrolled.Unrolled.{Unrolled}
use Rattle.rl_draft.specs.declared.draft.Draft.{Draft}
use Rattle.rl_form.specs.Parts.{HasFile}
use Rattle.rl_formed.specs.Laws.{AreWritten, StandIn}
use Rattle.rl_resolve.specs.Answers.{IsFormed}
use Rattle.rl_resolve.specs.Descriptions.{description, described}
use Rattle.rl_resolve.specs.Resolving.{outcome}
use Rattle.rl_resolve.specs.declared.answer.Runs.{Runs}

-- the places of its entries stand in its files, and those of their patterns
abbrev pub HasEntriesIn : Spec → Type 0
HasEntriesIn spec = All (λ (e : rust.Entry). All (HasFile (length spec.files)) (e.places ++ pattern_places e.root)) spec.entries

-- it is well-formed, where it has an entry and these places stand in its files
abbrev pub IsFormedInFiles : Spec → Type 0
IsFormedInFiles spec = HasEntriesIn spec → IsFormed spec

-- every source that is accepted has such Specs, where its statements are as tokens spell them and stand in its files
abbrev pub AreFormedAsWritten : Type 0
AreFormedAsWritten = (which : Runs) (u : Unrolled) (drafts : List Draft) (specs : List Spec) → AreWritten u.steps → StandIn (length u.files) u.steps → outcome which u ≡ Ok drafts → map description specs ≡ map (described u.files) drafts
    → All IsFormedInFiles specs
