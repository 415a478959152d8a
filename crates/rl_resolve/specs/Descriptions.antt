-- What a machine's Spec says, as a plain value.
use Rattle.std.specs.Prelude.{◌≡◌, ℕ, List, [], map}
use Rattle.rl_types.specs.declared.alphabet.Alphabet.{Alphabet}
use Rattle.rl_types.specs.declared.numbers.ActionId.{ActionId}
use Rattle.rl_model.specs.declared.spec.ActionDef.{ActionDef}
use Rattle.rl_model.specs.declared.spec.Frame.{Frame}
use Rattle.rl_model.specs.declared.spec.Spec.{Spec}
use Rattle.rl_model.specs.declared.spec.Write.{Write}
use Rattle.rl_draft.specs.declared.draft.Draft.{Draft}
use Rattle.rl_rewrite.specs.Entries.{Made, made_of, meanings, entries, all_conditions}

-- all that stands in a Spec; of a tree its nodes
pub record Description : Type 0 where
  pub machine : List ℕ
  pub alphabet : Alphabet
  pub entries : List Made
  pub actions : List ActionDef
  pub conditions : List ActionId
  pub frame : Frame
  pub writes : List Write
  pub files : List (List ℕ)

-- what a Spec says
abbrev pub description : Spec → Description
description spec = record {
  machine = spec.machine;
  alphabet = spec.alphabet;
  entries = map made_of spec.entries;
  actions = spec.actions;
  conditions = spec.conds;
  frame = spec.frame;
  writes = spec.writes;
  files = spec.files;
}

-- what the Spec of a draft says: its names are followed and its operators rewritten. These files were read
abbrev pub described : List (List ℕ) → Draft → Description
described files draft = record {
  machine = draft.machine;
  alphabet = draft.alphabet;
  entries = entries [] (meanings draft);
  actions = draft.actions;
  conditions = all_conditions [] (meanings draft);
  frame = draft.frame;
  writes = draft.writes;
  files = files;
}

-- the Spec is that of the draft
abbrev pub IsSpecOf : List (List ℕ) → Draft → Spec → Type 0
IsSpecOf files draft spec = description spec ≡ described files draft
