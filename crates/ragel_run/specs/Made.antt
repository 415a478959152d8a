-- What a run over an input that is made writes, and when it does not (this profile).
use Rattle.std.specs.Prelude.{◌≡◌, ◌⊎◌, ◌≤◌, ℕ, true, false, List, Option, None, Result, Ok, Err}
use Rattle.rl_io.specs.Outside.{Held}
use Rattle.rl_arrays.specs.declared.arrays.Arrays.{Arrays}
use Rattle.rl_model.specs.declared.spec.Spec.{Spec}
use Rattle.rl_model.specs.Specification.{specification_of}
use Rattle.rl_playback.specs.Defaults.{default_settings}
use Rattle.rl_made.specs.Made.{made_text}
use Rattle.rl_words.specs.Runs as words
use Rattle.rl_words.specs.Runs.{Run, is_printed}
use Rattle.rl_ends.specs.declared.refusal.Refusal.{Refusal}
use Rattle.ragel_run.specs.Files.{Gives}
use Rattle.ragel_run.specs.Sources.{HasSource}
use Rattle.ragel_run.specs.Replay.{DueByStop}
use Rattle.ragel_run.specs.Upgrade.{DueBySection}

-- an input of so many lines that is made, and the file whose first machine runs over it
pub record Making : Type 0 where
  pub lines : ℕ
  pub spec : List ℕ

-- an input that is made has 1 to 1,000,000 lines
abbrev pub IsCounted : Run → Type 0
IsCounted (words.Make lines spec) = (1 ≤ lines) × (lines ≤ 1000000)
IsCounted _ = Unit {0}

-- the file gives arrays, and the output gained by the line that tells of their run from the start entry on, with the default
-- settings
pub record Makes (Gains : List ℕ → Type 0) (held : Held) (m : Making) : Type 0 where
  pub arrays : Arrays
  pub given : Gives held None m.spec arrays
  pub gains : Gains (made_text arrays default_settings m.lines)

-- how the run is to end where the store does not fail
abbrev pub DueByMaking : Held → Making → Result (Unit {0}) Refusal → Type 0
DueByMaking held m end =
    ((is_printed m.spec ≡ false) × (DueByStop held None m.spec end ⊎ ((source : Spec) × HasSource held None m.spec source × (end ≡ Ok tt))))
    ⊎ ((is_printed m.spec ≡ true) × DueBySection held None m.spec end)
