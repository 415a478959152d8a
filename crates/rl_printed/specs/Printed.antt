-- The text of a printed file.
use Rattle.std.specs.Prelude.{ℕ, ◌+◌, Bool, List, [], ◌∷◌, ◌++◌, filter, flat_map, Option, Some, None, slice_get}
use Rattle.std.specs.Option.{option_map_or}
use Rattle.rl_arrays.specs.declared.arrays.Arrays.{Arrays}
use Rattle.rl_arrays.specs.Section.{section}
use Rattle.rl_lexical.specs.declared.part.Part.{Part}
use Rattle.rl_lexical.specs.declared.part.Part.TheVariants as p
use Rattle.rl_model.specs.declared.spec.Write.{Write}
use Rattle.rl_model.specs.declared.spec.WriteKind.{WriteKind}
use Rattle.rl_model.specs.declared.spec.WriteKind.TheVariants as kind
use Rattle.rl_model.specs.declared.spec.Spec.{Spec}
use Rattle.rl_cexec.specs.Texts.{init_text, exec_text}
use Rattle.rl_printed.specs.declared.job.Job.{Job}
use Rattle.rl_printed.specs.Jobs.{in_text_order, is_of}

-- what a `write` statement of a machine stands for
abbrev pub write_text : Spec → Arrays → WriteKind → List ℕ
write_text spec a kind.Data = section a
write_text spec a kind.Init = init_text spec a spec.frame
write_text spec a kind.Exec = exec_text spec a spec.frame

-- the text of a machine's statement of this number; without tables it has none
abbrev pub written : Spec → Option Arrays → ℕ → List ℕ
written spec None number = []
written spec (Some a) number = option_map_or (λ (w : Write). write_text spec a w.kind) (slice_get spec.writes number) []

-- the text of a job, where these are the machines and their tables
abbrev pub job_text : List Spec → List (Option Arrays) → Job → List ℕ
job_text specs tables job =
    option_map_or (λ spec. option_map_or (λ a. written spec a job.number) (slice_get tables job.machine) []) (slice_get specs job.machine) []

-- host text as it stands, and in place of each block, from this number on, the texts of its jobs in their order
abbrev pub printed_from : (Job → List ℕ) → ℕ → List Part → List Job → List ℕ
printed_from text block [] jobs = []
printed_from text block (p.Host host ∷ parts) jobs = host ++ printed_from text block parts jobs
printed_from text block (p.Block b ∷ parts) jobs = flat_map text (filter (is_of block) jobs) ++ printed_from text (block + 1) parts jobs

-- the text of a file with these parts, where these are its machines and their tables
abbrev pub printed : List Part → List Spec → List (Option Arrays) → List ℕ
printed parts specs tables = printed_from (job_text specs tables) 0 parts (in_text_order specs)

-- a Spec whose frame says whether `#line` is printed
abbrev pub marking : Bool → Spec → Spec
marking marked spec = record spec { frame = record spec.frame { marked = marked } }
