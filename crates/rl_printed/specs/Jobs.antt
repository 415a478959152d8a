-- The `write` statements of a source, in text order.
use Rattle.std.specs.Prelude.{ℕ, ◌+◌, ◌==◌, ◌≤◌, Bool, List, [], ◌∷◌, ◌++◌}
use Rattle.std.specs.declared.cmp.Ordering.{Ordering}
use Rattle.std.specs.Ordering.{ordering_then, nat_cmp}
use Rattle.rl_sets.specs.Sets.{set_of}
use Rattle.rl_model.specs.declared.spec.Write.{Write}
use Rattle.rl_model.specs.declared.spec.Spec.{Spec}
use Rattle.rl_printed.specs.declared.job.Job.{Job}

abbrev pub job_of : ℕ → ℕ → Write → Job
job_of machine number w = record { block = w.block; line = w.place.line; col = w.place.col; machine = machine; number = number }

-- the jobs of a machine, whose statements are numbered from here on
abbrev pub jobs_from : ℕ → ℕ → List Write → List Job
jobs_from machine number [] = []
jobs_from machine number (w ∷ ws) = job_of machine number w ∷ jobs_from machine (number + 1) ws

-- the jobs of machines, which are numbered from here on
abbrev pub all_jobs : ℕ → List Spec → List Job
all_jobs machine [] = []
all_jobs machine (spec ∷ specs) = jobs_from machine 0 spec.writes ++ all_jobs (machine + 1) specs

-- by block, then line, then column; at one place by machine
abbrev pub job_cmp : Job → Job → Ordering
job_cmp x y =
    ordering_then (nat_cmp x.block y.block)
    (ordering_then (nat_cmp x.line y.line)
    (ordering_then (nat_cmp x.col y.col)
    (ordering_then (nat_cmp x.machine y.machine) (nat_cmp x.number y.number))))

-- the jobs of a source as their statements stand in the text
abbrev pub in_text_order : List Spec → List Job
in_text_order specs = set_of job_cmp (all_jobs 0 specs)

-- the job's statement stands in the block with this number
abbrev pub is_of : ℕ → Job → Bool
is_of block job = job.block == block

-- the blocks of jobs ascend from this one on
abbrev pub AscendFrom : ℕ → List Job → Type 0
AscendFrom block [] = Unit {0}
AscendFrom block (job ∷ jobs) = (block ≤ job.block) × AscendFrom job.block jobs
