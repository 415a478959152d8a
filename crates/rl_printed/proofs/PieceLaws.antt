-- A printed file is a list of sections and of other texts.
use Rattle.std.proofs.Common.{◌≡◌, ℕ, zero, suc, ◌+◌, ◌<◌, ◌≤◌, Bool, true, false, List, [], ◌∷◌, ◌++◌, Option, Some, None, refl, sym, ap, ◌∙◌, subst, arith, append_assoc, append-nil, inl, inr}
use Rattle.std.specs.Prelude.{slice_get, filter, ◌&&◌, nat_lt, ◌==◌, if◌then◌else◌, IfSome, option_and_then}
use Rattle.std.specs.Option.{option_map_or}
use Rattle.std.specs.Str.{bytes_eq}
use Rattle.std.specs.List.{AllByRecursion, flat_map, list_any}
use Rattle.std.proofs.lemmas.Slice.Eq.{bytes_eq-Decides}
use Rattle.std.proofs.lemmas.Bool.Decides.{nat_tests}
use Rattle.rl_arrays.specs.declared.arrays.Arrays.{Arrays}
use Rattle.rl_arrays.specs.Section.{section}
use Rattle.rl_arrays.specs.Valid.{Valid}
use Rattle.rl_cread.specs.Contents.{HasNumbers}
use Rattle.rl_cread.specs.Sections.{lines_of, IsRead}
use Rattle.rl_cdata.specs.Printed.{EndsLine}
use Rattle.rl_cdata.proofs.ReadLaws.{is_read}
use Rattle.rl_cexec.specs.Texts.{init_text, exec_text}
use Rattle.rl_sets.specs.Sets.{In}
use Rattle.rl_sets.proofs.SetLaws.{In-set_of, In-append_left, In-append_right, In-filter, In-flat_map}
use Rattle.rl_lexical.specs.declared.part.Part.{Part}
use Rattle.rl_lexical.specs.declared.part.Part.TheVariants as p
use Rattle.rl_model.specs.declared.spec.Write.{Write}
use Rattle.rl_model.specs.declared.spec.WriteKind.{WriteKind}
use Rattle.rl_model.specs.declared.spec.WriteKind.TheVariants as kind
use Rattle.rl_model.specs.declared.spec.Spec.{Spec}
use Rattle.rl_printed.specs.declared.job.Job.{Job}
use Rattle.rl_printed.specs.Jobs.{job_of, jobs_from, all_jobs, in_text_order, is_of}
use Rattle.rl_printed.specs.Printed as printed
use Rattle.rl_printed.specs.Reading.{AreHosts, AreSound, AreNamed, blocks_in, is_data, AreReadBack, tables_at, job_tables, or_else, first_of, first_from, first_tables, are_within, AreWithin, IsEachReadBack}
use Rattle.rl_printed.proofs.OrderLaws.{job_order}
use Rattle.rl_printed.proofs.QuietLaws.{NoneIn, none_at, none_from, none_any, none_behind, ends_behind, section_ends, other_section}
use Rattle.rl_printed.proofs.EndingLaws.{init_ends, exec_ends}

data Piece : Type 0 where
  Plain : List ℕ → Piece
  Data : Arrays → Piece

abbrev piece_text : Piece → List ℕ
piece_text (Plain text) = text
piece_text (Data a) = section a

abbrev text_of : List Piece → List ℕ
text_of ps = flat_map piece_text ps

-- ---- the first section that is sought

abbrev sought : Option (List ℕ) → Arrays → Bool
sought None a = true
sought (Some name) a = bytes_eq name a.name

abbrev first_sought : Option (List ℕ) → List Piece → Option Arrays
first_sought machine [] = None
first_sought machine (Plain text ∷ ps) = first_sought machine ps
first_sought machine (Data a ∷ ps) = if sought machine a then Some a else first_sought machine ps

is_sought : (machine : Option (List ℕ)) (a : Arrays) → sought machine a ≡ true → IfSome machine (λ name. name ≡ a.name)
is_sought None a e = tt
is_sought (Some name) a e = (bytes_eq-Decides name a.name).0 e

-- texts beside sections are quiet and whole lines, and sections are those of valid tables, of which Q holds
abbrev Good : (Arrays → Type 0) → Piece → Type 0
Good Q (Plain text) = NoneIn None (lines_of text) × EndsLine text
Good Q (Data a) = Valid a × HasNumbers a × Q a

not_sought : (machine : Option (List ℕ)) (a : Arrays) → Valid a → HasNumbers a → sought machine a ≡ false → NoneIn machine (lines_of (section a))
not_sought None a valid numbers e = absurd (let no : true ≡ false = e in cc)
not_sought (Some name) a valid numbers e =
    other_section name a valid numbers (λ n. absurd (let no : false ≡ true = sym e ∙ (bytes_eq-Decides name a.name).1 n in cc))

found : (Q : Arrays → Type 0) (machine : Option (List ℕ)) (a : Arrays) (before : List ℕ) (ps : List Piece) (tail : List ℕ) → EndsLine before
    → NoneIn machine (lines_of before)
    → AllByRecursion (Good Q) ps → first_sought machine ps ≡ Some a → IsRead machine (before ++ (text_of ps ++ tail)) a
found Q machine a before [] tail ends none good e = absurd (let no : None ≡ Some a = e in cc)
found Q machine a before (Plain text ∷ ps) tail ends none good e =
    subst (λ t. IsRead machine t a) (append_assoc before text (text_of ps ++ tail) ∙ ap (λ t. before ++ t) (sym (append_assoc text (text_of ps) tail)))
    (found Q machine a (before ++ text) ps tail (ends_behind before text ends good.0.1) (none_behind machine before text ends none (none_any machine (lines_of text) good.0.0)) good.1 e)
found Q machine a before (Data b ∷ ps) tail ends none good e =
    by (sought machine b) refl e
    (λ other. found Q machine a (before ++ section b) ps tail (ends_behind before (section b) ends (section_ends b))
    (none_behind machine before (section b) ends none (not_sought machine b good.0.0 good.0.1 other)) good.1)
  where
    whole : (rest : List ℕ) → before ++ (section b ++ (rest ++ tail)) ≡ before ++ ((section b ++ rest) ++ tail)
    whole rest = ap (λ t. before ++ t) (sym (append_assoc (section b) rest tail))

    by : (t : Bool) → sought machine b ≡ t → first_sought machine (Data b ∷ ps) ≡ Some a
        → (sought machine b ≡ false → first_sought machine ps ≡ Some a → IsRead machine ((before ++ section b) ++ (text_of ps ++ tail)) a)
        → IsRead machine (before ++ (text_of (Data b ∷ ps) ++ tail)) a
    by true h e more =
        let it : Some b ≡ Some a = rw h at e in
        let same : b ≡ a = cc in
        subst (λ t. IsRead machine t a) (whole (text_of ps))
        (subst (λ c. IsRead machine (before ++ (section b ++ (text_of ps ++ tail))) c) same
        (is_read machine before (text_of ps ++ tail) b good.0.0 good.0.1 ends (none_at machine (lines_of before) none) (is_sought machine b h)))
    by false h e more =
        let it : first_sought machine ps ≡ Some a = rw h at e in
        subst (λ t. IsRead machine t a) (append_assoc before (section b) (text_of ps ++ tail) ∙ whole (text_of ps)) (more h it)

-- where sections of the name are all of these arrays, and there is one, it is found
first_named : (a : Arrays) (ps : List Piece) → AllByRecursion (Good (λ b. a.name ≡ b.name → b ≡ a)) ps → In (Data a) ps → first_sought (Some a.name) ps ≡ Some a
first_named a [] good there = absurd there
first_named a (Plain text ∷ ps) good (inl e) = absurd (let no : Plain text ≡ Data a = e in cc)
first_named a (Plain text ∷ ps) good (inr there) = first_named a ps good.1 there
first_named a (Data b ∷ ps) good there = by (bytes_eq a.name b.name) refl there (first_named a ps good.1)
  where
    by : (t : Bool) → bytes_eq a.name b.name ≡ t → In (Data a) (Data b ∷ ps) → (In (Data a) ps → first_sought (Some a.name) ps ≡ Some a)
        → first_sought (Some a.name) (Data b ∷ ps) ≡ Some a
    by true e there more = rw e (ap Some (good.0.2 ((bytes_eq-Decides a.name b.name).0 e)))
    by false e there more = rw e (more (later there))
      where
        later : In (Data a) (Data b ∷ ps) → In (Data a) ps
        later (inl same) =
            let is : b ≡ a = cc in
            absurd (let no : false ≡ true = sym e ∙ (bytes_eq-Decides a.name b.name).1 (ap (λ c. c.name) (sym is)) in cc)
        later (inr there) = there

-- ---- the pieces of a file

abbrev write_piece : Spec → Arrays → WriteKind → Piece
write_piece spec a kind.Data = Data a
write_piece spec a kind.Init = Plain (init_text spec a spec.frame)
write_piece spec a kind.Exec = Plain (exec_text spec a spec.frame)

abbrev pieces_at : Spec → Arrays → Option Write → List Piece
pieces_at spec a None = []
pieces_at spec a (Some w) = write_piece spec a w.kind ∷ []

abbrev written : Spec → Option (Option Arrays) → ℕ → List Piece
written spec None number = []
written spec (Some None) number = []
written spec (Some (Some a)) number = pieces_at spec a (slice_get spec.writes number)

abbrev of_machine : Option Spec → Option (Option Arrays) → ℕ → List Piece
of_machine None tables number = []
of_machine (Some spec) tables number = written spec tables number

abbrev job_pieces : List Spec → List (Option Arrays) → Job → List Piece
job_pieces specs tables job = of_machine (slice_get specs job.machine) (slice_get tables job.machine) job.number

abbrev pieces_of : (Job → List Piece) → ℕ → List Part → List Job → List Piece
pieces_of of_job n [] jobs = []
pieces_of of_job n (p.Host host ∷ []) jobs = []
pieces_of of_job n (p.Host host ∷ part ∷ parts) jobs = Plain host ∷ pieces_of of_job n (part ∷ parts) jobs
pieces_of of_job n (p.Block b ∷ parts) jobs = flat_map of_job (filter (is_of n) jobs) ++ pieces_of of_job (n + 1) parts jobs

-- the last host text, if it is the last part
abbrev tail_of : List Part → List ℕ
tail_of [] = []
tail_of (p.Host host ∷ []) = host
tail_of (p.Host host ∷ part ∷ parts) = tail_of (part ∷ parts)
tail_of (p.Block b ∷ parts) = tail_of parts

-- ---- their texts are what is printed

kind_text : (spec : Spec) (a : Arrays) (k : WriteKind) → printed.write_text spec a k ≡ text_of (write_piece spec a k ∷ [])
kind_text spec a kind.Data = sym (append-nil (section a))
kind_text spec a kind.Init = sym (append-nil (init_text spec a spec.frame))
kind_text spec a kind.Exec = sym (append-nil (exec_text spec a spec.frame))

at_text : (spec : Spec) (a : Arrays) (w : Option Write) → option_map_or (λ (w : Write). printed.write_text spec a w.kind) w [] ≡ text_of (pieces_at spec a w)
at_text spec a None = refl
at_text spec a (Some w) = kind_text spec a w.kind

written_text : (spec : Spec) (tables : Option (Option Arrays)) (number : ℕ)
    → option_map_or (λ a. printed.written spec a number) tables [] ≡ text_of (written spec tables number)
written_text spec None number = refl
written_text spec (Some None) number = refl
written_text spec (Some (Some a)) number = at_text spec a (slice_get spec.writes number)

machine_text : (found : Option Spec) (tables : Option (Option Arrays)) (number : ℕ)
    → option_map_or (λ spec. option_map_or (λ a. printed.written spec a number) tables []) found [] ≡ text_of (of_machine found tables number)
machine_text None tables number = refl
machine_text (Some spec) tables number = written_text spec tables number

job_is : (specs : List Spec) (tables : List (Option Arrays)) (job : Job) → printed.job_text specs tables job ≡ text_of (job_pieces specs tables job)
job_is specs tables job = machine_text (slice_get specs job.machine) (slice_get tables job.machine) job.number

text_append : (ps qs : List Piece) → text_of (ps ++ qs) ≡ text_of ps ++ text_of qs
text_append [] qs = refl
text_append (x ∷ ps) qs = ap (λ t. piece_text x ++ t) (text_append ps qs) ∙ sym (append_assoc (piece_text x) (text_of ps) (text_of qs))

jobs_are : (specs : List Spec) (tables : List (Option Arrays)) (jobs : List Job)
    → flat_map (printed.job_text specs tables) jobs ≡ text_of (flat_map (job_pieces specs tables) jobs)
jobs_are specs tables [] = refl
jobs_are specs tables (j ∷ jobs) =
    ap (λ t. t ++ flat_map (printed.job_text specs tables) jobs) (job_is specs tables j)
    ∙ ap (λ t. text_of (job_pieces specs tables j) ++ t) (jobs_are specs tables jobs)
    ∙ sym (text_append (job_pieces specs tables j) (flat_map (job_pieces specs tables) jobs))

parts_are : (specs : List Spec) (tables : List (Option Arrays)) (n : ℕ) (parts : List Part) (jobs : List Job)
    → text_of (pieces_of (job_pieces specs tables) n parts jobs) ++ tail_of parts ≡ printed.printed_from (printed.job_text specs tables) n parts jobs
parts_are specs tables n [] jobs = refl
parts_are specs tables n (p.Host host ∷ []) jobs = sym (append-nil host)
parts_are specs tables n (p.Host host ∷ part ∷ parts) jobs =
    append_assoc host (text_of (pieces_of (job_pieces specs tables) n (part ∷ parts) jobs)) (tail_of (part ∷ parts))
    ∙ ap (λ t. host ++ t) (parts_are specs tables n (part ∷ parts) jobs)
parts_are specs tables n (p.Block b ∷ parts) jobs =
    let here = flat_map (job_pieces specs tables) (filter (is_of n) jobs) in
    let more = pieces_of (job_pieces specs tables) (n + 1) parts jobs in
    ap (λ t. t ++ tail_of parts) (text_append here more)
    ∙ append_assoc (text_of here) (text_of more) (tail_of parts)
    ∙ ap (λ t. text_of here ++ t) (parts_are specs tables (n + 1) parts jobs)
    ∙ ap (λ t. t ++ printed.printed_from (printed.job_text specs tables) (n + 1) parts jobs) (sym (jobs_are specs tables (filter (is_of n) jobs)))

-- ---- they are good

module _ (specs : List Spec) (tables : List (Option Arrays)) (machines : AreSound specs tables) (Q : Arrays → Type 0) (each : (m : ℕ) (b : Arrays) → slice_get tables m ≡ Some (Some b) → Q b) where
  kind_good : (m : ℕ) (spec : Spec) (b : Arrays) → slice_get specs m ≡ Some spec → slice_get tables m ≡ Some (Some b) → (k : WriteKind)
      → Good Q (write_piece spec b k)
  kind_good m spec b e f kind.Data = let v = machines m spec e b f in (v.valid, v.numbers, each m b f)
  kind_good m spec b e f kind.Init = (none_from None _ (machines m spec e b f).init, init_ends spec b spec.frame)
  kind_good m spec b e f kind.Exec = (none_from None _ (machines m spec e b f).exec, exec_ends spec b spec.frame)

  at_good : (m : ℕ) (spec : Spec) (b : Arrays) → slice_get specs m ≡ Some spec → slice_get tables m ≡ Some (Some b) → (w : Option Write)
      → AllByRecursion (Good Q) (pieces_at spec b w)
  at_good m spec b e f None = tt
  at_good m spec b e f (Some w) = (kind_good m spec b e f w.kind, tt)

  written_good : (m : ℕ) (spec : Spec) → slice_get specs m ≡ Some spec → (o : Option (Option Arrays)) → slice_get tables m ≡ o → (number : ℕ)
      → AllByRecursion (Good Q) (written spec o number)
  written_good m spec e None f number = tt
  written_good m spec e (Some None) f number = tt
  written_good m spec e (Some (Some b)) f number = at_good m spec b e f (slice_get spec.writes number)

  machine_good : (m : ℕ) (o : Option Spec) → slice_get specs m ≡ o → (number : ℕ) → AllByRecursion (Good Q) (of_machine o (slice_get tables m) number)
  machine_good m None e number = tt
  machine_good m (Some spec) e number = written_good m spec e (slice_get tables m) refl number

  good_append : (ps qs : List Piece) → AllByRecursion (Good Q) ps → AllByRecursion (Good Q) qs → AllByRecursion (Good Q) (ps ++ qs)
  good_append [] qs h k = k
  good_append (x ∷ ps) qs h k = (h.0, good_append ps qs h.1 k)

  jobs_good : (jobs : List Job) → AllByRecursion (Good Q) (flat_map (job_pieces specs tables) jobs)
  jobs_good [] = tt
  jobs_good (j ∷ jobs) =
      good_append (job_pieces specs tables j) (flat_map (job_pieces specs tables) jobs) (machine_good j.machine (slice_get specs j.machine) refl j.number) (jobs_good jobs)

  all_good : (n : ℕ) (parts : List Part) (jobs : List Job) → AreHosts parts → AllByRecursion (Good Q) (pieces_of (job_pieces specs tables) n parts jobs)
  all_good n [] jobs h = tt
  all_good n (p.Host host ∷ []) jobs h = tt
  all_good n (p.Host host ∷ part ∷ parts) jobs h = ((none_from None (lines_of host) h.0, h.1), all_good n (part ∷ parts) jobs h.2)
  all_good n (p.Block b ∷ parts) jobs h =
      good_append (flat_map (job_pieces specs tables) (filter (is_of n) jobs)) _ (jobs_good (filter (is_of n) jobs)) (all_good (n + 1) parts jobs h)

-- ---- the section is among them

is_itself : (n : ℕ) → (n == n) ≡ true
is_itself n = grind (arith, nat_tests)

in_from : (machine number : ℕ) (ws : List Write) (k : ℕ) (w : Write) → slice_get ws k ≡ Some w
    → In (job_of machine (number + k) w) (jobs_from machine number ws)
in_from machine number [] k w e = absurd (let no : None ≡ Some w = e in cc)
in_from machine number (v ∷ ws) zero w e = inl (let same : v ≡ w = cc in ap (λ x. job_of machine number x) same ∙ ap (λ k. job_of machine k w) (let s : number ≡ number + 0 = omega arith in s))
in_from machine number (v ∷ ws) (suc k) w e =
    inr (subst (λ n. In (job_of machine n w) (jobs_from machine (number + 1) ws)) (let s : number + 1 + k ≡ number + suc k = omega arith in s) (in_from machine (number + 1) ws k w e))

in_all : (machine : ℕ) (specs : List Spec) (i : ℕ) (spec : Spec) (j : ℕ → Job) → slice_get specs i ≡ Some spec
    → ((m : ℕ) → In (j m) (jobs_from m 0 spec.writes))
    → In (j (machine + i)) (all_jobs machine specs)
in_all machine [] i spec j e h = absurd (let no : None ≡ Some spec = e in cc)
in_all machine (s ∷ specs) zero spec j e h =
    let same : s ≡ spec = cc in
    let at : machine ≡ machine + 0 = omega arith in
    In-append_left _ (jobs_from machine 0 s.writes) (all_jobs (machine + 1) specs)
    (subst (λ m. In (j m) (jobs_from machine 0 s.writes)) at (subst (λ x. In (j machine) (jobs_from machine 0 x.writes)) (sym same) (h machine)))
in_all machine (s ∷ specs) (suc i) spec j e h =
    In-append_right _ (jobs_from machine 0 s.writes) (all_jobs (machine + 1) specs)
    (subst (λ m. In (j m) (all_jobs (machine + 1) specs)) (let n : machine + 1 + i ≡ machine + suc i = omega arith in n) (in_all (machine + 1) specs i spec j e h))

-- the jobs of a block are printed
in_pieces : (of_job : Job → List Piece) (n : ℕ) (parts : List Part) (jobs : List Job) (j : Job) (x : Piece) → In j jobs → In x (of_job j) → n ≤ j.block
    → j.block < n + blocks_in parts
    → In x (pieces_of of_job n parts jobs)
in_pieces of_job n [] jobs j x h k low high = absurd (omega (arith, low, high))
in_pieces of_job n (p.Host host ∷ []) jobs j x h k low high = absurd (omega (arith, low, high))
in_pieces of_job n (p.Host host ∷ part ∷ parts) jobs j x h k low high = inr (in_pieces of_job n (part ∷ parts) jobs j x h k low high)
in_pieces of_job n (p.Block b ∷ parts) jobs j x h k low high =
    by (is_of n j) refl (λ more. in_pieces of_job (n + 1) parts jobs j x h k more (omega (arith, high)))
  where
    by : (t : Bool) → is_of n j ≡ t → (n + 1 ≤ j.block → In x (pieces_of of_job (n + 1) parts jobs)) → In x (pieces_of of_job n (p.Block b ∷ parts) jobs)
    by true e more =
        In-append_left x (flat_map of_job (filter (is_of n) jobs)) (pieces_of of_job (n + 1) parts jobs)
        (In-flat_map of_job x j (filter (is_of n) jobs) (In-filter (is_of n) j jobs h e) k)
    by false e more =
        let above : n + 1 ≤ j.block = grind (arith, nat_tests, e, low) in
        In-append_right x (flat_map of_job (filter (is_of n) jobs)) (pieces_of of_job (n + 1) parts jobs) (more above)

-- a statement that passes a test has a number
numbered : (p : Write → Bool) (ws : List Write) → list_any p ws ≡ true → (k : ℕ) × (w : Write) × (slice_get ws k ≡ Some w) × (p w ≡ true)
numbered p [] h = absurd (let no : false ≡ true = h in cc)
numbered p (w ∷ ws) h = by (p w) refl (numbered p ws)
  where
    by : (t : Bool) → p w ≡ t → (list_any p ws ≡ true → (k : ℕ) × (v : Write) × (slice_get ws k ≡ Some v) × (p v ≡ true))
        → (k : ℕ) × (v : Write) × (slice_get (w ∷ ws) k ≡ Some v) × (p v ≡ true)
    by true e more = (0, w, refl, e)
    by false e more =
        let rest : list_any p ws ≡ true = rw e at h in
        let x = more rest in (suc x.0, x.1, x.2, x.3)

and_both : (a b : Bool) → (a && b) ≡ true → (a ≡ true) × (b ≡ true)
and_both true b e = (refl, e)
and_both false b e = absurd cc

data_piece : (spec : Spec) (a : Arrays) (k : WriteKind) → is_data k ≡ true → write_piece spec a k ≡ Data a
data_piece spec a kind.Data e = refl
data_piece spec a kind.Init e = absurd (let no : false ≡ true = e in cc)
data_piece spec a kind.Exec e = absurd (let no : false ≡ true = e in cc)

has_piece : (specs : List Spec) (tables : List (Option Arrays)) (i number : ℕ) (spec : Spec) (a : Arrays) (w : Write)
    → slice_get specs i ≡ Some spec → slice_get tables i ≡ Some (Some a) → slice_get spec.writes number ≡ Some w → is_data w.kind ≡ true
    → In (Data a) (job_pieces specs tables (job_of i number w))
has_piece specs tables i number spec a w e f g d =
    subst (λ o. In (Data a) (of_machine o (slice_get tables i) number)) (sym e)
    (subst (λ o. In (Data a) (written spec o number)) (sym f)
    (subst (λ o. In (Data a) (pieces_at spec a o)) (sym g) (inl (data_piece spec a w.kind d))))

pub read_back : (parts : List Part) (specs : List Spec) (tables : List (Option Arrays)) → AreHosts parts → AreSound specs tables → AreNamed tables
    → AreReadBack parts specs tables (printed.printed parts specs tables)
read_back parts specs tables hosts machines names i spec a e f writes =
    let x = numbered (λ (w : Write). is_data w.kind && nat_lt w.block (blocks_in parts)) spec.writes writes in
    let both = and_both (is_data x.1.kind) (nat_lt x.1.block (blocks_in parts)) x.3 in
    let within : x.1.block < 0 + blocks_in parts = grind (arith, nat_tests, both.1) in
    let job = job_of i x.0 x.1 in
    let jobs = in_text_order specs in
    let among : In job jobs =
    In-set_of job_order job (all_jobs 0 specs)
    (subst (λ m. In (job_of m x.0 x.1) (all_jobs 0 specs)) (let n : 0 + i ≡ i = omega arith in n)
    (in_all 0 specs i spec (λ m. job_of m x.0 x.1) e (λ m. subst (λ k. In (job_of m k x.1) (jobs_from m 0 spec.writes)) (let n : 0 + x.0 ≡ x.0 = omega arith in n) (in_from m 0 spec.writes x.0 x.1 x.2)))) in
    let there = in_pieces (job_pieces specs tables) 0 parts jobs job (Data a) among (has_piece specs tables i x.0 spec a x.1 e f x.2 both.0) (omega arith) within in
    let good = all_good specs tables machines (λ b. a.name ≡ b.name → b ≡ a) (λ m b g name. names m i b a g f (sym name)) 0 parts jobs hosts in
    let pieces = pieces_of (job_pieces specs tables) 0 parts jobs in
    subst (λ t. IsRead (Some a.name) t a) (parts_are specs tables 0 parts jobs)
    (found (λ b. a.name ≡ b.name → b ≡ a) (Some a.name) a [] pieces (tail_of parts) (inl refl) tt good (first_named a pieces good there))

-- ---- the first section

first_append : (ps qs : List Piece) → first_sought None (ps ++ qs) ≡ or_else (first_sought None ps) (first_sought None qs)
first_append [] qs = refl
first_append (Plain text ∷ ps) qs = first_append ps qs
first_append (Data a ∷ ps) qs = refl

kind_first : (spec : Spec) (a : Arrays) (k : WriteKind) → first_sought None (write_piece spec a k ∷ []) ≡ (if is_data k then Some a else None)
kind_first spec a kind.Data = refl
kind_first spec a kind.Init = refl
kind_first spec a kind.Exec = refl

at_first : (spec : Spec) (a : Arrays) (w : Option Write)
    → first_sought None (pieces_at spec a w) ≡ option_and_then (λ (w : Write). if is_data w.kind then Some a else None) w
at_first spec a None = refl
at_first spec a (Some w) = kind_first spec a w.kind

written_first : (spec : Spec) (tables : Option (Option Arrays)) (number : ℕ)
    → first_sought None (written spec tables number) ≡ option_and_then (λ a. tables_at spec a number) tables
written_first spec None number = refl
written_first spec (Some None) number = refl
written_first spec (Some (Some a)) number = at_first spec a (slice_get spec.writes number)

machine_first : (found : Option Spec) (tables : Option (Option Arrays)) (number : ℕ)
    → first_sought None (of_machine found tables number) ≡ option_and_then (λ spec. option_and_then (λ a. tables_at spec a number) tables) found
machine_first None tables number = refl
machine_first (Some spec) tables number = written_first spec tables number

jobs_first : (specs : List Spec) (tables : List (Option Arrays)) (jobs : List Job)
    → first_sought None (flat_map (job_pieces specs tables) jobs) ≡ first_of (job_tables specs tables) jobs
jobs_first specs tables [] = refl
jobs_first specs tables (j ∷ jobs) =
    first_append (job_pieces specs tables j) (flat_map (job_pieces specs tables) jobs)
    ∙ ap (λ o. or_else o (first_sought None (flat_map (job_pieces specs tables) jobs))) (machine_first (slice_get specs j.machine) (slice_get tables j.machine) j.number)
    ∙ ap (or_else (job_tables specs tables j)) (jobs_first specs tables jobs)

parts_first : (specs : List Spec) (tables : List (Option Arrays)) (n : ℕ) (parts : List Part) (jobs : List Job)
    → first_sought None (pieces_of (job_pieces specs tables) n parts jobs) ≡ first_from (job_tables specs tables) n parts jobs
parts_first specs tables n [] jobs = refl
parts_first specs tables n (p.Host host ∷ []) jobs = refl
parts_first specs tables n (p.Host host ∷ part ∷ parts) jobs = parts_first specs tables n (part ∷ parts) jobs
parts_first specs tables n (p.Block b ∷ parts) jobs =
    first_append (flat_map (job_pieces specs tables) (filter (is_of n) jobs)) (pieces_of (job_pieces specs tables) (n + 1) parts jobs)
    ∙ ap (λ o. or_else o (first_sought None (pieces_of (job_pieces specs tables) (n + 1) parts jobs))) (jobs_first specs tables (filter (is_of n) jobs))
    ∙ ap (or_else (first_of (job_tables specs tables) (filter (is_of n) jobs))) (parts_first specs tables (n + 1) parts jobs)

first_read : (parts : List Part) (specs : List Spec) (tables : List (Option Arrays)) → AreHosts parts → AreSound specs tables
    → (first : Option Arrays) → first_tables parts specs tables ≡ first → IfSome first (λ a. IsRead None (printed.printed parts specs tables) a)
first_read parts specs tables hosts machines None e = tt
first_read parts specs tables hosts machines (Some a) e =
    let jobs = in_text_order specs in
    subst (λ t. IsRead None t a) (parts_are specs tables 0 parts jobs)
    (found (λ b. Unit {0}) None a [] (pieces_of (job_pieces specs tables) 0 parts jobs) (tail_of parts) (inl refl) tt
    (all_good specs tables machines (λ b. Unit {0}) (λ m b f. tt) 0 parts jobs hosts) (parts_first specs tables 0 parts jobs ∙ e))

pub first_read_back : (parts : List Part) (specs : List Spec) (tables : List (Option Arrays)) → AreHosts parts → AreSound specs tables
    → IfSome (first_tables parts specs tables) (λ a. IsRead None (printed.printed parts specs tables) a)
first_read_back parts specs tables hosts machines = first_read parts specs tables hosts machines (first_tables parts specs tables) refl

-- ---- statements that stand in blocks of the file

within_any : (n : ℕ) (ws : List Write) → are_within n ws ≡ true → list_any (λ (w : Write). is_data w.kind) ws ≡ true
    → list_any (λ (w : Write). is_data w.kind && nat_lt w.block n) ws ≡ true
within_any n [] h k = k
within_any n (w ∷ ws) h k = by (is_data w.kind) (nat_lt w.block n) refl refl (within_any n ws)
  where
    by : (t u : Bool) → is_data w.kind ≡ t → nat_lt w.block n ≡ u
        → (are_within n ws ≡ true → list_any (λ (w : Write). is_data w.kind) ws ≡ true → list_any (λ (w : Write). is_data w.kind && nat_lt w.block n) ws ≡ true)
        → list_any (λ (w : Write). is_data w.kind && nat_lt w.block n) (w ∷ ws) ≡ true
    by t false e f more = absurd (let no : false ≡ true = rw f at h in cc)
    by true true e f more = rw e (rw f refl)
    by false true e f more =
        let rest : are_within n ws ≡ true = rw f at h in
        let other : list_any (λ (w : Write). is_data w.kind) ws ≡ true = rw e at k in
        rw e (more rest other)

pub each_read_back : (parts : List Part) (specs : List Spec) (tables : List (Option Arrays)) → AreHosts parts → AreSound specs tables
    → AreWithin parts specs → AreNamed tables
    → IsEachReadBack specs tables (printed.printed parts specs tables)
each_read_back parts specs tables hosts machines within names i spec a e f writes =
    read_back parts specs tables hosts machines names i spec a e f (within_any (blocks_in parts) spec.writes (within i spec e) writes)
