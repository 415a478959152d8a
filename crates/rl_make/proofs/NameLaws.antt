-- Of the names that a machine has, only those of its entries say what is written.
use Rattle.std.proofs.Common.{◌≡◌, ℕ, List, [], ◌∷◌, ◌++◌, map, length, drop, cond, true, Option, refl, sym, ◌∙◌, ap}
use Rattle.rl_arrays.specs.declared.arrays.Arrays.{Arrays}
use Rattle.rl_arrays.specs.TableMachine as tables
use Rattle.rl_run.specs.declared.sessions.Settings.{Settings}
use Rattle.rl_run.specs.Machine.{Machine}
use Rattle.rl_run.specs.Run.{input_at}
use Rattle.rl_run.specs.Verdict.{verdict_of}
use Rattle.rl_model.specs.declared.spec.Spec.{Spec}
use Rattle.rl_model.specs.Specification.{specification_of}
use Rattle.rl_model.specs.Trees.{TestsOf, AreTestsHonest, tree_machine}
use Rattle.rl_replay.specs.declared.script.Line.{Line}
use Rattle.rl_replay.specs.Sessions.{Names, entry_or_start, only, session_of, is_opened, live}
use Rattle.rl_replay.specs.Host.{host}
use Rattle.rl_replay.specs.Lines.{session_run, run_lines, left_line}
use Rattle.rl_replay.specs.Written.{texts, input_of, entry_of, session_lines, left_part, parts_from, added, left, written, whole_input}
use Rattle.rl_replay.proofs.Whole.{one_run}
use Rattle.rl_make.specs.Writes.{entry_names, WritesAs}
use Rattle.rl_script.specs.TableNames.{names_in}

-- a session that is opened at the same entry, has one piece and is ended writes the same, whatever the names are
pub one_session_alike : {S : Type 0} (names other : Names) (m : Machine S) (settings : Settings) (s : List ℕ) (entry : Option (List ℕ)) (bytes : List ℕ) →
    entry_or_start names entry ≡ entry_or_start other entry →
    written names m settings (whole_input s entry bytes) ≡ written other m settings (whole_input s entry bytes)
one_session_alike names other m settings s entry bytes e =
    one_run names m settings s entry bytes
    ∙ ap (λ n. run_lines m settings s (host m []) n (input_at m.width 0 bytes true)) e
    ∙ sym (one_run other m settings s entry bytes)

-- only the entries have names
abbrev named : List (List ℕ) → Names
named entries = record { entries = entries; actions = []; conditions = [] }

module _ {S : Type 0} (names other : Names) (same : names.entries ≡ other.entries) (m : Machine S) (settings : Settings) where
  entry_same : (past : List Line) → entry_of names past ≡ entry_of other past
  entry_same past = ap (λ entries. entry_of (named entries) past) same

  session_same : (s : List ℕ) (own past : List Line) → session_lines names m settings s own past ≡ session_lines other m settings s own past
  session_same s own past = ap (λ n. cond (is_opened past) (run_lines m settings s (host m own) n (input_of m.width past)) []) (entry_same past)

  left_same : (s : List ℕ) (own : List Line) → left_part names m settings s own ≡ left_part other m settings s own
  left_same s own =
      ap (λ n. let run = session_run m settings (host m own) n (input_of m.width own) in record { session = s; text = left_line s (verdict_of m run.1) run.1.session.next })
      (entry_same own)

  module _ (script : List Line) where
    parts_from_same : (past rest : List Line) → parts_from names m settings script past rest ≡ parts_from other m settings script past rest
    parts_from_same past [] = refl
    parts_from_same past (line ∷ rest) =
        let s = session_of line.event in
        let own = only s script in
        let later = only s (past ++ line ∷ []) in
        ap (λ t. record { session = s; text = drop (length t) (session_lines names m settings s own later) } ∷ parts_from names m settings script (past ++ line ∷ []) rest)
        (session_same s own (only s past))
        ∙ ap (λ t. record { session = s; text = drop (length (session_lines other m settings s own (only s past))) t } ∷ parts_from names m settings script (past ++ line ∷ []) rest)
        (session_same s own later)
        ∙ ap (λ parts. added other m settings script past line ∷ parts) (parts_from_same (past ++ line ∷ []) rest)

    lefts_same : (ss : List (List ℕ)) → map (left names m settings script) ss ≡ map (left other m settings script) ss
    lefts_same [] = refl
    lefts_same (s ∷ ss) =
        ap (λ p. p ∷ map (left names m settings script) ss) (left_same s (only s script))
        ∙ ap (λ ps. left other m settings script s ∷ ps) (lefts_same ss)

    -- the names of actions and conditions make no difference
    pub names_alike : written names m settings script ≡ written other m settings script
    names_alike =
        ap (λ ps. texts (ps ++ map (left names m settings script) (live script))) (parts_from_same [] script)
        ∙ ap (λ ps. texts (parts_from other m settings script [] script ++ ps)) (lefts_same (live script))

-- arrays that write what the Spec's expressions write do so under all names whose entries are the Spec's
pub writes_under : (spec : Spec) (a : Arrays) → WritesAs spec a → (names_in a).entries ≡ entry_names spec → (names : Names) → names.entries ≡ entry_names spec →
    (tests : TestsOf (specification_of spec)) → AreTestsHonest (specification_of spec) tests → (settings : Settings) (script : List Line) →
    written names (tables.machine a) settings script ≡ written names (tree_machine (specification_of spec) tests) settings script
writes_under spec a writes own names e tests honest settings script =
    let same = e ∙ sym own in
    names_alike names (names_in a) same (tables.machine a) settings script
    ∙ writes tests honest settings script
    ∙ sym (names_alike names (names_in a) same (tree_machine (specification_of spec) tests) settings script)
