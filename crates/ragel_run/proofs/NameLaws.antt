-- A script is the same by names that are the same.
use Rattle.std.proofs.Common.{◌≡◌, ℕ, not, List, [], ◌∷◌, ◌++◌, Result, Ok, Err, refl, ap}
use Rattle.std.specs.Option.{option_or}
use Rattle.std.specs.Str.{bytes_eq}
use Rattle.std.specs.List.{list_any}
use Rattle.rl_sets.specs.Sets.{In}
use Rattle.rl_sets.proofs.SetLaws.{any-same}
use Rattle.rl_replay.specs.declared.script.Event.{Event}
use Rattle.rl_replay.specs.declared.script.Event.TheVariants.{Open, Piece, End, Pick, Say}
use Rattle.rl_replay.specs.declared.script.Line.{Line}
use Rattle.rl_replay.specs.declared.script.ScriptFault.{ScriptFault}
use Rattle.rl_replay.specs.declared.script.ScriptFault.TheVariants.{Twice, NoSession, NoName}
use Rattle.rl_replay.specs.Script.{read_script}
use Rattle.rl_replay.specs.Sessions.{Names, has_name, fault_of, fault_from, unless, admitted, script_of, answers_same, if_so, is_opened, only}

-- only the entries have names, or only the conditions
abbrev entries_alone : List (List ℕ) → Names
entries_alone entries = record { entries = entries; actions = []; conditions = [] }

abbrev conditions_alone : List (List ℕ) → Names
conditions_alone conditions = record { entries = []; actions = []; conditions = conditions }

-- the same names, however they are listed, have the same
pub has_same : (xs ys : List (List ℕ)) → ((x : List ℕ) → In x xs → In x ys) → ((x : List ℕ) → In x ys → In x xs) → (name : List ℕ) → has_name xs name ≡ has_name ys name
has_same xs ys to back name = any-same (λ other. bytes_eq other name) xs ys (record { to = to; back = back })

module _ (names other : Names) (entries : names.entries ≡ other.entries) (actions : (name : List ℕ) → has_name names.actions name ≡ has_name other.actions name)
    (conditions : names.conditions ≡ other.conditions) where
  fault_same : (all past : List Line) (n : ℕ) (event : Event) → fault_of names all past n event ≡ fault_of other all past n event
  fault_same all past n (Open s entry) = ap (λ es. fault_of (entries_alone es) all past n (Open s entry)) entries
  fault_same all past n (Piece s bytes) = refl
  fault_same all past n (End s) = refl
  fault_same all past n (Pick s action count picks) =
      ap (λ has. option_or (if_so (list_any (λ line. answers_same (Pick s action count picks) line.event) past) (Twice n))
      (option_or (if_so (not (is_opened (only s all))) (NoSession n)) (if_so (not has) (NoName n)))) (actions action)
  fault_same all past n (Say s condition count holds) = ap (λ cs. fault_of (conditions_alone cs) all past n (Say s condition count holds)) conditions

  from_same : (all past rest : List Line) → fault_from names all past rest ≡ fault_from other all past rest
  from_same all past [] = refl
  from_same all past (line ∷ rest) = λ i. option_or (fault_same all past line.number line.event i) (from_same all (past ++ line ∷ []) rest i)

  admitted_same : (read : Result (List Line) ScriptFault) → admitted names read ≡ admitted other read
  admitted_same (Ok lines) = ap (λ fault. unless fault lines) (from_same lines [] lines)
  admitted_same (Err fault) = refl

  pub script_alike : (text : List ℕ) → script_of names text ≡ script_of other text
  script_alike text = admitted_same (read_script text)
