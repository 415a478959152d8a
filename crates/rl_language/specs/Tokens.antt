-- The tokens of an input, and the token calls of a run: each call tells an action and where the token begins and ends.
use Rattle.std.specs.Prelude.{◌≡◌, ℕ, ◌+◌, ◌<◌, ◌≤◌, ◌^◌, Bool, true, false, cond, List, [], ◌∷◌, ◌++◌, map, Option, Some, length, ◌↔◌}
use Rattle.std.specs.List.{flat_map}
use Rattle.rl_types.specs.declared.numbers.Letter.{Letter}
use Rattle.rl_types.specs.Alphabet.{characters, has_rest}
use Rattle.rl_automata.specs.Scans.{Pattern, PatternMarks}
use Rattle.rl_run.specs.declared.calls.Answer.{Answer}
use Rattle.rl_run.specs.declared.calls.Call.{Call}
use Rattle.rl_run.specs.declared.calls.CallKind.{CallKind}
use Rattle.rl_run.specs.declared.calls.CallKind.TheVariants.{Token}
use Rattle.rl_run.specs.declared.calls.Verdict.{Verdict}
use Rattle.rl_run.specs.declared.calls.Verdict.TheVariants.{Final}
use Rattle.rl_run.specs.declared.sessions.Settings.{Settings}
use Rattle.rl_run.specs.Machine.{Machine}
use Rattle.rl_run.specs.Play.{ended}
use Rattle.rl_run.specs.Run.{Rest}
use Rattle.rl_run.specs.Verdict.{verdict_of}
use Rattle.rl_model.specs.Specification.{Root, Plain, Scanner}
use Rattle.rl_model.specs.Trees.{Tests}
use Rattle.rl_language.specs.Scanners.{ArePatternsWithoutPriorities, IsLongest, HasNoFront, MakesToken}
use Rattle.rl_language.specs.Verdicts.{AreAnsweredBy, IsStoppedByHost, letters_of, log_of}

-- ---- token calls

abbrev pub is_token : CallKind → Bool
is_token Token = true
is_token _ = false

-- an action of a token's list, and where the token begins and ends
pub record TokenLine : Type 0 where
  pub action : ℕ
  pub ts : Option ℕ
  pub te : Option ℕ

-- what a call tells of a token; nothing where it is another's call
abbrev pub told_by : Call → List TokenLine
told_by c = cond (is_token c.kind) (record { action = c.action.0; ts = c.ts; te = c.te } ∷ []) []

-- what calls tell of tokens
abbrev pub tokens_called : List Call → List TokenLine
tokens_called calls = flat_map told_by calls

-- ---- the tokens of a word

-- The word is cut into tokens from its front on, one after another: each is the longest front of what is left that some
-- pattern has; and of the rest no pattern has a front.
abbrev pub IsCut : List Pattern → List Letter → List (List Letter) → List Letter → Type 0
IsCut ps w [] rest = (w ≡ rest) × HasNoFront ps rest
IsCut ps w (u ∷ us) rest = (v : List Letter) × (w ≡ u ++ v) × IsLongest ps w u × IsCut ps v us rest

-- the actions of a token that begins and ends there
abbrev pub lines_of : ℕ → ℕ → List ℕ → List TokenLine
lines_of ts te actions = map (λ action. record { action = action; ts = Some ts; te = Some te }) actions

-- These are the lines of the tokens, the first of which begins at a position, and each next one where the one before it ends: the
-- actions that each token makes.
abbrev pub AreLines : (ps : List Pattern) → PatternMarks ps → ℕ → List (List Letter) → List TokenLine → Type 0
AreLines ps k at [] lines = lines ≡ []
AreLines ps k at (u ∷ us) lines =
    (actions : List ℕ) × (more : List TokenLine) × (lines ≡ lines_of at (at + length u) actions ++ more)
    × MakesToken ps k u (Some actions) × AreLines ps k (at + length u) us more

-- The lines are those of the tokens that the word is cut into, and the verdict is Final exactly where nothing is left.
pub record IsScanned (ps : List Pattern) (k : PatternMarks ps) (w : List Letter) (lines : List TokenLine) (verdict : Verdict) : Type 0 where
  pub tokens : List (List Letter)
  pub rest : List Letter
  pub cut : IsCut ps w tokens rest
  pub told : AreLines ps k 0 tokens lines
  pub word : (verdict ≡ Final) ↔ (rest ≡ [])

-- ---- entries

-- the entry is a scanner, and no priority is embedded in its patterns
abbrev pub ScansWithoutPriorities : Root → Type 0
ScansWithoutPriorities (Plain t) = ⊥
ScansWithoutPriorities (Scanner ps) = ArePatternsWithoutPriorities ps

-- the entry is a scanner, and these are the lines and the verdict of the word
abbrev pub IsScannedBy : (x : Root) → Tests x → List Letter → List TokenLine → Verdict → Type 0
IsScannedBy (Plain t) k w lines verdict = ⊥
IsScannedBy (Scanner ps) k w lines verdict = IsScanned ps k.0 w lines verdict

-- the same line, with the action's other number
abbrev pub renamed_line : (ℕ → ℕ) → TokenLine → TokenLine
renamed_line rename line = record { action = rename line.action; ts = line.ts; te = line.te }

-- the lines are those of the word, where actions have other numbers
abbrev pub IsScannedUnder : (ℕ → ℕ) → (x : Root) → Tests x → List Letter → List TokenLine → Verdict → Type 0
IsScannedUnder rename x k w lines verdict = (told : List TokenLine) × (lines ≡ map (renamed_line rename) told) × IsScannedBy x k w told verdict

-- A run over a whole input of whole characters, no more than a token may have, from the entry of this number on, that came to
-- its end and was not stopped by an answer: its token calls and its verdict are such as are said of the input, with the
-- conditions that held at each character.
abbrev pub TokensCutInput : {S : Type 0} → Machine S → ℕ → (List Letter → List TokenLine → Verdict → Type 0) → Type 0
TokensCutInput {S} m e AreSaid =
    (settings : Settings) (bytes : List ℕ) (truths : ℕ → ℕ) (answers : List Answer) (r : Rest S) →
    length bytes < 2 ^ 63 → has_rest m.width bytes ≡ false → length (characters m.width bytes) ≤ settings.token_max → ((p : ℕ) → truths p < 2 ^ 8) →
    AreAnsweredBy truths (log_of m settings e bytes answers).calls answers →
    (log_of m settings e bytes answers).reached ≡ ended r → ¬ IsStoppedByHost r.outcome →
    AreSaid (letters_of m.width m.key_of truths bytes) (tokens_called (log_of m settings e bytes answers).calls) (verdict_of m r)
