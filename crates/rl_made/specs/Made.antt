-- The made input of a number of lines, its pieces, and what is told of the run over it (this profile).
use Rattle.std.specs.Prelude.{ℕ, zero, suc, ◌+◌, ◌%◌, true, List, [], ◌∷◌, ◌++◌, length, take, drop, flat_map, count_by, codes, decimal, Bool, false}
use Rattle.std.proofs.Math.ListN.{replicate}
use Rattle.std.specs.List.{range_with_len}
use Rattle.rl_run.specs.declared.calls.Call.{Call}
use Rattle.rl_run.specs.declared.calls.CallKind.{CallKind}
use Rattle.rl_run.specs.declared.calls.CallKind.TheVariants.{Token}
use Rattle.rl_run.specs.declared.calls.Verdict.{Verdict}
use Rattle.rl_run.specs.declared.sessions.Settings.{Settings}
use Rattle.rl_run.specs.Run.{Rest, input_at}
use Rattle.rl_run.specs.Verdict.{verdict_of}
use Rattle.rl_arrays.specs.declared.arrays.Arrays.{Arrays}
use Rattle.rl_arrays.specs.Rules.{start_entry}
use Rattle.rl_arrays.specs.TableMachine.{machine}
use Rattle.rl_replay.specs.Host.{host}
use Rattle.rl_replay.specs.Lines.{session_run, verdict_word}

-- line i, from 0: (i mod 5) + 1 letters a, a blank, i in decimal, a newline
abbrev pub made_line : ℕ → List ℕ
made_line i = replicate (i % 5 + 1) 97 ++ 32 ∷ decimal i ++ 10 ∷ []

-- the first n lines
abbrev pub made_input : ℕ → List ℕ
made_input n = flat_map made_line (range_with_len 0 n)

-- the length of piece k, from 0
abbrev pub piece_length : ℕ → ℕ
piece_length k = 1 + k % 7

-- bytes in pieces from piece k on, at most so many; the last one has what is left
unfoldable pub pieces_from : ℕ → ℕ → List ℕ → List (List ℕ)
pieces_from zero k bytes = []
pieces_from (suc most) k [] = []
pieces_from (suc most) k (byte ∷ bytes) =
    take (piece_length k) (byte ∷ bytes) ∷ pieces_from most (k + 1) (drop (piece_length k) (byte ∷ bytes))

-- no piece is empty
abbrev pub pieces_of : List ℕ → List (List ℕ)
pieces_of bytes = pieces_from (length bytes) 0 bytes

abbrev pub is_token : CallKind → Bool
is_token Token = true
is_token _ = false

-- the line of these numbers and a verdict
abbrev pub told_text : ℕ → ℕ → ℕ → ℕ → Verdict → List ℕ
told_text lines bytes pieces tokens verdict =
    codes "make " ++ (decimal lines ++ codes ": ") ++ (decimal bytes ++ codes " bytes, ") ++ (decimal pieces ++ codes " pieces, ")
    ++ (decimal tokens ++ codes " tokens, ") ++ verdict_word verdict ++ 10 ∷ []

module _ (a : Arrays) (settings : Settings) (input : List ℕ) where
  -- the run of the start entry over a whole input, which is ended; each call is answered as without a line for it
  abbrev pub run_over : List Call × Rest ℕ
  run_over = session_run (machine a) settings (host (machine a) []) (start_entry a) (input_at (machine a).width 0 input true)

  -- the calls that deliver a token
  abbrev pub tokens_over : ℕ
  tokens_over = count_by (λ (c : Call). is_token c.kind) run_over.0

  abbrev pub verdict_over : Verdict
  verdict_over = verdict_of (machine a) run_over.1

-- `make N: B bytes, P pieces, T tokens, VERDICT`
abbrev pub made_text : Arrays → Settings → ℕ → List ℕ
made_text a settings n =
    let input = made_input n in
    told_text n (length input) (length (pieces_of input)) (tokens_over a settings input) (verdict_over a settings input)
